use Rattle.std.proofs.Common.{rules}
use Rattle.sources.specs.Lengths.{shelves_as_long}
use Rattle.sources.proofs.shelf.ShelfNamingSource.naming_count.Goals as goal

pub returns : goal.returns
returns c = search (rules, shelves_as_long)
