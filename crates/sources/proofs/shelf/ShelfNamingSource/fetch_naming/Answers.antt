use Rattle.std.proofs.Common.{arith, rules}
use Rattle.sources.specs.Lengths.{shelves_as_long}
use Rattle.sources.proofs.Fetched.{fetched_past}
use Rattle.sources.proofs.Shelves.{shelf_place, name_here, name_passes}
use Rattle.sources.proofs.shelf.ShelfNamingSource.fetch_naming.Goals as goal

pub returns-then-n-self : goal.returns-then-n-self
returns-then-n-self c = search (rules, fetched_past, shelves_as_long)

pub bounds-self-n : goal.bounds-self-n
bounds-self-n c = search (rules, shelf_place)

pub returns-in_err-from_row : goal.returns-in_err-from_row
returns-in_err-from_row c =
    absurd (name_passes c.args.self.now.rows.now c.args.self.now.namings.now c.args.n (omega arith) _ c.in_err-from_row.ensures)

pub returns : goal.returns
returns c =
    record {
      got = name_here c.args.self.now.rows.now c.args.self.now.namings.now c.args.n (omega arith) _ c.in_ok-from_row.ensures;
      within = search rules;
    }
