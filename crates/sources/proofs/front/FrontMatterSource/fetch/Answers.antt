use Rattle.std.proofs.Common.{rules}
use Rattle.sources.proofs.Fronts.{fetched_front}
use Rattle.sources.proofs.front.FrontMatterSource.fetch.Goals as goal

pub returns : goal.returns
returns c = search (rules, fetched_front)
