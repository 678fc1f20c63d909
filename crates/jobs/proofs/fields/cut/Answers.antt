use Rattle.jobs.specs.Fields.{split}
use Rattle.jobs.proofs.Cuts.{cut_at, uncut}
use Rattle.jobs.proofs.fields.cut.Goals as goal

pub returns-in-Some : goal.returns-in-Some
unfolding split
returns-in-Some c = cut_at _ _ _ c.in-Some.ensures

pub returns-in-None : goal.returns-in-None
unfolding split
returns-in-None c = uncut _ _ c.in-None.ensures
