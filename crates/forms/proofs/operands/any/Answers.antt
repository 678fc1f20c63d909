use Rattle.std.proofs.Common.{rules, tests, of_calls}
use Rattle.std.proofs.lemmas.Iterator.{YieldsList-from_slice}
use Rattle.std.proofs.lemmas.Iterator.Search.{any_from_yields_List}
use Rattle.forms.proofs.operands.any.Goals as goal

pub returns : goal.returns
returns g c = λ p computes. any_from_yields_List p _ _ _ c.any.ensures.ran (YieldsList-from_slice c.args.items.now (cc)) (λ x b q e. search (rules, tests, of_calls, computes))
