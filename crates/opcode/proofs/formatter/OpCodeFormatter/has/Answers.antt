use Rattle.std.proofs.Common.{rules, tests, of_calls}
use Rattle.std.proofs.lemmas.Iterator.{YieldsList-from_slice}
use Rattle.std.proofs.lemmas.Iterator.Search.{any_from_yields_List}
use Rattle.kinds.specs.Rows.{role_of}
use Rattle.opcode.proofs.formatter.OpCodeFormatter.has.Goals as goal

pub returns : goal.returns
returns g c = λ p computes. any_from_yields_List (λ k. p (role_of k)) _ _ _ c.any.ensures.ran (YieldsList-from_slice c.args.self.now.operands.now (cc)) (λ x b q e. search (rules, tests, of_calls, computes))
