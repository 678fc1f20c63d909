use Rattle.std.proofs.Common.{drop}
use Rattle.text.specs.Texts.{upper_text}
use Rattle.text.proofs.Writes.{Begun}
use Rattle.text.proofs.writer.Writer.upper.Given as goal

abbrev pub invariant-loop-b : goal.invariant-loop-b
invariant-loop-b l = Begun l.initial.self (upper_text l.t) (upper_text (drop l.b-index l.t)) l.self
