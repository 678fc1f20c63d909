use Rattle.std.proofs.Common.{drop}
use Rattle.text.proofs.Writes.{Begun}
use Rattle.opcode.specs.Rest.{suffixes_text}
use Rattle.opcode.proofs.formatter.OpCodeFormatter.append_suffixes.Given as goal

abbrev pub invariant-loop-kind : goal.invariant-loop-kind
invariant-loop-kind l = Begun l.initial.w (suffixes_text l.self.operands.now) (suffixes_text (drop l.kind-index l.self.operands.now)) l.w
