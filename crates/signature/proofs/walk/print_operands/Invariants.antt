use Rattle.std.proofs.Common.{◌+◌, false, [], drop}
use Rattle.signature.specs.Pieces.{spelled}
use Rattle.signature.specs.Walk.{walk}
use Rattle.signature.proofs.Walks.{Walked}
use Rattle.signature.proofs.walk.print_operands.Given as goal

abbrev pub invariant-loop-i : goal.invariant-loop-i
invariant-loop-i l = Walked l.setting l.initial.w (spelled l.setting (walk l.setting [] false l.first l.kinds)) l.w l.walk (l.first + l.i) (drop l.i l.kinds)
