use Rattle.std.proofs.Common.{drop}
use Rattle.std.specs.List.{flat_map}
use Rattle.text.proofs.Writes.{Begun}
use Rattle.text.proofs.pieces.print_each.Given as goal

abbrev pub invariant-loop-piece : goal.invariant-loop-piece
invariant-loop-piece g l = Begun l.initial.w (flat_map g.P.Piece.spelled l.items) (flat_map g.P.Piece.spelled (drop l.piece-index l.items)) l.w
