use Rattle.std.proofs.Common.{◌≡◌, ℕ, ◌+◌, ◌<◌, List, ◌++◌, length, get_or, drop, sym, ap, ◌∙◌, arith}
use Rattle.std.specs.List.{flat_map}
use Rattle.std.proofs.lemmas.List.{drop_more, drop_all}
use Rattle.text.proofs.Writes.{begun, Begun_more, Begun_stop, Begun_all}
use Rattle.text.proofs.pieces.print_each.Goals as goal

next : {X : Type 0} (f : X → List ℕ) (xs : List X) (i : ℕ) (x : X) → i < length xs → x ≡ get_or xs i x → flat_map f (drop i xs) ≡ f x ++ flat_map f (drop (i + 1) xs)
next f xs i x h is = ap (flat_map f) (drop_more xs i x h) ∙ ap (λ y. f y ++ flat_map f (drop (i + 1) xs)) (sym is)

pub loop-piece-init : goal.loop-piece-init
loop-piece-init g c = begun

pub returns-in_err-print : goal.returns-in_err-print
returns-in_err-print g c = Begun_stop _ c.loop-piece.invariant c.in_err-print.ensures c.from_residual.ensures.1 (next g.P.Piece.spelled c.args.items.now c.loop-piece.piece-index c.piece-item.result (omega arith) c.piece-item.is)

pub loop-piece-preserved : goal.loop-piece-preserved
loop-piece-preserved g c = Begun_more _ c.loop-piece.invariant c.in_ok-print.ensures (next g.P.Piece.spelled c.args.items.now c.loop-piece.piece-index c.piece-item.result (omega arith) c.piece-item.is)

pub returns : goal.returns
returns g c = Begun_all c.loop-piece.invariant (ap (flat_map g.P.Piece.spelled) (drop_all c.loop-piece.piece-index c.args.items.now (omega arith)))
