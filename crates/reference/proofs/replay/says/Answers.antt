use Rattle.std.proofs.Common.{◌≡◌, ◌++◌, Some, None, sym, ap, ◌∙◌, arith}
use Rattle.std.proofs.lemmas.Slice.Eq.{slice_eq-Decides, strip_prefix_is}
use Rattle.std.proofs.lemmas.List.{append_cancel_left}
use Rattle.std.proofs.lemmas.Bool.Decides.{Decides-like, Decides-eqb}
use Rattle.reference.proofs.replay.says.Goals as goal

pub returns-in-Some : goal.returns-in-Some
returns-in-Some c =
    let label = c.args.label.now in
    let whole = strip_prefix_is Decides-eqb c.args.line.now label (Some c.in-Some.rest) c.in-Some.ensures.cases in
    Decides-like c.eq.result (λ e. whole ∙ ap (λ t. label ++ t) e) (λ e. append_cancel_left label _ _ (sym whole ∙ e)) (slice_eq-Decides Decides-eqb _ _ _ c.eq.ensures)

pub returns-in-None : goal.returns-in-None
returns-in-None c =
    let other = strip_prefix_is Decides-eqb c.args.line.now c.args.label.now None c.in-None.ensures.cases in
    let never : c.args.line.now ≡ c.args.label.now ++ c.args.text.now → ⊥ = other c.args.text.now in
    grind arith
