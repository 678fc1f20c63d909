use Rattle.std.proofs.Common.{◌∙◌, sym, arith}
use Rattle.std.proofs.lemmas.Grind.{common_steps}
use Rattle.jobs.proofs.FiveKinds.{all_there, kind_past, listed_kind, one_missing, one_more, read_and_past}
use Rattle.jobs.specs.Fields.{texts_in}
use Rattle.jobs.specs.Rows.{kind_at}
use Rattle.jobs.proofs.row.five_kinds.Goals as goal

pub returns-in_err-kinds : goal.returns-in_err-kinds
returns-in_err-kinds c =
    c.from_residual.ensures
    ∙ sym
    (one_missing (kind_at (texts_in c.args.listed.now)) c.loop-place.place (omega arith)
    (listed_kind c.args.listed.now c.loop-place.place _ _ c.loop-place-test.true (sym c.in_err-kinds.was ∙ c.read_decimal.ensures.value)))

pub loop-place-preserved : goal.loop-place-preserved
loop-place-preserved c =
    let read = listed_kind c.args.listed.now c.loop-place.place _ _ c.loop-place-test.true (sym c.in_ok-kinds.was ∙ c.read_decimal.ensures.value) in
    record {
      five = grind (arith, common_steps);
      read = one_more (kind_at (texts_in c.args.listed.now)) c.loop-place.kinds c.loop-place.place _ (omega arith) read c.loop-place.invariant.read;
      past = λ k above below. grind (arith, common_steps);
    }

pub returns : goal.returns
returns c =
    sym
    (all_there (kind_at (texts_in c.args.listed.now)) c.loop-place.kinds c.loop-place.invariant.five
    (read_and_past (kind_at (texts_in c.args.listed.now)) c.loop-place.kinds c.loop-place.place c.loop-place.invariant.read c.loop-place.invariant.past
    (λ k above. kind_past c.args.listed.now k (omega arith))))
