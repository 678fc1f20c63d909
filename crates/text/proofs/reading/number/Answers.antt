use Rattle.std.proofs.Common.{◌≡◌, ◌+◌, ◌*◌, ◌^◌, ◌<◌, length, sym, refl, ap, ◌∙◌, subst, arith}
use native.Mathlib.Nat.{pow-zero}
use Rattle.std.proofs.lemmas.List.{drop_all}
use Rattle.text.proofs.Numerals.{number_from, next_digit, no_digit, more_below, short_below}
use Rattle.text.proofs.reading.number.Goals as goal

-- the number with the next digit is small
small : (c : goal.In_ok-digit) → c.loop-b.n * c.args.base + c.in_ok-digit.digit < 1048576
small c =
    let is = c.in_ok-digit.ensures in
    short_below c.args.base (c.loop-b.b-index + 1) _ (omega arith) (omega arith) (more_below c.args.base c.loop-b.n c.in_ok-digit.digit c.loop-b.b-index c.loop-b.invariant.1 (omega arith))

pub loop-b-init : goal.loop-b-init
loop-b-init c = (refl, omega (arith, pow-zero c.args.base))

pub returns-in_err-digit : goal.returns-in_err-digit
returns-in_err-digit c =
    let stop = no_digit c.args.base c.loop-b.n c.args.t.now c.loop-b.b-index (omega arith) (omega (arith, c.in_err-digit.ensures)) in
    let none = c.from_residual.ensures in
    record { value = none ∙ sym (c.loop-b.invariant.0 ∙ stop); below = rw none tt }

pub overflow_mul-n : goal.overflow_mul-n
overflow_mul-n c = record { fits = omega (arith, small c) }

pub overflow_add-n : goal.overflow_add-n
overflow_add-n c = record { fits = omega (arith, small c) }

pub loop-b-preserved : goal.loop-b-preserved
loop-b-preserved c =
    let is = c.in_ok-digit.ensures in
    let next = next_digit c.args.base c.loop-b.n c.args.t.now c.loop-b.b-index (omega arith) (omega arith) in
    (cc, more_below c.args.base c.loop-b.n c.in_ok-digit.digit c.loop-b.b-index c.loop-b.invariant.1 (omega arith))

pub returns : goal.returns
returns c =
    let all : c.loop-b.b-index ≡ length c.args.t.now = omega arith in
    record {
      value = sym (c.loop-b.invariant.0 ∙ ap (number_from c.args.base c.loop-b.n) (drop_all c.loop-b.b-index c.args.t.now (omega arith)));
      below = subst (λ i. c.loop-b.n < c.args.base ^ i) all c.loop-b.invariant.1;
    }
