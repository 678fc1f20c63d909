-- Digits and the numbers that they write: a loop over them, and that reading is the inverse of writing. Assumes nothing.
use Rattle.std.proofs.Common.{◌≡◌, ℕ, ◌+◌, ◌*◌, ◌^◌, ◌<◌, ◌≤◌, Bool, true, false, cond, ◌&&◌, List, length, get_or, drop, Some, None, Option, sym, refl, ap, ◌∙◌, ⊎_elim, mul-le-mul_right, add-mul, one-mul, pow-suc, add-one, arith, lit<, rules}
use native.Mathlib.Nat.{pow-le-pow_left, pow-le-pow_right}
use Rattle.std.specs.Int.{is_in_range}
use Rattle.std.proofs.lemmas.Fmt.{decimal_digit, decimal_nonempty, decimal-digits_value, digits_decimal, first_decimal, length-decimal-le, digits_value-decimal}
use Rattle.std.proofs.lemmas.List.{drop_more}
use Rattle.std.proofs.lemmas.Str.Parse.{IsNumeralModel, numerals_by_fold, digits_value_short}
use Rattle.std.proofs.lemmas.Bool.{cases_eq, lt-ltb, le-ltb}
use Rattle.std.proofs.lemmas.Bool.Decides.{nat_tests}
use Rattle.text.specs.Numbers.{Inverse, all_digits, decimal_of, digit_value, no_zero_first, number_after, number_of}
use Rattle.text.specs.Texts.{decimal_text}

-- ---- a loop: what the digits that are left make of n

abbrev pub number_from : ℕ → ℕ → List ℕ → Option ℕ
number_from base n t = cond (all_digits base t) (Some (number_after base n t)) None

pub next_digit : (base n : ℕ) (t : List ℕ) (i : ℕ) → i < length t → digit_value (get_or t i 0) < base → number_from base n (drop i t) ≡ number_from base (n * base + digit_value (get_or t i 0)) (drop (i + 1) t)
next_digit base n t i h small = ap (number_from base n) (drop_more t i 0 h) ∙ rw (lt-ltb (digit_value (get_or t i 0)) base small)

pub no_digit : (base n : ℕ) (t : List ℕ) (i : ℕ) → i < length t → base ≤ digit_value (get_or t i 0) → number_from base n (drop i t) ≡ None
no_digit base n t i h large = ap (number_from base n) (drop_more t i 0 h) ∙ rw (le-ltb (digit_value (get_or t i 0)) base large)

pub more_below : (base n d i : ℕ) → n < base ^ i → d < base → n * base + d < base ^ (i + 1)
more_below base n d i h k =
    let more : (n + 1) * base ≤ base ^ i * base = mul-le-mul_right base (omega arith) in
    rw (add-one, pow-suc) (omega (arith, add-mul n 1 base, one-mul base))

-- five digits write a number below 16 ^ 5
pub short_below : (base i x : ℕ) → base ≤ 16 → i ≤ 5 → x < base ^ i → x < 1048576
short_below base i x h k l = omega (arith, pow-le-pow_left h i, pow-le-pow_right {n = 16} (lit< tt) k)

-- ---- decimal numbers

own : IsNumeralModel (λ ds. all_digits 10 ds ≡ true) (number_after 10 0)
own = numerals_by_fold _ (search rules) (number_after 10) (search rules)

first_of : (n : ℕ) → n < 100000 → no_zero_first (decimal_text n) ≡ true
first_of n h =
    ⊎_elim
    (λ zero. let alone : length (decimal_text n) ≡ 1 = ap length (decimal_digit n (omega arith)) in grind (arith, nat_tests))
    (λ some. let first = first_decimal n (omega arith) (omega arith) in grind (arith, nat_tests))
    (cases_eq n 0)

-- what was written is read
pub reads_back : (n : ℕ) → n < 100000 → decimal_of (decimal_text n) ≡ Some n
reads_back n h =
    let some = decimal_nonempty n (omega arith) in
    let short = length-decimal-le 5 n (omega arith) (omega arith) (omega arith) in
    let digits = digits_decimal own n (omega arith) in
    let first = first_of n h in
    let value = digits_value-decimal own n (omega arith) in
    grind (arith, nat_tests)

given : {X : Type 0} (b : Bool) {o : Option X} {x : X} → cond b o None ≡ Some x → (b ≡ true) × (o ≡ Some x)
given true e = (refl, e)
given false e = (cc, cc)

-- what is read was written
was_written : (t : List ℕ) (n : ℕ) → decimal_of t ≡ Some n → (n < 100000) × (t ≡ decimal_text n)
was_written t n e =
    let shape : ((is_in_range 1 5 (length t) && no_zero_first t) ≡ true) × (number_of 10 t ≡ Some n) = given _ e in
    let digits : (all_digits 10 t ≡ true) × (◌≡◌ {A = Option ℕ} (Some (number_after 10 0 t)) (Some n)) = given _ shape.1 in
    let below = digits_value_short own t 5 digits.0 (grind (arith, nat_tests)) in
    let value : number_after 10 0 t ≡ n = cc in
    (omega arith, sym (ap decimal_text (sym value) ∙ decimal-digits_value own t digits.0 (grind (arith, nat_tests)) (λ zero. grind (arith, nat_tests)) (omega arith)))

pub inverse : (t : List ℕ) (o : Option ℕ) → o ≡ decimal_of t → Inverse t o
inverse t None e = λ n h is.
    let back = reads_back n h in
    let same = ap decimal_of is in
    let z : ◌≡◌ {A = ℕ} 0 1 = cc in omega arith
inverse t (Some n) e = was_written t n (sym e)
