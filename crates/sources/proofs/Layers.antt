-- What a cut and a chained list have, by length and by place. Assumes nothing.
use Rattle.std.proofs.Common.{◌≡◌, ℕ, ◌+◌, ◌-◌, ◌<◌, ◌≤◌, List, ◌++◌, length, take, drop, Ok, Err, sym, ap, ◌∙◌, arith, length-append, length-drop, length-take}
use Rattle.std.proofs.lemmas.Bool.{le-leb, and_from, cond-true}
use Rattle.std.proofs.lemmas.Bool.Decides.{nat_tests}
use Rattle.std.specs.Result.{result_unwrap_or}
use Rattle.sources.specs.JoinedAll.{total_of}
use Rattle.sources.specs.Places.{window_count, window_place, joined_count, joined_place}
use Rattle.sources.specs.Sources.{fetched, checked, cut, chained, most}
use Rattle.sources.specs.declared.fault.SourceFault.{SourceFault}
use Rattle.sources.specs.declared.joined.Side.TheVariants.{First, Second}
use Rattle.sources.proofs.Fetched.{fetched_past, fetched-drop, fetched-take, fetched_left, fetched_right}

module _ {X : Type 0} (xs : List X) (low high : ℕ) where
  cut_is : low ≤ high → high ≤ length xs → cut xs low high ≡ take (high - low) (drop low xs)
  cut_is h k =
      ap (λ o. checked o (take (high - low) (drop low xs))) (cond-true _ _ _ (and_from _ _ (le-leb low high h) (le-leb high (length xs) k)))

  wide : low ≤ high → high ≤ length xs → length (cut xs low high) ≡ high - low
  wide h k = ap length (cut_is h k) ∙ simp (length-take, length-drop) (omega arith)

  pub length-cut : length (cut xs low high) ≡ window_count (length xs) low high
  length-cut = grind (arith, nat_tests, wide)

  module _ (n count : ℕ) (k : count ≡ length xs) where
    within : {p : ℕ} → Ok p ≡ window_place count low high n → (low ≤ high) × (high ≤ length xs) × (n < high - low) × (p ≡ low + n)
    within e = grind (arith, nat_tests)

    pub fetched-cut : {p : ℕ} → Ok p ≡ window_place count low high n → fetched xs p ≡ fetched (cut xs low high) n
    fetched-cut e =
        let w = within e in
        ap (fetched xs) w.3
        ∙ sym (ap (λ ys. fetched ys n) (cut_is w.0 w.1) ∙ fetched-take (high - low) (drop low xs) n w.2 ∙ fetched-drop low xs n)

    without : {x : SourceFault} → Err x ≡ window_place count low high n → (length (cut xs low high) ≤ n) × (x ≡ SourceFault.NoEntry)
    without e = grind (arith, nat_tests, length-cut)

    pub not_in_cut : {x : SourceFault} → Err x ≡ window_place count low high n → Err x ≡ fetched (cut xs low high) n
    not_in_cut e = let w = without e in let past = fetched_past (cut xs low high) n w.0 in cc

module _ {X : Type 0} (xs ys : List X) where
  chained_is : length xs + length ys ≤ most → chained xs ys ≡ xs ++ ys
  chained_is h = ap (λ o. checked o (xs ++ ys)) (cond-true _ _ _ (le-leb _ _ h))

  whole : length xs + length ys ≤ most → length (chained xs ys) ≡ length xs + length ys
  whole h = ap length (chained_is h) ∙ length-append xs ys

  pub length_chained : length (chained xs ys) ≡ joined_count (length xs) (length ys)
  length_chained = grind (arith, nat_tests, whole)

  pub total_chained : result_unwrap_or (total_of (length xs + length ys)) 0 ≡ length (chained xs ys)
  total_chained = grind (arith, nat_tests, length_chained)

  module _ (n first second : ℕ) (k : first ≡ length xs) (l : second ≡ length ys) where
    in_first : {p : ℕ} → Ok (First p) ≡ joined_place first second n → (length xs + length ys ≤ most) × (n < length xs) × (p ≡ n)
    in_first e = grind (arith, nat_tests)

    pub fetched_first : {p : ℕ} → Ok (First p) ≡ joined_place first second n → fetched xs p ≡ fetched (chained xs ys) n
    fetched_first e =
        let w = in_first e in
        ap (fetched xs) w.2 ∙ sym (ap (λ zs. fetched zs n) (chained_is w.0) ∙ fetched_left xs ys n w.1)

    in_second : {p : ℕ} → Ok (Second p) ≡ joined_place first second n → (length xs + length ys ≤ most) × (n ≡ length xs + p)
    in_second e = grind (arith, nat_tests)

    pub fetched_second : {p : ℕ} → Ok (Second p) ≡ joined_place first second n → fetched ys p ≡ fetched (chained xs ys) n
    fetched_second {p} e =
        let w = in_second e in
        sym (ap (λ zs. fetched zs n) (chained_is w.0) ∙ ap (fetched (xs ++ ys)) w.1 ∙ fetched_right xs ys p)

    in_neither : {x : SourceFault} → Err x ≡ joined_place first second n → (length (chained xs ys) ≤ n) × (x ≡ SourceFault.NoEntry)
    in_neither e = grind (arith, nat_tests, length_chained)

    pub not_in_chained : {x : SourceFault} → Err x ≡ joined_place first second n → Err x ≡ fetched (chained xs ys) n
    not_in_chained e = let w = in_neither e in let past = fetched_past (chained xs ys) n w.0 in cc
