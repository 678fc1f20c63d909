-- Sources one after another, by their places. Assumes nothing.
use Rattle.std.proofs.Common.{◌≡◌, ℕ, ◌+◌, ◌-◌, ◌<◌, ◌≤◌, List, [], ◌∷◌, ◌++◌, length, Ok, Err, Result, sym, ap, ◌∙◌, ⊎_elim, arith}
use Rattle.std.specs.List.{flat_map}
use Rattle.std.specs.Result.{result_unwrap_or}
use Rattle.std.proofs.lemmas.List.Concat.{length-flat_map}
use Rattle.std.proofs.lemmas.List.Sums.{sum_by-cons}
use Rattle.std.proofs.lemmas.Bool.{cases_lt, cond-true, cond-false, le-leb, lt-leb, lt-ltb, le-ltb}
use Rattle.sources.specs.JoinedAll.{total_of, entries, chained_all, place_among, place_of}
use Rattle.sources.specs.Sources.{most, fetched, checked, check_total, chained}
use Rattle.sources.specs.declared.fault.SourceFault.{SourceFault}
use Rattle.sources.proofs.Fetched.{fetched_past, fetched_left, fetched_right}

module _ {S X : Type 0} (list : S → List X) (ss : List S) where
  whole : entries list ss ≤ most → chained_all list ss ≡ flat_map list ss
  whole h = ap (λ o. checked o (flat_map list ss)) (cond-true _ _ _ (le-leb _ _ h))

  length_whole : entries list ss ≤ most → length (chained_all list ss) ≡ entries list ss
  length_whole h = ap length (whole h) ∙ length-flat_map list ss

  length_refused : most < entries list ss → length (chained_all list ss) ≡ 0
  length_refused h = ap (λ o. length (checked o (flat_map list ss))) (cond-false _ _ _ (lt-leb _ _ h))

  length_short : length (chained_all list ss) ≤ entries list ss
  length_short = ⊎_elim (λ h. omega (arith, length_refused h)) (λ h. omega (arith, length_whole h)) (cases_lt most (entries list ss))

  few_enough : (n : ℕ) → n < length (chained_all list ss) → entries list ss ≤ most
  few_enough n k = ⊎_elim (λ h. absurd (omega (arith, length_refused h))) (λ h. h) (cases_lt most (entries list ss))

  pub counted : result_unwrap_or (total_of (entries list ss)) 0 ≡ length (chained_all list ss)
  counted =
      ⊎_elim
      (λ h. ap (λ r. result_unwrap_or r 0) (cond-false _ _ _ (lt-leb _ _ h)) ∙ sym (length_refused h))
      (λ h. ap (λ r. result_unwrap_or r 0) (cond-true _ _ _ (le-leb _ _ h)) ∙ sym (length_whole h))
      (cases_lt most (entries list ss))

-- one source joined to the joining of others is the joining of all, where the others are not too many
pub nested : {S X : Type 0} (list : S → List X) (s : S) (ss : List S) → entries list ss ≤ most → chained (list s) (chained_all list ss) ≡ chained_all list (s ∷ ss)
nested list s ss h =
    ap (chained (list s)) (whole list ss h)
    ∙ ap
    (λ k. checked (check_total k) (list s ++ flat_map list ss))
    (ap (λ k. length (list s) + k) (length-flat_map list ss) ∙ sym (sum_by-cons (λ t. length (list t)) s ss))

module _ {S : Type 0} where
  same_source : {p q : S × ℕ} → ◌≡◌ {A = Result (S × ℕ) SourceFault} (Ok p) (Ok q) → p ≡ q
  same_source e = cc

  never : {p : S × ℕ} {f : SourceFault} → ◌≡◌ {A = Result (S × ℕ) SourceFault} (Ok p) (Err f) → ⊥
  never e = let z : ◌≡◌ {A = ℕ} 0 1 = cc in omega arith

  same_fault : {x y : SourceFault} → ◌≡◌ {A = Result (S × ℕ) SourceFault} (Err x) (Err y) → x ≡ y
  same_fault e = cc

-- what stands at a place of the sources stands there in the joining of all
module _ {S X : Type 0} (list : S → List X) where
  here : (s : S) (ss : List S) (n : ℕ) → n < length (list s) → place_among list (s ∷ ss) n ≡ Ok (s, n)
  here s ss n h = cond-true _ _ _ (lt-ltb _ _ h)

  later : (s : S) (ss : List S) (n : ℕ) → length (list s) ≤ n → place_among list (s ∷ ss) n ≡ place_among list ss (n - length (list s))
  later s ss n h = cond-false _ _ _ (le-ltb _ _ h)

  stands : (ss : List S) (n : ℕ) {p : S × ℕ} → Ok p ≡ place_among list ss n → fetched (list p.0) p.1 ≡ fetched (flat_map list ss) n
  stands [] n e = absurd (never e)
  stands (s ∷ ss) n {p} e =
      ⊎_elim
      (λ h. ap (λ r. fetched (list r.0) r.1) (same_source (e ∙ here s ss n h)) ∙ sym (fetched_left (list s) (flat_map list ss) n h))
      (λ h.
      let k : length (list s) + (n - length (list s)) ≡ n = omega arith in
      stands ss (n - length (list s)) (e ∙ later s ss n h)
      ∙ sym (fetched_right (list s) (flat_map list ss) (n - length (list s)))
      ∙ ap (fetched (list s ++ flat_map list ss)) k)
      (cases_lt n (length (list s)))

  past : (ss : List S) (n : ℕ) {x : SourceFault} → Err x ≡ place_among list ss n → (entries list ss ≤ n) × (x ≡ SourceFault.NoEntry)
  past [] n e = (omega arith, same_fault e)
  past (s ∷ ss) n e =
      ⊎_elim
      (λ h. absurd (never (sym (here s ss n h) ∙ sym e)))
      (λ h.
      let rest = past ss (n - length (list s)) (e ∙ later s ss n h) in
      (omega (arith, rest.0, sum_by-cons (λ t. length (list t)) s ss), rest.1))
      (cases_lt n (length (list s)))

  module _ (ss : List S) (n : ℕ) where
    within : {p : S × ℕ} → Ok p ≡ place_of list ss n → n < length (chained_all list ss)
    within e = ⊎_elim (λ h. h) (λ h. absurd (never (e ∙ cond-false _ _ _ (le-ltb _ _ h)))) (cases_lt n (length (chained_all list ss)))

    pub placed : {p : S × ℕ} → Ok p ≡ place_of list ss n → fetched (list p.0) p.1 ≡ fetched (chained_all list ss) n
    placed e =
        let h = within e in
        stands ss n (e ∙ cond-true _ _ _ (lt-ltb _ _ h)) ∙ sym (ap (λ ys. fetched ys n) (whole list ss (few_enough list ss n h)))

    pub not_placed : {x : SourceFault} → Err x ≡ place_of list ss n → Err x ≡ fetched (chained_all list ss) n
    not_placed {x} e =
        let w : (length (chained_all list ss) ≤ n) × (x ≡ SourceFault.NoEntry) =
        ⊎_elim
        (λ h. let p = past ss n (e ∙ cond-true _ _ _ (lt-ltb _ _ h)) in (omega (arith, p.0, length_short list ss), p.1))
        (λ h. (h, same_fault (e ∙ cond-false _ _ _ (le-ltb _ _ h))))
        (cases_lt n (length (chained_all list ss)))
        in
        ap Err w.1 ∙ sym (fetched_past (chained_all list ss) n w.0)
