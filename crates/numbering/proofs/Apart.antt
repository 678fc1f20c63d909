-- Numbers by a rule that takes no value twice are distinct. Assumes nothing.
use Rattle.std.proofs.Common.{◌≡◌, ℕ, ◌+◌, ◌<◌, ◌≤◌, Bool, true, false, List, [], ◌∷◌, Some, Option, ◌∙◌, arith}
use mathlib.Core.Path.{subst⁻¹}
use Rattle.std.specs.List.{AllByRecursion}
use Rattle.std.proofs.lemmas.Bool.Decides.{nat_tests}
use Rattle.numbering.specs.Lists.{Distinct, Runs}
use Rattle.numbering.specs.Numbers.{swapped, mask_number}

-- the elements are f i at rising i
abbrev pub Rises : {X : Type 0} → (ℕ → X) → ℕ → List X → Type 0
Rises f low [] = Unit {0}
Rises f low (x ∷ xs) = (i : ℕ) × (low ≤ i) × (x ≡ f i) × Rises f (i + 1) xs

-- rising elements of a function that takes no value twice are distinct
module _ {X : Type 0} (f : ℕ → X) (one : (i j : ℕ) → f i ≡ f j → i ≡ j) where
  away : (i low : ℕ) (xs : List X) → i < low → Rises f low xs → AllByRecursion (λ y. f i ≡ y → ⊥) xs
  away i low [] h r = tt
  away i low (x ∷ xs) h (j, le, e, r) =
      ((λ q. let p : i ≡ j = one i j (q ∙ e) in omega arith), away i (j + 1) xs (omega arith) r)

  pub distinct : (low : ℕ) (xs : List X) → Rises f low xs → Distinct xs
  distinct low [] r = tt
  distinct low (x ∷ xs) (i, le, e, r) =
      (subst⁻¹ (λ (z : X). AllByRecursion (λ y. z ≡ y → ⊥) xs) e (away i (i + 1) xs (omega arith) r), distinct (i + 1) xs r)

module _ {X : Type 0} (f : ℕ → X) where
  pub lower : (low high : ℕ) (xs : List X) → low ≤ high → Rises f high xs → Rises f low xs
  lower low high [] h r = tt
  lower low high (x ∷ xs) h (i, le, e, r) = (i, omega arith, e, r)

  pub rises : (n : ℕ) (xs : List X) → Runs f n xs → Rises f n xs
  rises n [] r = tt
  rises n (x ∷ xs) (e, r) = (n, omega arith, e, rises (n + 1) xs r)

-- the rules for numbers take no value twice
pub plus_one : (i j : ℕ) → ◌≡◌ {A = Option ℕ} (Some (i + 1)) (Some (j + 1)) → i ≡ j
plus_one i j e = let q : i + 1 ≡ j + 1 = cc in omega arith

pub plus_two : (i j : ℕ) → ◌≡◌ {A = Option ℕ} (Some (i + 2)) (Some (j + 2)) → i ≡ j
plus_two i j e = let q : i + 2 ≡ j + 2 = cc in omega arith

pub swap_one : (i j : ℕ) → ◌≡◌ {A = Option ℕ} (Some (swapped i)) (Some (swapped j)) → i ≡ j
swap_one i j e = let q : swapped i ≡ swapped j = cc in grind (arith, nat_tests)

pub mask_one : (swaps : Bool) (i j : ℕ) → ◌≡◌ {A = Option ℕ} (Some (mask_number swaps i)) (Some (mask_number swaps j)) → i ≡ j
mask_one true i j e = swap_one i j e
mask_one false i j e = plus_one i j e
