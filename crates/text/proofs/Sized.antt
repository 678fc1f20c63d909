-- Lines of bounded length: literals by computation, and the texts that are put together from them. Assumes nothing.
use Rattle.std.proofs.Common.{◌≡◌, ℕ, ◌+◌, ◌*◌, ◌%◌, ◌^◌, ◌<◌, ◌≤◌, Bool, true, false, cond, not, eqb, List, [], ◌∷◌, ◌++◌, length, refl, ◌∙◌, arith, length-append}
use lib.ListN.{length-map}
use Rattle.std.specs.List.{flat_map, list_all}
use Rattle.std.proofs.lemmas.List.Folds.{list_all-append, list_all-map}
use Rattle.std.proofs.lemmas.Fmt.{decimal_by_steps, length-decimal-le}
use Rattle.std.proofs.lemmas.Bool.{and_parts, leb-true}
use Rattle.std.proofs.lemmas.Bool.Decides.{nat_tests}
use Rattle.text.specs.Sized.{Line, is_line, unbroken}
use Rattle.text.specs.Texts.{decimal_text, hex_text, upper_byte, upper_text, when}

unbroken-append : (s t : List ℕ) → unbroken s ≡ true → unbroken t ≡ true → unbroken (s ++ t) ≡ true
unbroken-append s t h k = let parts = list_all-append (λ b. not (eqb b 10)) s t in grind (arith, nat_tests)

unbroken-upper_text : (t : List ℕ) → unbroken t ≡ true → unbroken (upper_text t) ≡ true
unbroken-upper_text t h =
    let same : (b : ℕ) → not (eqb (upper_byte b) 10) ≡ not (eqb b 10) = λ b. grind (arith, nat_tests) in
    list_all-map (λ b. not (eqb b 10)) upper_byte t ∙ (λ i. list_all (λ b. same b i) t) ∙ h

-- a literal: `Line_lit 3 (codes "abc") refl`
pub Line_lit : (n : ℕ) (t : List ℕ) → is_line n t ≡ true → Line n t
Line_lit n t h = let p = and_parts _ (unbroken t) h in record { short = leb-true (length t) n p.0; whole = p.1 }

pub Line_weaken : {m : ℕ} (n : ℕ) {t : List ℕ} → m ≤ n → Line m t → Line n t
Line_weaken n h l = record { short = omega (arith, l.short); whole = l.whole }

pub Line-append : {m n : ℕ} {s t : List ℕ} → Line m s → Line n t → Line (m + n) (s ++ t)
Line-append {s = s} {t} k l = record { short = omega (arith, length-append s t, k.short, l.short); whole = unbroken-append s t k.whole l.whole }

pub Line-cond : {n : ℕ} (b : Bool) {s t : List ℕ} → Line n s → Line n t → Line n (cond b s t)
Line-cond true k l = k
Line-cond false k l = l

pub Line-when : {n : ℕ} (b : Bool) {t : List ℕ} → Line n t → Line n (when b t)
Line-when {n} b l = Line-cond b l (record { short = omega arith; whole = refl })

pub Line-hex_text : (b : ℕ) → Line 2 (hex_text b)
Line-hex_text b = record { short = omega arith; whole = grind (arith, nat_tests) }

pub Line-decimal_text : (k n : ℕ) → 0 < k → n < 10 ^ k → n < 2 ^ 64 → Line k (decimal_text n)
Line-decimal_text k n some h small = record {
  short = length-decimal-le k n some h small;
  whole = decimal_by_steps (λ _ ds. unbroken ds ≡ true) (λ d _. grind (arith, nat_tests)) (λ d ds _ front. unbroken-append ds ((48 + d % 10) ∷ []) front (grind (arith, nat_tests))) n small;
}

pub Line-upper_text : {n : ℕ} {t : List ℕ} → Line n t → Line n (upper_text t)
Line-upper_text {t = t} l = record { short = omega (arith, length-map t upper_byte, l.short); whole = unbroken-upper_text t l.whole }

pub Line-flat_map : {X : Type 0} {n : ℕ} (f : X → List ℕ) → ((x : X) → Line n (f x)) → (xs : List X) → Line (length xs * n) (flat_map f xs)
Line-flat_map f each [] = record { short = omega arith; whole = refl }
Line-flat_map {n = n} f each (x ∷ xs) = Line_weaken _ (omega arith) (Line-append (each x) (Line-flat_map f each xs))
