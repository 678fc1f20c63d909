-- The laws of `overlay`, and what writes to a part of a slice make of it. Assumes nothing.
use Rattle.std.proofs.Common.{◌≡◌, ℕ, ◌+◌, ◌<◌, ◌≤◌, ⊎_elim, min, suc, List, [], ◌∷◌, ◌++◌, length, take, drop, set, sym, refl, ap, ◌∙◌, add-zero, add-one, arith, length-set, append_assoc}
use lib.Seq.{set_out, sets, length-take-le}
use borrow.Rule.Slice.PartMut.{put_mid}
use Rattle.std.proofs.lemmas.List.{take-append-drop, drop-drop, drop_all}
use Rattle.std.proofs.lemmas.Bool.{cases_lt}
use Rattle.std.proofs.lemmas.List.Edits.{sets-eq}
use Rattle.text.specs.Wrote.{overlay}

pub length-overlay : (xs : List ℕ) (i : ℕ) (t : List ℕ) → length (overlay xs i t) ≡ length xs
unfolding overlay
length-overlay xs i [] = refl
length-overlay xs i (b ∷ t) = length-overlay (set xs i b) (i + 1) t ∙ length-set xs i b

pub overlay-append : (xs : List ℕ) (i : ℕ) (t u : List ℕ) → overlay xs i (t ++ u) ≡ overlay (overlay xs i t) (i + length t) u
unfolding overlay
overlay-append xs i [] u = ap (λ n. overlay xs n u) (sym (add-zero i))
overlay-append xs i (b ∷ t) u = overlay-append (set xs i b) (i + 1) t u ∙ ap (λ n. overlay (overlay (set xs i b) (i + 1) t) n u) (omega arith)

pub overlay_past : (xs : List ℕ) (i : ℕ) (t : List ℕ) → length xs ≤ i → overlay xs i t ≡ xs
unfolding overlay
overlay_past xs i [] h = refl
overlay_past xs i (b ∷ t) h = ap (λ ys. overlay ys (i + 1) t) (set_out xs i b h) ∙ overlay_past xs (i + 1) t (omega arith)

overlay-none : (xs : List ℕ) (i : ℕ) → overlay xs i [] ≡ xs
unfolding overlay
overlay-none xs i = refl

overlay-sets : (xs : List ℕ) (i : ℕ) (t : List ℕ) → overlay xs i t ≡ sets xs i t
unfolding overlay
overlay-sets xs i [] = refl
overlay-sets xs i (b ∷ t) = ap (λ n. overlay (set xs i b) n t) (add-one i) ∙ overlay-sets (set xs i b) (suc i) t

-- a text written over the k bytes from i on is laid over them
pub put_mid_overlay : (i k : ℕ) (xs ys t : List ℕ) → ys ≡ t → k ≡ length t → i + length t ≤ length xs → put_mid i k xs ys ≡ overlay xs i t
put_mid_overlay i k xs ys t same long room =
    let rest : drop k (drop i xs) ≡ drop (i + length t) xs = drop-drop k i xs ∙ ap (λ n. drop (i + n) xs) long in
    let parts = overlay-sets xs i t ∙ sets-eq t xs i room ∙ append_assoc (take i xs) t (drop (i + length t) xs) in
    (λ j. take i xs ++ (same j ++ rest j)) ∙ sym parts

-- bytes of the text that have no place do not count
overlay-take : (xs : List ℕ) (i n : ℕ) (t : List ℕ) → i ≤ length xs → i + n ≡ min (i + length t) (length xs) → overlay xs i (take n t) ≡ overlay xs i t
overlay-take xs i n t front some =
    let long : length (take n t) ≡ n = length-take-le n t (omega arith) in
    let past : overlay (overlay xs i (take n t)) (i + length (take n t)) (drop n t) ≡ overlay xs i (take n t) = ⊎_elim
    (λ (left : n < length t). overlay_past (overlay xs i (take n t)) (i + length (take n t)) (drop n t) (omega (arith, length-overlay xs i (take n t))))
    (λ (none : length t ≤ n). ap (overlay (overlay xs i (take n t)) (i + length (take n t))) (drop_all n t none) ∙ overlay-none _ _)
    (cases_lt n (length t)) in
    sym past ∙ sym (overlay-append xs i (take n t) (drop n t)) ∙ ap (overlay xs i) (take-append-drop n t)
