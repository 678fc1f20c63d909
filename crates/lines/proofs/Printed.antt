-- A text that was laid over bytes is read back from them.
use Rattle.std.proofs.Common.{◌≡◌, ℕ, ◌+◌, ◌≤◌, List, [], ◌∷◌, ◌++◌, length, take, set, Ok, sym, ap, ◌∙◌, arith}
use Rattle.std.proofs.lemmas.List.{append-nil, append_assoc, length-set, take_more_set}
use Rattle.std.proofs.lemmas.Bool.Decides.{nat_tests}
use Rattle.text.specs.Sized.{Line}
use Rattle.text.specs.Wrote.{overlay, rendered}
use Rattle.forms.proofs.Passing.{few_operands}
use Rattle.forms.specs.Made.{form_in, name_in}
use Rattle.forms.specs.declared.description.Description.{Description}
use Rattle.forms.specs.declared.naming.Naming.{Naming}
use Rattle.signature.proofs.WalkLengths.{Line-signature_text}
use Rattle.signature.specs.Signature.{signature_text}

take-overlay : (xs : List ℕ) (i : ℕ) (t : List ℕ) → i + length t ≤ length xs → take (i + length t) (overlay xs i t) ≡ take i xs ++ t
unfolding overlay
take-overlay xs i [] h = ap (λ n. take n xs) (omega arith) ∙ sym (append-nil (take i xs))
take-overlay xs i (b ∷ t) h =
    let long = length-set xs i b in
    ap (λ n. take n (overlay (set xs i b) (i + 1) t)) (omega arith)
    ∙ take-overlay (set xs i b) (i + 1) t (omega arith)
    ∙ ap (λ p. p ++ t) (take_more_set xs i b (omega arith))
    ∙ append_assoc (take i xs) (b ∷ []) t

taken : (n k : ℕ) (t : List ℕ) → Ok n ≡ rendered k t → (n ≡ length t) × (length t ≤ k)
taken n k t h = grind (arith, nat_tests)

-- the bytes that a rendered text took are the text
pub rendered_text : (room out t : List ℕ) (n : ℕ) → Ok n ≡ rendered (length room) t → out ≡ overlay room 0 t → take n out ≡ t
rendered_text room out t n answer bytes =
    let all = taken n (length room) t answer in
    let long : n ≡ 0 + length t = omega arith in
    (λ i. take (long i) (bytes i)) ∙ take-overlay room 0 t (omega arith)

-- no signature is longer than its room
pub signature_line : (d : Description) (n : Naming) → Line 256 (signature_text (form_in d) (name_in n))
signature_line d n = (Line-signature_text (form_in d) (name_in n) (few_operands (form_in d) d.passed) n.passed).0
