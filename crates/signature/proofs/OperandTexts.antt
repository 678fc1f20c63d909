-- The text of what one operand adds. Assumes nothing.
use Rattle.std.proofs.Common.{◌≡◌, ℕ, Bool, true, false, cond, ◌&&◌, List, [], ◌++◌, Some, None, codes, Option, sym, refl, ap, ◌∙◌, append_assoc}
use Rattle.std.specs.Option.{option_map_or}
use Rattle.text.specs.Texts.{when}
use Rattle.kinds.specs.Rows.{class_of}
use Rattle.kinds.specs.declared.kind.OperandKind.{OperandKind}
use Rattle.kinds.specs.declared.table.Class.{Class}
use Rattle.operands.specs.Operands.{operand_text}
use Rattle.operands.specs.declared.setting.Setting.{Setting}
use Rattle.signature.specs.Masks.{mask_text}
use Rattle.signature.specs.Pieces.{Piece, comma, mask, zeroing, sae, rounding, spelling, spelled}
use Rattle.signature.specs.declared.operand.Mask.{Mask}
use Rattle.signature.specs.Walk.{given, masked_at, last_at, operand_pieces}

pub spelled-given : (s : Setting) (b : Bool) (p : Piece) (ps : List Piece) → spelled s (given b p ps) ≡ when b (spelling s p) ++ spelled s ps
spelled-given s true p ps = refl
spelled-given s false p ps = refl

-- {z} stands only after a mask
both : (a b : Bool) (t : List ℕ) → when (a && b) t ≡ when a (when b t)
both true b t = refl
both false b t = refl

ends : (s : Setting) (l a e : Bool) → spelled s (given (l && a) sae (given (l && e) rounding [])) ≡ when l (when a (codes "{sae}") ++ when e (codes "{er}"))
ends s true true true = refl
ends s true true false = refl
ends s true false true = refl
ends s true false false = refl
ends s false a e = refl

pub operand_spelled : (s : Setting) (label : Option ℕ) (number : ℕ) (follows : Bool) (place : ℕ) (k : OperandKind) → spelled s (operand_pieces s label number follows place k)
    ≡ when follows (codes ", ")
    ++ (operand_text s (class_of k) label
    ++ (when (masked_at s place) (mask_text number)
    ++ (when (masked_at s place) (when s.flags.zeroing (codes "{z}"))
    ++ when (last_at s place) (when s.flags.sae (codes "{sae}") ++ when s.flags.rounding (codes "{er}")))))
operand_spelled s label number follows place k =
    spelled-given s follows comma _
    ∙ ap (λ t. when follows (codes ", ") ++ (operand_text s (class_of k) label ++ t))
    (spelled-given s (masked_at s place) (mask number) _
    ∙ ap (λ t. when (masked_at s place) (mask_text number) ++ t)
    (spelled-given s (masked_at s place && s.flags.zeroing) zeroing _
    ∙ (λ i. both (masked_at s place) s.flags.zeroing (codes "{z}") i ++ ends s (last_at s place) s.flags.sae s.flags.rounding i)))

pub mask_as : (b z : Bool) (n : ℕ) → option_map_or (λ (m : Mask). mask_text m.number ++ when m.zeroing (codes "{z}")) (cond b (Some (record { number = n; zeroing = z })) None) [] ≡ when b (mask_text n ++ when z (codes "{z}"))
mask_as true z n = refl
mask_as false z n = refl

-- the mask and {z} come together
together : (b : Bool) (t u r : List ℕ) → when b t ++ (when b u ++ r) ≡ when b (t ++ u) ++ r
together true t u r = sym (append_assoc t u r)
together false t u r = refl

-- what is printed is that text
pub as_printed : (s : Setting) (label : Option ℕ) (number : ℕ) (follows : Bool) (place : ℕ) (k : OperandKind) {c : Class} {l : Option ℕ} {m : List ℕ} {d : Bool}
    → c ≡ class_of k → l ≡ label → m ≡ when (masked_at s place) (mask_text number ++ when s.flags.zeroing (codes "{z}")) → d ≡ last_at s place
    → spelled s (operand_pieces s label number follows place k)
    ≡ when follows (codes ", ") ++ (operand_text s c l ++ (m ++ when d (when s.flags.sae (codes "{sae}") ++ when s.flags.rounding (codes "{er}"))))
as_printed s label number follows place k is_c is_l is_m is_d =
    let e = together (masked_at s place) (mask_text number) (when s.flags.zeroing (codes "{z}")) (when (last_at s place) (when s.flags.sae (codes "{sae}") ++ when s.flags.rounding (codes "{er}"))) in
    cc (operand_spelled s label number follows place k, e)
