-- The operands of a signature, walked in their order. Assumes nothing.
use Rattle.std.specs.Prelude.{ℕ, ◌+◌, Bool, cond, not, ◌&&◌, List, [], ◌∷◌, ◌++◌, Option, ◌==◌}
use Rattle.kinds.specs.Kinds.{is_seg_rdi}
use Rattle.kinds.specs.Rows.{class_of}
use Rattle.kinds.specs.declared.counter.Counter.{Counter}
use Rattle.kinds.specs.declared.kind.OperandKind.{OperandKind}
use Rattle.numbering.specs.Counts.{moved_on, next_label, next_mask}
use Rattle.numbering.specs.declared.number.Numbering.{Numbering}
use Rattle.numbering.specs.Numbers.{label_of, mask_number, rank}
use Rattle.numbering.specs.Plans.{counter_at}
use Rattle.operands.specs.declared.setting.Setting.{Setting}
use Rattle.signature.specs.Pieces.{Piece, comma, operand, mask, zeroing, sae, rounding, implied}

-- the element where the flag is set, and then the others
abbrev pub given : {X : Type 0} → Bool → X → List X → List X
given b x xs = cond b (x ∷ xs) xs

-- the mask follows operand 0
abbrev pub masked_at : Setting → ℕ → Bool
masked_at s place = s.flags.mask && place == 0

-- {sae} and {er} follow the operand at this place
abbrev pub last_at : Setting → ℕ → Bool
last_at s place = place + 1 == s.last

-- what one operand adds: the comma if an operand was printed before it, itself, and what follows it
abbrev pub operand_pieces : Setting → Option ℕ → ℕ → Bool → ℕ → OperandKind → List Piece
operand_pieces s label number follows place k =
    given follows comma
    (operand (class_of k) label
    ∷ given (masked_at s place) (mask number)
    (given (masked_at s place && s.flags.zeroing) zeroing
    (given (last_at s place && s.flags.sae) sae
    (given (last_at s place && s.flags.rounding) rounding []))))

-- what the next operand adds, where the registers before it left this numbering
abbrev pub next_pieces : Setting → Numbering → Bool → ℕ → OperandKind → List Piece
next_pieces s n follows place k =
    operand_pieces s (next_label n (counter_at k) place) (next_mask (moved_on (counter_at k) n)) follows place k

-- the registers that an operand names: its own, and after operand 0 the mask
abbrev pub names : Setting → ℕ → OperandKind → List Counter
names s place k = counter_at k ∷ cond (masked_at s place) (Counter.Mask ∷ []) []

-- Operands from a place on, where these registers were named before: each register's number or letter goes by its rank
-- among those, or by its place. At the end stand the implied operands.
abbrev pub walk : Setting → List Counter → Bool → ℕ → List OperandKind → List Piece
walk s before follows place [] = implied s.tag ∷ []
walk s before follows place (k ∷ ks) =
    operand_pieces s
    (label_of s.plan (counter_at k) (rank (counter_at k) before) place)
    (mask_number s.plan.swaps (rank Counter.Mask (before ++ (counter_at k ∷ []))))
    follows place k
    ++ walk s (before ++ names s place k) (not (is_seg_rdi k)) (place + 1) ks
