-- The operand kinds of a row. Assumes nothing.
use Rattle.std.specs.Prelude.{ℕ, Bool, List, [], ◌∷◌, slice_index}
use Rattle.std.specs.Option.{unwrap_or}
use Rattle.kinds.specs.Groups.{among}
use Rattle.kinds.specs.Kinds.{kind_at}
use Rattle.kinds.specs.declared.kind.OperandKind.{OperandKind}

-- The kind with a number; a number that is no kind's stands for none.
abbrev pub kind_of : ℕ → OperandKind
kind_of code = unwrap_or (kind_at code) OperandKind.Absent

abbrev pub kinds_of : List ℕ → List OperandKind
kinds_of codes =
    kind_of (slice_index codes 0)
    ∷ kind_of (slice_index codes 1)
    ∷ kind_of (slice_index codes 2)
    ∷ kind_of (slice_index codes 3)
    ∷ kind_of (slice_index codes 4)
    ∷ []

-- A register of 8, 16, 32 or 64 bits, or memory.
abbrev pub is_general_register_or_memory : OperandKind → Bool
is_general_register_or_memory k =
    among k
    (OperandKind.R8OrMem
    ∷ OperandKind.R16OrMem
    ∷ OperandKind.R32OrMem
    ∷ OperandKind.R32OrMemMpx
    ∷ OperandKind.R64OrMem
    ∷ OperandKind.R64OrMemMpx
    ∷ [])
