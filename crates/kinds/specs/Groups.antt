-- Rules that say a thing of each kind by groups of kinds.
-- Assumes nothing.
use Rattle.std.specs.Prelude.{Bool, false, cond, ◌||◌, List, [], ◌∷◌}
use denote.Enum.Bare.{sameb}
use Rattle.kinds.specs.contracts.kind.OperandKind as kind
use Rattle.kinds.specs.declared.kind.OperandKind.{OperandKind}

-- the kind is one of these
abbrev pub among : OperandKind → List OperandKind → Bool
among k [] = false
among k (x ∷ xs) = sameb kind.the_type k x || among k xs

-- what the first group that has the kind says of it
abbrev pub grouped : {R : Type 0} → List (R × List OperandKind) → R → OperandKind → R
grouped [] other k = other
grouped ((r, ks) ∷ rest) other k = cond (among k ks) r (grouped rest other k)
