-- What the opcode string asks of a form's operands. Assumes nothing.
use Rattle.std.specs.Prelude.{Bool, List, [], ◌∷◌, None, Option}
use Rattle.std.specs.List.{list_any}
use Rattle.std.specs.Option.{option_or}
use Rattle.kinds.specs.Roles.{opcode_register}
use Rattle.kinds.specs.Rows.{role_of}
use Rattle.kinds.specs.declared.kind.OperandKind.{OperandKind}
use Rattle.kinds.specs.declared.table.Role.{Role}
use Rattle.kinds.specs.declared.table.Width.{Width}

-- the role of some operand passes the test
abbrev pub has : (Role → Bool) → List OperandKind → Bool
has test ks = list_any (λ k. test (role_of k)) ks

-- the width of the first operand that is a register in the low bits of the opcode
abbrev pub first_register : List OperandKind → Option Width
first_register [] = None
first_register (k ∷ ks) = option_or (opcode_register (role_of k)) (first_register ks)
