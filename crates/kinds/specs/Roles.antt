-- What the part of an operand in the opcode string asks for.
-- Assumes nothing.
use Rattle.std.specs.Prelude.{Bool, true, false, Some, None, Option}
use Rattle.kinds.specs.declared.table.Role.{Role}
use Rattle.kinds.specs.declared.table.Role.TheVariants.{Plain, ModRm, Mem, Moffs, Vsib, Sibmem, OpcodeReg, Sti}
use Rattle.kinds.specs.declared.table.Width.{Width}

-- the encoding has a ModRM byte
abbrev pub brings_modrm : Role → Bool
brings_modrm ModRm = true
brings_modrm Mem = true
brings_modrm Vsib = true
brings_modrm Sibmem = true
brings_modrm Plain = false
brings_modrm Moffs = false
brings_modrm (OpcodeReg w) = false
brings_modrm Sti = false

-- the operand is memory and nothing else
abbrev pub is_memory : Role → Bool
is_memory Mem = true
is_memory Moffs = true
is_memory Vsib = true
is_memory Sibmem = true
is_memory Plain = false
is_memory ModRm = false
is_memory (OpcodeReg w) = false
is_memory Sti = false

-- the memory has a vector of indices
abbrev pub is_vsib : Role → Bool
is_vsib Vsib = true
is_vsib Plain = false
is_vsib ModRm = false
is_vsib Mem = false
is_vsib Moffs = false
is_vsib Sibmem = false
is_vsib (OpcodeReg w) = false
is_vsib Sti = false

-- the rm field of the ModRM byte is 4
abbrev pub fixes_rm : Role → Bool
fixes_rm Vsib = true
fixes_rm Sibmem = true
fixes_rm Plain = false
fixes_rm ModRm = false
fixes_rm Mem = false
fixes_rm Moffs = false
fixes_rm (OpcodeReg w) = false
fixes_rm Sti = false

-- the width of the register in the low bits of the opcode
abbrev pub opcode_register : Role → Option Width
opcode_register (OpcodeReg w) = Some w
opcode_register Plain = None
opcode_register ModRm = None
opcode_register Mem = None
opcode_register Moffs = None
opcode_register Vsib = None
opcode_register Sibmem = None
opcode_register Sti = None

-- the low bits of the opcode name a register of the FPU stack
abbrev pub is_sti : Role → Bool
is_sti Sti = true
is_sti Plain = false
is_sti ModRm = false
is_sti Mem = false
is_sti Moffs = false
is_sti Vsib = false
is_sti Sibmem = false
is_sti (OpcodeReg w) = false
