-- The checks of rows, in the order of their numbers. Assumes nothing.
use Rattle.std.specs.Prelude.{ℕ, ◌/◌, ◌%◌, Bool, cond, not, ◌&&◌, ◌||◌, List, length, take, drop, ℤ, pos, negsuc, Some, None, Option, ◌==◌, nat_le, nat_lt, slice_index}
use Rattle.std.specs.List.{list_all, list_any}
use Rattle.kinds.specs.Kinds.{is_absent, is_seg_rdi}
use Rattle.kinds.specs.declared.kind.OperandKind.{OperandKind}
use Rattle.forms.specs.Operands.{is_general_register_or_memory, kinds_of}
use Rattle.forms.specs.declared.fault.RowFault.{RowFault}
use Rattle.forms.specs.declared.row.FormRow.{FormRow}
use Rattle.forms.specs.declared.row.MemoryRow.{MemoryRow}
use Rattle.forms.specs.declared.row.NamingRow.{NamingRow}

-- Flag bit number k, by its weight 2 ^ k.
abbrev pub bit : ℕ → ℕ → Bool
bit weight flags = flags / weight % 2 == 1

-- 1: a code above the last of its set, or a flag bit above 10.
abbrev pub codes_outside : FormRow → Bool
codes_outside r =
    nat_lt 5 r.encoding
    || (nat_lt 8 r.table
    || (nat_lt 4 r.prefix
    || (nat_lt 3 r.lkind
    || (nat_lt 16 r.tag
    || (nat_lt 2047 r.flags
    || (nat_lt 108 (slice_index r.kinds 0)
    || (nat_lt 108 (slice_index r.kinds 1)
    || (nat_lt 108 (slice_index r.kinds 2)
    || (nat_lt 108 (slice_index r.kinds 3)
    || nat_lt 108 (slice_index r.kinds 4))))))))))

-- 3: more than five operands, no kind among the counted, or a kind after them.
abbrev pub operands_wrong : List OperandKind → ℕ → Bool
operands_wrong ks count = nat_lt 5 count || (list_any is_absent (take count ks) || list_any (λ k. not (is_absent k)) (drop count ks))

-- 5: a size that is none of 0, 16, 32, 64.
abbrev pub no_size : ℕ → Bool
no_size bits = not (bits == 0) && (not (bits == 16) && (not (bits == 32) && not (bits == 64)))

-- 6: neither one byte nor two, or one byte and above 255.
abbrev pub opcode_wrong : ℕ → ℕ → Bool
opcode_wrong opcode bytes = (not (bytes == 1) && not (bytes == 2)) || (bytes == 1 && nat_lt 255 opcode)

-- 7: outside -1 to 7; `negsuc n` is -(n + 1).
abbrev pub index_outside : ℤ → Bool
index_outside (pos n) = nat_lt 7 n
index_outside (negsuc n) = nat_lt 0 n

-- 8: above 2; or, for VEX, EVEX and XOP without LIG, no length kind, or LZ with a length other than 0.
abbrev pub length_wrong : FormRow → Bool
length_wrong r =
    nat_lt 2 r.length
    || ((nat_le 1 r.encoding && nat_le r.encoding 3)
    && (not (bit 1 r.flags)
    && (r.lkind == 0 || (r.lkind == 3 && not (r.length == 0)))))

-- 9: broadcast beside an r8, r16, r32 or r64 that may be memory.
abbrev pub broadcast_wrong : List OperandKind → ℕ → Bool
broadcast_wrong ks flags = bit 32 flags && list_any is_general_register_or_memory ks

-- Checks 1 to 4 of a row with these kinds.
abbrev pub operands_fault : FormRow → List OperandKind → Option RowFault
operands_fault r ks =
    cond (codes_outside r) (Some RowFault.CodeOutside)
    (cond (r.encoding == 5) (Some RowFault.Mvex)
    (cond (operands_wrong ks r.count) (Some RowFault.OperandCount)
    (cond (list_any is_seg_rdi (drop 1 ks)) (Some RowFault.SegRdiPlace) None)))

-- Checks 5 to 9.
abbrev pub numbers_fault : FormRow → List OperandKind → Option RowFault
numbers_fault r ks =
    cond (no_size r.address || no_size r.operand) (Some RowFault.FixedSize)
    (cond (opcode_wrong r.opcode r.bytes) (Some RowFault.OpcodeLength)
    (cond (index_outside r.group || index_outside r.rm) (Some RowFault.GroupIndex)
    (cond (length_wrong r) (Some RowFault.VectorLength)
    (cond (broadcast_wrong ks r.flags) (Some RowFault.Broadcast) None))))

-- The first fault, or else the second.
abbrev pub or_else : Option RowFault → Option RowFault → Option RowFault
or_else (Some e) o = Some e
or_else None o = o

-- The first check that a form's row fails.
abbrev pub form_fault : FormRow → Option RowFault
form_fault r = or_else (operands_fault r (kinds_of r.kinds)) (numbers_fault r (kinds_of r.kinds))

-- A letter, a digit or `_`.
abbrev pub in_set : ℕ → Bool
in_set b = (nat_le 65 b && nat_le b 90) || ((nat_le 97 b && nat_le b 122) || ((nat_le 48 b && nat_le b 57) || b == 95))

abbrev pub all_in_set : List ℕ → Bool
all_in_set = list_all in_set

-- 10: empty, over 32 bytes, or with another byte.
abbrev pub mnemonic_wrong : List ℕ → Bool
mnemonic_wrong t = length t == 0 || (nat_lt 32 (length t) || not (all_in_set t))

-- 11: a label above 16 or a size above 512.
abbrev pub memory_outside : MemoryRow → Bool
memory_outside m = nat_lt 16 m.label || nat_lt 512 m.size

-- The first check that a naming's row fails.
abbrev pub naming_fault : NamingRow → Option RowFault
naming_fault r =
    cond (mnemonic_wrong r.mnemonic.now) (Some RowFault.Mnemonic)
    (cond (nat_lt 6 r.option || (memory_outside r.memory || memory_outside r.broadcast)) (Some RowFault.NamingCode) None)

-- The first check that a form's row and its naming's fail: those of the form, then those of the naming.
unfoldable pub pair_fault : FormRow → NamingRow → Option RowFault
pair_fault r n = or_else (form_fault r) (naming_fault n)
