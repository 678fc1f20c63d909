-- Nine sample forms with their names and texts. Assumes nothing.
use Rattle.std.specs.Prelude.{◌≡◌, ℕ, List, [], ◌∷◌, ℤ, pos, negsuc, None, codes}
use Rattle.forms.specs.Checks.{form_fault}
use Rattle.forms.specs.Forms.{typed}
use Rattle.forms.specs.Names.{Name, NamePasses, memory_of, option_of}
use Rattle.forms.specs.declared.form.Memory.{Memory}
use Rattle.forms.specs.declared.row.FormRow.{FormRow}
use Rattle.opcode.specs.OpcodeText.{opcode_text}
use Rattle.signature.specs.Signature.{signature_text}

-- a plain memory of so many bytes
abbrev bytes : ℕ → Memory
bytes size = memory_of (record { label = 0; size = size })

-- a name under an option, with its memory and its broadcast memory
abbrev called : List ℕ → ℕ → Memory → Memory → Name
called mnemonic option memory broadcast = record { mnemonic = mnemonic; option = option_of option; memory = memory; broadcast = broadcast }

-- a row: encoding, table, prefix; opcode and its length; operand size, vector length, length kind; flags; group; the kinds
-- and their count; tag. No sample has an address size or an rm field.
abbrev row : ℕ → ℕ → ℕ → ℕ → ℕ → ℕ → ℕ → ℕ → ℕ → ℤ → List ℕ → ℕ → ℕ → FormRow
row encoding table prefix opcode bytes operand length lkind flags group kinds count tag =
    record {
      encoding = encoding;
      table = table;
      prefix = prefix;
      opcode = opcode;
      bytes = bytes;
      address = 0;
      operand = operand;
      length = length;
      lkind = lkind;
      flags = flags;
      group = group;
      rm = negsuc 0;
      kinds = kinds;
      count = count;
      tag = tag;
    }

-- the row passes checks 1 to 9 and the name 10 and 11, and the form has these two texts
abbrev Prints : FormRow → Name → List ℕ → List ℕ → Type 0
Prints r n op sig =
    (form_fault r ≡ None) × NamePasses n.mnemonic n.memory n.broadcast × (opcode_text (typed r) ≡ op) × (signature_text (typed r) n ≡ sig)

-- no group
abbrev none : ℤ
none = negsuc 0

-- r32_or_mem, r32_reg
abbrev pub Add : Type 0
Add =
    Prints (row 0 0 0 1 1 32 0 0 0 none (27 ∷ 0 ∷ 12 ∷ 12 ∷ 12 ∷ []) 2 0) (called (codes "ADD") 0 (bytes 4) (bytes 0))
    (codes "o32 01 /r") (codes "ADD r/m32, r32")

-- zmm_reg, zmm_vvvv, zmm_or_mem; broadcast, rounding, mask, zeroing
abbrev pub Vaddps : Type 0
Vaddps =
    Prints (row 2 1 0 88 1 0 2 1 864 none (60 ∷ 62 ∷ 34 ∷ 12 ∷ 12 ∷ []) 3 0) (called (codes "VADDPS") 0 (bytes 64) (bytes 4))
    (codes "EVEX.512.0F.W0 58 /r") (codes "VADDPS zmm1 {k1}{z}, zmm2, zmm3/m512/m32bcst{er}")

-- k_reg, xmm_vvvv, xmm_or_mem, imm8; mask
abbrev pub Vpcmpb : Type 0
Vpcmpb =
    Prints (row 2 3 2 63 1 0 0 1 256 none (43 ∷ 51 ∷ 32 ∷ 82 ∷ 12 ∷ []) 4 0) (called (codes "VPCMPB") 0 (bytes 16) (bytes 0))
    (codes "EVEX.128.66.0F3A.W0 3F /r ib") (codes "VPCMPB k1 {k2}, xmm2, xmm3/m128, imm8")

-- the same under option 1
abbrev pub VpcmpbSwapped : Type 0
VpcmpbSwapped =
    Prints (row 2 3 2 63 1 0 0 1 256 none (43 ∷ 51 ∷ 32 ∷ 82 ∷ 12 ∷ []) 4 0) (called (codes "VPCMPB") 1 (bytes 16) (bytes 0))
    (codes "EVEX.128.66.0F3A.W0 3F /r ib") (codes "VPCMPB k2 {k1}, xmm2, xmm3/m128, imm8")

-- r32_rm; the first group of implied operands
abbrev pub Tpause : Type 0
Tpause =
    Prints (row 0 1 2 174 1 0 0 0 0 (pos 6) (2 ∷ 12 ∷ 12 ∷ 12 ∷ 12 ∷ []) 1 10) (called (codes "TPAUSE") 0 (bytes 0) (bytes 0))
    (codes "66 0F AE /6") (codes "TPAUSE r32, <edx>, <eax>")

-- seg_rDI, mm_reg, mm_rm
abbrev pub Maskmovq : Type 0
Maskmovq =
    Prints (row 0 1 1 247 1 0 0 0 0 none (91 ∷ 47 ∷ 48 ∷ 12 ∷ 12 ∷ []) 3 0) (called (codes "MASKMOVQ") 0 (bytes 0) (bytes 0))
    (codes "NP 0F F7 /r") (codes "MASKMOVQ mm1, mm2")

-- ymm_reg, ymm_vvvv, ymm_or_mem, ymm_is5, imm8: no suffix after /is5
abbrev pub Vpermil2ps : Type 0
Vpermil2ps =
    Prints (row 1 3 2 72 1 0 1 1 0 none (55 ∷ 57 ∷ 33 ∷ 59 ∷ 82 ∷ []) 5 0) (called (codes "VPERMIL2PS") 0 (bytes 32) (bytes 0))
    (codes "VEX.256.66.0F3A.W0 48 /r /is5") (codes "VPERMIL2PS ymm1, ymm2, ymm3/m256, ymm4, imm8")

-- the sixth of the entries that are no instructions
abbrev pub ZeroBytes : Type 0
ZeroBytes =
    Prints (row 0 0 0 0 1 0 0 0 0 (pos 0) (12 ∷ 12 ∷ 12 ∷ 12 ∷ 12 ∷ []) 0 6) (called (codes "Zero_bytes") 0 (bytes 0) (bytes 0))
    (codes "<zero_bytes>") (codes "ZERO_BYTES")

-- st0, sti_opcode; a two-byte opcode of the FPU that prints bare ST
abbrev pub Fcomi : Type 0
Fcomi =
    Prints (row 0 0 0 56304 2 0 0 0 1024 none (79 ∷ 80 ∷ 12 ∷ 12 ∷ 12 ∷ []) 2 9) (called (codes "FCOMI") 0 (bytes 0) (bytes 0))
    (codes "DB F0+i") (codes "FCOMI ST, ST(i)")

abbrev pub SampleTexts : Type 0
SampleTexts = Add × Vaddps × Vpcmpb × VpcmpbSwapped × Tpause × Maskmovq × Vpermil2ps × ZeroBytes × Fcomi
