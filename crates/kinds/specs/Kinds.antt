-- The operand kinds in the order of their numbers, and the few that a rule names.
-- Assumes nothing.
use Rattle.std.specs.Prelude.{ℕ, Bool, List, [], ◌∷◌, Option}
use denote.Enum.Declared.{tag_of}
use Rattle.std.specs.List.{slice_get}
use Rattle.kinds.specs.Groups.{among}
use Rattle.kinds.specs.contracts.kind.OperandKind as kind
use Rattle.kinds.specs.declared.kind.OperandKind.{OperandKind}
use Rattle.kinds.specs.declared.kind.OperandKind.TheVariants.{
  R32Reg,
  R32RegMem,
  R32Rm,
  R32Opcode,
  R32Vvvv,
  R64Reg,
  R64RegMem,
  R64Rm,
  R64Opcode,
  R64Vvvv,
  BndOrMemMpx,
  BndReg,
  Absent,
  Farbr2x2,
  Farbr4x2,
  MemOffs,
  Mem,
  MemMpx,
  MemMib,
  MemVsib32x,
  MemVsib64x,
  MemVsib32y,
  MemVsib64y,
  MemVsib32z,
  MemVsib64z,
  R8OrMem,
  R16OrMem,
  R32OrMem,
  R32OrMemMpx,
  R64OrMem,
  R64OrMemMpx,
  MmOrMem,
  XmmOrMem,
  YmmOrMem,
  ZmmOrMem,
  KOrMem,
  R8Reg,
  R8Opcode,
  R16Reg,
  R16RegMem,
  R16Rm,
  R16Opcode,
  SegReg,
  KReg,
  Kp1Reg,
  KRm,
  KVvvv,
  MmReg,
  MmRm,
  XmmReg,
  XmmRm,
  XmmVvvv,
  Xmmp3Vvvv,
  XmmIs4,
  XmmIs5,
  YmmReg,
  YmmRm,
  YmmVvvv,
  YmmIs4,
  YmmIs5,
  ZmmReg,
  ZmmRm,
  ZmmVvvv,
  Zmmp3Vvvv,
  CrReg,
  DrReg,
  TrReg,
  Es,
  Cs,
  Ss,
  Ds,
  Fs,
  Gs,
  Al,
  Cl,
  Ax,
  Dx,
  Eax,
  Rax,
  St0,
  StiOpcode,
  Imm4M2z,
  Imm8,
  Imm8Const1,
  Imm8sex16,
  Imm8sex32,
  Imm8sex64,
  Imm16,
  Imm32,
  Imm32sex64,
  Imm64,
  SegRdi,
  Br16x1,
  Br32x1,
  Br64x1,
  Br16x2,
  Br32x4,
  Br64x4,
  Xbegin2,
  Xbegin4,
  Brdisp2,
  Brdisp4,
  Sibmem,
  TmmReg,
  TmmRm,
  TmmVvvv,
  SegRsi,
  EsRdi,
  SegRbxAl,
}

abbrev pub kinds : List OperandKind
kinds =
    R32Reg ∷ R32RegMem ∷ R32Rm ∷ R32Opcode ∷ R32Vvvv ∷ R64Reg ∷ R64RegMem ∷ R64Rm ∷ R64Opcode ∷ R64Vvvv ∷
    BndOrMemMpx ∷ BndReg ∷ Absent ∷ Farbr2x2 ∷ Farbr4x2 ∷ MemOffs ∷ Mem ∷ MemMpx ∷ MemMib ∷ MemVsib32x ∷ MemVsib64x ∷
    MemVsib32y ∷ MemVsib64y ∷ MemVsib32z ∷ MemVsib64z ∷ R8OrMem ∷ R16OrMem ∷ R32OrMem ∷ R32OrMemMpx ∷ R64OrMem ∷
    R64OrMemMpx ∷ MmOrMem ∷ XmmOrMem ∷ YmmOrMem ∷ ZmmOrMem ∷ KOrMem ∷ R8Reg ∷ R8Opcode ∷ R16Reg ∷ R16RegMem ∷ R16Rm ∷
    R16Opcode ∷ SegReg ∷ KReg ∷ Kp1Reg ∷ KRm ∷ KVvvv ∷ MmReg ∷ MmRm ∷ XmmReg ∷ XmmRm ∷ XmmVvvv ∷ Xmmp3Vvvv ∷ XmmIs4 ∷
    XmmIs5 ∷ YmmReg ∷ YmmRm ∷ YmmVvvv ∷ YmmIs4 ∷ YmmIs5 ∷ ZmmReg ∷ ZmmRm ∷ ZmmVvvv ∷ Zmmp3Vvvv ∷ CrReg ∷ DrReg ∷
    TrReg ∷ Es ∷ Cs ∷ Ss ∷ Ds ∷ Fs ∷ Gs ∷ Al ∷ Cl ∷ Ax ∷ Dx ∷ Eax ∷ Rax ∷ St0 ∷ StiOpcode ∷ Imm4M2z ∷ Imm8 ∷
    Imm8Const1 ∷ Imm8sex16 ∷ Imm8sex32 ∷ Imm8sex64 ∷ Imm16 ∷ Imm32 ∷ Imm32sex64 ∷ Imm64 ∷ SegRdi ∷ Br16x1 ∷ Br32x1 ∷
    Br64x1 ∷ Br16x2 ∷ Br32x4 ∷ Br64x4 ∷ Xbegin2 ∷ Xbegin4 ∷ Brdisp2 ∷ Brdisp4 ∷ Sibmem ∷ TmmReg ∷ TmmRm ∷ TmmVvvv ∷
    SegRsi ∷ EsRdi ∷ SegRbxAl ∷ []

-- the kind that has a number
unfoldable pub kind_at : ℕ → Option OperandKind
kind_at = slice_get kinds

-- the place of a kind: how many stand before it
abbrev pub place_of : OperandKind → ℕ
place_of = tag_of kind.the_type

-- no operand
abbrev pub is_absent : OperandKind → Bool
is_absent k = among k (Absent ∷ [])

-- the operand of a masked store through rDI, which is not printed
abbrev pub is_seg_rdi : OperandKind → Bool
is_seg_rdi k = among k (SegRdi ∷ [])

-- the plain byte, before which {sae} and {er} are placed
abbrev pub is_imm8 : OperandKind → Bool
is_imm8 k = among k (Imm8 ∷ [])

-- a mask, or a pair of masks, in the reg field: as operand 0 it has vectors numbered by their place
abbrev pub is_mask_first : OperandKind → Bool
is_mask_first k = among k (KReg ∷ Kp1Reg ∷ [])

-- string instructions and xlat, which print no operand
abbrev pub hides_all : OperandKind → Bool
hides_all k = among k (SegRsi ∷ EsRdi ∷ SegRbxAl ∷ [])
