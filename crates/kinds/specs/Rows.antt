-- What each operand kind prints, by groups of kinds.
-- Assumes nothing.
use Rattle.std.specs.Prelude.{List, [], ◌∷◌}
use Rattle.kinds.specs.Groups.{grouped}
use Rattle.kinds.specs.declared.kind.OperandKind.{OperandKind}
use Rattle.kinds.specs.declared.kind.OperandKind.TheVariants.{
  R32Reg,
  R32RegMem,
  R32Rm,
  R32Opcode,
  R32Vvvv,
  R64Reg,
  R64RegMem,
  R64Rm,
  R64Opcode,
  R64Vvvv,
  BndOrMemMpx,
  BndReg,
  Farbr2x2,
  Farbr4x2,
  MemOffs,
  Mem,
  MemMpx,
  MemMib,
  MemVsib32x,
  MemVsib64x,
  MemVsib32y,
  MemVsib64y,
  MemVsib32z,
  MemVsib64z,
  R8OrMem,
  R16OrMem,
  R32OrMem,
  R32OrMemMpx,
  R64OrMem,
  R64OrMemMpx,
  MmOrMem,
  XmmOrMem,
  YmmOrMem,
  ZmmOrMem,
  KOrMem,
  R8Reg,
  R8Opcode,
  R16Reg,
  R16RegMem,
  R16Rm,
  R16Opcode,
  SegReg,
  KReg,
  Kp1Reg,
  KRm,
  KVvvv,
  MmReg,
  MmRm,
  XmmReg,
  XmmRm,
  XmmVvvv,
  Xmmp3Vvvv,
  XmmIs4,
  XmmIs5,
  YmmReg,
  YmmRm,
  YmmVvvv,
  YmmIs4,
  YmmIs5,
  ZmmReg,
  ZmmRm,
  ZmmVvvv,
  Zmmp3Vvvv,
  CrReg,
  DrReg,
  TrReg,
  Es,
  Cs,
  Ss,
  Ds,
  Fs,
  Gs,
  Al,
  Cl,
  Ax,
  Dx,
  Eax,
  Rax,
  St0,
  StiOpcode,
  Imm4M2z,
  Imm8,
  Imm8Const1,
  Imm8sex16,
  Imm8sex32,
  Imm8sex64,
  Imm16,
  Imm32,
  Imm32sex64,
  Imm64,
  SegRdi,
  Br16x1,
  Br32x1,
  Br64x1,
  Br16x2,
  Br32x4,
  Br64x4,
  Xbegin2,
  Xbegin4,
  Brdisp2,
  Brdisp4,
  Sibmem,
  TmmReg,
  TmmRm,
  TmmVvvv,
  SegRsi,
  EsRdi,
  SegRbxAl,
}
use Rattle.kinds.specs.declared.rows.Row.{Row}
use Rattle.kinds.specs.declared.table.Class.{Class}
use Rattle.kinds.specs.declared.table.Suffix.{Suffix}
use Rattle.kinds.specs.declared.table.Role.{Role}
use Rattle.kinds.specs.declared.table.Word.{Word}
use Rattle.kinds.specs.declared.table.Width.{Width}
use Rattle.kinds.specs.declared.table.Bank.{Bank}
use Rattle.kinds.specs.declared.table.Register.{Register}

-- what a kind adds at the end of the opcode string; any other adds nothing
abbrev pub suffix_groups : List (Suffix × List OperandKind)
suffix_groups =
    (Suffix.Cb, Br16x1 ∷ Br32x1 ∷ Br64x1 ∷ [])
    ∷ (Suffix.Cw, Br16x2 ∷ Xbegin2 ∷ Brdisp2 ∷ [])
    ∷ (Suffix.Cd, Farbr2x2 ∷ Br32x4 ∷ Br64x4 ∷ Xbegin4 ∷ Brdisp4 ∷ [])
    ∷ (Suffix.Cp, Farbr4x2 ∷ [])
    ∷ (Suffix.Ib, Imm8 ∷ Imm8sex16 ∷ Imm8sex32 ∷ Imm8sex64 ∷ [])
    ∷ (Suffix.Iw, Imm16 ∷ [])
    ∷ (Suffix.Id, Imm32 ∷ Imm32sex64 ∷ [])
    ∷ (Suffix.Io, Imm64 ∷ [])
    ∷ (Suffix.Is4, XmmIs4 ∷ YmmIs4 ∷ [])
    ∷ (Suffix.Is5, XmmIs5 ∷ YmmIs5 ∷ [])
    ∷ (Suffix.Mo, MemOffs ∷ [])
    ∷ []

-- how a kind is printed in a signature; only a missing operand is in no group
abbrev pub class_groups : List (Class × List OperandKind)
class_groups =
    (Class.Gpr Width.W32, R32Reg ∷ R32RegMem ∷ R32Rm ∷ R32Opcode ∷ R32Vvvv ∷ [])
    ∷ (Class.Gpr Width.W64, R64Reg ∷ R64RegMem ∷ R64Rm ∷ R64Opcode ∷ R64Vvvv ∷ [])
    ∷ (Class.Gpr Width.W8, R8Reg ∷ R8Opcode ∷ [])
    ∷ (Class.Gpr Width.W16, R16Reg ∷ R16RegMem ∷ R16Rm ∷ R16Opcode ∷ [])
    ∷ (Class.GprMem Width.W8, R8OrMem ∷ [])
    ∷ (Class.GprMem Width.W16, R16OrMem ∷ [])
    ∷ (Class.GprMem Width.W32, R32OrMem ∷ R32OrMemMpx ∷ [])
    ∷ (Class.GprMem Width.W64, R64OrMem ∷ R64OrMemMpx ∷ [])
    ∷ (Class.Vec Bank.Mm, MmReg ∷ MmRm ∷ [])
    ∷ (Class.Vec Bank.Xmm, XmmReg ∷ XmmRm ∷ XmmVvvv ∷ XmmIs4 ∷ XmmIs5 ∷ [])
    ∷ (Class.Vec Bank.Ymm, YmmReg ∷ YmmRm ∷ YmmVvvv ∷ YmmIs4 ∷ YmmIs5 ∷ [])
    ∷ (Class.Vec Bank.Zmm, ZmmReg ∷ ZmmRm ∷ ZmmVvvv ∷ [])
    ∷ (Class.VecMem Bank.Mm, MmOrMem ∷ [])
    ∷ (Class.VecMem Bank.Xmm, XmmOrMem ∷ [])
    ∷ (Class.VecMem Bank.Ymm, YmmOrMem ∷ [])
    ∷ (Class.VecMem Bank.Zmm, ZmmOrMem ∷ [])
    ∷ (Class.VecPlus3 Bank.Xmm, Xmmp3Vvvv ∷ [])
    ∷ (Class.VecPlus3 Bank.Zmm, Zmmp3Vvvv ∷ [])
    ∷ (Class.MaskMem, KOrMem ∷ [])
    ∷ (Class.Mask, KReg ∷ KRm ∷ KVvvv ∷ [])
    ∷ (Class.MaskPlus1, Kp1Reg ∷ [])
    ∷ (Class.Tile, TmmReg ∷ TmmRm ∷ TmmVvvv ∷ [])
    ∷ (Class.BoundMem, BndOrMemMpx ∷ [])
    ∷ (Class.Bound, BndReg ∷ [])
    ∷ (Class.MemOffs, MemOffs ∷ [])
    ∷ (Class.Mem, Mem ∷ MemMpx ∷ [])
    ∷ (Class.Fixed Register.Es, Es ∷ [])
    ∷ (Class.Fixed Register.Cs, Cs ∷ [])
    ∷ (Class.Fixed Register.Ss, Ss ∷ [])
    ∷ (Class.Fixed Register.Ds, Ds ∷ [])
    ∷ (Class.Fixed Register.Fs, Fs ∷ [])
    ∷ (Class.Fixed Register.Gs, Gs ∷ [])
    ∷ (Class.Fixed Register.Al, Al ∷ [])
    ∷ (Class.Fixed Register.Cl, Cl ∷ [])
    ∷ (Class.Fixed Register.Ax, Ax ∷ [])
    ∷ (Class.Fixed Register.Dx, Dx ∷ [])
    ∷ (Class.Fixed Register.Eax, Eax ∷ [])
    ∷ (Class.Fixed Register.Rax, Rax ∷ [])
    ∷ (Class.St0, St0 ∷ [])
    ∷ (Class.Sti, StiOpcode ∷ [])
    ∷ (Class.Word Word.Ptr1616, Farbr2x2 ∷ [])
    ∷ (Class.Word Word.Ptr1632, Farbr4x2 ∷ [])
    ∷ (Class.Word Word.Mib, MemMib ∷ [])
    ∷ (Class.Word Word.Vm32x, MemVsib32x ∷ [])
    ∷ (Class.Word Word.Vm64x, MemVsib64x ∷ [])
    ∷ (Class.Word Word.Vm32y, MemVsib32y ∷ [])
    ∷ (Class.Word Word.Vm64y, MemVsib64y ∷ [])
    ∷ (Class.Word Word.Vm32z, MemVsib32z ∷ [])
    ∷ (Class.Word Word.Vm64z, MemVsib64z ∷ [])
    ∷ (Class.Word Word.Sreg, SegReg ∷ [])
    ∷ (Class.Word Word.Cr, CrReg ∷ [])
    ∷ (Class.Word Word.Dr, DrReg ∷ [])
    ∷ (Class.Word Word.Tr, TrReg ∷ [])
    ∷ (Class.Word Word.Imm4, Imm4M2z ∷ [])
    ∷ (Class.Word Word.Imm8, Imm8 ∷ Imm8sex16 ∷ Imm8sex32 ∷ Imm8sex64 ∷ [])
    ∷ (Class.Word Word.One, Imm8Const1 ∷ [])
    ∷ (Class.Word Word.Imm16, Imm16 ∷ [])
    ∷ (Class.Word Word.Imm32, Imm32 ∷ Imm32sex64 ∷ [])
    ∷ (Class.Word Word.Imm64, Imm64 ∷ [])
    ∷ (Class.Word Word.Rel8, Br16x1 ∷ Br32x1 ∷ Br64x1 ∷ [])
    ∷ (Class.Word Word.Rel16, Br16x2 ∷ Xbegin2 ∷ [])
    ∷ (Class.Word Word.Rel32, Br32x4 ∷ Br64x4 ∷ Xbegin4 ∷ [])
    ∷ (Class.Word Word.Disp16, Brdisp2 ∷ [])
    ∷ (Class.Word Word.Disp32, Brdisp4 ∷ [])
    ∷ (Class.Word Word.Sibmem, Sibmem ∷ [])
    ∷ (Class.Hidden, SegRdi ∷ [])
    ∷ (Class.Strings, SegRsi ∷ EsRdi ∷ SegRbxAl ∷ [])
    ∷ []

-- a kind's part in the opcode string: what the ModRM byte holds, memory, and registers in the opcode itself; any other has none
abbrev pub role_groups : List (Role × List OperandKind)
role_groups = (
  Role.ModRm,
  R8OrMem ∷ R16OrMem ∷ R32OrMem ∷ R32OrMemMpx ∷ R64OrMem ∷ R64OrMemMpx ∷ MmOrMem ∷ XmmOrMem ∷ YmmOrMem ∷
      ZmmOrMem ∷ BndOrMemMpx ∷ KOrMem ∷ R8Reg ∷ R16Reg ∷ R16RegMem ∷ R16Rm ∷ R32Reg ∷ R32RegMem ∷
      R32Rm ∷ R64Reg ∷ R64RegMem ∷ R64Rm ∷ SegReg ∷ KReg ∷ Kp1Reg ∷ KRm ∷ MmReg ∷ MmRm ∷ XmmReg ∷
      XmmRm ∷ YmmReg ∷ YmmRm ∷ ZmmReg ∷ ZmmRm ∷ CrReg ∷ DrReg ∷ TrReg ∷ BndReg ∷ TmmReg ∷ TmmRm ∷ [],
)
    ∷ (Role.Mem, Mem ∷ MemMpx ∷ MemMib ∷ [])
    ∷ (Role.Moffs, MemOffs ∷ [])
    ∷ (Role.Vsib, MemVsib32x ∷ MemVsib64x ∷ MemVsib32y ∷ MemVsib64y ∷ MemVsib32z ∷ MemVsib64z ∷ [])
    ∷ (Role.Sibmem, Sibmem ∷ [])
    ∷ (Role.OpcodeReg Width.W8, R8Opcode ∷ [])
    ∷ (Role.OpcodeReg Width.W16, R16Opcode ∷ [])
    ∷ (Role.OpcodeReg Width.W32, R32Opcode ∷ [])
    ∷ (Role.OpcodeReg Width.W64, R64Opcode ∷ [])
    ∷ (Role.Sti, StiOpcode ∷ [])
    ∷ []

unfoldable pub class_of : OperandKind → Class
class_of = grouped class_groups Class.Missing

unfoldable pub suffix_of : OperandKind → Suffix
suffix_of = grouped suffix_groups Suffix.Plain

unfoldable pub role_of : OperandKind → Role
role_of = grouped role_groups Role.Plain

-- a kind's row of the table
abbrev pub row_of : OperandKind → Row
row_of k = record { kind = k; class = class_of k; suffix = suffix_of k; role = role_of k }
