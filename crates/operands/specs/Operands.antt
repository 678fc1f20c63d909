-- How one operand is spelled, by its class and the number or letter right after its register's name. Assumes nothing.
use Rattle.std.specs.Prelude.{ℕ, cond, List, [], ◌∷◌, ◌++◌, codes, Option}
use Rattle.std.specs.Option.{option_map_or}
use Rattle.text.specs.Texts.{decimal_text}
use Rattle.kinds.specs.declared.table.Bank.{Bank}
use Rattle.kinds.specs.declared.table.Bank.TheVariants.{Mm, Xmm, Ymm, Zmm}
use Rattle.kinds.specs.declared.table.Class.{Class}
use Rattle.kinds.specs.declared.table.Class.TheVariants as class
use Rattle.kinds.specs.declared.table.Register.{Register}
use Rattle.kinds.specs.declared.table.Register.TheVariants.{Es, Cs, Ss, Ds, Fs, Gs, Al, Cl, Ax, Dx, Eax, Rax}
use Rattle.kinds.specs.declared.table.Word.{Word}
use Rattle.kinds.specs.declared.table.Word.TheVariants.{
  Ptr1616,
  Ptr1632,
  Mib,
  Vm32x,
  Vm64x,
  Vm32y,
  Vm64y,
  Vm32z,
  Vm64z,
  Sreg,
  Cr,
  Dr,
  Tr,
  Imm4,
  Imm8,
  One,
  Imm16,
  Imm32,
  Imm64,
  Rel8,
  Rel16,
  Rel32,
  Disp16,
  Disp32,
  Sibmem,
}
use Rattle.forms.specs.declared.codes.Tag.{Tag}
use Rattle.operands.specs.Memories.{is_tag, size_text, memory_text, width_text, gpr_mem_text}
use Rattle.operands.specs.declared.setting.Setting.{Setting}

abbrev pub bank_text : Bank → List ℕ
bank_text Mm = codes "mm"
bank_text Xmm = codes "xmm"
bank_text Ymm = codes "ymm"
bank_text Zmm = codes "zmm"

abbrev pub word_text : Word → List ℕ
word_text Ptr1616 = codes "ptr16:16"
word_text Ptr1632 = codes "ptr16:32"
word_text Mib = codes "mib"
word_text Vm32x = codes "vm32x"
word_text Vm64x = codes "vm64x"
word_text Vm32y = codes "vm32y"
word_text Vm64y = codes "vm64y"
word_text Vm32z = codes "vm32z"
word_text Vm64z = codes "vm64z"
word_text Sreg = codes "Sreg"
word_text Cr = codes "cr"
word_text Dr = codes "dr"
word_text Tr = codes "tr"
word_text Imm4 = codes "imm4"
word_text Imm8 = codes "imm8"
word_text One = codes "1"
word_text Imm16 = codes "imm16"
word_text Imm32 = codes "imm32"
word_text Imm64 = codes "imm64"
word_text Rel8 = codes "rel8"
word_text Rel16 = codes "rel16"
word_text Rel32 = codes "rel32"
word_text Disp16 = codes "disp16"
word_text Disp32 = codes "disp32"
word_text Sibmem = codes "sibmem"

abbrev pub register_text : Register → List ℕ
register_text Es = codes "ES"
register_text Cs = codes "CS"
register_text Ss = codes "SS"
register_text Ds = codes "DS"
register_text Fs = codes "FS"
register_text Gs = codes "GS"
register_text Al = codes "AL"
register_text Cl = codes "CL"
register_text Ax = codes "AX"
register_text Dx = codes "DX"
register_text Eax = codes "EAX"
register_text Rax = codes "RAX"

-- the number, if the register has one
abbrev pub number_text : Option ℕ → List ℕ
number_text label = option_map_or decimal_text label []

-- the letter, if the register has one
abbrev pub letter_text : Option ℕ → List ℕ
letter_text label = option_map_or (λ b. b ∷ []) label []

abbrev pub operand_text : Setting → Class → Option ℕ → List ℕ
operand_text s class.Missing l = []
operand_text s class.Hidden l = []
operand_text s class.Strings l = []
operand_text s (class.Gpr w) l = codes "r" ++ (width_text w ++ letter_text l)
operand_text s (class.GprMem w) l = gpr_mem_text s w
operand_text s (class.Vec b) l = bank_text b ++ number_text l
operand_text s (class.VecMem b) l = bank_text b ++ (number_text l ++ (codes "/" ++ memory_text s))
operand_text s (class.VecPlus3 b) l = bank_text b ++ (number_text l ++ codes "+3")
operand_text s class.Mask l = codes "k" ++ number_text l
operand_text s class.MaskMem l = codes "k" ++ (number_text l ++ (codes "/" ++ memory_text s))
operand_text s class.MaskPlus1 l = codes "k" ++ (number_text l ++ codes "+1")
operand_text s class.Tile l = codes "tmm" ++ number_text l
operand_text s class.Bound l = codes "bnd" ++ number_text l
operand_text s class.BoundMem l = codes "bnd" ++ (number_text l ++ (codes "/" ++ memory_text s))
operand_text s class.Mem l = memory_text s
operand_text s class.MemOffs l = codes "moffs" ++ size_text s s.memory
operand_text s (class.Word w) l = word_text w
operand_text s (class.Fixed r) l = register_text r
operand_text s class.St0 l = cond (is_tag s.tag Tag.BareSt) (codes "ST") (codes "ST(0)")
operand_text s class.Sti l = codes "ST(i)"
