-- How memory operands are spelled. Assumes nothing.
use Rattle.std.specs.Prelude.{ℕ, Bool, cond, not, List, [], ◌++◌, codes, ◌==◌}
use Rattle.text.specs.Texts.{decimal_text, when}
use Rattle.kinds.specs.declared.table.Width.{Width}
use Rattle.kinds.specs.declared.table.Width.TheVariants.{W8, W16, W32, W64}
use Rattle.forms.specs.declared.codes.MemoryLabel.{MemoryLabel}
use Rattle.forms.specs.declared.codes.MemoryLabel.TheVariants.{
  Plain,
  Int,
  Float,
  Bcd,
  Bound16,
  Bound32,
  FpuEnv14,
  FpuEnv28,
  FpuState94,
  FpuState108,
  Fxsave,
  Xsave,
  SegPtr16,
  SegPtr32,
  SegPtr64,
  Fword6,
  Fword10,
}
use Rattle.forms.specs.declared.codes.Tag.{Tag}
use Rattle.forms.specs.contracts.codes.Tag as tag
use Rattle.operands.specs.declared.setting.Setting.{Setting}
use Rattle.operands.specs.declared.setting.MemoryBits.{MemoryBits}
use denote.Enum.Bare.{sameb}

-- the tag is this one
abbrev pub is_tag : Tag → Tag → Bool
is_tag t u = sameb tag.the_type t u

-- sgdt and sidt
abbrev pub is_descriptor_table : Tag → Bool
is_descriptor_table t = is_tag t Tag.DescriptorTable

-- a size in bits; none is not spelled
abbrev pub bits_text : ℕ → List ℕ
bits_text bits = cond (bits == 0) [] (decimal_text bits)

-- the size, or what the label says in its place; sgdt and sidt do not spell theirs
abbrev pub label_text : Bool → MemoryLabel → ℕ → List ℕ
label_text table Plain bits = bits_text bits
label_text table Int bits = bits_text bits
label_text table Float bits = bits_text bits
label_text table Bcd bits = bits_text bits
label_text table Bound16 bits = codes "16&16"
label_text table Bound32 bits = codes "32&32"
label_text table FpuEnv14 bits = codes "14byte"
label_text table FpuEnv28 bits = codes "28byte"
label_text table FpuState94 bits = codes "94byte"
label_text table FpuState108 bits = codes "108byte"
label_text table Fxsave bits = codes "512byte"
label_text table Xsave bits = codes "em"
label_text table SegPtr16 bits = codes "16:16"
label_text table SegPtr32 bits = codes "16:32"
label_text table SegPtr64 bits = codes "16:64"
label_text table Fword6 bits = cond table [] (codes "16&32")
label_text table Fword10 bits = cond table [] (codes "16&64")

-- what an FPU instruction's memory holds
abbrev pub fpu_text : MemoryLabel → List ℕ
fpu_text Plain = []
fpu_text Int = codes "int"
fpu_text Float = codes "fp"
fpu_text Bcd = codes "bcd"
fpu_text Bound16 = []
fpu_text Bound32 = []
fpu_text FpuEnv14 = []
fpu_text FpuEnv28 = []
fpu_text FpuState94 = []
fpu_text FpuState108 = []
fpu_text Fxsave = []
fpu_text Xsave = []
fpu_text SegPtr16 = []
fpu_text SegPtr32 = []
fpu_text SegPtr64 = []
fpu_text Fword6 = []
fpu_text Fword10 = []

-- what follows the `m` of a memory
abbrev pub size_text : Setting → MemoryBits → List ℕ
size_text s m =
    cond (is_tag s.tag Tag.TwoByte) (codes "2byte")
    (label_text (is_descriptor_table s.tag) m.label m.bits ++ when s.flags.fpu (fpu_text m.label))

-- the memory, and its broadcast element if it has one
abbrev pub memory_text : Setting → List ℕ
memory_text s =
    codes "m" ++ (size_text s s.memory ++ when s.flags.broadcast (codes "/m" ++ (size_text s s.element ++ codes "bcst")))

abbrev pub width_bits : Width → ℕ
width_bits W8 = 8
width_bits W16 = 16
width_bits W32 = 32
width_bits W64 = 64

-- a width is spelled in bits
abbrev pub width_text : Width → List ℕ
width_text w = decimal_text (width_bits w)

-- a general register or memory; the width is spelled where the memory has another
abbrev pub gpr_mem_text : Setting → Width → List ℕ
gpr_mem_text s w =
    codes "r" ++ (when (not (s.memory.bits == width_bits w)) (width_text w) ++ (codes "/" ++ memory_text s))
