-- What a form and its name give to the signature. Assumes nothing.
use Rattle.std.specs.Prelude.{ℕ, ◌-◌, ◌*◌, Bool, true, false, cond, not, ◌&&◌, List, [], length, drop, nat_lt, slice_index_or}
use Rattle.std.specs.List.{list_any}
use Rattle.kinds.specs.Kinds.{is_imm8, hides_all}
use Rattle.kinds.specs.declared.kind.OperandKind.{OperandKind}
use Rattle.forms.specs.Forms.{counted}
use Rattle.forms.specs.Names.{Name}
use Rattle.forms.specs.declared.codes.Encoding.{Encoding}
use Rattle.forms.specs.declared.codes.Encoding.TheVariants.{Legacy, Vex, Evex, Xop, D3now}
use Rattle.forms.specs.declared.codes.NamingOption.{NamingOption}
use Rattle.forms.specs.declared.codes.NamingOption.TheVariants.{
  Plain,
  OpMaskIsK1OrNoGprSuffix,
  IncVecIndex,
  NoVecIndex,
  SwapVecIndex12,
  SkipOp0,
  VecIndexSameAsOpIndex,
}
use Rattle.forms.specs.declared.form.Form.{Form}
use Rattle.forms.specs.declared.form.Memory.{Memory}
use Rattle.numbering.specs.Plans.{plan_of}
use Rattle.operands.specs.declared.setting.Setting.{Setting}
use Rattle.operands.specs.declared.setting.MemoryBits.{MemoryBits}

abbrev pub is_legacy : Encoding → Bool
is_legacy Legacy = true
is_legacy Vex = false
is_legacy Evex = false
is_legacy Xop = false
is_legacy D3now = false

-- the last operand is an imm8
abbrev pub ends_in_imm8 : List OperandKind → Bool
ends_in_imm8 ks = nat_lt 0 (length ks) && is_imm8 (slice_index_or ks (length ks - 1) OperandKind.R32Reg)

-- {sae} and {er} follow the last operand, or the one before a last imm8 outside Legacy: so many operands stand before them,
-- and none where that is a lone imm8
abbrev pub last_of : Form → ℕ
last_of f =
    cond (not (is_legacy f.encoding) && ends_in_imm8 (counted f)) (length (counted f) - 1) (length (counted f))

-- a memory with its size in bits
abbrev pub in_bits : Memory → MemoryBits
in_bits m = record { label = m.label; bits = m.size * 8 }

abbrev pub setting_of : Form → Name → Setting
setting_of f n =
    record {
      tag = f.tag;
      flags = f.flags;
      memory = in_bits n.memory;
      element = in_bits n.broadcast;
      last = last_of f;
      plan = plan_of f n.option;
    }

-- the first place that is walked
abbrev pub start_of : NamingOption → ℕ
start_of Plain = 0
start_of OpMaskIsK1OrNoGprSuffix = 0
start_of IncVecIndex = 0
start_of NoVecIndex = 0
start_of SwapVecIndex12 = 0
start_of SkipOp0 = 1
start_of VecIndexSameAsOpIndex = 0

-- the operands that are walked: none beside an operand of a string instruction or of xlat
abbrev pub walked : Form → NamingOption → List OperandKind
walked f option = cond (list_any hides_all (counted f)) [] (drop (start_of option) (counted f))
