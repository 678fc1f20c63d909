-- What a signature is made of, in the order of its text, and how each piece is spelled. Assumes nothing.
use Rattle.std.specs.Prelude.{ℕ, List, [], codes, Option}
use Rattle.std.specs.Option.{unwrap_or}
use Rattle.std.specs.List.{flat_map}
use Rattle.text.specs.Texts.{upper_text}
use Rattle.kinds.specs.declared.table.Class.{Class}
use Rattle.forms.specs.Pseudo.{pseudo_text}
use Rattle.forms.specs.declared.codes.Tag.{Tag}
use Rattle.forms.specs.declared.codes.Tag.TheVariants.{
  Plain,
  Invalid,
  DeclareByte,
  DeclareWord,
  DeclareDword,
  DeclareQword,
  ZeroBytes,
  TwoByte,
  DescriptorTable,
  BareSt,
  ImpliedEdxEax,
  ImpliedXmm0,
  ImpliedXmm0To7,
  ImpliedEaxXmm0,
  ImpliedXmm0To2And4To6,
  ImpliedXmm0To6,
  ImpliedEax,
}
use Rattle.operands.specs.Operands.{operand_text}
use Rattle.operands.specs.declared.setting.Setting.{Setting}
use Rattle.signature.specs.Masks.{mask_text}

pub data Piece : Type 0 where
  -- an entry that is no instruction, whole
  pseudo : Tag → Piece
  mnemonic : List ℕ → Piece
  -- what stands before the operands
  space : Piece
  -- what stands between two operands
  comma : Piece
  -- an operand, with the number or letter right after its register's name
  operand : Class → Option ℕ → Piece
  -- the mask that follows operand 0, with its number
  mask : ℕ → Piece
  zeroing : Piece
  sae : Piece
  rounding : Piece
  -- the operands that a form's tag implies
  implied : Tag → Piece

-- the text of an entry that is no instruction; the other tags have none
abbrev pub own_text : Tag → Option (List ℕ)
own_text t = pseudo_text (codes "ZERO_BYTES") t

-- the operands that a form's tag implies
abbrev pub implied_text : Tag → List ℕ
implied_text Plain = []
implied_text Invalid = []
implied_text DeclareByte = []
implied_text DeclareWord = []
implied_text DeclareDword = []
implied_text DeclareQword = []
implied_text ZeroBytes = []
implied_text TwoByte = []
implied_text DescriptorTable = []
implied_text BareSt = []
implied_text ImpliedEdxEax = codes ", <edx>, <eax>"
implied_text ImpliedXmm0 = codes ", <XMM0>"
implied_text ImpliedXmm0To7 = codes ", <XMM0-7>"
implied_text ImpliedEaxXmm0 = codes ", <EAX>, <XMM0>"
implied_text ImpliedXmm0To2And4To6 = codes ", <XMM0-2>, <XMM4-6>"
implied_text ImpliedXmm0To6 = codes ", <XMM0-6>"
implied_text ImpliedEax = codes ", <EAX>"

abbrev pub spelling : Setting → Piece → List ℕ
spelling s (pseudo t) = unwrap_or (own_text t) []
spelling s (mnemonic t) = upper_text t
spelling s space = codes " "
spelling s comma = codes ", "
spelling s (operand c l) = operand_text s c l
spelling s (mask n) = mask_text n
spelling s zeroing = codes "{z}"
spelling s sae = codes "{sae}"
spelling s rounding = codes "{er}"
spelling s (implied t) = implied_text t

-- the text of some pieces
abbrev pub spelled : Setting → List Piece → List ℕ
spelled s ps = flat_map (spelling s) ps
