-- The texts of the entries that are no instructions. Assumes nothing.
use Rattle.std.specs.Prelude.{ℕ, List, Some, None, codes, Option}
use Rattle.forms.specs.declared.codes.Tag.{Tag}
use Rattle.forms.specs.declared.codes.Tag.TheVariants.{
  Plain,
  Invalid,
  DeclareByte,
  DeclareWord,
  DeclareDword,
  DeclareQword,
  ZeroBytes,
  TwoByte,
  DescriptorTable,
  BareSt,
  ImpliedEdxEax,
  ImpliedXmm0,
  ImpliedXmm0To7,
  ImpliedEaxXmm0,
  ImpliedXmm0To2And4To6,
  ImpliedXmm0To6,
  ImpliedEax,
}

-- The text of an entry that is no instruction; `zero_bytes` is that of the entry without bytes, the one whose two texts
-- differ.
abbrev pub pseudo_text : List ℕ → Tag → Option (List ℕ)
pseudo_text zero_bytes Invalid = Some (codes "<invalid>")
pseudo_text zero_bytes DeclareByte = Some (codes "<db>")
pseudo_text zero_bytes DeclareWord = Some (codes "<dw>")
pseudo_text zero_bytes DeclareDword = Some (codes "<dd>")
pseudo_text zero_bytes DeclareQword = Some (codes "<dq>")
pseudo_text zero_bytes ZeroBytes = Some zero_bytes
pseudo_text zero_bytes Plain = None
pseudo_text zero_bytes TwoByte = None
pseudo_text zero_bytes DescriptorTable = None
pseudo_text zero_bytes BareSt = None
pseudo_text zero_bytes ImpliedEdxEax = None
pseudo_text zero_bytes ImpliedXmm0 = None
pseudo_text zero_bytes ImpliedXmm0To7 = None
pseudo_text zero_bytes ImpliedEaxXmm0 = None
pseudo_text zero_bytes ImpliedXmm0To2And4To6 = None
pseudo_text zero_bytes ImpliedXmm0To6 = None
pseudo_text zero_bytes ImpliedEax = None
