-- What a row says, in types: each code by the list of what the codes of its set stand for. Assumes nothing.
use Rattle.std.specs.Prelude.{◌≡◌, ℕ, ◌<◌, false, if◌then◌else◌, List, [], ◌∷◌, take, ℤ, pos, negsuc, Some, None, Ok, Err, Option, Result, ◌==◌, slice_get, slice_index_or}
use Rattle.std.specs.Option.{ok_or}
use Rattle.kinds.specs.declared.kind.OperandKind.{OperandKind}
use Rattle.forms.specs.Checks.{bit, index_outside, no_size, form_fault}
use Rattle.forms.specs.Operands.{kinds_of}
use Rattle.forms.specs.declared.codes.Encoding.{Encoding}
use Rattle.forms.specs.declared.codes.LengthKind.{LengthKind}
use Rattle.forms.specs.declared.codes.Prefix.{Prefix}
use Rattle.forms.specs.declared.codes.Size.{Size}
use Rattle.forms.specs.declared.codes.Table.{Table}
use Rattle.forms.specs.declared.codes.Tag.{Tag}
use Rattle.forms.specs.declared.codes.VectorLength.{VectorLength}
use Rattle.forms.specs.declared.fault.RowFault.{RowFault}
use Rattle.forms.specs.declared.form.Flags.{Flags}
use Rattle.forms.specs.declared.form.Form.{Form}
use Rattle.forms.specs.declared.row.FormRow.{FormRow}

-- What the codes of each set stand for, from 0.
abbrev pub encodings : List Encoding
encodings = Encoding.Legacy ∷ Encoding.Vex ∷ Encoding.Evex ∷ Encoding.Xop ∷ Encoding.D3now ∷ []

abbrev pub tables : List Table
tables =
    Table.Normal ∷ Table.T0f ∷ Table.T0f38 ∷ Table.T0f3a ∷ Table.Map5 ∷ Table.Map6 ∷ Table.Map8 ∷ Table.Map9 ∷ Table.Map10 ∷ []

abbrev pub prefixes : List Prefix
prefixes = Prefix.Absent ∷ Prefix.Pnp ∷ Prefix.P66 ∷ Prefix.Pf3 ∷ Prefix.Pf2 ∷ []

abbrev pub length_kinds : List LengthKind
length_kinds = LengthKind.Absent ∷ LengthKind.L128 ∷ LengthKind.L0 ∷ LengthKind.Lz ∷ []

abbrev pub lengths : List VectorLength
lengths = VectorLength.V128 ∷ VectorLength.V256 ∷ VectorLength.V512 ∷ []

abbrev pub tags : List Tag
tags =
    Tag.Plain
    ∷ Tag.Invalid
    ∷ Tag.DeclareByte
    ∷ Tag.DeclareWord
    ∷ Tag.DeclareDword
    ∷ Tag.DeclareQword
    ∷ Tag.ZeroBytes
    ∷ Tag.TwoByte
    ∷ Tag.DescriptorTable
    ∷ Tag.BareSt
    ∷ Tag.ImpliedEdxEax
    ∷ Tag.ImpliedXmm0
    ∷ Tag.ImpliedXmm0To7
    ∷ Tag.ImpliedEaxXmm0
    ∷ Tag.ImpliedXmm0To2And4To6
    ∷ Tag.ImpliedXmm0To6
    ∷ Tag.ImpliedEax
    ∷ []

abbrev pub encoding_of : ℕ → Encoding
encoding_of n = slice_index_or encodings n Encoding.Legacy

abbrev pub table_of : ℕ → Table
table_of n = slice_index_or tables n Table.Normal

abbrev pub prefix_of : ℕ → Prefix
prefix_of n = slice_index_or prefixes n Prefix.Absent

abbrev pub lkind_of : ℕ → LengthKind
lkind_of n = slice_index_or length_kinds n LengthKind.Absent

abbrev pub length_of : ℕ → VectorLength
length_of n = slice_index_or lengths n VectorLength.V128

abbrev pub tag_of : ℕ → Tag
tag_of n = slice_index_or tags n Tag.Plain

-- A size in bits; 0 is no size.
abbrev pub size_of : ℕ → Size
size_of bits = if bits == 16 then Size.S16 else (if bits == 32 then Size.S32 else (if bits == 64 then Size.S64 else Size.Absent))

-- What a code of a set stands for, or the refusal of a code past its last.
abbrev pub decoded : {X : Type 0} → List X → RowFault → ℕ → Result X RowFault
decoded meanings fault code = ok_or (slice_get meanings code) fault

-- The code after the last encoding is that of MVEX.
abbrev pub encoding_from : ℕ → Result Encoding RowFault
encoding_from code = if code == 5 then Err RowFault.Mvex else decoded encodings RowFault.CodeOutside code

abbrev pub size_from : ℕ → Result Size RowFault
size_from bits = if no_size bits then Err RowFault.FixedSize else Ok (size_of bits)

-- A group or rm index; -1 is none.
abbrev pub index_of : ℤ → Option ℕ
index_of (pos n) = Some n
index_of (negsuc n) = None

abbrev pub flags_of : ℕ → Flags
flags_of f =
    record {
      lig = bit 1 f;
      w = bit 2 f;
      wig = bit 4 f;
      fwait = bit 8 f;
      modrm = bit 16 f;
      broadcast = bit 32 f;
      rounding = bit 64 f;
      sae = bit 128 f;
      mask = bit 256 f;
      zeroing = bit 512 f;
      fpu = bit 1024 f;
    }

-- The form that a row stands for.
abbrev pub typed : FormRow → Form
typed r =
    record {
      encoding = encoding_of r.encoding;
      table = table_of r.table;
      prefix = prefix_of r.prefix;
      opcode = r.opcode;
      wide = (r.bytes == 2);
      address = size_of r.address;
      operand = size_of r.operand;
      length = length_of r.length;
      lkind = lkind_of r.lkind;
      flags = flags_of r.flags;
      group = index_of r.group;
      rm = index_of r.rm;
      kinds = kinds_of r.kinds;
      count = r.count;
      tag = tag_of r.tag;
    }

-- What is made of a row: the fault of the first check that it fails, or else its form.
abbrev pub answered : {X : Type 0} → Option RowFault → X → Result X RowFault
answered (Some e) x = Err e
answered None x = Ok x

abbrev pub described : FormRow → Result Form RowFault
described r = answered (form_fault r) (typed r)

-- The codes and sizes that a form is made of are in their sets.
pub record InSets (r : FormRow) : Type 0 where
  pub encoding : r.encoding < 5
  pub table : r.table < 9
  pub prefix : r.prefix < 5
  pub lkind : r.lkind < 4
  pub length : r.length < 3
  pub tag : r.tag < 17
  pub address : no_size r.address ≡ false
  pub operand : no_size r.operand ≡ false
  pub group : index_outside r.group ≡ false
  pub rm : index_outside r.rm ≡ false
  pub count : r.count < 6

-- The operands of a form, in their order.
abbrev pub counted : Form → List OperandKind
counted f = take f.count f.kinds
