-- The front matter: six pseudo entries. Assumes nothing.
use Rattle.std.specs.Prelude.{ℕ, false, List, [], ◌∷◌, Some, codes}
use Rattle.kinds.specs.declared.kind.OperandKind.{OperandKind}
use Rattle.forms.specs.Names.{Name}
use Rattle.forms.specs.declared.codes.Encoding.{Encoding}
use Rattle.forms.specs.declared.codes.LengthKind.{LengthKind}
use Rattle.forms.specs.declared.codes.MemoryLabel.{MemoryLabel}
use Rattle.forms.specs.declared.codes.NamingOption.{NamingOption}
use Rattle.forms.specs.declared.codes.Prefix.{Prefix}
use Rattle.forms.specs.declared.codes.Size.{Size}
use Rattle.forms.specs.declared.codes.Table.{Table}
use Rattle.forms.specs.declared.codes.Tag.{Tag}
use Rattle.forms.specs.declared.codes.VectorLength.{VectorLength}
use Rattle.forms.specs.declared.form.Flags.{Flags}
use Rattle.forms.specs.declared.form.Form.{Form}
use Rattle.forms.specs.declared.form.Memory.{Memory}

abbrev pub no_flags : Flags
no_flags =
    record {
      lig = false;
      w = false;
      wig = false;
      fwait = false;
      modrm = false;
      broadcast = false;
      rounding = false;
      sae = false;
      mask = false;
      zeroing = false;
      fpu = false;
    }

-- A form with a tag, an opcode of one byte, no operands, and all else 0.
abbrev pub pseudo_form : Tag → Form
pseudo_form tag =
    record {
      encoding = Encoding.Legacy;
      table = Table.Normal;
      prefix = Prefix.Absent;
      opcode = 0;
      wide = false;
      address = Size.Absent;
      operand = Size.Absent;
      length = VectorLength.V128;
      lkind = LengthKind.Absent;
      flags = no_flags;
      group = Some 0;
      rm = Some 0;
      kinds = OperandKind.Absent ∷ OperandKind.Absent ∷ OperandKind.Absent ∷ OperandKind.Absent ∷ OperandKind.Absent ∷ [];
      count = 0;
      tag = tag;
    }

abbrev pub front_forms : List Form
front_forms =
    pseudo_form Tag.Invalid
    ∷ pseudo_form Tag.DeclareByte
    ∷ pseudo_form Tag.DeclareWord
    ∷ pseudo_form Tag.DeclareDword
    ∷ pseudo_form Tag.DeclareQword
    ∷ pseudo_form Tag.ZeroBytes
    ∷ []

abbrev pub no_memory : Memory
no_memory = record { label = MemoryLabel.Plain; size = 0 }

-- A name with a mnemonic and all else 0.
abbrev pub pseudo_name : List ℕ → Name
pseudo_name mnemonic = record { mnemonic = mnemonic; option = NamingOption.Plain; memory = no_memory; broadcast = no_memory }

abbrev pub front_names : List Name
front_names =
    pseudo_name (codes "INVALID")
    ∷ pseudo_name (codes "DeclareByte")
    ∷ pseudo_name (codes "DeclareWord")
    ∷ pseudo_name (codes "DeclareDword")
    ∷ pseudo_name (codes "DeclareQword")
    ∷ pseudo_name (codes "Zero_bytes")
    ∷ []
