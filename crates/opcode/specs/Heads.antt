-- What stands before the ModRM part of an opcode string: the parts in the order in which they are read. Assumes nothing.
use Rattle.std.specs.Prelude.{ℕ, ◌/◌, ◌%◌, Bool, if◌then◌else◌, List, [], ◌++◌, Some, None, codes, Option, unwrap_or}
use Rattle.std.specs.Option.{option_map_or}
use Rattle.text.specs.Texts.{hex_text, when}
use Rattle.kinds.specs.Roles.{is_sti}
use Rattle.kinds.specs.declared.kind.OperandKind.{OperandKind}
use Rattle.kinds.specs.declared.table.Width.{Width}
use Rattle.kinds.specs.declared.table.Width.TheVariants.{W8, W16, W32, W64}
use Rattle.forms.specs.declared.codes.LengthKind.{LengthKind}
use Rattle.forms.specs.declared.codes.Prefix.{Prefix}
use Rattle.forms.specs.declared.codes.Prefix.TheVariants.{Pnp, P66, Pf3, Pf2}
use Rattle.forms.specs.declared.codes.Size.{Size}
use Rattle.forms.specs.declared.codes.Size.TheVariants.{S16, S32, S64}
use Rattle.forms.specs.declared.codes.Table.{Table}
use Rattle.forms.specs.declared.codes.Table.TheVariants.{Normal, T0f, T0f38, T0f3a, Map5, Map6, Map8, Map9, Map10}
use Rattle.forms.specs.declared.codes.VectorLength.{VectorLength}
use Rattle.forms.specs.declared.codes.VectorLength.TheVariants.{V128, V256, V512}
use Rattle.forms.specs.declared.form.Flags.{Flags}
use Rattle.forms.specs.declared.form.Form.{Form}
use Rattle.opcode.specs.Operands.{has, first_register}

-- the opcode's bytes, of which a wide opcode has two
abbrev pub op_code_text : ℕ → Bool → List ℕ
op_code_text value wide = when wide (hex_text (value / 256) ++ codes " ") ++ hex_text (value % 256)

-- ---- the words of the prefix and of the table, which each head sets apart in its own way

-- the byte that a mandatory prefix is, in hexadecimal; NP says that none of 66, F3 and F2 may stand there
abbrev pub prefix_word : Prefix → Option (List ℕ)
prefix_word Prefix.Absent = None
prefix_word Pnp = Some (codes "NP")
prefix_word P66 = Some (codes "66")
prefix_word Pf3 = Some (codes "F3")
prefix_word Pf2 = Some (codes "F2")

-- a table's name, or its one or two bytes in hexadecimal
abbrev pub table_words : Table → Option (List ℕ) × Option (List ℕ)
table_words Normal = (None, None)
table_words T0f = (Some (codes "0F"), None)
table_words T0f38 = (Some (codes "0F"), Some (codes "38"))
table_words T0f3a = (Some (codes "0F"), Some (codes "3A"))
table_words Map5 = (Some (codes "MAP5"), None)
table_words Map6 = (Some (codes "MAP6"), None)
table_words Map8 = (Some (codes "X8"), None)
table_words Map9 = (Some (codes "X9"), None)
table_words Map10 = (Some (codes "XA"), None)

-- a word and a space
abbrev pub spaced : Option (List ℕ) → List ℕ
spaced word = option_map_or (λ t. t ++ codes " ") word []

-- a dot and a word
abbrev pub dotted : Option (List ℕ) → List ℕ
dotted word = option_map_or (λ t. codes "." ++ t) word []

-- ---- legacy

abbrev pub address_text : Size → List ℕ
address_text Size.Absent = []
address_text S16 = codes "a16 "
address_text S32 = codes "a32 "
address_text S64 = codes "a64 "

-- a size of 64 is REX.W, which stands right before the opcode
abbrev pub operand_text : Size → List ℕ
operand_text Size.Absent = []
operand_text S16 = codes "o16 "
operand_text S32 = codes "o32 "
operand_text S64 = []

abbrev pub prefix_text : Prefix → List ℕ
prefix_text p = spaced (prefix_word p)

-- REX.W, after the mandatory prefix
abbrev pub rex_text : Size → List ℕ
rex_text Size.Absent = []
rex_text S16 = []
rex_text S32 = []
rex_text S64 = codes "o64 "

abbrev pub table_text : Table → List ℕ
table_text t = spaced (table_words t).0 ++ spaced (table_words t).1

-- the register in the low bits of the opcode
abbrev pub register_text : Option Width → List ℕ
register_text None = []
register_text (Some W8) = codes "+rb"
register_text (Some W16) = codes "+rw"
register_text (Some W32) = codes "+rd"
register_text (Some W64) = codes "+ro"

abbrev pub legacy_head : Form → List OperandKind → List ℕ
legacy_head f ks =
    when f.flags.fwait (codes "9B ")
    ++ (address_text f.address
    ++ (operand_text f.operand
    ++ (prefix_text f.prefix
    ++ (rex_text f.operand
    ++ (table_text f.table
    ++ (op_code_text f.opcode f.wide
    ++ (register_text (first_register ks)
    ++ when (has is_sti ks) (codes "+i"))))))))

-- ---- VEX, EVEX and XOP

-- the vector length in the spelling of its kind
abbrev pub length_text : LengthKind → VectorLength → List ℕ
length_text LengthKind.Absent l = []
length_text LengthKind.L128 V128 = codes "128"
length_text LengthKind.L128 V256 = codes "256"
length_text LengthKind.L128 V512 = codes "512"
length_text LengthKind.L0 V128 = codes "L0"
length_text LengthKind.L0 V256 = codes "L1"
length_text LengthKind.L0 V512 = codes "L2"
length_text LengthKind.Lz l = codes "LZ"

-- a length that is ignored is LIG, whatever its kind
abbrev pub vector_length : Form → List ℕ
vector_length f = if f.flags.lig then codes "LIG" else length_text f.lkind f.length

-- NP is left out
abbrev pub dotted_prefix : Prefix → List ℕ
dotted_prefix Pnp = []
dotted_prefix p = dotted (prefix_word p)

-- a second byte has no dot before it
abbrev pub dotted_table : Table → List ℕ
dotted_table t = dotted (table_words t).0 ++ unwrap_or (table_words t).1 []

-- W that is ignored is WIG, whatever it is
abbrev pub w_text : Flags → List ℕ
w_text g = if g.wig then codes ".WIG" else if g.w then codes ".W1" else codes ".W0"

-- the encoding's name comes first
abbrev pub vec_head : List ℕ → Form → List ℕ
vec_head name f =
    name
    ++ (codes "."
    ++ (vector_length f
    ++ (dotted_prefix f.prefix
    ++ (dotted_table f.table
    ++ (w_text f.flags
    ++ (codes " "
    ++ op_code_text f.opcode f.wide))))))
