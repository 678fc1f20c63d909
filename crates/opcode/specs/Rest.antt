-- What stands after the head of an opcode string: the ModRM part, and the suffixes of the operands. Assumes nothing.
use Rattle.std.specs.Prelude.{ℕ, ◌+◌, ◌/◌, ◌%◌, Bool, true, false, if◌then◌else◌, not, ◌&&◌, ◌||◌, List, [], ◌∷◌, ◌++◌, length, Some, None, codes, Option, nat_lt}
use Rattle.text.specs.Texts.{decimal_text, when}
use Rattle.kinds.specs.Roles.{brings_modrm, is_memory, is_vsib, fixes_rm}
use Rattle.kinds.specs.Rows.{suffix_of}
use Rattle.kinds.specs.declared.kind.OperandKind.{OperandKind}
use Rattle.kinds.specs.declared.table.Suffix.{Suffix}
use Rattle.kinds.specs.declared.table.Suffix.TheVariants.{Plain, Cb, Cw, Cd, Cp, Ib, Iw, Id, Io, Is4, Is5, Mo}
use Rattle.forms.specs.declared.codes.Encoding.{Encoding}
use Rattle.forms.specs.declared.codes.Encoding.TheVariants.{Legacy, Vex, Evex}
use Rattle.forms.specs.declared.form.Form.{Form}
use Rattle.opcode.specs.Operands.{has}

-- ---- the ModRM byte field by field

-- three binary digits
abbrev pub binary_text : ℕ → List ℕ
binary_text n = (48 + n / 4 % 2) ∷ (48 + n / 2 % 2) ∷ (48 + n % 2) ∷ []

-- a field that the form fixes, or else its name
abbrev pub bits_text : List ℕ → Option ℕ → List ℕ
bits_text name None = name
bits_text name (Some n) = binary_text n

-- memory with a SIB byte has 4 in the rm field
abbrev pub rm_field : Form → List OperandKind → Option ℕ
rm_field f ks = if has fixes_rm ks then Some 4 else f.rm

abbrev pub mod_text : Bool → List ℕ
mod_text memory = if memory then codes " !(11):" else codes " 11:"

-- whether an operand is memory alone, and the reg and rm fields
abbrev pub info_text : Bool → Option ℕ → Option ℕ → List ℕ
info_text memory rrr bbb = mod_text memory ++ (bits_text (codes "rrr") rrr ++ (codes ":" ++ bits_text (codes "bbb") bbb))

-- ---- the ModRM byte in brief

-- EVEX, XOP and 3DNow! have a ModRM byte beside any operand
abbrev pub always_modrm : Encoding → Bool
always_modrm Legacy = false
always_modrm Vex = false
always_modrm _ = true

abbrev pub has_mod_rm : Encoding → List OperandKind → Bool
has_mod_rm e ks = nat_lt 0 (length ks) && (always_modrm e || has brings_modrm ks)

-- only EVEX says that the memory has a vector of indices
abbrev pub has_vsib : Encoding → List OperandKind → Bool
has_vsib Evex ks = has is_vsib ks
has_vsib _ ks = false

-- the group, or else r where that is shown
abbrev pub slash_text : Option ℕ → Bool → List ℕ
slash_text (Some group) shown = codes " /" ++ decimal_text group
slash_text None shown = when shown (codes " /r")

abbrev pub brief_text : Form → List OperandKind → List ℕ
brief_text f ks =
    slash_text f.group (not (has_vsib f.encoding ks) && has_mod_rm f.encoding ks)
    ++ when (has_vsib f.encoding ks) (codes " /vsib")

abbrev pub modrm_text : Form → List OperandKind → List ℕ
modrm_text f ks = if f.flags.modrm then info_text (has is_memory ks) f.group (rm_field f ks) else brief_text f ks

-- ---- the suffixes

abbrev pub suffix_text : Suffix → List ℕ
suffix_text Plain = []
suffix_text Cb = codes " cb"
suffix_text Cw = codes " cw"
suffix_text Cd = codes " cd"
suffix_text Cp = codes " cp"
suffix_text Ib = codes " ib"
suffix_text Iw = codes " iw"
suffix_text Id = codes " id"
suffix_text Io = codes " io"
suffix_text Is4 = codes " /is4"
suffix_text Is5 = codes " /is5"
suffix_text Mo = codes " mo"

-- an /is5 holds the immediate that would come next, so it ends the suffixes
abbrev pub is_last : Suffix → Bool
is_last Is5 = true
is_last _ = false

abbrev pub suffixes_text : List OperandKind → List ℕ
suffixes_text [] = []
suffixes_text (k ∷ ks) = suffix_text (suffix_of k) ++ (if is_last (suffix_of k) then [] else suffixes_text ks)

abbrev pub rest_text : Form → List OperandKind → List ℕ
rest_text f ks = modrm_text f ks ++ suffixes_text ks
