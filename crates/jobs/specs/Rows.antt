-- What a row's line says. Assumes nothing.
use Rattle.std.specs.Prelude.{ℕ, cond, ◌&&◌, List, [], ◌∷◌, length, ℤ, Some, None, codes, Option, ◌==◌, nat_le, nat_lt, slice_index_or}
use Rattle.std.specs.Option.{option_map}
use Rattle.std.specs.Str.{bytes_eq}
use Rattle.forms.specs.declared.row.FormRow.{FormRow}
use Rattle.forms.specs.declared.row.MemoryRow.{MemoryRow}
use Rattle.forms.specs.declared.row.NamingRow.{NamingRow}
use Rattle.text.specs.Numbers.{decimal_of, hex_of, index_of}
use Rattle.jobs.specs.Fields.{field, fields, split}

-- what follows from a value, if there is one
abbrev pub with_some : {A B : Type 0} → Option A → (A → Option B) → Option B
with_some None f = None
with_some (Some x) f = f x

-- a field as a number of one to five decimal digits, and as the same or `-1`
unfoldable pub number : List ℕ → Option ℕ
number t = decimal_of t

unfoldable pub index : List ℕ → Option ℤ
index t = index_of t

-- CODE: two digits are an opcode of one byte, four are one of two bytes
unfoldable pub code_of : List ℕ → Option (ℕ × ℕ)
code_of t = cond (length t == 2) (option_map (λ n. (n, 1)) (hex_of 2 t)) (option_map (λ n. (n, 2)) (hex_of 4 t))

-- KINDS: up to five numbers between commas, or `-` for none. The five kinds of a row, where past the listed stands 12, no operand, and how many are listed
abbrev pub listed : List ℕ → List (List ℕ)
listed t = cond (bytes_eq t (codes "-")) [] (split 44 t)

abbrev pub kind_at : List (List ℕ) → ℕ → Option ℕ
kind_at ks k = cond (nat_lt k (length ks)) (decimal_of (slice_index_or ks k [])) (Some 12)

abbrev pub five_kinds : List (List ℕ) → Option (List ℕ)
five_kinds ks =
    with_some (kind_at ks 0) λ a.
    with_some (kind_at ks 1) λ b.
    with_some (kind_at ks 2) λ c.
    with_some (kind_at ks 3) λ d.
    with_some (kind_at ks 4) λ e.
    Some (a ∷ b ∷ c ∷ d ∷ e ∷ [])

unfoldable pub kinds_of : List ℕ → Option (List ℕ × ℕ)
kinds_of t =
    cond (nat_le (length (listed t)) 5)
    (option_map (λ kinds. (kinds, length (listed t))) (five_kinds (listed t))) None

-- MEM and BMEM: label:size
abbrev pub memory_of : List ℕ → Option MemoryRow
memory_of t =
    cond (length (split 58 t) == 2)
    (with_some (decimal_of (slice_index_or (split 58 t) 0 [])) λ label.
    with_some (decimal_of (slice_index_or (split 58 t) 1 [])) λ size.
    Some (record { label = label; size = size }))
    None

-- ENC TABLE PREFIX CODE ASZ OSZ LEN LKIND FLAGS GROUP RM KINDS TAG
abbrev pub form_of : List (List ℕ) → Option FormRow
form_of fs =
    with_some (code_of (field fs 4)) λ code.
    with_some (kinds_of (field fs 12)) λ kinds.
    with_some (number (field fs 1)) λ encoding.
    with_some (number (field fs 2)) λ table.
    with_some (number (field fs 3)) λ prefix.
    with_some (number (field fs 5)) λ address.
    with_some (number (field fs 6)) λ operand.
    with_some (number (field fs 7)) λ length.
    with_some (number (field fs 8)) λ lkind.
    with_some (hex_of 4 (field fs 9)) λ flags.
    with_some (index (field fs 10)) λ group.
    with_some (index (field fs 11)) λ rm.
    with_some (number (field fs 13)) λ tag.
    Some
    (record {
      encoding = encoding;
      table = table;
      prefix = prefix;
      opcode = code.0;
      bytes = code.1;
      address = address;
      operand = operand;
      length = length;
      lkind = lkind;
      flags = flags;
      group = group;
      rm = rm;
      kinds = kinds.0;
      count = kinds.1;
      tag = tag;
    })

-- a naming row, with its mnemonic as a list
pub record NameRow : Type 0 where
  pub mnemonic : List ℕ
  pub option : ℕ
  pub memory : MemoryRow
  pub broadcast : MemoryRow

abbrev pub name_row : NamingRow → NameRow
name_row n = record { mnemonic = n.mnemonic.now; option = n.option; memory = n.memory; broadcast = n.broadcast }

-- NAME OPT MEM BMEM
abbrev pub naming_of : List (List ℕ) → Option NameRow
naming_of fs =
    cond (length (field fs 14) == 0) None
    (with_some (number (field fs 15)) λ option.
    with_some (memory_of (field fs 16)) λ memory.
    with_some (memory_of (field fs 17)) λ broadcast.
    Some (record { mnemonic = field fs 14; option = option; memory = memory; broadcast = broadcast }))

abbrev pub rows_seen : FormRow × NamingRow → FormRow × NameRow
rows_seen r = (r.0, name_row r.1)

-- a row: eighteen fields, of which the first is `row`
abbrev pub row_in : List (List ℕ) → Option (FormRow × NameRow)
row_in fs =
    cond (length fs == 18 && bytes_eq (field fs 0) (codes "row"))
    (with_some (form_of fs) λ form. with_some (naming_of fs) λ name. Some (form, name)) None

-- the row that a line spells
abbrev pub row_of : List ℕ → Option (FormRow × NameRow)
row_of t = row_in (fields t)
