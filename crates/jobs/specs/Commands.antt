-- What a line of a job says. Assumes nothing.
use Rattle.std.specs.Prelude.{ℕ, Bool, true, false, cond, not, ◌&&◌, ◌||◌, List, length, Some, None, codes, Option, ◌==◌, nat_lt, slice_index}
use Rattle.std.specs.List.{list_all}
use Rattle.std.specs.Str.{bytes_eq}
use Rattle.text.specs.Numbers.{decimal_of}
use Rattle.forms.specs.declared.row.FormRow.{FormRow}
use Rattle.jobs.specs.Fields.{field, fields}
use Rattle.jobs.specs.Rows.{NameRow, name_row, row_in, with_some}
use Rattle.jobs.specs.declared.command.Command.{Command}
use Rattle.jobs.specs.declared.command.Command.TheVariants.{Nothing, Row, Check, Texts, Segment, Open, Entries, Unknown}

-- a command, with the texts in it as lists
pub data Said : Type 0 where
  nothing : Said
  row : FormRow → NameRow → Said
  check : Said
  texts : Said
  segment : List ℕ → Said
  opened : Bool → Option (ℕ × ℕ) → Said
  entries : Said
  unknown : Said

abbrev pub said : Command → Said
said Nothing = nothing
said (Row form naming) = row form (name_row naming)
said Check = check
said Texts = texts
said (Segment name) = segment name.now
said (Open o) = opened o.front o.window
said Entries = entries
said Unknown = unknown

-- nothing but spaces
abbrev pub blank : List ℕ → Bool
blank t = list_all (λ b. b == 32) t

-- a blank line, or one that begins with `#`
abbrev pub passed_over : List ℕ → Bool
passed_over t = blank t || (nat_lt 0 (length t) && slice_index t 0 == 35)

-- A B
unfoldable pub window_of : List ℕ → List ℕ → Option (ℕ × ℕ)
window_of a b = with_some (decimal_of a) λ from. with_some (decimal_of b) λ to. Some (from, to)

abbrev pub opened_at : Bool → Option (ℕ × ℕ) → Said
opened_at front None = unknown
opened_at front (Some w) = opened front (Some w)

-- the fields of a line are `open` and then: nothing, A B, front, or front A B
abbrev pub open_of : List (List ℕ) → Said
open_of fs =
    cond (length fs == 1) (opened false None)
    (cond (length fs == 3) (opened_at false (window_of (field fs 1) (field fs 2)))
    (cond (not (bytes_eq (field fs 1) (codes "front"))) unknown
    (cond (length fs == 2) (opened true None)
    (cond (length fs == 4) (opened_at true (window_of (field fs 2) (field fs 3))) unknown))))

abbrev pub row_said : Option (FormRow × NameRow) → Said
row_said None = unknown
row_said (Some r) = row r.0 r.1

-- a line of one word
unfoldable pub word_of : List ℕ → Said
word_of t =
    cond (bytes_eq t (codes "check")) check
    (cond (bytes_eq t (codes "texts")) texts
    (cond (bytes_eq t (codes "entries")) entries unknown))

-- a line by its first field, where one stands alone by that, and a segment by its name
unfoldable pub command_in : List (List ℕ) → Said
command_in fs =
    cond (bytes_eq (field fs 0) (codes "row")) (row_said (row_in fs))
    (cond (bytes_eq (field fs 0) (codes "open")) (open_of fs)
    (cond (length fs == 1) (word_of (field fs 0))
    (cond (length fs == 2 && (bytes_eq (field fs 0) (codes "segment") && not (length (field fs 1) == 0)))
    (segment (field fs 1)) unknown)))

-- what a line says
abbrev pub command_of : List ℕ → Said
command_of t = cond (passed_over t) nothing (command_in (fields t))
