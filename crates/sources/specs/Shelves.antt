-- What a shelf of rows means: a form's row and a naming's row at each place. Assumes nothing.
use Rattle.std.specs.Prelude.{ℕ, ◌+◌, min, cond, List, [], ◌∷◌, map, length, take, Some, None, Ok, Err, Option, Result, nat_le}
use Rattle.forms.specs.Checks.{pair_fault}
use Rattle.forms.specs.Forms.{typed}
use Rattle.forms.specs.Names.{Name, name_of}
use Rattle.forms.specs.declared.fault.RowFault.{RowFault}
use Rattle.forms.specs.declared.form.Form.{Form}
use Rattle.forms.specs.declared.row.FormRow.{FormRow}
use Rattle.forms.specs.declared.row.NamingRow.{NamingRow}
use Rattle.sources.specs.Sources.{most, checked}
use Rattle.sources.specs.declared.fault.SourceFault.{SourceFault}

-- A fault with its place, or else what comes after.
abbrev pub at_place : ℕ → Option RowFault → Option (ℕ × RowFault) → Option (ℕ × RowFault)
at_place i (Some e) rest = Some (i, e)
at_place i None rest = rest

-- The first pair that fails, from place i on; a row with no partner is in no pair.
abbrev pub refused_from : ℕ → List FormRow → List NamingRow → Option (ℕ × RowFault)
refused_from i [] ns = None
refused_from i (r ∷ rs) [] = None
refused_from i (r ∷ rs) (n ∷ ns) = at_place i (pair_fault r n) (refused_from (i + 1) rs ns)

abbrev pub first_refused : List FormRow → List NamingRow → Option (ℕ × RowFault)
first_refused rs ns = refused_from 0 rs ns

-- As many pairs as the shorter list has rows.
abbrev pub pairs : List FormRow → List NamingRow → ℕ
pairs rs ns = min (length rs) (length ns)

-- The fault of the first pair that fails, and after that too many pairs.
abbrev pub shelf_answer : Option (ℕ × RowFault) → ℕ → Result (Unit {0}) SourceFault
shelf_answer (Some p) count = Err (SourceFault.Row p.1)
shelf_answer None count = cond (nat_le count most) (Ok tt) (Err SourceFault.TooManyEntries)

abbrev pub check_shelf : List FormRow → List NamingRow → Result (Unit {0}) SourceFault
check_shelf rs ns = shelf_answer (first_refused rs ns) (pairs rs ns)

-- The forms and the names of the pairs.
abbrev pub shelf_forms : List FormRow → List NamingRow → List Form
shelf_forms rs ns = checked (check_shelf rs ns) (map typed (take (pairs rs ns) rs))

abbrev pub shelf_names : List FormRow → List NamingRow → List Name
shelf_names rs ns = checked (check_shelf rs ns) (map name_of (take (pairs rs ns) ns))
