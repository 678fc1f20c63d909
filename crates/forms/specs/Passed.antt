-- A form that some row stands for which passes checks 1 to 9. Assumes nothing.
use Rattle.std.specs.Prelude.{◌≡◌, Ok}
use Rattle.forms.specs.Forms.{described}
use Rattle.forms.specs.declared.form.Form.{Form}
use Rattle.forms.specs.declared.row.FormRow.{FormRow}

abbrev pub Passed : Form → Type 0
Passed f = ∥ ((r : FormRow) × (described r ≡ Ok f)) ∥₁
