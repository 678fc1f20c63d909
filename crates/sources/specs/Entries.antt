-- An entry of a naming source: its form and its name. Assumes nothing.
use Rattle.std.specs.Prelude.{Ok, Err, Result}
use Rattle.forms.specs.Made.{form_in, name_in}
use Rattle.forms.specs.Names.{Name}
use Rattle.forms.specs.declared.entry.Entry.{Entry}
use Rattle.forms.specs.declared.form.Form.{Form}

abbrev pub entry_in : Entry → Form × Name
entry_in e = (form_in e.description, name_in e.naming)

-- What came of fetching one.
abbrev pub entry_got : {E : Type 0} → Result Entry E → Result (Form × Name) E
entry_got (Ok e) = Ok (entry_in e)
entry_got (Err f) = Err f

-- A form beside its name, or the first refusal of the two.
abbrev pub both : {E : Type 0} → Result Form E → Result Name E → Result (Form × Name) E
both (Ok f) (Ok m) = Ok (f, m)
both (Ok f) (Err e) = Err e
both (Err e) m = Err e
