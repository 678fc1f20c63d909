-- What descriptions and namings hold. Assumes nothing.
use Rattle.std.specs.Prelude.{take, Ok, Err, Result}
use Rattle.forms.specs.Names.{Name}
use Rattle.forms.specs.declared.description.Description.{Description}
use Rattle.forms.specs.declared.form.Form.{Form}
use Rattle.forms.specs.declared.naming.Naming.{Naming}

abbrev pub form_in : Description → Form
form_in d = d.form

abbrev pub name_in : Naming → Name
name_in n = record { mnemonic = take n.used n.text; option = n.option; memory = n.memory; broadcast = n.broadcast }

-- What came of making or fetching one.
abbrev pub form_got : {E : Type 0} → Result Description E → Result Form E
form_got (Ok d) = Ok (form_in d)
form_got (Err e) = Err e

abbrev pub name_got : {E : Type 0} → Result Naming E → Result Name E
name_got (Ok n) = Ok (name_in n)
name_got (Err e) = Err e
