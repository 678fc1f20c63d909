-- What a row and its naming stand for together. Assumes nothing.
use Rattle.std.specs.Prelude.{Ok, Err, Result}
use Rattle.forms.specs.Forms.{described}
use Rattle.forms.specs.Made.{form_in, name_in}
use Rattle.forms.specs.Names.{Name, named}
use Rattle.forms.specs.declared.entry.Entry.{Entry}
use Rattle.forms.specs.declared.fault.RowFault.{RowFault}
use Rattle.forms.specs.declared.form.Form.{Form}
use Rattle.forms.specs.declared.row.FormRow.{FormRow}
use Rattle.forms.specs.declared.row.NamingRow.{NamingRow}

-- the form and the name, or else why there is no form, or else why there is no name
abbrev pub both : Result Form RowFault → Result Name RowFault → Result (Form × Name) RowFault
both (Err e) n = Err e
both (Ok f) (Err e) = Err e
both (Ok f) (Ok n) = Ok (f, n)

abbrev pub both_of : FormRow → NamingRow → Result (Form × Name) RowFault
both_of r n = both (described r) (named n)

abbrev pub both_got : Result Entry RowFault → Result (Form × Name) RowFault
both_got (Ok x) = Ok (form_in x.description, name_in x.naming)
both_got (Err e) = Err e
