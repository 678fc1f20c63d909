-- How many entries of a naming source are alike. Assumes nothing.
use Rattle.std.specs.Prelude.{ℕ, Bool, ◌&&◌, List, length, zip, count_by, ◌==◌}
use Rattle.forms.specs.Names.{Name}
use Rattle.forms.specs.declared.form.Form.{Form}

-- The entry has the opcode, and a mnemonic of so many letters.
abbrev pub is_like : ℕ → ℕ → Form × Name → Bool
is_like opcode letters e = e.0.opcode == opcode && length e.1.mnemonic == letters

-- How many of the entries, each a form and its name, are so.
abbrev pub alike : ℕ → ℕ → List Form → List Name → ℕ
alike opcode letters fs ms = count_by (is_like opcode letters) (zip fs ms)
