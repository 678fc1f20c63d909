use Rattle.std.proofs.Common.{◌≡◌, ℕ, ltb, List, [], ◌++◌, length, None, codes, false, sym, refl, ap, ◌∙◌}
use Rattle.kinds.specs.declared.kind.OperandKind.{OperandKind}
use Rattle.forms.proofs.Passing.{few_operands}
use Rattle.forms.specs.Made.{form_in, name_in}
use Rattle.forms.specs.Names.{Name}
use Rattle.forms.specs.declared.codes.NamingOption.{NamingOption}
use Rattle.forms.specs.declared.form.Form.{Form}
use Rattle.operands.specs.declared.setting.Setting.{Setting}
use Rattle.text.proofs.Writes.{then_as, stops_as}
use Rattle.text.specs.Texts.{upper_text, when}
use Rattle.signature.specs.Pieces.{own_text, spelled}
use Rattle.signature.specs.Settings.{setting_of, start_of, walked}
use Rattle.signature.specs.Signature.{signature_text}
use Rattle.signature.specs.Walk.{walk}
use Rattle.signature.proofs.Wholes.{few_walked, walk_whole}
use Rattle.signature.proofs.print.print_text.Goals as goal

-- the text by what the calls gave
as_given : (f : Form) (n : Name) {s : Setting} {m : List ℕ} {option : NamingOption} {first : ℕ} {ks : List OperandKind}
    → s ≡ setting_of f n → own_text s.tag ≡ None → m ≡ n.mnemonic → option ≡ n.option → first ≡ start_of option → ks ≡ walked f option
    → signature_text f n ≡ (upper_text m ++ when (ltb 0 (length ks)) (codes " ")) ++ spelled s (walk s [] false first ks)
as_given f n is_s none is_m is_o is_first is_ks = let e = walk_whole f n (ap (λ x. own_text x.tag) (sym is_s) ∙ none) in cc e

pub returns-in_err-print : goal.returns-in_err-print
returns-in_err-print c =
    stops_as _ _ c.in_err-print.ensures c.from_residual.ensures.1
    (as_given (form_in c.args.description.now) (name_in c.args.naming.now) c.setting_of-setting.ensures (sym c.in_default.ensures) c.mnemonic.ensures c.option-option.ensures refl c.walked-kinds.ensures)

pub print_operands-requires : goal.print_operands-requires
print_operands-requires c =
    let few = few_walked (form_in c.args.description.now) c.option-option.result (few_operands (form_in c.args.description.now) c.args.description.now.passed) in
    rw (c.start_of.ensures, c.walked-kinds.ensures) few

pub returns : goal.returns
returns c =
    then_as _ c.in_ok-print.ensures c.print_operands.ensures
    (as_given (form_in c.args.description.now) (name_in c.args.naming.now) c.setting_of-setting.ensures (sym c.in_default.ensures) c.mnemonic.ensures c.option-option.ensures c.start_of.ensures c.walked-kinds.ensures)
