-- The text of a whole signature, by its parts. Assumes nothing.
use Rattle.std.proofs.Common.{◌≡◌, ◌+◌, ◌≤◌, ℕ, List, false, cond, ltb, [], ◌∷◌, ◌++◌, length, drop, Some, None, Option, codes, sym, ap, ◌∙◌, append_assoc, append-nil, arith, length-drop, length-take, rules}
use Rattle.std.specs.List.{list_any}
use Rattle.std.specs.Option.{is_some, unwrap_or}
use Rattle.std.proofs.lemmas.Bool.{cond_both}
use Rattle.text.specs.Texts.{upper_text, when}
use Rattle.kinds.specs.Kinds.{hides_all}
use Rattle.forms.specs.Forms.{counted}
use Rattle.forms.specs.Names.{Name}
use Rattle.forms.specs.declared.codes.NamingOption.{NamingOption}
use Rattle.forms.specs.declared.form.Form.{Form}
use Rattle.signature.specs.Pieces.{pseudo, space, own_text, spelled}
use Rattle.signature.specs.Settings.{setting_of, start_of, walked}
use Rattle.signature.specs.Signature.{instruction, signature_text}
use Rattle.signature.specs.Walk.{walk}
use Rattle.signature.proofs.OperandTexts.{spelled-given}

start_small : (option : NamingOption) → start_of option ≤ 1
start_small option = search rules

-- the places are 0 to 4
pub few_walked : (f : Form) (option : NamingOption) → f.count ≤ 5 → start_of option + length (walked f option) ≤ 5
few_walked f option few =
    let small = start_small option in
    cond_both (list_any hides_all (counted f)) [] (drop (start_of option) (counted f)) (λ ks. start_of option + length ks ≤ 5)
    (λ _. omega arith)
    (λ _. simp (length-drop, length-take) (omega arith))

module _ (f : Form) (n : Name) where
  by_own_text : {o : Option (List ℕ)} → own_text f.tag ≡ o → signature_text f n ≡ spelled (setting_of f n) (cond (is_some o) (pseudo f.tag ∷ []) (instruction f n))
  by_own_text e = ap (λ o. spelled (setting_of f n) (cond (is_some o) (pseudo f.tag ∷ []) (instruction f n))) e

  pub pseudo_whole : {t : List ℕ} → own_text f.tag ≡ Some t → signature_text f n ≡ t
  pseudo_whole e = by_own_text e ∙ append-nil (unwrap_or (own_text f.tag) []) ∙ ap (λ o. unwrap_or o []) e

  pub walk_whole : own_text f.tag ≡ None
      → signature_text f n ≡ (upper_text n.mnemonic ++ when (ltb 0 (length (walked f n.option))) (codes " ")) ++ spelled (setting_of f n) (walk (setting_of f n) [] false (start_of n.option) (walked f n.option))
  walk_whole e =
      by_own_text e
      ∙ ap (λ t. upper_text n.mnemonic ++ t) (spelled-given (setting_of f n) (ltb 0 (length (walked f n.option))) space _)
      ∙ sym (append_assoc (upper_text n.mnemonic) (when (ltb 0 (length (walked f n.option))) (codes " ")) _)
