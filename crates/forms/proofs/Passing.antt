-- What is known of a row that passes. Assumes nothing.
use Rattle.std.proofs.Common.{◌≡◌, ℕ, ◌≤◌, Bool, false, cond, ◌||◌, eqb, Some, None, Ok, Option, refl, ap, arith}
use mathlib.Core.Logic.{∥∥₁_elim}
use native.Mathlib.Bridge.{le_prop}
use Rattle.std.proofs.lemmas.Bool.Decides.{nat_tests}
use Rattle.forms.specs.Checks.{or_else, codes_outside, operands_wrong, no_size, opcode_wrong, index_outside, length_wrong, broadcast_wrong, operands_fault, numbers_fault, form_fault}
use Rattle.forms.specs.Forms.{typed, answered, InSets}
use Rattle.forms.specs.Operands.{kinds_of}
use Rattle.forms.specs.Passed.{Passed}
use Rattle.forms.specs.declared.fault.RowFault.{RowFault}
use Rattle.forms.specs.declared.form.Form.{Form}
use Rattle.forms.specs.declared.row.FormRow.{FormRow}

none_both : (a b : Option RowFault) → or_else a b ≡ None → (a ≡ None) × (b ≡ None)
none_both (Some e) b h = let z : ◌≡◌ {A = ℕ} 0 1 = cc in absurd (omega arith)
none_both None b h = (refl, h)

four : (a b c d : Bool) (v w x y : RowFault) → cond a (Some v) (cond b (Some w) (cond c (Some x) (cond d (Some y) None))) ≡ None → (a ≡ false) × (b ≡ false) × (c ≡ false)
four a b c d v w x y h = grind (arith, nat_tests)

five : (a b c d e : Bool) (u v w x y : RowFault) → cond a (Some u) (cond b (Some v) (cond c (Some w) (cond d (Some x) (cond e (Some y) None)))) ≡ None → (a ≡ false) × (c ≡ false) × (d ≡ false)
five a b c d e u v w x y h = grind (arith, nat_tests)

or_false : (a b : Bool) → (a || b) ≡ false → (a ≡ false) × (b ≡ false)
or_false a b h = grind (arith, nat_tests)

pub in_sets : (r : FormRow) → form_fault r ≡ None → InSets r
in_sets r e =
    let both = none_both (operands_fault r (kinds_of r.kinds)) (numbers_fault r (kinds_of r.kinds)) e in
    let first = four (codes_outside r) (eqb r.encoding 5) (operands_wrong (kinds_of r.kinds) r.count) _ _ _ _ _ both.0 in
    let second = five (no_size r.address || no_size r.operand) (opcode_wrong r.opcode r.bytes) (index_outside r.group || index_outside r.rm) (length_wrong r) (broadcast_wrong (kinds_of r.kinds) r.flags) _ _ _ _ _ both.1 in
    let codes : codes_outside r ≡ false = first.0 in
    let not_mvex : eqb r.encoding 5 ≡ false = first.1 in
    let operands : operands_wrong (kinds_of r.kinds) r.count ≡ false = first.2 in
    let sizes : (no_size r.address || no_size r.operand) ≡ false = second.0 in
    let indices : (index_outside r.group || index_outside r.rm) ≡ false = second.1 in
    let long : length_wrong r ≡ false = second.2 in
    record {
      encoding = grind (arith, nat_tests);
      table = grind (arith, nat_tests);
      prefix = grind (arith, nat_tests);
      lkind = grind (arith, nat_tests);
      length = grind (arith, nat_tests);
      tag = grind (arith, nat_tests);
      address = (or_false (no_size r.address) (no_size r.operand) sizes).0;
      operand = (or_false (no_size r.address) (no_size r.operand) sizes).1;
      group = (or_false (index_outside r.group) (index_outside r.rm) indices).0;
      rm = (or_false (index_outside r.group) (index_outside r.rm) indices).1;
      count = grind (arith, nat_tests);
    }

-- The description of a row that passes is its form.
pub Passed_row : (r : FormRow) → form_fault r ≡ None → Passed (typed r)
Passed_row r e = ∣ (r, ap (λ o. answered o (typed r)) e) ∣₁

made_few : (f : Form) (r : FormRow) (o : Option RowFault) → form_fault r ≡ o → answered o (typed r) ≡ Ok f → f.count ≤ 5
made_few f r (Some e) is made = let z : ◌≡◌ {A = ℕ} 0 1 = cc in absurd (omega arith)
made_few f r None is made =
    let same : typed r ≡ f = cc in
    let few = (in_sets r is).count in
    omega (arith, ap (λ g. g.count) same)

-- A description has at most five operands.
pub few_operands : (f : Form) → Passed f → f.count ≤ 5
few_operands f p = ∥∥₁_elim p le_prop (λ x. made_few f x.0 (form_fault x.0) refl x.1)
