-- What is known of a naming's row that passes. Assumes nothing.
use Rattle.std.proofs.Common.{◌≡◌, ℕ, ◌≤◌, Bool, true, false, cond, ◌||◌, List, Some, None, Ok, Err, Result, refl, sym, ap, ◌∙◌, arith}
use Rattle.std.proofs.lemmas.Bool.Decides.{nat_tests}
use Rattle.std.specs.Prelude.{if◌then◌else◌, nat_lt}
use Rattle.std.specs.Result.{is_err}
use Rattle.forms.specs.Checks.{mnemonic_wrong, memory_outside}
use Rattle.forms.specs.Forms.{answered, decoded}
use Rattle.forms.specs.Names.{Name, NamePasses, options, option_of, memory_of, memories_from, name_of, named}
use Rattle.forms.specs.declared.codes.NamingOption.{NamingOption}
use Rattle.forms.specs.declared.fault.RowFault.{RowFault}
use Rattle.forms.specs.declared.form.Memory.{Memory}
use Rattle.forms.specs.declared.row.NamingRow.{NamingRow}
use Rattle.forms.proofs.Meanings.{past_last, within}

-- what a naming that has passed says of its mnemonic and its memories
module _ (t : List ℕ) (m b : Memory) (p : NamePasses t m b) where
  pub right_mnemonic : mnemonic_wrong t ≡ false
  right_mnemonic = grind (arith, nat_tests)

  pub small_memory : m.size ≤ 512
  small_memory = grind (arith, nat_tests)

  pub small_broadcast : b.size ≤ 512
  small_broadcast = grind (arith, nat_tests)

no_fault : (a b c : Bool) (v w : RowFault) (x : Name) → a ≡ false → b ≡ false → c ≡ false → answered (cond a (Some v) (cond (b || c) (Some w) None)) x ≡ Ok x
no_fault a b c v w x p q r = rw (p, q, r) refl

option_passes : (n : ℕ) (o : NamingOption) → Ok o ≡ decoded options RowFault.NamingCode n → (nat_lt 6 n ≡ false) × (o ≡ option_of n)
option_passes n o e =
    let known : nat_lt 6 n ≡ false = sym (past_last options RowFault.NamingCode n 6 refl) ∙ sym (ap is_err e) in
    let stands = within options RowFault.NamingCode n NamingOption.Plain (grind (arith, nat_tests)) in
    (known, cc)

both_pass : (outside : Bool) (x m : Memory × Memory) (v : RowFault) → ◌≡◌ {A = Result (Memory × Memory) RowFault} (Ok m) (if outside then Err v else Ok x)
    → (outside ≡ false) × (m ≡ x)
both_pass true x m v e = let z : ◌≡◌ {A = ℕ} 0 1 = cc in absurd (omega arith)
both_pass false x m v e = (refl, cc)

-- the name of a row whose parts all pass
pub whole : (r : NamingRow) (t : List ℕ) (o : NamingOption) (m : Memory × Memory) → t ≡ r.mnemonic.now → mnemonic_wrong r.mnemonic.now ≡ false
    → Ok o ≡ decoded options RowFault.NamingCode r.option → Ok m ≡ memories_from r
    → ◌≡◌ {A = Result Name RowFault} (Ok (record { mnemonic = t; option = o; memory = m.0; broadcast = m.1 })) (named r)
whole r t o m same right known held =
    let option = option_passes r.option o known in
    let memories = both_pass (memory_outside r.memory || memory_outside r.broadcast) (memory_of r.memory, memory_of r.broadcast) m RowFault.NamingCode held in
    let none = no_fault (mnemonic_wrong r.mnemonic.now) (nat_lt 6 r.option) (memory_outside r.memory || memory_outside r.broadcast) RowFault.Mnemonic RowFault.NamingCode (name_of r) right option.0 memories.0 in
    (λ i. Ok (record { mnemonic = same i; option = option.1 i; memory = (memories.1 i).0; broadcast = (memories.1 i).1 })) ∙ sym none
