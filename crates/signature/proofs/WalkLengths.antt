-- A signature has 1 to 256 bytes, none of which ends a line. Assumes nothing.
use Rattle.std.proofs.Common.{◌≡◌, ℕ, suc, ◌+◌, ◌*◌, ◌<◌, ◌≤◌, Bool, true, false, cond, not, ◌&&◌, eqb, ltb, List, [], ◌∷◌, ◌++◌, length, Some, None, Option, codes, refl, ap, arith, length-append, rules}
use mathlib.Core.Path.{subst⁻¹}
use lib.ListN.{length-map}
use Rattle.std.specs.Option.{unwrap_or}
use Rattle.std.proofs.lemmas.Grind.{flat_map-append}
use Rattle.std.proofs.lemmas.List.Sums.{count_by-le-length}
use Rattle.std.proofs.lemmas.Bool.{and_parts, ltb-true, ne_eqb, cond_both}
use Rattle.std.proofs.lemmas.Bool.Decides.{nat_tests}
use Rattle.text.specs.Sized.{Line, is_line, unbroken}
use Rattle.text.specs.Texts.{upper_byte, upper_text, decimal_text, when}
use Rattle.text.proofs.Sized.{Line_lit, Line_weaken, Line-append, Line-when, Line-upper_text}
use Rattle.kinds.specs.Counters.{same}
use Rattle.kinds.specs.Kinds.{is_seg_rdi}
use Rattle.kinds.specs.Rows.{class_of}
use Rattle.kinds.specs.declared.counter.Counter.{Counter}
use Rattle.kinds.specs.declared.kind.OperandKind.{OperandKind}
use Rattle.forms.specs.Checks.{in_set, all_in_set}
use Rattle.forms.specs.Names.{Name, NamePasses}
use Rattle.forms.specs.declared.codes.Tag.{Tag}
use Rattle.forms.specs.declared.form.Form.{Form}
use Rattle.forms.proofs.PassingNames.{right_mnemonic, small_memory, small_broadcast}
use Rattle.numbering.specs.Numbers.{rank}
use Rattle.numbering.specs.Plans.{counter_at}
use Rattle.operands.specs.declared.setting.Setting.{Setting}
use Rattle.signature.specs.Pieces.{own_text, implied_text, spelling, spelled}
use Rattle.signature.specs.Settings.{setting_of, start_of, walked}
use Rattle.signature.specs.Signature.{signature_text}
use Rattle.signature.specs.Walk.{last_at, names, operand_pieces, walk}
use Rattle.signature.proofs.Lengths.{Short, Sizes, Line-operand_text, Short-label_of, mask_short}
use Rattle.signature.proofs.OperandTexts.{operand_spelled}
use Rattle.signature.proofs.Walks.{names_few}
use Rattle.signature.proofs.Wholes.{few_walked, pseudo_whole, walk_whole}

Line-implied_text : (t : Tag) → Line 20 (implied_text t)
Line-implied_text t = Line_lit 20 (implied_text t) (search rules)

-- what is no instruction has some bytes, and few
Line-own_text : (t : Tag) {x : List ℕ} → own_text t ≡ Some x → Line 10 x × (1 ≤ length x)
Line-own_text t {x} e =
    let text : unwrap_or (own_text t) (codes "-") ≡ x = ap (λ o. unwrap_or o (codes "-")) e in
    let short : is_line 10 (unwrap_or (own_text t) (codes "-")) ≡ true = search rules in
    let some : ltb 0 (length (unwrap_or (own_text t) (codes "-"))) ≡ true = search rules in
    (Line_lit 10 x (rw text at short), ltb-true _ _ (rw text at some))

-- what stands after operand 0 alone
Line_first : {n : ℕ} (m first : Bool) {t : List ℕ} → Line n t → Line (cond first n 0) (when (m && first) t)
Line_first true true l = l
Line_first false true l = Line-when false l
Line_first true false l = Line_lit 0 [] refl
Line_first false false l = Line_lit 0 [] refl

-- how many bytes an operand, and the operands from a place on, have at most
abbrev bound_one : Bool → ℕ
bound_one first = 2 + (27 + (cond first 6 0 + (cond first 3 0 + (5 + 4))))

abbrev bound : ℕ → ℕ → ℕ
bound place count = cond (eqb place 0) 9 0 + (38 * count + 20)

one_more : (first : Bool) (n : ℕ) (b : Bool) → b ≡ false → bound_one first + (cond b 9 0 + (38 * n + 20)) ≤ cond first 9 0 + (38 * suc n + 20)
one_more true n false e = omega arith
one_more false n false e = omega arith
one_more first n true e = let z : ◌≡◌ {A = ℕ} 0 1 = cc in absurd (omega arith)

module _ (s : Setting) (sizes : Sizes s) where
  Line_operand : (label : Option ℕ) (number : ℕ) (follows : Bool) (place : ℕ) (k : OperandKind) → Short (counter_at k) label → Line 2 (decimal_text number)
      → Line (bound_one (eqb place 0)) (spelled s (operand_pieces s label number follows place k))
  Line_operand label number follows place k short few =
      let first = eqb place 0 in
      subst⁻¹ (Line (bound_one first)) (operand_spelled s label number follows place k)
      (Line-append (Line-when follows (Line_lit 2 (codes ", ") refl))
      (Line-append (Line-operand_text s (class_of k) label sizes short)
      (Line-append (Line_first s.flags.mask first (Line-append (Line_lit 3 (codes " {k") refl) (Line-append few (Line_lit 1 (codes "}") refl))))
      (Line-append (Line_first s.flags.mask first (Line-when s.flags.zeroing (Line_lit 3 (codes "{z}") refl)))
      (Line-when (last_at s place) (Line-append (Line-when s.flags.sae (Line_lit 5 (codes "{sae}") refl)) (Line-when s.flags.rounding (Line_lit 4 (codes "{er}") refl))))))))

  Line_walk : (before : List Counter) (follows : Bool) (place : ℕ) (ks : List OperandKind) → length before + 2 * length ks < 49 → place + length ks < 50
      → Line (bound place (length ks)) (spelled s (walk s before follows place ks))
  Line_walk before follows place [] few near = Line_weaken _ (omega arith) (Line-append (Line-implied_text s.tag) (Line_lit 0 [] refl))
  Line_walk before follows place (k ∷ ks) few near =
      let own = count_by-le-length (λ c. same c (counter_at k)) before in
      let masks = count_by-le-length (λ c. same c Counter.Mask) (before ++ (counter_at k ∷ [])) in
      let long = length-append before (counter_at k ∷ []) in
      let more = length-append before (names s place k) in
      let named : length (names s place k) ≤ 2 = omega (arith, names_few s place k, cond_both (eqb place 0) 1 0 (λ n. n ≤ 1) (λ _. omega arith) (λ _. omega arith)) in
      let rest = Line_walk (before ++ names s place k) (not (is_seg_rdi k)) (place + 1) ks (omega arith) (omega arith) in
      subst⁻¹ (Line (bound place (length (k ∷ ks)))) (flat_map-append (spelling s) (operand_pieces s _ _ follows place k) (walk s (before ++ names s place k) (not (is_seg_rdi k)) (place + 1) ks))
      (Line_weaken _ (one_more (eqb place 0) (length ks) (eqb (place + 1) 0) (ne_eqb (place + 1) 0 (λ e. omega arith)))
      (Line-append
      (Line_operand _ _ follows place k (Short-label_of s.plan (counter_at k) (rank (counter_at k) before) place (omega arith) (omega arith)) (mask_short s.plan.swaps (rank Counter.Mask (before ++ (counter_at k ∷ []))) (omega arith)))
      rest))

-- the bytes of a mnemonic end no line
set_unbroken : (t : List ℕ) → all_in_set t ≡ true → unbroken t ≡ true
set_unbroken [] h = refl
set_unbroken (b ∷ t) h =
    let p = and_parts (in_set b) (all_in_set t) h in
    let more = set_unbroken t p.1 in
    let here : eqb b 10 ≡ false = ne_eqb b 10 (λ e. let q = p.0 in grind (arith, nat_tests)) in
    grind (arith, nat_tests)

module _ (f : Form) (n : Name) (few : f.count ≤ 5) (passes : NamePasses n.mnemonic n.memory n.broadcast) where
  Line_mnemonic : Line 32 n.mnemonic × (1 ≤ length n.mnemonic)
  Line_mnemonic =
      let h = right_mnemonic n.mnemonic n.memory n.broadcast passes in
      let set : all_in_set n.mnemonic ≡ true = grind (arith, nat_tests) in
      (record { short = grind (arith, nat_tests); whole = set_unbroken n.mnemonic set }, grind (arith, nat_tests))

  sizes : Sizes (setting_of f n)
  sizes =
      record {
        memory = omega (arith, small_memory n.mnemonic n.memory n.broadcast passes);
        element = omega (arith, small_broadcast n.mnemonic n.memory n.broadcast passes);
      }

  Line_instruction : own_text f.tag ≡ None → Line 256 (signature_text f n) × (1 ≤ length (signature_text f n))
  Line_instruction e =
      let s = setting_of f n in
      let ks = walked f n.option in
      let first = start_of n.option in
      let text = walk_whole f n e in
      let own = Line_mnemonic in
      let few_kinds = few_walked f n.option few in
      let begin : cond (eqb first 0) 9 0 ≤ 9 = cond_both (eqb first 0) 9 0 (λ m. m ≤ 9) (λ _. omega arith) (λ _. omega arith) in
      let gap = when (ltb 0 (length ks)) (codes " ") in
      let rest = spelled s (walk s [] false first ks) in (
        subst⁻¹ (Line 256) text
            (Line_weaken 256 (omega arith)
            (Line-append (Line-append (Line-upper_text own.0) (Line-when (ltb 0 (length ks)) (Line_lit 1 (codes " ") refl))) (Line_walk s sizes [] false first ks (omega arith) (omega arith)))),
        omega (arith, own.1, ap length text, length-append (upper_text n.mnemonic ++ gap) rest, length-append (upper_text n.mnemonic) gap, length-map n.mnemonic upper_byte),
      )

  pub Line-signature_text : Line 256 (signature_text f n) × (1 ≤ length (signature_text f n))
  Line-signature_text = either (own_text f.tag) refl
    where
      either : (o : Option (List ℕ)) → own_text f.tag ≡ o → Line 256 (signature_text f n) × (1 ≤ length (signature_text f n))
      either (Some t) e =
          let text = pseudo_whole f n e in
          let p = Line-own_text f.tag e in
          (subst⁻¹ (Line 256) text (Line_weaken 256 (omega arith) p.0), omega (arith, p.1, ap length text))
      either None e = Line_instruction e
