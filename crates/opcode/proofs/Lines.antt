-- An opcode string is one line of 1 to 96 bytes: the longest text of each part. Assumes nothing.
use Rattle.std.proofs.Common.{◌≡◌, ℕ, ◌+◌, ◌*◌, ◌/◌, ◌%◌, ◌≤◌, Bool, true, false, ◌&&◌, ltb, List, [], ◌∷◌, length, ℤ, pos, negsuc, Some, None, Ok, codes, Option, unwrap_or, refl, ap, arith, length-append, length-take, rules}
use mathlib.Core.Logic.{∥∥₁_elim}
use native.Mathlib.Bridge.{le_prop}
use Rattle.std.specs.Option.{option_map_or}
use Rattle.std.proofs.lemmas.Bool.{and_parts}
use Rattle.std.proofs.lemmas.Bool.Decides.{nat_tests}
use Rattle.text.specs.Sized.{Line, is_line}
use Rattle.text.proofs.Sized.{Line_lit, Line_weaken, Line-append, Line-cond, Line-when, Line-hex_text, Line-decimal_text}
use Rattle.kinds.specs.Roles.{is_memory, is_sti}
use Rattle.kinds.specs.Rows.{suffix_of}
use Rattle.kinds.specs.declared.kind.OperandKind.{OperandKind}
use Rattle.forms.specs.Checks.{index_outside, form_fault}
use Rattle.forms.specs.Forms.{index_of, typed, answered, counted}
use Rattle.forms.specs.Made.{form_in}
use Rattle.forms.specs.Passed.{Passed}
use Rattle.forms.specs.Pseudo.{pseudo_text}
use Rattle.forms.specs.declared.codes.Encoding.{Encoding}
use Rattle.forms.specs.declared.codes.Encoding.TheVariants.{Legacy, Vex, Evex, Xop, D3now}
use Rattle.forms.specs.declared.codes.LengthKind.{LengthKind}
use Rattle.forms.specs.declared.codes.Tag.{Tag}
use Rattle.forms.specs.declared.codes.VectorLength.{VectorLength}
use Rattle.forms.specs.declared.description.Description.{Description}
use Rattle.forms.specs.declared.fault.RowFault.{RowFault}
use Rattle.forms.specs.declared.form.Form.{Form}
use Rattle.forms.specs.declared.row.FormRow.{FormRow}
use Rattle.forms.proofs.Passing.{in_sets, few_operands}
use Rattle.opcode.specs.Heads.{op_code_text, address_text, operand_text, prefix_text, rex_text, table_text, register_text, legacy_head, length_text, dotted_prefix, dotted_table, w_text, vec_head}
use Rattle.opcode.specs.Operands.{has, first_register}
use Rattle.opcode.specs.OpcodeText.{encoded_text, opcode_text}
use Rattle.opcode.specs.Rest.{bits_text, mod_text, rm_field, has_vsib, slash_text, modrm_text, suffix_text, is_last, suffixes_text, rest_text}

-- where each variant of an enum has a line, so has any value
Line_each : {X : Type 0} (n : ℕ) (f : X → List ℕ) → ((x : X) → is_line n (f x) ≡ true) → (x : X) → Line n (f x)
Line_each n f each x = Line_lit n (f x) (each x)

-- ---- the heads

Line-op_code_text : (value : ℕ) (wide : Bool) → Line 5 (op_code_text value wide)
Line-op_code_text value wide = Line-append (Line-when wide (Line-append (Line-hex_text (value / 256)) (Line_lit 1 (codes " ") refl))) (Line-hex_text (value % 256))

Line-legacy_head : (f : Form) (ks : List OperandKind) → Line 34 (legacy_head f ks)
Line-legacy_head f ks =
    Line-append (Line-when f.flags.fwait (Line_lit 3 (codes "9B ") refl))
    (Line-append (Line_each 4 address_text (λ s. search rules) f.address)
    (Line-append (Line_each 4 operand_text (λ s. search rules) f.operand)
    (Line-append (Line_each 3 prefix_text (λ p. search rules) f.prefix)
    (Line-append (Line_each 4 rex_text (λ s. search rules) f.operand)
    (Line-append (Line_each 6 table_text (λ t. search rules) f.table)
    (Line-append (Line-op_code_text f.opcode f.wide)
    (Line-append (Line_each 3 register_text (λ r. search rules) (first_register ks))
    (Line-when (has is_sti ks) (Line_lit 2 (codes "+i") refl)))))))))

Line-length_text : (k : LengthKind) (l : VectorLength) → Line 3 (length_text k l)
Line-length_text k l = Line_lit 3 (length_text k l) (search rules)

Line-vec_head : (name : List ℕ) (f : Form) → is_line 4 name ≡ true → Line 26 (vec_head name f)
Line-vec_head name f h =
    Line-append (Line_lit 4 name h)
    (Line-append (Line_lit 1 (codes ".") refl)
    (Line-append (Line-cond f.flags.lig (Line_lit 3 (codes "LIG") refl) (Line-length_text f.lkind f.length))
    (Line-append (Line_each 3 dotted_prefix (λ p. search rules) f.prefix)
    (Line-append (Line_each 5 dotted_table (λ t. search rules) f.table)
    (Line-append (Line_each 4 w_text (λ g. search rules) f.flags)
    (Line-append (Line_lit 1 (codes " ") refl) (Line-op_code_text f.opcode f.wide)))))))

-- ---- the rest

Line-bits_text : (name : List ℕ) (o : Option ℕ) → is_line 3 name ≡ true → Line 3 (bits_text name o)
Line-bits_text name None h = Line_lit 3 name h
Line-bits_text name (Some n) h = record { short = omega arith; whole = grind (arith, nat_tests) }

Line-slash_text : (o : Option ℕ) (shown : Bool) → unwrap_or o 0 ≤ 7 → Line 3 (slash_text o shown)
Line-slash_text (Some group) shown small = Line-append (Line_lit 2 (codes " /") refl) (Line-decimal_text 1 group (omega arith) (omega arith) (omega arith))
Line-slash_text None shown small = Line-when shown (Line_lit 3 (codes " /r") refl)

Line-suffixes_text : (ks : List OperandKind) → Line (length ks * 5) (suffixes_text ks)
Line-suffixes_text [] = Line_lit 0 [] refl
Line-suffixes_text (k ∷ ks) =
    Line_weaken _ (omega arith)
    (Line-append (Line_each 5 suffix_text (λ s. search rules) (suffix_of k))
    (Line-cond (is_last (suffix_of k)) (Line_weaken _ (omega arith) (Line_lit 0 [] refl)) (Line-suffixes_text ks)))

module _ (f : Form) (small : unwrap_or f.group 0 ≤ 7) (ks : List OperandKind) where
  Line-modrm_text : Line 14 (modrm_text f ks)
  Line-modrm_text =
      Line-cond f.flags.modrm
      (Line-append (Line_each 7 mod_text (λ b. search rules) (has is_memory ks))
      (Line-append (Line-bits_text (codes "rrr") f.group refl)
      (Line-append (Line_lit 1 (codes ":") refl) (Line-bits_text (codes "bbb") (rm_field f ks) refl))))
      (Line_weaken 14 (omega arith)
      (Line-append (Line-slash_text f.group _ small) (Line-when (has_vsib f.encoding ks) (Line_lit 6 (codes " /vsib") refl))))

  Line-rest_text : Line (14 + length ks * 5) (rest_text f ks)
  Line-rest_text = Line-append Line-modrm_text (Line-suffixes_text ks)

  Line-encoded_text : (e : Encoding) → length ks ≤ 5 → Line 96 (encoded_text e f ks)
  Line-encoded_text Legacy few = Line_weaken 96 (omega arith) (Line-append (Line-legacy_head f ks) Line-rest_text)
  Line-encoded_text Vex few = Line_weaken 96 (omega arith) (Line-append (Line-vec_head (codes "VEX") f refl) Line-rest_text)
  Line-encoded_text Evex few = Line_weaken 96 (omega arith) (Line-append (Line-vec_head (codes "EVEX") f refl) Line-rest_text)
  Line-encoded_text Xop few = Line_weaken 96 (omega arith) (Line-append (Line-vec_head (codes "XOP") f refl) Line-rest_text)
  Line-encoded_text D3now few = Line_weaken 96 (omega arith) (Line-append (Line_lit 9 (codes "0F 0F /r ") refl) (Line-op_code_text f.opcode f.wide))

-- ---- the whole

-- one line of 1 to 96 bytes
abbrev Shown : List ℕ → Type 0
Shown t = Line 96 t × (1 ≤ length t)

-- the same as a test
abbrev is_shown : List ℕ → Bool
is_shown t = is_line 96 t && ltb 0 (length t)

encoded_some : (e : Encoding) (f : Form) (ks : List OperandKind) → 1 ≤ length (encoded_text e f ks)
encoded_some Legacy f ks = simp length-append (omega arith)
encoded_some _ f ks = omega arith

pseudo_shown : (t : Tag) → option_map_or is_shown (pseudo_text (codes "<zero_bytes>") t) true ≡ true
pseudo_shown t = search rules

Shown-unwrap_or : (o : Option (List ℕ)) {t : List ℕ} → option_map_or is_shown o true ≡ true → Shown t → Shown (unwrap_or o t)
Shown-unwrap_or None h shown = shown
Shown-unwrap_or (Some t) h shown = let p = and_parts (is_line 96 t) _ h in (Line_lit 96 t p.0, grind (arith, nat_tests))

-- a group is a digit up to 7
index_small : (z : ℤ) → index_outside z ≡ false → unwrap_or (index_of z) 0 ≤ 7
index_small (pos n) h = grind (arith, nat_tests)
index_small (negsuc n) h = omega arith

made_small : (f : Form) (r : FormRow) (o : Option RowFault) → form_fault r ≡ o → answered o (typed r) ≡ Ok f → unwrap_or f.group 0 ≤ 7
made_small f r (Some e) is made = let z : ◌≡◌ {A = ℕ} 0 1 = cc in absurd (omega arith)
made_small f r None is made =
    let same : typed r ≡ f = cc in
    let small = index_small r.group (in_sets r is).group in
    omega (arith, ap (λ g. unwrap_or g.group 0) same)

small_group : (f : Form) → Passed f → unwrap_or f.group 0 ≤ 7
small_group f p = ∥∥₁_elim p le_prop (λ x. made_small f x.0 (form_fault x.0) refl x.1)

few_counted : (f : Form) → Passed f → length (counted f) ≤ 5
few_counted f p = let few = few_operands f p in simp length-take (omega arith)

shown : (f : Form) → Passed f → Shown (opcode_text f)
unfolding opcode_text
shown f p = Shown-unwrap_or (pseudo_text (codes "<zero_bytes>") f.tag) (pseudo_shown f.tag) (Line-encoded_text f (small_group f p) (counted f) f.encoding (few_counted f p), encoded_some f.encoding f (counted f))

pub opcode_line : (d : Description) → Line 96 (opcode_text (form_in d))
opcode_line d = (shown d.form d.passed).0

pub opcode_some : (d : Description) → 1 ≤ length (opcode_text (form_in d))
opcode_some d = (shown d.form d.passed).1
