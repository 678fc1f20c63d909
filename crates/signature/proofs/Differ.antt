-- The numbers of a signature differ and its letters run, for every form and name. Assumes nothing.
use Rattle.std.proofs.Common.{◌≡◌, ℕ, ◌+◌, Bool, true, false, cond, not, ◌&&◌, ltb, List, [], ◌∷◌, ◌++◌, length, Some, None, Option, ◌≢◌, refl, ap, ◌∙◌, subst, add-zero, arith, rules}
use mathlib.Core.Path.{subst⁻¹}
use Rattle.std.proofs.lemmas.Bool.{cond_both}
use Rattle.std.proofs.lemmas.List.Sums.{sum_by-cons, sum_by-append, sum_by_push}
use Rattle.kinds.specs.Counters.{same}
use Rattle.kinds.specs.Kinds.{is_seg_rdi}
use Rattle.kinds.specs.declared.counter.Counter.{Counter}
use Rattle.kinds.specs.declared.kind.OperandKind.{OperandKind}
use Rattle.forms.specs.Forms.{counted}
use Rattle.forms.specs.Names.{Name}
use Rattle.forms.specs.declared.codes.NamingOption.{NamingOption}
use Rattle.forms.specs.declared.form.Form.{Form}
use Rattle.numbering.specs.Lists.{Distinct, Runs}
use Rattle.numbering.specs.Numbers.{swapped, mask_number, vector_number, letter, label_of, rank}
use Rattle.numbering.specs.Plans.{counter_at, vector_rule, mask_first}
use Rattle.numbering.specs.declared.plan.Plan.{Plan}
use Rattle.numbering.specs.declared.plan.VectorRule.{VectorRule}
use Rattle.numbering.specs.declared.plan.VectorRule.TheVariants.{Unnumbered, ByPlace, From1, From2, Swapped}
use Rattle.numbering.proofs.Apart.{Rises, distinct, lower, rises, plus_one, plus_two, swap_one, mask_one}
use Rattle.operands.specs.declared.setting.Setting.{Setting}
use Rattle.signature.specs.Pieces.{Piece, pseudo, mnemonic, space, comma, mask, zeroing, sae, rounding, implied}
use Rattle.signature.specs.Settings.{setting_of, start_of, walked}
use Rattle.signature.specs.Signature.{is_pseudo, instruction, signature, labelled, labels, printed, NumbersDiffer}
use Rattle.signature.specs.Walk.{given, masked_at, last_at, names, operand_pieces, walk}

module _ (g : ℕ → Option ℕ) where
  -- one more element, where the test passes
  run_more : (n m : ℕ) (x : Option ℕ) (xs : List (Option ℕ)) (b : Bool) → m ≡ n + cond b 1 0 → (b ≡ true → x ≡ g n) → Runs g m xs → Runs g n (cond b (x ∷ xs) xs)
  run_more n m x xs true e here r = (here refl, subst (λ (j : ℕ). Runs g j xs) e r)
  run_more n m x xs false e here r = subst (λ (j : ℕ). Runs g j xs) (e ∙ add-zero n) r

  rise_more : (n : ℕ) (x : Option ℕ) (xs : List (Option ℕ)) (b : Bool) → (b ≡ true → x ≡ g n) → Rises g (n + 1) xs → Rises g n (cond b (x ∷ xs) xs)
  rise_more n x xs true here r = (n, omega arith, here refl, r)
  rise_more n x xs false here r = lower g n (n + 1) xs (omega arith) r

same_yes : (k c : Counter) → same k c ≡ true → k ≡ c
same_yes k c e = search rules

-- a class of registers that are counted
module _ (c : Counter) (h : c ≢ Counter.Uncounted) where
  other : same Counter.Uncounted c ≡ false
  other = search rules

  passed_over : (p : Piece) (ps : List Piece) → (labelled p).0 ≡ Counter.Uncounted → labels c (p ∷ ps) ≡ labels c ps
  passed_over p ps is = ap (λ k. cond (same k c) ((labelled p).1 ∷ labels c ps) (labels c ps)) is ∙ ap (λ b. cond b ((labelled p).1 ∷ labels c ps) (labels c ps)) other

  given_over : (b : Bool) (p : Piece) (ps rest : List Piece) → (labelled p).0 ≡ Counter.Uncounted → labels c (given b p ps ++ rest) ≡ labels c (ps ++ rest)
  given_over true p ps rest is = passed_over p (ps ++ rest) is
  given_over false p ps rest is = refl

  given_mask : (b : Bool) (n : ℕ) (ps rest : List Piece) → labels c (given b (mask n) ps ++ rest) ≡ cond (b && same Counter.Mask c) (Some n ∷ labels c (ps ++ rest)) (labels c (ps ++ rest))
  given_mask true n ps rest = refl
  given_mask false n ps rest = refl

  given_space : (b : Bool) (ps : List Piece) → labels c (given b space ps) ≡ labels c ps
  given_space true ps = passed_over space ps refl
  given_space false ps = refl

  labels-operand : (s : Setting) (l : Option ℕ) (n : ℕ) (follows : Bool) (place : ℕ) (k : OperandKind) (rest : List Piece) → let more = cond (masked_at s place && same Counter.Mask c) (Some n ∷ labels c rest) (labels c rest) in
      labels c (operand_pieces s l n follows place k ++ rest) ≡ cond (same (counter_at k) c) (l ∷ more) more
  labels-operand s l n follows place k rest =
      given_over follows comma _ rest refl
      ∙ ap (λ ls. cond (same (counter_at k) c) (l ∷ ls) ls)
      (given_mask (masked_at s place) n _ rest
      ∙ ap (λ ls. cond (masked_at s place && same Counter.Mask c) (Some n ∷ ls) ls)
      (given_over (masked_at s place && s.flags.zeroing) zeroing _ rest refl ∙ given_over (last_at s place && s.flags.sae) sae _ rest refl ∙ given_over (last_at s place && s.flags.rounding) rounding [] rest refl))

  mask_rank : (b : Bool) → rank c (cond b (Counter.Mask ∷ []) []) ≡ cond (b && same Counter.Mask c) 1 0
  mask_rank true = omega arith
  mask_rank false = refl

  -- how the rank of the class moves on
  rank_push : (before : List Counter) (k : Counter) → rank c (before ++ (k ∷ [])) ≡ rank c before + cond (same k c) 1 0
  rank_push before k = sum_by_push (λ x. cond (same x c) 1 0) before k

  ranked_on : (s : Setting) (place : ℕ) (k : OperandKind) (before : List Counter)
      → rank c (before ++ names s place k) ≡ rank c before + cond (same (counter_at k) c) 1 0 + cond (masked_at s place && same Counter.Mask c) 1 0
  ranked_on s place k before =
      let f : Counter → ℕ = λ x. cond (same x c) 1 0 in
      omega (arith, sum_by-append f before (names s place k), sum_by-cons f (counter_at k) (cond (masked_at s place) (Counter.Mask ∷ []) []), mask_rank (masked_at s place))

  -- the mask's label is that of its class, where the class is the masks'
  mask_label : (plan : Plan) (b : Bool) (before : List Counter) (place : ℕ) → (b && same Counter.Mask c) ≡ true → Some (mask_number plan.swaps (rank Counter.Mask before)) ≡ label_of plan c (rank c before) place
  mask_label plan true before place e = ap (λ x. label_of plan x (rank x before) place) (same_yes Counter.Mask c e)
  mask_label plan false before place e = let z : ◌≡◌ {A = ℕ} 0 1 = cc in absurd (omega arith)

  -- A class whose labels do not look at the place gets g 0, g 1, g 2, ..
  runs : (s : Setting) (g : ℕ → Option ℕ) → ((r p : ℕ) → label_of s.plan c r p ≡ g r) → (before : List Counter) (follows : Bool) (place : ℕ) (ks : List OperandKind)
      → Runs g (rank c before) (labels c (walk s before follows place ks))
  runs s g is before follows place [] = subst⁻¹ (λ (ls : List (Option ℕ)). Runs g (rank c before) ls) (passed_over (implied s.tag) [] refl) tt
  runs s g is before follows place (k ∷ ks) =
      subst⁻¹ (λ (ls : List (Option ℕ)). Runs g (rank c before) ls) (labels-operand s _ _ follows place k (walk s (before ++ names s place k) (not (is_seg_rdi k)) (place + 1) ks))
      (run_more g (rank c before) (rank c before + cond (same (counter_at k) c) 1 0) _ _ (same (counter_at k) c) refl
      (λ e. ap (λ x. label_of s.plan x (rank x before) place) (same_yes (counter_at k) c e) ∙ is (rank c before) place)
      (run_more g (rank c before + cond (same (counter_at k) c) 1 0) (rank c (before ++ names s place k)) _ _ (masked_at s place && same Counter.Mask c) (ranked_on s place k before)
      (λ e. mask_label s.plan (masked_at s place) (before ++ (counter_at k ∷ [])) place e ∙ is (rank c (before ++ (counter_at k ∷ []))) place ∙ ap g (rank_push before (counter_at k)))
      (runs s g is (before ++ names s place k) (not (is_seg_rdi k)) (place + 1) ks)))

-- Numbered by their place, vectors get rising numbers.
abbrev place_number : ℕ → Option ℕ
place_number p = Some (p + 1)

no_uncounted : Counter.Vector ≢ Counter.Uncounted
no_uncounted e = search rules

no_mask : (b : Bool) → (b && same Counter.Mask Counter.Vector) ≡ false
no_mask true = refl
no_mask false = refl

by_place : (s : Setting) → ((r p : ℕ) → label_of s.plan Counter.Vector r p ≡ place_number p) → (before : List Counter) (follows : Bool) (place : ℕ) (ks : List OperandKind)
    → Rises place_number place (labels Counter.Vector (walk s before follows place ks))
by_place s is before follows place [] = tt
by_place s is before follows place (k ∷ ks) =
    let rest = walk s (before ++ names s place k) (not (is_seg_rdi k)) (place + 1) ks in
    let more = by_place s is (before ++ names s place k) (not (is_seg_rdi k)) (place + 1) ks in
    subst⁻¹ (λ (ls : List (Option ℕ)). Rises place_number place ls) (labels-operand Counter.Vector no_uncounted s _ _ follows place k rest)
    (rise_more place_number place _ _ (same (counter_at k) Counter.Vector)
    (λ e. ap (λ x. label_of s.plan x (rank x before) place) (same_yes (counter_at k) Counter.Vector e) ∙ is (rank Counter.Vector before) place)
    (subst⁻¹ (λ b. Rises place_number (place + 1) (cond b (Some (mask_number s.plan.swaps (rank Counter.Mask (before ++ (counter_at k ∷ [])))) ∷ labels Counter.Vector rest) (labels Counter.Vector rest))) (no_mask (masked_at s place)) more))

-- what a class that goes by rank gets in a whole walk
by_rank : (s : Setting) (c : Counter) (g : ℕ → Option ℕ) → c ≢ Counter.Uncounted → ((r p : ℕ) → label_of s.plan c r p ≡ g r) → ((i j : ℕ) → g i ≡ g j → i ≡ j)
    → (place : ℕ) (ks : List OperandKind) → Distinct (labels c (walk s [] false place ks))
by_rank s c g h is one place ks = distinct g one 0 _ (rises g 0 _ (runs c h s g is [] false place ks))

vectors_differ : (s : Setting) (v : VectorRule) → s.plan.vectors ≡ v → (v ≡ Unnumbered → ⊥) → (place : ℕ) (ks : List OperandKind) → Distinct (labels Counter.Vector (walk s [] false place ks))
vectors_differ s Unnumbered e h place ks = absurd (h refl)
vectors_differ s ByPlace e h place ks = distinct place_number plus_one place _ (by_place s (λ r p. ap (λ (v : VectorRule). vector_number v r p) e) [] false place ks)
vectors_differ s From1 e h place ks = by_rank s Counter.Vector (λ r. Some (r + 1)) no_uncounted (λ r p. ap (λ (v : VectorRule). vector_number v r p) e) plus_one place ks
vectors_differ s From2 e h place ks = by_rank s Counter.Vector (λ r. Some (r + 2)) no_uncounted (λ r p. ap (λ (v : VectorRule). vector_number v r p) e) plus_two place ks
vectors_differ s Swapped e h place ks = by_rank s Counter.Vector (λ r. Some (swapped r)) no_uncounted (λ r p. ap (λ (v : VectorRule). vector_number v r p) e) swap_one place ks

unnumbered : (option : NamingOption) (first : Bool) → vector_rule option first ≡ Unnumbered → option ≡ NamingOption.NoVecIndex
unnumbered option first e = search rules

-- letters that are printed
printed_letters : (n : ℕ) (ls : List (Option ℕ)) → Runs (λ r. Some (97 + r)) n ls → Runs (λ i. 97 + i) n (printed ls)
printed_letters n [] r = tt
printed_letters n (x ∷ xs) (e, r) = subst⁻¹ (λ (y : Option ℕ). Runs (λ i. 97 + i) n (printed (y ∷ xs))) e (refl, printed_letters (n + 1) xs r)

printed_none : (n m : ℕ) (ls : List (Option ℕ)) → Runs (λ r. None) n ls → Runs (λ i. 97 + i) m (printed ls)
printed_none n m [] r = tt
printed_none n m (x ∷ xs) (e, r) = subst⁻¹ (λ (y : Option ℕ). Runs (λ i. 97 + i) m (printed (y ∷ xs))) e (printed_none (n + 1) m xs r)

letters_run : (has : Bool) (ls : List (Option ℕ)) → Runs (letter has) 0 ls → Runs (λ i. 97 + i) 0 (printed ls)
letters_run true ls r = printed_letters 0 ls r
letters_run false ls r = printed_none 0 0 ls r

module _ (f : Form) (n : Name) where
  -- what holds of nothing and of the walk holds of the whole signature
  in_whole : (c : Counter) → c ≢ Counter.Uncounted → (P : List (Option ℕ) → Type 0) → P [] → P (labels c (walk (setting_of f n) [] false (start_of n.option) (walked f n.option))) → P (labels c (signature f n))
  in_whole c h P none all =
      cond_both (is_pseudo f.tag) (pseudo f.tag ∷ []) (instruction f n) (λ ps. P (labels c ps))
      (λ _. subst⁻¹ P (passed_over c h (pseudo f.tag) [] refl) none)
      (λ _. subst⁻¹ P (passed_over c h (mnemonic n.mnemonic) _ refl ∙ given_space c h (ltb 0 (length (walked f n.option))) _) all)

  pub numbers_differ : NumbersDiffer f n
  numbers_differ =
      let s = setting_of f n in
      let ks = walked f n.option in
      let first = start_of n.option in
      record {
        vectors = λ numbered. in_whole Counter.Vector no_uncounted Distinct tt (vectors_differ s s.plan.vectors refl (λ e. numbered (unnumbered n.option (mask_first (counted f)) e)) first ks);
        masks = in_whole Counter.Mask (λ e. search rules) Distinct tt (by_rank s Counter.Mask (λ r. Some (mask_number s.plan.swaps r)) (λ e. search rules) (λ r p. refl) (mask_one s.plan.swaps) first ks);
        tiles = in_whole Counter.Tile (λ e. search rules) Distinct tt (by_rank s Counter.Tile (λ r. Some (r + 1)) (λ e. search rules) (λ r p. refl) plus_one first ks);
        letters32 = in_whole Counter.Letter32 (λ e. search rules) (λ ls. Runs (λ i. 97 + i) 0 (printed ls)) tt (letters_run s.plan.letters32 _ (runs Counter.Letter32 (λ e. search rules) s (letter s.plan.letters32) (λ r p. refl) [] false first ks));
        letters64 = in_whole Counter.Letter64 (λ e. search rules) (λ ls. Runs (λ i. 97 + i) 0 (printed ls)) tt (letters_run s.plan.letters64 _ (runs Counter.Letter64 (λ e. search rules) s (letter s.plan.letters64) (λ r p. refl) [] false first ks));
      }
