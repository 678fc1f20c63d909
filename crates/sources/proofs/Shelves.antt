-- A shelf by its places, and the loop that checks it. Assumes nothing.
use Rattle.std.proofs.Common.{Iter, ◌≡◌, ℕ, zero, suc, ◌+◌, ◌<◌, List, [], ◌∷◌, map, length, get_or, take, drop, Some, None, Ok, Err, Option, Result, sym, refl, ap, ◌∙◌, le_of_suc-le-suc, not-suc-le-zero, arith, length-take}
use lib.ListN.{length-map}
use Rattle.std.specs.List.{enumerate_from, zip}
use Rattle.std.proofs.lemmas.List.{drop_more, drop_all, get_or-map, get_or-take}
use Rattle.std.specs.declared.iter.Enumerate.{Enumerate}
use Rattle.std.specs.declared.iter.Zip.{Zip}
use Rattle.std.specs.Iterator.Adapters.{enumerate_source, enumerate_count, enumerate_steps, zip_first, zip_second}
use Rattle.std.specs.Slice.Iter.{iter_rest}
use Rattle.std.proofs.iter.Yields.{fronts}
use Rattle.std.proofs.lemmas.Iterator.{YieldsList, YieldsList-from_slice, YieldsList-from_zip, zips}
use Rattle.std.proofs.lemmas.Iterator.Consumers.{YieldsList-from_enumerate}
use Rattle.forms.specs.Checks.{or_else, form_fault, naming_fault, pair_fault}
use Rattle.forms.specs.Forms.{typed, answered, described}
use Rattle.forms.specs.Names.{Name, name_of, named}
use Rattle.forms.specs.declared.fault.RowFault.{RowFault}
use Rattle.forms.specs.declared.form.Form.{Form}
use Rattle.forms.specs.declared.row.FormRow.{FormRow}
use Rattle.forms.specs.declared.row.NamingRow.{NamingRow}
use Rattle.sources.specs.Lengths.{shelves_as_long}
use Rattle.sources.specs.Shelves.{at_place, refused_from, first_refused, pairs, shelf_answer, check_shelf, shelf_forms, shelf_names}
use Rattle.sources.specs.Sources.{fetched, checked}
use Rattle.sources.specs.declared.fault.SourceFault.{SourceFault}
use Rattle.sources.proofs.Fetched.{fetched_get_or}

-- the pairs of two lists, each with its place, from one place on
abbrev pub left_after : ℕ → List FormRow → List NamingRow → List (ℕ × (FormRow × NamingRow))
left_after i rs ns = drop i (enumerate_from 0 (zip rs ns))

-- the first of them that is refused
abbrev pub refused_among : List (ℕ × (FormRow × NamingRow)) → Option (ℕ × RowFault)
refused_among [] = None
refused_among (p ∷ ps) = at_place p.0 (pair_fault p.1.0 p.1.1) (refused_among ps)

pub refused_from_pairs : (i : ℕ) (rs : List FormRow) (ns : List NamingRow) → refused_from i rs ns ≡ refused_among (enumerate_from i (zip rs ns))
refused_from_pairs i [] ns = refl
refused_from_pairs i (r ∷ rs) [] = refl
refused_from_pairs i (r ∷ rs) (n ∷ ns) = ap (at_place i (pair_fault r n)) (refused_from_pairs (i + 1) rs ns)

-- the loop's iterator gives the pairs from the first on
pub pairs_listed : {s : Enumerate (Zip (Iter FormRow) (Iter NamingRow))} (rs : List FormRow) (ns : List NamingRow) → iter_rest (zip_first (enumerate_source s)) ≡ rs → iter_rest (zip_second (enumerate_source s)) ≡ ns → enumerate_count s ≡ 0 → YieldsList (enumerate_steps (zips fronts fronts)) (λ p. (p.0, (p.1.0.now, p.1.1.now))) s (enumerate_from 0 (zip rs ns))
pairs_listed rs ns first second count =
    YieldsList-from_enumerate (YieldsList-from_zip (YieldsList-from_slice rs first) (YieldsList-from_slice ns second)) count

-- one pair more, and the end
module _ (ps : List (ℕ × (FormRow × NamingRow))) (n : ℕ) (p : ℕ × (FormRow × NamingRow)) (h : n < length ps) (e : p ≡ get_or ps n p) where
  step : refused_among (drop n ps) ≡ at_place p.0 (pair_fault p.1.0 p.1.1) (refused_among (drop (n + 1) ps))
  step = ap refused_among (drop_more ps n p h ∙ ap (λ q. q ∷ drop (n + 1) ps) (sym e))

  pub refused_here : {x : RowFault} → Some x ≡ pair_fault p.1.0 p.1.1 → refused_among (drop n ps) ≡ Some (p.0, x)
  refused_here q = step ∙ ap (λ o. at_place p.0 o (refused_among (drop (n + 1) ps))) (sym q)

  pub refused_later : None ≡ pair_fault p.1.0 p.1.1 → refused_among (drop n ps) ≡ refused_among (drop (n + 1) ps)
  refused_later q = step ∙ ap (λ o. at_place p.0 o (refused_among (drop (n + 1) ps))) (sym q)

pub refused_none : (ps : List (ℕ × (FormRow × NamingRow))) (n : ℕ) → n ≡ length ps → refused_among (drop n ps) ≡ None
refused_none ps n h = ap refused_among (drop_all n ps (omega arith))

-- where no pair is refused, each passes both checks
none_at : (i : ℕ) (o : Option RowFault) (rest : Option (ℕ × RowFault)) → at_place i o rest ≡ None → (o ≡ None) × (rest ≡ None)
none_at i (Some e) rest h = let z : ◌≡◌ {A = ℕ} 0 1 = cc in absurd (omega arith)
none_at i None rest h = (refl, h)

none_both : (a b : Option RowFault) → or_else a b ≡ None → (a ≡ None) × (b ≡ None)
none_both (Some e) b h = let z : ◌≡◌ {A = ℕ} 0 1 = cc in absurd (omega arith)
none_both None b h = (refl, h)

pair_passes : (i : ℕ) (rs : List FormRow) (ns : List NamingRow) (n : ℕ) (d : FormRow) (e : NamingRow) → refused_from i rs ns ≡ None → n < length rs → n < length ns → pair_fault (get_or rs n d) (get_or ns n e) ≡ None
pair_passes i [] ns n d e z h k = absurd (not-suc-le-zero h)
pair_passes i (r ∷ rs) [] n d e z h k = absurd (not-suc-le-zero k)
pair_passes i (r ∷ rs) (m ∷ ns) zero d e z h k = (none_at i (pair_fault r m) (refused_from (i + 1) rs ns) z).0
pair_passes i (r ∷ rs) (m ∷ ns) (suc n) d e z h k =
    pair_passes (i + 1) rs ns n d e (none_at i (pair_fault r m) (refused_from (i + 1) rs ns) z).1 (le_of_suc-le-suc h) (le_of_suc-le-suc k)

both_pass : (r : FormRow) (n : NamingRow) → pair_fault r n ≡ None → (form_fault r ≡ None) × (naming_fault n ≡ None)
unfolding pair_fault
both_pass r n e = none_both (form_fault r) (naming_fault n) e

-- a shelf that passes has no refused pair
answer_ok : (o : Option (ℕ × RowFault)) (count : ℕ) → shelf_answer o count ≡ Ok tt → o ≡ None
answer_ok (Some p) count e = let z : ◌≡◌ {A = ℕ} 0 1 = cc in absurd (omega arith)
answer_ok None count e = refl

-- a list with a place has passed its check
module _ {X Y : Type 0} (f : X → Y) where
  ok_at : (o : Result (Unit {0}) SourceFault) (ys : List Y) (n : ℕ) → n < length (checked o ys) → o ≡ Ok tt
  ok_at (Ok u) ys n h = refl
  ok_at (Err e) ys n h = absurd (not-suc-le-zero h)

  place : (o : Result (Unit {0}) SourceFault) (k : ℕ) (xs : List X) (n : ℕ) → n < length (checked o (map f (take k xs))) → (n < k) × (n < length xs)
  place (Ok u) k xs n h = let l = simp (length-map, length-take) at h in (omega arith, omega arith)
  place (Err e) k xs n h = absurd (not-suc-le-zero h)

  fetched-checked : (o : Result (Unit {0}) SourceFault) (k : ℕ) (xs : List X) (n : ℕ) (d : X) → n < length (checked o (map f (take k xs))) → fetched (checked o (map f (take k xs))) n ≡ Ok (f (get_or xs n d))
  fetched-checked (Ok u) k xs n d h =
      let w = place (Ok u) k xs n h in
      let long : n < length (take k xs) = simp length-take (omega arith) in
      fetched_get_or (map f (take k xs)) n (f d) h
      ∙ ap Ok (get_or-map f (take k xs) n d (f d) long)
      ∙ ap (λ x. Ok (f x)) (get_or-take k xs n d w.0)
  fetched-checked (Err e) k xs n d h = absurd (not-suc-le-zero h)

one : {X : Type 0} (xs : List X) (n : ℕ) → n < length xs → X
one [] n h = absurd (not-suc-le-zero h)
one (x ∷ xs) n h = x

module _ (rs : List FormRow) (ns : List NamingRow) where
  pub shelf_count : check_shelf rs ns ≡ Ok tt → length (shelf_forms rs ns) ≡ pairs rs ns
  shelf_count e = ap (λ o. length (checked o (map typed (take (pairs rs ns) rs)))) e ∙ simp (length-map, length-take) (omega arith)

  pub shelf_none : {x : SourceFault} → check_shelf rs ns ≡ Err x → length (shelf_forms rs ns) ≡ 0
  shelf_none e = ap (λ o. length (checked o (map typed (take (pairs rs ns) rs)))) e

  module _ (n : ℕ) (h : n < length (shelf_forms rs ns)) where
    pub shelf_place : (n < length rs) × (n < length ns)
    shelf_place = let w = place typed (check_shelf rs ns) (pairs rs ns) rs n h in (omega arith, omega arith)

    passes : (d : FormRow) (e : NamingRow) → (form_fault (get_or rs n d) ≡ None) × (naming_fault (get_or ns n e) ≡ None)
    passes d e =
        let ok = ok_at typed (check_shelf rs ns) (map typed (take (pairs rs ns) rs)) n h in
        let w = shelf_place in
        both_pass (get_or rs n d) (get_or ns n e)
        (pair_passes 0 rs ns n d e (answer_ok (first_refused rs ns) (pairs rs ns) ok) w.0 w.1)

    described_shelf : (d : FormRow) → described (get_or rs n d) ≡ Ok (typed (get_or rs n d))
    described_shelf d = ap (λ o. answered o (typed (get_or rs n d))) (passes d (one ns n shelf_place.1)).0

    named_shelf : (e : NamingRow) → named (get_or ns n e) ≡ Ok (name_of (get_or ns n e))
    named_shelf e = ap (λ o. answered o (name_of (get_or ns n e))) (passes (one rs n shelf_place.0) e).1

    pub form_here : (d : FormRow) {f : Form} → Ok f ≡ described (get_or rs n d) → Ok f ≡ fetched (shelf_forms rs ns) n
    form_here d p =
        let q = described_shelf d in
        let r = fetched-checked typed (check_shelf rs ns) (pairs rs ns) rs n d h in
        cc

    pub form_passes : (d : FormRow) {x : RowFault} → Err x ≡ described (get_or rs n d) → ⊥
    form_passes d p = let q = described_shelf d in let z : ◌≡◌ {A = ℕ} 0 1 = cc in omega arith

    pub name_here : (e : NamingRow) {m : Name} → Ok m ≡ named (get_or ns n e) → Ok m ≡ fetched (shelf_names rs ns) n
    name_here e p =
        let l = shelves_as_long rs ns in
        let q = named_shelf e in
        let r = fetched-checked name_of (check_shelf rs ns) (pairs rs ns) ns n e (omega arith) in
        cc

    pub name_passes : (e : NamingRow) {x : RowFault} → Err x ≡ named (get_or ns n e) → ⊥
    name_passes e p = let q = named_shelf e in let z : ◌≡◌ {A = ℕ} 0 1 = cc in omega arith
