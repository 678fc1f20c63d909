-- What `fetched` gives of lists that are cut, joined and put side by side. Assumes nothing.
use Rattle.std.proofs.Common.{◌≡◌, ℕ, zero, suc, ◌+◌, ◌<◌, ◌≤◌, ltb, List, [], ◌∷◌, ◌++◌, length, get_or, take, drop, is_ok, Ok, Err, Result, sym, refl, ap, ◌∙◌, le_of_suc-le-suc, not-suc-le-zero, suc-add, zero-add, arith}
use Rattle.std.specs.List.{zip}
use Rattle.std.proofs.Math.Seq.{drop-nil}
use Rattle.std.proofs.lemmas.Slice.Zip.{length-zip}
use Rattle.std.proofs.lemmas.Bool.{le-ltb, lt-ltb}
use Rattle.std.proofs.lemmas.Bool.Decides.{nat_tests}
use Rattle.forms.specs.Made.{name_got}
use Rattle.forms.specs.Names.{Name}
use Rattle.forms.specs.declared.naming.Naming.{Naming}
use Rattle.forms.specs.declared.form.Form.{Form}
use Rattle.sources.specs.Entries.{both}
use Rattle.sources.specs.Sources.{fetched, most}
use Rattle.sources.specs.declared.fault.SourceFault.{SourceFault}
use Rattle.sources.specs.declared.fault.SourceFault.TheVariants.{NoEntry}

module _ {X : Type 0} where
  same : {x y : X} → ◌≡◌ {A = Result X SourceFault} (Ok x) (Ok y) → x ≡ y
  same e = cc

  never : {x : X} {f : SourceFault} → ◌≡◌ {A = Result X SourceFault} (Ok x) (Err f) → ⊥
  never e = let z : ◌≡◌ {A = ℕ} 0 1 = cc in omega arith

  pub fetched_past : (xs : List X) (n : ℕ) → length xs ≤ n → fetched xs n ≡ Err NoEntry
  fetched_past [] n h = refl
  fetched_past (x ∷ xs) zero h = absurd (not-suc-le-zero h)
  fetched_past (x ∷ xs) (suc n) h = fetched_past xs n (le_of_suc-le-suc h)

  pub fetched_get_or : (xs : List X) (n : ℕ) (d : X) → n < length xs → fetched xs n ≡ Ok (get_or xs n d)
  fetched_get_or [] n d h = absurd (not-suc-le-zero h)
  fetched_get_or (x ∷ xs) zero d h = refl
  fetched_get_or (x ∷ xs) (suc n) d h = fetched_get_or xs n d (le_of_suc-le-suc h)

  pub fetched-drop : (k : ℕ) (xs : List X) (n : ℕ) → fetched (drop k xs) n ≡ fetched xs (k + n)
  fetched-drop zero xs n = ap (fetched xs) (sym (zero-add n))
  fetched-drop (suc k) [] n = refl
  fetched-drop (suc k) (x ∷ xs) n = fetched-drop k xs n ∙ ap (fetched (x ∷ xs)) (sym (suc-add k n))

  pub fetched-take : (k : ℕ) (xs : List X) (n : ℕ) → n < k → fetched (take k xs) n ≡ fetched xs n
  fetched-take zero xs n h = absurd (not-suc-le-zero h)
  fetched-take (suc k) [] n h = refl
  fetched-take (suc k) (x ∷ xs) zero h = refl
  fetched-take (suc k) (x ∷ xs) (suc n) h = fetched-take k xs n (le_of_suc-le-suc h)

  pub fetched_left : (xs ys : List X) (n : ℕ) → n < length xs → fetched (xs ++ ys) n ≡ fetched xs n
  fetched_left [] ys n h = absurd (not-suc-le-zero h)
  fetched_left (x ∷ xs) ys zero h = refl
  fetched_left (x ∷ xs) ys (suc n) h = fetched_left xs ys n (le_of_suc-le-suc h)

  pub fetched_right : (xs ys : List X) (n : ℕ) → fetched (xs ++ ys) (length xs + n) ≡ fetched ys n
  fetched_right [] ys n = ap (fetched ys) (zero-add n)
  fetched_right (x ∷ xs) ys n = ap (fetched (x ∷ (xs ++ ys))) (suc-add (length xs) n) ∙ fetched_right xs ys n

  -- for a loop that says what is left: this entry, and then the rest
  pub fetched_rest : (xs : List X) (n : ℕ) {x : X} → Ok x ≡ fetched xs n → drop n xs ≡ x ∷ drop (n + 1) xs
  fetched_rest [] n e = absurd (never e)
  fetched_rest (y ∷ ys) zero e = ap (λ z. z ∷ ys) (sym (same e))
  fetched_rest (y ∷ ys) (suc n) {x} e = fetched_rest ys n e ∙ ap (λ k. x ∷ drop k (y ∷ ys)) (sym (suc-add n 1))

  pub fetched_below : (xs : List X) (n : ℕ) {x : X} → Ok x ≡ fetched xs n → n < length xs
  fetched_below [] n e = absurd (never e)
  fetched_below (y ∷ ys) zero e = omega arith
  fetched_below (y ∷ ys) (suc n) e = let rest = fetched_below ys n e in omega arith

  pub fetched_end : (xs : List X) (n : ℕ) {f : SourceFault} → Err f ≡ fetched xs n → drop n xs ≡ []
  fetched_end [] n e = drop-nil n
  fetched_end (x ∷ xs) zero e = absurd (never (sym e))
  fetched_end (x ∷ xs) (suc n) e = fetched_end xs n e

  pub fetched_some : (xs : List X) (n : ℕ) {f : SourceFault} → n < length xs → Err f ≡ fetched xs n → ⊥
  fetched_some [] n h e = not-suc-le-zero h
  fetched_some (x ∷ xs) zero h e = never (sym e)
  fetched_some (x ∷ xs) (suc n) h e = fetched_some xs n (le_of_suc-le-suc h) e

  fetched_within : (xs : List X) (n : ℕ) → is_ok (fetched xs n) ≡ ltb n (length xs)
  fetched_within [] n = sym (le-ltb n 0 (omega arith))
  fetched_within (x ∷ xs) zero = sym (lt-ltb 0 (length (x ∷ xs)) (omega arith))
  fetched_within (x ∷ xs) (suc n) = let rest = fetched_within xs n in grind (arith, nat_tests)

-- two lists side by side are no longer than the first
module _ {X Y : Type 0} (xs : List X) (ys : List Y) where
  pub zip_short : length xs ≤ most → length (zip xs ys) ≤ most
  zip_short h = omega (arith, length-zip xs ys)

  pub zip_below : (n : ℕ) {e : X × Y} → Ok e ≡ fetched (zip xs ys) n → length xs ≤ most → n < most
  zip_below n e h = omega (arith, fetched_below (zip xs ys) n e, length-zip xs ys)

-- two lists at one place: what stands there in both, or the end of either
no_names : (fs : List Form) (n : ℕ) → both (fetched fs n) (Err NoEntry) ≡ Err NoEntry
no_names [] n = refl
no_names (f ∷ fs) zero = refl
no_names (f ∷ fs) (suc n) = no_names fs n

pub zip_both : (fs : List Form) (ms : List Name) (n : ℕ) → both (fetched fs n) (fetched ms n) ≡ fetched (zip fs ms) n
zip_both [] ms n = refl
zip_both (f ∷ fs) [] n = no_names (f ∷ fs) n
zip_both (f ∷ fs) (m ∷ ms) zero = refl
zip_both (f ∷ fs) (m ∷ ms) (suc n) = zip_both fs ms n

same_kind : (r : Result Naming SourceFault) → is_ok r ≡ is_ok (name_got r)
same_kind (Ok n) = refl
same_kind (Err e) = refl

-- a name is refused where the list of names, which is as long as the list of forms, has ended
pub named_within : (r : Result Naming SourceFault) (xs : List Name) (n count : ℕ) → name_got r ≡ fetched xs n → length xs ≡ count → is_ok r ≡ ltb n count
named_within r xs n count e h = same_kind r ∙ ap is_ok e ∙ fetched_within xs n ∙ ap (ltb n) h

-- what the exit of a `?` gives
pub name_refused : (r : Result Naming SourceFault) {x y : SourceFault} {got : Result Name SourceFault} → r ≡ Err x → x ≡ y → Err y ≡ got → name_got r ≡ got
name_refused r p q e = ap name_got p ∙ ap Err q ∙ e
