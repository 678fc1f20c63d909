-- How long the lists of the sources are: no longer than a source's list may be, and that of names as long as that of forms.
-- What `short` of the sources' `impl`s cites stands here, since these may name nothing of proofs/. Assumes nothing.
use Rattle.std.specs.Prelude.{◌≡◌, ℕ, ◌+◌, ◌-◌, ◌≤◌, ◌&&◌, min, List, ◌++◌, map, length, take, drop, Some, None, Ok, Err, Option, Result, nat_le}
use Rattle.std.proofs.Common.{refl, sym, ap, ◌∙◌, subst, lit≤, length-take, length-drop, length-append}
use Rattle.std.proofs.Math.Nat.{le_trans, sub-le, min-le_left, min-le_right, min-eq_left}
use Rattle.std.specs.List.{flat_map}
use Rattle.std.proofs.lemmas.List.{length-map}
use Rattle.std.proofs.lemmas.List.Concat.{length-flat_map}
use Rattle.std.proofs.lemmas.Bool.{leb-true, cond_both}
use Rattle.forms.specs.Forms.{typed}
use Rattle.forms.specs.Names.{name_of}
use Rattle.forms.specs.declared.fault.RowFault.{RowFault}
use Rattle.forms.specs.declared.row.FormRow.{FormRow}
use Rattle.forms.specs.declared.row.NamingRow.{NamingRow}
use Rattle.sources.specs.Front.{front_forms}
use Rattle.sources.specs.JoinedAll.{entries, chained_all}
use Rattle.sources.specs.Shelves.{first_refused, pairs, shelf_answer, check_shelf, shelf_forms, shelf_names}
use Rattle.sources.specs.Sources.{most, checked, check_window, cut, check_joined, chained}
use Rattle.sources.specs.declared.fault.SourceFault.{SourceFault}

-- how many entries there are between two places
module _ {X : Type 0} where
  between : (xs : List X) (low high : ℕ) → length (take (high - low) (drop low xs)) ≡ min (high - low) (length xs - low)
  between xs low high = length-take (high - low) (drop low xs) ∙ ap (min (high - low)) (length-drop low xs)

  pub cut_short : (xs : List X) (low high : ℕ) → length xs ≤ most → length (cut xs low high) ≤ most
  cut_short xs low high h =
      cond_both (nat_le low high && nat_le high (length xs)) (Ok tt) (Err SourceFault.WindowBounds)
      (λ o. length (checked o (take (high - low) (drop low xs))) ≤ most)
      (λ _.
      subst (λ k. k ≤ most) (sym (between xs low high))
      (le_trans (min-le_right (high - low) (length xs - low)) (le_trans (sub-le (length xs) low) h)))
      (λ _. lit≤ tt)

  pub chained_short : (xs ys : List X) → length (chained xs ys) ≤ most
  chained_short xs ys =
      cond_both (nat_le (length xs + length ys) most) (Ok tt) (Err SourceFault.TooManyEntries)
      (λ o. length (checked o (xs ++ ys)) ≤ most)
      (λ e. subst (λ k. k ≤ most) (sym (length-append xs ys)) (leb-true (length xs + length ys) most e))
      (λ _. lit≤ tt)

  -- a shelf that passes has come past the test of its count
  answer_short : (o : Option (ℕ × RowFault)) (count : ℕ) (xs : List X) → length xs ≤ count → length (checked (shelf_answer o count) xs) ≤ most
  answer_short (Some p) count xs h = lit≤ tt
  answer_short None count xs h =
      cond_both (nat_le count most) (Ok tt) (Err SourceFault.TooManyEntries)
      (λ o. length (checked o xs) ≤ most)
      (λ e. le_trans h (leb-true count most e))
      (λ _. lit≤ tt)

module _ {X Y : Type 0} where
  -- the same check of two lists that are as long
  checked_as_long : (o p : Result (Unit {0}) SourceFault) (xs : List X) (ys : List Y) → o ≡ p → length xs ≡ length ys → length (checked o xs) ≡ length (checked p ys)
  checked_as_long (Ok u) p xs ys e h = h ∙ ap (λ q. length (checked q ys)) e
  checked_as_long (Err f) p xs ys e h = ap (λ q. length (checked q ys)) e

  pub cuts_as_long : (xs : List X) (ys : List Y) (low high : ℕ) → length xs ≡ length ys → length (cut xs low high) ≡ length (cut ys low high)
  cuts_as_long xs ys low high e =
      checked_as_long (check_window (length xs) low high) (check_window (length ys) low high) _ _
      (ap (λ k. check_window k low high) e)
      (between xs low high ∙ ap (λ k. min (high - low) (k - low)) e ∙ sym (between ys low high))

  pub chains_as_long : (us vs : List X) (xs ys : List Y) → length us ≡ length xs → length vs ≡ length ys → length (chained us vs) ≡ length (chained xs ys)
  chains_as_long us vs xs ys p q =
      checked_as_long (check_joined (length us) (length vs)) (check_joined (length xs) (length ys)) (us ++ vs) (xs ++ ys)
      (λ i. check_joined (p i) (q i))
      (length-append us vs ∙ (λ i. p i + q i) ∙ sym (length-append xs ys))

-- several sources: as many entries as their lists have together
module _ {S X : Type 0} (list : S → List X) where
  pub chained_all_short : (ss : List S) → length (chained_all list ss) ≤ most
  chained_all_short ss =
      cond_both (nat_le (entries list ss) most) (Ok tt) (Err SourceFault.TooManyEntries)
      (λ o. length (checked o (flat_map list ss)) ≤ most)
      (λ e. subst (λ k. k ≤ most) (sym (length-flat_map list ss)) (leb-true (entries list ss) most e))
      (λ _. lit≤ tt)

module _ (rs : List FormRow) (ns : List NamingRow) where
  -- each of the two lists is cut to as many as there are pairs
  forms_long : length (map typed (take (pairs rs ns) rs)) ≡ min (pairs rs ns) (length rs)
  forms_long = length-map (take (pairs rs ns) rs) typed ∙ length-take (pairs rs ns) rs

  names_long : length (map name_of (take (pairs rs ns) ns)) ≡ min (pairs rs ns) (length ns)
  names_long = length-map (take (pairs rs ns) ns) name_of ∙ length-take (pairs rs ns) ns

  pub shelf_short : length (shelf_forms rs ns) ≤ most
  shelf_short =
      answer_short (first_refused rs ns) (pairs rs ns) (map typed (take (pairs rs ns) rs))
      (subst (λ k. k ≤ pairs rs ns) (sym forms_long) (min-le_left (pairs rs ns) (length rs)))

  pub shelves_as_long : length (shelf_names rs ns) ≡ length (shelf_forms rs ns)
  shelves_as_long =
      checked_as_long (check_shelf rs ns) (check_shelf rs ns) (map name_of (take (pairs rs ns) ns)) (map typed (take (pairs rs ns) rs)) refl
      (names_long ∙ min-eq_left (min-le_right (length rs) (length ns)) ∙ sym (forms_long ∙ min-eq_left (min-le_left (length rs) (length ns))))

pub front_short : length front_forms ≤ most
front_short = lit≤ tt
