-- The five kinds of a row, from what stands at each place of its list.
use Rattle.std.proofs.Common.{◌≡◌, ℕ, suc, zero, ◌+◌, ◌<◌, ◌≤◌, List, [], ◌∷◌, length, get_or, set, Some, None, Option, refl, sym, ap, ◌∙◌, arith, Bor}
use Rattle.std.proofs.lemmas.List.{get_or-map, length-map}
use Rattle.std.proofs.lemmas.Grind.{common_steps}
use Rattle.std.proofs.lemmas.Bool.{cond_below, cond_above}
use Rattle.text.specs.Numbers.{decimal_of}
use Rattle.jobs.specs.Fields.{texts_in}
use Rattle.jobs.specs.Rows.{kind_at, with_some}

abbrev pub five : (ℕ → Option ℕ) → Option (List ℕ)
five f =
    with_some (f 0) λ a.
    with_some (f 1) λ b.
    with_some (f 2) λ c.
    with_some (f 3) λ d.
    with_some (f 4) λ e.
    Some (a ∷ b ∷ c ∷ d ∷ e ∷ [])

none_after : (o : Option ℕ) (g : ℕ → Option (List ℕ)) → ((x : ℕ) → g x ≡ None) → with_some o g ≡ None
none_after None g h = refl
none_after (Some x) g h = h x

-- where one is missing, there are none
pub one_missing : (f : ℕ → Option ℕ) (i : ℕ) → i < 5 → f i ≡ None → five f ≡ None
one_missing f zero h n = rw n refl
one_missing f (suc zero) h n = none_after (f 0) _ (λ a. rw n refl)
one_missing f (suc (suc zero)) h n = none_after (f 0) _ (λ a. none_after (f 1) _ (λ b. rw n refl))
one_missing f (suc (suc (suc zero))) h n = none_after (f 0) _ (λ a. none_after (f 1) _ (λ b. none_after (f 2) _ (λ c. rw n refl)))
one_missing f (suc (suc (suc (suc zero)))) h n = none_after (f 0) _ (λ a. none_after (f 1) _ (λ b. none_after (f 2) _ (λ c. none_after (f 3) _ (λ d. rw n refl))))
one_missing f (suc (suc (suc (suc (suc i))))) h n = absurd (omega arith)

-- where each is there, they make a list
pub all_there : (f : ℕ → Option ℕ) (xs : List ℕ) → length xs ≡ 5 → ((k : ℕ) → k < 5 → f k ≡ Some (get_or xs k 0)) → five f ≡ Some xs
all_there f (a ∷ b ∷ c ∷ d ∷ e ∷ []) n h = rw (h 0 (omega arith), h 1 (omega arith), h 2 (omega arith), h 3 (omega arith), h 4 (omega arith)) refl
all_there f [] n h = absurd (omega arith)
all_there f (a ∷ []) n h = absurd (omega arith)
all_there f (a ∷ b ∷ []) n h = absurd (omega arith)
all_there f (a ∷ b ∷ c ∷ []) n h = absurd (omega arith)
all_there f (a ∷ b ∷ c ∷ d ∷ []) n h = absurd (omega arith)
all_there f (a ∷ b ∷ c ∷ d ∷ e ∷ x ∷ xs) n h = absurd (omega arith)

-- one more of them is read
pub one_more : (f : ℕ → Option ℕ) (xs : List ℕ) (i x : ℕ) → i < length xs → f i ≡ Some x → ((k : ℕ) → k < i → f k ≡ Some (get_or xs k 0)) → (k : ℕ) → k < i + 1 → f k ≡ Some (get_or (set xs i x) k 0)
one_more f xs i x h e before k below = grind (arith, common_steps)

-- those that are read and those past them are all
pub read_and_past : (f : ℕ → Option ℕ) (xs : List ℕ) (i : ℕ) → ((k : ℕ) → k < i → f k ≡ Some (get_or xs k 0)) → ((k : ℕ) → i ≤ k → k < 5 → get_or xs k 0 ≡ 12) → ((k : ℕ) → i ≤ k → f k ≡ Some 12) → (k : ℕ) → k < 5 → f k ≡ Some (get_or xs k 0)
read_and_past f xs i read past none k below = grind arith

-- a kind that is listed, and one past those
pub listed_kind : (ts : List (Bor (List ℕ))) (k : ℕ) (t : Bor (List ℕ)) (o : Option ℕ) → k < length ts → o ≡ decimal_of (get_or ts k t).now → kind_at (texts_in ts) k ≡ o
listed_kind ts k t o h e =
    sym (cond_below k (length (texts_in ts)) _ _ (omega (arith, length-map ts (λ (x : Bor (List ℕ)). x.now))))
    ∙ ap decimal_of (get_or-map (λ (x : Bor (List ℕ)). x.now) ts k t [] h)
    ∙ sym e

pub kind_past : (ts : List (Bor (List ℕ))) (k : ℕ) → length ts ≤ k → kind_at (texts_in ts) k ≡ Some 12
kind_past ts k h = sym (cond_above k (length (texts_in ts)) _ _ _ (omega (arith, length-map ts (λ (x : Bor (List ℕ)). x.now))) refl)
