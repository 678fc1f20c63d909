-- The counts are the ranks among the registers named before. Assumes nothing.
use Rattle.std.proofs.Common.{◌≡◌, ℕ, ◌+◌, ◌≤◌, cond, List, [], ◌∷◌, ◌++◌, length, ◌≢◌, refl, ap, ◌∙◌, arith, rules}
use Rattle.std.proofs.lemmas.List.Sums.{count_by-le-length, sum_by-cons}
use Rattle.kinds.specs.Counters.{same}
use Rattle.kinds.specs.declared.counter.Counter.{Counter}
use Rattle.kinds.specs.declared.counter.Counter.TheVariants.{Uncounted, Vector, Mask, Tile, Bound, Letter32, Letter64}
use Rattle.numbering.specs.Counts.{count_of, one_more, moved_on, moved_by, start, next_label, next_mask}
use Rattle.numbering.specs.Numbers.{label_of, mask_number, rank}
use Rattle.numbering.specs.declared.number.Counts.{Counts}
use Rattle.numbering.specs.declared.number.Numbering.{Numbering}
use Rattle.numbering.specs.declared.plan.Plan.{Plan}

pub moved_by-append : (xs ys : List Counter) (n : Numbering) → moved_by (xs ++ ys) n ≡ moved_by ys (moved_by xs n)
moved_by-append [] ys n = refl
moved_by-append (x ∷ xs) ys n = moved_by-append xs ys (moved_on x n)

plan_stays : (xs : List Counter) (n : Numbering) → (moved_by xs n).plan ≡ n.plan
plan_stays [] n = refl
plan_stays (x ∷ xs) n = plan_stays xs (moved_on x n)

-- a class's count moves on by one at a register of that class, and at no other
moved : (k c : Counter) (s : Counts) → c ≢ Uncounted → count_of c s + cond (same k c) 1 0 ≤ 6 → count_of c (one_more k s) ≡ count_of c s + cond (same k c) 1 0
moved k c s counted few = grind arith

counted : (c : Counter) (xs : List Counter) (n : Numbering) → c ≢ Uncounted → count_of c n.counts + rank c xs ≤ 6 → count_of c (moved_by xs n).counts ≡ count_of c n.counts + rank c xs
counted c [] n h few = omega arith
counted c (x ∷ xs) n h few =
    let parts = sum_by-cons (λ k. cond (same k c) 1 0) x xs in
    let here = moved x c n.counts h (omega arith) in
    omega (arith, counted c xs (moved_on x n) h (omega arith))

-- from a signature's first register on
module _ (plan : Plan) (xs : List Counter) (few : length xs ≤ 6) where
  count_is_rank : (c : Counter) → c ≢ Uncounted → count_of c (start plan).counts ≡ 0 → count_of c (moved_by xs (start plan)).counts ≡ rank c xs
  count_is_rank c h none = omega (arith, counted c xs (start plan) h (omega (arith, count_by-le-length (λ k. same k c) xs)))

  pub label_by_rank : (c : Counter) (place : ℕ) → label_of plan c (count_of c (moved_by xs (start plan)).counts) place ≡ label_of plan c (rank c xs) place
  label_by_rank Uncounted place = refl
  label_by_rank Vector place = ap (λ n. label_of plan Vector n place) (count_is_rank Vector (λ e. search rules) refl)
  label_by_rank Mask place = ap (λ n. label_of plan Mask n place) (count_is_rank Mask (λ e. search rules) refl)
  label_by_rank Tile place = ap (λ n. label_of plan Tile n place) (count_is_rank Tile (λ e. search rules) refl)
  label_by_rank Bound place = ap (λ n. label_of plan Bound n place) (count_is_rank Bound (λ e. search rules) refl)
  label_by_rank Letter32 place = ap (λ n. label_of plan Letter32 n place) (count_is_rank Letter32 (λ e. search rules) refl)
  label_by_rank Letter64 place = ap (λ n. label_of plan Letter64 n place) (count_is_rank Letter64 (λ e. search rules) refl)

  -- so what comes next goes by the rank
  pub next_label_by_rank : (c : Counter) (place : ℕ) → next_label (moved_by xs (start plan)) c place ≡ label_of plan c (rank c xs) place
  next_label_by_rank c place = ap (λ p. label_of p c (count_of c (moved_by xs (start plan)).counts) place) (plan_stays xs (start plan)) ∙ label_by_rank c place

  pub next_mask_by_rank : next_mask (moved_by xs (start plan)) ≡ mask_number plan.swaps (rank Mask xs)
  next_mask_by_rank = λ i. mask_number (plan_stays xs (start plan) i).swaps (count_is_rank Mask (λ e. search rules) refl i)
