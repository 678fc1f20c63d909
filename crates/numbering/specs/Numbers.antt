-- The number or letter of a register, by its rank, from 0, among the registers of its class that stand before it in the
-- text, or by its place among the operands. Assumes nothing.
use Rattle.std.specs.Prelude.{ℕ, ◌+◌, ◌-◌, min, Bool, cond, List, Some, None, Option, count_by, nat_lt}
use Rattle.kinds.specs.Counters.{same}
use Rattle.kinds.specs.declared.counter.Counter.{Counter}
use Rattle.kinds.specs.declared.counter.Counter.TheVariants.{Uncounted, Vector, Mask, Tile, Bound, Letter32, Letter64}
use Rattle.numbering.specs.declared.plan.Plan.{Plan}
use Rattle.numbering.specs.declared.plan.VectorRule.{VectorRule}
use Rattle.numbering.specs.declared.plan.VectorRule.TheVariants.{Unnumbered, ByPlace, From1, From2, Swapped}

-- the rank of the next register of a class: how many of that class were named before it
abbrev pub rank : Counter → List Counter → ℕ
rank c before = count_by (λ k. same k c) before

-- the rank after this one; a signature has at most five operands and a mask, so at most six registers of a class
abbrev pub next_rank : ℕ → ℕ
next_rank rank = min (rank + 1) 6

-- 2, 1, 3, 4, 5: the first two numbers change places
abbrev pub swapped : ℕ → ℕ
swapped rank = cond (nat_lt rank 2) (2 - rank) (rank + 1)

abbrev pub mask_number : Bool → ℕ → ℕ
mask_number swaps rank = cond swaps (swapped rank) (rank + 1)

abbrev pub vector_number : VectorRule → ℕ → ℕ → Option ℕ
vector_number Unnumbered rank place = None
vector_number ByPlace rank place = Some (place + 1)
vector_number From1 rank place = Some (rank + 1)
vector_number From2 rank place = Some (rank + 2)
vector_number Swapped rank place = Some (swapped rank)

-- the letter of a rank: a, b, c
abbrev pub letter : Bool → ℕ → Option ℕ
letter has rank = cond has (Some (97 + rank)) None

-- what stands right after a register's name
abbrev pub label_of : Plan → Counter → ℕ → ℕ → Option ℕ
label_of plan Uncounted rank place = None
label_of plan Vector rank place = vector_number plan.vectors rank place
label_of plan Mask rank place = Some (mask_number plan.swaps rank)
label_of plan Tile rank place = Some (rank + 1)
label_of plan Bound rank place = cond plan.bounds (Some (rank + 1)) None
label_of plan Letter32 rank place = letter plan.letters32 rank
label_of plan Letter64 rank place = letter plan.letters64 rank
