-- How many registers of each class have been named. Assumes nothing.
use Rattle.std.specs.Prelude.{ℕ, List, [], ◌∷◌, Option}
use Rattle.kinds.specs.declared.counter.Counter.{Counter}
use Rattle.kinds.specs.declared.counter.Counter.TheVariants.{Uncounted, Vector, Mask, Tile, Bound, Letter32, Letter64}
use Rattle.numbering.specs.Numbers.{next_rank, label_of, mask_number}
use Rattle.numbering.specs.declared.number.Counts.{Counts}
use Rattle.numbering.specs.declared.number.Numbering.{Numbering}
use Rattle.numbering.specs.declared.plan.Plan.{Plan}

abbrev pub count_of : Counter → Counts → ℕ
count_of Uncounted s = 0
count_of Vector s = s.vectors
count_of Mask s = s.masks
count_of Tile s = s.tiles
count_of Bound s = s.bounds
count_of Letter32 s = s.letters32
count_of Letter64 s = s.letters64

-- one register more of a class; the other counts are as they were
abbrev pub one_more : Counter → Counts → Counts
one_more Uncounted s = s
one_more Vector s = record s { vectors = next_rank s.vectors }
one_more Mask s = record s { masks = next_rank s.masks }
one_more Tile s = record s { tiles = next_rank s.tiles }
one_more Bound s = record s { bounds = next_rank s.bounds }
one_more Letter32 s = record s { letters32 = next_rank s.letters32 }
one_more Letter64 s = record s { letters64 = next_rank s.letters64 }

-- before the first register
abbrev pub start : Plan → Numbering
start plan =
    record {
      plan = plan;
      counts = record { vectors = 0; masks = 0; tiles = 0; bounds = 0; letters32 = 0; letters64 = 0 };
    }

-- a register of a class was named: its count has moved on, and the plan and the other counts are as they were
abbrev pub moved_on : Counter → Numbering → Numbering
moved_on c n = record n { counts = one_more c n.counts }

-- some registers were named
abbrev pub moved_by : List Counter → Numbering → Numbering
moved_by [] n = n
moved_by (c ∷ cs) n = moved_by cs (moved_on c n)

-- the number or letter of the next register of a class, in an operand at this place
abbrev pub next_label : Numbering → Counter → ℕ → Option ℕ
next_label n c place = label_of n.plan c (count_of c n.counts) place

-- the number of the next mask
abbrev pub next_mask : Numbering → ℕ
next_mask n = mask_number n.plan.swaps n.counts.masks
