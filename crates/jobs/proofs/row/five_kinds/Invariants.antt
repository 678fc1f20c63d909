use Rattle.std.proofs.Common.{◌≡◌, ℕ, ◌<◌, ◌≤◌, length, get_or, Some}
use Rattle.jobs.specs.Fields.{texts_in}
use Rattle.jobs.specs.Rows.{kind_at}
use Rattle.jobs.proofs.row.five_kinds.Given as goal

-- The kinds are those of the numbers so far, and past them no operand.
abbrev pub invariant-loop-place : goal.invariant-loop-place
invariant-loop-place l = record {
  five : length l.kinds ≡ 5;
  read : (k : ℕ) → k < l.place → kind_at (texts_in l.listed) k ≡ Some (get_or l.kinds k 0);
  past : (k : ℕ) → l.place ≤ k → k < 5 → get_or l.kinds k 0 ≡ 12;
}
