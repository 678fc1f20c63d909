use Rattle.std.proofs.Common.{◌+◌, ◌≤◌, length}
use Rattle.std.specs.Iterator.Adapters.{enumerate_source, zip_first}
use Rattle.std.specs.Slice.Iter.{iter_rest}
use Rattle.archive.proofs.check.check_rows.Given as goal

-- No more rows have failed than are done with.
abbrev pub invariant-loop-k : goal.invariant-loop-k
invariant-loop-k g l =
    (goal.iterator-loop-k g).can_next l.k-iterator ×
    (goal.iterator-loop-k g).is_finite l.k-iterator ×
    (l.failed + length (iter_rest (zip_first (enumerate_source l.k-iterator))) ≤ length l.rows)
