use Rattle.std.proofs.Common.{◌≤◌}
use Rattle.reference.proofs.run.Given as goal

-- No more rows and differences than turns.
abbrev pub invariant-loop : goal.invariant-loop
invariant-loop g l = (l.rows ≤ l.counter) × (l.differences ≤ l.counter)
