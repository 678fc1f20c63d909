use Rattle.std.proofs.Common.{◌≡◌, length}
use Rattle.std.specs.Iterator.Adapters.{enumerate_source, zip_first, zip_second}
use Rattle.std.specs.Slice.Iter.{iter_rest}
use Rattle.sources.specs.Shelves.{first_refused}
use Rattle.sources.proofs.Shelves.{refused_among, left_after}
use Rattle.sources.proofs.shelf.first_failing.Given as goal

-- What is left decides.
abbrev pub invariant-loop-place : goal.invariant-loop-place
invariant-loop-place l =
    let rows = iter_rest (zip_first (enumerate_source l.fn.placed)) in
    let namings = iter_rest (zip_second (enumerate_source l.fn.placed)) in
    first_refused rows namings ≡ refused_among (left_after (length l.yielded) rows namings)
