-- A line of more fields than a row has.
use Rattle.std.proofs.Common.{◌≡◌, ℕ, ◌<◌, List, length, arith}
use Rattle.std.proofs.lemmas.Bool.Decides.{nat_tests}
use Rattle.jobs.specs.Commands.{command_in, open_of, row_said, unknown}
use Rattle.jobs.specs.Rows.{row_in}

no_row : (fs : List (List ℕ)) → 18 < length fs → row_said (row_in fs) ≡ unknown
no_row fs h = grind (arith, nat_tests)

no_opening : (fs : List (List ℕ)) → 18 < length fs → open_of fs ≡ unknown
no_opening fs h = grind (arith, nat_tests)

pub many_fields : (fs : List (List ℕ)) → 18 < length fs → command_in fs ≡ unknown
unfolding command_in
many_fields fs h = let r = no_row fs h in let o = no_opening fs h in grind (arith, nat_tests)
