use Rattle.std.proofs.Common.{sym, subst}
use Rattle.forms.specs.Passed.{Passed}
use Rattle.forms.proofs.Passing.{in_sets, Passed_row}
use Rattle.forms.proofs.description.Description.from_row.Goals as goal

pub typed-requires : goal.typed-requires
typed-requires c = in_sets c.args.row.now (sym c.in-None.ensures)

pub invariant_of-result : goal.invariant_of-result
invariant_of-result c = record { passed = subst Passed (sym c.typed.ensures) (Passed_row c.args.row.now (sym c.in-None.ensures)) }
