use Rattle.text.proofs.Writes.{then, stops}
use Rattle.text.proofs.pieces.print_both.Goals as goal

pub returns-in_err-print : goal.returns-in_err-print
returns-in_err-print g c = stops _ c.in_err-print.ensures c.from_residual.ensures.1

pub returns : goal.returns
returns g c = then _ c.in_ok-print.ensures c.print-2.ensures
