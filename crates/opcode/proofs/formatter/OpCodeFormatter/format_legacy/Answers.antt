use Rattle.text.proofs.Writes.{then, stops}
use Rattle.opcode.proofs.formatter.OpCodeFormatter.format_legacy.Goals as goal

pub returns-in_err-legacy_head : goal.returns-in_err-legacy_head
returns-in_err-legacy_head c = stops _ c.in_err-legacy_head.ensures c.from_residual.ensures.1

pub returns : goal.returns
returns c = then _ c.in_ok-legacy_head.ensures c.append_rest.ensures
