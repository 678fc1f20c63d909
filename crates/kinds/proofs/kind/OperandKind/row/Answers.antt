use Rattle.kinds.proofs.Numbers.{row_at}
use Rattle.kinds.proofs.kind.OperandKind.row.Goals as goal

pub returns : goal.returns
returns c = row_at c.rows.result.now c.place.result _ c.args.self c.rows.ensures c.place.ensures
