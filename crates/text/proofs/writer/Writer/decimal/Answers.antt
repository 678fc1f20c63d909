use Rattle.std.proofs.Common.{arith}
use Rattle.std.proofs.lemmas.Fmt.{decimal_digit}
use Rattle.text.proofs.Writes.{Wrote_as}
use Rattle.text.proofs.writer.Writer.decimal.Goals as goal

pub returns-then-n-lt10 : goal.returns-then-n-lt10
returns-then-n-lt10 c = Wrote_as _ c.byte.ensures (decimal_digit c.args.n (omega arith))
