use Rattle.text.proofs.Numerals.{inverse}
use Rattle.text.proofs.reading.read_decimal.Goals as goal

pub returns : goal.returns
returns c = record { value = c.decimal.ensures; inverse = inverse _ _ c.decimal.ensures }
