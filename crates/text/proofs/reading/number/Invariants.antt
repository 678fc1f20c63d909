use Rattle.std.proofs.Common.{◌≡◌, ◌^◌, ◌<◌, drop}
use Rattle.text.specs.Numbers.{number_of}
use Rattle.text.proofs.Numerals.{number_from}
use Rattle.text.proofs.reading.number.Given as goal

abbrev pub invariant-loop-b : goal.invariant-loop-b
invariant-loop-b l = (number_of l.base l.t ≡ number_from l.base l.n (drop l.b-index l.t)) × (l.n < l.base ^ l.b-index)
