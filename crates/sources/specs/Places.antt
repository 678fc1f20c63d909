-- Where an entry of a layer stands in the sources below it, by their counts. Assumes nothing.
use Rattle.std.specs.Prelude.{ℕ, ◌+◌, ◌-◌, cond, ◌&&◌, Ok, Err, Result, nat_le, nat_lt}
use Rattle.sources.specs.Sources.{most}
use Rattle.sources.specs.declared.fault.SourceFault.{SourceFault}
use Rattle.sources.specs.declared.joined.Side.{Side}

-- A window has as many entries as it is wide, and none where its bounds are wrong.
abbrev pub window_count : ℕ → ℕ → ℕ → ℕ
window_count count low high = cond (nat_le low high && nat_le high count) (high - low) 0

abbrev pub window_place : ℕ → ℕ → ℕ → ℕ → Result ℕ SourceFault
window_place count low high n = cond (nat_lt n (window_count count low high)) (Ok (low + n)) (Err SourceFault.NoEntry)

-- A joining has as many entries as both sources, and none where that is too many.
abbrev pub joined_count : ℕ → ℕ → ℕ
joined_count first second = cond (nat_le (first + second) most) (first + second) 0

abbrev pub joined_place : ℕ → ℕ → ℕ → Result Side SourceFault
joined_place first second n =
    cond (nat_lt n (joined_count first second))
    (cond (nat_lt n first) (Ok (Side.First n)) (Ok (Side.Second (n - first))))
    (Err SourceFault.NoEntry)
