-- What a source answers, by the list that it means, and the lists of layers over other sources. Assumes nothing.
use Rattle.std.specs.Prelude.{ℕ, zero, suc, ◌+◌, ◌-◌, cond, ◌&&◌, List, [], ◌∷◌, ◌++◌, length, take, drop, Ok, Err, Result, nat_le}
use Rattle.sources.specs.declared.fault.SourceFault.{SourceFault}

-- Entry n of a list, or else the refusal.
abbrev pub fetched : {X : Type 0} → List X → ℕ → Result X SourceFault
fetched [] n = Err SourceFault.NoEntry
fetched (x ∷ xs) zero = Ok x
fetched (x ∷ xs) (suc n) = fetched xs n

-- No source has more entries.
abbrev pub most : ℕ
most = 65536

-- A source that passes its check has its entries; one that does not has none.
abbrev pub checked : {X : Type 0} → Result (Unit {0}) SourceFault → List X → List X
checked (Ok u) xs = xs
checked (Err e) xs = []

-- A window starts before or at its end, and ends before or at the count below it.
abbrev pub check_window : ℕ → ℕ → ℕ → Result (Unit {0}) SourceFault
check_window count low high = cond (nat_le low high && nat_le high count) (Ok tt) (Err SourceFault.WindowBounds)

-- Entries from `low` up to, without, `high`.
abbrev pub cut : {X : Type 0} → List X → ℕ → ℕ → List X
cut xs low high = checked (check_window (length xs) low high) (take (high - low) (drop low xs))

-- So many entries are no more than a source may have.
abbrev pub check_total : ℕ → Result (Unit {0}) SourceFault
check_total n = cond (nat_le n most) (Ok tt) (Err SourceFault.TooManyEntries)

-- Two sources together have no more than one may have.
abbrev pub check_joined : ℕ → ℕ → Result (Unit {0}) SourceFault
check_joined m n = check_total (m + n)

-- The one list and then the other.
abbrev pub chained : {X : Type 0} → List X → List X → List X
chained xs ys = checked (check_joined (length xs) (length ys)) (xs ++ ys)
