-- Several sources, one after another: their lists in order, none where that is too many. Assumes nothing.
use Rattle.std.specs.Prelude.{ℕ, ◌-◌, cond, List, [], ◌∷◌, length, sum_by, Ok, Err, Result, nat_le, nat_lt}
use Rattle.std.specs.List.{flat_map}
use Rattle.sources.specs.Sources.{most, checked, check_total}
use Rattle.sources.specs.declared.fault.SourceFault.{SourceFault}

-- So many entries, where a source may have as many.
abbrev pub total_of : ℕ → Result ℕ SourceFault
total_of n = cond (nat_le n most) (Ok n) (Err SourceFault.TooManyEntries)

module _ {S X : Type 0} (list : S → List X) where
  -- How many entries the sources have together.
  abbrev pub entries : List S → ℕ
  entries ss = sum_by (λ s. length (list s)) ss

  -- The lists of the sources, in their order.
  abbrev pub chained_all : List S → List X
  chained_all ss = checked (check_total (entries ss)) (flat_map list ss)

  -- Where entry n of the lists stands: its source, and its number there.
  abbrev pub place_among : List S → ℕ → Result (S × ℕ) SourceFault
  place_among [] n = Err SourceFault.NoEntry
  place_among (s ∷ ss) n = cond (nat_lt n (length (list s))) (Ok (s, n)) (place_among ss (n - length (list s)))

  abbrev pub place_of : List S → ℕ → Result (S × ℕ) SourceFault
  place_of ss n = cond (nat_lt n (length (chained_all ss))) (place_among ss n) (Err SourceFault.NoEntry)
