-- A text cut at a byte. Assumes nothing.
use Rattle.std.specs.Prelude.{ℕ, cond, List, [], length, map, Some, None, Option, ◌==◌, nat_le, slice_index_or}
use Rattle.std.specs.Borrow.{Bor}
use Rattle.std.specs.List.{slice_split}

-- the stretches of a text between the bytes c: `a,,b` has three at `,`, and the empty text has one
unfoldable pub split : ℕ → List ℕ → List (List ℕ)
split c t = slice_split (λ b. b == c) t

-- the stretches of what is left, if anything is
abbrev pub split_rest : ℕ → Option (Bor (List ℕ)) → List (List ℕ)
split_rest c None = []
split_rest c (Some t) = split c t.now

-- the stretches, where there are at most so many
abbrev pub split_up_to : ℕ → ℕ → List ℕ → Option (List (List ℕ))
split_up_to most c t = cond (nat_le (length (split c t)) most) (Some (split c t)) None

-- texts that are borrowed, as lists
abbrev pub texts_in : List (Bor (List ℕ)) → List (List ℕ)
texts_in ts = map (λ t. t.now) ts

-- the fields of a line stand between single spaces
abbrev pub fields : List ℕ → List (List ℕ)
fields t = split 32 t

-- field k of the fields of a line, from 0
abbrev pub field : List (List ℕ) → ℕ → List ℕ
field fs k = slice_index_or fs k []
