-- Texts that are one line of bounded length. Assumes nothing.
use Rattle.std.specs.Prelude.{◌≡◌, ℕ, ◌≤◌, Bool, true, not, ◌&&◌, List, length, ◌==◌, nat_le}
use Rattle.std.specs.List.{list_all}

-- no byte ends a line
abbrev pub unbroken : List ℕ → Bool
unbroken t = list_all (λ b. not (b == 10)) t

-- t has at most n bytes, and none of them ends a line
pub record Line (n : ℕ) (t : List ℕ) : Type 0 where
  pub short : length t ≤ n
  pub whole : unbroken t ≡ true

-- the same as a test
abbrev pub is_line : ℕ → List ℕ → Bool
is_line n t = nat_le (length t) n && unbroken t
