-- What it is to write a text. Assumes nothing.
use Rattle.std.specs.Prelude.{◌≡◌, ℕ, ◌+◌, min, Bool, cond, List, [], ◌∷◌, length, Ok, Err, Result, nat_le, slice_set}
use Rattle.std.specs.Borrow.{GName}
use Rattle.text.specs.declared.writer.Writer.{Writer}
use Rattle.text.specs.declared.writer.WriteFault.{WriteFault}

-- how many bytes are written
abbrev pub written : Writer → ℕ
written w = w.at

-- the lent bytes, of which the first are the written ones
abbrev pub lent_bytes : Writer → List ℕ
lent_bytes w = w.out.now

-- whose bytes they are: two writers with one lender write to the same memory
abbrev pub lender : Writer → GName
lender w = w.out.ghost_name

-- xs with t laid over it from i on; what would lie past the end is left out
unfoldable pub overlay : List ℕ → ℕ → List ℕ → List ℕ
overlay xs i [] = xs
overlay xs i (b ∷ t) = overlay (slice_set xs i b) (i + 1) t

-- there is a place for each byte of t
abbrev pub fits : Writer → List ℕ → Bool
fits w t = nat_le (written w + length t) (length (lent_bytes w))

-- what is answered where there is not
abbrev pub full : Writer → WriteFault
full w = record { at = length (lent_bytes w) }

-- v is w after t was written to it, and e the answer where t does not fit
pub record WroteOr {E : Type 0} (e : E) (w : Writer) (t : List ℕ) (v : Writer) (r : Result (Unit {0}) E) : Type 0 where
  pub lent : lender v ≡ lender w
  pub bytes : lent_bytes v ≡ overlay (lent_bytes w) (written w) t
  pub place : written v ≡ min (written w + length t) (length (lent_bytes w))
  pub answer : r ≡ cond (fits w t) (Ok tt) (Err e)

abbrev pub Wrote : Writer → List ℕ → Writer → Result (Unit {0}) WriteFault → Type 0
Wrote w t v r = WroteOr (full w) w t v r

-- what is answered of a text that was to be printed at the front of k bytes: how long it is, or where they ended
abbrev pub rendered : ℕ → List ℕ → Result ℕ WriteFault
rendered k t = cond (nat_le (length t) k) (Ok (length t)) (Err (record { at = k }))
