-- What the first word of a line says of the whole.
use Rattle.std.proofs.Common.{◌≡◌, ℕ, ◌<◌, ◌==◌, true, false, refl, ◌||◌, List, length, codes, None, arith}
use Rattle.std.specs.Str.{bytes_eq}
use Rattle.std.proofs.lemmas.Bool.{or_parts}
use Rattle.std.proofs.lemmas.Bool.Decides.{nat_tests}
use Rattle.std.proofs.lemmas.Slice.Eq.{bytes_eq-Decides}
use Rattle.std.proofs.lemmas.List.Splits.{length-slice_split}
use Rattle.jobs.specs.Commands.{command_in, opened, row_said, unknown, word_of}
use Rattle.jobs.specs.Rows.{row_in}
use Rattle.jobs.specs.Fields.{field, split}

-- what follows a space is one field at least
pub some_left : (t : List ℕ) → 0 < length (split 32 t)
unfolding split
some_left t = omega (arith, length-slice_split (λ b. b == 32) t)

-- a line of more words than one, whose first none follows
pub first_word : (fs : List (List ℕ)) → (bytes_eq (field fs 0) (codes "row") || (bytes_eq (field fs 0) (codes "open") || bytes_eq (field fs 0) (codes "segment"))) ≡ false → 1 < length fs → command_in fs ≡ unknown
unfolding command_in
first_word fs h more = grind (arith, nat_tests, or_parts)

-- a line of one word, which is `open` or another
no_row : (fs : List (List ℕ)) → length fs < 18 → row_said (row_in fs) ≡ unknown
no_row fs h = grind (arith, nat_tests)

row_alone : (w : List ℕ) → bytes_eq w (codes "row") ≡ true → word_of w ≡ unknown
unfolding word_of
row_alone w h = rw ((bytes_eq-Decides w (codes "row")).0 h) refl

pub word_alone : (fs : List (List ℕ)) → length fs ≡ 1 → bytes_eq (field fs 0) (codes "open") ≡ false → command_in fs ≡ word_of (field fs 0)
unfolding command_in
word_alone fs one h = let r = no_row fs (omega arith) in grind (arith, nat_tests, row_alone)

no_row_word : (w : List ℕ) → bytes_eq w (codes "open") ≡ true → bytes_eq w (codes "row") ≡ false
no_row_word w h = rw ((bytes_eq-Decides w (codes "open")).0 h) refl

pub open_alone : (fs : List (List ℕ)) → length fs ≡ 1 → bytes_eq (field fs 0) (codes "open") ≡ true → command_in fs ≡ opened false None
unfolding command_in
open_alone fs one h = let r = no_row_word (field fs 0) h in grind (arith, nat_tests)
