-- The signature of a form under a name. Assumes nothing.
use Rattle.std.specs.Prelude.{ℕ, ◌+◌, Bool, false, cond, List, [], ◌∷◌, length, Some, None, Option, ◌≢◌, nat_lt}
use Rattle.std.specs.Option.{is_some}
use Rattle.kinds.specs.Counters.{counter_of, same}
use Rattle.kinds.specs.declared.counter.Counter.{Counter}
use Rattle.forms.specs.Names.{Name}
use Rattle.forms.specs.declared.codes.NamingOption.{NamingOption}
use Rattle.forms.specs.declared.codes.Tag.{Tag}
use Rattle.forms.specs.declared.form.Form.{Form}
use Rattle.numbering.specs.Lists.{Distinct, Runs}
use Rattle.signature.specs.Pieces.{Piece, pseudo, mnemonic, space, comma, operand, mask, zeroing, sae, rounding, implied, own_text, spelled}
use Rattle.signature.specs.Settings.{setting_of, start_of, walked}
use Rattle.signature.specs.Walk.{given, walk}

-- the entry is no instruction
abbrev pub is_pseudo : Tag → Bool
is_pseudo t = is_some (own_text t)

-- the mnemonic, a space if an operand is walked, and the operands
abbrev pub instruction : Form → Name → List Piece
instruction f n =
    mnemonic n.mnemonic
    ∷ given (nat_lt 0 (length (walked f n.option))) space
    (walk (setting_of f n) [] false (start_of n.option) (walked f n.option))

abbrev pub signature : Form → Name → List Piece
signature f n = cond (is_pseudo f.tag) (pseudo f.tag ∷ []) (instruction f n)

abbrev pub signature_text : Form → Name → List ℕ
signature_text f n = spelled (setting_of f n) (signature f n)

-- a piece's class of registers, and the number or letter right after the register's name
abbrev pub labelled : Piece → Counter × Option ℕ
labelled (pseudo t) = (Counter.Uncounted, None)
labelled (mnemonic t) = (Counter.Uncounted, None)
labelled space = (Counter.Uncounted, None)
labelled comma = (Counter.Uncounted, None)
labelled (operand c l) = (counter_of c, l)
labelled (mask n) = (Counter.Mask, Some n)
labelled zeroing = (Counter.Uncounted, None)
labelled sae = (Counter.Uncounted, None)
labelled rounding = (Counter.Uncounted, None)
labelled (implied t) = (Counter.Uncounted, None)

-- the numbers or letters of one class, in the order of the text
abbrev pub labels : Counter → List Piece → List (Option ℕ)
labels c [] = []
labels c (p ∷ ps) = cond (same (labelled p).0 c) ((labelled p).1 ∷ labels c ps) (labels c ps)

-- those that are there
abbrev pub printed : List (Option ℕ) → List ℕ
printed [] = []
printed (None ∷ ls) = printed ls
printed (Some l ∷ ls) = l ∷ printed ls

-- Within each class the numbers of vector, mask and tile operands differ, vectors without numbers aside, and the mask after
-- operand 0 is one of the masks; the letters of r32, and those of r64, run a, b, c without a gap.
pub record NumbersDiffer (f : Form) (n : Name) : Type 0 where
  pub vectors : (n.option ≢ NamingOption.NoVecIndex) → Distinct (labels Counter.Vector (signature f n))
  pub masks : Distinct (labels Counter.Mask (signature f n))
  pub tiles : Distinct (labels Counter.Tile (signature f n))
  pub letters32 : Runs (λ i. 97 + i) 0 (printed (labels Counter.Letter32 (signature f n)))
  pub letters64 : Runs (λ i. 97 + i) 0 (printed (labels Counter.Letter64 (signature f n)))
