-- How the mask after operand 0 is spelled. Assumes nothing.
use Rattle.std.specs.Prelude.{ℕ, List, ◌++◌, codes}
use Rattle.text.specs.Texts.{decimal_text}

-- by its number
abbrev pub mask_text : ℕ → List ℕ
mask_text n = codes " {k" ++ (decimal_text n ++ codes "}")
