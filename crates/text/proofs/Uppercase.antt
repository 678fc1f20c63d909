-- std's upper case of bytes. Assumes nothing.
use Rattle.std.proofs.Common.{◌≡◌, ℕ, arith}
use Rattle.std.specs.Char.{to_ascii_uppercase}
use Rattle.std.proofs.lemmas.Bool.Decides.{nat_tests}
use Rattle.text.specs.Texts.{upper_byte}

pub raised_byte : (b : ℕ) → to_ascii_uppercase b ≡ upper_byte b
raised_byte b = grind (arith, nat_tests)
