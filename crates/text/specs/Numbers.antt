-- Numbers read back from their texts. Assumes nothing.
use Rattle.std.specs.Prelude.{◌≡◌, ℕ, ◌+◌, ◌-◌, ◌*◌, ◌<◌, Bool, cond, not, ◌&&◌, ◌||◌, List, length, fold, ℤ, pos, negsuc, Some, None, codes, Option, MatchOption, ◌==◌, ◌≢◌, nat_lt, slice_index}
use Rattle.std.specs.List.{list_all}
use Rattle.std.specs.Option.{option_map}
use Rattle.std.specs.Int.{is_in_range}
use Rattle.std.specs.Str.{bytes_eq}
use Rattle.text.specs.Texts.{decimal_text}

-- `0` to `9` stand for 0 to 9 and `A` to `F` for 10 to 15; 16 is for a byte that is no digit
abbrev pub digit_value : ℕ → ℕ
digit_value c = cond (is_in_range 48 57 c) (c - 48) (cond (is_in_range 65 70 c) (c - 55) 16)

-- each byte is a digit of the base
abbrev pub all_digits : ℕ → List ℕ → Bool
all_digits base t = list_all (λ c. nat_lt (digit_value c) base) t

-- the number that more digits make of n
abbrev pub number_after : ℕ → ℕ → List ℕ → ℕ
number_after base n t = fold (λ m c. m * base + digit_value c) n t

-- the number that a text writes, if each of its bytes is a digit
abbrev pub number_of : ℕ → List ℕ → Option ℕ
number_of base t = cond (all_digits base t) (Some (number_after base 0 t)) None

-- a digit 0 comes first only where it stands alone
abbrev pub no_zero_first : List ℕ → Bool
no_zero_first t = not (slice_index t 0 == 48) || length t == 1

-- one to five decimal digits without leading zeros
abbrev pub decimal_of : List ℕ → Option ℕ
decimal_of t = cond (is_in_range 1 5 (length t) && no_zero_first t) (number_of 10 t) None

-- the same, or `-1`
abbrev pub index_of : List ℕ → Option ℤ
index_of t = cond (bytes_eq t (codes "-1")) (Some (negsuc 0)) (option_map pos (decimal_of t))

-- exactly k upper-case hexadecimal digits
abbrev pub hex_of : ℕ → List ℕ → Option ℕ
hex_of k t = cond (length t == k) (number_of 16 t) None

-- reading is the inverse of writing: o is the number below 100000 that is written t, if there is one
abbrev pub Inverse : List ℕ → Option ℕ → Type 0
Inverse t o = MatchOption o ((n : ℕ) → n < 100000 → t ≢ decimal_text n) (λ n. (n < 100000) × (t ≡ decimal_text n))
