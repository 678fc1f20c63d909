-- The texts that the writer can be asked for, as lists of bytes. Assumes nothing.
use Rattle.std.specs.Prelude.{ℕ, ◌+◌, ◌-◌, ◌/◌, ◌%◌, Bool, cond, ◌&&◌, List, [], ◌∷◌, map, decimal, nat_le, nat_lt}

-- `0` to `9` and then `A` to `F`
abbrev pub hex_digit : ℕ → ℕ
hex_digit d = cond (nat_lt d 10) (48 + d) (55 + d)

-- a byte as two digits, the high one first
abbrev pub hex_text : ℕ → List ℕ
hex_text b = hex_digit (b / 16) ∷ hex_digit (b % 16) ∷ []

-- the shortest spelling in decimal digits, as `{n}` writes it
abbrev pub decimal_text : ℕ → List ℕ
decimal_text n = decimal n

-- `a` to `z` as `A` to `Z`, any other byte as it is
abbrev pub upper_byte : ℕ → ℕ
upper_byte b = cond (nat_le 97 b && nat_le b 122) (b - 32) b

abbrev pub upper_text : List ℕ → List ℕ
upper_text t = map upper_byte t

-- t where b holds, else nothing
abbrev pub when : Bool → List ℕ → List ℕ
when b t = cond b t []
