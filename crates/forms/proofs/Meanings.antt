-- What a number of a row stands for, and which numbers stand for nothing. Assumes nothing.
use Rattle.std.proofs.Common.{◌≡◌, ℕ, ◌+◌, ◌<◌, Bool, ◌||◌, List, [], ◌∷◌, length, Ok, Result, false, ap, inl, inr, refl, arith}
use Rattle.std.proofs.lemmas.Bool.Decides.{leb_tells, nat_tests}
use Rattle.std.proofs.lemmas.Option.{slice_get-get_or, slice_get_cases}
use Rattle.std.proofs.Math.Bool.{or-false}
use Rattle.std.specs.Prelude.{nat_lt, slice_index, slice_index_or}
use Rattle.std.specs.List.{list_any}
use Rattle.std.specs.Option.{ok_or}
use Rattle.std.specs.Result.{is_err}
use Rattle.kinds.specs.Kinds.{kind_at}
use Rattle.kinds.proofs.Numbers.{below_count, past_count}
use Rattle.kinds.specs.declared.kind.OperandKind.{OperandKind}
use Rattle.kinds.specs.declared.kind.UnknownKind.{UnknownKind}
use Rattle.forms.specs.Checks.{no_size}
use Rattle.forms.specs.Forms.{decoded, encodings, tables, prefixes, length_kinds, lengths, tags, encoding_from, size_from, encoding_of, table_of, prefix_of, lkind_of, length_of, tag_of, size_of}
use Rattle.forms.specs.Names.{options}
use Rattle.forms.specs.declared.codes.Encoding.{Encoding}
use Rattle.forms.specs.declared.codes.LengthKind.{LengthKind}
use Rattle.forms.specs.declared.codes.Prefix.{Prefix}
use Rattle.forms.specs.declared.codes.Table.{Table}
use Rattle.forms.specs.declared.codes.Tag.{Tag}
use Rattle.forms.specs.declared.codes.VectorLength.{VectorLength}
use Rattle.forms.specs.declared.fault.RowFault.{RowFault}

-- a code past the last of its set stands for nothing, and no other does
pub past_last : {X : Type 0} (meanings : List X) (fault : RowFault) (n last : ℕ) → length meanings ≡ last + 1 → is_err (decoded meanings fault n) ≡ nat_lt last n
past_last meanings fault n last size =
    let cases = slice_get_cases meanings n in
    elim cases.1 [
      | inl there ↦ grind (arith, nat_tests, there.1, there.2)
      | inr past ↦ grind (arith, nat_tests, past.0, past.1)
    ]

-- what a code of a set stands for
pub within : {X : Type 0} (meanings : List X) (fault : RowFault) (n : ℕ) (d : X) → n < length meanings → decoded meanings fault n ≡ Ok (slice_index_or meanings n d)
within meanings fault n d below = let at = slice_get-get_or meanings n d below in ap (λ o. ok_or o fault) at

-- past the last kind no number is a kind's, and no other is none's
pub unknown_past : (code : ℕ) (r : Result OperandKind UnknownKind) → r ≡ ok_or (kind_at code) (record { 0 = code }) → is_err r ≡ nat_lt 108 code
unknown_past code r e =
    elim (leb_tells 109 code) [
      | inl past ↦ let none = past_count code past.1 in grind (arith, nat_tests)
      | inr below ↦ let some = below_count code OperandKind.Absent below.1 in grind (arith, nat_tests)
    ]

-- a test of the numbers of a list of five
pub any_of_five : (test : ℕ → Bool) (xs : List ℕ) → length xs ≡ 5
    → list_any test xs ≡ (test (slice_index xs 0) || (test (slice_index xs 1) || (test (slice_index xs 2) || (test (slice_index xs 3) || test (slice_index xs 4)))))
any_of_five test (a ∷ b ∷ c ∷ d ∷ e ∷ []) size = rw (or-false (test e)) refl
any_of_five test xs size = absurd (omega arith)

pub table_outside : (n : ℕ) → is_err (decoded tables RowFault.CodeOutside n) ≡ nat_lt 8 n
table_outside n = past_last tables RowFault.CodeOutside n 8 refl

pub prefix_outside : (n : ℕ) → is_err (decoded prefixes RowFault.CodeOutside n) ≡ nat_lt 4 n
prefix_outside n = past_last prefixes RowFault.CodeOutside n 4 refl

pub length_kind_outside : (n : ℕ) → is_err (decoded length_kinds RowFault.CodeOutside n) ≡ nat_lt 3 n
length_kind_outside n = past_last length_kinds RowFault.CodeOutside n 3 refl

pub tag_outside : (n : ℕ) → is_err (decoded tags RowFault.CodeOutside n) ≡ nat_lt 16 n
tag_outside n = past_last tags RowFault.CodeOutside n 16 refl

pub length_outside : (n : ℕ) → is_err (decoded lengths RowFault.VectorLength n) ≡ nat_lt 2 n
length_outside n = past_last lengths RowFault.VectorLength n 2 refl

pub option_outside : (n : ℕ) → is_err (decoded options RowFault.NamingCode n) ≡ nat_lt 6 n
option_outside n = past_last options RowFault.NamingCode n 6 refl

pub encoding_within : (n : ℕ) → n < 5 → encoding_from n ≡ Ok (encoding_of n)
encoding_within n below =
    let known = within encodings RowFault.CodeOutside n Encoding.Legacy below in
    grind (arith, nat_tests)

pub table_within : (n : ℕ) → n < 9 → decoded tables RowFault.CodeOutside n ≡ Ok (table_of n)
table_within n below = within tables RowFault.CodeOutside n Table.Normal below

pub prefix_within : (n : ℕ) → n < 5 → decoded prefixes RowFault.CodeOutside n ≡ Ok (prefix_of n)
prefix_within n below = within prefixes RowFault.CodeOutside n Prefix.Absent below

pub length_kind_within : (n : ℕ) → n < 4 → decoded length_kinds RowFault.CodeOutside n ≡ Ok (lkind_of n)
length_kind_within n below = within length_kinds RowFault.CodeOutside n LengthKind.Absent below

pub length_within : (n : ℕ) → n < 3 → decoded lengths RowFault.VectorLength n ≡ Ok (length_of n)
length_within n below = within lengths RowFault.VectorLength n VectorLength.V128 below

pub tag_within : (n : ℕ) → n < 17 → decoded tags RowFault.CodeOutside n ≡ Ok (tag_of n)
tag_within n below = within tags RowFault.CodeOutside n Tag.Plain below

pub size_within : (bits : ℕ) → no_size bits ≡ false → size_from bits ≡ Ok (size_of bits)
size_within bits known = rw known

-- what is in an answer that is there
pub unwrapped : {X E : Type 0} {r s : Result X E} {x y : X} → r ≡ s → r ≡ Ok x → s ≡ Ok y → x ≡ y
unwrapped p q h = cc
