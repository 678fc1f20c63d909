-- A kind's number is its place among the kinds: each kind has one number, and each number below 109 one kind.
-- Assumes nothing.
use Rattle.std.proofs.Common.{◌≡◌, ℕ, ◌<◌, ◌≤◌, List, map, length, get_or, Some, None, refl, sym, ap, ◌∙◌, zero-add, arith, rules}
use Rattle.std.proofs.lemmas.List.FromFn.{get_or-range_with_len}
use Rattle.std.proofs.lemmas.Option.{slice_get-get_or, slice_get_past, slice_get_within}
use Rattle.std.specs.List.{range_with_len}
use Rattle.kinds.specs.declared.kind.OperandKind.{OperandKind}
use Rattle.kinds.specs.declared.rows.Row.{Row}
use Rattle.kinds.specs.Kinds.{kinds, kind_at, place_of}
use Rattle.kinds.specs.Rows.{row_of}
use Rattle.kinds.proofs.Rule.{lookup}

pub length-kinds : length kinds ≡ 109
length-kinds = refl

pub has_place : (k : OperandKind) → kind_at (place_of k) ≡ Some k
unfolding kind_at
has_place k = search rules

pub below_count : (n : ℕ) (d : OperandKind) → n < 109 → kind_at n ≡ Some (get_or kinds n d)
unfolding kind_at
below_count n d h = slice_get-get_or kinds n d h

pub past_count : (n : ℕ) → 109 ≤ n → kind_at n ≡ None
unfolding kind_at
past_count n h = slice_get_past kinds n h

pub in_count : (n : ℕ) (k : OperandKind) → kind_at n ≡ Some k → n < 109
unfolding kind_at
in_count n k e = slice_get_within kinds n k e

pub is_place : (n : ℕ) (k : OperandKind) → kind_at n ≡ Some k → n ≡ place_of k
is_place n k e =
    sym (get_or-range_with_len 0 109 n 0 (in_count n k e) ∙ zero-add n) ∙ lookup place_of (range_with_len 0 109) n k 0 refl e

pub one_number : (m n : ℕ) (k : OperandKind) → kind_at m ≡ Some k → kind_at n ≡ Some k → m ≡ n
one_number m n k p q = is_place m k p ∙ sym (is_place n k q)

pub one_kind : (n : ℕ) (j k : OperandKind) → kind_at n ≡ Some j → kind_at n ≡ Some k → j ≡ k
one_kind n j k p q = cc

-- what the table has at a number is the kind with the number, and past its end there is none
pub kind_read : (n : ℕ) (r : Row) (rows : List Row) → rows ≡ map row_of kinds → n < length rows → r ≡ get_or rows n r → kind_at n ≡ Some r.kind
kind_read n r rows whole below here =
    let size : length rows ≡ 109 = ap length whole in
    let e = below_count n OperandKind.Absent (omega arith) in
    let same = lookup row_of rows n (get_or kinds n OperandKind.Absent) r whole e in
    e ∙ ap (λ (row : Row). Some row.kind) (sym (here ∙ same))

pub none_past : (n : ℕ) (rows : List Row) → rows ≡ map row_of kinds → length rows ≤ n → kind_at n ≡ None
none_past n rows whole past = let size : length rows ≡ 109 = ap length whole in past_count n (omega arith)

-- a kind's row stands at its number
pub row_at : (rows : List Row) (n : ℕ) (d : Row) (k : OperandKind) → rows ≡ map row_of kinds → n ≡ place_of k → get_or rows n d ≡ row_of k
row_at rows n d k whole at = lookup row_of rows n k d whole (rw at (has_place k))
