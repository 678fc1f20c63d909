-- A table with an entry for each kind, in the order of their numbers, has the rule's entry at each kind.
-- Assumes nothing.
use Rattle.std.proofs.Common.{◌≡◌, ℕ, List, map, get_or, Some, ap, ◌∙◌}
use Rattle.std.proofs.lemmas.Option.{get_or_from_slice_get, slice_get-map}
use Rattle.std.specs.List.{slice_get}
use Rattle.std.specs.Option.{option_map}
use Rattle.kinds.specs.declared.kind.OperandKind.{OperandKind}
use Rattle.kinds.specs.Kinds.{kinds, kind_at}

pub lookup : {R : Type 0} (rule : OperandKind → R) (rows : List R) (n : ℕ) (k : OperandKind) (d : R)
    → rows ≡ map rule kinds → kind_at n ≡ Some k → get_or rows n d ≡ rule k
unfolding kind_at
lookup {R} rule rows n k d whole e =
    get_or_from_slice_get rows n (rule k) d
    (ap (λ (xs : List R). slice_get xs n) whole ∙ slice_get-map rule kinds n ∙ ap (option_map rule) e)
