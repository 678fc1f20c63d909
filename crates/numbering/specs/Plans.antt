-- What a signature decides before its operands are walked. Assumes nothing.
use Rattle.std.specs.Prelude.{Bool, true, false, cond, not, ◌&&◌, List, [], ◌∷◌, count_by, nat_le}
use Rattle.kinds.specs.Counters.{counter_of, same}
use Rattle.kinds.specs.Kinds.{is_mask_first}
use Rattle.kinds.specs.Rows.{class_of}
use Rattle.kinds.specs.declared.counter.Counter.{Counter}
use Rattle.kinds.specs.declared.kind.OperandKind.{OperandKind}
use Rattle.forms.specs.Forms.{counted}
use Rattle.forms.specs.declared.codes.NamingOption.{NamingOption}
use Rattle.forms.specs.declared.codes.NamingOption.TheVariants.{
  Plain,
  OpMaskIsK1OrNoGprSuffix,
  IncVecIndex,
  NoVecIndex,
  SwapVecIndex12,
  SkipOp0,
  VecIndexSameAsOpIndex,
}
use Rattle.forms.specs.declared.form.Form.{Form}
use Rattle.numbering.specs.declared.plan.Plan.{Plan}
use Rattle.numbering.specs.declared.plan.VectorRule.{VectorRule}

-- the count that an operand of this kind moves on
abbrev pub counter_at : OperandKind → Counter
counter_at k = counter_of (class_of k)

abbrev pub moves : Counter → OperandKind → Bool
moves c k = same (counter_at k) c

-- at least two of the operands move the count on
abbrev pub several : Counter → List OperandKind → Bool
several c ks = nat_le 2 (count_by (moves c) ks)

-- over two operands, and a mask in the reg field first
abbrev pub mask_first : List OperandKind → Bool
mask_first [] = false
mask_first (a ∷ []) = false
mask_first (a ∷ b ∷ []) = false
mask_first (a ∷ b ∷ c ∷ ks) = is_mask_first a

-- the rule for vectors; a mask first has them numbered by their place, unless they have no numbers
abbrev pub vector_rule : NamingOption → Bool → VectorRule
vector_rule Plain first = cond first VectorRule.ByPlace VectorRule.From1
vector_rule OpMaskIsK1OrNoGprSuffix first = cond first VectorRule.ByPlace VectorRule.From1
vector_rule IncVecIndex first = cond first VectorRule.ByPlace VectorRule.From2
vector_rule NoVecIndex first = VectorRule.Unnumbered
vector_rule SwapVecIndex12 first = cond first VectorRule.ByPlace VectorRule.Swapped
vector_rule SkipOp0 first = cond first VectorRule.ByPlace VectorRule.From1
vector_rule VecIndexSameAsOpIndex first = VectorRule.ByPlace

-- option 1: masks are numbered 2, 1, 3, and general registers have no letters
abbrev pub swaps_masks : NamingOption → Bool
swaps_masks Plain = false
swaps_masks OpMaskIsK1OrNoGprSuffix = true
swaps_masks IncVecIndex = false
swaps_masks NoVecIndex = false
swaps_masks SwapVecIndex12 = false
swaps_masks SkipOp0 = false
swaps_masks VecIndexSameAsOpIndex = false

-- Bound registers have numbers, and general registers of a width letters, if the form has at least two of them, printed
-- or not.
abbrev pub plan_of : Form → NamingOption → Plan
plan_of f option =
    record {
      vectors = vector_rule option (mask_first (counted f));
      swaps = swaps_masks option;
      bounds = several Counter.Bound (counted f);
      letters32 = several Counter.Letter32 (counted f) && not (swaps_masks option);
      letters64 = several Counter.Letter64 (counted f) && not (swaps_masks option);
    }
