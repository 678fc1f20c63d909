use Rattle.std.proofs.Common.{◌≡◌, ℕ, suc, zero, ◌+◌, ◌<◌, List, [], ◌∷◌, length, true, get_or, Some, None, Option, MatchOption, IfSome, IsSomeAnd, sym, ap, ◌∙◌, subst, refl, arith, rules, of_calls}
use denote.Ref.{Bor}
use denote.Param.Members.{Mut, Called}
use Rattle.std.specs.Iterator.Runs.{Run, ItemsMapTo, AllItemsGive, IsFirstToGive, CallKeepsClosure}
use Rattle.std.specs.Option.{option_map}
use Rattle.kinds.specs.Roles.{opcode_register}
use Rattle.kinds.specs.Rows.{role_of}
use Rattle.kinds.specs.declared.kind.OperandKind.{OperandKind}
use Rattle.kinds.specs.declared.table.Width.{Width}
use Rattle.opcode.specs.Operands.{first_register}
use Rattle.opcode.proofs.formatter.OpCodeFormatter.get_op_code_bits_operand.Goals as goal

-- what an operand answers
abbrev register_of : OperandKind → Option Width
register_of k = opcode_register (role_of k)

first_none : (ks : List OperandKind) → ((i : ℕ) (d : OperandKind) → i < length ks → register_of (get_or ks i d) ≡ None) → first_register ks ≡ None
first_none [] none = refl
first_none (k ∷ ks) none = rw (none 0 k (omega arith)) (first_none ks (λ i d h. none (suc i) d (omega arith)))

first_at : (ks : List OperandKind) (i : ℕ) (y : Width) → i < length ks → ((d : OperandKind) → register_of (get_or ks i d) ≡ Some y) → ((j : ℕ) (d : OperandKind) → j < i → register_of (get_or ks j d) ≡ None) → first_register ks ≡ Some y
first_at [] i y h at before = absurd (omega arith)
first_at (k ∷ ks) zero y h at before = rw (at k) refl
first_at (k ∷ ks) (suc i) y h at before = rw (before 0 k (omega arith)) (first_at ks i y (omega arith) at (λ j d l. before (suc j) d (omega arith)))

module _ {S F : Type 0} {steps : S → Option (Bor OperandKind) → S → Type 0} {g : Mut F (Bor OperandKind × Unit {0}) (Option Width)} {f : F} (p : Run steps) (ks : List OperandKind)
    (keeps : CallKeepsClosure g f) (calls : (x : Bor OperandKind) (o : Option Width) → Called g f (x, tt) o f → o ≡ register_of x.now) (items : ItemsMapTo p (λ y. y.now) ks) where
  answer : (a : Option (Bor OperandKind)) (k : OperandKind) (o : Option Width) → option_map (λ y. y.now) a ≡ Some k → IfSome a (λ x. Called g f (x, tt) o f) → register_of k ≡ o
  answer None k o is called = let z : ◌≡◌ {A = ℕ} 0 1 = cc in absurd (omega arith)
  answer (Some x) k o is called = let same : x.now ≡ k = cc in sym (calls x o called ∙ ap register_of same)

  some_if : (a : Option (Bor OperandKind)) (o : Option Width) → IsSomeAnd a (λ x. Called g f (x, tt) o f) → IfSome a (λ x. Called g f (x, tt) o f)
  some_if None o h = absurd h
  some_if (Some x) o h = h

  is_first : (r : Option Width) → MatchOption r ((p.whole ≡ true) × AllItemsGive p g f None) (λ y. (i : ℕ) × (i < p.len) × (p.len ≡ i + 1) × IsFirstToGive p g f (Some y) None i) → r ≡ first_register ks
  is_first None h = sym (first_none ks (λ i d l. answer (p.at i) _ None (items.2 i d (omega (arith, items.1 h.0))) (h.1 keeps i)))
  is_first (Some y) h =
      let first = h.3 keeps in
      sym (first_at ks h.0 y (omega (arith, items.0))
      (λ d. answer (p.at h.0) _ (Some y) (items.2 h.0 d h.1) (some_if _ _ first.0))
      (λ j d l. answer (p.at j) _ None (items.2 j d (omega arith)) (some_if _ _ (first.1 j l))))

pub returns : goal.returns
returns c =
    let run = c.find_map.ensures.runs in
    let items = subst (ItemsMapTo run.0 (λ y. y.now)) (ap (λ s. s.rest.now) run.1 ∙ c.iter.ensures.rest) (c.iter.ensures.runs run.0 run.0.seen) in
    is_first run.0 c.args.self.now.operands.now (search of_calls) (λ x o e. search (rules, of_calls)) items c.find_map.result run.2
