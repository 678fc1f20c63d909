use Rattle.std.proofs.Common.{◌≡◌, ℕ, ◌+◌, ◌<◌, Bool, true, false, cond, List, [], ◌++◌, length, get_or, drop, refl, ◌∙◌, arith}
use Rattle.std.proofs.lemmas.List.{at_drop_more}
use Rattle.text.proofs.Writes.{begun, Begun_more, Begun_stop, Begun_all}
use Rattle.kinds.specs.Rows.{suffix_of}
use Rattle.kinds.specs.declared.kind.OperandKind.{OperandKind}
use Rattle.kinds.specs.declared.table.Suffix.{Suffix}
use Rattle.opcode.specs.Rest.{suffix_text, is_last, suffixes_text}
use Rattle.opcode.proofs.formatter.OpCodeFormatter.append_suffixes.Goals as goal

-- what is left at place i, by what stands there
next : (ks : List OperandKind) (i : ℕ) (d : OperandKind) → i < length ks → (s : Suffix) (t : List ℕ) (b : Bool) → s ≡ suffix_of (get_or ks i d) → t ≡ suffix_text s → b ≡ is_last s → suffixes_text (drop i ks) ≡ t ++ cond b [] (suffixes_text (drop (i + 1) ks))
next ks i d h s t b at text last = at_drop_more suffixes_text ks i d h ∙ cc

pub loop-kind-init : goal.loop-kind-init
loop-kind-init c = begun

pub returns-in_err-print : goal.returns-in_err-print
returns-in_err-print c = Begun_stop _ c.loop-kind.invariant c.in_err-print.ensures c.from_residual.ensures.1 (next c.args.self.now.operands.now c.loop-kind.kind-index _ (omega arith) _ _ _ c.suffix-suffix.ensures c.append_suffix.ensures refl)

pub loop-kind-preserved : goal.loop-kind-preserved
loop-kind-preserved c = Begun_more _ c.loop-kind.invariant c.in_ok-print.ensures (next c.args.self.now.operands.now c.loop-kind.kind-index _ (omega arith) _ _ false c.suffix-suffix.ensures c.append_suffix.ensures c.if-is_last.ensures)

pub returns-then-is_last : goal.returns-then-is_last
returns-then-is_last c = Begun_all (Begun_more [] c.loop-kind.invariant c.in_ok-print.ensures (next c.args.self.now.operands.now c.loop-kind.kind-index _ (omega arith) _ _ true c.suffix-suffix.ensures c.append_suffix.ensures c.if-is_last.ensures)) refl
