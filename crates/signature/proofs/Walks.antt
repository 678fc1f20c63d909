-- The steps of the loop that walks the operands: what is left to print, with the registers named so far, still gives the
-- whole. Assumes nothing.
use Rattle.std.proofs.Common.{◌≡◌, ℕ, ◌+◌, ◌<◌, ◌≤◌, Bool, true, false, cond, not, ◌&&◌, eqb, List, [], ◌∷◌, ◌++◌, length, get_or, drop, IsErrAnd, Ok, Err, Result, sym, refl, ap, ◌∙◌, subst, append-nil, arith, length-append}
use Rattle.std.proofs.lemmas.List.{drop_more, drop_all}
use Rattle.std.proofs.lemmas.Bool.Decides.{nat_tests}
use Rattle.std.proofs.lemmas.Grind.{flat_map-append}
use Rattle.kinds.specs.Kinds.{is_seg_rdi}
use Rattle.kinds.specs.declared.counter.Counter.{Counter}
use Rattle.kinds.specs.declared.kind.OperandKind.{OperandKind}
use Rattle.numbering.specs.Counts.{moved_on, moved_by, start, next_label, next_mask}
use Rattle.numbering.specs.Numbers.{label_of, mask_number, rank}
use Rattle.numbering.specs.Plans.{counter_at}
use Rattle.numbering.proofs.Ranks.{moved_by-append, next_label_by_rank, next_mask_by_rank}
use Rattle.operands.specs.declared.setting.Setting.{Setting}
use Rattle.text.specs.Wrote.{Wrote}
use Rattle.text.specs.declared.writer.WriteFault.{WriteFault}
use Rattle.text.specs.declared.writer.Writer.{Writer}
use Rattle.text.proofs.Writes.{Begun, begun, Begun_more, Begun_stop, then, Wrote_as}
use Rattle.signature.specs.Pieces.{implied_text, spelling, spelled}
use Rattle.signature.specs.Walk.{names, next_pieces, operand_pieces, walk}
use Rattle.signature.specs.declared.operand.Walk.{Walk}

-- what is printed of an operand at a place
abbrev pub operand_at : Walk → ℕ → OperandKind → List ℕ
operand_at v place k =
    spelled v.setting (next_pieces v.setting v.numbering v.follows place k)

-- the walk after it
abbrev pub after : Walk → ℕ → OperandKind → Walk
after v place k = record v { numbering = moved_by (names v.setting place k) v.numbering; follows = not (is_seg_rdi k) }

-- of t, which w was to write, the operands ks from a place on are left to write to x
pub record Walked (s : Setting) (w : Writer) (t : List ℕ) (x : Writer) (v : Walk) (place : ℕ) (ks : List OperandKind) : Type 0 where
  pub before : List Counter
  pub few : length before + cond (eqb place 0) 1 0 ≤ place + 1
  pub setting : v.setting ≡ s
  pub named : v.numbering ≡ moved_by before (start s.plan)
  pub begun : Begun w t (spelled s (walk s before v.follows place ks)) x

-- an operand names one register, and operand 0 maybe a mask
pub names_few : (s : Setting) (place : ℕ) (k : OperandKind) → length (names s place k) ≤ 1 + cond (eqb place 0) 1 0
names_few s place k = at s.flags.mask (eqb place 0)
  where
    at : (m z : Bool) → length (counter_at k ∷ cond (m && z) (Counter.Mask ∷ []) []) ≤ 1 + cond z 1 0
    at true true = omega arith
    at true false = omega arith
    at false true = omega arith
    at false false = omega arith

module _ {s : Setting} {w : Writer} {t : List ℕ} {x : Writer} {v : Walk} {place : ℕ} {k : OperandKind} {ks : List OperandKind} (near : place ≤ 4) (b : Walked s w t x v place (k ∷ ks)) where
  -- the numbering's next label and mask are those by rank
  here : operand_at v place k ≡ spelled s (operand_pieces s (label_of s.plan (counter_at k) (rank (counter_at k) b.before) place) (mask_number s.plan.swaps (rank Counter.Mask (b.before ++ (counter_at k ∷ [])))) v.follows place k)
  here =
      let c = counter_at k in
      let few : length b.before ≤ 5 = omega (arith, b.few) in
      let label : next_label v.numbering c place ≡ label_of s.plan c (rank c b.before) place = ap (λ n. next_label n c place) b.named ∙ next_label_by_rank s.plan b.before (omega arith) c place in
      let mask : next_mask (moved_on c v.numbering) ≡ mask_number s.plan.swaps (rank Counter.Mask (b.before ++ (c ∷ []))) =
      ap (λ n. next_mask (moved_on c n)) b.named ∙ ap next_mask (sym (moved_by-append b.before (c ∷ []) (start s.plan))) ∙ next_mask_by_rank s.plan (b.before ++ (c ∷ [])) (omega (arith, length-append b.before (c ∷ []))) in
      λ i. spelled (b.setting i) (operand_pieces (b.setting i) (label i) (mask i) v.follows place k)

  next : spelled s (walk s b.before v.follows place (k ∷ ks)) ≡ operand_at v place k ++ spelled s (walk s (b.before ++ names s place k) (not (is_seg_rdi k)) (place + 1) ks)
  next = flat_map-append (spelling s) (operand_pieces s _ _ v.follows place k) (walk s (b.before ++ names s place k) (not (is_seg_rdi k)) (place + 1) ks) ∙ ap (λ u. u ++ spelled s (walk s (b.before ++ names s place k) (not (is_seg_rdi k)) (place + 1) ks)) (sym here)

  pub Walked_more : {y : Writer} {u : Unit {0}} {r : Walk} → Wrote x (operand_at v place k) y (Ok u) → r ≡ after v place k → Walked s w t y r (place + 1) ks
  Walked_more {y} p is =
      subst (λ r. Walked s w t y r (place + 1) ks) (sym is)
      (record {
        before = b.before ++ names s place k;
        few = let n = names_few s place k in let f = b.few in let l = length-append b.before (names s place k) in grind (arith, nat_tests);
        setting = b.setting;
        named = ap (moved_by (names v.setting place k)) b.named ∙ ap (λ q. moved_by (names q place k) (moved_by b.before (start s.plan))) b.setting ∙ sym (moved_by-append b.before (names s place k) (start s.plan));
        begun = Begun_more _ b.begun p next;
      })

  pub Walked_stop : {y : Writer} {e : WriteFault} {r : Result (Unit {0}) WriteFault} → Wrote x (operand_at v place k) y (Err e) → IsErrAnd r (λ d. d ≡ e) → Wrote w t y r
  Walked_stop p back = Begun_stop _ b.begun p back next

pub Walked_start : (s : Setting) (w : Writer) (place : ℕ) (ks : List OperandKind) → Walked s w (spelled s (walk s [] false place ks)) w (record { setting = s; numbering = start s.plan; follows = false }) place ks
Walked_start s w place ks = record { before = []; few = grind (arith, nat_tests); setting = refl; named = refl; begun = begun }

pub Walked_all : {s : Setting} {w : Writer} {t : List ℕ} {x y : Writer} {v : Walk} {place : ℕ} {r : Result (Unit {0}) WriteFault}
    → Walked s w t x v place [] → Wrote x (implied_text s.tag) y r → Wrote w t y r
Walked_all {s} {t = t} b p =
    let c = b.begun in
    Wrote_as t (then (implied_text s.tag) c.wrote p) (c.whole ∙ ap (λ u. c.front ++ u) (append-nil (implied_text s.tag)))

-- what is left from an index on begins with the operand there
pub Walked_here : {s : Setting} {w : Writer} {t : List ℕ} {x : Writer} {v : Walk} {place : ℕ} (ks : List OperandKind) (i : ℕ) (d : OperandKind) → i < length ks
    → Walked s w t x v place (drop i ks) → Walked s w t x v place (get_or ks i d ∷ drop (i + 1) ks)
Walked_here {s} {w} {t} {x} {v} {place} ks i d h b = subst (Walked s w t x v place) (drop_more ks i d h) b

pub Walked_end : {s : Setting} {w : Writer} {t : List ℕ} {x : Writer} {v : Walk} {place : ℕ} (ks : List OperandKind) (i : ℕ) → length ks ≤ i
    → Walked s w t x v place (drop i ks) → Walked s w t x v place []
Walked_end {s} {w} {t} {x} {v} {place} ks i h b = subst (Walked s w t x v place) (drop_all i ks h) b
