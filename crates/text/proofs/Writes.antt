-- The laws of `Wrote`. Assumes nothing.
use Rattle.std.proofs.Common.{◌≡◌, ℕ, ◌+◌, ◌<◌, ◌≤◌, min, Bool, true, false, cond, leb, List, [], ◌∷◌, ◌++◌, length, IsErrAnd, Ok, Err, Result, sym, refl, ap, ◌∙◌, subst, append_assoc, append-nil, arith, length-append, le-leb, leb-false, leb-true}
use borrow.Author.Tests.{lt-leb}
use Rattle.std.proofs.lemmas.Result.{err_from_is_err_and}
use Rattle.text.specs.declared.writer.Writer.{Writer}
use Rattle.text.specs.declared.writer.WriteFault.{WriteFault}
use Rattle.text.proofs.Overlays.{length-overlay, overlay-append, overlay_past}
use Rattle.text.specs.Wrote.{overlay, fits, full, WroteOr, Wrote}

module _ {E : Type 0} (e : E) where
  ok_fits : (b : Bool) {y : Unit {0}} → ◌≡◌ {A = Result (Unit {0}) E} (Ok y) (cond b (Ok tt) (Err e)) → b ≡ true
  ok_fits true p = refl
  ok_fits false p = cc

  err_full : (b : Bool) {d : E} → ◌≡◌ {A = Result (Unit {0}) E} (Err d) (cond b (Ok tt) (Err e)) → (b ≡ false) × (d ≡ e)
  err_full true p = (cc, cc)
  err_full false p = (refl, cc)

module _ {E : Type 0} {d : E} {w v : Writer} {t : List ℕ} where
  pub same_length : {r : Result (Unit {0}) E} → WroteOr d w t v r → length v.out.now ≡ length w.out.now
  same_length p = ap length p.bytes ∙ length-overlay _ _ t

  pub had_place : {y : Unit {0}} → WroteOr d w t v (Ok y) → (w.at + length t ≤ length w.out.now) × (v.at ≡ w.at + length t)
  had_place p =
      let h : w.at + length t ≤ length w.out.now = leb-true _ _ (ok_fits d (fits w t) p.answer) in
      (h, omega (arith, p.place))

  pub had_none : {e : E} → WroteOr d w t v (Err e) → (length w.out.now < w.at + length t) × (v.at ≡ length w.out.now) × (e ≡ d)
  had_none p =
      let f = err_full d (fits w t) p.answer in
      let h : length w.out.now < w.at + length t = leb-false _ _ f.0 in
      (h, omega (arith, p.place), f.1)

-- one text and then another is both
pub then_or : {E F : Type 0} {d : F} {e : E} {w v x : Writer} {t : List ℕ} (u : List ℕ) {y : Unit {0}} {r : Result (Unit {0}) E} → WroteOr d w t v (Ok y) → WroteOr e v u x r → WroteOr e w (t ++ u) x r
then_or {e = e} {w} {v} {x} {t} u p q =
    let long = same_length p in
    let room = had_place p in
    let all = length-append t u in
    let ends : v.at + length u ≡ w.at + length (t ++ u) = omega arith in
    record {
      lent = q.lent ∙ p.lent;
      bytes = q.bytes ∙ (λ i. overlay (p.bytes i) (room.1 i) u) ∙ sym (overlay-append _ _ t u);
      place = q.place ∙ (λ i. min (ends i) (long i));
      answer = q.answer ∙ (λ i. cond (leb (ends i) (long i)) (Ok tt) (Err e));
    }

-- a text that failed is more text that failed
pub stop_or : {E F : Type 0} {d c : F} (e : E) {w v : Writer} {t : List ℕ} (u : List ℕ) → WroteOr d w t v (Err c) → WroteOr e w (t ++ u) v (Err e)
stop_or e {w} {v} {t} u p =
    let long = same_length p in
    let none = had_none p in
    let all = length-append t u in
    record {
      lent = p.lent;
      bytes = p.bytes ∙ sym (overlay_past _ (w.at + length t) u (omega (arith, length-overlay w.out.now w.at t))) ∙ sym (overlay-append _ _ t u);
      place = omega arith;
      answer = sym (ap (λ b. cond b (Ok tt) (Err e)) (lt-leb (w.at + length (t ++ u)) (length w.out.now) (omega arith)));
    }

full_is : {w v : Writer} {t : List ℕ} {r : Result (Unit {0}) WriteFault} → Wrote w t v r → full v ≡ full w
full_is p = ap (λ n. record { at = n }) (same_length p)

-- what is enough where each byte has its place
pub placed : (w v : Writer) (t : List ℕ) → v.out.ghost_name ≡ w.out.ghost_name → v.out.now ≡ overlay w.out.now w.at t → v.at ≡ w.at + length t → w.at + length t ≤ length w.out.now → Wrote w t v (Ok tt)
placed w v t same bytes place room = record { lent = same; bytes = bytes; place = omega arith; answer = sym (ap (λ b. cond b (Ok tt) (Err (full w))) (le-leb _ _ room)) }

pub nothing : {w : Writer} {y : Unit {0}} → Wrote w [] w (Ok y)
unfolding overlay
nothing {w} = placed w w [] refl refl (omega arith) (omega (arith, w.inside))

pub nothing_as : (w : Writer) (s : List ℕ) → s ≡ [] → WroteOr (full w) w s w (Ok tt)
nothing_as w s is = subst (λ t. Wrote w t w (Ok tt)) (sym is) nothing

-- where no byte has one
pub no_place : (w : Writer) (b : ℕ) (t : List ℕ) → length w.out.now ≤ w.at → Wrote w (b ∷ t) w (Err (record { at = w.at }))
no_place w b t none =
    let is : w.at ≡ length w.out.now = omega (arith, w.inside) in
    record {
      lent = refl;
      bytes = sym (overlay_past _ _ (b ∷ t) none);
      place = omega arith;
      answer = ap (λ n. Err (record { at = n })) is ∙ sym (ap (λ b. cond b (Ok tt) (Err (full w))) (lt-leb _ _ (omega arith)));
    }

-- ---- one text after another: y, e and r are what came of the steps, and s is the text as the contract has it

pub then : {w v x : Writer} {t : List ℕ} (u : List ℕ) {y : Unit {0}} {r : Result (Unit {0}) WriteFault} → Wrote w t v (Ok y) → Wrote v u x r → Wrote w (t ++ u) x r
then {w} {v} {x} {t} u {y} {r} p q = then_or u p (subst (λ e. WroteOr e v u x r) (full_is p) q)

pub stops : {w v : Writer} {t : List ℕ} (u : List ℕ) {e : WriteFault} {r : Result (Unit {0}) WriteFault} → Wrote w t v (Err e) → IsErrAnd r (λ d. d ≡ e) → Wrote w (t ++ u) v r
stops {w} {v} {t} u {e} {r} p q =
    let back = err_from_is_err_and r q in
    subst (Wrote w (t ++ u) v) (ap Err (sym (back.2 ∙ (had_none p).2)) ∙ sym back.1) (stop_or (full w) u p)

pub Wrote_as : {w v : Writer} {t : List ℕ} (s : List ℕ) {r : Result (Unit {0}) WriteFault} → Wrote w t v r → s ≡ t → Wrote w s v r
Wrote_as {w} {v} s {r} p is = subst (λ l. Wrote w l v r) (sym is) p

pub then_as : {w v x : Writer} {t u : List ℕ} (s : List ℕ) {y : Unit {0}} {r : Result (Unit {0}) WriteFault} → Wrote w t v (Ok y) → Wrote v u x r → s ≡ t ++ u → Wrote w s x r
then_as {w} {v} {x} {t} {u} s {y} {r} p q is = subst (λ l. Wrote w l x r) (sym is) (then u p q)

pub stops_as : {w v : Writer} {t : List ℕ} (s rest : List ℕ) {e : WriteFault} {r : Result (Unit {0}) WriteFault} → Wrote w t v (Err e) → IsErrAnd r (λ d. d ≡ e) → s ≡ t ++ rest → Wrote w s v r
stops_as s rest p back is = Wrote_as s (stops rest p back) is

-- ---- a loop: of s, which w was to write, rest is left to write to v

pub record Begun (w : Writer) (s rest : List ℕ) (v : Writer) : Type 0 where
  pub front : List ℕ
  pub wrote : Wrote w front v (Ok tt)
  pub whole : s ≡ front ++ rest

pub begun : {w : Writer} {s : List ℕ} → Begun w s s w
begun = record { front = []; wrote = nothing; whole = refl }

pub Begun_more : {w v x : Writer} {s l t : List ℕ} (rest : List ℕ) {y : Unit {0}} → Begun w s l v → Wrote v t x (Ok y) → l ≡ t ++ rest → Begun w s rest x
Begun_more {t = t} rest b p next = record {
  front = b.front ++ t;
  wrote = then t b.wrote p;
  whole = b.whole ∙ ap (λ r. b.front ++ r) next ∙ sym (append_assoc b.front t rest);
}

pub Begun_stop : {w v x : Writer} {s l t : List ℕ} (rest : List ℕ) {e : WriteFault} {r : Result (Unit {0}) WriteFault} → Begun w s l v → Wrote v t x (Err e) → IsErrAnd r (λ d. d ≡ e) → l ≡ t ++ rest → Wrote w s x r
Begun_stop {s = s} rest b p back next = then_as s b.wrote (stops rest p back) (b.whole ∙ ap (λ r. b.front ++ r) next)

pub Begun_all : {w v : Writer} {s rest : List ℕ} {y : Unit {0}} → Begun w s rest v → rest ≡ [] → Wrote w s v (Ok y)
Begun_all {w} {v} {s} b none = subst (λ l. Wrote w l v (Ok tt)) (sym (b.whole ∙ ap (λ r. b.front ++ r) none ∙ append-nil b.front)) b.wrote
