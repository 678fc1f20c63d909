-- The first two of what a list holds, each as it is meant. Assumes nothing.
use Rattle.std.specs.Prelude.{List, length, map, take, ◌≤◌}
use Rattle.std.proofs.Common.{sym, subst, lit≤, length-take}
use Rattle.std.proofs.Math.Nat.{le_trans, min-le_left}
use Rattle.sources.specs.Sources.{most}

module _ {D X : Type 0} (meant : D → X) where
  abbrev pub two_of : List D → List X
  two_of ds = take 2 (map meant ds)

  pub two_short : (ds : List D) → length (two_of ds) ≤ most
  two_short ds =
      subst (λ k. k ≤ most) (sym (length-take 2 (map meant ds))) (le_trans (min-le_left 2 (length (map meant ds))) (lit≤ tt))
