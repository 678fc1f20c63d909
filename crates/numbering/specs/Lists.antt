-- Lists without repetition, and lists without a gap. Assumes nothing.
use Rattle.std.specs.Prelude.{◌≡◌, ℕ, ◌+◌, List, [], ◌∷◌, ◌≢◌}
use Rattle.std.specs.List.{AllByRecursion}

-- no two elements are equal
abbrev pub Distinct : {X : Type 0} → List X → Type 0
Distinct [] = Unit {0}
Distinct (x ∷ xs) = AllByRecursion (λ y. x ≢ y) xs × Distinct xs

-- the elements are f n, f (n + 1), and so on, with no gap
abbrev pub Runs : {X : Type 0} → (ℕ → X) → ℕ → List X → Type 0
Runs f n [] = Unit {0}
Runs f n (x ∷ xs) = (x ≡ f n) × Runs f (n + 1) xs
