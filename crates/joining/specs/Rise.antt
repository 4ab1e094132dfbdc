-- By how much a joining's answer rises from one row of figures to another.
use Rattle.std.specs.Prelude.{◌≡◌, ℕ, ◌+◌, ◌-◌, ◌≤◌, List}
use Rattle.refusal.specs.Told.{Told, answered, refused, and_then}
use Rattle.joining.specs.Laws.{least, greatest, NoneFalls}
use Rattle.joining.specs.Rows.{joined}

-- the answer on gs less that on fs, 0 where it is no greater; the rows with fs are judged first
abbrev pub risen : (List ℕ → List ℕ → ℕ) → List ℕ → List ℕ → List ℕ → Told ℕ
risen join ws fs gs =
    and_then (joined join ws fs) (λ before. and_then (joined join ws gs) (λ after. answered (after - before)))

-- what the two laws say of a rise: where no figure falls it is the exact difference,
-- and it never exceeds the distance from the least figure before to the greatest after
abbrev pub LawfulRise : (List ℕ → List ℕ → ℕ) → List ℕ → List ℕ → List ℕ → Told ℕ → Type 0
LawfulRise join ws fs gs (answered n) =
    (NoneFalls fs gs → join ws fs + n ≡ join ws gs) × (n ≤ greatest gs - least fs)
LawfulRise join ws fs gs (refused _) = Unit {0}
