-- When two belts read alike, and that they are then the same.
use Rattle.std.specs.Prelude.{◌≡◌, ℕ, ◌<◌}
use Rattle.plant.specs.Belts.{Belt, move_count, move_at, outcome_count, outcome_at}
use Rattle.plant.specs.Laws.{LawfulBelt}

-- every reading at a state, a move and an outcome of the first is that of the second
pub record Alike (a b : Belt) : Type 0 where
  pub states : a.count ≡ b.count
  pub starts : a.start ≡ b.start
  pub goals : (s : ℕ) → s < a.count → a.goal s ≡ b.goal s
  pub moves : (s : ℕ) → s < a.count → move_count a s ≡ move_count b s
  pub costs : (s m : ℕ) → m < move_count a s → (move_at a s m).cost ≡ (move_at b s m).cost
  pub outcomes : (s m : ℕ) → m < move_count a s → outcome_count a s m ≡ outcome_count b s m
  pub leads : (s m o : ℕ) → o < outcome_count a s m → (outcome_at a s m o).state ≡ (outcome_at b s m o).state
  pub weighs : (s m o : ℕ) → o < outcome_count a s m → (outcome_at a s m o).weight ≡ (outcome_at b s m o).weight

-- two plants that read alike at every number that there is mean the same: nothing is hidden outside
abbrev pub AlikeSame : Type 0
AlikeSame = (a b : Belt) → LawfulBelt a → LawfulBelt b → Alike a b → a ≡ b
