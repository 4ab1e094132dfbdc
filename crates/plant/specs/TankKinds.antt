-- What stands at a number of a tank line, as the code finds it: which move, and which outcome.
use Rattle.std.specs.Prelude.{◌≡◌, ℕ, ◌+◌, ◌/◌, ◌%◌, ◌≤◌, Some, None, Option}
use Rattle.plant.specs.declared.tank.kinds.TankMove.{TankMove}
use Rattle.plant.specs.declared.tank.kinds.TankMove.TheVariants.{Rest, Jets}
use Rattle.plant.specs.declared.tank.kinds.TankOutcome.{TankOutcome}
use Rattle.plant.specs.declared.tank.kinds.TankOutcome.TheVariants.{Rested, Freed}
use Rattle.plant.specs.declared.tank.line.TankLine.{TankLine}
use Rattle.plant.specs.Belts.{Move, Outcome, no_move, no_outcome, move_at, outcome_at, outcome_count}
use Rattle.plant.specs.Tank.{rest_move, jet_move, rested, freed}
use Rattle.plant.specs.TankLaid.{belt_of}

-- the move of a state with f pieces at level p
abbrev pub tank_move : TankLine → ℕ → ℕ → Option TankMove → Move
tank_move t f p None = no_move
tank_move t f p (Some Rest) = rest_move t.levels t.rest f p
tank_move t f p (Some (Jets j)) = jet_move t.levels t.jet f p j

-- how many outcomes it has
abbrev pub tank_outcomes : Option TankMove → ℕ
tank_outcomes None = 0
tank_outcomes (Some Rest) = 1
tank_outcomes (Some (Jets j)) = j + 1

-- there are no more jets than pieces, levels, and 8
abbrev pub Possible : ℕ → ℕ → Option TankMove → Type 0
Possible f p None = Unit {0}
Possible f p (Some Rest) = Unit {0}
Possible f p (Some (Jets j)) = (j ≤ f) × (j ≤ p) × (j ≤ 8)

-- an outcome of a state with f pieces at level p
abbrev pub tank_outcome : TankLine → ℕ → ℕ → Option TankOutcome → Outcome
tank_outcome t f p None = no_outcome
tank_outcome t f p (Some Rested) = rested t.levels f p
tank_outcome t f p (Some (Freed j m)) = freed t.levels f p j m

-- there are no more jets than levels and 8, and no more pieces come free than there are jets, and pieces
abbrev pub PossibleOutcome : ℕ → ℕ → Option TankOutcome → Type 0
PossibleOutcome f p None = Unit {0}
PossibleOutcome f p (Some Rested) = Unit {0}
PossibleOutcome f p (Some (Freed j m)) = (j ≤ p) × (j ≤ 8) × (m ≤ j) × (m ≤ f)

-- the move that was found at number m of state s
pub record FoundMove (t : TankLine) (s m : ℕ) (found : Option TankMove) : Type 0 where
  pub is : move_at (belt_of t) s m ≡ tank_move t (s / (t.levels + 1)) (s % (t.levels + 1)) found
  pub outcomes : outcome_count (belt_of t) s m ≡ tank_outcomes found
  pub possible : Possible (s / (t.levels + 1)) (s % (t.levels + 1)) found

-- the outcome that was found at number o of that move
pub record FoundOutcome (t : TankLine) (s m o : ℕ) (found : Option TankOutcome) : Type 0 where
  pub is : outcome_at (belt_of t) s m o ≡ tank_outcome t (s / (t.levels + 1)) (s % (t.levels + 1)) found
  pub possible : PossibleOutcome (s / (t.levels + 1)) (s % (t.levels + 1)) found
