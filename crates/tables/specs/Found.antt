-- What stands at a number of a plant of tables, as the code finds it: the record of a state, of a move or of an outcome.
use Rattle.std.specs.Prelude.{◌≡◌, ℕ, Bool, false, List, [], Some, None, Option, ◌==◌}
use Rattle.plant.specs.Belts.{Move, Outcome, no_move, no_outcome, move_at, move_count, outcome_at, outcome_count}
use Rattle.plan.specs.Records.{Records}
use Rattle.plan.specs.declared.records.StateRecord.{StateRecord}
use Rattle.plan.specs.declared.records.MoveRecord.{MoveRecord}
use Rattle.plan.specs.declared.records.OutcomeRecord.{OutcomeRecord}
use Rattle.tables.specs.declared.made.TablePlant.{TablePlant}
use Rattle.tables.specs.Clamped.{outcome_in, outcomes_in, move_in, moves_in, moves_of, states_in}
use Rattle.tables.specs.Made.{records_of, belt_of}

-- whether the state that was found is a goal
abbrev pub goal_found : Option StateRecord → Bool
goal_found None = false
goal_found (Some r) = moves_in r == 0

-- how many moves it has
abbrev pub move_count_found : Option StateRecord → ℕ
move_count_found None = 0
move_count_found (Some r) = moves_in r

-- its moves, where there are n states
abbrev pub moves_found : ℕ → Records → Option StateRecord → List Move
moves_found n t None = []
moves_found n t (Some r) = moves_of n t r

-- the move that was found, where there are n states and this table of outcomes
abbrev pub move_found : ℕ → List OutcomeRecord → Option MoveRecord → Move
move_found n outcomes None = no_move
move_found n outcomes (Some r) = move_in n outcomes r

-- how many outcomes it has
abbrev pub outcome_count_found : Option MoveRecord → ℕ
outcome_count_found None = 0
outcome_count_found (Some r) = outcomes_in r

-- the outcome that was found, where there are n states
abbrev pub outcome_found : ℕ → Option OutcomeRecord → Outcome
outcome_found n None = no_outcome
outcome_found n (Some r) = outcome_in n r

-- the record that was found for state s
pub record FoundState (p : TablePlant) (s : ℕ) (found : Option StateRecord) : Type 0 where
  pub goal : (belt_of p).goal s ≡ goal_found found
  pub count : move_count (belt_of p) s ≡ move_count_found found
  pub moves : (belt_of p).moves s ≡ moves_found (states_in p.head.count) (records_of p) found

-- the record that was found at number m of that state
pub record FoundMove (p : TablePlant) (s m : ℕ) (found : Option MoveRecord) : Type 0 where
  pub is : move_at (belt_of p) s m ≡ move_found (states_in p.head.count) (records_of p).outcomes found
  pub count : outcome_count (belt_of p) s m ≡ outcome_count_found found

-- the record that was found at number o of that move
pub record FoundOutcome (p : TablePlant) (s m o : ℕ) (found : Option OutcomeRecord) : Type 0 where
  pub is : outcome_at (belt_of p) s m o ≡ outcome_found (states_in p.head.count) found
