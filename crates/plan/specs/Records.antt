-- What the three tables of a plan hold.
use Rattle.std.specs.Prelude.{ℕ, ◌+◌, List, [], ◌∷◌, ◌++◌, map, length, drop}
use Rattle.refusal.specs.Told.{Told, answered, refused}
use Rattle.plant.specs.Belts.{Move, Outcome}
use Rattle.plan.specs.declared.records.StateRecord.{StateRecord}
use Rattle.plan.specs.declared.records.MoveRecord.{MoveRecord}
use Rattle.plan.specs.declared.records.OutcomeRecord.{OutcomeRecord}
use Rattle.plan.specs.Plans.{Plan, all_moves, all_outcomes}

-- the records of the three tables, each in order from place 0
pub record Records : Type 0 where
  pub states : List StateRecord
  pub moves : List MoveRecord
  pub outcomes : List OutcomeRecord

-- the record of an outcome
abbrev pub outcome_record : Outcome → OutcomeRecord
outcome_record o = record { state = o.state; weight = o.weight }

-- the records of moves, whose outcomes stand one behind the other from a place on
abbrev pub move_records : ℕ → List Move → List MoveRecord
move_records first [] = []
move_records first (m ∷ ms) = record { cost = m.cost; first = first; end = first + length m.outcomes } ∷ move_records (first + length m.outcomes) ms

-- the records of states, whose moves stand one behind the other from a place on
abbrev pub state_records : ℕ → List (List Move) → List StateRecord
state_records first [] = []
state_records first (l ∷ ls) = record { first = first; end = first + length l } ∷ state_records (first + length l) ls

-- all records of a plan
abbrev pub plan_records : Plan → Records
plan_records p = record {
  states = state_records 0 p.lines;
  moves = move_records 0 (all_moves p.lines);
  outcomes = map outcome_record (all_outcomes (all_moves p.lines));
}

-- new records fill a table from place 0, and later places stay
abbrev pub over : {A : Type 0} → List A → List A → List A
over new old = new ++ drop (length new) old

-- the tables after a plan was loaded into them
abbrev pub loaded : Plan → Records → Records
loaded p before = record {
  states = over (plan_records p).states before.states;
  moves = over (plan_records p).moves before.moves;
  outcomes = over (plan_records p).outcomes before.outcomes;
}

-- the tables after a text was read: a refused one leaves them as they were
abbrev pub records_after : Told Plan → Records → Records
records_after (answered p) before = loaded p before
records_after (refused _) before = before
