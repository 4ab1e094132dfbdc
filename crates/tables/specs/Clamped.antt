-- The belt that a count, a start and three tables stand for, whatever they hold: each number is brought within the
-- bounds of a belt as it is read.
use Rattle.std.specs.Prelude.{ℕ, ◌+◌, ◌-◌, min, max, cond, ◌&&◌, List, [], map, ◌==◌, nat_lt, slice_index_or}
use Rattle.std.specs.List.{range_with_len}
use Rattle.plant.specs.Belts.{Belt, Move, Outcome}
use Rattle.plan.specs.Records.{Records}
use Rattle.plan.specs.declared.records.StateRecord.{StateRecord}
use Rattle.plan.specs.declared.records.MoveRecord.{MoveRecord}
use Rattle.plan.specs.declared.records.OutcomeRecord.{OutcomeRecord}

-- the number from low to high that is nearest to n
abbrev pub nearest : ℕ → ℕ → ℕ → ℕ
nearest low high n = max low (min n high)

-- what a place past the end of the table of states holds
abbrev pub no_state : StateRecord
no_state = record { first = 0; end = 0 }

-- what a place past the end of the table of moves holds
abbrev pub no_move_record : MoveRecord
no_move_record = record { cost = 0; first = 0; end = 0 }

-- what a place past the end of the table of outcomes holds
abbrev pub no_outcome_record : OutcomeRecord
no_outcome_record = record { state = 0; weight = 0 }

-- the outcome of a record, where there are n states
abbrev pub outcome_in : ℕ → OutcomeRecord → Outcome
outcome_in n r = record { state = nearest 0 (n - 1) r.state; weight = nearest 1 255 r.weight }

-- how many outcomes the move of a record has
abbrev pub outcomes_in : MoveRecord → ℕ
outcomes_in r = nearest 1 16 (r.end - r.first)

-- the move of a record, where there are n states and this table of outcomes
abbrev pub move_in : ℕ → List OutcomeRecord → MoveRecord → Move
move_in n outcomes r = record {
  cost = nearest 1 1000 r.cost;
  outcomes = map (λ o. outcome_in n (slice_index_or outcomes (r.first + o) no_outcome_record)) (range_with_len 0 (outcomes_in r));
}

-- how many moves the state of a record has
abbrev pub moves_in : StateRecord → ℕ
moves_in r = nearest 0 16 (r.end - r.first)

-- the moves of the state of a record, where there are n states
abbrev pub moves_of : ℕ → Records → StateRecord → List Move
moves_of n t r = map (λ m. move_in n t.outcomes (slice_index_or t.moves (r.first + m) no_move_record)) (range_with_len 0 (moves_in r))

-- the belt of n states: one that has no moves is a goal, and a number past the states is none and has no moves
abbrev pub belt_in : ℕ → ℕ → Records → Belt
belt_in n start t = record {
  count = n;
  start = nearest 0 (n - 1) start;
  goal = λ s. nat_lt s n && (moves_in (slice_index_or t.states s no_state) == 0);
  moves = λ s. cond (nat_lt s n) (moves_of n t (slice_index_or t.states s no_state)) [];
}

-- how many states a count comes to
abbrev pub states_in : ℕ → ℕ
states_in count = nearest 1 4096 count

-- the belt of a count, a start and the records of three tables
abbrev pub table_belt : ℕ → ℕ → Records → Belt
table_belt count start t = belt_in (states_in count) start t
