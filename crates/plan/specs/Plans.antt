-- What a plan text means: a plan, the belt that it stands for, and when it is within the limits.
use Rattle.std.specs.Prelude.{◌≡◌, ℕ, ◌≤◌, ◌&&◌, List, [], length, ◌==◌, nat_lt, slice_index_or}
use Rattle.std.specs.List.{flat_map}
use Rattle.plant.specs.Belts.{Belt, Move, Outcome}
use Rattle.plant.specs.Laws.{LawfulBelt}
use Rattle.plan.specs.declared.counts.Counts.{Counts}

-- a count of states, a start, and for each state its moves; a state without moves is a goal
pub record Plan : Type 0 where
  pub count : ℕ
  pub start : ℕ
  pub lines : List (List Move)

-- the belt that a plan stands for
abbrev pub plan_belt : Plan → Belt
plan_belt p = record {
  count = p.count;
  start = p.start;
  goal = λ s. nat_lt s p.count && (length (slice_index_or p.lines s []) == 0);
  moves = λ s. slice_index_or p.lines s [];
}

-- a plan is within the limits: it has a line for each state, and its belt keeps the bounds of all plants
pub record LawfulPlan (p : Plan) : Type 0 where
  pub lines : length p.lines ≡ p.count
  pub belt : LawfulBelt (plan_belt p)

-- the moves of all lines, in order
abbrev pub all_moves : List (List Move) → List Move
all_moves ls = flat_map (λ l. l) ls

-- the outcomes of all moves, in order
abbrev pub all_outcomes : List Move → List Outcome
all_outcomes ms = flat_map (λ m. m.outcomes) ms

-- there is room for a record of each state, each move and each outcome
pub record Fits (room : Counts) (p : Plan) : Type 0 where
  pub states : length p.lines ≤ room.states
  pub moves : length (all_moves p.lines) ≤ room.moves
  pub outcomes : length (all_outcomes (all_moves p.lines)) ≤ room.outcomes
