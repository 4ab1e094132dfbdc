-- What a plant means: a belt, with its states, its start, its goals and its moves; and how it reads.
use Rattle.std.specs.Prelude.{ℕ, Bool, List, [], length, slice_index_or}

-- one way in which a move can end (the field says: a successor): a state, and its weight beside the others
pub record Outcome : Type 0 where
  pub state : ℕ
  pub weight : ℕ

-- what can be done in a state (the field says: an action): its cost in units, and its outcomes in order
pub record Move : Type 0 where
  pub cost : ℕ
  pub outcomes : List Outcome

-- so many states, numbered from 0; one of them to start in; which are goals; and the moves of each state in order
pub record Belt : Type 0 where
  pub count : ℕ
  pub start : ℕ
  pub goal : ℕ → Bool
  pub moves : ℕ → List Move

-- what is read of an outcome that is not there
abbrev pub no_outcome : Outcome
no_outcome = record { state = 0; weight = 0 }

-- what is read of a move that is not there
abbrev pub no_move : Move
no_move = record { cost = 0; outcomes = [] }

-- how many moves a state has
abbrev pub move_count : Belt → ℕ → ℕ
move_count b s = length (b.moves s)

-- move m of state s
abbrev pub move_at : Belt → ℕ → ℕ → Move
move_at b s m = slice_index_or (b.moves s) m no_move

-- how many outcomes that move has
abbrev pub outcome_count : Belt → ℕ → ℕ → ℕ
outcome_count b s m = length (move_at b s m).outcomes

-- outcome o of that move
abbrev pub outcome_at : Belt → ℕ → ℕ → ℕ → Outcome
outcome_at b s m o = slice_index_or (move_at b s m).outcomes o no_outcome
