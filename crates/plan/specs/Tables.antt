-- The tables that are lent for writing: what they hold, and a record written into one.
use Rattle.std.specs.Prelude.{◌≡◌, ℕ, length, slice_set}
use Rattle.plan.specs.declared.counts.Counts.{Counts}
use Rattle.plan.specs.declared.records.StateRecord.{StateRecord}
use Rattle.plan.specs.declared.records.MoveRecord.{MoveRecord}
use Rattle.plan.specs.declared.records.OutcomeRecord.{OutcomeRecord}
use Rattle.plan.specs.declared.tables.Tables.{Tables}
use Rattle.plan.specs.Records.{Records}

-- what tables hold
abbrev pub held : Tables → Records
held t = record { states = t.states.now; moves = t.moves.now; outcomes = t.outcomes.now }

-- how many places tables have
abbrev pub room_of : Records → Counts
room_of r = record { states = length r.states; moves = length r.moves; outcomes = length r.outcomes }

-- they are the same three tables, whatever they hold
pub record SameTables (t u : Tables) : Type 0 where
  pub states : t.states.ghost_name ≡ u.states.ghost_name
  pub moves : t.moves.ghost_name ≡ u.moves.ghost_name
  pub outcomes : t.outcomes.ghost_name ≡ u.outcomes.ghost_name

-- from t to u the same three tables, which hold r then
pub record Becomes (t u : Tables) (r : Records) : Type 0 where
  pub held : held u ≡ r
  pub same : SameTables u t

-- a state is written; past the table's end nothing is
abbrev pub with_state : Records → ℕ → StateRecord → Records
with_state r place s = record { states = slice_set r.states place s; moves = r.moves; outcomes = r.outcomes }

-- a move is written; past the table's end nothing is
abbrev pub with_move : Records → ℕ → MoveRecord → Records
with_move r place m = record { states = r.states; moves = slice_set r.moves place m; outcomes = r.outcomes }

-- an outcome is written; past the table's end nothing is
abbrev pub with_outcome : Records → ℕ → OutcomeRecord → Records
with_outcome r place o = record { states = r.states; moves = r.moves; outcomes = slice_set r.outcomes place o }
