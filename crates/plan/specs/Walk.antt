-- What a walk through a text leaves: how far it went, and what the tables hold then. A refused walk says nothing of them.
use Rattle.std.specs.Prelude.{◌≡◌, List, [], ◌∷◌}
use Rattle.refusal.specs.Told.{Told, answered, and_then}
use Rattle.plant.specs.Belts.{Move, Outcome}
use Rattle.text.specs.declared.parsed.Parsed.{Parsed}
use Rattle.plan.specs.declared.counts.Counts.{Counts}
use Rattle.plan.specs.declared.records.PlanHead.{PlanHead}
use Rattle.plan.specs.declared.walk.Past.{Past}
use Rattle.plan.specs.Forms.{grow_all, grow_move, grow_outcome}
use Rattle.plan.specs.Lines.{grow_line, head_of, unused}
use Rattle.plan.specs.Plans.{Plan}
use Rattle.plan.specs.Records.{Records, outcome_record}
use Rattle.plan.specs.declared.tables.Tables.{Tables}
use Rattle.plan.specs.Tables.{SameTables, held, with_move, with_outcome, with_state}

-- an answer, and what the tables hold with it
pub record Left (A : Type 0) : Type 0 where
  pub answer : A
  pub held : Records

-- what a call told, with what it left in the tables
abbrev pub left : {A : Type 0} → Told A → Records → Told (Left A)
left t r = and_then t (λ a. answered (record { answer = a; held = r }))

-- what a call leaves in tables t, that are u then: what it told with what they hold, and the same three tables
pub record Leaves {A : Type 0} (told : Told A) (t u : Tables) (expected : Records → Told (Left A)) : Type 0 where
  pub left : left told (held u) ≡ expected (held t)
  pub same : SameTables u t

-- what is read is counted and written, from so many used records on
abbrev pub walked : {A : Type 0} → (Counts → A → Counts) → (Counts → A → Records → Records) → Told (Parsed A) → Counts → Records → Told (Left Past)
walked grow put read used r = and_then read (λ g. answered (record { answer = record { used = grow used g.value; next = g.next }; held = put used g.value r }))

-- each of a row is written in its turn
abbrev pub put_all : {A : Type 0} → (Counts → A → Counts) → (Counts → A → Records → Records) → Counts → List A → Records → Records
put_all grow put used [] r = r
put_all grow put used (a ∷ more) r = put_all grow put (grow used a) more (put used a r)

-- an outcome is written
abbrev pub put_outcome : Counts → Outcome → Records → Records
put_outcome used o r = with_outcome r used.outcomes (outcome_record o)

-- the outcomes of a move are written, and then the move
abbrev pub put_move : Counts → Move → Records → Records
put_move used m r =
    with_move (put_all grow_outcome put_outcome used m.outcomes r) used.moves
    (record { cost = m.cost; first = used.outcomes; end = (grow_all grow_outcome used m.outcomes).outcomes })

-- the moves of a state are written, and then the state
abbrev pub put_line : Counts → List Move → Records → Records
put_line used l r =
    with_state (put_all grow_move put_move used l r) used.states (record { first = used.moves; end = (grow_all grow_move used l).moves })

-- a whole plan is written
abbrev pub put_plan : Plan → Records → Records
put_plan p r = put_all grow_line put_line unused p.lines r

-- what reading a whole text leaves
abbrev pub read_whole : Told Plan → Records → Told (Left PlanHead)
read_whole read r = and_then read (λ p. answered (record { answer = head_of p; held = put_plan p r }))
