-- How the forms of a plan text are read, each from a place of the text on. The leftmost fault answers.
use Rattle.std.specs.Prelude.{ℕ, zero, suc, ◌+◌, cond, List, [], ◌∷◌, codes, fold, nat_lt}
use Rattle.refusal.specs.Told.{Told, answered, refused, and_then}
use Rattle.plant.specs.Belts.{Move, Outcome}
use Rattle.text.specs.declared.marks.Sign.TheVariants.{Open, Close, Space}
use Rattle.text.specs.declared.parsed.Parsed.{Parsed}
use Rattle.text.specs.Marks.{sign_byte}
use Rattle.text.specs.Numbers.{number_at, ranged_at}
use Rattle.text.specs.Words.{is_at, sign_at, word_at}
use Rattle.plan.specs.declared.counts.Counts.{Counts}
use Rattle.plan.specs.declared.records.OutcomeRecord.{OutcomeRecord}
use Rattle.plan.specs.declared.walk.Limits.{Limits}
use Rattle.plan.specs.Faults.{bad_state, table_full}

-- a word, and the space behind it
abbrev pub keyword_at : List ℕ → ℕ → List ℕ → Told ℕ
keyword_at text at word = and_then (word_at text at word) (λ end. sign_at text end Space)

-- a state number that is read has to lie below the count of states
abbrev pub below : ℕ → ℕ → Parsed ℕ → Told (Parsed ℕ)
below states at read = cond (nat_lt read.value states) (answered read) (refused (bad_state at))

-- the number of a state
abbrev pub state_at : ℕ → List ℕ → ℕ → Told (Parsed ℕ)
state_at states text at = and_then (number_at text at) (below states at)

-- an opening bracket at which a record is due: its table needs a place, where `used` of `room` are taken
abbrev pub open_at : List ℕ → ℕ → ℕ → ℕ → Told ℕ
open_at text at used room = and_then (sign_at text at Open) (λ inside. cond (nat_lt used room) (answered inside) (refused (table_full at)))

-- `(to t w)`
abbrev pub outcome_at : List ℕ → Limits → Counts → ℕ → Told (Parsed OutcomeRecord)
outcome_at text limits used at =
    and_then (open_at text at used.outcomes limits.room.outcomes) (λ inside.
    and_then (keyword_at text inside (codes "to")) (λ first.
    and_then (state_at limits.states text first) (λ state.
    and_then (sign_at text state.next Space) (λ second.
    and_then (ranged_at 1 255 text second) (λ weight.
    and_then (sign_at text weight.next Close) (λ next.
    answered (record { value = record { state = state.value; weight = weight.value }; next = next })))))))

-- `(move c`
abbrev pub cost_at : List ℕ → Limits → Counts → ℕ → Told (Parsed ℕ)
cost_at text limits used at =
    and_then (open_at text at used.moves limits.room.moves) (λ inside.
    and_then (keyword_at text inside (codes "move")) (λ first.
    and_then (ranged_at 1 1000 text first) (λ cost.
    answered cost)))

-- one more in front of those that are read behind it
abbrev pub also : {A : Type 0} → A → Told (Parsed (List A)) → Told (Parsed (List A))
also a more = and_then more (λ g. answered (record { value = a ∷ g.value; next = g.next }))

-- the bracket that closes a row of forms
abbrev pub close_at : {A : Type 0} → List ℕ → ℕ → Told (Parsed (List A))
close_at text at = and_then (sign_at text at Close) (λ next. answered (record { value = []; next = next }))

-- at most k forms more, each behind a space: `item` reads one where so many records are used, and `grow` counts its own
abbrev pub more_at : {A : Type 0} → (Counts → ℕ → Told (Parsed A)) → (Counts → A → Counts) → ℕ → List ℕ → Counts → ℕ → Told (Parsed (List A))
more_at item grow zero text used at = close_at text at
more_at item grow (suc k) text used at =
    cond (is_at text at (sign_byte Space))
    (and_then (item used (at + 1)) (λ g. also g.value (more_at item grow k text (grow used g.value) g.next)))
    (close_at text at)

-- 1 to 16 forms, each behind a space, and the bracket that closes them
abbrev pub forms_at : {A : Type 0} → (Counts → ℕ → Told (Parsed A)) → (Counts → A → Counts) → List ℕ → Counts → ℕ → Told (Parsed (List A))
forms_at item grow text used at =
    and_then (sign_at text at Space) (λ first.
    and_then (item used first) (λ g. also g.value (more_at item grow 15 text (grow used g.value) g.next)))

-- the records that are used behind one more of them, and behind all of a row
abbrev pub grow_all : {A : Type 0} → (Counts → A → Counts) → Counts → List A → Counts
grow_all grow used all = fold grow used all

-- one outcome more is used
abbrev pub grow_outcome : Counts → Outcome → Counts
grow_outcome used o = record { states = used.states; moves = used.moves; outcomes = used.outcomes + 1 }

-- one move more is used, with its outcomes
abbrev pub grow_move : Counts → Move → Counts
grow_move used m = record { states = used.states; moves = used.moves + 1; outcomes = (grow_all grow_outcome used m.outcomes).outcomes }

-- an outcome among those of its move
abbrev pub outcome_item : List ℕ → Limits → Counts → ℕ → Told (Parsed Outcome)
outcome_item text limits used at = and_then (outcome_at text limits used at) (λ o. answered (record { value = record { state = o.value.state; weight = o.value.weight }; next = o.next }))

-- the outcomes of a move
abbrev pub outcomes_at : List ℕ → Limits → Counts → ℕ → Told (Parsed (List Outcome))
outcomes_at text limits used at = forms_at (outcome_item text limits) grow_outcome text used at

-- a move among those of its state: its front and its outcomes
abbrev pub move_item : List ℕ → Limits → Counts → ℕ → Told (Parsed Move)
move_item text limits used at =
    and_then (cost_at text limits used at) (λ front.
    and_then (outcomes_at text limits used front.next) (λ g.
    answered (record { value = record { cost = front.value; outcomes = g.value }; next = g.next })))

-- the moves of a state
abbrev pub moves_at : List ℕ → Limits → Counts → ℕ → Told (Parsed (List Move))
moves_at text limits used at = forms_at (move_item text limits) grow_move text used at
