-- How the lines of a plan text are read, and the whole text. The leftmost fault answers.
use Rattle.std.specs.Prelude.{ℕ, zero, suc, ◌+◌, cond, List, [], length, codes, ◌==◌, nat_le}
use Rattle.refusal.specs.Told.{Told, answered, refused, and_then}
use Rattle.plant.specs.Belts.{Move}
use Rattle.text.specs.declared.marks.Sign.TheVariants.{Open, Close, Space, Feed}
use Rattle.text.specs.declared.parsed.Parsed.{Parsed}
use Rattle.text.specs.Faults.{bad_byte, too_long, longest_text}
use Rattle.text.specs.Numbers.{number_at, ranged_at}
use Rattle.text.specs.Words.{is_at, sign_at, word_at}
use Rattle.plan.specs.declared.counts.Counts.{Counts}
use Rattle.plan.specs.declared.openings.Opening.{Opening}
use Rattle.plan.specs.declared.openings.Opening.TheVariants.{Goal, State}
use Rattle.plan.specs.declared.records.PlanHead.{PlanHead}
use Rattle.plan.specs.declared.walk.Limits.{Limits}
use Rattle.plan.specs.Faults.{bad_state}
use Rattle.plan.specs.Forms.{also, grow_all, grow_move, keyword_at, moves_at, open_at, state_at}
use Rattle.plan.specs.Plans.{Plan}

-- the word that opens the line of a goal, or of a state with moves
abbrev pub opening_word : Opening → List ℕ
opening_word Goal = codes "goal"
opening_word State = codes "state"

-- that word is due
abbrev pub opened : Opening → List ℕ → ℕ → Told (Parsed Opening)
opened w text at = and_then (word_at text at (opening_word w)) (λ next. answered (record { value = w; next = next }))

-- the word that opens a line: an s in front makes it `state`, any other byte `goal`
abbrev pub opening_at : List ℕ → ℕ → Told (Parsed Opening)
opening_at text at = cond (is_at text at 115) (opened State text at) (opened Goal text at)

-- the number of the state that is due
abbrev pub due_at : ℕ → List ℕ → ℕ → Told (Parsed ℕ)
due_at due text at = and_then (number_at text at) (λ read. cond (read.value == due) (answered read) (refused (bad_state at)))

-- a line up to the number of its state, of which so many as there are states before it are due
abbrev pub front_at : List ℕ → Limits → Counts → ℕ → Told (Parsed Opening)
front_at text limits used at =
    and_then (open_at text at used.states limits.room.states) (λ inside.
    and_then (opening_at text inside) (λ o.
    and_then (sign_at text o.next Space) (λ first.
    and_then (due_at used.states text first) (λ number.
    answered (record { value = o.value; next = number.next })))))

-- what stands behind the number, up to the closing bracket: a goal has no moves
abbrev pub body_at : Opening → List ℕ → Limits → Counts → ℕ → Told (Parsed (List Move))
body_at Goal text limits used at = and_then (sign_at text at Close) (λ next. answered (record { value = []; next = next }))
body_at State text limits used at = moves_at text limits used at

-- a line: the moves of its state
abbrev pub line_at : List ℕ → Limits → Counts → ℕ → Told (Parsed (List Move))
line_at text limits used at =
    and_then (front_at text limits used at) (λ front.
    and_then (body_at front.value text limits used front.next) (λ g.
    and_then (sign_at text g.next Feed) (λ next.
    answered (record { value = g.value; next = next }))))

-- one state more is used, with its moves and their outcomes
abbrev pub grow_line : Counts → List Move → Counts
grow_line used l = record { states = used.states + 1; moves = (grow_all grow_move used l).moves; outcomes = (grow_all grow_move used l).outcomes }

-- k lines, for as many states
abbrev pub lines_at : ℕ → List ℕ → Limits → Counts → ℕ → Told (Parsed (List (List Move)))
lines_at zero text limits used at = answered (record { value = []; next = at })
lines_at (suc k) text limits used at =
    and_then (line_at text limits used at) (λ g. also g.value (lines_at k text limits (grow_line used g.value) g.next))

-- the first line: count and start
abbrev pub head_at : List ℕ → Told (Parsed PlanHead)
head_at text =
    and_then (sign_at text 0 Open) (λ inside.
    and_then (keyword_at text inside (codes "plan")) (λ first.
    and_then (ranged_at 1 1 text first) (λ version.
    and_then (sign_at text version.next Space) (λ second.
    and_then (ranged_at 1 4096 text second) (λ count.
    and_then (sign_at text count.next Space) (λ third.
    and_then (state_at count.value text third) (λ start.
    and_then (sign_at text start.next Close) (λ close.
    and_then (sign_at text close Feed) (λ next.
    answered (record { value = record { count = count.value; start = start.value }; next = next }))))))))))

-- no record is used as yet
abbrev pub unused : Counts
unused = record { states = 0; moves = 0; outcomes = 0 }

-- nothing stands behind the last line
abbrev pub end_at : List ℕ → Plan → ℕ → Told Plan
end_at text p at = cond (nat_le (length text) at) (answered p) (refused (bad_byte at))

-- the lines behind the first one
abbrev pub rest_at : List ℕ → Counts → Parsed PlanHead → Told Plan
rest_at text room h =
    and_then (lines_at h.value.count text (record { states = h.value.count; room = room }) unused h.next) (λ g.
    end_at text (record { count = h.value.count; start = h.value.start; lines = g.value }) g.next)

-- what a text reads as, where the tables have so much room: its length is tested first
abbrev pub read_plan : List ℕ → Counts → Told Plan
read_plan text room = cond (nat_le (length text) longest_text) (and_then (head_at text) (rest_at text room)) (refused too_long)

-- what the first line of a plan says
abbrev pub head_of : Plan → PlanHead
head_of p = record { count = p.count; start = p.start }
