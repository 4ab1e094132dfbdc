-- The format: the text of a plan, byte for byte.
use Rattle.std.specs.Prelude.{◌≡◌, ℕ, ◌+◌, ◌≤◌, List, [], ◌∷◌, ◌++◌, length, codes, decimal}
use Rattle.plant.specs.Belts.{Move, Outcome}
use Rattle.text.specs.Faults.{longest_text}
use Rattle.plan.specs.declared.counts.Counts.{Counts}
use Rattle.plan.specs.Plans.{Plan, LawfulPlan, Fits}

-- the line feed that ends a line
abbrev pub feed : List ℕ
feed = 10 ∷ []

-- forms in a row: each behind a space, and then the bracket that closes what they stand in
abbrev pub forms_text : {A : Type 0} → (A → List ℕ) → List A → List ℕ
forms_text form [] = codes ")"
forms_text form (a ∷ more) = codes " " ++ (form a ++ forms_text form more)

-- `(to t w)`: state and weight
abbrev pub outcome_text : Outcome → List ℕ
outcome_text o = codes "(to " ++ (decimal o.state ++ (codes " " ++ (decimal o.weight ++ codes ")")))

-- `(move c (to t w) ..)`: cost and outcomes
abbrev pub move_text : Move → List ℕ
move_text m = codes "(move " ++ (decimal m.cost ++ forms_text outcome_text m.outcomes)

-- the line of a state: `(goal s)` where it has no moves, else `(state s (move ..) ..)`
abbrev pub line_text : ℕ → List Move → List ℕ
line_text s [] = codes "(goal " ++ (decimal s ++ (codes ")" ++ feed))
line_text s (m ∷ ms) = codes "(state " ++ (decimal s ++ (forms_text move_text (m ∷ ms) ++ feed))

-- the lines of the states from s on
abbrev pub lines_text : ℕ → List (List Move) → List ℕ
lines_text s [] = []
lines_text s (l ∷ ls) = line_text s l ++ lines_text (s + 1) ls

-- `(plan 1 N S)`: version, count and start; and then a line for each state
abbrev pub plan_text : Plan → List ℕ
plan_text p = codes "(plan 1 " ++ (decimal p.count ++ (codes " " ++ (decimal p.start ++ (codes ")" ++ (feed ++ lines_text 0 p.lines)))))

-- a text is that of a plan: one within the limits, of 60,000 bytes at most, with room for its records
pub record TextOf (p : Plan) (text : List ℕ) (room : Counts) : Type 0 where
  pub written : text ≡ plan_text p
  pub short : length text ≤ longest_text
  pub lawful : LawfulPlan p
  pub fits : Fits room p
