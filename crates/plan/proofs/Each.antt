-- What holds of each of a list, and of each of a row as its records are counted.
use Rattle.std.proofs.Common.{ℕ, ◌<◌, ◌≤◌, List, [], ◌∷◌, length}
use Rattle.std.specs.List.{AllByRecursion}
use Rattle.plant.specs.Belts.{Move, Outcome}
use Rattle.plant.specs.Laws.{LawfulMove}
use Rattle.plan.specs.declared.counts.Counts.{Counts}
use Rattle.plan.specs.Forms.{grow_move, grow_outcome}

-- F holds of each, where so many records are used before it
abbrev pub EachFits : {A : Type 0} → (Counts → A → Type 0) → (Counts → A → Counts) → Counts → List A → Type 0
EachFits F grow u [] = Unit {0}
EachFits F grow u (a ∷ more) = F u a × EachFits F grow (grow u a) more

abbrev pub OutcomeFits : Counts → Counts → Outcome → Type 0
OutcomeFits room u o = u.outcomes < room.outcomes

abbrev pub MoveFits : Counts → Counts → Move → Type 0
MoveFits room u m = (u.moves < room.moves) × EachFits (OutcomeFits room) grow_outcome u m.outcomes

abbrev pub LineFits : Counts → Counts → List Move → Type 0
LineFits room u l = (u.states < room.states) × EachFits (MoveFits room) grow_move u l

-- a line of a lawful plan of n states
abbrev pub LineLawful : ℕ → List Move → Type 0
LineLawful n l = (length l ≤ 16) × AllByRecursion (LawfulMove n) l
