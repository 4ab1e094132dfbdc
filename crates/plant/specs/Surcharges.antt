-- A belt on which every move costs more.
use Rattle.std.specs.Prelude.{ℕ, ◌+◌, min, map}
use Rattle.refusal.specs.Told.{Told, answered, refused}
use Rattle.plant.specs.Belts.{Belt, Move}
use Rattle.plant.specs.Ranges.{ranged}

-- a move that costs c units more, and 1,000 at most
abbrev pub dearer : ℕ → Move → Move
dearer c v = record { cost = min (v.cost + c) 1000; outcomes = v.outcomes }

-- the belt with a surcharge of c units on every move
abbrev pub surcharged : ℕ → Belt → Belt
surcharged c b = record { count = b.count; start = b.start; goal = b.goal; moves = λ s. map (dearer c) (b.moves s) }

-- a surcharge is 0 to 999 units; the only argument is number 0
abbrev pub surcharge_told : ℕ → Told ℕ
surcharge_told c = ranged 0 0 999 c

-- the surcharge that stands afterwards: the new one where it is taken, else the one before
abbrev pub standing : Told ℕ → ℕ → ℕ
standing (answered c) before = c
standing (refused _) before = before
