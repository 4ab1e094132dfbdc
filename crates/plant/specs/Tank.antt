-- What a tank line means: F pieces are stuck at most, and the tank has the levels 0 to P;
-- a rest costs r and a jet b. In a state, f pieces are stuck and the tank stands at level p.
use Rattle.std.specs.Prelude.{ℕ, zero, suc, ◌+◌, ◌-◌, ◌*◌, ◌/◌, ◌%◌, min, Bool, cond, ◌&&◌, List, [], ◌∷◌, map, Some, None, Option, ◌==◌, nat_le}
use Rattle.std.specs.List.{range_with_len}
use Rattle.refusal.specs.Told.{Told, answered, and_then}
use Rattle.plant.specs.Belts.{Belt, Move, Outcome}
use Rattle.plant.specs.Ranges.{ranged}

-- the number of the state with f pieces at level p
abbrev pub state_of : ℕ → ℕ → ℕ → ℕ
state_of P f p = f * (P + 1) + p

-- "j choose m": in how many ways m of j pieces come free, by Pascal's rule
abbrev pub choose : ℕ → ℕ → ℕ
choose zero zero = 1
choose zero (suc m) = 0
choose (suc j) zero = 1
choose (suc j) (suc m) = choose j m + choose j (suc m)

-- what a rest leads to: the tank fills by one level, up to the top
abbrev pub rested : ℕ → ℕ → ℕ → Outcome
rested P f p = record { state = state_of P f (min (p + 1) P); weight = 1 }

-- a rest: its cost, and one outcome
abbrev pub rest_move : ℕ → ℕ → ℕ → ℕ → Move
rest_move P r f p = record { cost = r; outcomes = rested P f p ∷ [] }

-- what j jets lead to where m pieces come free: each jet takes one level
abbrev pub freed : ℕ → ℕ → ℕ → ℕ → ℕ → Outcome
freed P f p j m = record { state = state_of P (f - m) (p - j); weight = choose j m }

-- j jets: the cost of each, and from none to all of j pieces free
abbrev pub jet_move : ℕ → ℕ → ℕ → ℕ → ℕ → Move
jet_move P b f p j = record { cost = b * j; outcomes = map (freed P f p j) (range_with_len 0 (j + 1)) }

-- the most jets at once: one for a piece, one for a level, and 8 at most
abbrev pub most_jets : ℕ → ℕ → ℕ
most_jets f p = min (min f p) 8

-- the moves where pieces are stuck: a rest, then one jet, two jets, up to the most
abbrev pub tank_moves : ℕ → ℕ → ℕ → ℕ → ℕ → List Move
tank_moves P r b f p = rest_move P r f p ∷ map (jet_move P b f p) (range_with_len 1 (most_jets f p))

-- whether so many pieces are stuck in some state
abbrev pub stuck : ℕ → ℕ → Bool
stuck F f = nat_le 1 f && nat_le f F

-- the belt: a state's number has its pieces as quotient and its level as remainder, and a state with no piece is a goal
abbrev pub tank_line : ℕ → ℕ → ℕ → ℕ → Belt
tank_line F P r b = record {
  count = (F + 1) * (P + 1);
  start = state_of P F P;
  goal = λ s. (s / (P + 1) == 0);
  moves = λ s. cond (stuck F (s / (P + 1))) (tank_moves P r b (s / (P + 1)) (s % (P + 1))) [];
}

-- the state with f pieces at level p, where the line has one
abbrev pub state_at : ℕ → ℕ → ℕ → ℕ → Option ℕ
state_at F P f p = cond (nat_le f F && nat_le p P) (Some (state_of P f p)) None

-- what is told of four numbers: 1 to 15 pieces, 1 to 15 levels, a rest of 1 to 1,000 units, a jet of 1 to 125;
-- the first that is out of its range is refused
abbrev pub tank_told : ℕ → ℕ → ℕ → ℕ → Told Belt
tank_told F P r b =
    and_then (ranged 0 1 15 F) (λ F. and_then (ranged 1 1 15 P) (λ P. and_then (ranged 2 1 1000 r) (λ r. and_then (ranged 3 1 125 b) (λ b. answered (tank_line F P r b)))))
