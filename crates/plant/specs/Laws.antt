-- The bounds that the meaning of every plant keeps.
use Rattle.std.specs.Prelude.{◌≡◌, ℕ, ◌<◌, ◌≤◌, true, false, [], length, slice_index_or}
use Rattle.plant.specs.Belts.{Outcome, Move, Belt, no_outcome, move_count, move_at}

-- an outcome leads to one of n states, by a weight of 1 to 255
pub record LawfulOutcome (n : ℕ) (o : Outcome) : Type 0 where
  pub inside : o.state < n
  pub weighs : 1 ≤ o.weight
  pub light : o.weight ≤ 255

-- a move costs 1 to 1,000 units and has 1 to 16 outcomes
pub record LawfulMove (n : ℕ) (v : Move) : Type 0 where
  pub costs : 1 ≤ v.cost
  pub cheap : v.cost ≤ 1000
  pub some : 1 ≤ length v.outcomes
  pub few : length v.outcomes ≤ 16
  pub each : (o : ℕ) → o < length v.outcomes → LawfulOutcome n (slice_index_or v.outcomes o no_outcome)

-- 1 to 4,096 states with the start among them; every state but the goals has 1 to 16 moves;
-- goals, and numbers that are no state, have none, and such numbers are no goals
pub record LawfulBelt (b : Belt) : Type 0 where
  pub some : 1 ≤ b.count
  pub few : b.count ≤ 4096
  pub starts : b.start < b.count
  pub moves_some : (s : ℕ) → s < b.count → b.goal s ≡ false → 1 ≤ move_count b s
  pub moves_few : (s : ℕ) → move_count b s ≤ 16
  pub each : (s m : ℕ) → m < move_count b s → LawfulMove b.count (move_at b s m)
  pub no_goal_outside : (s : ℕ) → b.count ≤ s → b.goal s ≡ false
  pub still_outside : (s : ℕ) → b.count ≤ s → b.moves s ≡ []
  pub still_at_goals : (s : ℕ) → b.goal s ≡ true → b.moves s ≡ []
