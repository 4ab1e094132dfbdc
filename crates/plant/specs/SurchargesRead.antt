-- How a belt with a surcharge reads by the readings of the belt below.
use Rattle.std.specs.Prelude.{◌≡◌, ℕ, zero, suc, ◌+◌, min}
use Rattle.plant.specs.Belts.{Belt, move_at}
use Rattle.plant.specs.Surcharges.{surcharged}

-- what a cost reads as with a surcharge of c: a move that is not there still costs 0
abbrev pub raised : ℕ → ℕ → ℕ
raised c zero = 0
raised c (suc cost) = min (suc cost + c) 1000

-- move m of the belt with a surcharge is move k below, at the raised cost
pub record Raised (c : ℕ) (b : Belt) (s m k : ℕ) : Type 0 where
  pub cost : (move_at (surcharged c b) s m).cost ≡ raised c (move_at b s k).cost
  pub outcomes : (move_at (surcharged c b) s m).outcomes ≡ (move_at b s k).outcomes
