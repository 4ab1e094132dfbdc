-- The belt that a tank line stands for, and what stands in each of its states.
use Rattle.std.specs.Prelude.{◌≡◌, ℕ, cond, [], ◌==◌}
use Rattle.plant.specs.declared.tank.line.TankLine.{TankLine}
use Rattle.plant.specs.Belts.{Belt}
use Rattle.plant.specs.Tank.{tank_line, tank_moves}

-- the belt of a line's pieces, levels, rests and jets
abbrev pub belt_of : TankLine → Belt
belt_of t = tank_line t.pieces t.levels t.rest t.jet

-- what stands in state s, by its pieces f and its level p: a goal where no piece is stuck, and else the moves
pub record LaidOut (t : TankLine) (f p s : ℕ) : Type 0 where
  pub goal : (belt_of t).goal s ≡ (f == 0)
  pub moves : (belt_of t).moves s ≡ cond (f == 0) [] (tank_moves t.levels t.rest t.jet f p)
