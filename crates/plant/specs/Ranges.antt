-- The range that an argument of a maker has to lie in.
use Rattle.std.specs.Prelude.{ℕ, cond, ◌&&◌, nat_le}
use Rattle.refusal.specs.Told.{Told, answered, refused}
use Rattle.plant.specs.Faults.{out_of_range}

-- an argument from low to high is taken; any other is refused at its index
abbrev pub ranged : ℕ → ℕ → ℕ → ℕ → Told ℕ
ranged index low high x = cond (nat_le low x && nat_le x high) (answered x) (refused (out_of_range index))
