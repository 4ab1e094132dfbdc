use Rattle.std.proofs.Common.{◌≡◌, ℕ, ◌<◌, false, get_or, take}
use Rattle.plant.specs.Bars.{barred}
use Rattle.plant.proofs.bars.shut_in.Given as goal

-- what the bars so far bar is shut
abbrev pub invariant-loop-bar : goal.invariant-loop-bar
invariant-loop-bar l = (k : ℕ) → k < 16 → get_or l.shut k false ≡ barred (take l.bar-index l.bars) l.state k
