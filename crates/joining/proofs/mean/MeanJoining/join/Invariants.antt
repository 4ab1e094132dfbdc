use Rattle.std.proofs.Common.{◌≡◌, ◌+◌, ◌*◌, ◌<◌, ◌≤◌, length}
use Rattle.std.specs.Iterator.Adapters.{zip_first, zip_second}
use Rattle.std.specs.Slice.Iter.{iter_rest}
use Rattle.joining.specs.Joinings.{weighed}
use Rattle.joining.proofs.mean.MeanJoining.join.Given as goal

-- the sum so far and the weighted sum of what is left make up the whole, which the weights' total bounds; the total is 1 to 4,080
abbrev pub invariant-loop-weight : goal.invariant-loop-weight
invariant-loop-weight l =
    let ws = iter_rest (zip_first l.weight-iterator) in
    let fs = iter_rest (zip_second l.weight-iterator) in
    (length ws ≡ length fs) × (l.sum + weighed ws fs ≡ weighed l.weights l.figures) × (weighed l.weights l.figures ≤ l.all * 1000000000) × (l.all ≤ 4080) × (0 < l.all)
