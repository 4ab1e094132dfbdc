use Rattle.std.proofs.Common.{◌≡◌, get_or, take, fold}
use Rattle.joining.proofs.extremes.extreme.Given as goal

-- what is left of the figures so far
abbrev pub invariant-loop-figure : goal.invariant-loop-figure
invariant-loop-figure g l = l.extreme ≡ fold g.C.Choice.picked (get_or l.figures 0 0) (take l.figure-index l.figures)
