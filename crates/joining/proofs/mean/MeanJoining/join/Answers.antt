use Rattle.std.proofs.Common.{rules}
use Rattle.joining.proofs.Summed.{bounds}
use Rattle.joining.proofs.mean.MeanJoining.join.Goals as goal

pub loop-weight-init : goal.loop-weight-init
loop-weight-init c =
    let row = bounds c.args.weights.now c.args.figures.now c.in_ok-check_rows.ensures.means in
    search rules
