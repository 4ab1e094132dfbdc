use Rattle.std.proofs.Common.{arith}
use Rattle.joining.proofs.Checked.{answered_lawful}
use Rattle.joining.proofs.rises.rise.Goals as goal

pub returns-clause-laws : goal.returns-clause-laws
returns-clause-laws g c =
    let join = g.J.Joining.meaning c.args.joining.now in
    let laws = g.J.Joining.lawful c.args.joining.now in
    let ws = c.args.weights.now in
    let fs = c.args.before.now in
    let gs = c.args.after.now in
    let low = answered_lawful join ws fs c.in_ok-low.low c.in_ok-low.ensures.answer in
    let high = answered_lawful join ws gs c.in_ok-high.high c.in_ok-high.ensures.answer in (
      λ none. omega (arith, laws.monotone ws fs gs low.rows high.rows none),
      omega (arith, laws.above_least ws fs low.rows, laws.below_greatest ws gs high.rows),
    )
