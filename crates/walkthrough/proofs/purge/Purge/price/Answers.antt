use Rattle.std.proofs.Common.{arith}
use Rattle.joining.proofs.Bounded.{answer_bounded}
use Rattle.walkthrough.proofs.purge.Purge.price.Goals as goal

-- by the laws of joinings the figure is at most 1,000,000,000, and 16 bits of cost leave room for it
pub overflow_add-result : goal.overflow_add-result
overflow_add-result g c =
    let joining = c.args.joining.now in
    omega (arith, answer_bounded (g.J.Joining.meaning joining) (g.J.Joining.lawful joining) c.args.self.now.weights.now c.args.self.now.figures.now c.in_ok-figure.figure c.in_ok-figure.ensures.answer)
