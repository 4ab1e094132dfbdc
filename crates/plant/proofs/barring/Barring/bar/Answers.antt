use Rattle.plant.proofs.LaneClosed.{lane_closed_by, taken}
use Rattle.plant.proofs.barring.Barring.bar.Goals as goal

pub returns-clause-means : goal.returns-clause-means
returns-clause-means g c =
    let p = c.args.self.now in
    lane_closed_by p.bars.items (g.P.Plant.meaning p.plant) c.args.state c.args.number (taken p.bars.items (g.P.Plant.meaning p.plant) c.args.state c.args.number c.in_ok-check_bar.ensures.answer) c.push.new.self.items c.push.ensures.items
