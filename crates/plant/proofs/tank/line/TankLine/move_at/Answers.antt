use Rattle.std.proofs.Common.{arith}
use Rattle.plant.proofs.TankFound.{found_jets}
use Rattle.plant.proofs.tank.line.TankLine.move_at.Goals as goal

pub returns-in_default : goal.returns-in_default
returns-in_default c = found_jets c.args.self.now c.args.state c.args.number (omega arith) (omega arith)
