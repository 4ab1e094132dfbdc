use Rattle.std.proofs.Common.{arith}
use Rattle.tables.proofs.TablesFound.{found_move}
use Rattle.tables.proofs.made.TablePlant.found_move.Goals as goal

pub returns : goal.returns
returns c =
    let zeros = c.default-past.ensures in
    let from = c.in_ok-from in
    found_move c.args.self.now c.args.state c.args.number from.from from.ensures (omega arith) c.record_at.result c.record_at.ensures (λ i. record { cost = zeros.0 i; first = zeros.1.0 i; end = zeros.1.1 i }) (omega arith)
