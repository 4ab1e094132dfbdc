use Rattle.std.proofs.Common.{arith}
use Rattle.tables.proofs.TablesFound.{found_outcome}
use Rattle.tables.proofs.made.TablePlant.found_outcome.Goals as goal

pub returns : goal.returns
returns c =
    let zeros = c.default-past.ensures in
    let by = c.in_ok-by in
    found_outcome c.args.self.now c.args.state c.args.number c.args.outcome by.by by.ensures (omega arith) c.record_at.result c.record_at.ensures (λ i. record { state = zeros.0 i; weight = zeros.1 i }) (omega arith)
