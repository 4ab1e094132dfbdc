use Rattle.std.proofs.Common.{arith}
use Rattle.tables.proofs.TablesFound.{found_state}
use Rattle.tables.proofs.made.TablePlant.found_state.Goals as goal

pub returns : goal.returns
returns c =
    let zeros = c.default-past.ensures in
    found_state c.args.self.now c.args.state c.record_at.result c.record_at.ensures (λ i. record { first = zeros.0 i; end = zeros.1 i }) (omega arith) (omega arith)
