use Rattle.std.proofs.Common.{◌≡◌, arith, rules}
use Rattle.plant.specs.Belts.{outcome_at}
use Rattle.plant.proofs.Compared.{decides_all, same_move}
use Rattle.plant.proofs.compare.same_move.Goals as goal

pub returns-then-count-outcome_count : goal.returns-then-count-outcome_count
returns-then-count-outcome_count g c =
    let a = outcome_at (g.P.Plant.meaning c.args.one.now) c.args.state c.args.number in
    let b = outcome_at (g.Q.Plant.meaning c.args.other.now) c.args.state c.args.number in
    let each = decides_all (λ o. a o ≡ b o) c.outcome_count-count.result _ _ _ c.all.ensures.ran (λ x q k. search rules) (λ x q k. search rules) in
    (λ e. same_move _ _ (search rules) (search rules) (λ o h. each.0 e o (omega (arith, h))), λ e. each.1 (λ o _. cc))
