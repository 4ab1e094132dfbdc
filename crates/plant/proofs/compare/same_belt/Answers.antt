use Rattle.std.proofs.Common.{◌≡◌, arith, rules}
use Rattle.plant.proofs.Compared.{decides_all, same_belt}
use Rattle.plant.proofs.compare.same_belt.Goals as goal

pub returns-then-start : goal.returns-then-start
returns-then-start g c =
    let a = g.P.Plant.meaning c.args.one.now in
    let b = g.Q.Plant.meaning c.args.other.now in
    let each = decides_all (λ s. (a.goal s ≡ b.goal s) × (a.moves s ≡ b.moves s)) c.states-count.result _ _ _ c.all.ensures.ran (λ x q k. search rules) (λ x q k. search rules) in
    (λ e. same_belt a b (g.P.Plant.lawful _) (g.Q.Plant.lawful _) (search rules) (search rules) (λ s h. each.0 e s (omega (arith, h))), λ e. each.1 (λ s _. (cc, cc)))
