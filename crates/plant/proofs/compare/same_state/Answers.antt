use Rattle.std.proofs.Common.{◌≡◌, arith, rules}
use Rattle.std.proofs.lemmas.List.{ext_get_or}
use Rattle.plant.specs.Belts.{no_move, move_at}
use Rattle.plant.proofs.Compared.{decides_all}
use Rattle.plant.proofs.compare.same_state.Goals as goal

pub returns-then-count-move_count : goal.returns-then-count-move_count
returns-then-count-move_count g c =
    let a = move_at (g.P.Plant.meaning c.args.one.now) c.args.state in
    let b = move_at (g.Q.Plant.meaning c.args.other.now) c.args.state in
    let each = decides_all (λ m. a m ≡ b m) c.move_count-count.result _ _ _ c.all.ensures.ran (λ x q k. search rules) (λ x q k. search rules) in
    (λ e. (search rules, ext_get_or no_move _ _ (search rules) (λ m h. each.0 e m (omega (arith, h)))), λ e. each.1 (λ m _. cc))
