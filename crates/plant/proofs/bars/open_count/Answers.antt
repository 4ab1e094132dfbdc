use Rattle.std.proofs.Common.{◌≡◌, length, filter, slice_index_or, false, arith, rules, tests}
use Rattle.std.specs.List.{range_with_len}
use Rattle.std.proofs.lemmas.Iterator.{YieldsList-from_range}
use Rattle.std.proofs.lemmas.Iterator.Consumers.{YieldsList-from_filter, count_from_yields_List}
use Rattle.plant.proofs.OpenMoves.{unset_count}
use Rattle.plant.proofs.bars.open_count.Goals as goal

pub returns : goal.returns
returns c =
    let shut : c.count.result ≡ length (filter (λ k. slice_index_or c.args.shut.now k false) (range_with_len 0 c.args.count)) =
    count_from_yields_List c.filter.result c.count.result c.count.ensures.ran
    (YieldsList-from_filter _ _ (YieldsList-from_range 0 c.args.count c.args.count c.filter.ensures.source (search rules)) c.filter.ensures.closure (λ x b q k. search (rules, tests))) in
    omega (arith, shut, unset_count c.args.shut.now c.args.count)
