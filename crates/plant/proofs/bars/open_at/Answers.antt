use Rattle.std.proofs.Common.{sym, ◌∙◌, rules, tests}
use Rattle.std.proofs.lemmas.Iterator.{YieldsList-from_range}
use Rattle.std.proofs.lemmas.Iterator.Adapters.{option_map_id}
use Rattle.std.proofs.lemmas.Iterator.Consumers.{YieldsList-from_filter, nth_from_yields_List}
use Rattle.plant.proofs.bars.open_at.Goals as goal

pub returns : goal.returns
returns c =
    sym (option_map_id c.nth.result)
    ∙ nth_from_yields_List _ _ c.args.place c.nth.ensures.ran
    (YieldsList-from_filter _ _ (YieldsList-from_range 0 c.args.count c.args.count c.filter.ensures.source (search rules)) c.filter.ensures.closure (λ x b q k. search (rules, tests)))
