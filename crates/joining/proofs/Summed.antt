-- What bounds the weighted sum of lawful rows.
use Rattle.std.proofs.Common.{ℕ, ◌*◌, ◌<◌, ◌≤◌, List, arith}
use Rattle.std.proofs.lemmas.List.Elements.{All-from_get_or}
use Rattle.std.proofs.lemmas.List.Sums.{sum_by-le}
use Rattle.joining.specs.Rows.{Rows}
use Rattle.joining.specs.Joinings.{weight_total, weighed}
use Rattle.joining.specs.MeanLawful.{total_is_sum, total_positive, weighed_below}
use Rattle.joining.specs.RowFacts.{row_facts}

-- the weighted sum is within the weights' total times the greatest lawful figure; the total is at most 16 times 255, and not 0
pub bounds : (ws fs : List ℕ) → Rows ws fs → (weighed ws fs ≤ weight_total ws * 1000000000) × (weight_total ws ≤ 4080) × (0 < weight_total ws)
bounds ws fs rows =
    let row = row_facts ws fs rows in (
      weighed_below 1000000000 ws fs row.as_long row.bounded,
      omega (arith, total_is_sum ws, sum_by-le (λ w. w) 255 ws (All-from_get_or (λ w. w ≤ 255) ws 0 row.light)),
      total_positive ws row.some row.weighs,
    )
