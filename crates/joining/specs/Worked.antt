-- Rows whose answers are worked out by hand, and two functions that the laws shut out.
use Rattle.std.specs.Prelude.{◌≡◌, ℕ, ◌+◌, ◌-◌, ◌*◌, ◌/◌, List, [], ◌∷◌}
use Rattle.refusal.specs.Told.{answered, refused}
use Rattle.joining.specs.Joinings.{mean, worst, best, weight_total}
use Rattle.joining.specs.Laws.{Lawful}
use Rattle.joining.specs.Rows.{joined, bad_rows}

-- each row of weights and figures, and what is told of it
pub record WorkedRows : Type 0 where
  pub fraction_dropped : joined mean (1 ∷ 1 ∷ []) (5 ∷ 6 ∷ []) ≡ answered 5
  pub equal_shares : joined mean (1 ∷ 1 ∷ 1 ∷ []) (100 ∷ 100 ∷ 100 ∷ []) ≡ answered 100
  pub worst_of_two : joined worst (1 ∷ 1 ∷ []) (9 ∷ 2 ∷ []) ≡ answered 9
  pub best_of_two : joined best (1 ∷ 1 ∷ []) (9 ∷ 2 ∷ []) ≡ answered 2
  pub unequal_lengths : joined mean (1 ∷ 1 ∷ []) (5 ∷ []) ≡ refused (bad_rows 0)
  pub no_weight : joined mean (1 ∷ 0 ∷ []) (5 ∷ 6 ∷ []) ≡ refused (bad_rows 1)
  pub great_figure : joined worst (1 ∷ 1 ∷ []) (1000000000 ∷ 1000000001 ∷ []) ≡ refused (bad_rows 1)

-- the shares of the figures at a weight total, each rounded up before it is added
abbrev pub shares_up : ℕ → List ℕ → List ℕ → ℕ
shares_up total [] fs = 0
shares_up total (w ∷ ws) [] = 0
shares_up total (w ∷ ws) (f ∷ fs) = (w * f + (total - 1)) / total + shares_up total ws fs

-- a mean that rounds up each share: three shares of 100 come to 102
abbrev pub rounded_up : List ℕ → List ℕ → ℕ
rounded_up ws fs = shares_up (weight_total ws) ws fs

-- functions that are no joining: the one that always says 0, and the one that rounds up each share
pub record ShutOut : Type 0 where
  pub always_zero : Lawful (λ _ _. 0) → ⊥
  pub share_by_share : Lawful rounded_up → ⊥
