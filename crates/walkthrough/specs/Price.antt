-- The price of a purge.
use Rattle.std.specs.Prelude.{ℕ, ◌+◌, ◌*◌, List}
use Rattle.joining.specs.Rows.{joined}
use Rattle.refusal.specs.Told.{Told, answered, and_then}

-- 1,024 ticks for each unit of cost, and what the figures of the outcomes join to
abbrev pub priced : (List ℕ → List ℕ → ℕ) → ℕ → List ℕ → List ℕ → Told ℕ
priced join cost ws fs = and_then (joined join ws fs) (λ figure. answered (1024 * cost + figure))
