-- The three joinings of this crate, each a function of two rows, weights and figures.
use Rattle.std.specs.Prelude.{ℕ, ◌+◌, ◌*◌, ◌/◌, List, [], ◌∷◌}
use Rattle.joining.specs.Laws.{least, greatest}

-- the total of the weights
abbrev pub weight_total : List ℕ → ℕ
weight_total [] = 0
weight_total (w ∷ ws) = w + weight_total ws

-- weight times figure, added over the whole row
abbrev pub weighed : List ℕ → List ℕ → ℕ
weighed [] fs = 0
weighed (w ∷ ws) [] = 0
weighed (w ∷ ws) (f ∷ fs) = w * f + weighed ws fs

-- the mean: that sum divided once by the weight total, its fraction dropped
abbrev pub mean : List ℕ → List ℕ → ℕ
mean ws fs = weighed ws fs / weight_total ws

-- the worst: the greatest figure
abbrev pub worst : List ℕ → List ℕ → ℕ
worst ws fs = greatest fs

-- the best: the least figure
abbrev pub best : List ℕ → List ℕ → ℕ
best ws fs = least fs
