-- The two laws that every joining keeps.
use Rattle.std.specs.Prelude.{◌≡◌, ℕ, ◌<◌, ◌≤◌, min, max, List, length, fold, slice_index}
use Rattle.joining.specs.Rows.{Rows}

-- the least figure of a row
abbrev pub least : List ℕ → ℕ
least fs = fold min (slice_index fs 0) fs

-- the greatest figure of a row
abbrev pub greatest : List ℕ → ℕ
greatest fs = fold max (slice_index fs 0) fs

-- a figure stands somewhere in a row
abbrev pub Stands : List ℕ → ℕ → Type 0
Stands fs f = (k : ℕ) × (k < length fs) × (slice_index fs k ≡ f)

-- what a least figure is: it stands in the row, and no figure is below it
pub record IsLeast (fs : List ℕ) (f : ℕ) : Type 0 where
  pub stands : Stands fs f
  pub none_below : (k : ℕ) → k < length fs → f ≤ slice_index fs k

-- what a greatest figure is: it stands in the row, and no figure is above it
pub record IsGreatest (fs : List ℕ) (f : ℕ) : Type 0 where
  pub stands : Stands fs f
  pub none_above : (k : ℕ) → k < length fs → slice_index fs k ≤ f

-- no figure falls from fs to gs
abbrev pub NoneFalls : List ℕ → List ℕ → Type 0
NoneFalls fs gs = (k : ℕ) → k < length fs → slice_index fs k ≤ slice_index gs k

-- on lawful rows the answer is no less than the least figure and no more than the greatest;
-- with the weights kept, the answer does not fall where no figure does (the field says: it is monotone)
pub record Lawful (join : List ℕ → List ℕ → ℕ) : Type 0 where
  pub above_least : (ws fs : List ℕ) → Rows ws fs → least fs ≤ join ws fs
  pub below_greatest : (ws fs : List ℕ) → Rows ws fs → join ws fs ≤ greatest fs
  pub monotone : (ws fs gs : List ℕ) → Rows ws fs → Rows ws gs → NoneFalls fs gs → join ws fs ≤ join ws gs
