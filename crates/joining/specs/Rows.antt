-- The two rows that a joining takes: which are lawful, and what is told of those that are not.
use Rattle.std.specs.Prelude.{◌≡◌, ℕ, ◌<◌, Bool, true, cond, ◌&&◌, List, length, ◌==◌, nat_le, slice_index}
use Rattle.std.specs.List.{common_prefix_len}
use Rattle.refusal.specs.declared.layer.Layer.TheVariants.{Joining}
use Rattle.refusal.specs.declared.refusal.Refusal.{Refusal}
use Rattle.refusal.specs.Told.{Told, answered, refused}

-- the rows are equally long and have 1 to 16 places
abbrev pub fitting : List ℕ → List ℕ → Bool
fitting ws fs = length ws == length fs && (nat_le 1 (length ws) && nat_le (length ws) 16)

-- a pair is good: its weight is 1 to 255 and its figure at most 1,000,000,000
abbrev pub good_pair : ℕ → ℕ → Bool
good_pair w f = nat_le 1 w && (nat_le w 255 && nat_le f 1000000000)

-- two rows are lawful: their lengths fit, and every pair is good
pub record Rows (ws fs : List ℕ) : Type 0 where
  pub fit : fitting ws fs ≡ true
  pub good : (k : ℕ) → k < length ws → good_pair (slice_index ws k) (slice_index fs k) ≡ true

-- the place of the first pair that is not good; the rows' length where all are
abbrev pub first_bad : List ℕ → List ℕ → ℕ
first_bad ws fs = common_prefix_len good_pair ws fs

-- the refusal of unlawful rows: number 1 of the layer joining
abbrev pub bad_rows : ℕ → Refusal
bad_rows place = record { number = 1; layer = Joining; place = place }

-- what a joining that stands for `join` tells of any two rows: lengths are judged first, then the pairs in order
abbrev pub joined : {A : Type 0} → (List ℕ → List ℕ → A) → List ℕ → List ℕ → Told A
joined join ws fs =
    cond (fitting ws fs)
    (cond (first_bad ws fs == length ws) (answered (join ws fs)) (refused (bad_rows (first_bad ws fs))))
    (refused (bad_rows 0))
