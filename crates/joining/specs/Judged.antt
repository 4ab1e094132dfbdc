-- What the check of two rows says of them.
use Rattle.std.specs.Prelude.{◌≡◌, ℕ, ◌<◌, true, false, List, length, Ok, Err, Result, slice_index}
use Rattle.joining.specs.declared.fault.JoiningFault.{JoiningFault}
use Rattle.joining.specs.declared.fault.JoiningFault.TheVariants.{Lengths, Pair}
use Rattle.joining.specs.Rows.{Rows, fitting, good_pair}

-- the lengths fit, the pair at p is not good, and every pair before it is
pub record FirstBad (ws fs : List ℕ) (p : ℕ) : Type 0 where
  pub fit : fitting ws fs ≡ true
  pub inside : p < length ws
  pub bad : good_pair (slice_index ws p) (slice_index fs p) ≡ false
  pub before : (k : ℕ) → k < p → good_pair (slice_index ws k) (slice_index fs k) ≡ true

-- the check passes lawful rows, and names the first thing that is wrong with all others
abbrev pub Judged : List ℕ → List ℕ → Result (Unit {0}) JoiningFault → Type 0
Judged ws fs (Ok _) = Rows ws fs
Judged ws fs (Err Lengths) = fitting ws fs ≡ false
Judged ws fs (Err (Pair p)) = FirstBad ws fs p
