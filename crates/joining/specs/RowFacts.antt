-- Lawful rows as plain facts; proofs only.
use Rattle.std.specs.Prelude.{◌≡◌, ℕ, ◌<◌, ◌≤◌, true, List, length, slice_index}
use Rattle.std.proofs.Common.{arith}
use Rattle.std.proofs.lemmas.Bool.Decides.{nat_tests}
use Rattle.joining.specs.Rows.{Rows, fitting, good_pair}

pub fitting_parts : (ws fs : List ℕ) → fitting ws fs ≡ true → (length ws ≡ length fs) × (1 ≤ length ws) × (length ws ≤ 16)
fitting_parts ws fs h = grind (arith, nat_tests)

pub good_parts : (w f : ℕ) → good_pair w f ≡ true → (1 ≤ w) × (w ≤ 255) × (f ≤ 1000000000)
good_parts w f h = grind (arith, nat_tests)

-- what lawful rows keep, fact by fact
pub record RowFacts (ws fs : List ℕ) : Type 0 where
  pub as_long : length ws ≡ length fs
  pub some : 1 ≤ length ws
  pub few : length ws ≤ 16
  pub weighs : (k : ℕ) → k < length ws → 1 ≤ slice_index ws k
  pub light : (k : ℕ) → k < length ws → slice_index ws k ≤ 255
  pub bounded : (k : ℕ) → k < length fs → slice_index fs k ≤ 1000000000

pub row_facts : (ws fs : List ℕ) → Rows ws fs → RowFacts ws fs
row_facts ws fs r =
    let p = fitting_parts ws fs r.fit in
    record {
      as_long = p.0;
      some = p.1;
      few = p.2;
      weighs = λ k l. (good_parts (slice_index ws k) (slice_index fs k) (r.good k l)).0;
      light = λ k l. (good_parts (slice_index ws k) (slice_index fs k) (r.good k l)).1;
      bounded = λ k l. (good_parts (slice_index ws k) (slice_index fs k) (r.good k (omega arith))).2;
    }
