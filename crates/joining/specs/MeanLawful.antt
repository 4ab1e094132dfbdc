-- The mean keeps the laws; proofs only.
use Rattle.std.specs.Prelude.{◌≡◌, ℕ, suc, ◌*◌, ◌<◌, ◌≤◌, List, [], ◌∷◌, length, replicate, sum, slice_index}
use Rattle.std.proofs.Common.{refl, sym, zero-le, suc-le-suc, mul-le-mul_left, mul_comm, add-mul, le-div_iff_mul-le, div-mul-le_self, arith}
use Rattle.std.proofs.Math.Nat.{div-le_of_le-mul}
use Rattle.std.proofs.lemmas.List.{length-replicate, get_or-replicate}
use Rattle.std.proofs.lemmas.List.Recursion.{is_sum_by}
use Rattle.std.proofs.lemmas.List.Sums.{get_or-le-sum_by}
use Rattle.joining.specs.Rows.{Rows}
use Rattle.joining.specs.Laws.{Lawful, NoneFalls, least, greatest}
use Rattle.joining.specs.Joinings.{weight_total, weighed, mean}
use Rattle.joining.specs.Extremes.{least_below, greatest_above}
use Rattle.joining.specs.RowFacts.{row_facts}

-- the weighted sum does not fall where no figure does
weighed_rises : (ws fs gs : List ℕ) → length ws ≡ length fs → length ws ≡ length gs → NoneFalls fs gs → weighed ws fs ≤ weighed ws gs
weighed_rises [] fs gs d e r = omega arith
weighed_rises (w ∷ ws) [] gs d e r = omega arith
weighed_rises (w ∷ ws) (f ∷ fs) [] d e r = omega arith
weighed_rises (w ∷ ws) (f ∷ fs) (g ∷ gs) d e r =
    let here = mul-le-mul_left w (r 0 (suc-le-suc zero-le)) in
    let more = weighed_rises ws fs gs (omega arith) (omega arith) (λ k l. r (suc k) (suc-le-suc l)) in
    omega arith

-- a row with one figure m for each weight sums to the weight total times m
weighed_level : (m : ℕ) (ws : List ℕ) → weighed ws (replicate (length ws) m) ≡ weight_total ws * m
weighed_level m [] = omega arith
weighed_level m (w ∷ ws) = let more = weighed_level m ws in omega (arith, add-mul w (weight_total ws) m)

weighed_above : (m : ℕ) (ws fs : List ℕ) → length ws ≡ length fs → ((k : ℕ) → k < length fs → m ≤ slice_index fs k) → weight_total ws * m ≤ weighed ws fs
weighed_above m ws fs e r =
    let long = length-replicate (length ws) m in
    let rises : NoneFalls (replicate (length ws) m) fs = λ k l. omega (arith, get_or-replicate (length ws) k m 0 (omega arith), r k (omega arith)) in
    omega (arith, weighed_level m ws, weighed_rises ws (replicate (length ws) m) fs (sym long) e rises)

pub weighed_below : (m : ℕ) (ws fs : List ℕ) → length ws ≡ length fs → ((k : ℕ) → k < length fs → slice_index fs k ≤ m) → weighed ws fs ≤ weight_total ws * m
weighed_below m ws fs e r =
    let rises : NoneFalls fs (replicate (length ws) m) = λ k l. omega (arith, get_or-replicate (length ws) k m 0 (omega arith), r k l) in
    omega (arith, weighed_level m ws, weighed_rises ws fs (replicate (length ws) m) e (sym (length-replicate (length ws) m)) rises)

-- the weights' total is their sum
pub total_is_sum : (ws : List ℕ) → weight_total ws ≡ sum ws
total_is_sum = is_sum_by weight_total (λ w. w) refl (λ _ _. refl)

pub total_positive : (ws : List ℕ) → 1 ≤ length ws → ((k : ℕ) → k < length ws → 1 ≤ slice_index ws k) → 0 < weight_total ws
total_positive ws some r = omega (arith, total_is_sum ws, r 0 some, get_or-le-sum_by (λ w. w) ws 0 0 some)

positive : (ws fs : List ℕ) → Rows ws fs → 0 < weight_total ws
positive ws fs r = let row = row_facts ws fs r in total_positive ws row.some row.weighs

pub mean_lawful : Lawful mean
mean_lawful = record {
  above_least = λ ws fs r.
      let low = weighed_above (least fs) ws fs (row_facts ws fs r).as_long (least_below fs) in
      (le-div_iff_mul-le (positive ws fs r)).1 (omega (arith, mul_comm (least fs) (weight_total ws)));
  below_greatest = λ ws fs r.
      div-le_of_le-mul (weight_total ws) (weighed_below (greatest fs) ws fs (row_facts ws fs r).as_long (greatest_above fs));
  monotone = λ ws fs gs r s n.
      let up = weighed_rises ws fs gs (row_facts ws fs r).as_long (row_facts ws gs s).as_long n in
      (le-div_iff_mul-le (positive ws fs r)).1 (omega (arith, div-mul-le_self (weighed ws fs) (weight_total ws)));
}
