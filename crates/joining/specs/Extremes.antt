-- The least and the greatest figure of a row; proofs only.
use Rattle.std.specs.Prelude.{◌≡◌, ℕ, zero, suc, ◌<◌, ◌≤◌, min, max, Bool, cond, List, [], ◌∷◌, length, fold, nat_lt, slice_index}
use Rattle.std.specs.Cmp.{IsStrictWeakOrder}
use Rattle.std.proofs.Common.{zero-le, suc-le-suc, sym, ◌∙◌, refl, arith}
use Rattle.std.proofs.lemmas.Bool.{cond_both}
use Rattle.std.proofs.lemmas.Bool.Decides.{nat_tests}
use Rattle.std.proofs.lemmas.List.{get_or_default}
use Rattle.std.proofs.lemmas.List.Folds.{fold_along}
use Rattle.std.proofs.lemmas.List.MinMax.{IsFirstBest-from_best_of, IsStrictWeakOrder-by_number, IsStrictWeakOrder-flip}
use Rattle.joining.specs.Laws.{Stands, NoneFalls, least, greatest, IsLeast, IsGreatest}

-- an operation whose answer stands in R to both its arguments, as that of min does in ≤
record Bounding (R : ℕ → ℕ → Type 0) (pick : ℕ → ℕ → ℕ) : Type 0 where
  pub here : (a : ℕ) → R a a
  pub onward : (a b c : ℕ) → R a b → R b c → R a c
  pub left : (a b : ℕ) → R (pick a b) a
  pub right : (a b : ℕ) → R (pick a b) b

-- folded over a row, its answer stands in R to where it started
bounds_start : (R : ℕ → ℕ → Type 0) (pick : ℕ → ℕ → ℕ) → Bounding R pick → (a : ℕ) (xs : List ℕ) → R (fold pick a xs) a
bounds_start R pick b a [] = b.here a
bounds_start R pick b a (x ∷ xs) = b.onward _ _ _ (bounds_start R pick b (pick a x) xs) (b.left a x)

-- and to each figure of the row
bounds_each : (R : ℕ → ℕ → Type 0) (pick : ℕ → ℕ → ℕ) → Bounding R pick → (a : ℕ) (xs : List ℕ) (k : ℕ) → k < length xs → R (fold pick a xs) (slice_index xs k)
bounds_each R pick b a [] k h = absurd (let z : ⊥ = omega arith in z)
bounds_each R pick b a (x ∷ xs) zero h = b.onward _ _ _ (bounds_start R pick b (pick a x) xs) (b.right a x)
bounds_each R pick b a (x ∷ xs) (suc k) h = bounds_each R pick b (pick a x) xs k (omega arith)

-- an operation that does not fall where its arguments do not
abbrev Monotone : (ℕ → ℕ → ℕ) → Type 0
Monotone pick = (a b x y : ℕ) → a ≤ b → x ≤ y → pick a x ≤ pick b y

folded_rises : (pick : ℕ → ℕ → ℕ) → Monotone pick → (a b : ℕ) (xs ys : List ℕ) → a ≤ b → length xs ≡ length ys → NoneFalls xs ys → fold pick a xs ≤ fold pick b ys
folded_rises pick m a b [] [] h e r = h
folded_rises pick m a b [] (y ∷ ys) h e r = absurd (let z : ⊥ = omega arith in z)
folded_rises pick m a b (x ∷ xs) [] h e r = absurd (let z : ⊥ = omega arith in z)
folded_rises pick m a b (x ∷ xs) (y ∷ ys) h e r =
    folded_rises pick m (pick a x) (pick b y) xs ys (m a b x y h (r 0 (suc-le-suc zero-le))) (omega arith) (λ k l. r (suc k) (suc-le-suc l))

pub least_below : (fs : List ℕ) (k : ℕ) → k < length fs → least fs ≤ slice_index fs k
least_below fs k l =
    let b : Bounding (λ x y. x ≤ y) min = record { here = λ a. omega arith; onward = λ a b c p q. omega arith; left = λ a b. omega arith; right = λ a b. omega arith } in
    bounds_each (λ x y. x ≤ y) min b (slice_index fs 0) fs k l

pub greatest_above : (fs : List ℕ) (k : ℕ) → k < length fs → slice_index fs k ≤ greatest fs
greatest_above fs k l =
    let b : Bounding (λ x y. y ≤ x) max = record { here = λ a. omega arith; onward = λ a b c p q. omega arith; left = λ a b. omega arith; right = λ a b. omega arith } in
    bounds_each (λ x y. y ≤ x) max b (slice_index fs 0) fs k l

pub least_rises : (fs gs : List ℕ) → 1 ≤ length fs → length fs ≡ length gs → NoneFalls fs gs → least fs ≤ least gs
least_rises fs gs some e n = folded_rises min (λ a b x y p q. omega arith) (slice_index fs 0) (slice_index gs 0) fs gs (n 0 some) e n

pub greatest_rises : (fs gs : List ℕ) → 1 ≤ length fs → length fs ≡ length gs → NoneFalls fs gs → greatest fs ≤ greatest gs
greatest_rises fs gs some e n = folded_rises max (λ a b x y p q. omega arith) (slice_index fs 0) (slice_index gs 0) fs gs (n 0 some) e n

pub least_greatest : (fs : List ℕ) → 1 ≤ length fs → least fs ≤ greatest fs
least_greatest fs some = omega (arith, least_below fs 0 some, greatest_above fs 0 some)

-- where one of two figures is picked by a test that ranks them, what is left of a row stands in it
left_stands : (beats : ℕ → ℕ → Bool) → IsStrictWeakOrder beats → (pick : ℕ → ℕ → ℕ) → ((a b : ℕ) → pick a b ≡ cond (beats b a) b a) → (fs : List ℕ) → 1 ≤ length fs → Stands fs (fold pick (slice_index fs 0) fs)
left_stands beats order pick picks [] some = absurd (omega arith)
left_stands beats order pick picks (f ∷ fs) some =
    let best = IsFirstBest-from_best_of order f fs in
    let start : f ≡ pick f f = cond_both (beats f f) f f (λ n. f ≡ n) (λ _. refl) (λ _. refl) ∙ sym (picks f f) in
    let same = fold_along (λ b x. cond (beats x b) x b) pick (λ b c. b ≡ c) (λ b c x e. cc (picks c x)) f (pick f f) fs start in
    (best.0, best.1.0, get_or_default (f ∷ fs) best.0 0 f best.1.0 ∙ best.2 ∙ same)

pub least_is : (fs : List ℕ) → 1 ≤ length fs → IsLeast fs (least fs)
least_is fs some = record {
  stands = left_stands nat_lt (IsStrictWeakOrder-by_number (λ x. x)) min (λ a b. grind (arith, nat_tests)) fs some;
  none_below = least_below fs;
}

pub greatest_is : (fs : List ℕ) → 1 ≤ length fs → IsGreatest fs (greatest fs)
greatest_is fs some = record {
  stands = left_stands (λ x y. nat_lt y x) (IsStrictWeakOrder-flip _ (IsStrictWeakOrder-by_number (λ x. x))) max (λ a b. grind (arith, nat_tests)) fs some;
  none_above = greatest_above fs;
}
