-- Belts that read alike are the same.
use Rattle.std.proofs.Common.{◌≡◌, ℕ, ◌<◌, Bool, true, false, List, length, get_or, Option, Decides, MatchBool, MatchOption, refl, sym, subst, ◌∙◌, inl, inr, arith}
use mathlib.Core.Path.{fun_ext}
use Rattle.std.specs.Fn.{Called}
use Rattle.std.specs.Iterator.{YieldsThen}
use Rattle.std.specs.List.{FoldsTo, range_with_len, AllWithin, HoldsAt}
use Rattle.std.specs.declared.ops.Range.{Range}
use Rattle.std.proofs.iter.Yields.{nat_range_steps}
use Rattle.std.proofs.lemmas.Iterator.{YieldsList-from_range, cases_from_all}
use Rattle.std.proofs.lemmas.List.{ext_get_or}
use Rattle.std.proofs.lemmas.List.FromFn.{length-range_with_len, get_or-range_with_len}
use Rattle.std.proofs.lemmas.Bool.{cases_lt}
use denote.Param.Members.{Mut}
use Rattle.plant.specs.Belts.{Outcome, Move, Belt, no_outcome, no_move, move_at, outcome_at}
use Rattle.plant.specs.Laws.{LawfulBelt}
use Rattle.plant.specs.Alike.{AlikeSame}

pub same_move : (v w : Move) → v.cost ≡ w.cost → length v.outcomes ≡ length w.outcomes → ((o : ℕ) → o < length v.outcomes → get_or v.outcomes o no_outcome ≡ get_or w.outcomes o no_outcome) → v ≡ w
same_move v w cost long each = λ i. record { cost = cost i; outcomes = ext_get_or no_outcome v.outcomes w.outcomes long each i }

module _ (a b : Belt) (one : LawfulBelt a) (other : LawfulBelt b) where
  -- outside there is nothing to differ in
  pub same_belt : a.count ≡ b.count → a.start ≡ b.start → ((s : ℕ) → s < a.count → (a.goal s ≡ b.goal s) × (a.moves s ≡ b.moves s)) → a ≡ b
  same_belt count start inside = λ i. record { count = count i; start = start i; goal = fun_ext goals i; moves = fun_ext moves i }
    where
      goals : (s : ℕ) → a.goal s ≡ b.goal s
      goals s = elim (cases_lt s a.count) [
        | inl h ↦ (inside s h).0
        | inr h ↦ one.no_goal_outside s h ∙ sym (other.no_goal_outside s (omega arith))
      ]

      moves : (s : ℕ) → a.moves s ≡ b.moves s
      moves s = elim (cases_lt s a.count) [
        | inl h ↦ (inside s h).1
        | inr h ↦ one.still_outside s h ∙ sym (other.still_outside s (omega arith))
      ]

same_outcome : (x y : Outcome) → x.state ≡ y.state → x.weight ≡ y.weight → x ≡ y
same_outcome x y state weight = λ i. record { state = state i; weight = weight i }

pub alike_same : AlikeSame
alike_same a b one other read = same_belt a b one other read.states read.starts (λ s h. (read.goals s h, moves s h))
  where
    moves : (s : ℕ) → s < a.count → a.moves s ≡ b.moves s
    moves s h = ext_get_or no_move (a.moves s) (b.moves s) (read.moves s h) (λ m l.
        same_move (move_at a s m) (move_at b s m) (read.costs s m l) (read.outcomes s m l) (λ o k.
        same_outcome (outcome_at a s m o) (outcome_at b s m o) (read.leads s m o k) (read.weighs s m o k)))

-- what `all` over the numbers below n decides, where the closure stays as it was and answers whether P holds
module _ (P : ℕ → Type 0) (n : ℕ) where
  place : (k : ℕ) → k < n → get_or (range_with_len 0 n) k 0 ≡ k
  place k h = get_or-range_with_len 0 n k 0 h ∙ omega arith

  by_cases : (r : Bool) → MatchBool r (AllWithin P (range_with_len 0 n) 0 (length (range_with_len 0 n))) ((k : ℕ) × (k < length (range_with_len 0 n)) × HoldsAt (λ x. P x → ⊥) (range_with_len 0 n) k) → Decides r ((k : ℕ) → k < n → P k)
  by_cases true h = (λ _ k l. subst P (place k l) (h k 0 (omega arith) (omega (arith, length-range_with_len 0 n))), λ _. refl)
  by_cases false h = (λ e. absurd (cc), λ each. let l : h.0 < n = omega (arith, length-range_with_len 0 n, h.1) in absurd (h.2 0 (subst P (sym (place h.0 l)) (each h.0 l))))

  pub decides_all : {F : Type 0} {g : Mut F (ℕ × Unit {0}) Bool} (u : Range ℕ) (f : F) (r : Bool)
      → (xs : List ℕ) × (o : Option ℕ) × (j : F) × YieldsThen nat_range_steps (record { start = 0; end = n }) xs o u × FoldsTo (λ p x q. Called g p (x, tt) true q) f xs j × MatchOption o (r ≡ true) (λ x. (r ≡ false) × ((h : F) × Called g j (x, tt) false h))
      → ((x : ℕ) (q : F) → Called g f (x, tt) true q → (q ≡ f) × P x) → ((x : ℕ) (q : F) → Called g f (x, tt) false q → P x → ⊥) → Decides r ((k : ℕ) → k < n → P k)
  decides_all u f r ran holds fails = by_cases r (cases_from_all u f r P (λ x. P x → ⊥) ran (YieldsList-from_range 0 n n refl (omega arith)) holds fails)
