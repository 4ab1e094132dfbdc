-- A bar that is taken closes one lane.
use Rattle.std.proofs.Common.{◌≡◌, ℕ, zero, suc, ◌+◌, ◌<◌, ◌≤◌, Bool, true, false, ◌&&◌, ◌||◌, eqb, List, [], ◌∷◌, ◌++◌, length, sym, refl, ap, ◌∙◌, subst, arith}
use Rattle.std.proofs.Math.Bool.{or-false}
use Rattle.std.proofs.lemmas.List.Recursion.{or_push}
use Rattle.std.proofs.lemmas.Bool.{eq-eqb, ne_eqb, or_right}
use Rattle.std.proofs.lemmas.Bool.Decides.{nat_tests}
use Rattle.refusal.specs.Told.{answered}
use Rattle.plant.specs.declared.bars.Bar.{Bar}
use Rattle.plant.specs.Belts.{Belt, Move, move_count}
use Rattle.plant.specs.Bars.{bars_it, barred, open_from, open_moves, left_of, barring, bar_told, open_before, moved_up, without, LaneClosed}
use Rattle.plant.proofs.OpenMoves.{left_open}

open_same : (a b : ℕ → Bool) (i : ℕ) (vs : List Move) → ((n : ℕ) → i ≤ n → a n ≡ b n) → open_from a i vs ≡ open_from b i vs
open_same a b i [] h = refl
open_same a b i (v ∷ vs) h = rw (h i (omega arith), open_same a b (i + 1) vs (λ n l. h n (omega arith))) refl

-- where one number more is shut, one move less is open: the one with as many open ones before it as there were
module _ (a b : ℕ → Bool) (at : ℕ) (here : a at ≡ true) (was : b at ≡ false) (there : (n : ℕ) → (n ≡ at → ⊥) → a n ≡ b n) where
  one_less : (k i : ℕ) (vs : List Move) → i + k ≡ at → k < length vs → (open_from a i vs ≡ without (open_before b i k) (open_from b i vs)) × (open_before b i k < length (open_from b i vs))
  one_less k i [] e h = absurd (omega arith)
  one_less zero i (v ∷ vs) e h =
      let q : at ≡ i = omega arith in
      let x : a i ≡ true = subst (λ (z : ℕ). a z ≡ true) q here in
      let y : b i ≡ false = subst (λ (z : ℕ). b z ≡ false) q was in
      rw (x, y) (open_same a b (i + 1) vs (λ n l. there n (λ w. omega arith)), omega arith)
  one_less (suc k) i (v ∷ vs) e h =
      let x : a i ≡ b i = there i (λ w. omega arith) in
      let less = one_less k (i + 1) vs (omega arith) (omega arith) in
      let same = less.0 in
      let inside' = less.1 in
      (grind (arith, nat_tests), grind (arith, nat_tests))

without_length : (j : ℕ) (vs : List Move) → j < length vs → suc (length (without j vs)) ≡ length vs
without_length j [] h = absurd (omega arith)
without_length zero (v ∷ vs) h = refl
without_length (suc j) (v ∷ vs) h = omega (arith, without_length j vs (omega arith))

-- what one bar more bars
pub barred_push : (xs : List Bar) (x : Bar) (s k : ℕ) → barred (xs ++ (x ∷ [])) s k ≡ (barred xs s k || bars_it s k x)
barred_push xs x s k = or_push (λ ys. barred ys s k) (bars_it s k) refl (λ _ _. refl) xs x

-- what was answered was open, and one of several
pub record Taken (xs : List Bar) (b : Belt) (s k : ℕ) : Type 0 where
  pub inside : k < move_count b s
  pub unbarred : barred xs s k ≡ false
  pub several : length (open_moves xs b s) ≡ 1 → ⊥

pub taken : (xs : List Bar) (b : Belt) (s k : ℕ) → answered tt ≡ bar_told xs b s k → Taken xs b s k
taken xs b s k told = record {
  inside = grind (arith, nat_tests);
  unbarred = grind (arith, nat_tests);
  several = λ one. grind (arith, nat_tests);
}

module _ (xs : List Bar) (b : Belt) (s k : ℕ) (ok : Taken xs b s k) where
  abbrev new : List Bar
  new = xs ++ (record { state = s; number = k } ∷ [])

  same_number : (t n : ℕ) → (bars_it t n (record { state = s; number = k }) ≡ false) → barred new t n ≡ barred xs t n
  same_number t n e = barred_push xs (record { state = s; number = k }) t n ∙ ap (λ c. barred xs t n || c) e ∙ or-false (barred xs t n)

  less : (open_moves new b s ≡ without (moved_up xs s k) (open_moves xs b s)) × (moved_up xs s k < length (open_moves xs b s))
  less = one_less (barred new s) (barred xs s) k
      (barred_push xs (record { state = s; number = k }) s k ∙ or_right (barred xs s k) (eqb s s && eqb k k) (rw (eq-eqb s s refl, eq-eqb k k refl) refl))
      ok.unbarred
      (λ n d. same_number s n (rw (eq-eqb s s refl, ne_eqb k n (λ e. d (sym e))) refl))
      k 0 (b.moves s) (omega arith) ok.inside

  was : (barring xs b).moves s ≡ open_moves xs b s
  was = left_open (open_moves xs b s) (b.moves s) (let l = less.1 in omega arith)

  lane_closed : LaneClosed (barring xs b) (barring new b) s (moved_up xs s k)
  lane_closed =
      let l = less.1 in
      let some = ok.several in
      let short = without_length (moved_up xs s k) (open_moves xs b s) l in
      let open' = ap length was in
      record {
        several = omega arith;
        there = omega arith;
        here =
            ap (λ (vs : List Move). left_of vs (b.moves s)) less.0
            ∙ left_open (without (moved_up xs s k) (open_moves xs b s)) (b.moves s) (omega arith)
            ∙ ap (without (moved_up xs s k)) (sym was);
        others = λ t d. ap (λ (vs : List Move). left_of vs (b.moves t)) (open_same (barred new t) (barred xs t) 0 (b.moves t) (λ n _. same_number t n (rw (ne_eqb s t (λ e. d (sym e))) refl)));
        count = refl;
        start = refl;
        goals = refl;
      }

  pub lane_closed_by : (ys : List Bar) → ys ≡ new → LaneClosed (barring xs b) (barring ys b) s (moved_up xs s k)
  lane_closed_by ys e = subst (λ (zs : List Bar). LaneClosed (barring xs b) (barring zs b) s (moved_up xs s k)) (sym e) lane_closed
