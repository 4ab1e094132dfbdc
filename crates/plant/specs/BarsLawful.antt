-- A belt keeps the bounds whatever is barred; proofs only.
use Rattle.std.specs.Prelude.{◌≡◌, ℕ, ◌+◌, ◌≤◌, Bool, List, [], ◌∷◌, length}
use Rattle.std.proofs.Common.{inl, inr, ap, arith}
use Rattle.std.proofs.ByRecursion.{All-get_or, All-from_get_or}
use Rattle.std.specs.List.{AllByRecursion}
use Rattle.std.proofs.lemmas.Bool.Decides.{nat_tests}
use Rattle.std.proofs.lemmas.Bool.{cases_Bool}
use Rattle.plant.specs.declared.bars.Bar.{Bar}
use Rattle.plant.specs.Belts.{Belt, Move, no_move, move_count}
use Rattle.plant.specs.Laws.{LawfulBelt, LawfulMove}
use Rattle.plant.specs.Bars.{barred, open_from, open_moves, left_of, barring}

open_few : (shut : ℕ → Bool) (k : ℕ) (vs : List Move) → length (open_from shut k vs) ≤ length vs
open_few shut k [] = omega arith
open_few shut k (v ∷ vs) = let more = open_few shut (k + 1) vs in grind (arith, nat_tests)

open_all : (P : Move → Type 0) (shut : ℕ → Bool) (k : ℕ) (vs : List Move) → AllByRecursion P vs → AllByRecursion P (open_from shut k vs)
open_all P shut k [] a = tt
open_all P shut k (v ∷ vs) a =
    let more = open_all P shut (k + 1) vs a.1 in
    elim (cases_Bool (shut k)) [ inl h ↦ rw h more | inr h ↦ rw h (a.0, more) ]

left_some : (xs all : List Move) → 1 ≤ length all → 1 ≤ length (left_of xs all)
left_some [] all h = h
left_some (x ∷ xs) all h = omega arith

left_few : (xs all : List Move) → length xs ≤ length all → length (left_of xs all) ≤ length all
left_few [] all h = omega arith
left_few (x ∷ xs) all h = h

left_keeps : (P : Move → Type 0) (xs all : List Move) → AllByRecursion P xs → AllByRecursion P all → AllByRecursion P (left_of xs all)
left_keeps P [] all a b = b
left_keeps P (x ∷ xs) all a b = a

module _ (xs : List Bar) (b : Belt) where
  none_left : (s : ℕ) → b.moves s ≡ [] → (barring xs b).moves s ≡ []
  none_left s e = ap (λ (vs : List Move). left_of (open_from (barred xs s) 0 vs) vs) e

  left_count : (s : ℕ) → move_count (barring xs b) s ≤ move_count b s
  left_count s = left_few (open_moves xs b s) (b.moves s) (open_few (barred xs s) 0 (b.moves s))

  pub barring_lawful : LawfulBelt b → LawfulBelt (barring xs b)
  barring_lawful laws = record {
    some = laws.some;
    few = laws.few;
    starts = laws.starts;
    moves_some = λ s h g. left_some (open_moves xs b s) (b.moves s) (laws.moves_some s h g);
    moves_few = λ s. omega (arith, left_count s, laws.moves_few s);
    each = λ s m h.
        let all = All-from_get_or (LawfulMove b.count) (b.moves s) no_move (laws.each s) in
        All-get_or (LawfulMove b.count) ((barring xs b).moves s) m no_move h
        (left_keeps (LawfulMove b.count) (open_moves xs b s) (b.moves s) (open_all (LawfulMove b.count) (barred xs s) 0 (b.moves s) all) all);
    no_goal_outside = laws.no_goal_outside;
    still_outside = λ s h. none_left s (laws.still_outside s h);
    still_at_goals = λ s h. none_left s (laws.still_at_goals s h);
  }
