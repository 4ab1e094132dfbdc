-- The belt of any tables keeps the bounds of a belt; proofs only.
use Rattle.std.specs.Prelude.{◌≡◌, ℕ, ◌+◌, ◌<◌, ◌≤◌, Bool, true, false, ◌&&◌, List, [], map, length, get_or, ◌==◌, nat_lt, slice_index_or}
use Rattle.std.proofs.Common.{inl, inr, sym, ap, subst, ◌∙◌, arith}
use Rattle.std.specs.List.{range_with_len}
use Rattle.std.proofs.lemmas.List.FromFn.{length-map-range_with_len, get_or-map-range_with_len}
use Rattle.std.proofs.lemmas.Bool.{cond-true, cond-false, cases_lt, lt-ltb, le-ltb, eqb-true, eqb-false, and_parts, and_left}
use Rattle.plant.specs.Belts.{Move, no_move, no_outcome, move_at, move_count}
use Rattle.plant.specs.Laws.{LawfulBelt, LawfulMove, LawfulOutcome}
use Rattle.plan.specs.Records.{Records}
use Rattle.plan.specs.declared.records.StateRecord.{StateRecord}
use Rattle.plan.specs.declared.records.MoveRecord.{MoveRecord}
use Rattle.plan.specs.declared.records.OutcomeRecord.{OutcomeRecord}
use Rattle.tables.specs.Clamped.{no_state, no_move_record, no_outcome_record, outcome_in, outcomes_in, move_in, moves_in, moves_of, belt_in, states_in, table_belt}

-- the outcomes of a move: how many, and which
pub outcomes_long : (n : ℕ) (outcomes : List OutcomeRecord) (r : MoveRecord) → length (move_in n outcomes r).outcomes ≡ outcomes_in r
outcomes_long n outcomes r = length-map-range_with_len (λ o. outcome_in n (slice_index_or outcomes (r.first + o) no_outcome_record)) 0 (outcomes_in r)

pub outcomes_at : (n : ℕ) (outcomes : List OutcomeRecord) (r : MoveRecord) (o : ℕ) → o < outcomes_in r → slice_index_or (move_in n outcomes r).outcomes o no_outcome ≡ outcome_in n (slice_index_or outcomes (r.first + o) no_outcome_record)
outcomes_at n outcomes r o h = get_or-map-range_with_len (λ i. outcome_in n (slice_index_or outcomes (r.first + i) no_outcome_record)) 0 (outcomes_in r) o o no_outcome h (omega arith)

-- the moves of a state: how many, and which
moves_long : (n : ℕ) (t : Records) (r : StateRecord) → length (moves_of n t r) ≡ moves_in r
moves_long n t r = length-map-range_with_len (λ m. move_in n t.outcomes (slice_index_or t.moves (r.first + m) no_move_record)) 0 (moves_in r)

pub moves_at : (n : ℕ) (t : Records) (r : StateRecord) (m : ℕ) → m < moves_in r → slice_index_or (moves_of n t r) m no_move ≡ move_in n t.outcomes (slice_index_or t.moves (r.first + m) no_move_record)
moves_at n t r m h = get_or-map-range_with_len (λ i. move_in n t.outcomes (slice_index_or t.moves (r.first + i) no_move_record)) 0 (moves_in r) m m no_move h (omega arith)

-- an outcome and a move keep their bounds
outcome_lawful : (n : ℕ) (r : OutcomeRecord) → 1 ≤ n → LawfulOutcome n (outcome_in n r)
outcome_lawful n r some = record { inside = omega arith; weighs = omega arith; light = omega arith }

move_lawful : (n : ℕ) (outcomes : List OutcomeRecord) (r : MoveRecord) → 1 ≤ n → LawfulMove n (move_in n outcomes r)
move_lawful n outcomes r some =
    let long = outcomes_long n outcomes r in
    record {
      costs = omega arith;
      cheap = omega arith;
      some = omega arith;
      few = omega arith;
      each = λ o l.
          let h : o < outcomes_in r = omega arith in
          subst (LawfulOutcome n) (sym (outcomes_at n outcomes r o h)) (outcome_lawful n (slice_index_or outcomes (r.first + o) no_outcome_record) some);
    }

-- number s: by its record where it is a state; past the states it has no moves and is no goal
module _ (n start : ℕ) (t : Records) (s : ℕ) where
  abbrev here : StateRecord
  here = slice_index_or t.states s no_state

  pub moves_inside : s < n → (belt_in n start t).moves s ≡ moves_of n t here
  moves_inside h = cond-true (nat_lt s n) _ _ (lt-ltb s n h)

  moves_outside : n ≤ s → (belt_in n start t).moves s ≡ []
  moves_outside h = cond-false (nat_lt s n) _ _ (le-ltb s n h)

  pub count_inside : s < n → move_count (belt_in n start t) s ≡ moves_in here
  count_inside h = ap length (moves_inside h) ∙ moves_long n t here

  count_outside : n ≤ s → move_count (belt_in n start t) s ≡ 0
  count_outside h = ap length (moves_outside h)

  pub goal_inside : s < n → (belt_in n start t).goal s ≡ (moves_in here == 0)
  goal_inside h = ap (λ (b : Bool). b && moves_in here == 0) (lt-ltb s n h)

  goal_outside : n ≤ s → (belt_in n start t).goal s ≡ false
  goal_outside h = and_left (nat_lt s n) _ (le-ltb s n h)

  few_moves : move_count (belt_in n start t) s ≤ 16
  few_moves = elim (cases_lt s n) [ inl h ↦ omega (arith, count_inside h) | inr h ↦ omega (arith, count_outside h) ]

  goal_still : (belt_in n start t).goal s ≡ true → (belt_in n start t).moves s ≡ []
  goal_still g =
      let none : moves_in here ≡ 0 = eqb-true (moves_in here) 0 (and_parts (nat_lt s n) (moves_in here == 0) g).1 in
      elim (cases_lt s n) [
        | inl h ↦ moves_inside h ∙ ap (λ k. map (λ m. move_in n t.outcomes (slice_index_or t.moves (here.first + m) no_move_record)) (range_with_len 0 k)) none
        | inr h ↦ moves_outside h
      ]

  each_lawful : 1 ≤ n → (m : ℕ) → m < move_count (belt_in n start t) s → LawfulMove n (move_at (belt_in n start t) s m)
  each_lawful some m l =
      elim (cases_lt s n) [
        | inl h ↦ (
            let k : m < moves_in here = omega (arith, count_inside h) in
            let there = ap (λ (vs : List Move). get_or vs m no_move) (moves_inside h) ∙ moves_at n t here m k in
            subst (LawfulMove n) (sym there) (move_lawful n t.outcomes (slice_index_or t.moves (here.first + m) no_move_record) some))
        | inr h ↦ absurd (let none = count_outside h in let z : ⊥ = omega arith in z)
      ]

belt_lawful : (n start : ℕ) (t : Records) → 1 ≤ n → n ≤ 4096 → LawfulBelt (belt_in n start t)
belt_lawful n start t low high = record {
  some = low;
  few = high;
  starts = omega arith;
  moves_some = λ s h g. omega (arith, count_inside n start t s h, eqb-false (moves_in (slice_index_or t.states s no_state)) 0 (sym (goal_inside n start t s h) ∙ g));
  moves_few = few_moves n start t;
  each = λ s m h. each_lawful n start t s low m h;
  no_goal_outside = goal_outside n start t;
  still_outside = moves_outside n start t;
  still_at_goals = goal_still n start t;
}

pub table_lawful : (count start : ℕ) (t : Records) → LawfulBelt (table_belt count start t)
table_lawful count start t = belt_lawful (states_in count) start t (omega arith) (omega arith)
