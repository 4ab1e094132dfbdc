-- What the code finds at a number of a plant of tables.
use Rattle.std.proofs.Common.{◌≡◌, ℕ, ◌+◌, ◌<◌, ◌≤◌, List, length, get_or, Some, None, ap, ◌∙◌, subst, arith}
use Rattle.std.proofs.lemmas.List.{get_or_past}
use Rattle.plant.specs.Belts.{Move, no_move, no_outcome, move_at}
use Rattle.plan.specs.declared.records.StateRecord.{StateRecord}
use Rattle.plan.specs.declared.records.MoveRecord.{MoveRecord}
use Rattle.plan.specs.declared.records.OutcomeRecord.{OutcomeRecord}
use Rattle.tables.specs.declared.made.TablePlant.{TablePlant}
use Rattle.tables.specs.Clamped.{no_state, no_move_record, no_outcome_record, outcome_in, outcomes_in, move_in, moves_in, states_in}
use Rattle.tables.specs.ClampedLawful.{outcomes_long, outcomes_at, moves_at, moves_inside, count_inside, goal_inside}
use Rattle.tables.specs.Made.{records_of, belt_of}
use Rattle.tables.specs.Found.{FoundState, FoundMove, FoundOutcome}

module _ (p : TablePlant) (s : ℕ) where
  pub found_state : {place : ℕ} {past : StateRecord} (r : StateRecord) → r ≡ get_or p.states.now place past → past ≡ no_state → place ≡ s → s < states_in p.head.count → FoundState p s (Some r)
  found_state r is zeros at inside =
      let n = states_in p.head.count in
      let here : get_or p.states.now s no_state ≡ r = cc in
      subst (λ (r : StateRecord). FoundState p s (Some r)) here
      (record { goal = goal_inside n p.head.start (records_of p) s inside; count = count_inside n p.head.start (records_of p) s inside; moves = moves_inside n p.head.start (records_of p) s inside })

  module _ (m : ℕ) where
    pub found_no_move : (from : StateRecord) → FoundState p s (Some from) → moves_in from ≤ m → FoundMove p s m None
    found_no_move from found past =
        let none = get_or_past ((belt_of p).moves s) m no_move (omega arith) in
        record { is = none; count = ap (λ (v : Move). length v.outcomes) none }

    pub found_move : (from : StateRecord) → FoundState p s (Some from) → m < moves_in from → {place : ℕ} {past : MoveRecord} (r : MoveRecord) → r ≡ get_or p.moves.now place past → past ≡ no_move_record → place ≡ from.first + m → FoundMove p s m (Some r)
    found_move from found inside r is zeros at =
        let n = states_in p.head.count in
        let here : get_or p.moves.now (from.first + m) no_move_record ≡ r = cc in
        let there = ap (λ (vs : List Move). get_or vs m no_move) found.moves ∙ moves_at n (records_of p) from m inside ∙ ap (move_in n p.outcomes.now) here in
        record { is = there; count = ap (λ (v : Move). length v.outcomes) there ∙ outcomes_long n p.outcomes.now r }

    module _ (o : ℕ) where
      pub found_no_outcome : (by : MoveRecord) → FoundMove p s m (Some by) → outcomes_in by ≤ o → FoundOutcome p s m o None
      found_no_outcome by found past = record { is = get_or_past (move_at (belt_of p) s m).outcomes o no_outcome (omega arith) }

      pub found_outcome : (by : MoveRecord) → FoundMove p s m (Some by) → o < outcomes_in by → {place : ℕ} {past : OutcomeRecord} (r : OutcomeRecord) → r ≡ get_or p.outcomes.now place past → past ≡ no_outcome_record → place ≡ by.first + o → FoundOutcome p s m o (Some r)
      found_outcome by found inside r is zeros at =
          let n = states_in p.head.count in
          let here : get_or p.outcomes.now (by.first + o) no_outcome_record ≡ r = cc in
          record { is = ap (λ (v : Move). get_or v.outcomes o no_outcome) found.is ∙ outcomes_at n p.outcomes.now by o inside ∙ ap (outcome_in n) here }
