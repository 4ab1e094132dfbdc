-- How many records are used behind a row of forms, and when all of them find a place.
use Rattle.std.proofs.Common.{◌≡◌, ◌+◌, ◌<◌, ◌≤◌, List, [], ◌∷◌, ◌++◌, length, ap, ◌∙◌, arith, length-append}
use Rattle.std.proofs.lemmas.List.Concat.{flat_map-append}
use Rattle.plant.specs.Belts.{Move, Outcome}
use Rattle.plan.specs.declared.counts.Counts.{Counts}
use Rattle.plan.specs.Forms.{grow_all, grow_move, grow_outcome}
use Rattle.plan.specs.Lines.{grow_line, unused}
use Rattle.plan.specs.Plans.{Plan, Fits, all_moves, all_outcomes}
use Rattle.plan.proofs.Each.{EachFits, LineFits, MoveFits, OutcomeFits}

pub outcomes_counted : (u : Counts) (os : List Outcome) → (grow_all grow_outcome u os).outcomes ≡ u.outcomes + length os
outcomes_counted u [] = omega arith
outcomes_counted u (o ∷ os) = let e = outcomes_counted (grow_outcome u o) os in omega arith

pub moves_counted : (u : Counts) (ms : List Move) → ((grow_all grow_move u ms).moves ≡ u.moves + length ms) × ((grow_all grow_move u ms).outcomes ≡ u.outcomes + length (all_outcomes ms))
moves_counted u [] = (omega arith, omega arith)
moves_counted u (m ∷ ms) =
    let e = moves_counted (grow_move u m) ms in
    let f = outcomes_counted u m.outcomes in
    let g = length-append m.outcomes (all_outcomes ms) in
    (omega (arith, e.0), omega (arith, e.1))

-- the outcomes of two rows of moves
pub outcomes_of_both : (ls ms : List Move) → length (all_outcomes (ls ++ ms)) ≡ length (all_outcomes ls) + length (all_outcomes ms)
outcomes_of_both ls ms = ap length (flat_map-append (λ (m : Move). m.outcomes) ls ms) ∙ length-append (all_outcomes ls) (all_outcomes ms)

module _ (room : Counts) where
  outcomes_fit : (u : Counts) (os : List Outcome) → u.outcomes ≤ room.outcomes → EachFits (OutcomeFits room) grow_outcome u os → u.outcomes + length os ≤ room.outcomes
  outcomes_fit u [] low fit = omega arith
  outcomes_fit u (o ∷ os) low fit = let here : u.outcomes < room.outcomes = fit.0 in let more = outcomes_fit (grow_outcome u o) os (omega arith) fit.1 in omega arith

  outcomes_each : (u : Counts) (os : List Outcome) → u.outcomes + length os ≤ room.outcomes → EachFits (OutcomeFits room) grow_outcome u os
  outcomes_each u [] h = tt
  outcomes_each u (o ∷ os) h = (omega arith, outcomes_each (grow_outcome u o) os (omega arith))

  moves_fit : (u : Counts) (ms : List Move) → u.moves ≤ room.moves → u.outcomes ≤ room.outcomes → EachFits (MoveFits room) grow_move u ms
      → (u.moves + length ms ≤ room.moves) × (u.outcomes + length (all_outcomes ms) ≤ room.outcomes)
  moves_fit u [] a b fit = (omega arith, omega arith)
  moves_fit u (m ∷ ms) a b fit =
      let here : u.moves < room.moves = fit.0.0 in
      let x = outcomes_fit u m.outcomes b fit.0.1 in
      let f = outcomes_counted u m.outcomes in
      let g = length-append m.outcomes (all_outcomes ms) in
      let more = moves_fit (grow_move u m) ms (omega arith) (omega arith) fit.1 in
      (omega (arith, more.0), omega (arith, more.1))

  moves_each : (u : Counts) (ms : List Move) → u.moves + length ms ≤ room.moves → u.outcomes + length (all_outcomes ms) ≤ room.outcomes → EachFits (MoveFits room) grow_move u ms
  moves_each u [] a b = tt
  moves_each u (m ∷ ms) a b =
      let f = outcomes_counted u m.outcomes in
      let g = length-append m.outcomes (all_outcomes ms) in
      ((omega arith, outcomes_each u m.outcomes (omega arith)), moves_each (grow_move u m) ms (omega arith) (omega arith))

  lines_fit : (u : Counts) (ls : List (List Move)) → u.states ≤ room.states → u.moves ≤ room.moves → u.outcomes ≤ room.outcomes → EachFits (LineFits room) grow_line u ls
      → (u.states + length ls ≤ room.states) × (u.moves + length (all_moves ls) ≤ room.moves) × (u.outcomes + length (all_outcomes (all_moves ls)) ≤ room.outcomes)
  lines_fit u [] s a b fit = (omega arith, omega arith, omega arith)
  lines_fit u (l ∷ ls) s a b fit =
      let here : u.states < room.states = fit.0.0 in
      let x = moves_fit u l a b fit.0.1 in
      let c = moves_counted u l in
      let f = length-append l (all_moves ls) in
      let g = outcomes_of_both l (all_moves ls) in
      let more = lines_fit (grow_line u l) ls (omega arith) (omega (arith, x.0, c.0)) (omega (arith, x.1, c.1)) fit.1 in
      (omega (arith, more.0), omega (arith, more.1, c.0), omega (arith, more.2, c.1))

  lines_each : (u : Counts) (ls : List (List Move)) → u.states + length ls ≤ room.states → u.moves + length (all_moves ls) ≤ room.moves → u.outcomes + length (all_outcomes (all_moves ls)) ≤ room.outcomes
      → EachFits (LineFits room) grow_line u ls
  lines_each u [] s a b = tt
  lines_each u (l ∷ ls) s a b =
      let c = moves_counted u l in
      let f = length-append l (all_moves ls) in
      let g = outcomes_of_both l (all_moves ls) in
      ((omega arith, moves_each u l (omega arith) (omega arith)), lines_each (grow_line u l) ls (omega arith) (omega (arith, c.0)) (omega (arith, c.1)))

  -- each record of a plan finds a place exactly where there is room for all
  pub plan_fits : (p : Plan) → EachFits (LineFits room) grow_line unused p.lines → Fits room p
  plan_fits p fit =
      let a = lines_fit unused p.lines (omega arith) (omega arith) (omega arith) fit in
      record { states = omega (arith, a.0); moves = omega (arith, a.1); outcomes = omega (arith, a.2) }

  pub each_fits : (p : Plan) → Fits room p → EachFits (LineFits room) grow_line unused p.lines
  each_fits p fits = lines_each unused p.lines (omega (arith, fits.states)) (omega (arith, fits.moves)) (omega (arith, fits.outcomes))
