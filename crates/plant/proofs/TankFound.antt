-- What the code finds at a number of a tank line, and what stands in a state by its pieces and its level.
use Rattle.std.proofs.Common.{◌≡◌, ℕ, ◌+◌, ◌/◌, ◌%◌, ◌<◌, ◌≤◌, eqb, length, get_or, Some, sym, ap, ◌∙◌, inl, inr, arith}
use Rattle.std.proofs.lemmas.Grind.{rows}
use Rattle.std.proofs.lemmas.Bool.{cond-true, cond-false, cases_eq, eq-eqb, ne_eqb}
use Rattle.plant.specs.declared.tank.kinds.TankMove.TheVariants.{Jets}
use Rattle.plant.specs.declared.tank.kinds.TankOutcome.TheVariants.{Freed}
use Rattle.plant.specs.declared.tank.line.TankLine.{TankLine}
use Rattle.plant.specs.Belts.{Move, no_outcome, move_count}
use Rattle.plant.specs.Tank.{state_of, tank_moves}
use Rattle.plant.specs.TankLaid.{LaidOut, belt_of}
use Rattle.plant.specs.TankKinds.{FoundMove, FoundOutcome}
use Rattle.plant.specs.TankLawful.{stuck_true, stuck_none, moves_stuck, moves_still, known, at_jets, jets_long, jets_at}

module _ (t : TankLine) (s m : ℕ) where
  pub found_jets : m < move_count (belt_of t) s → 1 ≤ m → FoundMove t s m (Some (Jets m))
  found_jets inside one =
      let k = known t.pieces t.levels t.rest t.jet s m inside in
      let jets = at_jets t.pieces t.levels t.rest t.jet s k.0 m one k.1 in
      record {
        is = jets;
        outcomes = ap (λ (v : Move). length v.outcomes) jets ∙ jets_long t.levels t.jet (s / (t.levels + 1)) (s % (t.levels + 1)) m;
        possible = (omega arith, omega arith, omega arith);
      }

  pub found_freed : (j o : ℕ) → FoundMove t s m (Some (Jets j)) → o ≤ j → FoundOutcome t s m o (Some (Freed j o))
  found_freed j o found inside =
      let some = found.possible in
      record {
        is = ap (λ (v : Move). get_or v.outcomes o no_outcome) found.is ∙ jets_at t.levels t.jet (s / (t.levels + 1)) (s % (t.levels + 1)) j o (omega arith);
        possible = (omega arith, omega arith, omega arith, omega arith);
      }

-- the pieces and the level of a state, back from its number
pieces_back : (P f p : ℕ) → p ≤ P → state_of P f p / (P + 1) ≡ f
pieces_back P f p h = grind (arith, rows)

level_back : (P f p : ℕ) → p ≤ P → state_of P f p % (P + 1) ≡ p
level_back P f p h = grind (arith, rows)

pub laid_out : (t : TankLine) (f p : ℕ) → f ≤ t.pieces → p ≤ t.levels → LaidOut t f p (state_of t.levels f p)
laid_out t f p most h =
    let s = state_of t.levels f p in
    let back = pieces_back t.levels f p h in
    record {
      goal = ap (λ i. eqb i 0) back;
      moves = elim (cases_eq f 0) [
        | inl none ↦ moves_still t.pieces t.levels t.rest t.jet s (stuck_none t.pieces (s / (t.levels + 1)) (back ∙ none)) ∙ sym (cond-true (eqb f 0) _ _ (eq-eqb f 0 none))
        | inr some ↦
            moves_stuck t.pieces t.levels t.rest t.jet s (stuck_true t.pieces (s / (t.levels + 1)) (omega arith) (omega arith))
            ∙ ap (λ i. tank_moves t.levels t.rest t.jet i (s % (t.levels + 1))) back
            ∙ ap (tank_moves t.levels t.rest t.jet f) (level_back t.levels f p h)
            ∙ sym (cond-false (eqb f 0) _ _ (ne_eqb f 0 some))
      ];
    }
