-- A surcharge keeps the numbers and the outcomes of moves, and raises each cost.
use Rattle.std.proofs.Common.{◌≡◌, ℕ, zero, suc, ◌+◌, ◌≤◌, min, map, sym, ap, ◌∙◌, inl, inr, arith}
use Rattle.std.proofs.lemmas.List.{get_or_past}
use Rattle.std.proofs.lemmas.Bool.{cases_lt}
use Rattle.plant.specs.Belts.{Belt, Move, move_at, move_count, no_move}
use Rattle.plant.specs.Laws.{LawfulBelt}
use Rattle.plant.specs.Surcharges.{dearer, surcharged}
use Rattle.plant.specs.SurchargesRead.{raised, Raised}
use Rattle.plant.specs.SurchargesLawful.{moves_kept, dearer_at}

-- a move that is there costs something
raised_some : (c cost : ℕ) → 1 ≤ cost → min (cost + c) 1000 ≡ raised c cost
raised_some c zero some = absurd (omega arith)
raised_some c (suc cost) some = omega arith

pub raised_below : (c : ℕ) (b : Belt) → LawfulBelt b → (s m : ℕ) → Raised c b s m m
raised_below c b laws s m =
    elim (cases_lt m (move_count b s)) [
      | inl inside ↦ (
          let there = dearer_at c b s m inside in
          record {
            cost = ap (λ (v : Move). v.cost) there ∙ raised_some c (move_at b s m).cost (laws.each s m inside).costs;
            outcomes = ap (λ (v : Move). v.outcomes) there;
          })
      | inr past ↦ (
          let none : move_at (surcharged c b) s m ≡ no_move = get_or_past (map (dearer c) (b.moves s)) m no_move (let e = moves_kept c b s in omega arith) in
          let below = get_or_past (b.moves s) m no_move past in
          record {
            cost = ap (λ (v : Move). v.cost) none ∙ sym (ap (λ (v : Move). raised c v.cost) below);
            outcomes = ap (λ (v : Move). v.outcomes) none ∙ sym (ap (λ (v : Move). v.outcomes) below);
          })
    ]
