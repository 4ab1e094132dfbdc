-- A belt with a surcharge keeps the bounds; proofs only.
use Rattle.std.specs.Prelude.{◌≡◌, ℕ, ◌<◌, map}
use Rattle.std.proofs.Common.{sym, ap, subst, arith}
use Rattle.std.proofs.lemmas.List.{get_or-map, length-map}
use Rattle.plant.specs.Belts.{Belt, Move, no_move, move_at, move_count}
use Rattle.plant.specs.Laws.{LawfulBelt, LawfulMove}
use Rattle.plant.specs.Surcharges.{surcharged, dearer}

pub moves_kept : (c : ℕ) (b : Belt) (s : ℕ) → move_count (surcharged c b) s ≡ move_count b s
moves_kept c b s = length-map (b.moves s) (dearer c)

pub dearer_at : (c : ℕ) (b : Belt) (s m : ℕ) → m < move_count b s → move_at (surcharged c b) s m ≡ dearer c (move_at b s m)
dearer_at c b s m h = get_or-map (dearer c) (b.moves s) m no_move no_move h

dearer_lawful : (c n : ℕ) (v : Move) → LawfulMove n v → LawfulMove n (dearer c v)
dearer_lawful c n v laws = record { costs = omega arith; cheap = omega arith; some = laws.some; few = laws.few; each = laws.each }

pub surcharged_lawful : (c : ℕ) (b : Belt) → LawfulBelt b → LawfulBelt (surcharged c b)
surcharged_lawful c b laws = record {
  some = laws.some;
  few = laws.few;
  starts = laws.starts;
  moves_some = λ s h g. let e = moves_kept c b s in omega (arith, laws.moves_some s h g);
  moves_few = λ s. let e = moves_kept c b s in omega (arith, laws.moves_few s);
  each = λ s m h.
      let e = moves_kept c b s in
      let k : m < move_count b s = omega arith in
      subst (LawfulMove b.count) (sym (dearer_at c b s m k)) (dearer_lawful c b.count (move_at b s m) (laws.each s m k));
  no_goal_outside = laws.no_goal_outside;
  still_outside = λ s h. ap (map (dearer c)) (laws.still_outside s h);
  still_at_goals = λ s h. ap (map (dearer c)) (laws.still_at_goals s h);
}
