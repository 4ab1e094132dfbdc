-- A belt of goals alone: the least that a plant can be, for the tests.
use Rattle.std.specs.Prelude.{ℕ, ◌≤◌, [], nat_lt, refl}
use Rattle.std.proofs.Common.{arith}
use Rattle.std.proofs.lemmas.Bool.{le-ltb, lt-ltb, both_ways}
use Rattle.plant.specs.Belts.{Belt}
use Rattle.plant.specs.Laws.{LawfulBelt}

-- n states, each of them a goal
abbrev pub goals_alone : ℕ → Belt
goals_alone n = record { count = n; start = 0; goal = λ s. nat_lt s n; moves = λ s. [] }

pub goals_lawful : (n : ℕ) → 1 ≤ n → n ≤ 4096 → LawfulBelt (goals_alone n)
goals_lawful n some few = record {
  some = some;
  few = few;
  starts = some;
  moves_some = λ s h g. absurd (both_ways (nat_lt s n) g (lt-ltb s n h));
  moves_few = λ s. omega arith;
  each = λ s m h. absurd (let z : ⊥ = omega arith in z);
  no_goal_outside = λ s h. le-ltb s n h;
  still_outside = λ s h. refl;
  still_at_goals = λ s h. refl;
}
