-- A plan within the limits has lawful lines, and lawful lines make one.
use Rattle.std.proofs.Common.{◌≡◌, ℕ, ◌<◌, ◌≤◌, Bool, ◌&&◌, eqb, ltb, List, [], length, get_or, ap, inl, inr, arith}
use Rattle.std.proofs.lemmas.List.{get_or_past, nil_from_length}
use Rattle.std.proofs.lemmas.Bool.{and_from, and_parts, cases_lt, eq-eqb, eqb-true, le-ltb, lt-ltb}
use Rattle.std.specs.List.{AllByRecursion}
use Rattle.std.proofs.lemmas.List.Elements.{All-from_get_or, All-from_recursion, recursion_from_All}
use Rattle.plant.specs.Belts.{Move, no_move}
use Rattle.plant.specs.Laws.{LawfulMove}
use Rattle.plan.specs.Plans.{Plan, LawfulPlan}
use Rattle.plan.proofs.Each.{LineLawful}

module _ (p : Plan) where
  abbrev line : ℕ → List Move
  line s = get_or p.lines s []

  pub lines_lawful : LawfulPlan p → AllByRecursion (LineLawful p.count) p.lines
  lines_lawful laws =
      recursion_from_All (LineLawful p.count) p.lines (All-from_get_or (LineLawful p.count) p.lines [] (λ s h.
      (laws.belt.moves_few s, recursion_from_All (LawfulMove p.count) (line s) (All-from_get_or (LawfulMove p.count) (line s) no_move (λ m l. laws.belt.each s m l)))))

  module _ (long : length p.lines ≡ p.count) (ok : AllByRecursion (LineLawful p.count) p.lines) where
    none_outside : (s : ℕ) → p.count ≤ s → line s ≡ []
    none_outside s h = get_or_past p.lines s [] (omega arith)

    lawful_inside : (s : ℕ) → s < p.count → LineLawful p.count (line s)
    lawful_inside s h = All-from_recursion (LineLawful p.count) p.lines ok s [] (omega arith)

    pub plan_lawful : 1 ≤ p.count → p.count ≤ 4096 → p.start < p.count → LawfulPlan p
    plan_lawful some few less = record {
      lines = long;
      belt = record {
        some = some;
        few = few;
        starts = less;
        moves_some = λ s h g. elim (cases_lt 0 (length (line s))) [
          | inl y ↦ omega arith
          | inr y ↦ (let none : length (line s) ≡ 0 = omega arith in
              let goal = and_from (ltb s p.count) (eqb (length (line s)) 0) (lt-ltb s p.count h) (eq-eqb (length (line s)) 0 none) in
              absurd (let z : ◌≡◌ {A = ℕ} 0 1 = cc in omega arith))
        ];
        moves_few = λ s. elim (cases_lt s p.count) [ inl h ↦ (lawful_inside s h).0 | inr h ↦ (let e = ap length (none_outside s h) in omega arith) ];
        each = λ s m l. elim (cases_lt s p.count) [
          | inl h ↦ All-from_recursion (LawfulMove p.count) (line s) (lawful_inside s h).1 m no_move l
          | inr h ↦ (let e = ap length (none_outside s h) in absurd (let z : ⊥ = omega arith in z))
        ];
        no_goal_outside = λ s h. ap (λ (b : Bool). b && eqb (length (line s)) 0) (le-ltb s p.count h);
        still_outside = none_outside;
        still_at_goals = λ s h. nil_from_length (line s) (eqb-true (length (line s)) 0 (and_parts (ltb s p.count) (eqb (length (line s)) 0) h).1);
      };
    }
