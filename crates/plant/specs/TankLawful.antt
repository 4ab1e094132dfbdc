-- A tank line keeps the bounds of a belt; proofs only.
use Rattle.std.specs.Prelude.{◌≡◌, ℕ, zero, suc, ◌+◌, ◌-◌, ◌*◌, ◌/◌, ◌%◌, ◌<◌, ◌≤◌, min, Bool, true, false, leb, List, [], ◌∷◌, map, length, get_or, slice_index_or, refl}
use Rattle.std.proofs.Common.{inl, inr, sym, ap, subst, ◌∙◌, add-mul, mul-le-mul, mul-le-mul_right, le-div_iff_mul-le, div-lt_iff_lt-mul, arith}
use Rattle.std.specs.List.{list_all, range_with_len}
use Rattle.std.proofs.lemmas.List.FromFn.{length-range_with_len, get_or-range_with_len, length-map-range_with_len, get_or-map-range_with_len}
use Rattle.std.proofs.lemmas.List.Folds.{list_all_at}
use Rattle.std.proofs.lemmas.Bool.Decides.{nat_tests}
use Rattle.std.proofs.lemmas.Bool.{cond-true, cond-false, cases_Bool, cases_eq, eqb-true, eqb-false, ne_eqb, leb-true}
use Rattle.plant.specs.declared.tank.line.TankLine.{TankLine}
use Rattle.plant.specs.Belts.{Move, no_move, no_outcome, move_at, move_count}
use Rattle.plant.specs.Laws.{LawfulBelt, LawfulMove, LawfulOutcome}
use Rattle.plant.specs.Tank.{choose, state_of, rest_move, freed, jet_move, most_jets, tank_moves, stuck, tank_line}
use Rattle.plant.specs.TankLaid.{belt_of}

-- the weights are 1 to 255: from below by their rule, from above by a test over all of them
choose_some : (j m : ℕ) → m ≤ j → 1 ≤ choose j m
choose_some zero zero h = omega arith
choose_some zero (suc m) h = absurd (let z : ⊥ = omega arith in z)
choose_some (suc j) zero h = omega arith
choose_some (suc j) (suc m) h = omega (arith, choose_some j m (omega arith))

every_at : (p : ℕ → Bool) (n : ℕ) → list_all p (range_with_len 0 n) ≡ true → (k : ℕ) → k < n → p k ≡ true
every_at p n e k h =
    let at = get_or-range_with_len 0 n k 0 h in
    let long = length-range_with_len 0 n in
    grind (arith, nat_tests, list_all_at p (range_with_len 0 n) k 0)

choose_small : (j m : ℕ) → j ≤ 8 → m ≤ 8 → choose j m ≤ 255
choose_small j m h k =
    let row = every_at (λ i. list_all (λ o. leb (choose i o) 255) (range_with_len 0 9)) 9 refl j (omega arith) in
    leb-true (choose j m) 255 (every_at (λ o. leb (choose j o) 255) 9 row m (omega arith))

-- a state's number, its pieces and its level
inside : (F P f p : ℕ) → f ≤ F → p ≤ P → state_of P f p < (F + 1) * (P + 1)
inside F P f p h k = omega (arith, mul-le-mul_right (P + 1) h, add-mul F 1 (P + 1))

level_below : (P s : ℕ) → s % (P + 1) ≤ P
level_below P s = let p : 0 < P + 1 = omega arith in omega arith

pieces_inside : (F P s : ℕ) → s < (F + 1) * (P + 1) → s / (P + 1) ≤ F
pieces_inside F P s h = let p : 0 < P + 1 = omega arith in omega (arith, (div-lt_iff_lt-mul p).1 h)

pieces_outside : (F P s : ℕ) → (F + 1) * (P + 1) ≤ s → F < s / (P + 1)
pieces_outside F P s h = let p : 0 < P + 1 = omega arith in omega (arith, (le-div_iff_mul-le p).1 h)

pub stuck_true : (F f : ℕ) → 1 ≤ f → f ≤ F → stuck F f ≡ true
stuck_true F f h k = grind (arith, nat_tests)

stuck_parts : (F f : ℕ) → stuck F f ≡ true → (1 ≤ f) × (f ≤ F)
stuck_parts F f h = (grind (arith, nat_tests), grind (arith, nat_tests))

pub stuck_none : (F f : ℕ) → f ≡ 0 → stuck F f ≡ false
stuck_none F f h = grind (arith, nat_tests)

stuck_past : (F f : ℕ) → F < f → stuck F f ≡ false
stuck_past F f h = grind (arith, nat_tests)

-- the jets stand behind the rest
behind : (x : Move) (g : ℕ → Move) (n j : ℕ) → 1 ≤ j → j ≤ n → slice_index_or (x ∷ map g (range_with_len 1 n)) j no_move ≡ g j
behind x g n zero h k = absurd (let z : ⊥ = omega arith in z)
behind x g n (suc j) h k = get_or-map-range_with_len g 1 n j (suc j) no_move (omega arith) (omega arith)

-- the moves of state s
module _ (F P r b s : ℕ) where
  pub moves_stuck : stuck F (s / (P + 1)) ≡ true → (tank_line F P r b).moves s ≡ tank_moves P r b (s / (P + 1)) (s % (P + 1))
  moves_stuck h = cond-true (stuck F (s / (P + 1))) _ _ h

  pub moves_still : stuck F (s / (P + 1)) ≡ false → (tank_line F P r b).moves s ≡ []
  moves_still h = cond-false (stuck F (s / (P + 1))) _ _ h

  pub count_stuck : stuck F (s / (P + 1)) ≡ true → move_count (tank_line F P r b) s ≡ most_jets (s / (P + 1)) (s % (P + 1)) + 1
  count_stuck h =
      let n = most_jets (s / (P + 1)) (s % (P + 1)) in
      let e = length-map-range_with_len (jet_move P b (s / (P + 1)) (s % (P + 1))) 1 n in
      ap length (moves_stuck h) ∙ omega arith

  count_still : stuck F (s / (P + 1)) ≡ false → move_count (tank_line F P r b) s ≡ 0
  count_still h = ap length (moves_still h)

  -- a move that is there is a rest or so many jets
  pub known : (m : ℕ) → m < move_count (tank_line F P r b) s → (stuck F (s / (P + 1)) ≡ true) × (m ≤ most_jets (s / (P + 1)) (s % (P + 1)))
  known m h =
      elim (cases_Bool (stuck F (s / (P + 1)))) [
        | inl t ↦ (t, omega (arith, count_stuck t))
        | inr t ↦ absurd (let e = count_still t in let z : ⊥ = omega arith in z)
      ]

  pub at_rest : stuck F (s / (P + 1)) ≡ true → move_at (tank_line F P r b) s 0 ≡ rest_move P r (s / (P + 1)) (s % (P + 1))
  at_rest h = ap (λ (vs : List Move). get_or vs 0 no_move) (moves_stuck h)

  pub at_jets : stuck F (s / (P + 1)) ≡ true → (j : ℕ) → 1 ≤ j → j ≤ most_jets (s / (P + 1)) (s % (P + 1)) → move_at (tank_line F P r b) s j ≡ jet_move P b (s / (P + 1)) (s % (P + 1)) j
  at_jets h j k l =
      ap (λ (vs : List Move). get_or vs j no_move) (moves_stuck h)
      ∙ behind (rest_move P r (s / (P + 1)) (s % (P + 1))) (jet_move P b (s / (P + 1)) (s % (P + 1))) (most_jets (s / (P + 1)) (s % (P + 1))) j k l

-- the outcomes of j jets
pub jets_long : (P b f p j : ℕ) → length (jet_move P b f p j).outcomes ≡ j + 1
jets_long P b f p j = length-map-range_with_len (freed P f p j) 0 (j + 1)

pub jets_at : (P b f p j o : ℕ) → o < j + 1 → slice_index_or (jet_move P b f p j).outcomes o no_outcome ≡ freed P f p j o
jets_at P b f p j o h = get_or-map-range_with_len (freed P f p j) 0 (j + 1) o o no_outcome h (omega arith)

rest_lawful : (F P r f p : ℕ) → f ≤ F → 1 ≤ r → r ≤ 1000 → LawfulMove ((F + 1) * (P + 1)) (rest_move P r f p)
rest_lawful F P r f p h some few = record {
  costs = some;
  cheap = few;
  some = omega arith;
  few = omega arith;
  each = λ o l.
      let e : o ≡ 0 = omega arith in
      subst (λ i. LawfulOutcome ((F + 1) * (P + 1)) (slice_index_or (rest_move P r f p).outcomes i no_outcome)) (sym e)
      (record { inside = inside F P f (min (p + 1) P) h (omega arith); weighs = omega arith; light = omega arith });
}

jets_lawful : (F P b f p j : ℕ) → f ≤ F → p ≤ P → 1 ≤ b → b ≤ 125 → 1 ≤ j → j ≤ most_jets f p → LawfulMove ((F + 1) * (P + 1)) (jet_move P b f p j)
jets_lawful F P b f p j h k some few one most =
    let eight : j ≤ 8 = omega arith in
    let long = jets_long P b f p j in
    record {
      costs = omega (arith, mul-le-mul some one);
      cheap = omega (arith, mul-le-mul few eight);
      some = omega arith;
      few = omega arith;
      each = λ o l.
          let i : o < j + 1 = omega arith in
          subst (LawfulOutcome ((F + 1) * (P + 1))) (sym (jets_at P b f p j o i))
          (record { inside = inside F P (f - o) (p - j) (omega arith) (omega arith); weighs = choose_some j o (omega arith); light = choose_small j o eight (omega arith) });
    }

pub tank_lawful : (F P r b : ℕ) → 1 ≤ F → F ≤ 15 → P ≤ 15 → 1 ≤ r → r ≤ 1000 → 1 ≤ b → b ≤ 125 → LawfulBelt (tank_line F P r b)
tank_lawful F P r b f1 f2 p2 r1 r2 b1 b2 =
    let Ff : F + 1 ≤ 16 = omega arith in
    let Pp : P + 1 ≤ 16 = omega arith in
    let F1 : 1 ≤ F + 1 = omega arith in
    let P1 : 1 ≤ P + 1 = omega arith in
    record {
      some = omega (arith, mul-le-mul F1 P1);
      few = omega (arith, mul-le-mul Ff Pp);
      starts = inside F P F P (omega arith) (omega arith);
      moves_some = λ s h g. omega (arith, count_stuck F P r b s (stuck_true F (s / (P + 1)) (omega (arith, eqb-false (s / (P + 1)) 0 g)) (pieces_inside F P s h)));
      moves_few = λ s. elim (cases_Bool (stuck F (s / (P + 1)))) [ inl t ↦ omega (arith, count_stuck F P r b s t) | inr t ↦ omega (arith, count_still F P r b s t) ];
      each = λ s m h.
          let k = known F P r b s m h in
          let q = stuck_parts F (s / (P + 1)) k.0 in
          elim (cases_eq m 0) [
            | inl z ↦
                subst (λ i. LawfulMove ((F + 1) * (P + 1)) (move_at (tank_line F P r b) s i)) (sym z)
                (subst (LawfulMove ((F + 1) * (P + 1))) (sym (at_rest F P r b s k.0)) (rest_lawful F P r (s / (P + 1)) (s % (P + 1)) q.1 r1 r2))
            | inr z ↦ (
                let one : 1 ≤ m = omega arith in
                subst (LawfulMove ((F + 1) * (P + 1))) (sym (at_jets F P r b s k.0 m one k.1))
                (jets_lawful F P b (s / (P + 1)) (s % (P + 1)) m q.1 (level_below P s) b1 b2 one k.1))
          ];
      no_goal_outside = λ s h. ne_eqb (s / (P + 1)) 0 (omega (arith, pieces_outside F P s h));
      still_outside = λ s h. moves_still F P r b s (stuck_past F (s / (P + 1)) (pieces_outside F P s h));
      still_at_goals = λ s h. moves_still F P r b s (stuck_none F (s / (P + 1)) (eqb-true (s / (P + 1)) 0 h));
    }

-- so does the belt of a line, whose numbers are within their ranges
pub line_lawful : (t : TankLine) → LawfulBelt (belt_of t)
line_lawful t = tank_lawful t.pieces t.levels t.rest t.jet t.some.0 t.some.1 t.full.1 t.slow.0 t.slow.1 t.dear.0 t.dear.1
