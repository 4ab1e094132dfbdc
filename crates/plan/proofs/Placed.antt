-- Where the records of a plan stand once they are written.
use Rattle.std.proofs.Common.{◌≡◌, ℕ, suc, ◌+◌, ◌≤◌, List, [], ◌∷◌, ◌++◌, map, length, drop, set, sym, refl, ap, ◌∙◌, zero-add, add-one, arith, length-append}
use Rattle.std.proofs.Math.Seq.{sets, sets-eq}
use Rattle.std.proofs.lemmas.List.{length-map, map-append}
use Rattle.std.proofs.lemmas.List.Concat.{flat_map-append}
use Rattle.plant.specs.Belts.{Move, Outcome}
use Rattle.plan.specs.declared.counts.Counts.{Counts}
use Rattle.plan.specs.declared.records.StateRecord.{StateRecord}
use Rattle.plan.specs.declared.records.MoveRecord.{MoveRecord}
use Rattle.plan.specs.declared.records.OutcomeRecord.{OutcomeRecord}
use Rattle.plan.specs.Forms.{grow_all, grow_move, grow_outcome}
use Rattle.plan.specs.Lines.{grow_line, unused}
use Rattle.plan.specs.Plans.{Plan, Fits, all_moves, all_outcomes}
use Rattle.plan.specs.Records.{Records, loaded, move_records, outcome_record, over, plan_records, state_records}
use Rattle.plan.specs.Tables.{room_of}
use Rattle.plan.specs.Walk.{put_all, put_line, put_move, put_outcome, put_plan}
use Rattle.plan.proofs.Counted.{moves_counted, outcomes_counted}

-- records that are written one behind the other, in two runs
sets_more : {A : Type 0} (xs ys l : List A) (i j : ℕ) → j ≡ i + length xs → sets (sets l i xs) j ys ≡ sets l i (xs ++ ys)
sets_more [] ys l i j e = let f : j ≡ i = omega arith in ap (λ (k : ℕ). sets l k ys) f
sets_more (x ∷ xs) ys l i j e = sets_more xs ys (set l i x) (suc i) j (omega arith)

-- the outcomes of a move
outcomes_put : (u : Counts) (os : List Outcome) (r : Records)
    → put_all grow_outcome put_outcome u os r ≡ record { states = r.states; moves = r.moves; outcomes = sets r.outcomes u.outcomes (map outcome_record os) }
outcomes_put u [] r = refl
outcomes_put u (o ∷ os) r =
    let one : List OutcomeRecord = set r.outcomes u.outcomes (outcome_record o) in
    outcomes_put (grow_outcome u o) os (put_outcome u o r)
    ∙ ap (λ (k : ℕ). record { states = r.states; moves = r.moves; outcomes = sets one k (map outcome_record os) }) (add-one u.outcomes)

-- the moves of a state, with their outcomes
moves_put : (u : Counts) (ms : List Move) (r : Records)
    → put_all grow_move put_move u ms r
    ≡ record { states = r.states; moves = sets r.moves u.moves (move_records u.outcomes ms); outcomes = sets r.outcomes u.outcomes (map outcome_record (all_outcomes ms)) }
moves_put u [] r = refl
moves_put u (m ∷ ms) r =
    let os = map outcome_record m.outcomes in
    let end = (grow_all grow_outcome u m.outcomes).outcomes in
    let count : end ≡ u.outcomes + length m.outcomes = outcomes_counted u m.outcomes in
    let long : end ≡ u.outcomes + length os = let f = length-map m.outcomes outcome_record in omega arith in
    let first = outcomes_put u m.outcomes r in
    let row : ℕ → List MoveRecord = λ k. record { cost = m.cost; first = u.outcomes; end = k } ∷ move_records k ms in
    let a : sets (put_move u m r).moves (u.moves + 1) (move_records end ms) ≡ sets r.moves u.moves (move_records u.outcomes (m ∷ ms)) =
    ap (λ (x : Records). sets (set x.moves u.moves (record { cost = m.cost; first = u.outcomes; end = end })) (u.moves + 1) (move_records end ms)) first
    ∙ ap (λ (k : ℕ). sets (set r.moves u.moves (record { cost = m.cost; first = u.outcomes; end = end })) k (move_records end ms)) (add-one u.moves)
    ∙ ap (λ (k : ℕ). sets r.moves u.moves (row k)) count in
    let b : sets (put_move u m r).outcomes end (map outcome_record (all_outcomes ms)) ≡ sets r.outcomes u.outcomes (map outcome_record (all_outcomes (m ∷ ms))) =
    ap (λ (x : Records). sets x.outcomes end (map outcome_record (all_outcomes ms))) first
    ∙ sets_more os (map outcome_record (all_outcomes ms)) r.outcomes u.outcomes end long
    ∙ ap (λ l. sets r.outcomes u.outcomes l) (sym (map-append outcome_record m.outcomes (all_outcomes ms))) in
    let c : (put_move u m r).states ≡ r.states = ap (λ (x : Records). x.states) first in
    moves_put (grow_move u m) ms (put_move u m r) ∙ (λ i. record { states = c i; moves = a i; outcomes = b i })

-- move records of two rows
pub records_both : (first : ℕ) (ls ms : List Move) → move_records first (ls ++ ms) ≡ move_records first ls ++ move_records (first + length (all_outcomes ls)) ms
records_both first [] ms = ap (λ (k : ℕ). move_records k ms) (omega arith)
records_both first (l ∷ ls) ms =
    let one : MoveRecord = record { cost = l.cost; first = first; end = first + length l.outcomes } in
    let e : first + length l.outcomes + length (all_outcomes ls) ≡ first + length (all_outcomes (l ∷ ls)) = let f = length-append l.outcomes (all_outcomes ls) in omega arith in
    ap (λ x. one ∷ x) (records_both (first + length l.outcomes) ls ms ∙ ap (λ (k : ℕ). move_records (first + length l.outcomes) ls ++ move_records k ms) e)

pub moves_long : (first : ℕ) (ms : List Move) → length (move_records first ms) ≡ length ms
moves_long first [] = refl
moves_long first (m ∷ ms) = ap suc (moves_long (first + length m.outcomes) ms)

pub states_long : (first : ℕ) (ls : List (List Move)) → length (state_records first ls) ≡ length ls
states_long first [] = refl
states_long first (l ∷ ls) = ap suc (states_long (first + length l) ls)

-- all lines
lines_put : (u : Counts) (ls : List (List Move)) (r : Records)
    → put_all grow_line put_line u ls r ≡ record {
      states = sets r.states u.states (state_records u.moves ls);
      moves = sets r.moves u.moves (move_records u.outcomes (all_moves ls));
      outcomes = sets r.outcomes u.outcomes (map outcome_record (all_outcomes (all_moves ls)));
    }
lines_put u [] r = refl
lines_put u (l ∷ ls) r =
    let v = grow_line u l in
    let counts = moves_counted u l in
    let first = moves_put u l r in
    let row : ℕ → List StateRecord = λ k. record { first = u.moves; end = k } ∷ state_records k ls in
    let ms = move_records u.outcomes l in
    let os = map outcome_record (all_outcomes l) in
    let mlong : v.moves ≡ u.moves + length ms = let f = moves_long u.outcomes l in omega (arith, counts.0) in
    let olong : v.outcomes ≡ u.outcomes + length os = let f = length-map (all_outcomes l) outcome_record in omega (arith, counts.1) in
    let a : sets (put_line u l r).states (u.states + 1) (state_records v.moves ls) ≡ sets r.states u.states (state_records u.moves (l ∷ ls)) =
    ap (λ (x : Records). sets (set x.states u.states (record { first = u.moves; end = v.moves })) (u.states + 1) (state_records v.moves ls)) first
    ∙ ap (λ (k : ℕ). sets (set r.states u.states (record { first = u.moves; end = v.moves })) k (state_records v.moves ls)) (add-one u.states)
    ∙ ap (λ (k : ℕ). sets r.states u.states (row k)) counts.0 in
    let b : sets (put_line u l r).moves v.moves (move_records v.outcomes (all_moves ls)) ≡ sets r.moves u.moves (move_records u.outcomes (l ++ all_moves ls)) =
    ap (λ (x : Records). sets x.moves v.moves (move_records v.outcomes (all_moves ls))) first
    ∙ sets_more ms (move_records v.outcomes (all_moves ls)) r.moves u.moves v.moves mlong
    ∙ ap (λ (k : ℕ). sets r.moves u.moves (ms ++ move_records k (all_moves ls))) counts.1
    ∙ ap (λ x. sets r.moves u.moves x) (sym (records_both u.outcomes l (all_moves ls))) in
    let c : sets (put_line u l r).outcomes v.outcomes (map outcome_record (all_outcomes (all_moves ls))) ≡ sets r.outcomes u.outcomes (map outcome_record (all_outcomes (l ++ all_moves ls))) =
    ap (λ (x : Records). sets x.outcomes v.outcomes (map outcome_record (all_outcomes (all_moves ls)))) first
    ∙ sets_more os (map outcome_record (all_outcomes (all_moves ls))) r.outcomes u.outcomes v.outcomes olong
    ∙ ap (λ x. sets r.outcomes u.outcomes x) (sym (ap (map outcome_record) (flat_map-append (λ (m : Move). m.outcomes) l (all_moves ls)) ∙ map-append outcome_record (all_outcomes l) (all_outcomes (all_moves ls)))) in
    lines_put v ls (put_line u l r) ∙ (λ i. record { states = a i; moves = b i; outcomes = c i })

over_sets : {A : Type 0} (new old : List A) → length new ≤ length old → sets old 0 new ≡ over new old
over_sets new old h = sets-eq new old 0 (omega arith) ∙ ap (λ (k : ℕ). new ++ drop k old) (zero-add (length new))

-- a plan that fits is written from place 0 on, and later places stay
pub plan_put : (p : Plan) (r : Records) → Fits (room_of r) p → put_plan p r ≡ loaded p r
plan_put p r fits =
    let new : Records = plan_records p in
    let s = over_sets new.states r.states (omega (arith, states_long 0 p.lines, fits.states)) in
    let m = over_sets new.moves r.moves (omega (arith, moves_long 0 (all_moves p.lines), fits.moves)) in
    let o = over_sets new.outcomes r.outcomes (omega (arith, length-map (all_outcomes (all_moves p.lines)) outcome_record, fits.outcomes)) in
    lines_put unused p.lines r ∙ (λ i. record { states = s i; moves = m i; outcomes = o i })
