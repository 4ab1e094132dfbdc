-- The tables after a load are read as the belt that the plan stands for.
use Rattle.std.proofs.Common.{◌≡◌, ℕ, zero, suc, ◌+◌, ◌-◌, ◌<◌, ◌≤◌, ◌&&◌, eqb, ltb, List, [], ◌∷◌, ◌++◌, map, length, get_or, drop, sym, refl, ap, ◌∙◌, subst, inl, inr, append_assoc, arith, length-append, get_or-append-add}
use Rattle.std.specs.List.{range_with_len}
use Rattle.std.proofs.lemmas.List.FromFn.{fill_by_all}
use Rattle.std.proofs.lemmas.List.{get_or_append_left, get_or-map, length-map, map-append}
use Rattle.std.proofs.lemmas.List.Concat.{flat_map-append}
use Rattle.std.proofs.lemmas.Bool.{cases_lt, cond-true, cond-false, le-ltb, lt-ltb}
use Rattle.refusal.specs.Told.{Told, answered, refused, and_then}
use Rattle.plant.specs.Belts.{Belt, Move, Outcome, no_move, no_outcome}
use Rattle.plant.specs.Laws.{LawfulMove, LawfulOutcome}
use Rattle.plan.specs.declared.records.StateRecord.{StateRecord}
use Rattle.plan.specs.declared.records.MoveRecord.{MoveRecord}
use Rattle.plan.specs.declared.records.OutcomeRecord.{OutcomeRecord}
use Rattle.plan.specs.declared.records.PlanHead.{PlanHead}
use Rattle.plan.specs.Lines.{head_of, read_plan}
use Rattle.plan.specs.Plans.{Plan, LawfulPlan, all_moves, all_outcomes, plan_belt}
use Rattle.plan.specs.Records.{Records, loaded, move_records, outcome_record, over, records_after, state_records}
use Rattle.plan.specs.Tables.{room_of}
use Rattle.plan.proofs.Accepted.{accepted_means, reads_format}
use Rattle.plan.proofs.Placed.{moves_long, records_both, states_long}
use Rattle.tables.specs.Clamped.{belt_in, move_in, moves_in, moves_of, nearest, no_move_record, no_outcome_record, no_state, outcome_in, states_in, table_belt}
use Rattle.tables.specs.Loads.{Loads, MakesPlan}

-- xs stand in a table from the place u on
abbrev Stands : {A : Type 0} → List A → ℕ → List A → Type 0
Stands {A} tab u xs = (pre : List A) × (post : List A) × (tab ≡ pre ++ (xs ++ post)) × (length pre ≡ u)

stands_front : {A : Type 0} (tab : List A) (u : ℕ) (xs ys : List A) → Stands tab u (xs ++ ys) → Stands tab u xs
stands_front tab u xs ys h = (h.0, ys ++ h.1, h.2 ∙ ap (λ l. h.0 ++ l) (append_assoc xs ys h.1), h.3)

stands_back : {A : Type 0} (tab : List A) (u : ℕ) (xs ys : List A) → Stands tab u (xs ++ ys) → Stands tab (u + length xs) ys
stands_back tab u xs ys h = (
  h.0 ++ xs,
  h.1,
  h.2 ∙ ap (λ l. h.0 ++ l) (append_assoc xs ys h.1) ∙ sym (append_assoc h.0 xs (ys ++ h.1)),
  length-append h.0 xs ∙ ap (λ (k : ℕ). k + length xs) h.3,
)

stands_at : {A : Type 0} (tab : List A) (u : ℕ) (xs : List A) → Stands tab u xs → (k : ℕ) (d : A) → k < length xs → get_or tab (u + k) d ≡ get_or xs k d
stands_at tab u xs h k d l =
    ap (λ t. get_or t (u + k) d) h.2 ∙ ap (λ (j : ℕ). get_or (h.0 ++ (xs ++ h.1)) (j + k) d) (sym h.3)
    ∙ get_or-append-add h.0 (xs ++ h.1) k d ∙ get_or_append_left xs h.1 d k l

stands_over : {A : Type 0} (new old : List A) → Stands (over new old) 0 new
stands_over new old = ([], drop (length new) old, refl, refl)

-- the records of outcomes of some moves
abbrev outs : List Move → List OutcomeRecord
outs ms = map outcome_record (all_outcomes ms)

outs_both : (ls ms : List Move) → outs (ls ++ ms) ≡ outs ls ++ outs ms
outs_both ls ms = ap (map outcome_record) (flat_map-append (λ (m : Move). m.outcomes) ls ms) ∙ map-append outcome_record (all_outcomes ls) (all_outcomes ms)

outs_long : (ms : List Move) → length (outs ms) ≡ length (all_outcomes ms)
outs_long ms = length-map (all_outcomes ms) outcome_record

-- the record of a move, and where its outcomes stand
move_held : (l : List Move) (first k : ℕ) (os : List OutcomeRecord) → k < length l → Stands os first (outs l)
    → (y : ℕ) × (get_or (move_records first l) k no_move_record ≡ record { cost = (get_or l k no_move).cost; first = y; end = y + length (get_or l k no_move).outcomes }) × Stands os y (map outcome_record (get_or l k no_move).outcomes)
move_held [] first k os h st = absurd (omega arith)
move_held (m ∷ ms) first zero os h st =
    (first, refl, stands_front os first (map outcome_record m.outcomes) (outs ms) (subst (λ (x : List OutcomeRecord). Stands os first x) (map-append outcome_record m.outcomes (all_outcomes ms)) st))
move_held (m ∷ ms) first (suc k) os h st =
    let split = subst (λ (x : List OutcomeRecord). Stands os first x) (map-append outcome_record m.outcomes (all_outcomes ms)) st in
    let long : first + length (map outcome_record m.outcomes) ≡ first + length m.outcomes = ap (λ (j : ℕ). first + j) (length-map m.outcomes outcome_record) in
    move_held ms (first + length m.outcomes) k os (omega arith) (subst (λ (j : ℕ). Stands os j (outs ms)) long (stands_back os first (map outcome_record m.outcomes) (outs ms) split))

-- the record of a state, and where its moves and their outcomes stand
line_held : (ls : List (List Move)) (a b k : ℕ) (ms : List MoveRecord) (os : List OutcomeRecord) → k < length ls → Stands ms a (move_records b (all_moves ls)) → Stands os b (outs (all_moves ls))
    → (x : ℕ) × (y : ℕ) × (get_or (state_records a ls) k no_state ≡ record { first = x; end = x + length (get_or ls k []) }) × Stands ms x (move_records y (get_or ls k [])) × Stands os y (outs (get_or ls k []))
line_held [] a b k ms os h s t = absurd (omega arith)
line_held (l ∷ ls) a b zero ms os h s t = (
  a,
  b,
  refl,
  stands_front ms a (move_records b l) _ (subst (λ (x : List MoveRecord). Stands ms a x) (records_both b l (all_moves ls)) s),
  stands_front os b (outs l) (outs (all_moves ls)) (subst (λ (x : List OutcomeRecord). Stands os b x) (outs_both l (all_moves ls)) t),
)
line_held (l ∷ ls) a b (suc k) ms os h s t =
    let c = b + length (all_outcomes l) in
    let ms2 = stands_back ms a (move_records b l) (move_records c (all_moves ls)) (subst (λ (x : List MoveRecord). Stands ms a x) (records_both b l (all_moves ls)) s) in
    let os2 = stands_back os b (outs l) (outs (all_moves ls)) (subst (λ (x : List OutcomeRecord). Stands os b x) (outs_both l (all_moves ls)) t) in
    let mlong : a + length (move_records b l) ≡ a + length l = ap (λ (j : ℕ). a + j) (moves_long b l) in
    let olong : b + length (outs l) ≡ c = ap (λ (j : ℕ). b + j) (outs_long l) in
    line_held ls (a + length l) c k ms os (omega arith)
    (subst (λ (j : ℕ). Stands ms j (move_records c (all_moves ls))) mlong ms2)
    (subst (λ (j : ℕ). Stands os j (outs (all_moves ls))) olong os2)

-- what is within the bounds is read as it stands
outcome_kept : (n : ℕ) (o : Outcome) → LawfulOutcome n o → outcome_in n (outcome_record o) ≡ o
outcome_kept n o ok =
    let inside = ok.inside in
    let a : nearest 0 (n - 1) o.state ≡ o.state = omega arith in
    let b : nearest 1 255 o.weight ≡ o.weight = omega (arith, ok.weighs, ok.light) in
    λ i. record { state = a i; weight = b i }

move_kept : (n : ℕ) (os : List OutcomeRecord) (y : ℕ) (m : Move) → LawfulMove n m → Stands os y (map outcome_record m.outcomes) → move_in n os (record { cost = m.cost; first = y; end = y + length m.outcomes }) ≡ m
move_kept n os y m ok st =
    let a : nearest 1 1000 m.cost ≡ m.cost = omega (arith, ok.costs, ok.cheap) in
    let c : nearest 1 16 (y + length m.outcomes - y) ≡ length m.outcomes = omega (arith, ok.some, ok.few) in
    let f : ℕ → Outcome = λ o. outcome_in n (get_or os (y + o) no_outcome_record) in
    let each : (k : ℕ) → k < length m.outcomes → get_or m.outcomes k no_outcome ≡ f k = λ k l.
    let long = length-map m.outcomes outcome_record in
    let here = stands_at os y (map outcome_record m.outcomes) st k no_outcome_record (omega arith) ∙ get_or-map outcome_record m.outcomes k no_outcome no_outcome_record l in
    sym (ap (outcome_in n) here ∙ outcome_kept n (get_or m.outcomes k no_outcome) (ok.each k l)) in
    let b : map f (range_with_len 0 (nearest 1 16 (y + length m.outcomes - y))) ≡ m.outcomes = ap (λ (k : ℕ). map f (range_with_len 0 k)) c ∙ sym (fill_by_all f m.outcomes (length m.outcomes) no_outcome refl each) in
    λ i. record { cost = a i; outcomes = b i }

module _ (p : Plan) (before : Records) (laws : LawfulPlan p) where
  abbrev new : Records
  new = loaded p before

  abbrev line : ℕ → List Move
  line s = get_or p.lines s []

  held : (s : ℕ) → s < p.count
      → (x : ℕ) × (y : ℕ) × (get_or new.states s no_state ≡ record { first = x; end = x + length (line s) }) × Stands new.moves x (move_records y (line s)) × Stands new.outcomes y (outs (line s))
  held s h =
      let long = laws.lines in
      let k : s < length p.lines = omega arith in
      let r = line_held p.lines 0 0 s new.moves new.outcomes k (stands_over (move_records 0 (all_moves p.lines)) before.moves) (stands_over (outs (all_moves p.lines)) before.outcomes) in
      let j : s < length (state_records 0 p.lines) = let e = states_long 0 p.lines in omega arith in
      (r.0, r.1, get_or_append_left (state_records 0 p.lines) _ no_state s j ∙ r.2, r.3, r.4)

  count_kept : (s : ℕ) → s < p.count → moves_in (get_or new.states s no_state) ≡ length (line s)
  count_kept s h =
      let r = held s h in
      let few : length (line s) ≤ 16 = laws.belt.moves_few s in
      ap moves_in r.2 ∙ omega arith

  moves_kept : (s : ℕ) → s < p.count → moves_of p.count new (get_or new.states s no_state) ≡ line s
  moves_kept s h =
      let r = held s h in
      let f : ℕ → Move = λ m. move_in p.count new.outcomes (get_or new.moves ((get_or new.states s no_state).first + m) no_move_record) in
      let each : (k : ℕ) → k < length (line s) → get_or (line s) k no_move ≡ f k = λ k l.
      let here = ap (λ (x : StateRecord). get_or new.moves (x.first + k) no_move_record) r.2 ∙ stands_at new.moves r.0 (move_records r.1 (line s)) r.3 k no_move_record (let e = moves_long r.1 (line s) in omega arith) in
      let m = move_held (line s) r.1 k new.outcomes l r.4 in
      sym (ap (move_in p.count new.outcomes) (here ∙ m.1) ∙ move_kept p.count new.outcomes m.0 (get_or (line s) k no_move) (laws.belt.each s k l) m.2) in
      ap (λ (k : ℕ). map f (range_with_len 0 k)) (count_kept s h) ∙ sym (fill_by_all f (line s) (length (line s)) no_move refl each)

  goal_read : (s : ℕ) → (belt_in p.count p.start new).goal s ≡ (plan_belt p).goal s
  goal_read s =
      elim (cases_lt s p.count) [
        | inl h ↦ ap (λ (k : ℕ). ltb s p.count && eqb k 0) (count_kept s h)
        | inr h ↦ (λ i. le-ltb s p.count h i && eqb (moves_in (get_or new.states s no_state)) 0) ∙ sym (λ i. le-ltb s p.count h i && eqb (length (line s)) 0)
      ]

  moves_read : (s : ℕ) → (belt_in p.count p.start new).moves s ≡ (plan_belt p).moves s
  moves_read s =
      elim (cases_lt s p.count) [
        | inl h ↦ cond-true (ltb s p.count) _ _ (lt-ltb s p.count h) ∙ moves_kept s h
        | inr h ↦ cond-false (ltb s p.count) _ _ (le-ltb s p.count h) ∙ sym (laws.belt.still_outside s h)
      ]

  pub loaded_belt : table_belt p.count p.start new ≡ plan_belt p
  loaded_belt =
      let low = laws.belt.some in
      let high = laws.belt.few in
      let less = laws.belt.starts in
      let a : states_in p.count ≡ p.count = omega arith in
      let b : nearest 0 (p.count - 1) p.start ≡ p.start = omega arith in
      ap (λ (n : ℕ). belt_in n p.start new) a
      ∙ (λ i. record { count = p.count; start = b i; goal = λ s. goal_read s i; moves = λ s. moves_read s i })

pub makes_plan : (head : PlanHead) (records : Records) (belt : Belt) → belt ≡ table_belt head.count head.start records → MakesPlan head records belt
makes_plan head records belt made = record {
  of_plan = λ p before laws at is. made ∙ (λ i. table_belt (at i).count (at i).start (is i)) ∙ loaded_belt p before laws;
}

-- a load, from what was read
load_means : (text : List ℕ) (before after : Records) (read : Told Plan) → read_plan text (room_of before) ≡ read → after ≡ records_after read before → Loads text before (and_then read (λ p. answered (head_of p))) after
load_means text before after (answered p) e held =
    let of = accepted_means text (room_of before) p e in
    (p, record { text_of = of; head_is = refl; tables = held; belt = ap (λ (x : Records). table_belt p.count p.start x) held ∙ loaded_belt p before of.lawful })
load_means text before after (refused f) e held =
    record { tables = held; none = λ p of. let yes : read_plan text (room_of before) ≡ answered p = (reads_format text (room_of before)).accepted p of in let z : ◌≡◌ {A = ℕ} 0 1 = cc in omega arith }

pub loads : (text : List ℕ) (before after : Records) (t : Told PlanHead) → t ≡ and_then (read_plan text (room_of before)) (λ p. answered (head_of p)) → after ≡ records_after (read_plan text (room_of before)) before → Loads text before t after
loads text before after t e held = subst (λ (x : Told PlanHead). Loads text before x after) (sym e) (load_means text before after (read_plan text (room_of before)) refl held)
