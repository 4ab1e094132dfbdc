-- A text that is accepted is what its plan writes.
use Rattle.std.proofs.Common.{◌≡◌, ℕ, zero, suc, ◌+◌, ◌-◌, ◌^◌, ◌<◌, ◌≤◌, leb, List, [], ◌∷◌, ◌++◌, length, drop, codes, decimal, sym, refl, ap, ◌∙◌, subst, ⊎_elim, append_assoc, append-nil, arith}
use Rattle.std.proofs.lemmas.Bool.{cases_Bool, cond-true, cond-false, leb-true}
use Rattle.std.proofs.lemmas.Fmt.{decimal_digit}
use Rattle.text.specs.declared.parsed.Parsed.{Parsed}
use Rattle.refusal.specs.Told.{Told, answered, refused, and_then}
use Rattle.std.specs.List.{AllByRecursion}
use Rattle.std.proofs.lemmas.List.Elements.{All-from_recursion}
use Rattle.plant.specs.Belts.{Move, Outcome, no_outcome}
use Rattle.plant.specs.Laws.{LawfulMove, LawfulOutcome}
use Rattle.text.specs.declared.marks.Sign.TheVariants.{Open, Close, Space, Feed}
use Rattle.text.specs.Faults.{bad_byte, longest_text, too_long}
use Rattle.text.specs.Marks.{sign_byte}
use Rattle.text.specs.Numbers.{ranged_at}
use Rattle.text.specs.Words.{is_at, sign_at}
use Rattle.std.proofs.lemmas.List.{drop_all, drop_more}
use Rattle.text.proofs.Spelled.{at_true}
use Rattle.text.proofs.Steps.{same_answer, then_parts}
use Rattle.plan.specs.declared.counts.Counts.{Counts}
use Rattle.plan.specs.declared.records.PlanHead.{PlanHead}
use Rattle.plan.specs.declared.openings.Opening.{Opening}
use Rattle.plan.specs.declared.openings.Opening.TheVariants.{Goal, State}
use Rattle.plan.specs.declared.walk.Limits.{Limits}
use Rattle.plan.specs.Format.{feed, forms_text, outcome_text, move_text, line_text, lines_text, plan_text}
use Rattle.plan.specs.Forms.{also, close_at, cost_at, forms_at, grow_move, grow_outcome, keyword_at, more_at, move_item, open_at, outcome_at, outcome_item, outcomes_at, state_at}
use Rattle.plan.specs.Lines.{body_at, due_at, end_at, front_at, grow_line, head_at, line_at, lines_at, opening_at, opening_word, read_plan, rest_at, unused}
use Rattle.plan.specs.Plans.{Plan}
use Rattle.plan.proofs.Each.{EachFits, LineFits, LineLawful, MoveFits, OutcomeFits}
use Rattle.plan.proofs.Spans.{Spans, due_spans, keyword_spans, open_spans, opening_spans, ranged_spans, sign_spans, spans_then, state_spans}

-- one more was read in front of others
also_parts : {A C : Type 0} (a : A) (more : Told (Parsed (List A))) (g : Parsed (List A)) → also a more ≡ answered g → ((h : Parsed (List A)) → more ≡ answered h → record { value = a ∷ h.value; next = h.next } ≡ g → C) → C
also_parts a more g e go = then_parts more _ g e (λ h e1 e2. go h e1 (same_answer _ g e2))

module _ {A : Type 0} (item : Counts → ℕ → Told (Parsed A)) (grow : Counts → A → Counts) (text : List ℕ) (form : A → List ℕ) (L : A → Type 0) (F : Counts → A → Type 0)
    (sound : (u : Counts) (at : ℕ) (g : Parsed A) → item u at ≡ answered g → Spans text at (form g.value) g.next × L g.value × F u g.value) where
  abbrev Row : ℕ → Counts → ℕ → Parsed (List A) → Type 0
  Row k u at g = Spans text at (forms_text form g.value) g.next × AllByRecursion L g.value × (length g.value ≤ k) × EachFits F grow u g.value

  close_sound : (k : ℕ) (u : Counts) (at : ℕ) (g : Parsed (List A)) → close_at text at ≡ answered g → Row k u at g
  close_sound k u at g e =
      then_parts (sign_at text at Close) _ g e (λ next e1 e2.
      subst (Row k u at) (same_answer _ g e2) (sign_spans text at Close next e1, tt, omega arith, tt))

  -- a space, a form, and what stands behind it
  one_sound : (k : ℕ) (u : Counts) (at first : ℕ) (o : Parsed A) (h : Parsed (List A)) → Spans text at (codes " ") first → item u first ≡ answered o → Row k (grow u o.value) o.next h
      → Row (suc k) u at (record { value = o.value ∷ h.value; next = h.next })
  one_sound k u at first o h space e all =
      let one = sound u first o e in (
        spans_then (codes " ") (form o.value ++ forms_text form h.value) space (spans_then (form o.value) (forms_text form h.value) one.0 all.0),
        (one.1, all.1),
        omega (arith, all.2),
        (one.2, all.3),
      )

  more_sound : (k : ℕ) (u : Counts) (at : ℕ) (g : Parsed (List A)) → more_at item grow k text u at ≡ answered g → Row k u at g
  more_sound zero u at g e = close_sound zero u at g e
  more_sound (suc k) u at g e =
      ⊎_elim
      (λ y. let p = at_true text at (sign_byte Space) y in
      then_parts (item u (at + 1)) _ g (sym (cond-true (is_at text at (sign_byte Space)) _ (close_at text at) y) ∙ e) (λ o e1 k1.
      also_parts o.value (more_at item grow k text (grow u o.value) o.next) g k1 (λ h e2 is.
      subst (Row (suc k) u at) is (one_sound k u at (at + 1) o h (record { stands = drop_more text at 0 p.0 ∙ (λ i. p.1 i ∷ drop (at + 1) text) }) e1 (more_sound k (grow u o.value) o.next h e2)))))
      (λ y. close_sound (suc k) u at g (sym (cond-false (is_at text at (sign_byte Space)) _ (close_at text at) y) ∙ e))
      (cases_Bool (is_at text at (sign_byte Space)))

  pub forms_sound : (u : Counts) (at : ℕ) (g : Parsed (List A)) → forms_at item grow text u at ≡ answered g → Row 16 u at g × (1 ≤ length g.value)
  forms_sound u at g e =
      then_parts (sign_at text at Space) _ g e (λ first e1 k1.
      then_parts (item u first) _ g k1 (λ o e2 k2.
      also_parts o.value (more_at item grow 15 text (grow u o.value) o.next) g k2 (λ h e3 is.
      subst (λ x. Row 16 u at x × (1 ≤ length x.value)) is (
        one_sound 15 u at first o h (sign_spans text at Space first e1) e2 (more_sound 15 (grow u o.value) o.next h e3),
        omega arith,
      ))))

module _ (text : List ℕ) (limits : Limits) (small : limits.states ≤ 4096) where
  outcome_sound : (u : Counts) (at : ℕ) (g : Parsed Outcome) → outcome_item text limits u at ≡ answered g → Spans text at (outcome_text g.value) g.next × LawfulOutcome limits.states g.value × OutcomeFits limits.room u g.value
  outcome_sound u at g e =
      then_parts (outcome_at text limits u at) _ g e (λ o e0 k0.
      then_parts (open_at text at u.outcomes limits.room.outcomes) _ o e0 (λ inside e1 k1.
      then_parts (keyword_at text inside (codes "to")) _ o k1 (λ first e2 k2.
      then_parts (state_at limits.states text first) _ o k2 (λ t e3 k3.
      then_parts (sign_at text t.next Space) _ o k3 (λ second e4 k4.
      then_parts (ranged_at 1 255 text second) _ o k4 (λ w e5 k5.
      then_parts (sign_at text w.next Close) _ o k5 (λ next e6 k6.
      let a = open_spans text at u.outcomes limits.room.outcomes inside e1 in
      let c = state_spans limits.states text first t (omega arith) e3 in
      let f = ranged_spans 1 255 text second w (omega arith) e5 in
      let here = same_answer _ o k6 in
      let there = same_answer _ g k0 in
      let d1 = decimal t.value in
      let d2 = decimal w.value in
      let is : record { value = record { state = t.value; weight = w.value }; next = next } ≡ g = ap (λ x. record { value = record { state = x.value.state; weight = x.value.weight }; next = x.next }) here ∙ there in
      subst (λ (x : Parsed Outcome). Spans text at (outcome_text x.value) x.next × LawfulOutcome limits.states x.value × OutcomeFits limits.room u x.value) is (
        spans_then (codes "(") (codes "to " ++ (d1 ++ (codes " " ++ (d2 ++ codes ")")))) a.0
            (spans_then (codes "to ") (d1 ++ (codes " " ++ (d2 ++ codes ")"))) (keyword_spans text inside (codes "to") first e2)
            (spans_then d1 (codes " " ++ (d2 ++ codes ")")) c.0
            (spans_then (codes " ") (d2 ++ codes ")") (sign_spans text t.next Space second e4)
            (spans_then d2 (codes ")") f.0 (sign_spans text w.next Close next e6))))),
        record { inside = c.1; weighs = f.1; light = f.2 },
        a.1,
      ))))))))

  move_sound : (u : Counts) (at : ℕ) (g : Parsed Move) → move_item text limits u at ≡ answered g → Spans text at (move_text g.value) g.next × LawfulMove limits.states g.value × MoveFits limits.room u g.value
  move_sound u at g e =
      then_parts (cost_at text limits u at) _ g e (λ front e0 k0.
      then_parts (outcomes_at text limits u front.next) _ g k0 (λ os e4 k4.
      then_parts (open_at text at u.moves limits.room.moves) _ front e0 (λ inside e1 k1.
      then_parts (keyword_at text inside (codes "move")) _ front k1 (λ first e2 k2.
      then_parts (ranged_at 1 1000 text first) _ front k2 (λ c e3 k3.
      let a = open_spans text at u.moves limits.room.moves inside e1 in
      let r = ranged_spans 1 1000 text first c (omega arith) e3 in
      let o = forms_sound (outcome_item text limits) grow_outcome text outcome_text (LawfulOutcome limits.states) (OutcomeFits limits.room) outcome_sound u front.next os e4 in
      let here = same_answer _ front k3 in
      let d = decimal c.value in
      let row = forms_text outcome_text os.value in
      let next-is : c.next ≡ front.next = ap (λ x. x.next) here in
      let body : Spans text c.next row os.next = subst (λ (j : ℕ). Spans text j row os.next) (sym next-is) o.0.0 in
      let is : record { value = record { cost = c.value; outcomes = os.value }; next = os.next } ≡ g = ap (λ x. record { value = record { cost = x.value; outcomes = os.value }; next = os.next }) here ∙ same_answer _ g k4 in
      subst (λ (x : Parsed Move). Spans text at (move_text x.value) x.next × LawfulMove limits.states x.value × MoveFits limits.room u x.value) is (
        spans_then (codes "(") (codes "move " ++ (d ++ row)) a.0 (spans_then (codes "move ") (d ++ row) (keyword_spans text inside (codes "move") first e2) (spans_then d row r.0 body)),
        record { costs = r.1; cheap = r.2; some = o.1; few = o.0.2; each = λ k h. All-from_recursion (LawfulOutcome limits.states) os.value o.0.1 k no_outcome h },
        (a.1, o.0.3),
      ))))))

  -- a line up to the number of its state
  front_sound : (u : Counts) (at : ℕ) (f : Parsed Opening) → u.states < 2 ^ 64 - 1 → front_at text limits u at ≡ answered f
      → Spans text at (codes "(" ++ (opening_word f.value ++ (codes " " ++ decimal u.states))) f.next × (u.states < limits.room.states)
  front_sound u at f low e =
      then_parts (open_at text at u.states limits.room.states) _ f e (λ inside e1 k1.
      then_parts (opening_at text inside) _ f k1 (λ o e2 k2.
      then_parts (sign_at text o.next Space) _ f k2 (λ first e3 k3.
      then_parts (due_at u.states text first) _ f k3 (λ n e4 k4.
      let a = open_spans text at u.states limits.room.states inside e1 in
      let d = decimal u.states in
      subst (λ (x : Parsed Opening). Spans text at (codes "(" ++ (opening_word x.value ++ (codes " " ++ d))) x.next × (u.states < limits.room.states)) (same_answer _ f k4) (
        spans_then (codes "(") (opening_word o.value ++ (codes " " ++ d)) a.0
            (spans_then (opening_word o.value) (codes " " ++ d) (opening_spans text inside o e2)
            (spans_then (codes " ") d (sign_spans text o.next Space first e3) (due_spans u.states text first n low e4))),
        a.1,
      )))))

  -- what stands behind the number of a state
  abbrev Body : Opening → Counts → ℕ → Parsed (List Move) → Type 0
  Body Goal u at g = Spans text at (codes ")") g.next × (g.value ≡ [])
  Body State u at g = Spans text at (forms_text move_text g.value) g.next × (1 ≤ length g.value) × LineLawful limits.states g.value × EachFits (MoveFits limits.room) grow_move u g.value

  body_sound : (w : Opening) (u : Counts) (at : ℕ) (g : Parsed (List Move)) → body_at w text limits u at ≡ answered g → Body w u at g
  body_sound Goal u at g e =
      then_parts (sign_at text at Close) _ g e (λ next e1 e2. subst (Body Goal u at) (same_answer _ g e2) (sign_spans text at Close next e1, refl))
  body_sound State u at g e =
      let a = forms_sound (move_item text limits) grow_move text move_text (LawfulMove limits.states) (MoveFits limits.room) move_sound u at g e in
      (a.0.0, a.1, (a.0.2, a.0.1), a.0.3)

  abbrev Line : Counts → ℕ → Parsed (List Move) → Type 0
  Line u at g = Spans text at (line_text u.states g.value) g.next × LineLawful limits.states g.value × LineFits limits.room u g.value

  -- a front and a body make a line
  line_joined : (w : Opening) (u : Counts) (at mid next last : ℕ) (l : List Move) → u.states < limits.room.states
      → Spans text at (codes "(" ++ (opening_word w ++ (codes " " ++ decimal u.states))) mid → Body w u mid (record { value = l; next = next }) → Spans text next feed last → Line u at (record { value = l; next = last })
  line_joined Goal u at mid next last [] free front body end =
      let d = decimal u.states in
      (subst (λ (l : List ℕ). Spans text at l last) (append_assoc (codes "(goal ") d (codes ")" ++ feed)) (spans_then (codes "(goal " ++ d) (codes ")" ++ feed) front (spans_then (codes ")") feed body.0 end)), (omega arith, tt), (free, tt))
  line_joined Goal u at mid next last (m ∷ ms) free front body end = let none = body.1 in absurd (let z : ◌≡◌ {A = ℕ} 0 1 = cc in omega arith)
  line_joined State u at mid next last [] free front body end = absurd (omega (arith, body.1))
  line_joined State u at mid next last (m ∷ ms) free front body end =
      let d = decimal u.states in
      let row = forms_text move_text (m ∷ ms) in
      (subst (λ (l : List ℕ). Spans text at l last) (append_assoc (codes "(state ") d (row ++ feed)) (spans_then (codes "(state " ++ d) (row ++ feed) front (spans_then row feed body.0 end)), body.2, (free, body.3))

  line_sound : (u : Counts) (at : ℕ) (g : Parsed (List Move)) → u.states < 2 ^ 64 - 1 → line_at text limits u at ≡ answered g → Line u at g
  line_sound u at g low e =
      then_parts (front_at text limits u at) _ g e (λ f e1 k1.
      then_parts (body_at f.value text limits u f.next) _ g k1 (λ b e2 k2.
      then_parts (sign_at text b.next Feed) _ g k2 (λ next e3 k3.
      let a = front_sound u at f low e1 in
      subst (Line u at) (same_answer _ g k3) (line_joined f.value u at f.next b.next next b.value a.1 a.0 (body_sound f.value u f.next b e2) (sign_spans text b.next Feed next e3)))))

  abbrev Lines : ℕ → Counts → ℕ → Parsed (List (List Move)) → Type 0
  Lines k u at g = Spans text at (lines_text u.states g.value) g.next × (length g.value ≡ k) × AllByRecursion (LineLawful limits.states) g.value × EachFits (LineFits limits.room) grow_line u g.value

  pub lines_sound : (k : ℕ) (u : Counts) (at : ℕ) (g : Parsed (List (List Move))) → u.states + k ≤ 4096 → lines_at k text limits u at ≡ answered g → Lines k u at g
  lines_sound zero u at g low e = subst (Lines zero u at) (same_answer _ g e) (record { stands = refl }, refl, tt, tt)
  lines_sound (suc k) u at g low e =
      then_parts (line_at text limits u at) _ g e (λ l e1 k1.
      also_parts l.value (lines_at k text limits (grow_line u l.value) l.next) g k1 (λ h e2 is.
      let one = line_sound u at l (omega arith) e1 in
      let all = lines_sound k (grow_line u l.value) l.next h (omega arith) e2 in
      subst (Lines (suc k) u at) is (
        spans_then (line_text u.states l.value) (lines_text (u.states + 1) h.value) one.0 all.0,
        ap suc all.1,
        (one.1, all.2),
        (one.2, all.3),
      )))

-- the first line
abbrev First : List ℕ → Parsed PlanHead → Type 0
First text h = Spans text 0 (codes "(plan 1 " ++ (decimal h.value.count ++ (codes " " ++ (decimal h.value.start ++ (codes ")" ++ feed))))) h.next × (1 ≤ h.value.count) × (h.value.count ≤ 4096) × (h.value.start < h.value.count)

head_sound : (text : List ℕ) (h : Parsed PlanHead) → head_at text ≡ answered h → First text h
head_sound text h e =
    then_parts (sign_at text 0 Open) _ h e (λ inside e1 k1.
    then_parts (keyword_at text inside (codes "plan")) _ h k1 (λ first e2 k2.
    then_parts (ranged_at 1 1 text first) _ h k2 (λ version e3 k3.
    then_parts (sign_at text version.next Space) _ h k3 (λ second e4 k4.
    then_parts (ranged_at 1 4096 text second) _ h k4 (λ count e5 k5.
    then_parts (sign_at text count.next Space) _ h k5 (λ third e6 k6.
    then_parts (state_at count.value text third) _ h k6 (λ start e7 k7.
    then_parts (sign_at text start.next Close) _ h k7 (λ close e8 k8.
    then_parts (sign_at text close Feed) _ h k8 (λ next e9 k9.
    let v = ranged_spans 1 1 text first version (omega arith) e3 in
    let c = ranged_spans 1 4096 text second count (omega arith) e5 in
    let s = state_spans count.value text third start (omega (arith, c.2)) e7 in
    let one : version.value ≡ 1 = omega (arith, v.1, v.2) in
    let digit : Spans text first (codes "1") version.next = subst (λ (w : List ℕ). Spans text first w version.next) (ap decimal one ∙ decimal_digit 1 (omega arith)) v.0 in
    let n = decimal count.value in
    let t = decimal start.value in
    let x5 = codes ")" ++ feed in
    let x4 = t ++ x5 in
    let x3 = codes " " ++ x4 in
    let x2 = n ++ x3 in
    subst (First text) (same_answer _ h k9) (
      spans_then (codes "(") (codes "plan 1 " ++ x2) (sign_spans text 0 Open inside e1)
          (spans_then (codes "plan ") (codes "1 " ++ x2) (keyword_spans text inside (codes "plan") first e2)
          (spans_then (codes "1") (codes " " ++ x2) digit
          (spans_then (codes " ") x2 (sign_spans text version.next Space second e4)
          (spans_then n x3 c.0
          (spans_then (codes " ") x4 (sign_spans text count.next Space third e6)
          (spans_then t x5 s.0
          (spans_then (codes ")") feed (sign_spans text start.next Close close e8) (sign_spans text close Feed next e9)))))))),
      c.1,
      c.2,
      s.1,
    ))))))))))

end_parts : (text : List ℕ) (q p : Plan) (at : ℕ) → end_at text q at ≡ answered p → (q ≡ p) × (length text ≤ at)
end_parts text q p at e =
    ⊎_elim
    (λ y. (same_answer q p (sym (cond-true (leb (length text) at) (answered q) (refused (bad_byte at)) y) ∙ e), leb-true (length text) at y))
    (λ y. let f = cond-false (leb (length text) at) (answered q) (refused (bad_byte at)) y in absurd (let z : ◌≡◌ {A = ℕ} 0 1 = cc in omega arith))
    (cases_Bool (leb (length text) at))

-- the parts of what an accepted text has to keep
abbrev pub Kept : List ℕ → Counts → Plan → Type 0
Kept text room p = (text ≡ plan_text p) × (length text ≤ longest_text) × (1 ≤ p.count) × (p.count ≤ 4096) × (p.start < p.count) × (length p.lines ≡ p.count)
    × AllByRecursion (LineLawful p.count) p.lines × EachFits (LineFits room) grow_line unused p.lines

pub plan_sound : (text : List ℕ) (room : Counts) (p : Plan) → read_plan text room ≡ answered p → Kept text room p
plan_sound text room p e =
    ⊎_elim
    (λ y. then_parts (head_at text) (rest_at text room) p (sym (cond-true (leb (length text) longest_text) (and_then (head_at text) (rest_at text room)) (refused too_long) y) ∙ e) (λ h e1 k1.
    then_parts (lines_at h.value.count text (record { states = h.value.count; room = room }) unused h.next) _ p k1 (λ g e2 k2.
    let a = head_sound text h e1 in
    let b = lines_sound text (record { states = h.value.count; room = room }) a.2 h.value.count unused h.next g (omega (arith, a.2)) e2 in
    let q = end_parts text _ p g.next k2 in
    let last : drop g.next text ≡ [] = drop_all g.next text q.1 in
    let front = codes "(plan 1 " ++ (decimal h.value.count ++ (codes " " ++ (decimal h.value.start ++ (codes ")" ++ feed)))) in
    let all : drop h.next text ≡ lines_text 0 g.value = b.0.stands ∙ ap (λ (l : List ℕ). lines_text 0 g.value ++ l) last ∙ append-nil (lines_text 0 g.value) in
    subst (Kept text room) q.0 (
      a.0.stands ∙ ap (λ (l : List ℕ). front ++ l) all ∙ simp append_assoc,
      leb-true (length text) longest_text y,
      a.1,
      a.2,
      a.3,
      b.1,
      b.2,
      b.3,
    ))))
    (λ y. let f = cond-false (leb (length text) longest_text) (and_then (head_at text) (rest_at text room)) (refused too_long) y in absurd (let z : ◌≡◌ {A = ℕ} 0 1 = cc in omega arith))
    (cases_Bool (leb (length text) longest_text))
