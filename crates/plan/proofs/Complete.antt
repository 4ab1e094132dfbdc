-- What a plan within the limits writes is read as that plan.
use Rattle.std.proofs.Common.{◌≡◌, ℕ, zero, suc, ◌+◌, ◌-◌, ◌^◌, ◌<◌, ◌≤◌, eqb, ltb, leb, List, [], ◌∷◌, ◌++◌, length, drop, codes, decimal, sym, refl, ap, ◌∙◌, append_assoc, append-nil, arith, length-drop}
use Rattle.std.proofs.lemmas.Bool.{cond-true, cond-false, eq-eqb, le-leb, lt-ltb}
use Rattle.std.proofs.lemmas.Fmt.{decimal_digit}
use Rattle.text.specs.declared.parsed.Parsed.{Parsed}
use Rattle.refusal.specs.Told.{Told, answered}
use Rattle.std.specs.List.{AllByRecursion}
use Rattle.std.proofs.lemmas.List.Elements.{All-from_get_or, recursion_from_All}
use Rattle.plant.specs.Belts.{Move, Outcome, no_outcome}
use Rattle.plant.specs.Laws.{LawfulMove, LawfulOutcome}
use Rattle.text.specs.declared.marks.Sign.{Sign}
use Rattle.text.specs.declared.marks.Sign.TheVariants.{Open, Close, Space, Feed}
use Rattle.text.specs.Faults.{longest_text}
use Rattle.text.specs.Marks.{sign_byte}
use Rattle.text.specs.Numbers.{run}
use Rattle.text.specs.Words.{is_at, sign_at}
use Rattle.text.proofs.Steps.{then_answered}
use Rattle.text.proofs.Written.{at_front, number_back, other_byte, ranged_back, word_back}
use Rattle.plan.specs.declared.counts.Counts.{Counts}
use Rattle.plan.specs.declared.openings.Opening.{Opening}
use Rattle.plan.specs.declared.openings.Opening.TheVariants.{Goal, State}
use Rattle.plan.specs.declared.walk.Limits.{Limits}
use Rattle.plan.specs.Format.{feed, forms_text, outcome_text, move_text, line_text, lines_text, plan_text}
use Rattle.plan.specs.Forms.{also, below, close_at, cost_at, forms_at, grow_move, grow_outcome, keyword_at, more_at, move_item, open_at, outcome_at, outcome_item, state_at}
use Rattle.plan.specs.Lines.{body_at, due_at, front_at, grow_line, head_at, line_at, lines_at, opening_at, opening_word, read_plan, rest_at, unused}
use Rattle.plan.specs.Plans.{Plan}
use Rattle.plan.proofs.Each.{EachFits, LineFits, LineLawful, MoveFits, OutcomeFits}

sign_back : (text : List ℕ) (at : ℕ) (s : Sign) (rest : List ℕ) → drop at text ≡ sign_byte s ∷ rest → (next : ℕ) × (sign_at text at s ≡ answered next) × (drop next text ≡ rest)
sign_back text at s rest e = word_back text at (sign_byte s ∷ []) rest e

keyword_back : (text : List ℕ) (at : ℕ) (word rest : List ℕ) → drop at text ≡ word ++ (32 ∷ rest) → (next : ℕ) × (keyword_at text at word ≡ answered next) × (drop next text ≡ rest)
keyword_back text at word rest e =
    let a = word_back text at word (32 ∷ rest) e in
    let b = sign_back text a.0 Space rest a.2 in
    (b.0, then_answered _ a.1 ∙ b.1, b.2)

state_back : (states : ℕ) (text : List ℕ) (at v : ℕ) (rest : List ℕ) → states < 2 ^ 64 - 1 → v < states → run rest ≡ 0 → drop at text ≡ decimal v ++ rest
    → (next : ℕ) × (state_at states text at ≡ answered (record { value = v; next = next })) × (drop next text ≡ rest)
state_back states text at v rest small less z e =
    let p = number_back text at v rest (omega arith) z e in
    (p.0, then_answered (below states at) p.1 ∙ cond-true (ltb v states) _ _ (lt-ltb v states less), p.2)

open_back : (text : List ℕ) (at used room : ℕ) (rest : List ℕ) → used < room → drop at text ≡ 40 ∷ rest → (next : ℕ) × (open_at text at used room ≡ answered next) × (drop next text ≡ rest)
open_back text at used room rest free e =
    let p = sign_back text at Open rest e in
    (p.0, then_answered _ p.1 ∙ cond-true (ltb used room) _ _ (lt-ltb used room free), p.2)

module _ {A : Type 0} (item : Counts → ℕ → Told (Parsed A)) (grow : Counts → A → Counts) (text : List ℕ) (form : A → List ℕ) (L : A → Type 0) (F : Counts → A → Type 0)
    (back : (u : Counts) (a : A) (at : ℕ) (rest : List ℕ) → L a → F u a → drop at text ≡ form a ++ rest → (next : ℕ) × (item u at ≡ answered (record { value = a; next = next })) × (drop next text ≡ rest)) where
  close_back : (at : ℕ) (rest : List ℕ) → drop at text ≡ codes ")" ++ rest → (next : ℕ) × (close_at {A = A} text at ≡ answered (record { value = []; next = next })) × (drop next text ≡ rest)
  close_back at rest e = let p = sign_back text at Close rest e in (p.0, then_answered _ p.1, p.2)

  more_back : (k : ℕ) (u : Counts) (xs : List A) (at : ℕ) (rest : List ℕ) → AllByRecursion L xs → EachFits F grow u xs → length xs ≤ k → drop at text ≡ forms_text form xs ++ rest
      → (next : ℕ) × (more_at item grow k text u at ≡ answered (record { value = xs; next = next })) × (drop next text ≡ rest)
  more_back zero u [] at rest ok fit few e = close_back at rest e
  more_back zero u (x ∷ xs) at rest ok fit few e = absurd (omega arith)
  more_back (suc k) u [] at rest ok fit few e =
      let p = close_back at rest e in
      (p.0, cond-false (is_at text at (sign_byte Space)) _ (close_at text at) (other_byte text at 41 32 rest e (λ z. omega arith)) ∙ p.1, p.2)
  more_back (suc k) u (x ∷ xs) at rest ok fit few e =
      let sp = at_front text at 32 ((form x ++ forms_text form xs) ++ rest) e in
      let p = back u x (at + 1) (forms_text form xs ++ rest) ok.0 fit.0 (sp.1 ∙ append_assoc (form x) (forms_text form xs) rest) in
      let q = more_back k (grow u x) xs p.0 rest ok.1 fit.1 (omega arith) p.2 in
      (q.0, cond-true (is_at text at (sign_byte Space)) _ (close_at text at) sp.0 ∙ then_answered _ p.1 ∙ ap (also x) q.1, q.2)

  pub forms_back : (u : Counts) (xs : List A) (at : ℕ) (rest : List ℕ) → AllByRecursion L xs → EachFits F grow u xs → 1 ≤ length xs → length xs ≤ 16 → drop at text ≡ forms_text form xs ++ rest
      → (next : ℕ) × (forms_at item grow text u at ≡ answered (record { value = xs; next = next })) × (drop next text ≡ rest)
  forms_back u [] at rest ok fit some few e = absurd (omega arith)
  forms_back u (x ∷ xs) at rest ok fit some few e =
      let sp = sign_back text at Space ((form x ++ forms_text form xs) ++ rest) e in
      let p = back u x sp.0 (forms_text form xs ++ rest) ok.0 fit.0 (sp.2 ∙ append_assoc (form x) (forms_text form xs) rest) in
      let q = more_back 15 (grow u x) xs p.0 rest ok.1 fit.1 (omega arith) p.2 in
      (q.0, then_answered _ sp.1 ∙ then_answered _ p.1 ∙ ap (also x) q.1, q.2)

-- no digit stands in front of a row of forms
no_digit : {A : Type 0} (form : A → List ℕ) (xs : List A) (rest : List ℕ) → run (forms_text form xs ++ rest) ≡ 0
no_digit form [] rest = refl
no_digit form (x ∷ xs) rest = refl

module _ (text : List ℕ) (limits : Limits) (small : limits.states ≤ 4096) where
  outcome_back : (u : Counts) (o : Outcome) (at : ℕ) (rest : List ℕ) → LawfulOutcome limits.states o → OutcomeFits limits.room u o → drop at text ≡ outcome_text o ++ rest
      → (next : ℕ) × (outcome_item text limits u at ≡ answered (record { value = o; next = next })) × (drop next text ≡ rest)
  outcome_back u o at rest ok free e =
      let d1 = decimal o.state in
      let d2 = decimal o.weight in
      let a = open_back text at u.outcomes limits.room.outcomes _ free e in
      let b = keyword_back text a.0 (codes "to") ((d1 ++ (codes " " ++ (d2 ++ codes ")"))) ++ rest) a.2 in
      let c = state_back limits.states text b.0 o.state (codes " " ++ ((d2 ++ codes ")") ++ rest)) (omega arith) ok.inside refl (b.2 ∙ append_assoc d1 (codes " " ++ (d2 ++ codes ")")) rest) in
      let d = sign_back text c.0 Space ((d2 ++ codes ")") ++ rest) c.2 in
      let f = ranged_back 1 255 text d.0 o.weight (codes ")" ++ rest) (omega arith) ok.weighs ok.light refl (d.2 ∙ append_assoc d2 (codes ")") rest) in
      let g = sign_back text f.0 Close rest f.2 in
      let whole : outcome_at text limits u at ≡ answered (record { value = record { state = o.state; weight = o.weight }; next = g.0 }) =
      then_answered _ a.1 ∙ then_answered _ b.1 ∙ then_answered _ c.1 ∙ then_answered _ d.1 ∙ then_answered _ f.1 ∙ then_answered _ g.1 in
      (g.0, then_answered _ whole, g.2)

  move_back : (u : Counts) (m : Move) (at : ℕ) (rest : List ℕ) → LawfulMove limits.states m → MoveFits limits.room u m → drop at text ≡ move_text m ++ rest
      → (next : ℕ) × (move_item text limits u at ≡ answered (record { value = m; next = next })) × (drop next text ≡ rest)
  move_back u m at rest ok fit e =
      let d = decimal m.cost in
      let os = forms_text outcome_text m.outcomes in
      let a = open_back text at u.moves limits.room.moves _ fit.0 e in
      let b = keyword_back text a.0 (codes "move") ((d ++ os) ++ rest) a.2 in
      let c = ranged_back 1 1000 text b.0 m.cost (os ++ rest) (omega arith) ok.costs ok.cheap (no_digit outcome_text m.outcomes rest) (b.2 ∙ append_assoc d os rest) in
      let front : cost_at text limits u at ≡ answered (record { value = m.cost; next = c.0 }) = then_answered _ a.1 ∙ then_answered _ b.1 ∙ then_answered _ c.1 in
      let o = forms_back (outcome_item text limits) grow_outcome text outcome_text (LawfulOutcome limits.states) (OutcomeFits limits.room) outcome_back u m.outcomes c.0 rest
      (recursion_from_All (LawfulOutcome limits.states) m.outcomes (All-from_get_or (LawfulOutcome limits.states) m.outcomes no_outcome ok.each)) fit.1 ok.some ok.few c.2 in
      (o.0, then_answered _ front ∙ then_answered _ o.1, o.2)

  due_back : (due : ℕ) (at : ℕ) (rest : List ℕ) → due < 2 ^ 64 - 1 → run rest ≡ 0 → drop at text ≡ decimal due ++ rest
      → (next : ℕ) × (due_at due text at ≡ answered (record { value = due; next = next })) × (drop next text ≡ rest)
  due_back due at rest low z e =
      let p = number_back text at due rest low z e in
      (p.0, then_answered _ p.1 ∙ cond-true (eqb due due) _ _ (eq-eqb due due refl), p.2)

  opening_back : (w : Opening) (at : ℕ) (rest : List ℕ) → drop at text ≡ opening_word w ++ rest → (next : ℕ) × (opening_at text at ≡ answered (record { value = w; next = next })) × (drop next text ≡ rest)
  opening_back Goal at rest e =
      let p = word_back text at (codes "goal") rest e in
      (p.0, cond-false (is_at text at 115) _ _ (other_byte text at 103 115 _ e (λ z. omega arith)) ∙ then_answered _ p.1, p.2)
  opening_back State at rest e =
      let p = word_back text at (codes "state") rest e in
      (p.0, cond-true (is_at text at 115) _ _ (at_front text at 115 _ e).0 ∙ then_answered _ p.1, p.2)

  -- a line up to the number of its state
  front_back : (w : Opening) (u : Counts) (at : ℕ) (rest : List ℕ) → u.states < 2 ^ 64 - 1 → u.states < limits.room.states → run rest ≡ 0
      → drop at text ≡ 40 ∷ (opening_word w ++ (32 ∷ (decimal u.states ++ rest))) → (next : ℕ) × (front_at text limits u at ≡ answered (record { value = w; next = next })) × (drop next text ≡ rest)
  front_back w u at rest low free z e =
      let a = open_back text at u.states limits.room.states _ free e in
      let b = opening_back w a.0 (32 ∷ (decimal u.states ++ rest)) a.2 in
      let c = sign_back text b.0 Space (decimal u.states ++ rest) b.2 in
      let d = due_back u.states c.0 rest low z c.2 in
      (d.0, then_answered _ a.1 ∙ then_answered _ b.1 ∙ then_answered _ c.1 ∙ then_answered _ d.1, d.2)

  line_back : (u : Counts) (l : List Move) (at : ℕ) (rest : List ℕ) → u.states < 2 ^ 64 - 1 → LineLawful limits.states l → LineFits limits.room u l → drop at text ≡ line_text u.states l ++ rest
      → (next : ℕ) × (line_at text limits u at ≡ answered (record { value = l; next = next })) × (drop next text ≡ rest)
  line_back u [] at rest low ok fit e =
      let d = decimal u.states in
      let a = front_back Goal u at (codes ")" ++ (feed ++ rest)) low fit.0 refl (e ∙ ap (λ (x : List ℕ). codes "(goal " ++ x) (append_assoc d (codes ")" ++ feed) rest)) in
      let b = sign_back text a.0 Close (feed ++ rest) a.2 in
      let c = sign_back text b.0 Feed rest b.2 in
      let body : body_at Goal text limits u a.0 ≡ answered (record { value = []; next = b.0 }) = then_answered _ b.1 in
      (c.0, then_answered _ a.1 ∙ then_answered _ body ∙ then_answered _ c.1, c.2)
  line_back u (m ∷ ms) at rest low ok fit e =
      let d = decimal u.states in
      let row = forms_text move_text (m ∷ ms) in
      let a = front_back State u at (row ++ (feed ++ rest)) low fit.0 refl (e ∙ ap (λ (x : List ℕ). codes "(state " ++ x) (append_assoc d (row ++ feed) rest ∙ ap (λ (x : List ℕ). d ++ x) (append_assoc row feed rest))) in
      let b = forms_back (move_item text limits) grow_move text move_text (LawfulMove limits.states) (MoveFits limits.room) move_back u (m ∷ ms) a.0 (feed ++ rest) ok.1 fit.1 (omega arith) ok.0 a.2 in
      let c = sign_back text b.0 Feed rest b.2 in
      (c.0, then_answered _ a.1 ∙ then_answered {t = body_at State text limits u a.0} _ b.1 ∙ then_answered _ c.1, c.2)

  pub lines_back : (k : ℕ) (u : Counts) (ls : List (List Move)) (at : ℕ) (rest : List ℕ) → u.states + k ≤ 4096 → length ls ≡ k → AllByRecursion (LineLawful limits.states) ls → EachFits (LineFits limits.room) grow_line u ls
      → drop at text ≡ lines_text u.states ls ++ rest → (next : ℕ) × (lines_at k text limits u at ≡ answered (record { value = ls; next = next })) × (drop next text ≡ rest)
  lines_back zero u [] at rest low long ok fit e = (at, refl, e)
  lines_back zero u (l ∷ ls) at rest low long ok fit e = absurd (omega arith)
  lines_back (suc k) u [] at rest low long ok fit e = absurd (omega arith)
  lines_back (suc k) u (l ∷ ls) at rest low long ok fit e =
      let p = line_back u l at (lines_text (u.states + 1) ls ++ rest) (omega arith) ok.0 fit.0 (e ∙ append_assoc (line_text u.states l) (lines_text (u.states + 1) ls) rest) in
      let q = lines_back k (grow_line u l) ls p.0 rest (omega arith) (omega arith) ok.1 fit.1 p.2 in
      (q.0, then_answered _ p.1 ∙ ap (also l) q.1, q.2)

head_back : (text : List ℕ) (count start : ℕ) (rest : List ℕ) → 1 ≤ count → count ≤ 4096 → start < count
    → text ≡ codes "(plan 1 " ++ (decimal count ++ (codes " " ++ (decimal start ++ (codes ")" ++ (feed ++ rest)))))
    → (next : ℕ) × (head_at text ≡ answered (record { value = record { count = count; start = start }; next = next })) × (drop next text ≡ rest)
head_back text count start rest some few less e =
    let one : decimal 1 ≡ codes "1" = decimal_digit 1 (omega arith) in
    let x5 = codes ")" ++ (feed ++ rest) in
    let x3 = codes " " ++ (decimal start ++ x5) in
    let x2 = decimal count ++ x3 in
    let a = sign_back text 0 Open (codes "plan 1 " ++ x2) e in
    let b = keyword_back text a.0 (codes "plan") (codes "1 " ++ x2) a.2 in
    let v = ranged_back 1 1 text b.0 1 (32 ∷ x2) (omega arith) (omega arith) (omega arith) refl (b.2 ∙ ap (λ (l : List ℕ). l ++ (32 ∷ x2)) (sym one)) in
    let c = sign_back text v.0 Space x2 v.2 in
    let n = ranged_back 1 4096 text c.0 count x3 (omega arith) some few refl c.2 in
    let d = sign_back text n.0 Space (decimal start ++ x5) n.2 in
    let s = state_back count text d.0 start x5 (omega arith) less refl d.2 in
    let f = sign_back text s.0 Close (feed ++ rest) s.2 in
    let g = sign_back text f.0 Feed rest f.2 in (
      g.0,
      then_answered _ a.1 ∙ then_answered _ b.1 ∙ then_answered _ v.1 ∙ then_answered _ c.1 ∙ then_answered _ n.1 ∙ then_answered _ d.1 ∙ then_answered _ s.1 ∙ then_answered _ f.1 ∙ then_answered _ g.1,
      g.2,
    )

past_end : (text : List ℕ) (at : ℕ) → drop at text ≡ [] → length text ≤ at
past_end text at e = let f = ap length e in let g = length-drop at text in omega arith

pub plan_complete : (p : Plan) (room : Counts) → length (plan_text p) ≤ longest_text → 1 ≤ p.count → p.count ≤ 4096 → p.start < p.count → length p.lines ≡ p.count
    → AllByRecursion (LineLawful p.count) p.lines → EachFits (LineFits room) grow_line unused p.lines → read_plan (plan_text p) room ≡ answered p
plan_complete p room short some few less long ok fit =
    let text = plan_text p in
    let limits : Limits = record { states = p.count; room = room } in
    let h = head_back text p.count p.start (lines_text 0 p.lines) some few less refl in
    let l = lines_back text limits few p.count unused p.lines h.0 [] (omega arith) long ok fit (h.2 ∙ sym (append-nil (lines_text 0 p.lines))) in
    cond-true (leb (length text) longest_text) _ _ (le-leb (length text) longest_text short)
    ∙ then_answered (rest_at text room) h.1
    ∙ then_answered _ l.1
    ∙ cond-true (leb (length text) l.0) _ _ (le-leb (length text) l.0 (past_end text l.0 l.2))
