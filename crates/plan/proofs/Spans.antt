-- What is read at a place is what the text writes there: the parts of a form.
use Rattle.std.proofs.Common.{◌≡◌, ℕ, ◌-◌, ◌^◌, ◌<◌, ◌≤◌, eqb, ltb, List, [], ◌∷◌, ◌++◌, drop, codes, decimal, sym, ap, ◌∙◌, subst, ⊎_elim, append_assoc, arith}
use Rattle.std.proofs.lemmas.Bool.{cases_Bool, cond-true, cond-false, eqb-true, ltb-true}
use Rattle.refusal.specs.Told.{answered, refused}
use Rattle.text.specs.declared.marks.Sign.{Sign}
use Rattle.text.specs.declared.marks.Sign.TheVariants.{Open, Space}
use Rattle.text.specs.declared.parsed.Parsed.{Parsed}
use Rattle.text.specs.Marks.{sign_byte}
use Rattle.text.specs.Numbers.{number_at, ranged_at}
use Rattle.text.specs.Words.{is_at, sign_at, word_at}
use Rattle.text.proofs.Spelled.{number_sound, ranged_sound, word_sound}
use Rattle.text.proofs.Steps.{same_answer, then_parts}
use Rattle.plan.specs.declared.openings.Opening.{Opening}
use Rattle.plan.specs.declared.openings.Opening.TheVariants.{Goal, State}
use Rattle.plan.specs.Faults.{bad_state, table_full}
use Rattle.plan.specs.Forms.{below, keyword_at, open_at, state_at}
use Rattle.plan.specs.Lines.{due_at, opened, opening_at, opening_word}

-- the bytes ws stand in the text from one place to another
pub record Spans (text : List ℕ) (at : ℕ) (ws : List ℕ) (next : ℕ) : Type 0 where
  pub stands : drop at text ≡ ws ++ drop next text

word_spans : (text : List ℕ) (at : ℕ) (ws : List ℕ) (next : ℕ) → word_at text at ws ≡ answered next → Spans text at ws next
word_spans text at ws next e = record { stands = word_sound text at ws next e }

-- one part and then another
pub spans_then : {text : List ℕ} {at mid next : ℕ} (ws vs : List ℕ) → Spans text at ws mid → Spans text mid vs next → Spans text at (ws ++ vs) next
spans_then {text} {at} {mid} {next} ws vs e f = record { stands = e.stands ∙ ap (λ (l : List ℕ). ws ++ l) f.stands ∙ sym (append_assoc ws vs (drop next text)) }

pub sign_spans : (text : List ℕ) (at : ℕ) (s : Sign) (next : ℕ) → sign_at text at s ≡ answered next → Spans text at (sign_byte s ∷ []) next
sign_spans text at s next e = word_spans text at (sign_byte s ∷ []) next e

pub keyword_spans : (text : List ℕ) (at : ℕ) (word : List ℕ) (next : ℕ) → keyword_at text at word ≡ answered next → Spans text at (word ++ codes " ") next
keyword_spans text at word next e =
    then_parts (word_at text at word) _ next e (λ end e1 e2.
    spans_then word (codes " ") (word_spans text at word end e1) (sign_spans text end Space next e2))

below_parts : (states at : ℕ) (n w : Parsed ℕ) → below states at n ≡ answered w → (n ≡ w) × (w.value < states)
below_parts states at n w e =
    ⊎_elim
    (λ y. let same : n ≡ w = same_answer n w (sym (cond-true (ltb n.value states) (answered n) (refused (bad_state at)) y) ∙ e) in
    (same, subst (λ (m : Parsed ℕ). m.value < states) same (ltb-true n.value states y)))
    (λ y. let f = cond-false (ltb n.value states) (answered n) (refused (bad_state at)) y in absurd (let z : ◌≡◌ {A = ℕ} 0 1 = cc in omega arith))
    (cases_Bool (ltb n.value states))

pub state_spans : (states : ℕ) (text : List ℕ) (at : ℕ) (w : Parsed ℕ) → states < 2 ^ 64 - 1 → state_at states text at ≡ answered w → Spans text at (decimal w.value) w.next × (w.value < states)
state_spans states text at w small e =
    then_parts (number_at text at) (below states at) w e (λ n e1 e2.
    let p = below_parts states at n w e2 in
    (record { stands = number_sound text at w (e1 ∙ ap answered p.0) (omega (arith, p.1)) }, p.1))

pub open_spans : (text : List ℕ) (at used room inside : ℕ) → open_at text at used room ≡ answered inside → Spans text at (codes "(") inside × (used < room)
open_spans text at used room inside e =
    then_parts (sign_at text at Open) _ inside e (λ next e1 e2.
    ⊎_elim
    (λ y. let same : next ≡ inside = same_answer next inside (sym (cond-true (ltb used room) (answered next) (refused (table_full at)) y) ∙ e2) in
    (subst (Spans text at (codes "(")) same (sign_spans text at Open next e1), ltb-true used room y))
    (λ y. let f = cond-false (ltb used room) (answered next) (refused (table_full at)) y in absurd (let z : ◌≡◌ {A = ℕ} 0 1 = cc in omega arith))
    (cases_Bool (ltb used room)))

opened_spans : (w : Opening) (text : List ℕ) (at : ℕ) (o : Parsed Opening) → opened w text at ≡ answered o → Spans text at (opening_word o.value) o.next
opened_spans w text at o e =
    then_parts (word_at text at (opening_word w)) _ o e (λ next e1 e2.
    subst (λ (x : Parsed Opening). Spans text at (opening_word x.value) x.next) (same_answer _ o e2) (word_spans text at (opening_word w) next e1))

pub ranged_spans : (low high : ℕ) (text : List ℕ) (at : ℕ) (w : Parsed ℕ) → high < 2 ^ 64 - 1 → ranged_at low high text at ≡ answered w → Spans text at (decimal w.value) w.next × (low ≤ w.value) × (w.value ≤ high)
ranged_spans low high text at w small e = let p = ranged_sound low high text at w small e in (record { stands = p.0 }, p.1, p.2)

pub opening_spans : (text : List ℕ) (at : ℕ) (o : Parsed Opening) → opening_at text at ≡ answered o → Spans text at (opening_word o.value) o.next
opening_spans text at o e =
    ⊎_elim
    (λ y. opened_spans State text at o (sym (cond-true (is_at text at 115) (opened State text at) (opened Goal text at) y) ∙ e))
    (λ y. opened_spans Goal text at o (sym (cond-false (is_at text at 115) (opened State text at) (opened Goal text at) y) ∙ e))
    (cases_Bool (is_at text at 115))

pub due_spans : (due : ℕ) (text : List ℕ) (at : ℕ) (w : Parsed ℕ) → due < 2 ^ 64 - 1 → due_at due text at ≡ answered w → Spans text at (decimal due) w.next
due_spans due text at w small e =
    then_parts (number_at text at) _ w e (λ n e1 e2.
    ⊎_elim
    (λ y. let same : n ≡ w = same_answer n w (sym (cond-true (eqb n.value due) (answered n) (refused (bad_state at)) y) ∙ e2) in
    let is : w.value ≡ due = subst (λ (m : Parsed ℕ). m.value ≡ due) same (eqb-true n.value due y) in
    record { stands = number_sound text at w (e1 ∙ ap answered same) (omega arith) ∙ ap (λ (v : ℕ). decimal v ++ drop w.next text) is })
    (λ y. let f = cond-false (eqb n.value due) (answered n) (refused (bad_state at)) y in absurd (let z : ◌≡◌ {A = ℕ} 0 1 = cc in omega arith))
    (cases_Bool (eqb n.value due)))
