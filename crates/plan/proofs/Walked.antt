-- A row of forms that is read and written one at a time: what is left gives the whole.
use Rattle.std.proofs.Common.{◌≡◌, ℕ, zero, suc, ◌+◌, ◌<◌, true, false, ◌⊎◌, List, sym, refl, ap, ◌∙◌, inl, inr, arith}
use Rattle.std.proofs.lemmas.Bool.{cond-true, cond-false}
use Rattle.text.specs.declared.parsed.Parsed.{Parsed}
use Rattle.refusal.specs.declared.refusal.Refusal.{Refusal}
use Rattle.refusal.specs.Told.{Told, answered, refused, and_then}
use Rattle.text.specs.declared.marks.Sign.TheVariants.{Space, Close}
use Rattle.text.specs.Marks.{sign_byte}
use Rattle.text.specs.Words.{is_at, sign_at}
use Rattle.text.proofs.Steps.{same_answer, then_answered, then_refused}
use Rattle.plan.specs.declared.counts.Counts.{Counts}
use Rattle.plan.specs.declared.walk.Limits.{Limits}
use Rattle.plan.specs.declared.walk.Past.{Past}
use Rattle.plan.specs.Forms.{also, close_at, forms_at, grow_all, more_at}
use Rattle.plan.specs.Lines.{grow_line, line_at, lines_at}
use Rattle.plan.specs.Records.{Records}
use Rattle.plan.specs.Walk.{Left, put_all, put_line, walked}

-- where a walk stands, with what the tables hold
abbrev stand : Past → Records → Told (Left Past)
stand past r = answered (record { answer = past; held = r })

module _ {A : Type 0} (grow : Counts → A → Counts) (put : Counts → A → Records → Records) where
  -- all of a row, counted and written
  abbrev pub walked_all : Told (Parsed (List A)) → Counts → Records → Told (Left Past)
  walked_all = walked (grow_all grow) (put_all grow put)

  -- one in front of a row is counted and written before the row
  pub also_walked : (a : A) (more : Told (Parsed (List A))) (u : Counts) (r : Records) → walked_all (also a more) u r ≡ walked_all more (grow u a) (put u a r)
  also_walked a (answered g) u r = refl
  also_walked a (refused f) u r = refl

  -- the same where the one is yet to be read
  pub one_walked : (read : Told (Parsed A)) (rest : Counts → ℕ → Told (Parsed (List A))) (u : Counts) (r : Records) (past : Past) (new : Records) → stand past new ≡ walked grow put read u r
      → walked_all (rest past.used past.next) past.used new ≡ walked_all (and_then read (λ g. also g.value (rest (grow u g.value) g.next))) u r
  one_walked (answered g) rest u r past new e =
      let same = same_answer _ _ e in
      let here : past ≡ record { used = grow u g.value; next = g.next } = ap (λ l. l.answer) same in
      let there : new ≡ put u g.value r = ap (λ l. l.held) same in
      (λ i. walked_all (rest (here i).used (here i).next) (here i).used (there i))
      ∙ sym (also_walked g.value (rest (grow u g.value) g.next) u r)
  one_walked (refused f) rest u r past new e = absurd (let z : ◌≡◌ {A = ℕ} 0 1 = cc in omega arith)

  -- one that is refused refuses the row
  pub one_refused : (read : Told (Parsed A)) (rest : Counts → ℕ → Told (Parsed (List A))) (u : Counts) (r : Records) (f : Refusal) → refused f ≡ walked grow put read u r
      → refused f ≡ walked_all (and_then read (λ g. also g.value (rest (grow u g.value) g.next))) u r
  one_refused (answered g) rest u r f e = absurd (let z : ◌≡◌ {A = ℕ} 0 1 = cc in omega arith)
  one_refused (refused d) rest u r f e = e

  module _ (item : Counts → ℕ → Told (Parsed A)) (text : List ℕ) where
    -- the first form of a row
    pub first_walked : (u : Counts) (at first : ℕ) (r : Records) (past : Past) (new : Records) → answered first ≡ sign_at text at Space → stand past new ≡ walked grow put (item u first) u r
        → walked_all (more_at item grow 15 text past.used past.next) past.used new ≡ walked_all (forms_at item grow text u at) u r
    first_walked u at first r past new e h =
        one_walked (item u first) (more_at item grow 15 text) u r past new h
        ∙ sym (ap (λ x. walked_all x u r) (then_answered _ (sym e)))

    pub first_refused : (u : Counts) (at first : ℕ) (r : Records) (f : Refusal) → answered first ≡ sign_at text at Space → refused f ≡ walked grow put (item u first) u r → refused f ≡ walked_all (forms_at item grow text u at) u r
    first_refused u at first r f e h = one_refused (item u first) (more_at item grow 15 text) u r f h ∙ sym (ap (λ x. walked_all x u r) (then_answered _ (sym e)))

    -- one form more of a row
    pub more_walked : (k j : ℕ) (u : Counts) (at : ℕ) (r : Records) (past : Past) (new : Records) → k ≡ j + 1 → is_at text at (sign_byte Space) ≡ true → stand past new ≡ walked grow put (item u (at + 1)) u r
        → walked_all (more_at item grow j text past.used past.next) past.used new ≡ walked_all (more_at item grow k text u at) u r
    more_walked zero j u at r past new h space e = absurd (omega arith)
    more_walked (suc k) j u at r past new h space e =
        let same : j ≡ k = omega arith in
        ap (λ (i : ℕ). walked_all (more_at item grow i text past.used past.next) past.used new) same
        ∙ one_walked (item u (at + 1)) (more_at item grow k text) u r past new e
        ∙ sym (ap (λ x. walked_all x u r) (cond-true (is_at text at (sign_byte Space)) _ (close_at text at) space))

    pub more_refused : (k : ℕ) (u : Counts) (at : ℕ) (r : Records) (f : Refusal) → 0 < k → is_at text at (sign_byte Space) ≡ true → refused f ≡ walked grow put (item u (at + 1)) u r → refused f ≡ walked_all (more_at item grow k text u at) u r
    more_refused zero u at r f h space e = absurd (omega arith)
    more_refused (suc k) u at r f h space e =
        one_refused (item u (at + 1)) (more_at item grow k text) u r f e
        ∙ sym (ap (λ x. walked_all x u r) (cond-true (is_at text at (sign_byte Space)) _ (close_at text at) space))

    no_more : (k : ℕ) (u : Counts) (at : ℕ) → (k ≡ 0) ⊎ (is_at text at (sign_byte Space) ≡ false) → more_at item grow k text u at ≡ close_at text at
    no_more zero u at h = refl
    no_more (suc k) u at (inl h) = absurd (omega arith)
    no_more (suc k) u at (inr h) = cond-false (is_at text at (sign_byte Space)) _ (close_at text at) h

    -- the bracket behind the last form writes nothing
    pub end_walked : (k : ℕ) (u : Counts) (at next : ℕ) (r : Records) → (k ≡ 0) ⊎ (is_at text at (sign_byte Space) ≡ false) → answered next ≡ sign_at text at Close
        → stand (record { used = u; next = next }) r ≡ walked_all (more_at item grow k text u at) u r
    end_walked k u at next r h e = sym (ap (λ x. walked_all x u r) (no_more k u at h ∙ then_answered _ (sym e)))

    pub end_refused : (k : ℕ) (u : Counts) (at : ℕ) (r : Records) (f : Refusal) → (k ≡ 0) ⊎ (is_at text at (sign_byte Space) ≡ false) → refused f ≡ sign_at text at Close → refused f ≡ walked_all (more_at item grow k text u at) u r
    end_refused k u at r f h e = sym (ap (λ x. walked_all x u r) (no_more k u at h ∙ then_refused _ (sym e)))

-- one line more
module _ (text : List ℕ) (limits : Limits) where
  pub line_walked : (k j : ℕ) (u : Counts) (at : ℕ) (r : Records) (past : Past) (new : Records) → k ≡ j + 1 → stand past new ≡ walked grow_line put_line (line_at text limits u at) u r
      → walked_all grow_line put_line (lines_at j text limits past.used past.next) past.used new ≡ walked_all grow_line put_line (lines_at k text limits u at) u r
  line_walked zero j u at r past new h e = absurd (omega arith)
  line_walked (suc k) j u at r past new h e =
      let same : j ≡ k = omega arith in
      ap (λ (i : ℕ). walked_all grow_line put_line (lines_at i text limits past.used past.next) past.used new) same
      ∙ one_walked grow_line put_line (line_at text limits u at) (lines_at k text limits) u r past new e

  pub line_refused : (k : ℕ) (u : Counts) (at : ℕ) (r : Records) (f : Refusal) → 0 < k → refused f ≡ walked grow_line put_line (line_at text limits u at) u r
      → refused f ≡ walked_all grow_line put_line (lines_at k text limits u at) u r
  line_refused zero u at r f h e = absurd (omega arith)
  line_refused (suc k) u at r f h e = one_refused grow_line put_line (line_at text limits u at) (lines_at k text limits) u r f e
