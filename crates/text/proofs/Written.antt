-- What is written at a place is read there.
use Rattle.std.proofs.Common.{◌≡◌, ℕ, ◌+◌, ◌-◌, ◌^◌, ◌<◌, ◌≤◌, true, false, leb, List, [], ◌∷◌, ◌++◌, length, get_or, drop, decimal, sym, refl, ap, ◌∙◌, ⊎_elim, arith, drop-drop}
use Rattle.std.proofs.Math.Seq.{drop-append_seam}
use Rattle.std.proofs.lemmas.List.{drop_all, drop_more}
use Rattle.std.proofs.lemmas.Bool.{cases_lt, cond-true, lt-ltb, le-leb, eq-eqb, and_from}
use Rattle.refusal.specs.Told.{answered, refused}
use Rattle.text.specs.Faults.{bad_byte}
use Rattle.text.specs.Numbers.{run, number_from, number_at, in_range, ranged_at}
use Rattle.text.specs.Words.{is_at, word_at}
use Rattle.text.proofs.Scanned.{not_at_other, not_at_past}
use Rattle.text.proofs.Spelled.{number_complete}
use Rattle.text.proofs.Steps.{then_answered}

-- what stands at a place
pub at_front : (text : List ℕ) (at w : ℕ) (l : List ℕ) → drop at text ≡ w ∷ l → (is_at text at w ≡ true) × (drop (at + 1) text ≡ l)
at_front text at w l e =
    ⊎_elim
    (λ h. let d = drop_more text at 0 h in
    let b : get_or text at 0 ≡ w = cc in
    (and_from _ _ (lt-ltb at (length text) h) (eq-eqb (get_or text at 0) w b), let r : drop (at + 1) text ≡ l = cc in r))
    (λ h. let d = drop_all at text h in absurd (let z : ◌≡◌ {A = ℕ} 0 1 = cc in omega arith))
    (cases_lt at (length text))

pub word_back : (text : List ℕ) (at : ℕ) (ws rest : List ℕ) → drop at text ≡ ws ++ rest → (next : ℕ) × (word_at text at ws ≡ answered next) × (drop next text ≡ rest)
word_back text at [] rest e = (at, refl, e)
word_back text at (w ∷ ws) rest e =
    let p = at_front text at w (ws ++ rest) e in
    let q = word_back text (at + 1) ws rest p.1 in
    (q.0, cond-true (is_at text at w) (word_at text (at + 1) ws) (refused (bad_byte at)) p.0 ∙ q.1, q.2)

pub number_back : (text : List ℕ) (at v : ℕ) (rest : List ℕ) → v < 2 ^ 64 - 1 → run rest ≡ 0 → drop at text ≡ decimal v ++ rest
    → (next : ℕ) × (number_at text at ≡ answered (record { value = v; next = next })) × (drop next text ≡ rest)
number_back text at v rest small z e = (
  at + length (decimal v),
  ap (number_from at) e ∙ number_complete v at rest small z,
  sym (drop-drop (length (decimal v)) at text) ∙ ap (λ (l : List ℕ). drop (length (decimal v)) l) e ∙ drop-append_seam (decimal v) rest,
)

pub ranged_back : (lo hi : ℕ) (text : List ℕ) (at v : ℕ) (rest : List ℕ) → hi < 2 ^ 64 - 1 → lo ≤ v → v ≤ hi → run rest ≡ 0 → drop at text ≡ decimal v ++ rest
    → (next : ℕ) × (ranged_at lo hi text at ≡ answered (record { value = v; next = next })) × (drop next text ≡ rest)
ranged_back lo hi text at v rest small low high z e =
    let p = number_back text at v rest (omega arith) z e in
    (p.0, then_answered (in_range lo hi at) p.1 ∙ cond-true _ _ _ (and_from (leb lo v) (leb v hi) (le-leb lo v low) (le-leb v hi high)), p.2)

pub other_byte : (text : List ℕ) (at b other : ℕ) (rest : List ℕ) → drop at text ≡ b ∷ rest → (b ≡ other → ⊥) → is_at text at other ≡ false
other_byte text at b other rest e ne =
    ⊎_elim
    (λ h. let d = drop_more text at 0 h in let same : get_or text at 0 ≡ b = cc in not_at_other text at other (λ z. ne (sym same ∙ z)))
    (λ h. not_at_past text at other h)
    (cases_lt at (length text))
