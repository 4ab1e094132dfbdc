-- What `joined` tells, and that it answers exactly on lawful rows.
use Rattle.std.proofs.Common.{◌≡◌, ℕ, ◌+◌, ◌<◌, ◌≤◌, Bool, true, false, cond, eqb, List, [], ◌∷◌, length, get_or, sym, refl, ap, ◌∙◌, arith}
use Rattle.std.specs.List.{prefix_len, zip}
use Rattle.std.proofs.lemmas.Bool.{eqb-true, cond_both}
use Rattle.std.proofs.lemmas.Bool.Decides.{nat_tests}
use Rattle.std.proofs.lemmas.List.Sums.{prefix_len_is, prefix_len_passes}
use Rattle.std.proofs.lemmas.Slice.Zip.{length-zip, get_or-zip}
use Rattle.refusal.specs.Told.{answered, refused}
use Rattle.joining.specs.Judged.{FirstBad}
use Rattle.joining.specs.RowFacts.{fitting_parts}
use Rattle.joining.specs.Rows.{Rows, fitting, good_pair, first_bad, bad_rows, joined}

-- whether a weight and the figure beside it are good
abbrev good_beside : ℕ × ℕ → Bool
good_beside pair = good_pair pair.0 pair.1

-- `first_bad` is where the pairs, read as one list, stop being good
zipped : (ws fs : List ℕ) → first_bad ws fs ≡ prefix_len good_beside (zip ws fs)
zipped [] fs = refl
zipped (w ∷ ws) [] = refl
zipped (w ∷ ws) (f ∷ fs) = ap (λ n. cond (good_pair w f) (1 + n) 0) (zipped ws fs)

beside : (ws fs : List ℕ) → length ws ≡ length fs → (k : ℕ) → k < length ws → good_beside (get_or (zip ws fs) k (0, 0)) ≡ good_pair (get_or ws k 0) (get_or fs k 0)
beside ws fs e k l = ap good_beside (get_or-zip ws fs k (0, 0) l (omega arith))

-- the first bad pair is at p where every pair before p is good, and the one at p is not
first_bad_is : (ws fs : List ℕ) → length ws ≡ length fs → (p : ℕ) → p ≤ length ws → ((k : ℕ) → k < p → good_pair (get_or ws k 0) (get_or fs k 0) ≡ true) → (p < length ws → good_pair (get_or ws p 0) (get_or fs p 0) ≡ false) → first_bad ws fs ≡ p
first_bad_is ws fs e p l before bad =
    let long = length-zip ws fs in
    zipped ws fs ∙ prefix_len_is good_beside (zip ws fs) p (0, 0) (omega arith) (λ k h. beside ws fs e k (omega arith) ∙ before k h) (λ h. beside ws fs e p (omega arith) ∙ bad (omega arith))

pub first_bad_refused : {A : Type 0} (join : List ℕ → List ℕ → A) (ws fs : List ℕ) (p : ℕ) → FirstBad ws fs p → refused (bad_rows p) ≡ joined join ws fs
first_bad_refused join ws fs p bad =
    let fit = bad.fit in
    let inside = bad.inside in
    let e = first_bad_is ws fs (fitting_parts ws fs bad.fit).0 p (omega arith) bad.before (λ _. bad.bad) in
    grind (arith, nat_tests)

-- lawful rows are answered
pub lawful_answered : {A : Type 0} (join : List ℕ → List ℕ → A) (ws fs : List ℕ) → Rows ws fs → answered (join ws fs) ≡ joined join ws fs
lawful_answered join ws fs rows =
    let fit = rows.fit in
    let e = first_bad_is ws fs (fitting_parts ws fs rows.fit).0 (length ws) (omega arith) rows.good (λ h. absurd (omega arith)) in
    grind (arith, nat_tests)

-- rows that are answered are lawful, and the answer is the joining's
pub record Answered {A : Type 0} (join : List ℕ → List ℕ → A) (ws fs : List ℕ) (x : A) : Type 0 where
  pub rows : Rows ws fs
  pub is : x ≡ join ws fs

pub answered_lawful : {A : Type 0} (join : List ℕ → List ℕ → A) (ws fs : List ℕ) (x : A) → answered x ≡ joined join ws fs → Answered join ws fs x
answered_lawful join ws fs x =
    cond_both (fitting ws fs) _ _ (λ t. answered x ≡ t → Answered join ws fs x)
    (λ fit. cond_both (eqb (first_bad ws fs) (length ws)) _ _ (λ t. answered x ≡ t → Answered join ws fs x)
    (λ all e. record {
      rows = record {
        fit = fit;
        good = λ k l.
            let long = (fitting_parts ws fs fit).0 in
            sym (beside ws fs long k l) ∙ prefix_len_passes good_beside (zip ws fs) k (0, 0) (omega (arith, zipped ws fs, eqb-true (first_bad ws fs) (length ws) all));
      };
      is = cc;
    })
    (λ _ e. cc))
    (λ _ e. cc)
