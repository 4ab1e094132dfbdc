-- A word or a number that is read is the one that the text writes there, and one that is written is read.
use Rattle.std.proofs.Common.{◌≡◌, ℕ, ◌+◌, ◌-◌, ◌*◌, ◌^◌, ◌<◌, ◌≤◌, true, false, leb, List, [], ◌∷◌, ◌++◌, length, get_or, take, drop, decimal, sym, refl, ap, ◌∙◌, subst, ⊎_elim, arith, take-append-drop, length-take-le, get_or-take, drop-drop}
use Rattle.std.specs.Char.{is_ascii_digit}
use Rattle.std.specs.Str.{all_ascii_digits}
use Rattle.std.proofs.Math.Numerals.{one-add}
use Rattle.std.proofs.lemmas.List.{drop_more, get_or_append_left}
use Rattle.std.proofs.lemmas.List.Sums.{prefix_len-le-length}
use Rattle.std.proofs.lemmas.Bool.{cases_Bool, cases_lt, cond-true, cond-false, and_parts, and_from, le-leb, leb-true}
use Rattle.std.proofs.lemmas.Bool.Decides.{nat_tests}
use Rattle.std.proofs.lemmas.Str.Parse.{IsNumeralModel, FoldsDigits, numerals_by_fold, tells_all_ascii_digits}
use Rattle.std.proofs.lemmas.Fmt.{decimal-digits_value, digits_decimal, digits_value-decimal, first_decimal, decimal_nonempty, decimal_digit}
use Rattle.refusal.specs.Told.{Told, answered, refused}
use Rattle.text.specs.declared.parsed.Parsed.{Parsed}
use Rattle.text.specs.Faults.{bad_byte, bad_number}
use Rattle.text.specs.Numbers.{run, numeral, saturated, leading_zero, digits_at, number_from, number_at, in_range, ranged_at}
use Rattle.text.specs.Words.{is_at, word_at}
use Rattle.text.proofs.Scanned.{number_ok, number_none, number_zero}
use Rattle.text.proofs.Steps.{then_parts, same_answer}

folds : FoldsDigits numeral
folds = record { empty = λ n. refl; more = λ n c cs h. cond-true (is_ascii_digit c) _ _ (and_from _ _ (le-leb 48 c h.0) (le-leb c 57 h.1)) }

pub own : IsNumeralModel (λ ds. all_ascii_digits ds ≡ true) (numeral 0)
own = numerals_by_fold (λ ds. all_ascii_digits ds ≡ true) tells_all_ascii_digits numeral folds

-- a text of digits with no digit after it
pub run_digits : (ds rest : List ℕ) → all_ascii_digits ds ≡ true → run rest ≡ 0 → run (ds ++ rest) ≡ length ds
run_digits [] rest h z = z
run_digits (d ∷ ds) rest h z =
    let p = and_parts (is_ascii_digit d) (all_ascii_digits ds) h in
    let more = run_digits ds rest p.1 z in
    cond-true (is_ascii_digit d) (1 + run (ds ++ rest)) 0 p.0 ∙ omega arith

numeral_stop_at : (n : ℕ) (rest : List ℕ) → run rest ≡ 0 → numeral n rest ≡ n
numeral_stop_at n [] z = refl
numeral_stop_at n (b ∷ bs) z =
    ⊎_elim (λ t. absurd (omega (arith, cond-true (is_ascii_digit b) (1 + run bs) 0 t))) (λ f. cond-false (is_ascii_digit b) _ _ f) (cases_Bool (is_ascii_digit b))

pub numeral_digits : (n : ℕ) (ds rest : List ℕ) → all_ascii_digits ds ≡ true → run rest ≡ 0 → numeral n (ds ++ rest) ≡ numeral n ds
numeral_digits n [] rest h z = numeral_stop_at n rest z
numeral_digits n (d ∷ ds) rest h z =
    let p = and_parts (is_ascii_digit d) (all_ascii_digits ds) h in
    cond-true (is_ascii_digit d) _ _ p.0 ∙ numeral_digits (n * 10 + (d - 48)) ds rest p.1 z ∙ sym (cond-true (is_ascii_digit d) _ _ p.0)

-- the front of a text is all digits, and no digit comes after it
front_digits : (xs : List ℕ) → all_ascii_digits (take (run xs) xs) ≡ true
front_digits [] = refl
front_digits (b ∷ bs) =
    ⊎_elim
    (λ t. ap (λ (k : ℕ). all_ascii_digits (take k (b ∷ bs))) (cond-true (is_ascii_digit b) (1 + run bs) 0 t ∙ one-add (run bs)) ∙ and_from (is_ascii_digit b) (all_ascii_digits (take (run bs) bs)) t (front_digits bs))
    (λ f. ap (λ (k : ℕ). all_ascii_digits (take k (b ∷ bs))) (cond-false (is_ascii_digit b) (1 + run bs) 0 f))
    (cases_Bool (is_ascii_digit b))

front_after : (xs : List ℕ) → run (drop (run xs) xs) ≡ 0
front_after [] = refl
front_after (b ∷ bs) =
    ⊎_elim
    (λ t. ap (λ (k : ℕ). run (drop k (b ∷ bs))) (cond-true (is_ascii_digit b) (1 + run bs) 0 t ∙ one-add (run bs)) ∙ front_after bs)
    (λ f. ap (λ (k : ℕ). run (drop k (b ∷ bs))) (cond-false (is_ascii_digit b) (1 + run bs) 0 f) ∙ cond-false (is_ascii_digit b) (1 + run bs) 0 f)
    (cases_Bool (is_ascii_digit b))

-- what is known of a number that was read
pub number_inv : (at : ℕ) (bs : List ℕ) (r : Parsed ℕ) → number_from at bs ≡ answered r → (0 < run bs) × (leading_zero bs ≡ false) × (r ≡ digits_at at bs)
number_inv at bs r e =
    ⊎_elim
    (λ some. ⊎_elim
    (λ t. let f = number_zero at bs some t in absurd (let z : ◌≡◌ {A = ℕ} 0 1 = cc in omega arith))
    (λ n. (some, n, let f = number_ok at bs some n in cc))
    (cases_Bool (leading_zero bs)))
    (λ z. let no_run : run bs ≡ 0 = omega arith in let f = number_none at bs no_run in absurd (let z : ◌≡◌ {A = ℕ} 0 1 = cc in omega arith))
    (cases_lt 0 (run bs))

pub number_sound : (text : List ℕ) (at : ℕ) (r : Parsed ℕ) → number_at text at ≡ answered r → r.value < 2 ^ 64 - 1 → drop at text ≡ decimal r.value ++ drop r.next text
number_sound text at r e small =
    let xs = drop at text in
    let k = run xs in
    let ds = take k xs in
    let inv = number_inv at xs r e in
    let is : r.value ≡ saturated (numeral 0 xs) = ap (λ (n : Parsed ℕ). n.value) inv.2 in
    let nx : r.next ≡ at + k = ap (λ (n : Parsed ℕ). n.next) inv.2 in
    let v : numeral 0 xs ≡ r.value = omega arith in
    let split : ds ++ drop k xs ≡ xs = take-append-drop k xs in
    let front-is : numeral 0 xs ≡ numeral 0 ds = ap (numeral 0) (sym split) ∙ numeral_digits 0 ds (drop k xs) (front_digits xs) (front_after xs) in
    let long : length ds ≡ k = length-take-le k xs (prefix_len-le-length is_ascii_digit xs) in
    let first : get_or ds 0 0 ≡ get_or xs 0 0 = get_or-take k xs 0 0 inv.0 in
    let no_zero : get_or ds 0 0 ≡ 48 → length ds ≡ 1 = λ z. let f : leading_zero xs ≡ false = inv.1 in let w : get_or xs 0 0 ≡ 48 = sym first ∙ z in let q : run xs ≤ 1 = grind (arith, nat_tests) in omega (arith, inv.0) in
    let some : 0 < length ds = omega (arith, inv.0) in
    let fits : numeral 0 ds < 2 ^ 64 = omega arith in
    let written : decimal (numeral 0 ds) ≡ ds = decimal-digits_value own ds (front_digits xs) some no_zero fits in
    let mine : decimal r.value ≡ ds = ap decimal (sym v ∙ front-is) ∙ written in
    sym split ∙ ap (λ (l : List ℕ). l ++ drop k xs) (sym mine) ∙ ap (λ (l : List ℕ). decimal r.value ++ l) (drop-drop k at text ∙ ap (λ (j : ℕ). drop j text) (sym nx))

leading_not : (bs : List ℕ) → 48 < get_or bs 0 0 → leading_zero bs ≡ false
leading_not bs h = grind (arith, nat_tests)

leading_short : (bs : List ℕ) → run bs ≡ 1 → leading_zero bs ≡ false
leading_short bs h = grind (arith, nat_tests)

pub number_complete : (v at : ℕ) (rest : List ℕ) → v < 2 ^ 64 - 1 → run rest ≡ 0 → number_from at (decimal v ++ rest) ≡ answered (record { value = v; next = at + length (decimal v) })
number_complete v at rest small z =
    let wide : v < 2 ^ 64 = omega arith in
    let ds = decimal v in
    let all : all_ascii_digits ds ≡ true = digits_decimal own v wide in
    let is : numeral 0 (ds ++ rest) ≡ v = numeral_digits 0 ds rest all z ∙ digits_value-decimal own v wide in
    let long : run (ds ++ rest) ≡ length ds = run_digits ds rest all z in
    let some : 0 < length ds = decimal_nonempty v wide in
    let any : 0 < run (ds ++ rest) = omega arith in
    let first : get_or (ds ++ rest) 0 0 ≡ get_or ds 0 0 = get_or_append_left ds rest 0 0 some in
    let no_zero : leading_zero (ds ++ rest) ≡ false =
    ⊎_elim
    (λ pos. let f : 48 < get_or ds 0 0 = first_decimal v pos wide in leading_not (ds ++ rest) (omega arith))
    (λ none. let o : v ≡ 0 = omega arith in let one : length ds ≡ 1 = ap (λ (m : ℕ). length (decimal m)) o ∙ ap length (decimal_digit 0 (omega arith)) in leading_short (ds ++ rest) (omega arith))
    (cases_lt 0 v) in
    let val : saturated (numeral 0 (ds ++ rest)) ≡ v = omega arith in
    let nx : at + run (ds ++ rest) ≡ at + length ds = omega arith in
    let f : ℕ → ℕ → Told (Parsed ℕ) = λ a b. answered (record { value = a; next = b }) in
    number_ok at (ds ++ rest) any no_zero ∙ (λ i. f (val i) (nx i))

-- a word
pub at_true : (text : List ℕ) (at b : ℕ) → is_at text at b ≡ true → (at < length text) × (get_or text at 0 ≡ b)
at_true text at b h = grind (arith, nat_tests)

pub word_sound : (text : List ℕ) (at : ℕ) (ws : List ℕ) (next : ℕ) → word_at text at ws ≡ answered next → drop at text ≡ ws ++ drop next text
word_sound text at [] next e = let f : at ≡ next = cc in ap (λ (j : ℕ). drop j text) f
word_sound text at (w ∷ ws) next e =
    ⊎_elim
    (λ t. let p = at_true text at w t in
    drop_more text at 0 p.0
    ∙ (λ i. p.1 i ∷ word_sound text (at + 1) ws next (sym (cond-true (is_at text at w) (word_at text (at + 1) ws) (refused (bad_byte at)) t) ∙ e) i))
    (λ f. let g = cond-false (is_at text at w) (word_at text (at + 1) ws) (refused (bad_byte at)) f in absurd (let z : ◌≡◌ {A = ℕ} 0 1 = cc in omega arith))
    (cases_Bool (is_at text at w))

-- a number that is answered lies in its range
in_range_parts : (low high at : ℕ) (n w : Parsed ℕ) → in_range low high at n ≡ answered w → (n ≡ w) × (low ≤ w.value) × (w.value ≤ high)
in_range_parts low high at n w e =
    ⊎_elim
    (λ y. let same : n ≡ w = same_answer n w (sym (cond-true _ (answered n) (refused (bad_number at)) y) ∙ e) in
    let p = and_parts (leb low n.value) (leb n.value high) y in
    (same, subst (λ (m : Parsed ℕ). low ≤ m.value) same (leb-true low n.value p.0), subst (λ (m : Parsed ℕ). m.value ≤ high) same (leb-true n.value high p.1)))
    (λ y. let f = cond-false _ (answered n) (refused (bad_number at)) y in absurd (let z : ◌≡◌ {A = ℕ} 0 1 = cc in omega arith))
    (cases_Bool _)

pub ranged_sound : (low high : ℕ) (text : List ℕ) (at : ℕ) (w : Parsed ℕ) → high < 2 ^ 64 - 1 → ranged_at low high text at ≡ answered w
    → (drop at text ≡ decimal w.value ++ drop w.next text) × (low ≤ w.value) × (w.value ≤ high)
ranged_sound low high text at w small e =
    then_parts (number_at text at) (in_range low high at) w e (λ n f g.
    let p = in_range_parts low high at n w g in
    let is : number_at text at ≡ answered w = f ∙ ap answered p.0 in
    (number_sound text at w is (omega (arith, p.2)), p.1, p.2))
