-- What a number is told as, by the digits at its front; and where a byte does not stand.
use Rattle.std.proofs.Common.{◌≡◌, ℕ, ◌<◌, ◌≤◌, true, false, List, length, get_or, arith}
use Rattle.std.proofs.lemmas.Bool.Decides.{nat_tests}
use Rattle.refusal.specs.Told.{answered, refused}
use Rattle.text.specs.Faults.{bad_byte, bad_number}
use Rattle.text.specs.Numbers.{run, leading_zero, digits_at, number_from}
use Rattle.text.specs.Words.{is_at}

pub number_none : (at : ℕ) (bs : List ℕ) → run bs ≡ 0 → number_from at bs ≡ refused (bad_byte at)
number_none at bs h = grind (arith, nat_tests)

pub number_zero : (at : ℕ) (bs : List ℕ) → 0 < run bs → leading_zero bs ≡ true → number_from at bs ≡ refused (bad_number at)
number_zero at bs h l = grind (arith, nat_tests)

pub number_ok : (at : ℕ) (bs : List ℕ) → 0 < run bs → leading_zero bs ≡ false → number_from at bs ≡ answered (digits_at at bs)
number_ok at bs h l = grind (arith, nat_tests)

pub not_at_past : (text : List ℕ) (at b : ℕ) → length text ≤ at → is_at text at b ≡ false
not_at_past text at b h = grind (arith, nat_tests)

pub not_at_other : (text : List ℕ) (at b : ℕ) → (get_or text at 0 ≡ b → ⊥) → is_at text at b ≡ false
not_at_other text at b h = grind (arith, nat_tests)
