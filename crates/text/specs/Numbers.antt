-- Numbers at a place of a text.
use Rattle.std.specs.Prelude.{ℕ, ◌+◌, ◌-◌, ◌*◌, ◌^◌, min, Bool, cond, ◌&&◌, List, [], ◌∷◌, drop, ◌==◌, nat_le, nat_lt, slice_index}
use Rattle.std.specs.Char.{is_ascii_digit}
use Rattle.std.specs.List.{prefix_len}
use Rattle.refusal.specs.Told.{Told, answered, refused, and_then}
use Rattle.text.specs.declared.parsed.Parsed.{Parsed}
use Rattle.text.specs.Faults.{bad_byte, bad_number}

-- how many digits stand at the front of these bytes
abbrev pub run : List ℕ → ℕ
run bs = prefix_len is_ascii_digit bs

-- the number that those digits write in base ten, behind digits that write n
abbrev pub numeral : ℕ → List ℕ → ℕ
numeral n [] = n
numeral n (b ∷ bs) = cond (is_ascii_digit b) (numeral (n * 10 + (b - 48)) bs) n

-- a zero stands in front, and a digit behind it
abbrev pub leading_zero : List ℕ → Bool
leading_zero bs = slice_index bs 0 == 48 && nat_lt 1 (run bs)

-- what 64 bits hold of a number: itself, or their greatest where it is greater
abbrev pub saturated : ℕ → ℕ
saturated n = min n (2 ^ 64 - 1)

-- the digits at the front of these bytes, which stand in the text from a place on
abbrev pub digits_at : ℕ → List ℕ → Parsed ℕ
digits_at at bs = record { value = saturated (numeral 0 bs); next = at + run bs }

-- the same as a number: where no digit stands the byte is refused, and a leading zero the number
abbrev pub number_from : ℕ → List ℕ → Told (Parsed ℕ)
number_from at bs = cond (run bs == 0) (refused (bad_byte at)) (cond (leading_zero bs) (refused (bad_number at)) (answered (digits_at at bs)))

-- a number is due at a place
abbrev pub number_at : List ℕ → ℕ → Told (Parsed ℕ)
number_at text at = number_from at (drop at text)

-- a number is refused unless it lies from low to high
abbrev pub in_range : ℕ → ℕ → ℕ → Parsed ℕ → Told (Parsed ℕ)
in_range low high at n = cond (nat_le low n.value && nat_le n.value high) (answered n) (refused (bad_number at))

-- a number from low to high is due at a place
abbrev pub ranged_at : ℕ → ℕ → List ℕ → ℕ → Told (Parsed ℕ)
ranged_at low high text at = and_then (number_at text at) (in_range low high at)
