use Rattle.std.proofs.Common.{◌≡◌, ℕ, ◌+◌, drop}
use Rattle.text.specs.Numbers.{run, numeral, saturated}
use Rattle.text.proofs.numbers.digits.Given as goal

-- the digits that are left, behind the number so far, write what all of them do
abbrev pub invariant-loop-done : goal.invariant-loop-done
invariant-loop-done l =
    (v : ℕ) × (l.value ≡ saturated v) × (numeral v (drop l.done l.rest) ≡ numeral 0 l.rest) × (l.done + run (drop l.done l.rest) ≡ run l.rest)
