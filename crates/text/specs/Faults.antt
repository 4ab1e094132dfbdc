-- The refusals of the layer text, and the one that each of its faults stands for.
use Rattle.std.specs.Prelude.{ℕ}
use Rattle.refusal.specs.declared.layer.Layer.TheVariants.{Text}
use Rattle.refusal.specs.declared.refusal.Refusal.{Refusal}
use Rattle.text.specs.declared.fault.TextFault.{TextFault}
use Rattle.text.specs.declared.fault.TextFault.TheVariants.{Byte, Number, TooLong}

-- the most bytes that a text has
abbrev pub longest_text : ℕ
longest_text = 60000

-- number 2: a byte, or the end, is not admitted; the place is its own, which for the end is the text's length
abbrev pub bad_byte : ℕ → Refusal
bad_byte at = record { number = 2; layer = Text; place = at }

-- number 3: a number has a leading zero, or lies out of its range; the place is that of its first digit
abbrev pub bad_number : ℕ → Refusal
bad_number at = record { number = 3; layer = Text; place = at }

-- number 19: the text is too long; the place is the length that it may have
abbrev pub too_long : Refusal
too_long = record { number = 19; layer = Text; place = longest_text }

-- the refusal of each fault
abbrev pub text_refusal : TextFault → Refusal
text_refusal (Byte at) = bad_byte at
text_refusal (Number at) = bad_number at
text_refusal TooLong = too_long
