-- What a character is.
use Rattle.std.specs.Prelude.{◌≡◌, ℕ, Option, Some, None, ◌+◌, ◌-◌, ◌<◌, false, cond, ◌==◌, ◌≢◌}
use Rattle.std.specs.Char.{is_ascii_digit}
use Rattle.text.specs.declared.marks.Mark.{Mark}
use Rattle.text.specs.declared.marks.Mark.TheVariants.{Sign as Signed, Digit}
use Rattle.text.specs.declared.marks.Sign.{Sign}
use Rattle.text.specs.declared.marks.Sign.TheVariants.{Open, Close, Space, Feed}

-- the byte that a sign is written as
abbrev pub sign_byte : Sign → ℕ
sign_byte Open = 40
sign_byte Close = 41
sign_byte Space = 32
sign_byte Feed = 10

-- the mark of a byte, where it is a sign or a digit
abbrev pub mark : ℕ → Option Mark
mark b =
    cond (b == 40) (Some (Signed Open))
    (cond (b == 41) (Some (Signed Close))
    (cond (b == 32) (Some (Signed Space)) (cond (b == 10) (Some (Signed Feed)) (cond (is_ascii_digit b) (Some (Digit (b - 48))) None))))

-- what a mark says of its byte: a sign is written as that byte, a digit d as 48 + d, and a byte without one is neither
abbrev pub Marked : ℕ → Option Mark → Type 0
Marked b (Some (Signed s)) = b ≡ sign_byte s
Marked b (Some (Digit d)) = (d < 10) × (b ≡ 48 + d)
Marked b None = ((s : Sign) → b ≢ sign_byte s) × (is_ascii_digit b ≡ false)
