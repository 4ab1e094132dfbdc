-- Signs and words at a place of a text.
use Rattle.std.specs.Prelude.{ℕ, ◌+◌, Bool, cond, ◌&&◌, List, [], ◌∷◌, length, ◌==◌, nat_lt, slice_index}
use Rattle.refusal.specs.Told.{Told, answered, refused}
use Rattle.text.specs.declared.marks.Sign.{Sign}
use Rattle.text.specs.Faults.{bad_byte}
use Rattle.text.specs.Marks.{sign_byte}

-- the byte b stands at a place
abbrev pub is_at : List ℕ → ℕ → ℕ → Bool
is_at text at b = nat_lt at (length text) && slice_index text at == b

-- a word is due at a place: the place after it, or the first byte that is another is refused
abbrev pub word_at : List ℕ → ℕ → List ℕ → Told ℕ
word_at text at [] = answered at
word_at text at (b ∷ bs) = cond (is_at text at b) (word_at text (at + 1) bs) (refused (bad_byte at))

-- a sign is due at a place: a word of one byte
abbrev pub sign_at : List ℕ → ℕ → Sign → Told ℕ
sign_at text at s = word_at text at (sign_byte s ∷ [])
