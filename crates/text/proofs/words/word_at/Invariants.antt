use Rattle.std.proofs.Common.{◌≡◌, ◌+◌, ◌<◌, ◌≤◌, length, drop}
use Rattle.text.specs.Words.{word_at}
use Rattle.text.proofs.words.word_at.Given as goal

-- what is left of the word decides, at the place that is reached; past the first byte the text reaches so far
abbrev pub invariant-loop-done : goal.invariant-loop-done
invariant-loop-done l =
    (word_at l.text (l.at + l.done) (drop l.done l.word) ≡ word_at l.text l.at l.word) × (0 < l.done → l.at + l.done ≤ length l.text)
