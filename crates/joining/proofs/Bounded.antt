-- What a joining answers is a figure again.
use Rattle.std.proofs.Common.{◌≡◌, ℕ, ◌≤◌, List, arith}
use Rattle.refusal.specs.Told.{answered}
use Rattle.joining.specs.Extremes.{greatest_is}
use Rattle.joining.specs.Laws.{Lawful}
use Rattle.joining.specs.RowFacts.{row_facts}
use Rattle.joining.specs.Rows.{joined}
use Rattle.joining.proofs.Checked.{answered_lawful}

-- the greatest figure of lawful rows is at most 1,000,000,000, and no answer exceeds it
pub answer_bounded : (join : List ℕ → List ℕ → ℕ) → Lawful join → (ws fs : List ℕ) (x : ℕ) → answered x ≡ joined join ws fs → x ≤ 1000000000
answer_bounded join laws ws fs x e =
    let answer = answered_lawful join ws fs x e in
    let row = row_facts ws fs answer.rows in
    let at = (greatest_is fs (omega arith)).stands in
    omega (arith, laws.below_greatest ws fs answer.rows, row.bounded at.0 at.1)
