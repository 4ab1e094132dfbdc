-- When a plan text is accepted, and what it then means.
use Rattle.std.specs.Prelude.{◌≡◌, ℕ, List}
use Rattle.refusal.specs.Told.{answered}
use Rattle.plan.specs.declared.counts.Counts.{Counts}
use Rattle.plan.specs.Format.{TextOf}
use Rattle.plan.specs.Lines.{read_plan}
use Rattle.plan.specs.Plans.{Plan}

-- a text reads as a plan exactly where it is the text of that plan: what is accepted means what it writes, and
-- whatever a plan within the limits writes is accepted
pub record ReadsFormat (text : List ℕ) (room : Counts) : Type 0 where
  pub means : (p : Plan) → read_plan text room ≡ answered p → TextOf p text room
  pub accepted : (p : Plan) → TextOf p text room → read_plan text room ≡ answered p
