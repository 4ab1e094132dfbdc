-- What a load means, and that a plant made from what it left is the plan of the text.
use Rattle.std.specs.Prelude.{◌≡◌, ℕ, List}
use Rattle.refusal.specs.Told.{Told, answered, refused}
use Rattle.plant.specs.Belts.{Belt}
use Rattle.plan.specs.declared.records.PlanHead.{PlanHead}
use Rattle.plan.specs.Format.{TextOf}
use Rattle.plan.specs.Lines.{head_of}
use Rattle.plan.specs.Plans.{Plan, LawfulPlan, plan_belt}
use Rattle.plan.specs.Records.{Records, loaded}
use Rattle.plan.specs.Tables.{room_of}
use Rattle.tables.specs.Clamped.{table_belt}

-- a plan was loaded: it is the one that the text is the text of, its head was answered, its records stand in the
-- tables, and with the head they are the belt that the plan stands for
pub record Loaded (p : Plan) (text : List ℕ) (before : Records) (head : PlanHead) (after : Records) : Type 0 where
  pub text_of : TextOf p text (room_of before)
  pub head_is : head ≡ head_of p
  pub tables : after ≡ loaded p before
  pub belt : table_belt head.count head.start after ≡ plan_belt p

-- no plan was loaded: the tables are as they were, and the text is that of no plan with room in them
pub record NotLoaded (text : List ℕ) (before after : Records) : Type 0 where
  pub tables : after ≡ before
  pub none : (p : Plan) → TextOf p text (room_of before) → ⊥

-- what a load means, by what it told
abbrev pub Loads : List ℕ → Records → Told PlanHead → Records → Type 0
Loads text before (answered head) after = (p : Plan) × Loaded p text before head after
Loads text before (refused _) after = NotLoaded text before after

-- a head and records that a load of a plan left make the belt of that plan
pub record MakesPlan (head : PlanHead) (records : Records) (belt : Belt) : Type 0 where
  pub of_plan : (p : Plan) (before : Records) → LawfulPlan p → head ≡ head_of p → records ≡ loaded p before → belt ≡ plan_belt p
