-- The refusals of the layer plan, and the one that each fault of a plan text stands for.
use Rattle.std.specs.Prelude.{ℕ}
use Rattle.refusal.specs.declared.layer.Layer.TheVariants.{Plan}
use Rattle.refusal.specs.declared.refusal.Refusal.{Refusal}
use Rattle.text.specs.Faults.{text_refusal}
use Rattle.plan.specs.declared.fault.PlanFault.{PlanFault}
use Rattle.plan.specs.declared.fault.PlanFault.TheVariants.{Text, State, Full}

-- number 4: a state number is not below the count, or not the one that is due; the place is that of its first digit
abbrev pub bad_state : ℕ → Refusal
bad_state at = record { number = 4; layer = Plan; place = at }

-- number 5: a record finds no place in its table; the place is that of its opening bracket
abbrev pub table_full : ℕ → Refusal
table_full at = record { number = 5; layer = Plan; place = at }

-- the refusal of each fault: one that began in the text keeps the text's
abbrev pub plan_refusal : PlanFault → Refusal
plan_refusal (Text fault) = text_refusal fault
plan_refusal (State at) = bad_state at
plan_refusal (Full at) = table_full at
