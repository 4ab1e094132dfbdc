-- The refusal that each fault of a joining stands for.
use Rattle.refusal.specs.declared.refusal.Refusal.{Refusal}
use Rattle.joining.specs.declared.fault.JoiningFault.{JoiningFault}
use Rattle.joining.specs.declared.fault.JoiningFault.TheVariants.{Lengths, Pair}
use Rattle.joining.specs.Rows.{bad_rows}

-- lengths are refused at place 0, a pair at its own
abbrev pub joining_refusal : JoiningFault → Refusal
joining_refusal Lengths = bad_rows 0
joining_refusal (Pair place) = bad_rows place
