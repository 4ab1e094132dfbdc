-- The refusals of the layer plant, and the one that each of its faults stands for.
use Rattle.std.specs.Prelude.{ℕ}
use Rattle.refusal.specs.declared.layer.Layer.TheVariants.{Plant}
use Rattle.refusal.specs.declared.refusal.Refusal.{Refusal}
use Rattle.plant.specs.declared.fault.PlantFault.{PlantFault}
use Rattle.plant.specs.declared.fault.PlantFault.TheVariants.{Argument, Unknown, LastMove, Full}

-- number 6: an argument of a maker is out of its range; the place is its index
abbrev pub out_of_range : ℕ → Refusal
out_of_range index = record { number = 6; layer = Plant; place = index }

-- number 7: there is no such move below, or it is barred already; the place is the state
abbrev pub unknown_pair : ℕ → Refusal
unknown_pair state = record { number = 7; layer = Plant; place = state }

-- number 8: it is the last move of its state; the place is the state
abbrev pub last_move : ℕ → Refusal
last_move state = record { number = 8; layer = Plant; place = state }

-- number 9: sixteen bars are held; the place is their number
abbrev pub bars_full : Refusal
bars_full = record { number = 9; layer = Plant; place = 16 }

-- the refusal of each fault
abbrev pub plant_refusal : PlantFault → Refusal
plant_refusal (Argument index) = out_of_range index
plant_refusal (Unknown state) = unknown_pair state
plant_refusal (LastMove state) = last_move state
plant_refusal Full = bars_full
