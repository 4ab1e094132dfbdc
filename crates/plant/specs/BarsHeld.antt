-- What a barring stands for, and how it is read by the numbers of the moves that are not barred.
use Rattle.std.specs.Prelude.{ℕ, Bool, false, not, List, filter, Some, None, Option, slice_index_or}
use Rattle.std.specs.List.{range_with_len}
use Rattle.plant.specs.declared.barring.Barring.{Barring}
use Rattle.plant.specs.Bars.{barring}
use Rattle.plant.specs.Belts.{Belt, Move, move_at, no_move}

-- the belt that the plant below stands for, without what the bars bar
abbrev pub belt_left : {P : Type 0} → (P → Belt) → Barring P → Belt
belt_left meaning p = barring p.bars.items (meaning p.plant)

-- the numbers of the first n moves whose flag is not set, in their order
abbrev pub unset : List Bool → ℕ → List ℕ
unset flags n = filter (λ k. not (slice_index_or flags k false)) (range_with_len 0 n)

-- the move of state s that was found to have this number, where there is one
abbrev pub move_found : Belt → ℕ → Option ℕ → Move
move_found b s None = no_move
move_found b s (Some k) = move_at b s k
