-- A belt on which some moves are barred, and how one bar more changes it.
use Rattle.std.specs.Prelude.{◌≡◌, ℕ, zero, suc, ◌+◌, ◌<◌, Bool, cond, not, ◌&&◌, List, [], ◌∷◌, ◌++◌, length, ◌==◌, ◌≢◌, nat_lt}
use Rattle.std.specs.List.{list_any}
use Rattle.refusal.specs.Told.{Told, answered, refused}
use Rattle.plant.specs.declared.bars.Bar.{Bar}
use Rattle.plant.specs.Belts.{Belt, Move, move_count}
use Rattle.plant.specs.Faults.{unknown_pair, last_move, bars_full}

-- whether a pair bars the move that has number k in state s below
abbrev pub bars_it : ℕ → ℕ → Bar → Bool
bars_it s k x = x.state == s && x.number == k

-- whether some pair does
abbrev pub barred : List Bar → ℕ → ℕ → Bool
barred xs s k = list_any (bars_it s k) xs

-- of moves numbered from k on, those whose number is not shut, in their order
abbrev pub open_from : (ℕ → Bool) → ℕ → List Move → List Move
open_from shut k [] = []
open_from shut k (v ∷ vs) = cond (shut k) (open_from shut (k + 1) vs) (v ∷ open_from shut (k + 1) vs)

-- the moves of state s that no pair bars
abbrev pub open_moves : List Bar → Belt → ℕ → List Move
open_moves xs b s = open_from (barred xs s) 0 (b.moves s)

-- the moves that are left: those that are open, or all where none is
abbrev pub left_of : List Move → List Move → List Move
left_of [] all = all
left_of (v ∷ vs) all = v ∷ vs

-- the belt with these pairs barred; it is lawful whatever the pairs are, since no state loses all its moves
abbrev pub barring : List Bar → Belt → Belt
barring xs b = record { count = b.count; start = b.start; goal = b.goal; moves = λ s. left_of (open_moves xs b s) (b.moves s) }

-- whether the belt below has move k in state s, and no pair bars it
abbrev pub open_pair : List Bar → Belt → ℕ → ℕ → Bool
open_pair xs b s k = nat_lt k (move_count b s) && not (barred xs s k)

-- what is told of one bar more: it has to be open, not the last open move of its state, and one of sixteen bars
abbrev pub bar_told : List Bar → Belt → ℕ → ℕ → Told (Unit {0})
bar_told xs b s k =
    cond (open_pair xs b s k)
    (cond (length (open_moves xs b s) == 1) (refused (last_move s)) (cond (length xs == 16) (refused bars_full) (answered tt)))
    (refused (unknown_pair s))

-- the pairs that are held afterwards: a bar that is taken stands behind the others
abbrev pub pairs_after : Told (Unit {0}) → List Bar → ℕ → ℕ → List Bar
pairs_after (answered _) xs s k = xs ++ (record { state = s; number = k } ∷ [])
pairs_after (refused _) xs s k = xs

-- how many of the k moves numbered from i on are not shut
abbrev pub open_before : (ℕ → Bool) → ℕ → ℕ → ℕ
open_before shut i zero = 0
open_before shut i (suc k) = cond (shut i) 0 1 + open_before shut (i + 1) k

-- the number that open move k of state s has once the barred ones are left out
abbrev pub moved_up : List Bar → ℕ → ℕ → ℕ
moved_up xs s k = open_before (barred xs s) 0 k

-- the moves but for the one at place j; those behind it move up
abbrev pub without : ℕ → List Move → List Move
without j [] = []
without zero (v ∷ vs) = vs
without (suc j) (v ∷ vs) = v ∷ without j vs

-- how a belt changes where state s loses its move j, one of several: all else stays
pub record LaneClosed (before after : Belt) (s j : ℕ) : Type 0 where
  pub several : 1 < move_count before s
  pub there : j < move_count before s
  pub here : after.moves s ≡ without j (before.moves s)
  pub others : (t : ℕ) → (t ≢ s) → after.moves t ≡ before.moves t
  pub count : after.count ≡ before.count
  pub start : after.start ≡ before.start
  pub goals : after.goal ≡ before.goal

-- how the meaning changes: a bar that is taken closes one lane, and one that is refused changes nothing
abbrev pub Closes : Told (Unit {0}) → Belt → Belt → ℕ → ℕ → Type 0
Closes (answered _) before after s j = LaneClosed before after s j
Closes (refused _) before after s j = after ≡ before
