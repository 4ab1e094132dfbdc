-- The moves of a state that are not barred, by their numbers.
use Rattle.std.proofs.Common.{◌≡◌, ℕ, zero, suc, ◌+◌, ◌<◌, ◌≤◌, Bool, false, not, List, [], ◌∷◌, length, get_or, map, filter, Some, None, slice_get, slice_index_or, sym, refl, ap, ◌∙◌, arith}
use Rattle.std.specs.List.{range_with_len}
use Rattle.std.proofs.lemmas.Bool.Decides.{nat_tests}
use Rattle.std.proofs.lemmas.List.{length-map, nil_from_length}
use Rattle.std.proofs.lemmas.List.Filters.{length-filter_both}
use Rattle.std.proofs.lemmas.List.FromFn.{length-range_with_len}
use Rattle.std.proofs.lemmas.Option.{slice_get_within}
use Rattle.plant.specs.declared.bars.Bar.{Bar}
use Rattle.plant.specs.Belts.{Belt, Move, no_move, move_count, move_at}
use Rattle.plant.specs.Laws.{LawfulBelt}
use Rattle.plant.specs.Bars.{barred, open_from, open_moves, left_of, barring}
use Rattle.plant.specs.BarsHeld.{unset, move_found}

pub left_open : (xs all : List Move) → 1 ≤ length xs → left_of xs all ≡ xs
left_open [] all h = absurd (omega arith)
left_open (x ∷ xs) all h = refl

pub left_all : (xs all : List Move) → length xs ≡ 0 → left_of xs all ≡ all
left_all [] all h = refl
left_all (x ∷ xs) all h = absurd (omega arith)

-- the move at a place of some numbers of moves
found_at : (b : Belt) (s : ℕ) (ns : List ℕ) (n : ℕ) → get_or (map (move_at b s) ns) n no_move ≡ move_found b s (slice_get ns n)
found_at b s [] n = refl
found_at b s (k ∷ ns) zero = refl
found_at b s (k ∷ ns) (suc n) = found_at b s ns n

-- the numbers that are not shut are as many as all but those that are
pub unset_count : (flags : List Bool) (n : ℕ) → length (filter (λ k. slice_index_or flags k false) (range_with_len 0 n)) + length (unset flags n) ≡ n
unset_count flags n = length-filter_both (λ k. slice_index_or flags k false) (λ k. not (slice_index_or flags k false)) (λ k. refl) (range_with_len 0 n) ∙ length-range_with_len 0 n

-- a list of numbers with no first one is empty
no_first : (ns : List ℕ) → slice_get ns 0 ≡ None → length ns ≡ 0
no_first [] e = refl
no_first (k ∷ ns) e = absurd (let z : ⊥ = grind (arith) in z)

module _ (flags : List Bool) (shut : ℕ → Bool) (same : (k : ℕ) → k < 16 → get_or flags k false ≡ shut k) where
  abbrev unset_from : ℕ → ℕ → List ℕ
  unset_from i n = filter (λ k. not (get_or flags k false)) (range_with_len i n)

  -- the open moves are those at the numbers whose flag is not set
  open_by : (f : ℕ → Move) (i : ℕ) (vs : List Move) → i + length vs ≤ 16 → ((j : ℕ) → get_or vs j no_move ≡ f (i + j)) → open_from shut i vs ≡ map f (unset_from i (length vs))
  open_by f i [] few at = refl
  open_by f i (v ∷ vs) few at =
      let here : v ≡ f i = at 0 ∙ ap f (omega arith) in
      let more = open_by f (i + 1) vs (omega arith) (λ j. at (suc j) ∙ ap f (omega arith)) in
      let flag = same i (omega arith) in
      grind (arith, nat_tests)

-- a state's open moves by the flags that the code reads, and by so many numbers as the code asks for
module _ (flags : List Bool) (held : List Bar) (n : ℕ) (xs : List Bar) (b : Belt) (s : ℕ) (laws : LawfulBelt b) (is : held ≡ xs) (same : (k : ℕ) → k < 16 → get_or flags k false ≡ barred held s k) (count : n ≡ move_count b s) where
  open_is : open_moves xs b s ≡ map (move_at b s) (unset flags n)
  open_is =
      let few = laws.moves_few s in
      rw (sym is, count) (open_by flags (barred held s) same (move_at b s) 0 (b.moves s) (omega arith) (λ j. ap (move_at b s) (omega arith)))

  pub open_length : length (open_moves xs b s) ≡ length (unset flags n)
  open_length = ap length open_is ∙ length-map (unset flags n) (move_at b s)

  -- where none is open, all are left
  pub found_all : (m : ℕ) → length (unset flags n) ≡ 0 → move_at (barring xs b) s m ≡ move_at b s m
  found_all m none = ap (λ (vs : List Move). get_or vs m no_move) (left_all (open_moves xs b s) (b.moves s) (open_length ∙ none))

  pub found_open : (m : ℕ) → (length (unset flags n) ≡ 0 → ⊥) → move_at (barring xs b) s m ≡ move_found b s (slice_get (unset flags n) m)
  found_open m some =
      ap (λ (vs : List Move). get_or vs m no_move) (left_open (open_moves xs b s) (b.moves s) (omega (arith, open_length)) ∙ open_is)
      ∙ found_at b s (unset flags n) m

  -- none is open where there is no first one
  pub open_none : (m : ℕ) → slice_get (unset flags n) 0 ≡ None → move_at (barring xs b) s m ≡ move_at b s m
  open_none m none = found_all m (no_first (unset flags n) none)

  -- and some are where there is a first one
  pub open_first : (m k : ℕ) → slice_get (unset flags n) 0 ≡ Some k → move_at (barring xs b) s m ≡ move_found b s (slice_get (unset flags n) m)
  open_first m k is = found_open m (λ none. absurd (let z : ⊥ = omega (arith, slice_get_within (unset flags n) 0 k is) in z))

  pub found_some : (m k : ℕ) → slice_get (unset flags n) m ≡ Some k → move_at (barring xs b) s m ≡ move_at b s k
  found_some m k is =
      found_open m (λ none. absurd (let e = nil_from_length (unset flags n) none in let z : ◌≡◌ {A = ℕ} 0 1 = cc in omega arith)) ∙ ap (move_found b s) is
