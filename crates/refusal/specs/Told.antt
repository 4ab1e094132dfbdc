-- What a call tells its caller.
use Rattle.std.specs.Prelude.{Ok, Err, Result}
use Rattle.refusal.specs.declared.refusal.Refusal.{Refusal}

-- a call is answered or refused
pub data Told (A : Type 0) : Type 0 where
  answered : A → Told A
  refused : Refusal → Told A

-- what a result tells, where `refusal` gives each fault its number, layer and place
abbrev pub told : {A F : Type 0} → (F → Refusal) → Result A F → Told A
told refusal (Ok answer) = answered answer
told refusal (Err fault) = refused (refusal fault)

-- a call and then another that takes its answer; the first refusal is told
abbrev pub and_then : {A B : Type 0} → Told A → (A → Told B) → Told B
and_then (answered answer) next = next answer
and_then (refused refusal) next = refused refusal

-- what a result tells, where of an answer only what it means is told
abbrev pub told_as : {A B F : Type 0} → (A → B) → (F → Refusal) → Result A F → Told B
told_as meaning refusal result = and_then (told refusal result) (λ answer. answered (meaning answer))
