-- One reading after another.
use Rattle.std.proofs.Common.{◌≡◌, ℕ, refl, ap, arith}
use Rattle.refusal.specs.declared.refusal.Refusal.{Refusal}
use Rattle.refusal.specs.Told.{Told, answered, refused, and_then}

-- a reading that is answered goes on with the answer
pub then_answered : {A B : Type 0} {t : Told A} {a : A} (next : A → Told B) → t ≡ answered a → and_then t next ≡ next a
then_answered next e = ap (λ x. and_then x next) e

-- one that is refused is refused whatever follows
pub then_refused : {A B : Type 0} {t : Told A} {r : Refusal} (next : A → Told B) → t ≡ refused r → and_then t next ≡ refused r
then_refused next e = ap (λ x. and_then x next) e

-- a whole that is answered has each part answered
pub then_parts : {A B C : Type 0} (t : Told A) (next : A → Told B) (b : B) → and_then t next ≡ answered b → ((a : A) → t ≡ answered a → next a ≡ answered b → C) → C
then_parts (answered a) next b e go = go a refl e
then_parts (refused r) next b e go = absurd (let z : ◌≡◌ {A = ℕ} 0 1 = cc in omega arith)

-- two answers that are told alike are the same
pub same_answer : {A : Type 0} (a b : A) → ◌≡◌ {A = Told A} (answered a) (answered b) → a ≡ b
same_answer a b e = cc
