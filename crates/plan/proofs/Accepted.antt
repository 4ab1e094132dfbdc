-- A text is accepted exactly where it is that of a plan, and its records are then written.
use Rattle.std.proofs.Common.{◌≡◌, ℕ, ◌≤◌, List, length, refl, ap, ◌∙◌, subst, arith}
use Rattle.refusal.specs.Told.{Told, answered, refused, and_then}
use Rattle.text.specs.Faults.{longest_text}
use Rattle.text.proofs.Steps.{same_answer}
use Rattle.plan.specs.declared.counts.Counts.{Counts}
use Rattle.plan.specs.declared.records.PlanHead.{PlanHead}
use Rattle.plan.specs.Accepted.{ReadsFormat}
use Rattle.plan.specs.Format.{TextOf}
use Rattle.plan.specs.Lines.{head_of, read_plan}
use Rattle.plan.specs.Plans.{Plan}
use Rattle.plan.specs.Records.{Records, records_after}
use Rattle.plan.specs.Tables.{room_of}
use Rattle.plan.specs.Walk.{Left, left, read_whole}
use Rattle.plan.proofs.Complete.{plan_complete}
use Rattle.plan.proofs.Counted.{each_fits, plan_fits}
use Rattle.plan.proofs.Limits.{lines_lawful, plan_lawful}
use Rattle.plan.proofs.Placed.{plan_put}
use Rattle.plan.proofs.Sound.{plan_sound}

pub accepted_means : (text : List ℕ) (room : Counts) (p : Plan) → read_plan text room ≡ answered p → TextOf p text room
accepted_means text room p e =
    let k = plan_sound text room p e in
    record { written = k.0; short = k.1; lawful = plan_lawful p k.5 k.6 k.2 k.3 k.4; fits = plan_fits room p k.7 }

pub reads_format : (text : List ℕ) (room : Counts) → ReadsFormat text room
reads_format text room = record {
  means = accepted_means text room;
  accepted = λ p t.
      ap (λ (x : List ℕ). read_plan x room) t.written
      ∙ plan_complete p room (subst (λ (x : List ℕ). length x ≤ longest_text) t.written t.short) t.lawful.belt.some t.lawful.belt.few t.lawful.belt.starts t.lawful.lines
      (lines_lawful p t.lawful) (each_fits room p t.fits);
}

-- what a walk told, without what it left
pub walk_told : (read : Told Plan) (t : Told PlanHead) (before after : Records) → left t after ≡ read_whole read before → t ≡ and_then read (λ p. answered (head_of p))
walk_told (answered p) (answered h) before after e = ap (λ (x : Left PlanHead). answered x.answer) (same_answer _ _ e)
walk_told (answered p) (refused f) before after e = absurd (let z : ◌≡◌ {A = ℕ} 0 1 = cc in omega arith)
walk_told (refused f) (answered h) before after e = absurd (let z : ◌≡◌ {A = ℕ} 0 1 = cc in omega arith)
walk_told (refused f) (refused g) before after e = let same : g ≡ f = cc in ap refused same

-- the second walk, over a text that was accepted, writes the plan
pub walk_writes : (text : List ℕ) (room : Counts) (before after : Records) (t : Told PlanHead) (h : PlanHead) → room ≡ room_of before → answered h ≡ and_then (read_plan text room) (λ p. answered (head_of p))
    → left t after ≡ read_whole (read_plan text room) before → after ≡ records_after (read_plan text (room_of before)) before
walk_writes text room before after t h has known e =
    by (read_plan text (room_of before)) refl
    (subst (λ r. answered h ≡ and_then (read_plan text r) (λ p. answered (head_of p))) has known)
    (subst (λ r. left t after ≡ read_whole (read_plan text r) before) has e)
  where
    by : (read : Told Plan) → read_plan text (room_of before) ≡ read → answered h ≡ and_then read (λ p. answered (head_of p)) → left t after ≡ read_whole read before → after ≡ records_after read before
    by (answered p) is ok whole = written p t is whole
      where
        written : (p : Plan) (t : Told PlanHead) → read_plan text (room_of before) ≡ answered p → left t after ≡ read_whole (answered p) before → after ≡ records_after (answered p) before
        written p (answered h) is whole = ap (λ (x : Left PlanHead). x.held) (same_answer _ _ whole) ∙ plan_put p before (accepted_means text (room_of before) p is).fits
        written p (refused f) is whole = absurd (let z : ◌≡◌ {A = ℕ} 0 1 = cc in omega arith)
    by (refused f) is ok whole = absurd (let z : ◌≡◌ {A = ℕ} 0 1 = cc in omega arith)
