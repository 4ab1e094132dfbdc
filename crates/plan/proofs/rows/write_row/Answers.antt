use Rattle.std.proofs.Common.{◌≡◌, ◌+◌, ◌-◌, ◌<◌, false, ◌⊎◌, sym, ◌∙◌, inl, inr, arith, rules}
use Rattle.text.specs.declared.marks.Sign.TheVariants.{Space}
use Rattle.text.specs.Marks.{sign_byte}
use Rattle.text.specs.Words.{is_at}
use Rattle.plan.specs.Tables.{held}
use Rattle.plan.proofs.Walked.{first_walked, more_walked, more_refused, end_walked, end_refused}
use Rattle.plan.proofs.rows.write_row.Goals as goal
use Rattle.plan.proofs.rows.write_row.Goals.{else-loop-form-test, then-loop-form-test+then-not-is_sign}

pub loop-form-init : goal.loop-form-init
loop-form-init g c =
    let form = g.F.Form in
    let text = c.args.source.now.text.now in (
      first_walked form.grow form.put (form.item text c.args.source.now.limits) text c.args.from.used c.args.from.next c.in_ok-next.next (held c.args.tables.now) c.in_ok-past.past (held c.write.new.tables) c.in_ok-next.ensures c.in_ok-past.ensures.left,
      search rules,
    )

pub loop-form-preserved : goal.loop-form-preserved
loop-form-preserved g c =
    let form = g.F.Form in
    let text = c.args.source.now.text.now in (
      more_walked form.grow form.put (form.item text c.args.source.now.limits) text (16 - c.loop-form._form) (16 - (c.loop-form._form + 1)) c.loop-form.past.used c.loop-form.past.next (held c.loop-form.tables) c.in_ok-past-2.past (held c.write-in-loop-form.new.tables) (omega arith) (sym c.if-not-is_sign.ensures) c.in_ok-past-2.ensures.left
          ∙ c.loop-form.invariant.0,
      search rules,
    )

pub returns-in_err-past-2 : goal.returns-in_err-past-2
returns-in_err-past-2 g c =
    let form = g.F.Form in
    let text = c.args.source.now.text.now in
    let some : 0 < 16 - c.loop-form._form = omega arith in
    let h = more_refused form.grow form.put (form.item text c.args.source.now.limits) text (16 - c.loop-form._form) c.loop-form.past.used c.loop-form.past.next (held c.loop-form.tables) _ some (sym c.if-not-is_sign.ensures) c.in_err-past-2.ensures.left
    ∙ c.loop-form.invariant.0 in
    search rules

pub returns-in_err-next-2 : goal.returns-in_err-next-2
returns-in_err-next-2 g c =
    let form = g.F.Form in
    let text = c.args.source.now.text.now in
    let over : (16 - c.loop-form._form ≡ 0) ⊎ (is_at text c.loop-form.past.next (sign_byte Space) ≡ false) =
    elim c.loop-form-test.branch [
      | else-loop-form-test w ↦ inl (omega arith)
      | then-loop-form-test+then-not-is_sign w ↦ inr (sym w.if-not-is_sign.ensures)
    ] in
    let h = end_refused form.grow form.put (form.item text c.args.source.now.limits) text (16 - c.loop-form._form) c.loop-form.past.used c.loop-form.past.next (held c.loop-form.tables) _ over c.in_err-next-2.ensures
    ∙ c.loop-form.invariant.0 in
    search rules

pub returns : goal.returns
returns g c =
    let form = g.F.Form in
    let text = c.args.source.now.text.now in
    let over : (16 - c.loop-form._form ≡ 0) ⊎ (is_at text c.loop-form.past.next (sign_byte Space) ≡ false) =
    elim c.loop-form-test.branch [
      | else-loop-form-test w ↦ inl (omega arith)
      | then-loop-form-test+then-not-is_sign w ↦ inr (sym w.if-not-is_sign.ensures)
    ] in
    let h = end_walked form.grow form.put (form.item text c.args.source.now.limits) text (16 - c.loop-form._form) c.loop-form.past.used c.loop-form.past.next c.in_ok-next-2.next (held c.loop-form.tables) over c.in_ok-next-2.ensures
    ∙ c.loop-form.invariant.0 in
    record { left = h; same = search rules }
