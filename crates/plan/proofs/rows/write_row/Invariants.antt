use Rattle.std.proofs.Common.{◌≡◌, ◌-◌}
use Rattle.plan.specs.Forms.{forms_at, more_at}
use Rattle.plan.specs.Tables.{SameTables, held}
use Rattle.plan.proofs.Walked.{walked_all}
use Rattle.plan.proofs.rows.write_row.Given as goal

-- what is left to read and write gives the whole
abbrev pub invariant-loop-form : goal.invariant-loop-form
invariant-loop-form g l =
    let form = g.F.Form in
    let text = l.source.text.now in
    (walked_all form.grow form.put (more_at (form.item text l.source.limits) form.grow (16 - l._form) text l.past.used l.past.next) l.past.used (held l.tables)
    ≡ walked_all form.grow form.put (forms_at (form.item text l.source.limits) form.grow text l.fn.from.used l.fn.from.next) l.fn.from.used (held l.fn.tables))
    × SameTables l.tables l.fn.tables
