use Rattle.std.proofs.Common.{◌≡◌, ◌-◌}
use Rattle.plan.specs.Lines.{grow_line, lines_at}
use Rattle.plan.specs.Tables.{SameTables, held}
use Rattle.plan.specs.Walk.{put_line}
use Rattle.plan.proofs.Walked.{walked_all}
use Rattle.plan.proofs.walk.Source.write_lines.Given as goal

-- what is left to read and write gives the whole
abbrev pub invariant-loop-line : goal.invariant-loop-line
invariant-loop-line l =
    let states = l.self.limits.states in
    let text = l.self.text.now in
    (walked_all grow_line put_line (lines_at (states - l._line) text l.self.limits l.past.used l.past.next) l.past.used (held l.tables)
    ≡ walked_all grow_line put_line (lines_at states text l.self.limits l.fn.from.used l.fn.from.next) l.fn.from.used (held l.fn.tables))
    × SameTables l.tables l.fn.tables
