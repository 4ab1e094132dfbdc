use Rattle.std.proofs.Common.{◌+◌, ◌-◌, ◌∙◌, arith, rules}
use Rattle.plan.specs.Tables.{held}
use Rattle.plan.proofs.Walked.{line_walked}
use Rattle.plan.proofs.walk.Source.write_lines.Goals as goal

pub loop-line-preserved : goal.loop-line-preserved
loop-line-preserved c =
    let source = c.args.self.now in
    let left = source.limits.states - c.loop-line._line in (
      line_walked source.text.now source.limits left (source.limits.states - (c.loop-line._line + 1)) c.loop-line.past.used c.loop-line.past.next (held c.loop-line.tables) c.in_ok-past.past (held c.write_line.new.tables) (omega arith) c.in_ok-past.ensures.left
          ∙ c.loop-line.invariant.0,
      search rules,
    )
