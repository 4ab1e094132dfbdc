use Rattle.plan.specs.Tables.{held}
use Rattle.plan.proofs.Accepted.{walk_writes}
use Rattle.plan.proofs.check.fill.Goals as goal

pub returns-clause-held : goal.returns-clause-held
returns-clause-held c =
    walk_writes c.args.text.now c.room-room.result (held c.args.tables.now) (held c.walk.new.tables) _ c.in_ok-check_plan.field-0 c.room-room.ensures c.in_ok-check_plan.ensures.answer c.walk.ensures.left
