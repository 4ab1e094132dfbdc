use Rattle.std.proofs.Common.{rules}
use Rattle.joining.specs.Judged.{FirstBad}
use Rattle.joining.specs.Rows.{Rows}
use Rattle.joining.proofs.Checked.{first_bad_refused, lawful_answered}
use Rattle.joining.proofs.rows.check_rows.Goals as goal

pub returns-in-Some : goal.returns-in-Some
returns-in-Some c =
    let bad : FirstBad c.args.weights.now c.args.figures.now c.in-Some.place = search rules in
    record { answer = first_bad_refused _ _ _ _ bad; means = bad }

pub returns-in-None : goal.returns-in-None
returns-in-None c =
    let rows : Rows c.args.weights.now c.args.figures.now = search rules in
    record { answer = lawful_answered _ _ _ rows; means = rows }
