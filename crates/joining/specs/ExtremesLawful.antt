-- The worst and the best keep the laws; proofs only.
use Rattle.std.proofs.Common.{arith}
use Rattle.joining.specs.Laws.{Lawful}
use Rattle.joining.specs.Joinings.{worst, best}
use Rattle.joining.specs.Extremes.{least_rises, greatest_rises, least_greatest}
use Rattle.joining.specs.RowFacts.{row_facts}

pub worst_lawful : Lawful worst
worst_lawful = record {
  above_least = λ ws fs r. let row = row_facts ws fs r in least_greatest fs (omega arith);
  below_greatest = λ ws fs r. omega arith;
  monotone = λ ws fs gs r s n.
      let row = row_facts ws fs r in let next = row_facts ws gs s in
      greatest_rises fs gs (omega arith) (omega arith) n;
}

pub best_lawful : Lawful best
best_lawful = record {
  above_least = λ ws fs r. omega arith;
  below_greatest = λ ws fs r. let row = row_facts ws fs r in least_greatest fs (omega arith);
  monotone = λ ws fs gs r s n.
      let row = row_facts ws fs r in let next = row_facts ws gs s in
      least_rises fs gs (omega arith) (omega arith) n;
}
