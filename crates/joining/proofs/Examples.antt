-- Each shut-out function breaks a law on one row.
use Rattle.std.proofs.Common.{[], ◌∷◌, refl, arith}
use Rattle.joining.specs.Joinings.{mean}
use Rattle.joining.specs.Rows.{Rows}
use Rattle.joining.specs.Worked.{ShutOut}
use Rattle.joining.proofs.Checked.{answered_lawful}

-- three outcomes of weight 1 at figure 100
hundreds : Rows (1 ∷ 1 ∷ 1 ∷ []) (100 ∷ 100 ∷ 100 ∷ [])
hundreds = (answered_lawful mean (1 ∷ 1 ∷ 1 ∷ []) (100 ∷ 100 ∷ 100 ∷ []) 100 refl).rows

pub shut_out : ShutOut
shut_out = record {
  always_zero = λ laws. omega (arith, laws.above_least (1 ∷ 1 ∷ 1 ∷ []) (100 ∷ 100 ∷ 100 ∷ []) hundreds);
  share_by_share = λ laws. omega (arith, laws.below_greatest (1 ∷ 1 ∷ 1 ∷ []) (100 ∷ 100 ∷ 100 ∷ []) hundreds);
}
