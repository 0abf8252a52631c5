use native.Mathlib.Omega.{arith}
use Rattle.cases_mend.proofs.list_is.Goals as goal
use Rattle.cases_mend.proofs.list_is.Goals.{then-rest-eq1+else-at-gt3+else-list-at, else-rest-eq1}

pub loop-k-preserved : goal.loop-k-preserved
loop-k-preserved c =
    elim c.if-rest-eq1.branch [
      | then-rest-eq1+else-at-gt3+else-list-at w ↦ omega arith
      | else-rest-eq1 w ↦ omega arith
    ]
