-- `vitrinehawk::tell` meets its contract, case by case.
use native.Mathlib.Omega.{arith}
use mathlib.Core.Path.{ap}
use Rattle.model.specs.Answer.{number}
use Rattle.vitrinehawk.specs.Detail.{detailed}
use Rattle.vitrinehawk.proofs.tell.Goals as goal

pub returns-in-Ok : goal.returns-in-Ok
unfolding number detailed
returns-in-Ok c =
    record {
      value = omega (arith, ap number c.in-Ok.is);
      detail_after = omega (arith, ap detailed c.in-Ok.is);
    }

pub returns-in-Err : goal.returns-in-Err
unfolding number detailed
returns-in-Err c =
    record {
      value = omega (arith, c.from.ensures, ap number c.in-Err.is);
      detail_after = omega (arith, ap detailed c.in-Err.is);
    }
