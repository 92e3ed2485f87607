-- `instances::choosing::table_serves` meets its contract, by the first test.
use native.Mathlib.Omega.{arith}
use Rattle.std.proofs.lemmas.Bool.Decides.{nat_tests}
use Rattle.instances.specs.Keyed.{serves}
use Rattle.instances.proofs.choosing.table_serves.Goals as goal

pub returns-then-n-gt32 : goal.returns-then-n-gt32
unfolding serves
returns-then-n-gt32 c = grind (arith, nat_tests)

pub returns-else-n-gt32 : goal.returns-else-n-gt32
unfolding serves
returns-else-n-gt32 c = grind (arith, nat_tests)
