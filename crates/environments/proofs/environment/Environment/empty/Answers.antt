-- `environments::environment::Environment::empty` meets its contract: both sides compute to sixteen zeros and no mark.
use mathlib.Core.Path.{refl}
use Rattle.model.specs.Lists.{span}
use Rattle.model.specs.Listing.{outer, number_in}
use Rattle.environments.specs.Environment.{is_bound, numbers_of, marks_of}
use Rattle.environments.proofs.environment.Environment.empty.Goals as goal

pub returns : goal.returns
unfolding numbers_of span number_in outer marks_of is_bound
returns c = (record { numbers = refl; marks = refl }, record { numbers = refl; marks = refl })
