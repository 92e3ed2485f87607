-- The number of a refusal is its question's: by cases on the refusal.
use Rattle.std.proofs.Common.{arith, ◌≡◌, ◌+◌, ◌≤◌}
use mathlib.Core.Path.{refl}
use Rattle.model.specs.Answer.{question}
use Rattle.model.specs.declared.Refusal.{Refusal}
use Rattle.model.specs.declared.Refusal.TheVariants.{Table, PolicyLength, Shape, Level, Predicate, Variable, Mode, LogLength, Row}
use Rattle.model.specs.declared.Refusal.TheVariants.{Repeat, Scratch, Room, Csv, Record, Tptp}
use Rattle.model.proofs.U32FromRefusal.from.Goals as goal

numbered : (r : Refusal) → denote.Enum.Declared.tag_of Rattle.model.specs.contracts.Refusal.the_type r + 1 ≡ question r
unfolding question
numbered Table = refl
numbered PolicyLength = refl
numbered Shape = refl
numbered Level = refl
numbered Predicate = refl
numbered Variable = refl
numbered Mode = refl
numbered LogLength = refl
numbered Row = refl
numbered Repeat = refl
numbered Scratch = refl
numbered Room = refl
numbered Csv = refl
numbered Record = refl
numbered Tptp = refl

few : (r : Refusal) → question r ≤ 15
unfolding question
few Table = omega arith
few PolicyLength = omega arith
few Shape = omega arith
few Level = omega arith
few Predicate = omega arith
few Variable = omega arith
few Mode = omega arith
few LogLength = omega arith
few Row = omega arith
few Repeat = omega arith
few Scratch = omega arith
few Room = omega arith
few Csv = omega arith
few Record = omega arith
few Tptp = omega arith

pub returns : goal.returns
returns c = omega (arith, numbered c.args.refusal, few c.args.refusal)
