-- `nodes::ground::stay` meets its contract: the atom has three words and two for each term, and its copy has as many.
use native.Mathlib.Omega.{arith}
use Rattle.nodes.proofs.GroundLaws.{stay_fits, stay_room, stays_long, stays_part, stays_closed}
use Rattle.nodes.proofs.ground.stay.Goals as goal

pub overflow_mul-size : goal.overflow_mul-size
overflow_mul-size c = omega (arith, stay_fits _ _ _ c.value.ensures c.requires.1)

pub overflow_add-size : goal.overflow_add-size
overflow_add-size c = omega (arith, stay_fits _ _ _ c.value.ensures c.requires.1)

pub returns-then-out-size : goal.returns-then-out-size
returns-then-out-size c = stays_long _ _ _ c.value.ensures c.args.environment c.args.scope _ c.if-out-size.true

pub copy_words-requires : goal.copy_words-requires
copy_words-requires c = (omega (arith, stay_fits _ _ _ c.value.ensures c.requires.1), omega (arith, c.if-out-size.false))

pub returns-then-scope-eq0 : goal.returns-then-scope-eq0
returns-then-scope-eq0 c =
    stays_closed _ _ _ c.value.ensures c.args.environment c.args.scope _ _ c.if-scope-eq0.true (omega (arith, c.if-out-size.false))
    c.copy_words.auto.out c.copy_words.ensures

pub copy-requires : goal.copy-requires
copy-requires c = (c.requires.0, stay_room _ _ _ c.value.ensures _ (omega (arith, c.if-out-size.false)) c.requires.1)

pub returns : goal.returns
returns c =
    stays_part _ _ _ c.value.ensures c.args.environment c.args.scope _ _ c.requires.0 (omega (arith, c.if-out-size.false))
    c.copy.auto.out c.copy.ensures
