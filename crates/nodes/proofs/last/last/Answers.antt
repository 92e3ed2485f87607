-- `nodes::last::last` meets its contract: the front words and the two copies are laid one behind another, and are the words of
-- the quantifier with the tuples found.
use native.Mathlib.Omega.{arith}
use Rattle.nodes.proofs.LastLaws.{here_sizes, here_fronts, here-restriction, here-body, remains_long, remains_part}
use Rattle.nodes.proofs.last.last.Goals as goal

pub overflow_mul-start : goal.overflow_mul-start
overflow_mul-start c =
    omega (arith, c.ranges, here_sizes _ _ _ _ _ c.args.placed.count _ _ c.value-v.ensures c.value-m.ensures c.requires.2, c.requires.1)

pub overflow_add-start-2 : goal.overflow_add-start-2
overflow_add-start-2 c =
    omega (arith, c.ranges, here_sizes _ _ _ _ _ c.args.placed.count _ _ c.value-v.ensures c.value-m.ensures c.requires.2, c.requires.1)

pub overflow_add-to : goal.overflow_add-to
overflow_add-to c =
    omega (arith, c.ranges, here_sizes _ _ _ _ _ c.args.placed.count _ _ c.value-v.ensures c.value-m.ensures c.requires.2, c.requires.1)

pub overflow_mul-to : goal.overflow_mul-to
overflow_mul-to c =
    omega (arith, c.ranges, here_sizes _ _ _ _ _ c.args.placed.count _ _ c.value-v.ensures c.value-m.ensures c.requires.2, c.requires.1)

pub overflow_add-to-2 : goal.overflow_add-to-2
overflow_add-to-2 c =
    omega (arith, c.ranges, here_sizes _ _ _ _ _ c.args.placed.count _ _ c.value-v.ensures c.value-m.ensures c.requires.2, c.requires.1)

pub overflow_sub-size : goal.overflow_sub-size
overflow_sub-size c =
    omega (arith, c.ranges, here_sizes _ _ _ _ _ c.args.placed.count _ _ c.value-v.ensures c.value-m.ensures c.requires.2, c.requires.1)

pub overflow_add-size : goal.overflow_add-size
overflow_add-size c =
    omega (arith, c.ranges, here_sizes _ _ _ _ _ c.args.placed.count _ _ c.value-v.ensures c.value-m.ensures c.requires.2, c.requires.1)

pub returns-then-out-size : goal.returns-then-out-size
returns-then-out-size c =
    let a = c.args in
    remains_long _ _ _ _ _ _ _ _ c.value-v.ensures c.value-m.ensures _ a.environment _ c.requires.1 _ c.if-out-size.true

pub front-requires : goal.front-requires
front-requires c =
    here_fronts _ _ _ _ _ _ _ _ c.value-v.ensures c.value-m.ensures _ (omega arith) c.requires.2 _ _ c.requires.1 c.requires.0

pub copy_at-requires : goal.copy_at-requires
copy_at-requires c =
    let h = here_sizes _ _ _ _ _ c.args.placed.count _ _ c.value-v.ensures c.value-m.ensures c.requires.2 in (
      omega arith,
      here-restriction _ _ _ _ _ _ _ _ c.value-v.ensures c.value-m.ensures _ (omega (arith, c.front.auto.out)) c.requires.2,
    )

pub overflow_sub-body : goal.overflow_sub-body
overflow_sub-body c =
    omega (arith, c.ranges, here_sizes _ _ _ _ _ c.args.placed.count _ _ c.value-v.ensures c.value-m.ensures c.requires.2, c.requires.1)

pub overflow_add-to-3 : goal.overflow_add-to-3
overflow_add-to-3 c =
    omega (arith, c.ranges, here_sizes _ _ _ _ _ c.args.placed.count _ _ c.value-v.ensures c.value-m.ensures c.requires.2, c.requires.1)

pub copy_at-requires-2 : goal.copy_at-requires-2
copy_at-requires-2 c =
    let h = here_sizes _ _ _ _ _ c.args.placed.count _ _ c.value-v.ensures c.value-m.ensures c.requires.2 in (
      omega arith,
      here-body _ _ _ _ _ _ _ _ c.value-v.ensures c.value-m.ensures _ (omega (arith, c.front.auto.out, c.copy_at.auto.out)) c.requires.2,
    )

pub returns : goal.returns
returns c =
    let a = c.args in
    remains_part _ _ _ _ _ _ _ _ c.value-v.ensures c.value-m.ensures _ a.environment _ c.requires.1 _ _ _ _
    (omega (arith, c.if-out-size.false)) c.front.auto.out
    (omega (arith, c.front.auto.out, c.copy_at.auto.out))
    (omega (arith, c.front.auto.out, c.copy_at.auto.out, c.copy_at-2.auto.out))
    c.front.ensures c.copy_at.ensures c.copy_at-2.ensures
