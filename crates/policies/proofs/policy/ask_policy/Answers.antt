-- `policies::policy::ask_policy` meets its contract: by the length, and then by what the walk from the root tells.
use mathlib.Core.Path.{ap}
use Rattle.policies.specs.Policy.{placed}
use Rattle.policies.proofs.PolicyWhole.{none, too_long, root-refused, root-short, root-whole}
use Rattle.policies.proofs.policy.ask_policy.Goals as goal

pub returns-then-n-lt1 : goal.returns-then-n-lt1
returns-then-n-lt1 c = none c.args.table.now c.args.policy.now c.if-n-lt1.true

pub returns-then-n-gt-POLICY_LIMIT : goal.returns-then-n-gt-POLICY_LIMIT
returns-then-n-gt-POLICY_LIMIT c = too_long c.args.table.now c.args.policy.now c.if-n-gt-POLICY_LIMIT.true

pub returns-in-Err : goal.returns-in-Err
returns-in-Err c =
    let s = c.args in
    root-refused s.table.now s.policy.now c.if-n-lt1.false c.if-n-gt-POLICY_LIMIT.false c.walk.ensures (ap (placed _) c.in-Err.is)

pub returns-then-root-n : goal.returns-then-root-n
returns-then-root-n c =
    let s = c.args in
    root-short s.table.now s.policy.now c.if-n-lt1.false c.if-n-gt-POLICY_LIMIT.false c.walk.ensures (ap (placed _) c.in-Ok.is)
    c.if-root-n.true

pub returns : goal.returns
returns c =
    let s = c.args in
    root-whole s.table.now s.policy.now c.if-n-lt1.false c.if-n-gt-POLICY_LIMIT.false c.walk.ensures (ap (placed _) c.in-Ok.is)
    c.if-root-n.false
