-- `tptp_writing::write_tree` meets its contract: what stands before the policy's node, this, and what stands behind it.
use Rattle.std.proofs.Common.{rules}
use Rattle.model.specs.Bytes.{bytes}
use Rattle.tptp_writing.proofs.PolicyLaws.{policy-here, policy-writes}
use Rattle.tptp_writing.proofs.write_tree.Goals as goal

pub node-requires : goal.node-requires
node-requires c =
    let (tree, read) = c.requires in
    policy-here c.args.table.now c.args.policy.now tree read

pub returns : goal.returns
unfolding bytes
returns c = λ tree read.
    let node = c.node.ensures (policy-here c.args.table.now c.args.policy.now tree read) in
    policy-writes c.args.table.now c.args.policy.now tree read c.new-w.ensures c.bytes.ensures node c.bytes-2.ensures (search rules)
