-- `joining::join::Join::new` meets its contract: no child gives no part.
use Rattle.joining.proofs.Adding.{no_child}
use Rattle.joining.proofs.join.Join.new.Goals as goal

pub returns : goal.returns
returns c = no_child c.args.kind
