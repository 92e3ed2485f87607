-- `tptp_tokens::tokens::is_blank` meets its contract: the same test.
use mathlib.Core.Path.{refl}
use Rattle.model.specs.Bytes.{blank}
use Rattle.tptp_tokens.proofs.tokens.is_blank.Goals as goal

pub returns : goal.returns
unfolding blank
returns c = refl
