-- The terms of an atom of a policy that was read.
use Prim.Native.Nat.{ℕ, ◌+◌}
use native.Mathlib.Omega.{arith}
use mathlib.Core.Path.{◌≡◌, ap, subst}
use mathlib.Core.Bool.{Bool}
use lib.ListN.{length}
use lib.IntN.{nat_abs}
use Rattle.model.specs.Words.{Words, word, value}
use Rattle.model.specs.Tag.{Tag, tag_of}
use Rattle.model.specs.Level.{restriction}
use Rattle.model.specs.Tree.{Tree}
use Rattle.laws.specs.Reading.Formed.{Formed}
use Rattle.laws.specs.Reading.Nodes.{Node}
use Rattle.laws.specs.Reading.Parts.{atom-parts}
use Rattle.policies.specs.Standing.{Here}
use Rattle.policies.proofs.Standing.{has}
use Rattle.listing.specs.Restrictions.{TermsThere}

-- the atom at an index of a policy that was read has a term, and its terms are there
pub terms-there :
    (table words : Words) (above scope at : ℕ) (b : Bool) →
    Tag.atom b ≡ tag_of (word words at) →
    Here table words restriction above scope at →
    TermsThere words at
unfolding Formed value
terms-there table words above scope at b e (c, next, node) =
    let (p, ts, is) = has table words restriction above scope at (Tag.atom b) e c next node in
    let node' = subst (λ (t : Tree). Node table words restriction above scope at t next) is node in
    let a = atom-parts table words restriction above scope at next b p ts node' in
    let n : value words (at + 2) ≡ length ts = ap nat_abs a.number in
    (omega (arith, n, node'.formed.2), omega (arith, n, a.ends, node'.stands.fits))
