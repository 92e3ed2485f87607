-- The tags of nodes. Where two tags are each other's dual, a Bool tells them apart, true for the first of the two.
use Rattle.std.specs.Prelude.{Bool, true, false, List, [], ◌∷◌, get_or, ℤ, pos, negsuc}

pub data Tag : Type 0 where
  plain : Bool → Tag
  atom : Bool → Tag
  compare : Bool → Tag
  join : Bool → Tag
  quantifier : Bool → Tag
  some : Tag
  unused : Tag

-- the tags 0 to 10: plain false and true; the atom holds, fails; t1 + d ≤ t2, t1 + d > t2; all of, any of; for all, exists; some
unfoldable pub tags : List Tag
tags =
    plain false
    ∷ plain true
    ∷ atom true
    ∷ atom false
    ∷ compare true
    ∷ compare false
    ∷ join true
    ∷ join false
    ∷ quantifier true
    ∷ quantifier false
    ∷ some
    ∷ []

-- the tag that a word stands for
unfoldable pub tag_of : ℤ → Tag
tag_of (pos n) = get_or tags n unused
tag_of (negsuc n) = unused
