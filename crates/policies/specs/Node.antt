-- What the code's tags and roles say, as those of model; and the questions at one node.
use Rattle.std.specs.Prelude.{ℕ, ◌+◌, ◌≤◌, ◌≡◌, Bool, ◌&&◌, length, leb}
use Rattle.model.specs.Words.{Words}
use Rattle.model.specs.Reading.{own, good_predicate}
use Rattle.model.specs.Tag as M
use Rattle.model.specs.Level as L
use Rattle.policies.specs.declared.node.Tag.{Tag}
use Rattle.policies.specs.declared.node.Tag.TheVariants.{Plain, Atom, Compare, Join, Quantifier, Some, Unused}
use Rattle.policies.specs.declared.node.Role.{Role}
use Rattle.policies.specs.declared.node.Role.TheVariants.{Restriction, Formula, Operand}

abbrev pub as_tag : (tag : Tag) → M.Tag
as_tag (Plain b) = M.Tag.plain b
as_tag (Atom b) = M.Tag.atom b
as_tag (Compare b) = M.Tag.compare b
as_tag (Join b) = M.Tag.join b
as_tag (Quantifier b) = M.Tag.quantifier b
as_tag Some = M.Tag.some
as_tag Unused = M.Tag.unused

abbrev pub as_role : (role : Role) → L.Role
as_role Restriction = L.Role.restriction
as_role Formula = L.Role.formula
as_role (Operand b) = L.Role.operand b

-- question 3 at a node: its own words are in range, and there
abbrev pub shapely : (words : Words) (tag : M.Tag) (role : L.Role) (scope at : ℕ) → Bool
shapely words tag role scope at =
    (own words tag role scope at).shape && leb (at + (own words tag role scope at).size) (length words)

-- the own words of a node are there; r says whether they are; and r is how many they are. All three depend on its tag and
-- its words alone
abbrev pub There : (words : Words) (tag : M.Tag) (at : ℕ) → Type 0
There words tag at = (role : L.Role) (scope : ℕ) → at + (own words tag role scope at).size ≤ length words

abbrev pub Room : (words : Words) (tag : M.Tag) (at : ℕ) (r : Bool) → Type 0
Room words tag at r =
    (role : L.Role) (scope : ℕ) → r ≡ leb (at + (own words tag role scope at).size) (length words)

abbrev pub Sized : (words : Words) (tag : M.Tag) (at r : ℕ) → Type 0
Sized words tag at r = (role : L.Role) (scope : ℕ) → r ≡ (own words tag role scope at).size

-- r answers question 3 at a node, question 5, question 6
abbrev pub Shaped : (words : Words) (tag : M.Tag) (role : L.Role) (at : ℕ) (r : Bool) → Type 0
Shaped words tag role at r = (scope : ℕ) → r ≡ shapely words tag role scope at

abbrev pub Known : (table words : Words) (tag : M.Tag) (at : ℕ) (r : Bool) → Type 0
Known table words tag at r = r ≡ good_predicate table words tag at

abbrev pub Scoped : (words : Words) (tag : M.Tag) (scope at : ℕ) (r : Bool) → Type 0
Scoped words tag scope at r = (role : L.Role) → r ≡ (own words tag role scope at).scope
