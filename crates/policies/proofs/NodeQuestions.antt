-- Questions 3 to 6 at one node, by the first one answered with no.
use Prim.Native.Nat.{ℕ, ◌+◌, ◌≤◌, ◌<◌}
use mathlib.Core.Path.{◌≡◌, refl, sym, ◌∙◌, subst}
use mathlib.Core.Bool.{Bool, true, false, not}
use lib.ListN.{length}
use borrow.Author.Tests.{leb-true, le-leb, lt-leb, not-true, not-false}
use Rattle.model.specs.declared.Refusal.TheVariants.{Shape, Level, Predicate, Variable}
use Rattle.model.specs.Words.{Words, level_limit}
use Rattle.model.specs.Answer.{passed, refused, ask, ◌>>=◌}
use Rattle.model.specs.Tag.{Tag}
use Rattle.model.specs.Level.{Role, cost}
use Rattle.model.specs.Reading.{own, questions}
use Rattle.laws.specs.Words.Tests.{and_right}
use Rattle.policies.specs.Node.{shapely, There, Shaped, Known, Scoped}

-- how many words a node has of its own depends on its tag and its words alone
pub size_same :
    (words : Words) (tag : Tag) (role role' : Role) (scope scope' at : ℕ) →
    (own words tag role scope at).size ≡ (own words tag role' scope' at).size
unfolding own
size_same words (Tag.plain b) role role' scope scope' at = refl
size_same words (Tag.atom b) role role' scope scope' at = refl
size_same words (Tag.compare b) role role' scope scope' at = refl
size_same words (Tag.join b) role role' scope scope' at = refl
size_same words (Tag.quantifier b) role role' scope scope' at = refl
size_same words Tag.some role role' scope scope' at = refl
size_same words Tag.unused role role' scope scope' at = refl

-- a node's own words are there, whatever the role and the scope
pub fits-there :
    (words : Words) (tag : Tag) (role : Role) (scope at : ℕ) →
    at + (own words tag role scope at).size ≤ length words →
    There words tag at
fits-there words tag role scope at h role' scope' =
    subst (λ (n : ℕ). at + n ≤ length words) (size_same words tag role role' scope scope' at) h

-- question 3 answered with yes: the own words are in range, and there
module _ (words : Words) (tag : Tag) (role : Role) (scope at : ℕ) {shape : Bool} (third : Shaped words tag role at shape)
    (yes : not shape ≡ false) where
  shaped : shapely words tag role scope at ≡ true
  shaped = sym (third scope) ∙ not-false shape yes

  pub shaped_there : There words tag at
  shaped_there =
      fits-there words tag role scope at
      (leb-true _ _ (and_right (own words tag role scope at).shape _ shaped))

-- the code's answers, yes if the test for a refusal was false
module _ (table words : Words) (tag : Tag) (role : Role) (above scope at : ℕ) {shape : Bool}
    (third : Shaped words tag role at shape) where
  pub shape-no : not shape ≡ true → refused Shape at ≡ questions table words tag role above scope at
  unfolding questions ask ◌>>=◌
  shape-no e = rw (← third scope, not-true shape e)

  module _ (yes : not shape ≡ false) where
    pub level-no : level_limit < above + cost role tag → refused Level at ≡ questions table words tag role above scope at
    unfolding questions ask ◌>>=◌
    level-no h = rw (shaped words tag role scope at third yes, lt-leb (above + cost role tag) level_limit h)

    module _ (shallow : above + cost role tag ≤ level_limit) {predicate : Bool} (fifth : Known table words tag at predicate) where
      pub predicate-no : not predicate ≡ true → refused Predicate at ≡ questions table words tag role above scope at
      unfolding questions ask ◌>>=◌
      predicate-no e =
          rw (shaped words tag role scope at third yes, le-leb (above + cost role tag) level_limit shallow, ← fifth, not-true predicate e)

      module _ (exists : not predicate ≡ false) {variables : Bool} (sixth : Scoped words tag scope at variables) where
        pub variable-no : not variables ≡ true → refused Variable at ≡ questions table words tag role above scope at
        unfolding questions ask ◌>>=◌
        variable-no e =
            rw (
              shaped words tag role scope at third yes,
              le-leb (above + cost role tag) level_limit shallow,
              ← fifth,
              not-false predicate exists,
              ← sixth role,
              not-true variables e,
            )

        pub all_yes : not variables ≡ false → passed tt ≡ questions table words tag role above scope at
        unfolding questions ask ◌>>=◌
        all_yes e =
            rw (
              shaped words tag role scope at third yes,
              le-leb (above + cost role tag) level_limit shallow,
              ← fifth,
              not-false predicate exists,
              ← sixth role,
              not-false variables e,
            )
