-- What is said of a node that is read or written at a place: its words stand there, it is formed, its levels are within
-- the limit; and what it says that the questions at one node passed.
use Rattle.std.specs.Prelude.{ℕ, ◌+◌, ◌≤◌, ◌≡◌, refl, Bool, true, false, length}
use Rattle.std.proofs.Common.{sym}
use borrow.Author.Tests.{leb-true, le-leb}
use Rattle.model.specs.declared.Refusal.TheVariants.{Shape, Level, Predicate, Variable}
use Rattle.model.specs.Words.{Words, level_limit}
use Rattle.model.specs.Answer.{Outcome, passed}
use Rattle.model.specs.Tag.{Tag}
use Rattle.model.specs.Tree.{Tree, Trees, encode, encode_all}
use Rattle.model.specs.Level.{Role, restriction, formula, operand, under, cost, greatest, greatest_all}
use Rattle.model.specs.Reading.{Read, is_formula, is_restriction, own, good_predicate, questions}
use Rattle.laws.specs.Words.Tests.{and_left, and_right, and-true}
use Rattle.laws.specs.Reading.Formed.{Formed, FormedAll}
use Rattle.laws.specs.Answer.{ask-passed, ask-true, both-passed, pass_then}
use Rattle.laws.specs.Words.Standing.{Stands}

-- what reads the node at a place: in a role, under a node at a level, with so many variables in scope, at an index
abbrev pub Reader : Type 0
Reader = Role → ℕ → ℕ → ℕ → Outcome (Read Tree)

module _ (table words : Words) (role : Role) (above scope at : ℕ) where
  -- a tree stands at a place, and `next` is the index behind it
  pub record Node (tree : Tree) (next : ℕ) : Type 0 where
    pub stands : Stands words at (encode tree) next
    pub formed : Formed tree table (is_formula role) scope
    pub levels : greatest tree role above ≤ level_limit

  -- trees stand one behind another
  pub record Nodes (trees : Trees) (next : ℕ) : Type 0 where
    pub stands : Stands words at (encode_all trees) next
    pub formed : FormedAll trees table (is_formula role) scope
    pub levels : greatest_all trees role above ≤ level_limit

  -- the answers to the questions at a node are yes
  pub record Asked (tag : Tag) : Type 0 where
    pub shape : (own words tag role scope at).shape ≡ true
    pub fits : at + (own words tag role scope at).size ≤ length words
    pub level : above + cost role tag ≤ level_limit
    pub predicate : good_predicate table words tag at ≡ true
    pub range : (own words tag role scope at).scope ≡ true

module _ (table words : Words) (role : Role) (above scope at : ℕ) (tag : Tag) where
  -- questions that passed were answered yes
  pub asked : questions table words tag role above scope at ≡ passed tt → Asked table words role above scope at tag
  unfolding questions
  asked e =
      both-passed _ _ e λ _ first e₁.
      both-passed _ _ e₁ λ _ second e₂.
      both-passed _ _ e₂ λ _ third fourth.
      let shape = ask-passed _ Shape at first in
      record {
        shape = and_left _ _ shape;
        fits = leb-true _ _ (and_right (own words tag role scope at).shape _ shape);
        level = leb-true _ _ (ask-passed _ Level at second);
        predicate = ask-passed _ Predicate at third;
        range = ask-passed _ Variable at fourth;
      }

  -- questions answered yes pass
  pub asking : Asked table words role above scope at tag → questions table words tag role above scope at ≡ passed tt
  unfolding questions
  asking a =
      pass_then _ (ask-true Shape at (and-true a.shape (le-leb _ _ a.fits)))
      (pass_then _ (ask-true Level at (le-leb _ _ a.level))
      (pass_then _ (ask-true Predicate at a.predicate) (ask-true Variable at a.range)))

-- the children of an all-of or any-of are formulas if it is one
pub under-kind : (role : Role) (b : Bool) → is_formula (under role b) ≡ is_formula role
unfolding under is_formula
under-kind restriction b = refl
under-kind formula b = refl
under-kind (operand a) b = refl

-- a restriction is no formula
pub restriction-kind : (role : Role) → is_restriction role ≡ true → is_formula role ≡ false
unfolding is_restriction is_formula
restriction-kind restriction e = refl
restriction-kind formula e = sym e
restriction-kind (operand a) e = sym e

-- what is no formula is a restriction
pub kind-restriction : (role : Role) → is_formula role ≡ false → is_restriction role ≡ true
unfolding is_restriction is_formula
kind-restriction restriction e = refl
kind-restriction formula e = sym e
kind-restriction (operand a) e = sym e
