-- What a leaf of a restriction keeps, by its tag: from what the code reads of its words to what its tree says.
use Prim.Native.Nat.{ℕ, ◌+◌, ◌^◌, ◌<◌}
use mathlib.Core.Path.{◌≡◌, sym, ap, ◌∙◌, subst, refl}
use mathlib.Core.Bool.{Bool, true, false, beq}
use lib.ListN.{length}
use lib.IntN.{ℤ}
use Rattle.model.specs.Words.{Words, word, same}
use Rattle.model.specs.Lists.{all}
use Rattle.model.specs.Log.{rows}
use Rattle.model.specs.Tag as T
use Rattle.model.specs.Tree.{Term, Tree}
use Rattle.model.specs.Level.{restriction}
use Rattle.model.specs.Reading.{places, term_at, in_scope}
use Rattle.model.specs.Truth.{sum_at_most}
use Rattle.model.specs.Listing.{Environment, look, number_in, is_false}
use Rattle.laws.specs.Reading.Nodes.{Node}
use Rattle.laws.specs.Reading.Parts.{compare-parts}
use Rattle.logs.specs.Value.{as_value}
use Rattle.std.specs.Prelude.{Option}
use Rattle.std.specs.Prelude as O
use Rattle.std.specs.Option.{option_eq}
use Rattle.policies.specs.declared.node.Tag.{Tag}
use Rattle.policies.specs.declared.node.Tag.TheVariants.{Plain, Atom, Compare, Join, Quantifier, Some, Unused}
use Rattle.policies.specs.Node.{as_tag}
use Rattle.policies.specs.Standing.{HereTerms}
use Rattle.policies.proofs.Standing.{has, here-terms, here-compare}
use Rattle.environments.specs.declared.environment.Environment.{Environment as Held}
use Rattle.environments.specs.Environment.{Holds}
use Rattle.matching.specs.Lookup.{Values}
use Rattle.environments.specs.Standing.{HereRestriction}
use Rattle.listing.specs.Keeping.{keeps_of, TellsFalse, TellsKept}
use Rattle.environments.proofs.TermLaws.{sum_same}

-- what the walk of an atom asks, and that of a comparison
module _
    (table words : Words) (at : ℕ) (tag : Tag) (told : as_tag tag ≡ T.tag_of (word words at))
    (here : HereRestriction table words at) (long : length words < 2 ^ 64) where
  pub keeping_atom : (b : Bool) → tag ≡ Atom b → HereTerms words at
  keeping_atom b is = here-terms table words here.0 here.1 at here.2 b (ap as_tag (sym is) ∙ told) here.3 long

  pub keeping_compare : (b : Bool) → tag ≡ Compare b → (at + 6 < 2 ^ 64) × (all (in_scope words 16) (places (at + 2) 2) ≡ true)
  keeping_compare b is = here-compare table words here.0 here.1 at here.2 b (ap as_tag (sym is) ∙ told) here.3 long

-- whether a value is false
false-found : (found : Option Bool) → option_eq beq found (O.Some false) ≡ is_false (as_value found)
unfolding is_false
false-found (O.Some true) = refl
false-found (O.Some false) = refl
false-found O.None = refl

module _ (table words log : Words) (held : Held) (at : ℕ) where
  -- whether the atom at an index is known to be false, from its value
  pub false-value : (found : Option Bool) → Values table words log held at found → (r : Bool) → r ≡ option_eq beq found (O.Some false) → TellsFalse table words log held at r
  false-value found values r is e above scope b p ts next holds node =
      is ∙ false-found found ∙ ap is_false (values e holds restriction above scope b p ts next node)

  module _ (tag : Tag) (told : as_tag tag ≡ T.tag_of (word words at)) where
    -- true or false
    pub keeps_plain : (b : Bool) → tag ≡ Plain b → TellsKept table words log held at b
    unfolding keeps_of
    keeps_plain b is e above scope c next holds node =
        let tree = has table words restriction above scope at (T.Tag.plain b) (ap as_tag (sym is) ∙ told) c next node in
        sym (ap (λ (t : Tree). keeps_of table (rows log) t e) tree)

    -- an atom
    pub keeps_atom : (b r : Bool) → tag ≡ Atom b → TellsFalse table words log held at r → TellsKept table words log held at r
    unfolding keeps_of
    keeps_atom b r is known e above scope c next holds node =
        let (p, ts, tree) = has table words restriction above scope at (T.Tag.atom b) (ap as_tag (sym is) ∙ told) c next node in
        known e above scope b p ts next holds (subst (λ (t : Tree). Node table words restriction above scope at t next) tree node)
        ∙ sym (ap (λ (t : Tree). keeps_of table (rows log) t e) tree)

    -- a comparison
    pub keeps_compare :
        (b r : Bool) →
        tag ≡ Compare b →
        ((e : Environment) →
        Holds held e →
        r ≡ sum_at_most (word words (at + 1)) (number_in (look e (term_at words (at + 2)))) (number_in (look e (term_at words (at + 4))))) →
        TellsKept table words log held at (same b r)
    unfolding keeps_of
    keeps_compare b r is known e above scope c next holds node =
        let (d, x, y, tree) = has table words restriction above scope at (T.Tag.compare b) (ap as_tag (sym is) ∙ told) c next node in
        let a = compare-parts table words restriction above scope at next b d x y (subst (λ (t : Tree). Node table words restriction above scope at t next) tree node) in
        let number : Term → ℤ = λ t. number_in (look e t) in
        ap (same b) (known e holds ∙ sum_same a.number (ap number a.left.term) (ap number a.right.term))
        ∙ sym (ap (λ (t : Tree). keeps_of table (rows log) t e) tree)

  -- every other tag
  pub keeps_none :
      (tag : Tag) → as_tag tag ≡ T.tag_of (word words at) → (((b : Bool) → tag ≡ Plain b → ⊥) × ((b : Bool) → tag ≡ Atom b → ⊥) × ((b : Bool) → tag ≡ Compare b → ⊥)) →
      TellsKept table words log held at false
  unfolding keeps_of
  keeps_none (Plain b) told k e above scope c next holds node = absurd (k.0 b refl)
  keeps_none (Atom b) told k e above scope c next holds node = absurd (k.1 b refl)
  keeps_none (Compare b) told k e above scope c next holds node = absurd (k.2 b refl)
  keeps_none (Join b) told k e above scope c next holds node =
      let (ts, tree) = has table words restriction above scope at (T.Tag.join b) told c next node in
      sym (ap (λ (t : Tree). keeps_of table (rows log) t e) tree)
  keeps_none (Quantifier b) told k e above scope c next holds node =
      let (v, excluded, d, f, tree) = has table words restriction above scope at (T.Tag.quantifier b) told c next node in
      sym (ap (λ (t : Tree). keeps_of table (rows log) t e) tree)
  keeps_none Some told k e above scope c next holds node =
      let (d, tree) = has table words restriction above scope at T.Tag.some told c next node in
      sym (ap (λ (t : Tree). keeps_of table (rows log) t e) tree)
  keeps_none Unused told k e above scope c next holds node =
      absurd (has table words restriction above scope at T.Tag.unused told c next node)
