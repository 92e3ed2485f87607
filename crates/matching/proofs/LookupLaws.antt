-- The value of an atom, from the words that the code reads at its index.
use Prim.Native.Nat.{ℕ, ◌+◌, ◌-◌}
use mathlib.Core.Path.{◌≡◌, sym, ap, ap₂, ◌∙◌}
use mathlib.Core.List.{List, ◌++◌}
use lib.ListN.{length, replicate, length-map}
use lib.IntN.{ℤ, pos}
use Rattle.model.specs.Words.{Words, value}
use Rattle.model.specs.Table.{arity}
use Rattle.model.specs.Log.{rows, value_in}
use Rattle.model.specs.Tree.{Term}
use Rattle.model.specs.Listing.{Environment, look, number_in, numbers_in}
use Rattle.laws.specs.Reading.Formed.{Formed}
use Rattle.laws.specs.Reading.Parts.{atom-parts}
use Rattle.logs.specs.Value.{as_value}
use Rattle.std.specs.Prelude.{Option, Bool}
use Rattle.policies.specs.Standing.{terms_at}
use Rattle.policies.proofs.Standing.{atom-words}
use Rattle.environments.specs.declared.environment.Environment.{Environment as Held}
use Rattle.environments.specs.Environment.{Holds}
use Rattle.matching.specs.Lookup.{Values}

-- as many numbers as terms
numbers-count : (e : Environment) (ts : List Term) → length (numbers_in e ts) ≡ length ts
unfolding numbers_in
numbers-count e ts = length-map ts (λ t. number_in (look e t))

-- the atom at an index, of the predicate and the number of terms that are read there, and its value
pub atom-value :
    (table words log : Words) (held : Held) (at p n : ℕ) (arguments : List ℤ) (found : Option Bool) →
    p ≡ value words (at + 1) →
    n ≡ value words (at + 2) →
    ((e : Environment) → Holds held e → arguments ≡ numbers_in e (terms_at words (at + 3) n) ++ replicate (6 - n) (pos 0)) →
    ((ns : List ℤ) → length ns ≡ arity table p → arguments ≡ ns ++ replicate (6 - length ns) (pos 0) → as_value found ≡ value_in table (rows log) p ns) →
    Values table words log held at found
unfolding Formed
atom-value table words log held at p n arguments found is-p is-n read look_up e holds role above scope b q ts next node =
    let a = atom-words words scope at next q ts (atom-parts table words role above scope at next b q ts node) in
    let ns = numbers_in e ts in
    let same-p : p ≡ q = is-p ∙ a.predicate in
    let few : n ≡ length ns = is-n ∙ a.number ∙ sym (numbers-count e ts) in
    let all : length ns ≡ arity table p = numbers-count e ts ∙ sym node.formed.1 ∙ ap (arity table) (sym same-p) in
    let terms : terms_at words (at + 3) n ≡ ts = ap (terms_at words (at + 3)) is-n ∙ a.terms in
    let numbers = read e holds ∙ ap₂ (λ (us : List Term) (k : ℕ). numbers_in e us ++ replicate (6 - k) (pos 0)) terms few in
    look_up ns all numbers ∙ ap (λ (k : ℕ). value_in table (rows log) k ns) same-p
