-- The last part of a quantifier's reduction: the words in front of its restriction, and what is asked and said of it.
use Rattle.std.specs.Prelude.{ℕ, zero, suc, ◌+◌, ◌*◌, ◌≤◌, ◌<◌, ◌≡◌, Bool, List, [], ◌∷◌, ◌++◌, length, get_or, take, drop, ℤ, pos}
use Rattle.model.specs.Words.{Words, value}
use Rattle.model.specs.Tree.{Tree, quantifier, encode}
use Rattle.model.specs.Level.{Role}
use Rattle.model.specs.Putting.{put}
use Rattle.laws.specs.Reading.Nodes.{Node}
use Rattle.trees.specs.Grown.{Grown}
use Rattle.environments.specs.declared.environment.Environment.{Environment as Held}
use Rattle.joining.specs.declared.answer.Reduced.{Reduced}
use Rattle.joining.specs.Answer.{Answers}
use Rattle.nodes.specs.Ground.{Outer}

-- the words of n tuples of v numbers, the first at an index of scratch and each a place behind the one before
unfoldable pub tuple_words : Words → ℕ → ℕ → ℕ → Words
tuple_words scratch v from zero = []
tuple_words scratch v from (suc n) = take v (drop from scratch) ++ tuple_words scratch v (from + 17) n

-- the first words of the quantifier at an index, with k tuples more; then its excluded tuples; then the tuples of k places
abbrev pub head_words : (words : Words) (at k : ℕ) → Words
head_words words at k = take 2 (drop at words) ++ pos (value words (at + 2) + k) ∷ []

abbrev pub excluded_words : (words : Words) (at : ℕ) → Words
excluded_words words at = take (value words (at + 1) * value words (at + 2)) (drop (at + 3) words)

abbrev pub front_words : (words scratch : Words) (scope at from k : ℕ) → Words
front_words words scratch scope at from k =
    head_words words at k ++ excluded_words words at ++ tuple_words scratch (value words (at + 1)) (17 * from + scope) k

-- the words and the places are there, and there is room for the front words
pub record Fronts (words scratch : Words) (scope at from k room : ℕ) : Type 0 where
  pub here : at + 3 + value words (at + 1) * value words (at + 2) ≤ length words
  pub few : value words (at + 2) + k ≤ 1048576
  pub small : scope + value words (at + 1) ≤ 16
  pub places : 17 * (from + k) ≤ length scratch
  pub fits : 3 + value words (at + 1) * value words (at + 2) + value words (at + 1) * k ≤ room

-- a tree stands at an index, and there is room for its words behind the first `to`
abbrev pub CopyRoom : (words : Words) (at to room : ℕ) → Type 0
CopyRoom words at to room = (tree : Tree) × (next : ℕ) × Grown words at tree next × (to + length (encode tree) ≤ room)

-- a quantifier stands at an index, its body at another, and `next` is the index behind it
pub record QuantifierAt (words : Words) (scope at body next : ℕ) (b : Bool) (v : ℕ) (excluded : List (List ℤ)) (c f : Tree) : Type 0 where
  pub table : Words
  pub role : Role
  pub above : ℕ
  pub node : Node table words role above scope at (quantifier b v excluded c f) next
  pub splits : body ≡ at + 3 + v * length excluded + length (encode c)

abbrev pub HereQuantifier : (words : Words) (scope at body next : ℕ) → Type 0
HereQuantifier words scope at body next =
    (b : Bool) × (v : ℕ) × (excluded : List (List ℤ)) × (c : Tree) × (f : Tree) × QuantifierAt words scope at body next b v excluded c f

-- k tuples of v numbers stand in the places of scratch from `from` on
pub record Found (scratch : Words) (scope from v k : ℕ) (found : List (List ℤ)) : Type 0 where
  pub many : length found ≡ k
  pub stands : (j : ℕ) → j < k → take v (drop (17 * (from + j) + scope) scratch) ≡ get_or found j []

-- r answers with the quantifier at an index, the tuples found put behind the excluded ones and the outer numbers put in
abbrev pub Remains : (words scratch : Words) (held : Held) (scope at body next from k : ℕ) (before after : Words) (r : Reduced) → Type 0
Remains words scratch held scope at body next from k before after r =
    (ρ : List ℤ) →
    Outer held scope ρ →
    (b : Bool) (v : ℕ) (excluded : List (List ℤ)) (c f : Tree) →
    QuantifierAt words scope at body next b v excluded c f →
    (found : List (List ℤ)) →
    Found scratch scope from v k found →
    (places : ℕ) →
    Answers places 0 (quantifier b v (excluded ++ found) (put c ρ) (put f ρ)) before after r
