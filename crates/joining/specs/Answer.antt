-- What the answer of a walk says: of the places, of the residual, and of the words that were lent.
use Rattle.std.specs.Prelude.{ℕ, ◌≡◌, cond, length, take, leb, ltb}
use Rattle.model.specs.Words.{Words}
use Rattle.model.specs.Tree.{Tree, plain, atom, compare, join, quantifier, some, encode}
use Rattle.joining.specs.declared.answer.Reduced.{Reduced}
use Rattle.joining.specs.declared.answer.Reduced.TheVariants.{Short, Plain, Long, Part}

-- so many words in so much room
unfoldable pub fitted : ℕ → ℕ → Reduced
fitted room n = cond (leb n room) (Part n) Long

-- a residual in the room that is lent
unfoldable pub settled : ℕ → Tree → Reduced
settled room (plain b) = Plain b
settled room (atom b p ts) = fitted room (length (encode (atom b p ts)))
settled room (compare b d x y) = fitted room (length (encode (compare b d x y)))
settled room (join b ts) = fitted room (length (encode (join b ts)))
settled room (quantifier b v excluded c f) = fitted room (length (encode (quantifier b v excluded c f)))
settled room (some c) = fitted room (length (encode (some c)))

-- a residual that needs so many of the places that are lent
unfoldable pub told : ℕ → ℕ → ℕ → Tree → Reduced
told places need room t = cond (ltb places need) Short (settled room t)

-- the answer of a walk with this residual, which was lent words before and has left words after
pub record Answers (places need : ℕ) (t : Tree) (before after : Words) (r : Reduced) : Type 0 where
  pub is : r ≡ told places need (length before) t
  pub long : length after ≡ length before
  pub words : (n : ℕ) → r ≡ Part n → take n after ≡ encode t
