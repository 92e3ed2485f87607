-- Question 12: of the words of a tree, of a log's words, and of a text's bytes.
use Rattle.std.specs.Prelude.{ℕ, ◌≤◌, ◌≡◌, ◌&&◌, List, length, leb}
use Rattle.std.proofs.Common.{arith, sym, leb-true, le-leb}
use Rattle.std.proofs.Math.Path.{refl}
use Rattle.model.specs.declared.Refusal.TheVariants.{Room}
use Rattle.model.specs.Words.{Words, policy_limit}
use Rattle.model.specs.Answer.{passed, ask}
use Rattle.model.specs.Tree.{Tree, encode}
use Rattle.model.specs.Calls.{write, in_room}
use Rattle.laws.specs.Words.Tests.{and_right}
use Rattle.laws.specs.Answer.{ask-passed, ask-true, passed-same, then_passed, pass_then}
use Rattle.laws.specs.Calls.Places.{Within, within-ask, within_then}

-- the words written are those of the tree, and no more than a policy can have
pub written :
    (buffer : ℕ) (tree : Tree) {ws : Words} →
    write buffer tree ≡ passed ws →
    (ws ≡ encode tree) × (length (encode tree) ≤ policy_limit)
unfolding write
written buffer tree e =
    let inside = leb (length (encode tree)) buffer in
    let (u, e₁, rest) = then_passed (ask (inside && leb (length (encode tree)) policy_limit) Room 0) _ e in
    (sym (passed-same rest), leb-true _ _ (and_right inside _ (ask-passed _ Room 0 e₁)))

module _ {A : Type 0} where
  -- what passed fits
  pub fit_passed : (buffer : ℕ) (xs ys : List A) → in_room buffer xs ≡ passed ys → (length xs ≤ buffer) × (xs ≡ ys)
  unfolding in_room
  fit_passed buffer xs ys e =
      let (u, e₁, e₂) = then_passed (ask _ Room 0) _ e in
      (leb-true (length xs) buffer (ask-passed _ _ _ e₁), passed-same e₂)

  -- what fits passes
  pub fit_pass : (buffer : ℕ) (xs : List A) → length xs ≤ buffer → in_room buffer xs ≡ passed xs
  unfolding in_room
  fit_pass buffer xs l = pass_then _ (ask-true Room 0 (le-leb (length xs) buffer l)) refl

  -- its place is 0
  pub fit-within : (buffer : ℕ) (xs : List A) (n : ℕ) → Within n (in_room buffer xs)
  unfolding in_room
  fit-within buffer xs n = within_then _ (ask _ Room 0) _ (within-ask _ Room 0 n (omega arith)) λ _ _. tt
