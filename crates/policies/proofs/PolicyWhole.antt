-- What a walk from the root tells of the reading of a whole policy.
use Prim.Native.Nat.{ℕ, ◌+◌, ◌≤◌, ◌<◌}
use native.Mathlib.Omega.{arith}
use mathlib.Core.Path.{◌≡◌, sym, ap, ◌∙◌}
use lib.ListN.{length}
use lib.Dec.{leb}
use borrow.Author.Tests.{le-leb, lt-leb, eq-eqb, ne_eqb}
use Rattle.model.specs.declared.Refusal.{Refusal}
use Rattle.model.specs.declared.Refusal.TheVariants.{PolicyLength, Shape}
use Rattle.model.specs.Words.{Words, policy_limit, level_limit}
use Rattle.model.specs.Answer.{ask, ◌>>=◌, refused_at}
use Rattle.model.specs.Level.{formula}
use Rattle.model.specs.Reading.{read_node, read_policy}
use Rattle.policies.specs.Policy.{Told, walked, told, told_policy, NodeTold}
use Rattle.std.specs.Prelude.{Err}
use Rattle.policies.proofs.NodeShape.{and_no}
use Rattle.policies.proofs.PolicyRead.{told-read, told-refused}

module _ (table policy : Words) where
  -- a policy with no words, or too many
  pub none : length policy < 1 → Err (refused_at PolicyLength 0) ≡ told_policy policy (read_policy table policy)
  unfolding told_policy read_policy ask ◌>>=◌
  none h = rw (lt-leb 1 (length policy) h)

  pub too_long : policy_limit < length policy → Err (refused_at PolicyLength 0) ≡ told_policy policy (read_policy table policy)
  unfolding told_policy read_policy ask ◌>>=◌
  too_long h = rw (← and_no (leb 1 (length policy)) (lt-leb (length policy) policy_limit h))

  module _ (some : 1 ≤ length policy) (few : length policy ≤ policy_limit) {r : Told} (root : NodeTold table policy formula 0 0 0 r) where
    -- the root's reading, at the depth that a policy is read at
    reading : r ≡ told formula 0 (read_node table policy (level_limit + 1) formula 0 0 0)
    reading = root (level_limit + 1) (omega arith)

    -- a node is refused
    pub root-refused : {q : Refusal} {p : ℕ} → r ≡ Err (refused_at q p) → Err (refused_at q p) ≡ told_policy policy (read_policy table policy)
    unfolding told_policy read_policy ask ◌>>=◌
    root-refused e =
        rw (
          le-leb 1 (length policy) some,
          le-leb (length policy) policy_limit few,
          told-refused formula 0 (read_node table policy (level_limit + 1) formula 0 0 0) (sym e ∙ reading),
        )

    module _ {next level : ℕ} (e : r ≡ walked next level) where
      -- words stand behind the tree
      pub root-short : (next ≡ length policy → ⊥) → Err (refused_at Shape next) ≡ told_policy policy (read_policy table policy)
      unfolding told_policy read_policy ask ◌>>=◌
      root-short h =
          let t = told-read formula 0 (read_node table policy (level_limit + 1) formula 0 0 0) (sym e ∙ reading) in
          rw (le-leb 1 (length policy) some, le-leb (length policy) policy_limit few, t.1, t.2, ne_eqb next (length policy) h)

      -- none do
      pub root-whole : next ≡ length policy → walked next level ≡ told_policy policy (read_policy table policy)
      unfolding told_policy read_policy ask ◌>>=◌
      root-whole h =
          let t = told-read formula 0 (read_node table policy (level_limit + 1) formula 0 0 0) (sym e ∙ reading) in
          rw (le-leb 1 (length policy) some, le-leb (length policy) policy_limit few, t.1, t.2, eq-eqb next (length policy) h, t.3)
          (ap (λ (n : ℕ). walked n level) h)
