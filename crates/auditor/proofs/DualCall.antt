-- The call dual, outcome by outcome: its answer, and what the buffer holds.
use Prim.Native.Nat.{ℕ, ◌-◌, ◌≤◌, ◌<◌}
use native.Mathlib.Omega.{arith}
use mathlib.Core.Path.{◌≡◌, refl, sym, ap, ◌∙◌}
use mathlib.Core.Bool.{true, false}
use mathlib.Core.List.{◌++◌}
use lib.ListN.{length, take}
use lib.Dec.{leb}
use borrow.Author.Tests.{le-leb, lt-leb}
use Rattle.std.specs.Prelude.{Ok, Err}
use Rattle.model.specs.declared.Refusal.{Refusal}
use Rattle.model.specs.declared.Refusal.TheVariants.{Room}
use Rattle.model.specs.Words.{Words, policy_limit}
use Rattle.model.specs.Answer.{Answer, AnswersAs, ask, answer, ◌>>=◌, refused_at}
use Rattle.model.specs.Tree.{Tree, encode}
use Rattle.model.specs.Mode.{size}
use Rattle.model.specs.Dual.{dual}
use Rattle.model.specs.Calls.{zeros, filled, result, write, check_policy, dual_call}
use Rattle.laws.specs.Answer.{answers}
use Rattle.laws.specs.Dual.{dual-size}
use Rattle.laws.specs.Calls.Policy.{accepted-asked}
use Rattle.laws.specs.Reading.Encoded.{read_length}
use Rattle.trees.specs.Grown.{Tupled}
use Rattle.checks.specs.Accepts.{Accepts}
use Rattle.checks.proofs.Calls.{policy_was_refused, policy_was_passed}
use Rattle.auditor.proofs.DualFormed.{accepted-written}

module _ (table policy old buffer : Words) where
  -- an answer, and the words of the buffer, are those of the call
  abbrev pub Dualled : (a : Answer) → Type 0
  Dualled a = AnswersAs (dual_call table policy (length old)).answer a × (buffer ≡ (dual_call table policy (length old)).buffer)

  abbrev pub Cleared : Type 0
  Cleared = buffer ≡ take 0 old ++ zeros (length old - 0)

  all-zero : Cleared → buffer ≡ zeros (length old)
  all-zero e = e ∙ ap zeros (omega arith)

  pub dual-refused : {r : Refusal} {p : ℕ} → Err (refused_at r p) ≡ check_policy table policy → Cleared → Dualled (Err (refused_at r p))
  unfolding dual_call result answer filled ◌>>=◌
  dual-refused e z = rw (policy_was_refused table policy e) (answers refl, all-zero z)

  module _ {k : ℕ} (e : Ok k ≡ check_policy table policy) where
    accepted-tree : Accepts table policy
    accepted-tree = policy_was_passed table policy e

    -- its words are the policy
    pub tree-written : (tree : Tree) × Tupled tree × (encode tree ≡ policy)
    tree-written =
        let (tree, is) = accepted-tree in
        let (tupled, words) = accepted-written table policy tree is in
        (tree, tupled, words)

    -- the dual has as many words as the policy, and not too many
    dual-length : length (encode (dual accepted-tree.0)) ≡ length policy
    unfolding size
    dual-length =
        let (tree, is) = accepted-tree in dual-size tree ∙ ap length (accepted-written table policy tree is).1

    short : length policy ≤ policy_limit
    short = let (tree, is) = accepted-tree in (read_length table policy tree (accepted-asked table policy tree is).1).1

    pub dual-no-room : length old < length policy → Cleared → Dualled (Err (refused_at Room 0))
    unfolding dual_call result answer filled write ask ◌>>=◌
    dual-no-room h z =
        let no : leb (length (encode (dual accepted-tree.0))) (length old) ≡ false =
        ap (λ (n : ℕ). leb n (length old)) dual-length ∙ lt-leb (length policy) (length old) h in
        rw (accepted-tree.1, no) (answers refl, all-zero z)

    pub dual-written :
        length policy ≤ length old →
        ((tree : Tree) → Tupled tree → encode tree ≡ policy → buffer ≡ encode (dual tree) ++ zeros (length old - length policy)) →
        Dualled (Ok (length policy))
    unfolding dual_call result answer filled write ask ◌>>=◌
    dual-written h w =
        let ws = encode (dual accepted-tree.0) in
        let room : leb (length ws) (length old) ≡ true =
        ap (λ (n : ℕ). leb n (length old)) dual-length ∙ le-leb (length policy) (length old) h in
        let few : leb (length ws) policy_limit ≡ true =
        ap (λ (n : ℕ). leb n policy_limit) dual-length ∙ le-leb (length policy) policy_limit short in
        let (tupled, is) = accepted-written table policy accepted-tree.0 accepted-tree.1 in
        rw (accepted-tree.1, room, few)
        (answers (ap Ok (sym dual-length)), w accepted-tree.0 tupled is ∙ ap (λ (n : ℕ). ws ++ zeros (length old - n)) (sym dual-length))
