-- The run claim, by induction on the list of calls: every policy held is accepted, at no more levels than the one before, settled
-- after an accepted call, and under the proviso true and false as the first one is.
use Rattle.std.specs.Prelude.{ℕ, ◌≤◌, ◌≡◌, ◌↔◌, Bool, true, false, not, ◌||◌}
use Rattle.std.proofs.Common.{arith, sym, ◌∙◌, subst}
use Rattle.std.proofs.Math.Path.{refl, ap}
use Rattle.std.proofs.Math.Logic.{⊎_elim}
use Rattle.std.proofs.Math.Logic.Iff
use mathlib.Core.List.{List, [], ◌∷◌, ◌++◌}
use Rattle.std.specs.Prelude.{Ok}
use Rattle.model.specs.Words.{Words}
use Rattle.model.specs.Answer.{passed, number, count}
use Rattle.model.specs.Table.{ask_table}
use Rattle.model.specs.Log.{rows, row_count, front, ask_log}
use Rattle.model.specs.Tree.{Tree}
use Rattle.model.specs.Level.{formula, greatest}
use Rattle.model.specs.Truth.{Structure, structure, Extends, Is}
use Rattle.model.specs.Calls.{ask_policy, check_policy, check_log}
use Rattle.model.specs.Runs.{Call, accepted, Settled, leaves, after, held, clear, proviso, RunClaim, EveryRun}
use Rattle.laws.specs.Words.Tests.{and_left, and_right, decide}
use Rattle.laws.specs.Answer.{passed-same, then_passed}
use Rattle.laws.specs.Mode.{modes-moded}
use Rattle.laws.specs.Calls.Policy.{accepted-rules}
use Rattle.laws.specs.Log.{rows-front, front-extends}
use Rattle.laws.specs.Reduction.Accepted.{reduce-greatest}
use Rattle.laws.specs.Runs.Claim.{accepted-passed, checked, clear-part, residual, leaves-outcome, part_sound, after-policy, after-refused, Lower}
use Rattle.laws.proofs.Reduction.Truth.{reduce-is}
use Rattle.laws.proofs.Reduction.Settled.{reduce-settled}

-- calls over front parts of an accepted log
module _ (table log : Words) (logged : ask_log table log ≡ passed tt) where
  -- a call of a run, accepted or refused: the tree held after it
  next-tree :
      (policy : Words) (tree : Tree) (call : Call) →
      ask_policy table policy ≡ passed tree →
      Lower table log logged (after table log policy call) tree
  next-tree policy tree call e = go (accepted (leaves table log policy call).answer) refl
    where
      go :
          (x : Bool) →
          accepted (leaves table log policy call).answer ≡ x →
          Lower table log logged (after table log policy call) tree
      go true a = (residual table log logged tree call, after-policy table log logged policy tree call e a, reduce-greatest table _ tree)
      go false a = (tree, rw (after-refused table log logged policy tree call e a) e, omega arith)

  -- every policy held is accepted, at no more levels than the first
  held-tree :
      (calls : List Call) (policy : Words) (tree : Tree) →
      ask_policy table policy ≡ passed tree →
      Lower table log logged (held table log policy calls) tree
  unfolding held
  held-tree [] policy tree e = (tree, e, omega arith)
  held-tree (call ∷ calls) policy tree e =
      let (t, e₁, less) = next-tree policy tree call e in
      let (u, e₂, lesser) = held-tree calls (after table log policy call) t e₁ in
      (u, e₂, omega arith)

  -- the calls one behind another
  held-append : (xs ys : List Call) (policy : Words) → held table log policy (xs ++ ys) ≡ held table log (held table log policy xs) ys
  unfolding held
  held-append [] ys policy = refl
  held-append (x ∷ xs) ys policy = held-append xs ys (after table log policy x)

  -- the policy held after one call more
  held_one : (before : List Call) (call : Call) (policy : Words) → held table log policy (before ++ call ∷ []) ≡ after table log (held table log policy before) call
  unfolding held
  held_one before call policy = held-append before (call ∷ []) policy

  -- the whole log extends a part behind which no row makes true an atom of a complete predicate
  part-extends : (k : ℕ) → clear table log k ≡ true → Extends table (structure table (front k log)) (structure table log)
  unfolding clear
  part-extends k e = rw (rows-front log k) (front-extends table (rows log) k e)

  module _ (s : Structure) (extends : Extends table (structure table log) s) where
    reduced-is :
        (policy : Words) (tree : Tree) (call : Call) →
        ask_policy table policy ≡ passed tree →
        clear table log call.part ≡ true →
        (t : Bool) →
        Is (residual table log logged tree call) s t [] ↔ Is tree s t []
    unfolding Extends
    reduced-is words tree call e c t =
        let r = (accepted-rules table words tree e).2 in
        reduce-is table (rows (front call.part log)) (part_sound table log logged call) s
        (λ p ns g b k. extends p ns g b (part-extends call.part c p ns g b k))
        tree [] r.formed (modes-moded table tree 0 0 r.modes) t

    -- under the proviso truth stays as it was
    run_is :
        (calls : List Call) (policy : Words) (tree last : Tree) →
        ask_policy table policy ≡ passed tree →
        ask_policy table (held table log policy calls) ≡ passed last →
        proviso table log policy calls ≡ true →
        (t : Bool) →
        Is last s t [] ↔ Is tree s t []
    unfolding held proviso
    run_is [] policy tree last e h c t = let same : last ≡ tree = passed-same (sym h ∙ e) in rw same (λ x. x, λ x. x)
    run_is (call ∷ calls) policy tree last e h c t =
        let later = after table log policy call in
        let rest = and_right (not (accepted (leaves table log policy call).answer) || clear table log call.part) _ c in
        ⊎_elim
        (λ a.
        Iff.trans
        (run_is calls later (residual table log logged tree call) last (after-policy table log logged policy tree call e a) h rest t)
        (reduced-is policy tree call e (clear-part _ _ a (and_left _ _ c)) t))
        (λ a. run_is calls later tree last (rw (after-refused table log logged policy tree call e a) e) h rest t)
        (decide (accepted (leaves table log policy call).answer))

  module _ (first : Words) (tree : Tree) (e : ask_policy table first ≡ passed tree) where
    -- a policy held after calls, and its tree
    held-checked :
        (calls : List Call) →
        (later : Tree)
        × (ask_policy table (held table log first calls) ≡ passed later)
        × (check_policy table (held table log first calls) ≡ Ok (greatest later formula 0))
        × (greatest later formula 0 ≤ greatest tree formula 0)
    held-checked calls =
        let (t, is, less) = held-tree calls first tree e in
        (t, is, checked table (held table log first calls) t is, less)

    run-kept :
        (before : List Call) (call : Call) →
        (accepted (check_policy table (held table log first (before ++ call ∷ []))) ≡ true)
        × (count (check_policy table (held table log first (before ++ call ∷ []))) ≤ count (check_policy table (held table log first before)))
    unfolding accepted count number
    run-kept before call =
        let (t, is, now, _) = held-checked before in
        let (u, is₁, less) = next-tree (held table log first before) t call is in
        rw (held_one before call first, checked table _ u is₁, now) (refl, less)

    -- so each is accepted, at no more levels than the first
    pub kept-first :
        (before : List Call) →
        (accepted (check_policy table (held table log first before)) ≡ true)
        × (count (check_policy table (held table log first before)) ≤ count (check_policy table first))
    unfolding accepted count number
    kept-first before =
        let (t, is, now, less) = held-checked before in rw (now, checked table first tree e) (refl, less)

    run_settled :
        (before : List Call) (call : Call) →
        accepted (leaves table log (held table log first before) call).answer ≡ true →
        (left : Tree) →
        ask_policy table (held table log first (before ++ call ∷ [])) ≡ passed left →
        Settled left (structure table (front call.part log))
    run_settled before call a left is =
        let (t, held-is, less) = held-tree before first tree e in
        let r = (accepted-rules table (held table log first before) t held-is).2 in
        let same : residual table log logged t call ≡ left
        = passed-same (sym (after-policy table log logged (held table log first before) t call held-is a) ∙ ap (ask_policy table) (sym (held_one before call first)) ∙ is) in
        subst (λ (u : Tree). Settled u (structure table (front call.part log))) same
        (reduce-settled table (rows (front call.part log)) (part_sound table log logged call) t [] r.formed (modes-moded table t 0 0 r.modes))

    run-claim : (calls : List Call) → RunClaim table log first calls
    run-claim calls =
        record {
          answered = λ before call later is t. leaves-outcome table log logged (held table log first before) t call;
          kept = λ before call later is. run-kept before call;
          settled = λ before call later is. run_settled before call;
          truth = λ p s extends t₁ t₂ e₁ e₂. run_is s extends calls first t₁ t₂ e₁ e₂ p;
        }

-- the run claim
pub every-run : EveryRun
unfolding EveryRun check_log check_policy
every-run table log first calls log-accepted first-accepted =
    let (u, asked-log) = accepted-passed (λ _. row_count log) _ log-accepted in
    let (tree, e) = accepted-passed (λ (t : Tree). greatest t formula 0) (ask_policy table first) first-accepted in
    run-claim table log (then_passed (ask_table table) _ asked-log).2 first tree e calls
