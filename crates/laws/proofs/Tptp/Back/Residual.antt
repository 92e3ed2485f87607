-- A residual that is written as text is read back: its words have 32 bits, since those of the policy and of the log have.
use Rattle.std.specs.Prelude.{ℕ, ◌*◌, ◌-◌, ◌/◌, ◌≤◌, ◌≡◌, true, [], ◌++◌, length, take, drop, leb}
use Rattle.std.proofs.Common.{sym, ap, ◌∙◌, take_at}
use Rattle.std.specs.Prelude.{Ok}
use Rattle.model.specs.declared.Refusal.TheVariants.{Scratch}
use Rattle.model.specs.Words.{Words, word_sized, place_words, row_words}
use Rattle.model.specs.Lists.{span, all}
use Rattle.model.specs.Answer.{Outcome, passed, ask, answer}
use Rattle.model.specs.Log.{row_count, row_at, rows, ask_log}
use Rattle.model.specs.Tree.{Tree}
use Rattle.model.specs.Reduction.{reduce, need}
use Rattle.model.specs.Tptp.{policy_text}
use Rattle.model.specs.Calls.{zeros, filled, result, ask_policy, ask_residual, ask_reduction, reduce_call, read_policy_call, write_policy_call}
use Rattle.laws.specs.Answer.{then_passed, answer-accepted}
use Rattle.laws.specs.Lists.Membership.{all_intro, all_take, all_drop, map_mem}
use Rattle.laws.specs.Calls.Policy.{accepted-rules, rules-accepted}
use Rattle.laws.specs.Calls.Room.{written}
use Rattle.laws.specs.Reduction.Accepted.{reduce-rules}
use Rattle.laws.specs.Reduction.Sized.{reduce-sized}
use Rattle.laws.proofs.Tptp.Back.Calls.{write_read, write-accepted}

-- the rows of a log whose words have 32 bits
rows-sized : (log : Words) → all word_sized log ≡ true → all (all word_sized) (rows log) ≡ true
unfolding rows row_at
rows-sized log e =
    all_intro (all word_sized) (rows log) λ row m.
    let (r, i, is) = map_mem (row_at log) (span 0 (row_count log)) m in
    rw is (all_take word_sized row_words (drop (row_words * r) log) (all_drop word_sized (row_words * r) log e))

-- what an accepted reduction leaves: so many words, accepted as a policy, of 32 bits if those of the policy and of the log have
record Left (table policy log residual : Words) (n : ℕ) : Type 0 where
  tree : Tree
  accepted : ask_policy table residual ≡ passed tree
  long : length residual ≡ n
  sized : all word_sized policy ≡ true → all word_sized log ≡ true → all word_sized residual ≡ true

reduction_left :
    (table policy log : Words) (scratch buffer n : ℕ) →
    (reduce_call table policy log scratch buffer).answer ≡ Ok n →
    Left table policy log (take n (reduce_call table policy log scratch buffer).buffer) n
unfolding reduce_call ask_reduction ask_residual result filled
reduction_left table policy log scratch buffer n e =
    let (ws, passes, long) = answer-accepted length _ n e in
    let (tree, e₁, e₂) = then_passed (ask_policy table policy) _ passes in
    let (u, e₃, e₄) = then_passed (ask_log table log) _ e₂ in
    let (w, e₅, e₆) = then_passed (ask (leb (need table (rows log) tree []) (scratch / place_words)) Scratch 0) _ e₄ in
    let left = reduce table (rows log) tree [] in
    let (is, short) = written buffer left e₆ in
    let (ok, same, rules) = accepted-rules table policy tree e₁ in
    let taken = ap (λ (o : Outcome Words). take n (filled buffer o)) passes ∙ take_at ws _ n long in
    rw (taken, is)
    (record {
      tree = left;
      accepted = rules-accepted table left ok (reduce-rules table (rows log) tree rules) short;
      long = ap length (sym is) ∙ long;
      sized = λ words rowed. reduce-sized table (rows log) (rows-sized log rowed) policy tree e₁ words short;
    })

-- a residual is accepted as a policy, and is written, in room enough for its text
pub residual-written :
    (table policy log : Words) (scratch buffer room n : ℕ) →
    (reduce_call table policy log scratch buffer).answer ≡ Ok n →
    let residual = take n (reduce_call table policy log scratch buffer).buffer in
    (tree : Tree)
    × (ask_policy table residual ≡ passed tree)
    × (length (policy_text tree) ≤ room → (write_policy_call table residual room).answer ≡ Ok (length (policy_text tree)))
residual-written table policy log scratch buffer room n e =
    let h = reduction_left table policy log scratch buffer n e in
    (h.tree, h.accepted, write-accepted table _ h.tree room h.accepted)

-- a residual that is written is read back as the same words, if those of the policy and of the log have 32 bits
pub residual_back :
    (table policy log : Words) (scratch buffer room again n k : ℕ) →
    all word_sized policy ≡ true →
    all word_sized log ≡ true →
    (reduce_call table policy log scratch buffer).answer ≡ Ok n →
    let residual = take n (reduce_call table policy log scratch buffer).buffer in
    (write_policy_call table residual room).answer ≡ Ok k →
    n ≤ again →
    read_policy_call table (take k (write_policy_call table residual room).buffer) again
    ≡ record { answer = Ok n; buffer = residual ++ zeros (again - n); scratch = [] }
residual_back table policy log scratch buffer room again n k words rowed e w l =
    let residual = take n (reduce_call table policy log scratch buffer).buffer in
    let h = reduction_left table policy log scratch buffer n e in
    rw h.long at (write_read table residual room again k (h.sized words rowed) w (rw h.long l))
