-- The two calls on the texts of policies: what is written is read back, and what is read, written and read again is the same.
use Rattle.std.specs.Prelude.{ℕ, ◌-◌, ◌≤◌, ◌≡◌, true, [], ◌++◌, length, take}
use Rattle.std.proofs.Common.{sym, ap, ◌∙◌, subst, take_at}
use Rattle.std.specs.Prelude.{Ok}
use Rattle.model.specs.declared.Refusal.TheVariants.{PolicyLength}
use Rattle.model.specs.Words.{Words, word_sized}
use Rattle.model.specs.Lists.{all}
use Rattle.model.specs.Bytes.{Text}
use Rattle.model.specs.Answer.{Outcome, passed, ask, answer}
use Rattle.model.specs.Table.{ask_table}
use Rattle.model.specs.Tree.{Tree, encode}
use Rattle.model.specs.Level.{formula}
use Rattle.model.specs.Mode.{ask_modes}
use Rattle.model.specs.Tptp.{good_tree, Spells, policy_text}
use Rattle.model.specs.TptpReading.{read_text}
use Rattle.model.specs.Calls.{zeros, filled, result, ask_policy, ask_policy_reading, read_policy_call, ask_policy_writing, filled_text, text_result}
use Rattle.model.specs.Calls.{write_policy_call}
use Rattle.laws.specs.Answer.{passed-same, then_passed, both-passed, pass_then, answer-accepted}
use Rattle.laws.specs.Reading.Encoded.{read_length}
use Rattle.laws.specs.Reading.Trees.{ask_tree, ask-tree}
use Rattle.laws.specs.Calls.Policy.{accepted-asked, accepted-rules}
use Rattle.laws.specs.Calls.Room.{fit_passed, fit_pass}
use Rattle.laws.specs.Tptp.Spelling.Sized.{good-sized}
use Rattle.laws.specs.Tptp.Sound.Policies.{tptp_sound}
use Rattle.laws.proofs.Tptp.Back.Policies.{policy_back}

-- a writing that passed: its policy is accepted, and the text is that of its tree
abbrev Written : Words → Words → Text → Type 0
Written table policy t = (tree : Tree) × (ask_policy table policy ≡ passed tree) × (policy_text tree ≡ t)

writing_passed :
    (table policy : Words) (room : ℕ) (t : Text) →
    ask_policy_writing table policy room ≡ passed t →
    Written table policy t
unfolding ask_policy_writing
writing_passed table policy room t e =
    let (tree, e₁, e₂) = then_passed (ask_policy table policy) _ e in
    (tree, e₁, (fit_passed room (policy_text tree) t e₂).1)

-- the text that an accepted writing leaves
writing_text :
    (table policy : Words) (room n : ℕ) →
    (write_policy_call table policy room).answer ≡ Ok n →
    Written table policy (take n (write_policy_call table policy room).buffer)
unfolding text_result write_policy_call filled_text
writing_text table policy room n e =
    let (t, passes, long) = answer-accepted length (ask_policy_writing table policy room) n e in
    let is = ap (λ (o : Outcome Text). take n (filled_text room o)) passes ∙ take_at t _ n long in
    subst (Written table policy) (sym is) (writing_passed table policy room t passes)

-- the text of an accepted policy is read
text-reading :
    (table policy : Words) (tree : Tree) (buffer : ℕ) →
    all word_sized policy ≡ true →
    ask_policy table policy ≡ passed tree →
    length policy ≤ buffer →
    ask_policy_reading table (policy_text tree) buffer ≡ passed policy
unfolding ask_policy_reading
text-reading table policy tree buffer sized e l =
    let (ok, is, rules) = accepted-rules table policy tree e in
    let again : ask_policy table (encode tree) ≡ passed tree = rw is e in
    pass_then _ ok
    (pass_then _ (policy_back table policy tree e sized)
    (pass_then _ again (rw is (fit_pass buffer policy l))))

-- what a reading that passed gives
reading-result :
    (table : Words) (text : Text) (buffer : ℕ) (policy : Words) →
    ask_policy_reading table text buffer ≡ passed policy →
    read_policy_call table text buffer
    ≡ record { answer = Ok (length policy); buffer = policy ++ zeros (buffer - length policy); scratch = [] }
unfolding read_policy_call result answer filled zeros
reading-result table text buffer policy e = rw e

-- a policy of words of 32 bits that is written is read back
pub write_read :
    (table policy : Words) (room buffer n : ℕ) →
    all word_sized policy ≡ true →
    (write_policy_call table policy room).answer ≡ Ok n →
    length policy ≤ buffer →
    read_policy_call table (take n (write_policy_call table policy room).buffer) buffer
    ≡ record { answer = Ok (length policy); buffer = policy ++ zeros (buffer - length policy); scratch = [] }
write_read table policy room buffer n sized e l =
    let (tree, accepted, is) = writing_text table policy room n e in
    rw (← is)
    (reading-result table (policy_text tree) buffer policy (text-reading table policy tree buffer sized accepted l))

-- a writing with room enough for the text of an accepted policy is accepted
pub write-accepted :
    (table policy : Words) (tree : Tree) (room : ℕ) →
    ask_policy table policy ≡ passed tree →
    length (policy_text tree) ≤ room →
    (write_policy_call table policy room).answer ≡ Ok (length (policy_text tree))
unfolding text_result write_policy_call ask_policy_writing answer
write-accepted table policy tree room e l = ap (answer length) (pass_then _ e (fit_pass room (policy_text tree) l))

-- the tree of the words of a good tree, where they are accepted, is this tree
same-tree :
    (table : Words) (tree other : Tree) →
    good_tree tree true ≡ true →
    ask_policy table (encode tree) ≡ passed other →
    other ≡ tree
same-tree table tree other good e =
    both-passed (ask_table table) _ (sym (ask-tree table tree good) ∙ e) λ _ _ e₁.
    both-passed (ask _ PolicyLength 0) _ e₁ λ _ _ e₂.
    both-passed (ask_tree tree table formula 0 0 0) _ e₂ λ _ _ e₃.
    both-passed (ask_modes tree table 0 0) _ e₃ λ _ _ e₄.
    sym (passed-same e₄)

-- a tree that is read from a text is good
text-good : (text : Text) (tree : Tree) → read_text text ≡ passed tree → good_tree tree true ≡ true
unfolding read_text Spells
text-good text tree e = (tptp_sound 255 text tree e).3

-- a reading that passed: its policy is the accepted words, of 32 bits, of the tree that the text spells, and fits the buffer
record ReadPolicy (table : Words) (text : Text) (buffer : ℕ) (policy : Words) : Type 0 where
  tree : Tree
  spelled : read_text text ≡ passed tree
  accepted : ask_policy table policy ≡ passed tree
  fits : length policy ≤ buffer
  sized : all word_sized policy ≡ true

reading-passed :
    (table : Words) (text : Text) (buffer : ℕ) (policy : Words) →
    ask_policy_reading table text buffer ≡ passed policy →
    ReadPolicy table text buffer policy
unfolding ask_policy_reading
reading-passed table text buffer policy e =
    let (u, e₁, e₂) = then_passed (ask_table table) _ e in
    let (tree, e₃, e₄) = then_passed (read_text text) _ e₂ in
    let (other, e₅, e₆) = then_passed (ask_policy table (encode tree)) _ e₄ in
    let (fits, is) = fit_passed buffer (encode tree) policy e₆ in
    let good = text-good text tree e₃ in
    let same = same-tree table tree other good e₅ in
    let short = (read_length table (encode tree) other (accepted-asked table (encode tree) other e₅).1).1 in
    subst (ReadPolicy table text buffer) is
    (record { tree = tree; spelled = e₃; accepted = rw same at e₅; fits = fits; sized = good-sized tree good short })

-- the policy that an accepted reading leaves
reading-policy :
    (table : Words) (text : Text) (buffer n : ℕ) →
    (read_policy_call table text buffer).answer ≡ Ok n →
    (policy : Words)
    × (ask_policy_reading table text buffer ≡ passed policy)
    × (take n (read_policy_call table text buffer).buffer ≡ policy)
unfolding read_policy_call result filled
reading-policy table text buffer n e =
    let (policy, passes, long) = answer-accepted length (ask_policy_reading table text buffer) n e in
    (policy, passes, ap (λ (o : Outcome Words). take n (filled buffer o)) passes ∙ take_at policy _ n long)

-- a policy that is read is accepted, its tree being the one that the text spells, and is written, in room enough for its text
pub read-write :
    (table : Words) (text : Text) (buffer room n : ℕ) →
    (read_policy_call table text buffer).answer ≡ Ok n →
    let policy = take n (read_policy_call table text buffer).buffer in
    (tree : Tree)
    × (read_text text ≡ passed tree)
    × (ask_policy table policy ≡ passed tree)
    × (length (policy_text tree) ≤ room → (write_policy_call table policy room).answer ≡ Ok (length (policy_text tree)))
read-write table text buffer room n e =
    let (policy, passes, is) = reading-policy table text buffer n e in
    let h = reading-passed table text buffer policy passes in
    rw is (h.tree, h.spelled, h.accepted, write-accepted table policy h.tree room h.accepted)

-- what is read, written and read again gives the same result
pub read-write-read :
    (table : Words) (text : Text) (buffer room n k : ℕ) →
    (read_policy_call table text buffer).answer ≡ Ok n →
    let policy = take n (read_policy_call table text buffer).buffer in
    (write_policy_call table policy room).answer ≡ Ok k →
    read_policy_call table (take k (write_policy_call table policy room).buffer) buffer ≡ read_policy_call table text buffer
read-write-read table text buffer room n k e w =
    let (policy, passes, is) = reading-policy table text buffer n e in
    let h = reading-passed table text buffer policy passes in
    rw is
    (write_read table policy room buffer k h.sized (rw is at w) h.fits
    ∙ sym (reading-result table text buffer policy passes))
