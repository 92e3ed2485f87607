-- The reading of a policy, question by question, and what it leaves in the buffer.
use Prim.Native.Nat.{ℕ, ◌-◌, ◌≤◌, ◌<◌, min}
use native.Mathlib.Omega.{arith}
use mathlib.Core.Path.{◌≡◌, refl, sym, ap, ◌∙◌, subst}
use mathlib.Core.Logic.{⊎_elim}
use mathlib.Core.Bool.{Bool, true, false}
use mathlib.Core.List.{◌++◌}
use lib.ListN.{length, take}
use lib.Seq.{sets-eq, take-append_seam}
use lib.Dec.{leb}
use borrow.Author.Tests.{leb-true, leb-false, le-leb, lt-leb}
use Rattle.std.specs.Prelude.{Result, Ok, Err}
use Rattle.model.specs.declared.Refusal.{Refusal}
use Rattle.model.specs.declared.Refusal.TheVariants.{PolicyLength, Room}
use Rattle.model.specs.Words.{Words, policy_limit}
use Rattle.model.specs.Bytes.{Text}
use Rattle.model.specs.Answer.{Answer, AnswersAs, Outcome, passed, refused, ask, answer, count, ◌>>=◌, refused_at}
use Rattle.model.specs.Table.{ask_table}
use Rattle.model.specs.Tree.{Tree, encode}
use Rattle.model.specs.Level.{formula}
use Rattle.model.specs.Reading.{is_formula}
use Rattle.model.specs.Mode.{size, ask_modes}
use Rattle.model.specs.Tptp.{good_tree, Spells}
use Rattle.model.specs.TptpReading.{tree_of, read_tptp, read_text, read_whole}
use Rattle.model.specs.Calls.{zeros, filled, result, in_room, ask_policy_reading, read_policy_call}
use Rattle.laws.specs.Answer.{answers, refused-passed}
use Rattle.laws.specs.Words.Tests.{decide}
use Rattle.laws.specs.Reading.Trees.{ask_tree, ask-tree}
use Rattle.laws.specs.Tptp.Sound.Policies.{tptp_sound}
use Rattle.tables.specs.Checked.{outcome}
use Rattle.model.specs.declared.Refused.{Refused}
use Rattle.tptp_state.specs.Told.{Told}
use Rattle.tptp_reading.specs.Policy.{start_state, PolicyRead}
use Rattle.tptp_state.specs.declared.state.State.{State}
use Rattle.policy_texts.specs.PolicyText.{settled_policy, ReadsPolicy}

-- questions 2, 4 to 7 and 12 by what is known: the first refusal, or none
module _ (room : ℕ) (s : State) where
  abbrev Settles : Answer → Type 0
  Settles r = r ≡ answer (λ _. s.words) (settled_policy room s)

  pub settle-long : policy_limit < s.words → Settles (Err (refused_at PolicyLength 0))
  unfolding settled_policy answer ask ◌>>=◌
  settle-long h = rw (lt-leb s.words policy_limit h)

  module _ (h : s.words ≤ policy_limit) where
    pub settle-asked : {q : Refusal} {p : ℕ} → s.asked ≡ Err (refused_at q p) → Settles (Err (refused_at q p))
    unfolding settled_policy answer ask ◌>>=◌
    settle-asked e = rw (le-leb s.words policy_limit h, e)

    module _ (e : s.asked ≡ Ok tt) where
      pub settle-moded : {q : Refusal} {p : ℕ} → s.moded ≡ Err (refused_at q p) → Settles (Err (refused_at q p))
      unfolding settled_policy answer ask ◌>>=◌
      settle-moded f = rw (le-leb s.words policy_limit h, e, f)

      module _ (f : s.moded ≡ Ok tt) where
        pub settle-short : room < s.words → Settles (Err (refused_at Room 0))
        unfolding settled_policy answer ask ◌>>=◌
        settle-short l = rw (le-leb s.words policy_limit h, e, f, lt-leb s.words room l)

        pub settle-passed : s.words ≤ room → Settles (Ok s.words)
        unfolding settled_policy answer ask ◌>>=◌
        settle-passed l = rw (le-leb s.words policy_limit h, e, f, le-leb s.words room l)

-- if they pass, the words fit
settles : (room : ℕ) (s : State) → settled_policy room s ≡ passed tt → (s.words ≤ policy_limit) × (s.words ≤ room)
unfolding settled_policy ask ◌>>=◌
settles room s e = go (leb s.words policy_limit) refl (outcome s.asked) (outcome s.moded) e
  where
    last : (b : Bool) → leb s.words room ≡ b → ask b Room 0 ≡ passed tt → s.words ≤ room
    last true l k = leb-true s.words room l
    last false l k = refused-passed k

    go :
        (b : Bool) → leb s.words policy_limit ≡ b → (o u : Outcome (Unit {0})) →
        (ask b PolicyLength 0 >>= λ _. o >>= λ _. u >>= λ _. ask (leb s.words room) Room 0) ≡ passed tt →
        (s.words ≤ policy_limit) × (s.words ≤ room)
    go false l o u k = refused-passed k
    go true l (refused q p) u k = refused-passed k
    go true l (passed t) (refused q p) k = refused-passed k
    go true l (passed t) (passed v) k = (leb-true s.words policy_limit l, last (leb s.words room) refl k)

-- what was asked on the way, and what is asked of the tree
asked-alike :
    (a m : Result (Unit {0}) Refused) (o u : Outcome (Unit {0})) (tree : Tree) (ws : Words) (room : ℕ) →
    outcome a ≡ o →
    (a ≡ Ok tt → outcome m ≡ u) →
    (o >>= (λ _. u >>= λ _. passed tree) >>= λ _. in_room room ws)
    ≡ (outcome a >>= (λ _. outcome m >>= λ _. ask (leb (length ws) room) Room 0) >>= λ _. passed ws)
unfolding in_room ◌>>=◌
asked-alike (Err q) m o u tree ws room e f = rw (sym e)
asked-alike (Ok t) m o u tree ws room e f = rw (sym e, sym (f refl)) (go m)
  where
    go :
        (m : Result (Unit {0}) Refused) →
        (outcome m >>= (λ _. passed tree) >>= λ _. in_room room ws)
        ≡ (outcome m >>= (λ _. ask (leb (length ws) room) Room 0) >>= λ _. passed ws)
    go (Err q) = refl
    go (Ok t) = refl

module _ (table : Words) (text : Text) (room : ℕ) where
  -- a refusal
  leaves-refused :
      (after : Words) {q : Refusal} {p : ℕ} → ask_policy_reading table text room ≡ refused q p → ReadsPolicy table text room after (Err (refused_at q p))
  unfolding answer count filled
  leaves-refused after e =
      record { answered = rw e; fits = omega arith; wrote = rw e (ap zeros (let z : room - 0 ≡ room = omega arith in z)) }

  pub table-refused : (after : Words) {q : Refusal} {p : ℕ} → ask_table table ≡ refused q p → ReadsPolicy table text room after (Err (refused_at q p))
  unfolding ask_policy_reading ◌>>=◌
  table-refused after e = leaves-refused after (rw e)

  module _ (e : ask_table table ≡ passed tt) where
    pub text-refused :
        (after : Words) {q : Refusal} {p : ℕ} → read_whole 255 text 0 ≡ refused q p → ReadsPolicy table text room after (Err (refused_at q p))
    unfolding ask_policy_reading read_text read_tptp tree_of ◌>>=◌
    text-refused after f = leaves-refused after (rw (e, f))

    -- a tree was read: its questions are those that were asked on the way
    module _
        (old after : Words) (tree : Tree) (s : State)
        (read : read_text text ≡ passed tree)
        (told : Told table tree formula 0 0 start_state s old after)
      where
        good : good_tree tree true ≡ true
        unfolding read_text Spells
        good = (tptp_sound 255 text tree read).3

        words : s.words ≡ min (length (encode tree)) 2097152
        unfolding size
        words = omega (arith, told.counted)

        abbrev Asks : Bool → Type 0
        Asks b =
            (ask b PolicyLength 0 >>= (λ _. ask_tree tree table formula 0 0 0 >>= λ _. ask_modes tree table 0 0 >>= λ _. passed tree)
            >>= λ _. in_room room (encode tree))
            ≡ (settled_policy room s >>= λ _. passed (encode tree))

        -- they fit the limit of words, or are too many
        fits : length (encode tree) ≤ policy_limit → Asks true
        unfolding settled_policy ◌>>=◌ ask size is_formula
        fits h =
            let settled = told.settled (omega arith) in
            let exact : s.words ≡ length (encode tree) = omega (arith, words) in
            rw (exact, le-leb (length (encode tree)) policy_limit h)
            (asked-alike s.asked s.moded (ask_tree tree table formula 0 0 0) (ask_modes tree table 0 0) tree (encode tree) room
            settled.asked settled.modes)

        long : policy_limit < length (encode tree) → Asks false
        unfolding settled_policy ◌>>=◌ ask
        long h = rw (lt-leb s.words policy_limit (omega (arith, words)))

        asked : ask_policy_reading table text room ≡ (settled_policy room s >>= λ _. passed (encode tree))
        unfolding ask_policy_reading ◌>>=◌
        asked =
            rw (e, read, ask-tree table tree good, e)
            (⊎_elim
            (λ (l : leb (length (encode tree)) policy_limit ≡ true). rw l (fits (leb-true (length (encode tree)) policy_limit l)))
            (λ (l : leb (length (encode tree)) policy_limit ≡ false). rw l (long (leb-false (length (encode tree)) policy_limit l)))
            (decide (leb (length (encode tree)) policy_limit)))

        -- the answer, and the words if they fit
        leaves : length old ≡ room → (o : Outcome (Unit {0})) → settled_policy room s ≡ o → ReadsPolicy table text room after (answer (λ _. s.words) o)
        unfolding answer ◌>>=◌ count filled size
        leaves l (refused q p) f = leaves-refused after (asked ∙ rw f)
        leaves l (passed u) f =
            let (few, short) = settles room s f in
            let exact : s.words ≡ length (encode tree) = omega (arith, words, few) in
            let is : ask_policy_reading table text room ≡ passed (encode tree) = asked ∙ rw f in
            record {
              answered = rw (is, exact);
              fits = short;
              wrote = rw (is, exact) (ap (λ (ws : Words). ws ++ zeros (room - length (encode tree))) (front (omega (arith, exact, few)) (omega (arith, exact, short, l))));
            }
          where
            front : length (encode tree) ≤ policy_limit → length (encode tree) ≤ length old → take (length (encode tree)) after ≡ encode tree
            front few short =
                ap (take (length (encode tree))) ((told.settled (omega (arith, few))).laid ∙ sets-eq (encode tree) old 0 (omega (arith, short)))
                ∙ take-append_seam (encode tree) _

        pub text-read : length old ≡ room → (r : Answer) → r ≡ answer (λ _. s.words) (settled_policy room s) → ReadsPolicy table text room after r
        text-read l r a = subst (ReadsPolicy table text room after) (sym a) (leaves l (settled_policy room s) refl)

-- what came of a text: a refusal, or what is known behind its tree
module _ (table : Words) (text : Text) (old after : Words) (e : ask_table table ≡ passed tt) where
  pub came_refused :
      (r : Result State Refused) → PolicyRead table text old after r → {q : Refusal} {p : ℕ} → r ≡ Err (refused_at q p) →
      ReadsPolicy table text (length old) after (Err (refused_at q p))
  came_refused r h f = text-refused table text (length old) e after (subst (PolicyRead table text old after) f h)

  pub came-read :
      (r : Result State Refused) → PolicyRead table text old after r → {s : State} → r ≡ Ok s → (a : Answer) →
      a ≡ answer (λ _. s.words) (settled_policy (length old) s) →
      ReadsPolicy table text (length old) after a
  unfolding read_text read_tptp tree_of
  came-read r h {s} f a answered =
      let (tree, read, told) = subst (PolicyRead table text old after) f h in
      text-read table text (length old) e old after tree s (ap tree_of read) told refl a answered

-- what stands behind the words counted becomes zero
pub policy-cleared :
    (table : Words) (text : Text) (buffer after after' : Words) (r : Answer) (n : ℕ) →
    ReadsPolicy table text (length buffer) after r →
    length after ≡ length buffer →
    n ≡ count r →
    after' ≡ take n after ++ zeros (length after - n) →
    AnswersAs (read_policy_call table text (length buffer)).answer r × (after' ≡ (read_policy_call table text (length buffer)).buffer)
unfolding read_policy_call result answer
policy-cleared table text buffer after after' r n l k e c = (answers l.answered, c ∙ rw (e, k) l.wrote)
