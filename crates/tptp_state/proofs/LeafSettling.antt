-- Laws for a node with none below it, whose words stand apart: its tag and size, what the questions come to, and what it binds.
use Prim.Native.Nat.{ℕ, suc, ◌+◌, min}
use native.Mathlib.Omega.{arith}
use mathlib.Core.Path.{◌≡◌, refl, sym, ap, subst, ◌∙◌}
use mathlib.Core.Bool.{Bool, true, false}
use mathlib.Core.List.{◌++◌}
use lib.ListN.{length, take, drop, take-append-drop, length-append}
use lib.Seq.{sets}
use Rattle.model.specs.Words.{Words, word, value, level_limit}
use Rattle.model.specs.Answer.{Outcome, passed, refused, ask, ◌>>=◌}
use Rattle.model.specs.Tag.{Tag, tag_of}
use Rattle.model.specs.Tree.{Tree, plain, atom, compare, join, quantifier, some, encode_term, encode}
use Rattle.model.specs.Level.{Role, restriction, formula}
use Rattle.model.specs.Reading as R
use Rattle.model.specs.Reading.{questions, build, read_node, is_formula}
use Rattle.model.specs.Mode.{Variables, size, bindings, ask_modes}
use Rattle.model.specs.Tptp.{good_tree}
use Rattle.model.specs.declared.Refusal.{Refusal}
use Rattle.laws.specs.Answer.{refused-passed, then_both}
use Rattle.laws.specs.Words.Tests.{clash}
use Rattle.laws.specs.Putting.Modes.{terms-length}
use Rattle.laws.specs.Words.Standing.{Stands, stands-first, three_stand, code, tag_code}
use Rattle.laws.specs.Reading.Nodes.{Node}
use Rattle.laws.specs.Reading.Encoded.{node-there}
use Rattle.laws.specs.Reading.Trees.{ask_tree, node_asks}
use Rattle.tptp_leaves.specs.Leaves.{is_leaf, LeafStands}
use Rattle.tables.specs.Checked.{outcome}
use Rattle.std.specs.Prelude.{Result}
use Rattle.model.specs.declared.Refused.{Refused}
use Rattle.policies.specs.Node.{There, Sized}
use Rattle.tptp_tokens.specs.Laying.{most_words}
use Rattle.tptp_state.specs.Told.{Passed, told, moved, Told, LeafBound}
use Rattle.tptp_state.specs.declared.state.State.{State}
use Rattle.tptp_leaves.proofs.LeafLaws.{term-two}
use Rattle.tptp_state.proofs.StateLaws.{asked-passed}

-- what passes with something comes to the same as what it was asked for
unfoldable dropped : {A : Type 0} → Outcome A → Outcome (Unit {0})
dropped (refused q p) = refused q p
dropped (passed a) = passed tt

then_dropped : {A : Type 0} (o : Outcome (Unit {0})) (a : A) → dropped (o >>= λ _. passed a) ≡ o
unfolding ◌>>=◌ dropped
then_dropped (refused q p) a = refl
then_dropped (passed u) a = refl

alike : {A : Type 0} (o o' : Outcome (Unit {0})) (a b : A) → (o >>= λ _. passed a) ≡ (o' >>= λ _. passed b) → o ≡ o'
alike o o' a b e = sym (then_dropped o a) ∙ ap dropped e ∙ then_dropped o' b

-- a question at another place, and two of them
moved-ask : (w p : ℕ) (b : Bool) (q : Refusal) → moved w (ask b q p) ≡ ask b q w
unfolding moved ask
moved-ask w p true q = refl
moved-ask w p false q = refl

moved-first :
    {A : Type 0} (w p : ℕ) (b : Bool) (q : Refusal) (k k' : Unit {0} → Outcome A) → ((u : Unit {0}) → moved w (k u) ≡ k' u) →
    moved w (ask b q p >>= k) ≡ (ask b q w >>= k')
unfolding moved ask ◌>>=◌
moved-first w p true q k k' h = h tt
moved-first w p false q k k' h = refl

-- the words of a leaf
module _ (own : Words) (t : Tree) (s : LeafStands own t) (long : length own ≡ 16) where
  leaf-stands : Stands own 0 (encode t) (length (encode t))
  leaf-stands = record {
    here = ap (λ (ws : Words). ws) (sym (take-append-drop (length (encode t)) own)) ∙ ap (λ (ws : Words). ws ++ drop (length (encode t)) own) s.words;
    ends = omega arith;
    fits = omega (arith, s.most);
  }

  -- how many words it has
  leaf-size : (role : Role) (scope : ℕ) → (R.own own (tag_of (word own 0)) role scope 0).size ≡ length (encode t)
  unfolding R.own encode code value
  leaf-size role scope = go t s.leaf leaf-stands
    where
      go :
          (t : Tree) → is_leaf t ≡ true → Stands own 0 (encode t) (length (encode t)) →
          (R.own own (tag_of (word own 0)) role scope 0).size ≡ length (encode t)
      go (plain b) l st = rw (ap tag_of (stands-first own _ _ st) ∙ tag_code (Tag.plain b))
      go (atom b p ts) l st =
          let (tagged, predicate, number, rest) = three_stand own _ _ _ _ st in
          rw (ap tag_of tagged ∙ tag_code (Tag.atom b), number) (omega (arith, terms-length ts))
      go (compare b d x y) l st =
          rw (ap tag_of (stands-first own _ _ st) ∙ tag_code (Tag.compare b))
          (omega (arith, length-append (encode_term x) (encode_term y), term-two x, term-two y))
      go (join b ts) l st = clash l refl
      go (quantifier b v excluded c f) l st = clash l refl
      go (some c) l st = clash l refl

  module _ (g : Tag) (tagged : g ≡ tag_of (word own 0)) where
    -- they are there, and so many
    pub leaf-there : There own g 0
    leaf-there role scope =
        let is = ap (λ (x : Tag). (R.own own x role scope 0).size) tagged ∙ leaf-size role scope in
        omega (arith, is, s.most)

    pub leaf-number : (n : ℕ) → Sized own g 0 n → n ≡ length (encode t)
    leaf-number n k = k formula 0 ∙ ap (λ (x : Tag). (R.own own x formula 0 0).size) tagged ∙ leaf-size formula 0

module _ (table own : Words) (t : Tree) (role : Role) (above scope : ℕ) (s : LeafStands own t) (good : good_tree t (is_formula role) ≡ true) (long : length own ≡ 16) where
  -- the node is read where it stands, if it passes its questions
  reads :
      read_node table own (suc level_limit) role above scope 0
      ≡ (ask_tree t table role above scope 0 >>= λ _. passed (record { tree = t; next = length (encode t) }))
  reads = node_asks table own t (suc level_limit) role above scope 0 (length (encode t)) (omega arith) good (leaf-stands own t s long)

  -- its questions
  pub leaf-questions : questions table own (tag_of (word own 0)) role above scope 0 ≡ ask_tree t table role above scope 0
  unfolding read_node build encode code
  leaf-questions = go t s.leaf (leaf-stands own t s long) reads
    where
      go :
          (t : Tree) → is_leaf t ≡ true → Stands own 0 (encode t) (length (encode t)) →
          read_node table own (suc level_limit) role above scope 0
          ≡ (ask_tree t table role above scope 0 >>= λ _. passed (record { tree = t; next = length (encode t) })) →
          questions table own (tag_of (word own 0)) role above scope 0 ≡ ask_tree t table role above scope 0
      go (plain b) l st e =
          let tag = ap tag_of (stands-first own _ _ st) ∙ tag_code (Tag.plain b) in
          rw tag (alike _ _ _ _ (rw tag at e))
      go (atom b p ts) l st e =
          let tag = ap tag_of (stands-first own _ _ st) ∙ tag_code (Tag.atom b) in
          rw tag (alike _ _ _ _ (rw tag at e))
      go (compare b d x y) l st e =
          let tag = ap tag_of (stands-first own _ _ st) ∙ tag_code (Tag.compare b) in
          rw tag (alike _ _ _ _ (rw tag at e))
      go (join b ts) l st e = clash l refl
      go (quantifier b v excluded c f) l st e = clash l refl
      go (some c) l st e = clash l refl

  -- behind its questions it stands there as a node
  pub leaf-node : questions table own (tag_of (word own 0)) role above scope 0 ≡ passed tt → Node table own role above scope 0 t (length (encode t))
  unfolding ◌>>=◌
  leaf-node e =
      node-there table own (suc level_limit) role above scope 0 (record { tree = t; next = length (encode t) })
      (reads ∙ rw (sym leaf-questions ∙ e))

-- at another place
pub leaf-moved :
    (t : Tree) (table : Words) (role : Role) (above scope w : ℕ) → is_leaf t ≡ true →
    moved w (ask_tree t table role above scope 0) ≡ ask_tree t table role above scope w
unfolding ask_tree
leaf-moved (plain b) table role above scope w l = moved-ask w 0 _ _
leaf-moved (atom b p ts) table role above scope w l = moved-first w 0 _ _ _ _ λ _. moved-first w 0 _ _ _ _ λ _. moved-ask w 0 _ _
leaf-moved (compare b d x y) table role above scope w l = moved-first w 0 _ _ _ _ λ _. moved-ask w 0 _ _
leaf-moved (join b ts) table role above scope w l = clash l refl
leaf-moved (quantifier b v excluded c f) table role above scope w l = clash l refl
leaf-moved (some c) table role above scope w l = clash l refl

pub leaf-binds :
    (t : Tree) (table : Words) (bound : Variables) (scope w : ℕ) → is_leaf t ≡ true →
    moved w (bindings t table bound scope 0) ≡ bindings t table bound scope w
unfolding bindings moved
leaf-binds (plain b) table bound scope w l = refl
leaf-binds (atom true p ts) table bound scope w l = moved-first w 0 _ _ _ _ λ _. refl
leaf-binds (atom false p ts) table bound scope w l = moved-first w 0 _ _ _ _ λ _. refl
leaf-binds (compare b d x y) table bound scope w l = moved-first w 0 _ _ _ _ λ _. refl
leaf-binds (join b ts) table bound scope w l = clash l refl
leaf-binds (quantifier b v excluded c f) table bound scope w l = clash l refl
leaf-binds (some c) table bound scope w l = clash l refl

-- nothing of it is asked by question 7 outside restrictions
leaf-modes : (t : Tree) (table : Words) (scope w : ℕ) → is_leaf t ≡ true → ask_modes t table scope w ≡ passed tt
unfolding ask_modes
leaf-modes (plain b) table scope w l = refl
leaf-modes (atom b p ts) table scope w l = refl
leaf-modes (compare b d x y) table scope w l = refl
leaf-modes (join b ts) table scope w l = clash l refl
leaf-modes (quantifier b v excluded c f) table scope w l = clash l refl
leaf-modes (some c) table scope w l = clash l refl

then_nothing : (o : Outcome (Unit {0})) (k : Unit {0} → Outcome (Unit {0})) → ((u : Unit {0}) → k u ≡ passed tt) → (o >>= k) ≡ o
unfolding ◌>>=◌
then_nothing (refused q p) k h = refl
then_nothing (passed u) k h = h u

-- all that is known behind it
module _
    (table own : Words) (t : Tree) (role : Role) (above scope : ℕ) (s : State) (out out' : Words) (n words : ℕ) (asked : Result (Unit {0}) Refused)
    (stand : LeafStands own t) (good : good_tree t (is_formula role) ≡ true) (long : length own ≡ 16)
    (sized : n ≡ length (encode t))
    (count : words ≡ min (s.words + n) most_words)
    (laid : out' ≡ sets out s.words (take n own))
    (told-asked : outcome asked ≡ (outcome s.asked >>= λ _. moved s.words (questions table own (tag_of (word own 0)) role above scope 0)))
  where
    words-laid : out' ≡ sets out s.words (encode t)
    words-laid = laid ∙ ap (λ (k : ℕ). sets out s.words (take k own)) sized ∙ ap (sets out s.words) stand.words

    questions-told : outcome asked ≡ (outcome s.asked >>= λ _. ask_tree t table role above scope s.words)
    questions-told =
        told-asked
        ∙ then_both (outcome s.asked) λ _.
        ap (moved s.words) (leaf-questions table own t role above scope stand good long)
        ∙ leaf-moved t table role above scope s.words stand.leaf

    counted : words ≡ min (s.words + size t) most_words
    unfolding size
    counted = count ∙ ap (λ (k : ℕ). min (s.words + k) most_words) sized

    passes : asked ≡ Passed → s.asked ≡ Passed
    passes p = (asked-passed asked s.asked _ told-asked p).0

    -- in a formula nothing is bound
    pub leaf-formula :
        is_formula role ≡ true →
        Told table t role above scope s (record { words = words; asked = asked; moded = s.moded; set = s.set }) out out'
    leaf-formula f = record {
      counted = counted;
      passes = passes;
      settled = λ _. record {
        asked = questions-told;
        modes = λ _. rw f (unbound t stand.leaf);
        laid = words-laid;
      };
    }
      where
        unbound : (t : Tree) → is_leaf t ≡ true → outcome s.moded ≡ (outcome s.moded >>= λ _. ask_modes t table scope s.words)
        unbound t l = sym (then_nothing (outcome s.moded) _ (λ u. leaf-modes t table scope s.words l))

    -- in a restriction
    pub leaf-restricted :
        is_formula role ≡ false → (b : State) →
        LeafBound table own above scope (record { words = s.words; asked = asked; moded = s.moded; set = s.set }) b →
        (asked ≡ Passed → Node table own restriction above scope 0 t (length (encode t))) →
        Told table t role above scope s (record { words = words; asked = b.asked; moded = b.moded; set = b.set }) out out'
    leaf-restricted f b bound node = record {
      counted = counted;
      passes = λ p. passes (sym bound.asked ∙ p);
      settled = λ _. record {
        asked = ap outcome bound.asked ∙ questions-told;
        modes = λ p.
            let asked-same = sym bound.asked ∙ p in
            rw f
            (bound.modes asked-same t (length (encode t)) (node asked-same)
            ∙ then_both (told s.moded s.set) λ vs. leaf-binds t table vs scope s.words stand.leaf);
        laid = words-laid;
      };
    }

moved-passed : (w : ℕ) (o : Outcome (Unit {0})) → moved w o ≡ passed tt → o ≡ passed tt
unfolding moved
moved-passed w (refused q p) e = refused-passed e
moved-passed w (passed u) e = refl

-- in a restriction it stands there as a node, if its questions passed
pub leaf-here :
    (table own : Words) (t : Tree) (role : Role) (above scope w : ℕ) (asked before : Result (Unit {0}) Refused) →
    LeafStands own t → good_tree t (is_formula role) ≡ true → length own ≡ 16 →
    role ≡ restriction →
    outcome asked ≡ (outcome before >>= λ _. moved w (questions table own (tag_of (word own 0)) role above scope 0)) →
    asked ≡ Passed →
    Node table own restriction above scope 0 t (length (encode t))
leaf-here table own t role above scope w asked before stand good long is e p =
    let passes = (asked-passed asked before _ e p).1 in
    subst (λ (r : Role). Node table own r above scope 0 t (length (encode t))) is
    (leaf-node table own t role above scope stand good long (moved-passed w _ passes))
