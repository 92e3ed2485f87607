-- A child that stands behind the parts of a join: nothing more is kept if the join is no longer open; a join
-- of the same kind gives its children, its header taken out; any other tree is one part more.
use Prim.Native.Nat.{ℕ, ◌+◌, ◌-◌, ◌≤◌, ◌<◌}
use native.Mathlib.Omega.{arith}
use mathlib.Core.Path.{◌≡◌, refl, sym, ap, ap₂, ◌∙◌, subst}
use mathlib.Core.Bool.{Bool, true, false, not, cond}
use mathlib.Core.List.{◌∷◌, ◌++◌}
use lib.ListN.{length, take, drop, get_or, length-append, length-drop}
use lib.Seq.{take_at, drop_at, take-add, drop-drop, get_or-take, get_or-drop, length-take-le}
use lib.Dec.{ltb}
use denote.Enum.Bare.{sameb, differs_false}
use borrow.Author.Rules.{rules}
use borrow.Author.Tests.{ltb-false}
use lib.IntN.{ℤ, pos, nat_abs}
use Rattle.model.specs.Words.{Words, word, value, equal}
use Rattle.model.specs.Tree.{Trees, join, nil, cons, count, encode, encode_all}
use Rattle.model.specs.Joining as M
use Rattle.laws.specs.Reading.Back.{encode_nonempty, count-few}
use Rattle.words.specs.Laying.{laid}
use Rattle.joining.specs.declared.answer.Reduced.TheVariants.{Part}
use Rattle.joining.specs.declared.join.Join.{Join}
use Rattle.joining.specs.contracts.join.State.{the_type}
use Rattle.joining.specs.declared.join.State.{State}
use Rattle.joining.specs.declared.join.State.TheVariants.{Open}
use Rattle.joining.specs.Join.{Stand, Adding, added}
use Rattle.joining.proofs.Parts as P
use Rattle.joining.proofs.Telling.{told_part}
use Rattle.joining.proofs.Adding.{before, Says, Goes, next, goes_open, closed}

-- the word at an index of a part
word_at : (out : Words) (w k i : ℕ) (part : Words) → take k (drop w out) ≡ part → i < k → word out (w + i) ≡ get_or part i (pos 0)
unfolding word
word_at out w k i part e h =
    sym (get_or-drop w out i (pos 0)) ∙ sym (get_or-take k (drop w out) i (pos 0) h) ∙ ap (λ (l : Words). get_or l i (pos 0)) e

-- the words behind the first two of a part
behind-two :
    (out : Words) (w k m : ℕ) (x y : ℤ) (l : Words) →
    take k (drop w out) ≡ x ∷ y ∷ l →
    k ≡ 2 + m →
    w + k ≤ length out →
    take m (drop (w + 2) out) ≡ l
behind-two out w k m x y l e n h =
    let d : Words = drop w out in
    let two : length (take 2 d) ≡ 2 = length-take-le 2 d (omega (arith, length-drop w out)) in
    ap (take m) (sym (drop-drop 2 w out))
    ∙ sym (drop_at (take 2 d) (take m (drop 2 d)) 2 two)
    ∙ ap (drop 2) (sym (take-add 2 m d) ∙ ap (λ (i : ℕ). take i d) (sym n) ∙ e)

-- the words up to the end of a part that is laid over others
laid-front : (old : Words) (to n : ℕ) (part : Words) → to ≤ length old → n ≡ to + length part → take n (laid old to part) ≡ take to old ++ part
unfolding laid
laid-front old to n part h e =
    take_at (take to old ++ part) (drop (to + length part) old) n
    (length-append (take to old) part ∙ ap (λ (i : ℕ). i + length part) (length-take-le to old h) ∙ sym e)

-- the parts so far are no more than their words
pub few : (ps : Trees) (out : Words) (j : Join) → Stand ps out j → j.parts ≤ j.words
few ps out j s = omega (arith, s.size, s.number, count-few ps)

-- the test of a state says that it is `Open`
pub still_open : (s : State) → not (sameb the_type s Open) ≡ false → s ≡ Open
still_open s e = differs_false the_type (search rules) s Open e

module _ {out : Words} {j : Join} {k : ℕ} (a : Adding out j (Part k)) where
  told_so : (ltb a.places a.n ≡ false) × (P.Solid a.t × (k ≡ length (encode a.t)) × (k ≤ length out - j.words))
  told_so = told_part a.places a.n (length out - j.words) a.t k a.is

  undecided : M.decides a.b a.t ≡ false
  undecided = (P.counted a.b a.t told_so.1.0 a.wide).undecided

  fine : a.n ≤ a.places
  fine = ltb-false a.places a.n told_so.0

  stands : take k (drop j.words out) ≡ encode a.t
  stands = a.words k refl

  -- the child's words are there
  pub part_room : j.words + k ≤ length out
  part_room = omega (arith, told_so.1.2, a.state.within)

  some_word : 0 < k
  some_word = omega (arith, told_so.1.1, encode_nonempty a.t)

  -- nothing more is kept
  pub keep-closed : (j.state ≡ Open → ⊥) → added a out j
  keep-closed h = next a out j refl a.state.within (closed a fine undecided j.state h a.state.tells)

  -- the state with so many parts in so many words at the front
  abbrev with_parts : ℕ → ℕ → Join
  with_parts n w = record { kind = j.kind; state = j.state; parts = n; words = w }

  abbrev pub grown : (after : Words) (n w : ℕ) → Type 0
  grown after n w = added a after (with_parts n w)

  module _ (open_so : j.state ≡ Open) where
    so : Says a Open
    so = subst (Says a) open_so a.state.tells

    pub so_far : Stand (before a) out j
    so_far = so.2

    pub so_few : j.parts ≤ j.words
    so_few = few (before a) out j so_far

    -- the first word tells whether the child is a join of the same kind
    tells : equal (word out j.words) (pos (cond j.kind 6 7)) ≡ P.same_kind a.b a.t
    tells =
        let z : j.words + 0 ≡ j.words = omega arith in
        let first : word out j.words ≡ get_or (encode a.t) 0 (pos 0)
        = ap (word out) (sym z) ∙ word_at out j.words k 0 (encode a.t) stands some_word in
        ap₂ (λ (x : ℤ) (b : Bool). equal x (pos (cond b 6 7))) first a.state.kind ∙ P.first-tells a.b a.t

    -- parts more at the front
    grow :
        (after : Words) (n w : ℕ) (us : Trees) →
        M.parts a.b a.t ≡ us →
        w ≡ j.words + length (encode_all us) →
        n ≡ j.parts + count us →
        take w after ≡ take j.words out ++ encode_all us →
        w ≤ length after →
        grown after n w
    grow after n w us e size number front room =
        let s = so_far in
        next a after (with_parts n w) refl room
        (subst (Goes a after (with_parts n w)) (sym open_so)
        (goes_open a after (with_parts n w) so.0 fine so.1 undecided
        (subst (λ (vs : Trees). Stand (M.append (before a) vs) after (with_parts n w)) (sym e)
        (record {
          size = size ∙ ap (λ (i : ℕ). i + length (encode_all us)) s.size ∙ sym (P.append-long (before a) us);
          number = number ∙ ap (λ (i : ℕ). i + count us) s.number ∙ sym (P.append-count (before a) us);
          front = front ∙ ap (λ (l : Words). l ++ encode_all us) s.front ∙ sym (P.append-words (before a) us);
        }))))

    -- the child is one part more
    pub keep-whole : equal (word out j.words) (pos (cond j.kind 6 7)) ≡ false → grown out (j.parts + 1) (j.words + k)
    unfolding count
    keep-whole e =
        let one = cons a.t nil in
        let long : length (encode_all one) ≡ k = ap length (P.single_words a.t) ∙ sym told_so.1.1 in
        grow out (j.parts + 1) (j.words + k) one (P.parts_itself a.b a.t told_so.1.0 (sym tells ∙ e))
        (omega (arith, long))
        (omega arith)
        (take-add j.words k out ∙ ap (λ (l : Words). take j.words out ++ l) (stands ∙ sym (P.single_words a.t)))
        part_room

    -- the child gives its children
    module _ (e : equal (word out j.words) (pos (cond j.kind 6 7)) ≡ true) where
      same_kind_lem : (us : Trees) × (a.t ≡ join a.b us) × (M.parts a.b a.t ≡ us)
      same_kind_lem = P.parts_same a.b a.t (sym tells ∙ e)

      abbrev us : Trees
      us = same_kind_lem.0

      words_are : encode a.t ≡ pos (cond a.b 6 7) ∷ pos (count us) ∷ encode_all us
      unfolding encode
      words_are = ap encode same_kind_lem.1

      long-is : k ≡ 2 + length (encode_all us)
      long-is = omega (arith, told_so.1.1, ap length words_are)

      pub header-there : 2 ≤ k
      header-there = omega (arith, long-is)

      pub children-there : j.words + 2 + (k - 2) ≤ length out
      children-there = omega (arith, long-is, part_room)

      number_is : value out (j.words + 1) ≡ count us
      unfolding value
      number_is =
          ap nat_abs
          (word_at out j.words k 1 _ (stands ∙ words_are) (omega (arith, long-is)))

      pub children-few : j.parts + value out (j.words + 1) ≤ length out
      children-few = omega (arith, number_is, count-few us, long-is, part_room, so_few)

      pub keep-children :
          (after : Words) →
          length after ≡ length out →
          after ≡ laid out j.words (take (k - 2) (drop (j.words + 2) out)) →
          (n : ℕ) →
          n ≡ value out (j.words + 1) →
          grown after (j.parts + n) (j.words + (k - 2))
      keep-children after same f n m =
          let less : k - 2 ≡ length (encode_all us) = omega (arith, long-is) in
          let moved : take (k - 2) (drop (j.words + 2) out) ≡ encode_all us
          = behind-two out j.words k (k - 2) _ _ (encode_all us) (stands ∙ words_are) (omega (arith, long-is)) part_room in
          grow after (j.parts + n) (j.words + (k - 2)) us same_kind_lem.2
          (omega (arith, less))
          (omega (arith, m, number_is))
          (ap (take (j.words + (k - 2))) (f ∙ ap (laid out j.words) moved)
          ∙ laid-front out j.words (j.words + (k - 2)) (encode_all us) a.state.within (omega (arith, less)))
          (omega (arith, part_room, long-is))
