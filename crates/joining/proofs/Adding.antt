-- What the answer of one child more makes of the state of a join. By the answer: the places ran out; a plain child decides
-- or vanishes; a child that does not fit makes the join not fit; a child that stands behind the parts is one part more, or if
-- it is a join of the same kind, its children are.
use Prim.Native.Nat.{ℕ, ◌-◌, ◌≤◌, ◌<◌, max}
use native.Mathlib.Omega.{arith}
use mathlib.Core.Path.{◌≡◌, refl, sym, ap, ap₂, ◌∙◌, subst}
use mathlib.Core.Bool.{Bool, true, false, not, ◌||◌}
use lib.ListN.{length}
use lib.Dec.{ltb}
use borrow.Author.Tests.{ltb-true, ltb-false}
use Rattle.std.specs.Ordering.{ord_max}
use Rattle.model.specs.Words.{Words, same}
use Rattle.model.specs.Tree.{Tree, Trees, plain, nil, cons, count, encode}
use Rattle.model.specs.Joining as M
use Rattle.laws.specs.Words.Tests.{or_left, or_right}
use Rattle.joining.specs.declared.answer.Reduced.{Reduced}
use Rattle.joining.specs.declared.answer.Reduced.TheVariants as R
use Rattle.joining.specs.contracts.join.StateOrd.TheImpl.{cmp-value}
use Rattle.joining.specs.declared.join.Join.{Join}
use Rattle.joining.specs.declared.join.State.{State}
use Rattle.joining.specs.declared.join.State.TheVariants.{Open, Long, Decided, Short}
use Rattle.joining.specs.Join.{Stand, Exceed, Tells, Joining, Adding, added}
use Rattle.joining.proofs.Parts as P
use Rattle.joining.proofs.Telling.{told-short, told-plain, told-long}

-- no child
pub no_child :
    (b : Bool) (places : ℕ) (out : Words) → Joining b nil 0 places out (record { kind = b; state = Open; parts = 0; words = 0 })
unfolding M.decided M.parts_all encode count
no_child b places out =
    record {
      wide = tt;
      kind = refl;
      within = omega arith;
      tells = (omega arith, refl, record { size = refl; number = refl; front = refl });
    }

-- parts that don't fit, and more parts
exceed_more : (ps us : Trees) (room : ℕ) → Exceed ps room → Exceed (M.append ps us) room
exceed_more ps us room x =
    record { more = omega (arith, x.more, P.join_words_grows ps us); present = omega (arith, x.present, P.append-count ps us) }

-- no parts more
stand-none : (ps us : Trees) (out : Words) (j : Join) → us ≡ nil → Stand ps out j → Stand (M.append ps us) out j
stand-none ps us out j e s = subst (λ (qs : Trees). Stand qs out j) (sym (ap (M.append ps) e ∙ P.append-none ps)) s

module _ {out : Words} {j : Join} {answer : Reduced} (a : Adding out j answer) where
  -- the parts so far, and with the child
  abbrev pub before : Trees
  before = M.parts_all a.b a.ts

  abbrev pub with_child : Trees
  with_child = M.append before (M.parts a.b a.t)

  -- what a state says, so far and with the child
  abbrev pub Says : State → Type 0
  Says s = Tells a.b a.ts a.need a.places out j s

  abbrev pub Goes : (after : Words) (r : Join) (s : State) → Type 0
  Goes after r s = Tells a.b (M.append a.ts (cons a.t nil)) (max a.need a.n) a.places after r s

  -- the join with the child, by what its state says
  pub next : (after : Words) (r : Join) → r.kind ≡ j.kind → r.words ≤ length after → Goes after r r.state → added a after r
  next after r k w s =
      record { wide = P.wide-more a.ts a.t a.state.wide a.wide; kind = k ∙ a.state.kind; within = w; tells = s }

  -- the parts fit; they don't; a child decides
  pub goes_open :
      (after : Words) (r : Join) → a.need ≤ a.places → a.n ≤ a.places → M.decided a.b a.ts ≡ false → M.decides a.b a.t ≡ false →
      Stand with_child after r → Goes after r Open
  goes_open after r m n d e s = (
    omega arith,
    P.decided-more a.b a.ts a.t ∙ ap₂ ◌||◌ d e,
    subst (λ (ps : Trees). Stand ps after r) (sym (P.parts_more a.b a.ts a.t)) s,
  )

  pub goes_long :
      (after : Words) (r : Join) → a.need ≤ a.places → a.n ≤ a.places → M.decided a.b a.ts ≡ false → M.decides a.b a.t ≡ false →
      Exceed with_child (length after) → Goes after r Long
  goes_long after r m n d e x = (
    omega arith,
    P.decided-more a.b a.ts a.t ∙ ap₂ ◌||◌ d e,
    subst (λ (ps : Trees). Exceed ps (length after)) (sym (P.parts_more a.b a.ts a.t)) x,
  )

  pub goes_decided :
      (after : Words) (r : Join) → a.need ≤ a.places → a.n ≤ a.places → M.decided a.b a.ts || M.decides a.b a.t ≡ true → Goes after r Decided
  goes_decided after r m n d = (omega arith, P.decided-more a.b a.ts a.t ∙ d)

  -- a child that decides nothing changes nothing once the parts don't fit
  pub closed : a.n ≤ a.places → M.decides a.b a.t ≡ false → (s : State) → (s ≡ Open → ⊥) → Says s → Goes out j s
  closed n e Open h w = absurd (h refl)
  closed n e Long h w = goes_long out j w.0 n w.1 e (exceed_more before (M.parts a.b a.t) (length out) w.2)
  closed n e Decided h w = goes_decided out j w.0 n (or_left (M.decided a.b a.ts) (M.decides a.b a.t) w.1)
  closed n e Short h w = omega arith

-- the places ran out
pub add_short :
    {out : Words} {j : Join} (a : Adding out j R.Short) → added a out (record { kind = j.kind; state = Short; parts = j.parts; words = j.words })
add_short {out} {j} a =
    next a out _ refl a.state.within
    (omega (arith, ltb-true a.places a.n (told-short a.places a.n (length out - j.words) a.t a.is)))

-- a plain child with the other value vanishes
not_deciding : (b v : Bool) → same v b ≡ true → same v (not b) ≡ false
not_deciding true true e = refl
not_deciding true false e = sym e
not_deciding false true e = sym e
not_deciding false false e = refl

plain-decides : (b v : Bool) (t : Tree) → t ≡ plain v → M.decides b t ≡ same v (not b)
unfolding M.decides
plain-decides b v t e = ap (M.decides b) e

plain-parts : (b v : Bool) (t : Tree) → t ≡ plain v → M.parts b t ≡ nil
unfolding M.parts
plain-parts b v t e = ap (M.parts b) e

pub add_vanishing : {out : Words} {j : Join} (v : Bool) (a : Adding out j (R.Plain v)) → same v j.kind ≡ true → added a out j
add_vanishing {out} {j} v a e = next a out j refl a.state.within (go j.state a.state.tells)
  where
    m : (ltb a.places a.n ≡ false) × (a.t ≡ plain v)
    m = told-plain a.places a.n (length out - j.words) a.t v a.is

    n : a.n ≤ a.places
    n = ltb-false a.places a.n m.0

    no : M.decides a.b a.t ≡ false
    no = plain-decides a.b v a.t m.1 ∙ not_deciding a.b v (ap (same v) (sym a.state.kind) ∙ e)

    go : (s : State) → Says a s → Goes a out j s
    go Open w = goes_open a out j w.0 n w.1 no (stand-none (before a) (M.parts a.b a.t) out j (plain-parts a.b v a.t m.1) w.2)
    go Long w = closed a n no Long (λ o. cc) w
    go Decided w = closed a n no Decided (λ o. cc) w
    go Short w = closed a n no Short (λ o. cc) w

-- a plain child with the deciding value
deciding : (b v : Bool) → same v b ≡ false → same v (not b) ≡ true
deciding true true e = sym e
deciding true false e = refl
deciding false true e = refl
deciding false false e = sym e

pub add_deciding :
    {out : Words} {j : Join} (v : Bool) (a : Adding out j (R.Plain v)) → same v j.kind ≡ false →
    (to : State) → to ≡ ord_max cmp-value.it j.state Decided →
    added a out (record { kind = j.kind; state = to; parts = j.parts; words = j.words })
add_deciding {out} {j} v a e to is = next a out r refl a.state.within (subst (Goes a out r) (sym is) (go j.state a.state.tells))
  where
    m : (ltb a.places a.n ≡ false) × (a.t ≡ plain v)
    m = told-plain a.places a.n (length out - j.words) a.t v a.is

    n : a.n ≤ a.places
    n = ltb-false a.places a.n m.0

    yes : M.decided a.b a.ts || M.decides a.b a.t ≡ true
    yes = or_right (M.decided a.b a.ts) _ (plain-decides a.b v a.t m.1 ∙ deciding a.b v (ap (same v) (sym a.state.kind) ∙ e))

    r : Join
    r = record { kind = j.kind; state = to; parts = j.parts; words = j.words }

    go : (s : State) → Says a s → Goes a out r (ord_max cmp-value.it s Decided)
    go Open w = goes_decided a out r w.0 n yes
    go Long w = goes_decided a out r w.0 n yes
    go Decided w = goes_decided a out r w.0 n yes
    go Short w = omega arith

-- a child that does not fit
pub add_long :
    {out : Words} {j : Join} (a : Adding out j R.Long) (to : State) → to ≡ ord_max cmp-value.it j.state Long →
    added a out (record { kind = j.kind; state = to; parts = j.parts; words = j.words })
add_long {out} {j} a to is = next a out r refl a.state.within (subst (Goes a out r) (sym is) (go j.state a.state.tells))
  where
    m : (ltb a.places a.n ≡ false) × (P.Solid a.t × (length out - j.words < length (encode a.t)))
    m = told-long a.places a.n (length out - j.words) a.t a.is

    n : a.n ≤ a.places
    n = ltb-false a.places a.n m.0

    k : P.Counted a.b a.t
    k = P.counted a.b a.t m.1.0 a.wide

    r : Join
    r = record { kind = j.kind; state = to; parts = j.parts; words = j.words }

    go : (s : State) → Says a s → Goes a out r (ord_max cmp-value.it s Long)
    go Open w =
        goes_long a out r w.0 n w.1 k.undecided
        (record {
          more = omega (arith, k.more (before a), w.2.size, a.state.within, m.1.1);
          present = omega (arith, k.present, P.append-count (before a) (M.parts a.b a.t));
        })
    go Long w = closed a n k.undecided Long (λ o. cc) w
    go Decided w = closed a n k.undecided Decided (λ o. cc) w
    go Short w = closed a n k.undecided Short (λ o. cc) w

-- the same child, where the answer is known
abbrev pub retold : {out : Words} {j : Join} {answer r : Reduced} (e : answer ≡ r) (a : Adding out j answer) → Adding out j r
retold e a =
    record {
      b = a.b;
      ts = a.ts;
      need = a.need;
      places = a.places;
      state = a.state;
      t = a.t;
      n = a.n;
      is = sym e ∙ a.is;
      words = λ k f. a.words k (e ∙ f);
      wide = a.wide;
    }
