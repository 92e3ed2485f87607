-- The parts of a join with one child more: what decides it, the parts, how many they are, and their words. And the words
-- of the join of parts, which grow with each part.
use Prim.Native.Nat.{ℕ, ◌+◌, ◌≤◌}
use native.Mathlib.Omega.{arith}
use mathlib.Core.Path.{◌≡◌, refl, sym, ap, ◌∙◌}
use mathlib.Core.Bool.{Bool, true, false, cond, not, ◌||◌, true≢false, false≢true}
use mathlib.Core.List.{◌++◌, append_assoc, append-nil}
use lib.ListN.{length, get_or, length-append}
use lib.Dec.{eqb}
use lib.IntN.{pos}
use Rattle.model.specs.Words.{Words, same, equal}
use Rattle.model.specs.Tree.{Tree, Trees, plain, atom, compare, join, quantifier, some, nil, cons, count, encode, encode_all}
use Rattle.model.specs.Joining.{append, decides, decided, parts, parts_all, assemble, joined}
use Rattle.laws.specs.Joining.{All, append-all}
use Rattle.joining.specs.Join.{header, join_words, Wide}

-- trees behind trees
pub append-none : (ts : Trees) → append ts nil ≡ ts
unfolding append
append-none nil = refl
append-none (cons t ts) = ap (cons t) (append-none ts)

append_three : (ts us vs : Trees) → append (append ts us) vs ≡ append ts (append us vs)
unfolding append
append_three nil us vs = refl
append_three (cons t ts) us vs = ap (cons t) (append_three ts us vs)

pub append-count : (ts us : Trees) → count (append ts us) ≡ count ts + count us
unfolding append count
append-count nil us = omega arith
append-count (cons t ts) us = omega (arith, append-count ts us)

pub append-words : (ts us : Trees) → encode_all (append ts us) ≡ encode_all ts ++ encode_all us
unfolding append encode
append-words nil us = refl
append-words (cons t ts) us =
    ap (λ (l : Words). encode t ++ l) (append-words ts us) ∙ sym (append_assoc (encode t) (encode_all ts) (encode_all us))

pub append-long : (ts us : Trees) → length (encode_all (append ts us)) ≡ length (encode_all ts) + length (encode_all us)
append-long ts us = ap length (append-words ts us) ∙ length-append (encode_all ts) (encode_all us)

-- one child more
or_assoc : (x y z : Bool) → x || (y || z) ≡ (x || y) || z
or_assoc true y z = refl
or_assoc false y z = refl

pub or_none : (x : Bool) → x || false ≡ x
or_none true = refl
or_none false = refl

module _ (b : Bool) where
  pub decided-more : (ts : Trees) (t : Tree) → decided b (append ts (cons t nil)) ≡ decided b ts || decides b t
  unfolding append decided
  decided-more nil t = or_none (decides b t)
  decided-more (cons u ts) t =
      ap (λ (x : Bool). decides b u || x) (decided-more ts t) ∙ or_assoc (decides b u) (decided b ts) (decides b t)

  pub parts_more : (ts : Trees) (t : Tree) → parts_all b (append ts (cons t nil)) ≡ append (parts_all b ts) (parts b t)
  unfolding append parts_all
  parts_more nil t = append-none (parts b t)
  parts_more (cons u ts) t =
      ap (append (parts b u)) (parts_more ts t) ∙ sym (append_three (parts b u) (parts_all b ts) (parts b t))

-- the words of a join of parts
header-two : (ts : Trees) → 2 ≤ count ts → header ts ≡ 2
unfolding header count
header-two nil h = absurd (omega arith)
header-two (cons t nil) h = absurd (omega arith)
header-two (cons t (cons u ts)) h = refl

header_grows : (ts us : Trees) → header ts ≤ header (append ts us)
unfolding header append
header_grows nil us = omega arith
header_grows (cons t nil) us = omega arith
header_grows (cons t (cons u ts)) us = omega arith

-- they only grow when parts are added
pub join_words_grows : (ts us : Trees) → join_words ts ≤ join_words (append ts us)
unfolding join_words
join_words_grows ts us = omega (arith, header_grows ts us, append-long ts us)

-- a tree that is not plain
unfoldable pub Solid : Tree → Type 0
Solid (plain b) = ⊥
Solid (atom b p ts) = Unit {0}
Solid (compare b d x y) = Unit {0}
Solid (join b ts) = Unit {0}
Solid (quantifier b v excluded c f) = Unit {0}
Solid (some c) = Unit {0}

-- it decides nothing and gives a part, and the join with it has at least the words so far and all its own
pub record Counted (b : Bool) (t : Tree) : Type 0 where
  pub undecided : decides b t ≡ false
  pub present : 1 ≤ count (parts b t)
  pub more : (ps : Trees) → length (encode_all ps) + length (encode t) ≤ join_words (append ps (parts b t))

-- a tree that is itself the part
pub single_words : (t : Tree) → encode_all (cons t nil) ≡ encode t
unfolding encode
single_words t = append-nil (encode t)

single : (t : Tree) → 1 ≤ count (cons t nil)
unfolding count
single t = omega arith

single_more : (t : Tree) (ps : Trees) → length (encode_all ps) + length (encode t) ≤ join_words (append ps (cons t nil))
unfolding join_words
single_more t ps = omega (arith, append-long ps (cons t nil), ap length (single_words t))

-- the parts of a join of the same kind: the join of all parts has a header too
several_more : (b : Bool) (ts : Trees) → 2 ≤ count ts → (ps : Trees) → length (encode_all ps) + length (encode (join b ts)) ≤ join_words (append ps ts)
unfolding join_words encode
several_more b ts h ps =
    omega (arith, append-long ps ts, header-two (append ps ts) (omega (arith, append-count ps ts)))

pub counted : (b : Bool) (t : Tree) → Solid t → Wide t → Counted b t
unfolding Solid Wide decides parts
counted b (plain a) h w = absurd h
counted b (atom a p ts) h w = record { undecided = refl; present = single (atom a p ts); more = single_more (atom a p ts) }
counted b (compare a d x y) h w = record { undecided = refl; present = single (compare a d x y); more = single_more (compare a d x y) }
counted true (join true ts) h w = record { undecided = refl; present = omega arith; more = several_more true ts w }
counted true (join false ts) h w = record { undecided = refl; present = single (join false ts); more = single_more (join false ts) }
counted false (join true ts) h w = record { undecided = refl; present = single (join true ts); more = single_more (join true ts) }
counted false (join false ts) h w = record { undecided = refl; present = omega arith; more = several_more false ts w }
counted b (quantifier a v excluded c f) h w =
    record {
      undecided = refl;
      present = single (quantifier a v excluded c f);
      more = single_more (quantifier a v excluded c f);
    }
counted b (some c) h w = record { undecided = refl; present = single (some c); more = single_more (some c) }

-- a join of the same kind
unfoldable pub same_kind : Bool → Tree → Bool
same_kind b (plain a) = false
same_kind b (atom a p ts) = false
same_kind b (compare a d x y) = false
same_kind b (join a ts) = same a b
same_kind b (quantifier a v excluded c f) = false
same_kind b (some c) = false

-- its first word tells
other :
    (m n : ℕ) →
    eqb m 6 ≡ false →
    eqb m 7 ≡ false →
    eqb n 6 ≡ false →
    eqb n 7 ≡ false →
    (a b : Bool) →
    eqb (cond a m n) (cond b 6 7) ≡ false
other m n p q r s true true = p
other m n p q r s true false = q
other m n p q r s false true = r
other m n p q r s false false = s

pub first-tells : (b : Bool) (t : Tree) → equal (get_or (encode t) 0 (pos 0)) (pos (cond b 6 7)) ≡ same_kind b t
unfolding encode same_kind equal
first-tells b (plain a) = other 1 0 refl refl refl refl a b
first-tells b (atom a p ts) = other 2 3 refl refl refl refl a b
first-tells b (compare a d x y) = other 4 5 refl refl refl refl a b
first-tells true (join true ts) = refl
first-tells true (join false ts) = refl
first-tells false (join true ts) = refl
first-tells false (join false ts) = refl
first-tells b (quantifier a v excluded c f) = other 8 9 refl refl refl refl a b
first-tells true (some c) = refl
first-tells false (some c) = refl

-- it gives its children; a tree that is not plain and no such join gives itself
pub parts_same : (b : Bool) (t : Tree) → same_kind b t ≡ true → (us : Trees) × (t ≡ join b us) × (parts b t ≡ us)
unfolding same_kind parts
parts_same b (plain a) e = absurd (false≢true e)
parts_same b (atom a p ts) e = absurd (false≢true e)
parts_same b (compare a d x y) e = absurd (false≢true e)
parts_same true (join true ts) e = (ts, refl, refl)
parts_same true (join false ts) e = absurd (false≢true e)
parts_same false (join true ts) e = absurd (false≢true e)
parts_same false (join false ts) e = (ts, refl, refl)
parts_same b (quantifier a v excluded c f) e = absurd (false≢true e)
parts_same b (some c) e = absurd (false≢true e)

pub parts_itself : (b : Bool) (t : Tree) → Solid t → same_kind b t ≡ false → parts b t ≡ cons t nil
unfolding Solid same_kind parts
parts_itself b (plain a) h e = absurd h
parts_itself b (atom a p ts) h e = refl
parts_itself b (compare a d x y) h e = refl
parts_itself true (join true ts) h e = absurd (true≢false e)
parts_itself true (join false ts) h e = refl
parts_itself false (join true ts) h e = refl
parts_itself false (join false ts) h e = absurd (true≢false e)
parts_itself b (quantifier a v excluded c f) h e = refl
parts_itself b (some c) h e = refl

-- children that are wide, and one more
pub wide-more : (ts : Trees) (t : Tree) → All Wide ts → Wide t → All Wide (append ts (cons t nil))
wide-more ts t h w = append-all Wide ts (cons t nil) h (w, tt)

-- of a part that is alone
unfoldable Alone : Trees → Type 0
Alone nil = Unit {0}
Alone (cons t nil) = Solid t × Wide t
Alone (cons t (cons u ts)) = Unit {0}

alone-one : (t : Tree) (ts : Trees) → Solid t → Wide t → Alone (append (cons t nil) ts)
unfolding append Alone
alone-one t nil s w = (s, w)
alone-one t (cons u ts) s w = tt

alone-two : (ts us : Trees) → 2 ≤ count ts → Alone (append ts us)
unfolding append Alone count
alone-two nil us h = absurd (omega arith)
alone-two (cons t nil) us h = absurd (omega arith)
alone-two (cons t (cons u ts)) us h = tt

-- it is a child itself, since a join among the children has two parts or more
alone : (b : Bool) (ts : Trees) → All Wide ts → Alone (parts_all b ts)
unfolding parts_all parts append Alone Solid Wide
alone b nil h = tt
alone b (cons (plain a) ts) h = alone b ts h.1
alone b (cons (atom a p xs) ts) h = alone-one (atom a p xs) (parts_all b ts) tt tt
alone b (cons (compare a d x y) ts) h = alone-one (compare a d x y) (parts_all b ts) tt tt
alone true (cons (join true us) ts) h = alone-two us (parts_all true ts) h.0
alone true (cons (join false us) ts) h = alone-one (join false us) (parts_all true ts) tt h.0
alone false (cons (join true us) ts) h = alone-one (join true us) (parts_all false ts) tt h.0
alone false (cons (join false us) ts) h = alone-two us (parts_all false ts) h.0
alone b (cons (quantifier a v excluded c f) ts) h = alone-one (quantifier a v excluded c f) (parts_all b ts) tt tt
alone b (cons (some c) ts) h = alone-one (some c) (parts_all b ts) tt tt

-- the join of parts by their number
pub assemble-none : (b : Bool) (ps : Trees) → count ps ≡ 0 → assemble b ps ≡ plain b
unfolding assemble count
assemble-none b nil e = refl
assemble-none b (cons t ts) e = absurd (omega arith)

pub assemble-one : (b : Bool) (ps : Trees) → count ps ≡ 1 → encode (assemble b ps) ≡ encode_all ps
unfolding assemble count encode
assemble-one b nil e = absurd (omega arith)
assemble-one b (cons t nil) e = sym (append-nil (encode t))
assemble-one b (cons t (cons u ts)) e = absurd (omega arith)

pub assemble-two : (b : Bool) (ps : Trees) → 2 ≤ count ps → assemble b ps ≡ join b ps
unfolding assemble count
assemble-two b nil e = absurd (omega arith)
assemble-two b (cons t nil) e = absurd (omega arith)
assemble-two b (cons t (cons u ts)) e = refl

-- its words
pub assemble-words : (b : Bool) (ps : Trees) → 1 ≤ count ps → length (encode (assemble b ps)) ≡ join_words ps
unfolding assemble count encode join_words header
assemble-words b nil e = absurd (omega arith)
assemble-words b (cons t nil) e = ap length (sym (append-nil (encode t))) ∙ omega arith
assemble-words b (cons t (cons u ts)) e = omega arith

-- it is not plain where there is a part, and it is wide
assemble-alone-solid : (b : Bool) (ps : Trees) → Alone ps → 1 ≤ count ps → Solid (assemble b ps)
unfolding assemble count Solid Alone
assemble-alone-solid b nil a h = absurd (omega arith)
assemble-alone-solid b (cons t nil) a h = a.0
assemble-alone-solid b (cons t (cons u us)) a h = tt

assemble-alone-wide : (b : Bool) (ps : Trees) → Alone ps → Wide (assemble b ps)
unfolding assemble Wide Alone count
assemble-alone-wide b nil a = tt
assemble-alone-wide b (cons t nil) a = a.1
assemble-alone-wide b (cons t (cons u us)) a = omega arith

pub joined-decided : (b : Bool) (ts : Trees) → decided b ts ≡ true → joined b ts ≡ plain (not b)
unfolding joined
joined-decided b ts e = ap (λ (x : Bool). cond x (plain (not b)) (assemble b (parts_all b ts))) e

pub joined_open : (b : Bool) (ts : Trees) → decided b ts ≡ false → joined b ts ≡ assemble b (parts_all b ts)
unfolding joined
joined_open b ts e = ap (λ (x : Bool). cond x (plain (not b)) (assemble b (parts_all b ts))) e

module _ (b : Bool) (ts : Trees) (w : All Wide ts) where
  pub assemble-solid : 1 ≤ count (parts_all b ts) → Solid (assemble b (parts_all b ts))
  assemble-solid = assemble-alone-solid b (parts_all b ts) (alone b ts w)

  -- the join by the rule is wide, if the children are
  pub joined-wide : Wide (joined b ts)
  unfolding joined Wide
  joined-wide = go (decided b ts)
    where
      go : (x : Bool) → Wide (cond x (plain (not b)) (assemble b (parts_all b ts)))
      go true = tt
      go false = assemble-alone-wide b (parts_all b ts) (alone b ts w)
