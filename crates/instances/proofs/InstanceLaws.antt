-- Laws of the search for instances: a tuple looked for among tuples, and the walk along a list,
-- whose tuples so far and those that are left to find come to the fresh ones of the whole list.
use Prim.Native.Nat.{ℕ, zero, suc, ◌+◌, ◌*◌, ◌≤◌, ◌<◌}
use native.Mathlib.Omega.{arith}
use native.Mathlib.Numerals.{add-one}
use mathlib.Core.Path.{◌≡◌, refl, sym, ap, ap₂, ◌∙◌, subst}
use mathlib.Core.Bool.{Bool, true, false, ◌||◌, cond}
use mathlib.Core.List.{List, [], ◌∷◌, ◌++◌, map, map-append, append_assoc, append-nil}
use lib.ListN.{length, take, drop, length-append, length-drop, drop_of_length-le}
use lib.Seq.{drop-cons, drop-drop, length-take-le}
use lib.IntN.{ℤ}
use Rattle.model.specs.Words.{Words, equal_all, member}
use Rattle.model.specs.Lists.{span}
use Rattle.model.specs.Listing.{free, Environment}
use Rattle.model.specs.Reduction.{fresh, tuple}
use Rattle.environments.specs.Environment.{place_of, place_at}
use Rattle.laws.specs.Words.Tests.{member-append, or_left, or_right}
use Rattle.laws.specs.Reading.Items.{tuples}
use Rattle.environments.specs.Listed.{Listed, spaced}
use Rattle.environments.proofs.ListedLaws.{environment_of, tuple-here, listed-none, listed_more, listed_kept, listed_at}
use Rattle.environments.proofs.ListedLaws.{listed-tuples}
use Rattle.environments.proofs.ListedLaws.{laid-length, laid-front, laid-here, laid-behind}
use Rattle.instances.specs.Instances.{Chosen}
use Rattle.std.specs.List.{list_any, range_with_len}
use Rattle.instances.proofs.ChosenTuples.{tuples-spaced}

-- a tuple is one of those made of some numbers if one of them makes it
among_made : (τ : List ℤ) (f : ℕ → List ℤ) (i n : ℕ) → list_any (λ j. equal_all τ (f j)) (range_with_len i n) ≡ member τ (map f (span i n))
unfolding span member
among_made τ f i zero = refl
among_made τ f i (suc n) =
    ap (λ (b : Bool). equal_all τ (f i) || b)
    (among_made τ f (i + 1) n ∙ ap (λ (j : ℕ). member τ (map f (span j n))) (add-one i))

-- so is one of those that stand at even distances
pub among_all :
    (τ : List ℤ) (b : Words) (v from step m : ℕ) →
    list_any (λ i. equal_all τ (take v (drop (from + step * i) b))) (range_with_len 0 m) ≡ member τ (spaced b v from step m)
unfolding spaced
among_all τ b v from step m = among_made τ (λ i. take v (drop (from + step * i) b)) 0 m

-- a disjunction with the last part put first
pub or_none : (a : Bool) → a ≡ (a || false)
or_none true = refl
or_none false = refl

or_first : (x a b : Bool) → (x || (a || b)) ≡ (a || (b || (x || false)))
or_first true true b = refl
or_first true false true = refl
or_first true false false = refl
or_first false true b = refl
or_first false false true = refl
or_first false false false = refl

-- the walk along a list of environments up to number i, of which fs have fresh tuples
module _ (excluded : List (List ℤ)) (f : Environment → List ℤ) (es : List Environment) where
  pub record Walk (fs : List Environment) (i : ℕ) : Type 0 where
    pub seen : List (List ℤ)
    pub known : (τ : List ℤ) → member τ seen ≡ (member τ excluded || member τ (map f fs))
    pub whole : fresh excluded (map f es) ≡ map f fs ++ fresh seen (map f (drop i es))

  -- where it begins, and what it comes to
  walk_first : Walk [] 0
  unfolding member
  walk_first = record { seen = excluded; known = λ τ. or_none (member τ excluded); whole = refl }

  walk_last : (fs : List Environment) (i : ℕ) → length es ≤ i → Walk fs i → map f fs ≡ fresh excluded (map f es)
  unfolding fresh
  walk_last fs i h w =
      sym
      (w.whole
      ∙ ap (λ (l : List Environment). map f fs ++ fresh w.seen (map f l)) (drop_of_length-le es h)
      ∙ append-nil (map f fs))

  -- the next one
  module _ (fs : List Environment) (i : ℕ) (h : i < length es) (w : Walk fs i) where
    -- its tuple, and those behind it
    abbrev τ : List ℤ
    τ = f (environment_of es i)

    abbrev left : List (List ℤ)
    left = map f (drop (i + 1) es)

    walk_next : fresh excluded (map f es) ≡ map f fs ++ cond (member τ w.seen) (fresh w.seen left) (τ ∷ fresh (τ ∷ w.seen) left)
    unfolding fresh
    walk_next =
        let e = environment_of es i in
        let cut : drop i es ≡ e ∷ drop (i + 1) es = drop-cons es i (λ x. free) h ∙ ap (λ (n : ℕ). e ∷ drop n es) (sym (add-one i)) in
        w.whole ∙ ap (λ (l : List Environment). map f fs ++ fresh w.seen (map f l)) cut

    -- it is passed over, or it is one more
    walk_over : (member τ excluded || member τ (map f fs)) ≡ true → Walk fs (i + 1)
    walk_over q =
        record {
          seen = w.seen;
          known = w.known;
          whole = walk_next ∙ ap (λ (b : Bool). map f fs ++ cond b (fresh w.seen left) (τ ∷ fresh (τ ∷ w.seen) left)) (w.known τ ∙ q);
        }

    walk_more : (member τ excluded || member τ (map f fs)) ≡ false → Walk (fs ++ environment_of es i ∷ []) (i + 1)
    unfolding member
    walk_more q =
        let e = environment_of es i in
        let all : map f (fs ++ e ∷ []) ≡ map f fs ++ τ ∷ [] = map-append f fs (e ∷ []) in
        record {
          seen = τ ∷ w.seen;
          known =
              λ σ.
              ap (λ (b : Bool). equal_all σ τ || b) (w.known σ)
              ∙ or_first (equal_all σ τ) (member σ excluded) (member σ (map f fs))
              ∙ ap (λ (b : Bool). member σ excluded || b) (sym (ap (member σ) all ∙ member-append σ (map f fs) (τ ∷ [])));
          whole =
              walk_next
              ∙ ap (λ (b : Bool). map f fs ++ cond b (fresh w.seen left) (τ ∷ fresh (τ ∷ w.seen) left)) (w.known τ ∙ q)
              ∙ sym (append_assoc (map f fs) (τ ∷ []) (fresh (τ ∷ w.seen) left))
              ∙ ap (λ (l : List (List ℤ)). l ++ fresh (τ ∷ w.seen) left) (sym all);
        }

-- the walk in scratch: the first places have the environments with fresh tuples, the words from place number i on and before
-- the list are as they were
pub record Going (words : Words) (from m v scope : ℕ) (before scratch : Words) (first count found i : ℕ) : Type 0 where
  pub few : found ≤ i
  pub long : length scratch ≡ length before
  pub front : take (17 * first) scratch ≡ take (17 * first) before
  pub rest : drop (17 * (first + i)) scratch ≡ drop (17 * (first + i)) before
  pub so_far :
      (es : List Environment) →
      Listed before first es →
      length es ≡ count →
      (fs : List Environment)
      × Listed scratch first fs
      × (length fs ≡ found)
      × Walk (tuples words v from m) (tuple scope v) es fs i

-- where it begins, and what it comes to
pub going_first : (words : Words) (from m v scope : ℕ) (before : Words) (first count : ℕ) → Going words from m v scope before before first count 0 0
going_first words from m v scope before first count =
    record {
      few = omega arith;
      long = refl;
      front = refl;
      rest = refl;
      so_far = λ es l n. ([], listed-none before first, refl, walk_first (tuples words v from m) (tuple scope v) es);
    }

pub going_last :
    (words : Words) (from m v scope : ℕ) (before scratch : Words) (first count found i : ℕ) →
    i ≡ count →
    Going words from m v scope before scratch first count found i →
    Chosen words from m v scope before scratch first count found
going_last words from m v scope before scratch first count found i e g =
    record {
      found = λ es l n.
          let (fs, k, few, w) = g.so_far es l n in
          (fs, k, few, walk_last (tuples words v from m) (tuple scope v) es fs i (omega arith) w);
      few = omega (arith, g.few);
      long = g.long;
      front = g.front;
      behind = subst (λ (k : ℕ). drop (17 * (first + k)) scratch ≡ drop (17 * (first + k)) before) e g.rest;
    }

-- one turn of the walk
pub record Turn : Type 0 where
  pub words : Words
  pub from : ℕ
  pub m : ℕ
  pub v : ℕ
  pub scope : ℕ
  pub before : Words
  pub scratch : Words
  pub first : ℕ
  pub count : ℕ
  pub found : ℕ
  pub i : ℕ
  pub small : scope + v ≤ 16
  pub room : 17 * (first + count) ≤ length before
  pub more : i < count
  pub going : Going words from m v scope before scratch first count found i

abbrev pub turn :
    {words : Words} {from m v scope : ℕ} {before scratch : Words} {first count found i : ℕ}
    (small : scope + v ≤ 16) (room : 17 * (first + count) ≤ length before) (more : i < count)
    (going : Going words from m v scope before scratch first count found i) → Turn
turn {words} {from} {m} {v} {scope} {before} {scratch} {first} {count} {found} {i} small room more going =
    record {
      words = words;
      from = from;
      m = m;
      v = v;
      scope = scope;
      before = before;
      scratch = scratch;
      first = first;
      count = count;
      found = found;
      i = i;
      small = small;
      room = room;
      more = more;
      going = going;
    }

module _ (t : Turn) where
  -- the next place
  abbrev pub place : ℕ
  place = t.first + t.i

  -- the next tuple's words
  abbrev pub next : List ℤ
  next = take t.v (drop (17 * place + t.scope) t.scratch)

  -- the walk goes on with so many found
  abbrev pub OnWith : (scratch : Words) (found : ℕ) → Type 0
  OnWith scratch found = Going t.words t.from t.m t.v t.scope t.before scratch t.first t.count found (t.i + 1)

  -- the words behind the next place are as they were
  rest_on : drop (17 * (t.first + (t.i + 1))) t.scratch ≡ drop (17 * (t.first + (t.i + 1))) t.before
  rest_on =
      let on : 17 * place + 17 ≡ 17 * (t.first + (t.i + 1)) = omega arith in
      let cut : (ws : Words) → drop 17 (drop (17 * place) ws) ≡ drop (17 * (t.first + (t.i + 1))) ws =
      λ ws. drop-drop 17 (17 * place) ws ∙ ap (λ (k : ℕ). drop k ws) on in
      sym (cut t.scratch) ∙ ap (drop 17) t.going.rest ∙ cut t.before

  module _ (es : List Environment) (l : Listed t.before t.first es) (n : length es ≡ t.count) where
    -- the next place and its tuple are those of the next environment
    next_place : place_at t.scratch place ≡ place_of (environment_of es t.i)
    next_place = ap (take 17) t.going.rest ∙ listed_at t.before t.first es l t.i (omega (arith, t.more))

    next-tuple : next ≡ tuple t.scope t.v (environment_of es t.i)
    next-tuple = tuple-here t.scratch place (environment_of es t.i) t.scope t.v next_place t.small

  -- the next place is copied behind those found
  module _ (after : Words) (copy : after ≡ take (17 * (t.first + t.found)) t.scratch ++ (place_at t.scratch place ++ drop (17 * (t.first + t.found) + 17) t.scratch)) where
    -- there is room for the place read and the place written
    room-left : 17 * place + 17 ≤ length t.scratch
    room-left = omega (arith, t.going.long, t.room, t.more)

    target_room : 17 * (t.first + t.found) + 17 ≤ length t.scratch
    target_room = omega (arith, room-left, t.going.few)

    part-long : length (place_at t.scratch place) ≡ 17
    part-long = length-take-le 17 (drop (17 * place) t.scratch) (rw (length-drop (17 * place) t.scratch) (omega (arith, room-left)))

    -- it stands there, and the words before and behind are kept
    pub copied_here : place_at after (t.first + t.found) ≡ place_at t.scratch place
    copied_here =
        ap (λ (ws : Words). place_at ws (t.first + t.found)) copy
        ∙ laid-here t.scratch (place_at t.scratch place) (17 * (t.first + t.found)) 17 part-long target_room

    copied_long : length after ≡ length t.scratch
    copied_long = ap length copy ∙ laid-length t.scratch (place_at t.scratch place) (17 * (t.first + t.found)) 17 part-long target_room

    pub copied_front : (k : ℕ) → k ≤ 17 * (t.first + t.found) → take k after ≡ take k t.scratch
    copied_front k h = ap (take k) copy ∙ laid-front t.scratch (place_at t.scratch place) (17 * (t.first + t.found)) 17 part-long target_room k h

    copied_behind : (k : ℕ) → 17 * (t.first + t.found) + 17 ≤ k → drop k after ≡ drop k t.scratch
    copied_behind k h = ap (drop k) copy ∙ laid-behind t.scratch (place_at t.scratch place) (17 * (t.first + t.found)) 17 part-long target_room k h

  -- what the search among the excluded tuples and that among the tuples found say
  module _
      (r : Bool) (told : r ≡ member next (spaced t.words t.v t.from t.v t.m))
      (s : Bool) (told-too : s ≡ member next (spaced t.scratch t.v (17 * t.first + t.scope) 17 t.found)) where
    -- the tuples not to be taken
    abbrev excluded : List (List ℤ)
    excluded = tuples t.words t.v t.from t.m

    -- together they say whether the next tuple was seen
    both_told :
        (es : List Environment) → Listed t.before t.first es → length es ≡ t.count →
        (fs : List Environment) → Listed t.scratch t.first fs → length fs ≡ t.found →
        let τ = tuple t.scope t.v (environment_of es t.i) in
        (member τ excluded || member τ (map (tuple t.scope t.v) fs)) ≡ (r || s)
    both_told es l n fs k few =
        let same = next-tuple es l n in
        let among : spaced t.scratch t.v (17 * t.first + t.scope) 17 t.found ≡ map (tuple t.scope t.v) fs =
        ap (spaced t.scratch t.v (17 * t.first + t.scope) 17) (sym few) ∙ listed-tuples t.scratch t.first fs k t.scope t.v t.small in
        sym
        (ap₂ (λ (a b : Bool). a || b)
        (told ∙ ap₂ member same (tuples-spaced t.words t.v t.from t.m))
        (told-too ∙ ap₂ member same among))

    -- the tuple is passed over
    pub passed_over : (r || s) ≡ true → OnWith t.scratch t.found
    passed_over q =
        record {
          few = omega (arith, t.going.few);
          long = t.going.long;
          front = t.going.front;
          rest = rest_on;
          so_far = λ es l n.
              let (fs, k, few, w) = t.going.so_far es l n in
              (fs, k, few, walk_over excluded (tuple t.scope t.v) es fs t.i (omega (arith, t.more)) w (both_told es l n fs k few ∙ q));
        }

    -- it is one more, and its place is copied behind those found
    module _
        (q : (r || s) ≡ false) (after : Words)
        (copy : after ≡ take (17 * (t.first + t.found)) t.scratch ++ (place_at t.scratch place ++ drop (17 * (t.first + t.found) + 17) t.scratch)) where
      -- one environment more is listed
      one-listed :
          (es : List Environment) → Listed t.before t.first es → length es ≡ t.count →
          (fs : List Environment) → Listed t.scratch t.first fs → length fs ≡ t.found →
          Listed after t.first (fs ++ environment_of es t.i ∷ [])
      one-listed es l n fs k few =
          let e = environment_of es t.i in
          let there : t.first + length fs ≡ t.first + t.found = ap (λ (j : ℕ). t.first + j) few in
          listed_more after t.first fs e
          (listed_kept t.scratch t.first after fs k (copied_front after copy (17 * (t.first + length fs)) (omega arith)))
          (ap (place_at after) there ∙ copied_here after copy ∙ next_place es l n)

      pub one_more : OnWith after (t.found + 1)
      one_more =
          record {
            few = omega (arith, t.going.few);
            long = copied_long after copy ∙ t.going.long;
            front = copied_front after copy (17 * t.first) (omega arith) ∙ t.going.front;
            rest = copied_behind after copy (17 * (t.first + (t.i + 1))) (omega (arith, t.going.few)) ∙ rest_on;
            so_far = λ es l n.
                let (fs, k, few, w) = t.going.so_far es l n in (
                  fs ++ environment_of es t.i ∷ [],
                  one-listed es l n fs k few,
                  length-append fs (environment_of es t.i ∷ []) ∙ ap (λ (j : ℕ). j + 1) few,
                  walk_more excluded (tuple t.scope t.v) es fs t.i (omega (arith, t.more)) w (both_told es l n fs k few ∙ q),
                );
          }

  -- an excluded tuple, one that was found before, and one more
  module _ (r : Bool) (told : r ≡ member next (spaced t.words t.v t.from t.v t.m)) where
    pub on_excluded : r ≡ true → OnWith t.scratch t.found
    on_excluded q = passed_over r told _ refl (or_left r _ q)

    module _ (s : Bool) (told-too : s ≡ member next (spaced t.scratch t.v (17 * t.first + t.scope) 17 t.found)) where
      pub on_seen : s ≡ true → OnWith t.scratch t.found
      on_seen q = passed_over r told s told-too (or_right r s q)

      pub on_found :
          r ≡ false →
          s ≡ false →
          (after : Words) →
          after ≡ take (17 * (t.first + t.found)) t.scratch ++ (place_at t.scratch place ++ drop (17 * (t.first + t.found) + 17) t.scratch) →
          OnWith after (t.found + 1)
      on_found q p after copy = one_more r told s told-too (ap₂ (λ (a b : Bool). a || b) q p) after copy
