-- The last part of a quantifier's reduction, in words: the front words are those of the quantifier with the tuples found, and
-- the copies of its restriction and body stand behind them. By the laws of words laid one behind another.
use Prim.Native.Nat.{ℕ, zero, suc, ◌+◌, ◌*◌, ◌-◌, ◌≤◌, ◌<◌}
use native.Mathlib.Omega.{arith}
use native.Mathlib.Nat.{mul-le-mul_right}
use mathlib.Core.Path.{◌≡◌, refl, sym, ap, ap₂, ◌∙◌, subst}
use mathlib.Core.Bool.{Bool, cond}
use mathlib.Core.List.{List, [], ◌∷◌, ◌++◌, map, append_assoc}
use lib.ListN.{length, get_or, take, drop, set, length-append, length-drop, take-append-drop}
use lib.Seq.{take_at, take_all, drop-drop, length-take-le}
use lib.IntN.{ℤ, pos, nat_abs}
use Rattle.model.specs.Words.{Words, value}
use Rattle.model.specs.Lists.{gather}
use Rattle.model.specs.Tree.{Tree, quantifier, encode}
use Rattle.model.specs.Putting.{put}
use Rattle.model.specs.Level.{quantifier_cost}
use Rattle.model.specs.Listing.{Environment}
use Rattle.model.specs.Reduction.{fresh, tuple}
use Rattle.laws.specs.Putting.Modes.{put-length}
use Rattle.laws.specs.Reading.Formed.{Formed}
use Rattle.laws.specs.Reading.Items.{tuples_back}
use Rattle.laws.specs.Reading.Parts.{QuantifierParts, quantifier-parts}
use Rattle.laws.specs.Words.Standing.{stands-left, stands_taken, three_stand}
use Rattle.trees.specs.Grown.{Grown}
use Rattle.trees.proofs.Forming.{node_grown}
use Rattle.words.specs.Laying.{laid}
use Rattle.words.proofs.LayingLaws.{laid-long, laid-laid, laid_word, laid-front, Filled, fill_start, fill_more, fill_end}
use Rattle.instances.specs.Instances.{Instanced}
use Rattle.instances.proofs.ChosenTuples.{instance_count, instance_tuple}
use Rattle.environments.proofs.ListsLaws.{gather_append}
use Rattle.environments.specs.declared.environment.Environment.{Environment as Held}
use Rattle.joining.specs.declared.answer.Reduced.TheVariants.{Long, Part}
use Rattle.nodes.specs.Last.{tuple_words, head_words, excluded_words, front_words, Fronts, CopyRoom, QuantifierAt, HereQuantifier}
use Rattle.nodes.specs.Last.{Found, Remains}
use Rattle.joining.proofs.Parts.{Solid}
use Rattle.joining.proofs.Answering.{answers-long, answers-part}
use Rattle.nodes.proofs.GroundLaws.{outer-numbers}
use Rattle.joining.proofs.Lending.{rest, rest-long, lent, lent_front, lent_part}

-- the words of tuples: how many
tuples-long :
    (scratch : Words) (v from n : ℕ) → from + 17 * n + v ≤ length scratch + 17 → length (tuple_words scratch v from n) ≡ v * n
unfolding tuple_words
tuples-long scratch v from zero h = omega arith
tuples-long scratch v from (suc n) h =
    let one = length-take-le v (drop from scratch) (rw length-drop (omega arith)) in
    length-append (take v (drop from scratch)) (tuple_words scratch v (from + 17) n)
    ∙ omega (arith, one, tuples-long scratch v (from + 17) n (omega arith))

-- those of the tuples found
tuples-found :
    (scratch : Words) (v from : ℕ) (found : List (List ℤ)) →
    ((j : ℕ) → j < length found → take v (drop (from + 17 * j) scratch) ≡ get_or found j []) →
    tuple_words scratch v from (length found) ≡ gather (λ tuple. tuple) found
unfolding tuple_words gather
tuples-found scratch v from [] h = refl
tuples-found scratch v from (τ ∷ τs) h =
    let first : from + 17 * 0 ≡ from = omega arith in
    ap₂ (λ (x y : Words). x ++ y)
    (subst (λ (i : ℕ). take v (drop i scratch) ≡ τ) first (h 0 (omega arith)))
    (tuples-found scratch v (from + 17) τs (λ j l.
    let on : from + 17 * suc j ≡ from + 17 + 17 * j = omega arith in
    subst (λ (i : ℕ). take v (drop i scratch) ≡ get_or τs j []) on (h (suc j) (omega arith))))

-- tuples written one behind another: i of k are there
abbrev pub Copied : (scratch : Words) (v from k : ℕ) (old : Words) (to i : ℕ) (buffer : Words) → Type 0
Copied scratch v from k old to i buffer =
    Filled old to (tuple_words scratch v from k) (tuple_words scratch v (from + 17 * i) (k - i)) (v * i) buffer

module _
    (scratch : Words) (v from k : ℕ) (old : Words) (to : ℕ) (there : from + 17 * k + v ≤ length scratch + 17) where
  pub copied_start : to + v * k ≤ length old → Copied scratch v from k old to 0 old
  copied_start room =
      let whole = tuple_words scratch v from k in
      let here : from + 17 * 0 ≡ from = omega arith in
      let count : k - 0 ≡ k = omega arith in
      let none : v * 0 ≡ 0 = omega arith in
      let start = fill_start old to whole (omega (arith, tuples-long scratch v from k there)) in
      subst (λ (n : ℕ). Filled old to whole (tuple_words scratch v (from + 17 * 0) (k - 0)) n old) (sym none)
      (subst (λ (rest : Words). Filled old to whole rest 0 old) (sym (ap₂ (tuple_words scratch v) here count)) start)

  module _ (i : ℕ) (buffer : Words) (c : Copied scratch v from k old to i buffer) where
    module _ (more : i < k) where
      -- the next tuple
      next-tuple : tuple_words scratch v (from + 17 * i) (k - i) ≡ take v (drop (from + 17 * i) scratch) ++ tuple_words scratch v (from + 17 * (i + 1)) (k - (i + 1))
      unfolding tuple_words
      next-tuple =
          let some : k - i ≡ suc (k - (i + 1)) = omega arith in
          let on : from + 17 * i + 17 ≡ from + 17 * (i + 1) = omega arith in
          ap (tuple_words scratch v (from + 17 * i)) some
          ∙ ap (λ (n : ℕ). take v (drop (from + 17 * i) scratch) ++ tuple_words scratch v n (k - (i + 1))) on

      tuple-long : length (take v (drop (from + 17 * i) scratch)) ≡ v
      tuple-long = length-take-le v (drop (from + 17 * i) scratch) (rw length-drop (omega arith))

      pub copied_more :
          (at : ℕ) (after : Words) →
          at ≡ from + 17 * i →
          after ≡ laid buffer (to + v * i) (take v (drop at scratch)) →
          Copied scratch v from k old to (i + 1) after
      copied_more at after p q =
          fill_more old to _ _ (v * i) buffer c (take v (drop (from + 17 * i) scratch)) _ next-tuple (to + v * i) (v * (i + 1)) after
          refl (omega (arith, tuple-long))
          (q ∙ ap (λ (n : ℕ). laid buffer (to + v * i) (take v (drop n scratch))) p)

    pub copied_end : k ≤ i → buffer ≡ laid old to (tuple_words scratch v from k)
    unfolding tuple_words
    copied_end h =
        let none : k - i ≡ 0 = omega arith in
        fill_end old to _ _ (v * i) buffer c (ap (tuple_words scratch v (from + 17 * i)) none)

-- three parts laid one behind another
three_laid :
    (old a b c one two three : Words) (i j : ℕ) →
    i ≡ length a →
    j ≡ length a + length b →
    length a + length b + length c ≤ length old →
    one ≡ laid old 0 a →
    two ≡ laid one i b →
    three ≡ laid two j c →
    three ≡ laid old 0 (a ++ b ++ c)
three_laid old a b c one two three i j is-i is-j fits p q r =
    let near : i ≡ 0 + length a = omega arith in
    let far : j ≡ 0 + length (a ++ b) = omega (arith, length-append a b) in
    let both : two ≡ laid old 0 (a ++ b)
    = q ∙ ap₂ (λ (l : Words) (n : ℕ). laid l n b) p near ∙ laid-laid old 0 a b (omega arith) in
    r ∙ ap₂ (λ (l : Words) (n : ℕ). laid l n c) both far ∙ laid-laid old 0 (a ++ b) c (omega (arith, length-append a b))

-- the first words
module _ (words : Words) (at k : ℕ) (here : at + 3 ≤ length words) where
  two-long : length (take 2 (drop at words)) ≡ 2
  two-long = length-take-le 2 (drop at words) (rw length-drop (omega arith))

  head-long : length (head_words words at k) ≡ 3
  head-long = length-append (take 2 (drop at words)) (pos (value words (at + 2) + k) ∷ []) ∙ omega (arith, two-long)

  pub head-laid :
      (old one : Words) (n : ℕ) (z : ℤ) →
      3 ≤ length old →
      n ≡ value words (at + 2) →
      z ≡ pos (n + k) →
      one ≡ laid old 0 (take 2 (drop at words)) →
      set one 2 z ≡ laid old 0 (head_words words at k)
  head-laid old one n z room is sum e =
      let a = take 2 (drop at words) in
      let two : 2 ≡ 0 + length a = omega (arith, two-long) in
      let long = laid-long old 0 a (omega (arith, two-long)) in
      ap (λ (l : Words). set l 2 z) e
      ∙ laid_word (laid old 0 a) 2 z (omega arith)
      ∙ ap (λ (i : ℕ). laid (laid old 0 a) i (z ∷ [])) two
      ∙ laid-laid old 0 a (z ∷ []) (omega (arith, two-long))
      ∙ ap (λ (x : ℤ). laid old 0 (a ++ x ∷ [])) (sum ∙ ap (λ (m : ℕ). pos (m + k)) is)

-- the front words: how many
module _
    (words scratch : Words) (scope at from k : ℕ)
    (here : at + 3 + value words (at + 1) * value words (at + 2) ≤ length words)
    (small : scope + value words (at + 1) ≤ 16)
    (there : 17 * (from + k) ≤ length scratch) where
  abbrev vs : ℕ
  vs = value words (at + 1)

  abbrev ms : ℕ
  ms = value words (at + 2)

  excluded-long : length (excluded_words words at) ≡ vs * ms
  excluded-long = length-take-le (vs * ms) (drop (at + 3) words) (rw length-drop (omega arith))

  found-long : length (tuple_words scratch vs (17 * from + scope) k) ≡ vs * k
  found-long = tuples-long scratch vs (17 * from + scope) k (omega arith)

  front_long : length (front_words words scratch scope at from k) ≡ 3 + vs * ms + vs * k
  front_long =
      let a = head_words words at k in
      let b = excluded_words words at in
      length-append (a ++ b) (tuple_words scratch vs (17 * from + scope) k)
      ∙ omega (arith, length-append a b, head-long words at k (omega arith), excluded-long, found-long)

-- written part by part, v and m being the numbers that are read
module _
    (words scratch : Words) (scope at from k room v m : ℕ) (h : Fronts words scratch scope at from k room)
    (is-v : v ≡ value words (at + 1)) (is_m : m ≡ value words (at + 2)) where
  pub front-laid :
      (old one two three : Words) →
      length old ≡ room →
      one ≡ laid old 0 (head_words words at k) →
      two ≡ laid one 3 (take (v * m) (drop (at + 3) words)) →
      three ≡ laid two (3 + v * m) (tuple_words scratch v (17 * from + scope) k) →
      three ≡ laid old 0 (front_words words scratch scope at from k)
  front-laid old one two three long p q r =
      let a = head_words words at k in
      let b = excluded_words words at in
      let c = tuple_words scratch (value words (at + 1)) (17 * from + scope) k in
      let first = head-long words at k (omega (arith, h.here)) in
      let second = excluded-long words scratch scope at from k h.here h.small h.places in
      let third = found-long words scratch scope at from k h.here h.small h.places in
      let cut : v * m ≡ value words (at + 1) * value words (at + 2) = ap₂ (λ (x y : ℕ). x * y) is-v is_m in
      three_laid old a b c one two three 3 (3 + v * m) (omega arith) (omega arith) (omega (arith, h.fits)) p
      (q ∙ ap (λ (n : ℕ). laid one 3 (take n (drop (at + 3) words))) cut)
      (r ∙ ap (λ (n : ℕ). laid two (3 + v * m) (tuple_words scratch n (17 * from + scope) k)) is-v)

-- a part lent from an index on that was filled at its front is laid there
lent_laid :
    (out : Words) (w : ℕ) (part p : Words) →
    w + length p ≤ length out →
    part ≡ p ++ drop (length p) (rest out w) →
    lent out w part ≡ laid out w p
unfolding laid
lent_laid out w part p fits e =
    let long : length part ≡ length (rest out w)
    = ap length e ∙ length-append p (drop (length p) (rest out w)) ∙ omega (arith, length-drop (length p) (rest out w), rest-long out w) in
    let all : rest out w ≡ drop w out = take_all (length out - w) (drop w out) (omega (arith, length-drop w out)) in
    let behind : part ≡ p ++ drop (w + length p) out
    = e ∙ ap (λ (l : Words). p ++ l) (ap (drop (length p)) all ∙ drop-drop (length p) w out) in
    sym (take-append-drop w (lent out w part))
    ∙ ap₂ (λ (x y : Words). x ++ y) (lent_front out w part (omega arith) long) (lent_part out w part (omega arith) long ∙ behind)
    ∙ sym (append_assoc (take w out) p (drop (w + length p) out))

-- a copy of a tree in such a part
module _ (words : Words) (at to : ℕ) (out : Words) where
  pub copy_laid :
      (σ : List ℤ) (part : Words) →
      ((tree : Tree) (next : ℕ) →
      Grown words at tree next →
      length (encode tree) ≤ length (rest out to) →
      part ≡ encode (put tree σ) ++ drop (length (encode tree)) (rest out to)) →
      (tree : Tree) (next : ℕ) →
      Grown words at tree next →
      to + length (encode tree) ≤ length out →
      lent out to part ≡ laid out to (encode (put tree σ))
  copy_laid σ part copied tree next g h =
      let same = put-length tree σ in
      lent_laid out to part (encode (put tree σ)) (omega arith)
      (copied tree next g (omega (arith, rest-long out to))
      ∙ ap (λ (n : ℕ). encode (put tree σ) ++ drop n (rest out to)) (sym same))

-- the sizes of a quantifier of v variables and m excluded tuples, with k tuples more
pub record Sizes (words : Words) (scope at body next k v m : ℕ) : Type 0 where
  pub small : scope + v ≤ 16
  pub split : at + 3 + v * m ≤ body
  pub order : body ≤ next
  pub within : next ≤ length words
  pub some : m ≤ v * m
  pub sum : v * (m + k) ≡ v * m + v * k
  pub few : v * k ≤ 4 * k
  pub enough : k ≤ v * k

-- a quantifier that stands at an index
module _
    (words : Words) (scope at body next : ℕ) (b : Bool) (v : ℕ) (excluded : List (List ℤ)) (c f : Tree)
    (q : QuantifierAt words scope at body next b v excluded c f) where
  abbrev parts : QuantifierParts q.table words scope at next v excluded c f (q.above + quantifier_cost q.role b) (at + 3 + v * length excluded)
  parts = quantifier-parts q.table words q.role q.above scope at next b v excluded c f q.node

  pub reads-v : value words (at + 1) ≡ v
  unfolding value
  reads-v = ap nat_abs parts.variables

  pub reads_m : value words (at + 2) ≡ length excluded
  unfolding value
  reads_m = ap nat_abs parts.number

  few-variables : (1 ≤ v) × (v ≤ 4) × (scope + v ≤ 16)
  unfolding Formed
  few-variables = (q.node.formed.1, q.node.formed.2, q.node.formed.4)

  restricts : Grown words (at + 3 + v * length excluded) c body
  restricts =
      subst (λ (n : ℕ). Grown words (at + 3 + v * length excluded) c n) (sym q.splits)
      (node_grown q.table words _ _ (scope + v) _ c _ parts.restricts)

  body-there : Grown words body f next
  body-there =
      subst (λ (n : ℕ). Grown words n f next) (sym q.splits) (node_grown q.table words _ _ (scope + v) _ f next parts.body)

  quantifier_sizes : (k : ℕ) → Sizes words scope at body next k v (length excluded)
  quantifier_sizes k =
      let m = length excluded in
      let one = few-variables in
      record {
        small = one.2;
        split = omega (arith, restricts.stands.ends);
        order = omega (arith, body-there.stands.ends);
        within = body-there.stands.fits;
        some = omega (arith, mul-le-mul_right m one.0);
        sum = omega arith;
        few = mul-le-mul_right k one.1;
        enough = omega (arith, mul-le-mul_right k one.0);
      }

  -- its excluded tuples
  excluded-words : excluded_words words at ≡ gather (λ tuple. tuple) excluded
  unfolding encode Formed
  excluded-words =
      let own = three_stand words _ _ _ _ q.node.stands in
      let τs = gather (λ tuple. tuple) excluded in
      let first = stands-left words τs (encode c) (stands-left words (τs ++ encode c) (encode f) own.3) in
      let ends = (tuples_back words v (at + 3) (at + 3 + length τs) excluded first q.node.formed.3).1 in
      let size : value words (at + 1) * value words (at + 2) ≡ length τs
      = ap₂ (λ (x y : ℕ). x * y) reads-v reads_m ∙ omega (arith, ends) in
      ap (λ (n : ℕ). take n (drop (at + 3) words)) size ∙ stands_taken words τs first

  two-words : take 2 (drop at words) ≡ pos (cond b 8 9) ∷ pos v ∷ []
  unfolding encode
  two-words = ap (take 2) q.node.stands.here

  -- the front words are those of the quantifier with the tuples found
  module _ (scratch : Words) (from k : ℕ) (found : List (List ℤ)) (s : Found scratch scope from v k found) where
    found-words : tuple_words scratch (value words (at + 1)) (17 * from + scope) k ≡ gather (λ tuple. tuple) found
    found-words =
        ap₂ (λ (n i : ℕ). tuple_words scratch n (17 * from + scope) i) reads-v (sym s.many)
        ∙ tuples-found scratch v (17 * from + scope) found (λ j h.
        let place : 17 * (from + j) + scope ≡ 17 * from + scope + 17 * j = omega arith in
        subst (λ (n : ℕ). take v (drop n scratch) ≡ get_or found j []) place (s.stands j (omega (arith, s.many))))

    front-words :
        front_words words scratch scope at from k
        ≡ pos (cond b 8 9) ∷ pos v ∷ pos (length (excluded ++ found)) ∷ gather (λ tuple. tuple) (excluded ++ found)
    front-words =
        let number : value words (at + 2) + k ≡ length (excluded ++ found)
        = omega (arith, reads_m, s.many, length-append excluded found) in
        ap₂ (λ (l : Words) (n : ℕ). (l ++ pos n ∷ []) ++ excluded_words words at ++ tuple_words scratch (value words (at + 1)) (17 * from + scope) k) two-words number
        ∙ ap₂ (λ (x y : Words). pos (cond b 8 9) ∷ pos v ∷ pos (length (excluded ++ found)) ∷ (x ++ y)) excluded-words found-words
        ∙ ap (λ (l : Words). pos (cond b 8 9) ∷ pos v ∷ pos (length (excluded ++ found)) ∷ l) (sym (gather_append (λ tuple. tuple) excluded found))

    -- the words of the whole
    whole_words :
        (c' f' : Tree) → front_words words scratch scope at from k ++ encode c' ++ encode f' ≡ encode (quantifier b v (excluded ++ found) c' f')
    unfolding encode
    whole_words c' f' = ap (λ (l : Words). l ++ encode c' ++ encode f') front-words

-- the same, v and m being the numbers that are read there
module _
    (words : Words) (scope at body next k v m : ℕ) (is-v : v ≡ value words (at + 1)) (is_m : m ≡ value words (at + 2)) where
  -- where the restriction's copy goes, and how many words there are in all
  abbrev start : ℕ
  start = at + 3 + v * m

  abbrev to : ℕ
  to = 3 + v * (m + k)

  abbrev size : ℕ
  size = to + (next - start)

  module _
      (b : Bool) (w : ℕ) (excluded : List (List ℤ)) (c f : Tree) (q : QuantifierAt words scope at body next b w excluded c f) where
    sizes : Sizes words scope at body next k v m
    sizes =
        subst (λ (n : ℕ). Sizes words scope at body next k n m) (sym (is-v ∙ reads-v words scope at body next b w excluded c f q))
        (subst (λ (n : ℕ). Sizes words scope at body next k w n) (sym (is_m ∙ reads_m words scope at body next b w excluded c f q))
        (quantifier_sizes words scope at body next b w excluded c f q k))

    start-there : Grown words start c body
    start-there =
        let same : w * length excluded ≡ v * m
        = sym (ap₂ (λ (x y : ℕ). x * y) (is-v ∙ reads-v words scope at body next b w excluded c f q) (is_m ∙ reads_m words scope at body next b w excluded c f q)) in
        subst (λ (n : ℕ). Grown words (at + 3 + n) c body) same (restricts words scope at body next b w excluded c f q)

    end_there : Grown words body f next
    end_there = body-there words scope at body next b w excluded c f q

  -- what the code asks
  pub here_sizes : HereQuantifier words scope at body next → Sizes words scope at body next k v m
  here_sizes (b, w, excluded, c, f, q) = sizes b w excluded c f q

  module _ (room : ℕ) (fits : size ≤ room) (here : HereQuantifier words scope at body next) where
    pub here_fronts :
        (scratch : Words) (from : ℕ) → 17 * (from + k) ≤ length scratch → room ≤ 1048576 → Fronts words scratch scope at from k room
    here_fronts scratch from there small =
        let s = here_sizes here in
        let cut : v * m ≡ value words (at + 1) * value words (at + 2) = ap₂ (λ (x y : ℕ). x * y) is-v is_m in
        let more : v * k ≡ value words (at + 1) * k = ap (λ (x : ℕ). x * k) is-v in
        record {
          here = omega arith;
          few = omega arith;
          small = omega arith;
          places = there;
          fits = omega arith;
        }

    pub here-restriction : CopyRoom words start to room
    here-restriction =
        let (b, w, excluded, c, f, q) = here in
        let s = sizes b w excluded c f q in
        let g = start-there b w excluded c f q in
        (c, body, g, omega (arith, g.stands.ends))

    pub here-body : CopyRoom words body (to + (body - start)) room
    here-body =
        let (b, w, excluded, c, f, q) = here in
        let s = sizes b w excluded c f q in
        let g = end_there b w excluded c f q in
        (f, next, g, omega (arith, g.stands.ends))

  -- the answer
  module _ (scratch : Words) (held : Held) (from : ℕ) (there : 17 * (from + k) ≤ length scratch) where
    front-size :
        (b : Bool) (w : ℕ) (excluded : List (List ℤ)) (c f : Tree) →
        QuantifierAt words scope at body next b w excluded c f →
        length (front_words words scratch scope at from k) ≡ to
    front-size b w excluded c f q =
        let s = sizes b w excluded c f q in
        let cut : v * m ≡ value words (at + 1) * value words (at + 2) = ap₂ (λ (x y : ℕ). x * y) is-v is_m in
        let more : v * k ≡ value words (at + 1) * k = ap (λ (x : ℕ). x * k) is-v in
        front_long words scratch scope at from k (omega arith) (omega arith) there ∙ omega arith

    whole-size :
        (b : Bool) (w : ℕ) (excluded : List (List ℤ)) (c f : Tree) (q : QuantifierAt words scope at body next b w excluded c f)
        (ρ : List ℤ) (found : List (List ℤ)) →
        Found scratch scope from w k found →
        length (encode (quantifier b w (excluded ++ found) (put c ρ) (put f ρ))) ≡ size
    whole-size b w excluded c f q ρ found g =
        let front = front_words words scratch scope at from k in
        let s = sizes b w excluded c f q in
        let first = (start-there b w excluded c f q).stands.ends in
        let second = (end_there b w excluded c f q).stands.ends in
        sym (ap length (whole_words words scope at body next b w excluded c f q scratch from k found g (put c ρ) (put f ρ)))
        ∙ length-append (front ++ encode (put c ρ)) (encode (put f ρ))
        ∙ omega (arith, length-append front (encode (put c ρ)), front-size b w excluded c f q, put-length c ρ, put-length f ρ)

    pub remains_long : (before : Words) → length before < size → Remains words scratch held scope at body next from k before before Long
    unfolding Solid
    remains_long before h ρ o b w excluded c f q found g places =
        answers-long (quantifier b w (excluded ++ found) (put c ρ) (put f ρ)) before tt
        (omega (arith, whole-size b w excluded c f q ρ found g)) places

    pub remains_part :
        (before one two three : Words) →
        size ≤ length before →
        length one ≡ length before →
        length two ≡ length before →
        length three ≡ length before →
        one ≡ laid before 0 (front_words words scratch scope at from k) →
        ((tree : Tree) (end : ℕ) →
        Grown words start tree end →
        to + length (encode tree) ≤ length one →
        two ≡ laid one to (encode (put tree (take scope held.numbers)))) →
        ((tree : Tree) (end : ℕ) →
        Grown words body tree end →
        to + (body - start) + length (encode tree) ≤ length two →
        three ≡ laid two (to + (body - start)) (encode (put tree (take scope held.numbers)))) →
        Remains words scratch held scope at body next from k before three (Part size)
    unfolding Solid
    remains_part before one two three fits long-one long-two long-three p copied-c copied-f ρ o b w excluded c f q found g places =
        let σ = take scope held.numbers in
        let front = front_words words scratch scope at from k in
        let whole = quantifier b w (excluded ++ found) (put c ρ) (put f ρ) in
        let s = sizes b w excluded c f q in
        let g-c = start-there b w excluded c f q in
        let g-f = end_there b w excluded c f q in
        let first = g-c.stands.ends in
        let second = g-f.stands.ends in
        let head = front-size b w excluded c f q in
        let same-c = put-length c σ in
        let same-f = put-length f σ in
        let count = whole-size b w excluded c f q ρ found g in
        let three-is : three ≡ laid before 0 (front ++ encode (put c σ) ++ encode (put f σ))
        = three_laid before front (encode (put c σ)) (encode (put f σ)) one two three to (to + (body - start))
        (omega arith) (omega arith) (omega arith) p
        (copied-c c body g-c (omega arith)) (copied-f f next g-f (omega arith)) in
        let is : three ≡ laid before 0 (encode whole)
        = three-is
        ∙ ap (λ (η : List ℤ). laid before 0 (front ++ encode (put c η) ++ encode (put f η))) (outer-numbers (omega arith) o)
        ∙ ap (laid before 0) (whole_words words scope at body next b w excluded c f q scratch from k found g (put c ρ) (put f ρ)) in
        answers-part whole before three size tt (omega arith) fits long-three
        (ap (take size) (is ∙ laid-front before (encode whole)) ∙ take_at (encode whole) _ size count)
        places

-- the instances that were chosen are tuples found
pub instances-found :
    (excluded : List (List ℤ)) (v scope : ℕ) (es : List Environment) (after : Words) (first r : ℕ) →
    scope + v ≤ 16 →
    Instanced excluded v scope es after first r →
    Found after scope first v r (fresh excluded (map (tuple scope v) es))
instances-found excluded v scope es after first r small left =
    record {
      many = instance_count excluded v scope es after first r left;
      stands = λ j h. instance_tuple excluded v scope es after first r left j [] small h;
    }
