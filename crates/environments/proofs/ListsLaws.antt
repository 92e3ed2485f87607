-- Laws of moves of lists of environments in scratch: two lists one behind the other, a part of a list, and lists whose words are kept.
-- By the laws of parts of words.
use Prim.Native.Nat.{ℕ, ◌+◌, ◌*◌, ◌-◌, ◌≤◌}
use native.Mathlib.Omega.{arith}
use native.Mathlib.Numerals.{add-one}
use mathlib.Core.Path.{◌≡◌, refl, sym, ap, ap₂, ◌∙◌, subst}
use mathlib.Core.List.{List, [], ◌∷◌, ◌++◌, map, map-append, append_assoc}
use lib.ListN.{length, take, drop, length-append, length-map, take-append-drop}
use lib.Seq.{take_at, drop-drop, take-take, take-add, take-suc, take_all, length-take-le}
use Rattle.model.specs.Words.{Words}
use Rattle.model.specs.Lists.{gather}
use Rattle.model.specs.Listing.{free, Environment, release}
use Rattle.environments.specs.Environment.{place_of, place_at, stored}
use Rattle.environments.specs.Listed.{Listed}
use Rattle.environments.specs.Lists.{Outside, Released}
use Rattle.environments.proofs.Places.{place-length}
use Rattle.environments.proofs.ListedLaws.{environment_of, places-length, listed_more, listed_kept, listed_at, laid-length}
use Rattle.environments.proofs.ListedLaws.{laid-front, laid-here, laid-behind}

-- what is gathered of two lists
pub gather_append : {A B : Type 0} (f : A → List B) (xs ys : List A) → gather f (xs ++ ys) ≡ gather f xs ++ gather f ys
unfolding gather
gather_append f [] ys = refl
gather_append {B = B} f (x ∷ xs) ys = ap (λ (r : List B). f x ++ r) (gather_append f xs ys) ∙ sym (append_assoc (f x) (gather f xs) (gather f ys))

module _ (ws : Words) (base : ℕ) (xs ys : List Environment) where
  -- the words of the first list, and those behind it
  both-length : 17 * length (xs ++ ys) ≡ 17 * length xs + 17 * length ys
  both-length = ap (λ (k : ℕ). 17 * k) (length-append xs ys) ∙ omega arith

  second : drop (17 * length xs) (drop (17 * base) ws) ≡ drop (17 * (base + length xs)) ws
  second =
      let there : 17 * base + 17 * length xs ≡ 17 * (base + length xs) = omega arith in
      drop-drop (17 * length xs) (17 * base) ws ∙ ap (λ (k : ℕ). drop k ws) there

  -- two lists one behind the other
  pub listed-append : Listed ws base xs → Listed ws (base + length xs) ys → Listed ws base (xs ++ ys)
  listed-append l m =
      record {
        stands =
            ap (λ (k : ℕ). take k (drop (17 * base) ws)) both-length
            ∙ take-add (17 * length xs) (17 * length ys) (drop (17 * base) ws)
            ∙ ap₂ (λ (p q : Words). p ++ q) l.stands (ap (take (17 * length ys)) second ∙ m.stands)
            ∙ sym (gather_append place_of xs ys);
      }

  -- the first of them
  module _ (l : Listed ws base (xs ++ ys)) where
    both-stand : take (17 * length xs + 17 * length ys) (drop (17 * base) ws) ≡ gather place_of xs ++ gather place_of ys
    both-stand = ap (λ (k : ℕ). take k (drop (17 * base) ws)) (sym both-length) ∙ l.stands ∙ gather_append place_of xs ys

    pub listed-first : Listed ws base xs
    listed-first =
        record {
          stands =
              sym (take-take (17 * length xs) (17 * length xs + 17 * length ys) (drop (17 * base) ws) (omega arith))
              ∙ ap (take (17 * length xs)) both-stand
              ∙ take_at (gather place_of xs) (gather place_of ys) (17 * length xs) (places-length xs);
        }

module _ (ws : Words) (base : ℕ) (es : List Environment) (l : Listed ws base es) where
  -- a front part of a list
  cut : (i : ℕ) → Listed ws base (take i es ++ drop i es)
  cut i = subst (Listed ws base) (sym (take-append-drop i es)) l

  pub listed-take : (i : ℕ) → Listed ws base (take i es)
  listed-take i = listed-first ws base (take i es) (drop i es) (cut i)

-- a list of one more than i, from its parts
snoc_back : (es : List Environment) (i : ℕ) → length es ≡ i + 1 → take i es ++ environment_of es i ∷ [] ≡ es
snoc_back es i n =
    sym (take-suc es i (λ x. free) (omega arith))
    ∙ ap (λ (k : ℕ). take k es) (sym (add-one i))
    ∙ take_all (i + 1) es (omega arith)

-- words dropped further on
module _ (before after : Words) (k : ℕ) (same : drop k after ≡ drop k before) where
  further : (j : ℕ) → k ≤ j → drop j after ≡ drop j before
  further j h =
      let far : k + (j - k) ≡ j = omega arith in
      let on : (ws : Words) → drop (j - k) (drop k ws) ≡ drop j ws = λ ws. drop-drop (j - k) k ws ∙ ap (λ (n : ℕ). drop n ws) far in
      sym (on after) ∙ ap (drop (j - k)) same ∙ on before

module _ (before after : Words) (first count : ℕ) (o : Outside before after first count) where
  -- words further in front, and further behind
  pub outside-front : (k : ℕ) → k ≤ 17 * first → take k after ≡ take k before
  outside-front k h =
      sym (take-take k (17 * first) after h) ∙ ap (take k) o.front ∙ take-take k (17 * first) before h

  pub outside_behind : (k : ℕ) → 17 * (first + count) ≤ k → drop k after ≡ drop k before
  outside_behind k h = further before after (17 * (first + count)) o.behind k h

  -- a list before the places keeps standing, and one behind them
  pub listed-before : (base : ℕ) (es : List Environment) → base + length es ≤ first → Listed before base es → Listed after base es
  listed-before base es h l = listed_kept before base after es l (outside-front (17 * (base + length es)) (omega arith))

  -- changes that follow, to more places
  pub outside_then :
      (last : Words) (n : ℕ) → Outside after last (first + count) n → Outside before last first (count + n)
  outside_then last n p =
      let there : first + count + n ≡ first + (count + n) = omega arith in
      let same : drop (17 * (first + count + n)) last ≡ drop (17 * (first + count + n)) before = p.behind ∙ outside_behind (17 * (first + count + n)) (omega arith) in
      record {
        long = p.long ∙ o.long;
        front =
            sym (take-take (17 * first) (17 * (first + count)) last (omega arith))
            ∙ ap (take (17 * first)) p.front
            ∙ take-take (17 * first) (17 * (first + count)) after (omega arith)
            ∙ o.front;
        behind = subst (λ (k : ℕ). drop (17 * k) last ≡ drop (17 * k) before) there same;
      }

-- other words are stored in a place
module _
    (scratch part after : Words) (place : ℕ) (long : length part ≡ 17) (room : 17 * place + 17 ≤ length scratch)
    (is : after ≡ take (17 * place) scratch ++ (part ++ drop (17 * place + 17) scratch)) where
  pub outside-stored : Outside scratch after place 1
  outside-stored =
      let next : 17 * place + 17 ≤ 17 * (place + 1) = omega arith in
      record {
        long = ap length is ∙ laid-length scratch part (17 * place) 17 long room;
        front = ap (take (17 * place)) is ∙ laid-front scratch part (17 * place) 17 long room (17 * place) (omega arith);
        behind = ap (drop (17 * (place + 1))) is ∙ laid-behind scratch part (17 * place) 17 long room (17 * (place + 1)) next;
      }

  pub stands-stored : place_at after place ≡ part
  stands-stored = ap (λ (ws : Words). place_at ws place) is ∙ laid-here scratch part (17 * place) 17 long room

-- one more environment stands behind a list, where a place was changed
pub listed_next :
    (scratch after : Words) (first : ℕ) (es : List Environment) (e : Environment) (i : ℕ) →
    length es ≡ i →
    Listed scratch first es →
    Outside scratch after (first + i) 1 →
    place_at after (first + i) ≡ place_of e →
    Listed after first (es ++ e ∷ [])
listed_next scratch after first es e i n l o here =
    listed_more after first es e
    (listed-before scratch after (first + i) 1 o first es (omega arith) l)
    (ap (λ (k : ℕ). place_at after (first + k)) n ∙ here)

-- a variable dropped in places one by one
module _
    (variable : ℕ) (before scratch : Words) (from i : ℕ)
    (es : List Environment) (l : Listed before from es) (n : length es ≡ i + 1)
    (r : Released variable before scratch from (take i es)) where
  few : length (take i es) ≡ i
  few = length-take-le i es (omega arith)

  so_far : Outside before scratch from i
  so_far = subst (Outside before scratch from) few r.outside

  -- the next place is as it was
  pub released_next : place_at scratch (from + i) ≡ place_of (environment_of es i)
  released_next =
      ap (take 17) (outside_behind before scratch from i so_far (17 * (from + i)) (omega arith))
      ∙ listed_at before from es l i (omega arith)

  module _
      (room : 17 * (from + i) + 17 ≤ length before) (after : Words)
      (is : after ≡ stored scratch (from + i) (release (environment_of es i) variable)) where
    same-room : 17 * (from + i) + 17 ≤ length scratch
    same-room = omega (arith, so_far.long)

    one_changed : Outside scratch after (from + i) 1
    one_changed = outside-stored scratch (place_of (release (environment_of es i) variable)) after (from + i) (place-length _) same-room is

    released_listed : Listed after from (map (λ e. release e variable) es)
    released_listed =
        let f : Environment → Environment = λ e. release e variable in
        let e = environment_of es i in
        subst (Listed after from) (sym (map-append f (take i es) (e ∷ [])) ∙ ap (map f) (snoc_back es i n))
        (listed_next scratch after from (map f (take i es)) (f e) i (length-map (take i es) f ∙ few) r.listed one_changed
        (stands-stored scratch (place_of (f e)) after (from + i) (place-length _) same-room is))

    pub released_on : Released variable before after from es
    released_on =
        record {
          outside = subst (Outside before after from) (sym n) (outside_then before scratch from i so_far after 1 one_changed);
          listed = released_listed;
        }
