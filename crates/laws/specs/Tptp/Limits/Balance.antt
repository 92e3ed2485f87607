-- How many parentheses stand open: what a reader has used leaves as many open as it says, and where it is refused by their
-- number, all for which there was room stand open; before that there are never more open than there was room for. This holds for
-- readers made of such readers, and for those of bytes and tokens.
use Rattle.std.specs.Prelude.{ℕ, zero, suc, ◌+◌, ◌*◌, ◌-◌, ◌≤◌, ◌≡◌, Bool, true, false, cond, ◌&&◌, length, take, drop, eqb}
use native.Mathlib.Omega.{arith}
use Rattle.std.proofs.Math.Path.{refl}
use Rattle.std.proofs.Common.{sym, ap, ap₂, ◌∙◌, subst, length-append, take-append-drop, eqb-true}
use Rattle.std.proofs.Math.Logic.{⊎_elim}
use Rattle.std.proofs.Math.Bool.{not}
use mathlib.Core.List.{[], ◌∷◌, ◌++◌, append_assoc}
use Rattle.std.proofs.Math.Seq.{take-nil, take-append-add}
use Rattle.std.proofs.lemmas.List.{take-append-le}
use Rattle.std.proofs.Math.Dec.{leb}
use Rattle.model.specs.Bytes.{Text, bytes, blank, digit, small, capital, word_byte, nought, minus, parenthesis, letter_x}
use Rattle.model.specs.Answer.{Outcome, passed, refused}
use Rattle.model.specs.TptpReading.{Got, Reader, give, stop, onwards, ◌>>=◌, blanks, peek, literal, look, token, more_digits, number}
use Rattle.model.specs.TptpReading.{natural, integer, word_bytes, name, opening, term, ending}
use Rattle.model.specs.declared.Refusal.TheVariants.{Level, Tptp}
use Rattle.laws.specs.Words.Tests.{decide, and_left, clash}
use Rattle.laws.specs.Lists.Span.{side}
use Rattle.laws.specs.Tptp.Limits.Opened.{closing}
use Rattle.laws.specs.Tptp.Refusing.Local.{opening-none}

-- how often a byte stands in a text
unfoldable pub occurs : ℕ → Text → ℕ
occurs c [] = 0
occurs c (b ∷ t) = cond (eqb b c) (suc (occurs c t)) (occurs c t)

pub occurs-append : (c : ℕ) (t u : Text) → occurs c (t ++ u) ≡ occurs c t + occurs c u
unfolding occurs
occurs-append c [] u = omega arith
occurs-append c (b ∷ t) u =
    ⊎_elim
    (λ k. rw k (omega (arith, occurs-append c t u)))
    (λ k. rw k (occurs-append c t u))
    (decide (eqb b c))

-- behind a text so many parentheses stand open; in every front part of it at most so many
abbrev pub Open : (n : ℕ) (u : Text) → Type 0
Open n u = occurs parenthesis u ≡ occurs closing u + n

abbrev pub OpenAtMost : (room : ℕ) (u : Text) → Type 0
OpenAtMost room u = (n : ℕ) → occurs parenthesis (take n u) ≤ occurs closing (take n u) + room

-- a text leaves so many parentheses open that the room falls from `room` to `left`, and never opens more than there is room for
pub record Turns (room left : ℕ) (u : Text) : Type 0 where
  pub balance : occurs parenthesis u + left ≡ occurs closing u + room
  pub most : OpenAtMost room u

turns_both : {room mid left : ℕ} (u v : Text) → Turns room mid u → Turns mid left v → Turns room left (u ++ v)
turns_both {room} u v h k = record {
  balance = omega (arith, h.balance, k.balance, occurs-append parenthesis u v, occurs-append closing u v);
  most = λ n. ⊎_elim (λ l. within n (omega arith)) (λ l. beyond n l) (side (length u) n);
}
  where
    within : (n : ℕ) → n ≤ length u → occurs parenthesis (take n (u ++ v)) ≤ occurs closing (take n (u ++ v)) + room
    within n l = rw (take-append-le n u v l) (h.most n)

    beyond : (n : ℕ) → length u ≤ n → occurs parenthesis (take n (u ++ v)) ≤ occurs closing (take n (u ++ v)) + room
    beyond n l =
        let m = n - length u in
        let parts : n ≡ length u + m = omega arith in
        let front : take n (u ++ v) ≡ u ++ take m v = ap (λ (i : ℕ). take i (u ++ v)) parts ∙ take-append-add u v m in
        rw front
        (omega (arith, h.balance, k.most m, occurs-append parenthesis u (take m v), occurs-append closing u (take m v)))

-- a text with no parenthesis
pub turns_mark : {room : ℕ} (w : Text) → occurs parenthesis w ≡ 0 → occurs closing w ≡ 0 → Turns room room w
turns_mark w e h = record {
  balance = omega arith;
  most = λ n.
      omega (arith, occurs-append parenthesis (take n w) (drop n w), ap (occurs parenthesis) (take-append-drop n w));
}

-- an opening one, and a closing one
pub turns_opening : (room : ℕ) → Turns (suc room) room (bytes "(")
unfolding bytes occurs
turns_opening room = record { balance = omega arith; most = go }
  where
    go : OpenAtMost (suc room) (parenthesis ∷ [])
    go zero = omega arith
    go (suc n) = rw (take-nil {A = ℕ} n) (omega arith)

turns_closing : (room : ℕ) → Turns room (suc room) (bytes ")")
unfolding bytes occurs
turns_closing room = record { balance = omega arith; most = go }
  where
    go : OpenAtMost room (closing ∷ [])
    go zero = omega arith
    go (suc n) = rw (take-nil {A = ℕ} n) (omega arith)

-- what comes of a text read from p on, with room for so many parentheses
pub data Weight {A : Type 0} (room left : ℕ) (text : Text) (p : ℕ) : Outcome (Got A) → Type 0 where
  weighed :
      {g : Got A} (used : Text) →
      text ≡ used ++ g.rest →
      g.at ≡ p + length used →
      Turns room left used →
      Weight room left text p (passed g)
  filled :
      {q : ℕ} (front rest : Text) →
      text ≡ front ++ rest →
      q ≡ p + length front →
      Turns room 0 front →
      Weight room left text p (refused Level q)
  stopped : {q : ℕ} → Weight room left text p (refused Tptp q)

pub record Weighs {A : Type 0} (room left : ℕ) (r : Reader A) : Type 0 where
  pub weighs : (text : Text) (p : ℕ) → Weight room left text p (r text p)

module _ {A : Type 0} where
  -- the text behind a part of it
  weight-behind :
      {room mid left : ℕ} {text behind : Text} {p q : ℕ} {o : Outcome (Got A)} (u : Text) →
      text ≡ u ++ behind →
      q ≡ p + length u →
      Turns room mid u →
      Weight mid left behind q o →
      Weight room left text p o
  weight-behind {p} u e l h (weighed {g} used is place k) =
      let whole = e ∙ ap (λ (t : Text). u ++ t) is ∙ sym (append_assoc u used g.rest) in
      let place : g.at ≡ p + length (u ++ used) = omega (arith, length-append u used) in
      weighed {g = g} (u ++ used) whole place (turns_both u used h k)
  weight-behind {p} u e l h (filled {q = q'} front rest is place k) =
      let whole = e ∙ ap (λ (t : Text). u ++ t) is ∙ sym (append_assoc u front rest) in
      let place : q' ≡ p + length (u ++ front) = omega (arith, length-append u front) in
      filled (u ++ front) rest whole place (turns_both u front h k)
  weight-behind u e l h stopped = stopped

  -- nothing is read
  weight-give :
      {room : ℕ} (a : A) (text : Text) (p : ℕ) → Weight room room text p (passed (record { what = a; rest = text; at = p }))
  unfolding occurs
  weight-give a text p = let same : p ≡ p + 0 = omega arith in weighed [] refl same (turns_mark [] refl refl)

  pub give-weighs : {room : ℕ} (a : A) → Weighs room room (give a)
  unfolding give
  give-weighs a = record { weighs = weight-give a }

  pub stop-weighs : {room left : ℕ} → Weighs room left (stop {A = A})
  unfolding stop
  stop-weighs = record { weighs = λ text p. stopped }

  pub cond-weighs :
      {room left : ℕ} {x y : Reader A} (b : Bool) →
      Weighs room left x →
      Weighs room left y →
      Weighs room left (cond b x y)
  cond-weighs true h k = h
  cond-weighs false h k = k

-- one reader behind another
pub then_weighs :
    {A B : Type 0} (next : A → Reader B) {room mid left : ℕ} {r : Reader A} →
    Weighs room mid r →
    ((a : A) → Weighs mid left (next a)) →
    Weighs room left (r >>= next)
unfolding onwards ◌>>=◌
then_weighs {A} next {room} {mid} {left} h k = record { weighs = λ text p. go (h.weighs text p) }
  where
    go : {text : Text} {p : ℕ} {o : Outcome (Got A)} → Weight room mid text p o → Weight room left text p (onwards o next)
    go (weighed {g} used is place turns) = weight-behind used is place turns ((k g.what).weighs g.rest g.at)
    go (filled front rest is place turns) = filled front rest is place turns
    go stopped = stopped

-- a byte that is no parenthesis
turns_byte : (room b : ℕ) → eqb b parenthesis ≡ false → eqb b closing ≡ false → Turns room room (b ∷ [])
unfolding occurs
turns_byte room b e h = turns_mark (b ∷ []) (rw e) (rw h)

weight-byte :
    {A : Type 0} {room left : ℕ} {t : Text} {p : ℕ} {o : Outcome (Got A)} (b : ℕ) →
    eqb b parenthesis ≡ false →
    eqb b closing ≡ false →
    Weight room left t (suc p) o →
    Weight room left (b ∷ t) p o
weight-byte {room} b e h k = weight-behind (b ∷ []) refl (omega arith) (turns_byte room b e h) k

-- what passes a test is no byte that does not; and no parenthesis, if none passes
pub other_byte : (test : ℕ → Bool) (c : ℕ) → test c ≡ false → (b : ℕ) → test b ≡ true → eqb b c ≡ false
other_byte test c h b e = ⊎_elim (λ k. clash e (ap test (eqb-true b c k) ∙ h)) (λ k. k) (decide (eqb b c))

neither :
    (test : ℕ → Bool) →
    test parenthesis ≡ false →
    test closing ≡ false →
    (b : ℕ) →
    test b ≡ true →
    (eqb b parenthesis ≡ false) × (eqb b closing ≡ false)
neither test h₁ h₂ b e = (other_byte test parenthesis h₁ b e, other_byte test closing h₂ b e)

-- as many bytes as pass such a test
run-weighs :
    (test : ℕ → Bool) (r : Reader (Unit {0})) →
    test parenthesis ≡ false →
    test closing ≡ false →
    ((p : ℕ) → r [] p ≡ passed (record { what = tt; rest = []; at = p })) →
    ((b : ℕ) (t : Text) (p : ℕ) →
    r (b ∷ t) p ≡ cond (test b) (r t (suc p)) (passed (record { what = tt; rest = b ∷ t; at = p }))) →
    {room : ℕ} →
    Weighs room room r
run-weighs test r h₁ h₂ none one {room} = record { weighs = go }
  where
    go : (text : Text) (p : ℕ) → Weight room room text p (r text p)
    go [] p = rw (none p) (weight-give tt [] p)
    go (b ∷ t) p =
        rw (one b t p)
        (⊎_elim
        (λ k. let (e, h) = neither test h₁ h₂ b k in rw k (weight-byte b e h (go t (suc p))))
        (λ k. rw k (weight-give tt (b ∷ t) p))
        (decide (test b)))

module _ {room : ℕ} where
  pub blanks-weighs : Weighs room room blanks
  unfolding blank blanks
  blanks-weighs = run-weighs blank blanks refl refl (λ p. refl) (λ b t p. refl)

  pub peek-weighs : Weighs room room peek
  unfolding peek
  peek-weighs = record { weighs = go }
    where
      go : (text : Text) (p : ℕ) → Weight room room text p (peek text p)
      go [] p = stopped
      go (b ∷ t) p = weight-give b (b ∷ t) p

  pub look-weighs : Weighs room room look
  unfolding look
  look-weighs = then_weighs _ blanks-weighs λ _. peek-weighs

-- these bytes, whatever they turn
data Spelled (w text : Text) (p : ℕ) : Outcome (Got (Unit {0})) → Type 0 where
  found :
      {q : ℕ} (rest : Text) →
      text ≡ w ++ rest →
      q ≡ p + length w →
      Spelled w text p (passed (record { what = tt; rest = rest; at = q }))
  missed : {q : ℕ} → Spelled w text p (refused Tptp q)

literal-spelled : (w text : Text) (p : ℕ) → Spelled w text p (literal w text p)
unfolding literal
literal-spelled [] text p = let same : p ≡ p + 0 = omega arith in found text refl same
literal-spelled (c ∷ w) [] p = missed
literal-spelled (c ∷ w) (b ∷ t) p =
    ⊎_elim (λ k. rw k (more (eqb-true b c k) (literal-spelled w t (suc p)))) (λ k. rw k missed) (decide (eqb b c))
  where
    more : {o : Outcome (Got (Unit {0}))} → b ≡ c → Spelled w t (suc p) o → Spelled (c ∷ w) (b ∷ t) p o
    more e (found {q} rest is place) =
        let behind : q ≡ p + suc (length w) = omega arith in
        found rest (ap₂ (λ (d : ℕ) (u : Text). d ∷ u) e is) behind
    more e missed = missed

pub literal-weighs : {room left : ℕ} (w : Text) → Turns room left w → Weighs room left (literal w)
literal-weighs {room} {left} w h = record { weighs = λ text p. go (literal-spelled w text p) }
  where
    go : {text : Text} {p : ℕ} {o : Outcome (Got (Unit {0}))} → Spelled w text p o → Weight room left text p o
    go (found rest is place) = weighed w is place h
    go missed = stopped

pub token-weighs : {room left : ℕ} (w : Text) → Turns room left w → Weighs room left (token w)
unfolding token
token-weighs w h = then_weighs _ blanks-weighs λ _. literal-weighs w h

-- a token with no parenthesis
pub mark-weighs : {room : ℕ} (w : Text) → occurs parenthesis w ≡ 0 → occurs closing w ≡ 0 → Weighs room room (token w)
mark-weighs w e h = token-weighs w (turns_mark w e h)

module _ {room : ℕ} where
  further-weight : (most n : ℕ) (t : Text) (p : ℕ) → Weight room room t p (more_digits most n t p)
  unfolding digit more_digits
  further-weight most n [] p = weight-give n [] p
  further-weight most n (b ∷ t) p =
      let raised = 10 * n + (b - nought) in
      ⊎_elim
      (λ d.
      let (e, h) = neither digit refl refl b d in
      rw d
      (⊎_elim
      (λ k. rw k (weight-byte b e h (further-weight most raised t (suc p))))
      (λ k. rw k stopped)
      (decide (leb 1 n && leb raised most))))
      (λ d. rw d (weight-give n (b ∷ t) p))
      (decide (digit b))

  number-weighs : (test : ℕ → Bool) (most : ℕ) → ((b : ℕ) → test b ≡ true → digit b ≡ true) → Weighs room room (number test most)
  unfolding digit number
  number-weighs test most range = record { weighs = go }
    where
      go : (text : Text) (p : ℕ) → Weight room room text p (number test most text p)
      go [] p = stopped
      go (b ∷ t) p =
          ⊎_elim
          (λ k.
          let (e, h) = neither digit refl refl b (range b k) in
          rw k (weight-byte b e h (further-weight most (b - nought) t (suc p))))
          (λ k. rw k stopped)
          (decide (test b))

  pub natural-weighs : Weighs room room natural
  unfolding natural
  natural-weighs = number-weighs digit _ (λ b e. e)

  pub integer-weighs : Weighs room room integer
  unfolding occurs integer
  integer-weighs =
      then_weighs _ look-weighs λ b.
      cond-weighs (eqb b minus)
      (then_weighs _ (literal-weighs (minus ∷ []) (turns_mark (minus ∷ []) refl refl)) λ _.
      then_weighs _ (number-weighs (λ c. digit c && not (eqb c nought)) _ (λ c. and_left (digit c) _)) λ n. give-weighs _)
      (then_weighs _ natural-weighs λ n. give-weighs _)

  pub term-weighs : Weighs room room term
  unfolding bytes occurs term
  term-weighs =
      then_weighs _ look-weighs λ b.
      cond-weighs (eqb b letter_x)
      (then_weighs _ (mark-weighs (bytes "X") refl refl) λ _. then_weighs _ natural-weighs λ x. give-weighs _)
      (then_weighs _ integer-weighs λ k. give-weighs _)

  pub name-weighs : Weighs room room name
  unfolding digit small capital word_byte word_bytes name
  name-weighs =
      then_weighs _ look-weighs λ b.
      cond-weighs (small b) (run-weighs word_byte word_bytes refl refl (λ p. refl) (λ c t p. refl)) stop-weighs

  pub ending-weighs : Weighs room room ending
  unfolding ending
  ending-weighs = record { weighs = go }
    where
      go : (text : Text) (p : ℕ) → Weight room room text p (ending text p)
      go [] p = weight-give tt [] p
      go (b ∷ t) p = stopped

-- a parenthesis, and what is read behind it
pub opening-weighs :
    {A : Type 0} (room : ℕ) {left : ℕ} {next : Reader A} →
    ((r : ℕ) → room ≡ suc r → Weighs r left next) →
    Weighs room left (opening room >>= λ _. next)
unfolding bytes occurs opening onwards ◌>>=◌
opening-weighs {A} zero {left} {next} h = record { weighs = λ text p. go (none.weighs text p) (opening-none text p) }
  where
    none : Weighs 0 0 (opening zero)
    none =
        then_weighs _ look-weighs λ b.
        cond-weighs (eqb b parenthesis)
        (record {
          weighs = λ text p. let same : p ≡ p + 0 = omega arith in filled [] text refl same (turns_mark [] refl refl);
        })
        stop-weighs

    go :
        {text : Text} {p : ℕ} {o : Outcome (Got (Unit {0}))} →
        Weight 0 0 text p o →
        ((g : Got (Unit {0})) → o ≡ passed g → ⊥) →
        Weight 0 left text p (onwards o (λ _. next))
    go (weighed {g} used is place turns) n = absurd (n g refl)
    go (filled front rest is place turns) n = filled front rest is place turns
    go stopped n = stopped
opening-weighs (suc r) h = then_weighs _ (token-weighs (bytes "(") (turns_opening r)) λ _. h r refl

-- up to the one that closes it
pub enclosed-weighs :
    {A : Type 0} (room : ℕ) {next : Reader A} →
    ((r : ℕ) → room ≡ suc r → Weighs r (suc r) next) →
    Weighs room room (opening room >>= λ _. next)
enclosed-weighs {A} room {next} h = opening-weighs room λ r is. subst (λ (m : ℕ). Weighs r m next) (sym is) (h r is)

-- the closing one
pub closing-weighs : {room : ℕ} → Weighs room (suc room) (token (bytes ")"))
closing-weighs {room} = token-weighs (bytes ")") (turns_closing room)
