-- A reader decides by the bytes it has read: of two texts with the same front, what comes of the first one at a place in this
-- front comes of the second one too. This holds for readers made of such readers, and for those of bytes and tokens.
use Rattle.std.specs.Prelude.{ℕ, zero, suc, ◌+◌, ◌*◌, ◌-◌, ◌≤◌, ◌≡◌, refl, Bool, true, false, cond, ◌&&◌, [], ◌∷◌, ◌++◌, leb, eqb}
use Rattle.std.proofs.Common.{arith, sym, ap, ◌∙◌, ⊎_elim, append_assoc, length-append}
use Rattle.std.proofs.Math.ListN.{length}
use Rattle.model.specs.Bytes.{Text, blank, digit, small, word_byte, nought, minus, parenthesis, letter_x}
use Rattle.model.specs.Answer.{Outcome, passed, refused}
use Rattle.model.specs.TptpReading.{Got, Reader, give, stop, onwards, ◌>>=◌, blanks, peek, literal, look, token, more_digits, number}
use Rattle.model.specs.TptpReading.{natural, integer, word_bytes, name, opening, term, ending}
use Rattle.model.specs.declared.Refusal.{Refusal}
use Rattle.model.specs.declared.Refusal.TheVariants.{Level, Tptp}
use Rattle.laws.specs.Words.Tests.{decide}
use Rattle.laws.specs.Answer.{refused-passed}

-- what comes of a text is at the place n or behind it
pub data Late {A : Type 0} (n : ℕ) : Outcome (Got A) → Type 0 where
  late_pass : {g : Got A} → n ≤ g.at → Late n (passed g)
  late-stop : {r : Refusal} {q : ℕ} → n ≤ q → Late n (refused r q)

-- what comes of two texts with the same front, read from p on: the same, or the first is decided behind the front only
pub data Shares {A : Type 0} (front s₁ s₂ : Text) (p : ℕ) : Outcome (Got A) → Outcome (Got A) → Type 0 where
  both_pass :
      {a : A} {q : ℕ} (used left : Text) →
      front ≡ used ++ left →
      q ≡ p + length used →
      Shares front s₁ s₂ p (passed (record { what = a; rest = left ++ s₁; at = q }))
      (passed (record { what = a; rest = left ++ s₂; at = q }))
  both-stop : {r : Refusal} {q : ℕ} → p ≤ q → Shares front s₁ s₂ p (refused r q) (refused r q)
  behind-front : {o₁ o₂ : Outcome (Got A)} → Late (p + length front) o₁ → Shares front s₁ s₂ p o₁ o₂

-- a reader of which this holds
pub record Local {A : Type 0} (r : Reader A) : Type 0 where
  pub shares : (front s₁ s₂ : Text) (p : ℕ) → Shares front s₁ s₂ p (r (front ++ s₁) p) (r (front ++ s₂) p)

module _ {A : Type 0} where
  pub late-more : {m n : ℕ} {o : Outcome (Got A)} → m ≤ n → Late n o → Late m o
  late-more l (late_pass {g} h) = late_pass {g = g} (omega arith)
  late-more l (late-stop {q} h) = late-stop {q = q} (omega arith)

  -- with no front nothing comes before the beginning
  shares-late : {s₁ s₂ : Text} {p : ℕ} {o₁ o₂ : Outcome (Got A)} → Shares [] s₁ s₂ p o₁ o₂ → Late p o₁
  shares-late {p} (both_pass {q} used left is place) = let l : p ≤ q = omega arith in late_pass l
  shares-late (both-stop l) = late-stop l
  shares-late {p} (behind-front h) = late-more (omega arith) h

  pub local_late : {r : Reader A} → Local r → (text : Text) (p : ℕ) → Late p (r text p)
  local_late h text p = shares-late (h.shares [] text text p)

  -- the front behind a part of it
  shares-behind :
      {front s₁ s₂ : Text} {p q : ℕ} {o₁ o₂ : Outcome (Got A)} (used left : Text) →
      front ≡ used ++ left →
      q ≡ p + length used →
      Shares left s₁ s₂ q o₁ o₂ →
      Shares front s₁ s₂ p o₁ o₂
  shares-behind {p} used left e l (both_pass {q = q'} used' left' is place) =
      let whole = e ∙ ap (λ (t : Text). used ++ t) is ∙ sym (append_assoc used used' left') in
      let behind : q' ≡ p + length (used ++ used') = omega (arith, length-append used used') in
      both_pass (used ++ used') left' whole behind
  shares-behind used left e l (both-stop {q = q'} h) = both-stop {q = q'} (omega arith)
  shares-behind used left e l (behind-front h) =
      behind-front (late-more (omega (arith, ap length e ∙ length-append used left)) h)

  -- a byte of it
  shares-byte :
      {t s₁ s₂ : Text} {p : ℕ} {o₁ o₂ : Outcome (Got A)} (b : ℕ) →
      Shares t s₁ s₂ (suc p) o₁ o₂ →
      Shares (b ∷ t) s₁ s₂ p o₁ o₂
  shares-byte {t} b h = shares-behind (b ∷ []) t refl (omega arith) h

module _ {A B : Type 0} (next₁ next₂ : A → Reader B) where
  -- one reader behind another
  pub then_shares :
      {front s₁ s₂ : Text} {p : ℕ} {o₁ o₂ : Outcome (Got A)} →
      Shares front s₁ s₂ p o₁ o₂ →
      ((a : A) (used left : Text) (q : ℕ) →
      front ≡ used ++ left →
      q ≡ p + length used →
      o₁ ≡ passed (record { what = a; rest = left ++ s₁; at = q }) →
      Shares left s₁ s₂ q (next₁ a (left ++ s₁) q) (next₂ a (left ++ s₂) q)) →
      ((a : A) (text : Text) (q : ℕ) → Late q (next₁ a text q)) →
      Shares front s₁ s₂ p (onwards o₁ next₁) (onwards o₂ next₂)
  unfolding onwards
  then_shares (both_pass {a} {q} used left is place) k late =
      shares-behind used left is place (k a used left q is place refl)
  then_shares (both-stop l) k late = both-stop l
  then_shares {front} {p} (behind-front h) k late = behind-front (go h)
    where
      go : {o : Outcome (Got A)} → Late (p + length front) o → Late (p + length front) (onwards o next₁)
      go (late_pass {g} l) = late-more l (late g.what g.rest g.at)
      go (late-stop l) = late-stop l

pub then_local :
    {A B : Type 0} (next : A → Reader B) {r : Reader A} →
    Local r →
    ((a : A) → Local (next a)) →
    Local (r >>= next)
unfolding ◌>>=◌
then_local next h k = record {
  shares = λ front s₁ s₂ p.
      then_shares next next (h.shares front s₁ s₂ p)
      (λ a used left q is place e. (k a).shares left s₁ s₂ q)
      (λ a text q. local_late (k a) text q);
}

module _ {A : Type 0} where
  -- nothing is read, or no text goes on
  pub give-shares :
      (a : A) (front s₁ s₂ : Text) (p : ℕ) →
      Shares front s₁ s₂ p (passed (record { what = a; rest = front ++ s₁; at = p }))
      (passed (record { what = a; rest = front ++ s₂; at = p }))
  give-shares a front s₁ s₂ p = let same : p ≡ p + 0 = omega arith in both_pass [] front refl same

  stop-shares : (r : Refusal) (front s₁ s₂ : Text) (p : ℕ) → Shares {A = A} front s₁ s₂ p (refused r p) (refused r p)
  stop-shares r front s₁ s₂ p = both-stop {q = p} (omega arith)

  late-give : (a : A) (text : Text) (p : ℕ) → Late p (passed (record { what = a; rest = text; at = p }))
  late-give a text p = let same : p ≤ p = omega arith in late_pass same

  late-refused : (r : Refusal) (p : ℕ) → Late {A = A} p (refused r p)
  late-refused r p = late-stop {q = p} (omega arith)

  pub give_local : (a : A) → Local (give a)
  unfolding give
  give_local a = record { shares = give-shares a }

  pub stop_local : Local (stop {A = A})
  unfolding stop
  stop_local = record { shares = λ front s₁ s₂ p. stop-shares Tptp front s₁ s₂ p }

  pub cond_local : {x y : Reader A} (b : Bool) → Local x → Local y → Local (cond b x y)
  cond_local true h k = h
  cond_local false h k = k

-- as many bytes as pass a test
run_local :
    (test : ℕ → Bool) (r : Reader (Unit {0})) →
    ((p : ℕ) → r [] p ≡ passed (record { what = tt; rest = []; at = p })) →
    ((b : ℕ) (t : Text) (p : ℕ) →
    r (b ∷ t) p ≡ cond (test b) (r t (suc p)) (passed (record { what = tt; rest = b ∷ t; at = p }))) →
    Local r
run_local test r none one = record { shares = share }
  where
    late : (t : Text) (p : ℕ) → Late p (r t p)
    late [] p = rw (none p) (late-give tt [] p)
    late (b ∷ t) p =
        rw (one b t p)
        (⊎_elim
        (λ k. rw k (late-more (omega arith) (late t (suc p))))
        (λ k. rw k (late-give tt (b ∷ t) p))
        (decide (test b)))

    share : (front s₁ s₂ : Text) (p : ℕ) → Shares front s₁ s₂ p (r (front ++ s₁) p) (r (front ++ s₂) p)
    share [] s₁ s₂ p = behind-front (late-more (omega arith) (late s₁ p))
    share (b ∷ t) s₁ s₂ p =
        rw (one b (t ++ s₁) p, one b (t ++ s₂) p)
        (⊎_elim
        (λ k. rw k (shares-byte b (share t s₁ s₂ (suc p))))
        (λ k. rw k (give-shares tt (b ∷ t) s₁ s₂ p))
        (decide (test b)))

pub blanks_local : Local blanks
unfolding blanks
blanks_local = run_local blank blanks (λ p. refl) (λ b t p. refl)

pub peek_local : Local peek
unfolding peek
peek_local = record { shares = share }
  where
    late : (t : Text) (p : ℕ) → Late p (peek t p)
    late [] p = late-refused Tptp p
    late (b ∷ t) p = late-give b (b ∷ t) p

    share : (front s₁ s₂ : Text) (p : ℕ) → Shares front s₁ s₂ p (peek (front ++ s₁) p) (peek (front ++ s₂) p)
    share [] s₁ s₂ p = behind-front (late-more (omega arith) (late s₁ p))
    share (b ∷ t) s₁ s₂ p = give-shares b (b ∷ t) s₁ s₂ p

pub literal_local : (w : Text) → Local (literal w)
unfolding literal
literal_local w = record { shares = share w }
  where
    late : (w t : Text) (p : ℕ) → Late p (literal w t p)
    late [] t p = late-give tt t p
    late (c ∷ w) [] p = late-refused Tptp p
    late (c ∷ w) (b ∷ t) p =
        ⊎_elim
        (λ k. rw k (late-more (omega arith) (late w t (suc p))))
        (λ k. rw k (late-refused Tptp p))
        (decide (eqb b c))

    share : (w front s₁ s₂ : Text) (p : ℕ) → Shares front s₁ s₂ p (literal w (front ++ s₁) p) (literal w (front ++ s₂) p)
    share [] front s₁ s₂ p = give-shares tt front s₁ s₂ p
    share (c ∷ w) [] s₁ s₂ p = behind-front (late-more (omega arith) (late (c ∷ w) s₁ p))
    share (c ∷ w) (b ∷ t) s₁ s₂ p =
        ⊎_elim
        (λ k. rw k (shares-byte b (share w t s₁ s₂ (suc p))))
        (λ k. rw k (stop-shares Tptp (b ∷ t) s₁ s₂ p))
        (decide (eqb b c))

pub look_local : Local look
unfolding look
look_local = then_local _ blanks_local λ _. peek_local

pub token_local : (w : Text) → Local (token w)
unfolding token
token_local w = then_local _ blanks_local λ _. literal_local w

further-late : (most n : ℕ) (t : Text) (p : ℕ) → Late p (more_digits most n t p)
unfolding more_digits
further-late most n [] p = late-give n [] p
further-late most n (b ∷ t) p =
    let raised = 10 * n + (b - nought) in
    ⊎_elim
    (λ d. rw d (⊎_elim
    (λ k. rw k (late-more (omega arith) (further-late most raised t (suc p))))
    (λ k. rw k (late-refused Tptp p))
    (decide (leb 1 n && leb raised most))))
    (λ d. rw d (late-give n (b ∷ t) p))
    (decide (digit b))

further-shares :
    (most n : ℕ) (front s₁ s₂ : Text) (p : ℕ) →
    Shares front s₁ s₂ p (more_digits most n (front ++ s₁) p) (more_digits most n (front ++ s₂) p)
unfolding more_digits
further-shares most n [] s₁ s₂ p = behind-front (late-more (omega arith) (further-late most n s₁ p))
further-shares most n (b ∷ t) s₁ s₂ p =
    let raised = 10 * n + (b - nought) in
    ⊎_elim
    (λ d. rw d (⊎_elim
    (λ k. rw k (shares-byte b (further-shares most raised t s₁ s₂ (suc p))))
    (λ k. rw k (stop-shares Tptp (b ∷ t) s₁ s₂ p))
    (decide (leb 1 n && leb raised most))))
    (λ d. rw d (give-shares n (b ∷ t) s₁ s₂ p))
    (decide (digit b))

number_local : (test : ℕ → Bool) (most : ℕ) → Local (number test most)
unfolding number
number_local test most = record { shares = share }
  where
    late : (t : Text) (p : ℕ) → Late p (number test most t p)
    late [] p = late-refused Tptp p
    late (b ∷ t) p =
        ⊎_elim
        (λ k. rw k (late-more (omega arith) (further-late most (b - nought) t (suc p))))
        (λ k. rw k (late-refused Tptp p))
        (decide (test b))

    share :
        (front s₁ s₂ : Text) (p : ℕ) →
        Shares front s₁ s₂ p (number test most (front ++ s₁) p) (number test most (front ++ s₂) p)
    share [] s₁ s₂ p = behind-front (late-more (omega arith) (late s₁ p))
    share (b ∷ t) s₁ s₂ p =
        ⊎_elim
        (λ k. rw k (shares-byte b (further-shares most (b - nought) t s₁ s₂ (suc p))))
        (λ k. rw k (stop-shares Tptp (b ∷ t) s₁ s₂ p))
        (decide (test b))

pub natural_local : Local natural
unfolding natural
natural_local = number_local _ _

pub integer_local : Local integer
unfolding integer
integer_local =
    then_local _ look_local λ b.
    cond_local (eqb b minus)
    (then_local _ (literal_local _) λ _. then_local _ (number_local _ _) λ n. give_local _)
    (then_local _ natural_local λ n. give_local _)

pub term_local : Local term
unfolding term
term_local =
    then_local _ look_local λ b.
    cond_local (eqb b letter_x)
    (then_local _ (token_local _) λ _. then_local _ natural_local λ x. give_local _)
    (then_local _ integer_local λ k. give_local _)

pub name_local : Local name
unfolding name word_bytes
name_local =
    then_local _ look_local λ b.
    cond_local (small b) (run_local word_byte word_bytes (λ p. refl) (λ c t p. refl)) stop_local

pub ending_local : Local ending
unfolding ending
ending_local = record { shares = share }
  where
    late : (t : Text) (p : ℕ) → Late p (ending t p)
    late [] p = late-give tt [] p
    late (b ∷ t) p = late-refused Tptp p

    share : (front s₁ s₂ : Text) (p : ℕ) → Shares front s₁ s₂ p (ending (front ++ s₁) p) (ending (front ++ s₂) p)
    share [] s₁ s₂ p = behind-front (late-more (omega arith) (late s₁ p))
    share (b ∷ t) s₁ s₂ p = stop-shares Tptp (b ∷ t) s₁ s₂ p

-- with no room no parenthesis passes
pub opening-none : (text : Text) (p : ℕ) (g : Got (Unit {0})) → opening zero text p ≡ passed g → ⊥
unfolding stop opening onwards ◌>>=◌
opening-none text p g e = go (look text p) e
  where
    either : (b : Bool) (text : Text) (p : ℕ) → cond b (λ t q. refused Level q) stop text p ≡ passed g → ⊥
    either true text p e = refused-passed e
    either false text p e = refused-passed e

    go : (o : Outcome (Got ℕ)) → onwards o (λ b. cond (eqb b parenthesis) (λ t q. refused Level q) stop) ≡ passed g → ⊥
    go (refused r q) e = refused-passed e
    go (passed k) e = either (eqb k.what parenthesis) k.rest k.at e

pub opening_local : (room : ℕ) → Local (opening room)
unfolding opening
opening_local zero =
    then_local _ look_local λ b.
    cond_local (eqb b parenthesis) (record { shares = λ front s₁ s₂ p. stop-shares Level front s₁ s₂ p }) stop_local
opening_local (suc room) = token_local _
