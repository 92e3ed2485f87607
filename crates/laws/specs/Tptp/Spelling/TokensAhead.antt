-- Tokens that are next in a text, whatever blanks stand before them.
use Rattle.std.specs.Prelude.{ℕ, ◌≤◌, ◌≡◌, refl, Bool, true, false, not, ◌||◌, [], ◌∷◌, ◌++◌, length, eqb}
use Rattle.std.proofs.Common.{arith, ap, ◌∙◌, ⊎_elim, append_assoc, length-append, eqb-true}
use Rattle.std.proofs.lemmas.Bool.{false≢true, not-true}
use Rattle.model.specs.Bytes.{Text, blank, digit}
use Rattle.model.specs.Lists.{all}
use Rattle.model.specs.Tptp.{Tokens, Stand}
use Rattle.model.specs.TptpReading.{behind_blanks}
use Rattle.laws.specs.Words.Tests.{decide, and_left, and_right, or_cases}

-- a token begins with no blank
unfoldable pub solid : Text → Bool
solid [] = false
solid (b ∷ t) = not (blank b)

pub solid-append : (w t : Text) → solid w ≡ true → solid (w ++ t) ≡ true
unfolding solid
solid-append [] t e = absurd (false≢true e)
solid-append (b ∷ w) t e = e

-- a text does not begin with a byte that passes a test; with a digit
unfoldable pub free : (ℕ → Bool) → Text → Bool
free test [] = true
free test (b ∷ t) = not (test b)

abbrev pub apart : (t : Text) → Bool
apart t = free digit t

-- behind blanks, and behind none
pub behind-gap : (gap t : Text) → all blank gap ≡ true → behind_blanks (gap ++ t) ≡ behind_blanks t
unfolding all behind_blanks
behind-gap [] t e = refl
behind-gap (b ∷ gap) t e = rw (and_left (blank b) _ e) (behind-gap gap t (and_right (blank b) _ e))

behind-solid : (w t : Text) → solid w ≡ true → behind_blanks (w ++ t) ≡ w ++ t
unfolding solid behind_blanks
behind-solid [] t e = absurd (false≢true e)
behind-solid (b ∷ w) t e = rw (not-true (blank b) e)

pub behind-length : (t : Text) → length (behind_blanks t) ≤ length t
unfolding behind_blanks
behind-length [] = omega arith
behind-length (b ∷ t) =
    ⊎_elim (λ e. rw e (omega (arith, behind-length t))) (λ e. rw e (omega arith)) (decide (blank b))

-- the rest is no longer than the text
pub stand-length : (ts : Tokens) (text rest : Text) → Stand ts text rest → length rest ≤ length text
unfolding Stand
stand-length [] text rest e = omega (arith, ap length e)
stand-length (token ∷ ts) text rest (gap, behind, blanks, is, s) =
    omega (arith, stand-length ts behind rest s, ap length is ∙ length-append (gap ++ token) behind)

-- tokens are next in a text, and this is the rest: they stand in front of a text that differs in blanks before them only
pub record Ahead (ts : Tokens) (text rest : Text) : Type 0 where
  pub start : Text
  pub alike : behind_blanks text ≡ behind_blanks start
  pub stand : Stand ts start rest

pub stand_ahead : {ts : Tokens} {text rest : Text} → Stand ts text rest → Ahead ts text rest
stand_ahead {text} s = record { start = text; alike = refl; stand = s }

-- the first of these tokens
pub ahead_token :
    (w : Text) (ts : Tokens) (text rest : Text) →
    solid w ≡ true →
    Ahead (w ∷ ts) text rest →
    (behind : Text) × (behind_blanks text ≡ w ++ behind) × Stand ts behind rest
unfolding Stand
ahead_token w ts text rest e a =
    let (gap, behind, blanks, is, s) = a.stand in
    let found = a.alike ∙ ap behind_blanks is ∙ ap behind_blanks (append_assoc gap w behind) in
    (behind, found ∙ behind-gap gap (w ++ behind) blanks ∙ behind-solid w behind e, s)

-- its first byte
pub ahead_first :
    (b : ℕ) (w : Text) (ts : Tokens) (rest : Text) →
    blank b ≡ false →
    (text : Text) →
    Ahead ((b ∷ w) ∷ ts) text rest →
    (t : Text) × (behind_blanks text ≡ b ∷ t)
unfolding solid
ahead_first b w ts rest e text s =
    let (behind, is, stand) = ahead_token (b ∷ w) ts text rest (ap not e) s in
    (w ++ behind, is)

-- what holds for the three blanks
pub blank-cases : (P : ℕ → Type 0) → P 32 → P 10 → P 13 → (b : ℕ) → blank b ≡ true → P b
unfolding blank
blank-cases P x y z b e =
    ⊎_elim
    (λ k. ⊎_elim (λ k. rw (eqb-true b 32 k) x) (λ k. rw (eqb-true b 10 k) y) (or_cases (eqb b 32) (eqb b 10) k))
    (λ k. rw (eqb-true b 13 k) z)
    (or_cases (eqb b 32 || eqb b 10) (eqb b 13) e)

pub blank-digit : (b : ℕ) → blank b ≡ true → digit b ≡ false
unfolding digit
blank-digit = blank-cases (λ b. digit b ≡ false) refl refl refl

-- a text in front of which a token stands that does not begin so, where no blank passes the test
pub stand-free :
    (test : ℕ → Bool) →
    ((b : ℕ) → blank b ≡ true → test b ≡ false) →
    (w : Text) (ts : Tokens) (text rest : Text) →
    solid w ≡ true →
    free test w ≡ true →
    Stand (w ∷ ts) text rest →
    free test text ≡ true
unfolding Stand all solid free
stand-free test k w ts text rest e h (gap, behind, blanks, is, s) =
    rw (is, append_assoc gap w behind) (go gap w blanks e h)
  where
    go : (gap w : Text) → all blank gap ≡ true → solid w ≡ true → free test w ≡ true → free test (gap ++ (w ++ behind)) ≡ true
    go [] [] l e h = absurd (false≢true e)
    go [] (b ∷ w) l e h = h
    go (b ∷ gap) w l e h = ap not (k b (and_left (blank b) _ l))

pub stand-apart :
    (w : Text) (ts : Tokens) (text rest : Text) →
    solid w ≡ true →
    apart w ≡ true →
    Stand (w ∷ ts) text rest →
    apart text ≡ true
stand-apart w ts text rest e h s = stand-free digit blank-digit w ts text rest e h s
