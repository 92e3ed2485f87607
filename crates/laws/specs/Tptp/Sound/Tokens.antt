-- What the readers of blanks, of a fixed token, of a name and of a parenthesis read.
use Prim.Native.Nat.{ℕ, zero, suc}
use Rattle.std.proofs.Common.{arith, sym, ◌∙◌, eqb-true}
use Rattle.std.specs.Prelude.{◌≡◌, Bool, ◌||◌, eqb}
use Rattle.std.proofs.Math.Path.{refl, ap, ap₂, subst}
use Rattle.std.proofs.Math.Logic.{⊎_elim}
use Rattle.std.proofs.Math.Bool.{true, cond}
use mathlib.Core.List.{[], ◌∷◌, ◌++◌, append-nil}
use Rattle.model.specs.Bytes.{Text, bytes, blank, small, capital, digit, word_byte, parenthesis}
use Rattle.model.specs.Lists.{all}
use Rattle.model.specs.Answer.{Outcome, passed, refused}
use Rattle.model.specs.Tptp.{lower_word}
use Rattle.model.specs.TptpReading.{Got, Reader, stop, onwards, ◌>>=◌, blanks, peek, literal, look, token, word_bytes, name, opening}
use Rattle.model.specs.TptpReading.{behind_blanks, ending}
use Rattle.model.specs.declared.Refusal.TheVariants.{Level}
use Rattle.laws.specs.Words.Tests.{decide, and-true, or_left}
use Rattle.laws.specs.Tptp.Spelling.TokensInFront.{Fill, fill-token}
use Rattle.laws.specs.Tptp.Sound.Readers.{Spelling, behind, at_last, Comes, halted, Reads, comes-behind, comes-give, comes-stop, comes_as}
use Rattle.laws.specs.Tptp.Sound.Readers.{reads_as, then_reads}

-- a byte, and what comes of the text behind it
pub comes-byte :
    {A : Type 0} {told : Type 0} {N : Spelling A} (b : ℕ) {t : Text} {p : ℕ} {o : Outcome (Got A)} →
    Comes told (behind (b ∷ []) N) t (suc p) o →
    Comes told N (b ∷ t) p o
comes-byte b h = comes-behind (b ∷ []) refl (omega arith) h

-- a token, with blanks before it
abbrev pub Mark : (word : Text) → Spelling (Unit {0})
Mark word _ u = Fill (word ∷ []) u

module _ {told : Type 0} where
  -- as many bytes as pass a test
  run-reads :
      (test : ℕ → Bool) (r : Reader (Unit {0})) →
      ((p : ℕ) → r [] p ≡ passed (record { what = tt; rest = []; at = p })) →
      ((b : ℕ) (t : Text) (p : ℕ) →
      r (b ∷ t) p ≡ cond (test b) (r t (suc p)) (passed (record { what = tt; rest = b ∷ t; at = p }))) →
      Reads told (λ _ u. all test u ≡ true) r
  unfolding all
  run-reads test r none one = record { example = λ t. (tt, [], refl); comes = come }
    where
      come : (text : Text) (p : ℕ) → Comes told (λ _ u. all test u ≡ true) text p (r text p)
      come [] p = rw (none p) (comes-give tt refl [] p)
      come (b ∷ t) p =
          rw (one b t p)
          (⊎_elim
          (λ k. rw k (comes-byte b (comes_as (λ _ u e. and-true k e) (come t (suc p)))))
          (λ k. rw k (comes-give tt refl (b ∷ t) p))
          (decide (test b)))

  pub blanks-reads : Reads told (λ _ u. all blank u ≡ true) blanks
  unfolding blanks
  blanks-reads = run-reads blank blanks (λ p. refl) (λ b t p. refl)

  -- these bytes, whatever stands before them; this token
  pub literal-reads : (word : Text) → Reads told (λ _ u. u ≡ word) (literal word)
  unfolding literal
  literal-reads word = record { example = λ t. (tt, word, refl); comes = come word }
    where
      come : (word : Text) (text : Text) (p : ℕ) → Comes told (λ _ u. u ≡ word) text p (literal word text p)
      come [] text p = comes-give tt refl text p
      come (c ∷ cs) [] p = comes-stop (λ t. (tt, c ∷ cs, refl)) [] p
      come (c ∷ cs) (b ∷ t) p =
          ⊎_elim
          (λ k.
          rw k
          (comes-byte b (comes_as (λ _ u e. ap₂ (λ (d : ℕ) (s : Text). d ∷ s) (eqb-true b c k) e) (come cs t (suc p)))))
          (λ k. rw k (comes-stop (λ t. (tt, c ∷ cs, refl)) (b ∷ t) p))
          (decide (eqb b c))

  pub token-reads : (word : Text) → Reads told (Mark word) (token word)
  unfolding token
  token-reads word =
      then_reads blanks-reads λ _ gap e.
      reads_as (λ _ u is. subst (λ (v : Text). Fill (word ∷ []) (gap ++ v)) (sym is) (fill-token gap word e)) (literal-reads word)

  -- the next byte; it may be any
  pub peek-reads : Reads told (λ b u. u ≡ []) peek
  unfolding peek
  peek-reads = record { example = λ t. (0, [], refl); comes = come }
    where
      come : (text : Text) (p : ℕ) → Comes told (λ b u. u ≡ []) text p (peek text p)
      come [] p = comes-stop (λ t. (0, [], refl)) [] p
      come (b ∷ t) p = comes-give b refl (b ∷ t) p

  pub look-reads : Reads told (λ b u. all blank u ≡ true) look
  unfolding look
  look-reads =
      then_reads blanks-reads λ _ gap e.
      reads_as (λ _ u is. ap (all blank) (ap (λ (v : Text). gap ++ v) is ∙ append-nil gap) ∙ e) peek-reads

  word_bytes-reads : Reads told (λ _ u. all word_byte u ≡ true) word_bytes
  unfolding word_bytes
  word_bytes-reads = run-reads word_byte word_bytes (λ p. refl) (λ b t p. refl)

  -- the end of a text
  pub ending-reads : Reads told (λ _ u. u ≡ []) ending
  unfolding ending
  ending-reads = record { example = λ t. (tt, [], refl); comes = come }
    where
      come : (text : Text) (p : ℕ) → Comes told (λ _ u. u ≡ []) text p (ending text p)
      come [] p = comes-give tt refl [] p
      come (b ∷ t) p = comes-stop (λ t. (tt, [], refl)) (b ∷ t) p

module _ {A : Type 0} {told : Type 0} (next : ℕ → Reader A) where
  -- a reader behind a look at the first byte of a token, where more has to be known: that this byte is next
  pub comes-look :
      (N : Spelling A) (text : Text) (p : ℕ) →
      (told → (gap : Text) → all blank gap ≡ true → (a : A) × (v : Text) × N a (gap ++ v)) →
      ((gap : Text) (b : ℕ) (t : Text) (q : ℕ) →
      all blank gap ≡ true →
      behind_blanks text ≡ b ∷ t →
      Comes told (behind gap N) (b ∷ t) q (next b (b ∷ t) q)) →
      Comes told N text p ((look >>= next) text p)
  unfolding all blanks peek look onwards ◌>>=◌ behind_blanks
  comes-look N [] p some k = comes-stop (λ t. some t [] refl) [] p
  comes-look N (b ∷ t) p some k =
      ⊎_elim
      (λ e.
      rw e
      (comes-byte b
      (comes-look (behind (b ∷ []) N) t (suc p) (λ h gap l. some h (b ∷ gap) (and-true e l))
      (λ gap c s q l is. k (b ∷ gap) c s q (and-true e l) (rw e is)))))
      (λ e. rw e (k [] b t p refl (rw e)))
      (decide (blank b))

-- a lower word, with blanks before it
abbrev pub Named : Spelling (Unit {0})
Named _ u = (word : Text) × (lower_word word ≡ true) × Fill (word ∷ []) u

pub small_word : (b : ℕ) → small b ≡ true → word_byte b ≡ true
unfolding word_byte
small_word b e =
    or_left (small b || capital b || digit b) _ (or_left (small b || capital b) _ (or_left (small b) _ e))

-- the name `a`
name-some : (gap : Text) → all blank gap ≡ true → (a : Unit {0}) × (v : Text) × Named a (gap ++ v)
unfolding all bytes small lower_word
name-some gap e = (tt, bytes "a", (bytes "a", refl, fill-token gap (bytes "a") e))

module _ {told : Type 0} where
  pub name-reads : Reads told Named name
  unfolding all lower_word word_bytes name stop
  name-reads = record {
    example = λ t. name-some [] refl;
    comes = λ text p.
        comes-look (λ b. cond (small b) word_bytes stop) Named text p (λ t. name-some) (λ gap b t q e is. come gap b t q e);
  }
    where
      come :
          (gap : Text) (b : ℕ) (t : Text) (q : ℕ) →
          all blank gap ≡ true →
          Comes told (behind gap Named) (b ∷ t) q (cond (small b) word_bytes stop (b ∷ t) q)
      come gap b t q e =
          ⊎_elim
          (λ k.
          rw k
          (rw (small_word b k)
          (comes-byte b
          (comes_as (λ _ u l. (b ∷ u, and-true k l, fill-token gap (b ∷ u) e)) (word_bytes-reads.comes t (suc q))))))
          (λ k. rw k (comes-stop (λ h. name-some gap e) (b ∷ t) q))
          (decide (small b))

  -- an opening parenthesis, whatever the room
  pub opening-reads : (room : ℕ) → Reads told (Mark (bytes "(")) (opening room)
  unfolding all bytes opening stop
  opening-reads zero = record {
    example = λ t. some [] refl;
    comes = λ text p.
        comes-look (λ b. cond (eqb b parenthesis) (λ text p. refused Level p) stop) (Mark (bytes "(")) text p (λ t. some)
        (λ gap b t q e is. come gap b t q e);
  }
    where
      some : (gap : Text) → all blank gap ≡ true → (a : Unit {0}) × (v : Text) × Mark (bytes "(") a (gap ++ v)
      some gap e = (tt, bytes "(", fill-token gap (bytes "(") e)

      come :
          (gap : Text) (b : ℕ) (t : Text) (q : ℕ) →
          all blank gap ≡ true →
          Comes told (behind gap (Mark (bytes "("))) (b ∷ t) q
          (cond (eqb b parenthesis) (λ text p. refused Level p) stop (b ∷ t) q)
      come gap b t q e =
          ⊎_elim
          (λ k.
          rw k
          (halted {q = q} λ h.
          record {
            done = b ∷ [];
            rest = t;
            split = refl;
            ends = at_last [] (ap (λ (c : ℕ). c ∷ []) (eqb-true b parenthesis k)) (omega arith);
            more = [];
            value = tt;
            spells = rw (eqb-true b parenthesis k) (fill-token gap (bytes "(") e);
          }))
          (λ k. rw k (comes-stop (λ h. some gap e) (b ∷ t) q))
          (decide (eqb b parenthesis))
  opening-reads (suc room) = token-reads (bytes "(")
