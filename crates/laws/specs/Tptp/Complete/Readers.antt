-- What it says that a reader takes the tokens of a value: with room for the parentheses it gives the value and the rest, but for
-- blanks; without, it is refused by their number. And that this holds for readers made of such readers.
use Prim.Native.Nat.{ℕ, zero, suc, ◌≤◌, ◌<◌, max}
use Rattle.std.proofs.Common.{arith, sym, ◌∙◌, ⊎_elim, eq-eqb}
use Rattle.std.specs.Prelude.{◌≡◌, true, false, [], ◌∷◌, ◌++◌}
use Rattle.std.proofs.Math.Path.{refl, ap}
use Rattle.model.specs.Bytes.{Text, bytes, blank}
use Rattle.model.specs.Answer.{Outcome, passed, refused}
use Rattle.model.specs.Tptp.{Tokens, Stand}
use Rattle.model.specs.TptpReading.{Got, Reader, give, onwards, ◌>>=◌, blanks, peek, literal, look, token, opening, behind_blanks}
use Rattle.model.specs.declared.Refusal.TheVariants.{Level}
use Rattle.laws.specs.Words.Tests.{decide}
use Rattle.laws.specs.Tptp.Spelling.TokensInFront.{stand-split}
use Rattle.laws.specs.Tptp.Spelling.TokensAhead.{solid, Ahead, stand_ahead, ahead_token}

-- what comes of a value that needs so many parentheses, where there is room for others
pub data Takes {A : Type 0} (need room : ℕ) (a : A) (rest : Text) : Outcome (Got A) → Type 0 where
  took :
      {left : Text} {q : ℕ} →
      need ≤ room →
      behind_blanks left ≡ behind_blanks rest →
      Takes need room a rest (passed (record { what = a; rest = left; at = q }))
  over : {q : ℕ} → room < need → Takes need room a rest (refused Level q)

-- a reader takes these tokens, which spell a value, before such a rest
pub record Completes {A : Type 0} (need room : ℕ) (ts : Tokens) (a : A) (rest : Text) (r : Reader A) : Type 0 where
  pub takes : (text : Text) → Ahead ts text rest → (p : ℕ) → Takes need room a rest (r text p)

-- blanks are passed
pub blanks-passed :
    (text : Text) (p : ℕ) → (q : ℕ) × (blanks text p ≡ passed (record { what = tt; rest = behind_blanks text; at = q }))
unfolding blanks behind_blanks
blanks-passed [] p = (p, refl)
blanks-passed (b ∷ t) p =
    ⊎_elim
    (λ k. let (q, e) = blanks-passed t (suc p) in (q, rw k e))
    (λ k. (p, rw k))
    (decide (blank b))

-- bytes are passed where they are next
pub literal-passed :
    (w t : Text) (p : ℕ) → (q : ℕ) × (literal w (w ++ t) p ≡ passed (record { what = tt; rest = t; at = q }))
unfolding literal
literal-passed [] t p = (p, refl)
literal-passed (b ∷ w) t p = let (q, e) = literal-passed w t (suc p) in (q, rw (eq-eqb b b refl) e)

module _ {A : Type 0} {room : ℕ} {a : A} {rest : Text} where
  pub give_completes : Completes 0 room [] a rest (give a)
  unfolding give Stand
  give_completes = record { takes = λ text h p. took (omega arith) (h.alike ∙ ap behind_blanks h.stand) }

module _ {A : Type 0} {a : A} {rest : Text} where
  -- another number of parentheses
  takes-need :
      {m n room : ℕ} {o : Outcome (Got A)} →
      (m ≤ room → n ≤ room) →
      (room < m → room < n) →
      Takes m room a rest o →
      Takes n room a rest o
  takes-need f g (took l s) = took (f l) s
  takes-need f g (over l) = over (g l)

  -- behind one parenthesis more
  raised : {n room : ℕ} {ts : Tokens} {r : Reader A} → Completes n room ts a rest r → Completes (suc n) (suc room) ts a rest r
  raised {n} {room} c = record { takes = λ text h p. go (c.takes text h p) }
    where
      go : {o : Outcome (Got A)} → Takes n room a rest o → Takes (suc n) (suc room) a rest o
      go (took l s) = took (omega arith) s
      go (over l) = over (omega arith)

module _ {A B : Type 0} (next : A → Reader B) {a : A} {b : B} {rest : Text} {n₂ n room : ℕ} where
  -- one reader behind another
  then_takes :
      {n₁ : ℕ} {mid : Text} {o : Outcome (Got A)} →
      max n₁ n₂ ≡ n →
      Takes n₁ room a mid o →
      ((left : Text) → behind_blanks left ≡ behind_blanks mid → (q : ℕ) → Takes n₂ room b rest (next a left q)) →
      Takes n room b rest (onwards o next)
  unfolding onwards
  then_takes e (took {left} {q} l alike) k =
      takes-need (λ h. omega arith) (λ h. omega arith) (k left alike q)
  then_takes e (over l) k = over (omega arith)

  pub then_completes :
      (n₁ : ℕ) {ts₁ ts₂ : Tokens} {r : Reader A} →
      max n₁ n₂ ≡ n →
      ((mid : Text) → Stand ts₂ mid rest → Completes n₁ room ts₁ a mid r) →
      Completes n₂ room ts₂ b rest (next a) →
      Completes n room (ts₁ ++ ts₂) b rest (r >>= next)
  unfolding ◌>>=◌
  then_completes n₁ {ts₁} {ts₂} e h k = record {
    takes = λ text s p.
        let (mid, s₁, s₂) = stand-split ts₁ ts₂ s.start rest s.stand in
        then_takes e ((h mid s₂).takes text (record { start = s.start; alike = s.alike; stand = s₁ }) p)
        (λ left alike q. k.takes left (record { start = mid; alike = alike; stand = s₂ }) q);
  }

-- one that needs no parentheses, and another behind it
pub free_completes :
    {A B : Type 0} (next : A → Reader B) {a : A} {b : B} {rest : Text} {n room : ℕ} {ts₁ ts₂ : Tokens} {r : Reader A} →
    ((mid : Text) → Stand ts₂ mid rest → Completes 0 room ts₁ a mid r) →
    Completes n room ts₂ b rest (next a) →
    Completes n room (ts₁ ++ ts₂) b rest (r >>= next)
free_completes next h k = then_completes next 0 (omega arith) h k

-- the last token
pub last_completes : {room : ℕ} {rest : Text} (w : Text) → solid w ≡ true → Completes 0 room (w ∷ []) tt rest (token w)
unfolding token onwards ◌>>=◌ Stand
last_completes {rest} w e = record {
  takes = λ text s p.
      let (behind, is, stand) = ahead_token w [] text rest e s in
      let (q, passes) = blanks-passed text p in
      let (q', passes') = literal-passed w behind q in
      rw (passes, is, passes') (took (omega arith) (ap behind_blanks stand));
}

module _ {A : Type 0} {n room : ℕ} {a : A} {rest : Text} where
  -- what is made of the value of the last reader
  pub map_completes :
      {B : Type 0} {ts : Tokens} {r : Reader B} {b : B} (f : B → A) →
      f b ≡ a →
      Completes n room ts b rest r →
      Completes n room ts a rest (r >>= λ x. give (f x))
  unfolding give onwards ◌>>=◌
  map_completes {b} f e c = record { takes = λ text s p. go (c.takes text s p) }
    where
      go : {o : Outcome (Got _)} → Takes n room b rest o → Takes n room a rest (onwards o (λ x. give (f x)))
      go (took l s) = rw e (took l s)
      go (over l) = over l

  -- a token, and what is behind it
  pub token_completes :
      (w : Text) {ts : Tokens} {next : Reader A} →
      solid w ≡ true →
      Completes n room ts a rest next →
      Completes n room (w ∷ ts) a rest (token w >>= λ _. next)
  unfolding token onwards ◌>>=◌
  token_completes w {ts} e c = record {
    takes = λ text s p.
        let (behind, is, stand) = ahead_token w ts text rest e s in
        let (q, passes) = blanks-passed text p in
        let (q', passes') = literal-passed w behind q in
        rw (passes, is, passes') (c.takes behind (stand_ahead stand) q');
  }

  -- a look at the first byte of what is next
  pub look_completes :
      (next : ℕ → Reader A) (b : ℕ) {ts : Tokens} →
      blank b ≡ false →
      ((text : Text) → Ahead ts text rest → (t : Text) × (behind_blanks text ≡ b ∷ t)) →
      Completes n room ts a rest (next b) →
      Completes n room ts a rest (look >>= next)
  unfolding look peek onwards ◌>>=◌ behind_blanks
  look_completes next b e h c = record {
    takes = λ text s p.
        let (t, is) = h text s in
        let (q, passes) = blanks-passed text p in
        let alike : behind_blanks (b ∷ t) ≡ behind_blanks s.start = rw e (sym is ∙ s.alike) in
        rw (passes, is) (c.takes (b ∷ t) (record { start = s.start; alike = alike; stand = s.stand }) q);
  }

module _ {A : Type 0} {a : A} {rest : Text} where
  -- a parenthesis, and what is behind it with room for one less
  pub opening_completes :
      {n : ℕ} (room : ℕ) {ts : Tokens} {next : Reader A} →
      ((r : ℕ) → room ≡ suc r → Completes n r ts a rest next) →
      Completes (suc n) room (bytes "(" ∷ ts) a rest (opening room >>= λ _. next)
  unfolding bytes blank solid look peek opening onwards ◌>>=◌
  opening_completes zero {ts} c = record {
    takes = λ text s p.
        let (behind, is, stand) = ahead_token (bytes "(") ts text rest refl s in
        let (q, passes) = blanks-passed text p in
        rw (passes, is) (over (omega arith));
  }
  opening_completes (suc r) c = token_completes (bytes "(") refl (raised (c r refl))
