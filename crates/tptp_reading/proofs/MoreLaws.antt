-- Laws for what is read one after another as long as there is more: how much fuel there is does not matter, if it is enough; nor do
-- blanks in front.
use Prim.Native.Nat.{ℕ, zero, suc, ◌≤◌, ◌<◌}
use native.Mathlib.Omega.{arith}
use mathlib.Core.Path.{◌≡◌, refl, sym, ap, subst, ◌∙◌}
use mathlib.Core.Logic.{⊎_elim}
use mathlib.Core.Bool.{cond}
use mathlib.Core.List.{List, [], ◌∷◌}
use lib.ListN.{length, length-append}
use lib.Dec.{eqb}
use Rattle.std.specs.Prelude.{slice_get, Some}
use Rattle.std.proofs.lemmas.Option.{slice_get_within}
use Rattle.text.specs.declared.cursor.Cursor.{Cursor}
use Rattle.model.specs.Bytes.{Text}
use Rattle.model.specs.Answer.{Outcome, passed, refused}
use Rattle.model.specs.Tptp.{Stand}
use Rattle.model.specs.TptpReading.{Got, Reader, give, look, token, more, up_to, onwards, ◌>>=◌}
use Rattle.laws.specs.Words.Tests.{decide}
use Rattle.laws.specs.Tptp.Spelling.TokensInFront.{fill-stand}
use Rattle.laws.specs.Tptp.Sound.Readers.{comes-passed}
use Rattle.laws.specs.Tptp.Sound.Tokens.{look-reads, token-reads}
use Rattle.tptp_tokens.specs.Steps.{from, Skips}
use Rattle.tptp_tokens.proofs.TokenLaws.{onward, look-here}
use Rattle.tptp_tokens.proofs.UpTo.{skips_here}
use Rattle.tptp_tokens.proofs.Strict.{stand_strict}

-- the next byte is looked at behind blanks; a token takes a byte at least
look-short : (t : Text) (p : ℕ) (g : Got ℕ) → look t p ≡ passed g → length g.rest ≤ length t
look-short t p g e =
    let k = comes-passed ((look-reads {told = ⊥}).comes t p) e in
    omega (arith, ap length k.split, length-append k.used g.rest)

token-short : (c : ℕ) (t : Text) (p : ℕ) (g : Got (Unit {0})) → token (c ∷ []) t p ≡ passed g → length g.rest < length t
token-short c t p g e =
    let k = comes-passed ((token-reads {told = ⊥} (c ∷ [])).comes t p) e in
    stand_strict (c ∷ []) [] t g.rest (omega arith)
    (subst (λ (u : Text). Stand ((c ∷ []) ∷ []) u g.rest) (sym k.split) (fill-stand g.rest k.spells))

module _ {A : Type 0} (c : ℕ) (one : Reader A) where
  -- an item takes a byte at least
  abbrev pub Shortens : Type 0
  Shortens = (t : Text) (p : ℕ) (g : Got A) → one t p ≡ passed g → length g.rest < length t

  -- an item and those behind it, if there is fuel for so many
  abbrev items : ℕ → Reader (List A)
  items n = one >>= λ x. up_to n c one >>= λ xs. give (x ∷ xs)

  module _ (short : Shortens) where
    same_items :
        (n m : ℕ) (t : Text) (p : ℕ) →
        ((u : Text) (q : ℕ) → length u < length t → up_to n c one u q ≡ up_to m c one u q) →
        items n t p ≡ items m t p
    unfolding ◌>>=◌ onwards
    same_items n m t p h = go (one t p) refl
      where
        go :
            (o : Outcome (Got A)) → one t p ≡ o →
            onwards o (λ x. up_to n c one >>= λ xs. give (x ∷ xs)) ≡ onwards o (λ x. up_to m c one >>= λ xs. give (x ∷ xs))
        go (refused q k) e = refl
        go (passed g) e =
            ap (λ (o : Outcome (Got (List A))). onwards o (λ xs. give (g.what ∷ xs))) (h g.rest g.at (short t p g e))

    same_turn :
        (n m : ℕ) (t : Text) (p : ℕ) →
        ((u : Text) (q : ℕ) → suc (length u) < length t → up_to n c one u q ≡ up_to m c one u q) →
        (token (c ∷ []) >>= λ _. items n) t p ≡ (token (c ∷ []) >>= λ _. items m) t p
    unfolding ◌>>=◌ onwards
    same_turn n m t p h = go (token (c ∷ []) t p) refl
      where
        go : (o : Outcome (Got (Unit {0}))) → token (c ∷ []) t p ≡ o → onwards o (λ _. items n) ≡ onwards o (λ _. items m)
        go (refused q k) e = refl
        go (passed g) e =
            same_items n m g.rest g.at λ u q l. h u q (omega (arith, l, token-short c t p g e))

    -- with fuel for all that there can be
    same_fuel :
        (n m : ℕ) (t : Text) (p : ℕ) → 1 ≤ n → length t ≤ n → 1 ≤ m → length t ≤ m →
        up_to n c one t p ≡ up_to m c one t p
    unfolding up_to ◌>>=◌ onwards
    same_fuel zero m t p i k j l = absurd (omega arith)
    same_fuel (suc n) zero t p i k j l = absurd (omega arith)
    same_fuel (suc n) (suc m) t p i k j l =
        go (look t p) refl λ u q f. same_fuel n m u q (omega arith) (omega arith) (omega arith) (omega arith)
      where
        go :
            (o : Outcome (Got ℕ)) → look t p ≡ o →
            ((u : Text) (q : ℕ) → suc (length u) < length t → up_to n c one u q ≡ up_to m c one u q) →
            onwards o (λ b. cond (eqb b c) (token (c ∷ []) >>= λ _. items n) (give []))
            ≡ onwards o (λ b. cond (eqb b c) (token (c ∷ []) >>= λ _. items m) (give []))
        go (refused q k) e h = refl
        go (passed g) e h =
            ⊎_elim
            (λ f. rw f (same_turn n m g.rest g.at λ u q d. h u q (omega (arith, d, look-short t p g e))))
            (λ f. rw f)
            (decide (eqb g.what c))

    -- behind blanks
    pub more-later :
        (old mid : Cursor) → Skips old mid → (b : ℕ) → slice_get mid.rest.now 0 ≡ Some b → from (more c one) old ≡ from (more c one) mid
    unfolding more up_to
    more-later old mid s b h =
        let n = length old.rest.now in
        let some = slice_get_within mid.rest.now 0 b h in
        let low = s.reads.moved.low in
        let whole = s.reads.moved.whole in
        same_fuel n (suc n) old.rest.now old.at
        (omega (arith, some, low, whole)) (omega arith) (omega arith) (omega arith)
        ∙ onward look _ old b mid (look-here old mid s b h)
        ∙ sym (onward look _ mid b mid (look-here mid mid (skips_here mid s.stop) b h))
        ∙ same_fuel (suc n) (length mid.rest.now) mid.rest.now mid.at
        (omega arith) (omega (arith, low, whole)) (omega (arith, some)) (omega arith)
