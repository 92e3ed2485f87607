-- Laws for the reading of a binder: the token of a variable, its declaration, and the variables one after another.
use Prim.Native.Nat.{ℕ, zero, suc, ◌+◌, ◌-◌, ◌≤◌, ◌<◌}
use native.Mathlib.Omega.{arith}
use mathlib.Core.Path.{◌≡◌, refl, sym, ap, ◌∙◌}
use mathlib.Core.Bool.{Bool, true, false, cond}
use mathlib.Core.List.{[], ◌∷◌, ◌++◌}
use lib.ListN.{length, take}
use borrow.Author.Tests.{lt-ltb}
use Rattle.model.specs.Bytes.{Text, bytes, comma}
use Rattle.model.specs.Answer.{Outcome, passed, refused}
use Rattle.model.specs.Decimal.{digits}
use Rattle.model.specs.Tptp.{variable_token}
use Rattle.model.specs.TptpReading.{Got, Reader, give, onwards, look, token, declaration, variables, ◌>>=◌}
use lib.Dec.{eqb}
use Rattle.model.specs.declared.Refusal.{Refusal}
use Rattle.laws.specs.Decimal.{digits-few}
use Rattle.text.specs.Put.{Wrote}
use Rattle.text.specs.declared.cursor.Cursor.{Cursor}
use Rattle.tptp_tokens.specs.Steps.{from, got, Moved, Reads}
use Rattle.tptp_tokens.specs.Several.{another}
use Rattle.tptp_tokens.proofs.MovedLaws.{further}
use Rattle.tptp_tokens.proofs.UpTo.{if-another}

-- a number has at most ten digits, as far as they are written
pub never-full : (x : ℕ) (word : Text) → length word ≡ 11 → length word < 1 + length (digits 10 x) → ⊥
never-full x word l h = let few = digits-few 10 x in omega arith

pub variable-word : (x n : ℕ) (word word' : Text) → take 1 word ≡ 88 ∷ [] → Wrote (digits 10 x) 1 word word' n → take n word' ≡ variable_token x
unfolding variable_token bytes
variable-word x n word word' e w = w.stands ∙ ap (λ (t : Text). t ++ digits 10 x) e

-- a number below ten is one digit
pub variable-short : (x : ℕ) → x < 10 → 88 ∷ (48 + x) ∷ [] ≡ variable_token x
unfolding variable_token bytes digits
variable-short x h = rw (lt-ltb x 10 h) refl

-- what is left of the variables of a binder behind the first of them
unfoldable pub others : ℕ → ℕ → Reader ℕ
others zero x = give 1
others (suc most) x = do
  b ← another comma
  cond b
      (do
        v ← variables most (suc x)
        give (suc v))
      (give 1)

variables_as : (most x : ℕ) (t : Text) (p : ℕ) → variables most x t p ≡ (declaration x >>= λ _. others most x) t p
unfolding variables others bytes ◌>>=◌ onwards
variables_as zero x t p = refl
variables_as (suc most) x t p = go (declaration x t p)
  where
    go :
        (o : Outcome (Got (Unit {0}))) →
        onwards o (λ _. look >>= λ b. cond (eqb b comma) (token (comma ∷ []) >>= λ _. variables most (suc x) >>= λ v. give (suc v)) (give 1))
        ≡ onwards o (λ _. another comma >>= λ b. cond b (variables most (suc x) >>= λ v. give (suc v)) (give 1))
    go (refused q k) = refl
    go (passed g) = if-another comma (variables most (suc x) >>= λ v. give (suc v)) (give 1) g.rest g.at

-- so many more than that
unfoldable pub plus : ℕ → Outcome (Got ℕ) → Outcome (Got ℕ)
plus k (refused q p) = refused q p
plus k (passed g) = passed (record { what = k + g.what; rest = g.rest; at = g.at })

plus_suc : (k : ℕ) (o : Outcome (Got ℕ)) → plus k (onwards o (λ v. give (suc v))) ≡ plus (k + 1) o
unfolding plus onwards give
plus_suc k (refused q p) = refl
plus_suc k (passed g) =
    ap (λ (n : ℕ). passed (record { what = n; rest = g.rest; at = g.at })) (let e : k + suc g.what ≡ k + 1 + g.what = omega arith in e)

plus_none : (o : Outcome (Got ℕ)) → o ≡ plus 0 o
unfolding plus
plus_none (refused q p) = refl
plus_none (passed g) =
    ap (λ (n : ℕ). passed (record { what = n; rest = g.rest; at = g.at })) (let e : g.what ≡ 0 + g.what = omega arith in e)

-- so many variables were read so far, k behind the first
pub record Counting (most x : ℕ) (start here : Cursor) (count : ℕ) : Type 0 where
  pub k : ℕ
  pub is : count ≡ k + 1
  pub goes : from (variables most x) start ≡ plus k (from (others (most - k) (x + k)) here)
  pub moved : Moved start here

module _ (most x : ℕ) (start : Cursor) where
  pub counting_none : (q : Refusal) (p : ℕ) → from (declaration x) start ≡ refused q p → from (variables most x) start ≡ refused q p
  unfolding ◌>>=◌ onwards
  counting_none q p e = variables_as most x start.rest.now start.at ∙ rw e

  first : (here : Cursor) → from (declaration x) start ≡ got tt here → from (variables most x) start ≡ from (others most x) here
  unfolding ◌>>=◌ onwards
  first here e = variables_as most x start.rest.now start.at ∙ rw e

module _ (most x : ℕ) (start : Cursor) where
  pub counting_first : (here : Cursor) → Reads (declaration x) start tt here → Counting most x start here 1
  counting_first here r = record {
    k = 0;
    is = omega arith;
    goes =
        first most x start here r.reads
        ∙ plus_none (from (others most x) here)
        ∙ ap (λ (m : ℕ). plus 0 (from (others m x) here)) (let e : most ≡ most - 0 = omega arith in e)
        ∙ ap (λ (y : ℕ). plus 0 (from (others (most - 0) y) here)) (let e : x ≡ x + 0 = omega arith in e);
    moved = r.moved;
  }

  module _ {here : Cursor} {count : ℕ} (c : Counting most x start here count) where
    -- as many as there may be
    pub counting_all : count ≡ most + 1 → Reads (variables most x) start (most + 1) here
    unfolding others give plus
    counting_all h =
        let none : most - c.k ≡ 0 = omega (arith, c.is) in
        let all : c.k + 1 ≡ most + 1 = sym c.is ∙ h in
        record { moved = c.moved; reads = c.goes ∙ rw none (ap (λ (n : ℕ). got n here) all) }

    module _ (h : count ≤ most) where
      abbrev m : ℕ
      m = most - (c.k + 1)

      next :
          from (variables most x) start
          ≡ plus c.k (from (another comma >>= λ b. cond b (variables m (suc (x + c.k)) >>= λ v. give (suc v)) (give 1)) here)
      unfolding others
      next = c.goes ∙ ap (λ (n : ℕ). plus c.k (from (others n (x + c.k)) here)) (let e : most - c.k ≡ suc (most - (c.k + 1)) = omega (arith, c.is) in e)

      pub counting_refused : (q : Refusal) (p : ℕ) → from (another comma) here ≡ refused q p → from (variables most x) start ≡ refused q p
      unfolding plus ◌>>=◌ onwards
      counting_refused q p a = next ∙ rw a

      -- no comma
      pub counting_stop : (b : Bool) → b ≡ false → (end : Cursor) → Reads (another comma) here b end → Reads (variables most x) start count end
      unfolding plus give ◌>>=◌ onwards
      counting_stop b e end a = record {
        moved = further _ _ _ c.moved a.moved;
        reads = next ∙ rw (a.reads, e) (ap (λ (n : ℕ). got n end) (sym c.is));
      }

      module _ (b : Bool) (yes : b ≡ true) (mid : Cursor) (a : Reads (another comma) here b mid) (y : ℕ) (is : y ≡ x + count) where
        one_more : from (variables most x) start ≡ plus (c.k + 1) (from (variables m y) mid)
        unfolding ◌>>=◌ onwards
        one_more =
            next
            ∙ rw (a.reads, yes) (plus_suc c.k (from (variables m (suc (x + c.k))) mid))
            ∙ ap (λ (z : ℕ). plus (c.k + 1) (from (variables m z) mid)) (let e : suc (x + c.k) ≡ y = omega (arith, c.is, is) in e)

        pub counting_more : (end : Cursor) → Reads (declaration y) mid tt end → Counting most x start end (count + 1)
        counting_more end r = record {
          k = c.k + 1;
          is = omega (arith, c.is);
          goes =
              one_more
              ∙ ap (plus (c.k + 1)) (first m y mid end r.reads)
              ∙ ap (λ (z : ℕ). plus (c.k + 1) (from (others m z) end)) (let e : y ≡ x + (c.k + 1) = omega (arith, c.is, is) in e);
          moved = further _ _ _ c.moved (further _ _ _ a.moved r.moved);
        }

        pub counting_stuck : (q : Refusal) (p : ℕ) → from (declaration y) mid ≡ refused q p → from (variables most x) start ≡ refused q p
        unfolding plus
        counting_stuck q p r = one_more ∙ ap (plus (c.k + 1)) (counting_none m y mid q p r)
