-- The keys of rows: a row that holds an atom has the atom's key; keys of each kind; and links that can be filled.
use Prim.Native.Nat.{ℕ, ◌+◌, ◌*◌, ◌/◌, ◌%◌, ◌^◌, ◌≤◌, ◌<◌}
use native.Mathlib.Omega.{arith}
use mathlib.Core.Path.{◌≡◌, refl, sym, ap, ◌∙◌}
use mathlib.Core.Logic.{⊎_elim}
use mathlib.Core.Bool.{Bool, true, false, cond, ◌&&◌}
use mathlib.Core.List.{List}
use lib.ListN.{length, get_or, take, drop, replicate, length-replicate, get_or-replicate}
use lib.Seq.{take_all}
use lib.Dec.{eqb}
use lib.IntN.{ℤ, pos, nat_abs}
use borrow.Author.Tests.{ne_eqb}
use Rattle.model.specs.Words.{Words, word, value, equal, at_least, below}
use Rattle.model.specs.Log.{row_count, row_at, arguments, says_true, holds}
use Rattle.words.specs.Offset.{from_least}
use Rattle.laws.specs.Words.Tests.{decide, clash, equal-true}
use Rattle.laws.specs.Words.Standing.{below-value, below-pos}
use Rattle.laws.specs.Log.{holds-value, holds-arguments}
use Rattle.chains.specs.Chain.{Empty}
use Rattle.chains.specs.declared.key.Kind.{Kind}
use Rattle.chains.specs.declared.key.Kind.TheVariants.{Atom, Predicate, First}
use Rattle.chains.specs.Key.{spread, atom_key, row_key, true_key, first_spread, first_key, key_by, heads}
use Rattle.chains.proofs.Rows.{row_first, row-six, row_word, row-part, argument_word, own_row}

-- equal numbers are spread to the same key, which is below 16,384
pub spread_same : (p : ℕ) (a b : ℕ → ℕ) → ((i : ℕ) → i < 6 → a i ≡ b i) → spread p a ≡ spread p b
unfolding spread
spread_same p a b h =
    rw (h 0 (omega arith), h 1 (omega arith), h 2 (omega arith), h 3 (omega arith), h 4 (omega arith), h 5 (omega arith)) refl

pub key-small : (p : ℕ) (ws : Words) (at : ℕ) → atom_key p ws at < 16384
unfolding atom_key spread
key-small p ws at = omega arith

pub row_small : (log : Words) (r : ℕ) → row_key log r < 16384
unfolding row_key
row_small log r = key-small (value log (8 * r)) log (8 * r + 2)

-- a row that holds an atom has its key
pub same_key :
    (log : Words) (p : ℕ) (ns : List ℤ) (r : ℕ) →
    8 * r + 8 ≤ length log →
    length ns ≡ 6 →
    holds p ns (row_at log r) ≡ true →
    row_key log r ≡ atom_key p ns 0
unfolding row_key atom_key value word
same_key log p ns r within six h =
    let whole : arguments (row_at log r) ≡ ns =
    sym (take_all (length ns) (arguments (row_at log r)) (omega (arith, row-six log r within))) ∙ holds-arguments p ns (row_at log r) h in
    ap (λ (q : ℕ). spread q (λ i. from_least (word log (8 * r + 2 + i)))) (ap nat_abs (sym (row_first log r)) ∙ holds-value p ns (row_at log r) h)
    ∙ spread_same p _ _ λ i k. ap from_least (sym (argument_word log r i k) ∙ argument whole i)
  where
    argument : arguments (row_at log r) ≡ ns → (i : ℕ) → get_or (arguments (row_at log r)) i (pos 0) ≡ word ns (0 + i)
    argument e i = let z : 0 + i ≡ i = omega arith in rw z (ap (λ (l : List ℤ). get_or l i (pos 0)) e)

-- a row's own atom, as it stands in the log
pub own_key :
    (log : Words) (r : ℕ) → r < row_count log → at_least 0 (word log (8 * r)) ≡ true →
    row_key log r ≡ atom_key (value log (8 * r)) (take 6 (drop (8 * r + 2) log)) 0
unfolding row_count
own_key log r inside number =
    same_key log (value log (8 * r)) (arguments (row_at log r)) r (omega arith) (row-six log r (omega arith)) (own_row log r inside number)
    ∙ ap (λ (l : List ℤ). atom_key (value log (8 * r)) l 0) (sym (row-part log r))

-- the key of a row by its predicate, test by test
module _ (log : Words) (r : ℕ) where
  pub says : says_true (row_at log r) ≡ equal (word log (8 * r + 1)) (pos 1)
  unfolding says_true
  says = ap (λ (z : ℤ). equal z (pos 1)) (row_word log r 1 (omega arith))

  pub true-not : equal (word log (8 * r + 1)) (pos 1) ≡ false → 256 ≡ true_key log r
  unfolding true_key
  true-not e = rw (says ∙ e)

  pub true-none : below 256 (word log (8 * r)) ≡ false → 256 ≡ true_key log r
  unfolding true_key
  true-none e = rw e (none (says_true (row_at log r)))
    where
      none : (b : Bool) → 256 ≡ cond (b && false) (value log (8 * r)) 256
      none true = refl
      none false = refl

  pub true-here :
      equal (word log (8 * r + 1)) (pos 1) ≡ true →
      below 256 (word log (8 * r)) ≡ true →
      value log (8 * r) ≡ true_key log r
  unfolding true_key
  true-here e f = rw (says ∙ e, f)

  pub true-small : true_key log r < 257
  unfolding true_key value
  true-small = go (says_true (row_at log r)) (below 256 (word log (8 * r))) refl
    where
      go : (a b : Bool) → below 256 (word log (8 * r)) ≡ b → cond (a && b) (value log (8 * r)) 256 < 257
      go true true e = let k = below-value 256 (word log (8 * r)) e in omega (arith, k.1)
      go true false e = omega arith
      go false b e = omega arith

-- the rows whose key is a predicate are its true rows
pub true-key : (log : Words) (p r : ℕ) → p < 256 → eqb (true_key log r) p ≡ (says_true (row_at log r) && equal (word (row_at log r) 0) (pos p))
unfolding true_key value equal
true-key log p r few =
    go (says_true (row_at log r)) (word log (8 * r)) (below 256 (word log (8 * r))) refl
    ∙ ap (λ (z : ℤ). says_true (row_at log r) && equal z (pos p)) (sym (row_first log r))
  where
    other : eqb 256 p ≡ false
    other = ne_eqb 256 p (λ e. omega arith)

    go : (a : Bool) (z : ℤ) (b : Bool) → below 256 z ≡ b → eqb (cond (a && b) (nat_abs z) 256) p ≡ (a && equal z (pos p))
    go false z b e = other
    go true z true e = ap (λ (y : ℤ). equal y (pos p)) (sym (below-value 256 z e).0)
    go true z false e =
        ⊎_elim
        (λ q. clash (ap (below 256) (equal-true z (pos p) q) ∙ below-pos 256 p few) e)
        (λ q. other ∙ sym q)
        (decide (equal z (pos p)))

-- the key of a row by its predicate and first argument
pub spread-small : (p : ℕ) (z : ℤ) → first_spread p z < 4096
unfolding first_spread
spread-small p z = omega arith

module _ (log : Words) (r : ℕ) where
  pub first-not : equal (word log (8 * r + 1)) (pos 1) ≡ false → 4096 ≡ first_key log r
  unfolding first_key
  first-not e = rw (says log r ∙ e)

  pub first-here :
      equal (word log (8 * r + 1)) (pos 1) ≡ true →
      first_spread (value log (8 * r)) (word log (8 * r + 2)) ≡ first_key log r
  unfolding first_key
  first-here e = rw (says log r ∙ e)

  pub first_small : first_key log r < 4097
  unfolding first_key
  first_small = go (says_true (row_at log r))
    where
      go : (b : Bool) → cond b (first_spread (value log (8 * r)) (word log (8 * r + 2))) 4096 < 4097
      go true = omega (arith, spread-small (value log (8 * r)) (word log (8 * r + 2)))
      go false = omega arith

-- a key of each kind is one of its keys
pub key_in : (kind : Kind) (log : Words) (r : ℕ) → key_by kind log r < heads kind
key_in Atom log r = row_small log r
key_in Predicate log r = true-small log r
key_in First log r = first_small log r

pub heads-few : (kind : Kind) → heads kind ≤ 16384
heads-few Atom = omega arith
heads-few Predicate = omega arith
heads-few First = omega arith

-- zeros can be filled
pub zeros-empty : (n rows : ℕ) (links : List ℕ) (total : ℕ) → links ≡ replicate {A = ℕ} total 0 → n + rows ≤ total → Empty n rows links
zeros-empty n rows links total e fits = record {
  within = omega (arith, ap length e ∙ length-replicate {A = ℕ} total 0);
  none = λ k h. ap (λ (l : List ℕ). get_or l k 0) e ∙ get_or-replicate total k 0 0 (omega arith);
}

-- the numbers spread, one by one
pub spread_of :
    (p a b c d e f : ℕ) (v : ℕ → ℕ) →
    a ≡ v 0 → b ≡ v 1 → c ≡ v 2 → d ≡ v 3 → e ≡ v 4 → f ≡ v 5 →
    (p % 256 * 331804471
    + a % 2 ^ 32 * 442291847
    + b % 2 ^ 32 * 349421991
    + c % 2 ^ 32 * 480404705
    + d % 2 ^ 32 * 294359035
    + e % 2 ^ 32 * 307324391
    + f % 2 ^ 32 * 318971139)
    / 2 ^ 15
    % 16384
    ≡ spread p v
unfolding spread
spread_of p a b c d e f v h0 h1 h2 h3 h4 h5 = rw (h0, h1, h2, h3, h4, h5)

pub first_of : (p x : ℕ) (z : ℤ) → x ≡ from_least z → (p % 256 * 331804471 + x % 4294967296 * 442291847) / 32768 % 4096 ≡ first_spread p z
unfolding first_spread
first_of p x z e = rw e refl
