-- Tuples found by key: the key of a tuple, and the table of the tuples seen, whose entries of each key are linked from the last to
-- the first.
use Rattle.std.specs.Prelude.{ℕ, zero, suc, ◌+◌, ◌*◌, ◌-◌, ◌/◌, ◌%◌, ◌^◌, ◌≤◌, ◌<◌, ◌≡◌, Bool, false, cond, ◌&&◌, ◌||◌, List, [], ◌∷◌, length, get_or, take, drop, ltb, leb, ℤ}
use Rattle.model.specs.Words.{Words, equal_all}
use Rattle.words.specs.Offset.{from_least}

-- so many keys, and as many entries at most
abbrev pub key_count : ℕ
key_count = 8192

-- a table is made for so many tuples: more than are compared in pairs as fast, and no more than it has entries
unfoldable pub serves : ℕ → Bool
serves n = ltb 32 n && leb n key_count

-- the key of a tuple: its words added to a sum one by one, and a part of the sum's bits
unfoldable pub added : ℕ → ℤ → ℕ
added sum z = sum % 2 ^ 32 * 1540483477 + from_least z % 2 ^ 32 * 2654435761

unfoldable pub key_from : ℕ → List ℤ → ℕ
key_from sum [] = sum / 2 ^ 19 % key_count
key_from sum (z ∷ zs) = key_from (added sum z) zs

abbrev pub key_of : (τ : List ℤ) → ℕ
key_of τ = key_from 0 τ

-- the tuple of an entry: the excluded ones, from an index of a policy's words on, come first; behind them the instances found, each
-- in its place of scratch, the first at `start`
unfoldable pub entry_at : Words → ℕ → ℕ → ℕ → Words → ℕ → ℕ → List ℤ
entry_at words from m v scratch start e =
    cond (ltb e m) (take v (drop (from + v * e) words)) (take v (drop (start + 17 * (e - m)) scratch))

-- a tuple is one of the first n entries
unfoldable pub among_first : (ℕ → List ℤ) → List ℤ → ℕ → Bool
among_first entry τ zero = false
among_first entry τ (suc n) = equal_all τ (entry n) || among_first entry τ n

-- a link to the last of the first n entries that has a key: one more than its number, or 0 if there is none
pub record Last (entry : ℕ → List ℤ) (k n link : ℕ) : Type 0 where
  pub few : link ≤ n
  pub same : (e : ℕ) → link ≡ e + 1 → key_of (entry e) ≡ k
  pub others : (e : ℕ) → link ≤ e → e < n → key_of (entry e) ≡ k → ⊥

-- n entries linked by key: a key links to its last entry, and an entry to the last one before it with its key
pub record Keyed (entry : ℕ → List ℤ) (n : ℕ) (heads links : List ℕ) : Type 0 where
  pub keys : length heads ≡ key_count
  pub room : length links ≡ key_count
  pub head : (k : ℕ) → k < key_count → Last entry k n (get_or heads k 0)
  pub next : (e : ℕ) → e < n → Last entry (key_of (entry e)) e (get_or links e 0)
