-- The keys by which the rows of a log are chained.
use Rattle.std.specs.Prelude.{ℕ, ◌+◌, ◌*◌, ◌/◌, ◌%◌, ◌^◌, ◌≤◌, ◌<◌, ◌≡◌, cond, ◌&&◌, List, length, get_or, ℤ}
use Rattle.model.specs.Words.{Words, word, value, below, predicate_limit}
use Rattle.model.specs.Log.{row_count, row_at, says_true}
use Rattle.words.specs.Offset.{from_least}
use Rattle.chains.specs.declared.key.Kind.{Kind}
use Rattle.chains.specs.declared.key.Kind.TheVariants.{Atom, Predicate, First}

-- so many keys of atoms; one more key than there are predicates
abbrev pub atom_keys : ℕ
atom_keys = 16384

abbrev pub predicate_keys : ℕ
predicate_keys = predicate_limit + 1

-- a predicate and six numbers, spread over the keys of atoms
unfoldable pub spread : ℕ → (ℕ → ℕ) → ℕ
spread p a =
    (p % 256 * 331804471
    + a 0 % 2 ^ 32 * 442291847
    + a 1 % 2 ^ 32 * 349421991
    + a 2 % 2 ^ 32 * 480404705
    + a 3 % 2 ^ 32 * 294359035
    + a 4 % 2 ^ 32 * 307324391
    + a 5 % 2 ^ 32 * 318971139)
    / 2 ^ 15
    % atom_keys

-- the key of an atom whose six arguments, the unused ones 0, stand at an index of some words; of the atom of a row
unfoldable pub atom_key : ℕ → Words → ℕ → ℕ
atom_key p ws at = spread p (λ i. from_least (word ws (at + i)))

unfoldable pub row_key : Words → ℕ → ℕ
row_key log r = atom_key (value log (8 * r)) log (8 * r + 2)

-- the predicate of a row that says true; all other rows share the last key, which is no predicate's
unfoldable pub true_key : Words → ℕ → ℕ
true_key log r =
    cond (says_true (row_at log r) && below predicate_limit (word log (8 * r))) (value log (8 * r)) predicate_limit

-- a predicate and a number as its first argument, spread over 4,096 keys
unfoldable pub first_spread : ℕ → ℤ → ℕ
first_spread p z = (p % 256 * 331804471 + from_least z % 2 ^ 32 * 442291847) / 2 ^ 15 % 4096

-- the key of a row that says true, by its predicate and its first argument; all other rows share the last key
abbrev pub first_keys : ℕ
first_keys = 4097

unfoldable pub first_key : Words → ℕ → ℕ
first_key log r = cond (says_true (row_at log r)) (first_spread (value log (8 * r)) (word log (8 * r + 2))) 4096

-- the key of a row, of each kind, and how many keys of it there are
abbrev pub key_by : (kind : Kind) (words : Words) (n : ℕ) → ℕ
key_by Atom = row_key
key_by Predicate = true_key
key_by First = first_key

abbrev pub heads : (kind : Kind) → ℕ
heads Atom = atom_keys
heads Predicate = predicate_keys
heads First = first_keys

-- the keys of the rows of a log, by a key function, one behind another
pub record Keys (key : Words → ℕ → ℕ) (log : Words) (keys : List ℕ) : Type 0 where
  pub long : row_count log ≤ length keys
  pub keyed : (r : ℕ) → r < row_count log → get_or keys r 0 ≡ key log r
