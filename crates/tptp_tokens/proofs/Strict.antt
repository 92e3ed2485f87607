-- What tokens stand for takes at least a byte of the text.
use Prim.Native.Nat.{ℕ, suc, ◌≤◌, ◌<◌}
use native.Mathlib.Omega.{arith}
use mathlib.Core.Path.{◌≡◌, ap, subst}
use mathlib.Core.Bool.{Bool, false, cond}
use mathlib.Core.List.{List, [], ◌∷◌, ◌++◌}
use lib.ListN.{length, length-append}
use lib.Dec.{eqb}
use lib.IntN.{ℤ}
use borrow.Author.Tests.{ne_eqb}
use Rattle.model.specs.Bytes.{Text, bytes}
use Rattle.model.specs.Lists.{gather}
use Rattle.model.specs.Tptp.{Tokens, variable_token, parenthesized, separated, unequals, excludes, Stand}

-- the rest behind tokens is not longer, and shorter behind a first token that has a byte
stand_shorter : (ts : Tokens) (text rest : Text) → Stand ts text rest → length rest ≤ length text
unfolding Stand
stand_shorter [] text rest s = omega (arith, ap length s)
stand_shorter (t ∷ ts) text rest (gap, behind, blank, e, s) =
    let l = stand_shorter ts behind rest s in
    omega (arith, ap length e, length-append (gap ++ t) behind, length-append gap t)

pub stand_strict : (t : Text) (ts : Tokens) (text rest : Text) → 1 ≤ length t → Stand (t ∷ ts) text rest → length rest < length text
unfolding Stand
stand_strict t ts text rest h (gap, behind, blank, e, s) =
    let l = stand_shorter ts behind rest s in
    omega (arith, ap length e, length-append (gap ++ t) behind, length-append gap t)

abbrev tokens_of : ℕ → List ℤ → Tokens
tokens_of x ks = separated (bytes "|") (unequals x ks)

-- an excluded tuple begins with a variable or a parenthesis
pub excludes_strict : (x : ℕ) (ks : List ℤ) (text rest : Text) → Stand (excludes x ks) text rest → length rest < length text
unfolding excludes unequals separated parenthesized gather variable_token bytes
excludes_strict x [] text rest s = stand_strict _ _ text rest (omega arith) s
excludes_strict x (k ∷ []) text rest s = stand_strict _ _ text rest (omega arith) s
excludes_strict x (k ∷ l ∷ ks) text rest s =
    let many : eqb (length (k ∷ l ∷ ks)) 1 ≡ false = ne_eqb (length (k ∷ l ∷ ks)) 1 (λ (e : suc (suc (length ks)) ≡ 1). omega arith) in
    let two = subst (λ (b : Bool). Stand (cond b (tokens_of x (k ∷ l ∷ ks)) (parenthesized (tokens_of x (k ∷ l ∷ ks)))) text rest) many s in
    stand_strict (bytes "(") _ text rest (omega arith) two
