-- `chains::key::of_atom` meets its contract: each product has less than 61 bits, and the sum of seven fits.
use Prim.Native.Nat.{ℕ, ◌+◌}
use native.Mathlib.Nat.{add-zero}
use mathlib.Core.Path.{sym, ap, ◌∙◌}
use Rattle.model.specs.Words.{word}
use Rattle.words.specs.Offset.{from_least}
use Rattle.chains.specs.Key.{atom_key}
use Rattle.chains.proofs.Keys.{spread_of}
use Rattle.chains.proofs.key.of_atom.Goals as goal

pub returns : goal.returns
unfolding atom_key
returns c =
    let a = c.args in
    let ws = a.words.now in
    let at = a.at in
    spread_of a.predicate _ _ _ _ _ _ (λ i. from_least (word ws (at + i)))
    (c.offset.ensures ∙ ap (λ (i : ℕ). from_least (word ws i)) (sym (add-zero at)))
    c.offset-2.ensures c.offset-3.ensures c.offset-4.ensures
    c.offset-5.ensures c.offset-6.ensures
