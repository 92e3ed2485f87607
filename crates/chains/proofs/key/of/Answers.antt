-- `chains::key::of` meets its contract: each arm calls the function of its kind.
use Prim.Native.Nat.{ℕ, ◌+◌, ◌*◌}
use mathlib.Core.Path.{◌≡◌, sym, ap, ◌∙◌}
use Rattle.model.specs.Words.{Words}
use Rattle.chains.specs.Key.{row_key, atom_key, key_by}
use Rattle.chains.specs.declared.key.Kind.{Kind}
use Rattle.chains.specs.declared.key.Kind.TheVariants.{Atom}
use Rattle.chains.proofs.key.of.Goals as goal

-- the key of a row by a kind that is known
by_kind : {kind other : Kind} (log : Words) (r k : ℕ) → kind ≡ other → k ≡ key_by other log r → k ≡ key_by kind log r
by_kind log r k e h = h ∙ ap (λ (o : Kind). key_by o log r) (sym e)

pub returns-in-Atom : goal.returns-in-Atom
unfolding row_key
returns-in-Atom c =
    let a = c.args in
    by_kind {other = Atom} a.row.log.now a.row.number _ c.in-Atom.is
    (c.of_atom.ensures ∙ ap (λ (p : ℕ). atom_key p a.row.log.now (8 * a.row.number + 2)) c.value.ensures)
