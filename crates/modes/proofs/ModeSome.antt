-- The mode rule at a "some": what comes of its child, and what of the node.
use Prim.Native.Nat.{ℕ, ◌+◌}
use mathlib.Core.Path.{◌≡◌, refl, sym, ap, ◌∙◌, fun_ext}
use mathlib.Core.Bool.{true, false, not, ◌&&◌}
use lib.Dec.{eqb}
use Rattle.model.specs.declared.Refusal.{Refusal}
use Rattle.model.specs.declared.Refusal.TheVariants.{Mode}
use Rattle.model.specs.Words.{Words}
use Rattle.model.specs.Answer.{passed, refused, ask, ◌>>=◌, refused_at}
use Rattle.model.specs.Tree.{Tree, some}
use Rattle.model.specs.Level.{restriction}
use Rattle.model.specs.Mode.{Variables, bindings}
use Rattle.laws.specs.Reading.Nodes.{Node}
use Rattle.std.specs.Prelude.{Result, Ok, Err}
use Rattle.model.specs.declared.Refused.{Refused}
use Rattle.modes.specs.declared.marks.Marks.{Marks}
use Rattle.modes.specs.declared.mode.Bound.{Bound}
use Rattle.modes.specs.Mode.{set_of, told, Binds}
use Rattle.modes.proofs.ModeLoops.{standing, Child}

module _ (table words : Words) (above scope at : ℕ) (v : Variables) (r : Result Bound Refused) (child : Child table words (above + 1) (scope + 1) (at + 1) v r) where
  abbrev Comes : Result Bound Refused → Type 0
  Comes z = (c : Tree) (next : ℕ) → Node table words restriction (above + 1) (scope + 1) (at + 1) c next → Binds (some c) table v scope at next z

  -- the child was refused
  pub some-stop : {q : Refusal} {p : ℕ} → r ≡ Err (refused_at q p) → Comes (Err (refused_at q p))
  unfolding bindings ◌>>=◌
  some-stop {q} {p} e c next node =
      let came = child c next node in
      let out : bindings c table v (scope + 1) (at + 1) ≡ refused q p = sym came.outcome ∙ ap told e in
      record {
        outcome = sym (rw out refl);
        stands = tt;
      }

  -- the child passed and did not bind the variable
  pub some_unbound : {m : Bound} → r ≡ Ok m → set_of m.set scope ≡ false → Comes (Err (refused_at Mode at))
  unfolding bindings ◌>>=◌ ask
  some_unbound {m} e free c next node =
      let came = child c next node in
      let out : bindings c table v (scope + 1) (at + 1) ≡ passed (set_of m.set) = sym came.outcome ∙ ap told e in
      record {
        outcome = sym (rw out (rw free refl));
        stands = tt;
      }

  -- the child passed and bound it: z is its set without the variable
  pub some-bound :
      {m : Bound} → r ≡ Ok m → set_of m.set scope ≡ true →
      {z : Marks} → ((x : ℕ) → set_of z x ≡ (set_of m.set x && not (eqb x scope))) →
      Comes (Ok (record { set = z; next = m.next }))
  unfolding bindings ◌>>=◌ ask
  some-bound {m} e is {z} dropped c next node =
      let came = child c next node in
      let out : bindings c table v (scope + 1) (at + 1) ≡ passed (set_of m.set) = sym came.outcome ∙ ap told e in
      record {
        outcome = sym (rw out (rw is (ap passed (fun_ext (λ x. sym (dropped x))))));
        stands = standing came e;
      }
