-- Laws for what is known behind a part that was read: questions behind others, and words laid one behind another.
use Prim.Native.Nat.{ℕ, ◌+◌, ◌≤◌, ◌<◌}
use native.Mathlib.Numerals.{add-one}
use native.Mathlib.Omega.{arith}
use mathlib.Core.Path.{◌≡◌, refl, sym, ap, subst, fun_ext, ◌∙◌}
use mathlib.Core.Bool.{Bool, true, false, not, ◌&&◌}
use lib.ListN.{length, take, set, get_or}
use lib.Seq.{sets, take-suc, length-take-le}
use lib.Dec.{eqb}
use lib.IntN.{pos}
use Rattle.model.specs.Words.{Words, word}
use Rattle.model.specs.Lists.{span, all}
use Rattle.model.specs.Answer.{Outcome, passed, refused, ask, question, in_order, refusal_of, ◌>>=◌}
use Rattle.model.specs.Level.{restriction}
use Rattle.model.specs.Mode.{Variables, bindings}
use Rattle.model.specs.Tree.{Tree}
use Rattle.model.specs.declared.Refusal.{Refusal}
use Rattle.model.specs.declared.Refusal.TheVariants.{Table, PolicyLength, Shape, Level, Predicate, Variable, Mode, LogLength, Row}
use Rattle.model.specs.declared.Refusal.TheVariants.{Repeat, Scratch, Room, Csv, Record, Tptp}
use Rattle.tables.specs.Checked.{outcome}
use Rattle.std.specs.Prelude.{Result, Ok, Err, MatchResult, IsErrAnd}
use Rattle.std.proofs.lemmas.Result.{err_from_is_err_and}
use Rattle.model.specs.declared.Refused.{Refused}
use Rattle.laws.specs.Answer.{refused-passed}
use Rattle.laws.specs.Reading.Nodes.{Node}
use Rattle.modes.specs.Mode.{set_of, Binds}
use Rattle.modes.specs.declared.marks.Marks.{Marks}
use Rattle.modes.specs.declared.mode.Bound.{Bound}
use Rattle.tptp_state.specs.Told.{Passed, told, moved, LeafBound, Dropped, Introduced}
use Rattle.tptp_state.specs.declared.state.State.{State}
use Rattle.tptp_tokens.proofs.LayingLaws.{sets_last}

-- a refusal is that of its number
pub refusal_again : (r : Refusal) → refusal_of (question r) ≡ r
unfolding refusal_of in_order question
refusal_again Table = refl
refusal_again PolicyLength = refl
refusal_again Shape = refl
refusal_again Level = refl
refusal_again Predicate = refl
refusal_again Variable = refl
refusal_again Mode = refl
refusal_again LogLength = refl
refusal_again Row = refl
refusal_again Repeat = refl
refusal_again Scratch = refl
refusal_again Room = refl
refusal_again Csv = refl
refusal_again Record = refl
refusal_again Tptp = refl

-- a refusal at another place
pub refused_there :
    (place : ℕ) (asked r : Result (Unit {0}) Refused) (P : Refused → Refused → Type 0) →
    MatchResult asked (λ x. r ≡ Ok x) (λ e. IsErrAnd r (P e)) →
    ((e d : Refused) → P e d → d ≡ record { 0 = e.0; 1 = place }) →
    outcome r ≡ moved place (outcome asked)
unfolding moved
refused_there place (Ok u) r P h k = ap outcome h
refused_there place (Err e) r P h k = let p = err_from_is_err_and r h in ap outcome (p.1 ∙ ap (λ (d : Refused). Err d) (k e p.0 p.2))

-- one word more is laid
pub laid_more :
    (old out own : Words) (w i : ℕ) → i < length own → out ≡ sets old w (take i own) →
    set out (w + i) (word own i) ≡ sets old w (take (i + 1) own)
unfolding word
laid_more old out own w i h e =
    let long : length (take i own) ≡ i = length-take-le i own (omega arith) in
    ap (λ (o : Words). set o (w + i) (get_or own i (pos 0))) e
    ∙ ap (λ (k : ℕ). set (sets old w (take i own)) (w + k) (get_or own i (pos 0))) (sym long)
    ∙ sets_last (take i own) old w (get_or own i (pos 0))
    ∙ ap (sets old w) (sym (ap (λ (k : ℕ). take k own) (add-one i) ∙ take-suc own i (pos 0) h))

-- the same refusal of another thing
unfoldable carried : Outcome (Unit {0}) → Outcome Variables
carried (refused q p) = refused q p
carried (passed u) = passed (λ x. false)

-- question 7 of a node whose words stand apart
module _ (table own : Words) (above scope : ℕ) (s : State) where
  pub bound-moded : {q : Refused} → s.moded ≡ Err q → LeafBound table own above scope s s
  unfolding ◌>>=◌
  bound-moded e = record {
    words = refl;
    asked = refl;
    modes = λ passes c next node.
        subst
        (λ (m : Result (Unit {0}) Refused). told m s.set ≡ (told m s.set >>= λ bound. moved s.words (bindings c table bound scope 0)))
        (sym e)
        refl;
  }

  pub bound-leaf :
      s.asked ≡ Passed → s.moded ≡ Passed → (b : Bound) →
      ((c : Tree) (next : ℕ) → Node table own restriction above scope 0 c next → Binds c table (set_of s.set) scope 0 next (Ok b)) →
      LeafBound table own above scope s (record { words = s.words; asked = s.asked; moded = s.moded; set = b.set })
  unfolding ◌>>=◌ moved
  bound-leaf passes modes b binds = record {
    words = refl;
    asked = refl;
    modes = λ _ c next node. rw (modes, sym (binds c next node).outcome);
  }

  pub bound_refused :
      s.asked ≡ Passed → s.moded ≡ Passed → (e : Refused) →
      ((c : Tree) (next : ℕ) → Node table own restriction above scope 0 c next → Binds c table (set_of s.set) scope 0 next (Err e)) →
      LeafBound table own above scope s (record { words = s.words; asked = s.asked; moded = Err (record { 0 = e.0; 1 = s.words }); set = s.set })
  unfolding ◌>>=◌ moved
  bound_refused passes modes e binds = record {
    words = refl;
    asked = refl;
    modes = λ _ c next node. rw (modes, sym (binds c next node).outcome);
  }

-- what passed behind others: they passed, and it did
pub asked-passed :
    (a b : Result (Unit {0}) Refused) (k : Unit {0} → Outcome (Unit {0})) → outcome a ≡ (outcome b >>= k) → a ≡ Passed → (b ≡ Passed) × (k tt ≡ passed tt)
unfolding ◌>>=◌
asked-passed a (Ok u) k e p = (refl, sym e ∙ ap outcome p)
asked-passed a (Err q) k e p = refused-passed (sym e ∙ ap outcome p)

-- a question of what is bound, and what is bound behind it
told-ask :
    (m k : Result (Unit {0}) Refused) (marks marks' : Marks) (b : Bool) (q : Refusal) (w : ℕ) (g : Variables → Bool) (f : Variables → Variables) →
    outcome k ≡ (outcome m >>= λ _. ask b q w) →
    b ≡ g (set_of marks) →
    set_of marks' ≡ f (set_of marks) →
    told k marks' ≡ (told m marks >>= λ bound. ask (g bound) q w >>= λ _. passed (f bound))
unfolding ◌>>=◌ ask carried
told-ask (Ok u) (Ok v) marks marks' true q w g f e is same = rw (sym is, sym same)
told-ask (Ok u) (Err r) marks marks' true q w g f e is same = refused-passed e
told-ask (Ok u) (Ok v) marks marks' false q w g f e is same = refused-passed (sym e)
told-ask (Ok u) (Err r) marks marks' false q w g f e is same = rw (sym is) (ap carried e)
told-ask (Err r) (Ok v) marks marks' b q w g f e is same = refused-passed (sym e)
told-ask (Err r) (Err s) marks marks' b q w g f e is same = ap carried e

-- a question of what is bound
told-asked :
    (m k : Result (Unit {0}) Refused) (marks : Marks) (q : Refusal) (w : ℕ) (g : Variables → Bool) →
    outcome k ≡ (outcome m >>= λ _. ask (g (set_of marks)) q w) →
    outcome k ≡ (told m marks >>= λ bound. ask (g bound) q w)
unfolding ◌>>=◌
told-asked (Ok u) k marks q w g e = e
told-asked (Err r) k marks q w g e = e

-- the variable of a "some" is dropped
pub dropped :
    (s : State) (scope x w : ℕ) {b : Bool} (m : Result (Unit {0}) Refused) (set : Marks) →
    outcome m ≡ (outcome s.moded >>= λ _. ask b Mode w) →
    b ≡ set_of s.set x →
    x ≡ scope →
    ((y : ℕ) → set_of set y ≡ (set_of s.set y && not (eqb y scope))) →
    scope < 16 →
    Dropped scope w s (record { words = s.words; asked = s.asked; moded = m; set = set })
dropped s scope x w {b} m set e is same without few = record {
  words = refl;
  asked = refl;
  modes = λ h.
      told-ask s.moded m s.set set b Mode w (λ inner. inner scope) (λ inner y. inner y && not (eqb y scope)) e (is ∙ ap (set_of s.set) same) (fun_ext without);
  beyond = λ l. absurd (omega arith);
}

-- the variables of a quantifier are bound
pub introduces :
    (s : State) (scope v n w : ℕ) (m : Result (Unit {0}) Refused) →
    outcome m ≡ (outcome s.moded >>= λ _. ask (all (set_of s.set) (span scope n)) Mode w) →
    n ≡ v →
    scope + v ≤ 16 →
    Introduced scope v w s (record { words = s.words; asked = s.asked; moded = m; set = s.set })
introduces s scope v n w m e is few = record {
  words = refl;
  asked = refl;
  set = refl;
  modes = λ _.
      told-asked s.moded m s.set Mode w (λ bound. all bound (span scope v))
      (e ∙ ap (λ (k : ℕ). outcome s.moded >>= λ _. ask (all (set_of s.set) (span scope k)) Mode w) is);
  beyond = λ l. absurd (omega arith);
}
