-- What it says that questions asked in order all pass: each of them passed; what is promised of an answer; loops that ask.
use Rattle.std.specs.Prelude.{ℕ, ◌+◌, ◌-◌, ◌≤◌, ◌<◌, Bool, true, false}
use Rattle.std.proofs.Math.Path.{◌≡◌, refl, ap}
use Rattle.std.proofs.Common.{◌∙◌, arith}
use mathlib.Core.List.{List, [], ◌∷◌, Memᴰ}
use Rattle.model.specs.Lists.{span}
use Rattle.model.specs.Answer.{Answer, number, place, count, AnswersAs, Outcome, refused, passed, ask, answer, ◌>>=◌, in_turn, refused_at}
use Rattle.model.specs.declared.Refusal.{Refusal}
use Rattle.std.specs.Prelude.{Result, Ok, Err}
use Rattle.std.specs.Result.{IsErrAnd}
use Rattle.std.proofs.lemmas.Result.{err_from_is_err_and}
use Rattle.std.proofs.Common.{ap₂}
use Rattle.model.specs.declared.Refused.{Refused}
use Rattle.laws.specs.Lists.Span.{span-step, span_end}

-- an answer that is the fixed one has its number, place and count
pub answers : {fixed r : Answer} → r ≡ fixed → AnswersAs fixed r
answers e = record { same = e; numbered = ap number e; placed = ap place e; counted = ap count e }

-- a question that passed was answered with yes
pub ask-passed : (b : Bool) (r : Refusal) (p : ℕ) {u : Unit {0}} → ask b r p ≡ passed u → b ≡ true
unfolding ask
ask-passed true r p e = refl
ask-passed false r p e = cc

pub ask-true : {b : Bool} (r : Refusal) (p : ℕ) → b ≡ true → ask b r p ≡ passed tt
unfolding ask
ask-true r p e = rw e

-- what was refused did not pass
pub refused-passed {ℓ} : {X : Type ℓ} {A : Type 0} {r : Refusal} {p : ℕ} {a : A} → refused r p ≡ passed a → X
refused-passed {X} {A} {r} {p} {a} e = absurd (let z : ◌≡◌ {A = ℕ} 0 1 = cc in omega arith)

-- what passed, passed with one value
pub passed-same : {A : Type 0} {x y : A} → passed x ≡ passed y → x ≡ y
passed-same e = cc

module _ {A : Type 0} where
  -- what is only handed on
  pub then_same : (o : Outcome A) → o ≡ (o >>= λ a. passed a)
  unfolding ◌>>=◌
  then_same (refused r p) = refl
  then_same (passed a) = refl

  -- an accepted answer is of questions that passed, a refused one of questions that were refused
  pub answer-accepted : (size : A → ℕ) (o : Outcome A) (n : ℕ) → answer size o ≡ Ok n → (a : A) × (o ≡ passed a) × (size a ≡ n)
  unfolding answer
  answer-accepted size (refused r p) n e = absurd (let z : ◌≡◌ {A = ℕ} 0 1 = cc in omega arith)
  answer-accepted size (passed a) n e = (a, refl, cc)

  pub answer-refused : (size : A → ℕ) (o : Outcome A) (r : Refusal) (p : ℕ) → answer size o ≡ Err (refused_at r p) → o ≡ refused r p
  unfolding answer
  answer-refused size (refused r' p') r p e =
      let same : refused_at r' p' ≡ refused_at r p = cc in ap₂ refused (ap (λ (q : Refused). q.0) same) (ap (λ (q : Refused). q.1) same)
  answer-refused size (passed a) r p e = cc

module _ {A B : Type 0} where
  -- both the first questions and the next ones passed
  pub then_passed :
      (o : Outcome A) (next : A → Outcome B) {b : B} →
      (o >>= next) ≡ passed b →
      (a : A) × (o ≡ passed a) × (next a ≡ passed b)
  unfolding ◌>>=◌
  then_passed (refused r p) next e = refused-passed e
  then_passed (passed a) next e = (a, refl, e)

  -- the same, handed on to what follows from it
  pub both-passed {ℓ} :
      {X : Type ℓ} (o : Outcome A) (next : A → Outcome B) {b : B} →
      (o >>= next) ≡ passed b →
      ((a : A) → o ≡ passed a → next a ≡ passed b → X) →
      X
  both-passed o next e k = let r = then_passed o next e in k r.0 r.1 r.2

  -- and the other way round
  pub pass_then : {o : Outcome A} (next : A → Outcome B) {a : A} {r : Outcome B} → o ≡ passed a → next a ≡ r → (o >>= next) ≡ r
  unfolding ◌>>=◌
  pass_then next e f = rw e f

  -- the same questions, and behind them the same ones
  pub then_both : (o : Outcome A) {f g : A → Outcome B} → ((a : A) → f a ≡ g a) → (o >>= f) ≡ (o >>= g)
  unfolding ◌>>=◌
  then_both (refused r p) h = refl
  then_both (passed a) h = h a

module _ {A B C : Type 0} where
  -- questions one behind another, however they are grouped
  pub then_assoc : (o : Outcome A) (f : A → Outcome B) (g : B → Outcome C) → (o >>= f >>= g) ≡ (o >>= λ a. f a >>= g)
  unfolding ◌>>=◌
  then_assoc (refused r p) f g = refl
  then_assoc (passed a) f g = refl

module _ {A : Type 0} where
  -- questions asked at each element in turn pass at every element
  pub in_turn_mem :
      (questions : A → Outcome (Unit {0})) {x : A} {l : List A} →
      in_turn questions l ≡ passed tt →
      Memᴰ x l →
      questions x ≡ passed tt
  unfolding in_turn
  in_turn_mem questions e (Memᴰ.head {x = y} p) = rw p (then_passed (questions y) _ e).1
  in_turn_mem questions e (Memᴰ.tail {x = y} m) = in_turn_mem questions (then_passed (questions y) _ e).2 m

  pub in_turn_intro :
      (questions : A → Outcome (Unit {0})) (l : List A) →
      ((x : A) → Memᴰ x l → questions x ≡ passed tt) →
      in_turn questions l ≡ passed tt
  unfolding in_turn
  in_turn_intro questions [] h = refl
  in_turn_intro questions (x ∷ l) h =
      pass_then (λ _. in_turn questions l) (h x (Memᴰ.head refl)) (in_turn_intro questions l (λ y m. h y (Memᴰ.tail m)))

-- questions asked at the numbers from p to n in turn: one step, and the end
module _ (questions : ℕ → Outcome (Unit {0})) (p n : ℕ) where
  pub turn_step : p < n → questions p ≡ passed tt → in_turn questions (span p (n - p)) ≡ in_turn questions (span (p + 1) (n - (p + 1)))
  unfolding in_turn ◌>>=◌
  turn_step h e = ap (in_turn questions) (span-step p n h) ∙ rw e

  pub turn_stop : {r : Refusal} {x : ℕ} → p < n → questions p ≡ refused r x → in_turn questions (span p (n - p)) ≡ refused r x
  unfolding in_turn ◌>>=◌
  turn_stop h e = ap (in_turn questions) (span-step p n h) ∙ rw e

  pub turn_end : n ≤ p → in_turn questions (span p (n - p)) ≡ passed tt
  unfolding in_turn
  turn_end h = ap (in_turn questions) (span_end p n h)

-- what `?` returns of a result that is an error: that error
pub passed_on : {T E : Type 0} (r : Result T E) {e : E} → IsErrAnd r (λ y. y ≡ e) → r ≡ Err e
passed_on r h = let p = err_from_is_err_and r h in p.1 ∙ ap (λ y. Err y) p.2
