-- A child of a join is lent the words behind those of the parts: what the state says stays, since the parts are before them,
-- and the child's answer is one that can be added.
use Prim.Native.Nat.{ℕ, ◌-◌, ◌≤◌, ◌<◌}
use native.Mathlib.Omega.{arith}
use mathlib.Core.Path.{◌≡◌, refl, sym, ap, ◌∙◌, subst}
use mathlib.Core.Bool.{Bool}
use mathlib.Core.List.{◌++◌, append-nil}
use lib.ListN.{length, take, drop, length-append, length-drop}
use lib.Seq.{take_at, drop_at, length-take-le, drop-length}
use Rattle.model.specs.Words.{Words}
use Rattle.model.specs.Tree.{Tree, Trees}
use Rattle.joining.specs.declared.answer.Reduced.{Reduced}
use Rattle.joining.specs.declared.join.Join.{Join}
use Rattle.joining.specs.declared.join.State.{State}
use Rattle.joining.specs.declared.join.State.TheVariants.{Open, Long, Decided, Short}
use Rattle.joining.specs.Answer.{told, Answers}
use Rattle.joining.specs.Join.{Tells, Joining, Wide, Adding}

-- the words of a buffer from an index on, as they are lent, and the buffer with others in their place
abbrev pub rest : (out : Words) (w : ℕ) → Words
rest out w = take (length out - w) (drop w out)

pub rest-long : (out : Words) (w : ℕ) → length (rest out w) ≡ length out - w
rest-long out w = length-take-le (length out - w) (drop w out) (omega (arith, length-drop w out))

abbrev pub lent : (out : Words) (w : ℕ) (part : Words) → Words
lent out w part = take w out ++ (part ++ drop (length out - w) (drop w out))

module _ (out : Words) (w : ℕ) (part : Words) (within : w ≤ length out) (long : length part ≡ length (rest out w)) where
  -- nothing is left behind them
  lent_is : lent out w part ≡ take w out ++ part
  lent_is =
      let n : length out - w ≡ length (drop w out) = sym (length-drop w out) in
      ap (λ (l : Words). take w out ++ (part ++ l)) (ap (λ (k : ℕ). drop k (drop w out)) n ∙ drop-length (drop w out))
      ∙ ap (λ (l : Words). take w out ++ l) (append-nil part)

  pub lent_long : length (lent out w part) ≡ length out
  lent_long =
      ap length lent_is
      ∙ length-append (take w out) part
      ∙ omega (arith, length-take-le w out within, long, rest-long out w)

  pub lent_front : take w (lent out w part) ≡ take w out
  lent_front = ap (take w) lent_is ∙ take_at (take w out) part w (length-take-le w out within)

  pub lent_part : drop w (lent out w part) ≡ part
  lent_part = ap (drop w) lent_is ∙ drop_at (take w out) part w (length-take-le w out within)

-- the state goes on, where the words of the parts and the length stay
pub joining_on :
    {b : Bool} {ts : Trees} {need places : ℕ} {out : Words} {j : Join} (after : Words) →
    length after ≡ length out →
    take j.words after ≡ take j.words out →
    Joining b ts need places out j →
    Joining b ts need places after j
joining_on {b} {ts} {need} {places} {out} {j} after l f s =
    record {
      wide = s.wide;
      kind = s.kind;
      within = omega (arith, l, s.within);
      tells = go j.state s.tells;
    }
  where
    go : (state : State) → Tells b ts need places out j state → Tells b ts need places after j state
    go Open w = (w.0, w.1, record { size = w.2.size; number = w.2.number; front = f ∙ w.2.front })
    go Long w = (w.0, w.1, record { more = omega (arith, l, w.2.more); present = w.2.present })
    go Decided w = w
    go Short w = w

-- the places ran out exactly if the state says so
module _ {b : Bool} {ts : Trees} {need places : ℕ} {out : Words} {j : Join} (s : Joining b ts need places out j) where
  pub short-few : j.state ≡ Short → places < need
  short-few e = subst (Tells b ts need places out j) e s.tells

  pub few-short : places < need → j.state ≡ Short
  few-short h = go j.state s.tells
    where
      go : (state : State) → Tells b ts need places out j state → state ≡ Short
      go Open w = let few = w.0 in absurd (omega arith)
      go Long w = let few = w.0 in absurd (omega arith)
      go Decided w = let few = w.0 in absurd (omega arith)
      go Short w = refl

-- the child's answer, to be added
abbrev pub adding :
    {b : Bool} {ts : Trees} {need places n : ℕ} {out : Words} {j : Join} {t : Tree} {part : Words} {answer : Reduced}
    (s : Joining b ts need places out j) (a : Answers places n t (rest out j.words) part answer) (w : Wide t) →
    Adding (lent out j.words part) j answer
adding {b} {ts} {need} {places} {n} {out} {j} {t} {part} {answer} s a w =
    record {
      b = b;
      ts = ts;
      need = need;
      places = places;
      state =
          joining_on (lent out j.words part) (lent_long out j.words part s.within a.long)
          (lent_front out j.words part s.within a.long)
          s;
      t = t;
      n = n;
      is =
          a.is
          ∙ ap (λ (room : ℕ). told places n room t)
          (rest-long out j.words
          ∙ ap (λ (i : ℕ). i - j.words) (sym (lent_long out j.words part s.within a.long)));
      words = λ k e. ap (take k) (lent_part out j.words part s.within a.long) ∙ a.words k e;
      wide = w;
    }

-- an answer says the same of a walk that was lent other words of that length
pub answers-from :
    {places need : ℕ} {t : Tree} {before between after : Words} {r : Reduced} →
    length between ≡ length before →
    Answers places need t between after r →
    Answers places need t before after r
answers-from {places} {need} {t} e a =
    record { is = a.is ∙ ap (λ (room : ℕ). told places need room t) e; long = a.long ∙ e; words = a.words }
