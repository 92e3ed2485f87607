-- The answer of a join from its state: by whether the places ran out, whether a child decides it, whether its parts fit, and
-- by their number.
use Prim.Native.Nat.{ℕ, ◌+◌, ◌-◌, ◌≤◌, ◌<◌}
use native.Mathlib.Omega.{arith}
use mathlib.Core.Path.{◌≡◌, refl, sym, ap, ◌∙◌, subst}
use mathlib.Core.Bool.{Bool, false, not, cond}
use mathlib.Core.List.{◌∷◌}
use lib.ListN.{length, take}
use lib.Seq.{take_at}
use lib.IntN.{pos}
use borrow.Author.Tests.{lt-ltb, le-ltb}
use Rattle.model.specs.Words.{Words}
use Rattle.model.specs.Tree.{Tree, Trees, count, encode, encode_all}
use Rattle.model.specs.Joining as M
use Rattle.words.specs.Laying.{laid}
use Rattle.words.proofs.LayingLaws.{laid-front}
use Rattle.joining.specs.declared.answer.Reduced.{Reduced}
use Rattle.joining.specs.declared.answer.Reduced.TheVariants.{Short, Plain, Long, Part}
use Rattle.joining.specs.declared.join.Join.{Join}
use Rattle.joining.specs.declared.join.State.{State}
use Rattle.joining.specs.declared.join.State.TheVariants as S
use Rattle.joining.specs.Answer.{settled, Answers}
use Rattle.joining.specs.Join.{Stand, Tells, Joining}
use Rattle.joining.proofs.Parts as P
use Rattle.joining.proofs.Telling.{tell_short, tell_settled, settled_plain, settled-long, settled-part}
use Rattle.joining.proofs.Keeping.{few}

-- an answer that is no part says nothing of the words
silent_short : (n : ℕ) → Short ≡ Part n → ⊥
silent_short n e = let z : ◌≡◌ {A = ℕ} 0 1 = cc in omega arith

silent_plain : (b : Bool) (n : ℕ) → Plain b ≡ Part n → ⊥
silent_plain b n e = let z : ◌≡◌ {A = ℕ} 0 1 = cc in omega arith

silent_long : (n : ℕ) → Long ≡ Part n → ⊥
silent_long n e = let z : ◌≡◌ {A = ℕ} 0 1 = cc in omega arith

same-part : (m n : ℕ) → Part m ≡ Part n → m ≡ n
same-part m n e = cc

module _ {b : Bool} {ts : Trees} {need places : ℕ} {out : Words} {j : Join} (s : Joining b ts need places out j) where
  abbrev whole : Tree
  whole = M.joined b ts

  abbrev ps : Trees
  ps = M.parts_all b ts

  abbrev says : State → Type 0
  says = Tells b ts need places out j

  -- an answer, where the places do
  answered :
      (after : Words) (r : Reduced) →
      need ≤ places →
      length after ≡ length out →
      settled (length out) whole ≡ r →
      ((n : ℕ) → r ≡ Part n → take n after ≡ encode whole) →
      Answers places need whole out after r
  answered after r p l e w =
      record { is = sym (tell_settled places need (length out) whole (le-ltb places need p) ∙ e); long = l; words = w }

  pub finish-short : j.state ≡ S.Short → Answers places need whole out out Short
  finish-short h =
      let short : places < need = subst says h s.tells in
      record {
        is = tell_short places need (length out) whole (lt-ltb places need short);
        long = refl;
        words = λ n e. absurd (silent_short n e);
      }

  pub finish-decided : j.state ≡ S.Decided → Answers places need whole out out (Plain (not j.kind))
  finish-decided h =
      let w : says S.Decided = subst says h s.tells in
      answered out _ w.0 refl
      (ap (settled (length out)) (P.joined-decided b ts w.1)
      ∙ settled_plain (length out) (not b)
      ∙ ap (λ (x : Bool). Plain (not x)) (sym s.kind))
      (λ n e. absurd (silent_plain (not j.kind) n e))

  -- no child decides
  module _ (p : need ≤ places) (q : M.decided b ts ≡ false) where
    abbrev made : Tree
    made = M.assemble b ps

    is_made : whole ≡ made
    is_made = P.joined_open b ts q

    -- an answer that the parts give
    made_so :
        (after : Words) (r : Reduced) →
        length after ≡ length out →
        settled (length out) made ≡ r →
        ((n : ℕ) → r ≡ Part n → take n after ≡ encode made) →
        Answers places need whole out after r
    made_so after r l e w =
        answered after r p l (ap (settled (length out)) is_made ∙ e) (λ n f. w n f ∙ ap encode (sym is_made))

    too_long : 1 ≤ count ps → length out < length (encode made) → Answers places need whole out out Long
    too_long h l =
        made_so out Long refl (settled-long (length out) made (P.assemble-solid b ts s.wide h) l) (λ n e. absurd (silent_long n e))

    part-fits :
        (after : Words) (n : ℕ) →
        length after ≡ length out →
        1 ≤ count ps →
        n ≡ length (encode made) →
        n ≤ length out →
        take n after ≡ encode made →
        Answers places need whole out after (Part n)
    part-fits after n l h e k w =
        made_so after (Part n) l
        (settled-part (length out) made (P.assemble-solid b ts s.wide h) (omega (arith, e, k)) ∙ ap Part (sym e))
        (λ m f. ap (λ (i : ℕ). take i after) (sym (same-part n m f)) ∙ w)

  pub finish-long : j.state ≡ S.Long → Answers places need whole out out Long
  finish-long h =
      let w : says S.Long = subst says h s.tells in
      too_long w.0 w.1 w.2.present (omega (arith, w.2.more, P.assemble-words b ps w.2.present))

  module _ (h : j.state ≡ S.Open) where
    so : says S.Open
    so = subst says h s.tells

    stand : Stand ps out j
    stand = so.2

    abbrev made_open : Tree
    made_open = M.assemble b ps

    pub few-parts : j.parts ≤ j.words
    few-parts = few ps out j stand

    pub finish-none : j.parts ≡ 0 → Answers places need whole out out (Plain j.kind)
    finish-none h =
        made_so so.0 so.1 out (Plain j.kind) refl
        (ap (settled (length out)) (P.assemble-none b ps (sym stand.number ∙ h))
        ∙ settled_plain (length out) b
        ∙ ap Plain (sym s.kind))
        (λ n e. absurd (silent_plain j.kind n e))

    pub finish-one : j.parts ≡ 1 → Answers places need whole out out (Part j.words)
    finish-one h =
        let one : count ps ≡ 1 = sym stand.number ∙ h in
        let e = P.assemble-one b ps one in
        part-fits so.0 so.1 out j.words refl (omega arith) (stand.size ∙ ap length (sym e)) s.within (stand.front ∙ sym e)

    module _ (none : j.parts ≡ 0 → ⊥) (one : j.parts ≡ 1 → ⊥) where
      two : 2 ≤ count ps
      two = omega (arith, none, one, stand.number)

      words_are : encode made_open ≡ pos (cond b 6 7) ∷ pos (count ps) ∷ encode_all ps
      unfolding encode
      words_are = ap encode (P.assemble-two b ps two)

      size_is : length (encode made_open) ≡ j.words + 2
      size_is = omega (arith, ap length words_are, stand.size)

      pub finish-over : length out - j.words < 2 → Answers places need whole out out Long
      finish-over h = too_long so.0 so.1 (omega (arith, two)) (omega (arith, size_is, s.within))

      pub finish-part :
          (after : Words) →
          length after ≡ length out →
          j.words + 2 ≤ length out →
          after ≡ laid out 0 (pos (cond j.kind 6 7) ∷ pos j.parts ∷ take j.words out) →
          Answers places need whole out after (Part (j.words + 2))
      finish-part after l room e =
          part-fits so.0 so.1 after (j.words + 2) l (omega (arith, two)) (sym size_is) room
          (ap (take (j.words + 2)) (e ∙ laid-front out _)
          ∙ take_at (pos (cond j.kind 6 7) ∷ pos j.parts ∷ take j.words out) _ (j.words + 2)
          (omega (arith, ap length stand.front, stand.size))
          ∙ header_is)
        where
          header_is : pos (cond j.kind 6 7) ∷ pos j.parts ∷ take j.words out ≡ encode made_open
          header_is =
              ap (λ (x : Bool). pos (cond x 6 7) ∷ pos j.parts ∷ take j.words out) s.kind
              ∙ ap (λ (n : ℕ). pos (cond b 6 7) ∷ pos n ∷ take j.words out) stand.number
              ∙ ap (λ (l : Words). pos (cond b 6 7) ∷ pos (count ps) ∷ l) stand.front
              ∙ sym words_are
