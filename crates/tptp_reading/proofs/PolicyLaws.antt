-- Laws for the reading of a whole text: what stands before its formula, and what behind it.
use Prim.Native.Nat.{ℕ, ◌+◌}
use native.Mathlib.Omega.{arith}
use mathlib.Core.Path.{◌≡◌, refl, sym, ap, ◌∙◌, subst}
use mathlib.Core.Bool.{true, false}
use mathlib.Core.List.{[], ◌∷◌}
use lib.ListN.{length, replicate}
use Rattle.text.specs.declared.cursor.Cursor.{Cursor}
use Rattle.model.specs.Words.{Words}
use Rattle.model.specs.Bytes.{Text, bytes}
use Rattle.model.specs.Answer.{Outcome, passed, refused}
use Rattle.model.specs.Tree.{Tree}
use Rattle.model.specs.Level.{formula}
use Rattle.model.specs.TptpReading.{Got, Reader, give, onwards, blanks, token, name, whole, ending, readers, read_whole, ◌>>=◌}
use Rattle.model.specs.declared.Refusal.{Refusal}
use Rattle.model.specs.declared.Refusal.TheVariants.{Tptp}
use Rattle.laws.specs.Answer.{refused-passed, passed-same}
use Rattle.tptp_tokens.specs.Steps.{from, got, Skips, Reads, Value}
use Rattle.tptp_state.specs.Told.{Passed, Told}
use Rattle.tptp_reading.specs.Formula.{closed}
use Rattle.tptp_state.specs.declared.state.State.{State}
use Rattle.modes.specs.declared.marks.Marks.{Marks}
use Rattle.modes.specs.Mode.{none}
use Rattle.modes.proofs.ModeFormulaSets.{same-set}
use Rattle.tptp_reading.specs.Policy.{blanks_ending, start_state}
use Rattle.tptp_tokens.proofs.TokenLaws.{onward, halt, grouped, closed_then}

-- the set that a reading begins with has no variable
pub started :
    (table : Words) (t : Tree) (out out' : Words) (set : Marks) (s : State) →
    Told table t formula 0 0 (record { words = 0; asked = Passed; moded = Passed; set = set }) s out out' →
    set.marks ≡ replicate 16 false →
    Told table t formula 0 0 start_state s out out'
started table t out out' set s told e =
    subst (λ (m : Marks). Told table t formula 0 0 (record { words = 0; asked = Passed; moded = Passed; set = m }) s out out') (same-set set none e) told

-- the end of a text behind blanks: there is another byte, or none
module _ (old mid : Cursor) (s : Skips old mid) where
  pub ended-other : (length mid.rest.now ≡ 0 → ⊥) → from blanks_ending old ≡ refused Tptp mid.at
  unfolding ending
  ended-other h = onward blanks (λ _. ending) old tt mid s.reads.reads ∙ go mid.rest.now h
    where
      go : (t : Text) → (length t ≡ 0 → ⊥) → ending t mid.at ≡ refused Tptp mid.at
      go [] h = absurd (h refl)
      go (b ∷ t) h = refl

  pub ended-over : length mid.rest.now ≡ 0 → from blanks_ending old ≡ got tt mid
  unfolding ending
  ended-over h = onward blanks (λ _. ending) old tt mid s.reads.reads ∙ go mid.rest.now h
    where
      go : (t : Text) → length t ≡ 0 → ending t mid.at ≡ passed (record { what = tt; rest = t; at = mid.at })
      go [] h = refl
      go (b ∷ t) h = absurd (omega arith)

-- nothing stands behind the end
blanks_end : (t : Text) (p : ℕ) (g : Got (Unit {0})) → blanks_ending t p ≡ passed g → g.rest ≡ []
unfolding ending ◌>>=◌ onwards
blanks_end t p g e = behind (blanks t p) e
  where
    end : (u : Text) (q : ℕ) → ending u q ≡ passed g → g.rest ≡ []
    end [] q k = ap (λ (h : Got (Unit {0})). h.rest) (sym (passed-same k))
    end (b ∷ u) q k = refused-passed k

    behind : (o : Outcome (Got (Unit {0}))) → onwards o (λ _. ending) ≡ passed g → g.rest ≡ []
    behind (refused r q) k = refused-passed k
    behind (passed h) k = end h.rest h.at k

-- what stands before the formula of a text, and behind it
module _
    (room : ℕ) {here n₁ n₂ n₃ n₄ n₅ at : Cursor}
    (s₁ : Reads (token (116 ∷ 102 ∷ 102 ∷ [])) here tt n₁)
    (s₂ : Reads (token (40 ∷ [])) n₁ tt n₂)
    (s₃ : Reads name n₂ tt n₃)
    (s₄ : Reads (token (44 ∷ [])) n₃ tt n₄)
    (s₅ : Reads (token (97 ∷ 120 ∷ 105 ∷ 111 ∷ 109 ∷ [])) n₄ tt n₅)
    (s₆ : Reads (token (44 ∷ [])) n₅ tt at)
  where
    abbrev one : Reader Tree
    one = closed ((readers room).operand true 0)

    abbrev behind_dot : Tree → Reader Tree
    behind_dot t = blanks >>= λ _. ending >>= λ _. give t

    header : from (read_whole room) here ≡ from (one >>= λ t. token (46 ∷ []) >>= λ _. behind_dot t) at
    unfolding read_whole bytes
    header =
        onward (token (116 ∷ 102 ∷ 102 ∷ [])) _ here tt n₁ s₁.reads
        ∙ onward (token (40 ∷ [])) _ n₁ tt n₂ s₂.reads
        ∙ onward name _ n₂ tt n₃ s₃.reads
        ∙ onward (token (44 ∷ [])) _ n₃ tt n₄ s₄.reads
        ∙ onward (token (97 ∷ 120 ∷ 105 ∷ 111 ∷ 109 ∷ [])) _ n₄ tt n₅ s₅.reads
        ∙ onward (token (44 ∷ [])) _ n₅ tt at s₆.reads
        ∙ closed_then (whole ((readers room).operand true 0)) (bytes ")") (λ t. token (46 ∷ []) >>= λ _. behind_dot t) at.rest.now at.at

    pub policy-refused : (q : Refusal) (p : ℕ) → from one at ≡ refused q p → from (read_whole room) here ≡ refused q p
    policy-refused q p e = header ∙ halt one _ at q p e

    module _ {facts : Tree → Type 0} (end : Cursor) (tree : Value one facts at end) where
      formula_read : from (read_whole room) here ≡ from (token (46 ∷ []) >>= λ _. behind_dot tree.what) end
      formula_read = header ∙ onward one (λ t. token (46 ∷ []) >>= λ _. behind_dot t) at tree.what end tree.reads.reads

      pub policy_undotted : (q : Refusal) (p : ℕ) → from (token (46 ∷ [])) end ≡ refused q p → from (read_whole room) here ≡ refused q p
      policy_undotted q p e = formula_read ∙ halt (token (46 ∷ [])) _ end q p e

      module _ (dot : Cursor) (dots : Reads (token (46 ∷ [])) end tt dot) where
        dotted : from (read_whole room) here ≡ from (blanks_ending >>= λ _. give tree.what) dot
        dotted =
            formula_read
            ∙ onward (token (46 ∷ [])) (λ _. behind_dot tree.what) end tt dot dots.reads
            ∙ sym (grouped blanks (λ _. ending) (λ _. give tree.what) dot.rest.now dot.at)

        pub policy_unended : (q : Refusal) (p : ℕ) → from blanks_ending dot ≡ refused q p → from (read_whole room) here ≡ refused q p
        policy_unended q p e = dotted ∙ halt blanks_ending (λ _. give tree.what) dot q p e

        pub policy-read :
            (last : Cursor) → Reads blanks_ending dot tt last →
            from (read_whole room) here ≡ passed (record { what = tree.what; rest = []; at = here.at + length here.rest.now })
        unfolding give
        policy-read last ended =
            let none = blanks_end dot.rest.now dot.at _ ended.reads in
            let end-at : last.at ≡ here.at + length here.rest.now =
            omega (
              arith,
              ap length none,
              s₁.moved.whole,
              s₂.moved.whole,
              s₃.moved.whole,
              s₄.moved.whole,
              s₅.moved.whole,
              s₆.moved.whole,
              tree.reads.moved.whole,
              dots.moved.whole,
              ended.moved.whole,
            ) in
            dotted ∙ onward blanks_ending (λ _. give tree.what) dot tt last ended.reads ∙ rw (none, end-at) refl

-- from the first place of a text
module _ (text : Text) (here : Cursor) (begin : here.rest.now ≡ text) (zero : here.at ≡ 0) where
  pub policy-from : {o : Outcome (Got Tree)} → from (read_whole 255) here ≡ o → read_whole 255 text 0 ≡ o
  policy-from e = ap (λ (t : Text). read_whole 255 t 0) (sym begin) ∙ ap (λ (p : ℕ). read_whole 255 here.rest.now p) (sym zero) ∙ e

  pub policy-to :
      (t : Tree) → from (read_whole 255) here ≡ passed (record { what = t; rest = []; at = here.at + length here.rest.now }) →
      read_whole 255 text 0 ≡ passed (record { what = t; rest = []; at = length text })
  policy-to t e =
      let end : here.at + length here.rest.now ≡ length text = omega (arith, zero, ap length begin) in
      policy-from e ∙ ap (λ (n : ℕ). passed (record { what = t; rest = []; at = n })) end
