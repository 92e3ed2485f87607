-- Laws for the operands of an all-of or any-of: one more behind those that were read, and the node above them.
use Prim.Native.Nat.{ℕ, suc, ◌+◌, ◌≤◌, min}
use native.Mathlib.Numerals.{add-one}
use native.Mathlib.Omega.{arith}
use mathlib.Core.Path.{◌≡◌, refl, sym, ap, subst, ◌∙◌, fun_ext}
use mathlib.Core.Bool.{Bool, true, false, cond, ◌&&◌}
use mathlib.Core.List.{List, [], ◌∷◌, ◌++◌, append-nil, append_assoc}
use lib.ListN.{length, set, length-append}
use lib.Seq.{sets}
use lib.Dec.{leb, ltb}
use lib.IntN.{pos}
use Rattle.model.specs.Words.{Words, level_limit}
use Rattle.model.specs.Answer.{Outcome, passed, refused, ask, ◌>>=◌}
use Rattle.model.specs.Tree.{Tree, Trees, join, nil, cons, count, encode, encode_all}
use Rattle.model.specs.Level.{Role, under}
use Rattle.model.specs.Reading.{is_formula}
use Rattle.model.specs.Mode.{Variables, size, bindings, bindings_all, bindings_any, ask_modes, ask_modes_all}
use Rattle.model.specs.TptpReading.{trees}
use Rattle.model.specs.declared.Refusal.TheVariants.{Level, Variable}
use Rattle.laws.specs.Answer.{refused-passed, then_same, then_both, then_assoc}
use Rattle.laws.specs.Words.Tests.{and_one}
use Rattle.laws.specs.Reading.Nodes.{under-kind}
use Rattle.laws.specs.Reading.Back.{encode_nonempty}
use Rattle.laws.specs.Reading.Trees.{ask_tree, ask_trees}
use Rattle.tables.specs.Checked.{outcome}
use Rattle.std.specs.Prelude.{Result, Ok, Err}
use Rattle.model.specs.declared.Refused.{Refused}
use Rattle.modes.specs.Mode.{set_of}
use Rattle.tptp_tokens.specs.Laying.{most_words, Laid}
use Rattle.modes.specs.declared.marks.Marks.{Marks}
use Rattle.tptp_state.specs.Told.{told, Modes, Told, Entered, Handed, Joined}
use Rattle.tptp_reading.specs.Formula.{bindings_of, ModesAll, ToldAll}
use Rattle.tptp_state.specs.declared.state.State.{State}
use Rattle.tptp_binders.proofs.TuplesLaws.{sets-append}
use Rattle.tptp_state.proofs.StateLaws.{asked-passed}
use Rattle.tptp_tokens.proofs.LayingLaws.{laid-two}

-- the words of trees, and how many trees they are of
words_last : (ts : List Tree) (t : Tree) → encode_all (trees (ts ++ t ∷ [])) ≡ encode_all (trees ts) ++ encode t
unfolding trees encode_all
words_last [] t = append-nil (encode t)
words_last (u ∷ ts) t =
    ap (λ (ws : Words). encode u ++ ws) (words_last ts t) ∙ sym (append_assoc (encode u) (encode_all (trees ts)) (encode t))

-- so many words has the list with one tree more
size-last : (ts : List Tree) (t : Tree) → length (encode_all (trees (ts ++ t ∷ []))) ≡ length (encode_all (trees ts)) + size t
unfolding size
size-last ts t = ap length (words_last ts t) ∙ length-append (encode_all (trees ts)) (encode t)

-- the index behind a first tree and others
index_on : (u : Tree) (ts : List Tree) (at : ℕ) → at + size u + length (encode_all (trees ts)) ≡ at + length (encode_all (trees (u ∷ ts)))
unfolding size trees encode_all
index_on u ts at = omega (arith, length-append (encode u) (encode_all (trees ts)))

index_none : (at : ℕ) → at + length (encode_all (trees [])) ≡ at
unfolding trees encode_all
index_none at = omega arith

-- questions 4 to 6 of one tree more, and question 7 of it in a formula
asked-last :
    (ts : List Tree) (t : Tree) (table : Words) (role : Role) (above scope at : ℕ) →
    ask_trees (trees (ts ++ t ∷ [])) table role above scope at
    ≡ (ask_trees (trees ts) table role above scope at >>= λ _.
    ask_tree t table role above scope (at + length (encode_all (trees ts))))
unfolding trees ask_trees ◌>>=◌
asked-last [] t table role above scope at =
    sym (then_same (ask_tree t table role above scope at)) ∙ ap (ask_tree t table role above scope) (sym (index_none at))
asked-last (u ∷ ts) t table role above scope at =
    then_both (ask_tree u table role above scope at) (λ _.
    asked-last ts t table role above scope (at + size u)
    ∙ then_both (ask_trees (trees ts) table role above scope (at + size u)) λ _.
    ap (ask_tree t table role above scope) (index_on u ts at))
    ∙ sym (then_assoc (ask_tree u table role above scope at) _ _)

modes-last :
    (ts : List Tree) (t : Tree) (table : Words) (scope at : ℕ) →
    ask_modes_all (trees (ts ++ t ∷ [])) table scope at
    ≡ (ask_modes_all (trees ts) table scope at >>= λ _. ask_modes t table scope (at + length (encode_all (trees ts))))
unfolding trees ask_modes_all ◌>>=◌
modes-last [] t table scope at =
    sym (then_same (ask_modes t table scope at)) ∙ ap (ask_modes t table scope) (sym (index_none at))
modes-last (u ∷ ts) t table scope at =
    then_both (ask_modes u table scope at) (λ _.
    modes-last ts t table scope (at + size u)
    ∙ then_both (ask_modes_all (trees ts) table scope (at + size u)) λ _.
    ap (ask_modes t table scope) (index_on u ts at))
    ∙ sym (then_assoc (ask_modes u table scope at) _ _)

-- what one operand more binds in an all-of: from what is bound so far
all-last :
    (ts : List Tree) (t : Tree) (table : Words) (bound : Variables) (scope at : ℕ) →
    bindings_all (trees (ts ++ t ∷ [])) table bound scope at
    ≡ (bindings_all (trees ts) table bound scope at >>= λ b. bindings t table b scope (at + length (encode_all (trees ts))))
unfolding trees bindings_all ◌>>=◌
all-last [] t table bound scope at =
    sym (then_same (bindings t table bound scope at)) ∙ ap (bindings t table bound scope) (sym (index_none at))
all-last (u ∷ ts) t table bound scope at =
    then_both (bindings u table bound scope at) (λ b.
    all-last ts t table b scope (at + size u)
    ∙ then_both (bindings_all (trees ts) table b scope (at + size u)) λ c.
    ap (bindings t table c scope) (index_on u ts at))
    ∙ sym (then_assoc (bindings u table bound scope at) _ _)

-- in an any-of: from what is bound in front, and of that what all bind
abbrev common : Outcome Variables → Outcome Variables → Outcome Variables
common o o' = o >>= λ a. o' >>= λ b. passed (λ x. a x && b x)

common_none : (o : Outcome Variables) → common (passed (λ x. true)) o ≡ o
unfolding ◌>>=◌
common_none (refused q p) = refl
common_none (passed a) = refl

common_alone : (o : Outcome Variables) → common o (passed (λ x. true)) ≡ o
unfolding ◌>>=◌
common_alone (refused q p) = refl
common_alone (passed a) = ap passed (fun_ext (λ x. and_one (a x)))

common_common : (o₁ o₂ o₃ : Outcome Variables) → common o₁ (common o₂ o₃) ≡ common (common o₁ o₂) o₃
unfolding ◌>>=◌
common_common (refused q p) o₂ o₃ = refl
common_common (passed a) (refused q p) o₃ = refl
common_common (passed a) (passed b) (refused q p) = refl
common_common (passed a) (passed b) (passed c) = ap passed (fun_ext (λ x. and-and (a x) (b x) (c x)))
  where
    and-and : (a b c : Bool) → (a && (b && c)) ≡ ((a && b) && c)
    and-and true b c = refl
    and-and false b c = refl

any_last :
    (ts : List Tree) (t : Tree) (table : Words) (bound : Variables) (scope at : ℕ) →
    bindings_any (trees (ts ++ t ∷ [])) table bound scope at
    ≡ common (bindings_any (trees ts) table bound scope at) (bindings t table bound scope (at + length (encode_all (trees ts))))
unfolding trees bindings_any
any_last [] t table bound scope at =
    common_alone (bindings t table bound scope at)
    ∙ sym (common_none (bindings t table bound scope at))
    ∙ ap (λ (k : ℕ). common (passed (λ x. true)) (bindings t table bound scope k)) (sym (index_none at))
any_last (u ∷ ts) t table bound scope at =
    ap (common (bindings u table bound scope at))
    (any_last ts t table bound scope (at + size u)
    ∙ ap (λ (k : ℕ). common (bindings_any (trees ts) table bound scope (at + size u)) (bindings t table bound scope k))
    (index_on u ts at))
    ∙ common_common (bindings u table bound scope at) _ _

-- the marks of an any-of behind one operand more, which began with the marks in front
marks_common :
    (m₀ m₁ m₂ : Result (Unit {0}) Refused) (start marks₁ marks₂ marks : Marks) (before after : Variables → Outcome Variables) →
    told m₁ marks₁ ≡ (told m₀ start >>= before) →
    told m₂ marks₂ ≡ (told m₁ start >>= after) →
    ((x : ℕ) → set_of marks x ≡ (set_of marks₁ x && set_of marks₂ x)) →
    told m₂ marks ≡ (told m₀ start >>= λ bound. common (before bound) (after bound))
unfolding ◌>>=◌
marks_common (Err q) (Ok u) m₂ start marks₁ marks₂ marks before after e f h = refused-passed (sym e)
marks_common (Err q) (Err r) (Ok u) start marks₁ marks₂ marks before after e f h = refused-passed (sym f)
marks_common (Err q) (Err r) (Err r') start marks₁ marks₂ marks before after e f h = f ∙ e
marks_common (Ok u) (Err r) (Ok v) start marks₁ marks₂ marks before after e f h = refused-passed (sym f)
marks_common (Ok u) (Err r) (Err r') start marks₁ marks₂ marks before after e f h = f ∙ rw (sym e)
marks_common (Ok u) (Ok v) (Err r) start marks₁ marks₂ marks before after e f h = rw (sym e, sym f)
marks_common (Ok u) (Ok v) (Ok w) start marks₁ marks₂ marks before after e f h = rw (sym e, sym f) (ap passed (fun_ext h))

-- one operand that was read
modes-one :
    (formula b : Bool) (f : Tree) (table : Words) (scope : ℕ) (u s : State) →
    Modes formula f table scope u s →
    ModesAll formula b (cons f nil) table scope u s
unfolding bindings_of bindings_all bindings_any ask_modes_all
modes-one true b f table scope u s m =
    m ∙ then_both (outcome u.moded) λ _. then_same (ask_modes f table scope u.words)
modes-one false true f table scope u s m =
    m ∙ then_both (told u.moded u.set) λ bound. then_same (bindings f table bound scope u.words)
modes-one false false f table scope u s m =
    m ∙ then_both (told u.moded u.set) λ bound. sym (common_alone (bindings f table bound scope u.words))

pub told-one :
    (table : Words) (b : Bool) (f : Tree) (role : Role) (above scope : ℕ) (u s : State) (old out : Words) →
    Told table f role above scope u s old out →
    ToldAll table b (cons f nil) role above scope u s old out
unfolding encode_all ask_trees size
told-one table b f role above scope u s old out t =
    let alone = append-nil (encode f) in
    record {
      counted = t.counted ∙ ap (λ (ws : Words). min (u.words + length ws) most_words) (sym alone);
      passes = t.passes;
      settled = λ few.
          let settled = t.settled (omega (arith, ap length alone)) in
          record {
            asked = settled.asked ∙ then_both (outcome u.asked) λ _. then_same (ask_tree f table role above scope u.words);
            modes = λ passes. modes-one (is_formula role) b f table scope u s (settled.modes passes);
            laid = settled.laid ∙ ap (sets old u.words) (sym alone);
          };
    }

-- one operand more: question 7
modes-more :
    (formula b : Bool) (ts : List Tree) (t : Tree) (table : Words) (scope : ℕ) (u s k s' : State) →
    s.words ≡ u.words + length (encode_all (trees ts)) →
    Joined b s.set k s' →
    ModesAll formula b (trees ts) table scope u s →
    Modes formula t table scope (record { words = s.words; asked = s.asked; moded = s.moded; set = cond b s.set u.set }) k →
    ModesAll formula b (trees (ts ++ t ∷ [])) table scope u s'
unfolding bindings_of
modes-more true b ts t table scope u s k s' exact j before after =
    ap outcome j.moded
    ∙ after
    ∙ ap (λ (o : Outcome (Unit {0})). o >>= λ _. ask_modes t table scope s.words) before
    ∙ then_assoc (outcome u.moded) _ _
    ∙ then_both (outcome u.moded) λ _.
    ap (λ (n : ℕ). ask_modes_all (trees ts) table scope u.words >>= λ _. ask_modes t table scope n) exact
    ∙ sym (modes-last ts t table scope u.words)
modes-more false true ts t table scope u s k s' exact j before after =
    ap (λ (m : Result (Unit {0}) Refused). told m s'.set) j.moded
    ∙ ap (told k.moded) (j.every refl)
    ∙ after
    ∙ ap (λ (o : Outcome Variables). o >>= λ bound. bindings t table bound scope s.words) before
    ∙ then_assoc (told u.moded u.set) _ _
    ∙ then_both (told u.moded u.set) λ bound.
    ap (λ (n : ℕ). bindings_all (trees ts) table bound scope u.words >>= λ b. bindings t table b scope n) exact
    ∙ sym (all-last ts t table bound scope u.words)
modes-more false false ts t table scope u s k s' exact j before after =
    ap (λ (m : Result (Unit {0}) Refused). told m s'.set) j.moded
    ∙ marks_common u.moded s.moded k.moded u.set s.set k.set s'.set
    (λ bound. bindings_any (trees ts) table bound scope u.words)
    (λ bound. bindings t table bound scope s.words)
    before after (j.some refl)
    ∙ then_both (told u.moded u.set) λ bound.
    ap (λ (n : ℕ). common (bindings_any (trees ts) table bound scope u.words) (bindings t table bound scope n)) exact
    ∙ sym (any_last ts t table bound scope u.words)

-- and all that is known
more-told :
    (table : Words) (b : Bool) (ts : List Tree) (t : Tree) (role : Role) (above scope : ℕ) (u s k s' : State) (old out out' : Words) →
    ToldAll table b (trees ts) role above scope u s old out →
    Told table t role above scope (record { words = s.words; asked = s.asked; moded = s.moded; set = cond b s.set u.set }) k
    out out' →
    Joined b s.set k s' →
    ToldAll table b (trees (ts ++ t ∷ [])) role above scope u s' old out'
more-told table b ts t role above scope u s k s' old out out' a one j =
    let long = size-last ts t in
    record {
      counted = omega (arith, j.words, one.counted, a.counted, long);
      passes = λ p. a.passes (one.passes (sym j.asked ∙ p));
      settled = λ few.
          let exact : s.words ≡ u.words + length (encode_all (trees ts)) = omega (arith, a.counted, long) in
          let first = a.settled (omega (arith, long)) in
          let last = one.settled (omega (arith, long, exact)) in
          record {
            asked =
                ap outcome j.asked
                ∙ last.asked
                ∙ ap (λ (o : Outcome (Unit {0})). o >>= λ _. ask_tree t table role above scope s.words) first.asked
                ∙ then_assoc (outcome u.asked) _ _
                ∙ then_both (outcome u.asked) λ _.
                ap (λ (n : ℕ). ask_trees (trees ts) table role above scope u.words >>= λ _. ask_tree t table role above scope n) exact
                ∙ sym (asked-last ts t table role above scope u.words);
            modes = λ p.
                let passes = sym j.asked ∙ p in
                modes-more (is_formula role) b ts t table scope u s k s' exact j (first.modes (one.passes passes)) (last.modes passes);
            laid =
                last.laid
                ∙ ap (λ (n : ℕ). sets out n (encode t)) exact
                ∙ ap (λ (o : Words). sets o (u.words + length (encode_all (trees ts))) (encode t)) first.laid
                ∙ sets-append (encode_all (trees ts)) (encode t) old u.words
                ∙ ap (sets old u.words) (sym (words_last ts t));
          };
    }

pub told_more :
    (table : Words) (b : Bool) (f : Tree) (ts : List Tree) (t : Tree) (role : Role) (above scope : ℕ) (start : Marks)
    (u s h k s' : State) (old out out' : Words) →
    ToldAll table b (cons f (trees ts)) role above scope u s old out →
    u.set ≡ start →
    Handed b start s h →
    Told table t role above scope h k out out' →
    Joined b s.set k s' →
    ToldAll table b (cons f (trees (ts ++ t ∷ []))) role above scope u s' old out'
unfolding trees
told_more table b f ts t role above scope start u s h k s' old out out' a e handed one j =
    let given : h ≡ record { words = s.words; asked = s.asked; moded = s.moded; set = cond b s.set u.set } =
    handed ∙ ap (λ (m : Marks). record { words = s.words; asked = s.asked; moded = s.moded; set = cond b s.set m }) (sym e) in
    more-told table b (f ∷ ts) t role above scope u s k s' old out out' a
    (subst (λ (x : State). Told table t role above scope x k out out') given one) j

-- the node above its operands: question 7
modes-join :
    (formula b : Bool) (ts : Trees) (table : Words) (scope : ℕ) (s u r : State) →
    u.words ≡ s.words + 2 → u.moded ≡ s.moded → u.set ≡ s.set →
    ModesAll formula b ts table scope u r →
    Modes formula (join b ts) table scope s r
unfolding ask_modes bindings bindings_of
modes-join true b ts table scope s u r words moded marks m =
    m
    ∙ ap (λ (c : Result (Unit {0}) Refused). outcome c >>= λ _. ask_modes_all ts table scope u.words) moded
    ∙ ap (λ (n : ℕ). outcome s.moded >>= λ _. ask_modes_all ts table scope n) words
modes-join false true ts table scope s u r words moded marks m =
    m
    ∙ ap (λ (c : Result (Unit {0}) Refused). told c u.set >>= λ bound. bindings_all ts table bound scope u.words) moded
    ∙ ap (λ (c : Marks). told s.moded c >>= λ bound. bindings_all ts table bound scope u.words) marks
    ∙ ap (λ (n : ℕ). told s.moded s.set >>= λ bound. bindings_all ts table bound scope n) words
modes-join false false ts table scope s u r words moded marks m =
    m
    ∙ ap (λ (c : Result (Unit {0}) Refused). told c u.set >>= λ bound. bindings_any ts table bound scope u.words) moded
    ∙ ap (λ (c : Marks). told s.moded c >>= λ bound. bindings_any ts table bound scope u.words) marks
    ∙ ap (λ (n : ℕ). told s.moded s.set >>= λ bound. bindings_any ts table bound scope n) words

-- questions 4 to 6
questions-join :
    (ts : Trees) (b : Bool) (table : Words) (role : Role) (above scope at next : ℕ) →
    next ≡ at + 2 →
    (ask (ltb above 64) Level at >>= (λ _. ask true Variable at) >>= λ _. ask_trees ts table (under role b) (above + 1) scope next)
    ≡ ask_tree (join b ts) table role above scope at
unfolding ask_tree ask ◌>>=◌
questions-join ts b table role above scope at next e =
    then_assoc (ask (ltb above 64) Level at) _ _
    ∙ ap (λ (n : ℕ). ask (leb n level_limit) Level at >>= λ _. ask_trees ts table (under role b) (above + 1) scope next) (sym (add-one above))
    ∙ ap (λ (n : ℕ). ask (leb (above + 1) level_limit) Level at >>= λ _. ask_trees ts table (under role b) (above + 1) scope n) e

-- how many operands there are, and that they have at least as many words
count-trees : (ts : List Tree) → count (trees ts) ≡ length ts
unfolding trees count
count-trees [] = refl
count-trees (t ∷ ts) = ap suc (count-trees ts)

trees-words : (ts : List Tree) → length ts ≤ length (encode_all (trees ts))
unfolding trees encode_all
trees-words [] = omega arith
trees-words (t ∷ ts) =
    omega (arith, trees-words ts, encode_nonempty t, length-append (encode t) (encode_all (trees ts)))

pub told-join :
    (table : Words) (b : Bool) (f : Tree) (ts : List Tree) (role : Role) (above scope : ℕ) (s u r : State) (old mid out₁ out₂ : Words)
    (tag n : ℕ) →
    Entered 2 (ltb above 64) true s.set s u →
    ToldAll table b (cons f (trees ts)) (under role b) (above + 1) scope u r old mid →
    tag ≡ cond b 6 7 →
    suc (length ts) ≡ n →
    Laid s.words tag mid out₁ →
    Laid (s.words + 1) n out₁ out₂ →
    Told table (join b (cons f (trees ts))) role above scope s r old out₂
unfolding trees size encode count
told-join table b f ts role above scope s u r old mid out₁ out₂ tag n e a six number first second =
    let w = s.words in
    let operands = encode_all (trees (f ∷ ts)) in
    record {
      counted = omega (arith, a.counted, e.words);
      passes = λ p. (asked-passed u.asked s.asked _ e.asked (a.passes p)).0;
      settled = λ few.
          let exact : u.words ≡ s.words + 2 = omega (arith, e.words) in
          let below = a.settled (omega (arith, exact)) in
          record {
            asked =
                below.asked
                ∙ ap
                (λ (o : Outcome (Unit {0})). o >>= λ _. ask_trees (trees (f ∷ ts)) table (under role b) (above + 1) scope u.words)
                e.asked
                ∙ then_assoc (outcome s.asked) _ _
                ∙ then_both (outcome s.asked) λ _. questions-join (trees (f ∷ ts)) b table role above scope w u.words exact;
            modes = λ p.
                modes-join (is_formula role) b (trees (f ∷ ts)) table scope s u r exact e.moded e.set
                (subst (λ (formula : Bool). ModesAll formula b (trees (f ∷ ts)) table scope u r) (under-kind role b) (below.modes p));
            laid =
                second (omega (arith, trees-words (f ∷ ts), number))
                ∙ ap (λ (o : Words). set o (w + 1) (pos n)) (first (omega (arith, six, tags b)))
                ∙ ap (λ (o : Words). set (set o w (pos tag)) (w + 1) (pos n)) below.laid
                ∙ ap (λ (k : ℕ). set (set (sets old k operands) w (pos tag)) (w + 1) (pos n)) exact
                ∙ laid-two operands old w (pos tag) (pos n)
                ∙ ap (λ (k : ℕ). sets old w (pos k ∷ pos n ∷ operands)) six
                ∙ ap (λ (k : ℕ). sets old w (pos (cond b 6 7) ∷ pos k ∷ operands)) (sym number ∙ sym (count-trees (f ∷ ts)));
          };
    }
  where
    tags : (b : Bool) → cond b 6 7 ≤ 2147483647
    tags true = omega arith
    tags false = omega arith
