-- Laws for the walk: the text of a node, from what was written of the nodes below it.
use Prim.Native.Nat.{ℕ, ◌+◌, ◌*◌, ◌-◌, ◌≤◌, ◌<◌}
use native.Mathlib.Omega.{arith}
use mathlib.Core.Path.{◌≡◌, refl, sym, ap, ◌∙◌}
use mathlib.Core.Bool.{Bool, true, false, cond}
use mathlib.Core.List.{◌++◌, append_assoc}
use lib.ListN.{take, drop}
use lib.Dec.{eqb}
use Rattle.std.specs.Prelude.{Option, Some, None}
use Rattle.std.proofs.lemmas.Option.{none-some}
use Rattle.model.specs.Words.{Words, word, value}
use Rattle.model.specs.Bytes.{Text, bytes}
use Rattle.model.specs.Tag.{Tag, tag_of}
use Rattle.model.specs.Tree.{Tree, Trees}
use Rattle.model.specs.Tptp.{connective}
use Rattle.text.specs.declared.writer.Writer.{Writer}
use Rattle.text.specs.Adds.{Adds}
use Rattle.text.proofs.PutLaws.{adds_is, adds_then, adds_short, adds_full, full_stays, Left, left-none, left_more, left_full, left_end}
use Rattle.tptp_putting.specs.Texts.{head_text, closed_text, Tuples}
use Rattle.tptp_writing.specs.Printing.{Printable, PrintableAll, atom_at, compare_at, node_text, operands_text, Prints}
use Rattle.tptp_writing.proofs.NodeTextLaws.{plain-text, plain-same, atom-same, compare_same, quantifier-same, some_same}
use Rattle.tptp_writing.proofs.NodeTextLaws.{rest_text, operands-first, operands-more, operands-none, join-text, quantifier-text}
use Rattle.tptp_writing.proofs.NodeTextLaws.{some-text}
use Rattle.tptp_writing.proofs.PrintableLaws.{plain_here, atom-here, compare-here, Joined, Quantified, Something, Headed, headed, none_left}
use Rattle.tptp_writing.proofs.PrintableLaws.{moved}

-- a text that was put, and the word behind it
pub prints_at : {text : Text} {w w' : Writer} (next : ℕ) → Adds text w w' → Prints text next w w' (Some next)
prints_at next adds = record { adds = adds; found = λ n e. cc; full = λ e. absurd (none-some next (sym e)) }

-- one that found too little room
prints_full : {text : Text} {w w' : Writer} (next : ℕ) → Adds text w w' → w'.put ≡ None → Prints text next w w' None
prints_full next adds full = record { adds = adds; found = λ n e. absurd (none-some n e); full = λ e. full }

pub prints_stopped : {text : Text} {next : ℕ} {w : Writer} → w.put ≡ None → Prints text next w w None
prints_stopped {text} {next} {w} full = prints_full next (adds_full text w full) full

-- a text with nodes in it, and a text behind them
prints_on :
    {a b text : Text} {n m : ℕ} {w w₁ w₂ w₃ : Writer} {r : Option ℕ} → Prints a n w₁ w₂ r → Adds b w₂ w₃ → Adds text w w₃ → m ≡ n →
    Prints text m w w₃ r
prints_on p close adds f =
    record { adds = adds; found = λ n e. p.found n e ∙ sym f; full = λ e. full_stays close (p.full e) }

-- the same text and the same word
prints_is : {a b : Text} {n m : ℕ} {w w' : Writer} {r : Option ℕ} → Prints a n w w' r → b ≡ a → m ≡ n → Prints b m w w' r
prints_is p e f = record { adds = adds_is e p.adds; found = λ n g. p.found n g ∙ sym f; full = p.full }

module _ (words : Words) (above scope at : ℕ) (h : Printable words above scope at) (bare : Bool) {w w' : Writer} where
  -- a node with no node below it
  pub plain_prints :
      (b : Bool) → Tag.plain b ≡ tag_of (word words at) → Adds (cond b (bytes "$true") (bytes "$false")) w w' →
      Prints (node_text bare h.tree scope) h.next w w' (Some (at + 1))
  plain_prints b e p =
      let (is, next) = plain_here words above scope at h b e in
      prints_is (prints_at (at + 1) p)
      (ap (λ (t : Tree). node_text bare t scope) is ∙ plain-same bare b scope ∙ plain-text b) next

  module _ {r : Option ℕ} where
    pub atom_prints :
        (b : Bool) → Tag.atom b ≡ tag_of (word words at) →
        Prints (node_text true (atom_at words b at) 0) (at + 3 + 2 * value words (at + 2)) w w' r →
        Prints (node_text bare h.tree scope) h.next w w' r
    unfolding atom_at
    atom_prints b e p =
        let (is, next, some, fits) = atom-here words above scope at h b e in
        prints_is p (ap (λ (t : Tree). node_text bare t scope) is ∙ atom-same bare b scope _ _) next

    pub compare_prints :
        (b : Bool) → Tag.compare b ≡ tag_of (word words at) → Prints (node_text true (compare_at words b at) 0) (at + 6) w w' r →
        Prints (node_text bare h.tree scope) h.next w w' r
    unfolding compare_at
    compare_prints b e p =
        let (is, next, fits) = compare-here words above scope at h b e in
        prints_is p (ap (λ (t : Tree). node_text bare t scope) is ∙ compare_same bare b scope _ _ _) next

    -- a quantifier and a some stand as they are
    pub quantifier_prints :
        (every : Bool) (v m first : ℕ) → Quantified words above scope at every v m first h →
        Prints (node_text true h.tree scope) h.next w w' r →
        Prints (node_text bare h.tree scope) h.next w w' r
    quantifier_prints every v m first q p =
        prints_is p
        (ap (λ (t : Tree). node_text bare t scope) q.is
        ∙ quantifier-same bare every scope v _ _ _
        ∙ ap (λ (t : Tree). node_text true t scope) (sym q.is))
        refl

    pub some_prints :
        Something words above scope at h → Prints (node_text true h.tree scope) h.next w w' r →
        Prints (node_text bare h.tree scope) h.next w w' r
    some_prints s p =
        prints_is p
        (ap (λ (t : Tree). node_text bare t scope) s.is
        ∙ some_same bare scope _
        ∙ ap (λ (t : Tree). node_text true t scope) (sym s.is))
        refl

-- an all-of or any-of: what opens it, its operands, and what closes it
pub join_prints :
    {words : Words} {above scope at : ℕ} {every : Bool} {n : ℕ} {h : Printable words above scope at} →
    Joined words above scope at every n h →
    (bare : Bool) {w w₁ w₂ w₃ : Writer} {r : Option ℕ} → Adds (cond bare (bytes "") (bytes "(")) w w₁ →
    ((k : PrintableAll words (above + 1) scope n (at + 2)) → Prints (operands_text every k.trees scope) k.next w₁ w₂ r) →
    Adds (cond bare (bytes "") (bytes ")")) w₂ w₃ →
    Prints (node_text bare h.tree scope) h.next w w₃ r
join_prints {scope} {every} j bare lead all close =
    let nodes = all j.operands in
    prints_on nodes close
    (adds_is (ap (λ (t : Tree). node_text bare t scope) j.is ∙ join-text every scope bare j.operands.trees)
    (adds_then lead (adds_then nodes.adds close)))
    j.ends

-- a some: what stands before its restriction, this, and a parenthesis
pub some-stands :
    {words : Words} {above scope at : ℕ} {h : Printable words above scope at} → Something words above scope at h →
    {w w₁ w₂ w₃ : Writer} {r : Option ℕ} → Adds (head_text false scope 1 true) w w₁ →
    ((k : Printable words (above + 1) (scope + 1) (at + 1)) → Prints (node_text true k.tree (scope + 1)) k.next w₁ w₂ r) →
    Adds (bytes ")") w₂ w₃ →
    Prints (node_text true h.tree scope) h.next w w₃ r
some-stands {scope} s lead one close =
    let node = one s.restricts in
    prints_on node close
    (adds_is (ap (λ (t : Tree). node_text true t scope) s.is ∙ some-text scope s.restricts.tree)
    (adds_then lead (adds_then node.adds close)))
    s.ends

-- a quantifier: what stands before its restriction, this, its excluded tuples, a connective, its body, and a parenthesis
module _
    {words : Words} {above scope at : ℕ} {every : Bool} {v m first : ℕ} {h : Printable words above scope at}
    (q : Quantified words above scope at every v m first h)
    {w₁ w₂ : Writer} {r₁ : Option ℕ}
    (one : (k : Printable words (above + 1) (scope + v) first) → Prints (node_text false k.tree (scope + v)) k.next w₁ w₂ r₁)
  where
    whole :
        node_text true h.tree scope
        ≡ head_text every scope v (eqb m 0)
        ++ (node_text false q.restricts.tree (scope + v)
        ++ (closed_text scope q.excluded.list
        ++ (cond every (bytes "=>") (bytes "&") ++ (node_text false q.body.tree (scope + v) ++ bytes ")"))))
    whole =
        ap (λ (t : Tree). node_text true t scope) q.is
        ∙ quantifier-text every v scope m q.excluded.list q.restricts.tree q.body.tree q.number

    -- there was no room for its restriction
    pub quantifier-full :
        {w : Writer} → Adds (head_text every scope v (eqb m 0)) w w₁ → w₂.put ≡ None → Prints (node_text true h.tree scope) h.next w w₂ None
    quantifier-full head full =
        prints_full h.next
        (adds_is (whole ∙ sym (append_assoc (head_text every scope v (eqb m 0)) _ _)) (adds_short _ (adds_then head (one q.restricts).adds) full))
        full

    module _ {body : ℕ} (found : r₁ ≡ Some body) where
      -- the body stands behind the restriction
      abbrev pub body-here : Printable words (above + 1) (scope + v) body
      body-here = moved ((one q.restricts).found body found) q.body

      pub quantifier-stands :
          {w w₃ w₄ w₅ w₆ : Writer} {r : Option ℕ} → Adds (head_text every scope v (eqb m 0)) w w₁ →
          ((t : Tuples (take (first - (at + 3)) (drop (at + 3) words)) v) → Adds (closed_text scope t.list) w₂ w₃) →
          Adds (cond every (bytes "=>") (bytes "&")) w₃ w₄ →
          ((k : Printable words (above + 1) (scope + v) body) → Prints (node_text false k.tree (scope + v)) k.next w₄ w₅ r) →
          Adds (bytes ")") w₅ w₆ →
          Prints (node_text true h.tree scope) h.next w w₆ r
      quantifier-stands head tuples sign two close =
          let node = two body-here in
          let behind = adds_then (tuples q.excluded) (adds_then sign (adds_then node.adds close)) in
          prints_on node close (adds_is whole (adds_then head (adds_then (one q.restricts).adds behind))) q.ends

-- an operand is not bare
pub operand_adds :
    (tree : Tree) (scope : ℕ) (bare : Bool) {next : ℕ} {w w' : Writer} {r : Option ℕ} → Prints (node_text bare tree scope) next w w' r →
    bare ≡ false →
    Adds (node_text false tree scope) w w'
operand_adds tree scope bare p e = adds_is (ap (λ (b : Bool). node_text b tree scope) (sym e)) p.adds

-- operands one behind another: those behind the first stand up to the node i
pub record More
    (words : Words) (above scope n at : ℕ) (every : Bool) (h : PrintableAll words above scope n at)
    (f : Headed words above scope n at h)
    (i : ℕ) (w w' : Writer) (next : Option ℕ) : Type 0
  where
    pub count : ℕ
    pub number : count + i ≡ n
    pub from : ℕ
    pub found : (q : ℕ) → next ≡ Some q → q ≡ from
    pub full : next ≡ None → w'.put ≡ None
    pub rest : PrintableAll words above scope count from
    pub left : Left (rest_text every f.others.trees scope) (rest_text every rest.trees scope) w w'
    pub ends : h.next ≡ rest.next

module _
    {words : Words} {above scope n at : ℕ} {every : Bool} {h : PrintableAll words above scope n at}
    {f : Headed words above scope n at h}
  where
    -- the first one stands
    pub more-none :
        1 ≤ n → {text : Text} {w₀ w : Writer} {next : Option ℕ} → Prints text f.first.next w₀ w next →
        More words above scope n at every h f 1 w w next
    more-none some {w} p = record {
      count = n - 1;
      number = omega arith;
      from = f.first.next;
      found = p.found;
      full = p.full;
      rest = f.others;
      left = left-none _ w;
      ends = f.ends;
    }

    module _ {i : ℕ} {w w' : Writer} {next : Option ℕ} (m : More words above scope n at every h f i w w' next) where
      module _ {here : ℕ} (found : next ≡ Some here) (inside : i < n) where
        abbrev others : Headed words above scope m.count m.from m.rest
        others = headed words above scope m.count m.from m.rest (omega (arith, m.number))

        -- the next one
        abbrev pub more-here : Printable words above scope here
        more-here = moved (m.found here found) others.first

        pub more_turn :
            {w₁ : Writer} → Adds (connective every) w' w₁ →
            (bare : Bool) {w₂ : Writer} {r : Option ℕ} →
            ((k : Printable words above scope here) → Prints (node_text bare k.tree scope) k.next w₁ w₂ r) →
            bare ≡ false →
            More words above scope n at every h f (i + 1) w w₂ r
        more_turn sign bare one is =
            let node = one more-here in
            let l = left_more m.left (connective every) _
            (ap (λ (ts : Trees). rest_text every ts scope) others.is
            ∙ operands-more every scope others.first.tree others.others.trees)
            sign in
            record {
              count = m.count - 1;
              number = omega (arith, m.number);
              from = others.first.next;
              found = node.found;
              full = node.full;
              rest = others.others;
              left = left_more l _ _ refl (operand_adds others.first.tree scope bare node is);
              ends = m.ends ∙ others.ends;
            }

      -- the text of all operands
      module _ {w₀ : Writer} (first : Adds (node_text false f.first.tree scope) w₀ w) where
        whole-text :
            operands_text every h.trees scope ≡ node_text false f.first.tree scope ++ rest_text every f.others.trees scope
        whole-text =
            ap (λ (ts : Trees). operands_text every ts scope) f.is ∙ operands-first every scope f.first.tree f.others.trees

        pub more-full : next ≡ None → Prints (operands_text every h.trees scope) h.next w₀ w' None
        more-full e = prints_full h.next (adds_is whole-text (adds_then first (left_full m.left (m.full e)))) (m.full e)

        pub more_end : n ≤ i → Prints (operands_text every h.trees scope) h.next w₀ w' next
        more_end all =
            let (none, end) = none_left words above scope m.count m.from m.rest (omega (arith, m.number)) in
            let rest = left_end m.left (ap (λ (ts : Trees). rest_text every ts scope) none ∙ operands-none every scope) in
            prints_is (record { adds = adds_then first rest; found = m.found; full = m.full }) whole-text (m.ends ∙ end)
