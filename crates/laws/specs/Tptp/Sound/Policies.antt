-- What is read from a text stands there: the tokens of what a reader gives, from the place where it begins to that of the rest.
-- The text of a policy that is read spells its tree.
use Rattle.std.specs.Prelude.{ℕ, ◌+◌, ◌≤◌, ◌≡◌, refl, Bool, true, false, List, [], ◌∷◌, ◌++◌, map, length}
use Rattle.std.proofs.Common.{sym, ap, ◌∙◌, subst, append_assoc, append-nil}
use Rattle.std.proofs.lemmas.List.{append_cancel_right}
use Rattle.model.specs.Bytes.{Text, blank}
use Rattle.model.specs.Lists.{all, gather}
use Rattle.model.specs.Answer.{Outcome, passed, refused}
use Rattle.model.specs.Tree.{Tree}
use Rattle.model.specs.Tptp.{Tokens, Stand, excludes, restricted, is_join, enclosed, tokens, good_tuple, good_tree, Spells}
use Rattle.model.specs.TptpReading.{Got, Reader, Restricted, stop, up_to, more, behind_blanks, begins_with, joining, whole, readers, read_whole}
use Rattle.model.specs.TptpReading.{tree_of, read_tptp}
use Rattle.laws.specs.Answer.{refused-passed, passed-same}
use Rattle.laws.specs.Tptp.Spelling.TokensInFront.{Fill, Trail, fill-stand, stand-fill}
use Rattle.laws.specs.Tptp.Sound.Readers.{Spelling, Read, Reads, comes-passed, sound-reads}
use Rattle.laws.specs.Tptp.Sound.Numbers.{Item}
use Rattle.laws.specs.Tptp.Sound.Atoms.{shown, Operand}
use Rattle.laws.specs.Tptp.Sound.Lists.{Several, up_to-reads, more-comes}
use Rattle.laws.specs.Tptp.Sound.Joins.{further-reads, whole-reads}
use Rattle.laws.specs.Tptp.Sound.Trees.{readers-read}
use Rattle.laws.specs.Tptp.Sound.Texts.{text-reads, text-last}

-- a text was used, and the rest has its place
abbrev pub Used : {A : Type 0} (text : Text) (p : ℕ) (g : Got A) → Type 0
Used text p g = (u : Text) × (text ≡ u ++ g.rest) × (g.at ≡ p + length u)

-- tokens stand in front of a text, and this is the rest behind further blanks
abbrev pub Trails : (ts : Tokens) (text rest : Text) → Type 0
Trails ts text rest = (mid : Text) × (gap : Text) × Stand ts text mid × (mid ≡ gap ++ rest) × (all blank gap ≡ true)

read-used : {A : Type 0} {N : Spelling A} {text : Text} {p : ℕ} {g : Got A} → Read N text p g → Used text p g
read-used r = (r.used, r.split, r.place)

-- with nothing behind it, all of the text was used
read_whole_lem : {A : Type 0} {N : Spelling A} {text : Text} {p : ℕ} {g : Got A} → Read N text p g → g.rest ≡ [] → N g.what text
read_whole_lem {N} {g} r none =
    let whole = r.split ∙ ap (λ (t : Text). r.used ++ t) none ∙ append-nil r.used in
    subst (N g.what) (sym whole) r.spells

fill-stands : {ts : Tokens} {u text : Text} (rest : Text) → text ≡ u ++ rest → Fill ts u → Stand ts text rest
fill-stands {ts} rest e f = subst (λ (t : Text). Stand ts t rest) (sym e) (fill-stand rest f)

trail_trails : {ts : Tokens} {u text : Text} (rest : Text) → text ≡ u ++ rest → Trail ts u → Trails ts text rest
trail_trails rest e t =
    let is = e ∙ ap (λ (v : Text). v ++ rest) t.is ∙ append_assoc t.front t.gap rest in
    (t.gap ++ rest, t.gap, fill-stands (t.gap ++ rest) is t.fill, refl, t.blanks)

-- one item: its tokens stand, and it passes a test
pub record ItemRead {A : Type 0} (shown : A → Tokens) (test : A → Bool) (text : Text) (p : ℕ) (g : Got A) : Type 0 where
  pub stand : Stand (shown g.what) text g.rest
  pub good : test g.what ≡ true
  pub used : Used text p g

module _ {A : Type 0} (shown : A → Tokens) (test : A → Bool) where
  -- every reader gives such items: of numbers, terms, tuples and operands
  pub item_sound :
      {told : Type 0} {r : Reader A} →
      Reads told (Item shown test) r →
      (text : Text) (p : ℕ) (g : Got A) →
      r text p ≡ passed g →
      ItemRead shown test text p g
  item_sound h text p g e =
      let k = comes-passed (h.comes text p) e in
      record { stand = fill-stands g.rest k.split k.spells.1; good = k.spells.0; used = read-used k }

  -- and a reader that gives such items is one of them
  item_reads :
      (one : Reader A) →
      ((text : Text) (p : ℕ) (g : Got A) → one text p ≡ passed g → ItemRead shown test text p g) →
      Reads ⊥ (Item shown test) one
  item_reads one h = sound-reads read
    where
      read : (text : Text) (p : ℕ) (g : Got A) → one text p ≡ passed g → Read (Item shown test) text p g
      read text p g e =
          let k = h text p g e in
          let (u, is, f) = stand-fill (shown g.what) text g.rest k.stand in
          let same = append_cancel_right u k.used.0 g.rest (sym is ∙ k.used.1) in
          record { used = u; split = is; place = k.used.2 ∙ ap (λ (v : Text). p + length v) (sym same); spells = (k.good, f) }

-- an operand of a formula (true) or a restriction, with so many variables in scope
abbrev pub OperandRead : (formula : Bool) (scope : ℕ) (text : Text) (n : ℕ) (got : Got Tree) → Type 0
OperandRead formula scope = ItemRead (λ t. enclosed t (tokens t scope)) (λ t. good_tree t formula)

pub operand_sound :
    (room : ℕ) (formula : Bool) (scope : ℕ) (text : Text) (p : ℕ) (g : Got Tree) →
    (readers room).operand formula scope text p ≡ passed g →
    OperandRead formula scope text p g
operand_sound room formula scope text p g e =
    item_sound (shown scope) (λ t. good_tree t formula) {told = ⊥} ((readers-read room).operand formula scope) text p g e

-- several items, each behind a byte
pub record ItemsRead
    {A : Type 0} (shown : A → Tokens) (test : A → Bool) (c : ℕ) (text : Text) (p : ℕ) (g : Got (List A)) : Type 0 where
  pub stand : Trails (gather (λ next. (c ∷ []) ∷ next) (map shown g.what)) text g.rest
  pub good : all test g.what ≡ true
  pub used : Used text p g

several_read :
    {A : Type 0} {shown : A → Tokens} {test : A → Bool} {c low high : ℕ} {text : Text} {p : ℕ} {g : Got (List A)} →
    Read (Several shown test c low high) text p g →
    ItemsRead shown test c text p g
several_read {g} k =
    record { stand = trail_trails g.rest k.split k.spells.trail; good = k.spells.each; used = read-used k }

module _
    {A : Type 0} (shown : A → Tokens) (test : A → Bool) (c : ℕ) (one : Reader A)
    (h : (text : Text) (p : ℕ) (g : Got A) → one text p ≡ passed g → ItemRead shown test text p g) where
  -- at most so many
  pub up_to-sound :
      (n : ℕ) (text : Text) (p : ℕ) (g : Got (List A)) →
      up_to n c one text p ≡ passed g →
      ItemsRead shown test c text p g × (length g.what ≤ n)
  up_to-sound n text p g e =
      let k = comes-passed ((up_to-reads shown test c one (item_reads shown test one h) n).comes text p) e in
      (several_read k, k.spells.few)

  -- as many as there are: one at least, where the first one's byte is next
  pub more-sound :
      (text : Text) (p : ℕ) (g : Got (List A)) →
      more c one text p ≡ passed g →
      ItemsRead shown test c text p g × (begins_with c (behind_blanks text) ≡ true → 1 ≤ length g.what)
  unfolding more
  more-sound text p g e = (
    (up_to-sound (length text) text p g e).0,
    λ next. (comes-passed (more-comes shown test c one (item_reads shown test one h) text p next) e).spells.many,
  )

-- further operands of an all-of or any-of behind its first
pub record JoiningRead (formula : Bool) (scope : ℕ) (first : Tree) (text : Text) (p : ℕ) (g : Got Tree) : Type 0 where
  pub joins : is_join g.what ≡ true
  pub good : good_tree first formula ≡ true → good_tree g.what formula ≡ true
  pub further : Tokens
  pub all-tokens : tokens g.what scope ≡ enclosed first (tokens first scope) ++ further
  pub stand : Trails further text g.rest
  pub used : Used text p g

-- a tree with no parentheses around it
pub record WholeRead (formula : Bool) (scope : ℕ) (text : Text) (p : ℕ) (g : Got Tree) : Type 0 where
  pub stand : Trails (tokens g.what scope) text g.rest
  pub good : good_tree g.what formula ≡ true
  pub used : Used text p g

module _
    (formula : Bool) (scope : ℕ) (one : Reader Tree)
    (h : (text : Text) (p : ℕ) (g : Got Tree) → one text p ≡ passed g → OperandRead formula scope text p g) where
  operand-reads : Reads ⊥ (Operand formula scope) one
  operand-reads = item_reads (shown scope) (λ t. good_tree t formula) one h

  pub joining-sound :
      (first : Tree) (text : Text) (p : ℕ) (g : Got Tree) →
      joining stop first one text p ≡ passed g →
      JoiningRead formula scope first text p g
  joining-sound first text p g e =
      let k = comes-passed ((further-reads formula scope one operand-reads first).comes text p) e in
      let j = k.spells in
      record {
        joins = j.joins;
        good = j.good;
        further = j.further;
        all-tokens = j.all;
        stand = trail_trails g.rest k.split j.trail;
        used = read-used k;
      }

  pub whole-sound : (text : Text) (p : ℕ) (g : Got Tree) → whole one text p ≡ passed g → WholeRead formula scope text p g
  whole-sound text p g e =
      let k = comes-passed ((whole-reads formula scope one operand-reads).comes text p) e in
      record { stand = trail_trails g.rest k.split k.spells.trail; good = k.spells.good; used = read-used k }

-- a restriction of a quantifier of v variables from x on, and its excluded tuples
pub record RestrictionRead (v x : ℕ) (text : Text) (p : ℕ) (g : Got Restricted) : Type 0 where
  pub stand :
      let c = g.what.restriction in
      Stand (restricted (enclosed c (tokens c (x + v))) (map (excludes x) g.what.excluded)) text g.rest
  pub good : good_tree g.what.restriction false ≡ true
  pub tuples : all (good_tuple v) g.what.excluded ≡ true
  pub used : Used text p g

pub restriction-sound :
    (room v x : ℕ) →
    1 ≤ v →
    (text : Text) (p : ℕ) (g : Got Restricted) →
    (readers room).restriction v x text p ≡ passed g →
    RestrictionRead v x text p g
restriction-sound room v x l text p g e =
    let k = comes-passed (((readers-read {told = ⊥} room).restriction v x l).comes text p) e in
    let r = k.spells in
    record { stand = fill-stands g.rest k.split r.fill; good = r.good; tuples = r.tuples; used = read-used k }

-- a text that is read spells its tree
pub tptp_sound : (room : ℕ) (text : Text) (tree : Tree) → read_tptp room text ≡ passed tree → Spells text tree
unfolding read_tptp tree_of
tptp_sound room text tree e = go (read_whole room text 0) refl e
  where
    go : (o : Outcome (Got Tree)) → read_whole room text 0 ≡ o → tree_of o ≡ passed tree → Spells text tree
    go (refused f q) is e = refused-passed e
    go (passed g) is e =
        rw (← passed-same e)
        (read_whole_lem (comes-passed ((text-reads {told = ⊥} room).comes text 0) is) (text-last room text 0 g is))
