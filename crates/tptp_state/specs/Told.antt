-- What is known behind a part of a policy that was read.
use Rattle.std.specs.Prelude.{ℕ, ◌+◌, ◌≤◌, ◌<◌, min, ◌≡◌, Bool, true, false, cond, not, ◌&&◌, ltb, eqb, Result, Ok, Err}
use Rattle.std.proofs.lemmas.List.Edits.{sets}
use Rattle.model.specs.Words.{Words, policy_limit, level_limit, scope_limit}
use Rattle.model.specs.Lists.{span, all}
use Rattle.model.specs.Answer.{Outcome, passed, refused, ask, ◌>>=◌}
use Rattle.model.specs.Tree.{Tree, encode}
use Rattle.model.specs.Level.{Role, restriction}
use Rattle.model.specs.Reading.{is_formula}
use Rattle.model.specs.Tptp.{good_tree}
use Rattle.model.specs.Mode.{Variables, size, bindings, ask_modes}
use Rattle.laws.specs.Reading.Nodes.{Node}
use Rattle.laws.specs.Reading.Trees.{ask_tree}
use Rattle.tables.specs.Checked.{outcome}
use Rattle.model.specs.declared.Refusal.TheVariants.{Level, Variable, Mode}
use Rattle.modes.specs.declared.marks.Marks.{Marks}
use Rattle.modes.specs.Mode.{set_of, none}
use Rattle.model.specs.declared.Refused.{Refused}
use Rattle.tptp_tokens.specs.Laying.{most_words}
use Rattle.tptp_leaves.specs.Leaves.{LeafStands}
use Rattle.tptp_state.specs.declared.state.State.{State}

-- questions that passed
abbrev pub Passed : Result (Unit {0}) Refused
Passed = Ok tt

-- what question 7 comes to: the variables that are bound, by their marks, or a refusal
abbrev pub told : (moded : Result (Unit {0}) Refused) (set : Marks) → Outcome Variables
told (Ok u) set = passed (set_of set)
told (Err e) set = refused e.0 e.1

-- the same refusal at another place
unfoldable pub moved : {A : Type 0} → ℕ → Outcome A → Outcome A
moved place (refused q p) = refused q place
moved place (passed a) = passed a

-- what a reading may begin with: the words are counted within their limit, and a node that stands under a level and with variables
-- beyond the limits was refused
pub record Ready (above scope : ℕ) (s : State) : Type 0 where
  pub counted : s.words ≤ most_words
  pub level : s.asked ≡ Passed → above ≤ level_limit
  pub range : s.asked ≡ Passed → scope ≤ scope_limit

-- question 7: of a formula (true), or of a restriction with the variables that it binds
abbrev pub Modes : (b : Bool) (t : Tree) (table : Words) (scope : ℕ) (s r : State) → Type 0
Modes true t table scope s r = outcome r.moded ≡ (outcome s.moded >>= λ _. ask_modes t table scope s.words)
Modes false t table scope s r =
    told r.moded r.set ≡ (told s.moded s.set >>= λ bound. bindings t table bound scope s.words)

-- a tree that fits the limit of words: what comes of questions 4 to 6, of question 7 if these pass, and its words in the buffer
pub record Settled (table : Words) (t : Tree) (role : Role) (above scope : ℕ) (s r : State) (out out' : Words) : Type 0 where
  pub asked : outcome r.asked ≡ (outcome s.asked >>= λ _. ask_tree t table role above scope s.words)
  pub modes : r.asked ≡ Passed → Modes (is_formula role) t table scope s r
  pub laid : out' ≡ sets out s.words (encode t)

-- a tree was read in a role, under a node at a level, with so many variables in scope
pub record Told (table : Words) (t : Tree) (role : Role) (above scope : ℕ) (s r : State) (out out' : Words) : Type 0 where
  pub counted : r.words ≡ min (s.words + size t) most_words
  pub passes : r.asked ≡ Passed → s.asked ≡ Passed
  pub settled : s.words + size t ≤ policy_limit → Settled table t role above scope s r out out'

-- question 7 of a node of a restriction whose words stand apart
pub record LeafBound (table own : Words) (above scope : ℕ) (s r : State) : Type 0 where
  pub words : r.words ≡ s.words
  pub asked : r.asked ≡ s.asked
  pub modes :
      s.asked ≡ Passed → (c : Tree) (next : ℕ) →
      Node table own restriction above scope 0 c next →
      told r.moded r.set ≡ (told s.moded s.set >>= λ bound. moved s.words (bindings c table bound scope 0))

-- a node with none below it, whose words stand apart
abbrev pub LeafTold : (table own : Words) (role : Role) (above scope : ℕ) (s r : State) (out out' : Words) → Type 0
LeafTold table own role above scope s r out out' =
    (t : Tree) → LeafStands own t → good_tree t (is_formula role) ≡ true → Told table t role above scope s r out out'

-- behind the first words of a node, which are so many: questions 4 and 6 at it, and the marks for what is below
pub record Entered (n : ℕ) (level range : Bool) (marks : Marks) (s r : State) : Type 0 where
  pub words : r.words ≡ min (s.words + n) most_words
  pub asked : outcome r.asked ≡ (outcome s.asked >>= λ _. ask level Level s.words >>= λ _. ask range Variable s.words)
  pub moded : r.moded ≡ s.moded
  pub set : r.set ≡ marks

-- the variable of a "some" at an index was bound by its child, and is dropped
pub record Dropped (scope w : ℕ) (s r : State) : Type 0 where
  pub words : r.words ≡ s.words
  pub asked : r.asked ≡ s.asked
  pub modes :
      scope < scope_limit →
      told r.moded r.set
      ≡ (told s.moded s.set >>= λ inner. ask (inner scope) Mode w >>= λ _. passed (λ x. inner x && not (eqb x scope)))
  pub beyond : scope_limit ≤ scope → r ≡ s

-- the variables of a quantifier at an index are bound by its restriction
pub record Introduced (scope v w : ℕ) (s r : State) : Type 0 where
  pub words : r.words ≡ s.words
  pub asked : r.asked ≡ s.asked
  pub set : r.set ≡ s.set
  pub modes :
      scope + v ≤ scope_limit →
      outcome r.moded ≡ (told s.moded s.set >>= λ bound. ask (all bound (span scope v)) Mode w)
  pub beyond : scope_limit < scope + v → r.moded ≡ s.moded

-- the variables below a number, if it is at most sixteen, else none
pub record Outer (scope : ℕ) (set : Marks) : Type 0 where
  pub holds : scope ≤ scope_limit → (x : ℕ) → set_of set x ≡ ltb x scope
  pub beyond : scope_limit < scope → set ≡ none

-- what an operand of an all-of (true) or any-of is handed: the marks of the one before, or those of the start
abbrev pub Handed : (b : Bool) (start : Marks) (s r : State) → Type 0
Handed b start s r = r ≡ record { words = s.words; asked = s.asked; moded = s.moded; set = cond b s.set start }

-- what is known behind an operand: as behind it, with the marks of those bound by all so far
pub record Joined (b : Bool) (before : Marks) (child r : State) : Type 0 where
  pub words : r.words ≡ child.words
  pub asked : r.asked ≡ child.asked
  pub moded : r.moded ≡ child.moded
  pub every : b ≡ true → r.set ≡ child.set
  pub some : b ≡ false → (x : ℕ) → set_of r.set x ≡ (set_of before x && set_of child.set x)
