-- What the reading of formulas and restrictions comes to.
use Rattle.std.specs.Prelude.{ℕ, zero, suc, ◌+◌, ◌*◌, ◌≤◌, min, ◌≡◌, Bool, true, false, cond, ◌&&◌, List, length, eqb, slice_get, Some, Result, Ok, Err}
use Rattle.std.proofs.lemmas.List.Edits.{sets}
use Rattle.model.specs.Words.{Words, policy_limit}
use Rattle.model.specs.Lists.{gather}
use Rattle.model.specs.Bytes.{Text, bytes, ampersand, bar, exclamation, parenthesis, interrogation}
use Rattle.model.specs.Answer.{Outcome, refused, ◌>>=◌}
use Rattle.model.specs.Tree.{Tree, Trees, nil, cons, encode_all}
use Rattle.model.specs.Level.{Role, restriction}
use Rattle.model.specs.Reading.{is_formula}
use Rattle.model.specs.Mode.{Variables, bindings_all, bindings_any, ask_modes_all}
use Rattle.model.specs.TptpReading as R
use Rattle.model.specs.TptpReading.{Reader, Readers, give, stop, token, more, trees, joining, excluding, no_readers, readers}
use Rattle.laws.specs.Reading.Trees.{ask_trees}
use Rattle.tables.specs.Checked.{outcome}
use Rattle.text.specs.declared.cursor.Cursor.{Cursor}
use Rattle.tptp_tokens.specs.Steps.{from, Value, Valued}
use Rattle.tptp_tokens.specs.Laying.{most_words}
use Rattle.modes.specs.declared.marks.Marks.{Marks}
use Rattle.tptp_state.specs.Told.{Passed, told, Ready, Told}
use Rattle.tptp_state.specs.declared.state.State.{State}
use Rattle.model.specs.declared.Refusal.{Refusal}

-- how many were read: none, if they were refused
abbrev pub count_of : (listed : Result ℕ Refusal) → ℕ
count_of (Ok n) = n
count_of (Err e) = 0

-- a reader comes to something of which facts hold, together with a number; or to a refusal
abbrev pub Numbered : {A : Type 0} (reader : Reader A) (facts : ℕ → A → Type 0) (old new : Cursor) (r : Result ℕ Refusal) → Type 0
Numbered reader facts old new (Ok n) = Value reader (facts n) old new
Numbered reader facts old new (Err e) = from reader old ≡ refused e new.at

-- what can be read behind one parenthesis more
unfoldable pub beneath : ℕ → Readers
beneath zero = no_readers
beneath (suc room) = readers room

-- where a reading may begin: the levels and variables have room in a number, and what is known is ready
pub record Begins (table : Words) (room above scope : ℕ) (s : State) : Type 0 where
  pub levels : above + 2 * room ≤ 600
  pub variables : scope + 4 * room ≤ 1024
  pub ready : Ready above scope s

-- a node was read, by a reader
abbrev pub NodeRead :
    (reader : Reader Tree) (table : Words) (role : Role) (above scope : ℕ) (s s' : State) (out out' : Words) (old new : Cursor)
    (r : Result (Unit {0}) Refusal) → Type 0
NodeRead reader table role above scope s s' out out' old new r =
    Valued reader (λ t. Told table t role above scope s s' out out') old new r

-- an operand, with room for so many parentheses
abbrev pub OperandRead :
    (room : ℕ) (table : Words) (role : Role) (above scope : ℕ) (s s' : State) (out out' : Words) (old new : Cursor)
    (r : Result (Unit {0}) Refusal) → Type 0
OperandRead room table role above scope s s' out out' old new r =
    NodeRead ((readers room).operand (is_formula role) scope) table role above scope s s' out out' old new r

-- the first byte of a text begins no node that has others below it
pub record LeafByte (formula : Bool) (text : Text) : Type 0 where
  pub join : slice_get text 0 ≡ Some parenthesis → ⊥
  pub some : slice_get text 0 ≡ Some interrogation → ⊥
  pub quantifier : (b : ℕ) → slice_get text 0 ≡ Some b → (eqb b exclamation && formula) ≡ false

-- question 7 of the operands of an all-of (true) or any-of
unfoldable pub bindings_of : Bool → Trees → Words → Variables → ℕ → ℕ → Outcome Variables
bindings_of true ts table bound next at = bindings_all ts table bound next at
bindings_of false ts table bound next at = bindings_any ts table bound next at

abbrev pub ModesAll : (formula b : Bool) (ts : Trees) (table : Words) (scope : ℕ) (s r : State) → Type 0
ModesAll true b ts table scope s r = outcome r.moded ≡ (outcome s.moded >>= λ _. ask_modes_all ts table scope s.words)
ModesAll false b ts table scope s r =
    told r.moded r.set ≡ (told s.moded s.set >>= λ bound. bindings_of b ts table bound scope s.words)

-- operands that fit the limit of words, in a role, and operands that were read: as a tree (`Told.antt`)
pub record SettledAll (table : Words) (b : Bool) (ts : Trees) (role : Role) (above scope : ℕ) (s r : State) (out out' : Words) : Type 0 where
  pub asked : outcome r.asked ≡ (outcome s.asked >>= λ _. ask_trees ts table role above scope s.words)
  pub modes : r.asked ≡ Passed → ModesAll (is_formula role) b ts table scope s r
  pub laid : out' ≡ sets out s.words (encode_all ts)

pub record ToldAll (table : Words) (b : Bool) (ts : Trees) (role : Role) (above scope : ℕ) (s r : State) (out out' : Words) : Type 0 where
  pub counted : r.words ≡ min (s.words + length (encode_all ts)) most_words
  pub passes : r.asked ≡ Passed → s.asked ≡ Passed
  pub settled : s.words + length (encode_all ts) ≤ policy_limit → SettledAll table b ts role above scope s r out out'

-- further operands, behind whatever the first was
abbrev pub Follows :
    (table : Words) (b : Bool) (role : Role) (above scope : ℕ) (start : Marks) (first last : State) (out out' : Words)
    (ts : List Tree) → Type 0
Follows table b role above scope start first last out out' ts =
    (f : Tree) (u : State) (old : Words) →
    u.set ≡ start →
    ToldAll table b (cons f nil) role above scope u first old out →
    ToldAll table b (cons f (trees ts)) role above scope u last old out'

-- so many operands with the first
pub record Further (table : Words) (b : Bool) (role : Role) (above scope : ℕ) (start : Marks) (first last : State) (out out' : Words) (count : ℕ) (ts : List Tree) : Type 0 where
  pub number : suc (length ts) ≡ count
  pub follows : Follows table b role above scope start first last out out' ts

abbrev pub ChildrenRead :
    (room : ℕ) (b : Bool) (table : Words) (role : Role) (above scope : ℕ) (start : Marks) (first last : State) (out out' : Words)
    (old new : Cursor) (r : Result ℕ Refusal) → Type 0
ChildrenRead room b table role above scope start first last out out' old new r =
    Numbered
    (more (cond b ampersand bar) ((readers room).operand (is_formula role) scope))
    (Further table b role above scope start first last out out')
    old new r

-- an all-of or any-of, and the closing parenthesis behind it; and also one operand that is none
abbrev pub chained : (one : Reader Tree) → Reader Tree
chained one = R.◌>>=◌ one λ first. R.◌>>=◌ (joining stop first one) λ t. R.◌>>=◌ (token (bytes ")")) λ _. give t

abbrev pub closed : (one : Reader Tree) → Reader Tree
closed one = R.◌>>=◌ (R.whole one) λ t. R.◌>>=◌ (token (bytes ")")) λ _. give t

-- a restriction was read, behind its excluded tuples in the words
pub record RestrictedTold (table : Words) (level x v : ℕ) (s last : State) (out out' : Words) (count : ℕ) (c : R.Restricted) : Type 0 where
  pub number : length c.excluded ≡ count
  pub size : length (gather (λ tuple. tuple) c.excluded) ≡ v * count
  pub handed : State
  pub between : Words
  pub words : handed.words ≡ min (s.words + v * count) most_words
  pub asked : handed.asked ≡ s.asked
  pub moded : handed.moded ≡ s.moded
  pub set : handed.set ≡ s.set
  pub laid : s.words + v * count ≤ most_words → between ≡ sets out s.words (gather (λ tuple. tuple) c.excluded)
  pub told : Told table c.restriction restriction level (x + v) handed last between out'

abbrev pub RestrictionRead :
    (reader : Reader R.Restricted) (table : Words) (level x v : ℕ) (s last : State) (out out' : Words) (old new : Cursor)
    (r : Result ℕ Refusal) → Type 0
RestrictionRead reader table level x v s last out out' old new r =
    Numbered reader (RestrictedTold table level x v s last out out') old new r

-- behind the parenthesis of a restriction: an all-of or any-of, or a restriction and its excluded tuples
abbrev pub exclusion : (room v x : ℕ) → Reader R.Restricted
exclusion room v x =
    R.◌>>=◌ ((readers room).operand false (x + v)) λ first.
    R.◌>>=◌ (excluding (suc room) (readers room) first ((readers room).operand false (x + v)) v x) λ r.
    R.◌>>=◌ (token (bytes ")")) λ _.
    give r
