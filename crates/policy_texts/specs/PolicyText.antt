-- What the parts of the calls that read and write policies as text say on the way to them.
use Rattle.std.specs.Prelude.{ℕ, ◌-◌, ◌≤◌, ◌≡◌, ◌++◌, length, take, leb}
use Rattle.model.specs.declared.Refusal.TheVariants.{PolicyLength, Room}
use Rattle.model.specs.Words.{Words, policy_limit}
use Rattle.model.specs.Bytes.{Text}
use Rattle.model.specs.Answer.{Answer, Outcome, ask, answer, count, ◌>>=◌}
use Rattle.model.specs.Calls.{zeros, filled, ask_policy_reading, ask_policy_writing}
use Rattle.tables.specs.Checked.{outcome}
use Rattle.tptp_state.specs.declared.state.State.{State}
use Rattle.text.specs.Written.{LeavesText}

-- questions 2, 4 to 7 and 12 of a text that was read, by what is known behind it
unfoldable pub settled_policy : ℕ → State → Outcome (Unit {0})
settled_policy room s = do
  _ ← ask (leb s.words policy_limit) PolicyLength 0
  _ ← outcome s.asked
  _ ← outcome s.moded
  ask (leb s.words room) Room 0

-- the answer of the whole reading, and the words that it counts, at the front of so many
pub record ReadsPolicy (table : Words) (text : Text) (room : ℕ) (after : Words) (r : Answer) : Type 0 where
  pub answered : r ≡ answer length (ask_policy_reading table text room)
  pub fits : count r ≤ room
  pub wrote : take (count r) after ++ zeros (room - count r) ≡ filled room (ask_policy_reading table text room)

-- the answer of the whole writing, and the bytes that it counts, at the front of so many
abbrev pub WritesPolicy : (table policy : Words) (room : ℕ) (after : Text) (r : Answer) → Type 0
WritesPolicy table policy room after r = LeavesText (ask_policy_writing table policy room) room after r
