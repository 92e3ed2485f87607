-- What the listing of a restriction says: the room in scratch, and the list that is made of whatever list stands there.
use Rattle.std.specs.Prelude.{ℕ, ◌+◌, ◌*◌, ◌-◌, ◌≤◌, ◌<◌, ◌≡◌, Bool, true, false, List, length, take, Option, Some, None, IfSome}
use Rattle.model.specs.Words.{Words, value}
use Rattle.model.specs.Lists.{gather}
use Rattle.model.specs.Log.{rows}
use Rattle.model.specs.Tree.{Tree, Trees, join, some, count}
use Rattle.model.specs.Level.{restriction}
use Rattle.model.specs.Listing.{Environment, matches, list, entries}
use Rattle.laws.specs.Reading.Nodes.{Node, Nodes}
use Rattle.policies.specs.Standing.{terms_at}
use Rattle.listing.specs.declared.room.Room.{Room}
use Rattle.listing.specs.declared.room.Made.{Made}
use Rattle.environments.specs.Listed.{Listed}
use Rattle.environments.specs.Lists.{Moved}
use Rattle.listing.specs.Keeping.{Leaf}

-- the room holds a list
pub record Holding (room : Room) (scratch : Words) (es : List Environment) : Type 0 where
  pub listed : Listed scratch room.from es
  pub long : length es ≡ room.count

-- where the list stands that was made, whatever was handed in: behind the lists that are still read; and the index behind the node
pub record Placed (room : Room) (next : ℕ) (m : Made) : Type 0 where
  pub low : room.base ≤ m.room.from
  pub free : m.room.base ≡ m.room.from + m.room.count
  pub limit : m.room.limit ≡ room.limit
  pub behind : m.next ≡ next

-- what was made of a list handed in: the list, at a cost in places
pub record ListStands (made : List Environment) (cost : ℕ) (room : Room) (after : Words) (to : Room) : Type 0 where
  pub counted : to.used ≡ room.used + cost
  pub high : to.base ≤ room.base + cost
  pub holds : Holding to after made

-- the places ran out, exactly if the cost does not fit; or the list stands
abbrev pub ListTells : (made : List Environment) (cost : ℕ) (room : Room) (after : Words) (r : Option Made) → Type 0
ListTells made cost room after None = room.limit < room.used + cost
ListTells made cost room after (Some m) = ListStands made cost room after m.room

-- it is told, and what stands before the first free place is kept
pub record Tells (made : List Environment) (cost : ℕ) (room : Room) (before after : Words) (r : Option Made) : Type 0 where
  pub told : ListTells made cost room after r
  pub long : length after ≡ length before
  pub front : take (17 * room.base) after ≡ take (17 * room.base) before

-- what a node makes of any list in its room
abbrev pub Makes :
    (f : List Environment → List Environment) (cost : List Environment → ℕ) (next : ℕ) (room : Room) (before after : Words) (r : Option Made) → Type 0
Makes f cost next room before after r =
    IfSome r (Placed room next) × ((es : List Environment) → Holding room before es → Tells (f es) (cost es) room before after r)

-- the five numbers of a room
pub record Numbers (room : Room) (from count base used limit : ℕ) : Type 0 where
  pub is-from : room.from ≡ from
  pub is-count : room.count ≡ count
  pub is-base : room.base ≡ base
  pub is-used : room.used ≡ used
  pub is-limit : room.limit ≡ limit

-- the room after a list of so many entries was made in its first free places
abbrev pub Filled : (room : Room) (n : ℕ) (to : Room) → Type 0
Filled room n to = Numbers to room.base n (room.base + n) (room.used + n) room.limit

-- the atom at an index has a term, and its terms are there
abbrev pub TermsThere : (words : Words) (at : ℕ) → Type 0
TermsThere words at = (1 ≤ value words (at + 2)) × (at + 3 + 2 * value words (at + 2) ≤ length words)

-- what the true rows of the predicate of the atom at an index make of environments, one after another
abbrev pub matched : (words log : Words) (at : ℕ) (es : List Environment) → List Environment
matched words log at =
    gather (matches (rows log) (value words (at + 1)) (terms_at words (at + 3) (value words (at + 2))))

abbrev pub MakesAtom : (words log : Words) (at : ℕ) (room : Room) (before after : Words) (r : Option Made) → Type 0
MakesAtom words log at room before after r =
    Makes (matched words log at) (λ es. length (matched words log at es)) (at + 3 + 2 * value words (at + 2)) room before after r

-- the room after a second list of the same entries was counted; for the next branch; and with the lists of all branches
abbrev pub Counted : (room to : Room) → Type 0
Counted room to = Numbers to room.from room.count room.base (room.used + room.count) room.limit

abbrev pub NextBranch : (room branch to : Room) → Type 0
NextBranch room branch to = Numbers to room.from room.count (room.base + branch.count) branch.used room.limit

abbrev pub Joined : (room : Room) (base made : ℕ) (to : Room) → Type 0
Joined room base made to = Numbers to base made room.base (room.used + made) room.limit

-- what a join is asked and leaves where a child has made its list: an all-of (true) hands it to the next child, an any-of moves it behind
-- the lists of the branches before
abbrev pub Passing : (b : Bool) (handed to : Room) (before : Words) → Type 0
Passing true handed to before = Unit {0}
Passing false handed to before =
    (handed.base ≤ to.from) × (to.limit ≡ handed.limit) × (17 * handed.limit ≤ length before)

abbrev pub Passed : (b : Bool) (handed to : Room) (before after : Words) (r : Room) → Type 0
Passed true handed to before after r = (r ≡ to) × (after ≡ before)
Passed false handed to before after r = NextBranch handed to r × Moved before after to.from to.count handed.base

-- how many entries the join's own list has, and the room with it
abbrev pub own_entries : (b : Bool) (room handed : Room) → ℕ
own_entries true room handed = handed.count
own_entries false room handed = handed.base - room.base

abbrev pub Ended : (b : Bool) (room handed to : Room) → Type 0
Ended true room handed to = Counted handed to
Ended false room handed to = Joined handed room.base (handed.base - room.base) to

abbrev pub Closes : (every : Bool) (room handed : Room) (next : ℕ) (made : Option Made) → Type 0
Closes every room handed next None = handed.limit - handed.used < own_entries every room handed
Closes every room handed next (Some m) =
    (own_entries every room handed ≤ handed.limit - handed.used) × Ended every room handed m.room × (m.next ≡ next)

-- what the node at an index makes of a list; the children of an all-of (true) or any-of; the child of a "some"
abbrev pub MakesTree :
    (table log : Words) (c : Tree) (scope next : ℕ) (room : Room) (before after : Words) (r : Option Made) → Type 0
MakesTree table log c scope next room before after r =
    Makes (list table (rows log) c scope) (entries table (rows log) c scope) next room before after r

abbrev pub MakesNode :
    (table words log : Words) (above scope at : ℕ) (room : Room) (before after : Words) (r : Option Made) → Type 0
MakesNode table words log above scope at room before after r =
    (c : Tree) (next : ℕ) →
    Node table words restriction above scope at c next →
    MakesTree table log c scope next room before after r

abbrev pub MakesJoin :
    (b : Bool) (table words log : Words) (above scope n at : ℕ) (room : Room) (before after : Words) (r : Option Made) →
    Type 0
MakesJoin b table words log above scope n at room before after r =
    (ts : Trees) (next : ℕ) →
    Nodes table words restriction above scope at ts next →
    count ts ≡ n →
    MakesTree table log (join b ts) scope next room before after r

abbrev pub MakesSome :
    (table words log : Words) (above scope at : ℕ) (room : Room) (before after : Words) (r : Option Made) → Type 0
MakesSome table words log above scope at room before after r =
    (c : Tree) (next : ℕ) →
    Node table words restriction (above + 1) (scope + 1) (at + 1) c next →
    MakesTree table log (some c) scope next room before after r

-- what a leaf at an index keeps of a list
abbrev pub MakesKept : (table words log : Words) (at : ℕ) (room : Room) (before after : Words) (r : Option Made) → Type 0
MakesKept table words log at room before after r =
    (above scope : ℕ) (c : Tree) (next : ℕ) →
    Node table words restriction above scope at c next →
    Leaf c →
    MakesTree table log c scope next room before after r
