-- The examples P1 to P16, as one list of cases and one claim about the list.
use Rattle.std.specs.Prelude.{ℕ, zero, suc, ◌≡◌, refl, List, [], ◌∷◌, map, length, pos}
use Rattle.model.specs.Words.{Words}
use Rattle.model.specs.Answer.{Answer, number, place, count}
use Rattle.model.specs.Calls.{zeros, check_policy, reduce_call}
use Rattle.model.specs.Words
use Rattle.model.specs.Lists
use Rattle.model.specs.Answer
use Rattle.model.specs.Table
use Rattle.model.specs.Log
use Rattle.model.specs.Tag
use Rattle.model.specs.Tree
use Rattle.model.specs.Level
use Rattle.model.specs.Reading
use Rattle.model.specs.Mode
use Rattle.model.specs.Truth
use Rattle.model.specs.Listing
use Rattle.model.specs.Putting
use Rattle.model.specs.Joining
use Rattle.model.specs.Reduction
use Rattle.model.specs.Dual
use Rattle.model.specs.Calls
use Rattle.model.specs.Runs

-- what comes out of a call: number, place and count; all words of buffer and scratch
pub record Left : Type 0 where
  pub number : ℕ
  pub place : ℕ
  pub count : ℕ
  pub buffer : Words
  pub scratch : Words

-- a call over table T, and what must come out
pub data Case : Type 0 where
  -- check a policy: the policy; number, place and count
  check : List ℕ → ℕ → ℕ → ℕ → Case
  -- reduce: policy, log, words of scratch; number, place, count and the words of the buffer lent. Scratch must be zero
  reduce : List ℕ → List ℕ → ℕ → ℕ → ℕ → ℕ → List ℕ → Case

unfoldable pub words : List ℕ → Words
words ns = map pos ns

unfoldable pub left : Answer → Words → Words → Left
left a buffer scratch = record { number = number a; place = place a; count = count a; buffer = buffer; scratch = scratch }

-- send, open; consent, complete; believes, its argument an input, open
unfoldable pub T : Words
T = words (3 ∷ 0 ∷ 0 ∷ 2 ∷ 0 ∷ 1 ∷ 1 ∷ 1 ∷ 0 ∷ [])

unfoldable pub comes_out : Case → Left
comes_out (check policy n p k) = left (check_policy T (words policy)) [] []
comes_out (reduce policy log scratch n p k buffer) =
    let r = reduce_call T (words policy) (words log) scratch (length buffer) in left r.answer r.buffer r.scratch

unfoldable pub must_come_out : Case → Left
must_come_out (check policy n p k) = record { number = n; place = p; count = k; buffer = []; scratch = [] }
must_come_out (reduce policy log scratch n p k buffer) =
    record { number = n; place = p; count = k; buffer = words buffer; scratch = zeros scratch }

unfoldable pub A : List ℕ
A = 0 ∷ 1 ∷ 7 ∷ 9 ∷ 100 ∷ 0 ∷ 0 ∷ 0 ∷ 1 ∷ 1 ∷ 9 ∷ 50 ∷ 0 ∷ 0 ∷ 0 ∷ 0 ∷ []

-- for all: send (x0, x1, x2) implies believes (x1)
unfoldable pub F : List ℕ
F = 8 ∷ 3 ∷ 0 ∷ 2 ∷ 0 ∷ 3 ∷ 1 ∷ 0 ∷ 1 ∷ 1 ∷ 1 ∷ 2 ∷ 2 ∷ 2 ∷ 1 ∷ 1 ∷ 1 ∷ []

-- there is a consent of 9 at a time of at most 100
unfoldable pub E : List ℕ
E = 9 ∷ 1 ∷ 0 ∷ 2 ∷ 1 ∷ 2 ∷ 0 ∷ 9 ∷ 1 ∷ 0 ∷ 4 ∷ 0 ∷ 1 ∷ 0 ∷ 0 ∷ 100 ∷ []

-- n nested all-ofs
unfoldable pub nested : ℕ → List ℕ
nested zero = 1 ∷ []
nested (suc n) = 6 ∷ 2 ∷ 1 ∷ nested n

unfoldable pub cases : List Case
cases =
    -- P1 to P4
    reduce (2 ∷ 0 ∷ 3 ∷ 0 ∷ 7 ∷ 0 ∷ 9 ∷ 0 ∷ 100 ∷ []) A 0 0 0 1 (1 ∷ 0 ∷ [])
    ∷ reduce (2 ∷ 1 ∷ 2 ∷ 0 ∷ 9 ∷ 0 ∷ 51 ∷ []) A 0 0 0 1 (0 ∷ 0 ∷ [])
    ∷ reduce (2 ∷ 2 ∷ 1 ∷ 0 ∷ 9 ∷ []) A 0 0 0 5 (2 ∷ 2 ∷ 1 ∷ 0 ∷ 9 ∷ 0 ∷ [])
    ∷ reduce (3 ∷ 1 ∷ 2 ∷ 0 ∷ 9 ∷ 0 ∷ 51 ∷ []) A 0 0 0 1 (1 ∷ 0 ∷ [])
    -- P5 and P6
    ∷ reduce (6 ∷ 2 ∷ 1 ∷ 2 ∷ 2 ∷ 1 ∷ 0 ∷ 9 ∷ []) A 0 0 0 5 (2 ∷ 2 ∷ 1 ∷ 0 ∷ 9 ∷ 0 ∷ [])
    ∷ reduce (6 ∷ 2 ∷ 2 ∷ 2 ∷ 1 ∷ 0 ∷ 9 ∷ 0 ∷ []) A 0 0 0 1 (0 ∷ 0 ∷ [])
    -- P7 and P8
    ∷ reduce (4 ∷ 50 ∷ 0 ∷ 50 ∷ 0 ∷ 100 ∷ []) A 0 0 0 1 (1 ∷ 0 ∷ [])
    ∷ reduce (4 ∷ 51 ∷ 0 ∷ 50 ∷ 0 ∷ 100 ∷ []) A 0 0 0 1 (0 ∷ 0 ∷ [])
    -- P9: in scratch and a buffer that just do, then one word less of scratch, one word less of buffer
    ∷ reduce F A 34 0 0 27
    (6 ∷ 2 ∷ 2 ∷ 2 ∷ 1 ∷ 0 ∷ 9 ∷ 8 ∷ 3 ∷ 1 ∷ 7 ∷ 9 ∷ 100 ∷ 2 ∷ 0 ∷ 3 ∷ 1 ∷ 0 ∷ 1 ∷ 1 ∷ 1 ∷ 2 ∷ 2 ∷ 2 ∷ 1 ∷ 1 ∷ 1 ∷ [])
    ∷ reduce F A 33 11 0 0 (0 ∷ 0 ∷ [])
    ∷ reduce F A 34 12 0 0
    (0 ∷ 0 ∷ 0 ∷ 0 ∷ 0 ∷ 0 ∷ 0 ∷ 0 ∷ 0 ∷ 0 ∷ 0 ∷ 0 ∷ 0 ∷ 0 ∷ 0 ∷ 0 ∷ 0 ∷ 0 ∷ 0 ∷ 0 ∷ 0 ∷ 0 ∷ 0 ∷ 0 ∷ 0 ∷ 0 ∷ [])
    -- P10: in scratch that just does, then one word less
    ∷ reduce F [] 17 0 0 17 (8 ∷ 3 ∷ 0 ∷ 2 ∷ 0 ∷ 3 ∷ 1 ∷ 0 ∷ 1 ∷ 1 ∷ 1 ∷ 2 ∷ 2 ∷ 2 ∷ 1 ∷ 1 ∷ 1 ∷ 0 ∷ [])
    ∷ reduce F [] 16 11 0 0 (0 ∷ 0 ∷ [])
    -- P11 and P12
    ∷ reduce E A 34 0 0 1 (1 ∷ 0 ∷ [])
    ∷ reduce E [] 17 0 0 1 (0 ∷ 0 ∷ [])
    -- P13 and P14
    ∷ check (8 ∷ 1 ∷ 0 ∷ 2 ∷ 2 ∷ 1 ∷ 1 ∷ 0 ∷ 1 ∷ []) 7 3 0
    ∷ check (8 ∷ 1 ∷ 0 ∷ 1 ∷ 1 ∷ []) 7 0 0
    -- P15, reduced and checked, and P16
    ∷ reduce (nested 63) A 0 0 0 1 (1 ∷ 0 ∷ [])
    ∷ check (nested 63) 0 0 64
    ∷ check (nested 64) 4 191 0
    ∷ []

-- to unfold this is to unfold every definition that the calls compute with
unfoldable pub computing : Unit {0}
unfolding comes_out must_come_out cases words left T A F E nested Words.word Words.value Words.at_least Words.within Words.below Words.equal Words.equal_all Words.member Lists.span Lists.all Lists.any Lists.keep Lists.gather Answer.question Answer.number Answer.place Answer.count Answer.ask Answer.◌>>=◌ Answer.in_turn Answer.answer Table.predicates Table.arity Table.input Table.complete Table.good_record Table.ask_table Log.row_count Log.row_at Log.rows Log.front Log.arguments Log.says_true Log.good_row Log.same_atom Log.ask_log Log.holds Log.value_in Tag.tags Tag.tag_of Tree.count Tree.encode_term Tree.encode Level.under Level.quantifier_cost Level.cost Level.greatest Reading.is_restriction Reading.is_formula Reading.places Reading.repeat Reading.term_at Reading.good_kind Reading.in_scope Reading.own Reading.good_predicate Reading.questions Reading.build Reading.read_node Reading.read_policy Mode.size Mode.is_bound Mode.is_variable Mode.inputs_bound Mode.bindings Mode.ask_modes Truth.Extends Truth.number_of Truth.sum_at_most Truth.Is Listing.outer Listing.bind Listing.release Listing.number_in Listing.look Listing.numbers_in Listing.meet Listing.fit Listing.matches Listing.is_false Listing.list Listing.entries Putting.put_term Putting.put Joining.append Joining.decides Joining.decided Joining.parts Joining.parts_all Joining.assemble Joining.joined Reduction.settle Reduction.fresh Reduction.each Reduction.most Reduction.tuple Reduction.instances Reduction.closed Reduction.reduce Reduction.need Dual.dual Calls.zeros Calls.filled Calls.result Calls.ask_policy Calls.write Calls.check_policy Calls.check_log Calls.ask_residual Calls.ask_reduction Calls.reduce_call Calls.dual_call Runs.accepted Runs.leaves Runs.next Runs.after Runs.held Runs.clear Runs.proviso
computing = tt

-- the claim
pub examples : map comes_out cases ≡ map must_come_out cases
unfolding computing
examples = refl
