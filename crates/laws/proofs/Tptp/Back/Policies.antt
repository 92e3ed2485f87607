-- What is written is read back: the text of an accepted policy spells its tree, has no more parentheses than there is room for,
-- and is read as this tree.
use Rattle.std.specs.Prelude.{ℕ, suc, ◌+◌, ◌*◌, ◌≤◌, max, ◌≡◌, refl, Bool, true, false, cond, List, [], ◌∷◌, eqb, ℤ}
use Rattle.std.proofs.Common.{arith}
use Rattle.model.specs.Words.{Words, word_sized, level_limit}
use Rattle.model.specs.Lists.{all, gather}
use Rattle.model.specs.Bytes.{bytes, small}
use Rattle.model.specs.Answer.{passed}
use Rattle.model.specs.Tree.{Tree, Trees, plain, atom, compare, join, quantifier, some, nil, cons}
use Rattle.model.specs.Level.{Role, restriction, formula, under, quantifier_cost, cost, greatest, greatest_all}
use Rattle.model.specs.Tptp.{Tokens, Stand, is_join, text_tokens, lower_word, good_tree, Spells, policy_text}
use Rattle.model.specs.TptpReading.{read_text}
use Rattle.model.specs.Tag.{Tag}
use Rattle.model.specs.Calls.{ask_policy}
use Rattle.laws.specs.Reading.Parts.{root}
use Rattle.laws.specs.Reading.Back.{cost-one, root-level}
use Rattle.laws.specs.Calls.Policy.{accepted-rules}
use Rattle.laws.specs.Tptp.Limits.Opened.{enclosing, tupled, restricting, opened, opened_all}
use Rattle.laws.specs.Tptp.Spelling.Sized.{formed-good}
use Rattle.laws.proofs.Tptp.Complete.Joins.{needed}
use Rattle.laws.proofs.Tptp.Complete.Policies.{tptp_complete}

-- tokens stand in front of their text with no blanks
stand-gather : (ts : Tokens) → Stand ts (gather (λ token. token) ts) []
unfolding Stand gather all
stand-gather [] = refl
stand-gather (token ∷ ts) = ([], gather (λ token. token) ts, refl, refl, stand-gather ts)

-- the text of a good tree spells it
pub text-spells : (tree : Tree) → good_tree tree true ≡ true → Spells (policy_text tree) tree
unfolding bytes small all lower_word Spells policy_text
text-spells tree good = (bytes "a", [], refl, good, stand-gather (text_tokens (bytes "a") tree), refl)

quantifier_costs : (role : Role) (b : Bool) → 1 ≤ quantifier_cost role b
unfolding cost
quantifier_costs role b = cost-one role (Tag.quantifier b)

-- a tree in parentheses has no fewer
opened-needed : (t : Tree) → opened t ≤ needed t
unfolding enclosing
opened-needed t = go (is_join t)
  where
    go : (b : Bool) → opened t ≤ cond b (suc (opened t)) (opened t)
    go true = omega arith
    go false = omega arith

-- excluded tuples add one parenthesis around the restriction, and have one of their own
restricting-most : (v : ℕ) (excluded : List (List ℤ)) (n : ℕ) → restricting v excluded n ≤ suc (max n 1)
unfolding restricting tupled
restricting-most v [] n = omega arith
restricting-most v (tuple ∷ tuples) n = go (eqb v 1)
  where
    go : (b : Bool) → suc (max n (cond b 0 1)) ≤ suc (max n 1)
    go true = omega arith
    go false = omega arith

-- at most two parentheses for a level
mutual
  unfolding is_join enclosing opened greatest

  needed-levels : (t : Tree) (role : Role) (above : ℕ) → needed t + 2 * above ≤ 2 * greatest t role above
  needed-levels (plain b) role above = omega arith
  needed-levels (atom b p ts) role above = omega arith
  needed-levels (compare b d x y) role above = omega arith
  needed-levels (join b ts) role above = omega (arith, opened-all ts (under role b) (above + 1))
  needed-levels (quantifier b v excluded c f) role above =
      let level = above + quantifier_cost role b in
      let one = quantifier_costs role b in
      let restrict = needed-levels c restriction level in
      let body = needed-levels f formula level in
      let most = restricting-most v excluded (needed c) in
      omega (arith, root-level c restriction level, cost-one restriction (root c))
  needed-levels (some c) role above = omega (arith, needed-levels c restriction (above + 1), opened-needed c)

  opened-all : (ts : Trees) (role : Role) (above : ℕ) → opened_all ts + 2 * above ≤ 2 * greatest_all ts role above
  opened-all nil role above = omega arith
  opened-all (cons t ts) role above = omega (arith, needed-levels t role above, opened-all ts role above)

-- a tree within the level limit has no more parentheses than there is room for
pub opened-levels : (tree : Tree) → greatest tree formula 0 ≤ level_limit → opened tree ≤ 255
opened-levels tree h = omega (arith, needed-levels tree formula 0, opened-needed tree)

-- the text of an accepted policy, whose words have 32 bits, is read as its tree
pub policy_back :
    (table policy : Words) (tree : Tree) →
    ask_policy table policy ≡ passed tree →
    all word_sized policy ≡ true →
    read_text (policy_text tree) ≡ passed tree
unfolding read_text
policy_back table policy tree e sized =
    let (ok, is, rules) = accepted-rules table policy tree e in
    let good = formed-good tree table true 0 rules.formed (rw is sized) in
    tptp_complete 255 (policy_text tree) tree (text-spells tree good) (opened-levels tree rules.levels)
