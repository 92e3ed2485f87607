-- `trees::putting::put_node` meets its contract, from what the two calls lay over the buffer.
use Prim.Native.Nat.{ℕ, ◌+◌, ◌*◌, ◌≤◌}
use native.Mathlib.Omega.{arith}
use mathlib.Core.Path.{◌≡◌}
use lib.ListN.{length}
use Rattle.model.specs.Tree.{Tree}
use Rattle.model.specs.Putting.{put}
use Rattle.trees.proofs.Rows.{tree-word}
use Rattle.trees.specs.Grown.{Grown}
use Rattle.words.specs.Laying.{laid}
use Rattle.trees.specs.Own.{own_words}
use Rattle.trees.proofs.OwnLaws.{terms_of}
use Rattle.trees.proofs.NodeWords.{node-terms, node-few, node-written, mid_long}
use Rattle.trees.proofs.putting.put_node.Goals as goal

pub terms-n-requires : goal.terms-n-requires
terms-n-requires c = let (t, next, g) = c.requires.0 in tree-word _ _ next t g

pub overflow_mul-first : goal.overflow_mul-first
overflow_mul-first c =
    let few : let a = c.args in (2 * c.terms-n.result ≤ a.own) × (a.at + a.own ≤ length a.words.now) = let (t, next, g) = c.requires.0 in
    node-few _ _ _ c.requires.1 c.args.own c.terms-n.result c.requires.2 c.terms-n.ensures t next g in
    omega (arith, few, c.ranges.own)

pub overflow_sub-first : goal.overflow_sub-first
overflow_sub-first c =
    let few : let a = c.args in (2 * c.terms-n.result ≤ a.own) × (a.at + a.own ≤ length a.words.now) = let (t, next, g) = c.requires.0 in
    node-few _ _ _ c.requires.1 c.args.own c.terms-n.result c.requires.2 c.terms-n.ensures t next g in
    (few).0

pub copy_words-requires : goal.copy_words-requires
copy_words-requires c =
    let few : let a = c.args in (2 * c.terms-n.result ≤ a.own) × (a.at + a.own ≤ length a.words.now) = let (t, next, g) = c.requires.0 in
    node-few _ _ _ c.requires.1 c.args.own c.terms-n.result c.requires.2 c.terms-n.ensures t next g in
    (omega (arith, few), omega (arith, few, c.requires.3))

pub put_terms-requires : goal.put_terms-requires
put_terms-requires c =
    let few : let a = c.args in (2 * c.terms-n.result ≤ a.own) × (a.at + a.own ≤ length a.words.now) = let (t, next, g) = c.requires.0 in
    node-few _ _ _ c.requires.1 c.args.own c.terms-n.result c.requires.2 c.terms-n.ensures t next g in
    let (t, next, g) = c.requires.0 in
    let long =
    mid_long _ _ _ c.requires.1 c.args.own c.terms-n.result c.requires.2 c.terms-n.ensures t next g _ c.args.to c.requires.3 _
    c.copy_words.ensures in (
      (terms_of t, node-terms _ _ _ c.requires.1 c.args.own c.terms-n.result c.requires.2 c.terms-n.ensures t next g),
      omega (arith, few, long, c.requires.3),
    )

pub returns : goal.returns
returns c =
    let written : let a = c.args in (t : Tree) (next : ℕ) → Grown a.words.now a.at t next → c.put_terms.new.out ≡ laid a.out.now a.to (own_words (put
    t a.numbers.now)) = λ t next g. node-written _ _ _ c.requires.1 c.args.own c.terms-n.result c.requires.2 c.terms-n.ensures t next g _
    c.args.to c.requires.3 _
    c.copy_words.ensures
    _
    _
    c.put_terms.ensures in
    written
