-- `tptp_state::state::State::settle_leaf` meets its contract.
use mathlib.Core.Path.{◌≡◌, refl, sym, ◌∙◌}
use mathlib.Core.Bool.{false}
use native.Mathlib.Omega.{arith}
use lib.ListN.{length}
use Rattle.model.specs.Level.{restriction}
use Rattle.model.specs.Reading.{is_formula}
use Rattle.model.specs.Tree.{encode}
use Rattle.laws.specs.Words.Tests.{clash}
use Rattle.policies.specs.Node.{as_tag, as_role}
use Rattle.policies.specs.declared.node.Role.{Role}
use Rattle.policies.specs.declared.node.Role.TheVariants.{Restriction, Formula, Operand}
use Rattle.tptp_state.proofs.LeafSettling.{leaf-formula, leaf-restricted, leaf-there, leaf-number, leaf-here}
use Rattle.tptp_state.proofs.StateLaws.{asked-passed}
use Rattle.tptp_state.proofs.state.State.settle_leaf.Goals as goal

-- a role that is no formula's is a restriction
restricts : (role : Role) → is_formula (as_role role) ≡ false → as_role role ≡ restriction
unfolding is_formula
restricts Restriction e = refl
restricts Formula e = clash refl e
restricts (Operand b) e = clash refl e

pub size-n-requires : goal.size-n-requires
size-n-requires c =
    let a = c.args in
    let (tree, stand, good) = c.requires.1 in
    leaf-there a.own.now tree stand c.requires.2 (as_tag c.tag_at-tag.result) c.tag_at-tag.ensures

pub lay_own-requires : goal.lay_own-requires
lay_own-requires c =
    let a = c.args in
    let (tree, stand, good) = c.requires.1 in
    let n =
    leaf-number a.own.now tree stand c.requires.2 (as_tag c.tag_at-tag.result)
    c.tag_at-tag.ensures c.size-n.result c.size-n.ensures in
    (omega (arith, n, stand.most, c.requires.2), omega (arith, n, stand.most, c.requires.0.counted))

pub more_words-words-requires : goal.more_words-words-requires
more_words-words-requires c =
    let a = c.args in
    let (tree, stand, good) = c.requires.1 in
    let n =
    leaf-number a.own.now tree stand c.requires.2 (as_tag c.tag_at-tag.result)
    c.tag_at-tag.ensures c.size-n.result c.size-n.ensures in
    (c.requires.0.counted, omega (arith, n, stand.most))

pub returns-then-is_formula : goal.returns-then-is_formula
returns-then-is_formula c =
    let a = c.args in
    λ tree stand good. let n = leaf-number a.own.now tree stand c.requires.2
    (as_tag c.tag_at-tag.result) c.tag_at-tag.ensures c.size-n.result c.size-n.ensures in leaf-formula
    a.table.now a.own.now tree (as_role a.role) a.above a.scope a.self.now a.out.now
    c.lay_own.new.out c.size-n.result c.more_words-words.result c.ask_leaf-self.result stand good c.requires.2 n
    c.more_words-words.ensures c.lay_own.ensures c.ask_leaf-self.ensures (sym c.is_formula.ensures ∙ c.if-is_formula.true)

pub bind_leaf-requires : goal.bind_leaf-requires
bind_leaf-requires c =
    let a = c.args in
    let (tree, stand, good) = c.requires.1 in
    let ready = c.requires.0 in
    let passes = asked-passed c.ask_leaf-self.result a.self.now.asked _ c.ask_leaf-self.ensures in (
      record {
        counted = ready.counted;
        level = λ p. ready.level (passes p).0;
        range
            = λ p. ready.range (passes p).0;
      },
      λ p. (
        tree,
        length (encode tree),
        leaf-here a.table.now a.own.now tree (as_role a.role) a.above a.scope
            a.self.now.words c.ask_leaf-self.result a.self.now.asked stand good c.requires.2
            (restricts a.role (sym c.is_formula.ensures ∙ c.if-is_formula.false)) c.ask_leaf-self.ensures p,
      ),
    )

pub returns : goal.returns
returns c =
    let a = c.args in
    let outside = sym c.is_formula.ensures ∙ c.if-is_formula.false in
    λ tree stand good. let n = leaf-number a.own.now tree stand c.requires.2
    (as_tag c.tag_at-tag.result) c.tag_at-tag.ensures c.size-n.result c.size-n.ensures in leaf-restricted
    a.table.now a.own.now tree (as_role a.role) a.above a.scope a.self.now a.out.now
    c.lay_own.new.out c.size-n.result c.more_words-words.result c.ask_leaf-self.result stand good c.requires.2 n
    c.more_words-words.ensures c.lay_own.ensures c.ask_leaf-self.ensures outside c.bind_leaf.new.self c.bind_leaf.ensures
    (leaf-here a.table.now a.own.now tree (as_role a.role) a.above a.scope a.self.now.words
    c.ask_leaf-self.result a.self.now.asked stand good c.requires.2 (restricts a.role outside)
    c.ask_leaf-self.ensures)
