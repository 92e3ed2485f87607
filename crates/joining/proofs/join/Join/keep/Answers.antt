-- `joining::join::Join::keep` meets its contract: nothing more is kept, or the child's children, or the child; what each
-- makes of the state is said in Keeping.
use native.Mathlib.Omega.{arith}
use mathlib.Core.Path.{sym, ◌∙◌}
use Rattle.joining.specs.contracts.join.State.{the_type}
use denote.Enum.Bare.{differs_true}
use Rattle.joining.proofs.Keeping as K
use Rattle.joining.proofs.join.Join.keep.Goals as goal

pub returns-then-ne : goal.returns-then-ne
returns-then-ne c = λ a. K.keep-closed a (differs_true the_type _ _ (sym c.ne.ensures ∙ c.if-ne.true))

pub overflow_sub-k : goal.overflow_sub-k
overflow_sub-k c = K.header-there c.requires (K.still_open _ (sym c.ne.ensures ∙ c.if-ne.false)) (sym c.is_join.ensures ∙ c.if-is_join.true)

pub left-requires : goal.left-requires
left-requires c = K.children-there c.requires (K.still_open _ (sym c.ne.ensures ∙ c.if-ne.false)) (sym c.is_join.ensures ∙ c.if-is_join.true)

pub overflow_add-self-then-is_join : goal.overflow_add-self-then-is_join
overflow_add-self-then-is_join c =
    let open_so = K.still_open c.args.self.state (sym c.ne.ensures ∙ c.if-ne.false) in
    omega (arith, c.value-count.ensures, K.children-few c.requires open_so (sym c.is_join.ensures ∙ c.if-is_join.true))

pub overflow_sub-self : goal.overflow_sub-self
overflow_sub-self c = K.header-there c.requires (K.still_open _ (sym c.ne.ensures ∙ c.if-ne.false)) (sym c.is_join.ensures ∙ c.if-is_join.true)

pub overflow_add-self-then-is_join-2 : goal.overflow_add-self-then-is_join-2
overflow_add-self-then-is_join-2 c =
    let open_so = K.still_open c.args.self.state (sym c.ne.ensures ∙ c.if-ne.false) in
    omega (arith, K.children-there c.requires open_so (sym c.is_join.ensures ∙ c.if-is_join.true))

pub returns-then-is_join : goal.returns-then-is_join
returns-then-is_join c =
    let open_so = K.still_open c.args.self.state (sym c.ne.ensures ∙ c.if-ne.false) in
    let e = sym c.is_join.ensures ∙ c.if-is_join.true in
    λ a. K.keep-children a open_so e _ c.left.auto.out c.left.ensures c.value-count.result c.value-count.ensures

pub overflow_add-self-2 : goal.overflow_add-self-2
overflow_add-self-2 c =
    let open_so = K.still_open c.args.self.state (sym c.ne.ensures ∙ c.if-ne.false) in
    omega (arith, K.so_few c.requires open_so, K.part_room c.requires)

pub overflow_add-self-3 : goal.overflow_add-self-3
overflow_add-self-3 c = omega (arith, K.part_room c.requires)

pub returns : goal.returns
returns c =
    let open_so = K.still_open c.args.self.state (sym c.ne.ensures ∙ c.if-ne.false) in
    λ a. K.keep-whole a open_so (sym c.is_join.ensures ∙ c.if-is_join.false)
