-- `policies::node::tag_at` meets its contract: a word that is not negative is looked up by its number.
use Prim.Native.Nat.{ℕ}
use mathlib.Core.Path.{◌≡◌, refl, ◌∙◌, sym}
use lib.ListN.{get_or}
use Rattle.model.specs.Words.{word, value}
use Rattle.model.specs.Tag.{Tag, tags, tag_of}
use Rattle.policies.proofs.NodeTag.{negative_tag, number_tag, no_tag, none_below}
use Rattle.policies.proofs.node.tag_at.Goals as goal

pub returns-then-negative : goal.returns-then-negative
returns-then-negative c = negative_tag _ (sym c.negative.ensures ∙ c.if-negative.true)

pub returns-in-0 : goal.returns-in-0
unfolding tags value
returns-in-0 c =
    let by_number : (n : ℕ) → c.value.result ≡ n → get_or tags n Tag.unused ≡ tag_of (word c.args.words.now c.args.at) =
    λ n e. number_tag _ n (sym c.negative.ensures ∙ c.if-negative.false) (sym e ∙ c.value.ensures) in
    by_number 0 c.in-0.is

pub returns-in-1 : goal.returns-in-1
unfolding tags value
returns-in-1 c =
    let by_number : (n : ℕ) → c.value.result ≡ n → get_or tags n Tag.unused ≡ tag_of (word c.args.words.now c.args.at) =
    λ n e. number_tag _ n (sym c.negative.ensures ∙ c.if-negative.false) (sym e ∙ c.value.ensures) in
    by_number 1 c.in-1.is

pub returns-in-2 : goal.returns-in-2
unfolding tags value
returns-in-2 c =
    let by_number : (n : ℕ) → c.value.result ≡ n → get_or tags n Tag.unused ≡ tag_of (word c.args.words.now c.args.at) =
    λ n e. number_tag _ n (sym c.negative.ensures ∙ c.if-negative.false) (sym e ∙ c.value.ensures) in
    by_number 2 c.in-2.is

pub returns-in-3 : goal.returns-in-3
unfolding tags value
returns-in-3 c =
    let by_number : (n : ℕ) → c.value.result ≡ n → get_or tags n Tag.unused ≡ tag_of (word c.args.words.now c.args.at) =
    λ n e. number_tag _ n (sym c.negative.ensures ∙ c.if-negative.false) (sym e ∙ c.value.ensures) in
    by_number 3 c.in-3.is

pub returns-in-4 : goal.returns-in-4
unfolding tags value
returns-in-4 c =
    let by_number : (n : ℕ) → c.value.result ≡ n → get_or tags n Tag.unused ≡ tag_of (word c.args.words.now c.args.at) =
    λ n e. number_tag _ n (sym c.negative.ensures ∙ c.if-negative.false) (sym e ∙ c.value.ensures) in
    by_number 4 c.in-4.is

pub returns-in-5 : goal.returns-in-5
unfolding tags value
returns-in-5 c =
    let by_number : (n : ℕ) → c.value.result ≡ n → get_or tags n Tag.unused ≡ tag_of (word c.args.words.now c.args.at) =
    λ n e. number_tag _ n (sym c.negative.ensures ∙ c.if-negative.false) (sym e ∙ c.value.ensures) in
    by_number 5 c.in-5.is

pub returns-in-6 : goal.returns-in-6
unfolding tags value
returns-in-6 c =
    let by_number : (n : ℕ) → c.value.result ≡ n → get_or tags n Tag.unused ≡ tag_of (word c.args.words.now c.args.at) =
    λ n e. number_tag _ n (sym c.negative.ensures ∙ c.if-negative.false) (sym e ∙ c.value.ensures) in
    by_number 6 c.in-6.is

pub returns-in-7 : goal.returns-in-7
unfolding tags value
returns-in-7 c =
    let by_number : (n : ℕ) → c.value.result ≡ n → get_or tags n Tag.unused ≡ tag_of (word c.args.words.now c.args.at) =
    λ n e. number_tag _ n (sym c.negative.ensures ∙ c.if-negative.false) (sym e ∙ c.value.ensures) in
    by_number 7 c.in-7.is

pub returns-in-8 : goal.returns-in-8
unfolding tags value
returns-in-8 c =
    let by_number : (n : ℕ) → c.value.result ≡ n → get_or tags n Tag.unused ≡ tag_of (word c.args.words.now c.args.at) =
    λ n e. number_tag _ n (sym c.negative.ensures ∙ c.if-negative.false) (sym e ∙ c.value.ensures) in
    by_number 8 c.in-8.is

pub returns-in-9 : goal.returns-in-9
unfolding tags value
returns-in-9 c =
    let by_number : (n : ℕ) → c.value.result ≡ n → get_or tags n Tag.unused ≡ tag_of (word c.args.words.now c.args.at) =
    λ n e. number_tag _ n (sym c.negative.ensures ∙ c.if-negative.false) (sym e ∙ c.value.ensures) in
    by_number 9 c.in-9.is

pub returns-in-10 : goal.returns-in-10
unfolding tags value
returns-in-10 c =
    let by_number : (n : ℕ) → c.value.result ≡ n → get_or tags n Tag.unused ≡ tag_of (word c.args.words.now c.args.at) =
    λ n e. number_tag _ n (sym c.negative.ensures ∙ c.if-negative.false) (sym e ∙ c.value.ensures) in
    by_number 10 c.in-10.is

pub returns-in_default : goal.returns-in_default
unfolding value
returns-in_default c =
    let by_number : (n : ℕ) → c.value.result ≡ n → get_or tags n Tag.unused ≡ tag_of (word c.args.words.now c.args.at) =
    λ n e. number_tag _ n (sym c.negative.ensures ∙ c.if-negative.false) (sym e ∙ c.value.ensures) in
    let n = c.value.result in
    no_tag n (none_below 11 n c.in_default.in_default-own.rest) ∙ by_number n refl
