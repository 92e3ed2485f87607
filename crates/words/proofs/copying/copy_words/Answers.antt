-- `words::copying::copy_words` meets its contract: the part that was copied is laid over the old words.
use Rattle.std.proofs.Common.{arith, ◌≡◌, ap, ◌∙◌, ◌-◌, ◌+◌, length, take, drop, length-drop}
use lib.Seq.{length-take-le}
use Rattle.words.specs.Laying.{laid}
use Rattle.words.proofs.LayingLaws.{laid-part}
use Rattle.words.proofs.copying.copy_words.Goals as goal

pub returns : goal.returns
returns c =
    let a = c.args in
    let copied : c.copy_from_slice.new.self ≡ take a.n (drop a.from a.words.now) =
    c.copy_from_slice.ensures.after ∙ ap (λ n. take n (drop a.from a.words.now)) (let e : a.from + a.n - a.from ≡ a.n = omega arith in e) in
    let long : length (take a.n (drop a.from a.words.now)) ≡ a.n =
    length-take-le a.n (drop a.from a.words.now) (omega (arith, length-drop a.from a.words.now, c.requires.0)) in
    laid-part a.out.now a.to _ _ (omega (arith, long, ap length copied)) ∙ ap (laid a.out.now a.to) copied
