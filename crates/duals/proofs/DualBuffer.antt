-- A buffer at whose front words are copied.
use mathlib.Core.Path.{◌≡◌, ap, ◌∙◌}
use mathlib.Core.List.{◌++◌}
use lib.ListN.{length, take, drop}
use lib.Seq.{take-length}
use Rattle.model.specs.Words.{Words}
use Rattle.words.specs.Laying.{laid}
use Rattle.words.proofs.LayingLaws.{laid-front}

-- words copied to the front
pub copied_front :
    (words old buffer : Words) →
    buffer ≡ laid old 0 (take (length words) (drop 0 words)) →
    buffer ≡ words ++ drop (length words) old
copied_front words old buffer e = e ∙ ap (laid old 0) (take-length words) ∙ laid-front old words
