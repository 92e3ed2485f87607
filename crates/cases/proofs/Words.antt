-- The numbers in front of a text, read one after another.
use Rattle.std.proofs.Common.{◌≡◌, ◌<◌, ◌+◌, ◌-◌, ℕ, suc, ℤ, List, [], ◌∷◌, ◌++◌, refl, ◌∙◌, append_assoc, append-nil, length, take, set, arith}
use Rattle.std.proofs.lemmas.List.{take_more_set}
use Rattle.text.specs.declared.cursor.Cursor.{Cursor}
use Rattle.model.specs.Answer.{refused}
use Rattle.model.specs.TptpReading.{integer}
use Rattle.model.specs.declared.Refusal.{Refusal}
use Rattle.tptp_tokens.specs.Steps.{from, got}
use Rattle.cases.specs.Given.{numbers, followed}

module _
    (whole words : List ℤ) (room n : ℕ) (here : Cursor)
    (so : whole ≡ take n words ++ numbers (room - n) here.rest.now here.at)
  where
    -- one number more
    pub numbers_more :
        n < room → n < length words → (k : ℤ) (next : Cursor) → from integer here ≡ got k next →
        whole ≡ take (n + 1) (set words n k) ++ numbers (room - (n + 1)) next.rest.now next.at
    unfolding numbers followed
    numbers_more l few k next reads =
        let more : room - n ≡ suc (room - (n + 1)) = omega (arith, l) in
        so ∙ rw (more, reads, take_more_set words n k few, append_assoc (take n words) (k ∷ []) (numbers (room - (n + 1)) next.rest.now next.at)) refl

    -- no number, or no room for one
    pub numbers_stop : n < room → (q : Refusal) (p : ℕ) → from integer here ≡ refused q p → whole ≡ take n words
    unfolding numbers followed
    numbers_stop l q p reads =
        let more : room - n ≡ suc (room - (n + 1)) = omega (arith, l) in
        so ∙ rw (more, reads) (append-nil (take n words))

    pub numbers_full : room ≡ n → whole ≡ take n words
    unfolding numbers
    numbers_full e =
        let none : room - n ≡ 0 = omega (arith, e) in
        so ∙ rw none (append-nil (take n words))
