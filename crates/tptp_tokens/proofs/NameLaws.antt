-- Laws for the reading of names.
use mathlib.Core.Path.{◌≡◌, refl, ◌∙◌, ap}
use mathlib.Core.Bool.{true, false}
use mathlib.Core.List.{[], ◌∷◌}
use Rattle.std.specs.Prelude.{ℕ, ◌<◌, length, get_or, slice_get, Some}
use Rattle.std.proofs.lemmas.Option.{slice_get-get_or}
use Rattle.text.specs.declared.cursor.Cursor.{Cursor}
use Rattle.model.specs.Bytes.{Text, small}
use Rattle.model.specs.Answer.{refused}
use Rattle.model.specs.TptpReading.{stop, look, word_bytes, name}
use Rattle.model.specs.declared.Refusal.TheVariants.{Tptp}
use Rattle.tptp_tokens.specs.Steps.{from, Skips, Reads}
use Rattle.tptp_tokens.proofs.MovedLaws.{further}
use Rattle.tptp_tokens.proofs.TokenLaws.{onward, halt, look-here, look-over}

-- a name by its first byte
module _ (old mid : Cursor) (s : Skips old mid) where
  pub name-other : ((b : ℕ) → slice_get mid.rest.now 0 ≡ Some b → small b ≡ false) → from name old ≡ refused Tptp mid.at
  unfolding name stop
  name-other e = go mid.rest.now refl
    where
      go : (t : Text) → mid.rest.now ≡ t → from name old ≡ refused Tptp mid.at
      go [] is = halt look _ old Tptp mid.at (look-over old mid s (ap (λ (u : Text). slice_get u 0) is))
      go (b ∷ t) is =
          let first = ap (λ (u : Text). slice_get u 0) is in
          onward look _ old b mid (look-here old mid s b first) ∙ rw (e b first)

  pub name-here :
      (new : Cursor) → 0 < length mid.rest.now → small (get_or mid.rest.now 0 0) ≡ true → Reads word_bytes mid tt new →
      Reads name old tt new
  unfolding name
  name-here new h e r =
      let b = get_or mid.rest.now 0 0 in
      let first : slice_get mid.rest.now 0 ≡ Some b = slice_get-get_or mid.rest.now 0 0 h in
      record {
        moved = further old mid new s.reads.moved r.moved;
        reads = onward look _ old b mid (look-here old mid s b first) ∙ rw e r.reads;
      }
