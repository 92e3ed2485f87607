-- Laws for what is read behind something else.
use mathlib.Core.Path.{◌≡◌, ◌∙◌}
use Rattle.std.specs.Prelude.{Result, Ok, Err}
use Rattle.text.specs.declared.cursor.Cursor.{Cursor}
use Rattle.model.specs.TptpReading.{Reader, give, ◌>>=◌}
use Rattle.model.specs.declared.Refusal.{Refusal}
use Rattle.tptp_tokens.specs.Steps.{from, Moved, Steps, Valued}
use Rattle.tptp_tokens.proofs.MovedLaws.{further}
use Rattle.tptp_tokens.proofs.TokenLaws.{onward, halt}

module _ (old mid new : Cursor) (m : Moved old mid) where
  -- what is read from a later place on by another reader
  pub valued_from :
      {A : Type 0} (whole reader : Reader A) (facts : A → Type 0) → from whole old ≡ from reader mid →
      (r : Result (Unit {0}) Refusal) →
      Valued reader facts mid new r →
      Valued whole facts old new r
  valued_from whole reader facts e (Ok u) v = record {
    what = v.what;
    reads = record { moved = further old mid new m v.reads.moved; reads = e ∙ v.reads.reads };
    holds = v.holds;
  }
  valued_from whole reader facts e (Err r) v = e ∙ v

  pub steps_from :
      (whole reader : Reader (Unit {0})) → from whole old ≡ from reader mid → (r : Result (Unit {0}) Refusal) →
      Steps reader mid new r →
      Steps whole old new r
  steps_from whole reader e (Ok u) s = record { moved = further old mid new m s.moved; reads = e ∙ s.reads }
  steps_from whole reader e (Err r) s = e ∙ s

  -- what was read is given when the last token was
  pub closed_from :
      {A : Type 0} (whole : Reader A) (last : Reader (Unit {0})) (a : A) (facts : A → Type 0) →
      from whole old ≡ from (last >>= λ _. give a) mid → facts a → (r : Result (Unit {0}) Refusal) →
      Steps last mid new r →
      Valued whole facts old new r
  unfolding give
  closed_from whole last a facts e h (Ok u) s = record {
    what = a;
    reads = record { moved = further old mid new m s.moved; reads = e ∙ onward last (λ _. give a) mid tt new s.reads };
    holds = h;
  }
  closed_from whole last a facts e h (Err r) s = e ∙ halt last (λ _. give a) mid r new.at s
