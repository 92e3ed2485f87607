-- The place of a text that is not allowed: its first byte with which no allowed text begins, or the text's end.
use Rattle.std.specs.Prelude.{ℕ, suc, ◌+◌, ◌≤◌, ◌<◌, ◌≡◌, [], ◌∷◌, ◌++◌, length, take}
use Rattle.std.proofs.Common.{arith, sym, ap, ◌∙◌}
use Rattle.std.proofs.Math.Path.{refl}
use Rattle.model.specs.Bytes.{Text, lf, quote}
use Rattle.model.specs.Answer.{Outcome, refused, passed, ◌>>=◌}
use Rattle.model.specs.Csv.{contents, Allowed, Begins}
use Rattle.model.specs.CsvReading.{Records, State, start, field, inside, quoting, closing, ending, Move, adds, leads, ends_field, ends_record}
use Rattle.model.specs.CsvReading.{stops, move, add_byte, add_field, add_record, at_end, follow, read_from, read_csv}
use Rattle.model.specs.declared.Refusal.{Refusal}
use Rattle.model.specs.declared.Refusal.TheVariants.{Csv}
use Rattle.laws.specs.Answer.{refused-passed, then_same, then_passed, pass_then}
use Rattle.laws.specs.Csv.Complete.{csv-complete}
use Rattle.laws.specs.Csv.Sound.{csv-sound}

-- a text that is refused from a state on: so many of its bytes begin one that is read, and with the next byte, if there is one,
-- none does
record Stopped (s : State) (q : ℕ) (t : Text) (r : Refusal) (p : ℕ) : Type 0 where
  bytes : ℕ
  csv : r ≡ Csv
  place : p ≡ q + bytes
  within : bytes ≤ length t
  rest : Text
  found : Records
  begins : read_from s q (take bytes t ++ rest) ≡ passed found
  never : bytes < length t → (w : Text) (rs : Records) → read_from s q (take (suc bytes) t ++ w) ≡ passed rs → ⊥

-- from every state some text is read
finish : (s : State) (q : ℕ) → (w : Text) × (rs : Records) × (read_from s q w ≡ passed rs)
unfolding read_from follow move at_end ◌>>=◌
finish start q = ([], _, refl)
finish field q = ([], _, refl)
finish inside q = ([], _, refl)
finish quoting q = (quote ∷ [], _, refl)
finish closing q = ([], _, refl)
finish ending q = (lf ∷ [], _, refl)

-- what is made of a reading is refused with it
made-refused :
    (o : Outcome Records) (f : Records → Records) (r : Refusal) (p : ℕ) →
    (o >>= λ rs. passed (f rs)) ≡ refused r p →
    o ≡ refused r p
unfolding ◌>>=◌
made-refused (refused r' p') f r p e = e
made-refused (passed rs) f r p e = refused-passed (sym e)

-- a text that is refused at once
at_once :
    (s : State) (q : ℕ) (t : Text) {r : Refusal} {p : ℕ} →
    ◌≡◌ {A = Outcome Records} (refused Csv q) (refused r p) →
    (0 < length t → (w : Text) (rs : Records) → read_from s q (take 1 t ++ w) ≡ passed rs → ⊥) →
    Stopped s q t r p
at_once s q t {r} {p} e h =
    let (w, rs, passes) = finish s q in
    let is : p ≡ q = cc in
    record { bytes = 0; csv = cc; place = omega arith; within = omega arith; rest = w; found = rs; begins = passes; never = h }

at_the_end :
    (s : State) (q : ℕ) {r : Refusal} {p : ℕ} →
    at_end s q ≡ refused r p →
    ◌≡◌ {A = Outcome Records} (refused Csv q) (refused r p)
unfolding at_end
at_the_end start q e = refused-passed (sym e)
at_the_end field q e = refused-passed (sym e)
at_the_end inside q e = refused-passed (sym e)
at_the_end quoting q e = e
at_the_end closing q e = refused-passed (sym e)
at_the_end ending q e = e

-- a text that is refused, from whatever state
abbrev Stops : Text → Type 0
Stops t = (s : State) (q : ℕ) (r : Refusal) (p : ℕ) → read_from s q t ≡ refused r p → Stopped s q t r p

-- the same with a byte in front
module _ (b : ℕ) (t : Text) (ih : Stops t) (s : State) (q : ℕ) (r : Refusal) (p : ℕ) (e : read_from s q (b ∷ t) ≡ refused r p) where
  -- a byte that leads to another state
  onward :
      (s' : State) (f : Records → Records) →
      ((w : Text) → read_from s q (b ∷ w) ≡ (read_from s' (suc q) w >>= λ rs. passed (f rs))) →
      Stopped s q (b ∷ t) r p
  onward s' f same =
      let h = ih s' (suc q) r p (made-refused _ f r p (sym (same t) ∙ e)) in
      let l = h.within in
      record {
        bytes = suc h.bytes;
        csv = h.csv;
        place = omega (arith, h.place);
        within = omega arith;
        rest = h.rest;
        found = f h.found;
        begins = same _ ∙ pass_then _ h.begins refl;
        never = λ l w rs k.
            let (a, k₁, k₂) = then_passed (read_from s' (suc q) (take (suc h.bytes) t ++ w)) _ (sym (same _) ∙ k) in
            h.never (omega arith) w a k₁;
      }

  step : Stopped s q (b ∷ t) r p
  unfolding read_from follow
  step = go (move s b) refl
    where
      go : (m : Move) → move s b ≡ m → Stopped s q (b ∷ t) r p
      go (adds s') k = onward s' (add_byte b) (λ w. rw k)
      go (leads s') k = onward s' (λ rs. rs) (λ w. rw k (then_same (read_from s' (suc q) w)))
      go ends_field k = onward field add_field (λ w. rw k)
      go ends_record k = onward start add_record (λ w. rw k)
      go stops k = at_once s q (b ∷ t) (rw k at e) (λ l w rs k'. refused-passed (rw k at k'))

stopped : (t : Text) → Stops t
unfolding read_from
stopped [] s q r p e = at_once s q [] (at_the_end s q e) (λ l. absurd (omega arith))
stopped (b ∷ t) s q r p e = step b t (stopped t) s q r p e

-- the place of a refusal by question 13: the bytes before it begin an allowed text; with the byte at it they do not; and where
-- the text ends at it, the text is not allowed
pub record Place (t : Text) (r : Refusal) (p : ℕ) : Type 0 where
  pub csv : r ≡ Csv
  pub within : p ≤ length t
  pub begins : Begins (take p t)
  pub never : p < length t → Begins (take (suc p) t) → ⊥
  pub short : p ≡ length t → Allowed t → ⊥

read_allowed : (t : Text) (rs : Records) → read_csv t ≡ passed rs → Allowed t
unfolding Allowed
read_allowed t rs e = let (ls, good, is, gives) = csv-sound t rs e in (ls, good, is)

allowed_read : (t : Text) → Allowed t → (rs : Records) × (read_csv t ≡ passed rs)
unfolding Allowed
allowed_read t (ls, good, is) = (contents ls, ap read_csv (sym is) ∙ csv-complete ls good)

-- a text that is refused is refused at that place
pub csv-place : (t : Text) (r : Refusal) (p : ℕ) → read_csv t ≡ refused r p → Place t r p
unfolding read_csv Begins
csv-place t r p e =
    let h = stopped t start 0 r p e in
    let is : h.bytes ≡ p = omega (arith, h.place) in
    record {
      csv = h.csv;
      within = omega (arith, h.within);
      begins = (h.rest, read_allowed (take p t ++ h.rest) h.found (rw is at h.begins));
      never = λ l (w, a).
          let (rs, k) = allowed_read (take (suc p) t ++ w) a in
          h.never (omega arith) w rs (rw is k);
      short = λ l a. let (rs, k) = allowed_read t a in refused-passed (sym e ∙ k);
    }
