-- Every text that is read is allowed, and has fields with these contents.
-- By induction on the text: what is read from a state on spells the rest of a field, of its record and of the lines.
use Rattle.std.specs.Prelude.{ℕ, suc, ◌≤◌, ◌≡◌, refl, Bool, true, false, ◌&&◌, List, [], ◌∷◌, ◌++◌, map, length, eqb}
use Rattle.std.proofs.Common.{arith, ◌∙◌, subst, append_assoc, length-append, eqb-true, leb-true, le-leb}
use Rattle.std.proofs.Math.Path.{ap}
use Rattle.std.proofs.Math.Logic.{⊎_elim}
use Rattle.model.specs.Bytes.{Text, lf, cr, quote, comma}
use Rattle.model.specs.Lists.{all, gather}
use Rattle.model.specs.Answer.{Outcome, passed, ◌>>=◌}
use Rattle.model.specs.Csv.{text_data, quotable, Field, bare, quoted, content, good_field, doubled, spell_field, spell_record, Lines, none}
use Rattle.model.specs.Csv.{last, line, spell, good_lines, contents}
use Rattle.model.specs.CsvReading.{Records, State, start, field, inside, quoting, closing, ending, move, move_first, move_bare, move_behind}
use Rattle.model.specs.CsvReading.{add_byte, add_field, add_record, at_end, follow, read_from, read_csv}
use Rattle.laws.specs.Words.Tests.{decide, and_left, and_right, and-true}
use Rattle.laws.specs.Answer.{refused-passed, passed-same, then_passed}

-- what follows a field: further fields of the record, and then the text's end, or CRLF and lines
data Rest : Type 0 where
  ends : List Field → Rest
  goes : List Field → Lines → Rest

spell_rest : Rest → Text
spell_rest (ends fs) = gather (λ g. comma ∷ spell_field g) fs
spell_rest (goes fs ls) = gather (λ g. comma ∷ spell_field g) fs ++ cr ∷ lf ∷ spell ls

good_rest : Rest → Bool
good_rest (ends fs) = all good_field fs
good_rest (goes fs ls) = all good_field fs && good_lines ls

fields : Rest → List Text
fields (ends fs) = map content fs
fields (goes fs ls) = map content fs

records : Rest → Records
records (ends fs) = []
records (goes fs ls) = contents ls

-- a text that spells the field f and what follows it, with these records
record Told (t : Text) (rs : Records) (f : Field) : Type 0 where
  rest : Rest
  good : good_field f ≡ true
  fine : good_rest rest ≡ true
  spells : spell_field f ++ spell_rest rest ≡ t
  gives : (content f ∷ fields rest) ∷ records rest ≡ rs

-- what a text spells that is read from a state on
abbrev Spelled : State → Text → Records → Type 0
Spelled start t rs = (ls : Lines) × (good_lines ls ≡ true) × (spell ls ≡ t) × (contents ls ≡ rs)
Spelled field t rs = (f : Field) × Told t rs f
Spelled inside t rs = (u : Text) × Told t rs (bare u)
Spelled quoting t rs = (u : Text) × Told (quote ∷ t) rs (quoted u)
Spelled closing t rs = (u : Text) × Told (quote ∷ quote ∷ t) rs (quoted u)
Spelled ending t rs = (ls : Lines) × (good_lines ls ≡ true) × (lf ∷ spell ls ≡ t) × (add_record (contents ls) ≡ rs)

-- a text that spells what follows a field, with these records, the first of which has that field, of no bytes, in front
record Behind (t : Text) (rs : Records) : Type 0 where
  rest : Rest
  fine : good_rest rest ≡ true
  spells : spell_rest rest ≡ t
  gives : ([] ∷ fields rest) ∷ records rest ≡ rs

behind_end : Behind [] (add_record [])
unfolding spell_rest good_rest fields records gather all add_record
behind_end = record { rest = ends []; fine = refl; spells = refl; gives = refl }

behind-line : {t : Text} {rs : Records} → Spelled ending t rs → Behind (cr ∷ t) rs
unfolding spell_rest good_rest fields records gather all add_record
behind-line (ls, g, e, c) = record { rest = goes [] ls; fine = g; spells = ap (λ (u : Text). cr ∷ u) e; gives = c }

-- one field more, behind a comma
more : Field → Rest → Rest
more f (ends fs) = ends (f ∷ fs)
more f (goes fs ls) = goes (f ∷ fs) ls

more-good : (f : Field) (r : Rest) → good_field f ≡ true → good_rest r ≡ true → good_rest (more f r) ≡ true
unfolding more good_rest all
more-good f (ends fs) e h = and-true e h
more-good f (goes fs ls) e h = and-true (and-true e (and_left _ _ h)) (and_right (all good_field fs) _ h)

more-spells : (f : Field) (r : Rest) → spell_rest (more f r) ≡ comma ∷ spell_field f ++ spell_rest r
unfolding more spell_rest gather
more-spells f (ends fs) = refl
more-spells f (goes fs ls) = ap (λ (t : Text). comma ∷ t) (append_assoc (spell_field f) _ _)

more-gives :
    (f : Field) (r : Rest) →
    ([] ∷ fields (more f r)) ∷ records (more f r) ≡ add_field ((content f ∷ fields r) ∷ records r)
unfolding more fields records add_field
more-gives f (ends fs) = refl
more-gives f (goes fs ls) = refl

behind-field : {t : Text} {rs : Records} {f : Field} → Told t rs f → Behind (comma ∷ t) (add_field rs)
behind-field {f} h = record {
  rest = more f h.rest;
  fine = more-good f h.rest h.good h.fine;
  spells = more-spells f h.rest ∙ ap (λ (u : Text). comma ∷ u) h.spells;
  gives = more-gives f h.rest ∙ ap add_field h.gives;
}

-- a field that ends at once, bare or in quotes
told-bare : {t : Text} {rs : Records} → Behind t rs → Told t rs (bare [])
unfolding good_field all spell_field content
told-bare h = record { rest = h.rest; good = refl; fine = h.fine; spells = h.spells; gives = h.gives }

told-quoted : {t : Text} {rs : Records} → Behind t rs → Told (quote ∷ quote ∷ t) rs (quoted [])
unfolding good_field all spell_field doubled gather content
told-quoted h =
    record {
      rest = h.rest;
      good = refl;
      fine = h.fine;
      spells = ap (λ (u : Text). quote ∷ quote ∷ u) h.spells;
      gives = h.gives;
    }

-- one byte more in a field, bare or in quotes
add_bare :
    {t : Text} {rs : Records} {u : Text} (b : ℕ) →
    text_data b ≡ true →
    Told t rs (bare u) →
    Told (b ∷ t) (add_byte b rs) (bare (b ∷ u))
unfolding good_field all spell_field content add_byte
add_bare b e h = record {
  rest = h.rest;
  good = and-true e h.good;
  fine = h.fine;
  spells = ap (λ (t : Text). b ∷ t) h.spells;
  gives = ap (add_byte b) h.gives;
}

same_rest : {x y : ℕ} {xs ys : Text} → x ∷ xs ≡ y ∷ ys → xs ≡ ys
same_rest e = cc

add_quoted :
    {t : Text} {rs : Records} {u : Text} (b : ℕ) →
    eqb b quote ≡ false →
    quotable b ≡ true →
    Told (quote ∷ t) rs (quoted u) →
    Told (quote ∷ b ∷ t) (add_byte b rs) (quoted (b ∷ u))
unfolding good_field all spell_field doubled gather content add_byte
add_quoted b n e h = record {
  rest = h.rest;
  good = and-true e h.good;
  fine = h.fine;
  spells = rw n (ap (λ (t : Text). quote ∷ b ∷ t) (same_rest h.spells));
  gives = ap (add_byte b) h.gives;
}

add_quote :
    {t : Text} {rs : Records} {u : Text} →
    Told (quote ∷ t) rs (quoted u) →
    Told (quote ∷ quote ∷ quote ∷ t) (add_byte quote rs) (quoted (quote ∷ u))
unfolding good_field all spell_field doubled gather content add_byte quotable text_data
add_quote h = record {
  rest = h.rest;
  good = and-true refl h.good;
  fine = h.fine;
  spells = ap (λ (t : Text). quote ∷ quote ∷ t) h.spells;
  gives = ap (add_byte quote) h.gives;
}

-- a first record that is spelled with some byte, and further lines
told_lines : {t : Text} {rs : Records} {f : Field} → Told t rs f → 1 ≤ length t → Spelled start t rs
unfolding good_rest spell_rest fields records good_lines spell spell_record contents all
told_lines {t} {rs} {f} h l = go h.rest h.fine h.spells h.gives
  where
    go :
        (r : Rest) →
        good_rest r ≡ true →
        spell_field f ++ spell_rest r ≡ t →
        (content f ∷ fields r) ∷ records r ≡ rs →
        Spelled start t rs
    go (ends fs) g e c = (last f fs, and-true (and-true h.good g) (rw e (le-leb 1 (length t) l)), e, c)
    go (goes fs ls) g e c =
        let good = and-true (and-true h.good (and_left _ _ g)) (and_right (all good_field fs) _ g) in
        (line f fs ls, good, append_assoc (spell_field f) _ _ ∙ e, c)

-- what holds of what is made of a reading that passed
made :
    (P : Records → Type 0) (o : Outcome Records) (f : Records → Records) {rs : Records} →
    (o >>= λ r. passed (f r)) ≡ passed rs →
    ((r : Records) → o ≡ passed r → P (f r)) →
    P rs
made P o f e k = let (r, e₁, e₂) = then_passed o (λ r. passed (f r)) e in subst P (passed-same e₂) (k r e₁)

-- a text that is read, from whatever state
abbrev Sound : Text → Type 0
Sound t = (s : State) (q : ℕ) (rs : Records) → read_from s q t ≡ passed rs → Spelled s t rs

-- the same with a byte in front
module _ (b : ℕ) (t : Text) (ih : Sound t) (q : ℕ) (rs : Records) where
  behind-told : follow (move_behind b) b q (λ s. read_from s (suc q) t) ≡ passed rs → Behind (b ∷ t) rs
  unfolding move_behind follow
  behind-told e =
      ⊎_elim
      (λ k.
      rw (eqb-true b comma k)
      (made (Behind (comma ∷ t)) (read_from field (suc q) t) add_field (rw k at e) λ r e'. behind-field (ih field (suc q) r e').1))
      (λ k. ⊎_elim
      (λ k'. rw (eqb-true b cr k') (behind-line (ih ending (suc q) rs (rw k' at (rw k at e)))))
      (λ k'. refused-passed (rw k' at (rw k at e)))
      (decide (eqb b cr)))
      (decide (eqb b comma))

  bare-told : follow (move_bare b) b q (λ s. read_from s (suc q) t) ≡ passed rs → Spelled inside (b ∷ t) rs
  unfolding move_bare follow
  bare-told e =
      ⊎_elim
      (λ k.
      made (Spelled inside (b ∷ t)) (read_from inside (suc q) t) (add_byte b) (rw k at e) λ r e'.
      let (u, told) = ih inside (suc q) r e' in
      (b ∷ u, add_bare b k told))
      (λ k. ([], told-bare (behind-told (rw k at e))))
      (decide (text_data b))

  first-told : follow (move_first b) b q (λ s. read_from s (suc q) t) ≡ passed rs → Spelled field (b ∷ t) rs
  unfolding move_first follow
  first-told e =
      ⊎_elim
      (λ k. rw (eqb-true b quote k) (let h = ih quoting (suc q) rs (rw k at e) in (quoted h.0, h.1)))
      (λ k. let (u, told) = bare-told (rw k at e) in (bare u, told))
      (decide (eqb b quote))

  quoting-told : read_from quoting q (b ∷ t) ≡ passed rs → Spelled quoting (b ∷ t) rs
  unfolding read_from move follow
  quoting-told e =
      ⊎_elim
      (λ k. rw (eqb-true b quote k) (ih closing (suc q) rs (rw k at e)))
      (λ k. ⊎_elim
      (λ k'.
      made (Spelled quoting (b ∷ t)) (read_from quoting (suc q) t) (add_byte b) (rw k' at (rw k at e)) λ r e'.
      let (u, told) = ih quoting (suc q) r e' in
      (b ∷ u, add_quoted b k k' told))
      (λ k'. refused-passed (rw k' at (rw k at e)))
      (decide (quotable b)))
      (decide (eqb b quote))

  closing-told : read_from closing q (b ∷ t) ≡ passed rs → Spelled closing (b ∷ t) rs
  unfolding read_from move follow
  closing-told e =
      ⊎_elim
      (λ k.
      rw (eqb-true b quote k)
      (made (Spelled closing (quote ∷ t)) (read_from quoting (suc q) t) (add_byte quote) (rw (eqb-true b quote k) at (rw k at e)) λ r e'.
      let (u, told) = ih quoting (suc q) r e' in
      (quote ∷ u, add_quote told)))
      (λ k. ([], told-quoted (behind-told (rw k at e))))
      (decide (eqb b quote))

  ending-told : read_from ending q (b ∷ t) ≡ passed rs → Spelled ending (b ∷ t) rs
  unfolding read_from move follow
  ending-told e =
      ⊎_elim
      (λ k.
      rw (eqb-true b lf k)
      (made (Spelled ending (lf ∷ t)) (read_from start (suc q) t) add_record (rw k at e) λ r e'.
      let (ls, g, is, c) = ih start (suc q) r e' in
      (ls, g, ap (λ (u : Text). lf ∷ u) is, ap add_record c)))
      (λ k. refused-passed (rw k at e))
      (decide (eqb b lf))

sound : (t : Text) → Sound t
unfolding read_from at_end move good_lines spell contents
sound [] start q rs e = (none, refl, refl, passed-same e)
sound [] field q rs e = (bare [], rw (← passed-same e) (told-bare behind_end))
sound [] inside q rs e = ([], rw (← passed-same e) (told-bare behind_end))
sound [] quoting q rs e = refused-passed e
sound [] closing q rs e = ([], rw (← passed-same e) (told-quoted behind_end))
sound [] ending q rs e = refused-passed e
sound (b ∷ t) start q rs e = told_lines (first-told b t (sound t) q rs e).1 (omega arith)
sound (b ∷ t) field q rs e = first-told b t (sound t) q rs e
sound (b ∷ t) inside q rs e = bare-told b t (sound t) q rs e
sound (b ∷ t) quoting q rs e = quoting-told b t (sound t) q rs e
sound (b ∷ t) closing q rs e = closing-told b t (sound t) q rs e
sound (b ∷ t) ending q rs e = ending-told b t (sound t) q rs e

-- a text that is read is allowed, and has fields with these contents
pub csv-sound :
    (t : Text) (rs : Records) →
    read_csv t ≡ passed rs →
    (ls : Lines) × (good_lines ls ≡ true) × (spell ls ≡ t) × (contents ls ≡ rs)
unfolding read_csv
csv-sound t rs e = sound t start 0 rs e

-- lines are no more than their bytes
lines_few : (ls : Lines) → good_lines ls ≡ true → length (contents ls) ≤ length (spell ls)
unfolding good_lines spell contents
lines_few none e = omega arith
lines_few (last f fs) e = leb-true 1 _ (and_right (all good_field (f ∷ fs)) _ e)
lines_few (line f fs ls) e =
    let rest = lines_few ls (and_right (all good_field (f ∷ fs)) _ e) in
    omega (arith, length-append (spell_record f fs) (cr ∷ lf ∷ spell ls))

-- a text has no more records than bytes
pub records-few : (t : Text) (rs : Records) → read_csv t ≡ passed rs → length rs ≤ length t
records-few t rs e =
    let (ls, good, is, gives) = csv-sound t rs e in
    let few = lines_few ls good in
    omega (arith, ap length is, ap length gives)
