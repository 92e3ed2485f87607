-- What it says that a reader reads certain spellings of values, and that this holds for readers made of such readers.
-- A reader that passes has used a text that spells what it gives. One that is refused has used a text that begins a spelling. The
-- second is told only where the type `told` has an element: for soundness alone nothing has to be known about refusals.
use Rattle.std.specs.Prelude.{ℕ, ◌+◌, ◌≡◌, refl, Bool, true, false, cond, length}
use Rattle.std.proofs.Common.{arith, sym, ap, ◌∙◌, length-append}
use Rattle.std.proofs.Math.Path.{subst}
use mathlib.Core.List.{[], ◌∷◌, ◌++◌, append_assoc, append-nil}
use Rattle.model.specs.Bytes.{Text, parenthesis}
use Rattle.model.specs.Answer.{Outcome, passed, refused}
use Rattle.model.specs.TptpReading.{Got, Reader, give, stop, onwards, ◌>>=◌}
use Rattle.model.specs.declared.Refusal.{Refusal}
use Rattle.model.specs.declared.Refusal.TheVariants.{Level, Tptp}
use Rattle.laws.specs.Answer.{refused-passed, passed-same}

-- the texts that spell each value
abbrev pub Spelling : (type : Type 0) → Type 1
Spelling A = A → Text → Type 0

-- what is left of the spellings that begin with a text
abbrev pub behind : {A : Type 0} (u : Text) (spelling : Spelling A) → Spelling A
behind u N a v = N a (u ++ v)

-- a text from p on is refused at q, and this much of it begins a spelling: all before q, or, for the level, with the parenthesis
-- at q
pub data Ends (p q : ℕ) (done : Text) : Refusal → Type 0 where
  at_the_end : q ≡ p + length done → Ends p q done Tptp
  at_last : (front : Text) → done ≡ front ++ parenthesis ∷ [] → q ≡ p + length front → Ends p q done Level

module _ {A : Type 0} where
  -- a text was used that spells what is given
  pub record Read (N : Spelling A) (text : Text) (p : ℕ) (g : Got A) : Type 0 where
    pub used : Text
    pub split : text ≡ used ++ g.rest
    pub place : g.at ≡ p + length used
    pub spells : N g.what used

  -- a text was used that begins a spelling
  pub record Stopped (N : Spelling A) (text : Text) (p : ℕ) (r : Refusal) (q : ℕ) : Type 0 where
    pub done : Text
    pub rest : Text
    pub split : text ≡ done ++ rest
    pub ends : Ends p q done r
    pub more : Text
    pub value : A
    pub spells : N value (done ++ more)

  -- what comes of reading a text from p on is one or the other
  pub data Comes (told : Type 0) (N : Spelling A) (text : Text) (p : ℕ) : Outcome (Got A) → Type 0 where
    got : {g : Got A} → Read N text p g → Comes told N text p (passed g)
    halted : {r : Refusal} {q : ℕ} → (told → Stopped N text p r q) → Comes told N text p (refused r q)

  -- a reader of these spellings, of which there is one
  pub record Reads (told : Type 0) (N : Spelling A) (r : Reader A) : Type 0 where
    pub example : told → (a : A) × (u : Text) × N a u
    pub comes : (text : Text) (p : ℕ) → Comes told N text p (r text p)

-- a refusal of the text behind u is one of the whole text
ends-behind :
    {p q : ℕ} {done : Text} {r : Refusal} (u : Text) {p' : ℕ} →
    p' ≡ p + length u →
    Ends p' q done r →
    Ends p q (u ++ done) r
ends-behind {p} {q} {done} u e (at_the_end place) = at_the_end (omega (arith, length-append u done))
ends-behind {p} {q} {done} u e (at_last front is place) =
    at_last (u ++ front) (ap (λ (t : Text). u ++ t) is ∙ sym (append_assoc u front (parenthesis ∷ [])))
    (omega (arith, length-append u front))

module _ {A : Type 0} {told : Type 0} {N : Spelling A} where
  -- what comes of the text behind u comes of the whole text
  pub comes-behind :
      {text : Text} {p : ℕ} (u : Text) {mid : Text} {p' : ℕ} {o : Outcome (Got A)} →
      text ≡ u ++ mid →
      p' ≡ p + length u →
      Comes told (behind u N) mid p' o →
      Comes told N text p o
  comes-behind {text} {p} u {mid} {p'} e l (got {g} h) =
      got {g = g}
      record {
        used = u ++ h.used;
        split = e ∙ ap (λ (t : Text). u ++ t) h.split ∙ sym (append_assoc u h.used g.rest);
        place = omega (arith, h.place, length-append u h.used);
        spells = h.spells;
      }
  comes-behind {text} {p} u {mid} {p'} e l (halted h) =
      halted λ t.
      let s = h t in
      record {
        done = u ++ s.done;
        rest = s.rest;
        split = e ∙ ap (λ (t : Text). u ++ t) s.split ∙ sym (append_assoc u s.done s.rest);
        ends = ends-behind u l s.ends;
        more = s.more;
        value = s.value;
        spells = subst (N s.value) (sym (append_assoc u s.done s.more)) s.spells;
      }

  -- a value that is given with nothing used, a refusal at once
  pub comes-give :
      (a : A) →
      N a [] →
      (text : Text) (p : ℕ) →
      Comes told N text p (passed (record { what = a; rest = text; at = p }))
  comes-give a n text p =
      let same : p ≡ p + 0 = omega arith in
      got record { used = []; split = refl; place = same; spells = n }

  pub give-reads : (a : A) → N a [] → Reads told N (give a)
  unfolding give
  give-reads a n = record { example = λ t. (a, [], n); comes = comes-give a n }

  pub comes-stop : (told → (a : A) × (u : Text) × N a u) → (text : Text) (p : ℕ) → Comes told N text p (refused Tptp p)
  comes-stop some text p =
      halted {q = p} λ t.
      let (a, u, n) = some t in
      record { done = []; rest = text; split = refl; ends = at_the_end (omega arith); more = u; value = a; spells = n }

  pub stop-reads : (told → (a : A) × (u : Text) × N a u) → Reads told N stop
  unfolding stop
  stop-reads some = record { example = some; comes = comes-stop some }

  -- spellings among others
  pub comes_as :
      {L : Spelling A} {text : Text} {p : ℕ} {o : Outcome (Got A)} →
      ((a : A) (u : Text) → L a u → N a u) →
      Comes told L text p o →
      Comes told N text p o
  comes_as k (got {g} h) =
      got record { used = h.used; split = h.split; place = h.place; spells = k g.what h.used h.spells }
  comes_as k (halted h) =
      halted λ t.
      let s = h t in
      record {
        done = s.done;
        rest = s.rest;
        split = s.split;
        ends = s.ends;
        more = s.more;
        value = s.value;
        spells = k s.value (s.done ++ s.more) s.spells;
      }

  pub reads_as : {L : Spelling A} {r : Reader A} → ((a : A) (u : Text) → L a u → N a u) → Reads told L r → Reads told N r
  reads_as k h = record {
    example = λ t. let (a, u, l) = h.example t in (a, u, k a u l);
    comes = λ text p. comes_as k (h.comes text p);
  }

  -- one reader or another
  pub cond-reads :
      {x y : Reader A} (b : Bool) →
      (b ≡ true → Reads told N x) →
      (b ≡ false → Reads told N y) →
      Reads told N (cond b x y)
  cond-reads true h k = h refl
  cond-reads false h k = k refl

module _ {A B : Type 0} {told : Type 0} {L : Spelling A} {N : Spelling B} {next : A → Reader B} where
  -- one reader behind another
  comes_then :
      {text : Text} {p : ℕ} {o : Outcome (Got A)} →
      Comes told L text p o →
      ((a : A) (u : Text) → L a u → Reads told (behind u N) (next a)) →
      Comes told N text p (onwards o next)
  unfolding onwards
  comes_then (got {g} h) k =
      comes-behind h.used h.split h.place ((k g.what h.used h.spells).comes g.rest g.at)
  comes_then (halted h) k =
      halted λ t.
      let s = h t in
      let (b, v, n) = (k s.value (s.done ++ s.more) s.spells).example t in
      record {
        done = s.done;
        rest = s.rest;
        split = s.split;
        ends = s.ends;
        more = s.more ++ v;
        value = b;
        spells = subst (N b) (append_assoc s.done s.more v) n;
      }

  pub then_reads :
      {r : Reader A} →
      Reads told L r →
      ((a : A) (u : Text) → L a u → Reads told (behind u N) (next a)) →
      Reads told N (r >>= next)
  unfolding ◌>>=◌
  then_reads h k = record {
    example = λ t. let (a, u, l) = h.example t in let (b, v, n) = (k a u l).example t in (b, u ++ v, n);
    comes = λ text p. comes_then (h.comes text p) k;
  }

module _ {A B : Type 0} {told : Type 0} {L : Spelling A} {N : Spelling B} where
  -- a reader, and what is made of its value
  pub comes-map :
      {text : Text} {p : ℕ} {o : Outcome (Got A)} (f : A → B) →
      Comes told L text p o →
      ((a : A) (u : Text) → L a u → N (f a) u) →
      Comes told N text p (onwards o (λ a. give (f a)))
  comes-map f h k = comes_then h λ a u l. give-reads (f a) (subst (N (f a)) (sym (append-nil u)) (k a u l))

  pub map-reads :
      {r : Reader A} (f : A → B) →
      Reads told L r →
      ((a : A) (u : Text) → L a u → N (f a) u) →
      Reads told N (r >>= λ a. give (f a))
  unfolding ◌>>=◌
  map-reads f h k = record {
    example = λ t. let (a, u, l) = h.example t in (f a, u, k a u l);
    comes = λ text p. comes-map f (h.comes text p) k;
  }

-- a reader behind two texts
pub behind-both :
    {A : Type 0} {told : Type 0} {r : Reader A} (N : Spelling A) (u v : Text) →
    Reads told (behind (u ++ v) N) r →
    Reads told (behind v (behind u N)) r
behind-both N u v h = reads_as (λ a w n. subst (N a) (append_assoc u v w) n) h

module _ {A : Type 0} {told : Type 0} {N : Spelling A} {text : Text} {p : ℕ} where
  -- a reading that passed, and one that was refused
  pub comes-passed : {o : Outcome (Got A)} {g : Got A} → Comes told N text p o → o ≡ passed g → Read N text p g
  comes-passed (got h) e = subst (Read N text p) (passed-same e) h
  comes-passed (halted h) e = refused-passed e

  pub comes-refused :
      {o : Outcome (Got A)} {f : Refusal} {q : ℕ} →
      told →
      Comes told N text p o →
      o ≡ refused f q →
      Stopped N text p f q
  comes-refused t (got h) e = refused-passed (sym e)
  comes-refused {f} {q} t (halted {r = f'} {q = q'} h) e =
      let reason : f' ≡ f = cc in
      let place : q' ≡ q = cc in
      rw (reason, place) at (h t)

-- a reader that is known to be sound, and of whose refusals nothing is told
pub sound-reads :
    {A : Type 0} {N : Spelling A} {r : Reader A} →
    ((text : Text) (p : ℕ) (g : Got A) → r text p ≡ passed g → Read N text p g) →
    Reads ⊥ N r
sound-reads {A} {N} {r} h = record { example = λ t. absurd t; comes = λ text p. go text p (r text p) refl }
  where
    go : (text : Text) (p : ℕ) (o : Outcome (Got A)) → r text p ≡ o → Comes ⊥ N text p o
    go text p (passed g) e = got (h text p g e)
    go text p (refused f q) e = halted λ t. absurd t
