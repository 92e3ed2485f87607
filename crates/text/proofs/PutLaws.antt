-- Laws for the writing of texts one behind another.
use Prim.Native.Nat.{ℕ, ◌+◌, ◌≤◌, ◌<◌}
use native.Mathlib.Omega.{arith}
use mathlib.Core.Path.{◌≡◌, refl, sym, ap, ◌∙◌, subst}
use mathlib.Core.List.{[], ◌++◌, append_assoc, append-nil}
use native.Mathlib.Numerals.{add-one}
use lib.ListN.{length, take, set, get_or, length-append}
use lib.Seq.{paste, paste-zero, paste-suc, take-paste, take-length}
use borrow.Author.Tests.{le-leb, lt-leb}
use Rattle.model.specs.Bytes.{Text}
use Rattle.std.specs.Prelude.{Option, Some, None}
use Rattle.std.specs.Option.{ForSome}
use Rattle.std.proofs.lemmas.Option.{none-some}
use Rattle.std.specs.Borrow.{MutBor}
use Rattle.text.specs.Put.{Puts, told, Writes}
use Rattle.text.specs.Adds.{PutsBehind, Adds, Begins}
use Rattle.text.specs.declared.writer.Writer.{Writer}

-- the first bytes of a text are copied to an index
pub record Copied (old : Text) (at : ℕ) (text out : Text) (i : ℕ) : Type 0 where
  pub few : i ≤ length text
  pub is : out ≡ paste old at text i

module _ {old : Text} {at : ℕ} {text : Text} where
  pub copied_none : Copied old at text old 0
  copied_none = record { few = omega arith; is = paste-zero old at text }

  module _ {out : Text} {i : ℕ} (c : Copied old at text out i) (room : at + length text ≤ length old) where
    pub copied_more : (b : ℕ) → i < length text → b ≡ get_or text i 0 → Copied old at text (set out (at + i) b) (i + 1)
    copied_more b h e = record {
      few = omega arith;
      is =
          ap (λ (x : ℕ). set out (at + i) x) e
          ∙ ap (λ (l : Text). set l (at + i) (get_or text i 0)) c.is
          ∙ paste-suc old at text i 0 (omega arith) h
          ∙ ap (paste old at text) (sym (add-one i));
    }

    pub copied_all : length text ≤ i → take (at + length text) out ≡ take at old ++ text
    copied_all h =
        let all : i ≡ length text = omega (arith, c.few) in
        ap (take (at + length text)) (c.is ∙ ap (paste old at text) all)
        ∙ take-paste old at text (length text) (omega arith) (omega arith)
        ∙ ap (λ (l : Text). take at old ++ l) (take-length text)

-- the same text
pub adds_is : {a b : Text} {w w' : Writer} → b ≡ a → Adds a w w' → Adds b w w'
adds_is {w} {w'} e h = subst (λ (t : Text). Adds t w w') (sym e) h

-- one text behind another
puts-both :
    (a b : Text) (put : Option ℕ) (old out out' : Text) (p r : Option ℕ) → PutsBehind a put old out p → length out ≡ length old →
    PutsBehind b p out out' r →
    PutsBehind (a ++ b) put old out' r
puts-both a b None old out out' p r h l k = subst (λ (q : Option ℕ). PutsBehind b q out out' r) h k
puts-both a b (Some at) old out out' None r h l k =
    subst (Puts (a ++ b) at old out') (sym k) (omega (arith, h, length-append a b))
puts-both a b (Some at) old out out' (Some n) None h l k = omega (arith, h.ends, k, l, length-append a b)
puts-both a b (Some at) old out out' (Some n) (Some end) h l k = record {
  ends = omega (arith, h.ends, k.ends, length-append a b);
  fits = omega (arith, k.fits, l);
  stands = k.stands ∙ ap (λ (t : Text). t ++ b) h.stands ∙ append_assoc (take at old) a b;
}

pub adds_then : {a b : Text} {w₁ w₂ w₃ : Writer} → Adds a w₁ w₂ → Adds b w₂ w₃ → Adds (a ++ b) w₁ w₃
adds_then {a} {b} {w₁} {w₂} {w₃} h k = record {
  same = k.same ∙ h.same;
  long = k.long ∙ h.long;
  puts = puts-both a b w₁.put w₁.out.now w₂.out.now w₃.out.now w₂.put w₃.put h.puts h.long k.puts;
}

-- a text that a writer put from an index on, in a buffer that it has left
pub puts_from :
    {text out' : Text} {at : ℕ} {w w' : Writer} → Adds text w w' → w.put ≡ Some at → out' ≡ w'.out.now → Puts text at w.out.now out' w'.put
puts_from {text} {out'} {at} {w} {w'} h e left = rw left (rw e at h.puts)

-- so it is what a writer puts that stands there
pub adds_from :
    {text : Text} {at : ℕ} {w w' : Writer} → Puts text at w.out.now w'.out.now w'.put → w.put ≡ Some at →
    w'.out.ghost_name ≡ w.out.ghost_name →
    length w'.out.now ≡ length w.out.now →
    Adds text w w'
adds_from {text} {at} {w} {w'} h e same long = record { same = same; long = long; puts = rw e h }

pub puts_fit :
    (text : Text) (at : ℕ) (out out' : Text) (put : Option ℕ) → Puts text at out out' put → length out' ≡ length out →
    ForSome put (λ next. next ≤ length out')
puts_fit text at out out' None h long = λ n e. absurd (none-some n e)
puts_fit text at out out' (Some next) h long = λ n e. let same : n ≡ next = cc in omega (arith, h.fits)

-- nothing more
pub adds_none : (w : Writer) → Adds [] w w
adds_none w = record { same = refl; long = refl; puts = go w.put w.fits }
  where
    go : (put : Option ℕ) → ForSome put (λ at. at ≤ length w.out.now) → PutsBehind [] put w.out.now w.out.now put
    go None h = refl
    go (Some at) h = record { ends = omega arith; fits = h at refl; stands = sym (append-nil (take at w.out.now)) }

-- no room for the front of a text is no room for the text
pub adds_short : {a : Text} (rest : Text) {w w' : Writer} → Adds a w w' → w'.put ≡ None → Adds (a ++ rest) w w'
adds_short {a} rest {w} {w'} h full = record { same = h.same; long = h.long; puts = go w.put w'.put h.puts full }
  where
    go :
        (put r : Option ℕ) → PutsBehind a put w.out.now w'.out.now r → r ≡ None → PutsBehind (a ++ rest) put w.out.now w'.out.now r
    go None r h e = h
    go (Some at) None h e = omega (arith, h, length-append a rest)
    go (Some at) (Some n) h e = absurd (none-some n (sym e))

-- where room was missing before, any text is put
pub adds_full : (text : Text) (w : Writer) → w.put ≡ None → Adds text w w
adds_full text w full = adds_short text (adds_none w) full

pub full_stays : {text : Text} {w w' : Writer} → Adds text w w' → w.put ≡ None → w'.put ≡ None
full_stays {text} {w} {w'} h full = rw full at h.puts

-- the front of a text is put, and this is left of it
pub record Left (text left : Text) (w w' : Writer) : Type 0 where
  pub done : Text
  pub all : text ≡ done ++ left
  pub adds : Adds done w w'

pub left-none : (text : Text) (w : Writer) → Left text text w w
left-none text w = record { done = []; all = refl; adds = adds_none w }

module _ {text left : Text} {w w' : Writer} (l : Left text left w w') where
  -- one part more
  pub left_more : (a more : Text) → left ≡ a ++ more → {w″ : Writer} → Adds a w' w″ → Left text more w w″
  left_more a more e k = record {
    done = l.done ++ a;
    all = l.all ∙ ap (λ (t : Text). l.done ++ t) e ∙ sym (append_assoc l.done a more);
    adds = adds_then l.adds k;
  }

  -- there was no room for it
  pub left_full : w'.put ≡ None → Adds text w w'
  left_full full = adds_is l.all (adds_short left l.adds full)

  -- nothing is left
  pub left_end : left ≡ [] → Adds text w w'
  left_end e = adds_is (l.all ∙ ap (λ (t : Text). l.done ++ t) e ∙ append-nil l.done) l.adds

-- a whole text, in a buffer that its writer has left
pub writes_whole :
    {text out' : Text} {out : MutBor Text} {w w' : Writer} → Begins out w → Adds text w w' → out' ≡ w'.out.now →
    Writes text out.now out' w'.put
unfolding told
writes_whole {text} {out'} {out} {w} {w'} b h left = rw left (go w'.put (rw b.front at h.puts))
  where
    go : (r : Option ℕ) → Puts text 0 w.out.now w'.out.now r → Writes text out.now w'.out.now r
    go None h = record {
      said = rw (lt-leb (length text) (length out.now) (omega (arith, h, ap length b.now)));
      wrote = λ n e. absurd (let z : ◌≡◌ {A = ℕ} 0 1 = cc in omega arith);
    }
    go (Some next) h =
        let ends : next ≡ length text = omega (arith, h.ends) in
        record {
          said = rw (le-leb (length text) (length out.now) (omega (arith, h.fits, ap length b.now))) (ap Some ends);
          wrote = λ n e. let same : n ≡ next = cc in ap (λ (k : ℕ). take k w'.out.now) same ∙ h.stands;
        }
