-- The readers of several items, of bound variables and of excluded tuples take the tokens of these.
use Prim.Native.Nat.{ℕ, zero, suc, ◌-◌, ◌≤◌, max}
use native.Mathlib.Omega.{arith}
use Rattle.std.specs.Prelude.{◌≡◌, Bool, true, false, cond, eqb, ℤ}
use Rattle.std.proofs.Math.Path.{refl, ap}
use Rattle.std.proofs.Common.{◌∙◌, eqb-true, eq-eqb}
use Rattle.std.proofs.Math.Bool.{not}
use mathlib.Core.List.{List, [], ◌∷◌, ◌++◌, map, Memᴰ}
use Rattle.std.proofs.Math.ListN.{length, length-append}
use Rattle.model.specs.Words.{word_sized}
use Rattle.model.specs.Bytes.{Text, bytes, blank, digit, comma}
use Rattle.model.specs.Lists.{span, all, gather}
use Rattle.model.specs.Decimal.{decimal}
use Rattle.model.specs.Tree.{Term}
use Rattle.model.specs.Tptp.{Tokens, term_token, good_term, Stand, variable_token, separated, binder, unequals, excludes, parenthesized}
use Rattle.model.specs.Tptp.{good_tuple}
use Rattle.model.specs.TptpReading.{Reader, term, terms, give, ◌>>=◌, token, opening, up_to, more, behind_blanks, declaration, variables}
use Rattle.model.specs.TptpReading.{read_binder, unequal, read_unequals, read_tuple}
use Rattle.laws.specs.Words.Tests.{and_left, and_right}
use Rattle.laws.specs.Lists.Membership.{all_mem}
use Rattle.laws.specs.Tptp.Spelling.Good.{good-tuple}
use Rattle.laws.specs.Tptp.Limits.Opened.{closing, tupled}
use Rattle.laws.specs.Tptp.Spelling.TokensInFront.{stand-split}
use Rattle.laws.specs.Tptp.Spelling.TokensAhead.{free, behind-length, stand-length, solid, apart, Ahead, stand_ahead, ahead_token, ahead_first}
use Rattle.laws.specs.Tptp.Spelling.TokensAhead.{stand-apart}
use Rattle.laws.specs.Tptp.Complete.Readers.{Completes, give_completes, map_completes, then_completes, free_completes, token_completes}
use Rattle.laws.specs.Tptp.Complete.Readers.{last_completes, look_completes, opening_completes}
use Rattle.laws.proofs.Tptp.Complete.Numbers.{integer_completes, term_completes}

-- a byte is next in a text, behind blanks; it is none, and the text does not begin with a digit
pub record Next (d : ℕ) (text : Text) : Type 0 where
  pub behind : Text
  pub is : behind_blanks text ≡ d ∷ behind
  pub solid : blank d ≡ false
  pub apart : apart text ≡ true

-- the first byte of a token, that is no digit
pub stand-next :
    (d : ℕ) (w : Text) (ts : Tokens) (text rest : Text) →
    blank d ≡ false →
    digit d ≡ false →
    Stand ((d ∷ w) ∷ ts) text rest →
    Next d text
unfolding solid free
stand-next d w ts text rest e h s =
    let (behind, is) = ahead_first d w ts rest e text (stand_ahead s) in
    record { behind = behind; is = is; solid = e; apart = stand-apart (d ∷ w) ts text rest (ap not e) (ap not h) s }

-- it is next where nothing stands before this text
pub next-first :
    {d : ℕ} {rest : Text} →
    Next d rest →
    (text : Text) →
    Ahead [] text rest →
    (t : Text) × (behind_blanks text ≡ d ∷ t)
unfolding Stand
next-first next text s = (next.behind, s.alike ∙ ap behind_blanks s.stand ∙ next.is)

-- the most parentheses that one of several items needs
unfoldable pub highest : {A : Type 0} → (A → ℕ) → List A → ℕ
highest need [] = 0
highest need (x ∷ xs) = max (need x) (highest need xs)

-- the tokens of several items, each behind a byte
abbrev pub row : {A : Type 0} (shown : A → Tokens) (c : ℕ) (xs : List A) → Tokens
row shown c xs = gather (λ next. (c ∷ []) ∷ next) (map shown xs)

-- a reader takes each of several items, before what is no digit
abbrev pub Each : {A : Type 0} (room : ℕ) (shown : A → Tokens) (need : A → ℕ) (one : Reader A) (xs : List A) → Type 0
Each {A} room shown need one xs =
    (x : A) →
    Memᴰ x xs →
    (rest : Text) →
    apart rest ≡ true →
    Completes (need x) room (shown x) x rest one

-- items, each behind a byte that is no digit, before what is no digit
row_apart :
    {A : Type 0} (shown : A → Tokens) (c : ℕ) (xs : List A) (text rest : Text) →
    blank c ≡ false →
    digit c ≡ false →
    apart rest ≡ true →
    Stand (row shown c xs) text rest →
    apart text ≡ true
unfolding gather Stand solid free
row_apart shown c [] text rest e h l s = rw s l
row_apart shown c (x ∷ xs) text rest e h l s =
    stand-apart (c ∷ []) (shown x ++ row shown c xs) text rest (ap not e) (ap not h) s

module _
    {A : Type 0} (room : ℕ) (shown : A → Tokens) (need : A → ℕ) (c : ℕ) (solid-c : blank c ≡ false) (apart-c : digit c ≡ false)
    (one : Reader A) (rest : Text) (d : ℕ) (next : Next d rest) (other : eqb d c ≡ false) where
  up_to_completes :
      (n : ℕ) (xs : List A) →
      length xs ≤ n →
      Each room shown need one xs →
      Completes (highest need xs) room (row shown c xs) xs rest (up_to n c one)
  unfolding gather highest up_to solid
  up_to_completes zero [] l h = give_completes
  up_to_completes zero (x ∷ xs) l h = absurd (omega arith)
  up_to_completes (suc n) [] l h =
      look_completes _ d next.solid (next-first next)
      (rw other give_completes)
  up_to_completes (suc n) (x ∷ xs) l h =
      look_completes _ c solid-c (ahead_first c [] _ rest solid-c)
      (rw (eq-eqb c c refl)
      (token_completes (c ∷ []) (ap not solid-c)
      (then_completes _ (need x) refl
      (λ mid s. h x (Memᴰ.head refl) mid (row_apart shown c xs mid rest solid-c apart-c next.apart s))
      (map_completes (λ l. x ∷ l) refl (up_to_completes n xs (omega arith) (λ y m. h y (Memᴰ.tail m)))))))

  -- each of the items takes a byte at least
  stand-row : (xs : List A) (text : Text) → Stand (row shown c xs) text rest → length xs ≤ length text
  unfolding gather Stand
  stand-row [] text s = omega arith
  stand-row (x ∷ xs) text (gap, behind, blanks, is, s) =
      let (mid, s₁, s₂) = stand-split (shown x) (row shown c xs) behind rest s in
      let front = length-append gap (c ∷ []) in
      let whole = ap length is ∙ length-append (gap ++ c ∷ []) behind in
      omega (arith, stand-row xs mid s₂, stand-length (shown x) behind mid s₁)

  ahead_row : (xs : List A) (text : Text) → Ahead (row shown c xs) text rest → length xs ≤ length text
  unfolding gather solid
  ahead_row [] text s = omega arith
  ahead_row (x ∷ xs) text s =
      let (behind, is, s₁) = ahead_token (c ∷ []) (shown x ++ row shown c xs) text rest (ap not solid-c) s in
      let (mid, s₂, s₃) = stand-split (shown x) (row shown c xs) behind rest s₁ in
      let shorter = behind-length text in
      omega (arith, ap length is, stand-row xs mid s₃, stand-length (shown x) behind mid s₂)

  -- as many as there are
  pub more_completes :
      (xs : List A) →
      Each room shown need one xs →
      Completes (highest need xs) room (row shown c xs) xs rest (more c one)
  unfolding more
  more_completes xs h = record { takes = λ text s p. (up_to_completes (length text) xs (ahead_row xs text s) h).takes text s p }

-- items that need no parentheses, or all the same number
highest-none : {A : Type 0} (xs : List A) → highest (λ _. 0) xs ≡ 0
unfolding highest
highest-none [] = refl
highest-none (x ∷ xs) = omega (arith, highest-none xs)

pub highest-same : {A : Type 0} (n : ℕ) (x : A) (xs : List A) → highest (λ _. n) (x ∷ xs) ≡ n
unfolding highest
highest-same n x [] = omega arith
highest-same n x (y ∷ xs) = omega (arith, highest-same n y xs)

module _ {room : ℕ} where
  -- the terms of an atom
  pub terms_completes :
      (ts : List Term) (rest : Text) →
      1 ≤ length ts →
      length ts ≤ 6 →
      all good_term ts ≡ true →
      Next closing rest →
      Completes 0 room (separated (bytes ",") (map (λ t. term_token t ∷ []) ts)) ts rest terms
  unfolding bytes blank digit separated terms all
  terms_completes [] rest l h e next = absurd (omega arith)
  terms_completes (t ∷ ts) rest l h e next =
      let one : Each room (λ t. term_token t ∷ []) (λ _. 0) term ts =
      λ x m rest k. term_completes k x (all_mem good_term (and_right (good_term t) _ e) m) in
      let shown : Term → Tokens = λ t. term_token t ∷ [] in
      let more = up_to_completes room shown (λ _. 0) comma refl refl term rest closing next refl 5 ts (omega arith) one in
      free_completes _
      (λ mid s. term_completes (row_apart shown comma ts mid rest refl refl next.apart s) t (and_left (good_term t) _ e))
      (map_completes (λ l. t ∷ l) refl (rw (highest-none ts) at more))

-- a bound variable with its type
abbrev typed : ℕ → Tokens
typed x = variable_token x ∷ bytes ":" ∷ bytes "$int" ∷ []

module _ {room : ℕ} where
  declaration_completes : (x : ℕ) (rest : Text) → Completes 0 room (typed x) tt rest (declaration x)
  unfolding bytes blank solid variable_token declaration
  declaration_completes x rest =
      token_completes (variable_token x) refl (token_completes (bytes ":") refl (last_completes (bytes "$int") refl))

  variables_completes :
      (most x v : ℕ) (rest : Text) →
      1 ≤ v →
      v ≤ suc most →
      Next 93 rest →
      Completes 0 room (separated (bytes ",") (map typed (span x v))) v rest (variables most x)
  unfolding bytes blank solid span gather separated variables
  variables_completes most x zero rest l h next = absurd (omega arith)
  variables_completes zero x (suc zero) rest l h next = map_completes (λ _. 1) refl (declaration_completes x rest)
  variables_completes zero x (suc (suc v)) rest l h next = absurd (omega arith)
  variables_completes (suc most) x (suc zero) rest l h next =
      free_completes _ (λ mid s. declaration_completes x mid)
      (look_completes _ 93 refl (next-first next) give_completes)
  variables_completes (suc most) x (suc (suc v)) rest l h next =
      free_completes _ (λ mid s. declaration_completes x mid)
      (look_completes _ comma refl (ahead_first comma [] _ rest refl)
      (token_completes (bytes ",") refl
      (map_completes suc refl (variables_completes most (suc x) (suc v) rest (omega arith) (omega arith) next))))

  pub binder_completes :
      (most x v : ℕ) (rest : Text) →
      1 ≤ v →
      v ≤ suc most →
      Completes 0 room (binder x v) v rest (read_binder most x)
  unfolding bytes blank digit solid binder read_binder
  binder_completes most x v rest l h =
      token_completes (bytes "[") refl
      (free_completes _
      (λ mid s. variables_completes most x v mid l h (stand-next 93 [] _ mid rest refl refl s))
      (token_completes (bytes "]") refl (token_completes (bytes ":") refl give_completes)))

  unequal_completes :
      (x : ℕ) (k : ℤ) (rest : Text) →
      word_sized k ≡ true →
      apart rest ≡ true →
      Completes 0 room (variable_token x ∷ bytes "!=" ∷ decimal k ∷ []) k rest (unequal x)
  unfolding bytes blank solid variable_token unequal
  unequal_completes x k rest e l =
      token_completes (variable_token x) refl (token_completes (bytes "!=") refl (integer_completes l k e))

  unequals_completes :
      (n x : ℕ) (ks : List ℤ) (rest : Text) →
      length ks ≡ suc n →
      all word_sized ks ≡ true →
      apart rest ≡ true →
      Completes 0 room (separated (bytes "|") (unequals x ks)) ks rest (read_unequals n x)
  unfolding bytes blank digit solid free all gather separated unequals read_unequals
  unequals_completes n x [] rest e h l = absurd (omega arith)
  unequals_completes zero x (k ∷ []) rest e h l =
      map_completes (λ k. k ∷ []) refl (unequal_completes x k rest (and_left (word_sized k) _ h) l)
  unequals_completes (suc n) x (k ∷ []) rest e h l = absurd (omega arith)
  unequals_completes zero x (k ∷ i ∷ ks) rest e h l = absurd (omega arith)
  unequals_completes (suc n) x (k ∷ i ∷ ks) rest e h l =
      free_completes _
      (λ mid s.
      unequal_completes x k mid (and_left (word_sized k) _ h) (stand-apart (bytes "|") _ mid rest refl refl s))
      (token_completes (bytes "|") refl
      (map_completes (λ ks. k ∷ ks) refl
      (unequals_completes n (suc x) (i ∷ ks) rest (omega arith) (and_right (word_sized k) _ h) l)))

module _ (room : ℕ) where
  -- an excluded tuple of v variables from x on
  pub tuple_completes :
      (v x : ℕ) (tuple : List ℤ) (rest : Text) →
      1 ≤ v →
      good_tuple v tuple ≡ true →
      apart rest ≡ true →
      Completes (tupled v) room (excludes x tuple) tuple rest (read_tuple room v x)
  unfolding bytes blank digit solid free parenthesized excludes read_tuple tupled
  tuple_completes v x tuple rest l e h =
      let (count, sized) = good-tuple v tuple e in
      rw count (go (eqb v 1) refl count sized)
    where
      parts : Tokens
      parts = separated (bytes "|") (unequals x tuple)

      go :
          (b : Bool) →
          eqb v 1 ≡ b →
          length tuple ≡ v →
          all word_sized tuple ≡ true →
          Completes (cond b 0 1) room (cond b parts (parenthesized parts)) tuple rest
          (cond b (read_unequals 0 x)
          (do
            _ ← opening room
            ks ← read_unequals (v - 1) x
            _ ← token (bytes ")")
            give ks))
      go true k count sized = unequals_completes 0 x tuple rest (count ∙ eqb-true v 1 k) sized h
      go false k count sized =
          let counted : length tuple ≡ suc (v - 1) = omega arith in
          opening_completes room (λ r is.
          free_completes _
          (λ mid s. unequals_completes (v - 1) x tuple mid counted sized (stand-apart (bytes ")") _ mid rest refl refl s))
          (map_completes (λ _. tuple) refl (last_completes (bytes ")") refl)))
