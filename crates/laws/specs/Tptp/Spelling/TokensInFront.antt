-- Tokens that stand in front of a text: one list of them behind another, with blanks in front or behind, and as the whole of a
-- text.
use Rattle.std.specs.Prelude.{◌≡◌, refl, true, [], ◌∷◌, ◌++◌}
use Rattle.std.proofs.Common.{sym, ap, ◌∙◌, subst, append_assoc, append-nil}
use Rattle.model.specs.Bytes.{Text, blank}
use Rattle.model.specs.Lists.{all}
use Rattle.model.specs.Tptp.{Tokens, Stand}
use Rattle.laws.specs.Lists.Membership.{all_append}

-- tokens, and others behind them
pub stand-append :
    (a b : Tokens) (text mid rest : Text) →
    Stand a text mid →
    Stand b mid rest →
    Stand (a ++ b) text rest
unfolding Stand
stand-append [] b text mid rest e s = subst (λ (t : Text). Stand b t rest) (sym e) s
stand-append (token ∷ a) b text mid rest (gap, behind, blanks, is, s₁) s₂ =
    (gap, behind, blanks, is, stand-append a b behind mid rest s₁ s₂)

-- and back
pub stand-split :
    (a b : Tokens) (text rest : Text) →
    Stand (a ++ b) text rest →
    (mid : Text) × Stand a text mid × Stand b mid rest
unfolding Stand
stand-split [] b text rest s = (text, refl, s)
stand-split (token ∷ a) b text rest (gap, behind, blanks, is, s) =
    let (mid, s₁, s₂) = stand-split a b behind rest s in
    (mid, (gap, behind, blanks, is, s₁), s₂)

-- more text behind
pub stand-longer : (ts : Tokens) (text rest more : Text) → Stand ts text rest → Stand ts (text ++ more) (rest ++ more)
unfolding Stand
stand-longer [] text rest more e = ap (λ (t : Text). t ++ more) e
stand-longer (token ∷ ts) text rest more (gap, behind, blanks, is, s) =
    let whole = ap (λ (t : Text). t ++ more) is ∙ append_assoc (gap ++ token) behind more in
    (gap, behind ++ more, blanks, whole, stand-longer ts behind rest more s)

-- blanks in front of a first token
pub stand-blanks :
    (gap : Text) (token : Text) (ts : Tokens) (text rest : Text) →
    all blank gap ≡ true →
    Stand (token ∷ ts) text rest →
    Stand (token ∷ ts) (gap ++ text) rest
unfolding Stand
stand-blanks more token ts text rest e (gap, behind, blanks, is, s) =
    let whole : more ++ text ≡ more ++ gap ++ token ++ behind = rw is (simp append_assoc) in
    (more ++ gap, behind, all_append blank more gap e blanks, whole, s)

-- tokens are the whole of a text, but for blanks before them
pub record Fill (ts : Tokens) (text : Text) : Type 0 where
  pub stand : Stand ts text []

-- then they stand in front of any text
pub fill-stand : {ts : Tokens} {u : Text} (rest : Text) → Fill ts u → Stand ts (u ++ rest) rest
fill-stand {ts} {u} rest f = stand-longer ts u [] rest f.stand

-- and tokens that stand in front of a text are the whole of what they stand in
pub stand-fill : (ts : Tokens) (text rest : Text) → Stand ts text rest → (u : Text) × (text ≡ u ++ rest) × Fill ts u
unfolding Stand
stand-fill [] text rest e = ([], e, record { stand = refl })
stand-fill (token ∷ ts) text rest (gap, behind, blanks, is, s) =
    let (u, is', f) = stand-fill ts behind rest s in
    let whole = is ∙ ap (λ (t : Text). gap ++ token ++ t) is' ∙ sym (append_assoc (gap ++ token) u rest) in
    (gap ++ token ++ u, whole, record { stand = (gap, u, blanks, refl, f.stand) })

pub fill_none : Fill [] []
unfolding Stand
fill_none = record { stand = refl }

pub fill-append : {a b : Tokens} {u v : Text} → Fill a u → Fill b v → Fill (a ++ b) (u ++ v)
fill-append {a} {b} {u} {v} f g = record { stand = stand-append a b (u ++ v) v [] (fill-stand v f) g.stand }

pub fill-blanks :
    {token : Text} {ts : Tokens} {u : Text} (gap : Text) →
    all blank gap ≡ true →
    Fill (token ∷ ts) u →
    Fill (token ∷ ts) (gap ++ u)
fill-blanks {token} {ts} {u} gap e f = record { stand = stand-blanks gap token ts u [] e f.stand }

-- a token, and one that is longer
pub fill-token : (gap token : Text) → all blank gap ≡ true → Fill (token ∷ []) (gap ++ token)
unfolding Stand
fill-token gap token e = record { stand = (gap, [], e, sym (append-nil (gap ++ token)), refl) }

pub fill-longer : {token u : Text} (more : Text) → Fill (token ∷ []) u → Fill ((token ++ more) ∷ []) (u ++ more)
unfolding Stand
fill-longer {token} {u} more f =
    let (gap, behind, blanks, is, none) = f.stand in
    let whole : gap ++ (token ++ more) ≡ u ++ more = rw (is, none) (simp (append_assoc, append-nil)) in
    subst (Fill ((token ++ more) ∷ [])) whole (fill-token gap (token ++ more) blanks)

-- the same with tokens behind it
pub fill-word :
    {token u v : Text} {ts : Tokens} (more : Text) →
    Fill (token ∷ []) u →
    Fill ts v →
    Fill ((token ++ more) ∷ ts) (u ++ (more ++ v))
fill-word {token} {u} {v} {ts} more f g =
    subst (Fill ((token ++ more) ∷ ts)) (append_assoc u more v) (fill-append (fill-longer more f) g)

-- tokens are the whole of a text, but for blanks before them and behind
pub record Trail (ts : Tokens) (text : Text) : Type 0 where
  pub front : Text
  pub gap : Text
  pub is : text ≡ front ++ gap
  pub fill : Fill ts front
  pub blanks : all blank gap ≡ true

-- no blanks behind; nothing but blanks
pub fill-trail : {ts : Tokens} {u : Text} → Fill ts u → Trail ts u
unfolding all
fill-trail {u} f = record { front = u; gap = []; is = sym (append-nil u); fill = f; blanks = refl }

pub trail-none : (gap : Text) → all blank gap ≡ true → Trail [] gap
trail-none gap e = record { front = []; gap = gap; is = refl; fill = fill_none; blanks = e }

-- the same blanks behind more text
trail-after : {a b : Tokens} {v : Text} (u : Text) (t : Trail b v) → Fill a (u ++ t.front) → Trail a (u ++ v)
trail-after u t f =
    record {
      front = u ++ t.front;
      gap = t.gap;
      is = ap (λ (s : Text). u ++ s) t.is ∙ sym (append_assoc u t.front t.gap);
      fill = f;
      blanks = t.blanks;
    }

pub trail-blanks :
    {token : Text} {ts : Tokens} {u : Text} (gap : Text) →
    all blank gap ≡ true →
    Trail (token ∷ ts) u →
    Trail (token ∷ ts) (gap ++ u)
trail-blanks gap e t = trail-after gap t (fill-blanks gap e t.fill)

-- tokens in front, and a token behind
pub trail-append : {a b : Tokens} {u v : Text} → Fill a u → Trail b v → Trail (a ++ b) (u ++ v)
trail-append {u} f t = trail-after u t (fill-append f t.fill)

pub trail-fill : {a ts : Tokens} {token u v : Text} → Trail a u → Fill (token ∷ ts) v → Fill (a ++ token ∷ ts) (u ++ v)
trail-fill {a} {ts} {token} {v} t f =
    let whole = sym (append_assoc t.front t.gap v) ∙ ap (λ (s : Text). s ++ v) (sym t.is) in
    subst (Fill (a ++ token ∷ ts)) whole (fill-append t.fill (fill-blanks t.gap t.blanks f))

pub trail-both : {a ts : Tokens} {token u v : Text} → Trail a u → Trail (token ∷ ts) v → Trail (a ++ token ∷ ts) (u ++ v)
trail-both {u} t₁ t₂ = trail-after u t₂ (trail-fill t₁ t₂.fill)
