-- The own words of a node are copied in two parts: up to the terms as they are, and the terms with numbers put in.
use Prim.Native.Nat.{ℕ, ◌+◌, ◌*◌, ◌-◌, ◌≤◌}
use native.Mathlib.Omega.{arith}
use mathlib.Core.Path.{◌≡◌, ap, ap₂, sym, ◌∙◌, subst}
use mathlib.Core.List.{List, ◌∷◌, ◌++◌, map}
use lib.ListN.{length, take, drop, length-map, length-append}
use lib.IntN.{pos}
use Rattle.model.specs.Words.{Words, word}
use Rattle.model.specs.Lists.{gather}
use Rattle.model.specs.Tag.{Tag, tag_of}
use Rattle.model.specs.Tree.{Term, Tree, encode_term, encode_all}
use Rattle.model.specs.Putting.{put_term, put}
use Rattle.laws.specs.Words.Standing.{Stands, stands-left, stands-right, stands_taken, code}
use Rattle.laws.specs.Reading.Parts.{root}
use Rattle.laws.specs.Putting.Modes.{terms-length}
use Rattle.policies.specs.Node.{Sized}
use Rattle.trees.specs.Grown.{Grown}
use Rattle.trees.proofs.Rows.{children, tree-words, tree_tag, tree-own}
use Rattle.words.specs.Laying.{laid}
use Rattle.words.proofs.LayingLaws.{laid-laid, laid-long}
use Rattle.trees.specs.Own.{Terms, terms, own_words}
use Rattle.trees.proofs.OwnLaws.{lead, terms_of, mine-parts, mine-long, tree-terms, put-own}

module _
    (words : Words)
    (at : ℕ)
    (tag : Tag)
    (told : tag ≡ tag_of (word words at))
    (own n : ℕ)
    (o : Sized words tag at own)
    (m : n ≡ terms words tag at)
  where
    -- so many words stand before the terms
    abbrev first : ℕ
    first = own - 2 * n

    module _ (t : Tree) (next : ℕ) (g : Grown words at t next) where
      abbrev front : Words
      front = pos (code (root t)) ∷ lead t

      counted : n ≡ length (terms_of t)
      counted = m ∙ ap (λ (k : Tag). terms words k at) (told ∙ tree_tag words at next t g) ∙ tree-terms words at next t g

      whole : own ≡ length front + 2 * n
      whole = omega (arith, tree-own words at next t g tag told own o, mine-long t, counted)

      front-is : length front ≡ first
      front-is = omega (arith, whole)

      both : Stands words at (front ++ gather encode_term (terms_of t)) (at + length (front ++ gather encode_term (terms_of t)))
      both =
          stands-left words (front ++ gather encode_term (terms_of t)) (encode_all (children t))
          (subst (λ (l : Words). Stands words at l next)
          (tree-words t ∙ ap (λ (l : Words). (pos (code (root t)) ∷ l) ++ encode_all (children t)) (mine-parts t))
          g.stands)

      -- the words before the terms
      front_taken : take first (drop at words) ≡ front
      front_taken =
          ap (λ (k : ℕ). take k (drop at words)) (sym front-is)
          ∙ stands_taken words front (stands-left words front (gather encode_term (terms_of t)) both)

      -- the terms
      pub node-terms : Terms words (at + first) n (terms_of t)
      node-terms =
          let end : at + length (front ++ gather encode_term (terms_of t)) ≡ at + first + 2 * n
          = omega (arith, whole, length-append front (gather encode_term (terms_of t)), terms-length (terms_of t), counted) in
          record {
            number = sym counted;
            stands =
                subst (λ (k : ℕ). Stands words (at + first) (gather encode_term (terms_of t)) k) end
                (subst (λ (k : ℕ). Stands words (at + k) (gather encode_term (terms_of t)) (at + length (front ++ gather encode_term (terms_of t)))) front-is
                (stands-right words front (gather encode_term (terms_of t)) both));
          }

      pub node-few : (2 * n ≤ own) × (at + own ≤ length words)
      node-few =
          (omega (arith, whole), omega (arith, whole, both.fits, length-append front (gather encode_term (terms_of t)), terms-length (terms_of t), counted))

      module _ (old : Words) (to : ℕ) (room : to + own ≤ length old) where
        -- the first part keeps the length
        pub mid_long : (mid : Words) → mid ≡ laid old to (take first (drop at words)) → length mid ≡ length old
        mid_long mid e =
            ap length e
            ∙ laid-long old to (take first (drop at words)) (omega (arith, ap length front_taken, whole))

        -- both parts are laid
        pub node-written :
            (mid : Words) →
            mid ≡ laid old to (take first (drop at words)) →
            (ρ after : Words) →
            ((ts : List Term) → Terms words (at + first) n ts → after ≡ laid mid (to + first) (gather encode_term (map (put_term ρ) ts))) →
            after ≡ laid old to (own_words (put t ρ))
        node-written mid e ρ after f =
            let new = gather encode_term (map (put_term ρ) (terms_of t)) in
            let long : length new ≡ 2 * n
            = terms-length (map (put_term ρ) (terms_of t)) ∙ omega (arith, length-map (terms_of t) (put_term ρ), counted) in
            f (terms_of t) node-terms
            ∙ ap₂ (λ (l : Words) (k : ℕ). laid l (to + k) new) (e ∙ ap (laid old to) front_taken) (sym front-is)
            ∙ laid-laid old to front new (omega (arith, long, whole))
            ∙ ap (laid old to) (sym (put-own ρ t))
