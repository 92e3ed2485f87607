-- Texts of a policy with as many parentheses open at once as there may be, and one more, as one list of cases and one claim about the list.
use Rattle.std.specs.Prelude.{◌≡◌, refl, List, [], ◌∷◌, ◌++◌, map}
use Rattle.model.specs.Bytes.{bytes}
use Rattle.model.specs.TptpExamples.{TptpCase, comes_out, must_come_out, no, deep, deep_text, inner, computing_policies}

unfoldable pub cases : List TptpCase
cases =
    -- 256 parentheses open at once, 257 of them, and 15 behind the 257th
    no (deep_text 255) 4 191
    ∷ no (deep_text 256) 4 1803
    ∷ no (bytes "tff(a,axiom," ++ deep 256) 4 1803
    ∷ no (inner 256 "%") 4 1803
    -- the 257th as that of an atom, a comparison and its sum, a quantifier and a "some"; around a restriction, and around an
    -- excluded tuple, or what might be one
    ∷ no (inner 255 "p2(%") 4 1799
    ∷ no (inner 255 "~p2(%") 4 1800
    ∷ no (inner 255 "$lesseq(%") 4 1804
    ∷ no (inner 254 "$lesseq($sum(%") 4 1802
    ∷ no (inner 255 "![X0:$int]:(%") 4 1808
    ∷ no (inner 254 "![X0:$int]:(?[X1:$int]:(%") 4 1813
    ∷ no (inner 254 "![X0:$int]:((%") 4 1802
    ∷ no (inner 253 "![X0:$int,X1:$int]:(($true&(X0!=7|X1!=9))=>$true)") 4 1810
    ∷ no (inner 253 "![X0:$int,X1:$int]:(($true&(%") 4 1810
    -- one too many where none may stand: 15
    ∷ no (inner 255 "$true(") 15 1802
    ∷ no (inner 255 "~(") 15 1798
    ∷ []

-- the claim
pub policy_limits : map comes_out cases ≡ map must_come_out cases
unfolding computing_policies cases
policy_limits = refl
