-- Examples of policies in the TPTP typed form, as one list of cases and one claim about the list.
use Rattle.std.specs.Prelude.{ℕ, zero, suc, ◌≡◌, refl, List, [], ◌∷◌, ◌++◌, map, length, replicate, negsuc}
use Prim.Native.String as S
use Rattle.model.specs.Words.{Words}
use Rattle.model.specs.Lists.{gather}
use Rattle.model.specs.Bytes.{Text, bytes}
use Rattle.model.specs.Calls.{read_policy_call, write_policy_call}
use Rattle.model.specs.Examples.{words, T, F, nested, computing}
use Rattle.model.specs.TextExamples.{TextLeft, left, text_left}
use Rattle.model.specs.Bytes
use Rattle.model.specs.Decimal
use Rattle.model.specs.Tptp
use Rattle.model.specs.TptpReading
use Rattle.model.specs.Calls

-- a call over table T: its input; number, place and count; all words, or bytes, of the buffer lent
pub data TptpCase : Type 0 where
  reads : Text → ℕ → ℕ → ℕ → Words → TptpCase
  writes : Words → ℕ → ℕ → ℕ → Text → TptpCase

unfoldable pub comes_out : TptpCase → TextLeft
comes_out (reads text n p k buffer) =
    let r = read_policy_call T text (length buffer) in text_left r.answer r.buffer []
comes_out (writes ws n p k buffer) =
    let r = write_policy_call T ws (length buffer) in text_left r.answer [] r.buffer

unfoldable pub must_come_out : TptpCase → TextLeft
must_come_out (reads text n p k buffer) = left n p k buffer []
must_come_out (writes ws n p k buffer) = left n p k [] buffer

-- a formula as the text of a policy; text that is refused: number and place, the buffer has two words
unfoldable pub policy : S.String → Text
policy formula = bytes "tff(a,axiom," ++ bytes formula ++ bytes ")."

unfoldable pub no : Text → ℕ → ℕ → TptpCase
no text n p = reads text n p 0 (words (0 ∷ 0 ∷ []))

-- a formula and its words: read and written
unfoldable pub yes : S.String → Words → List TptpCase
yes formula ws = reads (policy formula) 0 0 (length ws) ws ∷ writes ws 0 0 (length (policy formula)) (policy formula) ∷ []

-- all-ofs in n pairs of parentheses
unfoldable pub deep : ℕ → Text
deep zero = bytes "$true&$true"
deep (suc n) = bytes "$true&(" ++ deep n ++ bytes ")"

unfoldable pub deep_text : ℕ → Text
deep_text n = bytes "tff(a,axiom," ++ deep n ++ bytes ")."

-- a text that ends with this part of a formula, behind n parentheses that are open besides the first
unfoldable pub inner : ℕ → S.String → Text
inner n part = bytes "tff(a,axiom," ++ gather (λ t. t) (replicate n (bytes "$true&(")) ++ bytes part

-- P9's residual
unfoldable pub R : Words
R =
    words
    (6 ∷ 2 ∷ 2 ∷ 2 ∷ 1 ∷ 0 ∷ 9 ∷ 8 ∷ 3 ∷ 1 ∷ 7 ∷ 9 ∷ 100 ∷ 2 ∷ 0 ∷ 3 ∷ 1 ∷ 0 ∷ 1 ∷ 1 ∷ 1 ∷ 2 ∷ 2 ∷ 2 ∷ 1 ∷ 1 ∷ 1 ∷ [])

unfoldable pub cases : List TptpCase
cases =
    -- F, P9's residual, and each tag
    yes "![X0:$int,X1:$int,X2:$int]:(p0(X0,X1,X2)=>p2(X1))" (words F)
    ++ yes "p2(9)&![X0:$int,X1:$int,X2:$int]:((p0(X0,X1,X2)&(X0!=7|X1!=9|X2!=100))=>p2(X1))" R
    ++ yes "$false" (words (0 ∷ []))
    ++ yes "$true" (words (1 ∷ []))
    ++ yes "p1(-1,2147483647)" (words (2 ∷ 1 ∷ 2 ∷ 0 ∷ []) ++ negsuc 0 ∷ words (0 ∷ 2147483647 ∷ []))
    ++ yes "~p2(0)" (words (3 ∷ 2 ∷ 1 ∷ 0 ∷ 0 ∷ []))
    ++ yes "$lesseq($sum(1,-2147483648),2)" (words (4 ∷ []) ++ negsuc 2147483647 ∷ words (0 ∷ 1 ∷ 0 ∷ 2 ∷ []))
    ++ yes "~$lesseq($sum(1,2),3)" (words (5 ∷ 2 ∷ 0 ∷ 1 ∷ 0 ∷ 3 ∷ []))
    ++ yes "($true|$false)&$true" (words (6 ∷ 2 ∷ 7 ∷ 2 ∷ 1 ∷ 0 ∷ 1 ∷ []))
    ++ yes "$true|p2(1)|($true&$false)" (words (7 ∷ 3 ∷ 1 ∷ 2 ∷ 2 ∷ 1 ∷ 0 ∷ 1 ∷ 6 ∷ 2 ∷ 1 ∷ 0 ∷ []))
    ++ yes "?[X0:$int]:((p1(X0,1)&X0!=7&X0!=-8)&$true)"
    (words (9 ∷ 1 ∷ 2 ∷ 7 ∷ []) ++ negsuc 7 ∷ words (2 ∷ 1 ∷ 2 ∷ 1 ∷ 0 ∷ 0 ∷ 1 ∷ 1 ∷ []))
    ++ yes "![X0:$int]:(((p1(X0,1)&$true)&X0!=7)=>($true|$false))"
    (words (8 ∷ 1 ∷ 1 ∷ 7 ∷ 6 ∷ 2 ∷ 2 ∷ 1 ∷ 2 ∷ 1 ∷ 0 ∷ 0 ∷ 1 ∷ 1 ∷ 7 ∷ 2 ∷ 1 ∷ 0 ∷ []))
    ++ yes "![X0:$int]:((p1(X0,1)|p1(1,X0))=>$true)"
    (words (8 ∷ 1 ∷ 0 ∷ 7 ∷ 2 ∷ 2 ∷ 1 ∷ 2 ∷ 1 ∷ 0 ∷ 0 ∷ 1 ∷ 2 ∷ 1 ∷ 2 ∷ 0 ∷ 1 ∷ 1 ∷ 0 ∷ 1 ∷ []))
    ++ (reads (deep_text 62) 0 0 190 (words (nested 63)) ∷ [])
    ++ yes "?[X0:$int]:(?[X1:$int]:(p1(X0,X1)&$true)&$true)"
    (words (9 ∷ 1 ∷ 0 ∷ 10 ∷ 6 ∷ 2 ∷ 2 ∷ 1 ∷ 2 ∷ 1 ∷ 0 ∷ 1 ∷ 1 ∷ 1 ∷ 1 ∷ []))
    -- exclusions of a quantifier under another: its variables are numbered on
    ++ yes "![X0:$int]:(p1(X0,1)=>?[X1:$int]:((p1(X0,X1)&X1!=7&X1!=-8)&$true))"
    (words (8 ∷ 1 ∷ 0 ∷ 2 ∷ 1 ∷ 2 ∷ 1 ∷ 0 ∷ 0 ∷ 1 ∷ 9 ∷ 1 ∷ 2 ∷ 7 ∷ []) ++ negsuc 7 ∷ words (2 ∷ 1 ∷ 2 ∷ 1 ∷ 0 ∷ 1 ∷ 1 ∷ 1 ∷ []))
    ++ yes "![X0:$int]:(p1(X0,1)=>?[X1:$int,X2:$int]:((p1(X1,X2)&(X1!=7|X2!=9)&(X1!=-1|X2!=0))&p1(X0,X2)))"
    (words (8 ∷ 1 ∷ 0 ∷ 2 ∷ 1 ∷ 2 ∷ 1 ∷ 0 ∷ 0 ∷ 1 ∷ 9 ∷ 2 ∷ 2 ∷ 7 ∷ 9 ∷ [])
    ++ negsuc 0 ∷ words (0 ∷ 2 ∷ 1 ∷ 2 ∷ 1 ∷ 1 ∷ 1 ∷ 2 ∷ 2 ∷ 1 ∷ 2 ∷ 1 ∷ 0 ∷ 1 ∷ 2 ∷ []))
    -- another name, and blanks around every token
    ++ reads (bytes " tff\r\n( aB_9 , axiom , ~ p2 ( 0 ) ) . \n") 0 0 5 (words (3 ∷ 2 ∷ 1 ∷ 0 ∷ 0 ∷ []))
    -- 15: connectives mixed; a negation before no atom; numbers that are none
    ∷ no (policy "p2(1)&p2(2)|p2(3)") 15 23
    ∷ no (policy "$true&($true&$false|$true)") 15 31
    ∷ no (policy "~$true") 15 14
    ∷ no (policy "p2(01)") 15 16
    ∷ no (policy "p2(-0)") 15 16
    ∷ no (policy "p2(2147483648)") 15 24
    ∷ no (policy "p2(- 1)") 15 16
    -- blanks inside a token: 15 at the blank, or behind it where a number may end before it
    ∷ no (policy "![X0:$int]:($true= >$true)") 15 30
    ∷ no (policy "![X0:$int]:(($true&X0! =7)=>$true)") 15 34
    ∷ no (policy "![X0:$ int]:($true=>$true)") 15 18
    ∷ no (policy "![X 0:$int]:($true=>$true)") 15 15
    ∷ no (policy "p 2(1)") 15 13
    ∷ no (policy "p2(X 0)") 15 16
    ∷ no (policy "p1 0(1)") 15 15
    ∷ no (policy "p2(X1 0)") 15 18
    -- a binder's variable that is not the next free one; no body; a quantifier in a restriction
    ∷ no (policy "![X1:$int]:(p2(X1)=>$true)") 15 15
    ∷ no (policy "?[X0:$int]:(p1(X0,1))") 15 32
    ∷ no (policy "![X0:$int]:(![X1:$int]:($true=>$true)=>$true)") 15 24
    -- exclusions out of order, behind two operands, in parentheses of one variable, and in a formula
    ∷ no (policy "![X0:$int,X1:$int]:((p1(X0,X1)&(X1!=7|X0!=9))=>$true)") 15 45
    ∷ no (policy "![X0:$int]:((p1(X0,1)&$true&X0!=7)=>$true)") 15 40
    ∷ no (policy "![X0:$int]:((p1(X0,1)&(X0!=7))=>$true)") 15 35
    ∷ no (policy "$true&X0!=7") 15 18
    ∷ no (policy "![X0:$int]:(p1(X0,1)=>?[X1:$int]:((p1(X0,X1)&X0!=7)&$true))") 15 58
    -- parentheses around a whole formula, around one operand, and none around an operand
    ∷ no (policy "(p2(1)&p2(2))") 15 25
    ∷ no (policy "![X0:$int]:(?[X1:$int]:((p1(X0,X1)&$true))=>$true)") 15 53
    ∷ no (policy "$true&($true)") 15 24
    ∷ no (policy "![X0:$int]:(p1(X0,1)&$true=>$true)") 15 32
    -- a 5th variable, a 7th term, a second variable of a "some"
    ∷ no (policy "![X0:$int,X1:$int,X2:$int,X3:$int,X4:$int]:($true=>$true)") 15 45
    ∷ no (policy "p0(1,2,3,4,5,6,7)") 15 26
    ∷ no (policy "![X0:$int]:(?[X1:$int,X2:$int]:($true)=>$true)") 15 33
    -- text behind the period, and no text
    ∷ no (policy "$true" ++ bytes "%") 15 19
    ∷ no (bytes "") 15 0
    ∷ no (bytes "tff(a,axiom,$true)") 15 18
    ∷ no (bytes "tff(A,axiom,$true).") 15 4
    -- 4 to 7, of the words: a level, a predicate, an arity, a variable, a mode; and 15 before them
    ∷ no (policy "p9(1)") 5 0
    ∷ no (policy "$true&p2(1,2)") 5 3
    ∷ no (policy "p2(X0)") 6 0
    ∷ no (policy "![X0:$int]:(p2(X0)=>$true)") 7 3
    ∷ no (policy "![X0:$int]:($true=>$true)") 7 0
    ∷ no (policy "p9(1)&") 15 18
    ∷ no (deep_text 63) 4 191
    -- 256 parentheses open at once, 257 of them, and 15 behind the 257th
    ∷ no (deep_text 255) 4 191
    ∷ no (deep_text 256) 4 1803
    ∷ no (bytes "tff(a,axiom," ++ deep 256) 4 1803
    ∷ no (inner 256 "%") 4 1803
    -- the 257th as that of an atom, a comparison and its sum, a quantifier and a "some"; around a restriction, and around an
    -- excluded tuple, or what might be one
    ∷ no (inner 255 "p2(%") 4 1799
    ∷ no (inner 255 "~p2(%") 4 1800
    ∷ no (inner 255 "$lesseq(%") 4 1804
    ∷ no (inner 254 "$lesseq($sum(%") 4 1802
    ∷ no (inner 255 "![X0:$int]:(%") 4 1808
    ∷ no (inner 254 "![X0:$int]:(?[X1:$int]:(%") 4 1813
    ∷ no (inner 254 "![X0:$int]:((%") 4 1802
    ∷ no (inner 253 "![X0:$int,X1:$int]:(($true&(X0!=7|X1!=9))=>$true)") 4 1810
    ∷ no (inner 253 "![X0:$int,X1:$int]:(($true&(%") 4 1810
    -- one too many where none may stand: 15
    ∷ no (inner 255 "$true(") 15 1802
    ∷ no (inner 255 "~(") 15 1798
    -- 7 before 12; 12, by one word
    ∷ reads (policy "![X0:$int]:(p2(X0)=>$true)") 7 3 0 []
    ∷ reads (policy "~p2(0)") 12 0 0 (words (0 ∷ 0 ∷ 0 ∷ 0 ∷ []))
    -- writing: room for more, room for one byte less, and 1 to 7 before it
    ∷ writes (words (1 ∷ [])) 0 0 19 (policy "$true" ++ 0 ∷ [])
    ∷ writes (words (1 ∷ [])) 12 0 0 (replicate 18 0)
    ∷ writes [] 2 0 0 (0 ∷ [])
    ∷ writes (words (1 ∷ 1 ∷ [])) 3 1 0 (0 ∷ [])
    ∷ writes (words (nested 64)) 4 191 0 (0 ∷ [])
    ∷ writes (words (2 ∷ 9 ∷ 1 ∷ 0 ∷ 1 ∷ [])) 5 0 0 (0 ∷ [])
    ∷ writes (words (2 ∷ 2 ∷ 1 ∷ 1 ∷ 0 ∷ [])) 6 0 0 (0 ∷ [])
    ∷ writes (words (8 ∷ 1 ∷ 0 ∷ 1 ∷ 1 ∷ [])) 7 0 0 (0 ∷ [])
    ∷ []

-- to unfold this is to unfold every definition that the calls on the text of a policy compute with
unfoldable pub computing_policies : Unit {0}
unfolding computing Bytes.bytes text_left comes_out must_come_out policy no yes deep deep_text inner R Bytes.digit Bytes.blank Bytes.small Bytes.capital Bytes.word_byte Decimal.digits Decimal.decimal Tptp.predicate_token Tptp.variable_token Tptp.term_token Tptp.parenthesized Tptp.separated Tptp.connective Tptp.negation Tptp.binder Tptp.unequals Tptp.excludes Tptp.restricted Tptp.is_join Tptp.enclosed Tptp.tokens Tptp.text_tokens Tptp.policy_text TptpReading.give TptpReading.stop TptpReading.onwards TptpReading.◌>>=◌ TptpReading.blanks TptpReading.peek TptpReading.literal TptpReading.look TptpReading.token TptpReading.more_digits TptpReading.number TptpReading.natural TptpReading.integer TptpReading.word_bytes TptpReading.name TptpReading.opening TptpReading.up_to TptpReading.more TptpReading.term TptpReading.terms TptpReading.read_atom TptpReading.read_compare TptpReading.read_dollar TptpReading.read_negated TptpReading.declaration TptpReading.variables TptpReading.read_binder TptpReading.unequal TptpReading.read_unequals TptpReading.read_tuple TptpReading.behind_blanks TptpReading.begins_with TptpReading.begins_tuple TptpReading.begins_excluding TptpReading.trees TptpReading.joining TptpReading.whole TptpReading.read_quantifier TptpReading.read_some TptpReading.read_join TptpReading.read_operand TptpReading.excluding TptpReading.read_restriction TptpReading.no_readers TptpReading.readers TptpReading.ending TptpReading.read_whole TptpReading.tree_of TptpReading.read_tptp TptpReading.read_text Calls.in_room Calls.ask_policy_reading Calls.read_policy_call Calls.ask_policy_writing Calls.filled_text Calls.text_result Calls.write_policy_call
computing_policies = tt

-- the claim
pub tptp_examples : map comes_out cases ≡ map must_come_out cases
unfolding computing Bytes.bytes text_left comes_out must_come_out policy no yes deep deep_text inner R cases Bytes.digit Bytes.blank Bytes.small Bytes.capital Bytes.word_byte Decimal.digits Decimal.decimal Tptp.predicate_token Tptp.variable_token Tptp.term_token Tptp.parenthesized Tptp.separated Tptp.connective Tptp.negation Tptp.binder Tptp.unequals Tptp.excludes Tptp.restricted Tptp.is_join Tptp.enclosed Tptp.tokens Tptp.text_tokens Tptp.policy_text TptpReading.give TptpReading.stop TptpReading.onwards TptpReading.◌>>=◌ TptpReading.blanks TptpReading.peek TptpReading.literal TptpReading.look TptpReading.token TptpReading.more_digits TptpReading.number TptpReading.natural TptpReading.integer TptpReading.word_bytes TptpReading.name TptpReading.opening TptpReading.up_to TptpReading.more TptpReading.term TptpReading.terms TptpReading.read_atom TptpReading.read_compare TptpReading.read_dollar TptpReading.read_negated TptpReading.declaration TptpReading.variables TptpReading.read_binder TptpReading.unequal TptpReading.read_unequals TptpReading.read_tuple TptpReading.behind_blanks TptpReading.begins_with TptpReading.begins_tuple TptpReading.begins_excluding TptpReading.trees TptpReading.joining TptpReading.whole TptpReading.read_quantifier TptpReading.read_some TptpReading.read_join TptpReading.read_operand TptpReading.excluding TptpReading.read_restriction TptpReading.no_readers TptpReading.readers TptpReading.ending TptpReading.read_whole TptpReading.tree_of TptpReading.read_tptp TptpReading.read_text Calls.in_room Calls.ask_policy_reading Calls.read_policy_call Calls.ask_policy_writing Calls.filled_text Calls.text_result Calls.write_policy_call
tptp_examples = refl
