-- Laws for the writing of a whole policy: what stands before its node, this, and what stands behind it.
use Prim.Native.Nat.{ℕ}
use mathlib.Core.Path.{◌≡◌, sym, ◌∙◌}
use mathlib.Core.Bool.{true}
use mathlib.Core.List.{append_assoc}
use lib.ListN.{length}
use Rattle.std.specs.Prelude.{Option}
use Rattle.std.specs.Borrow.{MutBor}
use Rattle.model.specs.Words.{Words}
use Rattle.model.specs.Bytes.{Text, bytes}
use Rattle.model.specs.Answer.{passed}
use Rattle.model.specs.Tree.{Tree}
use Rattle.model.specs.Level.{formula}
use Rattle.model.specs.Reading.{read_policy}
use Rattle.model.specs.Tptp.{policy_text}
use Rattle.laws.specs.Reading.Encoded.{read-node}
use Rattle.text.specs.declared.writer.Writer.{Writer}
use Rattle.text.specs.Put.{Writes}
use Rattle.text.specs.Adds.{Begins, Adds}
use Rattle.text.proofs.PutLaws.{adds_then, adds_is, writes_whole}
use Rattle.tptp_writing.specs.Printing.{Printable, node_text, Prints}
use Rattle.tptp_writing.proofs.NodeTextLaws.{policy-text}

module _ (table policy : Words) (tree : Tree) (read : read_policy table policy ≡ passed tree) where
  -- the node of a policy that was read
  abbrev pub policy-here : Printable policy 0 0 0
  policy-here =
      record { table = table; role = formula; tree = tree; next = length policy; node = read-node table policy tree read }

  pub policy-writes :
      {out : MutBor Text} {w w₁ w₂ w₃ : Writer} {r : Option ℕ} {out' : Text} → Begins out w → Adds (bytes "tff(a,axiom,") w w₁ →
      Prints (node_text true tree 0) (length policy) w₁ w₂ r →
      Adds (bytes ").") w₂ w₃ →
      out' ≡ w₃.out.now →
      Writes (policy_text tree) out.now out' w₃.put
  policy-writes front lead node last left =
      writes_whole front
      (adds_is (policy-text tree ∙ sym (append_assoc (bytes "tff(a,axiom,") (node_text true tree 0) (bytes ").")))
      (adds_then (adds_then lead node.adds) last))
      left
