-- `tptp_leaves::leaves::leaf` meets its contract.
use mathlib.Core.Path.{refl}
use borrow.Author.Rules.{rules}
use Rattle.tptp_leaves.proofs.LeafLaws.{leaf-dollar, leaf-atom, leaf-negated, leaf-none}
use Rattle.tptp_leaves.proofs.leaves.leaf.Goals as goal

pub returns-in-Some-eq36 : goal.returns-in-Some-eq36
returns-in-Some-eq36 c =
    record {
      kept = c.dollar.ensures.kept;
      reads =
          leaf-dollar c.args.here.now c.args.room c.requires _ c.dollar.new.here c.dollar.result
          c.pass.new.self c.pass.ensures.rest c.pass.ensures.at (search rules) c.dollar.ensures.reads;
    }

pub returns-in-Some-eq112 : goal.returns-in-Some-eq112
returns-in-Some-eq112 c =
    record {
      kept = c.atom.ensures.kept;
      reads =
          leaf-atom c.args.here.now c.args.room c.requires _ c.atom.new.here c.atom.result (search rules) c.atom.ensures.reads;
    }

pub returns-in-Some-eq126 : goal.returns-in-Some-eq126
returns-in-Some-eq126 c =
    let p = c.pass-in-Some-eq126 in
    record {
      kept = c.negated.ensures.kept;
      reads =
          leaf-negated c.args.here.now c.args.room c.requires _ c.negated.new.here c.negated.result
          p.new.self p.ensures.rest p.ensures.at (search rules) c.negated.ensures.reads;
    }

pub returns-in_default : goal.returns-in_default
returns-in_default c =
    record {
      kept = record { same = refl; long = refl };
      reads = leaf-none c.args.here.now c.args.room c.requires (search rules) (search rules) (search rules);
    }

pub returns-in_default-2 : goal.returns-in_default-2
returns-in_default-2 c =
    record {
      kept = record { same = refl; long = refl };
      reads = leaf-none c.args.here.now c.args.room c.requires (search rules) (search rules) (search rules);
    }
