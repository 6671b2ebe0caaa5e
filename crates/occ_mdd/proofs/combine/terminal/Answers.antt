use Rattle.std.proofs.Common.{◌≡◌, subst, IfSome}
use Rattle.std.proofs.lemmas.Result.{IfOk-weaker}
use Rattle.std.specs.Prelude.{slice_get, Some}
use Rattle.occ_dd.specs.Table.{nodes_of}
use Rattle.occ_dd.specs.declared.node.Node.TheVariants.{Leaf}
use Rattle.occ_mdd.specs.Combined.{IsCombined}
use Rattle.occ_mdd.proofs.Values.{value-label}
use Rattle.occ_mdd.proofs.Combining.{combined_leaf}
use Rattle.occ_mdd.proofs.combine.terminal.Goals as goal

pub both-requires-clause-a : goal.both-requires-clause-a
both-requires-clause-a g c = subst (λ o. IfSome o (g.F.Both.accepts c.args.f.now)) (value-label (nodes_of c.args.table.now) c.args.call.first 0 c.label-first.result c.label-first.ensures) (c.requires.pass.first_labels 0)

pub both-requires-clause-b : goal.both-requires-clause-b
both-requires-clause-b g c = subst (λ o. IfSome o (g.F.Both.accepts c.args.f.now)) (value-label (nodes_of c.args.table.now) c.args.call.second 0 c.label-second.result c.label-second.ensures) (c.requires.pass.second_labels 0)

pub returns-clause-combined : goal.returns-clause-combined
returns-clause-combined g c =
    let ns = nodes_of c.leaf.new.self in
    IfOk-weaker c.leaf.result (λ r. slice_get ns r ≡ Some (Leaf c.in_ok-label.label)) (λ r. IsCombined ns (g.F.Both.relates c.both.new.self) c.args.call r)
    (λ r e. combined_leaf (nodes_of c.args.table.now) ns c.leaf.ensures.keeps c.args.table.now.diagram c.leaf.new.self.diagram (g.F.Both.relates c.both.new.self) c.args.call r c.label-first.result c.label-second.result c.in_ok-label.label
    c.requires.pass.first c.requires.pass.second c.requires.constant c.label-first.ensures c.label-second.ensures e c.in_ok-label.ensures.relates)
    c.leaf.ensures.leaf
