use Rattle.occ_syntax.specs.View.{tree}
use Rattle.occ_nform.proofs.Rooted.{nodes, within, root_of, interface_of, params_of, table_made}
use Rattle.occ_nform.proofs.canon.normal_table.Goals as goal

pub tabulate-requires-clause-interface : goal.tabulate-requires-clause-interface
tabulate-requires-clause-interface c = interface_of c.args.names.now c.args.accepted.now.program.params c.in_ok-root.root c.in_ok-root.ensures.params c.requires.interface

pub tabulate-requires-clause-params : goal.tabulate-requires-clause-params
tabulate-requires-clause-params c = params_of c.args.names.now c.args.accepted.now.program.params c.in_ok-root.root c.in_ok-root.ensures.params c.requires.params

pub tabulate-requires-clause-nodes : goal.tabulate-requires-clause-nodes
tabulate-requires-clause-nodes c =
    let p = c.args.accepted.now.program in
    let typed = c.args.accepted.now.kept.typed in
    nodes c.normalise.new.world p.params typed.scope typed.interface (tree p.body) typed.types c.in_ok-root.root c.in_ok-root.ensures.params c.in_ok-root.ensures.root

pub tabulate-requires-clause-within : goal.tabulate-requires-clause-within
tabulate-requires-clause-within c =
    let p = c.args.accepted.now.program in
    let typed = c.args.accepted.now.kept.typed in
    within c.normalise.new.world p.params typed.scope typed.interface (tree p.body) typed.types c.in_ok-root.root c.in_ok-root.ensures.params c.in_ok-root.ensures.root

pub returns : goal.returns
returns c =
    let p = c.args.accepted.now.program in
    let typed = c.args.accepted.now.kept.typed in
    let r = c.in_ok-root.root in
    let w = c.normalise.new.world in
    let eq = c.in_ok-root.ensures.params in
    table_made c.args.names.now p.params typed.interface w r eq (tree p.body)
    (nodes w p.params typed.scope typed.interface (tree p.body) typed.types r eq c.in_ok-root.ensures.root)
    (root_of w p.params typed.scope typed.interface (tree p.body) typed.types r eq c.in_ok-root.ensures.root)
    c.tabulate.result c.tabulate.ensures.params c.tabulate.ensures.normal c.tabulate.ensures.behaviours
