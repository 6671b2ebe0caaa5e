use Rattle.occ_syntax.specs.View.{tree}
use Rattle.occ_nform.proofs.Rooted.{nodes, within, root_of, interface_of, params_of, text_of, if_ok_map}
use Rattle.occ_nform.proofs.canon.normal_text.Goals as goal

pub write-requires-clause-interface : goal.write-requires-clause-interface
write-requires-clause-interface c = interface_of c.args.names.now c.args.accepted.now.program.params c.in_ok-root.root c.in_ok-root.ensures.params c.requires.interface

pub write-requires-clause-params : goal.write-requires-clause-params
write-requires-clause-params c = params_of c.args.names.now c.args.accepted.now.program.params c.in_ok-root.root c.in_ok-root.ensures.params c.requires.params

pub write-requires-clause-nodes : goal.write-requires-clause-nodes
write-requires-clause-nodes c =
    let p = c.args.accepted.now.program in
    let typed = c.args.accepted.now.kept.typed in
    nodes c.normalise.new.world p.params typed.scope typed.interface (tree p.body) typed.types c.in_ok-root.root c.in_ok-root.ensures.params c.in_ok-root.ensures.root

pub write-requires-clause-within : goal.write-requires-clause-within
write-requires-clause-within c =
    let p = c.args.accepted.now.program in
    let typed = c.args.accepted.now.kept.typed in
    within c.normalise.new.world p.params typed.scope typed.interface (tree p.body) typed.types c.in_ok-root.root c.in_ok-root.ensures.params c.in_ok-root.ensures.root

pub returns : goal.returns
returns c =
    let p = c.args.accepted.now.program in
    let typed = c.args.accepted.now.kept.typed in
    if_ok_map c.write.result
    (λ text h. text_of c.args.names.now p.params c.in_ok-root.root c.in_ok-root.ensures.params (tree p.body) text.items
    (h (tree p.body) (root_of c.normalise.new.world p.params typed.scope typed.interface (tree p.body) typed.types c.in_ok-root.root c.in_ok-root.ensures.params c.in_ok-root.ensures.root)))
    c.write.ensures
