use Rattle.std.proofs.Common.{sym, ap, ◌∙◌, length, arith}
use Rattle.occ_parse_forms.specs.Shape.{shape}
use Rattle.occ_parse_rules.specs.Forest.{forest}
use Rattle.occ_parse_rules.specs.Judging.{first_fault, inside}
use Rattle.occ_parse_rules.specs.Names.{name_fault}
use Rattle.occ_parse_scopes.proofs.Levels.{closed_again, closes, next_line, passed, weight}
use Rattle.occ_parse_scopes.proofs.names.+first_in.Goals as goal

pub close-requires : goal.close-requires
close-requires t c = closes c.line_fault.new.scopes c.enter.new.self c.first_in.new.scopes (shape c.seen-line.result.1.now) c.depth-depth.result c.depth-depth.ensures c.in_ok-enter.ensures (c.in_ok-found.ensures.same c.in_default-2.is)

pub pass-requires : goal.pass-requires
pass-requires t c =
    let same = closed_again c.loop-node.scopes c.line_fault.new.scopes c.enter.new.self c.first_in.new.scopes c.close.new.self (shape c.seen-line.result.1.now) c.depth-depth.result c.in_ok-fault.ensures.same c.depth-depth.ensures c.in_ok-enter.ensures (c.in_ok-found.ensures.same c.in_default-2.is) c.close.ensures in
    let stands = c.loop-node.invariant.0 in
    omega (arith, ap length same, c.depth-outer.ensures, stands.0)

pub loop-node-preserved : goal.loop-node-preserved
loop-node-preserved t c =
    let first = c.args.scopes.now in
    let scopes = c.loop-node.scopes in
    let nodes = c.args.nodes.now in
    let s = shape c.seen-line.result.1.now in
    let below = forest c.seen-line.result.2.now in
    let same = closed_again scopes c.line_fault.new.scopes c.enter.new.self c.first_in.new.scopes c.close.new.self s c.depth-depth.result c.in_ok-fault.ensures.same c.depth-depth.ensures c.in_ok-enter.ensures (c.in_ok-found.ensures.same c.in_default-2.is) c.close.ensures in
    let behind_it = passed first scopes c.close.new.self c.pass.new.self s c.depth-outer.result c.loop-node.invariant.0 c.depth-outer.ensures same c.in_ok-pass.ensures in
    next_line name_fault first scopes c.enter.new.self c.pass.new.self nodes c.loop-node.node-index c.node-item.result c.seen-line.result.0 s below (first_fault name_fault first first (forest nodes)) (weight (forest nodes)) c.loop-node-test.true c.node-item.is c.seen-line.ensures (sym c.in_ok-fault.ensures.fault ∙ c.in_default.is) (c.in_ok-enter.ensures ∙ ap (λ q. inside q s) c.in_ok-fault.ensures.same) (sym c.in_ok-found.ensures.fault ∙ c.in_default-2.is) behind_it c.loop-node.invariant
