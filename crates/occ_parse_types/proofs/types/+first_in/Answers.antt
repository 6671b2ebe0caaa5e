use Rattle.std.proofs.Common.{◌+◌, drop, refl, sym, ap, ◌∙◌, length, arith}
use Rattle.occ_parse_forms.specs.Shape.{shape}
use Rattle.occ_parse_rules.specs.Forest.{forest}
use Rattle.occ_parse_rules.specs.Judging.{first_fault}
use Rattle.occ_parse_rules.specs.Names.{name_fault}
use Rattle.occ_parse_rules.specs.Types.{type_fault}
use Rattle.occ_parse_scopes.proofs.Levels.{closed_again, closes, next_line, passed, weight, weight_next}
use Rattle.occ_parse_types.specs.Asking.{plain_counters}
use Rattle.occ_parse_types.proofs.Judged.{names_here, plain_behind, plain_inside}
use Rattle.occ_parse_types.proofs.types.+first_in.Goals as goal

pub first_in-requires : goal.first_in-requires
first_in-requires t c =
    let first = c.args.scopes.now in
    let scopes = c.loop-node.scopes in
    let nodes = c.args.nodes.now in
    let s = shape c.seen-line.result.1.now in
    let below = forest c.seen-line.result.2.now in
    let names = names_here first scopes nodes c.loop-node.node-index c.node-item.result c.seen-line.result.0 s below c.loop-node-test.true c.node-item.is c.seen-line.ensures c.loop-node.invariant.names in
    let heavy = weight_next nodes c.loop-node.node-index c.node-item.result c.seen-line.result.0 s below c.loop-node-test.true c.node-item.is c.seen-line.ensures in
    let fewer = c.loop-node.invariant.fewer in (
      omega (arith, heavy, fewer, c.decreases),
      (
        ap plain_counters c.in_ok-enter.ensures ∙ plain_inside scopes s c.loop-node.invariant.kept,
        (λ i. first_fault name_fault (c.in_ok-enter.ensures i) (c.in_ok-enter.ensures i) below) ∙ names.1,
      ),
    )

pub close-requires : goal.close-requires
close-requires t c = closes c.loop-node.scopes c.enter.new.self c.first_in.new.scopes (shape c.seen-line.result.1.now) c.depth-depth.result c.depth-depth.ensures c.in_ok-enter.ensures (c.in_ok-found.ensures.same c.in_default-2.is)

pub pass-requires : goal.pass-requires
pass-requires t c =
    let same = closed_again c.loop-node.scopes c.loop-node.scopes c.enter.new.self c.first_in.new.scopes c.close.new.self (shape c.seen-line.result.1.now) c.depth-depth.result refl c.depth-depth.ensures c.in_ok-enter.ensures (c.in_ok-found.ensures.same c.in_default-2.is) c.close.ensures in
    let stands = c.loop-node.invariant.stands in
    omega (arith, ap length same, c.depth-outer.ensures, stands.0)

pub loop-node-preserved : goal.loop-node-preserved
loop-node-preserved t c =
    let first = c.args.scopes.now in
    let scopes = c.loop-node.scopes in
    let nodes = c.args.nodes.now in
    let s = shape c.seen-line.result.1.now in
    let below = forest c.seen-line.result.2.now in
    let same = closed_again scopes scopes c.enter.new.self c.first_in.new.scopes c.close.new.self s c.depth-depth.result refl c.depth-depth.ensures c.in_ok-enter.ensures (c.in_ok-found.ensures.same c.in_default-2.is) c.close.ensures in
    let behind_it = passed first scopes c.close.new.self c.pass.new.self s c.depth-outer.result c.loop-node.invariant.stands c.depth-outer.ensures same c.in_ok-pass.ensures in
    let names = names_here first scopes nodes c.loop-node.node-index c.node-item.result c.seen-line.result.0 s below c.loop-node-test.true c.node-item.is c.seen-line.ensures c.loop-node.invariant.names in
    let next = next_line type_fault first scopes c.enter.new.self c.pass.new.self nodes c.loop-node.node-index c.node-item.result c.seen-line.result.0 s below (first_fault type_fault first first (forest nodes)) (weight (forest nodes)) c.loop-node-test.true c.node-item.is c.seen-line.ensures (sym c.line_fault.ensures ∙ c.in_default.is) c.in_ok-enter.ensures (sym c.in_ok-found.ensures.fault ∙ c.in_default-2.is) behind_it (c.loop-node.invariant.stands, c.loop-node.invariant.rest, c.loop-node.invariant.fewer) in
    record {
      stands = next.0;
      rest = next.1;
      fewer = next.2;
      names = ap (λ q. first_fault name_fault first q (forest (drop (c.loop-node.node-index + 1) nodes))) behind_it ∙ names.2;
      kept = ap plain_counters behind_it ∙ plain_behind first scopes s c.requires.kept c.loop-node.invariant.kept;
    }
