use Rattle.std.proofs.Common.{◌≡◌, ◌<◌, ◌+◌, ◌^◌, true, false, sym, ◌∙◌, subst, rules, arith}
use Rattle.occ_node.specs.occ_mdd.Maps.{value}
use Rattle.occ_compare.specs.Places.{assignment_at}
use Rattle.occ_compare.specs.Steps.{same_node}
use Rattle.occ_compare.proofs.Searching.{start_tells, start_more, each_place}
use Rattle.occ_compare.proofs.ends.least_start.Goals as goal

pub returns-then-not-same_node : goal.returns-then-not-same_node
returns-then-not-same_node c =
    let differs : c.same_node.result ≡ false = search rules in
    start_tells c.args.world.now c.args.params.now c.args.a c.args.b c.loop-a.number c.assignment-bits.result c.assignment-bits.ensures
    (omega (arith, c.last_number-last.ensures, c.loop-a.invariant.within))
    ((λ i. same_node (sym c.get.ensures i) (sym c.get-in-loop-a.ensures i)) ∙ sym c.same_node.ensures ∙ differs) c.loop-a.invariant.before

pub returns-then-number-last : goal.returns-then-number-last
returns-then-number-last c =
    let one : c.same_node.result ≡ true = search rules in
    let more = start_more c.args.world.now c.args.params.now c.args.a c.args.b c.loop-a.number c.assignment-bits.result c.assignment-bits.ensures
    ((λ i. same_node (sym c.get.ensures i) (sym c.get-in-loop-a.ensures i)) ∙ sym c.same_node.ensures ∙ one) c.loop-a.invariant.before in
    each_place c.args.params.now (λ z. value c.args.world.now.maps c.args.a z ≡ value c.args.world.now.maps c.args.b z) (λ j h. more j (omega (arith, c.last_number-last.ensures)))

pub loop-a-preserved : goal.loop-a-preserved
loop-a-preserved c =
    let one : c.same_node.result ≡ true = search rules in
    record {
      within = search rules;
      before = start_more c.args.world.now c.args.params.now c.args.a c.args.b c.loop-a.number c.assignment-bits.result c.assignment-bits.ensures
          ((λ i. same_node (sym c.get.ensures i) (sym c.get-in-loop-a.ensures i)) ∙ sym c.same_node.ensures ∙ one) c.loop-a.invariant.before;
    }
