use Rattle.std.proofs.Common.{ap}
use Rattle.std.proofs.lemmas.Result.{IfOk-weaker}
use Rattle.occ_syntax.specs.View.{waiting}
use Rattle.occ_norm_alt.proofs.Adding.{add_input, add_output, add_ready}
use Rattle.occ_norm_alt.proofs.Alternatives.{held-extends}
use Rattle.occ_norm_alt.proofs.choice.Alternation.and.Goals as goal

pub offering-requires-clause-maps : goal.offering-requires-clause-maps
offering-requires-clause-maps c = held-extends c.args.world.now c.input.new.world c.input.ensures.extends c.args.self.waiting c.args.self.ready c.requires.maps

pub offering-requires-in-Put-clause-maps : goal.offering-requires-in-Put-clause-maps
offering-requires-in-Put-clause-maps c = held-extends c.args.world.now c.output.new.world c.output.ensures.extends c.args.self.waiting c.args.self.ready c.requires.maps

pub returns-in-Skip-clause-and : goal.returns-in-Skip-clause-and
returns-in-Skip-clause-and c =
    let more = c.args.more.now in
    IfOk-weaker c.going.result _ _
    (λ r made. add_ready c.args.world.now c.args.frame.now more.enabled more.next c.args.self.waiting c.args.self.ready c.requires.enabled c.requires.next c.requires.maps
    c.going.new.world c.going.ensures.extends (waiting more.wait.now) (ap waiting c.in-Skip.is) r.ready r.waiting made.0 made.1)
    c.going.ensures.united

pub returns-in_ok-offered-in-Get-clause-and : goal.returns-in_ok-offered-in-Get-clause-and
returns-in_ok-offered-in-Get-clause-and c =
    let more = c.args.more.now in
    IfOk-weaker c.offering.result _ _
    (λ r made. add_input c.args.world.now c.args.frame.now more.enabled more.next c.args.self.waiting c.args.self.ready c.requires.enabled c.requires.next c.requires.maps
    c.input.new.world c.offering.new.world c.input.ensures.extends c.offering.ensures.extends (waiting more.wait.now) _ _ (ap waiting c.in-Get.is)
    c.in_ok-offered-in-Get.offered r.waiting r.ready c.in_ok-offered-in-Get.ensures.nodes c.in_ok-offered-in-Get.ensures.guarded made.0 made.1)
    c.offering.ensures.offered

pub returns-in_ok-offered-in-Put-clause-and : goal.returns-in_ok-offered-in-Put-clause-and
returns-in_ok-offered-in-Put-clause-and c =
    let more = c.args.more.now in
    IfOk-weaker c.offering-in-Put.result _ _
    (λ r made. add_output c.args.world.now c.args.frame.now more.enabled more.next c.args.self.waiting c.args.self.ready c.requires.enabled c.requires.next c.requires.maps
    c.output.new.world c.offering-in-Put.new.world c.output.ensures.extends c.offering-in-Put.ensures.extends (waiting more.wait.now) _ _ (ap waiting c.in-Put.is)
    c.in_ok-offered-in-Put.offered r.waiting r.ready c.in_ok-offered-in-Put.ensures.nodes c.in_ok-offered-in-Put.ensures.guarded made.0 made.1)
    c.offering-in-Put.ensures.offered
