use Rattle.std.proofs.Common.{ap, ◌∙◌}
use Rattle.std.proofs.lemmas.Result.{IfOk-weaker}
use Rattle.occ_norm_frame.proofs.Worlds.{finish_now, finish_sound}
use Rattle.occ_norm_frame.proofs.nodes.finish.Goals as goal

pub add-requires-clause-row : goal.add-requires-clause-row
add-requires-clause-row c = finish_sound c.args.world.now c.args.waiting c.no_ends.result c.in_ok-accepts.accepts c.in_ok-offers.offers c.requires.waiting (c.in_ok-offers.ensures ∙ ap (λ r. r.offers) c.row.ensures.row) c.no_ends.ensures c.in_ok-accepts.ensures.events

pub returns-clause-finished : goal.returns-clause-finished
returns-clause-finished c = IfOk-weaker c.add.result _ _
    (λ r is. finish_now c.args.world.now c.add.new.world c.add.ensures.leads c.args.waiting c.args.ready c.no_ends.result c.in_ok-accepts.accepts c.in_ok-offers.offers r c.requires.waiting c.requires.ready
    (c.in_ok-offers.ensures ∙ ap (λ r. r.offers) c.row.ensures.row) c.no_ends.ensures c.in_ok-accepts.ensures.refuses is) c.add.ensures.added
