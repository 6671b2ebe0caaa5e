use Rattle.std.proofs.lemmas.Result.{on_ok_weaker}
use Rattle.occ_draw.proofs.Found.{grown_set}
use Rattle.occ_draw.proofs.edges.grow.Goals as goal

pub returns : goal.returns
returns c =
    on_ok_weaker c.push.result (grown_set c.args.edges.now.items c.args.place c.in-Some.edge.now _ c.args.offer c.requires c.in-Some.ensures.value) c.push.ensures.ok
