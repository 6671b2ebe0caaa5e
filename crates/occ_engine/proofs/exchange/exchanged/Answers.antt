use Rattle.occ_engine.proofs.Putting.{exchanged_there}
use Rattle.occ_engine.proofs.exchange.exchanged.Goals as goal

pub keeps_exchanged-requires : goal.keeps_exchanged-requires
keeps_exchanged-requires c =
    let made = c.in_ok-whole.ensures in
    exchanged_there c.args.program _ c.args.path.now c.args.scope.now _ _ _ c.requires.rules c.requires.scope made.put made.taken c.in_ok-new.ensures
