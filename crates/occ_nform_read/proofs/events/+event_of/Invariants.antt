use Rattle.std.proofs.Common.{length}
use Rattle.occ_nform_read.proofs.events.+event_of.Given as goal

abbrev pub decreases-event_of : goal.decreases-event_of
decreases-event_of l = length l.params.now
