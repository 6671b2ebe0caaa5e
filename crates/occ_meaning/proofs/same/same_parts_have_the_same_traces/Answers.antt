use Rattle.occ_meaning.proofs.Alike.{same_traces}
use Rattle.occ_meaning.proofs.same.same_parts_have_the_same_traces.Goals as goal

pub returns : goal.returns
returns c = same_traces
