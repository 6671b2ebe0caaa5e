use Rattle.std.proofs.Common.{sym, ap, ◌∙◌}
use Rattle.occ_parse_scopes.specs.Reaching.{some_pair}
use Rattle.occ_parse_scopes.proofs.Reaches.{some_meet_is}
use Rattle.occ_parse_scopes.proofs.reach.some_meet.Goals as goal

pub returns : goal.returns
returns c = c.some_pair.ensures ∙ ap some_pair (c.deref.ensures.value ∙ c.in_ok-reaches.ensures) ∙ sym (some_meet_is c.args.scopes.now c.args.items.now)
