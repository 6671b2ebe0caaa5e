use Rattle.std.proofs.Common.{◌≡◌, take}
use Rattle.occ_syntax.specs.View.{cases, in_choices}
use Rattle.occ_target.specs.Framed.{frame_of}
use Rattle.occ_target.specs.Rows.{choices, value_choices}
use Rattle.occ_target.proofs.events.Frame.choices.Given as goal

abbrev pub invariant-loop-offer : goal.invariant-loop-offer
invariant-loop-offer l = cases (in_choices l.made) ≡ choices (value_choices (frame_of l.self) l.chan.0 (take l.offer-index l.offers))
