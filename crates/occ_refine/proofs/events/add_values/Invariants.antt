use Rattle.std.proofs.Common.{◌≡◌, ◌||◌}
use Rattle.occ_syntax.specs.occ_base.declared.event.Event.{Event}
use Rattle.occ_norm.specs.occ_accept.Accept.{in_set}
use Rattle.occ_refine.specs.Interfaces.{in_values}
use Rattle.occ_refine.proofs.events.add_values.Given as goal

abbrev pub invariant-loop-value : goal.invariant-loop-value
invariant-loop-value l = (e : Event) → in_set l.events.items e ≡ (in_set l.initial.events.items e || in_values l.chan l.dir l.value e)
