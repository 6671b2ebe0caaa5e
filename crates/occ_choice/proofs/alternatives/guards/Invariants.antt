use Rattle.std.proofs.Common.{◌≡◌, Some, take}
use Rattle.std.specs.List.{list_any}
use Rattle.occ_node.specs.occ_base.declared.event.Event.{Event}
use Rattle.occ_node.specs.occ_accept.Accept.{in_set}
use Rattle.occ_choice.specs.Branches.{is_at}
use Rattle.occ_choice.proofs.alternatives.guards.Given as goal

abbrev pub invariant-loop-branch : goal.invariant-loop-branch
invariant-loop-branch l = (e : Event) → in_set l.events.items e ≡ list_any (is_at (Some e)) (take l.branch-index l.branches)
