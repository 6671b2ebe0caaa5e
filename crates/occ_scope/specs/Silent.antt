use Rattle.std.specs.Prelude.{Bool, not, List}
use Rattle.std.specs.List.{list_all}
use Rattle.occ_node.specs.occ_base.declared.event.Event.{Event}
use Rattle.occ_node.specs.occ_base.declared.names.Name.{Name}
use Rattle.occ_node.specs.occ_accept.Accept.{is_on}

-- the event is on another channel
abbrev pub is_off : Name → Event → Bool
is_off chan e = not (is_on chan e)

-- no event of the trace is on the channel
abbrev pub is_silent : Name → List Event → Bool
is_silent chan t = list_all (is_off chan) t
