use Rattle.std.proofs.Common.{◌≡◌, ◌++◌, ◌∷◌, take}
use Rattle.std.specs.List.{flat_map}
use Rattle.occ_tool_run.specs.occ_behaviour.Texts.{event_text}
use Rattle.occ_lts.proofs.determining.push_trace.Given as goal

abbrev pub invariant-loop-event : goal.invariant-loop-event
invariant-loop-event l = l.text.items ≡ l.fn.text.items ++ flat_map (λ e. 32 ∷ event_text l.names e) (take l.event-index l.events)
