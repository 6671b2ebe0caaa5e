use Rattle.std.proofs.Common.{◌≡◌, ◌++◌, ◌∷◌, take}
use Rattle.std.specs.List.{flat_map}
use Rattle.std.specs.Prelude.{codes}
use Rattle.occ_run.specs.occ_behaviour.Texts.{event_text, state_text}
use Rattle.occ_run_schedule.proofs.text.push_begun.Given as goal

abbrev pub invariant-loop-event : goal.invariant-loop-event
invariant-loop-event l = l.text.items ≡ l.fn.text.items ++ codes "STATE " ++ state_text l.state ++ codes "\nTRACE" ++ flat_map (λ e. 32 ∷ event_text l.names e) (take l.event-index l.trace)
