use Rattle.std.proofs.Common.{◌≡◌, ◌++◌, ◌∷◌, ℕ, List, take}
use Rattle.std.specs.List.{flat_map}
use Rattle.occ_syntax.specs.occ_base.declared.names.Name.{Name}
use Rattle.occ_tool_run.specs.occ_behaviour.Texts.{state_text}
use Rattle.occ_draw.proofs.rows.push_spaced_states.Given as goal

abbrev pub invariant-loop-state : goal.invariant-loop-state
invariant-loop-state l = l.text.items ≡ l.fn.text.items ++ flat_map (λ (s : List (Name × ℕ)). 32 ∷ state_text s) (take l.state-index l.states)
