use Rattle.std.proofs.Common.{◌≡◌, ◌++◌, ◌∷◌, ℕ, take}
use Rattle.std.specs.Prelude.{decimal}
use Rattle.std.specs.List.{flat_map}
use Rattle.occ_syntax.specs.occ_base.declared.names.Name.{Name}
use Rattle.occ_behaviour.proofs.text.push_spaced_values.Given as goal

abbrev pub invariant-loop-value : goal.invariant-loop-value
invariant-loop-value l = l.text.items ≡ l.fn.text.items ++ flat_map (λ (v : Name × ℕ). 32 ∷ decimal v.1) (take l.value-index l.state)
