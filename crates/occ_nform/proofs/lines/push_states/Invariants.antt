use Rattle.std.proofs.Common.{◌≡◌, ◌++◌, drop}
use Rattle.occ_nform_rows.specs.occ_nform_table.Texts.{states_text}
use Rattle.occ_nform.proofs.lines.push_states.Given as goal

abbrev pub invariant-loop-place : goal.invariant-loop-place
invariant-loop-place l = l.text.items ++ states_text l.params l.place (drop l.place l.states) ≡ l.fn.text.items ++ states_text l.params 0 l.states
