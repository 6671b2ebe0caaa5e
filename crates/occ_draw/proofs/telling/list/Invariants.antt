use Rattle.std.proofs.Common.{◌≡◌, ◌+◌, drop, map}
use Rattle.occ_tool_run.specs.occ_script.Shown.{shown_step}
use Rattle.occ_syntax.specs.View.{tree}
use Rattle.occ_draw.specs.Steps.{steps_text}
use Rattle.occ_draw.proofs.Listed.{with_front}
use Rattle.occ_draw.proofs.telling.list.Given as goal

-- the list of the steps that are left, behind the text so far, is the whole
abbrev pub invariant-loop-step : goal.invariant-loop-step
invariant-loop-step l = record {
  counted : l.number ≡ l.step-index;
  params : l.program.params ≡ l.script.from.program.params;
  whole : with_front l.text.items (steps_text l.script.from.program.params (tree l.program.body) (l.number + 1) (map shown_step (drop l.step-index l.script.steps)))
      ≡ steps_text l.script.from.program.params (tree l.script.from.program.body) 1 (map shown_step l.script.steps);
}
