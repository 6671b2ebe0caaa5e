use Rattle.std.proofs.Common.{◌≡◌, ◌++◌, ◌-◌}
use Rattle.occ_gen.specs.Programs.{lines_text, stages}
use Rattle.occ_gen.proofs.program.push_stages.Given as goal

-- the text so far, with that of the stages that are left, is the whole
abbrev pub invariant-loop-stage : goal.invariant-loop-stage
invariant-loop-stage l =
    l.text.items ++ lines_text (stages l.shape l.stage l.stage (l.n - l.stage)) ≡ l.fn.text.items ++ lines_text (stages l.shape 1 1 (l.n - 1))
