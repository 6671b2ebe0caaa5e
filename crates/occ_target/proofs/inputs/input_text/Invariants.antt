use Rattle.std.proofs.Common.{◌≡◌, ◌-◌, length}
use Rattle.occ_target.specs.Inputs.{dotted, input_text}
use Rattle.occ_target.proofs.inputs.input_text.Given as goal

-- the texts so far are names of parameters
abbrev pub invariant-loop : goal.invariant-loop
invariant-loop l = dotted l.names l.params (length l.params - l.index) l.text.items ≡ input_text l.names l.params l.fn.width
