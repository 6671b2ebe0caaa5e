use Rattle.occ_tool_run.specs.occ_behaviour.declared.behaviour.Side.TheVariants.{First}
use Rattle.occ_witness.proofs.Telling.{refusal_sayable}
use Rattle.occ_witness.proofs.searching.refuse.Goals as goal

pub returns-clause-sayable : goal.returns-clause-sayable
returns-clause-sayable c =
    refusal_sayable c.args.names First c.args.refusal c.in_ok-answer.answer c.in_ok-answer.ensures.refused c.in_ok-answer.ensures.printable
