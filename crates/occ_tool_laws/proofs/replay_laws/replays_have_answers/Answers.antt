use Rattle.std.proofs.lemmas.Result.{IfOk-weaker}
use Rattle.occ_tool_laws.proofs.Has.{has_answer}
use Rattle.occ_tool_laws.proofs.replay_laws.replays_have_answers.Goals as goal

pub returns : goal.returns
returns c = IfOk-weaker _ _ _ (λ _ told. has_answer _ told) c.replays_are_told.ensures
