use Rattle.std.proofs.lemmas.Result.{IfOk-weaker}
use Rattle.occ_tool_laws.proofs.Has.{has_joined, has_joined_between, has_joined_where_narrow}
use Rattle.occ_tool_laws.proofs.replay_laws.printed_scripts_have_their_answer.Goals as goal

pub returns-clause-transformed : goal.returns-clause-transformed
returns-clause-transformed c = IfOk-weaker c.replays_have_answers.result _ _
    (λ _ h files later words again program orders script j a narrow few r e. has_joined later again (files program) c.args.text.now (h later again script r e)
    (c.transformed_scripts_are_joined.ensures files later words again program orders script c.args.text.now j a narrow few r e))
    c.replays_have_answers.ensures

pub returns-clause-expanded : goal.returns-clause-expanded
returns-clause-expanded c = IfOk-weaker c.replays_have_answers.result _ _
    (λ _ h files later words again program path script j a narrow few r e. has_joined later again (files program) c.args.text.now (h later again script r e)
    (c.expanded_scripts_are_joined.ensures files later words again program path script c.args.text.now j a narrow few r e))
    c.replays_have_answers.ensures

pub returns-clause-derived : goal.returns-clause-derived
returns-clause-derived c = IfOk-weaker c.replays_have_answers.result _ _
    (λ _ h files later words again program script j a narrow few r e. has_joined_where_narrow later again (files program) c.args.text.now (h later again script r e)
    (c.derived_scripts_are_joined.ensures files later words again program script c.args.text.now j a narrow few r e))
    c.replays_have_answers.ensures

pub returns-clause-proved : goal.returns-clause-proved
returns-clause-proved c = IfOk-weaker c.replays_have_answers.result _ _
    (λ _ h one two later again script a other narrow few r e. has_joined_between later again one two c.args.text.now (h later again script r e)
    (c.proved_scripts_are_joined.ensures one two later again script c.args.text.now a other narrow few r e))
    c.replays_have_answers.ensures
