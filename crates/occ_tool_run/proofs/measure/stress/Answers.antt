use Rattle.std.proofs.Common.{[], sym, ◌∙◌}
use Rattle.occ_tool_words.specs.occ_gen.Programs.{program_text}
use Rattle.occ_tool_words.specs.occ_parse.declared.bound.Bound.TheVariants as bound
use Rattle.occ_tool_run.proofs.Measured.{OneReading, refusal_absurd, stressed_from, text_other, unshared, usage_other}
use Rattle.occ_tool_run.proofs.measure.stress.Goals as goal

pub returns-in-Ok-accept_first-clause-stresses : goal.returns-in-Ok-accept_first-clause-stresses
returns-in-Ok-accept_first-clause-stresses c =
    stressed_from c.args.shape c.args.stages c.figures.result c.as_loaded-loaded.result _ c.in-Ok-accept_first.accepted.program c.in-Ok.ensures.text
    c.as_loaded-loaded.ensures.loaded c.in-Ok-accept_first.ensures.accepted c.figures.ensures.stressed

pub unreachable-requires-in-Err-Text : goal.unreachable-requires-in-Err-Text
unreachable-requires-in-Err-Text c =
    let law = c.generated_programs_are_never_refused.ensures in
    let accepted = c.generated_programs_are_accepted.ensures c.args.shape c.args.stages c.requires.some c.requires.most in
    let one : OneReading (program_text c.args.shape c.args.stages) =
    λ names new n m ps qs p q ks ls r s. (c.one_reading.ensures.program bound.Program (program_text c.args.shape c.args.stages) [] names new n m ps qs p q ks ls r s).body in
    refusal_absurd c.args.shape c.args.stages c.as_loaded-loaded.result _ c.in-Err-Text.field-0 c.in-Ok.ensures.text c.as_loaded-loaded.ensures.loaded
    c.in-Err-Text.ensures.refused (λ e. text_other c.in-Err-Text.field-0-0 (sym c.in-Err-Text.field-0-is ∙ e))
    (λ fault r. law.read c.args.shape c.args.stages fault c.requires.some c.requires.most r)
    (unshared (program_text c.args.shape c.args.stages) one accepted)

pub unreachable-requires-in-Err-Usage : goal.unreachable-requires-in-Err-Usage
unreachable-requires-in-Err-Usage c =
    let law = c.generated_programs_are_never_refused.ensures in
    let accepted = c.generated_programs_are_accepted.ensures c.args.shape c.args.stages c.requires.some c.requires.most in
    let one : OneReading (program_text c.args.shape c.args.stages) =
    λ names new n m ps qs p q ks ls r s. (c.one_reading.ensures.program bound.Program (program_text c.args.shape c.args.stages) [] names new n m ps qs p q ks ls r s).body in
    refusal_absurd c.args.shape c.args.stages c.as_loaded-loaded.result _ c.in-Err-Usage.field-0 c.in-Ok.ensures.text c.as_loaded-loaded.ensures.loaded
    c.in-Err-Usage.ensures.refused (λ e. usage_other c.in-Err-Usage.field-0-0 c.in-Err-Usage.field-0-1 (sym c.in-Err-Usage.field-0-is ∙ e))
    (λ fault r. law.read c.args.shape c.args.stages fault c.requires.some c.requires.most r)
    (unshared (program_text c.args.shape c.args.stages) one accepted)
