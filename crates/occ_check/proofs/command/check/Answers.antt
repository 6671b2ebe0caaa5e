use Rattle.occ_check.proofs.Telling.{all_passed, all_refused}
use Rattle.occ_check.proofs.command.check.Goals as goal

pub returns-in-Ok-clause-answers : goal.returns-in-Ok-clause-answers
returns-in-Ok-clause-answers c = all_passed c.passed.result c.args.name.now c.args.program.now _ _ c.in-Ok.ensures.accepted c.passed.ensures

pub returns-clause-answers : goal.returns-clause-answers
returns-clause-answers c =
    all_refused c.failed.result _ c.args.name.now c.args.program.now _ c.in-Err.refusal c.as_bytes-file.ensures.value c.in-Err.ensures.refused c.failed.ensures.told c.failed.ensures.status
