use Rattle.occ_why.proofs.Answering.{found_told, refused_alone}
use Rattle.occ_why.proofs.command.why.Goals as goal

pub returns-in-Sought-clause-answers : goal.returns-in-Sought-clause-answers
returns-in-Sought-clause-answers c =
    found_told c.args.program.text.now c.in_ok-names.field-0 _ _ c.in_ok-reply-in-Sought.reply c.in_ok-names.ensures.seeks c.in-Sought.is
    c.in_ok-reply-in-Sought.ensures.tells

pub returns : goal.returns
returns c = record {
  answers = refused_alone c.args.program.text.now c.in_ok-names.field-0 c.in_ok-names.ensures.seeks c.in_default.not-Sought;
  status = tt;
}
