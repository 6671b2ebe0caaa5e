use Rattle.occ_why.proofs.Answering.{compared_told, refused_pair}
use Rattle.occ_why.proofs.command.why_apart.Goals as goal

pub returns-in-Compared-clause-answers : goal.returns-in-Compared-clause-answers
returns-in-Compared-clause-answers c =
    compared_told c.args.first.text.now c.args.second.text.now c.in_ok-names.field-0 _ _ c.in_ok-reply-in-Compared.reply c.in_ok-names.ensures.settles
    c.in-Compared.is c.in_ok-reply-in-Compared.ensures.tells

pub returns : goal.returns
returns c = record {
  answers = refused_pair c.args.first.text.now c.args.second.text.now c.in_ok-names.field-0 c.in_ok-names.ensures.settles c.in_default.not-Compared c.in_default.not-InterfacesDiffer;
  status = tt;
  usage = tt;
}
