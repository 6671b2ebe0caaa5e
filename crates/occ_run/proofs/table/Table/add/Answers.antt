use Rattle.std.proofs.Common.{refl}
use Rattle.occ_run.proofs.Tables.{not_noted, noted_on}
use Rattle.occ_run.proofs.table.Table.add.Goals as goal

pub returns-in-Unseen : goal.returns-in-Unseen
returns-in-Unseen c = λ n. not_noted _ c.args.run n c.in-Unseen.is

pub returns-in_ok-note-in-Sends : goal.returns-in_ok-note-in-Sends
returns-in_ok-note-in-Sends c = λ n. noted_on _ _ c.args.run _ c.in-Sends.chan n c.in-Sends.is refl (c.in_ok-note-in-Sends.ensures n)

pub returns-in_ok-note-in-Takes : goal.returns-in_ok-note-in-Takes
returns-in_ok-note-in-Takes c = λ n. noted_on _ _ c.args.run _ c.in-Takes.chan n c.in-Takes.is refl (c.in_ok-note-in-Takes.ensures n)
