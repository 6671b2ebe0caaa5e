use Rattle.occ_draw.proofs.Drawing.{drawn, drawn_long, long_status, told_status}
use Rattle.occ_draw.proofs.command.draw.Goals as goal

pub returns-in-Bytes-clause-answers : goal.returns-in-Bytes-clause-answers
returns-in-Bytes-clause-answers c = drawn c.tell.result c.args.text.now c.in-Bytes.bytes _ c.in-Bytes.is c.as_slice.ensures.value c.tell.ensures

pub returns-in-Bytes-clause-status : goal.returns-in-Bytes-clause-status
returns-in-Bytes-clause-status c = told_status c.tell.result _ c.tell.ensures

pub returns-in-TooLong-clause-answers : goal.returns-in-TooLong-clause-answers
returns-in-TooLong-clause-answers c = drawn_long c.refuse_length.result c.args.text.now c.in-TooLong.is c.refuse_length.ensures

pub returns-in-TooLong-clause-status : goal.returns-in-TooLong-clause-status
returns-in-TooLong-clause-status c = long_status c.refuse_length.result _ c.refuse_length.ensures
