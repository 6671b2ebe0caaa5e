use Rattle.occ_steps.proofs.Telling.{listed_bytes, listed_too_long}
use Rattle.occ_steps.proofs.listing.list_in.Goals as goal

pub returns-in-Bytes-clause-lists : goal.returns-in-Bytes-clause-lists
returns-in-Bytes-clause-lists c = listed_bytes c.list_in_bytes.result c.args.names c.args.program.0.now.program c.args.text.now c.in-Bytes.bytes _ c.in-Bytes.is c.as_slice.ensures.value c.list_in_bytes.ensures.lists

pub returns-in-TooLong-clause-lists : goal.returns-in-TooLong-clause-lists
returns-in-TooLong-clause-lists c = listed_too_long c.args.names c.args.program.0.now.program c.args.text.now c.in-TooLong.is
