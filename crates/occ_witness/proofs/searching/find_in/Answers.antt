use Rattle.occ_witness.proofs.Telling.{found_bytes, found_too_long}
use Rattle.occ_witness.proofs.searching.find_in.Goals as goal

pub returns-in-Bytes-clause-found : goal.returns-in-Bytes-clause-found
returns-in-Bytes-clause-found c =
    found_bytes c.find_in_bytes.result c.args.names.now c.args.accepted.now.program c.args.text.now c.in-Bytes.bytes _ c.in-Bytes.is c.as_slice.ensures.value c.find_in_bytes.ensures.found

pub returns-in-TooLong-clause-found : goal.returns-in-TooLong-clause-found
returns-in-TooLong-clause-found c = found_too_long c.args.names.now c.args.accepted.now.program c.args.text.now c.in-TooLong.is

pub find_in_bytes-requires-clause-distinct : goal.find_in_bytes-requires-clause-distinct
find_in_bytes-requires-clause-distinct c = c.requires.distinct
