use Rattle.std.proofs.Common.{length}
use Rattle.occ_renamed.proofs.from_meaning.Renaming.{exchange_is}
use Rattle.occ_renamed.specs.occ_meaning.Rename.{exchanging}
use Rattle.occ_engine_written.specs.Exchanged.{names_exchanged}
use Rattle.occ_engine_written.proofs.Tables.{exchanged_length, exchanged_within, renumbered, table_under}
use Rattle.occ_engine_written.proofs.numbered_moves.tables_stay_tables.Goals as goal

pub returns : goal.returns
returns c = λ a b names P p q t.
    table_under (exchanging a b) (exchange_is a b) names (names_exchanged a b names) (renumbered a b names p q) (exchanged_length a b names)
    (exchanged_within a b (length names) p q) P t
