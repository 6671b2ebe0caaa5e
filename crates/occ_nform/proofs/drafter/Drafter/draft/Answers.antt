use Rattle.std.proofs.Common.{[]}
use Rattle.occ_nform_rows.proofs.from_nform_table.Named.{row_named}
use Rattle.occ_nform.proofs.NumberTexts.{marked_params}
use Rattle.occ_nform.proofs.drafter.Drafter.draft.Goals as goal

pub invariant_of-lister : goal.invariant_of-lister
invariant_of-lister c = record { few = c.args.self.now.interface.bits; kept = c.args.self.now.kept }

pub row_text-requires : goal.row_text-requires
row_text-requires c =
    let d = c.args.self.now in
    row_named d.names.now d.params.now d.interface.named c.requires.bound c.in_ok-row.row (c.in_ok-row.ensures.form (marked_params d.names.now [] d.params.now d.good) c.requires.bound c.requires.lower)
