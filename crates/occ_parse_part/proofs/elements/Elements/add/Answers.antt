use Rattle.occ_parse_part.proofs.Kept.{row_more}
use Rattle.occ_parse_part.proofs.elements.Elements.add.Goals as goal

pub returns : goal.returns
returns c =
    row_more c.args.self.now.rows.entries c.insert.new.self.entries (λ row. row.items) c.args.self.now.places.entries c.note_row.new.places.entries c.args.array c.args.row
    c.in_ok-insert.ensures.updates.0 (rw c.as_slice.ensures.value at c.in_ok-note_row.ensures)
