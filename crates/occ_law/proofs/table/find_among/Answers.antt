use Rattle.occ_law.proofs.Named.{found_law}
use Rattle.occ_law.proofs.table.find_among.Goals as goal

pub returns-then-is_same-clause-found : goal.returns-then-is_same-clause-found
returns-then-is_same-clause-found c = λ law named.
    found_law c.loop-place.place c.text_at.result.now c.args.name.now law c.text_at.ensures (cc (c.is_same.ensures.0 c.if-is_same.true, c.as_bytes.ensures.value)) named
