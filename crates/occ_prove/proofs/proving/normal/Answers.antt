use Rattle.occ_prove.proofs.Scripts.{is_long, to_normal}
use Rattle.occ_prove.proofs.proving.normal.Goals as goal

pub returns-clause-derived : goal.returns-clause-derived
returns-clause-derived c =
    to_normal c.derive.result c.args.names.now c.args.accepted.now.program c.in_ok-table.table c.in_ok-table.ensures c.derive.ensures.derived c.derive.ensures.fits

pub returns-clause-long : goal.returns-clause-long
returns-clause-long c = λ e. is_long c.args.names.now c.args.accepted.now.program c.in_ok-table.table c.in_ok-table.ensures (c.derive.ensures.long e)
