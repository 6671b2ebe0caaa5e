use Rattle.std.proofs.Common.{◌≡◌, Some, arith, sym, ap, ◌∙◌, map, slice_get, subst}
use Rattle.occ_law.proofs.Named.{table_long}
use Rattle.occ_law.proofs.table.text_at.Goals as goal

pub text_of-requires : goal.text_of-requires
text_of-requires c = omega (arith, table_long c.args.names.now c.requires.table)

pub returns : goal.returns
returns c = ap (λ ts. slice_get ts c.args.place) (sym c.requires.table) ∙ subst (λ k. slice_get (map (λ t. t.now) c.args.names.now) k ≡ Some c.text_of.result.now) c.from.ensures c.text_of.ensures
