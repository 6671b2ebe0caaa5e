use Rattle.std.proofs.Common.{refl}
use Rattle.std.proofs.lemmas.Option.{slice_get_within}
use Rattle.occ_mdd.proofs.from_dd.Callers.{keeps_refl}
use Rattle.occ_node.proofs.Table.{holds_interned, rows_interned}
use Rattle.occ_node.proofs.Worlds.{leads_from, fit_row, made_from}
use Rattle.occ_node.proofs.world.World.make.Goals as goal

pub invariant_of-self : goal.invariant_of-self
invariant_of-self c = record {
  right = rows_interned c.args.self.now.store c.args.self.now.rows.keys c.intern.new.rows.keys c.args.row c.args.self.now.right (fit_row c.args.self.now c.args.row c.requires c.items-sets.ensures.antichain) c.intern.ensures.rows;
}

pub returns-in_err-intern-clause-leads : goal.returns-in_err-intern-clause-leads
returns-in_err-intern-clause-leads c = leads_from c.args.self.now _ (keeps_refl c.args.self.now.store) (holds_interned c.args.self.now.rows.keys c.intern.new.rows.keys c.args.row c.intern.ensures.rows) refl

pub returns-clause-leads : goal.returns-clause-leads
returns-clause-leads c = leads_from c.args.self.now _ (keeps_refl c.args.self.now.store) (holds_interned c.args.self.now.rows.keys c.intern.new.rows.keys c.args.row c.intern.ensures.rows) refl

pub returns-clause-made : goal.returns-clause-made
returns-clause-made c = made_from _ c.in_ok-intern.field-0 c.args.row c.in_ok-intern.ensures.place (slice_get_within _ _ _ c.in_ok-intern.ensures.place)
