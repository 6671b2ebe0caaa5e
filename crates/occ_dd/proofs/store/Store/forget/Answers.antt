use Rattle.std.proofs.Common.{refl}
use Rattle.occ_dd.specs.Table.{nodes_of}
use Rattle.occ_dd.proofs.Growth.{keeps_refl}
use Rattle.occ_dd.proofs.Made.{no_choices, no_unions}
use Rattle.occ_dd.proofs.Sets.{keeps_grown}
use Rattle.occ_dd.proofs.store.Store.forget.Goals as goal

pub invariant_of-self : goal.invariant_of-self
invariant_of-self c =
    let s = c.args.self.now in
    record {
      empty_known = s.empty_known;
      full_known = s.full_known;
      empty_is = s.empty_is;
      full_is = s.full_is;
      choices_right = no_choices (nodes_of s.table) s.full c.new.result c.new.ensures;
      unions_right = no_unions (nodes_of s.table) s.full c.new-2.result c.new-2.ensures;
    }

pub returns : goal.returns
returns c = keeps_grown c.args.self.now _ (record { nodes = keeps_refl (nodes_of c.args.self.now.table); empty = refl; full = refl })
