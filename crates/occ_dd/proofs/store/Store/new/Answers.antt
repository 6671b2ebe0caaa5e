use Rattle.occ_dd.specs.Table.{nodes_of}
use Rattle.occ_dd.specs.Store.{sets_of}
use Rattle.occ_dd.proofs.Made.{empty_made, full_made, empty_label, full_label, two, no_choices, no_unions}
use Rattle.occ_dd.proofs.store.Store.new.Goals as goal

pub invariant_of-result : goal.invariant_of-result
invariant_of-result c =
    let ms = nodes_of c.leaf.new.self in
    let ns = nodes_of c.leaf-2.new.self in
    record {
      empty_known = empty_made ms ns c.in_ok-empty.empty c.in_ok-full.full c.in_ok-empty.ensures.leaf c.leaf-2.ensures.keeps c.in_ok-full.ensures.leaf;
      full_known = full_made ms ns c.in_ok-empty.empty c.in_ok-full.full c.in_ok-empty.ensures.leaf c.leaf-2.ensures.keeps c.in_ok-full.ensures.leaf;
      empty_is = empty_label ms ns c.in_ok-empty.empty c.in_ok-full.full c.in_ok-empty.ensures.leaf c.leaf-2.ensures.keeps c.in_ok-full.ensures.leaf c.leaf-2.new.self.diagram;
      full_is = full_label ms ns c.in_ok-empty.empty c.in_ok-full.full c.in_ok-empty.ensures.leaf c.leaf-2.ensures.keeps c.in_ok-full.ensures.leaf c.leaf-2.new.self.diagram;
      choices_right = no_choices ns c.in_ok-full.full c.new.result c.new.ensures;
      unions_right = no_unions ns c.in_ok-full.full c.new-2.result c.new-2.ensures;
    }

pub returns : goal.returns
unfolding sets_of
returns c = two (nodes_of c.leaf.new.self) (nodes_of c.leaf-2.new.self) c.in_ok-empty.empty c.in_ok-full.full c.in_ok-empty.ensures.leaf c.leaf-2.ensures.keeps c.in_ok-full.ensures.leaf (nodes_of c.new-table.result) c.new-table.ensures c.leaf.ensures.growth c.leaf-2.ensures.growth
