use Rattle.std.proofs.Common.{◌≡◌, ◌++◌, ℕ, List, drop, map}
use Rattle.occ_syntax.specs.View.{numbers}
use Rattle.occ_parse_forms.specs.occ_lex.Symbols.{Extends}
use Rattle.occ_parse_rules.specs.Unrolled.{item_number}
use Rattle.occ_parse_unroll.specs.Numbers.{numbering}
use Rattle.occ_parse_unroll.specs.Present.{values_of}
use Rattle.occ_parse_unroll.specs.Elements.{items_places, brought}
use Rattle.occ_parse_unroll.proofs.expression.left_names.Given as goal

-- the names so far and those of the items that are left are all
abbrev pub invariant-loop-item : goal.invariant-loop-item
invariant-loop-item g l = record {
  whole : (t : List (List ℕ)) → Extends l.names t → numbers l.list ++ map (item_number (numbering (g.S.Numbering.number l.source t)) (values_of l.context.values)) (drop l.item-index l.items) ≡ map (item_number (numbering (g.S.Numbering.number l.source t)) (values_of l.context.values)) l.items;
  table : brought (g.S.Numbering.brings l.source) l.names (items_places (values_of l.context.values) (drop l.item-index l.items)) ≡ brought (g.S.Numbering.brings l.source) l.fn.names (items_places (values_of l.context.values) l.items);
  grown : Extends l.fn.names l.names;
}
