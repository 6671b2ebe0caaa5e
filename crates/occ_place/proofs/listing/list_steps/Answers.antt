use Rattle.std.proofs.Common.{ap, map, ◌∙◌, ◌++◌}
use Rattle.std.proofs.lemmas.List.Elements.{All-same}
use Rattle.std.specs.List.{flat_map}
use Rattle.occ_place.proofs.Spelling.{rows_named}
use Rattle.occ_place.specs.declared.row.Row.{Row}
use Rattle.occ_place.specs.Steps.{SpanIsNamed, row_text, spelled}
use Rattle.occ_place.proofs.listing.list_steps.Goals as goal

pub lines_of-requires : goal.lines_of-requires
lines_of-requires c = All-same (SpanIsNamed c.args.names.now) _ _ c.deref.ensures.value (c.in_ok-spans.ensures.named c.args.names.now c.requires)

pub push_rows-requires : goal.push_rows-requires
push_rows-requires c =
    rows_named c.args.names.now _ c.in_ok-spans.spans.items (ap (map (λ (row : Row). row.span)) c.deref-7.ensures.value ∙ c.in_ok-rows.ensures ∙ c.deref-4.ensures.value)
    (c.in_ok-spans.ensures.named c.args.names.now c.requires)

pub returns : goal.returns
returns c = record {
  rows = c.in_ok-rows.rows.items;
  all = ap spelled (c.in_ok-rows.ensures ∙ c.deref-4.ensures.value) ∙ c.in_ok-spans.ensures.all;
  is = c.in_ok-push_rows.ensures
      ∙ ap (λ t. t ++ flat_map (row_text c.args.names.now) c.deref-7.result.now) c.new-text.ensures.items
      ∙ ap (flat_map (row_text c.args.names.now)) c.deref-7.ensures.value;
}
