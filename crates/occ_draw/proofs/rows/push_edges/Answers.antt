use Rattle.std.proofs.Common.{◌++◌, ap, sym, subst, ◌∙◌}
use Rattle.std.specs.List.{flat_map}
use Rattle.std.proofs.lemmas.Result.{on_ok_weaker}
use Rattle.occ_draw.specs.Adding.{AreNamedEdges}
use Rattle.occ_draw.specs.Pictures.{edge_text}
use Rattle.occ_draw.proofs.Named.{edges_named}
use Rattle.occ_draw.proofs.rows.push_edges.Goals as goal

pub push_all-requires : goal.push_all-requires
push_all-requires c = subst (AreNamedEdges c.args.names.now) (sym (c.as_slice.ensures.value ∙ c.in_ok-edges.ensures)) (edges_named c.args.names.now c.args.offers.now c.requires)

pub returns : goal.returns
returns c = on_ok_weaker c.push_all.result (λ e. e ∙ ap (λ l. c.args.text.now.items ++ flat_map (edge_text c.args.names.now c.args.number) l) (c.as_slice.ensures.value ∙ c.in_ok-edges.ensures)) c.push_all.ensures
