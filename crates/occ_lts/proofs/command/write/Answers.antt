use Rattle.std.proofs.Common.{◌∙◌, ap, refl, sym, subst}
use Rattle.std.specs.List.{All}
use Rattle.occ_lts.specs.Moves.{graph_moves}
use Rattle.occ_lts.specs.Texts.{MoveIsNamed, graph_text}
use Rattle.occ_lts.proofs.Named.{moves_named}
use Rattle.occ_lts.proofs.command.write.Goals as goal

pub normal_table-requires-clause-interface : goal.normal_table-requires-clause-interface
normal_table-requires-clause-interface c = c.requires.interface

pub normal_table-requires-clause-params : goal.normal_table-requires-clause-params
normal_table-requires-clause-params c = c.requires.params

pub graph_of-requires-clause-wide : goal.graph_of-requires-clause-wide
graph_of-requires-clause-wide c = c.in_ok-table.ensures.normal.interface.wide

pub graph_of-requires-clause-few : goal.graph_of-requires-clause-few
graph_of-requires-clause-few c = c.in_ok-table.ensures.normal.interface.bits

pub graph_text-requires : goal.graph_text-requires
graph_text-requires c = subst (All (MoveIsNamed c.args.names.now)) (sym c.in_ok-graph.ensures.moves) (moves_named _ c.in_ok-table.ensures.normal)

pub returns-clause-graph : goal.returns-clause-graph
returns-clause-graph c = record {
  table = c.in_ok-table.table;
  is = c.in_ok-table.ensures;
  status_is = refl;
  text_is = c.in_ok-graph_text.ensures ∙ ap (λ moves. graph_text c.args.names.now moves c.in_ok-graph.graph.places) c.in_ok-graph.ensures.moves
      ∙ ap (λ ps. graph_text c.args.names.now (graph_moves ps c.in_ok-table.table.rows c.in_ok-table.table.states) c.in_ok-graph.graph.places) c.in_ok-table.ensures.params_are
      ∙ ap (graph_text c.args.names.now _) c.in_ok-graph.ensures.places;
}
