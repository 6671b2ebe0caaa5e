-- The channels of all steps of a normal table have names.
use Rattle.std.proofs.Common.{◌≡◌, ◌<◌, ℕ, [], length, get_or, sym, subst}
use Rattle.std.specs.List.{All}
use Rattle.occ_syntax.specs.occ_base.declared.event.Event.{Event}
use Rattle.occ_tool_run.specs.occ_nform_table.Behaviours.{row_at}
use Rattle.occ_tool_run.specs.occ_nform_table.Normal.{Parts}
use Rattle.occ_tool_run.specs.occ_nform_table.Tables.{IsNormal}
use Rattle.occ_tool_run.proofs.from_nform_table.Facts.{plain_of}
use Rattle.occ_tool_run.proofs.from_nform_table.Named.{row_named}
use Rattle.occ_lts.proofs.Lists.{chosen_in, each, stands_in}
use Rattle.occ_lts.specs.declared.graph.Move.{Move}
use Rattle.occ_lts.specs.Moves.{graph_moves}
use Rattle.occ_lts.specs.Steps.{IsStep, begins, does, settles, accepts, leaves, ends}
use Rattle.occ_lts.specs.Texts.{MoveIsNamed}
use Rattle.occ_lts.proofs.Steps.{listed_is}

module _ (t : Parts) (normal : IsNormal t) where
  named_as : (m p : Move) → m ≡ p → MoveIsNamed t.names p → MoveIsNamed t.names m
  named_as m p e h = subst (MoveIsNamed t.names) (sym e) h

  named_step : (m : Move) → IsStep t.params t.rows t.states m → MoveIsNamed t.names m
  named_step m (begins k h e) = named_as m _ e tt
  named_step m (does n o h i e) = named_as m _ e (each (λ (p : Event × ℕ). p.0.chan.0 < length t.names) (row_at t.rows n).offers o
      (row_named t.names t.params normal.interface.named n (row_at t.rows n) ((plain_of t normal).form n h)).offers i)
  named_step m (settles n k h l e) = named_as m _ e tt
  named_step m (accepts n k o h l i e) = named_as m _ e (each (λ (p : Event × ℕ). p.0.chan.0 < length t.names) (row_at t.rows n).offers o
      (row_named t.names t.params normal.interface.named n (row_at t.rows n) ((plain_of t normal).form n h)).offers
      (chosen_in (get_or (row_at t.rows n).accepts k []) (row_at t.rows n).offers o i))
  named_step m (leaves n k h l e) = named_as m _ e tt
  named_step m (ends n k h l e) = named_as m _ e tt

  pub moves_named : All (MoveIsNamed t.names) (graph_moves t.params t.rows t.states)
  moves_named i d h = named_step _ (listed_is t.params t.rows t.states _ (stands_in (graph_moves t.params t.rows t.states) i d h))
