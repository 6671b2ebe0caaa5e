use Rattle.std.proofs.Common.{◌∙◌}
use Rattle.occ_stepped.proofs.Around.{moves_named, shown_around, shown_same, state_kept}
use Rattle.occ_stepped.proofs.showing.show.Goals as goal

pub show_places-requires-clause-state : goal.show_places-requires-clause-state
show_places-requires-clause-state c =
    state_kept _ c.in-Some.places c.program.result.now c.args.program.0.now.program c.args.schedule.now.state c.in-Some.is c.in_ok-places.ensures c.program.ensures.same c.requires.state

pub show_places-requires-clause-named : goal.show_places-requires-clause-named
show_places-requires-clause-named c =
    moves_named c.args.names.now c.args.machine.now _ (c.deref.ensures.value ∙ c.in_ok-moves.ensures) c.requires.named

pub list_steps-requires : goal.list_steps-requires
list_steps-requires c = moves_named c.args.names.now c.args.machine.now _ (c.deref-in-None.ensures.value ∙ c.in_ok-moves.ensures) c.requires.named

pub returns-in-Some : goal.returns-in-Some
returns-in-Some c = shown_same c.show_places.result c.args.names.now _ _ (c.deref.ensures.value ∙ c.in_ok-moves.ensures) c.show_places.ensures

pub returns : goal.returns
returns c =
    shown_around c.joined.result c.args.names.now _ _ c.in_ok-listing-in-None.listing.rows.items (c.deref-in-None.ensures.value ∙ c.in_ok-moves.ensures)
    c.in_ok-listing-in-None.ensures c.joined.ensures
