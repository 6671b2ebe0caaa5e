use Rattle.std.proofs.Common.{◌≡◌, ◌||◌, List, ap, ◌∙◌}
use Rattle.std.proofs.lemmas.Result.{IfOk-weaker}
use Rattle.occ_syntax.specs.occ_base.declared.event.Event.{Event}
use Rattle.occ_syntax.specs.Scopes.{environment, in_interface}
use Rattle.occ_norm.specs.occ_accept.Accept.{in_set}
use Rattle.occ_refine.specs.Interfaces.{in_params}
use Rattle.occ_refine.proofs.Listing.{params_listed}
use Rattle.occ_refine.proofs.events.all_events.Goals as goal

pub returns-clause-members : goal.returns-clause-members
returns-clause-members c = IfOk-weaker c.listed.result (λ (list : List Event). list ≡ c.as_slice.result.now) (λ events. (e : Event) → in_set events e ≡ in_interface (environment c.args.params.now) e)
    (λ list h e. ap (λ l. in_set l e) h ∙ ap (λ l. in_set l e) c.as_slice.ensures.value ∙ c.in_order-events.ensures.members e ∙ c.in_ok-add_params.ensures e
    ∙ ap (λ l. in_set l e || in_params c.args.params.now e) c.new-events.ensures.items ∙ params_listed c.args.params.now e c.requires) c.listed.ensures
