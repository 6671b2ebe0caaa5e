use Rattle.std.proofs.Common.{None, is_some, sym, ap, ◌∙◌, subst}
use Rattle.std.proofs.lemmas.Result.{IfOk-weaker}
use Rattle.occ_choice.specs.Branches.{AreUnited, IsAlt, IsBeside, IsWaiting}
use Rattle.occ_choice.proofs.Reaching.{below-leads, reached-leads, reached_below, reached_offered}
use Rattle.occ_choice.proofs.Choosing.{alt_beside, alt_waiting, united_earlier}
use Rattle.occ_choice.proofs.alternatives.alt_with.Goals as goal

pub beside-requires-clause-there : goal.beside-requires-clause-there
beside-requires-clause-there c = below-leads c.offer.new.world c.united.new.world c.united.ensures.leads c.in_ok-offers.offers (reached_below c.offer.new.world c.in_ok-offers.offers c.in_ok-events.events _ _ c.in_ok-offers.ensures.offers)

pub waiting-requires-clause-there : goal.waiting-requires-clause-there
waiting-requires-clause-there c = below-leads c.offer.new.world c.united.new.world c.united.ensures.leads c.in_ok-offers.offers (reached_below c.offer.new.world c.in_ok-offers.offers c.in_ok-events.events _ _ c.in_ok-offers.ensures.offers)

pub waiting-requires-clause-events : goal.waiting-requires-clause-events
waiting-requires-clause-events c = reached_offered c.offer.new.world c.in_ok-offers.offers c.in_ok-events.events _ _ c.in_ok-offers.ensures.offers

pub returns-in-Some-clause-alt : goal.returns-in-Some-clause-alt
returns-in-Some-clause-alt c = IfOk-weaker c.beside.result (λ r. IsBeside c.united.new.world c.beside.new.world c.in_ok-offers.offers c.in-Some.node r) (λ r. IsAlt c.args.world.now c.beside.new.world c.args.branches.now r)
    (λ r is. alt_beside c.args.world.now c.args.branches.now c.united.new.world c.in_ok-offers.offers c.in_ok-events.events
    (reached-leads c.offer.new.world c.united.new.world c.united.ensures.leads c.in_ok-offers.offers c.in_ok-events.events _ _ c.in_ok-offers.ensures.offers) c.in_ok-events.ensures c.beside.new.world c.in-Some.node r
    (united_earlier c.args.world.now c.offer.new.world c.offer.ensures.leads c.args.branches.now c.requires.branches c.united.new.world None _
    (subst (λ o. AreUnited c.offer.new.world c.united.new.world c.args.branches.now None o) c.in-Some.is c.in_ok-skips.ensures.united)) is)
    c.beside.ensures.beside

pub returns-in-None-clause-alt : goal.returns-in-None-clause-alt
returns-in-None-clause-alt c = IfOk-weaker c.waiting.result (λ r. IsWaiting c.united.new.world c.waiting.new.world c.in_ok-events.events c.in_ok-offers.offers r) (λ r. IsAlt c.args.world.now c.waiting.new.world c.args.branches.now r)
    (λ r is. alt_waiting c.args.world.now c.args.branches.now c.united.new.world c.in_ok-offers.offers c.in_ok-events.events
    (reached-leads c.offer.new.world c.united.new.world c.united.ensures.leads c.in_ok-offers.offers c.in_ok-events.events _ _ c.in_ok-offers.ensures.offers) c.in_ok-events.ensures
    (sym c.in_ok-skips.ensures.united.there ∙ ap is_some c.in-None.is) c.waiting.new.world r is)
    c.waiting.ensures.waiting
