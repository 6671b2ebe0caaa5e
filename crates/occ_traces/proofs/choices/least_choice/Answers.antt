use Rattle.std.proofs.Common.{MatchOption, true, false, sym, ◌∙◌, subst}
use Rattle.occ_refine.specs.occ_node.World.{row_of}
use Rattle.occ_refine.specs.Rows.{IsLeastOf, NoneOf}
use Rattle.occ_traces.specs.Choosers.{is_wanted}
use Rattle.occ_traces.proofs.Choosing.{event_least, refused_least, stable_least, two_least}
use Rattle.occ_traces.proofs.choices.least_choice.Goals as goal

pub returns-in-Some-2 : goal.returns-in-Some-2
returns-in-Some-2 c =
    let w = c.args.world.now in
    let ps = c.args.params.now in
    let offers = (row_of w c.args.node).offers in
    let least = subst (λ o. MatchOption o (NoneOf offers (is_wanted w c.args.node true)) (IsLeastOf ps offers (is_wanted w c.args.node true))) c.in-Some-2.is c.in_ok-least_offer.ensures in
    refused_least w ps c.requires.few c.requires.scope c.args.node c.in_default.ensures c.in-Some-2.event least

pub returns-in-Some-least_end : goal.returns-in-Some-least_end
returns-in-Some-least_end c = two_least c.args.world.now c.args.params.now c.requires.few c.requires.scope c.args.node c.in-Some.bits c.in-Some-least_end.other
    c.in-Some.ensures c.in-Some-least_end.ensures c.in_ok-state.state c.in_ok-other.other c.in_ok-state.ensures c.in_ok-other.ensures

pub returns-then-refuses : goal.returns-then-refuses
returns-then-refuses c = stable_least c.args.world.now c.args.params.now c.requires.few c.requires.scope c.args.node c.in-Some.bits c.in-Some.ensures c.in_default-least_end.ensures
    c.in_ok-state.state c.in_ok-state.ensures (sym c.refuses.ensures ∙ c.if-refuses.true)

pub returns-in-Some-3 : goal.returns-in-Some-3
returns-in-Some-3 c =
    let w = c.args.world.now in
    let ps = c.args.params.now in
    let offers = (row_of w c.args.node).offers in
    let least = subst (λ o. MatchOption o (NoneOf offers (is_wanted w c.args.node false)) (IsLeastOf ps offers (is_wanted w c.args.node false))) c.in-Some-3.is c.in_ok-least_offer-2.ensures in
    event_least w ps c.requires.few c.requires.scope c.args.node c.in-Some.bits c.in-Some.ensures c.in_default-least_end.ensures (sym c.refuses.ensures ∙ c.if-refuses.false)
    c.in_ok-state.state c.in_ok-state.ensures c.in-Some-3.event least
