use Rattle.std.proofs.Common.{◌≡◌, arith, length, ap, ◌∙◌}
use Rattle.occ_syntax.specs.View.{in_choices}
use Rattle.occ_script_lines.proofs.Children.{choice_read}
use Rattle.occ_script_lines.proofs.Exchanges.{choice_put, choice_within, set_long}
use Rattle.occ_script_lines.proofs.putting.exchange_choice.Goals as goal

pub exchange-condition-requires : goal.exchange-condition-requires
exchange-condition-requires c = choice_within (in_choices c.args.choices.now) c.args.place c.requires

pub exchange-requires : goal.exchange-requires
exchange-requires c =
    let within = choice_within (in_choices c.args.choices.now) c.args.place c.requires in
    let long : length (in_choices c.exchange-condition.new.self) ≡ length (in_choices c.args.choices.now) = ap length c.exchange-condition.ensures.put ∙ set_long (in_choices c.args.choices.now) c.args.place _ in
    omega (arith, within, long)

pub returns-clause-put : goal.returns-clause-put
returns-clause-put c =
    choice_put (in_choices c.args.choices.now) _ _ c.args.place c.exchange-condition.result _ c.args.part (choice_within (in_choices c.args.choices.now) c.args.place c.requires)
    c.exchange-condition.ensures.taken c.exchange-condition.ensures.put c.exchange.ensures.put

pub returns-clause-taken : goal.returns-clause-taken
returns-clause-taken c =
    choice_read (in_choices c.args.choices.now) c.args.place c.exchange-condition.result (choice_within (in_choices c.args.choices.now) c.args.place c.requires) c.exchange-condition.ensures.taken
