use Rattle.std.proofs.Common.{◌≡◌, arith, length, ap, ◌∙◌}
use Rattle.occ_syntax.specs.View.{in_alternatives}
use Rattle.occ_script_lines.proofs.Children.{branch_read}
use Rattle.occ_script_lines.proofs.Exchanges.{alternative_put, alternative_within, set_long}
use Rattle.occ_script_lines.proofs.putting.exchange_alternative.Goals as goal

pub exchange-guard-requires : goal.exchange-guard-requires
exchange-guard-requires c = alternative_within (in_alternatives c.args.alternatives.now) c.args.place c.requires

pub exchange-requires : goal.exchange-requires
exchange-requires c =
    let within = alternative_within (in_alternatives c.args.alternatives.now) c.args.place c.requires in
    let long : length (in_alternatives c.exchange-guard.new.self) ≡ length (in_alternatives c.args.alternatives.now) = ap length c.exchange-guard.ensures.put ∙ set_long (in_alternatives c.args.alternatives.now) c.args.place _ in
    omega (arith, within, long)

pub returns-clause-put : goal.returns-clause-put
returns-clause-put c =
    alternative_put (in_alternatives c.args.alternatives.now) _ _ c.args.place c.exchange-guard.result _ c.args.part (alternative_within (in_alternatives c.args.alternatives.now) c.args.place c.requires)
    c.exchange-guard.ensures.taken c.exchange-guard.ensures.put c.exchange.ensures.put

pub returns-clause-taken : goal.returns-clause-taken
returns-clause-taken c =
    branch_read (in_alternatives c.args.alternatives.now) c.args.place c.exchange-guard.result (alternative_within (in_alternatives c.args.alternatives.now) c.args.place c.requires) c.exchange-guard.ensures.taken
