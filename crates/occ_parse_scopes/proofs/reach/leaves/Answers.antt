use Rattle.std.proofs.Common.{sym, ap, ◌∙◌, ◌||◌, ◌+◌, ◌-◌}
use Rattle.std.specs.List.{list_any}
use Rattle.occ_parse_rules.specs.Places.{numbers_from}
use Rattle.occ_parse_scopes.specs.Reaching.{misses}
use Rattle.occ_parse_scopes.proofs.Reaches.{next_number}
use Rattle.occ_parse_scopes.proofs.reach.leaves.Goals as goal

pub loop-value-preserved : goal.loop-value-preserved
loop-value-preserved c =
    let test = misses c.args.scopes.now c.args.reach in
    let value = c.loop-value.value in
    let end = c.from-base.result + c.from.result in
    ap (λ b. b || list_any test (numbers_from (value + 1) (end - (value + 1)))) (sym c.if-misses.false ∙ c.misses.ensures) ∙ sym (next_number test value end c.loop-value-test.true) ∙ c.loop-value.invariant
