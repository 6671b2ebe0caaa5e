use Rattle.std.proofs.Common.{ℕ, ◌≡◌, ◌∙◌, ap, sym, subst}
use Rattle.std.specs.List.{All}
use Rattle.occ_run.specs.occ_behaviour.States.{is_state}
use Rattle.occ_syntax.specs.occ_base.declared.names.Name.{Name}
use Rattle.occ_stepped.proofs.Zeros.{zeros_all, zeros_are_state, zeros_are_zero, zeros_past}
use Rattle.occ_stepped.proofs.leading.beginning.Goals as goal

pub loop-rest-preserved : goal.loop-rest-preserved
loop-rest-preserved c =
    zeros_past c.args.params.now c.loop-rest.rest.now _ c.in_default-kind.field-0 c.in_default-kind.field-1 c.loop-rest.state c.in-len1-up.len_at_least c.in_default-kind.is c.loop-rest.invariant

pub returns-clause-state : goal.returns-clause-state
returns-clause-state c =
    let all = zeros_all c.args.params.now c.loop-rest.rest.now c.loop-rest.state c.in_default.len_below c.loop-rest.invariant in
    ap (is_state c.args.params.now) all ∙ zeros_are_state c.args.params.now

pub returns-clause-start : goal.returns-clause-start
returns-clause-start c =
    let all = zeros_all c.args.params.now c.loop-rest.rest.now c.loop-rest.state c.in_default.len_below c.loop-rest.invariant in
    record { zero = subst (All (λ (v : Name × ℕ). v.1 ≡ 0)) (sym all) (zeros_are_zero c.args.params.now); none = c.new-steps.ensures }
