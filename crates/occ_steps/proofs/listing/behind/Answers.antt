use Rattle.std.proofs.Common.{◌<◌, length, refl, sym, subst}
use Rattle.std.specs.List.{All}
use Rattle.occ_stepped.specs.Shown.{HasParams, IsLed}
use Rattle.occ_stepped.specs.occ_run.Machines.{configuration}
use Rattle.occ_tool_run.proofs.Scheduled.{parameters_named}
use Rattle.occ_tool_run.specs.occ_base.declared.names.Name.{Name}
use Rattle.occ_stepped.specs.occ_syntax.declared.scope.Kind.{Kind}
use Rattle.occ_steps.proofs.listing.behind.Goals as goal

pub show-requires-clause-named : goal.show-requires-clause-named
show-requires-clause-named c =
    let params = subst (HasParams c.args.program.0.now.program.params) c.in-There.is c.in_ok-led.ensures.params in
    subst (All (λ (entry : Name × Kind). entry.0.0 < length c.args.names)) (sym params) (parameters_named c.args.names c.args.program.0.now.program c.requires.known)

pub returns-in_ok-text-in-There-clause-behind : goal.returns-in_ok-text-in-There-clause-behind
returns-in_ok-text-in-There-clause-behind c = record {
  there = configuration c.in-There.machine;
  leads = subst (IsLed c.args.program.0.now.program c.args.schedule.now) c.in-There.is c.in_ok-led.ensures.led;
  shows = c.in_ok-text-in-There.ensures;
}

pub returns-in-Missing-clause-behind : goal.returns-in-Missing-clause-behind
returns-in-Missing-clause-behind c =
    (c.in-Missing.step, subst (IsLed c.args.program.0.now.program c.args.schedule.now) c.in-Missing.is c.in_ok-led.ensures.led, refl)
