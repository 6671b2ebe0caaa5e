use Rattle.std.proofs.Common.{ap, map, ◌∙◌}
use Rattle.occ_run.specs.Effects.{seen_offers}
use Rattle.occ_run.specs.Machines.{step_at}
use Rattle.occ_run_schedule.proofs.Arriving.{numbered_at}
use Rattle.occ_stepped.proofs.showing.point_behind.Goals as goal

pub after-requires : goal.after-requires
after-requires c =
    let p = c.loop-number.point in (
      _,
      numbered_at p c.deref.result.now _ c.in-Some.offer.now c.in-Some.ensures.lookup.3.0 c.in-Some.ensures.lookup.1
          (ap (λ l. map (step_at p) (seen_offers l)) c.deref.ensures.value ∙ c.in_ok-offers.ensures),
    )
