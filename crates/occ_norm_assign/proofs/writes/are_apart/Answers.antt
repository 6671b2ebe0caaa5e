use Rattle.std.proofs.Common.{◌≡◌, ◌<◌, ◌≤◌, get_or, take, ⊎_elim, subst, arith}
use Rattle.std.proofs.lemmas.Bool.{cases_lt}
use Rattle.std.proofs.lemmas.List.Elements.{All-take}
use Rattle.occ_norm_frame.proofs.Worlds.{extends_refl, extends_trans}
use Rattle.occ_norm_assign.specs.Writes.{IsWrite}
use Rattle.occ_norm_assign.specs.Written.{IsFree, no_write}
use Rattle.occ_norm_assign.proofs.Exchanging.{free-kept}
use Rattle.occ_norm_assign.proofs.Keeping.{writes-extend}
use Rattle.occ_norm_assign.proofs.writes.are_apart.Goals as goal

pub is_apart-requires-clause-write : goal.is_apart-requires-clause-write
is_apart-requires-clause-write c = writes-extend c.args.world.now c.loop-place.world c.loop-place.invariant.extends c.args.writes.now c.requires.writes c.loop-place.place no_write (omega arith)

pub is_apart-requires-clause-others : goal.is_apart-requires-clause-others
is_apart-requires-clause-others c = All-take (IsWrite c.loop-place.world.store) c.loop-place.place c.args.writes.now (writes-extend c.args.world.now c.loop-place.world c.loop-place.invariant.extends c.args.writes.now c.requires.writes)

pub loop-place-init : goal.loop-place-init
loop-place-init c = record { extends = extends_refl c.args.world.now; free = λ i h. absurd (omega (arith, h)) }

pub loop-place-preserved : goal.loop-place-preserved
loop-place-preserved c = record {
  extends = extends_trans c.args.world.now c.loop-place.world c.is_apart.new.world c.loop-place.invariant.extends c.is_apart.ensures.extends;
  free = λ i h. ⊎_elim
      (λ (l : i < c.loop-place.place). c.loop-place.invariant.free i l)
      (λ (l : c.loop-place.place ≤ i).
      let e : c.loop-place.place ≡ i = omega (arith, h, l) in
      subst (λ n. IsFree c.args.world.now.store (get_or c.args.writes.now n no_write) (take n c.args.writes.now)) e
      (free-kept c.args.world.now.store c.loop-place.world.store c.loop-place.invariant.extends.grows.stored (get_or c.args.writes.now c.loop-place.place no_write)
      (c.requires.writes c.loop-place.place no_write (omega arith)).known (take c.loop-place.place c.args.writes.now) (c.in_ok-free.ensures.free c.if-not-free.false)))
      (cases_lt i c.loop-place.place);
}

pub returns-clause-free : goal.returns-clause-free
returns-clause-free c e i h = c.loop-place.invariant.free i (omega (arith, h))
