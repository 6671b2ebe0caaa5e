use Rattle.std.proofs.Common.{◌≡◌, ◌+◌, ◌-◌, ◌/◌, ◌<◌, ◌≤◌, List, length, take, drop, sym, ap, ◌∙◌, subst, arith}
use Rattle.std.proofs.lemmas.List.{length-drop}
use Rattle.std.proofs.lemmas.Result.{IfOk-weaker}
use Rattle.occ_norm_frame.specs.occ_mdd.declared.map.MapId.{MapId}
use Rattle.occ_norm_par.specs.Joined.{HaveNodes, IsJoined}
use Rattle.occ_norm_frame.proofs.Worlds.{has_nodes-extends}
use Rattle.occ_norm_par.proofs.Together.{halves_joined, joined_one, nodes_dropped, nodes_later, rest_taken}
use Rattle.occ_norm_par.proofs.parallel.Sides.+halves.Goals as goal

pub returns-then-maps-eq1-clause-joined : goal.returns-then-maps-eq1-clause-joined
returns-then-maps-eq1-clause-joined t c = joined_one c.args.self.now c.args.place c.args.maps.now c.args.world.now c.if-maps-eq1.true

pub halves-requires-2 : goal.halves-requires-2
halves-requires-2 t c =
    let maps = c.args.maps.now in
    let n = length maps in
    let k = n / 2 in
    let some : 1 ≤ n = c.requires.some in
    let places : c.args.place + n ≤ length c.args.self.now.writes.items = c.requires.places in
    let one : 1 ≤ k = omega (arith, some, c.if-maps-eq1.false) in
    let less : k < n = omega (arith, some) in
    let rest : length (take (n - k) (drop k maps)) ≡ n - k = ap length (rest_taken k maps) ∙ length-drop k maps in
    let now : n ≡ t = c.decreases in
    let fall : length (take (n - k) (drop k maps)) < t = omega (arith, rest, one, less, now) in (
      fall,
      (
        omega (arith, rest, less),
        (
          omega (arith, rest, less, places),
          subst (HaveNodes c.halves.new.world) (sym (rest_taken k maps)) (nodes_dropped c.halves.new.world k maps (nodes_later c.args.world.now c.halves.new.world c.halves.ensures.extends maps c.requires.nodes)),
        ),
      ),
    )

pub both-requires-clause-first : goal.both-requires-clause-first
both-requires-clause-first t c = has_nodes-extends c.halves.new.world c.halves-2.new.world c.halves-2.ensures.extends c.in_ok-first.first c.in_ok-first.ensures.nodes

pub returns-clause-joined : goal.returns-clause-joined
returns-clause-joined t c =
    let sides = c.args.self.now in
    let maps = c.args.maps.now in
    let k = length maps / 2 in
    let v1 = c.halves.new.world in
    let v2 = c.halves-2.new.world in
    let r2 = c.in_ok-others.others in
    let second : IsJoined sides (c.args.place + k) (drop k maps) v1 v2 r2 = subst (λ (ms : List MapId). IsJoined sides (c.args.place + k) ms v1 v2 r2) (rest_taken k maps) c.in_ok-others.ensures.joined in
    IfOk-weaker c.both.result _ _
    (λ r are. halves_joined sides c.args.place k maps (omega arith) c.args.world.now v1 v2 c.both.new.world c.halves.ensures.extends c.halves-2.ensures.extends c.both.ensures.extends c.requires.nodes
    c.in_ok-first.first r2 r c.in_ok-first.ensures.nodes c.in_ok-others.ensures.nodes c.in_ok-first.ensures.joined second are)
    c.both.ensures.both
