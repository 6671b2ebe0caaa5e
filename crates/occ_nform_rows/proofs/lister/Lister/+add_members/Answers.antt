use Rattle.std.proofs.Common.{◌≡◌, ◌+◌, ◌-◌, ◌++◌, ℕ, suc, List, ◌∙◌, refl, arith}
use Rattle.std.proofs.lemmas.Bool.{OnTrue_at}
use Rattle.std.proofs.lemmas.Result.{on_ok_weaker}
use Rattle.occ_compare.specs.occ_dd.Store.{has}
use Rattle.occ_nform_rows.specs.Ends.{places_of}
use Rattle.occ_nform_rows.proofs.Halving.{none_added, one_looked_up, places_joined}
use Rattle.occ_nform_rows.proofs.lister.Lister.+add_members.Goals as goal

pub returns-then-is_empty : goal.returns-then-is_empty
returns-then-is_empty t c = none_added c.args.self.now.params.now (has c.args.store.now c.args.set) c.args.cube.free c.args.cube.first c.args.found.now.items c.args.found.now.items (OnTrue_at c.if-is_empty.true c.is_empty.ensures) refl

pub returns-then-level-eq0 : goal.returns-then-level-eq0
returns-then-level-eq0 t c = on_ok_weaker c.add_member.result
    (one_looked_up c.args.self.now.params.now c.has.result (has c.args.store.now c.args.set) c.args.cube.free c.args.cube.first c.args.found.now.items c.add_member.new.found.items (omega arith) c.has.ensures) c.add_member.ensures

pub add_members-requires : goal.add_members-requires
add_members-requires t c = let h = c.halves-parts.ensures in (omega (arith, c.low.ensures.free), (h.low_known, omega (arith, h.low_depth, c.low.ensures.free)))

pub add_members-requires-2 : goal.add_members-requires-2
add_members-requires-2 t c = let h = c.halves-parts.ensures in (omega (arith, c.high.ensures.free), (h.high_known, omega (arith, h.high_depth, c.high.ensures.free)))

pub returns : goal.returns
returns t c =
    let h = c.halves-parts.ensures in
    let s = c.args.store.now in
    let ps = c.args.self.now.params.now in
    let bit = c.args.cube.free - 1 in
    let e : c.args.cube.free ≡ suc (c.args.cube.free - 1) = omega arith in
    let low = has s c.halves-parts.result.0 in
    let high = has s c.halves-parts.result.1 in
    on_ok_weaker c.add_members-2.result (λ more. places_joined ps (has s c.args.set) low high c.args.cube.free bit c.args.cube.first c.args.found.now.items c.add_members.new.found.items c.add_members-2.new.found.items e
    h.low_members h.high_members
    (◌∙◌ {A = List ℕ} c.in_ok-add_members.ensures (λ i. c.args.found.now.items ++ places_of ps low (c.low.ensures.free i) (c.low.ensures.first i)))
    (◌∙◌ {A = List ℕ} more (λ i. c.add_members.new.found.items ++ places_of ps high (c.high.ensures.free i) (c.high.ensures.first i)))) c.add_members-2.ensures
