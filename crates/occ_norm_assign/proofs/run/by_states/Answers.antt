use Rattle.std.proofs.Common.{◌≤◌, sym, subst, arith}
use Rattle.occ_norm_frame.proofs.After.{over-extends}
use Rattle.occ_norm_frame.proofs.Worlds.{extends_trans, has_nodes-extends}
use Rattle.occ_syntax.specs.Tree.{seq}
use Rattle.occ_syntax.specs.View.{trees}
use Rattle.occ_norm_assign.specs.Lists.{AreStates, IsLaid, IsListed}
use Rattle.occ_norm_assign.proofs.Laying.{listed_after}
use Rattle.occ_norm_assign.proofs.Runs.{some_found}
use Rattle.occ_norm_assign.proofs.run.by_states.Goals as goal

pub listed_all-requires-clause-before : goal.listed_all-requires-clause-before
listed_all-requires-clause-before c = subst (AreStates c.args.frame.now.bits) (sym c.deref.ensures.value) c.in_ok-before.ensures.are

pub laid-requires-clause-to : goal.laid-requires-clause-to
laid-requires-clause-to c = subst (AreStates c.args.frame.now.bits) (sym c.deref-2.ensures.value) (some_found _ c.in_ok-to.field-0 c.in-Some.to c.in-Some.is c.in_ok-to.ensures.made).are

pub laid-requires-clause-rest : goal.laid-requires-clause-rest
laid-requires-clause-rest c = has_nodes-extends c.args.world.now c.listed_all.new.world c.listed_all.ensures.extends c.args.rest c.requires.rest.has

pub returns-clause-after : goal.returns-clause-after
returns-clause-after c =
    let frame = c.args.frame.now in
    let few : frame.bits ≤ 16 = omega arith in
    let v = c.args.world.now in
    let u = c.listed_all.new.world in
    let w = c.laid.new.world in
    let before = c.in_ok-before.before.items in
    let to = c.in-Some.to.items in
    let made = subst (λ bs. IsListed frame.vars frame.layout frame.bits (seq (trees c.args.parts.now)) bs to) c.deref.ensures.value (some_found _ c.in_ok-to.field-0 c.in-Some.to c.in-Some.is c.in_ok-to.ensures.made) in
    let laid = subst (λ ts. IsLaid w frame.keep frame.bits ts c.args.rest c.in_ok-map.map) c.deref-2.ensures.value c.in_ok-map.ensures.laid in
    record {
      nodes = laid.has;
      after = listed_after w frame.vars frame.layout frame.bits frame.keep frame.closed.items frame.kept few frame.inside (seq (trees c.args.parts.now)) before to c.args.rest c.in_ok-map.map
          c.in_ok-before.ensures.same made (over-extends v w (extends_trans v u w c.listed_all.ensures.extends c.laid.ensures.extends) frame.bits c.args.rest c.requires.rest) laid;
    }
