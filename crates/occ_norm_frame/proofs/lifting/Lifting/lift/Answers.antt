use Rattle.std.proofs.Common.{refl}
use Rattle.std.proofs.lemmas.Result.{IfOk-weaker}
use Rattle.occ_norm_frame.proofs.Worlds.{labels, lifted_back, nodes_rows, put_back}
use Rattle.occ_norm_frame.proofs.lifting.Lifting.lift.Goals as goal

pub apply2-requires-clause-a_labels : goal.apply2-requires-clause-a_labels
apply2-requires-clause-a_labels c =
    let v = record c.args.self.now.weaver.world { maps = c.args.maps.now } in
    labels v c.args.maps.now (record c.args.self.now { step = c.args.step }) c.args.a (λ x. refl) (nodes_rows v c.args.self.now.weaver.world refl) c.requires.right c.requires.a

pub apply2-requires-clause-b_labels : goal.apply2-requires-clause-b_labels
apply2-requires-clause-b_labels c =
    let v = record c.args.self.now.weaver.world { maps = c.args.maps.now } in
    labels v c.args.maps.now (record c.args.self.now { step = c.args.step }) c.args.b (λ x. refl) (nodes_rows v c.args.self.now.weaver.world refl) c.requires.right c.requires.b

pub returns-clause-extends : goal.returns-clause-extends
returns-clause-extends c =
    let v = c.args.self.now.weaver.world in
    let w = c.apply2.new.f.weaver.world in
    put_back (record v { maps = c.args.maps.now }) v w (record w { maps = c.apply2.new.self }) refl refl c.apply2.ensures.leads.leads refl refl c.apply2.ensures.keeps

pub returns-clause-lifted : goal.returns-clause-lifted
returns-clause-lifted c =
    let v = c.args.self.now.weaver.world in
    let w = c.apply2.new.f.weaver.world in
    IfOk-weaker c.apply2.result _ _
    (λ r is. lifted_back (record c.args.self.now { step = c.args.step }) c.apply2.new.f c.apply2.ensures.leads (record v { maps = c.args.maps.now }) (record w { maps = c.apply2.new.self }) refl refl
    c.apply2.ensures.keeps c.args.a c.args.b r c.requires.a.known c.requires.b.known is)
    c.apply2.ensures.map
