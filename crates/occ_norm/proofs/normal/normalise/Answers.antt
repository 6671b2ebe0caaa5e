use Rattle.std.proofs.Common.{subst, sym}
use Rattle.occ_syntax.specs.View.{tree}
use Rattle.occ_compare.specs.occ_mdd.declared.map.MapId.{MapId}
use Rattle.occ_compare.specs.occ_node.declared.world.World.{World}
use Rattle.occ_norm.specs.Root.{IsRoot}
use Rattle.occ_norm.proofs.Flattened.{found_is, root_as}
use Rattle.occ_norm.proofs.normal.normalise.Goals.{in-Some+in_ok-states-in-Some, in-None+in_ok-states-in-None}
use Rattle.occ_norm.proofs.normal.normalise.Goals as goal

pub returns-clause-root : goal.returns-clause-root
returns-clause-root c =
    let program = c.program-program.result.now in
    let made : World → MapId → Type 0 = λ v m. IsRoot v program.params (tree program.body) m in
    subst (λ prog. IsRoot c.match-flat.world prog.params (tree prog.body) c.match-flat.states) c.program-program.ensures.same
    (elim c.match-flat.branch [
      | in-Some+in_ok-states-in-Some w ↦ subst (λ v. made v c.match-flat.states) (sym w.world-is)
          (subst (λ m. made w.states_in.new.world m) (sym w.states-is)
          (root_as w.states_in.new.world program.params w.in-Some.flat.params (tree program.body) (tree w.in-Some.flat.body) w.in_ok-states-in-Some.states
          (found_is _ _ _ w.in-Some.is c.in_ok-flat.ensures.params) (found_is _ _ _ w.in-Some.is c.in_ok-flat.ensures.body) c.program-program.ensures.accepted.typed.types
          (found_is _ _ _ w.in-Some.is c.in_ok-flat.ensures.rules).keeps.types w.in_ok-states-in-Some.ensures.root))
      | in-None+in_ok-states-in-None w ↦ subst (λ v. made v c.match-flat.states) (sym w.world-is)
          (subst (λ m. made w.states_in-in-None.new.world m) (sym w.states-is) w.in_ok-states-in-None.ensures.root)
    ])
