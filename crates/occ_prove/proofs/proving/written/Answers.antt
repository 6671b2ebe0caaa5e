use Rattle.std.proofs.Common.{subst}
use Rattle.std.specs.List.{AllByRecursion}
use Rattle.occ_prove.proofs.Scripts.{script_to, steps_said}
use Rattle.occ_prove.specs.Paths.{HasShortPath}
use Rattle.occ_prove.proofs.proving.written.Goals as goal

pub returns-clause-written : goal.returns-clause-written
returns-clause-written c =
    script_to c.script.result c.args.names.now c.args.left.now.program c.args.right.now.program _ c.in_ok-to.to c.args.steps c.program.ensures.same c.in_ok-to.ensures.name
    c.in_ok-to.ensures.params c.in_ok-to.ensures.body c.script.ensures.written

pub returns-clause-said : goal.returns-clause-said
returns-clause-said c = steps_said c.args.steps c.requires.proof.tabled (subst (AllByRecursion HasShortPath) c.items.ensures c.read_paths.ensures)
