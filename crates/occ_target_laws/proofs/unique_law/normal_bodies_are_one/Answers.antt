use Rattle.occ_target_laws.proofs.Bodies.{normal_bodies_are_one}
use Rattle.occ_target_laws.proofs.unique_law.normal_bodies_are_one.Goals as goal

pub returns : goal.returns
returns c = normal_bodies_are_one
