-- Steps have laws of the table.
use Rattle.std.proofs.Common.{List, [], ◌∷◌}
use Rattle.std.specs.List.{AllByRecursion}
use Rattle.occ_syntax.specs.occ_base.declared.names.Name.{Name}
use Rattle.occ_derive_moves.proofs.from_replay_rules.Numbers.{joined_number}
use Rattle.occ_derive_moves.proofs.Steps.{begun}
use Rattle.occ_derive_moves.specs.Steps.{Steps}
use Rattle.occ_engine.specs.Moved.{moves_of}
use Rattle.occ_engine.specs.Outcomes.{IsTabled}
use Rattle.occ_derive_moves.specs.occ_meaning.Context.{put}
use Rattle.occ_engine.specs.occ_script_write.declared.writing.Done.{Done}
use Rattle.occ_syntax.specs.declared.scope.Kind.{Kind}
use Rattle.occ_syntax.specs.Tree.{Tree}
use Rattle.occ_syntax.specs.View.{tree}

-- each step has a law of the table
pub tabled : (S : List (Name × Kind)) (p q : Tree) (steps : List Done) → Steps S p (moves_of steps) q → AllByRecursion IsTabled steps
tabled S p q [] s = tt
tabled S p q (done ∷ steps) s =
    let f = begun S p q _ (moves_of steps) s in
    let n = joined_number done.dir done.law.0 _ f.0.old (tree done.part) f.0.joins in
    (record { low = n.0; high = n.1 }, tabled S (put done.path p (tree done.part)) q steps f.1)
