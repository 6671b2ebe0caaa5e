use Rattle.occ_syntax.specs.View.{tree}
use Rattle.occ_law_scope.proofs.Dropped.{ends_are}
use Rattle.occ_law_scope.proofs.Joined.{known_first, through}
use Rattle.occ_law_scope.proofs.pairs.ends_without.Goals as goal

pub returns-then-same_proc : goal.returns-then-same_proc
returns-then-same_proc c =
    ends_are c.args.name.0 (tree c.args.body.now) (tree c.args.other.now) (tree c.in-Some.first.now) (tree c.in-Some.last.now) (tree c.in-Some-turns.other_first.now) (tree c.in-Some-turns.other_last.now) _
    c.in-Some.ensures c.in-Some-turns.ensures (through c.is_last_without.ensures (known_first (c.same_proc.ensures.0 c.if-same_proc.true)))
