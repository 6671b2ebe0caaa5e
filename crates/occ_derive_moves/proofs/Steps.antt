-- Steps, moves and rows, and what holds along steps.
use Rattle.std.proofs.Common.{◌≡◌, ◌∙◌, ℕ, true, List, [], ◌∷◌, ◌++◌, refl, sym}
use Rattle.occ_target_laws.specs.occ_base.declared.names.Name.{Name}
use Rattle.occ_derive_moves.proofs.Keeping.{AreSound, good_keeps}
use Rattle.occ_derive_moves.specs.Moves.{AreNarrow, IsGood, IsUse, Works, and_use, in_the_open, no_use, sparingly}
use Rattle.occ_derive_moves.specs.Steps.{IsStep, Steps, and_step, no_step}
use Rattle.occ_replay_rules.specs.Moves.{Move, Moves, and_move, no_move}
use Rattle.occ_replay_rules.proofs.from_meaning.Alike.{same_back, same_itself, same_through}
use Rattle.occ_replay_rules.specs.occ_meaning.Context.{put}
use Rattle.occ_replay_rules.specs.Steps.{Joins}
use Rattle.occ_replay_rules.proofs.from_script_lines.Scoping.{put_in_same}
use Rattle.occ_replay_rules.specs.occ_script_lines.declared.direction.Direction.{Direction}
use Rattle.occ_replay_rules.specs.occ_script_lines.declared.direction.Direction.TheVariants as direction
use Rattle.occ_replay_rules.specs.occ_script_lines.Places.{scope_list}
use Rattle.occ_target_laws.specs.occ_syntax.declared.scope.Kind.{Kind}
use Rattle.occ_target_laws.specs.occ_syntax.Same.{SAME}
use Rattle.occ_target_laws.specs.occ_syntax.Scopes.{environment}
use Rattle.occ_target_laws.specs.occ_syntax.Tree.{Tree}
use Rattle.occ_target_laws.specs.occ_syntax.Types.{scope_kept}
use Rattle.occ_target_laws.specs.occ_syntax.Usage.{Keeps}

-- ---- steps and moves

-- moves are steps
pub moves_steps : (S : List (Name × Kind)) (p q : Tree) (moves : List Move) → Moves S p moves q → Steps S p moves q
moves_steps S p q moves (no_move a) = no_step a
moves_steps S p q moves (and_move a b move rest m on) =
    and_step a b move rest (record { old = m.old; there = m.there; keeps = m.admitted.keeps; joins = m.joins })
    (moves_steps S (put move.path a move.part) b rest on)

-- steps whose parts have no line that is too long are moves
pub steps_moves : (S : List (Name × Kind)) (p q : Tree) (moves : List Move) → Steps S p moves q → AreNarrow moves → Moves S p moves q
steps_moves S p q moves (no_step a) n = no_move a
steps_moves S p q moves (and_step a b move rest s on) n =
    and_move a b move rest (record { old = s.old; there = s.there; admitted = record { keeps = s.keeps; narrow = n.0 }; joins = s.joins })
    (steps_moves S (put move.path a move.part) b rest on n.1)

-- ---- steps and rows

used_step : (S : List (Name × Kind)) (p : Tree) (move : Move) → Keeps (environment S) (put move.path p move.part) → IsUse S p move → IsStep S p move
used_step S p move k u = record { old = u.old; there = u.there; keeps = k; joins = u.joins }

-- a law that is used well is a step, where the whole with the new part keeps all rules
good_step : (S : List (Name × Kind)) (p : Tree) (move : Move) → Keeps (environment S) (put move.path p move.part) → IsGood S p move → IsStep S p move
good_step S p move k (in_the_open u o) = used_step S p move k u
good_step S p move k (sparingly s) = used_step S p move k s.use_is

-- a row of moves that are used well is one of steps
pub works_steps : (S : List (Name × Kind)) (p q : Tree) (moves : List Move) → scope_kept S ≡ true → Keeps (environment S) p → Works S p moves q
    → Steps S p moves q
works_steps S p q moves h k (no_use a) = no_step a
works_steps S p q moves h k (and_use a b move rest g on) =
    let kept = good_keeps S a move h k g in
    and_step a b move rest (good_step S a move kept g) (works_steps S (put move.path a move.part) b rest h kept on)

-- ---- along steps

-- steps can be put behind each other
pub go_on : (S : List (Name × Kind)) (p q r : Tree) (moves more : List Move) → Steps S p moves q → Steps S q more r → Steps S p (moves ++ more) r
go_on S p q r moves more (no_step a) further = further
go_on S p q r moves more (and_step a b move rest s on) further =
    and_step a r move (rest ++ more) s (go_on S (put move.path a move.part) b r rest more on further)

-- no step leads from a process to itself
ended : (S : List (Name × Kind)) (p q : Tree) → Steps S p [] q → p ≡ q
ended S p q (no_step a) = refl

-- the first of some steps may be taken, and the others go on from where it leads
pub begun : (S : List (Name × Kind)) (p q : Tree) (move : Move) (moves : List Move) → Steps S p (move ∷ moves) q
    → IsStep S p move × Steps S (put move.path p move.part) moves q
begun S p q move moves (and_step a b m rest s on) = (s, on)

-- the same steps from a process lead to one process
pub one_end : (S : List (Name × Kind)) (p q r : Tree) (moves : List Move) → Steps S p moves q → Steps S p moves r → q ≡ r
one_end S p q r [] d e = sym (ended S p q d) ∙ ended S p r e
one_end S p q r (move ∷ moves) d e =
    one_end S (put move.path p move.part) q r moves (begun S p q move moves d).1 (begun S p r move moves e).1

-- steps lead from a process that keeps all rules to one that does
pub steps_keep : (S : List (Name × Kind)) (p q : Tree) (moves : List Move) → Keeps (environment S) p → Steps S p moves q → Keeps (environment S) q
steps_keep S p q moves k (no_step a) = k
steps_keep S p q moves k (and_step a b move rest s on) = steps_keep S (put move.path a move.part) b rest s.keeps on

-- ---- the meaning

joined_same : AreSound → (dir : Direction) (n : ℕ) (S : List (Name × Kind)) (old new : Tree) → Joins dir n S old new → SAME (environment S) old new
joined_same sound direction.Forward n S old new j = sound n S old new j
joined_same sound direction.Backward n S old new j = same_back (environment S) new old (sound n S new old j)

step_same : AreSound → (S : List (Name × Kind)) (p : Tree) (move : Move) → scope_kept S ≡ true → Keeps (environment S) p → IsStep S p move
    → SAME (environment S) p (put move.path p move.part)
step_same sound S p move h k s =
    put_in_same move.path S p s.old move.part h k.types s.there
    (joined_same sound move.dir move.law (scope_list move.path S p) s.old move.part s.joins)

-- steps lead to a process that means the same
pub steps_same : AreSound → (S : List (Name × Kind)) (p q : Tree) (moves : List Move) → scope_kept S ≡ true → Keeps (environment S) p → Steps S p moves q
    → SAME (environment S) p q
steps_same sound S p q moves h k (no_step a) = same_itself (environment S) a
steps_same sound S p q moves h k (and_step a b move rest s on) =
    same_through (environment S) a (put move.path a move.part) b (step_same sound S a move h k s)
    (steps_same sound S (put move.path a move.part) b rest h s.keeps on)
