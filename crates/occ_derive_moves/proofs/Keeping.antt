-- Laws that are used well keep names, types, directions and usage, and the meaning.
use Rattle.std.proofs.Common.{◌≡◌, ℕ, Bool, true, false, not, List, [], ◌∷◌, Option, None, Some, refl, ap, subst}
use Rattle.std.proofs.lemmas.Bool.{and_parts}
use Rattle.std.specs.Option.{option_and_then, option_map, unwrap_or}
use Rattle.occ_target_laws.specs.occ_base.declared.names.Name.{Name}
use Rattle.occ_derive_moves.proofs.Children.{child_keeps}
use Rattle.occ_derive_moves.specs.Moves.{AreNarrow, IsGood, IsUse, Works, and_use, in_the_open, is_open, is_par, no_use, sparingly}
use Rattle.occ_replay_rules.specs.Moves.{Move, Moves, and_move, no_move}
use Rattle.occ_replay_rules.specs.occ_law.RuleTable.{LAW}
use Rattle.occ_replay_rules.proofs.from_meaning.Alike.{same_back, same_itself, same_through}
use Rattle.occ_replay_rules.proofs.from_meaning.Places.{part_usage, put_types}
use Rattle.occ_replay_rules.specs.occ_meaning.Context.{child, environment_at, part_at, put, with_child}
use Rattle.occ_replay_rules.specs.Steps.{Joins}
use Rattle.occ_replay_rules.proofs.from_script_lines.Scoping.{put_in_same, scopes}
use Rattle.occ_replay_rules.specs.occ_script_lines.declared.direction.Direction.{Direction}
use Rattle.occ_replay_rules.specs.occ_script_lines.declared.direction.Direction.TheVariants as direction
use Rattle.occ_replay_rules.specs.occ_script_lines.Places.{scope_list}
use Rattle.occ_target_laws.specs.occ_syntax.declared.scope.Kind.{Kind}
use Rattle.occ_target_laws.specs.occ_syntax.Same.{SAME}
use Rattle.occ_target_laws.specs.occ_syntax.Scopes.{environment}
use Rattle.occ_target_laws.specs.occ_syntax.Tree.{Tree}
use Rattle.occ_target_laws.specs.occ_syntax.Types.{scope_kept}
use Rattle.occ_target_laws.specs.occ_syntax.Usage.{Keeps, KeepsUsage}
use Rattle.occ_target_laws.proofs.from_usage.Putting.{put_keeps}

not_true : (b : Bool) → not b ≡ true → b ≡ false
not_true true e = cc
not_true false e = refl

-- a part that keeps usage may come to a place with no PAR round it
open_usage : (path : List ℕ) (p r : Tree) → is_open path p ≡ true → KeepsUsage p → KeepsUsage r → KeepsUsage (put path p r)
open_usage [] p r o h k = k
open_usage (i ∷ path) p r o h k = below (λ c f u. open_usage path c r f u k) (child p i) refl both.1
  where
    both : (not (is_par p) ≡ true) × (unwrap_or (option_map (is_open path) (child p i)) true ≡ true)
    both = and_parts (not (is_par p)) (unwrap_or (option_map (is_open path) (child p i)) true) o

    below : ((c : Tree) → is_open path c ≡ true → KeepsUsage c → KeepsUsage (put path c r)) → (q : Option Tree) → child p i ≡ q
        → unwrap_or (option_map (is_open path) q) true ≡ true → KeepsUsage (unwrap_or (option_map (λ c. with_child p i (put path c r)) q) p)
    below ih None is f = h
    below ih (Some c) is f =
        child_keeps p i (put path c r) (not_true (is_par p) both.0) h (ih c f (part_usage (i ∷ []) p c h (ap (option_and_then (part_at [])) is)))

-- the new side of a law keeps the rules
joined_keeps : (dir : Direction) (n : ℕ) (S : List (Name × Kind)) (old new : Tree) → Joins dir n S old new → Keeps (environment S) new
joined_keeps direction.Forward n S old new j = j.right
joined_keeps direction.Backward n S old new j = j.left

there_keeps : (S : List (Name × Kind)) (p : Tree) (move : Move) → scope_kept S ≡ true → Keeps (environment S) p → IsUse S p move
    → Keeps (environment_at move.path (environment S) p) move.part
there_keeps S p move h k u =
    subst (λ Γ. Keeps Γ move.part) (scopes move.path S p h k.types).gives (joined_keeps move.dir move.law (scope_list move.path S p) u.old move.part u.joins)

pub good_keeps : (S : List (Name × Kind)) (p : Tree) (move : Move) → scope_kept S ≡ true → Keeps (environment S) p → IsGood S p move
    → Keeps (environment S) (put move.path p move.part)
good_keeps S p move h k (in_the_open u o) =
    let new = there_keeps S p move h k u in
    record {
      types = put_types move.path (environment S) p u.old move.part k.types u.there new.types;
      usage = open_usage move.path p move.part o k.usage new.usage;
    }
good_keeps S p move h k (sparingly s) =
    put_keeps move.path (environment S) p s.use_is.old move.part k s.use_is.there (there_keeps S p move h k s.use_is) s.spares

good_use : (S : List (Name × Kind)) (p : Tree) (move : Move) → IsGood S p move → IsUse S p move
good_use S p move (in_the_open u o) = u
good_use S p move (sparingly s) = s.use_is

-- ---- rows

pub works_keep : (S : List (Name × Kind)) (p q : Tree) (moves : List Move) → scope_kept S ≡ true → Keeps (environment S) p → Works S p moves q
    → Keeps (environment S) q
works_keep S p q moves h k (no_use a) = k
works_keep S p q moves h k (and_use a b move rest g on) = works_keep S (put move.path a move.part) b rest h (good_keeps S a move h k g) on

pub works_move : (S : List (Name × Kind)) (p q : Tree) (moves : List Move) → scope_kept S ≡ true → Keeps (environment S) p → Works S p moves q → AreNarrow moves
    → Moves S p moves q
works_move S p q moves h k (no_use a) n = no_move a
works_move S p q moves h k (and_use a b move rest g on) n =
    let kept = good_keeps S a move h k g in
    let u = good_use S a move g in
    and_move a b move rest (record { old = u.old; there = u.there; admitted = record { keeps = kept; narrow = n.0 }; joins = u.joins })
    (works_move S (put move.path a move.part) b rest h kept on n.1)

abbrev pub AreSound : Type 0
AreSound = (n : ℕ) (S : List (Name × Kind)) (l r : Tree) → LAW n S l r → SAME (environment S) l r

joined_same : AreSound → (dir : Direction) (n : ℕ) (S : List (Name × Kind)) (old new : Tree) → Joins dir n S old new → SAME (environment S) old new
joined_same sound direction.Forward n S old new j = sound n S old new j
joined_same sound direction.Backward n S old new j = same_back (environment S) new old (sound n S new old j)

pub works_same : AreSound → (S : List (Name × Kind)) (p q : Tree) (moves : List Move) → scope_kept S ≡ true → Keeps (environment S) p → Works S p moves q
    → SAME (environment S) p q
works_same sound S p q moves h k (no_use a) = same_itself (environment S) a
works_same sound S p q moves h k (and_use a b move rest g on) =
    let u = good_use S a move g in
    same_through (environment S) a (put move.path a move.part) b
    (put_in_same move.path S a u.old move.part h k.types u.there (joined_same sound move.dir move.law (scope_list move.path S a) u.old move.part u.joins))
    (works_same sound S (put move.path a move.part) b rest h (good_keeps S a move h k g) on)
