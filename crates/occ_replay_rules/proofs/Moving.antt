-- What is followed and granted are moves, and moves lead to what means the same.
use Rattle.std.proofs.Common.{◌≡◌, ◌∙◌, ℕ, ◌==◌, Bool, true, false, MatchBool, ◌⊎◌, inl, List, [], ◌∷◌, Option, Some, None, refl, ap, sym, subst}
use Rattle.std.proofs.lemmas.Bool.{eqb-true}
use Rattle.occ_print.specs.occ_base.declared.names.Name.{Name}
use Rattle.occ_replay_rules.specs.Expansion.{Grants, IsExpanded, and_wish, no_wish}
use Rattle.occ_replay_rules.specs.Moves.{IsAdmitted, IsApplied, IsGranted, IsMove, Move, Moves, Wish, and_move, no_move}
use Rattle.occ_replay_rules.specs.Orders.{Follows, Order, and_order, no_order}
use Rattle.occ_law_sound.specs.occ_law.RuleTable.{DIRECT_SIDES, IsDirect, LAW, SIDES, has_direct}
use Rattle.occ_parse_part.proofs.from_meaning.Alike.{same_back, same_itself, same_through}
use Rattle.occ_parse_part.specs.occ_meaning.Context.{part_at, put}
use Rattle.occ_replay_rules.specs.Steps.{Joins}
use Rattle.occ_script_lines.proofs.Scoping.{put_in_same}
use Rattle.occ_script_lines.specs.declared.direction.Direction.{Direction}
use Rattle.occ_script_lines.specs.declared.direction.Direction.TheVariants as direction
use Rattle.occ_script_lines.specs.Places.{scope_list}
use Rattle.occ_print.specs.occ_syntax.declared.scope.Kind.{Kind}
use Rattle.occ_print.specs.occ_syntax.Same.{SAME}
use Rattle.occ_print.specs.occ_syntax.Scopes.{environment}
use Rattle.occ_print.specs.occ_syntax.Tree.{Tree}
use Rattle.occ_print.specs.occ_syntax.Types.{scope_kept, types_kept}
use Rattle.occ_print.specs.occ_syntax.Usage.{Keeps}

by_case : (b : Bool) {P Q R : Type 0} → (b ≡ true → P → R) → (b ≡ false → Q → R) → MatchBool b P Q → R
by_case true f g h = f refl h
by_case false f g h = g refl h

-- the sides from which a direct result is taken are sides of the law
among_sides : (n : ℕ) (S : List (Name × Kind)) (ks : List ℕ) (l r : Tree) → DIRECT_SIDES n S ks l r → SIDES n S ks l r
among_sides n S ks l r =
    by_case (has_direct n) (λ e. by_case (n == 52) (λ f x. subst (λ m. SIDES m S ks l r) (sym (eqb-true n 52 f)) (inl x)) (λ f x. x)) (λ e z. absurd z)

-- the law joins a part and its direct result
pub direct_joins : (n : ℕ) (S : List (Name × Kind)) (l r : Tree) → IsDirect n S l r → LAW n S l r
direct_joins n S l r d = record { place = d.place; sides = among_sides n S d.place l r d.change.sides; left = d.change.left; right = d.change.right }

-- the law joins a part and what it makes of it
pub applied_joins : (dir : Direction) (n : ℕ) (S : List (Name × Kind)) (wanted : Option Tree) (old new : Tree) → IsApplied dir n S wanted old new → Joins dir n S old new
applied_joins direction.Forward n S (Some part) old new a = subst (λ z. LAW n S old z) (sym a.0) a.1
applied_joins direction.Backward n S (Some part) old new a = subst (λ z. LAW n S z old) (sym a.0) a.1
applied_joins direction.Forward n S None old new a = direct_joins n S old new a
applied_joins direction.Backward n S None old new a = absurd a

pub granted_moves : (S : List (Name × Kind)) (p : Tree) (wish : Wish) (move : Move) → IsGranted S p wish move → IsMove S p move
granted_moves S p wish move g = record {
  old = g.old;
  there = ap (λ z. part_at z p) g.path ∙ g.there;
  admitted = subst (λ z. IsAdmitted S p z move.part) (sym g.path) g.admitted;
  joins = subst (λ z. Joins z move.law (scope_list move.path S p) g.old move.part) (sym g.dir)
      (subst (λ z. Joins wish.dir z (scope_list move.path S p) g.old move.part) (sym g.law)
      (subst (λ z. Joins wish.dir wish.law (scope_list z S p) g.old move.part) (sym g.path)
      (applied_joins wish.dir wish.law (scope_list wish.path S p) wish.wanted g.old move.part g.applied)));
}

pub follows_moves : (S : List (Name × Kind)) (p q : Tree) (orders : List Order) (moves : List Move) → Follows S p orders moves q → Moves S p moves q
follows_moves S p q orders moves (no_order a) = no_move a
follows_moves S p q orders moves (and_order a b order others move rest followed further) =
    and_move a b move rest (granted_moves S a (record { law = move.law; dir = order.dir; path = order.path; wanted = followed.wanted }) move followed.granted)
    (follows_moves S (put move.path a move.part) b others rest further)

pub grants_moves : (S : List (Name × Kind)) (p q : Tree) (wishes : List Wish) (moves : List Move) → Grants S p wishes moves q → Moves S p moves q
grants_moves S p q wishes moves (no_wish a) = no_move a
grants_moves S p q wishes moves (and_wish a b wish others move rest granted further) =
    and_move a b move rest (granted_moves S a wish move granted) (grants_moves S (put move.path a move.part) b others rest further)

-- ---- moves keep the meaning

abbrev pub AreSound : Type 0
AreSound = (n : ℕ) (S : List (Name × Kind)) (l r : Tree) → LAW n S l r → SAME (environment S) l r

joined_same : AreSound → (dir : Direction) (n : ℕ) (S : List (Name × Kind)) (old new : Tree) → Joins dir n S old new → SAME (environment S) old new
joined_same sound direction.Forward n S old new j = sound n S old new j
joined_same sound direction.Backward n S old new j = same_back (environment S) new old (sound n S new old j)

move_same : AreSound → (S : List (Name × Kind)) (p : Tree) (move : Move) → scope_kept S ≡ true → types_kept p (environment S) ≡ true → IsMove S p move
    → SAME (environment S) p (put move.path p move.part)
move_same sound S p move h t m =
    put_in_same move.path S p m.old move.part h t m.there (joined_same sound move.dir move.law (scope_list move.path S p) m.old move.part m.joins)

pub moved_same : AreSound → (S : List (Name × Kind)) (p q : Tree) (moves : List Move) → scope_kept S ≡ true → types_kept p (environment S) ≡ true → Moves S p moves q
    → SAME (environment S) p q
moved_same sound S p q moves h t (no_move a) = same_itself (environment S) a
moved_same sound S p q moves h t (and_move a b move rest m further) =
    same_through (environment S) a (put move.path a move.part) b (move_same sound S a move h t m)
    (moved_same sound S (put move.path a move.part) b rest h m.admitted.keeps.types further)
