-- Rows go on, and the row of a part is one of the process in which the part stands.
use Rattle.std.proofs.Common.{◌≡◌, ◌∙◌, ℕ, Bool, true, false, not, List, [], ◌∷◌, ◌++◌, Option, None, Some, refl, sym, ap, subst}
use Rattle.std.proofs.lemmas.Bool.{and_from, and_parts}
use Rattle.std.specs.Option.{option_and_then, option_map, unwrap_or}
use Rattle.occ_target_laws.specs.occ_base.declared.names.Name.{Name}
use Rattle.occ_derive_moves.proofs.Children.{child_again, child_in, child_itself, declared_in, par_in}
use Rattle.occ_derive_moves.specs.Moves.{IsGood, IsSparing, IsUse, Row, Spares, Works, all_under, and_use, in_the_open, is_open, is_par, no_use, sparingly, under}
use Rattle.occ_replay_rules.specs.Moves.{Move}
use Rattle.occ_replay_rules.proofs.from_meaning.Facts.{none_not_some}
use Rattle.occ_replay_rules.specs.occ_meaning.Context.{child, part_at, put, with_child}
use Rattle.occ_replay_rules.specs.Steps.{Joins}
use Rattle.occ_replay_rules.specs.occ_script_lines.Places.{declared_by, scope_list}
use Rattle.occ_target_laws.specs.occ_syntax.declared.scope.Kind.{Kind}
use Rattle.occ_target_laws.specs.occ_syntax.Tree.{Tree}

-- ---- any row

-- a row of moves used in one way is a row of moves used in another, where each is
pub weaker : {U V : Tree → Move → Type 0} → ((p : Tree) (move : Move) → U p move → V p move) → (p q : Tree) (moves : List Move) → Row U p moves q → Row V p moves q
weaker f p q moves (no_use a) = no_use a
weaker f p q moves (and_use a b move rest u on) = and_use a b move rest (f a move u) (weaker f (put move.path a move.part) b rest on)

pub go_on : {U : Tree → Move → Type 0} (p q r : Tree) (moves more : List Move) → Row U p moves q → Row U q more r → Row U p (moves ++ more) r
go_on p q r moves more (no_use a) further = further
go_on p q r moves more (and_use a b move rest u on) further = and_use a r move (rest ++ more) u (go_on (put move.path a move.part) b r rest more on further)

pub spares_work : (S : List (Name × Kind)) (p q : Tree) (moves : List Move) → Spares S p moves q → Works S p moves q
spares_work S = weaker (λ p move s. sparingly s)

-- ---- one step down

-- the process at a path that begins with a number, the whole with it replaced, and the scope there
part_down : (p c : Tree) (i : ℕ) (path : List ℕ) → child p i ≡ Some c → part_at (i ∷ path) p ≡ part_at path c
part_down p c i path e = ap (option_and_then (part_at path)) e

put_down : (p c r : Tree) (i : ℕ) (path : List ℕ) → child p i ≡ Some c → put (i ∷ path) p r ≡ with_child p i (put path c r)
put_down p c r i path e = ap (λ o. unwrap_or (option_map (λ q. with_child p i (put path q r)) o) p) e

scope_down : (S : List (Name × Kind)) (p c : Tree) (i : ℕ) (path : List ℕ) → child p i ≡ Some c → scope_list (i ∷ path) S p ≡ scope_list path (S ++ declared_by p) c
scope_down S p c i path e = ap (λ o. unwrap_or (option_map (scope_list path (S ++ declared_by p)) o) S) e

open_down : (p c : Tree) (i : ℕ) (path : List ℕ) → child p i ≡ Some c → is_par p ≡ false → is_open path c ≡ true → is_open (i ∷ path) p ≡ true
open_down p c i path e n o =
    and_from (not (is_par p)) (unwrap_or (option_map (is_open path) (child p i)) true) (ap not n)
    (ap (λ q. unwrap_or (option_map (is_open path) q) true) e ∙ o)

abbrev use_down : (S : List (Name × Kind)) (p c : Tree) (i : ℕ) (move : Move) → child p i ≡ Some c → IsUse (S ++ declared_by p) c move → IsUse S p (under (i ∷ []) move)
use_down S p c i move e u = record {
  old = u.old;
  there = part_down p c i move.path e ∙ u.there;
  joins = subst (λ T. Joins move.dir move.law T u.old move.part) (sym (scope_down S p c i move.path e)) u.joins;
}

pub sparing_down : (S : List (Name × Kind)) (p c : Tree) (i : ℕ) (move : Move) → child p i ≡ Some c → IsSparing (S ++ declared_by p) c move → IsSparing S p (under (i ∷ []) move)
sparing_down S p c i move e s = record { use_is = use_down S p c i move e s.use_is; spares = s.spares }

pub good_down : (S : List (Name × Kind)) (p c : Tree) (i : ℕ) (move : Move) → is_par p ≡ false → child p i ≡ Some c → IsGood (S ++ declared_by p) c move → IsGood S p (under (i ∷ []) move)
good_down S p c i move n e (in_the_open u o) = in_the_open (use_down S p c i move e u) (open_down p c i move.path e n o)
good_down S p c i move n e (sparingly s) = sparingly (sparing_down S p c i move e s)

-- a row of the part that stands at a number, where the moves of that part are moves of the whole, whatever stands at that number
row_down : {U V : Tree → Move → Type 0} (p c d : Tree) (i : ℕ) (moves : List Move)
    → ((a : Tree) (move : Move) → U a move → V (with_child p i a) (under (i ∷ []) move))
    → ((a : Tree) → child (with_child p i a) i ≡ Some a)
    → Row U c moves d → Row V (with_child p i c) (all_under (i ∷ []) moves) (with_child p i d)
row_down p c d i moves f g (no_use a) = no_use (with_child p i a)
row_down {U} {V} p c d i moves f g (and_use a b move rest u on) =
    let w = with_child p i a in
    let next : put (i ∷ move.path) w move.part ≡ with_child p i (put move.path a move.part) =
    put_down w a move.part i move.path (g a) ∙ child_again p i a (put move.path a move.part) in
    and_use w (with_child p i b) (under (i ∷ []) move) (all_under (i ∷ []) rest) (f a move u)
    (subst (λ z. Row V z (all_under (i ∷ []) rest) (with_child p i b)) (sym next) (row_down p (put move.path a move.part) b i rest f g on))

-- the row of a part is one of the process that isn't a PAR and has the part at that number
pub works_down : (S : List (Name × Kind)) (p c d : Tree) (i : ℕ) (moves : List Move) → is_par p ≡ false → child p i ≡ Some c → Works (S ++ declared_by p) c moves d
    → Works S p (all_under (i ∷ []) moves) (with_child p i d)
works_down S p c d i moves n e row =
    subst (λ z. Works S z (all_under (i ∷ []) moves) (with_child p i d)) (child_itself p i c e)
    (row_down p c d i moves
    (λ a move g. good_down S (with_child p i a) a i move (par_in p i a ∙ n) (child_in p i c a e)
    (subst (λ D. IsGood (S ++ D) a move) (sym (declared_in p i a)) g))
    (λ a. child_in p i c a e) row)

-- a sparing row of a part is one of every process that has the part at that number
pub spares_down : (S : List (Name × Kind)) (p c d : Tree) (i : ℕ) (moves : List Move) → child p i ≡ Some c → Spares (S ++ declared_by p) c moves d
    → Spares S p (all_under (i ∷ []) moves) (with_child p i d)
spares_down S p c d i moves e row =
    subst (λ z. Spares S z (all_under (i ∷ []) moves) (with_child p i d)) (child_itself p i c e)
    (row_down p c d i moves
    (λ a move s. sparing_down S (with_child p i a) a i move (child_in p i c a e)
    (subst (λ D. IsSparing (S ++ D) a move) (sym (declared_in p i a)) s))
    (λ a. child_in p i c a e) row)

-- ---- along a path

under_none : (moves : List Move) → all_under [] moves ≡ moves
under_none [] = refl
under_none (move ∷ moves) = ap (λ rest. move ∷ rest) (under_none moves)

under_both : (i : ℕ) (path : List ℕ) (moves : List Move) → all_under (i ∷ path) moves ≡ all_under (i ∷ []) (all_under path moves)
under_both i path [] = refl
under_both i path (move ∷ moves) = ap (λ rest. under (i ∷ path) move ∷ rest) (under_both i path moves)

not_true : (b : Bool) → not b ≡ true → b ≡ false
not_true true e = cc
not_true false e = refl

-- the row of a part with no PAR round it is one of the whole
pub works_under : (path : List ℕ) (S : List (Name × Kind)) (p c d : Tree) (moves : List Move) → is_open path p ≡ true → part_at path p ≡ Some c
    → Works (scope_list path S p) c moves d → Works S p (all_under path moves) (put path p d)
works_under [] S p c d moves o e row =
    subst (λ ms. Works S p ms d) (sym (under_none moves)) (subst (λ z. Works S z moves d) (sym (Rattle.occ_replay_rules.proofs.from_meaning.Facts.some_is e)) row)
works_under (i ∷ path) S p c d moves o e row = below (λ T q g f r. works_under path T q c d moves g f r) (child p i) refl both.1 e row
  where
    both : (not (is_par p) ≡ true) × (unwrap_or (option_map (is_open path) (child p i)) true ≡ true)
    both = and_parts (not (is_par p)) (unwrap_or (option_map (is_open path) (child p i)) true) o

    below : ((T : List (Name × Kind)) (q : Tree) → is_open path q ≡ true → part_at path q ≡ Some c → Works (scope_list path T q) c moves d → Works T q (all_under path moves) (put path q d))
        → (q : Option Tree) → child p i ≡ q → unwrap_or (option_map (is_open path) q) true ≡ true → option_and_then (part_at path) q ≡ Some c
        → Works (unwrap_or (option_map (scope_list path (S ++ declared_by p)) q) S) c moves d
        → Works S p (all_under (i ∷ path) moves) (unwrap_or (option_map (λ z. with_child p i (put path z d)) q) p)
    below ih None is f k r = none_not_some k
    below ih (Some q) is f k r =
        subst (λ ms. Works S p ms (with_child p i (put path q d))) (sym (under_both i path moves))
        (works_down S p q (put path q d) i (all_under path moves) (not_true (is_par p) both.0) is (ih (S ++ declared_by p) q f k r))

-- a sparing row of a part is one of the whole
pub spares_under : (path : List ℕ) (S : List (Name × Kind)) (p c d : Tree) (moves : List Move) → part_at path p ≡ Some c
    → Spares (scope_list path S p) c moves d → Spares S p (all_under path moves) (put path p d)
spares_under [] S p c d moves e row =
    subst (λ ms. Spares S p ms d) (sym (under_none moves)) (subst (λ z. Spares S z moves d) (sym (Rattle.occ_replay_rules.proofs.from_meaning.Facts.some_is e)) row)
spares_under (i ∷ path) S p c d moves e row = below (λ T q f r. spares_under path T q c d moves f r) (child p i) refl e row
  where
    below : ((T : List (Name × Kind)) (q : Tree) → part_at path q ≡ Some c → Spares (scope_list path T q) c moves d → Spares T q (all_under path moves) (put path q d))
        → (q : Option Tree) → child p i ≡ q → option_and_then (part_at path) q ≡ Some c
        → Spares (unwrap_or (option_map (scope_list path (S ++ declared_by p)) q) S) c moves d
        → Spares S p (all_under (i ∷ path) moves) (unwrap_or (option_map (λ z. with_child p i (put path z d)) q) p)
    below ih None is k r = none_not_some k
    below ih (Some q) is k r =
        subst (λ ms. Spares S p ms (with_child p i (put path q d))) (sym (under_both i path moves))
        (spares_down S p q (put path q d) i (all_under path moves) is (ih (S ++ declared_by p) q k r))
