-- Wishes at a path and below it that are always granted, and what that says of wishes that were granted so far.
use Rattle.std.proofs.Common.{◌≡◌, ◌∙◌, ℕ, true, List, [], ◌∷◌, ◌++◌, Option, Some, None, refl, sym, ap, subst}
use Rattle.std.proofs.lemmas.Option.{same_Some}
use Rattle.std.specs.Option.{option_and_then, option_map, unwrap_or}
use Rattle.occ_syntax.specs.occ_base.declared.names.Name.{Name}
use Rattle.occ_replay_rules.specs.Expansion.{Grants, and_wish, no_wish}
use Rattle.occ_replay_rules.specs.Moves.{IsApplied, IsGranted, Move, Wish}
use Rattle.occ_script_write.proofs.from_meaning.Facts.{none_not_some, some_is}
use Rattle.occ_script_write.proofs.from_meaning.Places.{part_keeps, put_scope, put_there}
use Rattle.occ_script_write.specs.occ_meaning.Context.{child, part_at, put, with_child}
use Rattle.occ_script_write.proofs.from_script_lines.Scoping.{scopes}
use Rattle.occ_script_write.specs.occ_script_lines.Places.{declared_by, scope_list}
use Rattle.occ_syntax.specs.declared.scope.Kind.{Kind}
use Rattle.occ_syntax.specs.Scopes.{environment}
use Rattle.occ_syntax.specs.Tree.{Tree, skip, stop, assign, receive, send, seq, par, select, alt, declare, connect}
use Rattle.occ_syntax.specs.Types.{scope_kept}
use Rattle.occ_syntax.specs.Usage.{Keeps}

-- ---- paths that go on below a path

pub part_below : (path sub : List ℕ) (p t : Tree) → part_at path p ≡ Some t → part_at (path ++ sub) p ≡ part_at sub t
part_below [] sub p t e = ap (part_at sub) (some_is e)
part_below (i ∷ path) sub p t e = at (λ c k. part_below path sub c t k) (child p i) e
  where
    at : ((c : Tree) → part_at path c ≡ Some t → part_at (path ++ sub) c ≡ part_at sub t) → (o : Option Tree) → option_and_then (part_at path) o ≡ Some t → option_and_then (part_at (path ++ sub)) o ≡ part_at sub t
    at ih None h = none_not_some h
    at ih (Some c) h = ih c h

pub scope_below : (path sub : List ℕ) (S : List (Name × Kind)) (p t : Tree) → part_at path p ≡ Some t → scope_list (path ++ sub) S p ≡ scope_list sub (scope_list path S p) t
scope_below [] sub S p t e = ap (scope_list sub S) (some_is e)
scope_below (i ∷ path) sub S p t e = at (λ c k. scope_below path sub (S ++ declared_by p) c t k) (child p i) e
  where
    at : ((c : Tree) → part_at path c ≡ Some t → scope_list (path ++ sub) (S ++ declared_by p) c ≡ scope_list sub (scope_list path (S ++ declared_by p) c) t)
        → (o : Option Tree) → option_and_then (part_at path) o ≡ Some t
        → unwrap_or (option_map (scope_list (path ++ sub) (S ++ declared_by p)) o) S ≡ scope_list sub (unwrap_or (option_map (scope_list path (S ++ declared_by p)) o) S) t
    at ih None h = none_not_some h
    at ih (Some c) h = ih c h

pub put_below : (path sub : List ℕ) (p t r : Tree) → part_at path p ≡ Some t → put (path ++ sub) p r ≡ put path p (put sub t r)
put_below [] sub p t r e = ap (λ z. put sub z r) (some_is e)
put_below (i ∷ path) sub p t r e = at (λ c k. put_below path sub c t r k) (child p i) e
  where
    at : ((c : Tree) → part_at path c ≡ Some t → put (path ++ sub) c r ≡ put path c (put sub t r)) → (o : Option Tree) → option_and_then (part_at path) o ≡ Some t
        → unwrap_or (option_map (λ q. with_child p i (put (path ++ sub) q r)) o) p ≡ unwrap_or (option_map (λ q. with_child p i (put path q (put sub t r))) o) p
    at ih None h = none_not_some h
    at ih (Some c) h = ap (with_child p i) (ih c h)

-- what is declared stays where a part is put in
declared_put : (p : Tree) (i : ℕ) (r : Tree) → declared_by (with_child p i r) ≡ declared_by p
declared_put skip i r = refl
declared_put stop i r = refl
declared_put (assign xs es) i r = refl
declared_put (receive c x) i r = refl
declared_put (send c e) i r = refl
declared_put (seq ps) i r = refl
declared_put (par ps) i r = refl
declared_put (select cs) i r = refl
declared_put (alt bs) i r = refl
declared_put (declare x w p) i r = refl
declared_put (connect c w p) i r = refl

only_step : (o : Option Tree) (r : Tree) → option_and_then (part_at []) o ≡ Some r → o ≡ Some r
only_step None r h = none_not_some h
only_step (Some c) r h = h

child_put : (p : Tree) (i : ℕ) (q r : Tree) → child p i ≡ Some q → child (with_child p i r) i ≡ Some r
child_put p i q r e =
    let made : put (i ∷ []) p r ≡ with_child p i r = ap (λ o. unwrap_or (option_map (λ c. with_child p i r) o) p) e in
    only_step (child (with_child p i r) i) r
    (ap (λ z. option_and_then (part_at []) (child z i)) (sym made) ∙ put_there (i ∷ []) p q r (ap (option_and_then (part_at [])) e))

pub scope_put : (path : List ℕ) (S : List (Name × Kind)) (p t r : Tree) → part_at path p ≡ Some t → scope_list path S (put path p r) ≡ scope_list path S p
scope_put [] S p t r e = refl
scope_put (i ∷ path) S p t r e = at (λ c k. scope_put path (S ++ declared_by p) c t r k) (child p i) refl e
  where
    at : ((c : Tree) → part_at path c ≡ Some t → scope_list path (S ++ declared_by p) (put path c r) ≡ scope_list path (S ++ declared_by p) c)
        → (o : Option Tree) → child p i ≡ o → option_and_then (part_at path) o ≡ Some t
        → scope_list (i ∷ path) S (unwrap_or (option_map (λ q. with_child p i (put path q r)) o) p) ≡ unwrap_or (option_map (scope_list path (S ++ declared_by p)) o) S
    at ih None is h = none_not_some h
    at ih (Some c) is h =
        ap (λ o. unwrap_or (option_map (scope_list path (S ++ declared_by (with_child p i (put path c r)))) o) S) (child_put p i c (put path c r) is)
        ∙ (ap (λ D. scope_list path (S ++ D) (put path c r)) (declared_put p i (put path c r)) ∙ ih c h)

-- ---- wishes that are always granted

-- Each of the wishes asks below the path for what its law makes of the part there, whatever came of those before; and what they all
-- lead to has the property K.
pub data Goes (path : List ℕ) (T : List (Name × Kind)) (K : Tree → Type 0) : List Wish → Tree → Type 0 where
  at_end : (t : Tree) → K t → Goes path T K [] t
  and_goes : (t : Tree) (wish : Wish) (wishes : List Wish) (sub : List ℕ) (old new : Tree) → wish.path ≡ path ++ sub → part_at sub t ≡ Some old
      → IsApplied wish.dir wish.law (scope_list sub T t) wish.wanted old new
      → ((r : Tree) → IsApplied wish.dir wish.law (scope_list sub T t) wish.wanted old r → Keeps (environment T) (put sub t r) → Goes path T K wishes (put sub t r))
      → Goes path T K (wish ∷ wishes) t

-- wishes behind others
pub goes_on : (path : List ℕ) (T : List (Name × Kind)) (K : Tree → Type 0) (more wishes : List Wish) (t : Tree) → Goes path T (λ z. Goes path T K more z) wishes t
    → Goes path T K (wishes ++ more) t
goes_on path T K more wishes t (at_end a k) = k
goes_on path T K more wishes t (and_goes a wish others sub old new e there applied further) =
    and_goes a wish (others ++ more) sub old new e there applied (λ r b kept. goes_on path T K more others (put sub a r) (further r b kept))

-- there is a part at the path of a wish, and its law makes something of it
pub record IsReached (S : List (Name × Kind)) (here : Tree) (wish : Wish) : Type 0 where
  pub old : Tree
  pub new : Tree
  pub there : part_at wish.path here ≡ Some old
  pub applied : IsApplied wish.dir wish.law (scope_list wish.path S here) wish.wanted old new

-- a process that keeps the rules, and a part of it
pub record IsHeld (path : List ℕ) (S T : List (Name × Kind)) (p t : Tree) : Type 0 where
  pub scope : scope_kept S ≡ true
  pub keeps : Keeps (environment S) p
  pub there : part_at path p ≡ Some t
  pub scope_there : scope_list path S p ≡ T

first_is : {A : Type 0} (x y : A) (xs ys : List A) → x ∷ xs ≡ y ∷ ys → x ≡ y
first_is x y xs ys h = cc

rest_is : {A : Type 0} (x y : A) (xs ys : List A) → x ∷ xs ≡ y ∷ ys → xs ≡ ys
rest_is x y xs ys h = cc

nothing_in : {A : Type 0} (front : List A) (x : A) (rest : List A) → [] ≡ front ++ x ∷ rest → ⊥
nothing_in [] x rest h = cc
nothing_in (y ∷ front) x rest h = cc

-- a wish that goes is reached
reached_first : (path : List ℕ) (S T : List (Name × Kind)) (p t : Tree) (wish : Wish) (sub : List ℕ) (old new : Tree) → IsHeld path S T p t → wish.path ≡ path ++ sub
    → part_at sub t ≡ Some old → IsApplied wish.dir wish.law (scope_list sub T t) wish.wanted old new → IsReached S p wish
reached_first path S T p t wish sub old new h e there applied = record {
  old = old;
  new = new;
  there = ap (λ z. part_at z p) e ∙ (part_below path sub p t h.there ∙ there);
  applied = subst (λ U. IsApplied wish.dir wish.law U wish.wanted old new)
      (sym (ap (λ z. scope_list z S p) e ∙ (scope_below path sub S p t h.there ∙ ap (λ U. scope_list sub U t) h.scope_there))) applied;
}

-- what a granted wish leads to
record IsNext (path : List ℕ) (S T : List (Name × Kind)) (p t : Tree) (wish : Wish) (move : Move) (sub : List ℕ) (old : Tree) : Type 0 where
  applied : IsApplied wish.dir wish.law (scope_list sub T t) wish.wanted old move.part
  keeps : Keeps (environment T) (put sub t move.part)
  held : IsHeld path S T (put move.path p move.part) (put sub t move.part)

next : (path : List ℕ) (S T : List (Name × Kind)) (p t : Tree) (wish : Wish) (move : Move) (sub : List ℕ) (old : Tree) → IsHeld path S T p t → wish.path ≡ path ++ sub
    → part_at sub t ≡ Some old → IsGranted S p wish move → IsNext path S T p t wish move sub old
next path S T p t wish move sub old h e there g =
    let r = move.part in
    let s = scopes path S p h.scope h.keeps.types in
    let same : g.old ≡ old = same_Some g.old old (sym g.there ∙ (ap (λ z. part_at z p) e ∙ (part_below path sub p t h.there ∙ there))) in
    let scope : scope_list wish.path S p ≡ scope_list sub T t =
    ap (λ z. scope_list z S p) e ∙ (scope_below path sub S p t h.there ∙ ap (λ U. scope_list sub U t) h.scope_there) in
    let whole : put wish.path p r ≡ put path p (put sub t r) = ap (λ z. put z p r) e ∙ put_below path sub p t r h.there in
    let moved : put move.path p r ≡ put path p (put sub t r) = ap (λ z. put z p r) g.path ∙ whole in
    let kept : Keeps (environment S) (put path p (put sub t r)) = subst (Keeps (environment S)) whole g.admitted.keeps in
    record {
      applied = subst (λ q. IsApplied wish.dir wish.law (scope_list sub T t) wish.wanted q r) same
          (subst (λ U. IsApplied wish.dir wish.law U wish.wanted g.old r) scope g.applied);
      keeps = subst (λ Δ. Keeps Δ (put sub t r)) (put_scope path (environment S) p t (put sub t r) h.there ∙ (sym s.gives ∙ ap environment h.scope_there))
          (part_keeps path (environment S) (put path p (put sub t r)) (put sub t r) kept (put_there path p t (put sub t r) h.there));
      held = record {
        scope = h.scope;
        keeps = subst (Keeps (environment S)) (sym moved) kept;
        there = ap (part_at path) moved ∙ put_there path p t (put sub t r) h.there;
        scope_there = ap (scope_list path S) moved ∙ (scope_put path S p t (put sub t r) h.there ∙ h.scope_there);
      };
    }

-- Of wishes that go each one is reached, once those in front of it are granted.
pub reached : (path : List ℕ) (S T : List (Name × Kind)) (K : Tree → Type 0) (wishes : List Wish) (p t : Tree) → IsHeld path S T p t → Goes path T K wishes t
    → (front : List Wish) (wish : Wish) (rest : List Wish) (moves : List Move) (here : Tree) → wishes ≡ front ++ wish ∷ rest → Grants S p front moves here → IsReached S here wish
reached path S T K wishes p t h (at_end a k) front wish rest moves here e g = absurd (nothing_in front wish rest e)
reached path S T K wishes p t h (and_goes a w others sub old new is there applied further) front wish rest moves here e (no_wish b) =
    subst (IsReached S b) (first_is w wish others rest e) (reached_first path S T b a w sub old new h is there applied)
reached path S T K wishes p t h (and_goes a w others sub old new is there applied further) front wish rest moves here e (and_wish b q v front_rest move more granted then) =
    let same : v ≡ w = sym (first_is w v others (front_rest ++ wish ∷ rest) e) in
    let n = next path S T b a w move sub old h is there (subst (λ z. IsGranted S b z move) same granted) in
    reached path S T K others (put move.path b move.part) (put sub a move.part) n.held (further move.part n.applied n.keeps) front_rest wish rest more q
    (rest_is w v others (front_rest ++ wish ∷ rest) e) then
