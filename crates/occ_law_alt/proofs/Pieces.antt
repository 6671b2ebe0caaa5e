-- What an instance of a law of ALT at a place is, by the pieces of its left side.
use Rattle.std.proofs.Common.{◌≡◌, ℕ, true, List, [], ◌∷◌, refl, ap, sym, ◌∙◌, subst}
use Rattle.occ_syntax.specs.occ_base.declared.names.Name.{Name}
use Rattle.occ_syntax.specs.declared.scope.Kind.{Kind}
use Rattle.occ_syntax.specs.Scopes.{environment}
use Rattle.occ_syntax.specs.Tree.{Exp, truth, Waiting, Tree, stop, select, alt, no_case, and_case, Branches, no_branch, and_branch}
use Rattle.occ_law_shape.specs.occ_law.Choice.{AltCase, alt_case, AltFalse, alt_false, AltFlat, alt_flat, AltLeast, alt_least, AltNone, alt_none, AltSame, alt_same, AltSkip, alt_skip, AltSlide, alt_slide, AltSplit, alt_split, AltTwice, alt_twice, and_skip, are_events, are_plain_events, has_skip, is_event}
use Rattle.occ_law_shape.specs.occ_law.Lists.{all_branches, tally}
use Rattle.occ_law_shape.specs.occ_law.States.{AreFew, IsNever}
use Rattle.occ_law_alt.proofs.Begun.{alt_tells, conditions_are, guards_are, processes_are, rests_are}
use Rattle.occ_law_alt.proofs.Parting.{heads_are, one_place, tails_are}

-- two sides carried over equations
pub sides : (D : List ℕ → Tree → Tree → Type 0) {js ks : List ℕ} {k l r s : Tree} → ks ≡ js → l ≡ k → r ≡ s → D js k s → D ks l r
sides D {js} {ks} {k} {l} {r} {s} e f g d = subst (λ z. D ks l z) (sym g) (subst (λ z. D ks z s) (sym f) (subst (λ z. D z k s) (sym e) d))

-- ---- laws that change a part as a whole

pub none_pieces : (ks : List ℕ) (l r : Tree) → AltNone ks l r → (ks ≡ []) × (l ≡ alt no_branch) × (r ≡ stop)
none_pieces ks l r alt_none = (refl, refl, refl)

pub skip_pieces : (ks : List ℕ) (l r : Tree) → AltSkip ks l r → (ks ≡ []) × (l ≡ alt (and_skip r no_branch))
skip_pieces ks l r (alt_skip p) = (refl, refl)

pub record Least (ks : List ℕ) (l r : Tree) : Type 0 where
  pub less : Branches
  pub more : Branches
  pub plain : are_plain_events less ≡ true
  pub plain_too : are_plain_events more ≡ true
  pub place : ks ≡ []
  pub left : l ≡ alt (and_skip (alt less) (and_skip (alt (all_branches less more)) no_branch))
  pub right : r ≡ alt (all_branches more (and_skip (alt less) no_branch))

pub least_pieces : (ks : List ℕ) (l r : Tree) → AltLeast ks l r → Least ks l r
least_pieces ks l r (alt_least gs hs e f) = record { less = gs; more = hs; plain = e; plain_too = f; place = refl; left = refl; right = refl }

-- ---- alt-false

pub false_pieces : (S : List (Name × Kind)) (ks : List ℕ) (l r : Tree) (gs hs : Branches) (b : Exp) (w : Waiting) (p : Tree) → l ≡ alt (all_branches gs (and_branch b w p hs)) → ks ≡ tally gs ∷ []
    → AltFalse S ks l r → AreFew S (b ∷ []) × IsNever (environment S) b × (r ≡ alt (all_branches gs hs))
false_pieces S ks l r gs hs b w p e n (alt_false fs is c v q few never) =
    let k : (fs ≡ gs) × (and_branch c v q is ≡ and_branch b w p hs) = one_place fs _ gs _ (alt_tells _ _ e) (heads_are _ _ [] [] n) in
    let m : c ≡ b = conditions_are _ _ _ _ _ _ _ _ k.1 in (
      subst (λ z. AreFew S (z ∷ [])) m few,
      subst (IsNever (environment S)) m never,
      ap (λ z. alt (all_branches z is)) k.0 ∙ ap (λ z. alt (all_branches gs z)) (rests_are _ _ _ _ _ _ _ _ k.1),
    )

-- ---- alt-case

-- the right side of alt-case
abbrev pub halves : Branches → Exp → Waiting → Tree → Branches → Tree
halves gs b w p hs = select (and_case b (alt (all_branches gs (and_branch (truth true) w p hs))) (and_case (truth true) (alt (all_branches gs hs)) no_case))

pub case_pieces : (ks : List ℕ) (l r : Tree) (gs hs : Branches) (b : Exp) (w : Waiting) (p : Tree) → l ≡ alt (all_branches gs (and_branch b w p hs)) → ks ≡ tally gs ∷ [] → AltCase ks l r
    → r ≡ halves gs b w p hs
case_pieces ks l r gs hs b w p e n (alt_case fs is c v q) =
    let k : (fs ≡ gs) × (and_branch c v q is ≡ and_branch b w p hs) = one_place fs _ gs _ (alt_tells _ _ e) (heads_are _ _ [] [] n) in
    ap (λ z. halves z c v q is) k.0 ∙ ap (λ z. halves gs z v q is) (conditions_are _ _ _ _ _ _ _ _ k.1) ∙ ap (λ z. halves gs b z q is) (guards_are _ _ _ _ _ _ _ _ k.1)
    ∙ ap (λ z. halves gs b w z is) (processes_are _ _ _ _ _ _ _ _ k.1) ∙ ap (halves gs b w p) (rests_are _ _ _ _ _ _ _ _ k.1)

-- ---- alt-flat

pub record Flat (gs xs : Branches) (r : Tree) : Type 0 where
  pub inner : Branches
  pub rest : Branches
  pub skip : has_skip inner ≡ true
  pub here : xs ≡ and_skip (alt inner) rest
  pub right : r ≡ alt (all_branches gs (all_branches inner rest))

pub flat_pieces : (ks : List ℕ) (l r : Tree) (gs xs : Branches) → l ≡ alt (all_branches gs xs) → ks ≡ tally gs ∷ [] → AltFlat ks l r → Flat gs xs r
flat_pieces ks l r gs xs e n (alt_flat fs hs rs s) =
    let k : (fs ≡ gs) × (and_skip (alt hs) rs ≡ xs) = one_place fs _ gs xs (alt_tells _ _ e) (heads_are _ _ [] [] n) in
    record { inner = hs; rest = rs; skip = s; here = sym k.1; right = ap (λ z. alt (all_branches z (all_branches hs rs))) k.0 }

-- its inner list, and its right side, where the list is given
pub flat_inner : (gs xs hs rs : Branches) (r : Tree) → xs ≡ and_skip (alt hs) rs → Flat gs xs r → (has_skip hs ≡ true) × (r ≡ alt (all_branches gs (all_branches hs rs)))
flat_inner gs xs hs rs r e u =
    let v = sym u.here ∙ e in
    let i = alt_tells _ _ (processes_are _ _ _ _ _ _ _ _ v) in
    (ap has_skip (sym i) ∙ u.skip, u.right ∙ ap (λ z. alt (all_branches gs (all_branches z u.rest))) i ∙ ap (λ z. alt (all_branches gs (all_branches hs z))) (rests_are _ _ _ _ _ _ _ _ v))

-- ---- alt-split

-- the right side of alt-split
abbrev pub moved : Branches → Exp → Waiting → Tree → Branches → Branches → Tree
moved gs b w p hs rs = alt (all_branches gs (and_skip (alt (and_branch b w p hs)) rs))

pub record Split (gs : Branches) (b : Exp) (w : Waiting) (p : Tree) (xs : Branches) (r : Tree) : Type 0 where
  pub other : Tree
  pub inner : Branches
  pub rest : Branches
  pub plain : b ≡ truth true
  pub event : is_event w ≡ true
  pub here : xs ≡ and_skip (alt (and_branch (truth true) w other inner)) rest
  pub right : r ≡ moved gs b w p (and_branch (truth true) w other inner) rest

pub split_pieces : (ks : List ℕ) (l r : Tree) (gs xs : Branches) (b : Exp) (w : Waiting) (p : Tree) → l ≡ alt (all_branches gs (and_branch b w p xs)) → ks ≡ tally gs ∷ [] → AltSplit ks l r → Split gs b w p xs r
split_pieces ks l r gs xs b w p e n (alt_split fs hs rs g q o s) =
    let k : (fs ≡ gs) × (and_branch (truth true) g q (and_skip (alt (and_branch (truth true) g o hs)) rs) ≡ and_branch b w p xs) = one_place fs _ gs _ (alt_tells _ _ e) (heads_are _ _ [] [] n) in
    let i : truth true ≡ b = conditions_are _ _ _ _ _ _ _ _ k.1 in
    let m : g ≡ w = guards_are _ _ _ _ _ _ _ _ k.1 in
    record {
      other = o;
      inner = hs;
      rest = rs;
      plain = sym i;
      event = ap is_event (sym m) ∙ s;
      here = sym (rests_are _ _ _ _ _ _ _ _ k.1) ∙ ap (λ z. and_skip (alt (and_branch (truth true) z o hs)) rs) m;
      right = ap (λ z. moved z (truth true) g q (and_branch (truth true) g o hs) rs) k.0 ∙ ap (λ z. moved gs (truth true) z q (and_branch (truth true) z o hs) rs) m
          ∙ ap (λ z. moved gs (truth true) w z (and_branch (truth true) w o hs) rs) (processes_are _ _ _ _ _ _ _ _ k.1) ∙ ap (λ z. moved gs z w p (and_branch (truth true) w o hs) rs) i;
    }

-- its inner list, and its right side, where the list is given
pub split_inner : (gs : Branches) (b : Exp) (w : Waiting) (p : Tree) (xs hs rs : Branches) (r : Tree) → xs ≡ and_skip (alt hs) rs → (u : Split gs b w p xs r)
    → (hs ≡ and_branch (truth true) w u.other u.inner) × (r ≡ moved gs b w p hs rs)
split_inner gs b w p xs hs rs r e u =
    let v = sym u.here ∙ e in
    let i = alt_tells _ _ (processes_are _ _ _ _ _ _ _ _ v) in
    (sym i, u.right ∙ ap (λ z. moved gs b w p z u.rest) i ∙ ap (moved gs b w p hs) (rests_are _ _ _ _ _ _ _ _ v))

-- ---- alt-slide

pub record Slide (gs xs : Branches) (r : Tree) : Type 0 where
  pub more : Branches
  pub events : are_events gs ≡ true
  pub here : xs ≡ and_skip (alt (all_branches gs more)) no_branch
  pub right : r ≡ alt (all_branches gs more)

pub slide_pieces : (ks : List ℕ) (l r : Tree) (gs xs : Branches) → l ≡ alt (all_branches gs xs) → ks ≡ tally gs ∷ [] → AltSlide ks l r → Slide gs xs r
slide_pieces ks l r gs xs e n (alt_slide fs hs s) =
    let k : (fs ≡ gs) × (and_skip (alt (all_branches fs hs)) no_branch ≡ xs) = one_place fs _ gs xs (alt_tells _ _ e) (heads_are _ _ [] [] n) in
    record {
      more = hs;
      events = ap are_events (sym k.0) ∙ s;
      here = sym k.1 ∙ ap (λ z. and_skip (alt (all_branches z hs)) no_branch) k.0;
      right = ap (λ z. alt (all_branches z hs)) k.0;
    }

-- its inner list, what stands behind it, and its right side, where the list is given
pub slide_inner : (gs xs hs rs : Branches) (r : Tree) → xs ≡ and_skip (alt hs) rs → (u : Slide gs xs r) → (hs ≡ all_branches gs u.more) × (rs ≡ no_branch) × (r ≡ alt hs)
slide_inner gs xs hs rs r e u =
    let v = sym u.here ∙ e in
    let i = alt_tells _ _ (processes_are _ _ _ _ _ _ _ _ v) in
    (sym i, sym (rests_are _ _ _ _ _ _ _ _ v), u.right ∙ ap alt i)

-- ---- laws with two sizes

-- the pieces of one list around two branches
pub two_places : (fs gs hs is js ks : Branches) (a b c d : Exp) (s t v w : Waiting) (m n p q : Tree) (ns : List ℕ)
    → alt (all_branches fs (and_branch a s m (all_branches gs (and_branch b t n hs)))) ≡ alt (all_branches is (and_branch c v p (all_branches js (and_branch d w q ks))))
    → ns ≡ tally fs ∷ tally gs ∷ [] → ns ≡ tally is ∷ tally js ∷ []
    → (fs ≡ is) × (a ≡ c) × (s ≡ v) × (m ≡ p) × (gs ≡ js) × (b ≡ d) × (t ≡ w) × (n ≡ q) × (hs ≡ ks)
two_places fs gs hs is js ks a b c d s t v w m n p q ns e f g =
    let i = one_place fs _ is _ (alt_tells _ _ e) (heads_are _ _ _ _ (sym f ∙ g)) in
    let j = one_place gs _ js _ (rests_are _ _ _ _ _ _ _ _ i.1) (heads_are _ _ _ _ (tails_are _ _ _ _ (sym f ∙ g))) in (
      i.0,
      conditions_are _ _ _ _ _ _ _ _ i.1,
      guards_are _ _ _ _ _ _ _ _ i.1,
      processes_are _ _ _ _ _ _ _ _ i.1,
      j.0,
      conditions_are _ _ _ _ _ _ _ _ j.1,
      guards_are _ _ _ _ _ _ _ _ j.1,
      processes_are _ _ _ _ _ _ _ _ j.1,
      rests_are _ _ _ _ _ _ _ _ j.1,
    )

-- the pieces with a branch behind the first of them
abbrev pub put_in : Branches → Exp → Waiting → Tree → Branches → Branches → Tree
put_in gs b w p hs rs = alt (all_branches gs (and_branch b w p (all_branches hs rs)))

pub put_in_is : (fs gs hs is js ks : Branches) (a c : Exp) (s v : Waiting) (m p : Tree) → fs ≡ is → a ≡ c → s ≡ v → m ≡ p → gs ≡ js → hs ≡ ks → put_in fs a s m gs hs ≡ put_in is c v p js ks
put_in_is fs gs hs is js ks a c s v m p e f g h i j =
    ap (λ z. put_in z a s m gs hs) e ∙ ap (λ z. put_in is z s m gs hs) f ∙ ap (λ z. put_in is c z m gs hs) g ∙ ap (λ z. put_in is c v z gs hs) h ∙ ap (λ z. put_in is c v p z hs) i
    ∙ ap (put_in is c v p js) j

pub twice_pieces : (ks : List ℕ) (l r : Tree) (gs hs rs : Branches) (b c : Exp) (v w : Waiting) (p q : Tree) → l ≡ alt (all_branches gs (and_branch b v p (all_branches hs (and_branch c w q rs))))
    → ks ≡ tally gs ∷ tally hs ∷ [] → AltTwice ks l r → (b ≡ c) × (v ≡ w) × (p ≡ q) × (r ≡ put_in gs b v p hs rs)
twice_pieces ks l r gs hs rs b c v w p q e n (alt_twice fs is js d u o) =
    let k = two_places fs is js gs hs rs d d b c u u v w o o p q (tally fs ∷ tally is ∷ []) e refl n in
    (sym k.1 ∙ k.5, sym k.2 ∙ k.6, sym k.3 ∙ k.7, put_in_is fs is js gs hs rs d b u v o p k.0 k.1 k.2 k.3 k.4 k.8)

-- one process or the other, by guards TRUE & SKIP
abbrev pub one_of : Tree → Tree → Tree
one_of p q = alt (and_skip p (and_skip q no_branch))

pub same_pieces : (ks : List ℕ) (l r : Tree) (gs hs rs : Branches) (b c : Exp) (v w : Waiting) (p q : Tree) → l ≡ alt (all_branches gs (and_branch b v p (all_branches hs (and_branch c w q rs))))
    → ks ≡ tally gs ∷ tally hs ∷ [] → AltSame ks l r → (b ≡ c) × (v ≡ w) × (is_event v ≡ true) × (r ≡ put_in gs b v (one_of p q) hs rs)
same_pieces ks l r gs hs rs b c v w p q e n (alt_same fs is js d u o m s) =
    let k = two_places fs is js gs hs rs d d b c u u v w o m p q (tally fs ∷ tally is ∷ []) e refl n in (
      sym k.1 ∙ k.5,
      sym k.2 ∙ k.6,
      ap is_event (sym k.2) ∙ s,
      put_in_is fs is js gs hs rs d b u v (one_of o m) (one_of p q) k.0 k.1 k.2 (ap (λ z. one_of z m) k.3 ∙ ap (one_of p) k.7) k.4 k.8,
    )
