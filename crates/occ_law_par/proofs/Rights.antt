-- The one instance of each law of PAR at a place.
use Rattle.std.proofs.Common.{◌≡◌, ℕ, true, ◌&&◌, List, [], ◌∷◌, refl, ap, sym, ◌∙◌, subst}
use Rattle.std.proofs.lemmas.Bool.{and_parts}
use Rattle.occ_syntax.specs.occ_base.declared.names.Name.{Name}
use Rattle.occ_syntax.specs.declared.scope.Kind.{Kind}
use Rattle.occ_syntax.specs.Scopes.{Environment, environment}
use Rattle.occ_syntax.specs.Tree.{Exp, Tree, skip, stop, assign, seq, par, select, alt, Trees, no_tree, and_tree, Cases, Branches}
use Rattle.occ_syntax.specs.Types.{types_kept}
use Rattle.occ_law_shape.specs.occ_meaning.Parallel.{all_of, one, two}
use Rattle.occ_law_shape.specs.occ_bits.Named.{are_conditions}
use Rattle.occ_law_shape.specs.occ_law.Lists.{all_branches, conditions, size}
use Rattle.occ_law_shape.specs.occ_law.Parallel.{ParAssign, par_assign, ParExpand, par_expand, ParFlat, par_flat, ParIf, par_if, ParNone, par_none, ParOne, par_one, ParSkip, par_skip, ParStop, par_stop, each_case_beside, expanded, first_goes, meetings, second_goes}
use Rattle.occ_law_shape.specs.occ_law.States.{AreFew, IsExhaustive}
use Rattle.occ_law_shape.proofs.Typed.{conditions_typed}
use Rattle.occ_law_par.specs.Parts.{Begins, IsSplit, IsWhole}
use Rattle.occ_law_par.proofs.Parting.{one_pair, one_split, parts_are, renamed}

-- a right side, and no other
abbrev pub IsOne : (Tree → Tree → Type 0) → Tree → Tree → Type 0
IsOne D l made = D l made × ((r : Tree) → D l r → r ≡ made)

-- an instance of a part as a whole
wholly : (D : List ℕ → Tree → Tree → Type 0) (ks : List ℕ) (l right made : Tree) (ps : Trees) → IsWhole ks l ps → made ≡ right → D [] (par ps) right → D ks l made
wholly D ks l right made ps w m d = subst (λ z. D z l made) (sym w.none) (subst (λ z. D [] z made) (sym w.whole) (subst (D [] (par ps)) (sym m) d))

-- an instance at the place where a part is parted so
moved : (D : List ℕ → Tree → Tree → Type 0) (ks : List ℕ) (l : Tree) (ps qs : Trees) (right made : Tree) → IsSplit ks l ps qs → made ≡ right
    → D (size ps ∷ []) (par (all_of ps qs)) right → D ks l made
moved D ks l ps qs right made s m d = subst (λ z. D z l made) (sym s.front) (subst (λ z. D (size ps ∷ []) z made) (sym s.whole) (subst (D (size ps ∷ []) (par (all_of ps qs))) (sym m) d))

-- how a PAR is parted whose parts are given
itself : (ps qs : Trees) → IsSplit (size ps ∷ []) (par (all_of ps qs)) ps qs
itself ps qs = record { front = refl; whole = refl }

alone : (ps : Trees) → IsWhole [] (par ps) ps
alone ps = record { none = refl; whole = refl }

-- ---- par-none

pub none_is : (ks : List ℕ) (l made : Tree) (ps : Trees) → IsWhole ks l ps → ps ≡ no_tree → made ≡ skip → IsOne (ParNone ks) l made
none_is ks l made ps w e m = (wholly ParNone ks l skip made no_tree (renamed ks l ps no_tree w e) m par_none, (λ r h. only ks l r h ∙ sym m))
  where
    only : (ks : List ℕ) (l r : Tree) → ParNone ks l r → r ≡ skip
    only ks l r par_none = refl

pub none_never : (ks : List ℕ) (l : Tree) (ps : Trees) → IsWhole ks l ps → (ps ≡ no_tree → ⊥) → (r : Tree) → ParNone ks l r → ⊥
none_never ks l ps w never r par_none = never (sym (parts_are w.whole))

-- ---- par-one

first_alone : {p q : Tree} → par (one p) ≡ par (one q) → p ≡ q
first_alone e = cc

one_only : (ks : List ℕ) (l p r : Tree) → IsWhole ks l (one p) → ParOne ks l r → r ≡ p
one_only ks l p r w (par_one q) = first_alone w.whole

pub one_is : (ks : List ℕ) (l p made : Tree) (ps : Trees) → IsWhole ks l ps → ps ≡ one p → made ≡ p → IsOne (ParOne ks) l made
one_is ks l p made ps w e m =
    let v = renamed ks l ps (one p) w e in
    (wholly ParOne ks l p made (one p) v m (par_one p), (λ r h. one_only ks l p r v h ∙ sym m))

pub one_never : (ks : List ℕ) (l : Tree) (ps : Trees) → IsWhole ks l ps → ((p : Tree) → ps ≡ one p → ⊥) → (r : Tree) → ParOne ks l r → ⊥
one_never ks l ps w never r (par_one p) = never p (sym (parts_are w.whole))

-- ---- par-stop

stop_only : (ks : List ℕ) (l p q r : Tree) → IsWhole ks l (two p q) → ParStop ks l r → (r ≡ seq (two p q)) × (q ≡ stop)
stop_only ks l p q r w (par_stop s) =
    let t = one_pair [] l s stop p q (alone (two s stop)) w in
    (ap (λ z. seq (two z stop)) t.0 ∙ ap (λ z. seq (two p z)) t.1, sym t.1)

pub stop_is : (ks : List ℕ) (l p q made : Tree) → IsWhole ks l (two p q) → q ≡ stop → made ≡ seq (two p q) → IsOne (ParStop ks) l made
stop_is ks l p q made w e m = (
  wholly ParStop ks l (seq (two p stop)) made (two p stop) (renamed ks l (two p q) (two p stop) w (ap (two p) e)) (m ∙ ap (λ z. seq (two p z)) e) (par_stop p),
  (λ r h. (stop_only ks l p q r w h).0 ∙ sym m),
)

pub stop_never : (ks : List ℕ) (l p q : Tree) → IsWhole ks l (two p q) → (q ≡ stop → ⊥) → (r : Tree) → ParStop ks l r → ⊥
stop_never ks l p q w never r h = never (stop_only ks l p q r w h).1

-- ---- par-assign

begun_is : {a b : Tree} {ps qs : Trees} → seq (and_tree a ps) ≡ seq (and_tree b qs) → (a ≡ b) × (ps ≡ qs)
begun_is e = ((cc), (cc))

assign_only : (ks : List ℕ) (l p a q r : Tree) (ps : Trees) → IsWhole ks l (two p q) → p ≡ seq (and_tree a ps) → ParAssign ks l r → r ≡ seq (two a (par (two (seq ps) q)))
assign_only ks l p a q r ps w e (par_assign xs es qs s) =
    let t = one_pair [] l (seq (and_tree (assign xs es) qs)) s p q (alone (two (seq (and_tree (assign xs es) qs)) s)) w in
    let u = begun_is (t.0 ∙ e) in
    ap (λ z. seq (two z (par (two (seq qs) s)))) u.0 ∙ ap (λ z. seq (two a (par (two (seq z) s)))) u.1 ∙ ap (λ z. seq (two a (par (two (seq ps) z)))) t.1

pub assign_is : (ks : List ℕ) (l p a q made : Tree) (ps : Trees) → IsWhole ks l (two p q) → Begins p a ps → made ≡ seq (two a (par (two (seq ps) q))) → IsOne (ParAssign ks) l made
assign_is ks l p a q made ps w b m =
    let start = assign b.variables b.values in (
      wholly ParAssign ks l (seq (two start (par (two (seq ps) q)))) made (two (seq (and_tree start ps)) q)
          (renamed ks l (two p q) (two (seq (and_tree start ps)) q) w (ap (λ z. two z q) (b.whole ∙ ap (λ z. seq (and_tree z ps)) b.first)))
          (m ∙ ap (λ z. seq (two z (par (two (seq ps) q)))) b.first) (par_assign b.variables b.values ps q),
      (λ r h. assign_only ks l p a q r ps w b.whole h ∙ sym m),
    )

pub assign_never : (ks : List ℕ) (l p q : Tree) → IsWhole ks l (two p q) → ((xs : List ℕ) (es : List Exp) (ps : Trees) → p ≡ seq (and_tree (assign xs es) ps) → ⊥)
    → (r : Tree) → ParAssign ks l r → ⊥
assign_never ks l p q w never r (par_assign xs es ps s) =
    never xs es ps (sym (one_pair [] l (seq (and_tree (assign xs es) ps)) s p q (alone (two (seq (and_tree (assign xs es) ps)) s)) w).0)

-- ---- par-if

choices_are : {cs ds : Cases} → select cs ≡ select ds → cs ≡ ds
choices_are e = cc

-- the conditions of an IF in a PAR of two are conditions
pub conditions_kept : (Γ : Environment) (ks : List ℕ) (l f s : Tree) (cs : Cases) → types_kept l Γ ≡ true → IsWhole ks l (two f s) → f ≡ select cs → are_conditions Γ (conditions cs) ≡ true
conditions_kept Γ ks l f s cs k w g =
    let t : types_kept (par (two (select cs) s)) Γ ≡ true = subst (λ z. types_kept (par (two z s)) Γ ≡ true) g (subst (λ z. types_kept z Γ ≡ true) w.whole k) in
    conditions_typed Γ cs (and_parts (types_kept (select cs) Γ) (types_kept s Γ && true) t).0

pub if_only : (S : List (Name × Kind)) (ks : List ℕ) (l p q r : Tree) (cs : Cases) → IsWhole ks l (two p q) → p ≡ select cs → ParIf S ks l r
    → (r ≡ select (each_case_beside cs q)) × AreFew S (conditions cs) × IsExhaustive (environment S) (conditions cs)
if_only S ks l p q r cs w e (par_if ds s few exhaustive) =
    let t = one_pair [] l (select ds) s p q (alone (two (select ds) s)) w in
    let same : ds ≡ cs = choices_are (t.0 ∙ e) in (
      ap (λ z. select (each_case_beside z s)) same ∙ ap (λ z. select (each_case_beside cs z)) t.1,
      subst (λ z. AreFew S (conditions z)) same few,
      subst (λ z. IsExhaustive (environment S) (conditions z)) same exhaustive,
    )

pub if_is : (S : List (Name × Kind)) (ks : List ℕ) (l p q made : Tree) (cs : Cases) → IsWhole ks l (two p q) → p ≡ select cs
    → AreFew S (conditions cs) × IsExhaustive (environment S) (conditions cs) → made ≡ select (each_case_beside cs q) → IsOne (ParIf S ks) l made
if_is S ks l p q made cs w e h m = (
  wholly (ParIf S) ks l (select (each_case_beside cs q)) made (two (select cs) q) (renamed ks l (two p q) (two (select cs) q) w (ap (λ z. two z q) e)) m (par_if cs q h.0 h.1),
  (λ r d. (if_only S ks l p q r cs w e d).0 ∙ sym m),
)

pub if_never : (S : List (Name × Kind)) (ks : List ℕ) (l p q : Tree) → IsWhole ks l (two p q) → ((cs : Cases) → p ≡ select cs → ⊥) → (r : Tree) → ParIf S ks l r → ⊥
if_never S ks l p q w never r (par_if cs s few exhaustive) = never cs (sym (one_pair [] l (select cs) s p q (alone (two (select cs) s)) w).0)

-- ---- par-expand

branches_are : {gs hs : Branches} → alt gs ≡ alt hs → gs ≡ hs
branches_are e = cc

pub expand_only : (ks : List ℕ) (l p q r : Tree) (ls ms : Branches) → IsWhole ks l (two p q) → p ≡ alt ls → q ≡ alt ms → ParExpand ks l r → r ≡ alt (expanded ls ms)
expand_only ks l p q r ls ms w e f (par_expand gs hs) =
    let t = one_pair [] l (alt gs) (alt hs) p q (alone (two (alt gs) (alt hs))) w in
    ap (λ z. alt (expanded z hs)) (branches_are (t.0 ∙ e)) ∙ ap (λ z. alt (expanded ls z)) (branches_are (t.1 ∙ f))

pub expand_is : (ks : List ℕ) (l p q made : Tree) (ls ms whole : Branches) → IsWhole ks l (two p q) → p ≡ alt ls → q ≡ alt ms
    → made ≡ alt whole → whole ≡ all_branches (first_goes ls q) (all_branches (second_goes p ms) (meetings ls ms)) → IsOne (ParExpand ks) l made
expand_is ks l p q made ls ms whole w e f m h = (
  wholly ParExpand ks l (alt (expanded ls ms)) made (two (alt ls) (alt ms)) (renamed ks l (two p q) (two (alt ls) (alt ms)) w (ap (λ z. two z q) e ∙ ap (two (alt ls)) f)) is
      (par_expand ls ms),
  (λ r d. expand_only ks l p q r ls ms w e f d ∙ sym is),
)
  where
    is : made ≡ alt (expanded ls ms)
    is = m ∙ ap alt (h ∙ ap (λ z. all_branches (first_goes ls z) (all_branches (second_goes p ms) (meetings ls ms))) f
        ∙ ap (λ z. all_branches (first_goes ls (alt ms)) (all_branches (second_goes z ms) (meetings ls ms))) e)

pub first_not_alt : (ks : List ℕ) (l p q : Tree) → IsWhole ks l (two p q) → ((gs : Branches) → p ≡ alt gs → ⊥) → (r : Tree) → ParExpand ks l r → ⊥
first_not_alt ks l p q w never r (par_expand ls ms) = never ls (sym (one_pair [] l (alt ls) (alt ms) p q (alone (two (alt ls) (alt ms))) w).0)

pub second_not_alt : (ks : List ℕ) (l p q : Tree) → IsWhole ks l (two p q) → ((gs : Branches) → q ≡ alt gs → ⊥) → (r : Tree) → ParExpand ks l r → ⊥
second_not_alt ks l p q w never r (par_expand ls ms) = never ms (sym (one_pair [] l (alt ls) (alt ms) p q (alone (two (alt ls) (alt ms))) w).1)

-- ---- par-flat

within_are : {p : Tree} {ps qs rs : Trees} → and_tree p ps ≡ and_tree (par qs) rs → p ≡ par qs
within_are e = cc

place_is : {p q : Tree} {ps qs : Trees} → and_tree p ps ≡ and_tree q qs → (p ≡ q) × (ps ≡ qs)
place_is e = ((cc), (cc))

flat_only : (ks : List ℕ) (l : Tree) (ps qs rs : Trees) (r : Tree) → IsSplit ks l ps (and_tree (par qs) rs) → ParFlat ks l r → r ≡ par (all_of ps (all_of qs rs))
flat_only ks l ps qs rs r s (par_flat us vs ws) =
    let t = one_split ks l us (and_tree (par vs) ws) ps (and_tree (par qs) rs) (itself us (and_tree (par vs) ws)) s in
    let u = place_is t.1 in
    ap (λ z. par (all_of z (all_of vs ws))) t.0 ∙ ap (λ z. par (all_of ps (all_of z ws))) (parts_are u.0) ∙ ap (λ z. par (all_of ps (all_of qs z))) u.1

pub flat_is : (ks : List ℕ) (l : Tree) (ps qs rs : Trees) (p made : Tree) → IsSplit ks l ps (and_tree p rs) → p ≡ par qs → made ≡ par (all_of ps (all_of qs rs)) → IsOne (ParFlat ks) l made
flat_is ks l ps qs rs p made s e m = (
  moved ParFlat ks l ps (and_tree (par qs) rs) (par (all_of ps (all_of qs rs))) made there m (par_flat ps qs rs),
  (λ r d. flat_only ks l ps qs rs r there d ∙ sym m),
)
  where
    there : IsSplit ks l ps (and_tree (par qs) rs)
    there = record { front = s.front; whole = s.whole ∙ ap (λ z. par (all_of ps (and_tree z rs))) e }

pub flat_never : (ks : List ℕ) (l : Tree) (ps rs : Trees) (p : Tree) → IsSplit ks l ps (and_tree p rs) → ((qs : Trees) → p ≡ par qs → ⊥) → (r : Tree) → ParFlat ks l r → ⊥
flat_never ks l ps rs p s never r (par_flat us vs ws) =
    never vs (within_are (sym (one_split ks l us (and_tree (par vs) ws) ps (and_tree p rs) (itself us (and_tree (par vs) ws)) s).1))

-- ---- par-skip

skip_only : (ks : List ℕ) (l : Tree) (ps rs : Trees) (p r : Tree) → IsSplit ks l ps (and_tree p rs) → ParSkip ks l r → (r ≡ par (all_of ps rs)) × (p ≡ skip)
skip_only ks l ps rs p r s (par_skip us vs) =
    let t = one_split ks l us (and_tree skip vs) ps (and_tree p rs) (itself us (and_tree skip vs)) s in
    let u = place_is t.1 in
    (ap (λ z. par (all_of z vs)) t.0 ∙ ap (λ z. par (all_of ps z)) u.1, sym u.0)

pub skip_is : (ks : List ℕ) (l : Tree) (ps rs : Trees) (p made : Tree) → IsSplit ks l ps (and_tree p rs) → p ≡ skip → made ≡ par (all_of ps rs) → IsOne (ParSkip ks) l made
skip_is ks l ps rs p made s e m = (
  moved ParSkip ks l ps (and_tree skip rs) (par (all_of ps rs)) made
      (record { front = s.front; whole = s.whole ∙ ap (λ z. par (all_of ps (and_tree z rs))) e }) m (par_skip ps rs),
  (λ r d. (skip_only ks l ps rs p r s d).0 ∙ sym m),
)

pub skip_never : (ks : List ℕ) (l : Tree) (ps rs : Trees) (p : Tree) → IsSplit ks l ps (and_tree p rs) → (p ≡ skip → ⊥) → (r : Tree) → ParSkip ks l r → ⊥
skip_never ks l ps rs p s never r d = never (skip_only ks l ps rs p r s d).1
