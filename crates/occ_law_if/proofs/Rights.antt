-- The one instance of each law of IF at a place.
use Rattle.std.proofs.Common.{◌≡◌, ℕ, true, List, [], ◌∷◌, refl, ap, sym, ◌∙◌, subst}
use Rattle.occ_syntax.specs.occ_base.declared.names.Name.{Name}
use Rattle.occ_syntax.specs.declared.expr.Op.TheVariants.{Or}
use Rattle.occ_syntax.specs.declared.scope.Kind.{Kind}
use Rattle.occ_syntax.specs.Scopes.{environment}
use Rattle.occ_syntax.specs.Tree.{Exp, operation, truth, Tree, stop, select, Cases, no_case, and_case}
use Rattle.occ_law_shape.specs.occ_law.Choice.{IfCut, if_cut, IfElseStop, if_else_stop, IfFalse, if_false, IfMerge, if_merge, IfNest, if_nest, IfNone, if_none, IfSwap, if_swap, IfTrue, if_true, each_case_under}
use Rattle.occ_law_shape.specs.occ_law.Lists.{all_cases, conditions, count}
use Rattle.occ_law_shape.specs.occ_law.States.{AreFew, ExcludeEachOther, IsAlways, IsExhaustive, IsNever}
use Rattle.occ_law_if.proofs.Fronts.{first_condition, first_process, others}
use Rattle.occ_law_if.proofs.Sides.{choices_are}
use Rattle.occ_law_if.specs.Chosen.{IsSplit}
use Rattle.occ_law_if.proofs.Parting.{none_counted, one_split}

-- a right side, and no other
abbrev pub IsOne : (Tree → Tree → Type 0) → Tree → Tree → Type 0
IsOne D l made = D l made × ((r : Tree) → D l r → r ≡ made)

-- how an IF is parted whose parts are given
itself : (cs ds : Cases) → IsSplit (count cs ∷ []) (select (all_cases cs ds)) cs ds
itself cs ds = record { size = refl; whole = refl }

-- an instance at the place where a part is parted so
moved : (D : List ℕ → Tree → Tree → Type 0) (ks : List ℕ) (l : Tree) (cs ds : Cases) (right made : Tree) → IsSplit ks l cs ds → made ≡ right
    → D (count cs ∷ []) (select (all_cases cs ds)) right → D ks l made
moved D ks l cs ds right made s m d = subst (λ z. D z l made) (sym s.size) (subst (λ z. D (count cs ∷ []) z made) (sym s.whole) (subst (D (count cs ∷ []) (select (all_cases cs ds))) (sym m) d))

-- ---- if-none

pub none_is : (ks : List ℕ) (l made : Tree) (cs : Cases) → ks ≡ [] → l ≡ select cs → cs ≡ no_case → made ≡ stop → IsOne (IfNone ks) l made
none_is ks l made cs e f g m = (
  subst (λ z. IfNone z l made) (sym e) (subst (λ z. IfNone [] z made) (sym (f ∙ ap select g)) (subst (IfNone [] (select no_case)) (sym m) if_none)),
  (λ r h. only ks l r h ∙ sym m),
)
  where
    only : (ks : List ℕ) (l r : Tree) → IfNone ks l r → r ≡ stop
    only ks l r if_none = refl

pub none_empty : (ks : List ℕ) (l : Tree) (cs : Cases) → l ≡ select cs → (cs ≡ no_case → ⊥) → (r : Tree) → IfNone ks l r → ⊥
none_empty ks l cs e never r h = never (empty ks l r cs e h)
  where
    empty : (ks : List ℕ) (l r : Tree) (cs : Cases) → l ≡ select cs → IfNone ks l r → cs ≡ no_case
    empty ks l r cs e if_none = sym (choices_are e)

-- ---- if-true, whose choice is the first

pub true_only : (S : List (Name × Kind)) (ks : List ℕ) (l : Tree) (cs ds : Cases) (b : Exp) (p r : Tree) → IsSplit (0 ∷ []) l cs (and_case b p ds) → IfTrue S ks l r
    → (r ≡ p) × AreFew S (b ∷ []) × IsAlways (environment S) b
true_only S ks l cs ds b p r s (if_true c q es few always) =
    let t = one_split (0 ∷ []) l no_case (and_case c q es) cs (and_case b p ds) (itself no_case (and_case c q es)) s in
    let same : c ≡ b = first_condition t.1 in
    (first_process t.1, subst (λ z. AreFew S (z ∷ [])) same few, subst (IsAlways (environment S)) same always)

pub true_is : (S : List (Name × Kind)) (ks : List ℕ) (l : Tree) (cs ds : Cases) (b : Exp) (p made : Tree) → ks ≡ [] → IsSplit (0 ∷ []) l cs (and_case b p ds)
    → AreFew S (b ∷ []) × IsAlways (environment S) b → made ≡ p → IsOne (IfTrue S ks) l made
true_is S ks l cs ds b p made e s h m = (
  subst (λ z. IfTrue S z l made) (sym e) (subst (λ z. IfTrue S [] z made) (sym first) (subst (IfTrue S [] (select (and_case b p ds))) (sym m) (if_true b p ds h.0 h.1))),
  (λ r d. (true_only S ks l cs ds b p r s d).0 ∙ sym m),
)
  where
    zero : {j : ℕ} → 0 ∷ [] ≡ j ∷ [] → j ≡ 0
    zero e = cc

    first : l ≡ select (and_case b p ds)
    first = s.whole ∙ ap (λ z. select (all_cases z (and_case b p ds))) (none_counted cs (zero s.size))

pub true_chosen : (S : List (Name × Kind)) (ks : List ℕ) (l : Tree) → ((cs ds : Cases) (b : Exp) (p : Tree) → IsSplit (0 ∷ []) l cs (and_case b p ds) → ⊥)
    → (r : Tree) → IfTrue S ks l r → ⊥
true_chosen S ks l never r (if_true b p ds few always) = never no_case ds b p (itself no_case (and_case b p ds))

-- ---- if-false

pub false_only : (S : List (Name × Kind)) (ks : List ℕ) (l : Tree) (cs ds : Cases) (b : Exp) (p r : Tree) → IsSplit ks l cs (and_case b p ds) → IfFalse S ks l r
    → (r ≡ select (all_cases cs ds)) × AreFew S (b ∷ []) × IsNever (environment S) b
false_only S ks l cs ds b p r s (if_false fs es c q few never) =
    let t = one_split ks l fs (and_case c q es) cs (and_case b p ds) (itself fs (and_case c q es)) s in
    let same : c ≡ b = first_condition t.1 in (
      ap (λ z. select (all_cases z es)) t.0 ∙ ap (λ z. select (all_cases cs z)) (others t.1),
      subst (λ z. AreFew S (z ∷ [])) same few,
      subst (IsNever (environment S)) same never,
    )

pub false_is : (S : List (Name × Kind)) (ks : List ℕ) (l : Tree) (cs ds : Cases) (b : Exp) (p made : Tree) → IsSplit ks l cs (and_case b p ds)
    → AreFew S (b ∷ []) × IsNever (environment S) b → made ≡ select (all_cases cs ds) → IsOne (IfFalse S ks) l made
false_is S ks l cs ds b p made s h m = (
  moved (IfFalse S) ks l cs (and_case b p ds) (select (all_cases cs ds)) made s m (if_false cs ds b p h.0 h.1),
  (λ r d. (false_only S ks l cs ds b p r s d).0 ∙ sym m),
)

-- ---- if-else-stop

else_only : (ks : List ℕ) (l : Tree) (cs ds : Cases) (r : Tree) → IsSplit ks l cs ds → IfElseStop ks l r → (r ≡ select cs) × (ds ≡ and_case (truth true) stop no_case)
else_only ks l cs ds r s (if_else_stop es) =
    let t = one_split ks l es (and_case (truth true) stop no_case) cs ds (itself es (and_case (truth true) stop no_case)) s in (ap select t.0, sym t.1)

pub else_is : (ks : List ℕ) (l : Tree) (cs ds : Cases) (made : Tree) → IsSplit ks l cs ds → ds ≡ and_case (truth true) stop no_case → made ≡ select cs → IsOne (IfElseStop ks) l made
else_is ks l cs ds made s e m = (
  moved IfElseStop ks l cs (and_case (truth true) stop no_case) (select cs) made
      (record { size = s.size; whole = s.whole ∙ ap (λ z. select (all_cases cs z)) e }) m (if_else_stop cs),
  (λ r d. (else_only ks l cs ds r s d).0 ∙ sym m),
)

pub else_never : (ks : List ℕ) (l : Tree) (cs ds : Cases) → IsSplit ks l cs ds → (ds ≡ and_case (truth true) stop no_case → ⊥) → (r : Tree) → IfElseStop ks l r → ⊥
else_never ks l cs ds s never r d = never (else_only ks l cs ds r s d).1

-- ---- if-cut

pub cut_only : (S : List (Name × Kind)) (ks : List ℕ) (l : Tree) (cs ds : Cases) (r : Tree) → IsSplit ks l cs ds → IfCut S ks l r
    → (r ≡ select cs) × AreFew S (conditions cs) × IsExhaustive (environment S) (conditions cs)
cut_only S ks l cs ds r s (if_cut es fs few exhaustive) =
    let t = one_split ks l es fs cs ds (itself es fs) s in
    (ap select t.0, subst (λ z. AreFew S (conditions z)) t.0 few, subst (λ z. IsExhaustive (environment S) (conditions z)) t.0 exhaustive)

pub cut_is : (S : List (Name × Kind)) (ks : List ℕ) (l : Tree) (cs ds : Cases) (made : Tree) → IsSplit ks l cs ds
    → AreFew S (conditions cs) × IsExhaustive (environment S) (conditions cs) → made ≡ select cs → IsOne (IfCut S ks) l made
cut_is S ks l cs ds made s h m = (moved (IfCut S) ks l cs ds (select cs) made s m (if_cut cs ds h.0 h.1), (λ r d. (cut_only S ks l cs ds r s d).0 ∙ sym m))

-- ---- if-nest

abbrev nested : Exp → Cases → Cases → Cases → Tree
nested b cs es ds = select (all_cases cs (all_cases (each_case_under b es) (and_case b stop ds)))

inner_are : {b c : Exp} {p : Tree} {es cs ds : Cases} → and_case b (select es) cs ≡ and_case c p ds → p ≡ select es
inner_are e = sym (first_process e)

nest_only : (ks : List ℕ) (l : Tree) (cs es ds : Cases) (b : Exp) (r : Tree) → IsSplit ks l cs (and_case b (select es) ds) → IfNest ks l r → r ≡ nested b cs es ds
nest_only ks l cs es ds b r s (if_nest fs gs hs c) =
    let t = one_split ks l fs (and_case c (select gs) hs) cs (and_case b (select es) ds) (itself fs (and_case c (select gs) hs)) s in
    ap (λ z. nested c z gs hs) t.0 ∙ ap (λ z. nested z cs gs hs) (first_condition t.1) ∙ ap (λ z. nested b cs z hs) (choices_are (first_process t.1))
    ∙ ap (λ z. nested b cs es z) (others t.1)

pub nest_is : (ks : List ℕ) (l : Tree) (cs es ds : Cases) (b : Exp) (p made : Tree) → IsSplit ks l cs (and_case b p ds) → p ≡ select es
    → made ≡ select (all_cases cs (all_cases (each_case_under b es) (and_case b stop ds))) → IsOne (IfNest ks) l made
nest_is ks l cs es ds b p made s e m = (
  moved IfNest ks l cs (and_case b (select es) ds) (nested b cs es ds) made there m (if_nest cs es ds b),
  (λ r d. nest_only ks l cs es ds b r there d ∙ sym m),
)
  where
    there : IsSplit ks l cs (and_case b (select es) ds)
    there = record { size = s.size; whole = s.whole ∙ ap (λ z. select (all_cases cs (and_case b z ds))) e }

pub nest_never : (ks : List ℕ) (l : Tree) (cs ds : Cases) (b : Exp) (p : Tree) → IsSplit ks l cs (and_case b p ds) → ((es : Cases) → p ≡ select es → ⊥)
    → (r : Tree) → IfNest ks l r → ⊥
nest_never ks l cs ds b p s never r (if_nest fs gs hs c) =
    let t = one_split ks l fs (and_case c (select gs) hs) cs (and_case b p ds) (itself fs (and_case c (select gs) hs)) s in never gs (inner_are t.1)

-- ---- if-swap

pub swap_only : (S : List (Name × Kind)) (ks : List ℕ) (l : Tree) (cs ds : Cases) (b c : Exp) (p q r : Tree) → IsSplit ks l cs (and_case b p (and_case c q ds)) → IfSwap S ks l r
    → (r ≡ select (all_cases cs (and_case c q (and_case b p ds)))) × AreFew S (b ∷ c ∷ []) × ExcludeEachOther (environment S) b c
swap_only S ks l cs ds b c p q r s (if_swap es fs d e u v few exclude) =
    let t = one_split ks l es (and_case d u (and_case e v fs)) cs (and_case b p (and_case c q ds)) (itself es (and_case d u (and_case e v fs))) s in
    let first : d ≡ b = first_condition t.1 in
    let second : e ≡ c = first_condition (others t.1) in (
      ap (λ z. select (all_cases z (and_case e v (and_case d u fs)))) t.0 ∙ ap (λ z. select (all_cases cs (and_case z v (and_case d u fs)))) second
          ∙ ap (λ z. select (all_cases cs (and_case c z (and_case d u fs)))) (first_process (others t.1)) ∙ ap (λ z. select (all_cases cs (and_case c q (and_case z u fs)))) first
          ∙ ap (λ z. select (all_cases cs (and_case c q (and_case b z fs)))) (first_process t.1) ∙ ap (λ z. select (all_cases cs (and_case c q (and_case b p z)))) (others (others t.1)),
      subst (λ z. AreFew S (b ∷ z ∷ [])) second (subst (λ z. AreFew S (z ∷ e ∷ [])) first few),
      subst (ExcludeEachOther (environment S) b) second (subst (λ z. ExcludeEachOther (environment S) z e) first exclude),
    )

pub swap_is : (S : List (Name × Kind)) (ks : List ℕ) (l : Tree) (cs ds : Cases) (b c : Exp) (p q made : Tree) → IsSplit ks l cs (and_case b p (and_case c q ds))
    → AreFew S (b ∷ c ∷ []) × ExcludeEachOther (environment S) b c → made ≡ select (all_cases cs (and_case c q (and_case b p ds))) → IsOne (IfSwap S ks) l made
swap_is S ks l cs ds b c p q made s h m = (
  moved (IfSwap S) ks l cs (and_case b p (and_case c q ds)) (select (all_cases cs (and_case c q (and_case b p ds)))) made s m (if_swap cs ds b c p q h.0 h.1),
  (λ r d. (swap_only S ks l cs ds b c p q r s d).0 ∙ sym m),
)

pub swap_alone : (S : List (Name × Kind)) (ks : List ℕ) (l : Tree) (cs ds : Cases) (b : Exp) (p : Tree) → IsSplit ks l cs (and_case b p ds)
    → ((c : Exp) (q : Tree) (es : Cases) → ds ≡ and_case c q es → ⊥) → (r : Tree) → IfSwap S ks l r → ⊥
swap_alone S ks l cs ds b p s never r (if_swap es fs d e u v few exclude) =
    let t = one_split ks l es (and_case d u (and_case e v fs)) cs (and_case b p ds) (itself es (and_case d u (and_case e v fs))) s in never e v fs (sym (others t.1))

-- ---- if-merge

merge_only : (ks : List ℕ) (l : Tree) (cs ds : Cases) (b c : Exp) (p q r : Tree) → IsSplit ks l cs (and_case b p (and_case c q ds)) → IfMerge ks l r
    → (r ≡ select (all_cases cs (and_case (operation Or b c) p ds))) × (p ≡ q)
merge_only ks l cs ds b c p q r s (if_merge es fs d e u) =
    let t = one_split ks l es (and_case d u (and_case e u fs)) cs (and_case b p (and_case c q ds)) (itself es (and_case d u (and_case e u fs))) s in (
      ap (λ z. select (all_cases z (and_case (operation Or d e) u fs))) t.0 ∙ ap (λ z. select (all_cases cs (and_case (operation Or z e) u fs))) (first_condition t.1)
          ∙ ap (λ z. select (all_cases cs (and_case (operation Or b z) u fs))) (first_condition (others t.1))
          ∙ ap (λ z. select (all_cases cs (and_case (operation Or b c) z fs))) (first_process t.1) ∙ ap (λ z. select (all_cases cs (and_case (operation Or b c) p z))) (others (others t.1)),
      sym (first_process t.1) ∙ first_process (others t.1),
    )

pub merge_is : (ks : List ℕ) (l : Tree) (cs ds : Cases) (b c : Exp) (p q made : Tree) → IsSplit ks l cs (and_case b p (and_case c q ds)) → p ≡ q
    → made ≡ select (all_cases cs (and_case (operation Or b c) p ds)) → IsOne (IfMerge ks) l made
merge_is ks l cs ds b c p q made s e m = (
  moved IfMerge ks l cs (and_case b p (and_case c p ds)) (select (all_cases cs (and_case (operation Or b c) p ds))) made
      (record { size = s.size; whole = s.whole ∙ ap (λ z. select (all_cases cs (and_case b p (and_case c z ds)))) (sym e) }) m (if_merge cs ds b c p),
  (λ r d. (merge_only ks l cs ds b c p q r s d).0 ∙ sym m),
)

pub merge_alone : (ks : List ℕ) (l : Tree) (cs ds : Cases) (b : Exp) (p : Tree) → IsSplit ks l cs (and_case b p ds)
    → ((c : Exp) (q : Tree) (es : Cases) → ds ≡ and_case c q es → ⊥) → (r : Tree) → IfMerge ks l r → ⊥
merge_alone ks l cs ds b p s never r (if_merge es fs d e u) =
    let t = one_split ks l es (and_case d u (and_case e u fs)) cs (and_case b p ds) (itself es (and_case d u (and_case e u fs))) s in never e u fs (sym (others t.1))

pub merge_never : (ks : List ℕ) (l : Tree) (cs ds : Cases) (b c : Exp) (p q : Tree) → IsSplit ks l cs (and_case b p (and_case c q ds)) → (p ≡ q → ⊥) → (r : Tree) → IfMerge ks l r → ⊥
merge_never ks l cs ds b c p q s never r d = never (merge_only ks l cs ds b c p q r s d).1
