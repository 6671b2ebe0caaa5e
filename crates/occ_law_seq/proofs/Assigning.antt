-- assign-id, assign-pad, assign-join, assign-if and assign-alt by the pairs of the assignments.
use Rattle.std.proofs.Common.{◌≡◌, ℕ, ◌↔◌, Bool, IsTrue, true, false, true≢false, List, [], ◌∷◌, ◌++◌, map, refl, ap, sym, ◌∙◌, subst}
use Rattle.occ_law_shape.specs.occ_meaning.Parallel.{two}
use Rattle.occ_law_shape.specs.occ_meaning.Substitution.{substituted}
use Rattle.occ_syntax.specs.Names.{is_in}
use Rattle.occ_syntax.specs.Tree.{Exp, variable, Waiting, Tree, skip, assign, seq, select, alt, Cases, no_case, and_case, Branches, no_branch, and_branch}
use Rattle.occ_law_shape.specs.occ_law.Lists.{variables}
use Rattle.occ_law_shape.specs.occ_law.Sequence.{AssignAlt, AssignId, AssignIf, AssignJoin, AssignPad, assign_alt, assign_id, assign_if, assign_join, assign_pad, assigned_behind, each_assigned, each_guard_assigned, spare_inputs, substituted_waiting}
use Rattle.occ_law_shape.specs.Pieces.{each_branch, each_choice}
use Rattle.occ_law_seq.specs.Assignment.{IsJoined, IsPadded, assigned_then}

-- ---- assign-id

id_to : (l r : Tree) (place : List ℕ) → AssignId place l r → (xs : List ℕ) (es : List Exp) → assign xs es ≡ l → es ≡ variables xs
id_to l r place (assign_id zs) xs es e =
    let g : xs ≡ zs = cc in
    let h : es ≡ variables zs = cc in h ∙ ap variables (sym g)

-- assign-id where the right sides are the variables
pub id_law : (l r : Tree) (xs : List ℕ) (es : List Exp) (b : Bool) → assign xs es ≡ l → skip ≡ r → (IsTrue b ↔ (es ≡ variables xs)) → IsTrue b ↔ ((place : List ℕ) × AssignId place l r)
id_law l r xs es b e g test = (
  (λ h. ([], subst (λ z. AssignId [] z r) e (subst (λ z. AssignId [] (assign xs z) r) (sym (test.0 h)) (subst (λ z. AssignId [] (assign xs (variables xs)) z) g (assign_id xs))))),
  (λ k. test.1 (id_to l r k.0 k.1 xs es e)),
)

-- ---- assign-pad

pad_to : (l r : Tree) (place : List ℕ) → AssignPad place l r → (xs ys : List ℕ) (es fs : List Exp) → assign xs es ≡ l → assign ys fs ≡ r → IsPadded xs es ys fs
pad_to l r place (assign_pad zs gs y new) xs ys es fs e g =
    let a : xs ≡ zs = cc in
    let c : es ≡ gs = cc in
    let u : ys ≡ zs ++ y ∷ [] = cc in
    let v : fs ≡ gs ++ variable y ∷ [] = cc in
    record { pad = y; new = ap (λ z. is_in z y) a ∙ new; vars = u ∙ ap (λ z. z ++ y ∷ []) (sym a); values = v ∙ ap (λ z. z ++ variable y ∷ []) (sym c) }

-- assign-pad where the pairs of the right side are padded
pub pad_law : (l r : Tree) (xs ys : List ℕ) (es fs : List Exp) (b : Bool) → assign xs es ≡ l → assign ys fs ≡ r → (IsTrue b ↔ IsPadded xs es ys fs)
    → IsTrue b ↔ ((place : List ℕ) × AssignPad place l r)
pad_law l r xs ys es fs b e g test = ((λ h. from (test.0 h)), (λ k. test.1 (pad_to l r k.0 k.1 xs ys es fs e g)))
  where
    from : IsPadded xs es ys fs → (place : List ℕ) × AssignPad place l r
    from p = (
      [],
      subst (λ z. AssignPad [] z r) e (subst (λ z. AssignPad [] (assign xs es) z) (ap (λ z. assign z (es ++ variable p.pad ∷ [])) (sym p.vars) ∙ ap (assign ys) (sym p.values) ∙ g)
          (assign_pad xs es p.pad p.new)),
    )

-- ---- assign-join

join_to : (l r : Tree) (place : List ℕ) → AssignJoin place l r → (xs ys zs : List ℕ) (es fs gs : List Exp) → assigned_then xs es (assign ys fs) ≡ l → assign zs gs ≡ r → IsJoined xs es ys fs zs gs
join_to l r place (assign_join us vs ws) xs ys zs es fs gs e g =
    let a : xs ≡ us = cc in
    let b : es ≡ vs = cc in
    let c : ys ≡ us = cc in
    let d : fs ≡ ws = cc in
    let f : zs ≡ us = cc in
    let h : gs ≡ map (substituted us vs) ws = cc in
    record { second = c ∙ sym a; vars = f ∙ sym a; values = h ∙ ap (λ z. map (substituted z vs) ws) (sym a) ∙ ap (λ z. map (substituted xs z) ws) (sym b) ∙ ap (map (substituted xs es)) (sym d) }

-- assign-join where both assignments behind the first one have its variables
pub join_law : (q r : Tree) (xs ys zs : List ℕ) (es fs gs : List Exp) (b : Bool) → assign ys fs ≡ q → assign zs gs ≡ r → (IsTrue b ↔ IsJoined xs es ys fs zs gs)
    → IsTrue b ↔ ((place : List ℕ) × AssignJoin place (assigned_then xs es q) r)
join_law q r xs ys zs es fs gs b e g test = (
  (λ h. from (test.0 h)),
  (λ k. test.1 (join_to (assigned_then xs es q) r k.0 k.1 xs ys zs es fs gs (ap (assigned_then xs es) e) g)),
)
  where
    from : IsJoined xs es ys fs zs gs → (place : List ℕ) × AssignJoin place (assigned_then xs es q) r
    from p = (
      [],
      subst (λ z. AssignJoin [] (assigned_then xs es z) r) (ap (λ z. assign z fs) (sym p.second) ∙ e)
          (subst (λ z. AssignJoin [] (assigned_then xs es (assign xs fs)) z) (ap (assign xs) (sym p.values) ∙ ap (λ z. assign z gs) (sym p.vars) ∙ g) (assign_join xs es fs)),
    )

-- ---- assign-if

pieces_if : (xs : List ℕ) (es : List Exp) (cs : Cases) → each_choice (substituted xs es) (assigned_then xs es) cs ≡ each_assigned xs es cs
pieces_if xs es no_case = refl
pieces_if xs es (and_case b p cs) = ap (and_case (substituted xs es b) (assigned_then xs es p)) (pieces_if xs es cs)

if_to : (l r : Tree) (place : List ℕ) → AssignIf place l r → (xs : List ℕ) (es : List Exp) (cs ds : Cases) → assigned_then xs es (select cs) ≡ l → select ds ≡ r → ds ≡ each_assigned xs es cs
if_to l r place (assign_if us vs bs) xs es cs ds e g =
    let a : us ≡ xs = cc in
    let b : vs ≡ es = cc in
    let c : bs ≡ cs = cc in
    let d : ds ≡ each_assigned us vs bs = cc in
    d ∙ ap (λ z. each_assigned z vs bs) a ∙ ap (λ z. each_assigned xs z bs) b ∙ ap (each_assigned xs es) c

-- assign-if where the other choices are made of the choices
pub if_assigned_law : (q r : Tree) (xs : List ℕ) (es : List Exp) (cs ds : Cases) → select cs ≡ q → select ds ≡ r
    → (ds ≡ each_choice (substituted xs es) (assigned_then xs es) cs) ↔ ((place : List ℕ) × AssignIf place (assigned_then xs es q) r)
if_assigned_law q r xs es cs ds e g = (
  (λ h. ([], subst (λ z. AssignIf [] (assigned_then xs es z) r) e (subst (λ z. AssignIf [] (assigned_then xs es (select cs)) z) (ap select (sym (h ∙ pieces_if xs es cs)) ∙ g) (assign_if xs es cs)))),
  (λ k. if_to (assigned_then xs es q) r k.0 k.1 xs es cs ds (ap (assigned_then xs es) e) g ∙ sym (pieces_if xs es cs)),
)

-- ---- assign-alt

-- what is made of a guard's process
abbrev pub behind_guard : List ℕ → List Exp → Waiting → Tree → Tree
behind_guard xs es w p = seq (two (assigned_behind xs es w) p)

pieces_alt : (xs : List ℕ) (es : List Exp) (gs : Branches) → each_branch (substituted xs es) (substituted_waiting xs es) (behind_guard xs es) gs ≡ each_guard_assigned xs es gs
pieces_alt xs es no_branch = refl
pieces_alt xs es (and_branch b w p gs) = ap (and_branch (substituted xs es b) (substituted_waiting xs es w) (behind_guard xs es w p)) (pieces_alt xs es gs)

record Assigned (xs : List ℕ) (es : List Exp) (gs hs : Branches) : Type 0 where
  spared : spare_inputs xs es gs ≡ true
  made : hs ≡ each_guard_assigned xs es gs

alt_to : (l r : Tree) (place : List ℕ) → AssignAlt place l r → (xs : List ℕ) (es : List Exp) (gs hs : Branches) → assigned_then xs es (alt gs) ≡ l → alt hs ≡ r → Assigned xs es gs hs
alt_to l r place (assign_alt us vs bs k) xs es gs hs e g =
    let a : us ≡ xs = cc in
    let b : vs ≡ es = cc in
    let c : bs ≡ gs = cc in
    let d : hs ≡ each_guard_assigned us vs bs = cc in
    record {
      spared = sym (ap (λ z. spare_inputs z vs bs) a ∙ ap (λ z. spare_inputs xs z bs) b ∙ ap (spare_inputs xs es) c) ∙ k;
      made = d ∙ ap (λ z. each_guard_assigned z vs bs) a ∙ ap (λ z. each_guard_assigned xs z bs) b ∙ ap (each_guard_assigned xs es) c;
    }

-- assign-alt where the branches spare what they input, and the other branches are made of them
pub alt_assigned_law : (q r : Tree) (xs : List ℕ) (es : List Exp) (gs hs : Branches) → alt gs ≡ q → alt hs ≡ r → spare_inputs xs es gs ≡ true
    → (hs ≡ each_branch (substituted xs es) (substituted_waiting xs es) (behind_guard xs es) gs) ↔ ((place : List ℕ) × AssignAlt place (assigned_then xs es q) r)
alt_assigned_law q r xs es gs hs e g spared = (
  (λ h. ([], subst (λ z. AssignAlt [] (assigned_then xs es z) r) e (subst (λ z. AssignAlt [] (assigned_then xs es (alt gs)) z) (ap alt (sym (h ∙ pieces_alt xs es gs)) ∙ g) (assign_alt xs es gs spared)))),
  (λ k. (alt_to (assigned_then xs es q) r k.0 k.1 xs es gs hs (ap (assigned_then xs es) e) g).made ∙ sym (pieces_alt xs es gs)),
)

-- the branches spare what they input
pub alt_spared : (q r : Tree) (xs : List ℕ) (es : List Exp) (gs hs : Branches) → alt gs ≡ q → alt hs ≡ r → spare_inputs xs es gs ≡ false
    → (place : List ℕ) × AssignAlt place (assigned_then xs es q) r → ⊥
alt_spared q r xs es gs hs e g spared k = true≢false (sym (alt_to (assigned_then xs es q) r k.0 k.1 xs es gs hs (ap (assigned_then xs es) e) g).spared ∙ spared)
