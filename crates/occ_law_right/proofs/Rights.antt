-- The one instance of each law at a place.
use Rattle.std.proofs.Common.{◌≡◌, ℕ, true, List, [], ◌∷◌, ◌++◌, map, length, arith, refl, ap, sym, ◌∙◌, subst}
use Rattle.occ_syntax.specs.declared.expr.Expr.{Bool as TruthValue}
use Rattle.occ_syntax.specs.declared.expr.Guard.{Guard}
use Rattle.occ_syntax.specs.declared.expr.Wait.{Wait}
use Rattle.occ_syntax.specs.declared.proc.Proc.{Proc, Skip}
use Rattle.occ_syntax.specs.Tree.{Exp, truth, Waiting, input, output, Tree, skip, stop, assign, receive, send, seq, select, alt, Trees, no_tree, and_tree, Cases, Branches, no_branch, and_branch}
use Rattle.occ_syntax.specs.View.{branches, tree, trees, waiting}
use Rattle.occ_law_scope.specs.occ_meaning.Parallel.{all_of, one}
use Rattle.occ_law_scope.specs.occ_meaning.Substitution.{substituted}
use Rattle.occ_law_seq.specs.occ_law.Lists.{size, variables}
use Rattle.occ_law_seq.specs.occ_law.Sequence.{AssignAlt, AssignId, AssignIf, AssignJoin, IoAlt, SeqAlt, SeqFlat, SeqIf, SeqNone, SeqOne, SeqSkip, SeqStop}
use Rattle.occ_law_seq.specs.occ_law.Sequence.{assign_alt, assign_id, assign_if, assign_join, input_alt, output_alt, seq_alt, seq_flat, seq_if, seq_none, seq_one, seq_skip, seq_stop}
use Rattle.occ_law_seq.specs.occ_law.Sequence.{each_assigned, each_branch_before, each_case_before, each_guard_assigned, spare_inputs}
use Rattle.occ_law_seq.specs.Assignment.{assigned_then}
use Rattle.occ_law_seq.specs.Communication.{Communicates, receives, sends}
use Rattle.occ_law_right.specs.Chosen.{IsSplit}
use Rattle.occ_law_right.proofs.Parting.{itself, one_split, parts_are}

-- a right side, and no other
abbrev pub IsOne : (Tree → Tree → Type 0) → Tree → Tree → Type 0
IsOne D l made = D l made × ((r : Tree) → D l r → r ≡ made)

pub skip_is : tree Skip ≡ skip
unfolding tree
skip_is = refl

-- an instance at the same place, of the same part, with the same right side
put : (D : List ℕ → Tree → Tree → Type 0) (ks js : List ℕ) (l m made right : Tree) → ks ≡ js → l ≡ m → made ≡ right → D js m right → D ks l made
put D ks js l m made right e f g d = subst (λ z. D z l made) (sym e) (subst (λ z. D js z made) (sym f) (subst (D js m) (sym g) d))

-- ---- seq-none and seq-one

pub none_is : (ks : List ℕ) (l made : Tree) (ps : Trees) → ks ≡ [] → l ≡ seq ps → ps ≡ no_tree → made ≡ skip → IsOne (SeqNone ks) l made
none_is ks l made ps e f g m = (put SeqNone ks [] l (seq no_tree) made skip e (f ∙ ap seq g) m seq_none, (λ r h. only ks l r h ∙ sym m))
  where
    only : (ks : List ℕ) (l r : Tree) → SeqNone ks l r → r ≡ skip
    only ks l r seq_none = refl

pub none_never : (ks : List ℕ) (l : Tree) (ps : Trees) → l ≡ seq ps → (ps ≡ no_tree → ⊥) → (r : Tree) → SeqNone ks l r → ⊥
none_never ks l ps e never r h = never (empty ks l r ps e h)
  where
    empty : (ks : List ℕ) (l r : Tree) (ps : Trees) → l ≡ seq ps → SeqNone ks l r → ps ≡ no_tree
    empty ks l r ps e seq_none = sym (parts_are e)

pub empty_parts : (parts : List Proc) → length parts ≡ 0 → trees parts ≡ no_tree
empty_parts [] h = refl
empty_parts (p ∷ ps) h = absurd (omega (arith, h))

one_part : (ks : List ℕ) (l r : Tree) (ps : Trees) → l ≡ seq ps → SeqOne ks l r → ps ≡ one r
one_part ks l r ps e (seq_one p) = sym (parts_are e)

one_inner : (p q : Tree) → one p ≡ one q → p ≡ q
one_inner p q e = cc

pub one_is : (ks : List ℕ) (l made : Tree) (ps : Trees) (p : Tree) → ks ≡ [] → l ≡ seq ps → ps ≡ one p → made ≡ p → IsOne (SeqOne ks) l made
one_is ks l made ps p e f g m = (put SeqOne ks [] l (seq (one p)) made p e (f ∙ ap seq g) m (seq_one p), (λ r h. one_inner r p (sym (one_part ks l r ps f h) ∙ g) ∙ sym m))

-- ---- seq-flat, seq-skip and seq-stop

same_split : (ks : List ℕ) (l : Tree) (ps : Trees) (p : Tree) (qs : Trees) → IsSplit ks l ps p qs → (q : Tree) → p ≡ q → IsSplit ks l ps q qs
same_split ks l ps p qs s q e = record { sizes = s.sizes; whole = s.whole ∙ ap (λ z. seq (all_of ps (and_tree z qs))) e }

flat_only : (ks : List ℕ) (l r : Tree) (ps qs rs : Trees) → IsSplit ks l ps (seq qs) rs → SeqFlat ks l r → r ≡ seq (all_of ps (all_of qs rs))
flat_only ks l r ps qs rs s (seq_flat us bs ds) =
    let t = one_split (size us ∷ []) (seq (all_of us (and_tree (seq bs) ds))) us ds ps rs (seq bs) (seq qs) (itself us (seq bs) ds) s in
    ap (λ z. seq (all_of z (all_of bs ds))) t.0 ∙ ap (λ z. seq (all_of ps (all_of z ds))) (parts_are t.1) ∙ ap (λ z. seq (all_of ps (all_of qs z))) t.2

pub flat_is : (ks : List ℕ) (l made : Tree) (ps : Trees) (p : Tree) (qs rs : Trees) → IsSplit ks l ps p rs → p ≡ seq qs → made ≡ seq (all_of ps (all_of qs rs)) → IsOne (SeqFlat ks) l made
flat_is ks l made ps p qs rs s e m =
    let t = same_split ks l ps p rs s (seq qs) e in
    (put SeqFlat ks (size ps ∷ []) l (seq (all_of ps (and_tree (seq qs) rs))) made (seq (all_of ps (all_of qs rs))) t.sizes t.whole m (seq_flat ps qs rs), (λ r h. flat_only ks l r ps qs rs t h ∙ sym m))

pub flat_never : (ks : List ℕ) (l : Tree) (ps : Trees) (p : Tree) (rs : Trees) → IsSplit ks l ps p rs → ((qs : Trees) → p ≡ seq qs → ⊥) → (r : Tree) → SeqFlat ks l r → ⊥
flat_never ks l ps p rs s never r (seq_flat us bs ds) =
    let t = one_split (size us ∷ []) (seq (all_of us (and_tree (seq bs) ds))) us ds ps rs (seq bs) p (itself us (seq bs) ds) s in never bs (sym t.1)

skip_only : (ks : List ℕ) (l r : Tree) (ps : Trees) (p : Tree) (qs : Trees) → IsSplit ks l ps p qs → SeqSkip ks l r → (p ≡ skip) × (r ≡ seq (all_of ps qs))
skip_only ks l r ps p qs s (seq_skip us bs) =
    let t = one_split (size us ∷ []) (seq (all_of us (and_tree skip bs))) us bs ps qs skip p (itself us skip bs) s in
    (sym t.1, ap (λ z. seq (all_of z bs)) t.0 ∙ ap (λ z. seq (all_of ps z)) t.2)

pub skip_right : (ks : List ℕ) (l made : Tree) (ps : Trees) (p : Tree) (qs : Trees) → IsSplit ks l ps p qs → p ≡ skip → made ≡ seq (all_of ps qs) → IsOne (SeqSkip ks) l made
skip_right ks l made ps p qs s e m =
    let t = same_split ks l ps p qs s skip e in
    (put SeqSkip ks (size ps ∷ []) l (seq (all_of ps (and_tree skip qs))) made (seq (all_of ps qs)) t.sizes t.whole m (seq_skip ps qs), (λ r h. (skip_only ks l r ps p qs s h).1 ∙ sym m))

pub skip_never : (ks : List ℕ) (l : Tree) (ps : Trees) (p : Tree) (qs : Trees) → IsSplit ks l ps p qs → (p ≡ skip → ⊥) → (r : Tree) → SeqSkip ks l r → ⊥
skip_never ks l ps p qs s never r h = never (skip_only ks l r ps p qs s h).0

stop_only : (ks : List ℕ) (l r : Tree) (ps : Trees) (p : Tree) (qs : Trees) → IsSplit ks l ps p qs → SeqStop ks l r → (p ≡ stop) × (r ≡ seq (all_of ps (one stop)))
stop_only ks l r ps p qs s (seq_stop us bs) =
    let t = one_split (size us ∷ []) (seq (all_of us (and_tree stop bs))) us bs ps qs stop p (itself us stop bs) s in
    (sym t.1, ap (λ z. seq (all_of z (one stop))) t.0)

pub stop_right : (ks : List ℕ) (l made : Tree) (ps : Trees) (p : Tree) (qs : Trees) → IsSplit ks l ps p qs → p ≡ stop → made ≡ seq (all_of ps (one stop)) → IsOne (SeqStop ks) l made
stop_right ks l made ps p qs s e m =
    let t = same_split ks l ps p qs s stop e in
    (put SeqStop ks (size ps ∷ []) l (seq (all_of ps (and_tree stop qs))) made (seq (all_of ps (one stop))) t.sizes t.whole m (seq_stop ps qs), (λ r h. (stop_only ks l r ps p qs s h).1 ∙ sym m))

pub stop_never : (ks : List ℕ) (l : Tree) (ps : Trees) (p : Tree) (qs : Trees) → IsSplit ks l ps p qs → (p ≡ stop → ⊥) → (r : Tree) → SeqStop ks l r → ⊥
stop_never ks l ps p qs s never r h = never (stop_only ks l r ps p qs s h).0

-- ---- assign-id and assign-join

id_to : (ks : List ℕ) (l r : Tree) (xs : List ℕ) (es : List Exp) → l ≡ assign xs es → AssignId ks l r → (es ≡ variables xs) × (r ≡ skip)
id_to ks l r xs es e (assign_id zs) =
    let g : zs ≡ xs = cc in
    let h : variables zs ≡ es = cc in (sym h ∙ ap variables g, refl)

pub id_is : (ks : List ℕ) (l made : Tree) (xs : List ℕ) (es : List Exp) → ks ≡ [] → l ≡ assign xs es → es ≡ variables xs → made ≡ skip → IsOne (AssignId ks) l made
id_is ks l made xs es e f g m =
    (put AssignId ks [] l (assign xs (variables xs)) made skip e (f ∙ ap (assign xs) g) m (assign_id xs), (λ r h. (id_to ks l r xs es f h).1 ∙ sym m))

join_second : (ks : List ℕ) (l r : Tree) (xs : List ℕ) (es : List Exp) (q : Tree) → l ≡ assigned_then xs es q → AssignJoin ks l r
    → (fs : List Exp) × (q ≡ assign xs fs) × (r ≡ assign xs (map (substituted xs es) fs))
join_second ks l r xs es q e (assign_join us vs ws) =
    let a : us ≡ xs = cc in
    let b : vs ≡ es = cc in
    let d : q ≡ assign us ws = cc in
    (ws, d ∙ ap (λ z. assign z ws) a, ap (λ z. assign z (map (substituted z vs) ws)) a ∙ ap (λ z. assign xs (map (substituted xs z) ws)) b)

assigns : (xs ys : List ℕ) (es fs : List Exp) → assign xs es ≡ assign ys fs → (xs ≡ ys) × (es ≡ fs)
assigns xs ys es fs e = let a : xs ≡ ys = cc in let b : es ≡ fs = cc in (a, b)

pub join_is : (ks : List ℕ) (l made : Tree) (xs ys : List ℕ) (es fs : List Exp) (q : Tree) → ks ≡ [] → l ≡ assigned_then xs es q → q ≡ assign ys fs → ys ≡ xs
    → made ≡ assign xs (map (substituted xs es) fs) → IsOne (AssignJoin ks) l made
join_is ks l made xs ys es fs q e f g h m = (
  put AssignJoin ks [] l (assigned_then xs es (assign xs fs)) made (assign xs (map (substituted xs es) fs)) e (f ∙ ap (assigned_then xs es) (g ∙ ap (λ z. assign z fs) h)) m (assign_join xs es fs),
  (λ r d. let k = join_second ks l r xs es q f d in k.2 ∙ ap (λ z. assign xs (map (substituted xs es) z)) (assigns xs ys k.0 fs (sym k.1 ∙ g)).1 ∙ sym m),
)

-- ---- assign-if and assign-alt

selects : (cs ds : Cases) → select cs ≡ select ds → cs ≡ ds
selects cs ds e = cc

alts : (gs hs : Branches) → alt gs ≡ alt hs → gs ≡ hs
alts gs hs e = cc

if_second : (ks : List ℕ) (l r : Tree) (xs : List ℕ) (es : List Exp) (q : Tree) → l ≡ assigned_then xs es q → AssignIf ks l r → (cs : Cases) × (q ≡ select cs) × (r ≡ select (each_assigned xs es cs))
if_second ks l r xs es q e (assign_if us vs bs) =
    let a : us ≡ xs = cc in
    let b : vs ≡ es = cc in
    let d : q ≡ select bs = cc in
    (bs, d, ap (λ z. select (each_assigned z vs bs)) a ∙ ap (λ z. select (each_assigned xs z bs)) b)

pub if_is : (ks : List ℕ) (l made : Tree) (xs : List ℕ) (es : List Exp) (q : Tree) (cs : Cases) → ks ≡ [] → l ≡ assigned_then xs es q → q ≡ select cs → made ≡ select (each_assigned xs es cs)
    → IsOne (AssignIf ks) l made
if_is ks l made xs es q cs e f g m = (
  put AssignIf ks [] l (assigned_then xs es (select cs)) made (select (each_assigned xs es cs)) e (f ∙ ap (assigned_then xs es) g) m (assign_if xs es cs),
  (λ r d. let k = if_second ks l r xs es q f d in k.2 ∙ ap (λ z. select (each_assigned xs es z)) (selects k.0 cs (sym k.1 ∙ g)) ∙ sym m),
)

alt_second : (ks : List ℕ) (l r : Tree) (xs : List ℕ) (es : List Exp) (q : Tree) → l ≡ assigned_then xs es q → AssignAlt ks l r
    → (gs : Branches) × (q ≡ alt gs) × (spare_inputs xs es gs ≡ true) × (r ≡ alt (each_guard_assigned xs es gs))
alt_second ks l r xs es q e (assign_alt us vs bs spared) =
    let a : us ≡ xs = cc in
    let b : vs ≡ es = cc in
    let d : q ≡ alt bs = cc in (
      bs,
      d,
      sym (ap (λ z. spare_inputs z vs bs) a ∙ ap (λ z. spare_inputs xs z bs) b) ∙ spared,
      ap (λ z. alt (each_guard_assigned z vs bs)) a ∙ ap (λ z. alt (each_guard_assigned xs z bs)) b,
    )

pub alt_is : (ks : List ℕ) (l made : Tree) (xs : List ℕ) (es : List Exp) (q : Tree) (gs : Branches) → ks ≡ [] → l ≡ assigned_then xs es q → q ≡ alt gs → spare_inputs xs es gs ≡ true
    → made ≡ alt (each_guard_assigned xs es gs) → IsOne (AssignAlt ks) l made
alt_is ks l made xs es q gs e f g spared m = (
  put AssignAlt ks [] l (assigned_then xs es (alt gs)) made (alt (each_guard_assigned xs es gs)) e (f ∙ ap (assigned_then xs es) g) m (assign_alt xs es gs spared),
  (λ r d. let k = alt_second ks l r xs es q f d in k.3 ∙ ap (λ z. alt (each_guard_assigned xs es z)) (alts k.0 gs (sym k.1 ∙ g)) ∙ sym m),
)

-- ---- seq-if and seq-alt

first_of : (p q : Tree) (ps qs : Trees) → and_tree p ps ≡ and_tree q qs → (p ≡ q) × (ps ≡ qs)
first_of p q ps qs e = let a : p ≡ q = cc in let b : ps ≡ qs = cc in (a, b)

case_first : (ks : List ℕ) (l r : Tree) (ps : Trees) → l ≡ seq ps → SeqIf ks l r → (cs : Cases) × (qs : Trees) × (ps ≡ and_tree (select cs) qs) × (r ≡ select (each_case_before cs qs))
case_first ks l r ps e (seq_if cs qs) = (cs, qs, sym (parts_are e), refl)

pub before_is : (ks : List ℕ) (l made : Tree) (ps : Trees) (p : Tree) (qs : Trees) (cs : Cases) → ks ≡ [] → l ≡ seq ps → ps ≡ and_tree p qs → p ≡ select cs
    → made ≡ select (each_case_before cs qs) → IsOne (SeqIf ks) l made
before_is ks l made ps p qs cs e f g h m = (
  put SeqIf ks [] l (seq (and_tree (select cs) qs)) made (select (each_case_before cs qs)) e (f ∙ ap seq (g ∙ ap (λ z. and_tree z qs) h)) m (seq_if cs qs),
  (λ r d.
      let k = case_first ks l r ps f d in
      let t = first_of (select k.0) p k.1 qs (sym k.2 ∙ g) in
      k.3 ∙ ap (λ z. select (each_case_before z k.1)) (selects k.0 cs (t.0 ∙ h)) ∙ ap (λ z. select (each_case_before cs z)) t.1 ∙ sym m),
)

branch_first : (ks : List ℕ) (l r : Tree) (ps : Trees) → l ≡ seq ps → SeqAlt ks l r → (gs : Branches) × (qs : Trees) × (ps ≡ and_tree (alt gs) qs) × (r ≡ alt (each_branch_before gs qs))
branch_first ks l r ps e (seq_alt gs qs) = (gs, qs, sym (parts_are e), refl)

pub waiting_is : (ks : List ℕ) (l made : Tree) (ps : Trees) (p : Tree) (qs : Trees) (gs : Branches) → ks ≡ [] → l ≡ seq ps → ps ≡ and_tree p qs → p ≡ alt gs
    → made ≡ alt (each_branch_before gs qs) → IsOne (SeqAlt ks) l made
waiting_is ks l made ps p qs gs e f g h m = (
  put SeqAlt ks [] l (seq (and_tree (alt gs) qs)) made (alt (each_branch_before gs qs)) e (f ∙ ap seq (g ∙ ap (λ z. and_tree z qs) h)) m (seq_alt gs qs),
  (λ r d.
      let k = branch_first ks l r ps f d in
      let t = first_of (alt k.0) p k.1 qs (sym k.2 ∙ g) in
      k.3 ∙ ap (λ z. alt (each_branch_before z k.1)) (alts k.0 gs (t.0 ∙ h)) ∙ ap (λ z. alt (each_branch_before gs z)) t.1 ∙ sym m),
)

-- ---- io-alt

-- the ALT that waits and then ends
abbrev pub ending : Waiting → Tree
ending w = alt (and_branch (truth true) w skip no_branch)

made_of : (l : Tree) (w : Waiting) → Communicates l w → IoAlt [] l (ending w)
made_of l w (receives c x) = input_alt c x
made_of l w (sends c e) = output_alt c e

waited : (ks : List ℕ) (l r : Tree) → IoAlt ks l r → (w : Waiting) × Communicates l w × (r ≡ ending w)
waited ks l r (output_alt c e) = (_, sends c e, refl)
waited ks l r (input_alt c x) = (_, receives c x, refl)

same_wait : (l m : Tree) (v w : Waiting) → l ≡ m → Communicates l v → Communicates m w → v ≡ w
same_wait l m v w e (receives c x) (receives d y) = cc
same_wait l m v w e (receives c x) (sends d f) = cc
same_wait l m v w e (sends c f) (receives d y) = cc
same_wait l m v w e (sends c f) (sends d g) = cc

pub io_is : (ks : List ℕ) (l made : Tree) (w : Waiting) → ks ≡ [] → Communicates l w → made ≡ ending w → IsOne (IoAlt ks) l made
io_is ks l made w e h m = (
  put IoAlt ks [] l l made (ending w) e refl m (made_of l w h),
  (λ r d. let k = waited ks l r d in k.2 ∙ ap ending (same_wait l l k.0 w refl k.1 h) ∙ sym m),
)

pub receives_as : (p : Tree) (c x : ℕ) → receive c x ≡ p → Communicates p (input c x)
receives_as p c x e = subst (λ z. Communicates z (input c x)) e (receives c x)

pub sends_as : (p : Tree) (c : ℕ) (f : Exp) → send c f ≡ p → Communicates p (output c f)
sends_as p c f e = subst (λ z. Communicates z (output c f)) e (sends c f)

pub alone : (before after : List (Guard × Proc)) (w : Wait) → after ≡ before ++ (record { condition = TruthValue true; wait = w }, Skip) ∷ [] → before ≡ []
    → alt (branches after) ≡ ending (waiting w)
unfolding tree
alone before after w e f = ap (λ z. alt (branches z)) (e ∙ ap (λ z. z ++ (record { condition = TruthValue true; wait = w }, Skip) ∷ []) f)

pub io_never : (ks : List ℕ) (l : Tree) → ((w : Waiting) → Communicates l w → ⊥) → (r : Tree) → IoAlt ks l r → ⊥
io_never ks l never r d = let k = waited ks l r d in never k.0 k.1
