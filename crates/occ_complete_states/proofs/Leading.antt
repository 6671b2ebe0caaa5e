-- One part leads to another: by laws, one after the other, and inside other parts.
use Rattle.std.proofs.Common.{◌≡◌, ℕ, zero, suc, false, true, List, [], ◌∷◌, ◌++◌, Option, None, Some, refl, sym, subst}
use Rattle.std.proofs.lemmas.List.{append-nil, append_assoc}
use Rattle.std.specs.List.{AllByRecursion}
use Rattle.std.specs.Option.{option_and_then, option_map, unwrap_or}
use Rattle.occ_derive_laws.specs.occ_base.declared.names.Name.{Name}
use Rattle.occ_derive_laws.specs.occ_base.declared.width.Width.{Width}
use Rattle.occ_complete_states.specs.Leads.{Leads, LeadsSparing}
use Rattle.occ_derive_laws.proofs.Using.{uses_itself, uses_through}
use Rattle.occ_derive_laws.proofs.from_derive_moves.Keeping.{works_keep}
use Rattle.occ_derive_laws.proofs.from_derive_moves.Lifting.{go_on, spares_down, spares_work, works_down}
use Rattle.occ_derive_laws.specs.occ_derive_moves.Moves.{Spares, all_under, and_use, in_the_open, is_par, no_use}
use Rattle.occ_derive_laws.specs.occ_replay_rules.Moves.{Move}
use Rattle.occ_derive_laws.specs.occ_law.RuleTable.{LAW}
use Rattle.occ_derive_laws.proofs.from_meaning.Facts.{none_not_some, some_is}
use Rattle.occ_derive_laws.specs.occ_meaning.Context.{child, part_at, put, with_child}
use Rattle.occ_derive_laws.specs.occ_replay_rules.Steps.{Joins}
use Rattle.occ_derive_laws.specs.occ_script_lines.declared.direction.Direction.{Direction}
use Rattle.occ_derive_laws.specs.occ_script_lines.declared.direction.Direction.TheVariants as direction
use Rattle.occ_derive_laws.specs.occ_script_lines.Places.{declared_by}
use Rattle.occ_derive_laws.specs.occ_syntax.declared.scope.Kind.{Kind}
use Rattle.occ_derive_laws.specs.occ_syntax.declared.scope.Kind.TheVariants.{Chan, Var}
use Rattle.occ_derive_laws.specs.occ_syntax.Declarations.{declaring, declaring_all}
use Rattle.occ_derive_laws.specs.occ_syntax.Scopes.{environment}
use Rattle.occ_derive_laws.specs.occ_syntax.Tree.{Tree, Trees, and_tree, connect, declare, par, seq}
use Rattle.occ_derive_laws.specs.occ_syntax.Types.{scope_kept}
use Rattle.occ_derive_laws.specs.occ_syntax.Usage.{Keeps}
use Rattle.occ_derive_laws.specs.occ_target_laws.Bodies.{IsVariable}
use Rattle.occ_derive_laws.proofs.from_usage.Putting.{child_use}
use Rattle.occ_derive_laws.specs.occ_usage.Local.{UsesNoMore}

-- ---- no law, and one after the other

pub leads_itself : (S : List (Name × Kind)) (p : Tree) → Leads S p p
leads_itself S p = record { moves = []; row = no_use p }

pub leads_on : (S : List (Name × Kind)) {p q r : Tree} → Leads S p q → Leads S q r → Leads S p r
leads_on S {p} {q} {r} a b = record { moves = a.moves ++ b.moves; row = go_on p q r a.moves b.moves a.row b.row }

pub spares_itself : (S : List (Name × Kind)) (p : Tree) → LeadsSparing S p p
spares_itself S p = record { moves = []; row = no_use p }

pub spares_on : (S : List (Name × Kind)) {p q r : Tree} → LeadsSparing S p q → LeadsSparing S q r → LeadsSparing S p r
spares_on S {p} {q} {r} a b = record { moves = a.moves ++ b.moves; row = go_on p q r a.moves b.moves a.row b.row }

pub sparing_leads : (S : List (Name × Kind)) {p q : Tree} → LeadsSparing S p q → Leads S p q
sparing_leads S {p} {q} a = record { moves = a.moves; row = spares_work S p q a.moves a.row }

-- ---- by one law

joins_lead : (S : List (Name × Kind)) (n : ℕ) (dir : Direction) {p q : Tree} → Joins dir n S p q → Leads S p q
joins_lead S n dir {p} {q} j = record {
  moves = record { law = n; dir = dir; path = []; part = q } ∷ [];
  row = and_use p q (record { law = n; dir = dir; path = []; part = q }) [] (in_the_open (record { old = p; there = refl; joins = j }) refl) (no_use q);
}

pub law_leads : (S : List (Name × Kind)) (n : ℕ) {p q : Tree} → LAW n S p q → Leads S p q
law_leads S n j = joins_lead S n direction.Forward j

pub law_leads_back : (S : List (Name × Kind)) (n : ℕ) {p q : Tree} → LAW n S q p → Leads S p q
law_leads_back S n j = joins_lead S n direction.Backward j

joins_spare : (S : List (Name × Kind)) (n : ℕ) (dir : Direction) {p q : Tree} → Joins dir n S p q → UsesNoMore q p → LeadsSparing S p q
joins_spare S n dir {p} {q} j u = record {
  moves = record { law = n; dir = dir; path = []; part = q } ∷ [];
  row = and_use p q (record { law = n; dir = dir; path = []; part = q }) [] (record { use_is = record { old = p; there = refl; joins = j }; spares = u }) (no_use q);
}

pub law_spares : (S : List (Name × Kind)) (n : ℕ) {p q : Tree} → LAW n S p q → UsesNoMore q p → LeadsSparing S p q
law_spares S n j u = joins_spare S n direction.Forward j u

pub law_spares_back : (S : List (Name × Kind)) (n : ℕ) {p q : Tree} → LAW n S q p → UsesNoMore q p → LeadsSparing S p q
law_spares_back S n j u = joins_spare S n direction.Backward j u

-- ---- what is kept

pub leads_keep : (S : List (Name × Kind)) {p q : Tree} → scope_kept S ≡ true → Keeps (environment S) p → Leads S p q → Keeps (environment S) q
leads_keep S {p} {q} h k a = works_keep S p q a.moves h k a.row

pub spares_keep : (S : List (Name × Kind)) {p q : Tree} → scope_kept S ≡ true → Keeps (environment S) p → LeadsSparing S p q → Keeps (environment S) q
spares_keep S h k a = leads_keep S h k (sparing_leads S a)

put_uses : (path : List ℕ) (p old r : Tree) → part_at path p ≡ Some old → UsesNoMore r old → UsesNoMore (put path p r) p
put_uses [] p old r e u = subst (λ z. UsesNoMore r z) (sym (some_is e)) u
put_uses (i ∷ path) p old r e u = below (λ c f. put_uses path c old r f u) (child p i) refl e
  where
    below : ((c : Tree) → part_at path c ≡ Some old → UsesNoMore (put path c r) c) → (q : Option Tree) → child p i ≡ q
        → option_and_then (part_at path) q ≡ Some old → UsesNoMore (unwrap_or (option_map (λ c. with_child p i (put path c r)) q) p) p
    below ih None is f = none_not_some f
    below ih (Some c) is f = child_use p i c (put path c r) is (ih c f)

row_uses : (S : List (Name × Kind)) (p q : Tree) (moves : List Move) → Spares S p moves q → UsesNoMore q p
row_uses S p q moves (no_use a) = uses_itself a
row_uses S p q moves (and_use a b move rest s on) =
    uses_through b (put move.path a move.part) a (row_uses S (put move.path a move.part) b rest on) (put_uses move.path a s.use_is.old move.part s.use_is.there s.spares)

pub spares_use : (S : List (Name × Kind)) {p q : Tree} → LeadsSparing S p q → UsesNoMore q p
spares_use S {p} {q} a = row_uses S p q a.moves a.row

-- ---- inside other parts

pub leads_inside : (S : List (Name × Kind)) (p : Tree) (i : ℕ) {c d : Tree} → is_par p ≡ false → child p i ≡ Some c → Leads (S ++ declared_by p) c d → Leads S p (with_child p i d)
leads_inside S p i {c} {d} n e a = record { moves = all_under (i ∷ []) a.moves; row = works_down S p c d i a.moves n e a.row }

pub spares_inside : (S : List (Name × Kind)) (p : Tree) (i : ℕ) {c d : Tree} → child p i ≡ Some c → LeadsSparing (S ++ declared_by p) c d → LeadsSparing S p (with_child p i d)
spares_inside S p i {c} {d} e a = record { moves = all_under (i ∷ []) a.moves; row = spares_down S p c d i a.moves e a.row }

leads_here : (S : List (Name × Kind)) {p q : Tree} → Leads S p q → Leads (S ++ []) p q
leads_here S {p} {q} a = subst (λ T. Leads T p q) (sym (append-nil S)) a

spares_here : (S : List (Name × Kind)) {p q : Tree} → LeadsSparing S p q → LeadsSparing (S ++ []) p q
spares_here S {p} {q} a = subst (λ T. LeadsSparing T p q) (sym (append-nil S)) a

pub first_leads : (S : List (Name × Kind)) (ps : Trees) {p q : Tree} → Leads S p q → Leads S (seq (and_tree p ps)) (seq (and_tree q ps))
first_leads S ps {p} {q} a = leads_inside S (seq (and_tree p ps)) zero refl refl (leads_here S a)

pub second_leads : (S : List (Name × Kind)) (r : Tree) (ps : Trees) {p q : Tree} → Leads S p q → Leads S (seq (and_tree r (and_tree p ps))) (seq (and_tree r (and_tree q ps)))
second_leads S r ps {p} {q} a = leads_inside S (seq (and_tree r (and_tree p ps))) (suc zero) refl refl (leads_here S a)

pub declared_leads : (S : List (Name × Kind)) (x : ℕ) (w : Width) {p q : Tree} → Leads (S ++ (record { 0 = x }, Var w) ∷ []) p q → Leads S (declare x w p) (declare x w q)
declared_leads S x w {p} {q} a = leads_inside S (declare x w p) zero refl refl a

pub first_spares : (S : List (Name × Kind)) (ps : Trees) {p q : Tree} → LeadsSparing S p q → LeadsSparing S (seq (and_tree p ps)) (seq (and_tree q ps))
first_spares S ps {p} {q} a = spares_inside S (seq (and_tree p ps)) zero refl (spares_here S a)

pub first_beside_spares : (S : List (Name × Kind)) (ps : Trees) {p q : Tree} → LeadsSparing S p q → LeadsSparing S (par (and_tree p ps)) (par (and_tree q ps))
first_beside_spares S ps {p} {q} a = spares_inside S (par (and_tree p ps)) zero refl (spares_here S a)

pub second_beside_spares : (S : List (Name × Kind)) (r : Tree) (ps : Trees) {p q : Tree} → LeadsSparing S p q → LeadsSparing S (par (and_tree r (and_tree p ps))) (par (and_tree r (and_tree q ps)))
second_beside_spares S r ps {p} {q} a = spares_inside S (par (and_tree r (and_tree p ps))) (suc zero) refl (spares_here S a)

pub declared_spares : (S : List (Name × Kind)) (x : ℕ) (w : Width) {p q : Tree} → LeadsSparing (S ++ (record { 0 = x }, Var w) ∷ []) p q → LeadsSparing S (declare x w p) (declare x w q)
declared_spares S x w {p} {q} a = spares_inside S (declare x w p) zero refl a

pub connected_spares : (S : List (Name × Kind)) (c : ℕ) (w : Width) {p q : Tree} → LeadsSparing (S ++ (record { 0 = c }, Chan w None) ∷ []) p q → LeadsSparing S (connect c w p) (connect c w q)
connected_spares S c w {p} {q} a = spares_inside S (connect c w p) zero refl a

-- a part within declarations of variables
pub declaring_leads : (S ys : List (Name × Kind)) {p q : Tree} → AllByRecursion (λ (y : Name × Kind). IsVariable y.1) ys → Leads (S ++ ys) p q
    → Leads S (declaring_all ys p) (declaring_all ys q)
declaring_leads S [] {p} {q} all a = subst (λ T. Leads T p q) (append-nil S) a
declaring_leads S (y ∷ ys) {p} {q} all a =
    one y.0 y.1 all.0 (declaring_leads (S ++ y ∷ []) ys all.1 (subst (λ T. Leads T p q) (sym (append_assoc S (y ∷ []) ys)) a))
  where
    one : (x : Name) (k : Kind) → IsVariable k → Leads (S ++ (x, k) ∷ []) (declaring_all ys p) (declaring_all ys q)
        → Leads S (declaring x.0 k (declaring_all ys p)) (declaring x.0 k (declaring_all ys q))
    one x (Var w) v b = declared_leads S x.0 w b
    one x (Chan w d) v b = absurd v
