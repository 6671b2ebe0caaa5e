-- The laws that put a declaration into each choice or each branch, by their sides.
use Rattle.std.proofs.Common.{◌≡◌, ℕ, ◌↔◌, false, List, [], refl, ap, sym, ◌∙◌}
use Rattle.occ_syntax.specs.occ_base.declared.names.Name.{Name}
use Rattle.occ_syntax.specs.occ_base.declared.width.Width.{Width}
use Rattle.occ_law_shape.specs.occ_law.Lists.{conditions}
use Rattle.occ_law_shape.specs.occ_law.Scope.{ChanIf, chan_if, VarAlt, var_alt, VarIf, var_if, each_branch_declaring, each_case_connecting, each_case_declaring, some_guard_names}
use Rattle.occ_law_shape.specs.Pieces.{each_branch, each_choice}
use Rattle.occ_syntax.specs.Names.{some_names}
use Rattle.occ_syntax.specs.Tree.{Tree, select, alt, declare, connect, Cases, no_case, and_case, Branches, no_branch, and_branch}
use Rattle.occ_law_scope.proofs.Joined.{by_sides, put_right}
use Rattle.occ_law_scope.specs.declared.declaration.Declaration.TheVariants.{Var, Chan}
use Rattle.occ_law_scope.specs.Under.{under}

-- ---- var-if and chan-if

cases_declaring : (n : Name) (w : Width) (cs : Cases) → each_choice (λ b. b) (under (Var n w)) cs ≡ each_case_declaring n.0 w cs
cases_declaring n w no_case = refl
cases_declaring n w (and_case b p cs) = ap (and_case b (declare n.0 w p)) (cases_declaring n w cs)

var_if_back : (x : ℕ) (w : Width) (cs : Cases) (r : Tree) (place : List ℕ) → VarIf place (declare x w (select cs)) r
    → (r ≡ select (each_case_declaring x w cs)) × (some_names (conditions cs) x ≡ false)
var_if_back x w cs r place (var_if y v ds h) = (refl, h)

pub var_if_law : (l r b : Tree) (n : Name) (w : Width) (cs : Cases) → declare n.0 w b ≡ l → select cs ≡ b → some_names (conditions cs) n.0 ≡ false
    → (r ≡ select (each_choice (λ e. e) (under (Var n w)) cs)) ↔ ((place : List ℕ) × VarIf place l r)
var_if_law l r b n w cs e f spared =
    by_sides VarIf (declare n.0 w (select cs)) l r (ap (declare n.0 w) f ∙ e)
    (λ h. ([], put_right VarIf [] (declare n.0 w (select cs)) (select (each_case_declaring n.0 w cs)) r (h ∙ ap select (cases_declaring n w cs)) (var_if n.0 w cs spared)))
    (λ place k. (var_if_back n.0 w cs r place k).0 ∙ ap select (sym (cases_declaring n w cs)))

cases_connecting : (n : Name) (w : Width) (cs : Cases) → each_choice (λ b. b) (under (Chan n w)) cs ≡ each_case_connecting n.0 w cs
cases_connecting n w no_case = refl
cases_connecting n w (and_case b p cs) = ap (and_case b (connect n.0 w p)) (cases_connecting n w cs)

chan_if_back : (c : ℕ) (w : Width) (cs : Cases) (r : Tree) (place : List ℕ) → ChanIf place (connect c w (select cs)) r → r ≡ select (each_case_connecting c w cs)
chan_if_back c w cs r place (chan_if d v ds) = refl

pub chan_if_law : (l r b : Tree) (n : Name) (w : Width) (cs : Cases) → connect n.0 w b ≡ l → select cs ≡ b
    → (r ≡ select (each_choice (λ e. e) (under (Chan n w)) cs)) ↔ ((place : List ℕ) × ChanIf place l r)
chan_if_law l r b n w cs e f =
    by_sides ChanIf (connect n.0 w (select cs)) l r (ap (connect n.0 w) f ∙ e)
    (λ h. ([], put_right ChanIf [] (connect n.0 w (select cs)) (select (each_case_connecting n.0 w cs)) r (h ∙ ap select (cases_connecting n w cs)) (chan_if n.0 w cs)))
    (λ place k. chan_if_back n.0 w cs r place k ∙ ap select (sym (cases_connecting n w cs)))

-- ---- var-alt, the form without another variable

branches_declaring : (n : Name) (w : Width) (gs : Branches) → each_branch (λ b. b) (λ v. v) (λ v p. under (Var n w) p) gs ≡ each_branch_declaring n.0 w gs
branches_declaring n w no_branch = refl
branches_declaring n w (and_branch b v p gs) = ap (and_branch b v (declare n.0 w p)) (branches_declaring n w gs)

var_alt_back : (x : ℕ) (w : Width) (gs : Branches) (r : Tree) (place : List ℕ) → VarAlt place (declare x w (alt gs)) r
    → (r ≡ alt (each_branch_declaring x w gs)) × (some_guard_names gs x ≡ false)
var_alt_back x w gs r place (var_alt y v hs h) = (refl, h)

pub var_alt_law : (l r b : Tree) (n : Name) (w : Width) (gs : Branches) → declare n.0 w b ≡ l → alt gs ≡ b → some_guard_names gs n.0 ≡ false
    → (r ≡ alt (each_branch (λ e. e) (λ v. v) (λ v p. under (Var n w) p) gs)) ↔ ((place : List ℕ) × VarAlt place l r)
var_alt_law l r b n w gs e f spared =
    by_sides VarAlt (declare n.0 w (alt gs)) l r (ap (declare n.0 w) f ∙ e)
    (λ h. ([], put_right VarAlt [] (declare n.0 w (alt gs)) (alt (each_branch_declaring n.0 w gs)) r (h ∙ ap alt (branches_declaring n w gs)) (var_alt n.0 w gs spared)))
    (λ place k. (var_alt_back n.0 w gs r place k).0 ∙ ap alt (sym (branches_declaring n w gs)))
