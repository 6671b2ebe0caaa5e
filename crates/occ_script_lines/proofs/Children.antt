-- The parts of a process by the lists that code sees.
use Rattle.std.proofs.Common.{◌≡◌, ℕ, zero, suc, ◌<◌, ◌≤◌, List, [], ◌∷◌, ◌++◌, length, get_or, Option, Some, None, false, refl, sym, ap, ◌∙◌}
use Rattle.std.specs.Prelude.{option_map, slice_get}
use Rattle.std.specs.Option.{option_and_then, unwrap_or}
use Rattle.std.proofs.lemmas.Option.{slice_get_past, slice_get_read}
use Rattle.occ_lex.specs.occ_base.declared.names.Name.{Name}
use Rattle.occ_usage.specs.occ_meaning.Context.{branch_at, case_at, child, part_at, tree_at}
use Rattle.occ_syntax.specs.declared.expr.Expr.{Expr}
use Rattle.occ_syntax.specs.declared.expr.Guard.{Guard}
use Rattle.occ_syntax.specs.declared.proc.Proc.{Proc}
use Rattle.occ_syntax.specs.declared.scope.Kind.{Kind}
use Rattle.occ_lex.specs.occ_base.declared.event.Dir.{Dir}
use Rattle.occ_lex.specs.occ_base.declared.width.Width.{Width}
use Rattle.occ_syntax.specs.declared.scope.Kind.TheVariants.{Chan, Var}
use Rattle.occ_syntax.specs.Declarations.{declaring, is_declaration}
use Rattle.occ_syntax.specs.Tree.{Tree, skip, stop, assign, receive, send, seq, par, select, alt, declare, connect}
use Rattle.occ_syntax.specs.View.{branches, cases, tree, trees}
use Rattle.occ_script_lines.specs.Places.{declared_by, scope_list}

-- the part of a SEQ or PAR at a place
pub tree_at-trees : (ps : List Proc) (i : ℕ) → tree_at (trees ps) i ≡ option_map tree (slice_get ps i)
tree_at-trees [] i = refl
tree_at-trees (p ∷ ps) zero = refl
tree_at-trees (p ∷ ps) (suc i) = tree_at-trees ps i

-- the process of a choice at a place
pub case_at-cases : (cs : List (Expr × Proc)) (i : ℕ) → case_at (cases cs) i ≡ option_map (λ c. tree c.1) (slice_get cs i)
case_at-cases [] i = refl
case_at-cases (c ∷ cs) zero = refl
case_at-cases (c ∷ cs) (suc i) = case_at-cases cs i

-- the process of an alternative at a place
pub branch_at-branches : (bs : List (Guard × Proc)) (i : ℕ) → branch_at (branches bs) i ≡ option_map (λ b. tree b.1) (slice_get bs i)
branch_at-branches [] i = refl
branch_at-branches (b ∷ bs) zero = refl
branch_at-branches (b ∷ bs) (suc i) = branch_at-branches bs i

-- an element that was read
pub part_read : (ps : List Proc) (i : ℕ) (p : Proc) → i < length ps → p ≡ get_or ps i p → tree_at (trees ps) i ≡ Some (tree p)
part_read ps i p within h = tree_at-trees ps i ∙ ap (option_map tree) (slice_get_read ps (length ps) i p refl within h)

pub choice_read : (cs : List (Expr × Proc)) (i : ℕ) (c : Expr × Proc) → i < length cs → c ≡ get_or cs i c → case_at (cases cs) i ≡ Some (tree c.1)
choice_read cs i c within h = case_at-cases cs i ∙ ap (option_map (λ c. tree c.1)) (slice_get_read cs (length cs) i c refl within h)

pub branch_read : (bs : List (Guard × Proc)) (i : ℕ) (b : Guard × Proc) → i < length bs → b ≡ get_or bs i b → branch_at (branches bs) i ≡ Some (tree b.1)
branch_read bs i b within h = branch_at-branches bs i ∙ ap (option_map (λ b. tree b.1)) (slice_get_read bs (length bs) i b refl within h)

-- a place past the end
pub part_past : (ps : List Proc) (i : ℕ) → length ps ≤ i → tree_at (trees ps) i ≡ None
part_past ps i past = tree_at-trees ps i ∙ ap (option_map tree) (slice_get_past ps i past)

pub choice_past : (cs : List (Expr × Proc)) (i : ℕ) → length cs ≤ i → case_at (cases cs) i ≡ None
choice_past cs i past = case_at-cases cs i ∙ ap (option_map (λ c. tree c.1)) (slice_get_past cs i past)

pub branch_past : (bs : List (Guard × Proc)) (i : ℕ) → length bs ≤ i → branch_at (branches bs) i ≡ None
branch_past bs i past = branch_at-branches bs i ∙ ap (option_map (λ b. tree b.1)) (slice_get_past bs i past)

-- ---- one step down a path

-- a part is there, and the path goes on from it
pub down : (place : ℕ) (path : List ℕ) (p q : Tree) (whole : Option Tree) → child p place ≡ Some q → part_at (place ∷ path) p ≡ whole → part_at path q ≡ whole
down place path p q whole e h = sym (ap (option_and_then (part_at path)) e) ∙ h

-- the scope one step down
pub scope_down : (place : ℕ) (path : List ℕ) (S T whole : List (Name × Kind)) (p q : Tree) → child p place ≡ Some q → T ≡ S ++ declared_by p → scope_list (place ∷ path) S p ≡ whole → scope_list path T q ≡ whole
scope_down place path S T whole p q e f h = ap (λ V. scope_list path V q) f ∙ sym (ap (λ o. unwrap_or (option_map (scope_list path (S ++ declared_by p)) o) S) e) ∙ h

-- ---- declarations

-- what is no declaration declares nothing
pub declared_none : (p : Tree) → is_declaration p ≡ false → [] ≡ declared_by p
declared_none skip h = refl
declared_none stop h = refl
declared_none (assign xs es) h = refl
declared_none (receive c x) h = refl
declared_none (send c e) h = refl
declared_none (seq ps) h = refl
declared_none (par ps) h = refl
declared_none (select cs) h = refl
declared_none (alt bs) h = refl
declared_none (declare x w p) h = absurd cc
declared_none (connect c w p) h = absurd cc

pub declared_var : (p q : Tree) (n : Name) (k : Kind) (w : Width) → p ≡ declaring n.0 k q → k ≡ Var w → (n, Var w) ∷ [] ≡ declared_by p
declared_var p q n k w e f = sym (ap declared_by (e ∙ ap (λ j. declaring n.0 j q) f))

pub declared_chan : (p q : Tree) (n : Name) (k : Kind) (w : Width) (d : Option Dir) → p ≡ declaring n.0 k q → k ≡ Chan w d → (n, Chan w None) ∷ [] ≡ declared_by p
declared_chan p q n k w d e f = sym (ap declared_by (e ∙ ap (λ j. declaring n.0 j q) f))
