-- What the root of an accepted program is, and what follows for its normal text.
use Rattle.std.proofs.Common.{◌≡◌, ◌<◌, ◌≤◌, ◌^◌, ℕ, true, List, [], length, Result, Ok, Err, IfOk, sym, subst, ap, ◌∙◌}
use Rattle.occ_syntax.specs.occ_base.declared.names.Name.{Name}
use Rattle.occ_syntax.specs.declared.scope.Kind.{Kind}
use Rattle.occ_syntax.specs.Counts.{bits_of_scope, capped}
use Rattle.occ_syntax.specs.Scopes.{environment}
use Rattle.occ_syntax.specs.Tree.{Tree}
use Rattle.occ_syntax.specs.Types.{scope_kept, types_kept}
use Rattle.occ_nform_rows.specs.occ_node.declared.root.Root.{Root}
use Rattle.occ_nform_rows.specs.occ_node.declared.world.World.{World}
use Rattle.occ_nform_rows.specs.occ_compare.Interface.{HasNodes, IsOfInterface}
use Rattle.occ_norm.specs.Root.{IsRoot}
use Rattle.occ_norm.proofs.Rooted.{all_nodes, of_interface}
use Rattle.occ_nform_rows.specs.occ_nform_table.Normal.{Parts, text_read}
use Rattle.occ_nform.specs.declared.figures.Counts.{Counts}
use Rattle.occ_nform.specs.Counts.{greatest, heights_of, offers_in}
use Rattle.occ_nform.specs.Written.{IsNormalText, IsRootOf}
use Rattle.occ_syntax.specs.occ_base.declared.memory.Memory.{Memory}
use Rattle.occ_nform.specs.Counted.{HasCounts, counts_of}
use Rattle.occ_nform.specs.Tabled.{IsTableOf}
use Rattle.occ_nform.proofs.Written.{stands_for}
use Rattle.occ_nform.specs.Tabulated.{IsTabulated}
use Rattle.occ_nform_rows.specs.occ_nform_table.Behaviours.{Stands}
use Rattle.occ_nform_rows.specs.occ_nform_table.declared.table.Table.{Table}
use Rattle.occ_nform_rows.specs.occ_nform_table.Tables.{IsInterface, IsNormal, are_params}

record_is : (a : Root) (params : List (Name × Kind)) → a.params ≡ params → a ≡ record { params = params; states = a.states }
record_is a params e = λ i. record { params = e i; states = a.states }

module _ (w : World) (params : List (Name × Kind)) (scope : scope_kept params ≡ true) (few : bits_of_scope params ≤ 16) (p : Tree) (types : types_kept p (environment params) ≡ true) (r : Root) (e : r.params ≡ params) (is : IsRoot w params p r.states) where
  pub nodes : HasNodes w r.states
  nodes = all_nodes w params scope few p types r.states is

  pub within : IsOfInterface w r
  within = subst (IsOfInterface w) (sym (record_is r params e)) (of_interface w params scope few p types r.states is)

  pub root_of : IsRootOf w r.params p r.states
  root_of = subst (λ ps. IsRootOf w ps p r.states) (sym e) (record { root_fails = is.root_fails; root_ends = is.root_ends })

module _ (names : List (List ℕ)) (params : List (Name × Kind)) (r : Root) (e : r.params ≡ params) where
  pub interface_of : IsInterface names params → IsInterface names r.params
  interface_of h = subst (IsInterface names) (sym e) h

  pub params_of : are_params names [] params ≡ true → are_params names [] r.params ≡ true
  params_of h = subst (λ ps. are_params names [] ps ≡ true) (sym e) h

  pub text_of : (p : Tree) (text : List ℕ) → IsNormalText names r.params p text → IsNormalText names params p text
  text_of p text h = subst (λ ps. IsNormalText names ps p text) e h

pub if_ok_map : {V E : Type 0} {P Q : V → Type 0} → (r : Result V E) → ((v : V) → P v → Q v) → IfOk r P → IfOk r Q
if_ok_map (Ok v) f h = f v h
if_ok_map (Err e) f h = tt

pub counts_are : (t : Parts) (c : Counts) → c.rows ≡ length t.rows → c.offers ≡ capped (offers_in t.rows) → c.height ≡ greatest (heights_of [] t.rows) → c.states ≡ length t.states → c ≡ counts_of t
counts_are t c a b h s = λ i. record { rows = a i; offers = b i; height = h i; states = s i }

ok_one : {V E : Type 0} (a b : V) (r : Result V E) → r ≡ Ok a → r ≡ Ok b → a ≡ b
ok_one a b r x y = cc

-- the figures of a table whose text is the normal one of a program
pub has_counts : (names : List (List ℕ)) (params : List (Name × Kind)) (p : Tree) (t : Parts) (text : List ℕ) → length text < 2 ^ 64 → text_read names text ≡ Ok t → IsNormalText names params p text
    → (c : Counts) → c ≡ counts_of t → HasCounts names params p c
has_counts names params p t text short reads is c e = record {
  text = text;
  short = short;
  is = is;
  counts_are = e ∙ ap counts_of (ok_one t is.table (text_read names text) reads is.reads);
}

pub counted : (r : Result Counts Memory) (t : Parts) (P : Counts → Type 0) → ((c : Counts) → c ≡ counts_of t → P c)
    → IfOk r (λ c. c.rows ≡ length t.rows) → IfOk r (λ c. c.offers ≡ capped (offers_in t.rows)) → IfOk r (λ c. c.height ≡ greatest (heights_of [] t.rows)) → IfOk r (λ c. c.states ≡ length t.states) → IfOk r P
counted (Ok c) t P f a b h s = f c (counts_are t c a b h s)
counted (Err e) t P f a b h s = tt

-- the table of a root is that of each program whose behaviours the root has
pub table_made : (names : List (List ℕ)) (params : List (Name × Kind)) → bits_of_scope params ≤ 16 → (w : World) (r : Root) → r.params ≡ params → (p : Tree)
    → HasNodes w r.states → IsRootOf w r.params p r.states → (made : Result Table Memory) → IfOk made (λ t. t.params ≡ r.params)
    → IfOk made (λ t. IsNormal (record { names = names; params = t.params; rows = t.rows; states = t.states })) → IfOk made (λ t. IsTabulated w r t.rows t.states)
    → IfOk made (IsTableOf names params p)
table_made names params few w r e p has of (Ok t) same normal tabulated = record {
  params_are = same ∙ e;
  normal = normal;
  stands = subst (λ ps. Stands ps t.rows t.states p) e (stands_for w r t.rows t.states p (subst (λ ps. bits_of_scope ps ≤ 16) (sym e) few) has tabulated of);
}
table_made names params few w r e p has of (Err m) same normal tabulated = tt
