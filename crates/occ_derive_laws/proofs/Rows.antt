-- Lists of branches as code has them, and expressions that name nothing.
use Rattle.std.proofs.Common.{◌≡◌, ◌∙◌, ℕ, false, List, [], ◌∷◌, ◌++◌, arith, refl, ap}
use Rattle.occ_renamed.specs.occ_base.declared.names.Name.{Name}
use Rattle.occ_renamed.specs.occ_bits.Named.{bits_named, named_part}
use Rattle.occ_renamed.specs.occ_law.Lists.{all_branches}
use Rattle.occ_renamed.specs.occ_law.States.{AreFew}
use Rattle.occ_renamed.proofs.from_meaning.Facts.{if_false}
use Rattle.occ_renamed.specs.occ_syntax.Counts.{bits_of_scope}
use Rattle.occ_renamed.specs.occ_syntax.declared.expr.Guard.{Guard}
use Rattle.occ_renamed.specs.occ_syntax.declared.proc.Proc.{Proc}
use Rattle.occ_renamed.specs.occ_syntax.declared.scope.Kind.{Kind}
use Rattle.occ_renamed.specs.occ_syntax.Names.{some_names}
use Rattle.occ_renamed.specs.occ_syntax.Tree.{Exp, and_branch}
use Rattle.occ_renamed.specs.occ_syntax.View.{branches, exp, tree, waiting}

pub branches_append : (l m : List (Guard × Proc)) → branches (l ++ m) ≡ all_branches (branches l) (branches m)
branches_append [] m = refl
branches_append (a ∷ l) m = ap (and_branch (exp a.0.condition) (waiting a.0.wait) (tree a.1)) (branches_append l m)

-- no part of the scope is named
nothing_named : (S : List (Name × Kind)) (es : List Exp) → ((x : ℕ) → some_names es x ≡ false) → named_part S es ≡ []
nothing_named [] es h = refl
nothing_named (entry ∷ S) es h = if_false (some_names es entry.0.0) (entry ∷ named_part S es) (named_part S es) (h entry.0.0) ∙ nothing_named S es h

pub unnamed_few : (S : List (Name × Kind)) (es : List Exp) → ((x : ℕ) → some_names es x ≡ false) → AreFew S es
unnamed_few S es h =
    let none : bits_named S es ≡ 0 = ap bits_of_scope (nothing_named S es h) in
    omega (arith, none)
