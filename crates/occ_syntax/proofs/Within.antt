-- A process within a row of declarations.
use Rattle.std.proofs.Common.{◌≡◌, List, [], ◌∷◌, ◌++◌, refl, ap, sym, ◌∙◌}
use Rattle.occ_base.specs.declared.names.Name.{Name}
use Rattle.occ_syntax.specs.declared.scope.Kind.{Kind}
use Rattle.occ_syntax.specs.Tree.{Tree}
use Rattle.occ_syntax.specs.Declarations.{declaring, declaring_all}

-- the last declaration is the innermost
pub declaring_all-append : (ds : List (Name × Kind)) (d : Name × Kind) (p : Tree) → declaring_all (ds ++ d ∷ []) p ≡ declaring_all ds (declaring d.0.0 d.1 p)
declaring_all-append [] d p = refl
declaring_all-append (e ∷ ds) d p = ap (declaring e.0.0 e.1) (declaring_all-append ds d p)

-- one declaration is put round the process
pub one_round : (ds es : List (Name × Kind)) (d : Name × Kind) (p q w : Tree) → ds ≡ es ++ d ∷ [] → q ≡ declaring d.0.0 d.1 p → declaring_all ds p ≡ w → declaring_all es q ≡ w
one_round ds es d p q w e f g = ap (declaring_all es) f ∙ sym (declaring_all-append es d p) ∙ ap (λ cs. declaring_all cs p) (sym e) ∙ g

-- one declaration is taken off the process
pub one_off : (ds es : List (Name × Kind)) (d : Name × Kind) (p q w : Tree) → es ≡ ds ++ d ∷ [] → p ≡ declaring d.0.0 d.1 q → declaring_all ds p ≡ w → declaring_all es q ≡ w
one_off ds es d p q w e f g = ap (λ cs. declaring_all cs q) e ∙ declaring_all-append ds d q ∙ ap (declaring_all ds) (sym f) ∙ g
