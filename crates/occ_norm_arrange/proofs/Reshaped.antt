-- A process with its parts arranged and no more constructs: as it is, in steps, and within declarations.
use Rattle.std.proofs.Common.{◌≡◌, ◌≤◌, List, [], ◌∷◌, sym, subst, arith}
use Rattle.occ_syntax.specs.occ_base.declared.names.Name.{Name}
use Rattle.occ_syntax.proofs.Counting.{weight-declaring}
use Rattle.occ_syntax.proofs.Weights.{weight}
use Rattle.occ_syntax.specs.Declarations.{declaring_all}
use Rattle.occ_syntax.specs.Tree.{Tree}
use Rattle.occ_syntax.specs.declared.scope.Kind.{Kind}
use Rattle.occ_norm_arrange.proofs.Itself.{arranged_itself, arranged_steps}
use Rattle.occ_norm_arrange.proofs.Congruent.{arranged_all}
use Rattle.occ_norm_arrange.specs.FlatArranged.{IsReshaped}

pub reshaped_itself : (p : Tree) → IsReshaped p p
reshaped_itself p = record { arranged = arranged_itself p; weighs = omega arith }

pub reshaped_steps : (p q r : Tree) → IsReshaped p q → IsReshaped q r → IsReshaped p r
reshaped_steps p q r a b = record {
  arranged = arranged_steps p q r a.arranged b.arranged;
  weighs = let h = a.weighs in let k = b.weighs in omega (arith, h, k);
}

-- the same process, seen from code
pub reshaped_copy : (p q r : Tree) → IsReshaped p q → r ≡ q → IsReshaped p r
reshaped_copy p q r a e = subst (λ z. IsReshaped p z) (sym e) a

weigh_all : (ds : List (Name × Kind)) (p q : Tree) → weight q ≤ weight p → weight (declaring_all ds q) ≤ weight (declaring_all ds p)
weigh_all [] p q h = h
weigh_all (d ∷ ds) p q h =
    let k = weigh_all ds p q h in
    let e = weight-declaring d.0.0 d.1 (declaring_all ds p) in
    let f = weight-declaring d.0.0 d.1 (declaring_all ds q) in omega (arith, k, e, f)

pub reshaped_all : (ds : List (Name × Kind)) (p q : Tree) → IsReshaped p q → IsReshaped (declaring_all ds p) (declaring_all ds q)
reshaped_all ds p q a = record { arranged = arranged_all ds p q a.arranged; weighs = weigh_all ds p q a.weighs }

pub reshaped_within : (ds : List (Name × Kind)) (p q p' q' : Tree) → p' ≡ declaring_all ds p → q' ≡ declaring_all ds q → IsReshaped p q → IsReshaped p' q'
reshaped_within ds p q p' q' e f a = subst (λ r. IsReshaped r q') (sym e) (subst (λ r. IsReshaped (declaring_all ds p) r) (sym f) (reshaped_all ds p q a))
