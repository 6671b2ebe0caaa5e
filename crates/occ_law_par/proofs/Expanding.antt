-- par-expand by the branches of its sides.
use Rattle.std.proofs.Common.{◌≡◌, ℕ, ◌↔◌, Bool, IsTrue, List, [], refl, ap, sym, ◌∙◌, subst}
use Rattle.occ_syntax.specs.Tree.{Exp, Waiting, Tree, par, alt, Branches, no_branch, and_branch}
use Rattle.occ_law_shape.specs.occ_meaning.Parallel.{two}
use Rattle.occ_law_shape.specs.occ_law.Lists.{all_branches}
use Rattle.occ_law_shape.specs.occ_law.Parallel.{ParExpand, expanded, first_goes, meetings, par_expand, second_goes}
use Rattle.occ_law_par.specs.declared.running.Beside.{Beside}
use Rattle.occ_law_par.specs.declared.running.Beside.TheVariants.{Behind, Before}
use Rattle.occ_law_par.specs.Expand.{each_beside, run_beside}
use Rattle.occ_law_par.proofs.Cursor.{branches_once}

-- the two ALTs of the left side, and what they make of the right side
pub record Expansion (f s r : Tree) : Type 0 where
  pub firsts : Branches
  pub seconds : Branches
  pub first : f ≡ alt firsts
  pub second : s ≡ alt seconds
  pub right : r ≡ alt (expanded firsts seconds)

expansion : (f s r : Tree) (place : List ℕ) → ParExpand place (par (two f s)) r → Expansion f s r
expansion f s r place (par_expand ls ms) = record { firsts = ls; seconds = ms; first = refl; second = refl; right = refl }

-- a left side of two parts has two ALTs
pub expands : (l f s r : Tree) → l ≡ par (two f s) → (place : List ℕ) × ParExpand place l r → Expansion f s r
expands l f s r e k = expansion f s r k.0 (subst (λ z. ParExpand k.0 z r) e k.1)

-- the branches of the right side, by those of the two ALTs
pub all_there : (f s r : Tree) (fs ss os : Branches) → f ≡ alt fs → s ≡ alt ss → r ≡ alt os → Expansion f s r
    → os ≡ all_branches (first_goes fs s) (all_branches (second_goes f ss) (meetings fs ss))
all_there f s r fs ss os e g h x =
    let a : x.firsts ≡ fs = inner x.firsts fs (sym x.first ∙ e) in
    let b : x.seconds ≡ ss = inner x.seconds ss (sym x.second ∙ g) in
    let c : os ≡ expanded x.firsts x.seconds = inner os (expanded x.firsts x.seconds) (sym h ∙ x.right) in
    c ∙ ap (λ z. expanded z x.seconds) a ∙ ap (expanded fs) b ∙ ap (λ z. all_branches (first_goes fs z) (all_branches (second_goes (alt fs) ss) (meetings fs ss))) (sym g)
    ∙ ap (λ z. all_branches (first_goes fs s) (all_branches (second_goes z ss) (meetings fs ss))) (sym e)
  where
    inner : (gs hs : Branches) → alt gs ≡ alt hs → gs ≡ hs
    inner gs hs k = cc

-- par-expand where the right side has these three lists of branches
pub expand_law : (l r f s : Tree) (fs ss os further last : Branches) (b : Bool) → l ≡ par (two f s) → f ≡ alt fs → s ≡ alt ss → r ≡ alt os
    → os ≡ all_branches (first_goes fs s) further → further ≡ all_branches (second_goes f ss) last → (IsTrue b ↔ (last ≡ meetings fs ss)) → IsTrue b ↔ ((place : List ℕ) × ParExpand place l r)
expand_law l r f s fs ss os further last b e g h k first second test = (
  (λ t. ([], subst (λ z. ParExpand [] z r) (sym left) (subst (λ z. ParExpand [] (par (two (alt fs) (alt ss))) z) (sym (right t)) (par_expand fs ss)))),
  (λ m. test.1 (branches_once (second_goes f ss) last (meetings fs ss)
      (sym second ∙ branches_once (first_goes fs s) further (all_branches (second_goes f ss) (meetings fs ss)) (sym first ∙ all_there f s r fs ss os g h k (expands l f s r e m))))),
)
  where
    left : l ≡ par (two (alt fs) (alt ss))
    left = e ∙ ap (λ z. par (two z s)) g ∙ ap (λ z. par (two (alt fs) z)) h

    right : IsTrue b → r ≡ alt (expanded fs ss)
    right t = k ∙ ap alt (first ∙ ap (all_branches (first_goes fs s)) (second ∙ ap (all_branches (second_goes f ss)) (test.0 t))
        ∙ ap (λ z. all_branches (first_goes fs z) (all_branches (second_goes f ss) (meetings fs ss))) h
        ∙ ap (λ z. all_branches (first_goes fs (alt ss)) (all_branches (second_goes z ss) (meetings fs ss))) g)

pub second_missing : (l r f s : Tree) (fs ss os further : Branches) → l ≡ par (two f s) → f ≡ alt fs → s ≡ alt ss → r ≡ alt os → os ≡ all_branches (first_goes fs s) further
    → ((rest : Branches) → further ≡ all_branches (second_goes f ss) rest → ⊥) → (place : List ℕ) × ParExpand place l r → ⊥
second_missing l r f s fs ss os further e g h k first never m = never (meetings fs ss)
    (branches_once (first_goes fs s) further (all_branches (second_goes f ss) (meetings fs ss)) (sym first ∙ all_there f s r fs ss os g h k (expands l f s r e m)))
