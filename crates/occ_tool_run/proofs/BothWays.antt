-- Two accepted programs mean the same exactly where each refines the other, by the answers to them.
use Rattle.std.proofs.Common.{◌≡◌, ◌↔◌, ◌==◌, ℕ, List, [], ◌∷◌, Bool, false, codes, refl, sym, ap, ◌∙◌, subst}
use Rattle.std.proofs.lemmas.Bool.{false≢true}
use Rattle.occ_syntax.specs.occ_base.declared.names.Name.{Name}
use Rattle.occ_syntax.specs.declared.scope.Kind.{Kind}
use Rattle.occ_syntax.specs.Tree.{Tree}
use Rattle.occ_run_schedule.specs.occ_behaviour.declared.behaviour.Verdict.{Verdict}
use Rattle.occ_run_schedule.specs.occ_behaviour.declared.behaviour.Verdict.TheVariants.{Same, Differ}
use Rattle.occ_run_schedule.specs.occ_behaviour.Texts.{text_of_verdict}
use Rattle.occ_refine.specs.Verdict.{IsVerdictOf}
use Rattle.occ_run_schedule.specs.occ_compare.declared.refined.Refined.{Refined as Refinement}
use Rattle.occ_run_schedule.specs.occ_compare.declared.refined.Refined.TheVariants.{Yes, No}
use Rattle.occ_run_schedule.specs.occ_compare.Programs.{IsRefinement}
use Rattle.occ_tool_run.specs.declared.answer.Answer.{Answer}
use Rattle.occ_tool_run.specs.Texts.{text_of, refined_text}
use Rattle.occ_tool_run.specs.Answers.{Compares, apart, compared, Refines, other, allowed}
use Rattle.occ_tool_run.specs.Accepts.{Program}

abbrev pub begins_with : ℕ → List ℕ → Bool
begins_with c [] = false
begins_with c (d ∷ text) = d == c

refined_yes : (names : List (List ℕ)) (v : Refinement) → refined_text names v ≡ codes "REFINES\n" → v ≡ Yes
refined_yes names Yes e = refl
refined_yes names (No behaviour) e = absurd (false≢true (ap (begins_with 82) e))

pub verdict_same : (names : List (List ℕ)) (v : Verdict) → text_of_verdict names v ≡ codes "SAME\n" → v ≡ Same
verdict_same names Same e = refl
verdict_same names (Differ behaviour only) e = absurd (false≢true (ap (begins_with 83) e))

-- of refinements each way and the verdict
abbrev pub AgreeBothWays : Type 0
AgreeBothWays = (params : List (Name × Kind)) (p q : Tree) (x y : Refinement) (v : Verdict) → IsVerdictOf params p q v → IsRefinement params p q x → IsRefinement params q p y
    → ((x ≡ Yes) × (y ≡ Yes)) ↔ (v ≡ Same)

-- of the answers
pub same_where_both_refine : AgreeBothWays → (p q : Program) (k m n : List (List ℕ)) (x y z : Answer) → Refines p k q x → Refines q m p y → Compares p n q z
    → ((text_of x ≡ codes "REFINES\n") × (text_of y ≡ codes "REFINES\n")) ↔ (text_of z ≡ codes "SAME\n")
same_where_both_refine agree p q k m n x y z (other d e) back (apart c h) = (
  λ t. absurd (false≢true (ap (begins_with 82) (sym (ap text_of e) ∙ t.0))),
  λ t. absurd (false≢true (ap (begins_with 83) (sym (ap text_of h) ∙ t))),
)
same_where_both_refine agree p q k m n x y z (other d e) back (compared u o w h) = absurd (d o)
same_where_both_refine agree p q k m n x y z (allowed v o r e) back (apart c h) = absurd (c o)
same_where_both_refine agree p q k m n x y z (allowed v o r e) (other d f) (compared u l w h) = absurd (d (sym o))
same_where_both_refine agree p q k m n x y z (allowed v o r e) (allowed s j t f) (compared u l w h) =
    let turned = subst (λ (ps : List (Name × Kind)). IsRefinement ps q.body p.body s) (sym o) t in
    let one = agree p.params p.body q.body v s u w r turned in (
      λ g. ap text_of h ∙ ap (text_of_verdict n) (one.0 (refined_yes k v (sym (ap text_of e) ∙ g.0), refined_yes m s (sym (ap text_of f) ∙ g.1))),
      λ g. let both = one.1 (verdict_same n u (sym (ap text_of h) ∙ g)) in (ap text_of e ∙ ap (refined_text k) both.0, ap text_of f ∙ ap (refined_text m) both.1),
    )
