use Rattle.std.proofs.Common.{◌≡◌, ◌⊎◌, ◌&&◌, ◌==◌, ℕ, true, false, cond, Option, Some, sym, ap, ◌∙◌, inl, inr, ⊎_elim}
use Rattle.std.proofs.lemmas.Bool.{and_parts, cases_Bool, eqb-true}
use Rattle.std.proofs.lemmas.Option.{same_Some}
use Rattle.occ_dd.specs.Memo.{same_call}
use Rattle.occ_dd.specs.declared.memo.Call.{Call}

same_call_exact : (a b : Call) → same_call a b ≡ true → b ≡ a
same_call_exact a b e =
    let p = and_parts (a.first == b.first) (a.second == b.second && a.third == b.third) e in
    let q = and_parts (a.second == b.second) (a.third == b.third) p.1 in
    let first : b.first ≡ a.first = sym (eqb-true a.first b.first p.0) in
    let second : b.second ≡ a.second = sym (eqb-true a.second b.second q.0) in
    let third : b.third ≡ a.third = sym (eqb-true a.third b.third q.1) in
    λ i. record { first = first i; second = second i; third = third i }

-- what a table recalls after one result was put in
pub learnt : (k call : Call) (r value : ℕ) (o n : Option ℕ) → n ≡ cond (same_call call k) (Some value) o → n ≡ Some r → (o ≡ Some r) ⊎ ((k ≡ call) × (r ≡ value))
learnt k call r value o n e f =
    ⊎_elim
    (λ (h : same_call call k ≡ true). inr (same_call_exact call k h, same_Some r value (sym f ∙ e ∙ ap (λ t. cond t (Some value) o) h)))
    (λ (h : same_call call k ≡ false). inl (sym (ap (λ t. cond t (Some value) o) h) ∙ sym e ∙ f))
    (cases_Bool (same_call call k))
