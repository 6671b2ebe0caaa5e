-- The one right side of a law, known by the left side.
use Rattle.std.proofs.Common.{◌≡◌, Option, None, Some, Result, IfOk, sym, ◌∙◌, subst}
use Rattle.std.proofs.lemmas.Result.{IfOk-weaker}
use Rattle.occ_syntax.specs.occ_base.declared.memory.Memory.{Memory}
use Rattle.occ_law_seq.specs.occ_law.Instances.{IsOnly}
use Rattle.occ_law_right.specs.Where.{IsWhere}
use Rattle.occ_syntax.specs.declared.proc.Proc.{Proc}
use Rattle.occ_syntax.specs.Tree.{Tree}
use Rattle.occ_syntax.specs.View.{tree}

-- the law holds, and this is the right side
pub only_some : (D : Tree → Tree → Type 0) (m l s : Tree) (p : Proc) → m ≡ l → tree p ≡ s → D m s → ((r : Tree) → D m r → r ≡ s) → IsOnly D l (Some p)
only_some D m l s p e made there back =
    (subst (λ z. D z (tree p)) e (subst (λ z. D m z) (sym made) there), λ r d. back r (subst (λ z. D z r) (sym e) d) ∙ sym made)

found_where : {P : Type 0} (D : Tree → Tree → Type 0) (m l s : Tree) (found : Option Proc) → m ≡ l → IsWhere P s found → (P → D m s) → ((r : Tree) → D m r → P × (r ≡ s))
    → IsOnly D l found
found_where D m l s None e h there back = λ r d. h (back r (subst (λ z. D z r) (sym e) d)).0
found_where D m l s (Some p) e h there back = only_some D m l s p e h.1 (there h.0) (λ r d. (back r d).1)

-- the law holds exactly where a condition does
pub only_where : {P : Type 0} (D : Tree → Tree → Type 0) (m l s : Tree) (result : Result (Option Proc) Memory) → m ≡ l → IfOk result (IsWhere P s)
    → (P → D m s) → ((r : Tree) → D m r → P × (r ≡ s)) → IfOk result (IsOnly D l)
only_where D m l s result e h there back = IfOk-weaker result _ _ (λ found k. found_where D m l s found e k there back) h

found_under : (C D : Tree → Tree → Type 0) (m b l : Tree) (found : Option Proc) → m ≡ l → IsOnly C b found → ((r : Tree) → C b r → D m r) → ((r : Tree) → D m r → C b r) → IsOnly D l found
found_under C D m b l None e h there back = λ r d. h r (back r (subst (λ z. D z r) (sym e) d))
found_under C D m b l (Some p) e h there back = (subst (λ z. D z (tree p)) e (there (tree p) h.0), λ r d. h.1 r (back r (subst (λ z. D z r) (sym e) d)))

-- the law is another relation for what stands under the declaration
pub only_under : (C D : Tree → Tree → Type 0) (m b l : Tree) (result : Result (Option Proc) Memory) → m ≡ l → IfOk result (IsOnly C b)
    → ((r : Tree) → C b r → D m r) → ((r : Tree) → D m r → C b r) → IfOk result (IsOnly D l)
only_under C D m b l result e h there back = IfOk-weaker result _ _ (λ found k. found_under C D m b l found e k there back) h
