-- io-alt by the communication and the branch.
use Rattle.std.proofs.Common.{◌≡◌, ℕ, ◌==◌, ◌↔◌, arith, Bool, IsTrue, true, false, true≢false, List, [], ◌∷◌, length, eq-eqb, refl, ap, sym, ◌∙◌, subst}
use Rattle.std.proofs.lemmas.Bool.{eqb-true}
use Rattle.occ_syntax.specs.declared.expr.Guard.{Guard}
use Rattle.occ_syntax.specs.declared.proc.Proc.{Proc}
use Rattle.occ_syntax.specs.Tree.{Exp, truth, Waiting, input, output, Tree, skip, receive, send, alt, Branches, no_branch, and_branch}
use Rattle.occ_syntax.specs.View.{branches}
use Rattle.occ_law_shape.specs.occ_law.Sequence.{IoAlt, input_alt, output_alt}
use Rattle.occ_law_seq.specs.Communication.{Communicates, EndsAfter, receives, sends}

received_as : (p : Tree) (w : Waiting) → Communicates p w → (c x : ℕ) → receive c x ≡ p → w ≡ input c x
received_as p w (receives d y) c x e = cc
received_as p w (sends d f) c x e = cc

sent_as : (p : Tree) (w : Waiting) → Communicates p w → (c : ℕ) (e : Exp) → send c e ≡ p → w ≡ output c e
sent_as p w (receives d y) c e g = cc
sent_as p w (sends d f) c e g = cc

-- an input is what a guard waits for that inputs the same variable from the same channel
pub receives_where : (p : Tree) (w : Waiting) (c d x y : ℕ) (b : Bool) → receive c x ≡ p → w ≡ input d y → c ≡ d → (IsTrue b ↔ (x ≡ y)) → IsTrue b ↔ Communicates p w
receives_where p w c d x y b e g h test = (
  (λ t. subst (λ z. Communicates z w) e (subst (λ z. Communicates (receive c x) z) (ap (λ z. input z x) h ∙ ap (input d) (test.0 t) ∙ sym g) (receives c x))),
  (λ k. let u : input d y ≡ input c x = sym g ∙ received_as p w k c x e in test.1 (cc)),
)

-- an output is what a guard waits for that outputs the same value to the same channel
pub sends_where : (p : Tree) (w : Waiting) (c d : ℕ) (x y : Exp) (b : Bool) → send c x ≡ p → w ≡ output d y → c ≡ d → (IsTrue b ↔ (x ≡ y)) → IsTrue b ↔ Communicates p w
sends_where p w c d x y b e g h test = (
  (λ t. subst (λ z. Communicates z w) e (subst (λ z. Communicates (send c x) z) (ap (λ z. output z x) h ∙ ap (output d) (test.0 t) ∙ sym g) (sends c x))),
  (λ k. let u : output d y ≡ output c x = sym g ∙ sent_as p w k c x e in test.1 (cc)),
)

made : (p : Tree) (w : Waiting) → Communicates p w → IoAlt [] p (alt (and_branch (truth true) w skip no_branch))
made p w (receives c x) = input_alt c x
made p w (sends c e) = output_alt c e

found : (l r : Tree) (place : List ℕ) → IoAlt place l r → (b : Exp) (w : Waiting) (p : Tree) (rest : Branches) → r ≡ alt (and_branch b w p rest)
    → EndsAfter l b w p × (rest ≡ no_branch)
found l r place (output_alt c e) b w p rest g =
    let certain : b ≡ truth true = cc in
    let ends : p ≡ skip = cc in
    let waits : output c e ≡ w = cc in
    let alone : rest ≡ no_branch = cc in
    (record { certain = certain; ends = ends; communicates = subst (λ z. Communicates (send c e) z) waits (sends c e) }, alone)
found l r place (input_alt c x) b w p rest g =
    let certain : b ≡ truth true = cc in
    let ends : p ≡ skip = cc in
    let waits : input c x ≡ w = cc in
    let alone : rest ≡ no_branch = cc in
    (record { certain = certain; ends = ends; communicates = subst (λ z. Communicates (receive c x) z) waits (receives c x) }, alone)

-- io-alt where the first branch ends after the communication, and no other one is there
pub io_law : (l : Tree) (bs rest : Branches) (b : Exp) (w : Waiting) (p : Tree) (x : Bool) → bs ≡ and_branch b w p rest → EndsAfter l b w p → (IsTrue x ↔ (rest ≡ no_branch))
    → IsTrue x ↔ ((place : List ℕ) × IoAlt place l (alt bs))
io_law l bs rest b w p x e ends test = (
  (λ t. ([], subst (λ z. IoAlt [] l (alt z)) (whole (test.0 t)) (made l w ends.communicates))),
  (λ k. test.1 (found l (alt bs) k.0 k.1 b w p rest (ap alt e)).1),
)
  where
    whole : rest ≡ no_branch → and_branch (truth true) w skip no_branch ≡ bs
    whole g = ap (λ z. and_branch z w skip no_branch) (sym ends.certain) ∙ ap (λ z. and_branch b w z no_branch) (sym ends.ends) ∙ ap (and_branch b w p) (sym g) ∙ sym e

-- the first branch of the right side ends after the communication
pub io_never : (l : Tree) (bs rest : Branches) (b : Exp) (w : Waiting) (p : Tree) → bs ≡ and_branch b w p rest → (EndsAfter l b w p → ⊥)
    → (place : List ℕ) × IoAlt place l (alt bs) → ⊥
io_never l bs rest b w p e never k = never (found l (alt bs) k.0 k.1 b w p rest (ap alt e)).0

-- no branch is left where the list is empty
pub branches_gone : (rest : List (Guard × Proc)) (b : Bool) → (IsTrue b ↔ (length rest ≡ 0)) → IsTrue b ↔ (branches rest ≡ no_branch)
branches_gone [] b test = ((λ h. refl), (λ k. test.1 refl))
branches_gone (x ∷ rest) b test = ((λ h. absurd (omega (arith, test.0 h))), (λ k. cc))

-- a test of two numbers as a fact
pub same_test : (b : Bool) (m n : ℕ) → b ≡ (m == n) → IsTrue b ↔ (m ≡ n)
same_test b m n e = ((λ h. eqb-true m n (sym e ∙ h)), (λ h. e ∙ eq-eqb m n h))

-- a test that failed of what isn't so
pub failed_by : {P : Type 0} {b : Bool} → b ≡ false → (P → ⊥) → IsTrue b ↔ P
failed_by e wrong = ((λ h. absurd (true≢false (sym h ∙ e))), (λ p. absurd (wrong p)))

pub never : {b : Bool} → b ≡ false → IsTrue b → ⊥
never e h = true≢false (sym h ∙ e)
