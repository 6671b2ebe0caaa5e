-- Tests of guards, and of all branches of a list.
use Rattle.std.proofs.Common.{◌≡◌, ◌↔◌, ◌&&◌, ◌||◌, Bool, true, false, true≢false, IsTrue, refl, ap, sym, ◌∙◌}
use Rattle.std.proofs.lemmas.Bool.{and_parts}
use Rattle.occ_syntax.specs.Tree.{Exp, variable, numeral, truth, negation, complement, operation, Waiting, ready, input, output, Tree, Branches, and_branch}
use Rattle.occ_law_shape.specs.occ_law.Choice.{are_events, are_plain_events, has_skip, is_event, is_plain, is_ready}

-- a condition is plain where it is TRUE
plain_is : (b : Exp) → is_plain b ≡ true → b ≡ truth true
plain_is (variable x) e = absurd (true≢false (sym e))
plain_is (numeral bits value) e = absurd (true≢false (sym e))
plain_is (truth b) e = ap truth e
plain_is (negation e) f = absurd (true≢false (sym f))
plain_is (complement e) f = absurd (true≢false (sym f))
plain_is (operation op left right) e = absurd (true≢false (sym e))

ready_is : (w : Waiting) → is_ready w ≡ true → w ≡ ready
ready_is ready e = refl
ready_is (input c x) e = absurd (true≢false (sym e))
ready_is (output c x) e = absurd (true≢false (sym e))

-- a test that can't be true
untrue : (t : Bool) → (t ≡ true → ⊥) → t ≡ false
untrue true wrong = absurd (wrong refl)
untrue false wrong = refl

pub not_plain : (b : Exp) → (b ≡ truth true → ⊥) → is_plain b ≡ false
not_plain b wrong = untrue (is_plain b) (λ e. wrong (plain_is b e))

-- ---- some branch has the guard TRUE & SKIP

pub skip_found : (b : Exp) (w : Waiting) (p : Tree) (xs gs : Branches) → xs ≡ and_branch b w p gs → b ≡ truth true → w ≡ ready → has_skip xs ≡ true
skip_found b w p xs gs e f g = ap has_skip e ∙ ap (λ z. (is_plain z && is_ready w) || has_skip gs) f ∙ ap (λ z. is_ready z || has_skip gs) g

-- the first branch hasn't it
pub skip_step : (b : Exp) (w : Waiting) (p : Tree) (xs gs : Branches) → xs ≡ and_branch b w p gs → ((b ≡ truth true) × (w ≡ ready) → ⊥) → has_skip gs ≡ has_skip xs
skip_step b w p xs gs e wrong =
    let no : (is_plain b && is_ready w) ≡ false = untrue (is_plain b && is_ready w) (λ h. let k = and_parts (is_plain b) (is_ready w) h in wrong (plain_is b k.0, ready_is w k.1)) in
    sym (ap has_skip e ∙ ap (λ z. z || has_skip gs) no)

-- ---- all branches wait for inputs and outputs

pub event_missing : (b : Exp) (w : Waiting) (p : Tree) (xs gs : Branches) → xs ≡ and_branch b w p gs → is_event w ≡ false → are_events xs ≡ false
event_missing b w p xs gs e f = ap are_events e ∙ ap (λ z. z && are_events gs) f

pub event_step : (b : Exp) (w : Waiting) (p : Tree) (xs gs : Branches) → xs ≡ and_branch b w p gs → is_event w ≡ true → are_events gs ≡ are_events xs
event_step b w p xs gs e f = sym (ap are_events e ∙ ap (λ z. z && are_events gs) f)

-- ---- and their conditions are TRUE

pub plain_missing : (b : Exp) (w : Waiting) (p : Tree) (xs gs : Branches) → xs ≡ and_branch b w p gs → is_plain b ≡ false → are_plain_events xs ≡ false
plain_missing b w p xs gs e f = ap are_plain_events e ∙ ap (λ z. z && is_event w && are_plain_events gs) f

pub plain_event_missing : (b : Exp) (w : Waiting) (p : Tree) (xs gs : Branches) → xs ≡ and_branch b w p gs → is_event w ≡ false → are_plain_events xs ≡ false
plain_event_missing b w p xs gs e f = ap are_plain_events e ∙ ap (λ z. is_plain b && z && are_plain_events gs) f ∙ never (is_plain b) (are_plain_events gs)
  where
    never : (t u : Bool) → ((t && false) && u) ≡ false
    never true u = refl
    never false u = refl

pub plain_event_step : (b : Exp) (w : Waiting) (p : Tree) (xs gs : Branches) → xs ≡ and_branch b w p gs → b ≡ truth true → is_event w ≡ true → are_plain_events gs ≡ are_plain_events xs
plain_event_step b w p xs gs e f g = sym (ap are_plain_events e ∙ ap (λ z. is_plain z && is_event w && are_plain_events gs) f ∙ ap (λ z. z && are_plain_events gs) g)

-- ---- an answer that is false

pub refuted_when : {P : Type 0} (b : Bool) → b ≡ false → (P → ⊥) → IsTrue b ↔ P
refuted_when b e wrong = ((λ h. absurd (true≢false (sym h ∙ e))), (λ r. absurd (wrong r)))
