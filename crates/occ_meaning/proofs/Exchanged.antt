-- Names exchanged, both ways; and what a part with usage kept gives.
use Rattle.occ_syntax.specs.occ_base.declared.event.Event.{Event}
use Rattle.occ_meaning.proofs.Redeclared.{replaced_is_exchanged}
use Rattle.occ_meaning.proofs.RenamedTrees.{tree_twice, types_under}
use Rattle.occ_meaning.proofs.Renaming.{IsExchange, exchange_is, part_carries}
use Rattle.occ_meaning.specs.Rename.{exchanging, renamed, renamed_event, renamed_outcome, renamed_trace, replacing, stands, under}
use Rattle.occ_syntax.specs.Meaning.{Outcome, ended, meaning, refusing}
use Rattle.occ_syntax.specs.Scopes.{Environment, Trace, Values}
use Rattle.occ_syntax.specs.Tree.{Tree}
use Rattle.occ_syntax.specs.Types.{types_kept}
use Rattle.std.proofs.Common.{[], ap, false, refl, subst, sym, ℕ, ◌↔◌, ◌∙◌, ◌∷◌, ◌≡◌}
use mathlib.Core.Path.{fun_ext}

event_twice : (f : ℕ → ℕ) → IsExchange f → (e : Event) → renamed_event f (renamed_event f e) ≡ e
event_twice f inv e = ap (λ n. record { chan = record { 0 = n }; dir = e.dir; value = e.value }) (inv e.chan.0)

trace_twice : (f : ℕ → ℕ) → IsExchange f → (t : Trace) → renamed_trace f (renamed_trace f t) ≡ t
trace_twice f inv [] = refl
trace_twice f inv (e ∷ t) = ap (λ z. z ∷ renamed_trace f (renamed_trace f t)) (event_twice f inv e) ∙ ap (λ r. e ∷ r) (trace_twice f inv t)

outcome_twice : (f : ℕ → ℕ) → IsExchange f → (o : Outcome) → renamed_outcome f (renamed_outcome f o) ≡ o
outcome_twice f inv (ended s') = ap ended (fun_ext (λ n. ap s' (inv n)))
outcome_twice f inv (refusing X) = ap refusing (fun_ext (λ e. ap X (event_twice f inv e)))

exchanged_back : (p : Tree) (f : ℕ → ℕ) → IsExchange f → (Γ : Environment) (s : Values) (t : Trace) (o : Outcome)
    → (meaning (renamed p f)).does (under f Γ) (under f s) (renamed_trace f t) (renamed_outcome f o) → (meaning p).does Γ s t o
exchanged_back p f inv Γ s t o d =
    let k = (part_carries (renamed p f) f inv).carried (under f Γ) (under f s) (renamed_trace f t) (renamed_outcome f o) d in
    let P : Tree → Type 0 = λ z. (meaning z).does (under f (under f Γ)) (under f (under f s)) (renamed_trace f (renamed_trace f t)) (renamed_outcome f (renamed_outcome f o)) in
    let Q : Environment → Type 0 = λ z. (meaning p).does z (under f (under f s)) (renamed_trace f (renamed_trace f t)) (renamed_outcome f (renamed_outcome f o)) in
    let R : Values → Type 0 = λ z. (meaning p).does Γ z (renamed_trace f (renamed_trace f t)) (renamed_outcome f (renamed_outcome f o)) in
    let S : Trace → Type 0 = λ z. (meaning p).does Γ s z (renamed_outcome f (renamed_outcome f o)) in
    let U : Outcome → Type 0 = λ z. (meaning p).does Γ s t z in
    subst U (outcome_twice f inv o) (subst S (trace_twice f inv t) (subst R (fun_ext (λ n. ap s (inv n))) (subst Q (fun_ext (λ n. ap Γ (inv n))) (subst P (tree_twice p f inv) k))))

pub exchanged : (p : Tree) (a b : ℕ) (Γ : Environment) (s : Values) (t : Trace) (o : Outcome)
    → (meaning p).does Γ s t o ↔ (meaning (renamed p (exchanging a b))).does (under (exchanging a b) Γ) (under (exchanging a b) s) (renamed_trace (exchanging a b) t) (renamed_outcome (exchanging a b) o)
exchanged p a b Γ s t o = ((part_carries p (exchanging a b) (exchange_is a b)).carried Γ s t o, exchanged_back p (exchanging a b) (exchange_is a b) Γ s t o)

-- the same for a new name that stands nowhere
pub replaced : (p : Tree) (old new : ℕ) → stands p new ≡ false → (Γ : Environment) (s : Values) (t : Trace) (o : Outcome)
    → (meaning p).does Γ s t o
    ↔ (meaning (renamed p (replacing old new))).does (under (exchanging old new) Γ) (under (exchanging old new) s) (renamed_trace (exchanging old new) t) (renamed_outcome (exchanging old new) o)
replaced p old new nowhere Γ s t o =
    let f : ℕ → ℕ = exchanging old new in
    let P : Tree → Type 0 = λ q. (meaning p).does Γ s t o ↔ (meaning q).does (under f Γ) (under f s) (renamed_trace f t) (renamed_outcome f o) in
    subst P (sym (replaced_is_exchanged old new p nowhere)) (exchanged p old new Γ s t o)

pub replaced_types : (p : Tree) (old new : ℕ) → stands p new ≡ false → (Γ : Environment)
    → types_kept (renamed p (replacing old new)) (under (exchanging old new) Γ) ≡ types_kept p Γ
replaced_types p old new nowhere Γ =
    ap (λ q. types_kept q (under (exchanging old new) Γ)) (replaced_is_exchanged old new p nowhere) ∙ types_under p (exchanging old new) (exchange_is old new) Γ
