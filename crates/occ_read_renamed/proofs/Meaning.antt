-- Programs mean the same exactly where they do under other names.
use Rattle.std.proofs.Common.{◌≡◌, ◌↔◌, ℕ, ◌+◌, List, sym, ap, subst, ◌∙◌, arith}
use mathlib.Core.Path.{fun_ext}
use Rattle.occ_nform.specs.occ_base.declared.names.Name.{Name}
use Rattle.occ_renamed.proofs.from_meaning.RenamedTrees.{trees_agree}
use Rattle.occ_renamed.specs.occ_meaning.Rename.{renamed, renamed_event, renamed_trace, under}
use Rattle.occ_read_renamed.proofs.Bounds.{below_top, top}
use Rattle.occ_read_renamed.proofs.Exchanges.{Exchanges, applied, back_and_there, carried, exchanges_one, so_below, unapplied}
use Rattle.occ_read_renamed.proofs.Standing.{event_back, trace_back}
use Rattle.occ_read_renamed.proofs.RenamedTables.{environment_same}
use Rattle.occ_read_renamed.proofs.Texts.{kinds_agree, kinds_top}
use Rattle.occ_renamed.specs.Renamed.{kinds_renamed}
use Rattle.occ_renamed.specs.Standing.{IsOneForOne}
use Rattle.occ_nform.specs.occ_syntax.Meaning.{ended, ends, fails, meaning, refusing}
use Rattle.occ_nform.specs.occ_syntax.Same.{SAME}
use Rattle.occ_nform.specs.occ_syntax.Scopes.{Environment, EventSet, IsState, IsWithin, Trace, Values, channel_kind, environment, has_width, variable_kind}
use Rattle.occ_nform.specs.occ_syntax.Tree.{Tree}
use Rattle.occ_nform.specs.occ_syntax.declared.scope.Kind.{Kind}

module _ (pairs : Exchanges) (params : List (Name × Kind)) where
  abbrev f : ℕ → ℕ
  f = applied pairs

  abbrev back : ℕ → ℕ
  back = unapplied pairs

  abbrev Γ : Environment
  Γ = environment params

  abbrev Δ : Environment
  Δ = environment (kinds_renamed f params)

  same_kind : (x : ℕ) → Δ (f x) ≡ Γ x
  same_kind x = environment_same f (exchanges_one pairs) params x

  kind_back : (y : ℕ) → Δ y ≡ Γ (back y)
  kind_back y = ap Δ (sym (back_and_there pairs y)) ∙ same_kind (back y)

  environment_is : under back Γ ≡ Δ
  environment_is = fun_ext (λ y. sym (kind_back y))

  values_back : (s : Values) → under back (under f s) ≡ s
  values_back s = fun_ext (λ y. ap s (back_and_there pairs y))

  set_back : (X : EventSet) → (λ e. X (renamed_event f (renamed_event back e))) ≡ X
  set_back X = fun_ext (λ e. ap X (event_back f back (back_and_there pairs) e))

  fails_there : (p : Tree) (s : Values) (t : Trace) (X : EventSet) → fails Γ p s t X
      ↔ fails Δ (renamed p f) (under back s) (renamed_trace f t) (λ e. X (renamed_event back e))
  fails_there p s t X =
      subst (λ E. fails Γ p s t X ↔ (meaning (renamed p f)).does E (under back s) (renamed_trace f t) (refusing (λ e. X (renamed_event back e)))) environment_is
      (carried pairs Γ p s t (refusing X))

  ends_there : (p : Tree) (s : Values) (t : Trace) (u : Values) → ends Γ p s t u ↔ ends Δ (renamed p f) (under back s) (renamed_trace f t) (under back u)
  ends_there p s t u =
      subst (λ E. ends Γ p s t u ↔ (meaning (renamed p f)).does E (under back s) (renamed_trace f t) (ended (under back u))) environment_is (carried pairs Γ p s t (ended u))

  -- and of any values, trace and set under the other names
  fails_back : (p : Tree) (s : Values) (t : Trace) (X : EventSet) → fails Γ p (under f s) (renamed_trace back t) (λ e. X (renamed_event f e)) ↔ fails Δ (renamed p f) s t X
  fails_back p s t X =
      let v = under f s in
      let r = renamed_trace back t in
      let Y : EventSet = λ e. X (renamed_event f e) in
      subst (λ Z. fails Γ p v r Y ↔ fails Δ (renamed p f) s t Z) (set_back X)
      (subst (λ z. fails Γ p v r Y ↔ fails Δ (renamed p f) s z (λ e. X (renamed_event f (renamed_event back e)))) (trace_back f back (back_and_there pairs) t)
      (subst (λ z. fails Γ p v r Y ↔ fails Δ (renamed p f) z (renamed_trace f r) (λ e. X (renamed_event f (renamed_event back e)))) (values_back s) (fails_there p v r Y)))

  ends_back : (p : Tree) (s : Values) (t : Trace) (u : Values) → ends Γ p (under f s) (renamed_trace back t) (under f u) ↔ ends Δ (renamed p f) s t u
  ends_back p s t u =
      let v = under f s in
      let r = renamed_trace back t in
      subst (λ z. ends Γ p v r (under f u) ↔ ends Δ (renamed p f) s t z) (values_back u)
      (subst (λ z. ends Γ p v r (under f u) ↔ ends Δ (renamed p f) s z (under back (under f u))) (trace_back f back (back_and_there pairs) t)
      (subst (λ z. ends Γ p v r (under f u) ↔ ends Δ (renamed p f) z (renamed_trace f r) (under back (under f u))) (values_back s) (ends_there p v r (under f u))))

  state_there : (s : Values) → IsState Γ s → IsState Δ (under back s)
  state_there s h y w e = h (back y) w (ap variable_kind (sym (kind_back y)) ∙ e)

  state_back : (s : Values) → IsState Δ s → IsState Γ (under f s)
  state_back s h x w e = h (f x) w (ap variable_kind (same_kind x) ∙ e)

  within_there : (X : EventSet) → IsWithin Γ X → IsWithin Δ (λ e. X (renamed_event back e))
  within_there X h e k = ap (λ o. has_width (channel_kind o) e.value) (kind_back e.chan.0) ∙ h (renamed_event back e) k

  within_back : (X : EventSet) → IsWithin Δ X → IsWithin Γ (λ e. X (renamed_event f e))
  within_back X h e k = ap (λ o. has_width (channel_kind o) e.value) (sym (same_kind e.chan.0)) ∙ h (renamed_event f e) k

  same_there : (p q : Tree) → SAME Γ p q → SAME Δ (renamed p f) (renamed q f)
  same_there p q h = record {
    same_failures = λ s t X state within.
        let a = fails_back p s t X in
        let b = fails_back q s t X in
        let m = h.same_failures (under f s) (renamed_trace back t) (λ e. X (renamed_event f e)) (state_back s state) (within_back X within) in
        (λ k. b.0 (m.0 (a.1 k)), λ k. a.0 (m.1 (b.1 k)));
    same_ends = λ s t u state.
        let a = ends_back p s t u in
        let b = ends_back q s t u in
        let m = h.same_ends (under f s) (renamed_trace back t) (under f u) (state_back s state) in
        (λ k. b.0 (m.0 (a.1 k)), λ k. a.0 (m.1 (b.1 k)));
  }

  same_here : (p q : Tree) → SAME Δ (renamed p f) (renamed q f) → SAME Γ p q
  same_here p q h = record {
    same_failures = λ s t X state within.
        let a = fails_there p s t X in
        let b = fails_there q s t X in
        let m = h.same_failures (under back s) (renamed_trace f t) (λ e. X (renamed_event back e)) (state_there s state) (within_there X within) in
        (λ k. b.1 (m.0 (a.0 k)), λ k. a.1 (m.1 (b.0 k)));
    same_ends = λ s t u state.
        let a = ends_there p s t u in
        let b = ends_there q s t u in
        let m = h.same_ends (under back s) (renamed_trace f t) (under back u) (state_there s state) in
        (λ k. b.1 (m.0 (a.0 k)), λ k. a.1 (m.1 (b.0 k)));
  }

  both_ways : (p q : Tree) → SAME Γ p q ↔ SAME Δ (renamed p f) (renamed q f)
  both_ways p q = (same_there p q, same_here p q)

pub same_so : (f : ℕ → ℕ) → IsOneForOne f → (params : List (Name × Kind)) (p q : Tree) → SAME (environment params) p q
    ↔ SAME (environment (kinds_renamed f params)) (renamed p f) (renamed q f)
same_so f one params p q =
    let n = top p + top q + kinds_top params in
    let b = so_below f one n in
    let g = applied b.pairs in
    let first = trees_agree p g f (λ x k. let l = below_top p x k in b.same x (omega (arith, l))) in
    let second = trees_agree q g f (λ x k. let l = below_top q x k in b.same x (omega (arith, l))) in
    subst (λ r. SAME (environment params) p q ↔ SAME (environment (kinds_renamed f params)) (renamed p f) r) second
    (subst (λ r. SAME (environment params) p q ↔ SAME (environment (kinds_renamed f params)) r (renamed q g)) first
    (subst (λ ds. SAME (environment params) p q ↔ SAME (environment ds) (renamed p g) (renamed q g)) (kinds_agree g f n b.same params (omega arith)) (both_ways b.pairs params p q)))
