-- Traces of parts side by side that have no events on some channels.
use Rattle.std.proofs.Common.{◌≡◌, ℕ, ◌&&◌, Bool, true, false, List, [], ◌∷◌, ⊎_elim, refl, sym, ◌∙◌, subst}
use Rattle.std.proofs.lemmas.Bool.{and_from, and_parts, cases_Bool}
use Rattle.occ_syntax.specs.occ_base.declared.event.Dir.{Dir}
use Rattle.occ_syntax.specs.occ_base.declared.event.Event.{Event}
use Rattle.occ_syntax.specs.occ_base.declared.names.Name.{Name}
use Rattle.occ_norm_frame.proofs.from_meaning.Beside.{weave_turned}
use Rattle.occ_norm_frame.proofs.from_meaning.Facts.{clash}
use Rattle.occ_norm_frame.specs.occ_meaning.Foundation.{AreOnEnds}
use Rattle.occ_syntax.specs.Meaning.{Weave, both_done, of_first, of_second, unseen}
use Rattle.occ_norm_frame.specs.occ_weave.Weave.{is_open, is_silent_on}

-- a trace on other ends has no events on the channels
pub silent_unused : (u : ℕ → Dir → Bool) (closed : List Name) → ((e : Event) → is_open closed e ≡ false → u e.chan.0 e.dir ≡ false) → (t : List Event) → AreOnEnds u t → is_silent_on closed t ≡ true
silent_unused u closed off [] h = refl
silent_unused u closed off (e ∷ t) h = and_from (is_open closed e) (is_silent_on closed t)
    (⊎_elim (λ (o : is_open closed e ≡ true). o) (λ (n : is_open closed e ≡ false). clash (u e.chan.0 e.dir) h.0 (off e n)) (cases_Bool (is_open closed e)))
    (silent_unused u closed off t h.1)

-- both traces have none: the trace of both has none
pub silent_woven : (closed : List Name) (a b c : List Event) → Weave a b c → is_silent_on closed a ≡ true → is_silent_on closed b ≡ true → is_silent_on closed c ≡ true
silent_woven closed a b c both_done h k = refl
silent_woven closed a b c (of_first {e = e} {a = x} {b = y} {c = z} w) h k =
    let p = and_parts (is_open closed e) (is_silent_on closed x) h in and_from (is_open closed e) (is_silent_on closed z) p.0 (silent_woven closed x y z w p.1 k)
silent_woven closed a b c (of_second {e = e} {a = x} {b = y} {c = z} w) h k =
    let p = and_parts (is_open closed e) (is_silent_on closed y) k in and_from (is_open closed e) (is_silent_on closed z) p.0 (silent_woven closed x y z w h p.1)
silent_woven closed a b c (unseen {e = e} {f = f} {a = x} {b = y} {c = z} i w) h k =
    silent_woven closed x y z w (and_parts (is_open closed e) (is_silent_on closed x) h).1 (and_parts (is_open closed f) (is_silent_on closed y) k).1

-- the second trace and the trace of both have none: so has the first
pub silent_first : (closed : List Name) (a b c : List Event) → Weave a b c → is_silent_on closed b ≡ true → is_silent_on closed c ≡ true → is_silent_on closed a ≡ true
silent_first closed a b c both_done h k = refl
silent_first closed a b c (of_first {e = e} {a = x} {b = y} {c = z} w) h k =
    let p = and_parts (is_open closed e) (is_silent_on closed z) k in and_from (is_open closed e) (is_silent_on closed x) p.0 (silent_first closed x y z w h p.1)
silent_first closed a b c (of_second {e = e} {a = x} {b = y} {c = z} w) h k =
    silent_first closed x y z w (and_parts (is_open closed e) (is_silent_on closed y) h).1 (and_parts (is_open closed e) (is_silent_on closed z) k).1
silent_first closed a b c (unseen {e = e} {f = f} {a = x} {b = y} {c = z} i w) h k =
    let p = and_parts (is_open closed f) (is_silent_on closed y) h in
    let P : Event → Type 0 = λ g. is_open closed g ≡ true in
    and_from (is_open closed e) (is_silent_on closed x) (subst P i p.0) (silent_first closed x y z w p.1 k)

pub silent_second : (closed : List Name) (a b c : List Event) → Weave a b c → is_silent_on closed a ≡ true → is_silent_on closed c ≡ true → is_silent_on closed b ≡ true
silent_second closed a b c w h k = silent_first closed b a c (weave_turned a b c w) h k

-- ---- channels in three lists
module _ (all sole shared behind : List Name) (opens : (e : Event) → is_open all e ≡ (is_open sole e && (is_open shared e && is_open behind e))) where
  pub silent_all : (t : List Event) → is_silent_on sole t ≡ true → is_silent_on shared t ≡ true → is_silent_on behind t ≡ true → is_silent_on all t ≡ true
  silent_all [] h k l = refl
  silent_all (e ∷ t) h k l =
      let p = and_parts (is_open sole e) (is_silent_on sole t) h in
      let q = and_parts (is_open shared e) (is_silent_on shared t) k in
      let r = and_parts (is_open behind e) (is_silent_on behind t) l in
      and_from (is_open all e) (is_silent_on all t) (opens e ∙ and_from (is_open sole e) _ p.0 (and_from (is_open shared e) (is_open behind e) q.0 r.0)) (silent_all t p.1 q.1 r.1)

  pub silent_each : (t : List Event) → is_silent_on all t ≡ true → (is_silent_on sole t ≡ true) × (is_silent_on shared t ≡ true) × (is_silent_on behind t ≡ true)
  silent_each [] h = (refl, refl, refl)
  silent_each (e ∷ t) h =
      let p = and_parts (is_open all e) (is_silent_on all t) h in
      let q = and_parts (is_open sole e) _ (sym (opens e) ∙ p.0) in
      let r = and_parts (is_open shared e) (is_open behind e) q.1 in
      let s = silent_each t p.1 in
      (and_from (is_open sole e) (is_silent_on sole t) q.0 s.0, and_from (is_open shared e) (is_silent_on shared t) r.0 s.1, and_from (is_open behind e) (is_silent_on behind t) r.1 s.2)
