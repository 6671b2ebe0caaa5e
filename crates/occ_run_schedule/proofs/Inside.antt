-- The events of a behaviour that is read are of the interface.
use Rattle.occ_syntax.specs.occ_base.declared.event.Dir.{Dir}
use Rattle.occ_syntax.specs.occ_base.declared.event.Event.{Event}
use Rattle.occ_syntax.specs.occ_base.declared.names.Name.{Name}
use Rattle.occ_syntax.specs.occ_base.Width.{bits_of}
use Rattle.occ_run.specs.occ_behaviour.Texts.{mark_text}
use Rattle.occ_run.specs.occ_behaviour.declared.behaviour.Behaviour.{Behaviour}
use Rattle.occ_run.specs.occ_behaviour.declared.behaviour.Last.{Last}
use Rattle.occ_run.specs.occ_behaviour.declared.behaviour.Last.TheVariants.{Refuses, Ends}
use Rattle.occ_behaviour_read.specs.Claims.{and_then, bare_lines, claim_read, closed, first_of, found_at, is_differ, last_line, line_read, read_at, state_line, trace_line}
use Rattle.occ_behaviour_read.specs.occ_nform_table.Lines.{event_of, event_on, fitting, set_of, state_of, text_of}
use Rattle.occ_behaviour_read.specs.occ_nform_table.Words.{behind, between, each, items_of, small_number_of, then_read}
use Rattle.occ_behaviour_read.proofs.from_nform_table.ReadWords.{or_inv, then_inv}
use Rattle.occ_run.specs.Stands.{end_events, interface, kind_events}
use Rattle.occ_run.proofs.from_run_steps.Lists.{Is, is_in_range, is_left, is_mapped, is_right}
use Rattle.occ_run_schedule.proofs.WitnessShowing.{is_among}
use Rattle.occ_run_schedule.specs.Witnesses.{IsWithin}
use Rattle.occ_behaviour_read.specs.occ_nform_table.Lines.{is_rising}
use Rattle.occ_syntax.specs.Scopes.{among}
use Rattle.occ_syntax.specs.declared.scope.Kind.{Kind}
use Rattle.occ_syntax.specs.declared.scope.Kind.TheVariants.{Var, Chan}
use Rattle.std.proofs.Common.{Bool, List, None, Ok, Err, Option, Result, Some, [], ap, arith, codes, cond, ltb, refl, slice_get, subst, sym, true, ℕ, ◌+◌, ◌<◌, ◌^◌, ◌∙◌, ◌∷◌, ◌≡◌, inl, inr}
use Rattle.std.proofs.lemmas.Bool.{and_from, ltb-true}
use Rattle.std.proofs.lemmas.Option.{cond_some, none-some, same_Some}
use Rattle.std.specs.List.{list_all, range_with_len}

-- ---- an event that a word is

abbrev event_made : Name → Dir → ℕ → Event
event_made name d v = record { chan = name; dir = d; value = v }

on_channel : (text : List ℕ) (name : Name) (kind : Kind) (word : List ℕ) (e : Event) → event_on text name kind word ≡ Some e → Is e (kind_events name kind)
unfolding event_on
on_channel text name (Var w) word e h = absurd (none-some e h)
on_channel text name (Chan w None) word e h = absurd (none-some e h)
on_channel text name (Chan w (Some d)) word e h =
    let one = then_inv (behind text word) _ e h in
    let two = then_inv (behind (mark_text d) one.0) _ e one.2 in
    let three = then_inv (small_number_of two.0) _ e two.2 in
    let four = then_inv (fitting w three.0) (λ value. Some (event_made name d value)) e three.2 in
    let fit = cond_some (ltb three.0 (2 ^ bits_of w)) three.0 four.0 four.1 in
    let low : three.0 < 2 ^ bits_of w = ltb-true three.0 (2 ^ bits_of w) fit.0 in
    let there : Is four.0 (range_with_len 0 (2 ^ bits_of w)) = is_in_range 0 (2 ^ bits_of w) four.0 (omega arith) (subst (λ n. n < 0 + 2 ^ bits_of w) fit.1 (omega (arith, low))) in
    let P : Event → Type 0 = λ z. Is z (end_events name w d) in
    subst P (same_Some (event_made name d four.0) e four.2) (is_mapped (event_made name d) four.0 (range_with_len 0 (2 ^ bits_of w)) there)

in_params : (names : List (List ℕ)) (params : List (Name × Kind)) (word : List ℕ) (e : Event) → event_of names params word ≡ Some e → Is e (interface params)
unfolding event_of
in_params names [] word e h = absurd (none-some e h)
in_params names ((name, kind) ∷ params) word e h =
    elim (or_inv (event_on (text_of names name) name kind word) (event_of names params word) e h) [
      | inl k ↦ is_left e (kind_events name kind) (interface params) (on_channel (text_of names name) name kind word e k)
      | inr k ↦ is_right e (kind_events name kind) (interface params) (in_params names params word e k)
    ]

-- ---- a set

each_inside : (names : List (List ℕ)) (params : List (Name × Kind)) (words : List (List ℕ)) (es : List Event) → each (event_of names params) words ≡ Some es
    → list_all (among (interface params)) es ≡ true
unfolding each
each_inside names params [] es h = ap (list_all (among (interface params))) (sym (same_Some [] es h))
each_inside names params (word ∷ words) es h =
    let one = then_inv (event_of names params word) (λ x. then_read {B = List Event} (each (event_of names params) words) (λ xs. Some (x ∷ xs))) es h in
    let two = then_inv (each (event_of names params) words) (λ xs. Some (one.0 ∷ xs)) es one.2 in
    let P : List Event → Type 0 = λ z. list_all (among (interface params)) z ≡ true in
    subst P (same_Some (one.0 ∷ two.0) es two.2) (and_from (among (interface params) one.0) (list_all (among (interface params)) two.0)
    (is_among one.0 (interface params) (in_params names params word one.0 one.1)) (each_inside names params words two.0 two.1))

set_inside : (names : List (List ℕ)) (params : List (Name × Kind)) (text : List ℕ) (set : List Event) → set_of names params text ≡ Some set
    → list_all (among (interface params)) set ≡ true
unfolding set_of
set_inside names params text set h =
    let one = then_inv (each (event_of names params) (items_of text)) (λ events. cond (is_rising params 0 events) (Some events) None) set h in
    let two = cond_some (is_rising params 0 one.0) one.0 set one.2 in
    let P : List Event → Type 0 = λ z. list_all (among (interface params)) z ≡ true in
    subst P two.1 (each_inside names params (items_of text) one.0 one.1)

last_within : (names : List (List ℕ)) (params : List (Name × Kind)) (line : List ℕ) (last : Last) → last_line names params line ≡ Some last → IsWithin params last
unfolding last_line
last_within names params line last h =
    let P : Last → Type 0 = λ z. IsWithin params z in
    elim (or_inv (then_read (between (codes "REFUSES {") (codes "}") line) (λ text. then_read (set_of names params text) (λ set. Some (Refuses set))))
    (then_read (between (codes "ENDS [") (codes "]") line) (λ text. then_read (state_of params text) (λ state. Some (Ends state)))) last h) [
      | inl k ↦ (
          let one = then_inv (between (codes "REFUSES {") (codes "}") line) (λ text. then_read {B = Last} (set_of names params text) (λ set. Some (Refuses set))) last k in
          let two = then_inv (set_of names params one.0) (λ set. Some (Refuses set)) last one.2 in
          subst P (same_Some (Refuses two.0) last two.2) (set_inside names params one.0 two.0 two.1))
      | inr k ↦ (
          let one = then_inv (between (codes "ENDS [") (codes "]") line) (λ text. then_read {B = Last} (state_of params text) (λ state. Some (Ends state))) last k in
          let two = then_inv (state_of params one.0) (λ state. Some (Ends state)) last one.2 in
          subst P (same_Some (Ends two.0) last two.2) tt)
    ]

-- ---- a behaviour

and_inv : {A B : Type 0} (r : Result A ℕ) (next : A → Result B ℕ) (y : B) → and_then r next ≡ Ok y → (x : A) × (r ≡ Ok x) × (next x ≡ Ok y)
and_inv (Ok x) next y h = (x, refl, h)
and_inv (Err n) next y h = absurd (let no : ⊥ = cc in no)

line_inv : {A : Type 0} (lines : List (List ℕ)) (k : ℕ) (read : List ℕ → Option A) (x : A) → line_read lines k read ≡ Ok x → (line : List ℕ) × (read line ≡ Some x)
line_inv {A = A} lines k read x h = at (slice_get lines k) h
  where
    found : (line : List ℕ) (o : Option A) → read line ≡ o → found_at k o ≡ Ok x → (l : List ℕ) × (read l ≡ Some x)
    found line None e g = absurd (let no : ⊥ = cc in no)
    found line (Some y) e g = let same : y ≡ x = cc in (line, e ∙ ap Some same)

    at : (o : Option (List ℕ)) → read_at lines k o read ≡ Ok x → (line : List ℕ) × (read line ≡ Some x)
    at None g = absurd (let no : ⊥ = cc in no)
    at (Some line) g = found line (read line) refl g

-- the events of a behaviour that is read
pub claim_within : (names : List (List ℕ)) (params : List (Name × Kind)) (text : List ℕ) (b : Behaviour) → claim_read names params text ≡ Ok b → IsWithin params b.last
claim_within names params text b h =
    let lines : List (List ℕ) = bare_lines text in
    let marked : Bool = is_differ (slice_get lines 0) in
    let made : List (Name × ℕ) → List Event → Last → Behaviour = λ s t l. record { state = s; trace = t; last = l } in
    let four : List (Name × ℕ) → List Event → Last → Result Behaviour ℕ = λ s t l. and_then (closed lines marked) (λ done. Ok (made s t l)) in
    let three : List (Name × ℕ) → List Event → Result Behaviour ℕ = λ s t. and_then (line_read lines (first_of marked + 2) (last_line names params)) (four s t) in
    let two : List (Name × ℕ) → Result Behaviour ℕ = λ s. and_then (line_read lines (first_of marked + 1) (trace_line names params)) (three s) in
    let one = and_inv (line_read lines (first_of marked) (state_line params)) two b h in
    let next = and_inv (line_read lines (first_of marked + 1) (trace_line names params)) (three one.0) b one.2 in
    let last = and_inv (line_read lines (first_of marked + 2) (last_line names params)) (four one.0 next.0) b next.2 in
    let end = and_inv (closed lines marked) (λ done. Ok (made one.0 next.0 last.0)) b last.2 in
    let line = line_inv lines (first_of marked + 2) (last_line names params) last.0 last.1 in
    let is : made one.0 next.0 last.0 ≡ b = cc in
    let P : Behaviour → Type 0 = λ z. IsWithin params z.last in
    subst P {x = made one.0 next.0 last.0} is (last_within names params line.0 last.0 line.1)
