-- What the lines of a behaviour's text are read as determines them.
use Rattle.std.proofs.Common.{◌≡◌, ◌∙◌, ℕ, Bool, true, cond, eqb, ◌||◌, List, [], ◌∷◌, ◌++◌, None, Some, inl, inr, refl, ap, subst}
use Rattle.std.specs.Prelude.{codes}
use Rattle.std.specs.Str.{bytes_eq}
use Rattle.std.proofs.lemmas.Bool.{or_cases, eqb-true}
use Rattle.std.proofs.lemmas.Option.{cond_some, none-some, same_Some}
use Rattle.occ_syntax.specs.occ_base.declared.event.Event.{Event}
use Rattle.occ_syntax.specs.occ_base.declared.names.Name.{Name}
use Rattle.occ_syntax.specs.Scopes.{environment, in_interface}
use Rattle.occ_syntax.specs.declared.scope.Kind.{Kind}
use Rattle.occ_compare.specs.occ_behaviour.States.{is_state}
use Rattle.occ_compare.specs.occ_behaviour.Texts.{event_text, spaced}
use Rattle.occ_compare.specs.occ_behaviour.declared.behaviour.Last.{Last}
use Rattle.occ_compare.specs.occ_behaviour.declared.behaviour.Last.TheVariants.{Refuses, Ends}
use Rattle.occ_compare.specs.occ_behaviour.declared.behaviour.Side.{Side}
use Rattle.occ_compare.specs.occ_behaviour.declared.behaviour.Side.TheVariants.{First, Second}
use Rattle.occ_nform_read.specs.occ_nform_table.Lines.{event_of, set_of, state_of}
use Rattle.occ_nform_read.specs.occ_nform_table.Words.{behind, between, each, items_of, then_read}
use Rattle.occ_nform_read.proofs.from_nform_table.ReadEvents.{Apart, all_from, event_inv, set_inv}
use Rattle.occ_nform_read.proofs.from_nform_table.ReadStates.{state_inv}
use Rattle.occ_nform_read.proofs.from_nform_table.ReadWords.{behind_inv, between_inv, bytes_same, items_inv, or_inv, then_inv}
use Rattle.occ_behaviour_read.specs.Claims.{last_line, only_line, spaced_words, state_line, trace_line}
use Rattle.occ_compare.specs.Programs.{AreEvents, LastIsWithin}
use Rattle.occ_behaviour_read.specs.Behaviours.{IsInOrder}
use Rattle.occ_behaviour_read.proofs.Written.{events_behind, last_body, only_body, state_body, trace_body}

-- the state of a line
pub state_line_inv : (params : List (Name × Kind)) (line : List ℕ) (state : List (Name × ℕ)) → state_line params line ≡ Some state → (line ≡ state_body state) × (is_state params state ≡ true)
unfolding state_line
state_line_inv params line state e =
    let one = then_inv (between (codes "STATE [") (codes "]") line) (state_of params) state e in
    let is = state_inv params one.0 state one.2 in
    (between_inv (codes "STATE [") (codes "]") line one.0 one.1 ∙ ap (λ t. codes "STATE [" ++ (t ++ codes "]")) is.written, is.state)

not_empty : {b : ℕ} {text : List ℕ} → b ∷ text ≡ [] → ⊥
not_empty e = cc

-- words behind a space are so many events
behind_is : (names : List (List ℕ)) (text : List ℕ) (b : ℕ) (events : List Event) → b ∷ text ≡ spaced (event_text names) events → 32 ∷ b ∷ text ≡ events_behind names events
behind_is names text b [] e = absurd (not_empty e)
behind_is names text b (f ∷ events) e = ap (λ t. 32 ∷ t) e

-- the only side of a line
pub only_inv : (line : List ℕ) (is : Bool) → only_line line ≡ Some is → (side : Side) × (line ≡ only_body side)
unfolding only_line
only_inv line is e =
    let one = cond_some (bytes_eq line (codes "ONLY FIRST") || bytes_eq line (codes "ONLY SECOND")) true is e in
    elim (or_cases (bytes_eq line (codes "ONLY FIRST")) (bytes_eq line (codes "ONLY SECOND")) one.0) [
      | inl h ↦ (First, bytes_same line (codes "ONLY FIRST") h)
      | inr h ↦ (Second, bytes_same line (codes "ONLY SECOND") h)
    ]

module _ (names : List (List ℕ)) (params : List (Name × Kind)) (apart : Apart params) where
  words_inv : (text : List ℕ) (events : List Event) → then_read (spaced_words text) (each (event_of names params)) ≡ Some events
      → (text ≡ events_behind names events) × AreEvents params events
  unfolding each
  words_inv [] events e =
      let none : [] ≡ events = same_Some [] events e in (
        ap (events_behind names) none,
        subst (AreEvents params) none refl,
      )
  words_inv (b ∷ []) events e = absurd (none-some events e)
  words_inv (b ∷ c ∷ text) events e =
      let one = then_inv (cond (eqb b 32) (Some (items_of (c ∷ text))) None) (each (event_of names params)) events e in
      let space = cond_some (eqb b 32) (items_of (c ∷ text)) one.0 one.1 in
      let items = items_inv (event_of names params) (event_text names) (λ f. in_interface (environment params) f ≡ true)
      (λ w f h. let is = event_inv names params w f apart h in (is.written, is.inside)) (c ∷ text) events (ap (each (event_of names params)) space.1 ∙ one.2) in (
        ap (λ d. d ∷ c ∷ text) (eqb-true b 32 space.0) ∙ behind_is names text c events items.0,
        all_from (in_interface (environment params)) events items.1,
      )

  -- the trace of a line
  pub trace_line_inv : (line : List ℕ) (events : List Event) → trace_line names params line ≡ Some events → (line ≡ trace_body names events) × AreEvents params events
  unfolding trace_line
  trace_line_inv line events e =
      let one = then_inv (behind (codes "TRACE") line) (λ text. then_read (spaced_words text) (each (event_of names params))) events e in
      let is = words_inv one.0 events one.2 in
      (behind_inv (codes "TRACE") line one.0 one.1 ∙ ap (λ t. codes "TRACE" ++ t) is.0, is.1)

  abbrev IsLastLine : List ℕ → Last → Type 0
  IsLastLine line last = (line ≡ last_body names last) × LastIsWithin params last × IsInOrder params last

  -- how a behaviour stands by a line
  pub last_line_inv : (line : List ℕ) (last : Last) → last_line names params line ≡ Some last → IsLastLine line last
  unfolding last_line
  last_line_inv line last e =
      elim (or_inv (then_read (between (codes "REFUSES {") (codes "}") line) (λ text. then_read (set_of names params text) (λ set. Some (Refuses set))))
      (then_read (between (codes "ENDS [") (codes "]") line) (λ text. then_read (state_of params text) (λ state. Some (Ends state)))) last e) [
        | inl h ↦ (
            let one = then_inv (between (codes "REFUSES {") (codes "}") line) (λ text. then_read {B = Last} (set_of names params text) (λ set. Some (Refuses set))) last h in
            let two = then_inv (set_of names params one.0) (λ set. Some (Refuses set)) last one.2 in
            let is = set_inv names params one.0 two.0 apart two.1 in
            let own : IsLastLine line (Refuses two.0) = (between_inv (codes "REFUSES {") (codes "}") line one.0 one.1 ∙ ap (λ t. codes "REFUSES {" ++ (t ++ codes "}")) is.0, is.1.0, is.1.1) in
            subst (IsLastLine line) (same_Some (Refuses two.0) last two.2) own)
        | inr h ↦ (
            let one = then_inv (between (codes "ENDS [") (codes "]") line) (λ text. then_read {B = Last} (state_of params text) (λ state. Some (Ends state))) last h in
            let two = then_inv (state_of params one.0) (λ state. Some (Ends state)) last one.2 in
            let is = state_inv params one.0 two.0 two.1 in
            let own : IsLastLine line (Ends two.0) = (between_inv (codes "ENDS [") (codes "]") line one.0 one.1 ∙ ap (λ t. codes "ENDS [" ++ (t ++ codes "]")) is.written, is.state, tt) in
            subst (IsLastLine line) (same_Some (Ends two.0) last two.2) own)
      ]
