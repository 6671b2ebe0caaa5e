-- The channels of a trace and of the events refused are names of parameters.
use Rattle.std.proofs.Common.{◌≡◌, ◌<◌, ◌==◌, ◌++◌, ◌^◌, ℕ, Bool, true, false, cond, List, [], ◌∷◌, None, Some, map, refl, sym, subst, if◌then◌else◌}
use Rattle.std.proofs.lemmas.Bool.{and_parts, eqb-true}
use Rattle.std.specs.List.{AllByRecursion, filter, range_with_len}
use Rattle.occ_syntax.specs.occ_base.declared.event.Dir.{Dir}
use Rattle.occ_syntax.specs.occ_base.declared.event.Dir.TheVariants.{Input, Output}
use Rattle.occ_syntax.specs.occ_base.declared.event.Event.{Event}
use Rattle.occ_syntax.specs.occ_base.declared.names.Name.{Name}
use Rattle.occ_syntax.specs.occ_base.Width.{bits_of}
use Rattle.occ_run.proofs.from_meaning.Facts.{false_not_true}
use Rattle.occ_run.specs.occ_meaning.Foundation.{AreWithin}
use Rattle.occ_syntax.specs.declared.scope.Kind.{Kind}
use Rattle.occ_syntax.specs.declared.scope.Kind.TheVariants.{Chan, Var}
use Rattle.occ_syntax.specs.Scopes.{allows, channel_kind, channel_width, environment, has_width, in_interface, in_scope}
use Rattle.occ_run.specs.Stands.{end_events, events_below, interface, kind_events}

module _ (n : ℕ) where
  abbrev pub Named : List Event → Type 0
  Named es = AllByRecursion (λ (e : Event). e.chan.0 < n) es

  abbrev pub Declared : List (Name × Kind) → Type 0
  Declared ps = AllByRecursion (λ (entry : Name × Kind). entry.0.0 < n) ps

  -- ---- the events of an interface

  each_named : (f : ℕ → Event) → ((v : ℕ) → (f v).chan.0 < n) → (vs : List ℕ) → Named (map f vs)
  each_named f h [] = tt
  each_named f h (v ∷ vs) = (h v, each_named f h vs)

  both_named : (es fs : List Event) → Named es → Named fs → Named (es ++ fs)
  both_named [] fs h k = k
  both_named (e ∷ es) fs h k = (h.0, both_named es fs h.1 k)

  end_named : (c : Name) (d : Dir) (m : ℕ) → c.0 < n → Named (events_below (c, d) m)
  end_named c d m h = each_named (λ v. record { chan = c; dir = d; value = v }) (λ v. h) (range_with_len 0 m)

  kind_named : (c : Name) (k : Kind) → c.0 < n → Named (kind_events c k)
  kind_named c (Var w) h = tt
  kind_named c (Chan w None) h = both_named (end_events c w Input) (end_events c w Output) (end_named c Input (2 ^ bits_of w) h) (end_named c Output (2 ^ bits_of w) h)
  kind_named c (Chan w (Some d)) h = end_named c d (2 ^ bits_of w) h

  pub interface_named : (ps : List (Name × Kind)) → Declared ps → Named (interface ps)
  interface_named [] h = tt
  interface_named (entry ∷ ps) h = both_named (kind_events entry.0 entry.1) (interface ps) (kind_named entry.0 entry.1 h.0) (interface_named ps h.1)

  first_kept : (p : Event → Bool) (e : Event) (es : List Event) → e.chan.0 < n → Named (filter p es) → (b : Bool) → Named (if b then e ∷ filter p es else filter p es)
  first_kept p e es h k true = (h, k)
  first_kept p e es h k false = k

  pub kept_named : (p : Event → Bool) (es : List Event) → Named es → Named (filter p es)
  kept_named p [] h = tt
  kept_named p (e ∷ es) h = first_kept p e es h.0 (kept_named p es h.1) (p e)

  -- ---- the events of a trace

  by_first : (c v : ℕ) (entry : Name × Kind) (ps : List (Name × Kind)) → entry.0.0 < n → (has_width (channel_width (environment ps) c) v ≡ true → c < n)
      → (b : Bool) → (c == entry.0.0) ≡ b → has_width (channel_kind (cond b (Some entry.1) (environment ps c))) v ≡ true → c < n
  by_first c v entry ps small later true e h = subst (λ m. m < n) (sym (eqb-true c entry.0.0 e)) small
  by_first c v entry ps small later false e h = later h

  channel_named : (ps : List (Name × Kind)) → Declared ps → (c v : ℕ) → has_width (channel_width (environment ps) c) v ≡ true → c < n
  channel_named [] all c v h = false_not_true h
  channel_named (entry ∷ ps) all c v h = by_first c v entry ps all.0 (channel_named ps all.1 c v) (c == entry.0.0) refl h

  pub within_named : (ps : List (Name × Kind)) → Declared ps → (t : List Event) → AreWithin (in_interface (environment ps)) t → Named t
  within_named ps all [] h = tt
  within_named ps all (e ∷ t) h =
      let known = and_parts (in_scope (environment ps) e) (allows (environment ps e.chan.0) e.dir) h.0 in
      (channel_named ps all e.chan.0 e.value known.0, within_named ps all t h.1)
