-- The lines of a row whose events are of the interface.
use Rattle.std.proofs.Common.{◌≡◌, ◌<◌, ◌==◌, ◌++◌, ℕ, Bool, true, false, cond, List, [], ◌∷◌, Some, length, refl, sym, ap, ◌∙◌, subst}
use Rattle.std.proofs.lemmas.Bool.{and_parts, eqb-true, false≢true}
use Rattle.std.proofs.lemmas.List.Elements.{All-from_recursion}
use Rattle.std.specs.List.{list_all, flat_map, All, AllByRecursion}
use Rattle.occ_lex.specs.occ_base.declared.event.Event.{Event}
use Rattle.occ_lex.specs.occ_base.declared.names.Name.{Name}
use Rattle.occ_syntax.specs.declared.scope.Kind.{Kind}
use Rattle.occ_syntax.specs.Scopes.{environment, in_interface, in_scope, allows, channel_width, channel_kind, has_width}
use Rattle.occ_behaviour.specs.Members.{AreNamed}
use Rattle.occ_nform_table.specs.declared.table.TableRow.{TableRow}
use Rattle.occ_nform_table.specs.Judging.{ends_text, accepts_text, offers_text, row_text}
use Rattle.occ_nform_table.specs.Lines.{is_rising}
use Rattle.occ_nform_table.specs.Tables.{IsRowOf}
use Rattle.occ_nform_table.specs.Rows.{end_line, accept_line, offer_line, RowIsNamed}

-- ---- names of channels
first_named : (n c : ℕ) (entry : Name × Kind) (ps : List (Name × Kind)) (v : ℕ) → entry.0.0 < n → (has_width (channel_width (environment ps) c) v ≡ true → c < n)
    → (b : Bool) → (c == entry.0.0) ≡ b → has_width (channel_kind (cond b (Some entry.1) (environment ps c))) v ≡ true → c < n
first_named n c entry ps v small rest true e h = subst (λ m. m < n) (sym (eqb-true c entry.0.0 e)) small
first_named n c entry ps v small rest false e h = rest h

channel_named : (n : ℕ) (ps : List (Name × Kind)) → AllByRecursion (λ (entry : Name × Kind). entry.0.0 < n) ps → (c v : ℕ) → has_width (channel_width (environment ps) c) v ≡ true → c < n
channel_named n [] all c v h = absurd (false≢true h)
channel_named n (entry ∷ ps) all c v h = first_named n c entry ps v all.0 (channel_named n ps all.1 c v) (c == entry.0.0) refl h

module _ (n : ℕ) (ps : List (Name × Kind)) (all : AllByRecursion (λ (entry : Name × Kind). entry.0.0 < n) ps) where
  pub event_named : (e : Event) → in_interface (environment ps) e ≡ true → e.chan.0 < n
  event_named e h =
      let q = and_parts (in_scope (environment ps) e) (allows (environment ps e.chan.0) e.dir) h in
      channel_named n ps all e.chan.0 e.value q.0

  events_named : (events : List Event) → list_all (in_interface (environment ps)) events ≡ true → AllByRecursion (λ (e : Event). e.chan.0 < n) events
  events_named [] h = tt
  events_named (e ∷ events) h = let p = and_parts (in_interface (environment ps) e) (list_all (in_interface (environment ps)) events) h in (event_named e p.0, events_named events p.1)

  sets_named : (sets : List (List Event)) → AllByRecursion (λ set. (list_all (in_interface (environment ps)) set ≡ true) × (is_rising ps 0 set ≡ true)) sets → AllByRecursion (λ set. All (λ (e : Event). e.chan.0 < n) set) sets
  sets_named [] h = tt
  sets_named (set ∷ sets) h = (All-from_recursion (λ (e : Event). e.chan.0 < n) set (events_named set h.0.0), sets_named sets h.1)

  offers_named : (m : ℕ) (offers : List (Event × ℕ)) → AllByRecursion (λ (o : Event × ℕ). (in_interface (environment ps) o.0 ≡ true) × (o.1 < m)) offers → AllByRecursion (λ (o : Event × ℕ). o.0.chan.0 < n) offers
  offers_named m [] h = tt
  offers_named m (o ∷ offers) h = (event_named o.0 h.0.0, offers_named m offers h.1)

pub row_named : (names : List (List ℕ)) (ps : List (Name × Kind)) → AllByRecursion (λ (entry : Name × Kind). entry.0.0 < length names) ps → (m : ℕ) (row : TableRow) → IsRowOf ps m row → RowIsNamed names row
row_named names ps all m row is = record {
  accepts = All-from_recursion (AreNamed names) row.accepts (sets_named (length names) ps all row.accepts is.accepts);
  offers = All-from_recursion (λ (o : Event × ℕ). o.0.chan.0 < length names) row.offers (offers_named (length names) ps all m row.offers is.offers);
}

-- ---- lines one after another
ends_are : (ends : List (List (Name × ℕ))) → flat_map end_line ends ≡ ends_text ends
unfolding ends_text
ends_are [] = refl
ends_are (state ∷ ends) = ap (λ l. end_line state ++ l) (ends_are ends)

accepts_are : (names : List (List ℕ)) (sets : List (List Event)) → flat_map (accept_line names) sets ≡ accepts_text names sets
unfolding accepts_text
accepts_are names [] = refl
accepts_are names (set ∷ sets) = ap (λ l. accept_line names set ++ l) (accepts_are names sets)

offers_are : (names : List (List ℕ)) (offers : List (Event × ℕ)) → flat_map (offer_line names) offers ≡ offers_text names offers
unfolding offers_text
offers_are names [] = refl
offers_are names (offer ∷ offers) = ap (λ l. offer_line names offer ++ l) (offers_are names offers)

pub lines_are : (names : List (List ℕ)) (row : TableRow) → (a b c d : List ℕ) (ends : List (List (Name × ℕ))) (sets : List (List Event)) (offers : List (Event × ℕ)) → a ≡ [] → ends ≡ row.ends → sets ≡ row.accepts → offers ≡ row.offers
    → b ≡ a ++ flat_map end_line ends → c ≡ b ++ flat_map (accept_line names) sets → d ≡ c ++ flat_map (offer_line names) offers → d ≡ row_text names row
lines_are names row a b c d ends sets offers none e f g first second third =
    let one : b ≡ ends_text row.ends = first ∙ ap (λ a. a ++ flat_map end_line ends) none ∙ ap (flat_map end_line) e ∙ ends_are row.ends in
    let two : c ≡ ends_text row.ends ++ accepts_text names row.accepts = second ∙ (λ i. one i ++ (ap (flat_map (accept_line names)) f ∙ accepts_are names row.accepts) i) in
    third ∙ (λ i. two i ++ (ap (flat_map (offer_line names)) g ∙ offers_are names row.offers) i)
