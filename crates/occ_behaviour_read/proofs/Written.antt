-- The lines of a behaviour's text, and that each is read as what it writes.
use Rattle.std.proofs.Common.{◌≡◌, ◌∙◌, ℕ, ◌<◌, true, false, cond, List, [], ◌∷◌, ◌++◌, length, map, Option, None, Some, refl, sym, ap, arith, append_assoc, append-nil, length-append}
use Rattle.std.specs.Prelude.{codes}
use Rattle.std.specs.List.{list_all, flat_map, AllByRecursion}
use Rattle.std.proofs.lemmas.Bool.{and_parts, and_from, cond-true}
use Rattle.occ_syntax.specs.occ_base.Names.{IsDistinct}
use Rattle.occ_syntax.specs.occ_base.declared.event.Event.{Event}
use Rattle.occ_syntax.specs.occ_base.declared.names.Name.{Name}
use Rattle.occ_nform_read.specs.occ_lex.Spelling.{is_digit}
use Rattle.occ_syntax.specs.Scopes.{environment, in_interface}
use Rattle.occ_syntax.specs.declared.scope.Kind.{Kind}
use Rattle.occ_compare.specs.occ_behaviour.States.{is_state}
use Rattle.occ_compare.specs.occ_behaviour.Texts.{event_text, last_text, set_text, side_text, spaced, state_text, text_of_behaviour, text_of_verdict}
use Rattle.occ_compare.specs.occ_behaviour.declared.behaviour.Behaviour.{Behaviour}
use Rattle.occ_compare.specs.occ_behaviour.declared.behaviour.Last.{Last}
use Rattle.occ_compare.specs.occ_behaviour.declared.behaviour.Last.TheVariants.{Refuses, Ends}
use Rattle.occ_compare.specs.occ_behaviour.declared.behaviour.Side.{Side}
use Rattle.occ_compare.specs.occ_behaviour.declared.behaviour.Side.TheVariants.{First, Second}
use Rattle.occ_compare.specs.occ_behaviour.declared.behaviour.Verdict.TheVariants.{Differ}
use Rattle.occ_nform_read.specs.occ_nform_table.Lines.{event_of, is_rising, set_of, state_of}
use Rattle.occ_nform_read.specs.occ_nform_table.Tables.{are_params, IsInterface}
use Rattle.occ_nform_read.specs.occ_nform_table.Words.{behind, between, each, items_of, or_else, then_read}
use Rattle.occ_nform_read.proofs.from_nform_table.Lines.{joined, joined-append}
use Rattle.occ_nform_read.proofs.from_nform_table.TextNamed.{are_named, is_param_byte}
use Rattle.occ_nform_read.proofs.from_nform_table.TextRows.{all_true}
use Rattle.occ_nform_read.proofs.from_nform_table.WrittenEvents.{IsOwn, event_lacks, event_reads, event_word, is_own}
use Rattle.occ_nform_read.proofs.from_nform_table.WrittenStates.{state_lacks, state_reads, value_text}
use Rattle.occ_nform_read.proofs.from_nform_table.WrittenWords.{IsWord, ReadsAs, all_more, behind_front, between_parts, each_spaced, is_not, lacks, lacks-append, map_same, spaced_lacks}
use Rattle.occ_behaviour_read.specs.Claims.{bare_lines, last_line, only_line, spaced_words, state_line, trace_line}
use Rattle.occ_compare.specs.Programs.{AreEvents, IsOfInterface, LastIsWithin}
use Rattle.occ_behaviour_read.specs.Behaviours.{IsInOrder}
use Rattle.occ_behaviour_read.proofs.BareTexts.{IsQuiet, fed, lines_bare}

-- ---- lines

abbrev pub state_body : List (Name × ℕ) → List ℕ
state_body state = codes "STATE " ++ state_text state

-- events, each behind a space
abbrev pub events_behind : List (List ℕ) → List Event → List ℕ
events_behind names events = flat_map (λ e. 32 ∷ event_text names e) events

abbrev pub trace_body : List (List ℕ) → List Event → List ℕ
trace_body names events = codes "TRACE" ++ events_behind names events

abbrev pub last_body : List (List ℕ) → Last → List ℕ
last_body names (Refuses set) = codes "REFUSES " ++ set_text names set
last_body names (Ends state) = codes "ENDS " ++ state_text state

abbrev pub only_body : Side → List ℕ
only_body First = codes "ONLY FIRST"
only_body Second = codes "ONLY SECOND"

abbrev pub claim_lines : List (List ℕ) → Behaviour → List (List ℕ)
claim_lines names b = state_body b.state ∷ trace_body names b.trace ∷ last_body names b.last ∷ []

abbrev pub told_lines : List (List ℕ) → Behaviour → Side → List (List ℕ)
told_lines names b side = claim_lines names b ++ only_body side ∷ []

last_fed : (names : List (List ℕ)) (last : Last) → last_text names last ≡ fed (last_body names last)
last_fed names (Refuses set) = refl
last_fed names (Ends state) = refl

text_joined : (names : List (List ℕ)) (b : Behaviour) → text_of_behaviour names b ≡ joined (map fed (claim_lines names b))
text_joined names b =
    let first : List ℕ = fed (state_body b.state) in
    let trace : List ℕ = events_behind names b.trace in
    ap (λ t. (t ++ codes "\n") ++ last_text names b.last) (append_assoc first (codes "TRACE") trace)
    ∙ ap (λ t. t ++ last_text names b.last) (append_assoc first (trace_body names b.trace) (codes "\n"))
    ∙ append_assoc first (fed (trace_body names b.trace)) (last_text names b.last)
    ∙ ap (λ t. first ++ (fed (trace_body names b.trace) ++ t)) (last_fed names b.last ∙ sym (append-nil (fed (last_body names b.last))))

side_fed : (side : Side) → side_text side ≡ joined (fed (only_body side) ∷ [])
side_fed First = refl
side_fed Second = refl

verdict_joined : (names : List (List ℕ)) (b : Behaviour) (side : Side) → text_of_verdict names (Differ b side) ≡ joined (map fed (codes "DIFFER" ∷ told_lines names b side))
verdict_joined names b side =
    append_assoc (codes "DIFFER\n") (text_of_behaviour names b) (side_text side)
    ∙ ap (λ t. codes "DIFFER\n" ++ t) ((λ i. text_joined names b i ++ side_fed side i) ∙ sym (joined-append (map fed (claim_lines names b)) (fed (only_body side) ∷ [])))

-- ---- bytes that no line has

record IsForeign (byte : ℕ) : Type 0 where
  digit : is_digit byte ≡ false
  name : is_param_byte byte ≡ false
  space : is_not byte 32 ≡ true
  bang : is_not byte 33 ≡ true
  query : is_not byte 63 ≡ true
  state : lacks byte (codes "STATE [") ≡ true
  bracket : lacks byte (codes "]") ≡ true
  trace : lacks byte (codes "TRACE") ≡ true
  refuses : lacks byte (codes "REFUSES {") ≡ true
  brace : lacks byte (codes "}") ≡ true
  ends : lacks byte (codes "ENDS [") ≡ true

feed : IsForeign 10
feed = record { digit = refl; name = refl; space = refl; bang = refl; query = refl; state = refl; bracket = refl; trace = refl; refuses = refl; brace = refl; ends = refl }

return : IsForeign 13
return = record { digit = refl; name = refl; space = refl; bang = refl; query = refl; state = refl; bracket = refl; trace = refl; refuses = refl; brace = refl; ends = refl }

only_quiet : (side : Side) → IsQuiet (only_body side)
only_quiet First = (refl, refl)
only_quiet Second = (refl, refl)

words_some : (text : List ℕ) → 0 < length text → spaced_words (32 ∷ text) ≡ Some (items_of text)
words_some [] h = absurd (omega (arith, h))
words_some (b ∷ text) h = refl

pub only_read : (side : Side) → only_line (only_body side) ≡ Some true
unfolding only_line
only_read First = refl
only_read Second = refl

no_refusal : (state : List (Name × ℕ)) → between (codes "REFUSES {") (codes "}") (codes "ENDS " ++ state_text state) ≡ None
unfolding between behind
no_refusal state = refl

module _ (names : List (List ℕ)) (params : List (Name × Kind)) (distinct : IsDistinct names) (interface : IsInterface names params) (are : are_params names [] params ≡ true) where
  own : (e : Event) → in_interface (environment params) e ≡ true → IsOwn names e
  own e h = is_own names params (are_named names [] params are) interface.named interface.wide e h

  reads : (e : Event) → in_interface (environment params) e ≡ true → event_of names params (event_text names e) ≡ Some e
  reads e h = event_reads names distinct params (are_named names [] params are) interface.named interface.wide e (own e h) h

  event_quiet : (byte : ℕ) → IsForeign byte → (e : Event) → in_interface (environment params) e ≡ true → lacks byte (event_text names e) ≡ true
  event_quiet byte f e h = event_lacks names byte f.name f.digit f.bang f.query e (own e h)

  -- ---- the lines have no bytes of line ends

  state_quiet : (byte : ℕ) → IsForeign byte → (state : List (Name × ℕ)) → is_state params state ≡ true → lacks byte (spaced value_text state ++ codes "]") ≡ true
  state_quiet byte f state h = lacks-append byte (spaced value_text state) (codes "]") (state_lacks params interface.wide byte f.digit f.space state h) f.bracket

  events_quiet : (byte : ℕ) → IsForeign byte → (events : List Event) → AreEvents params events → lacks byte (events_behind names events) ≡ true
  events_quiet byte f [] h = refl
  events_quiet byte f (e ∷ events) h =
      let parts = and_parts (in_interface (environment params) e) (list_all (in_interface (environment params)) events) h in
      and_from _ _ f.space (lacks-append byte (event_text names e) (events_behind names events) (event_quiet byte f e parts.0) (events_quiet byte f events parts.1))

  last_quiet : (byte : ℕ) → IsForeign byte → (last : Last) → LastIsWithin params last → lacks byte (last_body names last) ≡ true
  last_quiet byte f (Refuses set) h =
      let all = all_more _ (λ e. lacks byte (event_text names e) ≡ true) (event_quiet byte f) set (all_true (in_interface (environment params)) set h) in
      lacks-append byte (codes "REFUSES {") (spaced (event_text names) set ++ codes "}") f.refuses
      (lacks-append byte (spaced (event_text names) set) (codes "}") (spaced_lacks (event_text names) byte f.space set all) f.brace)
  last_quiet byte f (Ends state) h = lacks-append byte (codes "ENDS [") (spaced value_text state ++ codes "]") f.ends (state_quiet byte f state h)

  body_quiet : (byte : ℕ) → IsForeign byte → (state : List (Name × ℕ)) → is_state params state ≡ true → lacks byte (state_body state) ≡ true
  body_quiet byte f state h = lacks-append byte (codes "STATE [") (spaced value_text state ++ codes "]") f.state (state_quiet byte f state h)

  trace_quiet : (byte : ℕ) → IsForeign byte → (events : List Event) → AreEvents params events → lacks byte (trace_body names events) ≡ true
  trace_quiet byte f events h = lacks-append byte (codes "TRACE") (events_behind names events) f.trace (events_quiet byte f events h)

  quiet : (b : Behaviour) → IsOfInterface params b → AllByRecursion IsQuiet (claim_lines names b)
  quiet b h = (
    (body_quiet 10 feed b.state h.state, body_quiet 13 return b.state h.state),
    ((trace_quiet 10 feed b.trace h.trace, trace_quiet 13 return b.trace h.trace), ((last_quiet 10 feed b.last h.last, last_quiet 13 return b.last h.last), tt)),
  )

  -- the lines of a behaviour's text
  pub behaviour_lines : (b : Behaviour) → IsOfInterface params b → bare_lines (text_of_behaviour names b) ≡ claim_lines names b
  behaviour_lines b h = ap bare_lines (text_joined names b) ∙ lines_bare (claim_lines names b) (quiet b h)

  -- the lines of a difference
  pub verdict_lines : (b : Behaviour) (side : Side) → IsOfInterface params b → bare_lines (text_of_verdict names (Differ b side)) ≡ codes "DIFFER" ∷ told_lines names b side
  verdict_lines b side h =
      let q = quiet b h in
      ap bare_lines (verdict_joined names b side) ∙ lines_bare (codes "DIFFER" ∷ told_lines names b side) ((refl, refl), (q.0, (q.1.0, (q.1.1.0, (only_quiet side, tt)))))

  -- ---- each line is read

  pub state_read : (state : List (Name × ℕ)) → is_state params state ≡ true → state_line params (state_body state) ≡ Some state
  unfolding state_line
  state_read state h = ap (λ o. then_read o (state_of params)) (between_parts (codes "STATE [") (spaced value_text state) (codes "]")) ∙ state_reads params interface.wide state h

  words_read : (events : List Event) → AreEvents params events → then_read (spaced_words (events_behind names events)) (each (event_of names params)) ≡ Some events
  unfolding each
  words_read [] h = refl
  words_read (e ∷ events) h =
      let all = all_true (in_interface (environment params)) (e ∷ events) h in
      let words = all_more _ (IsWord (event_text names)) (λ f k. event_word names f (own f k)) (e ∷ events) all in
      let read = all_more _ (ReadsAs (event_text names) (event_of names params) (λ f. f)) reads (e ∷ events) all in
      ap (λ o. then_read o (each (event_of names params)))
      (words_some (spaced (event_text names) (e ∷ events)) (omega (arith, length-append (event_text names e) (events_behind names events), words.0.0)))
      ∙ each_spaced (event_text names) (event_of names params) (λ f. f) (e ∷ events) words read ∙ ap Some (map_same (e ∷ events))

  pub trace_read : (events : List Event) → AreEvents params events → trace_line names params (trace_body names events) ≡ Some events
  unfolding trace_line
  trace_read events h =
      ap (λ o. then_read o (λ text. then_read (spaced_words text) (each (event_of names params)))) (behind_front (codes "TRACE") (events_behind names events)) ∙ words_read events h

  set_read : (set : List Event) → AreEvents params set → is_rising params 0 set ≡ true → set_of names params (spaced (event_text names) set) ≡ Some set
  unfolding set_of
  set_read set h k =
      let all = all_true (in_interface (environment params)) set h in
      let words = all_more _ (IsWord (event_text names)) (λ e i. event_word names e (own e i)) set all in
      let read = all_more _ (ReadsAs (event_text names) (event_of names params) (λ e. e)) reads set all in
      let rising = λ (events : List Event). cond (is_rising params 0 events) (Some events) None in
      ap (λ o. then_read o rising) (each_spaced (event_text names) (event_of names params) (λ e. e) set words read ∙ ap Some (map_same set)) ∙ cond-true _ (Some set) None k

  pub last_read : (last : Last) → LastIsWithin params last → IsInOrder params last → last_line names params (last_body names last) ≡ Some last
  unfolding last_line
  last_read (Refuses set) h k =
      let line : List ℕ = last_body names (Refuses set) in
      let other : Option Last = then_read (between (codes "ENDS [") (codes "]") line) (λ text. then_read (state_of params text) (λ state. Some (Ends state))) in
      ap (λ o. or_else (then_read {B = Last} o (λ text. then_read {B = Last} (set_of names params text) (λ set. Some (Refuses set)))) other) (between_parts (codes "REFUSES {") (spaced (event_text names) set) (codes "}"))
      ∙ ap (λ o. or_else (then_read {B = Last} o (λ set. Some (Refuses set))) other) (set_read set h k)
  last_read (Ends state) h k =
      let line : List ℕ = last_body names (Ends state) in
      let other : Option Last = then_read (between (codes "ENDS [") (codes "]") line) (λ text. then_read (state_of params text) (λ state. Some (Ends state))) in
      ap (λ o. or_else (then_read {B = Last} o (λ text. then_read {B = Last} (set_of names params text) (λ set. Some (Refuses set)))) other) (no_refusal state)
      ∙ ap (λ o. then_read {B = Last} o (λ text. then_read {B = Last} (state_of params text) (λ state. Some (Ends state)))) (between_parts (codes "ENDS [") (spaced value_text state) (codes "]"))
      ∙ ap (λ o. then_read {B = Last} o (λ state. Some (Ends state))) (state_reads params interface.wide state h)
