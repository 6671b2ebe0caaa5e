-- What an event is read as determines its word, and so do sets, ACCEPT lines and OFFER lines.
use Rattle.std.proofs.Common.{◌≡◌, ℕ, ◌^◌, ◌<◌, ◌≤◌, Bool, true, false, cond, eqb, ltb, not, ◌&&◌, List, [], ◌∷◌, ◌++◌, Option, Some, None, refl, sym, ap, subst, ◌∙◌, arith, append_assoc, codes, ⊎_elim}
use Rattle.std.specs.Prelude.{decimal}
use Rattle.std.specs.List.{list_all, AllByRecursion}
use Rattle.std.proofs.lemmas.Bool.{and_parts, and_from, eq-eqb, lt-ltb, ltb-true, not-true}
use Rattle.std.proofs.lemmas.Option.{none-some, same_Some, cond_some}
use Rattle.occ_lex.specs.occ_base.declared.event.Dir.{Dir}
use Rattle.occ_lex.specs.occ_base.declared.event.Dir.TheVariants.{Input, Output}
use Rattle.occ_lex.specs.occ_base.declared.event.Event.{Event}
use Rattle.occ_lex.specs.occ_base.declared.names.Name.{Name}
use Rattle.occ_lex.specs.occ_base.declared.width.Width.{Width}
use Rattle.occ_lex.specs.occ_base.Width.{bits_of}
use Rattle.occ_syntax.specs.declared.scope.Kind.{Kind}
use Rattle.occ_syntax.specs.declared.scope.Kind.TheVariants.{Var, Chan}
use Rattle.occ_syntax.specs.Scopes.{environment, in_interface, has_width, channel_kind, allows, same_dir}
use Rattle.occ_behaviour.specs.Texts.{spaced, mark_text, event_text, set_text}
use Rattle.occ_nform_table.specs.Words.{between, behind, cut, each, items_of, number_of, small_number_of}
use Rattle.occ_nform_table.specs.Lines.{text_of, fitting, event_on, event_of, is_rising, set_of, accept_of, offer_of, below}
use Rattle.occ_nform_table.proofs.ReadWords.{then_inv, or_inv, between_inv, behind_inv, cut_inv, items_inv}
use Rattle.occ_nform_table.proofs.ReadNumerals.{number_inv, small_inv}
use Rattle.occ_nform_table.proofs.ReadStates.{below_inv}

-- ---- parameters with numbers of their own

-- no parameter has the number of an earlier one
abbrev pub Apart : List (Name × Kind) → Type 0
Apart [] = Unit {0}
Apart (p ∷ params) = (list_all (λ (q : Name × Kind). not (eqb q.0.0 p.0.0)) params ≡ true) × Apart params

-- ---- events

-- an event that is read at a channel
record IsEventOn (text : List ℕ) (name : Name) (kind : Kind) (word : List ℕ) (e : Event) : Type 0 where
  width : Width
  kind_is : kind ≡ Chan width (Some e.dir)
  chan : e.chan ≡ name
  fits : e.value < 2 ^ bits_of width
  written : word ≡ text ++ mark_text e.dir ++ decimal e.value

event_on_inv : (text : List ℕ) (name : Name) (kind : Kind) (word : List ℕ) (e : Event) → event_on text name kind word ≡ Some e → IsEventOn text name kind word e
unfolding event_on
event_on_inv text name (Var w) word e h = absurd (none-some e h)
event_on_inv text name (Chan w None) word e h = absurd (none-some e h)
event_on_inv text name (Chan w (Some d)) word e h =
    let one = then_inv (behind text word) _ e h in
    let two = then_inv (behind (mark_text d) one.0) _ e one.2 in
    let three = then_inv (small_number_of two.0) _ e two.2 in
    let four = then_inv (fitting w three.0) (λ value. Some (record { chan = name; dir = d; value = value })) e three.2 in
    let fit = cond_some (ltb three.0 (2 ^ bits_of w)) three.0 four.0 four.1 in
    let value : ℕ = four.0 in
    let event : Event = record { chan = name; dir = d; value = value } in
    let own : IsEventOn text name (Chan w (Some d)) word event = record {
      width = w;
      kind_is = refl;
      chan = refl;
      fits = subst (λ n. n < 2 ^ bits_of w) fit.1 (ltb-true three.0 (2 ^ bits_of w) fit.0);
      written = behind_inv text word one.0 one.1 ∙ ap (λ t. text ++ t) (behind_inv (mark_text d) one.0 two.0 two.1 ∙ ap (λ t. mark_text d ++ t) (small_inv two.0 three.0 three.1 ∙ ap decimal fit.1))
          ∙ sym (append_assoc text (mark_text d) (decimal value));
    } in
    subst (IsEventOn text name (Chan w (Some d)) word) (same_Some event e four.2) own

-- an event that is read of an interface
pub record IsEventRead (names : List (List ℕ)) (params : List (Name × Kind)) (word : List ℕ) (e : Event) : Type 0 where
  pub written : word ≡ event_text names e
  pub inside : in_interface (environment params) e ≡ true
  -- what a test says of the number of each parameter it says of that of the channel
  pub chan : (test : ℕ → Bool) → list_all (λ (q : Name × Kind). test q.0.0) params ≡ true → test e.chan.0 ≡ true

self_dir : (d : Dir) → same_dir d d ≡ true
self_dir Input = refl
self_dir Output = refl

-- an event in an environment that has its channel
inside_of : (o : Option Kind) (w : Width) (e : Event) → o ≡ Some (Chan w (Some e.dir)) → e.value < 2 ^ bits_of w → (has_width (channel_kind o) e.value && allows o e.dir) ≡ true
inside_of o w e is fits =
    ap (λ k. has_width (channel_kind k) e.value && allows k e.dir) is ∙ and_from _ _ (lt-ltb e.value (2 ^ bits_of w) fits) (self_dir e.dir)

event_here : (names : List (List ℕ)) (name : Name) (kind : Kind) (params : List (Name × Kind)) (word : List ℕ) (e : Event) → IsEventOn (text_of names name) name kind word e
    → IsEventRead names ((name, kind) ∷ params) word e
event_here names name kind params word e is = record {
  written = is.written ∙ ap (λ n. text_of names n ++ mark_text e.dir ++ decimal e.value) (sym is.chan);
  inside = inside_of (environment ((name, kind) ∷ params) e.chan.0) is.width e
      (ap (λ b. cond b (Some kind) (environment params e.chan.0)) (eq-eqb e.chan.0 name.0 (ap (λ (n : Name). n.0) is.chan)) ∙ ap Some is.kind_is) is.fits;
  chan = λ test all. ap (λ (n : Name). test n.0) is.chan ∙ (and_parts (test name.0) _ all).0;
}

event_later : (names : List (List ℕ)) (p : Name × Kind) (params : List (Name × Kind)) (word : List ℕ) (e : Event) → list_all (λ (q : Name × Kind). not (eqb q.0.0 p.0.0)) params ≡ true
    → IsEventRead names params word e → IsEventRead names (p ∷ params) word e
event_later names p params word e apart is =
    let other : eqb e.chan.0 p.0.0 ≡ false = not-true (eqb e.chan.0 p.0.0) (is.chan (λ n. not (eqb n p.0.0)) apart) in
    record {
      written = is.written;
      inside = ap (λ b. has_width (channel_kind (cond b (Some p.1) (environment params e.chan.0))) e.value && allows (cond b (Some p.1) (environment params e.chan.0)) e.dir) other ∙ is.inside;
      chan = λ test all. is.chan test (and_parts (test p.0.0) _ all).1;
    }

pub event_inv : (names : List (List ℕ)) (params : List (Name × Kind)) (word : List ℕ) (e : Event) → Apart params → event_of names params word ≡ Some e → IsEventRead names params word e
unfolding event_of
event_inv names [] word e apart h = absurd (none-some e h)
event_inv names ((name, kind) ∷ params) word e apart h = ⊎_elim
    (λ here. event_here names name kind params word e (event_on_inv (text_of names name) name kind word e here))
    (λ later. event_later names (name, kind) params word e apart.0 (event_inv names params word e apart.1 later))
    (or_inv (event_on (text_of names name) name kind word) (event_of names params word) e h)

-- ---- sets

-- a test that holds of each item holds of the list
pub all_from : {A : Type 0} (test : A → Bool) (xs : List A) → AllByRecursion (λ x. test x ≡ true) xs → list_all test xs ≡ true
all_from test [] h = refl
all_from test (x ∷ xs) h = and_from (test x) (list_all test xs) h.0 (all_from test xs h.1)

-- each event is one of the interface, and they increase strictly
abbrev pub IsSet : List (Name × Kind) → List Event → Type 0
IsSet params set = (list_all (in_interface (environment params)) set ≡ true) × (is_rising params 0 set ≡ true)

-- the events of a set as they are written
abbrev pub events_text : List (List ℕ) → List Event → List ℕ
events_text names set = spaced (event_text names) set

pub set_inv : (names : List (List ℕ)) (params : List (Name × Kind)) (text : List ℕ) (set : List Event) → Apart params → set_of names params text ≡ Some set
    → (text ≡ events_text names set) × IsSet params set
unfolding set_of
set_inv names params text set apart e =
    let one = then_inv (each (event_of names params) (items_of text)) (λ events. cond (is_rising params 0 events) (Some events) None) set e in
    let two = cond_some (is_rising params 0 one.0) one.0 set one.2 in
    let items = items_inv (event_of names params) (event_text names) (λ f. in_interface (environment params) f ≡ true)
    (λ w f h. let is : IsEventRead names params w f = event_inv names params w f apart h in (is.written, is.inside)) text one.0 one.1 in (
      items.0 ∙ ap (events_text names) two.1,
      (
        subst (λ s. list_all (in_interface (environment params)) s ≡ true) two.1 (all_from (in_interface (environment params)) one.0 items.1),
        subst (λ s. is_rising params 0 s ≡ true) two.1 two.0,
      ),
    )

-- ---- lines

abbrev pub accept_text : List (List ℕ) → List Event → List ℕ
accept_text names set = codes "ACCEPT " ++ set_text names set ++ codes "\n"

pub accept_inv : (names : List (List ℕ)) (params : List (Name × Kind)) (line : List ℕ) (set : List Event) → Apart params → accept_of names params line ≡ Some set
    → (line ≡ accept_text names set) × IsSet params set
unfolding accept_of
accept_inv names params line set apart e =
    let one = then_inv (between (codes "ACCEPT {") (codes "}\n") line) (set_of names params) set e in
    let is = set_inv names params one.0 set apart one.2 in (
      between_inv (codes "ACCEPT {") (codes "}\n") line one.0 one.1
          ∙ ap (λ t. codes "ACCEPT {" ++ (t ++ codes "}\n")) is.0
          ∙ ap (λ t. codes "ACCEPT {" ++ t) (sym (append_assoc (events_text names set) (codes "}") (codes "\n"))),
      is.1,
    )

abbrev pub offer_text : List (List ℕ) → Event × ℕ → List ℕ
offer_text names offer = codes "OFFER " ++ event_text names offer.0 ++ codes " " ++ decimal offer.1 ++ codes "\n"

-- an event of the interface, and a row below n
abbrev pub IsOffer : List (Name × Kind) → ℕ → Event × ℕ → Type 0
IsOffer params n offer = (in_interface (environment params) offer.0 ≡ true) × (offer.1 < n)

offer_line_is : (names : List (List ℕ)) (event : Event) (row : ℕ) (line mid word numeral : List ℕ) → line ≡ codes "OFFER " ++ (mid ++ codes "\n") → mid ≡ word ++ 32 ∷ numeral
    → word ≡ event_text names event → numeral ≡ decimal row → line ≡ offer_text names (event, row)
offer_line_is names event row line mid word numeral whole split are is =
    whole ∙ ap (λ t. codes "OFFER " ++ (t ++ codes "\n")) (split ∙ (λ i. are i ++ 32 ∷ is i))
    ∙ ap (λ t. codes "OFFER " ++ t) (sym (ap (λ t. t ++ codes "\n") (append_assoc (event_text names event) (codes " ") (decimal row))))

pub offer_inv : (names : List (List ℕ)) (params : List (Name × Kind)) (n : ℕ) (line : List ℕ) (offer : Event × ℕ) → Apart params → n ≤ 2 ^ 64 → offer_of names params n line ≡ Some offer
    → (line ≡ offer_text names offer) × IsOffer params n offer
unfolding offer_of
offer_inv names params n line offer apart few e =
    let one = then_inv (between (codes "OFFER ") (codes "\n") line) _ offer e in
    let two = then_inv (cut 32 one.0) _ offer one.2 in
    let three = then_inv (event_of names params two.0.0) _ offer two.2 in
    let four = then_inv (number_of two.0.1) _ offer three.2 in
    let five = then_inv (below n four.0) (λ row. Some (three.0, row)) offer four.2 in
    let last = below_inv n four.0 five.0 five.1 in
    let is : IsEventRead names params two.0.0 three.0 = event_inv names params two.0.0 three.0 apart three.1 in
    let fits : four.0 < 2 ^ 64 = omega (arith, last.0, last.1) in
    let written : line ≡ offer_text names (three.0, five.0) = offer_line_is names three.0 five.0 line one.0 two.0.0 two.0.1
    (between_inv (codes "OFFER ") (codes "\n") line one.0 one.1) (cut_inv 32 one.0 two.0 two.1) is.written
    (number_inv two.0.1 four.0 four.1 fits ∙ ap decimal last.0) in
    subst (λ (o : Event × ℕ). (line ≡ offer_text names o) × IsOffer params n o) (same_Some (three.0, five.0) offer five.2) (written, (is.inside, last.1))
