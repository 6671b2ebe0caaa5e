-- A program that is read keeps what its check asks: names, types, directions and limits.
use Rattle.std.proofs.Common.{◌≡◌, ℕ, ◌+◌, ◌≤◌, true, nat_lt, List, [], ◌∷◌, length, Option, None, refl, sym, ap, subst, ◌∙◌, arith, length-append, ◌&&◌}
use Rattle.std.specs.List.{flat_map}
use Rattle.std.proofs.lemmas.Bool.{and_parts}
use Rattle.std.proofs.lemmas.List.{length-map}
use Rattle.occ_syntax.specs.occ_base.declared.names.Name.{Name}
use Rattle.occ_syntax.specs.occ_base.Names.{IsDistinct}
use Rattle.occ_syntax.specs.declared.scope.Kind.{Kind}
use Rattle.occ_syntax.specs.declared.scope.Program.{Program}
use Rattle.occ_syntax.specs.Counts.{controls, bits_of_scope, most_bits}
use Rattle.occ_syntax.specs.Scopes.{environment}
use Rattle.occ_syntax.specs.Tree.{Tree}
use Rattle.occ_syntax.specs.Types.{scope_kept, types_kept}
use Rattle.occ_syntax.specs.View.{tree}
use Rattle.occ_parse_rules.specs.occ_lex.Symbols.{Extends}
use Rattle.occ_parse_rules.proofs.from_lex.Interned.{extends_trans}
use Rattle.occ_parse_rules.specs.occ_parse_forms.declared.form.Param.{Param}
use Rattle.occ_parse_rules.specs.occ_parse_forms.Shape.{header, close}
use Rattle.occ_parse_rules.specs.Forest.{Forest, no_line, and_line}
use Rattle.occ_parse_rules.specs.Limits.{bits_in_scope}
use Rattle.occ_parse_rules.specs.Names.{name_fault}
use Rattle.occ_parse_rules.specs.Places.{places}
use Rattle.occ_parse_rules.specs.Types.{type_fault, direction_fault}
use Rattle.occ_parse_rules.specs.Unrolled.{Numbers, named, params_named, slot_process}
use Rattle.occ_parse_rules.specs.Agreement.{AreKnown}
use Rattle.occ_parse_rules.specs.Passing.{shape_passes}
use Rattle.occ_parse_rules.specs.Programs.{param_scope, IsInOrderWith}
use Rattle.occ_parse_rules.specs.Sound.{is_sound, are_sound, are_placed}
use Rattle.occ_parse_rules.proofs.Params.{program_kept}
use Rattle.occ_parse_rules.proofs.Small.{param_bits, scopes_small}
use Rattle.occ_parse_layout.specs.Whole.{IsProgram}
use Rattle.occ_parse_unroll.specs.Elements.{with_places, with_elements, program_places}
use Rattle.occ_parse_unroll.specs.Numbers.{number_in}
use Rattle.occ_parse_unroll.proofs.Sized.{slot_process_size}
use Rattle.occ_usage.specs.Accepted.{IsTyped}
use Rattle.occ_parse.specs.declared.bound.Bound.{Bound}
use Rattle.occ_parse.specs.declared.fault.ParseFault.{ParseFault}
use Rattle.occ_parse.specs.Limits.{is_limited}
use Rattle.occ_parse.specs.Drafts.{header_params, header_below, unnumbered, parameters, draft_fault}
use Rattle.occ_parse.specs.Reading.{IsLaidOut, names_in}
use Rattle.occ_parse.proofs.Texts.{is_plain, in_table, plain_table}
use Rattle.occ_parse.proofs.Small.{shape_small}
use Rattle.occ_parse.proofs.Knowing.{EachLine, IsLineOf, each_map, lines_are_of, line_passes, line_small, lines_sound}
use Rattle.occ_parse.proofs.Faultless.{WithinLimits, below_judged, declared_once, header_judged, limits_kept, lines_of, no_fault, within_limits}
use Rattle.occ_parse.proofs.Forests.{program_of}
use Rattle.occ_parse.proofs.Placed.{good_are_placed}
use Rattle.occ_parse.proofs.Places.{knows, one_to_one, places_extend, places_distinct, lines_places, lines_known}

-- ---- sizes

length-params_named : (N : Numbers) (ps : List Param) → length (params_named N ps) ≡ parameters ps
length-params_named N [] = refl
length-params_named N (p ∷ ps) =
    length-append (named N p.kind p.declared) (params_named N ps)
    ∙ ap (λ n. n + length (params_named N ps)) (length-map (places p.declared) (λ q. (record { 0 = N q.name q.element }, p.kind)))
    ∙ ap (λ n. length (places p.declared) + n) (length-params_named N ps)
    ∙ sym (length-append (places p.declared) (flat_map (λ q. places q.declared) ps))

controls_anyhow : (N M : Numbers) (params : List Param) (below : Forest) → controls (slot_process N (param_scope params) below) ≡ controls (slot_process M (param_scope params) below)
controls_anyhow N M params below = slot_process_size N (param_scope params) below ∙ sym (slot_process_size M (param_scope params) below)

-- ---- the program

record Parts (params : List (Name × Kind)) (body : Tree) : Type 0 where
  scope : scope_kept params ≡ true
  types : types_kept body (environment params) ≡ true
  controls_few : controls body ≤ 4096
  parameters_few : length params ≤ 16
  interface : bits_of_scope params ≤ 16
  state : most_bits body (bits_of_scope params) ≤ 24

parts_of : (t : List (List ℕ)) → IsDistinct t → (params : List Param) (below : Forest) → IsInOrderWith (knows t) params below → WithinLimits params below
    → Parts (params_named (number_in t) params) (slot_process (number_in t) (param_scope params) below)
parts_of t d params below o w =
    let N = number_in t in
    let kept = program_kept (knows t) N (one_to_one t d) params below o in
    let bits : bits_in_scope (param_scope params) ≡ bits_of_scope (params_named N params) = omega (arith, param_bits N params []) in
    record {
      scope = kept.scope;
      types = kept.types;
      controls_few = subst (λ n. n ≤ 4096) (controls_anyhow unnumbered N params below) w.few_controls;
      parameters_few = subst (λ n. n ≤ 16) (sym (length-params_named N params)) w.few_parameters;
      interface = subst (λ n. n ≤ 16) bits w.few_bits;
      state = scopes_small N params below o.placed (omega (arith, w.few_bits)) w.narrow;
    }

module _ (b : Bound) (text : List ℕ) (old new : List (List ℕ)) (f : Forest) (l : IsLaidOut b text old f) (e : Extends (names_in text old) new) (d : IsDistinct new) where
  table : List (List ℕ)
  table = with_places new (lines_places f)

  goes_on : Extends new table
  unfolding table
  goes_on = places_extend new (lines_places f)

  table_distinct : IsDistinct table
  unfolding table
  table_distinct = places_distinct new (lines_places f) d

  of_new : EachLine (IsLineOf new) f
  of_new = lines_are_of b text old new f l e

  of_table : EachLine (IsLineOf table) f
  of_table = lines_are_of b text old table f l (extends_trans (names_in text old) new table e goes_on)

  known : AreKnown (knows table) f
  unfolding table
  known = lines_known new f
      (each_map (IsLineOf new) (λ s. shape_passes (λ x. nat_lt x (length new)) s ≡ true) (line_passes new (λ x. nat_lt x (length new)) (in_table new)) f of_new)
      (each_map (IsLineOf (with_places new (lines_places f))) (λ s. shape_passes (is_plain (with_places new (lines_places f))) s ≡ true)
      (line_passes (with_places new (lines_places f)) (is_plain (with_places new (lines_places f))) (plain_table (with_places new (lines_places f)))) f of_table)
      (each_map (IsLineOf new) (λ s. shape_small s ≡ true) (line_small new) f of_new)

  sound : are_sound f ≡ true
  sound = lines_sound new f of_new

whole : (t : List (List ℕ)) → IsDistinct t → (b : Bound) (number : ℕ) (name : Name) (params : List Param) (below : Forest) (last : ℕ)
    → AreKnown (knows t) (lines_of number name params below last) → are_sound (lines_of number name params below last) ≡ true → are_placed (lines_of number name params below last) ≡ true
    → draft_fault b (lines_of number name params below last) ≡ None → is_limited b ≡ true
    → Parts (params_named (number_in t) params) (slot_process (number_in t) (param_scope params) below)
whole t d b number name params below last known sound placed order limited =
    let rest = and_line last close no_line no_line in
    let f = and_line number (header name params) below rest in
    let none = no_fault b f order in
    let sounds = and_parts (is_sound (header name params)) (are_sound below && are_sound rest) sound in
    parts_of t d params below (record {
      once = declared_once name params (header_judged name_fault number name params below rest none.names);
      widths = sounds.0;
      known = known.0;
      sound = (and_parts (are_sound below) (are_sound rest) sounds.1).0;
      placed = (and_parts (are_placed below) (are_placed rest) placed).0;
      declared = known.1.0;
      lines = record {
        names = below_judged name_fault number name params below rest none.names;
        types = below_judged type_fault number name params below rest none.types;
        directions = below_judged direction_fault number name params below rest none.directions;
      };
    }) (within_limits f (limits_kept b f limited none.limits))

whole_of : (t : List (List ℕ)) → IsDistinct t → (b : Bound) (f : Forest) → IsProgram f → AreKnown (knows t) f → are_sound f ≡ true → are_placed f ≡ true → draft_fault b f ≡ None
    → is_limited b ≡ true → Parts (params_named (number_in t) (header_params f)) (slot_process (number_in t) (param_scope (header_params f)) (header_below f))
whole_of t d b f p known sound placed order limited =
    let g = and_line p.number (header p.name p.params) p.below (and_line p.last close no_line no_line) in
    let P : Forest → Type 0 = λ h. Parts (params_named (number_in t) (header_params h)) (slot_process (number_in t) (param_scope (header_params h)) (header_below h)) in
    subst P (sym p.whole) (whole t d b p.number p.name p.params p.below p.last
    (subst (AreKnown (knows t)) p.whole known) (ap are_sound (sym p.whole) ∙ sound) (ap are_placed (sym p.whole) ∙ placed) (ap (draft_fault b) (sym p.whole) ∙ order) limited)

-- A program that is read, whose parameters and body are the same by each table that goes on from the one that it left.
pub typed : (b : Bound) (text : List ℕ) (old new : List (List ℕ)) (f : Forest) → IsLaidOut b text old f → Extends (names_in text old) new → IsDistinct new
    → draft_fault b f ≡ None → is_limited b ≡ true → (program : Program)
    → ((t : List (List ℕ)) → Extends new t → program.params ≡ params_named (number_in t) (header_params f))
    → ((t : List (List ℕ)) → Extends new t → tree program.body ≡ slot_process (number_in t) (param_scope (header_params f)) (header_below f))
    → IsTyped program
typed b text old new f l e d order limited program params body =
    let t = table b text old new f l e d in
    let on : Extends new t = goes_on b text old new f l e d in
    let parts = whole_of t (table_distinct b text old new f l e d) b f (program_of b text old f l) (known b text old new f l e d) (sound b text old new f l e d) (good_are_placed b f l.good) order limited in
    let scope_is = sym (params t on) in
    let body_is = sym (body t on) in
    record {
      scope = ap scope_kept (params t on) ∙ parts.scope;
      types = ap (λ p. types_kept p (environment program.params)) (body t on) ∙ ap (λ s. types_kept (slot_process (number_in t) (param_scope (header_params f)) (header_below f)) (environment s)) (params t on) ∙ parts.types;
      controls = subst (λ p. controls p ≤ 4096) body_is parts.controls_few;
      parameters = subst (λ s. length s ≤ 16) scope_is parts.parameters_few;
      interface = subst (λ s. bits_of_scope s ≤ 16) scope_is parts.interface;
      state = subst (λ s. most_bits (tree program.body) (bits_of_scope s) ≤ 24) scope_is (subst (λ p. most_bits p (bits_of_scope (params_named (number_in t) (header_params f))) ≤ 24) body_is parts.state);
    }

-- the same of what reading leaves
pub typed_from : (b : Bound) (text : List ℕ) (old mid new : List (List ℕ)) (f g h : Forest) (r : Option ParseFault) (ps : List Param) (below : Forest) (program : Program)
    → IsLaidOut b text old f → mid ≡ names_in text old → IsDistinct mid → g ≡ f → r ≡ draft_fault b g → r ≡ None → h ≡ f → ps ≡ header_params h → below ≡ header_below h
    → new ≡ with_elements mid ps below → is_limited b ≡ true
    → ((t : List (List ℕ)) → Extends new t → program.params ≡ params_named (number_in t) ps)
    → ((t : List (List ℕ)) → Extends new t → tree program.body ≡ slot_process (number_in t) (param_scope ps) below)
    → IsTyped program
typed_from b text old mid new f g h r ps below program l m d same judged none also p q table limited params body =
    let ps_are : ps ≡ header_params f = p ∙ ap (λ k. header_params k) also in
    let below_is : below ≡ header_below f = q ∙ ap (λ k. header_below k) also in
    let on : Extends (names_in text old) new = subst (λ t. Extends t new) m (subst (Extends mid) (sym table) (places_extend mid (program_places ps below))) in
    let single : IsDistinct new = subst IsDistinct (sym table) (places_distinct mid (program_places ps below) d) in
    typed b text old new f l on single (ap (λ k. draft_fault b k) (sym same) ∙ sym judged ∙ none) limited program
    (λ t e. params t e ∙ ap (λ qs. params_named (number_in t) qs) ps_are)
    (λ t e. body t e ∙ ap (λ qs. slot_process (number_in t) (param_scope qs) below) ps_are ∙ ap (λ k. slot_process (number_in t) (param_scope (header_params f)) k) below_is)
