-- The parameters and the body that a text reads as keep names, types and directions.
use Rattle.std.proofs.Common.{◌≡◌, true, nat_lt, ◌&&◌, ℕ, List, length, None, sym, ap, subst, ◌∙◌}
use Rattle.std.proofs.lemmas.Bool.{and_parts}
use Rattle.occ_engine_known.specs.occ_base.Names.{IsDistinct}
use Rattle.occ_engine_known.specs.occ_base.declared.names.Name.{Name}
use Rattle.occ_renamed.specs.occ_lex.Symbols.{Extends}
use Rattle.occ_renamed.proofs.from_lex.Interned.{extends_trans}
use Rattle.occ_renamed.proofs.from_parse.Faultless.{below_judged, declared_once, header_judged, lines_of, no_fault}
use Rattle.occ_renamed.proofs.from_parse.Forests.{program_of}
use Rattle.occ_renamed.proofs.from_parse.Knowing.{EachLine, IsLineOf, each_map, line_passes, line_small, lines_are_of, lines_sound}
use Rattle.occ_renamed.proofs.from_parse.Placed.{good_are_placed}
use Rattle.occ_renamed.proofs.from_parse.Places.{knows, lines_known, lines_places, one_to_one, places_distinct, places_extend}
use Rattle.occ_renamed.proofs.from_parse.Small.{shape_small}
use Rattle.occ_renamed.proofs.from_parse.Texts.{in_table, is_plain, plain_table}
use Rattle.occ_renamed.specs.occ_parse_forms.Shape.{close, header}
use Rattle.occ_renamed.specs.occ_parse_forms.declared.form.Param.{Param}
use Rattle.occ_renamed.specs.occ_parse_layout.Whole.{IsProgram}
use Rattle.occ_renamed.specs.occ_parse.Drafts.{draft_fault, header_below, header_params}
use Rattle.occ_renamed.specs.occ_parse.Reading.{IsLaidOut, names_in}
use Rattle.occ_renamed.specs.occ_parse.declared.bound.Bound.{Bound}
use Rattle.occ_renamed.specs.occ_parse_rules.Forest.{Forest, and_line, no_line}
use Rattle.occ_renamed.specs.occ_parse_rules.Names.{name_fault}
use Rattle.occ_renamed.specs.occ_parse_rules.Types.{direction_fault, type_fault}
use Rattle.occ_renamed.specs.occ_parse_rules.Unrolled.{params_named, slot_process}
use Rattle.occ_renamed.proofs.from_parse_rules.Params.{program_kept}
use Rattle.occ_renamed.specs.occ_parse_rules.Agreement.{AreKnown}
use Rattle.occ_renamed.specs.occ_parse_rules.Passing.{shape_passes}
use Rattle.occ_renamed.specs.occ_parse_rules.Programs.{param_scope}
use Rattle.occ_renamed.specs.occ_parse_rules.Sound.{are_placed, are_sound, is_sound}
use Rattle.occ_renamed.specs.occ_parse_unroll.Elements.{with_places}
use Rattle.occ_renamed.specs.occ_parse_unroll.Numbers.{number_in}
use Rattle.occ_engine_known.specs.occ_syntax.Scopes.{environment}
use Rattle.occ_engine_known.specs.occ_syntax.Tree.{Tree}
use Rattle.occ_engine_known.specs.occ_syntax.Types.{scope_kept, types_kept}
use Rattle.occ_engine_known.specs.occ_syntax.declared.scope.Kind.{Kind}

-- these parameters and this body keep names, types and directions
pub record AreKept (params : List (Name × Kind)) (body : Tree) : Type 0 where
  pub scope : scope_kept params ≡ true
  pub types : types_kept body (environment params) ≡ true

-- so do those of a draft, by a table
abbrev DraftIsKept : List (List ℕ) → Forest → Type 0
DraftIsKept t f = AreKept (params_named (number_in t) (header_params f)) (slot_process (number_in t) (param_scope (header_params f)) (header_below f))

kept_lines : (t : List (List ℕ)) → IsDistinct t → (b : Bound) (number : ℕ) (name : Name) (params : List Param) (below : Forest) (last : ℕ)
    → AreKnown (knows t) (lines_of number name params below last) → are_sound (lines_of number name params below last) ≡ true
    → are_placed (lines_of number name params below last) ≡ true → draft_fault b (lines_of number name params below last) ≡ None
    → AreKept (params_named (number_in t) params) (slot_process (number_in t) (param_scope params) below)
kept_lines t d b number name params below last known sound placed order =
    let rest = and_line last close no_line no_line in
    let none = no_fault b (and_line number (header name params) below rest) order in
    let sounds = and_parts (is_sound (header name params)) (are_sound below && are_sound rest) sound in
    let kept = program_kept (knows t) (number_in t) (one_to_one t d) params below (record {
      once = declared_once name params (header_judged name_fault number name params below rest none.names);
      widths = sounds.0;
      known = known.0;
      sound = (and_parts (are_sound below) (are_sound rest) sounds.1).0;
      placed = (and_parts (are_placed below) (are_placed rest) placed).0;
      declared = known.1.0;
      lines = record {
        names = below_judged name_fault number name params below rest none.names;
        types = below_judged type_fault number name params below rest none.types;
        directions = below_judged direction_fault number name params below rest none.directions;
      };
    }) in
    record { scope = kept.scope; types = kept.types }

kept_draft : (t : List (List ℕ)) → IsDistinct t → (b : Bound) (f : Forest) → IsProgram f → AreKnown (knows t) f → are_sound f ≡ true → are_placed f ≡ true
    → draft_fault b f ≡ None → DraftIsKept t f
kept_draft t d b f p known sound placed order =
    let back = sym p.whole in
    subst (DraftIsKept t) back (kept_lines t d b p.number p.name p.params p.below p.last (subst (AreKnown (knows t)) p.whole known)
    (ap are_sound back ∙ sound) (ap are_placed back ∙ placed) (ap (draft_fault b) back ∙ order))

-- A text that is read, whose parameters and body are the same by each table that goes on from the one that it left.
pub kept_from : (b : Bound) (text : List ℕ) (old new : List (List ℕ)) (f : Forest) → IsLaidOut b text old f → Extends (names_in text old) new → IsDistinct new
    → draft_fault b f ≡ None → (params : List (Name × Kind)) (body : Tree)
    → ((t : List (List ℕ)) → Extends new t → params ≡ params_named (number_in t) (header_params f))
    → ((t : List (List ℕ)) → Extends new t → body ≡ slot_process (number_in t) (param_scope (header_params f)) (header_below f)) → AreKept params body
kept_from b text old new f l e d order params body params_are body_is =
    let t = with_places new (lines_places f) in
    let on : Extends new t = places_extend new (lines_places f) in
    let of_new : EachLine (IsLineOf new) f = lines_are_of b text old new f l e in
    let of_table : EachLine (IsLineOf t) f = lines_are_of b text old t f l (extends_trans (names_in text old) new t e on) in
    let known : AreKnown (knows t) f =
    lines_known new f (each_map (IsLineOf new) (λ s. shape_passes (λ x. nat_lt x (length new)) s ≡ true) (line_passes new (λ x. nat_lt x (length new)) (in_table new)) f of_new)
    (each_map (IsLineOf t) (λ s. shape_passes (is_plain t) s ≡ true) (line_passes t (is_plain t) (plain_table t)) f of_table)
    (each_map (IsLineOf new) (λ s. shape_small s ≡ true) (line_small new) f of_new) in
    let kept = kept_draft t (places_distinct new (lines_places f) d) b f (program_of b text old f l) known (lines_sound new f of_new) (good_are_placed b f l.good) order in
    let P : List (Name × Kind) → Type 0 = λ ps. AreKept ps (slot_process (number_in t) (param_scope (header_params f)) (header_below f)) in
    subst (AreKept params) (sym (body_is t on)) (subst P (sym (params_are t on)) kept)
