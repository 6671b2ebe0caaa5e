-- The names of a program that was read are those of the table that reading left, and it keeps types.
use Rattle.std.proofs.Common.{◌≡◌, ℕ, true, List, [], refl, sym, subst, ◌∙◌}
use Rattle.std.proofs.lemmas.List.{append-nil}
use Rattle.occ_engine_known.specs.occ_base.Names.{IsDistinct}
use Rattle.occ_engine_known.specs.occ_base.declared.names.Name.{Name}
use Rattle.occ_engine_written.proofs.Typed.{AreKept, kept_from}
use Rattle.occ_renamed.specs.occ_lex.Symbols.{Extends}
use Rattle.occ_renamed.proofs.from_lex.Interned.{extends_trans}
use Rattle.occ_renamed.specs.occ_parse.Known.{NamesAreKnown}
use Rattle.occ_renamed.proofs.from_parse.Checked.{typed}
use Rattle.occ_renamed.proofs.from_parse.Declared.{known_from}
use Rattle.occ_renamed.proofs.from_parse.Knowing.{lines_known, params_known}
use Rattle.occ_renamed.specs.occ_parse.declared.bound.Bound.{Bound}
use Rattle.occ_renamed.specs.occ_parse.Drafts.{header_below, header_params}
use Rattle.occ_renamed.specs.occ_parse.Limits.{is_limited}
use Rattle.occ_renamed.specs.occ_parse.Reading.{IsRead, names_in}
use Rattle.occ_renamed.specs.occ_parse_rules.Places.{Place}
use Rattle.occ_renamed.specs.occ_parse_rules.Unrolled.{params_named, slot_process}
use Rattle.occ_renamed.specs.occ_parse_rules.Programs.{param_scope}
use Rattle.occ_renamed.specs.occ_parse_unroll.Elements.{elements, params_places, program_places, with_elements}
use Rattle.occ_renamed.specs.occ_parse_unroll.Numbers.{number_in}
use Rattle.occ_renamed.proofs.from_parse_unroll.Elements.{places_extend}
use Rattle.occ_script_table.proofs.Below.{program_low}
use Rattle.occ_script_table.proofs.Numbers.{AreSame, IsSame, back_of, front_of, params_same, process_of_lines}
use Rattle.occ_script_table.proofs.Settled.{places_same}
use Rattle.occ_engine_known.specs.occ_syntax.declared.scope.Kind.{Kind}
use Rattle.occ_engine_known.specs.occ_syntax.declared.scope.Program.{Program}
use Rattle.occ_engine_known.specs.occ_syntax.Tree.{Tree}
use Rattle.occ_engine_known.specs.occ_syntax.View.{tree}
use Rattle.occ_renamed.specs.occ_usage.Accepted.{IsTyped}

-- what a text reads as, wherever its parts lie in memory
module _ (b : Bound) (text : List ℕ) (old new : List (List ℕ)) (name : Name) (params : List (Name × Kind)) (body : Tree) (lines : List ℕ)
    (r : IsRead b text old new name params body lines) where
  abbrev names : List (List ℕ)
  names = names_in text old

  abbrev all : List Place
  all = program_places (header_params r.draft) (header_below r.draft)

  abbrev inner : List Place
  inner = (elements (header_below r.draft)).first (param_scope (header_params r.draft)) (λ i. 0)

  pub grown : Extends names new
  grown = subst (Extends names) (sym r.table) (places_extend names all)

  -- what the lines speak of has one number in each longer table
  numbers_stay : (t : List (List ℕ)) → Extends new t → AreSame (number_in new) (number_in t) all
  numbers_stay t e =
      let f = r.draft in
      let ps = header_params f in
      let below = header_below f in
      let whole = with_elements names ps below in
      let low = program_low _ ps below (params_known b text old names f r.laid_out refl ps refl) (lines_known b text old names f r.laid_out refl below refl) in
      let here : Extends whole new = ([], r.table ∙ sym (append-nil whole)) in
      places_same names new t all low here (extends_trans whole new t here e)

  params_stay : (t : List (List ℕ)) → Extends new t → params ≡ params_named (number_in t) (header_params r.draft)
  params_stay t e =
      r.params_are ∙ params_same (number_in new) (number_in t) (header_params r.draft)
      (front_of (IsSame (number_in new) (number_in t)) (params_places (header_params r.draft)) inner (numbers_stay t e))

  body_stays : (t : List (List ℕ)) → Extends new t → body ≡ slot_process (number_in t) (param_scope (header_params r.draft)) (header_below r.draft)
  body_stays t e =
      r.body_is ∙ process_of_lines (number_in new) (number_in t) (param_scope (header_params r.draft)) (header_below r.draft)
      (back_of (IsSame (number_in new) (number_in t)) (params_places (header_params r.draft)) inner (numbers_stay t e))

  -- it keeps names, types and directions
  pub program_kept : IsDistinct new → AreKept params body
  program_kept d = kept_from b text old new r.draft r.laid_out grown d r.in_order params body params_stay body_stays

module _ (b : Bound) (text : List ℕ) (old new : List (List ℕ)) (p : Program) (lines : List ℕ)
    (r : IsRead b text old new p.name p.params (tree p.body) lines) where
  pub names_known : NamesAreKnown new p
  names_known =
      known_from b text old new r.draft r.laid_out (grown b text old new p.name p.params (tree p.body) lines r) p
      (params_stay b text old new p.name p.params (tree p.body) lines r) (body_stays b text old new p.name p.params (tree p.body) lines r)

  -- it keeps names, types, directions and limits
  pub program_typed : IsDistinct new → is_limited b ≡ true → IsTyped p
  program_typed d limited =
      typed b text old new r.draft r.laid_out (grown b text old new p.name p.params (tree p.body) lines r) d r.in_order limited p
      (params_stay b text old new p.name p.params (tree p.body) lines r) (body_stays b text old new p.name p.params (tree p.body) lines r)
