-- A text that reads as a program with two tables reads as one program under other numbers of names.
use Rattle.std.proofs.Common.{◌≡◌, ℕ, true, List, [], ◌∷◌, ◌++◌, length, replicate, Option, Some, None, refl, sym, ap, ap₂, subst, ◌∙◌, arith}
use Rattle.std.specs.List.{AllByRecursion, flat_map}
use Rattle.std.proofs.lemmas.Bool.{and_parts}
use Rattle.std.proofs.lemmas.List.{length-map}
use Rattle.occ_nform.specs.occ_base.declared.names.Name.{Name}
use Rattle.occ_nform.specs.occ_base.Names.{IsDistinct}
use Rattle.occ_renamed.specs.occ_lex.Rows.{reading_of}
use Rattle.occ_renamed.specs.occ_lex.Symbols.{Extends}
use Rattle.occ_renamed.proofs.from_lex.Interned.{extends_eq, extends_same, longer}
use Rattle.occ_renamed.specs.occ_meaning.Rename.{renamed}
use Rattle.occ_renamed.proofs.from_parse.Faultless.{below_judged, lines_of, no_fault}
use Rattle.occ_renamed.proofs.from_parse.Forests.{program_of}
use Rattle.occ_renamed.proofs.from_parse.Knowing.{lines_known, params_known}
use Rattle.occ_renamed.proofs.from_parse.Placed.{good_are_placed}
use Rattle.occ_renamed.proofs.from_parse.Places.{places_distinct}
use Rattle.occ_renamed.specs.occ_parse_forms.declared.form.Declared.{Declared}
use Rattle.occ_renamed.specs.occ_parse_forms.declared.form.Group.{Group}
use Rattle.occ_renamed.specs.occ_parse_forms.declared.form.Group.TheVariants as word
use Rattle.occ_renamed.specs.occ_parse_forms.declared.form.Param.{Param}
use Rattle.occ_renamed.specs.occ_parse_forms.declared.form.Times.{Times}
use Rattle.occ_renamed.specs.occ_parse_forms.Shape.{Shape, header, close}
use Rattle.occ_renamed.specs.occ_parse_forms.Shape as line
use Rattle.occ_renamed.specs.occ_parse_layout.Whole.{IsProgram}
use Rattle.occ_renamed.specs.occ_parse.declared.bound.Bound.{Bound}
use Rattle.occ_renamed.specs.occ_parse.Drafts.{draft_fault, header_below, header_name, header_params}
use Rattle.occ_renamed.specs.occ_parse.Reading.{IsRead, names_in}
use Rattle.occ_renamed.proofs.from_parse.Once.{OneForm}
use Rattle.occ_renamed.specs.Renamed.{all_declared_renamed, forest_renamed, kinds_renamed, name_renamed, params_renamed, place_renamed, places_renamed, shape_renamed, times_renamed}
use Rattle.occ_renamed.specs.Standing.{IsNumbered, IsOneForOne}
use Rattle.occ_renamed.proofs.Elements.{all_places_renamed, program_same}
use Rattle.occ_renamed.proofs.Lines.{program_params, program_so}
use Rattle.occ_renamed.specs.occ_parse_rules.Forest.{Forest, no_line, and_line}
use Rattle.occ_renamed.specs.occ_parse_rules.Names.{name_fault}
use Rattle.occ_renamed.specs.occ_parse_rules.Places.{Place, places}
use Rattle.occ_renamed.specs.occ_parse_rules.Types.{direction_fault, type_fault}
use Rattle.occ_renamed.specs.occ_parse_rules.Unrolled.{Lined, lined, lined_construct, lined_option, lined_part, params_named, repeated, slot_process, times_of}
use Rattle.occ_renamed.specs.occ_parse_rules.InOrder.{AreInOrder}
use Rattle.occ_renamed.specs.occ_parse_rules.Programs.{param_scope}
use Rattle.occ_renamed.specs.occ_parse_rules.Sound.{are_placed}
use Rattle.occ_renamed.specs.occ_parse_unroll.Elements.{program_places, with_places}
use Rattle.occ_renamed.specs.occ_parse_unroll.Numbers.{number_in}
use Rattle.occ_renamed.proofs.from_parse_unroll.Elements.{places_extend}
use Rattle.occ_read_renamed.specs.Readings.{AreRenamed, IsRenumbering, StandIn}
use Rattle.occ_read_renamed.proofs.Laid.{drafts_so}
use Rattle.occ_read_renamed.proofs.Numbers.{Table, number_in_other, renumbering}
use Rattle.occ_read_renamed.proofs.Rows.{lines_distinct, lines_stand}
use Rattle.occ_read_renamed.proofs.Tables.{alike_from, places_numbered, places_stand}
use Rattle.occ_script_table.proofs.Below.{IsLow, program_low}
use Rattle.occ_nform.specs.occ_syntax.declared.scope.Kind.{Kind}
use Rattle.occ_nform.specs.occ_syntax.Tree.{Tree}

-- ---- lines below a header without a fault

pub record AreGood (f : Forest) : Type 0 where
  pub lines : AreInOrder (param_scope (header_params f)) (param_scope (header_params f)) (header_below f)
  pub placed : are_placed (header_below f) ≡ true

good_whole : (b : Bound) (number : ℕ) (name : Name) (params : List Param) (below : Forest) (last : ℕ) → draft_fault b (lines_of number name params below last) ≡ None
    → are_placed (lines_of number name params below last) ≡ true → AreGood (lines_of number name params below last)
good_whole b number name params below last order placed =
    let rest = and_line last close no_line no_line in
    let f = and_line number (header name params) below rest in
    let none = no_fault b f order in
    record {
      lines = record {
        names = below_judged name_fault number name params below rest none.names;
        types = below_judged type_fault number name params below rest none.types;
        directions = below_judged direction_fault number name params below rest none.directions;
      };
      placed = (and_parts (are_placed below) (are_placed rest) placed).0;
    }

pub good : (b : Bound) (f : Forest) → IsProgram f → draft_fault b f ≡ None → are_placed f ≡ true → AreGood f
good b f p order placed =
    subst AreGood (sym p.whole) (good_whole b p.number p.name p.params p.below p.last (ap (draft_fault b) (sym p.whole) ∙ order) (ap are_placed (sym p.whole) ∙ placed))

-- ---- headers under other names

module _ (f : ℕ → ℕ) (g : Forest) (p : IsProgram g) where
  name_so : header_name (forest_renamed f g) ≡ name_renamed f (header_name g)
  name_so = ap (λ h. header_name (forest_renamed f h)) p.whole ∙ sym (ap (λ h. name_renamed f (header_name h)) p.whole)

  pub params_so : header_params (forest_renamed f g) ≡ params_renamed f (header_params g)
  params_so = ap (λ h. header_params (forest_renamed f h)) p.whole ∙ sym (ap (λ h. params_renamed f (header_params h)) p.whole)

  pub below_so : header_below (forest_renamed f g) ≡ forest_renamed f (header_below g)
  below_so = ap (λ h. header_below (forest_renamed f h)) p.whole ∙ sym (ap (λ h. forest_renamed f (header_below h)) p.whole)

-- ---- the lines of processes

module _ (f : ℕ → ℕ) (one : IsOneForOne f) where
  as_many : (ds : List Declared) → length (flat_map places (all_declared_renamed f ds)) ≡ length (flat_map places ds)
  as_many ds = ap (λ (us : List Place). length us) (all_places_renamed f one ds) ∙ length-map (flat_map places ds) (place_renamed f)

  times_same : (times : Option Times) → times_of (times_renamed f times) ≡ times_of times
  times_same None = refl
  times_same (Some times) = refl

  construct_same : (g : Group) (times : Option Times) (K L : Lined) → K.parts ≡ L.parts → K.options ≡ L.options
      → lined_construct g (times_renamed f times) K ≡ lined_construct g times L
  construct_same word.Seq times K L h k = ap₂ repeated (times_same times) h
  construct_same word.Par times K L h k = ap₂ repeated (times_same times) h
  construct_same word.If times K L h k = ap₂ repeated (times_same times) k
  construct_same word.Alt times K L h k = ap₂ repeated (times_same times) k

  part_same : (number : ℕ) (s : Shape) (K L : Lined) → K.parts ≡ L.parts → K.options ≡ L.options → lined_part number (shape_renamed f s) K ≡ lined_part number s L
  part_same number (line.header name params) K L h k = refl
  part_same number line.close K L h k = refl
  part_same number line.skip K L h k = refl
  part_same number line.stop K L h k = refl
  part_same number (line.assign xs es) K L h k = refl
  part_same number (line.receive c x) K L h k = refl
  part_same number (line.send c e) K L h k = refl
  part_same number (line.group g times) K L h k = ap (λ ns. number ∷ ns) (construct_same g times K L h k)
  part_same number (line.declare kind ds) K L h k = ap (λ c. replicate c number) (as_many ds)
  part_same number (line.condition e) K L h k = refl
  part_same number (line.guard e w) K L h k = refl
  part_same number line.nothing K L h k = refl

  option_same : (s : Shape) (K L : Lined) → K.parts ≡ L.parts → K.options ≡ L.options → lined_option (shape_renamed f s) K ≡ lined_option s L
  option_same (line.header name params) K L h k = h
  option_same line.close K L h k = h
  option_same line.skip K L h k = h
  option_same line.stop K L h k = h
  option_same (line.assign xs es) K L h k = h
  option_same (line.receive c x) K L h k = h
  option_same (line.send c e) K L h k = h
  option_same (line.group g times) K L h k = ap₂ repeated (times_same times) k
  option_same (line.declare kind ds) K L h k = h
  option_same (line.condition e) K L h k = h
  option_same (line.guard e w) K L h k = h
  option_same line.nothing K L h k = h

  record AreLinedSo (g : Forest) : Type 0 where
    parts : (lined (forest_renamed f g)).parts ≡ (lined g).parts
    options : (lined (forest_renamed f g)).options ≡ (lined g).options

  lined_so : (g : Forest) → AreLinedSo g
  lined_so no_line = record { parts = refl; options = refl }
  lined_so (and_line number s below rest) =
      let B = lined_so below in
      let R = lined_so rest in
      record {
        parts = ap₂ ◌++◌ (part_same number s (lined (forest_renamed f below)) (lined below) B.parts B.options) R.parts;
        options = ap₂ ◌++◌ (option_same s (lined (forest_renamed f below)) (lined below) B.parts B.options) R.options;
      }

-- ---- the two readings

module _ (form : OneForm) (b : Bound) (text : List ℕ) (old between : Table) (d : IsDistinct old) (e : IsDistinct between) (s : StandIn old between)
    (new other : Table) (n m : Name) (ps qs : List (Name × Kind)) (p q : Tree) (ks ls : List ℕ) (x : IsRead b text old new n ps p ks)
    (y : IsRead b text between other m qs q ls) where
  abbrev names : Table
  names = names_in text old

  abbrev others : Table
  others = names_in text between

  abbrev params : List Param
  params = header_params x.draft

  abbrev below : Forest
  below = header_below x.draft

  abbrev all : List Place
  all = program_places params below

  whole : IsProgram x.draft
  whole = program_of b text old x.draft x.laid_out

  low : AllByRecursion (IsLow (length names)) all
  low = program_low (length names) params below (params_known b text old names x.draft x.laid_out refl params refl)
      (lines_known b text old names x.draft x.laid_out refl below refl)

  distinct : IsDistinct names
  distinct = lines_distinct text old (reading_of text).0 d

  distinct_others : IsDistinct others
  distinct_others = lines_distinct text between (reading_of text).0 e

  stand : StandIn names others
  stand = lines_stand text old between (reading_of text).0 s

  -- the tables without elements: what the second reading adds to them
  module _ (f : ℕ → ℕ) (draft : y.draft ≡ forest_renamed f x.draft) where
    params_of : header_params y.draft ≡ params_renamed f params
    params_of = ap (λ g. header_params g) draft ∙ params_so f x.draft whole

    below_of : header_below y.draft ≡ forest_renamed f below
    below_of = ap (λ g. header_below g) draft ∙ below_so f x.draft whole

    other_is : IsOneForOne f → other ≡ with_places others (places_renamed f all)
    other_is one =
        y.table ∙ (ap₂ (λ us g. with_places others (program_places us g)) params_of below_of ∙ ap (with_places others) (program_same f one params below))

  abbrev first : ℕ → ℕ
  first = number_in_other names others

  first_is : IsRenumbering first names others
  first_is = renumbering names others distinct stand

  all_stand : StandIn new other
  all_stand =
      let draft = drafts_so form b text old between names others distinct distinct_others stand (extends_same names) (extends_same others) x.draft y.draft x.laid_out y.laid_out in
      subst (StandIn new) (sym (other_is first draft first_is.one_for_one))
      (subst (λ t. StandIn t (with_places others (places_renamed first all))) (sym x.table)
      (places_stand first (length names) names others all (alike_from first names others first_is) low stand))

  -- the whole tables
  abbrev number : ℕ → ℕ
  number = number_in_other new other

  grown : Extends names new
  grown = subst (Extends names) (sym x.table) (places_extend names all)

  grown_other : Extends others other
  grown_other = subst (Extends others) (sym y.table) (places_extend others (program_places (header_params y.draft) (header_below y.draft)))

  new_distinct : IsDistinct new
  new_distinct = subst IsDistinct (sym x.table) (places_distinct names all distinct)

  other_distinct : IsDistinct other
  other_distinct = subst IsDistinct (sym y.table) (places_distinct others (program_places (header_params y.draft) (header_below y.draft)) distinct_others)

  number_is : IsRenumbering number new other
  number_is = renumbering new other new_distinct all_stand

  draft_is : y.draft ≡ forest_renamed number x.draft
  draft_is = drafts_so form b text old between new other new_distinct other_distinct all_stand grown grown_other x.draft y.draft x.laid_out y.laid_out

  numbered : IsNumbered number (number_in new) (number_in other) params below
  numbered =
      let g = good b x.draft whole x.in_order (good_are_placed b x.draft x.laid_out.good) in
      let a = alike_from number new other number_is in
      let here : Extends (with_places names all) new = extends_eq (with_places names all) new x.table in
      record {
        placed = g.placed;
        lines = g.lines;
        places = places_numbered number (length names) names new other new_distinct other_distinct number_is
            (record { long = longer names new grown; within = λ z h. a.within z (omega (arith, h, longer names new grown)); same = λ z h. a.same z (omega (arith, h, longer names new grown)) })
            (omega arith) all low here;
      }

  pub readings : AreRenamed new other n m ps qs p q ks ls
  readings =
      let one = number_is.one_for_one in
      let us = params_of number draft_is in
      let gs = below_of number draft_is in
      record {
        number = number;
        numbering = number_is;
        name = y.name_is ∙ (ap (λ g. header_name g) draft_is ∙ (name_so number x.draft whole ∙ ap (name_renamed number) (sym x.name_is)));
        params = y.params_are ∙ (ap (params_named (number_in other)) us ∙ (program_params number one (number_in new) (number_in other) params below numbered ∙ ap (kinds_renamed number) (sym x.params_are)));
        body = y.body_is ∙ (ap₂ (λ vs g. slot_process (number_in other) (param_scope vs) g) us gs
            ∙ (program_so number one (number_in new) (number_in other) params below numbered ∙ ap (λ t. renamed t number) (sym x.body_is)));
        numbers = y.numbers_are ∙ (ap (λ g. (lined g).parts) gs ∙ ((lined_so number one below).parts ∙ sym x.numbers_are));
      }
