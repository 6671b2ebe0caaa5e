-- The tables that reading a script reaches stand in ones that the script is written from.
use Rattle.std.proofs.Common.{◌≡◌, ⊎_elim, ℕ, ◌<◌, ◌≤◌, List, [], ◌∷◌, ◌++◌, map, length, length-append, get_or, Option, Some, None, slice_get, refl, sym, ap, subst, ◌∙◌, arith}
use Rattle.std.specs.List.{AllByRecursion, list_all}
use Rattle.std.specs.Prelude.{IfSome}
use Rattle.std.proofs.lemmas.List.{append-nil}
use Rattle.std.proofs.Math.ListN.{get_or-append}
use Rattle.occ_engine_known.specs.occ_base.declared.names.Name.{Name}
use Rattle.occ_engine_known.specs.occ_base.Names.{IsDistinct, place_of}
use Rattle.occ_engine_known.proofs.from_base.Naming.{naming}
use Rattle.occ_renamed.specs.occ_lex.Rows.{reading_of}
use Rattle.occ_renamed.proofs.from_lex.Placing.{reading_placed}
use Rattle.occ_renamed.specs.occ_lex.Symbols.{Extends}
use Rattle.occ_renamed.proofs.from_lex.Interned.{extends_same, longer}
use Rattle.occ_renamed.proofs.from_parse.Knowing.{lines_known, params_known}
use Rattle.occ_renamed.proofs.from_parse.Places.{places_distinct}
use Rattle.occ_renamed.proofs.from_parse.Texts.{is_plain, plain_table, stays}
use Rattle.occ_renamed.specs.occ_parse_part.declared.raw.Raw.{Raw}
use Rattle.occ_renamed.specs.occ_parse_part.Arrays.{array_names, arrays_of}
use Rattle.occ_renamed.specs.occ_parse_part.Shown.{lines_of}
use Rattle.occ_renamed.proofs.from_parse_part.Known.{arrays_pass, lines_are_of, lines_pass_test, names_pass}
use Rattle.occ_renamed.specs.occ_parse.declared.bound.Bound.{Bound}
use Rattle.occ_renamed.specs.occ_parse.Drafts.{header_below, header_params}
use Rattle.occ_renamed.specs.occ_parse.Reading.{names_in}
use Rattle.occ_renamed.proofs.from_parse.Once.{OneForm, draft_once}
use Rattle.occ_renamed.specs.occ_parse_rules.Forest.{Forest, lines_at}
use Rattle.occ_renamed.specs.occ_parse_rules.Places.{Place}
use Rattle.occ_renamed.specs.occ_parse_unroll.Elements.{program_places, with_elements, with_place, with_places}
use Rattle.occ_renamed.specs.occ_parse_unroll.Numbers.{element_text}
use Rattle.occ_renamed.proofs.from_parse_unroll.Elements.{places_extend}
use Rattle.occ_engine_known.specs.occ_script.declared.script.Step.{Step}
use Rattle.occ_engine_known.specs.occ_script.Lines.{named_in}
use Rattle.occ_engine_known.specs.occ_script.Scripts.{IsFormed, IsProgram}
use Rattle.occ_engine_known.specs.occ_script.Steps.{AreSteps, IsPartIn, and_step, no_step}
use Rattle.occ_script_table.proofs.Below.{IsLow, program_low}
use Rattle.occ_script_table.proofs.Reading.{again, laid_again}
use Rattle.occ_script_table.proofs.Scripts.{lines_there}
use Rattle.occ_renamed.specs.occ_script_lines.Sections.{Section, reading_in, upto}
use Rattle.occ_engine_written.specs.Front.{AllStandIn, AreWrittenBehind}
use Rattle.occ_engine_written.proofs.Behind.{AreGood}
use Rattle.occ_engine_written.proofs.Covered.{IsCovered, arrays_covered, lines_covered}
use Rattle.occ_engine_written.proofs.Front.{in_front}
use Rattle.occ_engine_written.proofs.NumberedGrown.{one_from}
use Rattle.occ_engine_known.specs.occ_syntax.declared.scope.Program.{Program}

abbrev Table : Type 0
Table = List (List ℕ)

-- ---- places that a longer table has already

nothing_more : (more : Table) → length more ≤ 0 → more ≡ []
nothing_more [] h = refl
nothing_more (t ∷ more) h = absurd (omega (arith, h))

-- a table that extends another and is no longer is that one
no_longer : (t u : Table) → Extends t u → length u ≤ length t → u ≡ t
no_longer t u e l =
    let none : e.0 ≡ [] = nothing_more e.0 (omega (arith, l, ap (λ (s : Table). length s) e.1, length-append t e.0)) in
    e.1 ∙ ap (λ more. t ++ more) none ∙ append-nil t

text_kept : (old new : Table) (x : ℕ) → Extends old new → x < length old → get_or new x [] ≡ get_or old x []
text_kept old new x e h = ap (λ ts. get_or ts x []) e.1 ∙ get_or-append old e.0 [] x h

place_stands : (n : ℕ) (old t : Table) (x : ℕ) (o : Option ℕ) → ((y : ℕ) → y < n → get_or t y [] ≡ get_or old y []) → IfSome o (λ k. x < n)
    → with_place t x o ≡ t → AllStandIn old t → AllStandIn (with_place old x o) t
place_stands n old t x None same low there has i u e = has i u e
place_stands n old t x (Some k) same low there has i u e =
    let mine = element_text (get_or old x []) k in
    let other = element_text (get_or t x []) k in
    let equal : other ≡ mine = ap (λ s. element_text s k) (same x low) in
    ⊎_elim
    (λ (h : slice_get old i ≡ Some u). has i u h)
    (λ (h : mine ≡ u). (place_of t other, ap (λ ts. slice_get ts (place_of t other)) (sym there) ∙ (naming t other).there ∙ ap Some (equal ∙ h)))
    (one_from old mine u i e)

place_extends : (t : Table) (x : ℕ) (o : Option ℕ) → Extends t (with_place t x o)
place_extends t x o = places_extend t (record { name = x; element = o } ∷ [])

places_stand : (n : ℕ) (old t : Table) (ps : List Place) → n ≤ length old → ((y : ℕ) → y < n → get_or t y [] ≡ get_or old y []) → AllByRecursion (IsLow n) ps
    → with_places t ps ≡ t → AllStandIn old t → AllStandIn (with_places old ps) t
places_stand n old t [] l same low there has = has
places_stand n old t (p ∷ ps) l same low there has =
    let next = with_place t p.name p.element in
    let more = longer next (with_places next ps) (places_extend next ps) in
    let first : next ≡ t = no_longer t next (place_extends t p.name p.element) (subst (λ u. length next ≤ length u) there more) in
    let mine = with_place old p.name p.element in
    let grown : Extends old mine = place_extends old p.name p.element in
    places_stand n mine t ps (omega (arith, l, longer old mine grown))
    (λ y h. same y h ∙ sym (text_kept old mine y grown (omega (arith, l, h)))) low.1 (ap (λ u. with_places u ps) (sym first) ∙ there)
    (place_stands n old t p.name p.element same low.0 first has)

-- ---- lines, parts and steps

module _ (good : AreGood) (text : List ℕ) (count : ℕ) where
  abbrev Covered : Table → Type 0
  Covered t = IsCovered text count t

  pub named_covered : (s : Section) (t : Table) → Covered t → Covered (named_in s t)
  named_covered s t c = lines_covered good text count (upto s) t c (reading_in s).0 (lines_there s)

  as_numbers : (xs : List ℕ) → map (λ (x : Name). x.0) (map (λ (x : ℕ). record { 0 = x }) xs) ≡ xs
  as_numbers [] = refl
  as_numbers (x ∷ xs) = ap (λ ys. x ∷ ys) (as_numbers xs)

  pub part_covered : (old new : Table) (s : Section) (part : Raw) → IsPartIn old new s part → Covered old → Covered new
  part_covered old new s part h c =
      let base = named_in s old in
      let twice = named_in s base in
      let arrays = array_names (lines_at 1 (lines_of part)) in
      let test = is_plain twice in
      let laid = h.lines.laid in
      let pass = arrays_pass test laid (lines_pass_test twice test (plain_table twice) laid
      (lines_are_of (upto s) base twice (reading_in s).0 laid h.lines.stop (lines_there s) (extends_same twice) h.lines.judged)) in
      let plain = names_pass test arrays (ap (list_all test) (as_numbers (arrays_of (lines_at 1 (lines_of part))) ∙ ap arrays_of h.lines.well.lines) ∙ pass) in
      subst Covered (sym h.table) (arrays_covered good text count twice (named_covered s base (named_covered s old c)) arrays plain)

  pub steps_covered : (old new : Table) (ss rest : List Section) (steps : List Step) → AreSteps old new ss rest steps → Covered old → Covered new
  steps_covered old new ss rest steps (no_step a others) c = c
  steps_covered old new ss rest steps (and_step a t b s more others step later line h k) c =
      steps_covered t b more others later k (part_covered a t s step.part h.part c)

  pub formed_covered : (source : List ℕ) (old new : Table) (from : List ℕ) (steps : List Step) (to : List ℕ) → IsFormed source old new from steps to → Covered old → Covered new
  formed_covered source old new from steps to h c =
      let d = h.derivation in
      let e = d.is_end in
      let first = named_covered d.source (named_in h.head old) (named_covered h.head old c) in
      subst Covered (sym e.table) (named_covered e.target e.between
      (steps_covered (named_in d.source (named_in h.head old)) e.between d.rest (e.target ∷ []) steps e.are_steps first))

  pub names_covered : (source : List ℕ) (t : Table) → Covered t → Covered (names_in source t)
  names_covered source t c = lines_covered good text count source t c (reading_of source).0 (reading_placed source).lines_of_text

  -- ---- a table in front

  pub behind_covered : (t : Table) → Covered t → AreWrittenBehind t text count
  behind_covered t c =
      subst (λ n. AreWrittenBehind t text n) c.as_many
      (subst (λ s. AreWrittenBehind t s (length c.steps)) c.text_is (in_front c.names c.places c.from c.to c.steps t c.moves c.single c.has))

  -- ---- a program: with a table that begins with the names of its text, it is read as some program, which leaves that table

  abbrev pub IsReadBehind : Bound → List ℕ → Table → Type 0
  IsReadBehind b source t =
      (w : AreWrittenBehind t text count) → (program : Program) × (numbers : List ℕ) × IsProgram b source (t ++ w.rest) (t ++ w.rest) program numbers

  pub program_covered : OneForm → (b : Bound) (source : List ℕ) (old new : Table) (program : Program) (numbers : List ℕ)
      → IsProgram b source old new program numbers → IsReadBehind b source (names_in source old) → Covered old → Covered new
  program_covered one b source old new program numbers r reads c =
      let N = names_in source old in
      let cN : Covered N = names_covered source old c in
      let w = behind_covered N cN in
      let T = N ++ w.rest in
      let e : Extends N T = (w.rest, refl) in
      let back = reads w in
      let r1 = back.2 in
      let f = r.draft in
      let same : f ≡ r1.draft = draft_once one b source T f r1.draft (laid_again b source old T e f r.laid_out) r1.laid_out in
      let all = program_places (header_params f) (header_below f) in
      let steady : names_in source T ≡ T = (again b source old T e).table in
      let there : with_places T all ≡ T =
      ap (λ t. with_places t all) (sym steady) ∙ ap (λ (g : Forest). with_elements (names_in source T) (header_params g) (header_below g)) same ∙ sym r1.table in
      let low : AllByRecursion (IsLow (length N)) all =
      program_low (length N) (header_params f) (header_below f) (params_known b source old N f r.laid_out refl (header_params f) refl) (lines_known b source old N f r.laid_out refl (header_below f) refl) in
      let texts : (y : ℕ) → y < length N → get_or T y [] ≡ get_or N y [] = λ y h. text_kept N T y e h in
      let first : AllStandIn N T = λ i t h. (i, stays N T i t e h) in
      record {
        single = subst IsDistinct (sym r.table) (places_distinct N all cN.single);
        names = T;
        places = w.places;
        from = w.from;
        steps = w.steps;
        to = w.to;
        moves = w.moves;
        text_is = w.text_is;
        as_many = w.as_many;
        has = subst (λ t. AllStandIn t T) (sym r.table) (places_stand (length N) N T all (omega arith) texts low there first);
      }
