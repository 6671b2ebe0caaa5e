-- The header of a program that was read: its name is a name by itself, and its channels have marks.
use Rattle.std.proofs.Common.{◌≡◌, ℕ, ◌<◌, true, false, nat_lt, List, [], ◌∷◌, length, get_or, map, Option, Some, None, refl, sym, ap, subst, ◌∙◌, arith}
use Rattle.std.specs.List.{AllByRecursion, list_all}
use Rattle.std.proofs.lemmas.Bool.{and_from, and_parts, lt-ltb, ltb-true}
use Rattle.occ_engine_known.specs.occ_base.declared.names.Name.{Name}
use Rattle.occ_renamed.specs.occ_lex.Spelling.{is_name}
use Rattle.occ_renamed.specs.occ_lex.declared.token.TokenKind.TheVariants as token
use Rattle.occ_renamed.proofs.from_lex.Printing.{spelled}
use Rattle.occ_renamed.specs.occ_lex.declared.symbol.Symbol.{Symbol}
use Rattle.occ_renamed.specs.occ_lex.Symbols.{Extends}
use Rattle.occ_renamed.proofs.from_parse.Knowing.{EachLine, IsLineOf, line_passes, lines_are_of}
use Rattle.occ_renamed.proofs.from_parse.Places.{known_step, knows, one_to_one}
use Rattle.occ_renamed.proofs.from_parse.Texts.{is_plain, plain_table}
use Rattle.occ_renamed.specs.occ_parse_forms.declared.form.Param.{Param}
use Rattle.occ_renamed.specs.occ_parse_forms.Lines.{AreParams, IsMarked, param_front}
use Rattle.occ_renamed.specs.occ_parse_forms.Shape.{header}
use Rattle.occ_renamed.specs.occ_parse_layout.declared.placed.Frame.TheVariants as frame
use Rattle.occ_renamed.specs.occ_parse_layout.Layout.{least_bad}
use Rattle.occ_renamed.specs.occ_parse_layout.Whole.{IsProgram}
use Rattle.occ_renamed.proofs.from_parse_layout.Framed.{whole_of}
use Rattle.occ_renamed.specs.occ_parse.declared.bound.Bound.{Bound}
use Rattle.occ_renamed.specs.occ_parse.declared.bound.Bound.TheVariants as bound
use Rattle.occ_renamed.specs.occ_parse.Drafts.{header_name, header_params}
use Rattle.occ_renamed.specs.occ_parse.Limits.{frame_of}
use Rattle.occ_renamed.specs.occ_parse.Reading.{IsLaidOut, names_in}
use Rattle.occ_renamed.specs.occ_parse_rules.Forest.{Forest, lines_at}
use Rattle.occ_renamed.specs.occ_parse_rules.Places.{Place, places}
use Rattle.occ_renamed.specs.occ_parse_rules.Unrolled.{Numbers, named, params_named}
use Rattle.occ_renamed.specs.occ_parse_rules.Agreement.{Has}
use Rattle.occ_renamed.specs.occ_parse_rules.Passing.{param_passes}
use Rattle.occ_renamed.specs.occ_parse_unroll.Numbers.{number_in}
use Rattle.occ_renamed.proofs.from_print.Lists.{all-append}
use Rattle.occ_renamed.specs.occ_print.Spelled.{name_text}
use Rattle.occ_script_table.specs.occ_print_back.Placed.{IsPlace, IsTable}
use Rattle.occ_script_table.proofs.from_print_back.Stable.{index_is, numbered}
use Rattle.occ_engine_known.specs.occ_syntax.declared.scope.Kind.{Kind}

-- ---- a plain name of a table of places

module _ (t : List (List ℕ)) (P : ℕ → Place) (table : IsTable t P) where
  no_index : (x y : ℕ) (o : Option ℕ) → is_plain t x ≡ true → x < length t → IsPlace t (record { name = y; element = o }) (name_text t x) → number_in t y o ≡ x → o ≡ None
  no_index x y None h l p n = refl
  no_index x y (Some k) h l p n =
      let array : is_plain t y ≡ true = and_from _ _ (lt-ltb _ _ p.there) (ap is_name (index_is t y p.there) ∙ spelled (name_text t y) token.Name p.kind) in
      let there : Has (knows t) y (Some k) = known_step t y (Some k) array (lt-ltb _ _ p.index) (omega (arith, l, n)) in
      sym ((one_to_one t table.distinct).element x None y (Some k) h there (sym n))

  pub by_itself : (x : ℕ) → is_plain t x ≡ true → (P x).element ≡ None
  by_itself x h =
      let l : x < length t = ltb-true _ _ (and_parts (nat_lt x (length t)) (is_name (get_or t x [])) h).0 in
      no_index x (P x).name (P x).element h l (table.places x l) (numbered t P table x l)

-- ---- the header

all_of_kind : (N : Numbers) (k : Kind) (ps : List Place) → IsMarked k → AllByRecursion (λ (e : Name × Kind). IsMarked e.1) (map (λ (p : Place). (record { 0 = N p.name p.element }, k)) ps)
all_of_kind N k [] h = tt
all_of_kind N k (p ∷ ps) h = (h, all_of_kind N k ps h)

params_marked : (N : Numbers) (before : Option (List Symbol)) (groups : List (List Symbol)) (ps : List Param) → AreParams before groups ps
    → AllByRecursion (λ (e : Name × Kind). IsMarked e.1) (params_named N ps)
params_marked N before [] [] h = tt
params_marked N before [] (p ∷ ps) h = absurd h
params_marked N before (g ∷ groups) [] h = absurd h
params_marked N before (g ∷ groups) (p ∷ ps) h =
    all-append (λ (e : Name × Kind). IsMarked e.1) (named N p.kind p.declared) (params_named N ps) (all_of_kind N p.kind (places p.declared) h.0.1)
    (params_marked N (Some (param_front p)) groups ps h.1)

whole_program : (b : Bound) (f : Forest) → least_bad (frame_of b) false (lines_at 0 f) ≡ None → IsProgram f
whole_program bound.Program f h = whole_of frame.Program (lines_at 0 f) f refl refl h
whole_program bound.First f h = whole_of frame.Program (lines_at 0 f) f refl refl h
whole_program bound.Script f h = whole_of frame.Plain (lines_at 0 f) f refl refl h

module _ (b : Bound) (text : List ℕ) (old t : List (List ℕ)) (f : Forest) (laid : IsLaidOut b text old f) (e : Extends (names_in text old) t) where
  abbrev program : IsProgram f
  program = whole_program b f laid.good

  header_said : IsLineOf t (header program.name program.params)
  header_said = (subst (EachLine (IsLineOf t)) program.whole (lines_are_of b text old t f laid e)).0

  pub name_plain : is_plain t (header_name f).0 ≡ true
  name_plain =
      let passes = line_passes t (is_plain t) (plain_table t) (header program.name program.params) header_said in
      subst (λ (g : Forest). is_plain t (header_name g).0 ≡ true) (sym program.whole)
      (and_parts (is_plain t program.name.0) (list_all (param_passes (is_plain t)) program.params) passes).0

  pub header_marked : (N : Numbers) → AllByRecursion (λ (e : Name × Kind). IsMarked e.1) (params_named N (header_params f))
  header_marked N =
      subst (λ (g : Forest). AllByRecursion (λ (e : Name × Kind). IsMarked e.1) (params_named N (header_params g))) (sym program.whole)
      (params_marked N None header_said.2.0 program.params header_said.2.1)
