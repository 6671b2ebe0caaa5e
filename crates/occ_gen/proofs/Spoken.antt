-- How a line is spelled that says something: of the lines that occur in generated programs.
use Rattle.std.proofs.Common.{◌≡◌, Bool, true, false, ◌&&◌, List, [], ◌∷◌, ◌++◌, map, Option, None, Some, inl, refl, ap, ◌∙◌}
use Rattle.std.specs.List.{list_all}
use Rattle.std.proofs.lemmas.Bool.{and_parts}
use Rattle.occ_script.specs.occ_lex.declared.symbol.Keyword.TheVariants as word
use Rattle.occ_script.specs.occ_lex.declared.symbol.Sign.TheVariants as sign
use Rattle.occ_script.specs.occ_lex.declared.symbol.Symbol.{Symbol}
use Rattle.occ_script.specs.occ_lex.declared.symbol.Symbol.TheVariants as symbol
use Rattle.occ_print_back.specs.occ_parse_forms.declared.form.Declared.{Declared}
use Rattle.occ_print_back.specs.occ_parse_forms.declared.form.Declared.TheVariants as declared
use Rattle.occ_print_back.specs.occ_parse_forms.declared.form.Param.{Param}
use Rattle.occ_print_back.specs.occ_parse_forms.Lines.{AreParams, HasCount, IsForm, IsMarked, IsUnmarked, IsWritten, declared_words, front_words, group_word, list_words, param_front, tail_words, times_words}
use Rattle.occ_print_back.specs.occ_parse_forms.Shape.{Said, Shape, item, numeral, typed, truth, negation, complement, operation, header, close, receive, send, group, declare, condition}
use Rattle.occ_print_back.specs.occ_parse_forms.Written.{Operand, between, complemented, constant, item_words, named, number, only, op_word, operand_meant, operand_words, truth_word}
use Rattle.occ_script.specs.occ_syntax.declared.scope.Kind.{Kind}
use Rattle.occ_script.specs.occ_syntax.declared.scope.Kind.TheVariants as kind

-- ---- expressions without brackets

abbrev is_operand : Said → Bool
is_operand (item i) = true
is_operand (numeral value) = true
is_operand (truth b) = true
is_operand other = false

abbrev is_simple : Said → Bool
is_simple (complement e) = is_operand e
is_simple (operation o left right) = is_operand left && is_operand right
is_simple e = is_operand e

abbrev operand_spoken : Said → List Symbol
operand_spoken (item i) = item_words i
operand_spoken (numeral value) = symbol.Numeral value ∷ []
operand_spoken (truth b) = truth_word b ∷ []
operand_spoken other = []

abbrev exp_spoken : Said → List Symbol
exp_spoken (complement e) = symbol.Sign sign.Flip ∷ operand_spoken e
exp_spoken (operation o left right) = operand_spoken left ++ op_word o ∷ operand_spoken right
exp_spoken e = operand_spoken e

record IsOperand (e : Said) : Type 0 where
  operand : Operand
  spelled : operand_spoken e ≡ operand_words operand
  means : e ≡ operand_meant operand

an_operand : (e : Said) → is_operand e ≡ true → IsOperand e
an_operand (item i) h = record { operand = named i; spelled = refl; means = refl }
an_operand (numeral value) h = record { operand = number value; spelled = refl; means = refl }
an_operand (truth b) h = record { operand = constant b; spelled = refl; means = refl }
an_operand (typed value width) h = absurd cc
an_operand (negation e) h = absurd cc
an_operand (complement e) h = absurd cc
an_operand (operation o left right) h = absurd cc

alone : (e : Said) → IsOperand e → exp_spoken e ≡ operand_spoken e → IsWritten (exp_spoken e) e
alone e a same = (only a.operand, same ∙ a.spelled, a.means)

exp_written : (e : Said) → is_simple e ≡ true → IsWritten (exp_spoken e) e
exp_written (item i) h = alone (item i) (an_operand (item i) h) refl
exp_written (numeral value) h = alone (numeral value) (an_operand (numeral value) h) refl
exp_written (truth b) h = alone (truth b) (an_operand (truth b) h) refl
exp_written (complement e) h =
    let a = an_operand e h in
    (complemented a.operand, ap (λ s. symbol.Sign sign.Flip ∷ s) a.spelled, ap complement a.means)
exp_written (operation o left right) h =
    let both = and_parts (is_operand left) (is_operand right) h in
    let a = an_operand left both.0 in
    let b = an_operand right both.1 in (
      between o a.operand b.operand,
      ap (λ s. s ++ op_word o ∷ operand_spoken right) a.spelled ∙ ap (λ s. operand_words a.operand ++ op_word o ∷ s) b.spelled,
      ap (λ d. operation o d right) a.means ∙ ap (λ d. operation o (operand_meant a.operand) d) b.means,
    )
exp_written (typed value width) h = absurd cc
exp_written (negation e) h = absurd cc

-- ---- lines

abbrev has_name : Declared → Bool
has_name (declared.Plain name) = true
has_name other = false

abbrev is_marked : Kind → Bool
is_marked (kind.Var width) = true
is_marked (kind.Chan width None) = false
is_marked (kind.Chan width (Some mark)) = true

abbrev is_unmarked : Kind → Bool
is_unmarked (kind.Var width) = true
is_unmarked (kind.Chan width None) = true
is_unmarked (kind.Chan width (Some mark)) = false

abbrev is_good_param : Param → Bool
is_good_param p = has_name p.declared && is_marked p.kind

abbrev are_good_names : Kind → List Declared → Bool
are_good_names k [] = false
are_good_names k (d ∷ []) = is_unmarked k && has_name d
are_good_names k (d ∷ e ∷ ds) = false

-- lines that can be spelled
abbrev pub can_be_spoken : Shape → Bool
can_be_spoken (header name params) = list_all is_good_param params
can_be_spoken close = true
can_be_spoken (receive c x) = true
can_be_spoken (send c e) = is_simple e
can_be_spoken (group g times) = true
can_be_spoken (declare k ds) = are_good_names k ds
can_be_spoken (condition e) = is_simple e
can_be_spoken other = false

abbrev param_words : Param → List Symbol
param_words p = param_front p ++ tail_words p

abbrev names_spoken : Kind → List Declared → List Symbol
names_spoken k [] = []
names_spoken k (d ∷ ds) = front_words d k ++ (list_words declared_words (d ∷ ds) ++ symbol.Sign sign.Colon ∷ [])

abbrev pub spoken : Shape → List Symbol
spoken (header name params) =
    symbol.Keyword word.Proc ∷ symbol.Name name ∷ symbol.Sign sign.Open ∷ (list_words (λ g. g) (map param_words params) ++ symbol.Sign sign.Close ∷ [])
spoken close = symbol.Sign sign.Colon ∷ []
spoken (receive c x) = item_words c ++ symbol.Sign sign.Query ∷ item_words x
spoken (send c e) = item_words c ++ symbol.Sign sign.Bang ∷ exp_spoken e
spoken (group g times) = group_word g ∷ times_words times
spoken (declare k ds) = names_spoken k ds
spoken (condition e) = exp_spoken e
spoken other = []

counts : (d : Declared) → has_name d ≡ true → HasCount d
counts (declared.Plain name) h = tt
counts (declared.Element name place) h = absurd cc
counts (declared.Array name count) h = absurd cc

marked : (k : Kind) → is_marked k ≡ true → IsMarked k
marked (kind.Var width) h = tt
marked (kind.Chan width None) h = absurd cc
marked (kind.Chan width (Some mark)) h = tt

unmarked : (k : Kind) → is_unmarked k ≡ true → IsUnmarked k
unmarked (kind.Var width) h = tt
unmarked (kind.Chan width None) h = tt
unmarked (kind.Chan width (Some mark)) h = absurd cc

params_formed : (before : Option (List Symbol)) (ps : List Param) → list_all is_good_param ps ≡ true → AreParams before (map param_words ps) ps
params_formed before [] h = tt
params_formed before (p ∷ ps) h =
    let both = and_parts (is_good_param p) (list_all is_good_param ps) h in
    let good = and_parts (has_name p.declared) (is_marked p.kind) both.0 in
    ((counts p.declared good.0, marked p.kind good.1, inl refl), params_formed (Some (param_front p)) ps both.1)

-- such a line has the form of what it says
pub spoken_formed : (s : Shape) → can_be_spoken s ≡ true → IsForm (spoken s) s
spoken_formed (header name params) h = (map param_words params, params_formed None params h, refl)
spoken_formed close h = refl
spoken_formed (receive c x) h = refl
spoken_formed (send c e) h =
    let w = exp_written e h in (w.0, ap (λ s. item_words c ++ symbol.Sign sign.Bang ∷ s) w.1, w.2)
spoken_formed (group g times) h = refl
spoken_formed (declare k []) h = absurd cc
spoken_formed (declare k (d ∷ [])) h =
    let good = and_parts (is_unmarked k) (has_name d) h in (unmarked k good.0, counts d good.1, tt, refl)
spoken_formed (declare k (d ∷ e ∷ ds)) h = absurd cc
spoken_formed (condition e) h = exp_written e h
spoken_formed other h = absurd cc
