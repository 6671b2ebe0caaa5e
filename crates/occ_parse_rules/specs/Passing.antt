-- Lines all of whose names pass a test, and all of whose widths are widths.
use Rattle.std.specs.Prelude.{ℕ, Bool, true, ◌&&◌, Option, Some, None}
use Rattle.std.specs.List.{list_all}
use Rattle.occ_meaning.specs.occ_syntax.Types.{is_width, width_of_kind}
use Rattle.occ_parse_forms.specs.occ_lex.declared.symbol.Keyword.{Keyword}
use Rattle.occ_parse_forms.specs.occ_lex.declared.symbol.Keyword.TheVariants as word
use Rattle.occ_parse_forms.specs.occ_lex.declared.symbol.Symbol.{Symbol}
use Rattle.occ_parse_forms.specs.occ_lex.declared.symbol.Symbol.TheVariants as symbol
use Rattle.occ_parse_forms.specs.declared.form.Declared.{Declared}
use Rattle.occ_parse_forms.specs.declared.form.Declared.TheVariants as declared
use Rattle.occ_parse_forms.specs.declared.form.Item.{Item}
use Rattle.occ_parse_forms.specs.declared.form.Param.{Param}
use Rattle.occ_parse_forms.specs.declared.form.Times.{Times}
use Rattle.occ_parse_forms.specs.declared.phrase.Index.{Index}
use Rattle.occ_parse_forms.specs.declared.phrase.Index.TheVariants as index
use Rattle.occ_parse_forms.specs.Shape.{Said, item, numeral, typed, truth, negation, complement, operation, Waiting, ready, input, output, Shape, header, close, skip, stop, assign, receive, send, group, declare, condition, guard, nothing}

abbrev pub keyword_passes : Keyword → Bool
keyword_passes (word.Width w) = is_width w
keyword_passes other = true

abbrev pub symbol_passes : (ℕ → Bool) → Symbol → Bool
symbol_passes test (symbol.Name n) = test n.0
symbol_passes test (symbol.Numeral value) = true
symbol_passes test (symbol.Keyword k) = keyword_passes k
symbol_passes test (symbol.Sign s) = true

abbrev pub index_passes : (ℕ → Bool) → Index → Bool
index_passes test (index.Number k) = true
index_passes test (index.Name i) = test i.0
index_passes test (index.Plus i k) = test i.0
index_passes test (index.Minus i k) = test i.0

abbrev pub place_passes : (ℕ → Bool) → Option Index → Bool
place_passes test None = true
place_passes test (Some i) = index_passes test i

abbrev pub item_passes : (ℕ → Bool) → Item → Bool
item_passes test i = test i.name.0 && place_passes test i.index

abbrev pub declared_passes : (ℕ → Bool) → Declared → Bool
declared_passes test (declared.Plain x) = test x.0
declared_passes test (declared.Element x k) = test x.0
declared_passes test (declared.Array x n) = test x.0

abbrev pub said_passes : (ℕ → Bool) → Said → Bool
said_passes test (item i) = item_passes test i
said_passes test (numeral value) = true
said_passes test (typed value width) = is_width width
said_passes test (truth b) = true
said_passes test (negation e) = said_passes test e
said_passes test (complement e) = said_passes test e
said_passes test (operation op left right) = said_passes test left && said_passes test right

abbrev pub waiting_passes : (ℕ → Bool) → Waiting → Bool
waiting_passes test ready = true
waiting_passes test (input c x) = item_passes test c && item_passes test x
waiting_passes test (output c e) = item_passes test c && said_passes test e

abbrev pub param_passes : (ℕ → Bool) → Param → Bool
param_passes test p = declared_passes test p.declared && is_width (width_of_kind p.kind)

abbrev pub times_passes : (ℕ → Bool) → Option Times → Bool
times_passes test None = true
times_passes test (Some times) = test times.index.0

abbrev pub shape_passes : (ℕ → Bool) → Shape → Bool
shape_passes test (header name params) = test name.0 && list_all (param_passes test) params
shape_passes test close = true
shape_passes test skip = true
shape_passes test stop = true
shape_passes test (assign xs es) = list_all (item_passes test) xs && list_all (said_passes test) es
shape_passes test (receive c x) = item_passes test c && item_passes test x
shape_passes test (send c e) = item_passes test c && said_passes test e
shape_passes test (group g times) = times_passes test times
shape_passes test (declare k ds) = is_width (width_of_kind k) && list_all (declared_passes test) ds
shape_passes test (condition e) = said_passes test e
shape_passes test (guard e w) = said_passes test e && waiting_passes test w
shape_passes test nothing = true
