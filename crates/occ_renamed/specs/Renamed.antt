-- Lines under other names: each name for the one that a map tells, in all that a line says.
use Rattle.std.specs.Prelude.{ℕ, List, [], ◌∷◌, map, Option, Some, None}
use Rattle.occ_replay_rules.specs.occ_base.declared.names.Name.{Name}
use Rattle.occ_replay_rules.specs.occ_syntax.declared.scope.Kind.{Kind}
use Rattle.occ_replay_rules.specs.occ_lex.declared.symbol.Symbol.{Symbol}
use Rattle.occ_replay_rules.specs.occ_lex.declared.symbol.Symbol.TheVariants as symbol
use Rattle.occ_replay_rules.specs.occ_parse_forms.declared.form.Declared.{Declared}
use Rattle.occ_replay_rules.specs.occ_parse_forms.declared.form.Declared.TheVariants as declared
use Rattle.occ_replay_rules.specs.occ_parse_forms.declared.form.Item.{Item}
use Rattle.occ_replay_rules.specs.occ_parse_forms.declared.form.Param.{Param}
use Rattle.occ_replay_rules.specs.occ_parse_forms.declared.form.Times.{Times}
use Rattle.occ_replay_rules.specs.occ_parse_forms.declared.phrase.Index.{Index}
use Rattle.occ_replay_rules.specs.occ_parse_forms.declared.phrase.Index.TheVariants as index
use Rattle.occ_replay_rules.specs.occ_parse_forms.Shape.{Said, item, numeral, typed, truth, negation, complement, operation, Waiting, ready, input, output, Shape, header, close, skip, stop, assign, receive, send, group, declare, condition, guard, nothing}
use Rattle.occ_replay_rules.specs.occ_parse_rules.declared.sort.Entry.{Entry}
use Rattle.occ_replay_rules.specs.occ_parse_rules.Forest.{Forest, no_line, and_line}
use Rattle.occ_replay_rules.specs.occ_parse_rules.Places.{Place, Sorts}

abbrev pub name_renamed : (ℕ → ℕ) → Name → Name
name_renamed f x = record { 0 = f x.0 }

-- ---- symbols

abbrev pub symbol_renamed : (ℕ → ℕ) → Symbol → Symbol
symbol_renamed f (symbol.Name x) = symbol.Name (name_renamed f x)
symbol_renamed f (symbol.Numeral value) = symbol.Numeral value
symbol_renamed f (symbol.Keyword k) = symbol.Keyword k
symbol_renamed f (symbol.Sign s) = symbol.Sign s

abbrev pub symbols_renamed : (ℕ → ℕ) → List Symbol → List Symbol
symbols_renamed f symbols = map (symbol_renamed f) symbols

-- ---- what stands on a line

abbrev pub index_renamed : (ℕ → ℕ) → Index → Index
index_renamed f (index.Number k) = index.Number k
index_renamed f (index.Name i) = index.Name (name_renamed f i)
index_renamed f (index.Plus i k) = index.Plus (name_renamed f i) k
index_renamed f (index.Minus i k) = index.Minus (name_renamed f i) k

abbrev pub indexed_renamed : (ℕ → ℕ) → Option Index → Option Index
indexed_renamed f None = None
indexed_renamed f (Some i) = Some (index_renamed f i)

abbrev pub item_renamed : (ℕ → ℕ) → Item → Item
item_renamed f i = record { name = name_renamed f i.name; index = indexed_renamed f i.index }

abbrev pub items_renamed : (ℕ → ℕ) → List Item → List Item
items_renamed f is = map (item_renamed f) is

abbrev pub said_renamed : (ℕ → ℕ) → Said → Said
said_renamed f (item i) = item (item_renamed f i)
said_renamed f (numeral value) = numeral value
said_renamed f (typed value width) = typed value width
said_renamed f (truth b) = truth b
said_renamed f (negation e) = negation (said_renamed f e)
said_renamed f (complement e) = complement (said_renamed f e)
said_renamed f (operation op left right) = operation op (said_renamed f left) (said_renamed f right)

abbrev pub all_said_renamed : (ℕ → ℕ) → List Said → List Said
all_said_renamed f es = map (said_renamed f) es

abbrev pub waits_renamed : (ℕ → ℕ) → Waiting → Waiting
waits_renamed f ready = ready
waits_renamed f (input c x) = input (item_renamed f c) (item_renamed f x)
waits_renamed f (output c e) = output (item_renamed f c) (said_renamed f e)

abbrev pub declared_renamed : (ℕ → ℕ) → Declared → Declared
declared_renamed f (declared.Plain x) = declared.Plain (name_renamed f x)
declared_renamed f (declared.Element x k) = declared.Element (name_renamed f x) k
declared_renamed f (declared.Array x n) = declared.Array (name_renamed f x) n

abbrev pub all_declared_renamed : (ℕ → ℕ) → List Declared → List Declared
all_declared_renamed f ds = map (declared_renamed f) ds

abbrev pub param_renamed : (ℕ → ℕ) → Param → Param
param_renamed f p = record { declared = declared_renamed f p.declared; kind = p.kind }

abbrev pub params_renamed : (ℕ → ℕ) → List Param → List Param
params_renamed f ps = map (param_renamed f) ps

abbrev pub times_renamed : (ℕ → ℕ) → Option Times → Option Times
times_renamed f None = None
times_renamed f (Some times) = Some (record { index = name_renamed f times.index; base = times.base; count = times.count })

-- ---- lines

abbrev pub shape_renamed : (ℕ → ℕ) → Shape → Shape
shape_renamed f (header name params) = header (name_renamed f name) (params_renamed f params)
shape_renamed f close = close
shape_renamed f skip = skip
shape_renamed f stop = stop
shape_renamed f (assign xs es) = assign (items_renamed f xs) (all_said_renamed f es)
shape_renamed f (receive c x) = receive (item_renamed f c) (item_renamed f x)
shape_renamed f (send c e) = send (item_renamed f c) (said_renamed f e)
shape_renamed f (group g times) = group g (times_renamed f times)
shape_renamed f (declare kind ds) = declare kind (all_declared_renamed f ds)
shape_renamed f (condition e) = condition (said_renamed f e)
shape_renamed f (guard e w) = guard (said_renamed f e) (waits_renamed f w)
shape_renamed f nothing = nothing

abbrev pub forest_renamed : (ℕ → ℕ) → Forest → Forest
forest_renamed f no_line = no_line
forest_renamed f (and_line number s below rest) = and_line number (shape_renamed f s) (forest_renamed f below) (forest_renamed f rest)

-- ---- scopes, and what lines stand for

abbrev pub entry_renamed : (ℕ → ℕ) → Entry → Entry
entry_renamed f entry = record { declared = declared_renamed f entry.declared; sort = entry.sort }

abbrev pub sorts_renamed : (ℕ → ℕ) → Sorts → Sorts
sorts_renamed f Γ = map (entry_renamed f) Γ

abbrev pub place_renamed : (ℕ → ℕ) → Place → Place
place_renamed f p = record { name = f p.name; element = p.element }

abbrev pub places_renamed : (ℕ → ℕ) → List Place → List Place
places_renamed f ps = map (place_renamed f) ps

-- names with their kinds
abbrev pub kinds_renamed : (ℕ → ℕ) → List (Name × Kind) → List (Name × Kind)
kinds_renamed f [] = []
kinds_renamed f (d ∷ ds) = (name_renamed f d.0, d.1) ∷ kinds_renamed f ds
