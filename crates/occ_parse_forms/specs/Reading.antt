-- What symbols are read as. Each of these readings is the inverse of a spelling.
use Rattle.std.specs.Prelude.{ℕ, zero, suc, ◌==◌, Bool, true, false, if◌then◌else◌, List, [], ◌∷◌, length, Option, Some, None, is_some}
use Rattle.std.specs.List.{list_any}
use Rattle.occ_lex.specs.occ_base.declared.event.Dir.TheVariants as dir
use Rattle.occ_lex.specs.occ_base.declared.names.Name.{Name}
use Rattle.occ_lex.specs.occ_base.declared.width.Width.{Width}
use Rattle.occ_syntax.specs.declared.expr.Op.{Op}
use Rattle.occ_syntax.specs.declared.expr.Op.TheVariants as op
use Rattle.occ_syntax.specs.declared.scope.Kind.{Kind}
use Rattle.occ_syntax.specs.declared.scope.Kind.TheVariants as kind
use Rattle.occ_lex.specs.declared.symbol.Keyword.{Keyword}
use Rattle.occ_lex.specs.declared.symbol.Keyword.TheVariants as word
use Rattle.occ_lex.specs.declared.symbol.Sign.{Sign}
use Rattle.occ_lex.specs.declared.symbol.Sign.TheVariants as sign
use Rattle.occ_lex.specs.declared.symbol.Symbol.{Symbol}
use Rattle.occ_lex.specs.declared.symbol.Symbol.TheVariants as symbol
use Rattle.occ_parse_forms.specs.declared.declaration.Front.{Front}
use Rattle.occ_parse_forms.specs.declared.form.Declared.{Declared}
use Rattle.occ_parse_forms.specs.declared.form.Declared.TheVariants as declared
use Rattle.occ_parse_forms.specs.declared.form.Group.{Group}
use Rattle.occ_parse_forms.specs.declared.form.Group.TheVariants as word_of
use Rattle.occ_parse_forms.specs.declared.form.Item.{Item}
use Rattle.occ_parse_forms.specs.declared.form.Param.{Param}
use Rattle.occ_parse_forms.specs.declared.form.Times.{Times}
use Rattle.occ_parse_forms.specs.declared.line.Start.{Start}
use Rattle.occ_parse_forms.specs.declared.line.Start.TheVariants as start
use Rattle.occ_parse_forms.specs.declared.phrase.Index.{Index}
use Rattle.occ_parse_forms.specs.declared.phrase.Index.TheVariants as index
use Rattle.occ_parse_forms.specs.Shape.{Said, item, numeral, typed, truth, negation, complement, operation, Waiting, ready, input, output, Shape, header, close, skip, stop, assign, receive, send, group, declare, condition, guard}
use Rattle.occ_parse_forms.specs.Symbols.{Found, behind, then_read, either, alone, behind_sign, behind_word, name_first, numeral_first, width_first, cut, groups_of, in_front, each}
use Rattle.occ_parse_forms.specs.Written.{op_word}

-- ---- names and elements

abbrev pub moved : Name → List Symbol → Found Index
moved name symbols =
    either (behind_word word.Plus symbols)
    (either (behind_word word.Minus symbols)
    (Some (index.Name name, symbols))
    (λ rest. then_read (numeral_first rest) (λ n. Some (index.Minus name n.0, n.1))))
    (λ rest. then_read (numeral_first rest) (λ n. Some (index.Plus name n.0, n.1)))

unfoldable pub index_first : List Symbol → Found Index
index_first symbols =
    either (numeral_first symbols) (then_read (name_first symbols) (λ n. moved n.0 n.1)) (λ n. Some (index.Number n.0, n.1))

unfoldable pub item_behind : Name → List Symbol → Found Item
item_behind name symbols =
    either (behind_sign sign.OpenIndex symbols)
    (Some (record { name = name; index = None }, symbols))
    (λ rest. then_read (index_first rest) (λ i. then_read (behind_sign sign.CloseIndex i.1) (λ rest. Some (record { name = name; index = Some i.0 }, rest))))

unfoldable pub item_of : List Symbol → Option Item
item_of symbols = then_read (name_first symbols) (λ n. then_read (item_behind n.0 n.1) (λ i. alone i.0 i.1))

-- ---- expressions

unfoldable pub width_in_brackets : List Symbol → Found Width
width_in_brackets symbols =
    then_read (behind_sign sign.Open symbols) (λ rest. then_read (width_first rest) (λ w. then_read (behind_sign sign.Close w.1) (λ rest. Some (w.0, rest))))

abbrev pub numeral_behind : ℕ → List Symbol → Found Said
numeral_behind value symbols = either (width_in_brackets symbols) (Some (numeral value, symbols)) (λ w. Some (typed value w.0, w.1))

abbrev pub truth_in : Keyword → Option Bool
truth_in word.True = Some true
truth_in word.False = Some false
truth_in other = None

-- an operand without brackets around it
unfoldable pub plain_operand : List Symbol → Found Said
plain_operand [] = None
plain_operand (symbol.Name name ∷ rest) = then_read (item_behind name rest) (λ i. Some (item i.0, i.1))
plain_operand (symbol.Numeral value ∷ rest) = numeral_behind value rest
plain_operand (symbol.Keyword k ∷ rest) = then_read (truth_in k) (λ b. Some (truth b, rest))
plain_operand (symbol.Sign s ∷ rest) = None

abbrev pub op_in_word : Keyword → Option Op
op_in_word word.Plus = Some op.Plus
op_in_word word.Minus = Some op.Minus
op_in_word word.And = Some op.And
op_in_word word.Or = Some op.Or
op_in_word other = None

abbrev pub op_in_sign : Sign → Option Op
op_in_sign sign.BitAnd = Some op.BitAnd
op_in_sign sign.BitOr = Some op.BitOr
op_in_sign sign.BitXor = Some op.BitXor
op_in_sign sign.Equal = Some op.Equal
op_in_sign sign.Differ = Some op.Differ
op_in_sign sign.Less = Some op.Less
op_in_sign sign.Greater = Some op.Greater
op_in_sign sign.AtMost = Some op.AtMost
op_in_sign sign.AtLeast = Some op.AtLeast
op_in_sign other = None

abbrev pub op_in : Symbol → Option Op
op_in (symbol.Keyword k) = op_in_word k
op_in (symbol.Sign s) = op_in_sign s
op_in (symbol.Name name) = None
op_in (symbol.Numeral value) = None

abbrev pub op_first : List Symbol → Found Op
op_first [] = None
op_first (s ∷ rest) = then_read (op_in s) (λ o. Some (o, rest))

-- more than two operands may stand with AND, and with OR
abbrev pub is_chained : Op → Bool
is_chained op.And = true
is_chained op.Or = true
is_chained other = false

-- further operands of a chain, at most so many
unfoldable pub further : (List Symbol → Found Said) → Op → ℕ → Said → List Symbol → Found Said
further operand o zero left symbols = Some (left, symbols)
further operand o (suc most) left symbols =
    either (behind (op_word o) symbols) (Some (left, symbols)) (λ rest. then_read (operand rest) (λ f. further operand o most (operation o left f.0) f.1))

-- what stands behind a left operand
unfoldable pub operated : (List Symbol → Found Said) → Said → List Symbol → Found Said
operated operand left symbols =
    either (op_first symbols) (Some (left, symbols)) (λ o. then_read (operand o.1) (λ f.
    if is_chained o.0 then further operand o.0 (length f.1) (operation o.0 left f.0) f.1 else Some (operation o.0 left f.0, f.1)))

unfoldable pub expression_by : (List Symbol → Found Said) → List Symbol → Found Said
expression_by operand symbols =
    either (behind_word word.Not symbols)
    (either (behind_sign sign.Flip symbols)
    (then_read (operand symbols) (λ f. operated operand f.0 f.1))
    (λ rest. then_read (operand rest) (λ f. Some (complement f.0, f.1))))
    (λ rest. then_read (operand rest) (λ f. Some (negation f.0, f.1)))

unfoldable pub operand_with : (List Symbol → Found Said) → List Symbol → Found Said
operand_with inside symbols =
    either (behind_sign sign.Open symbols) (plain_operand symbols)
    (λ rest. then_read (inside rest) (λ f. then_read (behind_sign sign.Close f.1) (λ rest. Some (f.0, rest))))

-- an operand in which brackets stand so deep at most
unfoldable pub operand_within : ℕ → List Symbol → Found Said
operand_within zero symbols = operand_with (λ rest. None) symbols
operand_within (suc depth) symbols = operand_with (expression_by (operand_within depth)) symbols

unfoldable pub expression_of : List Symbol → Option Said
expression_of symbols = then_read (expression_by (operand_within (length symbols)) symbols) (λ f. alone f.0 f.1)

-- ---- declarations and parameters

abbrev pub front_behind : Option ℕ → List Symbol → Found Front
front_behind count symbols =
    either (behind_word word.Chan symbols)
    (then_read (width_first symbols) (λ w. Some (record { count = count; is_channel = false; width = w.0 }, w.1)))
    (λ rest. then_read (behind_word word.Of rest) (λ rest. then_read (width_first rest) (λ w. Some (record { count = count; is_channel = true; width = w.0 }, w.1))))

unfoldable pub front_first : List Symbol → Found Front
front_first symbols =
    either (behind_sign sign.OpenIndex symbols) (front_behind None symbols)
    (λ rest. then_read (numeral_first rest) (λ n. then_read (behind_sign sign.CloseIndex n.1) (λ rest. if n.0 == 0 then None else front_behind (Some n.0) rest)))

abbrev pub counted : Option ℕ → Name → Declared
counted None name = declared.Plain name
counted (Some count) name = declared.Array name count

abbrev pub element_behind : Option ℕ → Name → List Symbol → Found Declared
element_behind (Some count) name symbols = None
element_behind None name symbols =
    then_read (numeral_first symbols) (λ n. then_read (behind_sign sign.CloseIndex n.1) (λ rest. Some (declared.Element name n.0, rest)))

unfoldable pub declared_first : Option ℕ → List Symbol → Found Declared
declared_first count symbols =
    then_read (name_first symbols) (λ n. either (behind_sign sign.OpenIndex n.1) (Some (counted count n.0, n.1)) (λ rest. element_behind count n.0 rest))

unfoldable pub declared_of : Option ℕ → List Symbol → Option Declared
declared_of count symbols = then_read (declared_first count symbols) (λ d. alone d.0 d.1)

-- the kind of a parameter, by what stands behind it
abbrev pub channel_of : Width → List Symbol → Option Kind
channel_of width symbols =
    either (behind_sign sign.Query symbols)
    (then_read (behind_sign sign.Bang symbols) (λ rest. alone (kind.Chan width (Some dir.Output)) rest))
    (λ rest. alone (kind.Chan width (Some dir.Input)) rest)

unfoldable pub kind_of : Front → List Symbol → Option Kind
kind_of front symbols = if front.is_channel then channel_of front.width symbols else alone (kind.Var front.width) symbols

unfoldable pub param_with : Front → List Symbol → Option Param
param_with front symbols =
    then_read (declared_first front.count symbols) (λ d. then_read (kind_of front d.1) (λ k. Some (record { declared = d.0; kind = k })))

-- a parameter and its front, where the one before it had that front
unfoldable pub param_of : Option Front → List Symbol → Option (Front × Param)
param_of before symbols =
    either (front_first symbols)
    (then_read before (λ front. then_read (param_with front symbols) (λ p. Some (front, p))))
    (λ f. then_read (param_with f.0 f.1) (λ p. Some (f.0, p)))

abbrev pub params_from : Option Front → List (List Symbol) → Option (List Param)
params_from before [] = Some []
params_from before (g ∷ groups) = then_read (param_of before g) (λ p. in_front (p.1 ∷ []) (params_from (Some p.0) groups))

abbrev pub params_of : List Symbol → Option (List Param)
params_of [] = Some []
params_of (s ∷ symbols) = params_from None (groups_of (s ∷ symbols))

abbrev pub declared_kind : Front → Kind
declared_kind front = if front.is_channel then kind.Chan front.width None else kind.Var front.width

unfoldable pub declaration_of : List Symbol → Option (Kind × List Declared)
declaration_of symbols =
    then_read (front_first symbols) (λ f. then_read (cut sign.Colon f.1) (λ parts. then_read (alone parts.0 parts.1) (λ names.
    then_read (each (declared_of f.0.count) (groups_of names)) (λ ds. Some (declared_kind f.0, ds)))))

unfoldable pub header_of : List Symbol → Option (Name × List Param)
header_of symbols =
    then_read (name_first symbols) (λ n. then_read (behind_sign sign.Open n.1) (λ rest. then_read (cut sign.Close rest) (λ parts.
    then_read (alone parts.0 parts.1) (λ inside. then_read (params_of inside) (λ params. Some (n.0, params))))))

-- ---- the other lines

-- whether another item stands without an index and has that item's name
abbrev pub names_again : Item → Item → Bool
names_again i other = if is_some other.index then false else i.name.0 == other.name.0

-- whether an item without an index stands among others
abbrev pub stands_among : Item → List Item → Bool
stands_among i items = if is_some i.index then false else list_any (names_again i) items

abbrev pub are_distinct : List Item → Bool
are_distinct [] = true
are_distinct (i ∷ items) = if stands_among i items then false else are_distinct items

unfoldable pub assignment_of : List Symbol → List Symbol → Option (List Item × List Said)
assignment_of left right =
    then_read (each item_of (groups_of left)) (λ items. if are_distinct items
    then then_read (each expression_of (groups_of right)) (λ values. if length items == length values then Some (items, values) else None)
    else None)

unfoldable pub input_of : List Symbol → List Symbol → Option (Item × Item)
input_of left right = then_read (item_of left) (λ chan. then_read (item_of right) (λ var. Some (chan, var)))

unfoldable pub output_of : List Symbol → List Symbol → Option (Item × Said)
output_of left right = then_read (item_of left) (λ chan. then_read (expression_of right) (λ value. Some (chan, value)))

-- what stands behind the `&` of a guard
unfoldable pub waiting_of : List Symbol → Option Waiting
waiting_of symbols =
    either (behind_word word.Skip symbols)
    (either (cut sign.Query symbols)
    (then_read (cut sign.Bang symbols) (λ parts. then_read (output_of parts.0 parts.1) (λ o. Some (output o.0 o.1))))
    (λ parts. then_read (input_of parts.0 parts.1) (λ i. Some (input i.0 i.1))))
    (λ rest. alone ready rest)

unfoldable pub guard_of : List Symbol → List Symbol → Option (Said × Waiting)
guard_of left right = then_read (expression_of left) (λ c. then_read (waiting_of right) (λ w. Some (c, w)))

-- a line that begins with no word of its own
unfoldable pub statement_of : List Symbol → Option Shape
statement_of symbols =
    either (cut sign.Becomes symbols)
    (either (cut sign.Ampersand symbols)
    (either (cut sign.Query symbols)
    (either (cut sign.Bang symbols)
    (then_read (expression_of symbols) (λ c. Some (condition c)))
    (λ parts. then_read (output_of parts.0 parts.1) (λ o. Some (send o.0 o.1))))
    (λ parts. then_read (input_of parts.0 parts.1) (λ i. Some (receive i.0 i.1))))
    (λ parts. then_read (guard_of parts.0 parts.1) (λ g. Some (guard g.0 g.1))))
    (λ parts. then_read (assignment_of parts.0 parts.1) (λ a. Some (assign a.0 a.1)))

unfoldable pub times_of : List Symbol → Option Times
times_of symbols =
    then_read (name_first symbols) (λ n. then_read (behind_sign sign.Equal n.1) (λ rest. then_read (numeral_first rest) (λ b.
    then_read (behind_word word.For b.1) (λ rest. then_read (numeral_first rest) (λ c. alone (record { index = n.0; base = b.0; count = c.0 }) c.1)))))

abbrev pub group_of : Group → List Symbol → Option Shape
group_of g [] = Some (group g None)
group_of g (s ∷ rest) = then_read (times_of (s ∷ rest)) (λ times. Some (group g (Some times)))

-- how a line goes on, by its first symbol
abbrev pub start_in_word : Keyword → Start
start_in_word word.Proc = start.Header
start_in_word word.Skip = start.Skip
start_in_word word.Stop = start.Stop
start_in_word word.Seq = start.Group word_of.Seq
start_in_word word.Par = start.Group word_of.Par
start_in_word word.If = start.Group word_of.If
start_in_word word.Alt = start.Group word_of.Alt
start_in_word word.Chan = start.Declaration
start_in_word (word.Width width) = start.Declaration
start_in_word other = start.Other

abbrev pub start_in_sign : Sign → Start
start_in_sign sign.Colon = start.Close
start_in_sign sign.OpenIndex = start.Declaration
start_in_sign other = start.Other

abbrev pub start_of : Symbol → Start
start_of (symbol.Keyword k) = start_in_word k
start_of (symbol.Sign s) = start_in_sign s
start_of (symbol.Name name) = start.Other
start_of (symbol.Numeral value) = start.Other

abbrev pub started : Start → Symbol → List Symbol → Option Shape
started start.Header s rest = then_read (header_of rest) (λ h. Some (header h.0 h.1))
started start.Close s rest = alone close rest
started start.Skip s rest = alone skip rest
started start.Stop s rest = alone stop rest
started (start.Group g) s rest = group_of g rest
started start.Declaration s rest = then_read (declaration_of (s ∷ rest)) (λ d. Some (declare d.0 d.1))
started start.Other s rest = statement_of (s ∷ rest)

abbrev pub form_of : List Symbol → Option Shape
form_of [] = None
form_of (s ∷ rest) = started (start_of s) s rest
