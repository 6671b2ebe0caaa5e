-- The forms of lines, by how each is spelled.
use Rattle.std.specs.Prelude.{ℕ, nat_eq, if◌then◌else◌, is_some, ◌⊎◌, ◌≡◌, ◌<◌, List, [], ◌∷◌, ◌++◌, length, map, Option, Some, None}
use Rattle.std.specs.List.{AllByRecursion, IsDistinct}
use Rattle.occ_lex.specs.occ_base.declared.event.Dir.TheVariants as dir
use Rattle.occ_lex.specs.occ_base.declared.names.Name.{Name}
use Rattle.occ_syntax.specs.declared.scope.Kind.{Kind}
use Rattle.occ_syntax.specs.declared.scope.Kind.TheVariants as kind
use Rattle.occ_lex.specs.declared.symbol.Keyword.TheVariants as word
use Rattle.occ_lex.specs.declared.symbol.Sign.TheVariants as sign
use Rattle.occ_lex.specs.declared.symbol.Symbol.{Symbol}
use Rattle.occ_lex.specs.declared.symbol.Symbol.TheVariants as symbol
use Rattle.occ_parse_forms.specs.declared.form.Declared.{Declared}
use Rattle.occ_parse_forms.specs.declared.form.Declared.TheVariants as declared
use Rattle.occ_parse_forms.specs.declared.form.Group.{Group}
use Rattle.occ_parse_forms.specs.declared.form.Group.TheVariants as word_of
use Rattle.occ_parse_forms.specs.declared.form.Item.{Item}
use Rattle.occ_parse_forms.specs.declared.form.Param.{Param}
use Rattle.occ_parse_forms.specs.declared.form.Times.{Times}
use Rattle.occ_parse_forms.specs.Shape.{Said, Waiting, ready, input, output, Shape, header, close, skip, stop, assign, receive, send, group, declare, condition, guard, nothing}
use Rattle.occ_parse_forms.specs.Written.{Written, words, meant, item_words}

abbrev pub comma : Symbol
comma = symbol.Sign sign.Comma

-- lists of symbols with commas between them
abbrev pub joined : List Symbol → List (List Symbol) → List Symbol
joined first [] = first
joined first (next ∷ others) = first ++ comma ∷ joined next others

abbrev pub list_words : {A : Type 0} → (A → List Symbol) → List A → List Symbol
list_words spell [] = []
list_words spell (x ∷ xs) = joined (spell x) (map spell xs)

-- ---- declarations and parameters

-- the count that stands in front of an array's width
abbrev pub count_words : Declared → List Symbol
count_words (declared.Plain name) = []
count_words (declared.Element name place) = []
count_words (declared.Array name count) = symbol.Sign sign.OpenIndex ∷ symbol.Numeral count ∷ symbol.Sign sign.CloseIndex ∷ []

abbrev pub kind_words : Kind → List Symbol
kind_words (kind.Var width) = symbol.Keyword (word.Width width) ∷ []
kind_words (kind.Chan width mark) = symbol.Keyword word.Chan ∷ symbol.Keyword word.Of ∷ symbol.Keyword (word.Width width) ∷ []

-- what stands in front of a declared name: its count, where it has one, and the words of its kind
abbrev pub front_words : Declared → Kind → List Symbol
front_words d k = count_words d ++ kind_words k

abbrev pub declared_words : Declared → List Symbol
declared_words (declared.Plain name) = symbol.Name name ∷ []
declared_words (declared.Element name place) =
    symbol.Name name ∷ symbol.Sign sign.OpenIndex ∷ symbol.Numeral place ∷ symbol.Sign sign.CloseIndex ∷ []
declared_words (declared.Array name count) = symbol.Name name ∷ []

abbrev pub mark_words : Kind → List Symbol
mark_words (kind.Var width) = []
mark_words (kind.Chan width None) = []
mark_words (kind.Chan width (Some dir.Input)) = symbol.Sign sign.Query ∷ []
mark_words (kind.Chan width (Some dir.Output)) = symbol.Sign sign.Bang ∷ []

-- an array has one element or more
abbrev pub HasCount : Declared → Type 0
HasCount (declared.Plain name) = Unit {0}
HasCount (declared.Element name place) = Unit {0}
HasCount (declared.Array name count) = 0 < count

-- a channel that is a parameter has a mark, and one that is declared has none
abbrev pub IsMarked : Kind → Type 0
IsMarked (kind.Var width) = Unit {0}
IsMarked (kind.Chan width None) = ⊥
IsMarked (kind.Chan width (Some mark)) = Unit {0}

abbrev pub IsUnmarked : Kind → Type 0
IsUnmarked (kind.Var width) = Unit {0}
IsUnmarked (kind.Chan width None) = Unit {0}
IsUnmarked (kind.Chan width (Some mark)) = ⊥

abbrev pub tail_words : Param → List Symbol
tail_words p = declared_words p.declared ++ mark_words p.kind

abbrev pub param_front : Param → List Symbol
param_front p = front_words p.declared p.kind

-- a parameter behind one with that front: whole, or without its front where it is the same one
abbrev pub IsParam : Option (List Symbol) → List Symbol → Param → Type 0
IsParam before symbols p = HasCount p.declared × IsMarked p.kind
    × ((symbols ≡ param_front p ++ tail_words p) ⊎ ((before ≡ Some (param_front p)) × (symbols ≡ tail_words p)))

abbrev pub AreParams : Option (List Symbol) → List (List Symbol) → List Param → Type 0
AreParams before [] [] = Unit {0}
AreParams before [] (p ∷ ps) = ⊥
AreParams before (symbols ∷ groups) [] = ⊥
AreParams before (symbols ∷ groups) (p ∷ ps) = IsParam before symbols p × AreParams (Some (param_front p)) groups ps

-- all that a line declares has one front
abbrev pub IsDeclaration : List Symbol → Kind → List Declared → Type 0
IsDeclaration symbols k [] = ⊥
IsDeclaration symbols k (d ∷ ds) = IsUnmarked k × HasCount d × AllByRecursion (λ e. front_words e k ≡ front_words d k) ds
    × (symbols ≡ front_words d k ++ (list_words declared_words (d ∷ ds) ++ symbol.Sign sign.Colon ∷ []))

-- ---- the other lines

-- the names that stand without an index
abbrev pub plain_names : List Item → List ℕ
plain_names [] = []
plain_names (i ∷ items) = if is_some i.index then plain_names items else i.name.0 ∷ plain_names items

abbrev pub IsWritten : List Symbol → Said → Type 0
IsWritten symbols said = (w : Written) × (symbols ≡ words w) × (said ≡ meant w)

abbrev pub IsAssignment : List Symbol → List Item → List Said → Type 0
IsAssignment symbols left right = (ws : List Written) × (right ≡ map meant ws) × (length left ≡ length right) × (0 < length left)
    × IsDistinct nat_eq (plain_names left)
    × (symbols ≡ list_words item_words left ++ symbol.Sign sign.Becomes ∷ list_words words ws)

abbrev pub IsInput : List Symbol → Item → Item → Type 0
IsInput symbols chan var = symbols ≡ item_words chan ++ symbol.Sign sign.Query ∷ item_words var

abbrev pub IsOutput : List Symbol → Item → Said → Type 0
IsOutput symbols chan value = (w : Written) × (symbols ≡ item_words chan ++ symbol.Sign sign.Bang ∷ words w) × (value ≡ meant w)

abbrev pub IsWaiting : List Symbol → Waiting → Type 0
IsWaiting symbols ready = symbols ≡ symbol.Keyword word.Skip ∷ []
IsWaiting symbols (input chan var) = IsInput symbols chan var
IsWaiting symbols (output chan value) = IsOutput symbols chan value

abbrev pub IsGuard : List Symbol → Said → Waiting → Type 0
IsGuard symbols c w = (front back : List Symbol) × (symbols ≡ front ++ symbol.Sign sign.Ampersand ∷ back) × IsWritten front c × IsWaiting back w

abbrev pub group_word : Group → Symbol
group_word word_of.Seq = symbol.Keyword word.Seq
group_word word_of.Par = symbol.Keyword word.Par
group_word word_of.If = symbol.Keyword word.If
group_word word_of.Alt = symbol.Keyword word.Alt

abbrev pub times_words : Option Times → List Symbol
times_words None = []
times_words (Some times) =
    symbol.Name times.index ∷ symbol.Sign sign.Equal ∷ symbol.Numeral times.base ∷ symbol.Keyword word.For ∷ symbol.Numeral times.count ∷ []

abbrev pub IsHeader : List Symbol → Name → List Param → Type 0
IsHeader symbols name params = (groups : List (List Symbol)) × AreParams None groups params
    × (symbols ≡ symbol.Keyword word.Proc ∷ symbol.Name name ∷ symbol.Sign sign.Open ∷ (list_words (λ g. g) groups ++ symbol.Sign sign.Close ∷ []))

-- the line says that, where it isn't nothing
abbrev pub Says : List Symbol → Shape → Type 0
Says symbols (header name params) = IsHeader symbols name params
Says symbols close = symbols ≡ symbol.Sign sign.Colon ∷ []
Says symbols skip = symbols ≡ symbol.Keyword word.Skip ∷ []
Says symbols stop = symbols ≡ symbol.Keyword word.Stop ∷ []
Says symbols (assign left right) = IsAssignment symbols left right
Says symbols (receive chan var) = IsInput symbols chan var
Says symbols (send chan value) = IsOutput symbols chan value
Says symbols (group g times) = symbols ≡ group_word g ∷ times_words times
Says symbols (declare k ds) = IsDeclaration symbols k ds
Says symbols (condition c) = IsWritten symbols c
Says symbols (guard c w) = IsGuard symbols c w
Says symbols nothing = ⊥

-- The form of a line: what it says, and nothing where the symbols are spelled as none of the others.
abbrev pub IsForm : List Symbol → Shape → Type 0
IsForm symbols nothing = (s : Shape) → Says symbols s → ⊥
IsForm symbols s = Says symbols s
