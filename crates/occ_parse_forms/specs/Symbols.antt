-- Reading symbols from the front of a list. Each reading gives what it finds and the symbols behind it.
use Rattle.std.specs.Prelude.{ℕ, Bool, if◌then◌else◌, List, [], ◌∷◌, ◌++◌, Option, Some, None}
use Rattle.occ_lex.specs.occ_base.declared.names.Name.{Name}
use Rattle.occ_lex.specs.occ_base.declared.width.Width.{Width}
use Rattle.occ_lex.specs.contracts.symbol.SymbolPartialEq.TheImpl as symbol_eq
use Rattle.occ_lex.specs.declared.symbol.Keyword.{Keyword}
use Rattle.occ_lex.specs.declared.symbol.Keyword.TheVariants as word
use Rattle.occ_lex.specs.declared.symbol.Sign.{Sign}
use Rattle.occ_lex.specs.declared.symbol.Sign.TheVariants as sign
use Rattle.occ_lex.specs.declared.symbol.Symbol.{Symbol}
use Rattle.occ_lex.specs.declared.symbol.Symbol.TheVariants as symbol

-- what is found, and the symbols behind it
abbrev pub Found : Type 0 → Type 0
Found A = Option (A × List Symbol)

abbrev pub then_read : {A B : Type 0} → Option A → (A → Option B) → Option B
then_read None next = None
then_read (Some x) next = next x

abbrev pub either : {A B : Type 0} → Option A → B → (A → B) → B
either None other next = other
either (Some x) other next = next x

-- what is found, where nothing stands behind it
abbrev pub alone : {A : Type 0} → A → List Symbol → Option A
alone x [] = Some x
alone x (s ∷ rest) = None

abbrev pub same_symbol : Symbol → Symbol → Bool
same_symbol a b = (symbol_eq.ghosts).eq a b

-- the symbols behind one, where it comes first
abbrev pub behind : Symbol → List Symbol → Option (List Symbol)
behind wanted [] = None
behind wanted (s ∷ rest) = if same_symbol s wanted then Some rest else None

abbrev pub behind_sign : Sign → List Symbol → Option (List Symbol)
behind_sign s symbols = behind (symbol.Sign s) symbols

abbrev pub behind_word : Keyword → List Symbol → Option (List Symbol)
behind_word k symbols = behind (symbol.Keyword k) symbols

abbrev pub name_first : List Symbol → Found Name
name_first [] = None
name_first (symbol.Name name ∷ rest) = Some (name, rest)
name_first (symbol.Numeral value ∷ rest) = None
name_first (symbol.Keyword k ∷ rest) = None
name_first (symbol.Sign s ∷ rest) = None

abbrev pub numeral_first : List Symbol → Found ℕ
numeral_first [] = None
numeral_first (symbol.Name name ∷ rest) = None
numeral_first (symbol.Numeral value ∷ rest) = Some (value, rest)
numeral_first (symbol.Keyword k ∷ rest) = None
numeral_first (symbol.Sign s ∷ rest) = None

abbrev pub width_in : Keyword → Option Width
width_in (word.Width width) = Some width
width_in other = None

abbrev pub width_first : List Symbol → Found Width
width_first [] = None
width_first (symbol.Name name ∷ rest) = None
width_first (symbol.Numeral value ∷ rest) = None
width_first (symbol.Keyword k ∷ rest) = then_read (width_in k) (λ width. Some (width, rest))
width_first (symbol.Sign s ∷ rest) = None

-- the symbols in front of the first of a sign, and those behind it
unfoldable pub cut : Sign → List Symbol → Option (List Symbol × List Symbol)
cut at [] = None
cut at (s ∷ rest) = if same_symbol s (symbol.Sign at) then Some ([], rest) else then_read (cut at rest) (λ parts. Some (s ∷ parts.0, parts.1))

-- the groups between symbols of a test; the first begins with the symbols in front
unfoldable pub split : (Symbol → Bool) → List Symbol → List Symbol → List (List Symbol)
split test front [] = front ∷ []
split test front (s ∷ rest) = if test s then front ∷ split test [] rest else split test (front ++ s ∷ []) rest

abbrev pub is_comma : Symbol → Bool
is_comma s = same_symbol s (symbol.Sign sign.Comma)

abbrev pub groups_of : List Symbol → List (List Symbol)
groups_of symbols = split is_comma [] symbols

-- what each group reads as, where each reads as something
abbrev pub in_front : {A : Type 0} → List A → Option (List A) → Option (List A)
in_front xs None = None
in_front xs (Some ys) = Some (xs ++ ys)

abbrev pub each : {A : Type 0} → (List Symbol → Option A) → List (List Symbol) → Option (List A)
each read [] = Some []
each read (group ∷ groups) = then_read (read group) (λ x. in_front (x ∷ []) (each read groups))
