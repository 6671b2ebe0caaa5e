-- The lines of a normal text, and what each is read as.
use Rattle.std.specs.Prelude.{ℕ, ◌+◌, ◌*◌, ◌-◌, ◌^◌, ◌≡◌, ◌<◌, ◌==◌, Bool, true, false, not, ◌&&◌, nat_lt, nat_le, if◌then◌else◌, List, [], ◌∷◌, ◌++◌, length, slice_get, unwrap_or, Option, Some, None, codes}
use Rattle.std.specs.List.{list_any, AllByRecursion}
use Rattle.std.specs.Str.{bytes_eq}
use Rattle.occ_lex.specs.occ_base.declared.event.Dir.TheVariants.{Input, Output}
use Rattle.occ_lex.specs.occ_base.declared.event.Event.{Event}
use Rattle.occ_lex.specs.occ_base.declared.names.Name.{Name}
use Rattle.occ_lex.specs.occ_base.declared.width.Width.{Width}
use Rattle.occ_lex.specs.occ_base.declared.width.Width.TheVariants.{Bool as Truth, Word}
use Rattle.occ_lex.specs.occ_base.Width.{bits_of, IsWidth}
use Rattle.occ_lex.specs.declared.token.TokenKind.{TokenKind}
use Rattle.occ_lex.specs.declared.token.TokenKind.TheVariants as token
use Rattle.occ_lex.specs.Spelling.{kind_of}
use Rattle.occ_syntax.specs.declared.scope.Kind.{Kind}
use Rattle.occ_syntax.specs.declared.scope.Kind.TheVariants.{Var, Chan}
use Rattle.occ_syntax.specs.Counts.{bits_of_kind, bits_of_scope}
use Rattle.occ_behaviour.specs.Places.{place_in}
use Rattle.occ_behaviour.specs.Texts.{mark_text}
use Rattle.occ_nform_table.specs.Words.{then_read, or_else, behind, before, between, cut, items_of, each, number_of, small_number_of}

-- ---- parameters

abbrev pub digit_width : List ℕ → Option Width
digit_width [] = None
digit_width (digit ∷ []) = if nat_le 49 digit && nat_le digit 56 then Some (Word (digit - 48)) else None
digit_width (digit ∷ next ∷ others) = None

-- a width's word: BOOL, or WORD and a digit from 1 to 8
unfoldable pub width_of : List ℕ → Option Width
width_of word = if bytes_eq word (codes "BOOL") then Some Truth else then_read (behind (codes "WORD") word) digit_width

abbrev pub is_name_kind : Option TokenKind → Bool
is_name_kind (Some token.Name) = true
is_name_kind (Some token.Word) = false
is_name_kind (Some token.Numeral) = false
is_name_kind (Some token.Sign) = false
is_name_kind None = false

-- a name as a program can have it: no reserved word, and at most 32 characters
unfoldable pub is_plain : List ℕ → Bool
is_plain text = nat_le (length text) 32 && is_name_kind (kind_of text)

abbrev pub is_place : Option ℕ → Bool
is_place None = false
is_place (Some place) = nat_le place 255

-- the index of an element behind its opening bracket (91): a number of at most 255, and the closing bracket (93)
unfoldable pub closes : List ℕ → Bool
closes text = is_place (then_read (before (93 ∷ []) text) small_number_of)

abbrev pub is_element : Option (List ℕ × List ℕ) → List ℕ → Bool
is_element None text = is_plain text
is_element (Some parts) text = is_plain parts.0 && closes parts.1

-- the name of a parameter: plain, or that of an element
unfoldable pub is_param_name : List ℕ → Bool
is_param_name text = is_element (cut 91 text) text

abbrev pub named : List ℕ → Kind → Option (List ℕ × Kind)
named text kind = if is_param_name text then Some (text, kind) else None

-- the name and the kind of a channel behind its width: its mark stands last
unfoldable pub channel_of : Width → List ℕ → Option (List ℕ × Kind)
channel_of width text = or_else
    (then_read (before (mark_text Input) text) (λ name. named name (Chan width (Some Input))))
    (then_read (before (mark_text Output) text) (λ name. named name (Chan width (Some Output))))

unfoldable pub variable_of : Width → List ℕ → Option (List ℕ × Kind)
variable_of width text = named text (Var width)

-- a width's word, a space, and what follows by the width
unfoldable pub behind_width : (Width → List ℕ → Option (List ℕ × Kind)) → List ℕ → Option (List ℕ × Kind)
behind_width next text = then_read (cut 32 text) (λ parts. then_read (width_of parts.0) (λ width. next width parts.1))

-- a parameter with its kind
unfoldable pub param_of : List ℕ → Option (List ℕ × Kind)
param_of line = then_read (between (codes "PARAM ") (codes "\n") line) (λ text. or_else
    (then_read (behind (codes "CHAN OF ") text) (behind_width channel_of))
    (behind_width variable_of text))

-- the text of a name
abbrev pub text_of : List (List ℕ) → Name → List ℕ
text_of names name = unwrap_or (slice_get names name.0) []

-- the width is one that a program can name
abbrev pub HasWidth : Kind → Type 0
HasWidth (Var width) = IsWidth width
HasWidth (Chan width dir) = IsWidth width

abbrev pub HaveWidths : List (Name × Kind) → Type 0
HaveWidths params = AllByRecursion (λ (p : Name × Kind). HasWidth p.1) params

-- each parameter is a name of the table
abbrev pub AreNamed : List (List ℕ) → List (Name × Kind) → Type 0
AreNamed names params = AllByRecursion (λ (p : Name × Kind). p.0.0 < length names) params

-- a parameter can follow others: they are fewer than 16, none has its name, and together they have at most 16 bits
unfoldable pub can_follow : List (List ℕ) → List (Name × Kind) → List ℕ × Kind → Bool
can_follow names params p = nat_lt (length params) 16
    && not (list_any (λ q. bytes_eq p.0 (text_of names q.0)) params)
    && nat_le (bits_of_scope params + bits_of_kind p.1) 16

unfoldable pub next_param : List (List ℕ) → List (Name × Kind) → List ℕ → Option (List ℕ × Kind)
next_param names params line = then_read (param_of line) (λ p. if can_follow names params p then Some p else None)

-- ---- values, states and events

-- a value of the width
abbrev pub fitting : Width → ℕ → Option ℕ
fitting width value = if nat_lt value (2 ^ bits_of width) then Some value else None

-- each variable of the interface in order with its value, where there are as many values as variables, each in its width
unfoldable pub paired : List (Name × Kind) → List ℕ → Option (List (Name × ℕ))
paired [] [] = Some []
paired [] (v ∷ vs) = None
paired ((name, Chan width dir) ∷ params) vs = paired params vs
paired ((name, Var width) ∷ params) [] = None
paired ((name, Var width) ∷ params) (v ∷ vs) =
    then_read (fitting width v) (λ value. then_read (paired params vs) (λ state. Some ((name, value) ∷ state)))

-- the state whose values stand in brackets
unfoldable pub state_of : List (Name × Kind) → List ℕ → Option (List (Name × ℕ))
state_of params text = then_read (each small_number_of (items_of text)) (paired params)

-- the event on a channel that a word is: the channel's name, its mark, and a value of its width
unfoldable pub event_on : List ℕ → Name → Kind → List ℕ → Option Event
event_on text name (Var width) word = None
event_on text name (Chan width None) word = None
event_on text name (Chan width (Some dir)) word =
    then_read (behind text word) (λ marked. then_read (behind (mark_text dir) marked) (λ numeral. then_read (small_number_of numeral) (λ number.
    then_read (fitting width number) (λ value. Some (record { chan = name; dir = dir; value = value })))))

-- the event of the interface that a word is
unfoldable pub event_of : List (List ℕ) → List (Name × Kind) → List ℕ → Option Event
event_of names [] word = None
event_of names ((name, kind) ∷ params) word = or_else (event_on (text_of names name) name kind word) (event_of names params word)

-- the items of what was read stand behind those of before, where something was
abbrev pub Adds : {A : Type 0} → List A → List A → Bool → Option (List A) → Type 0
Adds old new true (Some xs) = new ≡ old ++ xs
Adds old new true None = ⊥
Adds old new false (Some xs) = ⊥
Adds old new false None = Unit {0}

-- ---- the order of events

-- Events are ordered by their channel's place among the parameters and then by value, which is below 256.
abbrev pub rank : List (Name × Kind) → Event → ℕ
rank params e = 256 * place_in params e.chan + e.value

-- the ranks increase strictly, and none is below the floor
unfoldable pub is_rising : List (Name × Kind) → ℕ → List Event → Bool
is_rising params floor [] = true
is_rising params floor (e ∷ events) = nat_le floor (rank params e) && is_rising params (rank params e + 1) events

-- the set whose events stand in braces: they increase strictly
unfoldable pub set_of : List (List ℕ) → List (Name × Kind) → List ℕ → Option (List Event)
set_of names params text = then_read (each (event_of names params) (items_of text)) (λ events. if is_rising params 0 events then Some events else None)

-- ---- the other lines

abbrev pub is_number : ℕ → Option ℕ → Bool
is_number n None = false
is_number n (Some m) = m == n

-- the line of row n
unfoldable pub is_row : ℕ → List ℕ → Bool
is_row n line = is_number n (then_read (between (codes "ROW ") (codes "\n") line) number_of)

unfoldable pub end_of : List (Name × Kind) → List ℕ → Option (List (Name × ℕ))
end_of params line = then_read (between (codes "END [") (codes "]\n") line) (state_of params)

unfoldable pub accept_of : List (List ℕ) → List (Name × Kind) → List ℕ → Option (List Event)
accept_of names params line = then_read (between (codes "ACCEPT {") (codes "}\n") line) (set_of names params)

abbrev pub below : ℕ → ℕ → Option ℕ
below n row = if nat_lt row n then Some row else None

-- an offer of row n: the row behind the event is lower
unfoldable pub offer_of : List (List ℕ) → List (Name × Kind) → ℕ → List ℕ → Option (Event × ℕ)
offer_of names params n line = then_read (between (codes "OFFER ") (codes "\n") line) (λ text. then_read (cut 32 text) (λ parts.
    then_read (event_of names params parts.0) (λ event. then_read (number_of parts.1) (λ row. then_read (below n row) (λ row. Some (event, row))))))

-- the place of a state among the states in their order, counted from 0
abbrev pub state_place : List (Name × Kind) → List (Name × ℕ) → ℕ
state_place [] state = 0
state_place ((name, Chan width dir) ∷ params) state = state_place params state
state_place ((name, Var width) ∷ params) [] = 0
state_place ((name, Var width) ∷ params) (v ∷ state) = v.1 * 2 ^ bits_of_scope params + state_place params state

-- the row that the line of the k-th state names, where there are n rows
unfoldable pub row_of_state : List (Name × Kind) → ℕ → ℕ → List ℕ → Option ℕ
row_of_state params n k line = then_read (between (codes "STATE [") (codes "\n") line) (λ text. then_read (cut 93 text) (λ parts.
    then_read (state_of params parts.0) (λ state. if state_place params state == k then then_read (behind (codes " ") parts.1) (λ numeral. then_read (number_of numeral) (below n)) else None)))
