-- The numerals of declarations are small.
use Rattle.std.proofs.Common.{◌≡◌, Bool, true, nat_lt, List, [], ◌∷◌, ◌++◌, map, Option, Some, None, refl, sym, subst, ◌∙◌, ◌&&◌, inl, inr}
use Rattle.std.specs.List.{AllByRecursion, list_all}
use Rattle.std.proofs.lemmas.Bool.{and_parts, and_from}
use Rattle.std.proofs.lemmas.List.Folds.{list_all-append}
use Rattle.occ_parse_rules.specs.occ_lex.declared.symbol.Keyword.TheVariants as word
use Rattle.occ_parse_rules.specs.occ_lex.declared.symbol.Sign.TheVariants as sign
use Rattle.occ_parse_rules.specs.occ_lex.declared.symbol.Symbol.{Symbol}
use Rattle.occ_parse_rules.specs.occ_lex.declared.symbol.Symbol.TheVariants as symbol
use Rattle.occ_syntax.specs.declared.scope.Kind.{Kind}
use Rattle.occ_parse_rules.specs.occ_parse_forms.declared.form.Declared.{Declared}
use Rattle.occ_parse_rules.specs.occ_parse_forms.declared.form.Declared.TheVariants as declared
use Rattle.occ_parse_rules.specs.occ_parse_forms.declared.form.Param.{Param}
use Rattle.occ_parse_rules.specs.occ_parse_forms.Shape.{Shape, header, close, skip, stop, assign, receive, send, group, declare, condition, guard, nothing}
use Rattle.occ_parse_rules.specs.occ_parse_forms.Lines.{joined, list_words, count_words, kind_words, front_words, declared_words, mark_words, tail_words, param_front, IsParam, AreParams, IsDeclaration, IsForm}
use Rattle.occ_parse.proofs.Texts.{is_small}

abbrev pub AreSmall : List Symbol → Type 0
AreSmall symbols = list_all is_small symbols ≡ true

in_two : (a b : List Symbol) → AreSmall (a ++ b) → AreSmall a × AreSmall b
in_two a b h = and_parts (list_all is_small a) (list_all is_small b) (sym (list_all-append is_small a b) ∙ h)

in_front : (s : Symbol) (b : List Symbol) → AreSmall (s ∷ b) → (is_small s ≡ true) × AreSmall b
in_front s b h = and_parts (is_small s) (list_all is_small b) h

-- ---- declared names

-- the place of an element
abbrev pub place_small : Declared → Bool
place_small (declared.Plain x) = true
place_small (declared.Element x k) = nat_lt k 256
place_small (declared.Array x n) = true

-- the count of an array
abbrev pub count_small : Declared → Bool
count_small (declared.Plain x) = true
count_small (declared.Element x k) = true
count_small (declared.Array x n) = nat_lt n 256

abbrev pub declared_small : Declared → Bool
declared_small d = place_small d && count_small d

abbrev pub shape_small : Shape → Bool
shape_small (header name params) = list_all (λ p. declared_small p.declared) params
shape_small (declare k ds) = list_all declared_small ds
shape_small other = true

place_in : (d : Declared) (rest : List Symbol) → AreSmall (declared_words d ++ rest) → place_small d ≡ true
place_in (declared.Plain x) rest h = refl
place_in (declared.Element x k) rest h =
    (in_front (symbol.Numeral k) (symbol.Sign sign.CloseIndex ∷ rest)
    (in_front (symbol.Sign sign.OpenIndex) (symbol.Numeral k ∷ symbol.Sign sign.CloseIndex ∷ rest)
    (in_front (symbol.Name x) (symbol.Sign sign.OpenIndex ∷ symbol.Numeral k ∷ symbol.Sign sign.CloseIndex ∷ rest) h).1).1).0
place_in (declared.Array x n) rest h = refl

place_alone : (d : Declared) → AreSmall (declared_words d) → place_small d ≡ true
place_alone (declared.Plain x) h = refl
place_alone (declared.Element x k) h =
    (in_front (symbol.Numeral k) (symbol.Sign sign.CloseIndex ∷ [])
    (in_front (symbol.Sign sign.OpenIndex) (symbol.Numeral k ∷ symbol.Sign sign.CloseIndex ∷ [])
    (in_front (symbol.Name x) (symbol.Sign sign.OpenIndex ∷ symbol.Numeral k ∷ symbol.Sign sign.CloseIndex ∷ []) h).1).1).0
place_alone (declared.Array x n) h = refl

count_in : (d : Declared) (rest : List Symbol) → AreSmall (count_words d ++ rest) → count_small d ≡ true
count_in (declared.Plain x) rest h = refl
count_in (declared.Element x k) rest h = refl
count_in (declared.Array x n) rest h =
    (in_front (symbol.Numeral n) (symbol.Sign sign.CloseIndex ∷ rest)
    (in_front (symbol.Sign sign.OpenIndex) (symbol.Numeral n ∷ symbol.Sign sign.CloseIndex ∷ rest) h).1).0

front_in : (d : Declared) (k : Kind) → AreSmall (front_words d k) → count_small d ≡ true
front_in d k h = count_in d (kind_words k) h

-- ---- parameters

abbrev FrontSmall : Option (List Symbol) → Type 0
FrontSmall before = (front : List Symbol) → before ≡ Some front → AreSmall front

some_is : {A : Type 0} {x y : A} → Some x ≡ Some y → x ≡ y
some_is h = cc

one_param : (before : Option (List Symbol)) (symbols : List Symbol) (p : Param) → FrontSmall before → IsParam before symbols p → AreSmall symbols
    → AreSmall (param_front p) × (declared_small p.declared ≡ true)
one_param before symbols p f i h = elim i.2 [
  | inl e ↦ let parts = in_two (param_front p) (tail_words p) (subst AreSmall e h) in
      (parts.0, and_from (place_small p.declared) (count_small p.declared) (place_in p.declared (mark_words p.kind) parts.1) (front_in p.declared p.kind parts.0))
  | inr e ↦ let front = f (param_front p) e.0 in
      (front, and_from (place_small p.declared) (count_small p.declared) (place_in p.declared (mark_words p.kind) (subst AreSmall e.1 h)) (front_in p.declared p.kind front))
]

params_in : (before : Option (List Symbol)) (groups : List (List Symbol)) (ps : List Param) → FrontSmall before → AreParams before groups ps → AllByRecursion AreSmall groups
    → list_all (λ p. declared_small p.declared) ps ≡ true
params_in before [] [] f a h = refl
params_in before [] (p ∷ ps) f a h = absurd a
params_in before (g ∷ groups) [] f a h = absurd a
params_in before (g ∷ groups) (p ∷ ps) f a h =
    let one = one_param before g p f a.0 h.0 in
    and_from (declared_small p.declared) (list_all (λ q. declared_small q.declared) ps) one.1
    (params_in (Some (param_front p)) groups ps (λ front e. subst AreSmall (some_is e) one.0) a.1 h.1)

-- ---- lists

joined_in : {A : Type 0} (spell : A → List Symbol) (first : List Symbol) (xs : List A) → AreSmall (joined first (map spell xs)) → AreSmall first × AllByRecursion (λ x. AreSmall (spell x)) xs
joined_in spell first [] h = (h, tt)
joined_in spell first (x ∷ xs) h =
    let parts = in_two first (symbol.Sign sign.Comma ∷ joined (spell x) (map spell xs)) h in
    let more = joined_in spell (spell x) xs (in_front (symbol.Sign sign.Comma) (joined (spell x) (map spell xs)) parts.1).1 in
    (parts.0, (more.0, more.1))

list_in : {A : Type 0} (spell : A → List Symbol) (xs : List A) → AreSmall (list_words spell xs) → AllByRecursion (λ x. AreSmall (spell x)) xs
list_in spell [] h = tt
list_in spell (x ∷ xs) h = let parts = joined_in spell (spell x) xs h in (parts.0, parts.1)

-- ---- lines

-- an array's count stands in the front of each that the line declares
same_front : (d e : Declared) (k : Kind) → front_words e k ≡ front_words d k → AreSmall (front_words d k) → count_small e ≡ true
same_front d e k same h = front_in e k (subst AreSmall (sym same) h)

all_small : (d : Declared) (k : Kind) (es : List Declared) → AllByRecursion (λ e. front_words e k ≡ front_words d k) es → AreSmall (front_words d k)
    → AllByRecursion (λ e. AreSmall (declared_words e)) es → list_all declared_small es ≡ true
all_small d k [] same h words = refl
all_small d k (e ∷ es) same h words =
    and_from (declared_small e) (list_all declared_small es) (and_from (place_small e) (count_small e) (place_alone e words.0) (same_front d e k same.0 h)) (all_small d k es same.1 h words.1)

declaration_in : (symbols : List Symbol) (k : Kind) (ds : List Declared) → IsDeclaration symbols k ds → AreSmall symbols → list_all declared_small ds ≡ true
declaration_in symbols k [] i h = absurd i
declaration_in symbols k (d ∷ ds) i h =
    let parts = in_two (front_words d k) (list_words declared_words (d ∷ ds) ++ symbol.Sign sign.Colon ∷ []) (subst AreSmall i.3 h) in
    let words = list_in declared_words (d ∷ ds) (in_two (list_words declared_words (d ∷ ds)) (symbol.Sign sign.Colon ∷ []) parts.1).0 in
    all_small d k (d ∷ ds) (refl, i.2) parts.0 words

pub form_small : (symbols : List Symbol) (s : Shape) → IsForm symbols s → AreSmall symbols → shape_small s ≡ true
form_small symbols (header name params) i h =
    let behind = list_words (λ g. g) i.0 ++ symbol.Sign sign.Close ∷ [] in
    let body = in_front (symbol.Keyword word.Proc) (symbol.Name name ∷ symbol.Sign sign.Open ∷ behind) (subst AreSmall i.2 h) in
    let rest = in_front (symbol.Sign sign.Open) behind (in_front (symbol.Name name) (symbol.Sign sign.Open ∷ behind) body.1).1 in
    params_in None i.0 params (λ front e. absurd cc) i.1 (list_in (λ g. g) i.0 (in_two (list_words (λ g. g) i.0) (symbol.Sign sign.Close ∷ []) rest.1).0)
form_small symbols close i h = refl
form_small symbols skip i h = refl
form_small symbols stop i h = refl
form_small symbols (assign xs es) i h = refl
form_small symbols (receive c x) i h = refl
form_small symbols (send c e) i h = refl
form_small symbols (group g times) i h = refl
form_small symbols (declare k ds) i h = declaration_in symbols k ds i h
form_small symbols (condition e) i h = refl
form_small symbols (guard e w) i h = refl
form_small symbols nothing i h = refl
