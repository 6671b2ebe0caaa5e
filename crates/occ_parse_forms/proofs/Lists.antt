-- Lists of symbols with commas between them, and symbols in which a sign doesn't stand.
use Rattle.std.proofs.Common.{◌≡◌, Bool, true, false, List, [], ◌∷◌, ◌++◌, map, Option, Some, None, refl, sym, ap, ◌∙◌, append_assoc, ⊎_elim}
use Rattle.std.proofs.lemmas.List.{append-nil}
use Rattle.std.proofs.lemmas.Bool.{cases_Bool}
use Rattle.occ_lex.specs.declared.symbol.Sign.{Sign}
use Rattle.occ_lex.specs.declared.symbol.Sign.TheVariants as sign
use Rattle.occ_lex.specs.declared.symbol.Symbol.{Symbol}
use Rattle.occ_lex.specs.declared.symbol.Symbol.TheVariants as symbol
use Rattle.occ_parse_forms.specs.Lines.{comma, joined, list_words}
use Rattle.occ_parse_forms.specs.Symbols.{cut, each, groups_of, in_front, is_comma, same_symbol, split, then_read}
use Rattle.occ_parse_forms.proofs.Basics.{read_ok, same_is, some_is}
use Rattle.occ_parse_forms.proofs.Cutting.{cut_found, cut_passes, cut_nil}
use Rattle.occ_parse_forms.proofs.Splitting.{split_sep, split_more, split_end}

abbrev pub is_sign : Sign → Symbol → Bool
is_sign at s = same_symbol s (symbol.Sign at)

-- a sign stands nowhere among symbols
abbrev pub Free : Sign → List Symbol → Type 0
Free at [] = Unit {0}
Free at (s ∷ group) = (is_sign at s ≡ false) × Free at group

abbrev pub AllFree : Sign → List (List Symbol) → Type 0
AllFree at [] = Unit {0}
AllFree at (group ∷ groups) = Free at group × AllFree at groups

pub free_append : (at : Sign) (a b : List Symbol) → Free at a → Free at b → Free at (a ++ b)
free_append at [] b h k = k
free_append at (s ∷ a) b h k = (h.0, free_append at a b h.1 k)

pub free_joined : (at : Sign) (g : List Symbol) (gs : List (List Symbol)) → is_sign at comma ≡ false → Free at g → AllFree at gs → Free at (joined g gs)
free_joined at g [] s h k = h
free_joined at g (next ∷ gs) s h k = free_append at g (comma ∷ joined next gs) h (s, free_joined at next gs s k.0 k.1)

-- ---- groups

split_free : (front g rest : List Symbol) → Free sign.Comma g → split is_comma front (g ++ rest) ≡ split is_comma (front ++ g) rest
split_free front [] rest h = ap (λ f. split is_comma f rest) (sym (append-nil front))
split_free front (s ∷ g) rest h = split_more is_comma front s (g ++ rest) h.0 ∙ split_free (front ++ s ∷ []) g rest h.1 ∙ ap (λ f. split is_comma f rest) (append_assoc front (s ∷ []) g)

split_joined : (front g : List Symbol) (gs : List (List Symbol)) → Free sign.Comma g → AllFree sign.Comma gs → split is_comma front (joined g gs) ≡ (front ++ g) ∷ gs
split_joined front g [] h k = ap (split is_comma front) (sym (append-nil g)) ∙ split_free front g [] h ∙ split_end is_comma (front ++ g)
split_joined front g (next ∷ gs) h k =
    split_free front g (comma ∷ joined next gs) h ∙ split_sep is_comma (front ++ g) comma (joined next gs) refl
    ∙ ap (λ rest. (front ++ g) ∷ rest) (split_joined [] next gs k.0 k.1)

pub groups_back : (g : List Symbol) (gs : List (List Symbol)) → Free sign.Comma g → AllFree sign.Comma gs → groups_of (joined g gs) ≡ g ∷ gs
groups_back g gs h k = split_joined [] g gs h k

unfoldable pub joined_all : List (List Symbol) → List Symbol
joined_all [] = []
joined_all (group ∷ groups) = joined group groups

pub record HasFirst (groups : List (List Symbol)) : Type 0 where
  pub first : List Symbol
  pub others : List (List Symbol)
  pub are : groups ≡ first ∷ others

pub split_first : (front symbols : List Symbol) → HasFirst (split is_comma front symbols)
split_first front [] = record { first = front; others = []; are = split_end is_comma front }
split_first front (s ∷ symbols) = ⊎_elim
    (λ (h : is_comma s ≡ true). record { first = front; others = split is_comma [] symbols; are = split_sep is_comma front s symbols h })
    (λ (h : is_comma s ≡ false). let r = split_first (front ++ s ∷ []) symbols in record { first = r.first; others = r.others; are = split_more is_comma front s symbols h ∙ r.are })
    (cases_Bool (is_comma s))

joined_split : (front symbols : List Symbol) → joined_all (split is_comma front symbols) ≡ front ++ symbols
unfolding joined_all
joined_split front [] = ap joined_all (split_end is_comma front) ∙ sym (append-nil front)
joined_split front (s ∷ symbols) = ⊎_elim
    (λ (h : is_comma s ≡ true).
    let r = split_first [] symbols in
    ap joined_all (split_sep is_comma front s symbols h) ∙ ap (joined front) r.are
    ∙ ap (λ rest. front ++ comma ∷ rest) (ap joined_all (sym r.are) ∙ joined_split [] symbols)
    ∙ ap (λ x. front ++ x ∷ symbols) (sym (same_is s comma h)))
    (λ (h : is_comma s ≡ false).
    ap joined_all (split_more is_comma front s symbols h) ∙ joined_split (front ++ s ∷ []) symbols ∙ append_assoc front (s ∷ []) symbols)
    (cases_Bool (is_comma s))

-- the groups of symbols, with the commas between them
pub record AreGroups (symbols : List Symbol) : Type 0 where
  pub first : List Symbol
  pub others : List (List Symbol)
  pub groups : groups_of symbols ≡ first ∷ others
  pub spelled : symbols ≡ joined first others

pub groups_ok : (symbols : List Symbol) → AreGroups symbols
unfolding joined_all
groups_ok symbols =
    let r = split_first [] symbols in
    record { first = r.first; others = r.others; groups = r.are; spelled = sym (joined_split [] symbols) ∙ ap joined_all r.are }

-- ---- what each group reads as

abbrev pub Pairs : {A : Type 0} → (List Symbol → A → Type 0) → List (List Symbol) → List A → Type 0
Pairs P [] [] = Unit {0}
Pairs P [] (y ∷ ys) = ⊥
Pairs P (g ∷ gs) [] = ⊥
Pairs P (g ∷ gs) (y ∷ ys) = P g y × Pairs P gs ys

pub front_ok : {A : Type 0} (x : A) (o : Option (List A)) (ys : List A) → in_front (x ∷ []) o ≡ Some ys → (xs : List A) × (o ≡ Some xs) × (ys ≡ x ∷ xs)
front_ok x None ys h = absurd cc
front_ok x (Some xs) ys h = (xs, refl, cc)

pub each_ok : {A : Type 0} (P : List Symbol → A → Type 0) (read : List Symbol → Option A) → ((g : List Symbol) (y : A) → read g ≡ Some y → P g y)
    → (gs : List (List Symbol)) (ys : List A) → each read gs ≡ Some ys → Pairs P gs ys
each_ok P read ok [] [] h = tt
each_ok P read ok [] (y ∷ ys) h = absurd cc
each_ok P read ok (g ∷ gs) [] h =
    let r = read_ok (read g) (λ x. in_front (x ∷ []) (each read gs)) [] h in
    let f = front_ok r.0 (each read gs) [] r.2 in
    let e = f.2 in
    absurd cc
each_ok P read ok (g ∷ gs) (y ∷ ys) h =
    let r = read_ok (read g) (λ x. in_front (x ∷ []) (each read gs)) (y ∷ ys) h in
    let f = front_ok r.0 (each read gs) (y ∷ ys) r.2 in
    let e = f.2 in
    let a : y ≡ r.0 = cc in
    let b : ys ≡ f.0 = cc in
    (ok g y (r.1 ∙ ap (λ x. Some x) (sym a)), each_ok P read ok gs ys (f.1 ∙ ap (λ x. Some x) (sym b)))

pub each_back : {A : Type 0} (P : List Symbol → A → Type 0) (read : List Symbol → Option A) → ((g : List Symbol) (y : A) → P g y → read g ≡ Some y)
    → (gs : List (List Symbol)) (ys : List A) → Pairs P gs ys → each read gs ≡ Some ys
each_back P read back [] [] h = refl
each_back P read back [] (y ∷ ys) h = absurd h
each_back P read back (g ∷ gs) [] h = absurd h
each_back P read back (g ∷ gs) (y ∷ ys) h =
    ap (λ o. then_read o (λ x. in_front (x ∷ []) (each read gs))) (back g y h.0) ∙ ap (in_front (y ∷ [])) (each_back P read back gs ys h.1)

-- the groups that a list is spelled by
pub list_is : {A : Type 0} (spell : A → List Symbol) (xs : List A) (g : List Symbol) (gs : List (List Symbol)) → g ∷ gs ≡ map spell xs → joined g gs ≡ list_words spell xs
list_is spell [] g gs e = absurd cc
list_is spell (x ∷ xs) g gs e =
    let a : g ≡ spell x = cc in
    let b : gs ≡ map spell xs = cc in
    λ i. joined (a i) (b i)

pub map_self : {A : Type 0} (xs : List A) → map (λ x. x) xs ≡ xs
map_self [] = refl
map_self (x ∷ xs) = ap (λ ys. x ∷ ys) (map_self xs)

-- ---- the symbols in front of a sign and behind it

pub cut_none : (at : Sign) (symbols : List Symbol) → Free at symbols → cut at symbols ≡ None
cut_none at [] h = cut_nil at
cut_none at (s ∷ symbols) h = cut_passes at s symbols h.0 ∙ ap (λ o. then_read o (λ parts. Some (s ∷ parts.0, parts.1))) (cut_none at symbols h.1)

pub cut_back : (at : Sign) (a b : List Symbol) → is_sign at (symbol.Sign at) ≡ true → Free at a → cut at (a ++ symbol.Sign at ∷ b) ≡ Some (a, b)
cut_back at [] b self h = cut_found at (symbol.Sign at) b self
cut_back at (s ∷ a) b self h = cut_passes at s (a ++ symbol.Sign at ∷ b) h.0 ∙ ap (λ o. then_read o (λ parts. Some (s ∷ parts.0, parts.1))) (cut_back at a b self h.1)

pub cut_ok : (at : Sign) (symbols : List Symbol) (parts : List Symbol × List Symbol) → cut at symbols ≡ Some parts → symbols ≡ parts.0 ++ symbol.Sign at ∷ parts.1
cut_ok at [] parts h = let e : None ≡ Some parts = sym (cut_nil at) ∙ h in absurd cc
cut_ok at (s ∷ symbols) parts h = ⊎_elim
    (λ (t : is_sign at s ≡ true).
    let e = some_is ([], symbols) parts (sym (cut_found at s symbols t) ∙ h) in
    ap (λ s. s ∷ symbols) (same_is s (symbol.Sign at) t) ∙ ap (λ p. p.0 ++ symbol.Sign at ∷ p.1) e)
    (λ (f : is_sign at s ≡ false).
    let r = read_ok (cut at symbols) (λ parts. Some (s ∷ parts.0, parts.1)) parts (sym (cut_passes at s symbols f) ∙ h) in
    ap (λ r. s ∷ r) (cut_ok at symbols r.0 r.1) ∙ ap (λ p. p.0 ++ symbol.Sign at ∷ p.1) (some_is (s ∷ r.0.0, r.0.1) parts r.2))
    (cases_Bool (is_sign at s))
