-- A printed expression is a phrase that means it.
use Rattle.std.proofs.Common.{◌≡◌, ℕ, Bool, true, false, not, ◌&&◌, ◌||◌, List, [], ◌∷◌, ◌++◌, map, refl, ap, sym, ◌∙◌}
use Rattle.std.specs.List.{flat_map}
use Rattle.std.proofs.lemmas.List.{append-nil}
use Rattle.std.proofs.lemmas.Grind.{flat_map-append}
use Rattle.occ_print.specs.occ_base.declared.width.Width.TheVariants as width
use Rattle.occ_print.specs.occ_syntax.declared.expr.Op.{Op}
use Rattle.occ_print.specs.occ_syntax.declared.expr.Op.TheVariants as op
use Rattle.occ_print.specs.occ_syntax.Tree.{Exp, variable, numeral, truth, negation, complement, operation}
use Rattle.occ_print.specs.occ_lex.declared.symbol.Keyword.TheVariants as word
use Rattle.occ_print.specs.occ_lex.declared.symbol.Sign.TheVariants as sign
use Rattle.occ_print.specs.occ_lex.declared.symbol.Symbol.{Symbol}
use Rattle.occ_print.specs.occ_lex.declared.symbol.Symbol.TheVariants as symbol
use Rattle.occ_print.specs.occ_parse_forms.Lines.{comma, joined, list_words, IsWritten}
use Rattle.occ_print.specs.occ_parse_forms.Shape as line
use Rattle.occ_print.specs.occ_parse_forms.Written.{Operand, named, number, number_of, constant, bracketed, Chain, pair, longer, Written, only, negated, complemented, between, all, any, op_word, item_words, truth_word, operand_words, words, operand_meant, chain_meant, meant}
use Rattle.occ_parse.specs.occ_parse_rules.Places.{Place}
use Rattle.occ_print.specs.Symbols.{separated, is_operation, is_and, is_or, goes_on, compares_numerals, in_brackets, exp_symbols, whole_symbols}
use Rattle.occ_print_back.specs.Said.{item_of, said, whole_said}
use Rattle.occ_print_back.specs.Read.{symbol_read, symbols_read}

-- ---- the phrase

abbrev pub as_operand : Written → Operand
as_operand (only a) = a
as_operand (negated a) = bracketed (negated a)
as_operand (complemented a) = bracketed (complemented a)
as_operand (between o a b) = bracketed (between o a b)
as_operand (all c) = bracketed (all c)
as_operand (any c) = bracketed (any c)

abbrev pub and_chain : Written → Operand → Chain
and_chain (all c) r = longer c r
and_chain (only a) r = pair a r
and_chain (negated a) r = pair (bracketed (negated a)) r
and_chain (complemented a) r = pair (bracketed (complemented a)) r
and_chain (between o a b) r = pair (bracketed (between o a b)) r
and_chain (any c) r = pair (bracketed (any c)) r

abbrev pub or_chain : Written → Operand → Chain
or_chain (any c) r = longer c r
or_chain (only a) r = pair a r
or_chain (negated a) r = pair (bracketed (negated a)) r
or_chain (complemented a) r = pair (bracketed (complemented a)) r
or_chain (between o a b) r = pair (bracketed (between o a b)) r
or_chain (all c) r = pair (bracketed (all c)) r

abbrev pub join : Op → Written → Operand → Written
join op.And left r = all (and_chain left r)
join op.Or left r = any (or_chain left r)
join o left r = between o (as_operand left) r

abbrev pub numeral_written : Bool → ℕ → ℕ → Written
numeral_written false bits value = only (number value)
numeral_written true bits value = only (number_of value (width.Word bits))

abbrev pub written : (ℕ → Place) → Bool → Exp → Written
written P wide (variable x) = only (named (item_of (P x)))
written P wide (numeral bits value) = numeral_written wide bits value
written P wide (truth b) = only (constant b)
written P wide (negation e) = negated (as_operand (written P wide e))
written P wide (complement e) = complemented (as_operand (written P wide e))
written P wide (operation o left right) =
    join o (written P (wide || compares_numerals o left right) left) (as_operand (written P (wide || compares_numerals o left right) right))

-- ---- its symbols

words-operand : (P : ℕ → Place) (wide : Bool) (e : Exp) → operand_words (as_operand (written P wide e)) ≡ in_brackets (is_operation e) (words (written P wide e))
words-operand P wide (variable x) = refl
words-operand P false (numeral bits value) = refl
words-operand P true (numeral bits value) = refl
words-operand P wide (truth b) = refl
words-operand P wide (negation e) = refl
words-operand P wide (complement e) = refl
words-operand P wide (operation op.And left right) = refl
words-operand P wide (operation op.Or left right) = refl
words-operand P wide (operation o left right) = refl

and-true : (b : Bool) → (b && true) ≡ b
and-true true = refl
and-true false = refl

never_on : (o : Op) (l : Exp) → is_and o ≡ false → is_or o ≡ false → goes_on o l ≡ false
never_on o (operation p left right) h k = ap (λ s. (s && is_and p) || (is_or o && is_or p)) h ∙ ap (λ s. s && is_or p) k
never_on o (variable x) h k = refl
never_on o (numeral bits value) h k = refl
never_on o (truth b) h k = refl
never_on o (negation e) h k = refl
never_on o (complement e) h k = refl

between_words : (P : ℕ → Place) (o : Op) (wide : Bool) (l : Exp) (R : Operand) → goes_on o l ≡ false
    → operand_words (as_operand (written P wide l)) ++ op_word o ∷ operand_words R
    ≡ in_brackets (is_operation l && not (goes_on o l)) (words (written P wide l)) ++ op_word o ∷ operand_words R
between_words P o wide l R h =
    let e : (is_operation l && not (goes_on o l)) ≡ is_operation l = ap (λ b. is_operation l && not b) h ∙ and-true (is_operation l) in
    ap (λ t. t ++ op_word o ∷ operand_words R) (words-operand P wide l ∙ ap (λ b. in_brackets b (words (written P wide l))) (sym e))

words-and : (P : ℕ → Place) (wide : Bool) (l : Exp) (R : Operand)
    → words (all (and_chain (written P wide l) R)) ≡ in_brackets (is_operation l && not (goes_on op.And l)) (words (written P wide l)) ++ op_word op.And ∷ operand_words R
words-and P wide (variable x) R = refl
words-and P false (numeral bits value) R = refl
words-and P true (numeral bits value) R = refl
words-and P wide (truth b) R = refl
words-and P wide (negation e) R = refl
words-and P wide (complement e) R = refl
words-and P wide (operation op.And left right) R = refl
words-and P wide (operation op.Or left right) R = refl
words-and P wide (operation o left right) R = refl

words-or : (P : ℕ → Place) (wide : Bool) (l : Exp) (R : Operand)
    → words (any (or_chain (written P wide l) R)) ≡ in_brackets (is_operation l && not (goes_on op.Or l)) (words (written P wide l)) ++ op_word op.Or ∷ operand_words R
words-or P wide (variable x) R = refl
words-or P false (numeral bits value) R = refl
words-or P true (numeral bits value) R = refl
words-or P wide (truth b) R = refl
words-or P wide (negation e) R = refl
words-or P wide (complement e) R = refl
words-or P wide (operation op.And left right) R = refl
words-or P wide (operation op.Or left right) R = refl
words-or P wide (operation o left right) R = refl

words-join : (P : ℕ → Place) (o : Op) (wide : Bool) (l : Exp) (R : Operand)
    → words (join o (written P wide l) R) ≡ in_brackets (is_operation l && not (goes_on o l)) (words (written P wide l)) ++ op_word o ∷ operand_words R
words-join P op.And wide l R = words-and P wide l R
words-join P op.Or wide l R = words-or P wide l R
words-join P op.Plus wide l R = between_words P op.Plus wide l R (never_on op.Plus l refl refl)
words-join P op.Minus wide l R = between_words P op.Minus wide l R (never_on op.Minus l refl refl)
words-join P op.BitAnd wide l R = between_words P op.BitAnd wide l R (never_on op.BitAnd l refl refl)
words-join P op.BitOr wide l R = between_words P op.BitOr wide l R (never_on op.BitOr l refl refl)
words-join P op.BitXor wide l R = between_words P op.BitXor wide l R (never_on op.BitXor l refl refl)
words-join P op.Equal wide l R = between_words P op.Equal wide l R (never_on op.Equal l refl refl)
words-join P op.Differ wide l R = between_words P op.Differ wide l R (never_on op.Differ l refl refl)
words-join P op.Less wide l R = between_words P op.Less wide l R (never_on op.Less l refl refl)
words-join P op.Greater wide l R = between_words P op.Greater wide l R (never_on op.Greater l refl refl)
words-join P op.AtMost wide l R = between_words P op.AtMost wide l R (never_on op.AtMost l refl refl)
words-join P op.AtLeast wide l R = between_words P op.AtLeast wide l R (never_on op.AtLeast l refl refl)

-- ---- printed symbols are the phrase's

pub read-append : (P : ℕ → Place) (xs ys : List Symbol) → symbols_read P (xs ++ ys) ≡ symbols_read P xs ++ symbols_read P ys
read-append P xs ys = flat_map-append (symbol_read P) xs ys

op_read : (P : ℕ → Place) (o : Op) → symbol_read P (op_word o) ≡ op_word o ∷ []
op_read P op.Plus = refl
op_read P op.Minus = refl
op_read P op.And = refl
op_read P op.Or = refl
op_read P op.BitAnd = refl
op_read P op.BitOr = refl
op_read P op.BitXor = refl
op_read P op.Equal = refl
op_read P op.Differ = refl
op_read P op.Less = refl
op_read P op.Greater = refl
op_read P op.AtMost = refl
op_read P op.AtLeast = refl

read-brackets : (P : ℕ → Place) (b : Bool) (xs : List Symbol) → symbols_read P (in_brackets b xs) ≡ in_brackets b (symbols_read P xs)
read-brackets P false xs = refl
read-brackets P true xs = ap (λ t. symbol.Sign sign.Open ∷ t) (read-append P xs (symbol.Sign sign.Close ∷ []))

truth_read : (P : ℕ → Place) (b : Bool) → symbols_read P (truth_word b ∷ []) ≡ truth_word b ∷ []
truth_read P true = refl
truth_read P false = refl

pub exp_read : (P : ℕ → Place) (wide : Bool) (e : Exp) → symbols_read P (exp_symbols wide e) ≡ words (written P wide e)
exp_read P wide (variable x) = append-nil (item_words (item_of (P x)))
exp_read P false (numeral bits value) = refl
exp_read P true (numeral bits value) = refl
exp_read P wide (truth b) = truth_read P b
exp_read P wide (negation e) =
    ap (λ t. symbol.Keyword word.Not ∷ t) (read-brackets P (is_operation e) (exp_symbols wide e) ∙ ap (in_brackets (is_operation e)) (exp_read P wide e) ∙ sym (words-operand P wide e))
exp_read P wide (complement e) =
    ap (λ t. symbol.Sign sign.Flip ∷ t) (read-brackets P (is_operation e) (exp_symbols wide e) ∙ ap (in_brackets (is_operation e)) (exp_read P wide e) ∙ sym (words-operand P wide e))
exp_read P wide (operation o left right) =
    let w = wide || compares_numerals o left right in
    let b = is_operation left && not (goes_on o left) in
    let front = in_brackets b (exp_symbols w left) in
    let back = in_brackets (is_operation right) (exp_symbols w right) in
    read-append P front (op_word o ∷ back)
    ∙ ap (λ t. t ++ symbols_read P (op_word o ∷ back)) (read-brackets P b (exp_symbols w left) ∙ ap (in_brackets b) (exp_read P w left))
    ∙ ap (λ t. in_brackets b (words (written P w left)) ++ (t ++ symbols_read P back)) (op_read P o)
    ∙ ap (λ t. in_brackets b (words (written P w left)) ++ op_word o ∷ t)
    (read-brackets P (is_operation right) (exp_symbols w right) ∙ ap (in_brackets (is_operation right)) (exp_read P w right) ∙ sym (words-operand P w right))
    ∙ sym (words-join P o w left (as_operand (written P w right)))

-- ---- what it means

meant-operand : (w : Written) → operand_meant (as_operand w) ≡ meant w
meant-operand (only a) = refl
meant-operand (negated a) = refl
meant-operand (complemented a) = refl
meant-operand (between o a b) = refl
meant-operand (all c) = refl
meant-operand (any c) = refl

meant-and : (w : Written) (r : Operand) → chain_meant op.And (and_chain w r) ≡ line.operation op.And (meant w) (operand_meant r)
meant-and (only a) r = refl
meant-and (negated a) r = refl
meant-and (complemented a) r = refl
meant-and (between o a b) r = refl
meant-and (all c) r = refl
meant-and (any c) r = refl

meant-or : (w : Written) (r : Operand) → chain_meant op.Or (or_chain w r) ≡ line.operation op.Or (meant w) (operand_meant r)
meant-or (only a) r = refl
meant-or (negated a) r = refl
meant-or (complemented a) r = refl
meant-or (between o a b) r = refl
meant-or (all c) r = refl
meant-or (any c) r = refl

meant-join : (o : Op) (w : Written) (r : Operand) → meant (join o w r) ≡ line.operation o (meant w) (operand_meant r)
meant-join op.And w r = meant-and w r
meant-join op.Or w r = meant-or w r
meant-join o w r = ap (λ d. line.operation o d (operand_meant r)) (meant-operand w)

pub meant_is : (P : ℕ → Place) (wide : Bool) (e : Exp) → meant (written P wide e) ≡ said P wide e
meant_is P wide (variable x) = refl
meant_is P false (numeral bits value) = refl
meant_is P true (numeral bits value) = refl
meant_is P wide (truth b) = refl
meant_is P wide (negation e) = ap line.negation (meant-operand (written P wide e) ∙ meant_is P wide e)
meant_is P wide (complement e) = ap line.complement (meant-operand (written P wide e) ∙ meant_is P wide e)
meant_is P wide (operation o left right) =
    let w = wide || compares_numerals o left right in
    meant-join o (written P w left) (as_operand (written P w right))
    ∙ ap (λ d. line.operation o d (operand_meant (as_operand (written P w right)))) (meant_is P w left)
    ∙ ap (line.operation o (said P w left)) (meant-operand (written P w right) ∙ meant_is P w right)

pub is_written : (P : ℕ → Place) (e : Exp) → IsWritten (symbols_read P (whole_symbols e)) (whole_said P e)
is_written P e = (written P false e, exp_read P false e, sym (meant_is P false e))

-- ---- lists

joined_read : {X Y : Type 0} (P : ℕ → Place) (spell : X → List Symbol) (f : Y → List Symbol) (g : X → Y) → ((x : X) → symbols_read P (spell x) ≡ f (g x))
    → (first : List Symbol) (xs : List X) → first ++ symbols_read P (flat_map (λ y. comma ∷ spell y) xs) ≡ joined first (map f (map g xs))
joined_read P spell f g h first [] = append-nil first
joined_read P spell f g h first (y ∷ ys) =
    ap (λ t. first ++ comma ∷ t)
    (read-append P (spell y) (flat_map (λ z. comma ∷ spell z) ys)
    ∙ ap (λ t. t ++ symbols_read P (flat_map (λ z. comma ∷ spell z) ys)) (h y)
    ∙ joined_read P spell f g h (f (g y)) ys)

pub separated_read : {X Y : Type 0} (P : ℕ → Place) (spell : X → List Symbol) (f : Y → List Symbol) (g : X → Y) → ((x : X) → symbols_read P (spell x) ≡ f (g x))
    → (xs : List X) → symbols_read P (separated spell xs) ≡ list_words f (map g xs)
separated_read P spell f g h [] = refl
separated_read P spell f g h (x ∷ xs) =
    read-append P (spell x) (flat_map (λ z. comma ∷ spell z) xs) ∙ ap (λ t. t ++ symbols_read P (flat_map (λ z. comma ∷ spell z) xs)) (h x)
    ∙ joined_read P spell f g h (f (g x)) xs
