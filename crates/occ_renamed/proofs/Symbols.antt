-- The symbols of lines under other names.
use Rattle.occ_replay_rules.specs.occ_base.declared.event.Dir.TheVariants as dir
use Rattle.occ_replay_rules.specs.occ_base.declared.names.Name.{Name}
use Rattle.occ_renamed.specs.Scopes.{scope_renamed}
use Rattle.occ_replay_rules.specs.occ_lex.declared.symbol.Keyword.TheVariants as word
use Rattle.occ_replay_rules.specs.occ_lex.declared.symbol.Sign.TheVariants as sign
use Rattle.occ_replay_rules.specs.occ_lex.declared.symbol.Symbol.{Symbol}
use Rattle.occ_replay_rules.specs.occ_lex.declared.symbol.Symbol.TheVariants as symbol
use Rattle.occ_replay_rules.specs.occ_meaning.Rename.{renamed_exp, renamed_exps, renamed_names, renamed_waiting}
use Rattle.occ_replay_rules.specs.occ_parse_forms.Lines.{comma, kind_words, mark_words}
use Rattle.occ_replay_rules.specs.occ_parse_forms.Written.{op_word, truth_word}
use Rattle.occ_replay_rules.specs.occ_print.Symbols.{assign_symbols, compares_numerals, declaration_symbols, exp_symbols, gives_word, goes_on, guard_symbols, header_symbols, in_brackets, is_comparison, is_operation, is_ready, is_true, name_symbol, named_symbols, numeral_symbols, of_numerals, separated, waiting_symbols, whole_symbols}
use Rattle.occ_renamed.specs.Renamed.{symbol_renamed, symbols_renamed}
use Rattle.occ_replay_rules.specs.occ_syntax.Tree.{Exp, Waiting, complement, input, negation, numeral, operation, output, ready, truth, variable}
use Rattle.occ_replay_rules.specs.occ_syntax.declared.expr.Op.{Op}
use Rattle.occ_replay_rules.specs.occ_syntax.declared.expr.Op.TheVariants as op
use Rattle.occ_replay_rules.specs.occ_syntax.declared.scope.Kind.{Kind}
use Rattle.occ_replay_rules.specs.occ_syntax.declared.scope.Kind.TheVariants as kind
use Rattle.std.proofs.Common.{Bool, List, None, Some, [], ap, false, if◌then◌else◌, not, refl, sym, true, ℕ, ◌&&◌, ◌++◌, ◌||◌, ◌∙◌, ◌∷◌, ◌≡◌}
use Rattle.std.proofs.lemmas.List.{map-append}
use Rattle.std.specs.List.{flat_map}

pub both_renamed : (f : ℕ → ℕ) (us vs : List Symbol) → symbols_renamed f (us ++ vs) ≡ symbols_renamed f us ++ symbols_renamed f vs
both_renamed f us vs = map-append (symbol_renamed f) us vs

-- two rows of symbols that are renamed one by one
both_under : (f : ℕ → ℕ) (us vs us' vs' : List Symbol) → us' ≡ symbols_renamed f us → vs' ≡ symbols_renamed f vs
    → us' ++ vs' ≡ symbols_renamed f (us ++ vs)
both_under f us vs us' vs' h k = ap (λ z. z ++ vs') h ∙ (ap (λ z. symbols_renamed f us ++ z) k ∙ sym (both_renamed f us vs))

-- ---- expressions

operation_under : (f : ℕ → ℕ) (e : Exp) → is_operation (renamed_exp f e) ≡ is_operation e
operation_under f (variable x) = refl
operation_under f (numeral bits value) = refl
operation_under f (truth b) = refl
operation_under f (negation e) = refl
operation_under f (complement e) = refl
operation_under f (operation o left right) = refl

goes_on_under : (f : ℕ → ℕ) (o : Op) (e : Exp) → goes_on o (renamed_exp f e) ≡ goes_on o e
goes_on_under f o (variable x) = refl
goes_on_under f o (numeral bits value) = refl
goes_on_under f o (truth b) = refl
goes_on_under f o (negation e) = refl
goes_on_under f o (complement e) = refl
goes_on_under f o (operation p left right) = refl

numerals_under : (f : ℕ → ℕ) (e : Exp) → of_numerals (renamed_exp f e) ≡ of_numerals e
numerals_under f (variable x) = refl
numerals_under f (numeral bits value) = refl
numerals_under f (truth b) = refl
numerals_under f (negation e) = refl
numerals_under f (complement e) = numerals_under f e
numerals_under f (operation o left right) =
    ap (λ z. gives_word o && (z && of_numerals (renamed_exp f right))) (numerals_under f left)
    ∙ ap (λ z. gives_word o && (of_numerals left && z)) (numerals_under f right)

compares_under : (f : ℕ → ℕ) (o : Op) (left right : Exp) → compares_numerals o (renamed_exp f left) (renamed_exp f right) ≡ compares_numerals o left right
compares_under f o left right =
    ap (λ z. is_comparison o && (z && of_numerals (renamed_exp f right))) (numerals_under f left)
    ∙ ap (λ z. is_comparison o && (of_numerals left && z)) (numerals_under f right)

brackets_under : (f : ℕ → ℕ) (b : Bool) (us : List Symbol) → in_brackets b (symbols_renamed f us) ≡ symbols_renamed f (in_brackets b us)
brackets_under f false us = refl
brackets_under f true us = ap (λ z. symbol.Sign sign.Open ∷ z) (sym (both_renamed f us (symbol.Sign sign.Close ∷ [])))

-- an operand, in brackets or not
operand_under : (f : ℕ → ℕ) (b c : Bool) (us us' : List Symbol) → c ≡ b → us' ≡ symbols_renamed f us → in_brackets c us' ≡ symbols_renamed f (in_brackets b us)
operand_under f b c us us' h k = ap (λ z. in_brackets z us') h ∙ (ap (in_brackets b) k ∙ brackets_under f b us)

width_under : (f : ℕ → ℕ) (wide : Bool) (bits value : ℕ) → numeral_symbols wide bits value ≡ symbols_renamed f (numeral_symbols wide bits value)
width_under f false bits value = refl
width_under f true bits value = refl

truth_under : (f : ℕ → ℕ) (b : Bool) → truth_word b ∷ [] ≡ symbols_renamed f (truth_word b ∷ [])
truth_under f true = refl
truth_under f false = refl

op_under : (f : ℕ → ℕ) (o : Op) → op_word o ≡ symbol_renamed f (op_word o)
op_under f op.Plus = refl
op_under f op.Minus = refl
op_under f op.And = refl
op_under f op.Or = refl
op_under f op.BitAnd = refl
op_under f op.BitOr = refl
op_under f op.BitXor = refl
op_under f op.Equal = refl
op_under f op.Differ = refl
op_under f op.Less = refl
op_under f op.Greater = refl
op_under f op.AtMost = refl
op_under f op.AtLeast = refl

pub exp_under : (f : ℕ → ℕ) (wide : Bool) (e : Exp) → exp_symbols wide (renamed_exp f e) ≡ symbols_renamed f (exp_symbols wide e)
exp_under f wide (variable x) = refl
exp_under f wide (numeral bits value) = width_under f wide bits value
exp_under f wide (truth b) = truth_under f b
exp_under f wide (negation e) =
    ap (λ z. symbol.Keyword word.Not ∷ z)
    (operand_under f (is_operation e) (is_operation (renamed_exp f e)) (exp_symbols wide e) (exp_symbols wide (renamed_exp f e)) (operation_under f e) (exp_under f wide e))
exp_under f wide (complement e) =
    ap (λ z. symbol.Sign sign.Flip ∷ z)
    (operand_under f (is_operation e) (is_operation (renamed_exp f e)) (exp_symbols wide e) (exp_symbols wide (renamed_exp f e)) (operation_under f e) (exp_under f wide e))
exp_under f wide (operation o left right) =
    let L = renamed_exp f left in let R = renamed_exp f right in let w = wide || compares_numerals o left right in
    let same : (wide || compares_numerals o L R) ≡ w = ap (λ z. wide || z) (compares_under f o left right) in
    let outer : (is_operation L && not (goes_on o L)) ≡ (is_operation left && not (goes_on o left)) =
    ap (λ z. z && not (goes_on o L)) (operation_under f left) ∙ ap (λ z. is_operation left && not z) (goes_on_under f o left) in
    ap (λ z. in_brackets (is_operation L && not (goes_on o L)) (exp_symbols z L) ++ op_word o ∷ in_brackets (is_operation R) (exp_symbols z R)) same
    ∙ both_under f (in_brackets (is_operation left && not (goes_on o left)) (exp_symbols w left)) (op_word o ∷ in_brackets (is_operation right) (exp_symbols w right))
    (in_brackets (is_operation L && not (goes_on o L)) (exp_symbols w L)) (op_word o ∷ in_brackets (is_operation R) (exp_symbols w R))
    (operand_under f (is_operation left && not (goes_on o left)) (is_operation L && not (goes_on o L)) (exp_symbols w left) (exp_symbols w L) outer (exp_under f w left))
    (ap (λ z. z ∷ in_brackets (is_operation R) (exp_symbols w R)) (op_under f o)
    ∙ ap (λ z. symbol_renamed f (op_word o) ∷ z)
    (operand_under f (is_operation right) (is_operation R) (exp_symbols w right) (exp_symbols w R) (operation_under f right) (exp_under f w right)))

-- ---- items with commas between them

names_behind_under : (f : ℕ → ℕ) (xs : List ℕ)
    → flat_map (λ y. comma ∷ name_symbol y ∷ []) (renamed_names f xs) ≡ symbols_renamed f (flat_map (λ y. comma ∷ name_symbol y ∷ []) xs)
names_behind_under f [] = refl
names_behind_under f (x ∷ xs) = ap (λ z. comma ∷ name_symbol (f x) ∷ z) (names_behind_under f xs)

names_under : (f : ℕ → ℕ) (xs : List ℕ)
    → separated (λ y. name_symbol y ∷ []) (renamed_names f xs) ≡ symbols_renamed f (separated (λ y. name_symbol y ∷ []) xs)
names_under f [] = refl
names_under f (x ∷ xs) = ap (λ z. name_symbol (f x) ∷ z) (names_behind_under f xs)

exps_behind_under : (f : ℕ → ℕ) (es : List Exp)
    → flat_map (λ y. comma ∷ whole_symbols y) (renamed_exps f es) ≡ symbols_renamed f (flat_map (λ y. comma ∷ whole_symbols y) es)
exps_behind_under f [] = refl
exps_behind_under f (e ∷ es) =
    both_under f (comma ∷ whole_symbols e) (flat_map (λ y. comma ∷ whole_symbols y) es) (comma ∷ whole_symbols (renamed_exp f e))
    (flat_map (λ y. comma ∷ whole_symbols y) (renamed_exps f es)) (ap (λ z. comma ∷ z) (exp_under f false e)) (exps_behind_under f es)

exps_under : (f : ℕ → ℕ) (es : List Exp) → separated whole_symbols (renamed_exps f es) ≡ symbols_renamed f (separated whole_symbols es)
exps_under f [] = refl
exps_under f (e ∷ es) =
    both_under f (whole_symbols e) (flat_map (λ y. comma ∷ whole_symbols y) es) (whole_symbols (renamed_exp f e))
    (flat_map (λ y. comma ∷ whole_symbols y) (renamed_exps f es)) (exp_under f false e) (exps_behind_under f es)

pub assign_under : (f : ℕ → ℕ) (xs : List ℕ) (es : List Exp)
    → assign_symbols (renamed_names f xs) (renamed_exps f es) ≡ symbols_renamed f (assign_symbols xs es)
assign_under f xs es =
    both_under f (separated (λ y. name_symbol y ∷ []) xs) (symbol.Sign sign.Becomes ∷ separated whole_symbols es)
    (separated (λ y. name_symbol y ∷ []) (renamed_names f xs)) (symbol.Sign sign.Becomes ∷ separated whole_symbols (renamed_exps f es))
    (names_under f xs) (ap (λ z. symbol.Sign sign.Becomes ∷ z) (exps_under f es))

-- ---- guards

pub waiting_under : (f : ℕ → ℕ) (w : Waiting) → waiting_symbols (renamed_waiting f w) ≡ symbols_renamed f (waiting_symbols w)
waiting_under f ready = refl
waiting_under f (input c x) = refl
waiting_under f (output c e) = ap (λ z. name_symbol (f c) ∷ symbol.Sign sign.Bang ∷ z) (exp_under f false e)

true_under : (f : ℕ → ℕ) (e : Exp) → is_true (renamed_exp f e) ≡ is_true e
true_under f (variable x) = refl
true_under f (numeral bits value) = refl
true_under f (truth b) = refl
true_under f (negation e) = refl
true_under f (complement e) = refl
true_under f (operation o left right) = refl

ready_under : (f : ℕ → ℕ) (w : Waiting) → is_ready (renamed_waiting f w) ≡ is_ready w
ready_under f ready = refl
ready_under f (input c x) = refl
ready_under f (output c e) = refl

chosen_under : (f : ℕ → ℕ) (b : Bool) (us us' : List Symbol) → us' ≡ symbols_renamed f us → (if b then [] else us') ≡ symbols_renamed f (if b then [] else us)
chosen_under f true us us' h = refl
chosen_under f false us us' h = h

pub guard_under : (f : ℕ → ℕ) (e : Exp) (w : Waiting) → guard_symbols (renamed_exp f e) (renamed_waiting f w) ≡ symbols_renamed f (guard_symbols e w)
guard_under f e w =
    let amp = symbol.Sign sign.Ampersand ∷ [] in let b = is_true e && not (is_ready w) in
    let E = whole_symbols (renamed_exp f e) ++ amp in
    ap (λ z. (if z && not (is_ready (renamed_waiting f w)) then [] else E) ++ waiting_symbols (renamed_waiting f w)) (true_under f e)
    ∙ (ap (λ z. (if is_true e && not z then [] else E) ++ waiting_symbols (renamed_waiting f w)) (ready_under f w)
    ∙ both_under f (if b then [] else whole_symbols e ++ amp) (waiting_symbols w) (if b then [] else E) (waiting_symbols (renamed_waiting f w))
    (chosen_under f b (whole_symbols e ++ amp) E (both_under f (whole_symbols e) amp (whole_symbols (renamed_exp f e)) amp (exp_under f false e) refl))
    (waiting_under f w))

-- ---- declarations and headers

kind_under : (f : ℕ → ℕ) (k : Kind) → kind_words k ≡ symbols_renamed f (kind_words k)
kind_under f (kind.Var width) = refl
kind_under f (kind.Chan width mark) = refl

mark_under : (f : ℕ → ℕ) (k : Kind) → mark_words k ≡ symbols_renamed f (mark_words k)
mark_under f (kind.Var width) = refl
mark_under f (kind.Chan width None) = refl
mark_under f (kind.Chan width (Some dir.Input)) = refl
mark_under f (kind.Chan width (Some dir.Output)) = refl

pub declaration_under : (f : ℕ → ℕ) (x : ℕ) (k : Kind) → declaration_symbols (f x) k ≡ symbols_renamed f (declaration_symbols x k)
declaration_under f x k =
    both_under f (kind_words k) (name_symbol x ∷ symbol.Sign sign.Colon ∷ []) (kind_words k) (name_symbol (f x) ∷ symbol.Sign sign.Colon ∷ []) (kind_under f k) refl

named_under : (f : ℕ → ℕ) (x : ℕ) (k : Kind) → named_symbols (f x) k ≡ symbols_renamed f (named_symbols x k)
named_under f x k =
    both_under f (kind_words k) (name_symbol x ∷ mark_words k) (kind_words k) (name_symbol (f x) ∷ mark_words k) (kind_under f k)
    (ap (λ z. name_symbol (f x) ∷ z) (mark_under f k))

params_behind_under : (f : ℕ → ℕ) (ps : List (Name × Kind))
    → flat_map (λ (p : Name × Kind). comma ∷ named_symbols p.0.0 p.1) (scope_renamed f ps)
    ≡ symbols_renamed f (flat_map (λ (p : Name × Kind). comma ∷ named_symbols p.0.0 p.1) ps)
params_behind_under f [] = refl
params_behind_under f (p ∷ ps) =
    both_under f (comma ∷ named_symbols p.0.0 p.1) (flat_map (λ (q : Name × Kind). comma ∷ named_symbols q.0.0 q.1) ps) (comma ∷ named_symbols (f p.0.0) p.1)
    (flat_map (λ (q : Name × Kind). comma ∷ named_symbols q.0.0 q.1) (scope_renamed f ps))
    (ap (λ z. comma ∷ z) (named_under f p.0.0 p.1)) (params_behind_under f ps)

params_under : (f : ℕ → ℕ) (ps : List (Name × Kind))
    → separated (λ (p : Name × Kind). named_symbols p.0.0 p.1) (scope_renamed f ps) ≡ symbols_renamed f (separated (λ (p : Name × Kind). named_symbols p.0.0 p.1) ps)
params_under f [] = refl
params_under f (p ∷ ps) =
    both_under f (named_symbols p.0.0 p.1) (flat_map (λ (q : Name × Kind). comma ∷ named_symbols q.0.0 q.1) ps) (named_symbols (f p.0.0) p.1)
    (flat_map (λ (q : Name × Kind). comma ∷ named_symbols q.0.0 q.1) (scope_renamed f ps)) (named_under f p.0.0 p.1) (params_behind_under f ps)

pub header_under : (f : ℕ → ℕ) (name : ℕ) (ps : List (Name × Kind)) → header_symbols (f name) (scope_renamed f ps) ≡ symbols_renamed f (header_symbols name ps)
header_under f name ps =
    let all = separated (λ (p : Name × Kind). named_symbols p.0.0 p.1) in
    ap (λ z. symbol.Keyword word.Proc ∷ name_symbol (f name) ∷ symbol.Sign sign.Open ∷ z)
    (both_under f (all ps) (symbol.Sign sign.Close ∷ []) (all (scope_renamed f ps)) (symbol.Sign sign.Close ∷ []) (params_under f ps) refl)
