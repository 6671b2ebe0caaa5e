-- The names of the variables into which a normal program inputs.
use Rattle.std.proofs.Common.{◌≡◌, ℕ, zero, suc, ◌+◌, ◌-◌, ◌<◌, ◌≤◌, Bool, true, false, cond, nat_lt, List, [], ◌∷◌, ◌++◌, length, get_or, drop, filter, append_assoc, append-nil, refl, sym, ap, ◌∙◌, arith}
use Rattle.std.proofs.lemmas.List.{drop_more, length-append}
use Rattle.std.proofs.Math.ListN.{drop_of_length-le}
use Rattle.occ_syntax.specs.occ_base.declared.names.Name.{Name}
use Rattle.occ_syntax.specs.occ_base.declared.width.Width.{Width}
use Rattle.occ_syntax.specs.occ_base.Names.{place_of, with_text}
use Rattle.occ_syntax.specs.declared.scope.Kind.{Kind}
use Rattle.occ_syntax.specs.declared.scope.Kind.TheVariants.{Var}
use Rattle.occ_nform_table.specs.Lines.{AreNamed}
use Rattle.occ_target.specs.Inputs.{dotted, input_name, input_text, is_input_width, is_taken, names_with, variables_of}

-- ---- as few dots as are needed

pub dotted_stop : (names : List (List ℕ)) (params : List (Name × Kind)) (more : ℕ) (text : List ℕ) → is_taken names params text ≡ false → dotted names params more text ≡ text
unfolding dotted
dotted_stop names params zero text h = refl
dotted_stop names params (suc more) text h = ap (λ b. cond b (dotted names params more (text ++ 46 ∷ [])) text) h

dotted_more : (names : List (List ℕ)) (params : List (Name × Kind)) (more : ℕ) (text : List ℕ) → is_taken names params text ≡ true → dotted names params (suc more) text ≡ dotted names params more (text ++ 46 ∷ [])
unfolding dotted
dotted_more names params more text h = ap (λ b. cond b (dotted names params more (text ++ 46 ∷ [])) text) h

pub dotted_on : (names : List (List ℕ)) (params : List (Name × Kind)) (k i : ℕ) (text new whole : List ℕ) → i < k → is_taken names params text ≡ true → new ≡ text ++ 46 ∷ [] → dotted names params (k - i) text ≡ whole
    → dotted names params (k - (i + 1)) new ≡ whole
dotted_on names params k i text new whole h t e so_far =
    let more : k - i ≡ suc (k - (i + 1)) = omega arith in
    ap (dotted names params (k - (i + 1))) e ∙ sym (dotted_more names params (k - (i + 1)) text t) ∙ ap (λ n. dotted names params n text) (sym more) ∙ so_far

pub dotted_end : (names : List (List ℕ)) (params : List (Name × Kind)) (k i : ℕ) (text : List ℕ) → k ≤ i → dotted names params (k - i) text ≡ text
unfolding dotted
dotted_end names params k i text h = let none : k - i ≡ 0 = omega arith in ap (λ n. dotted names params n text) none

-- ---- parameters keep their names

no_shorter : (b : Bool) (names more : List (List ℕ)) → length names ≤ length more → length names ≤ length (cond b names more)
no_shorter true names more h = omega arith
no_shorter false names more h = h

with_text_long : (names : List (List ℕ)) (text : List ℕ) → length names ≤ length (with_text names text)
with_text_long names text = no_shorter (nat_lt (place_of names text) (length names)) names (names ++ text ∷ []) (omega (arith, length-append names (text ∷ [])))

named_in : (names more : List (List ℕ)) (params : List (Name × Kind)) → length names ≤ length more → AreNamed names params → AreNamed more params
named_in names more [] h n = tt
named_in names more (p ∷ params) h n = let first : p.0.0 < length more = omega (arith, n.0) in (first, named_in names more params h n.1)

pub named_more : (names new : List (List ℕ)) (text : List ℕ) (params : List (Name × Kind)) → new ≡ with_text names text → AreNamed names params → AreNamed new params
named_more names new text params e n = named_in names new params (omega (arith, with_text_long names text, ap length e)) n

pub named_same : (names new : List (List ℕ)) (params : List (Name × Kind)) → new ≡ names → AreNamed names params → AreNamed new params
named_same names new params e n = named_in names new params (omega (arith, ap length e)) n

-- ---- one width more

filter_left : (p : Width → Bool) (widths : List Width) (i : ℕ) (d : Width) → i < length widths → filter p (drop i widths) ≡ cond (p (get_or widths i d)) (get_or widths i d ∷ filter p (drop (i + 1) widths)) (filter p (drop (i + 1) widths))
filter_left p widths i d h = ap (filter p) (drop_more widths i d h)

left_in : (p : Width → Bool) (widths : List Width) (i : ℕ) (d : Width) (r : Bool) → i < length widths → r ≡ p (get_or widths i d) → r ≡ true → filter p (drop i widths) ≡ get_or widths i d ∷ filter p (drop (i + 1) widths)
left_in p widths i d r h e t = filter_left p widths i d h ∙ ap (λ b. cond b (get_or widths i d ∷ filter p (drop (i + 1) widths)) (filter p (drop (i + 1) widths))) (sym e ∙ t)

left_out : (p : Width → Bool) (widths : List Width) (i : ℕ) (d : Width) (r : Bool) → i < length widths → r ≡ p (get_or widths i d) → r ≡ false → filter p (drop i widths) ≡ filter p (drop (i + 1) widths)
left_out p widths i d r h e t = filter_left p widths i d h ∙ ap (λ b. cond b (get_or widths i d ∷ filter p (drop (i + 1) widths)) (filter p (drop (i + 1) widths))) (sym e ∙ t)

none_left : (p : Width → Bool) (widths : List Width) (i : ℕ) → length widths ≤ i → filter p (drop i widths) ≡ []
none_left p widths i h = ap (filter p) (drop_of_length-le widths h)

variables_cons : (names : List (List ℕ)) (params : List (Name × Kind)) (w : Width) (ws : List Width) → variables_of names params (w ∷ ws) ≡ (input_name names params w, Var w) ∷ variables_of (with_text names (input_text names params w)) params ws
unfolding variables_of
variables_cons names params w ws = refl

names_cons : (names : List (List ℕ)) (params : List (Name × Kind)) (w : Width) (ws : List Width) → names_with names params (w ∷ ws) ≡ names_with (with_text names (input_text names params w)) params ws
unfolding names_with
names_cons names params w ws = refl

pub variables_in : (names new : List (List ℕ)) (params : List (Name × Kind)) (widths : List Width) (i : ℕ) (d : Width) (r : Bool) (name : Name) (inputs more whole : List (Name × Kind)) → i < length widths
    → r ≡ is_input_width params (get_or widths i d) → r ≡ true → name ≡ input_name names params (get_or widths i d) → new ≡ with_text names (input_text names params (get_or widths i d))
    → more ≡ inputs ++ (name, Var (get_or widths i d)) ∷ [] → inputs ++ variables_of names params (filter (is_input_width params) (drop i widths)) ≡ whole
    → more ++ variables_of new params (filter (is_input_width params) (drop (i + 1) widths)) ≡ whole
variables_in names new params widths i d r name inputs more whole h e t f g k so_far =
    let w = get_or widths i d in
    let ws = filter (is_input_width params) (drop (i + 1) widths) in
    let left : variables_of names params (filter (is_input_width params) (drop i widths)) ≡ (name, Var w) ∷ variables_of new params ws =
    ap (variables_of names params) (left_in (is_input_width params) widths i d r h e t) ∙ variables_cons names params w ws
    ∙ ap (λ x. (x, Var w) ∷ variables_of (with_text names (input_text names params w)) params ws) (sym f) ∙ ap (λ xs. (name, Var w) ∷ variables_of xs params ws) (sym g) in
    ap (λ xs. xs ++ variables_of new params ws) k ∙ append_assoc inputs ((name, Var w) ∷ []) (variables_of new params ws) ∙ ap (λ xs. inputs ++ xs) (sym left) ∙ so_far

pub names_in : (names new : List (List ℕ)) (params : List (Name × Kind)) (widths : List Width) (i : ℕ) (d : Width) (r : Bool) (whole : List (List ℕ)) → i < length widths
    → r ≡ is_input_width params (get_or widths i d) → r ≡ true → new ≡ with_text names (input_text names params (get_or widths i d))
    → names_with names params (filter (is_input_width params) (drop i widths)) ≡ whole → names_with new params (filter (is_input_width params) (drop (i + 1) widths)) ≡ whole
names_in names new params widths i d r whole h e t g so_far =
    let w = get_or widths i d in
    let ws = filter (is_input_width params) (drop (i + 1) widths) in
    ap (λ xs. names_with xs params ws) g ∙ sym (names_cons names params w ws) ∙ ap (names_with names params) (sym (left_in (is_input_width params) widths i d r h e t)) ∙ so_far

pub variables_out : (names new : List (List ℕ)) (params : List (Name × Kind)) (widths : List Width) (i : ℕ) (d : Width) (r : Bool) (inputs more whole : List (Name × Kind)) → i < length widths
    → r ≡ is_input_width params (get_or widths i d) → r ≡ false → new ≡ names → more ≡ inputs → inputs ++ variables_of names params (filter (is_input_width params) (drop i widths)) ≡ whole
    → more ++ variables_of new params (filter (is_input_width params) (drop (i + 1) widths)) ≡ whole
variables_out names new params widths i d r inputs more whole h e t g k so_far =
    let ws = filter (is_input_width params) (drop (i + 1) widths) in
    ap (λ xs. xs ++ variables_of new params ws) k ∙ ap (λ xs. inputs ++ variables_of xs params ws) g
    ∙ ap (λ xs. inputs ++ variables_of names params xs) (sym (left_out (is_input_width params) widths i d r h e t)) ∙ so_far

pub names_out : (names new : List (List ℕ)) (params : List (Name × Kind)) (widths : List Width) (i : ℕ) (d : Width) (r : Bool) (whole : List (List ℕ)) → i < length widths
    → r ≡ is_input_width params (get_or widths i d) → r ≡ false → new ≡ names → names_with names params (filter (is_input_width params) (drop i widths)) ≡ whole
    → names_with new params (filter (is_input_width params) (drop (i + 1) widths)) ≡ whole
names_out names new params widths i d r whole h e t g so_far =
    ap (λ xs. names_with xs params (filter (is_input_width params) (drop (i + 1) widths))) g ∙ ap (names_with names params) (sym (left_out (is_input_width params) widths i d r h e t)) ∙ so_far

pub variables_all : (names : List (List ℕ)) (params : List (Name × Kind)) (widths : List Width) (i : ℕ) (inputs whole : List (Name × Kind)) → length widths ≤ i
    → inputs ++ variables_of names params (filter (is_input_width params) (drop i widths)) ≡ whole → inputs ≡ whole
unfolding variables_of
variables_all names params widths i inputs whole h so_far =
    let none : variables_of names params (filter (is_input_width params) (drop i widths)) ≡ [] = ap (variables_of names params) (none_left (is_input_width params) widths i h) in
    sym (append-nil inputs) ∙ ap (λ xs. inputs ++ xs) (sym none) ∙ so_far

pub names_all : (names : List (List ℕ)) (params : List (Name × Kind)) (widths : List Width) (i : ℕ) (whole : List (List ℕ)) → length widths ≤ i
    → names_with names params (filter (is_input_width params) (drop i widths)) ≡ whole → names ≡ whole
unfolding names_with
names_all names params widths i whole h so_far = sym (ap (names_with names params) (none_left (is_input_width params) widths i h)) ∙ so_far
