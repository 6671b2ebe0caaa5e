-- The size that is counted on a table is that of its normal program.
use Rattle.std.proofs.Common.{◌≡◌, ℕ, zero, suc, ◌+◌, ◌-◌, ◌^◌, min, Bool, true, false, cond, Option, Some, None, List, [], ◌∷◌, ◌++◌, length, get_or, map, filter, refl, sym, ap, ◌∙◌, arith}
use Rattle.std.specs.List.{sum_by}
use Rattle.std.proofs.lemmas.List.{map_push}
use Rattle.std.proofs.lemmas.List.Sums.{sum_by-append, sum_by-cons}
use Rattle.occ_syntax.specs.occ_base.declared.event.Dir.{Dir}
use Rattle.occ_syntax.specs.occ_base.declared.event.Dir.TheVariants.{Input, Output}
use Rattle.occ_syntax.specs.occ_base.declared.event.Event.{Event}
use Rattle.occ_syntax.specs.occ_base.declared.names.Name.{Name}
use Rattle.occ_syntax.specs.occ_base.declared.width.Width.{Width}
use Rattle.occ_syntax.specs.occ_base.Names.{with_text}
use Rattle.occ_syntax.specs.declared.scope.Kind.{Kind}
use Rattle.occ_syntax.specs.Counts.{capped, controls, controls_of_branches, controls_of_cases}
use Rattle.occ_syntax.specs.Declarations.{declaring_all}
use Rattle.occ_syntax.specs.Tree.{Exp, Tree, Waiting}
use Rattle.occ_syntax.proofs.Counting.{controls-declaring}
use Rattle.occ_nform_table.specs.declared.table.TableRow.{TableRow}
use Rattle.occ_target.specs.Inputs.{input_text, input_variables, input_widths, variables_of}
use Rattle.occ_target.specs.Program.{normal_body, processes, state_choices, state_process}
use Rattle.occ_target.specs.Rows.{Frame, acceptance, behind, choices, chosen, end_branch, event_branches, guarded, is_in_branch, is_on, of_events, part_at, row_branches, row_process, value_choice, waits_for}
use Rattle.occ_target.specs.Sizes.{acceptance_size, events_size, row_size, size_behind, sizes_from, states_size}
use Rattle.occ_target.specs.States.{assigning}

-- ---- the size of a row's process, by those of the processes of the rows before it

size_at : (parts : List Tree) (n : ℕ) → get_or (map controls parts) n 1 ≡ controls (part_at parts n)
size_at [] zero = refl
size_at [] (suc n) = refl
size_at (p ∷ parts) zero = refl
size_at (p ∷ parts) (suc n) = size_at parts n

branch_size : Waiting × Tree → ℕ
branch_size b = 1 + controls b.1

guarded_size : (bs : List (Waiting × Tree)) → controls_of_branches (guarded bs) ≡ sum_by branch_size bs
unfolding branch_size
guarded_size [] = refl
guarded_size (b ∷ bs) = ap (λ n. 1 + controls b.1 + n) (guarded_size bs) ∙ sym (sum_by-cons branch_size b bs)

values_size : (f : Frame) (c : ℕ) (offers : List (Event × ℕ)) → controls_of_cases (choices (map (value_choice f c) offers)) ≡ sum_by (λ (o : Event × ℕ). 1 + get_or (map controls f.parts) o.1 1) offers
values_size f c [] = refl
values_size f c (o ∷ offers) = ap (λ n. 1 + controls (part_at f.parts o.1) + n) (values_size f c offers)
    ∙ ap (λ n. 1 + n + sum_by (λ (p : Event × ℕ). 1 + get_or (map controls f.parts) p.1 1) offers) (sym (size_at f.parts o.1))
    ∙ sym (sum_by-cons (λ (p : Event × ℕ). 1 + get_or (map controls f.parts) p.1 1) o offers)

behind_size : (f : Frame) (dir : Dir) (c n : ℕ) (offers : List (Event × ℕ)) → controls (behind f dir c n offers) ≡ size_behind (map controls f.parts) dir c n offers
behind_size f Input c n offers = ap (λ m. 1 + m) (values_size f c (filter (is_on c) offers))
behind_size f Output c n offers = sym (size_at f.parts n)

branch_if : (b : Bool) (x : Waiting × Tree) (rest : List (Waiting × Tree)) (n m : ℕ) → controls x.1 ≡ n → sum_by branch_size rest ≡ m → sum_by branch_size (cond b [] (x ∷ []) ++ rest) ≡ cond b 0 (1 + n) + m
unfolding branch_size
branch_if true x rest n m e f = f ∙ omega arith
branch_if false x rest n m e f = sum_by-cons branch_size x rest ∙ omega (arith, e, f)

events_are : (f : Frame) (before : Option Name) (offers : List (Event × ℕ)) → sum_by branch_size (event_branches f before offers) ≡ events_size (map controls f.parts) before offers
unfolding event_branches events_size
events_are f before [] = refl
events_are f before (o ∷ offers) = branch_if (is_in_branch before o.0) (waits_for f o.0.dir o.0.chan.0 o.0.value, behind f o.0.dir o.0.chan.0 o.1 (o ∷ offers)) (event_branches f (Some o.0.chan) offers) _ _
    (behind_size f o.0.dir o.0.chan.0 o.1 (o ∷ offers)) (events_are f (Some o.0.chan) offers)

accepts_are : (f : Frame) (offers : List (Event × ℕ)) (sets : List (List Event)) → sum_by branch_size (map (acceptance f offers) sets) ≡ sum_by (acceptance_size (map controls f.parts) offers) sets
unfolding branch_size
accepts_are f offers [] = refl
accepts_are f offers (set ∷ sets) =
    let one = guarded_size (of_events f (chosen set offers)) ∙ events_are f None (chosen set offers) in
    sum_by-cons branch_size (acceptance f offers set) (map (acceptance f offers) sets) ∙ omega (arith, one, accepts_are f offers sets, sum_by-cons (acceptance_size (map controls f.parts) offers) set sets)

assigning_size : (xs : List ℕ) (es : List Exp) → controls (assigning xs es) ≡ 1
assigning_size [] es = refl
assigning_size (x ∷ xs) es = refl

ends_are : (f : Frame) (states : List (List (Name × ℕ))) → sum_by branch_size (map (end_branch f) states) ≡ length states + length states
unfolding branch_size
ends_are f [] = refl
ends_are f (state ∷ states) =
    let one : controls (end_branch f state).1 ≡ 1 = assigning_size _ _ in
    sum_by-cons branch_size (end_branch f state) (map (end_branch f) states) ∙ omega (arith, one, ends_are f states)

row_is : (f : Frame) (row : TableRow) → controls (row_process f row) ≡ row_size (map controls f.parts) row
row_is f row =
    let all = guarded_size (row_branches f row) in
    let two = sum_by-append branch_size (of_events f row.offers ++ map (acceptance f row.offers) row.accepts) (map (end_branch f) row.ends) in
    let one = sum_by-append branch_size (of_events f row.offers) (map (acceptance f row.offers) row.accepts) in
    omega (arith, all, two, one, events_are f None row.offers, accepts_are f row.offers row.accepts, ends_are f row.ends)

-- ---- sizes that are capped

-- the sizes are those of the other list, capped
AreCapped : List ℕ → List ℕ → Type 0
AreCapped sizes whole = (n : ℕ) → get_or sizes n 1 ≡ capped (get_or whole n 1)

are_capped : (whole : List ℕ) → AreCapped (map capped whole) whole
unfolding AreCapped
are_capped [] zero = refl
are_capped [] (suc n) = refl
are_capped (x ∷ whole) zero = refl
are_capped (x ∷ whole) (suc n) = are_capped whole n

capped_sum : (a b x y : ℕ) → capped a ≡ capped b → capped x ≡ capped y → capped (a + x) ≡ capped (b + y)
capped_sum a b x y e f = omega arith

capped_more : (a b x : ℕ) → capped a ≡ capped b → capped (a + x) ≡ capped (b + x)
capped_more a b x e = omega arith

capped_twice : (a b : ℕ) → a ≡ capped b → capped a ≡ capped b
capped_twice a b e = omega arith

values_capped : (sizes whole : List ℕ) (offers : List (Event × ℕ)) → AreCapped sizes whole
    → capped (sum_by (λ (o : Event × ℕ). 1 + get_or sizes o.1 1) offers) ≡ capped (sum_by (λ (o : Event × ℕ). 1 + get_or whole o.1 1) offers)
unfolding AreCapped
values_capped sizes whole [] h = refl
values_capped sizes whole (o ∷ offers) h =
    ap capped (sum_by-cons (λ (p : Event × ℕ). 1 + get_or sizes p.1 1) o offers)
    ∙ capped_sum _ _ _ _ (capped_sum 1 1 _ _ refl (capped_twice _ _ (h o.1))) (values_capped sizes whole offers h)
    ∙ ap capped (sym (sum_by-cons (λ (p : Event × ℕ). 1 + get_or whole p.1 1) o offers))

behind_capped : (sizes whole : List ℕ) (dir : Dir) (c n : ℕ) (offers : List (Event × ℕ)) → AreCapped sizes whole → capped (size_behind sizes dir c n offers) ≡ capped (size_behind whole dir c n offers)
unfolding AreCapped
behind_capped sizes whole Input c n offers h = capped_sum 1 1 _ _ refl (values_capped sizes whole (filter (is_on c) offers) h)
behind_capped sizes whole Output c n offers h = capped_twice _ _ (h n)

if_capped : (b : Bool) (x y : ℕ) → capped x ≡ capped y → capped (cond b 0 (1 + x)) ≡ capped (cond b 0 (1 + y))
if_capped true x y e = refl
if_capped false x y e = capped_sum 1 1 x y refl e

events_capped : (sizes whole : List ℕ) (before : Option Name) (offers : List (Event × ℕ)) → AreCapped sizes whole → capped (events_size sizes before offers) ≡ capped (events_size whole before offers)
unfolding events_size
events_capped sizes whole before [] h = refl
events_capped sizes whole before (o ∷ offers) h = capped_sum _ _ _ _ (if_capped (is_in_branch before o.0) _ _ (behind_capped sizes whole o.0.dir o.0.chan.0 o.1 (o ∷ offers) h)) (events_capped sizes whole (Some o.0.chan) offers h)

accepts_capped : (sizes whole : List ℕ) (offers : List (Event × ℕ)) (sets : List (List Event)) → AreCapped sizes whole
    → capped (sum_by (acceptance_size sizes offers) sets) ≡ capped (sum_by (acceptance_size whole offers) sets)
accepts_capped sizes whole offers [] h = refl
accepts_capped sizes whole offers (set ∷ sets) h =
    ap capped (sum_by-cons (acceptance_size sizes offers) set sets)
    ∙ capped_sum _ _ _ _ (capped_sum 2 2 _ _ refl (events_capped sizes whole None (chosen set offers) h)) (accepts_capped sizes whole offers sets h)
    ∙ ap capped (sym (sum_by-cons (acceptance_size whole offers) set sets))

row_capped : (sizes whole : List ℕ) (row : TableRow) → AreCapped sizes whole → capped (row_size sizes row) ≡ capped (row_size whole row)
row_capped sizes whole row h =
    capped_more _ _ (length row.ends) (capped_more _ _ (length row.ends)
    (capped_sum _ _ _ _ (capped_sum 1 1 _ _ refl (events_capped sizes whole None row.offers h)) (accepts_capped sizes whole row.offers row.accepts h)))

states_capped : (sizes whole : List ℕ) (states : List ℕ) → AreCapped sizes whole → capped (states_size sizes states) ≡ capped (states_size whole states)
unfolding AreCapped
states_capped sizes whole [] h = refl
states_capped sizes whole (n ∷ states) h =
    ap capped (sum_by-cons (λ (m : ℕ). 1 + get_or sizes m 1) n states)
    ∙ capped_sum _ _ _ _ (capped_sum 1 1 _ _ refl (capped_twice _ _ (h n))) (states_capped sizes whole states h)
    ∙ ap capped (sym (sum_by-cons (λ (m : ℕ). 1 + get_or whole m 1) n states))

-- ---- the whole table

sizes_are : (params inputs : List (Name × Kind)) (rows : List TableRow) (parts : List Tree) → sizes_from (map capped (map controls parts)) rows ≡ map capped (map controls (processes params inputs parts rows))
unfolding sizes_from processes
sizes_are params inputs [] parts = refl
sizes_are params inputs (row ∷ rows) parts =
    let f : Frame = record { params = params; inputs = inputs; parts = parts } in
    let p = row_process f row in
    let size : capped (row_size (map capped (map controls parts)) row) ≡ capped (controls p) =
    row_capped (map capped (map controls parts)) (map controls parts) row (are_capped (map controls parts)) ∙ ap capped (sym (row_is f row)) in
    let one : map capped (map controls (parts ++ p ∷ [])) ≡ map capped (map controls parts) ++ capped (controls p) ∷ [] = ap (map capped) (map_push controls parts p) ∙ map_push capped (map controls parts) (controls p) in
    ap (λ xs. sizes_from xs rows) (ap (λ n. map capped (map controls parts) ++ n ∷ []) size ∙ sym one) ∙ sizes_are params inputs rows (parts ++ p ∷ [])

states_are : (params : List (Name × Kind)) (parts : List Tree) (k : ℕ) (states : List ℕ) → controls_of_cases (choices (state_choices params parts k states)) ≡ states_size (map controls parts) states
unfolding state_choices
states_are params parts k [] = refl
states_are params parts k (n ∷ states) = ap (λ m. 1 + controls (part_at parts n) + m) (states_are params parts (k + 1) states)
    ∙ ap (λ m. 1 + m + states_size (map controls parts) states) (sym (size_at parts n)) ∙ sym (sum_by-cons (λ (m : ℕ). 1 + get_or (map controls parts) m 1) n states)

declaring_size : (ds : List (Name × Kind)) (p : Tree) → controls (declaring_all ds p) ≡ length ds + controls p
declaring_size [] p = omega arith
declaring_size (d ∷ ds) p = controls-declaring d.0.0 d.1 (declaring_all ds p) ∙ omega (arith, declaring_size ds p)

variables_count : (names : List (List ℕ)) (params : List (Name × Kind)) (ws : List Width) → length (variables_of names params ws) ≡ length ws
unfolding variables_of
variables_count names params [] = refl
variables_count names params (w ∷ ws) = ap suc (variables_count (with_text names (input_text names params w)) params ws)

counted_whole : (cases one inputs count s t : ℕ) → cases ≡ capped s → one ≡ min (cases + 1) (2 ^ 64 - 1) → inputs ≡ capped t → count ≡ min (one + inputs) (2 ^ 64 - 1) → count ≡ capped (t + (1 + s))
counted_whole cases one inputs count s t e f g h = omega arith

-- what is counted is the size of the body
pub table_counted : (names : List (List ℕ)) (params ps : List (Name × Kind)) (rows : List TableRow) (states ss sizes items : List ℕ) (cases one inputs count : ℕ) → ps ≡ params → ss ≡ states → items ≡ sizes
    → sizes ≡ sizes_from [] rows → cases ≡ capped (states_size items ss) → one ≡ min (cases + 1) (2 ^ 64 - 1) → inputs ≡ capped (length (input_widths ps)) → count ≡ min (one + inputs) (2 ^ 64 - 1)
    → count ≡ capped (controls (normal_body names params rows states))
table_counted names params ps rows states ss sizes items cases one inputs count a b c d e f g h =
    let ts = input_variables names params in
    let parts = processes params ts [] rows in
    let are : items ≡ map capped (map controls parts) = c ∙ d ∙ sizes_are params ts rows [] in
    let cases_are : cases ≡ capped (states_size (map controls parts) states) = e ∙ ap (λ xs. capped (states_size xs ss)) are ∙ ap (λ xs. capped (states_size (map capped (map controls parts)) xs)) b
    ∙ states_capped (map capped (map controls parts)) (map controls parts) states (are_capped (map controls parts)) in
    let inputs_are : inputs ≡ capped (length ts) = g ∙ ap (λ xs. capped (length (input_widths xs))) a ∙ ap capped (sym (variables_count names params (input_widths params))) in
    let whole : controls (normal_body names params rows states) ≡ length ts + (1 + states_size (map controls parts) states) = declaring_size ts (state_process params parts states)
    ∙ ap (λ n. length ts + (1 + n)) (states_are params parts 0 states) in
    counted_whole cases one inputs count (states_size (map controls parts) states) (length ts) cases_are f inputs_are h ∙ ap capped (sym whole)
