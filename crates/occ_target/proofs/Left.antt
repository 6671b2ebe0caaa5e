-- Definitions that go through a list, one step on where the loops of the code stand.
use Rattle.std.proofs.Common.{◌≡◌, ℕ, ◌+◌, ◌-◌, ◌^◌, ◌<◌, ◌≤◌, min, List, [], ◌∷◌, ◌++◌, length, get_or, take, drop, Bool, true, false, cond, Option, Some, None, map, filter, append_assoc, append-nil, sym, ap, ◌∙◌, arith}
use Rattle.std.proofs.lemmas.List.{drop-drop, drop_more, length-drop, map_push, take_all}
use Rattle.std.proofs.lemmas.List.Elements.{filter_more}
use Rattle.std.proofs.Math.ListN.{drop_of_length-le}
use Rattle.occ_syntax.specs.occ_base.declared.event.Dir.TheVariants.{Input}
use Rattle.occ_syntax.specs.occ_base.declared.event.Event.{Event}
use Rattle.occ_syntax.specs.occ_base.declared.names.Name.{Name}
use Rattle.occ_syntax.specs.declared.scope.Kind.{Kind}
use Rattle.occ_syntax.specs.Counts.{capped}
use Rattle.occ_syntax.specs.declared.expr.Expr.{Expr}
use Rattle.occ_syntax.specs.declared.expr.Guard.{Guard}
use Rattle.occ_syntax.specs.declared.proc.Proc.{Proc}
use Rattle.occ_syntax.specs.Tree.{truth, Tree, Waiting}
use Rattle.occ_syntax.specs.View.{branches, cases, exp, tree, waiting}
use Rattle.occ_nform_table.specs.declared.table.TableRow.{TableRow}
use Rattle.occ_nform_table.specs.Texts.{state_at_place}
use Rattle.occ_target.specs.Program.{processes, state_choices}
use Rattle.occ_target.specs.Rows.{Frame, begins_with, behind, choices, chosen, event_branches, guarded, is_in_branch, is_on, of_events, part_at, row_process, value_choice, value_choices, waits_for}
use Rattle.occ_target.specs.Sizes.{events_size, row_size, size_behind, sizes_from}
use Rattle.occ_target.specs.States.{condition}
use Rattle.occ_target.proofs.Views.{one_branch, one_choice}

pub events_more : (sizes : List ℕ) (before : Option Name) (offers : List (Event × ℕ)) (i : ℕ) (d : Event × ℕ) → i < length offers
    → events_size sizes before (drop i offers) ≡ cond (is_in_branch before (get_or offers i d).0) 0 (1 + size_behind sizes (get_or offers i d).0.dir (get_or offers i d).0.chan.0 (get_or offers i d).1 (drop i offers))
    + events_size sizes (Some (get_or offers i d).0.chan) (drop (i + 1) offers)
unfolding events_size
events_more sizes before offers i d h =
    let e = drop_more offers i d h in
    ap (events_size sizes before) e ∙ ap (λ xs. cond (is_in_branch before (get_or offers i d).0) 0 (1 + size_behind sizes (get_or offers i d).0.dir (get_or offers i d).0.chan.0 (get_or offers i d).1 xs)
    + events_size sizes (Some (get_or offers i d).0.chan) (drop (i + 1) offers)) (sym e)

pub events_done : (sizes : List ℕ) (before : Option Name) (offers : List (Event × ℕ)) (i : ℕ) → length offers ≤ i → events_size sizes before (drop i offers) ≡ 0
unfolding events_size
events_done sizes before offers i h = ap (events_size sizes before) (drop_of_length-le offers h)

pub branches_more : (f : Frame) (before : Option Name) (offers : List (Event × ℕ)) (i : ℕ) (d : Event × ℕ) → i < length offers
    → event_branches f before (drop i offers) ≡ cond (is_in_branch before (get_or offers i d).0) [] ((waits_for f (get_or offers i d).0.dir (get_or offers i d).0.chan.0 (get_or offers i d).0.value, behind f (get_or offers i d).0.dir (get_or offers i d).0.chan.0 (get_or offers i d).1 (drop i offers)) ∷ [])
    ++ event_branches f (Some (get_or offers i d).0.chan) (drop (i + 1) offers)
unfolding event_branches
branches_more f before offers i d h =
    let e = drop_more offers i d h in
    ap (event_branches f before) e ∙ ap (λ xs. cond (is_in_branch before (get_or offers i d).0) [] ((waits_for f (get_or offers i d).0.dir (get_or offers i d).0.chan.0 (get_or offers i d).0.value, behind f (get_or offers i d).0.dir (get_or offers i d).0.chan.0 (get_or offers i d).1 xs) ∷ [])
    ++ event_branches f (Some (get_or offers i d).0.chan) (drop (i + 1) offers)) (sym e)

pub branches_done : (f : Frame) (before : Option Name) (offers : List (Event × ℕ)) (i : ℕ) → length offers ≤ i → event_branches f before (drop i offers) ≡ []
unfolding event_branches
branches_done f before offers i h = ap (event_branches f before) (drop_of_length-le offers h)

pub chosen_more : (set : List Event) (offers : List (Event × ℕ)) (i : ℕ) (d : Event × ℕ) → i < length offers
    → chosen set (drop i offers) ≡ cond (begins_with set (get_or offers i d).0) (get_or offers i d ∷ chosen (drop 1 set) (drop (i + 1) offers)) (chosen set (drop (i + 1) offers))
unfolding chosen
chosen_more set offers i d h = ap (chosen set) (drop_more offers i d h)

pub chosen_done : (set : List Event) (offers : List (Event × ℕ)) (i : ℕ) → length offers ≤ i → chosen set (drop i offers) ≡ []
unfolding chosen
chosen_done set offers i h = ap (chosen set) (drop_of_length-le offers h)

pub sizes_more : (sizes : List ℕ) (rows : List TableRow) (i : ℕ) (d : TableRow) → i < length rows
    → sizes_from sizes (drop i rows) ≡ sizes_from (sizes ++ capped (row_size sizes (get_or rows i d)) ∷ []) (drop (i + 1) rows)
unfolding sizes_from
sizes_more sizes rows i d h = ap (sizes_from sizes) (drop_more rows i d h)

pub sizes_done : (sizes : List ℕ) (rows : List TableRow) (i : ℕ) → length rows ≤ i → sizes_from sizes (drop i rows) ≡ sizes
unfolding sizes_from
sizes_done sizes rows i h = ap (sizes_from sizes) (drop_of_length-le rows h)

pub processes_more : (params inputs : List (Name × Kind)) (parts : List Tree) (rows : List TableRow) (i : ℕ) (d : TableRow) → i < length rows
    → processes params inputs parts (drop i rows) ≡ processes params inputs (parts ++ row_process (record { params = params; inputs = inputs; parts = parts }) (get_or rows i d) ∷ []) (drop (i + 1) rows)
unfolding processes
processes_more params inputs parts rows i d h = ap (processes params inputs parts) (drop_more rows i d h)

pub processes_done : (params inputs : List (Name × Kind)) (parts : List Tree) (rows : List TableRow) (i : ℕ) → length rows ≤ i → processes params inputs parts (drop i rows) ≡ parts
unfolding processes
processes_done params inputs parts rows i h = ap (processes params inputs parts) (drop_of_length-le rows h)

pub state_choices_more : (params : List (Name × Kind)) (parts : List Tree) (k : ℕ) (states : List ℕ) (i d : ℕ) → i < length states
    → state_choices params parts k (drop i states) ≡ (condition params (state_at_place params k), part_at parts (get_or states i d)) ∷ state_choices params parts (k + 1) (drop (i + 1) states)
unfolding state_choices
state_choices_more params parts k states i d h = ap (state_choices params parts k) (drop_more states i d h)

pub state_choices_done : (params : List (Name × Kind)) (parts : List Tree) (k : ℕ) (states : List ℕ) (i : ℕ) → length states ≤ i → state_choices params parts k (drop i states) ≡ []
unfolding state_choices
state_choices_done params parts k states i h = ap (state_choices params parts k) (drop_of_length-le states h)

-- what is left of a slice from a place on
pub rest_is : {A : Type 0} (xs : List A) (i : ℕ) → take (length xs - i) (drop i xs) ≡ drop i xs
rest_is xs i = take_all (length xs - i) (drop i xs) (omega (arith, length-drop i xs))

-- ---- counts, where a part is counted and the rest is left

pub two_more : (n count one size both s : ℕ) → count ≡ capped n → one ≡ min (count + 1) (2 ^ 64 - 1) → size ≡ capped s → both ≡ min (one + size) (2 ^ 64 - 1) → both ≡ capped (n + (1 + s))
two_more n count one size both s e f g h = omega arith

pub count_done : (n count left whole : ℕ) → count ≡ capped n → n + left ≡ whole → left ≡ 0 → count ≡ capped whole
count_done n count left whole e f g = let same : n ≡ whole = omega arith in e ∙ ap capped same

-- ---- steps of the loops of the code

-- what stands for no offer
abbrev pub no_offer : Event × ℕ
no_offer = (record { chan = record { 0 = 0 }; dir = Input; value = 0 }, 0)

pub events_in : (sizes : List ℕ) (before : Option Name) (offers : List (Event × ℕ)) (i : ℕ) (d : Event × ℕ) (n count new : ℕ) (r : Bool) → i < length offers → count ≡ capped n
    → n + events_size sizes before (drop i offers) ≡ events_size sizes None offers → r ≡ is_in_branch before (get_or offers i d).0 → r ≡ true → new ≡ count
    → (m : ℕ) × (new ≡ capped m) × (m + events_size sizes (Some (get_or offers i d).0.chan) (drop (i + 1) offers) ≡ events_size sizes None offers)
events_in sizes before offers i d n count new r h e f g t k =
    let more = events_more sizes before offers i d h ∙ ap (λ b. cond b 0 (1 + size_behind sizes (get_or offers i d).0.dir (get_or offers i d).0.chan.0 (get_or offers i d).1 (drop i offers))
    + events_size sizes (Some (get_or offers i d).0.chan) (drop (i + 1) offers)) (sym g ∙ t) in
    (n, k ∙ e, omega (arith, more))

pub events_out : (sizes : List ℕ) (before : Option Name) (offers : List (Event × ℕ)) (i : ℕ) (d : Event × ℕ) (n count one size both new : ℕ) (r : Bool) → i < length offers → count ≡ capped n
    → n + events_size sizes before (drop i offers) ≡ events_size sizes None offers → r ≡ is_in_branch before (get_or offers i d).0 → r ≡ false
    → one ≡ min (count + 1) (2 ^ 64 - 1) → size ≡ capped (size_behind sizes (get_or offers i d).0.dir (get_or offers i d).0.chan.0 (get_or offers i d).1 (take (length offers - i) (drop i offers)))
    → both ≡ min (one + size) (2 ^ 64 - 1) → new ≡ both
    → (m : ℕ) × (new ≡ capped m) × (m + events_size sizes (Some (get_or offers i d).0.chan) (drop (i + 1) offers) ≡ events_size sizes None offers)
events_out sizes before offers i d n count one size both new r h e f g t a b c k =
    let s = size_behind sizes (get_or offers i d).0.dir (get_or offers i d).0.chan.0 (get_or offers i d).1 (drop i offers) in
    let more = events_more sizes before offers i d h ∙ ap (λ b. cond b 0 (1 + s) + events_size sizes (Some (get_or offers i d).0.chan) (drop (i + 1) offers)) (sym g ∙ t) in
    let whole : size ≡ capped s = b ∙ ap (λ xs. capped (size_behind sizes (get_or offers i d).0.dir (get_or offers i d).0.chan.0 (get_or offers i d).1 xs)) (rest_is offers i) in
    (n + (1 + s), k ∙ two_more n count one size both s e a whole c, omega (arith, more))

pub chosen_in : (set : List Event) (offers : List (Event × ℕ)) (place i : ℕ) (d : Event × ℕ) (found new : List (Event × ℕ)) (r : Bool) → i < length offers
    → found ++ chosen (drop place set) (drop i offers) ≡ chosen set offers → r ≡ begins_with (drop place set) (get_or offers i d).0 → r ≡ true → new ≡ found ++ get_or offers i d ∷ []
    → new ++ chosen (drop (place + 1) set) (drop (i + 1) offers) ≡ chosen set offers
chosen_in set offers place i d found new r h e g t k =
    let o = get_or offers i d in
    let left = chosen (drop (place + 1) set) (drop (i + 1) offers) in
    let more : chosen (drop place set) (drop i offers) ≡ o ∷ left = chosen_more (drop place set) offers i d h ∙ ap (λ b. cond b (o ∷ chosen (drop 1 (drop place set)) (drop (i + 1) offers)) (chosen (drop place set) (drop (i + 1) offers))) (sym g ∙ t)
    ∙ ap (λ xs. o ∷ chosen xs (drop (i + 1) offers)) (drop-drop 1 place set) in
    ap (λ xs. xs ++ left) k ∙ append_assoc found (o ∷ []) left ∙ ap (λ xs. found ++ xs) (sym more) ∙ e

pub chosen_out : (set : List Event) (offers : List (Event × ℕ)) (place i : ℕ) (d : Event × ℕ) (found new : List (Event × ℕ)) (r : Bool) → i < length offers
    → found ++ chosen (drop place set) (drop i offers) ≡ chosen set offers → r ≡ begins_with (drop place set) (get_or offers i d).0 → r ≡ false → new ≡ found
    → new ++ chosen (drop place set) (drop (i + 1) offers) ≡ chosen set offers
chosen_out set offers place i d found new r h e g t k =
    let more = chosen_more (drop place set) offers i d h ∙ ap (λ b. cond b (get_or offers i d ∷ chosen (drop 1 (drop place set)) (drop (i + 1) offers)) (chosen (drop place set) (drop (i + 1) offers))) (sym g ∙ t) in
    ap (λ xs. xs ++ chosen (drop place set) (drop (i + 1) offers)) k ∙ ap (λ xs. found ++ xs) (sym more) ∙ e

-- what was found is all where nothing is left
pub nothing_left : {A : Type 0} (found left whole : List A) → found ++ left ≡ whole → left ≡ [] → found ≡ whole
nothing_left found left whole e f = sym (append-nil found) ∙ ap (λ xs. found ++ xs) (sym f) ∙ e

pub choices_in : (f : Frame) (c : ℕ) (offers : List (Event × ℕ)) (i : ℕ) (d : Event × ℕ) (made new : List (Expr × Proc)) (e : Expr) (p : Proc) (r : Bool) → i < length offers
    → cases made ≡ choices (value_choices f c (take i offers)) → r ≡ is_on c (get_or offers i d) → r ≡ true → exp e ≡ (value_choice f c (get_or offers i d)).0 → tree p ≡ part_at f.parts (get_or offers i d).1
    → new ≡ made ++ (e, p) ∷ [] → cases new ≡ choices (value_choices f c (take (i + 1) offers))
choices_in f c offers i d made new e p r h so_far g t x y k =
    let more : filter (is_on c) (take (i + 1) offers) ≡ filter (is_on c) (take i offers) ++ get_or offers i d ∷ [] =
    filter_more (is_on c) offers i d h ∙ ap (λ b. filter (is_on c) (take i offers) ++ cond b (get_or offers i d ∷ []) []) (sym g ∙ t) in
    ap cases k ∙ one_choice made (value_choices f c (take i offers)) (e, p) (value_choice f c (get_or offers i d)) so_far x y
    ∙ ap choices (sym (map_push (value_choice f c) (filter (is_on c) (take i offers)) (get_or offers i d)) ∙ ap (map (value_choice f c)) (sym more))

pub choices_out : (f : Frame) (c : ℕ) (offers : List (Event × ℕ)) (i : ℕ) (d : Event × ℕ) (made new : List (Expr × Proc)) (r : Bool) → i < length offers
    → cases made ≡ choices (value_choices f c (take i offers)) → r ≡ is_on c (get_or offers i d) → r ≡ false → new ≡ made → cases new ≡ choices (value_choices f c (take (i + 1) offers))
choices_out f c offers i d made new r h so_far g t k =
    let more : filter (is_on c) (take (i + 1) offers) ≡ filter (is_on c) (take i offers) =
    filter_more (is_on c) offers i d h ∙ ap (λ b. filter (is_on c) (take i offers) ++ cond b (get_or offers i d ∷ []) []) (sym g ∙ t) ∙ append-nil (filter (is_on c) (take i offers)) in
    ap cases k ∙ so_far ∙ ap (λ xs. choices (map (value_choice f c) xs)) (sym more)

-- the branches made so far, where those that are left make them all
abbrev pub AreMadeSoFar : Frame → Option Name → List (Event × ℕ) → List (Event × ℕ) → List (Guard × Proc) → Type 0
AreMadeSoFar f before left offers made = (front : List (Waiting × Tree)) × (branches made ≡ guarded front) × (front ++ event_branches f before left ≡ of_events f offers)

pub branches_in : (f : Frame) (before : Option Name) (offers : List (Event × ℕ)) (i : ℕ) (d : Event × ℕ) (made new : List (Guard × Proc)) (r : Bool) → i < length offers
    → AreMadeSoFar f before (drop i offers) offers made → r ≡ is_in_branch before (get_or offers i d).0 → r ≡ true → new ≡ made → AreMadeSoFar f (Some (get_or offers i d).0.chan) (drop (i + 1) offers) offers new
branches_in f before offers i d made new r h so_far g t k =
    let o = get_or offers i d in
    let more = branches_more f before offers i d h ∙ ap (λ b. cond b [] ((waits_for f o.0.dir o.0.chan.0 o.0.value, behind f o.0.dir o.0.chan.0 o.1 (drop i offers)) ∷ []) ++ event_branches f (Some o.0.chan) (drop (i + 1) offers)) (sym g ∙ t) in
    (so_far.0, ap branches k ∙ so_far.1, ap (λ xs. so_far.0 ++ xs) (sym more) ∙ so_far.2)

pub branches_out : (f : Frame) (before : Option Name) (offers : List (Event × ℕ)) (i : ℕ) (d : Event × ℕ) (made new : List (Guard × Proc)) (w : Guard) (p : Proc) (r : Bool) → i < length offers
    → AreMadeSoFar f before (drop i offers) offers made → r ≡ is_in_branch before (get_or offers i d).0 → r ≡ false → exp w.condition ≡ truth true
    → waiting w.wait ≡ waits_for f (get_or offers i d).0.dir (get_or offers i d).0.chan.0 (get_or offers i d).0.value
    → tree p ≡ behind f (get_or offers i d).0.dir (get_or offers i d).0.chan.0 (get_or offers i d).1 (take (length offers - i) (drop i offers)) → new ≡ made ++ (w, p) ∷ []
    → AreMadeSoFar f (Some (get_or offers i d).0.chan) (drop (i + 1) offers) offers new
branches_out f before offers i d made new w p r h so_far g t x y z k =
    let o = get_or offers i d in
    let b : Waiting × Tree = (waits_for f o.0.dir o.0.chan.0 o.0.value, behind f o.0.dir o.0.chan.0 o.1 (drop i offers)) in
    let rest = event_branches f (Some o.0.chan) (drop (i + 1) offers) in
    let more : event_branches f before (drop i offers) ≡ b ∷ rest = branches_more f before offers i d h ∙ ap (λ q. cond q [] (b ∷ []) ++ rest) (sym g ∙ t) in
    let part : tree p ≡ b.1 = z ∙ ap (behind f o.0.dir o.0.chan.0 o.1) (rest_is offers i) in
    (so_far.0 ++ b ∷ [], ap branches k ∙ one_branch made so_far.0 (w, p) b so_far.1 x y part, append_assoc so_far.0 (b ∷ []) rest ∙ ap (λ xs. so_far.0 ++ xs) (sym more) ∙ so_far.2)

pub branches_all : (f : Frame) (before : Option Name) (left offers : List (Event × ℕ)) (made : List (Guard × Proc)) → AreMadeSoFar f before left offers made → event_branches f before left ≡ []
    → branches made ≡ guarded (of_events f offers)
branches_all f before left offers made so_far h = so_far.1 ∙ ap guarded (nothing_left so_far.0 (event_branches f before left) (of_events f offers) so_far.2 h)
