-- Processes of rows, choices of states and the body, step by step.
use Rattle.std.proofs.Common.{◌≡◌, ℕ, ◌+◌, ◌<◌, ◌≤◌, true, List, [], ◌∷◌, ◌++◌, length, get_or, take, drop, map, append_assoc, sym, ap, ◌∙◌, arith}
use Rattle.std.proofs.lemmas.List.{length-append, map_more, map_push}
use Rattle.occ_syntax.specs.occ_base.declared.event.Event.{Event}
use Rattle.occ_syntax.specs.occ_base.declared.names.Name.{Name}
use Rattle.occ_syntax.specs.declared.expr.Expr.{Expr}
use Rattle.occ_syntax.specs.declared.expr.Guard.{Guard}
use Rattle.occ_syntax.specs.declared.proc.Proc.{Proc}
use Rattle.occ_syntax.specs.declared.scope.Kind.{Kind}
use Rattle.occ_syntax.specs.Counts.{capped}
use Rattle.occ_syntax.specs.Tree.{Exp, select, truth, Cases, Tree, Waiting}
use Rattle.occ_syntax.specs.View.{branches, cases, exp, tree, waiting}
use Rattle.occ_nform_table.specs.declared.table.TableRow.{TableRow}
use Rattle.occ_nform_table.specs.Texts.{state_at_place}
use Rattle.occ_target.specs.Program.{processes, state_choices, state_process}
use Rattle.occ_target.specs.Rows.{Frame, acceptance, choices, end_branch, guarded, of_events, part_at, row_branches, row_process}
use Rattle.occ_target.specs.Sizes.{row_size, sizes_from}
use Rattle.occ_target.specs.States.{condition}
use Rattle.occ_target.proofs.Left.{nothing_left, processes_more, sizes_more, state_choices_done, state_choices_more}
use Rattle.occ_target.proofs.Views.{one_branch, one_choice}

-- a list that has grown by one item
pub grown : {A : Type 0} (xs new : List A) (x : A) (i : ℕ) → new ≡ xs ++ x ∷ [] → length xs ≡ i → length new ≡ i + 1
grown xs new x i k h = let more = length-append xs (x ∷ []) in let long = ap length k in omega (arith, more, long)

pub sizes_step : (sizes read new : List ℕ) (rows : List TableRow) (i : ℕ) (row : TableRow) (size : ℕ) (whole : List ℕ) → i < length rows → row ≡ get_or rows i row → read ≡ sizes
    → size ≡ capped (row_size read row) → new ≡ sizes ++ size ∷ [] → sizes_from sizes (drop i rows) ≡ whole → sizes_from new (drop (i + 1) rows) ≡ whole
sizes_step sizes read new rows i row size whole h e f g k so_far =
    let size_is : size ≡ capped (row_size sizes (get_or rows i row)) = g ∙ ap (λ xs. capped (row_size xs row)) f ∙ ap (λ r. capped (row_size sizes r)) e in
    ap (λ xs. sizes_from xs (drop (i + 1) rows)) (k ∙ ap (λ n. sizes ++ n ∷ []) size_is) ∙ sym (sizes_more sizes rows i row h) ∙ so_far

pub processes_step : (params inputs : List (Name × Kind)) (made read new : List Proc) (rows : List TableRow) (i : ℕ) (row : TableRow) (part : Proc) (whole : List Tree) → i < length rows → row ≡ get_or rows i row
    → read ≡ made → tree part ≡ row_process (record { params = params; inputs = inputs; parts = map tree read }) row → new ≡ made ++ part ∷ []
    → processes params inputs (map tree made) (drop i rows) ≡ whole → processes params inputs (map tree new) (drop (i + 1) rows) ≡ whole
processes_step params inputs made read new rows i row part whole h e f g k so_far =
    let over : List Tree → TableRow → Tree = λ ps r. row_process (record { params = params; inputs = inputs; parts = ps }) r in
    let part_is : tree part ≡ over (map tree made) (get_or rows i row) = g ∙ ap (λ ps. over (map tree ps) row) f ∙ ap (over (map tree made)) e in
    ap (λ ps. processes params inputs ps (drop (i + 1) rows)) (ap (map tree) k ∙ map_push tree made part ∙ ap (λ p. map tree made ++ p ∷ []) part_is)
    ∙ sym (processes_more params inputs (map tree made) rows i row h) ∙ so_far

pub states_step : (params : List (Name × Kind)) (parts : List Tree) (states : List ℕ) (i d : ℕ) (front : List (Exp × Tree)) (made new : List (Expr × Proc)) (e : Expr) (p : Proc) (whole : List (Exp × Tree)) → i < length states
    → cases made ≡ choices front → front ++ state_choices params parts i (drop i states) ≡ whole → exp e ≡ condition params (state_at_place params i) → tree p ≡ part_at parts (get_or states i d) → new ≡ made ++ (e, p) ∷ []
    → (x : List (Exp × Tree)) × (cases new ≡ choices x) × (x ++ state_choices params parts (i + 1) (drop (i + 1) states) ≡ whole)
states_step params parts states i d front made new e p whole h so_far left x y k =
    let c : Exp × Tree = (condition params (state_at_place params i), part_at parts (get_or states i d)) in
    let rest = state_choices params parts (i + 1) (drop (i + 1) states) in (
      front ++ c ∷ [],
      ap cases k ∙ one_choice made front (e, p) c so_far x y,
      append_assoc front (c ∷ []) rest ∙ ap (λ xs. front ++ xs) (sym (state_choices_more params parts i states i d h)) ∙ left,
    )

pub states_all : (params : List (Name × Kind)) (parts : List Tree) (states : List ℕ) (i : ℕ) (front : List (Exp × Tree)) (made : List (Expr × Proc)) (whole : List (Exp × Tree)) → length states ≤ i
    → cases made ≡ choices front → front ++ state_choices params parts i (drop i states) ≡ whole → cases made ≡ choices whole
states_all params parts states i front made whole h so_far left = so_far ∙ ap choices (nothing_left front (state_choices params parts i (drop i states)) whole left (state_choices_done params parts i states i h))

-- one branch more of a list of them
pub mapped_step : {A : Type 0} (f : A → Waiting × Tree) (xs : List A) (i : ℕ) (x : A) (front : List (Waiting × Tree)) (made new : List (Guard × Proc)) (w : Guard) (p : Proc) → i < length xs → x ≡ get_or xs i x
    → branches made ≡ guarded (front ++ map f (take i xs)) → exp w.condition ≡ truth true → waiting w.wait ≡ (f x).0 → tree p ≡ (f x).1 → new ≡ made ++ (w, p) ∷ []
    → branches new ≡ guarded (front ++ map f (take (i + 1) xs))
mapped_step f xs i x front made new w p h e so_far a b c k =
    let more : map f (take (i + 1) xs) ≡ map f (take i xs) ++ f x ∷ [] = map_more f xs i x h ∙ ap (λ y. map f (take i xs) ++ f y ∷ []) (sym e) in
    ap branches k ∙ one_branch made (front ++ map f (take i xs)) (w, p) (f x) so_far a b c
    ∙ ap guarded (append_assoc front (map f (take i xs)) (f x ∷ []) ∙ ap (λ ys. front ++ ys) (sym more))

pub row_whole : (f : Frame) (row : TableRow) (offers : List (Event × ℕ)) (accepts : List (List Event)) (states : List (List (Name × ℕ))) (first second made : List (Guard × Proc))
    → offers ≡ row.offers → accepts ≡ row.accepts → states ≡ row.ends → branches first ≡ guarded (of_events f offers)
    → ((front : List (Waiting × Tree)) → branches first ≡ guarded front → branches second ≡ guarded (front ++ map (acceptance f offers) accepts))
    → ((front : List (Waiting × Tree)) → branches second ≡ guarded front → branches made ≡ guarded (front ++ map (end_branch f) states)) → branches made ≡ guarded (row_branches f row)
row_whole f row offers accepts states first second made d e g h k l =
    l (of_events f offers ++ map (acceptance f offers) accepts) (k (of_events f offers) h)
    ∙ ap (λ xs. guarded (of_events f xs ++ map (acceptance f xs) accepts ++ map (end_branch f) states)) d
    ∙ ap (λ xs. guarded (of_events f row.offers ++ map (acceptance f row.offers) xs ++ map (end_branch f) states)) e
    ∙ ap (λ xs. guarded (of_events f row.offers ++ map (acceptance f row.offers) row.accepts ++ map (end_branch f) xs)) g

pub body_is : (params ps inputs : List (Name × Kind)) (rows rs : List TableRow) (states ss : List ℕ) (parts items : List Proc) (made : Cases) → ps ≡ params → rs ≡ rows → ss ≡ states → items ≡ parts
    → map tree parts ≡ processes ps inputs [] rs → made ≡ choices (state_choices ps (map tree items) 0 ss) → select made ≡ state_process params (processes params inputs [] rows) states
body_is params ps inputs rows rs states ss parts items made a b c d e f =
    ap select f ∙ ap (λ qs. select (choices (state_choices ps (map tree qs) 0 ss))) d ∙ ap (λ qs. state_process ps qs ss) e ∙ ap (λ qs. state_process qs (processes qs inputs [] rs) ss) a
    ∙ ap (λ xs. state_process params (processes params inputs [] xs) ss) b ∙ ap (state_process params (processes params inputs [] rows)) c
