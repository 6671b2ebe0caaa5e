-- Runs by their channels: what a table has, and the pairs that are found by it.
use Rattle.std.proofs.Common.{◌≡◌, ◌+◌, ◌<◌, ◌≤◌, ◌==◌, ◌&&◌, ◌++◌, nat_le, ℕ, Bool, true, false, cond, Global, None, Some, Option, List, [], ◌∷◌, Vec, length, get_or, take, append_assoc, if◌then◌else◌, refl, ap, sym, ◌∙◌, arith}
use Rattle.std.proofs.lemmas.Bool.{eqb-true}
use Rattle.std.proofs.lemmas.List.{append-nil, length-append, take_all, take_more}
use Rattle.std.proofs.lemmas.List.Elements.{filter-append}
use Rattle.std.specs.List.{filter}
use Rattle.occ_syntax.specs.occ_base.declared.names.Name.{Name}
use Rattle.occ_run_steps.proofs.from_meaning.Facts.{same_turned}
use Rattle.occ_run.specs.declared.run.Run.{Run}
use Rattle.occ_run.specs.declared.run.Run.TheVariants.{Unseen, Sends, Takes}
use Rattle.occ_run.specs.MeetingRuns.{joined, pairs_along, run_meets, run_pairs}
use Rattle.occ_run.specs.Tables.{Lists, Rows, on, row_at, row_of, same_name, table_pairs}
use Rattle.occ_run.proofs.MeetingPairs.{bit, counted_next, none_pass_it}

-- ---- one run more

noted_case : (old : Rows) (row pushed : Vec Run Global) (r : Run) (chan c : Name) (b : Bool) (now : Option (Vec Run Global)) → same_name chan c ≡ b → row.items ≡ row_of (old chan)
    → pushed.items ≡ row.items ++ r ∷ [] → now ≡ cond b (Some pushed) (cond b None (old c)) → row_of now ≡ row_of (old c) ++ (if b then r ∷ [] else [])
noted_case old row pushed r chan c true now s e p h =
    let same : chan ≡ c = ap (λ (n : ℕ). record { 0 = n }) (eqb-true chan.0 c.0 s) in
    ap row_of h ∙ p ∙ ap (λ rs. rs ++ r ∷ []) (e ∙ ap (λ n. row_of (old n)) same)
noted_case old row pushed r chan c false now s e p h = ap row_of h ∙ sym (append-nil (row_of (old c)))

-- a run is put behind those on its channel
pub noted : (old mid now : Rows) (row pushed : Vec Run Global) (r : Run) (chan : Name) → row.items ≡ row_of (old chan) → pushed.items ≡ row.items ++ r ∷ []
    → ((c : Name) → mid c ≡ cond (same_name chan c) None (old c)) → ((c : Name) → now c ≡ cond (same_name chan c) (Some pushed) (mid c))
    → (c : Name) → row_of (now c) ≡ row_of (old c) ++ (if same_name chan c then r ∷ [] else [])
noted old mid now row pushed r chan e p h k c =
    noted_case old row pushed r chan c (same_name chan c) (now c) refl e p (k c ∙ ap (λ o. cond (same_name chan c) (Some pushed) o) (h c))

-- the run is on that channel
pub noted_on : (old now : List Run) (r s : Run) (chan c : Name) → r ≡ s → on c.0 s ≡ same_name chan c → now ≡ old ++ (if same_name chan c then s ∷ [] else []) → now ≡ old ++ filter (on c.0) (r ∷ [])
noted_on old now r s chan c e h k = k ∙ ap (λ (b : Bool). old ++ (if b then s ∷ [] else [])) (sym h) ∙ ap (λ q. old ++ filter (on c.0) (q ∷ [])) (sym e)

pub not_noted : (old : List Run) (r : Run) (c : Name) → r ≡ Unseen → old ≡ old ++ filter (on c.0) (r ∷ [])
not_noted old r c e = sym (append-nil old) ∙ ap (λ s. old ++ filter (on c.0) (s ∷ [])) (sym e)

-- one run more of a list
pub rows_more : (runs : List Run) (i : ℕ) (d : Run) (c : Name) (before now next : List Run) → i < length runs → now ≡ before ++ filter (on c.0) (take i runs) → next ≡ now ++ filter (on c.0) (get_or runs i d ∷ [])
    → next ≡ before ++ filter (on c.0) (take (i + 1) runs)
rows_more runs i d c before now next h e k =
    k ∙ ap (λ xs. xs ++ filter (on c.0) (get_or runs i d ∷ [])) e
    ∙ append_assoc before (filter (on c.0) (take i runs)) (filter (on c.0) (get_or runs i d ∷ []))
    ∙ ap (λ xs. before ++ xs) (sym (filter-append (on c.0) (take i runs) (get_or runs i d ∷ [])) ∙ ap (filter (on c.0)) (sym (take_more runs i d h)))

pub rows_all : (runs : List Run) (i : ℕ) (c : Name) (before now : List Run) → length runs ≤ i → now ≡ before ++ filter (on c.0) (take i runs) → now ≡ before ++ filter (on c.0) runs
rows_all runs i c before now h e = e ∙ ap (λ xs. before ++ filter (on c.0) xs) (take_all i runs h)

-- ---- what a run meets is on its channel

within_case : {A : Type 0} (p : A → Bool) (x : A) (b : Bool) (ys zs : List A) → p x ≡ (b && p x) → filter p ys ≡ filter p zs → filter p (if b then x ∷ ys else ys) ≡ filter p (x ∷ zs)
within_case p x true ys zs h e = ap (λ (xs : List _). if p x then x ∷ xs else xs) e
within_case p x false ys zs h e = e ∙ sym (ap (λ (b : Bool). if b then x ∷ filter p zs else filter p zs) h)

-- those that pass a test are among those that pass a weaker one
filter_within : {A : Type 0} (p q : A → Bool) → ((x : A) → p x ≡ (q x && p x)) → (xs : List A) → filter p (filter q xs) ≡ filter p xs
filter_within p q h [] = refl
filter_within p q h (x ∷ xs) = within_case p x (q x) (filter q xs) xs (h x) (filter_within p q h xs)

and_none : (a : Bool) → false ≡ (a && false)
and_none true = refl
and_none false = refl

and_again : (a b : Bool) → (a && b) ≡ (a && (a && b))
and_again true b = refl
and_again false b = refl

turned_too : (x y : ℕ) (b : Bool) → (x == y && b) ≡ (y == x && (x == y && b))
turned_too x y b = and_again (x == y) b ∙ ap (λ (a : Bool). a && (x == y && b)) (same_turned x y)

sends_on : (c : Name) (v : ℕ) (q : Run) → run_meets (Sends c v) q ≡ (on c.0 q && run_meets (Sends c v) q)
sends_on c v Unseen = refl
sends_on c v (Sends d u) = and_none (d.0 == c.0)
sends_on c v (Takes d l) = turned_too c.0 d.0 (nat_le v l)

takes_on : (c : Name) (l : ℕ) (q : Run) → run_meets (Takes c l) q ≡ (on c.0 q && run_meets (Takes c l) q)
takes_on c l Unseen = refl
takes_on c l (Sends d u) = turned_too c.0 d.0 (nat_le u l)
takes_on c l (Takes d k) = and_none (d.0 == c.0)

-- a run meets of a table what it meets of all runs
pub row_met : (rows : Rows) (rs : List Run) (r : Run) → Lists rows rs → filter (run_meets r) (row_at rows r) ≡ filter (run_meets r) rs
row_met rows rs Unseen h = sym (none_pass_it (run_meets Unseen) (λ q. refl) rs)
row_met rows rs (Sends c v) h = ap (filter (run_meets (Sends c v))) (h c) ∙ filter_within (run_meets (Sends c v)) (on c.0) (sends_on c v) rs
row_met rows rs (Takes c l) h = ap (filter (run_meets (Takes c l))) (h c) ∙ filter_within (run_meets (Takes c l)) (on c.0) (takes_on c l) rs

pub table_met : (rows : Rows) (qs rs : List Run) → Lists rows qs → table_pairs rows rs ≡ run_pairs rs qs
table_met rows qs [] h = refl
table_met rows qs (r ∷ rs) h = ap (λ xs. xs ++ table_pairs rows rs) (row_met rows qs r h) ∙ ap (λ xs. filter (run_meets r) qs ++ xs) (table_met rows qs rs h)

-- the pairs of the first run and of the others
pub table_next : (rows : Rows) (r : Run) (rs : List Run) → length (table_pairs rows (r ∷ rs)) ≡ length (filter (run_meets r) (row_at rows r)) + length (table_pairs rows rs)
table_next rows r rs = length-append (filter (run_meets r) (row_at rows r)) (table_pairs rows rs)

-- ---- the pairs of two lists, from either side

meets_turned : (r q : Run) → run_meets r q ≡ run_meets q r
meets_turned Unseen Unseen = refl
meets_turned Unseen (Sends d u) = refl
meets_turned Unseen (Takes d k) = refl
meets_turned (Sends c v) Unseen = refl
meets_turned (Sends c v) (Sends d u) = refl
meets_turned (Sends c v) (Takes d k) = ap (λ (a : Bool). a && nat_le v k) (same_turned c.0 d.0)
meets_turned (Takes c l) Unseen = refl
meets_turned (Takes c l) (Sends d u) = ap (λ (a : Bool). a && nat_le u l) (same_turned c.0 d.0)
meets_turned (Takes c l) (Takes d k) = refl

pairs_none : (rs : List Run) → length (run_pairs rs []) ≡ 0
pairs_none [] = refl
pairs_none (r ∷ rs) = pairs_none rs

-- one run more on the other side
pairs_first : (qs : List Run) (r : Run) (rs : List Run) → length (run_pairs qs (r ∷ rs)) ≡ length (filter (run_meets r) qs) + length (run_pairs qs rs)
pairs_first [] r rs = refl
pairs_first (q ∷ qs) r rs =
    let whole = length-append (filter (run_meets q) (r ∷ rs)) (run_pairs qs (r ∷ rs)) in
    let first = counted_next (run_meets q) r rs in
    let rest = pairs_first qs r rs in
    let mine = counted_next (run_meets r) q qs in
    let other = length-append (filter (run_meets q) rs) (run_pairs qs rs) in
    let same = ap bit (meets_turned q r) in
    omega (arith, whole, first, rest, mine, other, same)

pub pairs_turned : (rs qs : List Run) → length (run_pairs rs qs) ≡ length (run_pairs qs rs)
pairs_turned [] qs = sym (pairs_none qs)
pairs_turned (r ∷ rs) qs =
    length-append (filter (run_meets r) qs) (run_pairs rs qs) ∙ ap (λ (n : ℕ). length (filter (run_meets r) qs) + n) (pairs_turned rs qs) ∙ sym (pairs_first qs r rs)

-- the pairs with a table of one list
pub table_turned : (rows : Rows) (rs qs : List Run) → Lists rows rs → length (table_pairs rows qs) ≡ length (run_pairs rs qs)
table_turned rows rs qs h = ap length (table_met rows rs qs h) ∙ pairs_turned qs rs

-- ---- the pairs with all later processes

pairs_second : (rs ps qs : List Run) → length (run_pairs rs (ps ++ qs)) ≡ length (run_pairs rs ps) + length (run_pairs rs qs)
pairs_second [] ps qs = refl
pairs_second (r ∷ rs) ps qs =
    let whole = length-append (filter (run_meets r) (ps ++ qs)) (run_pairs rs (ps ++ qs)) in
    let parts = ap length (filter-append (run_meets r) ps qs) in
    let both = length-append (filter (run_meets r) ps) (filter (run_meets r) qs) in
    let rest = pairs_second rs ps qs in
    let first = length-append (filter (run_meets r) ps) (run_pairs rs ps) in
    let second = length-append (filter (run_meets r) qs) (run_pairs rs qs) in
    omega (arith, whole, parts, both, rest, first, second)

along_joined : (rs : List Run) (rss : List (List Run)) → length (run_pairs rs (joined rss)) ≡ pairs_along rs rss
along_joined rs [] = pairs_none rs
along_joined rs (qs ∷ rss) = pairs_second rs qs (joined rss) ∙ ap (λ (n : ℕ). length (run_pairs rs qs) + n) (along_joined rs rss)

-- lists of which as many pass each test have as many pairs
pairs_alike : (rs ps qs : List Run) → ((p : Run → Bool) → length (filter p ps) ≡ length (filter p qs)) → length (run_pairs rs ps) ≡ length (run_pairs rs qs)
pairs_alike [] ps qs h = refl
pairs_alike (r ∷ rs) ps qs h =
    let one = length-append (filter (run_meets r) ps) (run_pairs rs ps) in
    let other = length-append (filter (run_meets r) qs) (run_pairs rs qs) in
    let same = h (run_meets r) in
    let rest = pairs_alike rs ps qs h in
    omega (arith, one, other, same, rest)

-- the pairs with a table of all runs of the later processes, in any order
pub table_along : (rows : Rows) (seen rs : List Run) (rss : List (List Run)) → Lists rows seen → ((p : Run → Bool) → length (filter p seen) ≡ length (filter p (joined rss)))
    → length (table_pairs rows rs) ≡ pairs_along rs rss
table_along rows seen rs rss h k = ap length (table_met rows seen rs h) ∙ pairs_alike rs seen (joined rss) k ∙ along_joined rs rss
