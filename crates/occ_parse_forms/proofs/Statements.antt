-- The lines that begin with no word of their own, in both directions.
use Rattle.std.proofs.Common.{◌≡◌, ◌<◌, ◌==◌, nat_eq, Bool, true, false, cond, List, [], ◌∷◌, ◌++◌, length, map, Option, Some, None, refl, sym, ap, ◌∙◌, arith, inl, inr, subst}
use Rattle.std.specs.List.{IsDistinct}
use Rattle.std.proofs.lemmas.Bool.{cond-true, eq-eqb, eqb-true}
use Rattle.std.proofs.lemmas.List.{length-map}
use Rattle.occ_lex.specs.declared.symbol.Keyword.TheVariants as word
use Rattle.occ_lex.specs.declared.symbol.Sign.{Sign}
use Rattle.occ_lex.specs.declared.symbol.Sign.TheVariants as sign
use Rattle.occ_lex.specs.declared.symbol.Symbol.{Symbol}
use Rattle.occ_lex.specs.declared.symbol.Symbol.TheVariants as symbol
use Rattle.occ_parse_forms.specs.declared.form.Item.{Item}
use Rattle.occ_parse_forms.specs.Lines.{comma, list_words, plain_names, IsWritten, IsAssignment, IsInput, IsOutput, IsWaiting, IsGuard, Says}
use Rattle.occ_parse_forms.specs.Reading.{item_of, expression_of, are_distinct, assignment_of, input_of, output_of, waiting_of, guard_of, statement_of}
use Rattle.occ_parse_forms.specs.Shape.{Said, Waiting, ready, input, output, Shape, assign, receive, send, condition, guard}
use Rattle.occ_parse_forms.specs.Symbols.{then_read, either, behind_word, cut, groups_of, in_front, each}
use Rattle.occ_parse_forms.specs.Written.{Written, words, meant, item_words}
use Rattle.occ_parse_forms.proofs.Apart.{is_outer, item_free, words_free}
use Rattle.occ_parse_forms.proofs.Basics.{inspect, read_ok, alone_ok, some_is, behind_ok}
use Rattle.occ_parse_forms.proofs.Complete.{item_back, expression_back}
use Rattle.occ_parse_forms.proofs.Distinct.{distinct_ok, distinct_back}
use Rattle.occ_parse_forms.proofs.Lists.{is_sign, Free, AllFree, free_append, free_joined, groups_back, groups_ok, Pairs, each_ok, list_is, map_self, cut_none, cut_back, cut_ok}
use Rattle.occ_parse_forms.proofs.SoundExpressions.{expression_ok}
use Rattle.occ_parse_forms.proofs.SoundItems.{item_ok}

-- ---- lists of items and of expressions

item_pairs : (gs : List (List Symbol)) (items : List Item) → Pairs (λ g i. g ≡ item_words i) gs items → gs ≡ map item_words items
item_pairs [] [] h = refl
item_pairs [] (i ∷ items) h = absurd h
item_pairs (g ∷ gs) [] h = absurd h
item_pairs (g ∷ gs) (i ∷ items) h = λ j. h.0 j ∷ item_pairs gs items h.1 j

record AreItems (symbols : List Symbol) (items : List Item) : Type 0 where
  spelled : symbols ≡ list_words item_words items
  some : 0 < length items

some_items : (g : List Symbol) (gs : List (List Symbol)) (items : List Item) → g ∷ gs ≡ map item_words items → 0 < length items
some_items g gs [] h = absurd cc
some_items g gs (i ∷ items) h = omega arith

items_ok : (symbols : List Symbol) (items : List Item) → each item_of (groups_of symbols) ≡ Some items → AreItems symbols items
items_ok symbols items h =
    let g = groups_ok symbols in
    let e = sym g.groups ∙ item_pairs (groups_of symbols) items (each_ok (λ g i. g ≡ item_words i) item_of item_ok (groups_of symbols) items h) in
    record { spelled = g.spelled ∙ list_is item_words items g.first g.others e; some = some_items g.first g.others items e }

record AreWritten (gs : List (List Symbol)) (values : List Said) : Type 0 where
  written : List Written
  spelled : gs ≡ map words written
  says : values ≡ map meant written

written_pairs : (gs : List (List Symbol)) (values : List Said) → Pairs IsWritten gs values → AreWritten gs values
written_pairs [] [] h = record { written = []; spelled = refl; says = refl }
written_pairs [] (s ∷ values) h = absurd h
written_pairs (g ∷ gs) [] h = absurd h
written_pairs (g ∷ gs) (s ∷ values) h =
    let r = written_pairs gs values h.1 in
    record { written = h.0.0 ∷ r.written; spelled = λ i. h.0.1 i ∷ r.spelled i; says = λ i. h.0.2 i ∷ r.says i }

record AreValues (symbols : List Symbol) (values : List Said) : Type 0 where
  written : List Written
  spelled : symbols ≡ list_words words written
  says : values ≡ map meant written

values_ok : (symbols : List Symbol) (values : List Said) → each expression_of (groups_of symbols) ≡ Some values → AreValues symbols values
values_ok symbols values h =
    let g = groups_ok symbols in
    let r = written_pairs (groups_of symbols) values (each_ok IsWritten expression_of expression_ok (groups_of symbols) values h) in
    record { written = r.written; spelled = g.spelled ∙ list_is words r.written g.first g.others (sym g.groups ∙ r.spelled); says = r.says }

each_spelled : {A B : Type 0} (read : List Symbol → Option B) (spell : A → List Symbol) (value : A → B) → ((x : A) → read (spell x) ≡ Some (value x)) → (xs : List A) → each read (map spell xs) ≡ Some (map value xs)
each_spelled read spell value h [] = refl
each_spelled read spell value h (x ∷ xs) =
    ap (λ o. then_read o (λ y. in_front (y ∷ []) (each read (map spell xs)))) (h x) ∙ ap (in_front (value x ∷ [])) (each_spelled read spell value h xs)

all_free : {A : Type 0} (at : Sign) (spell : A → List Symbol) → ((x : A) → Free at (spell x)) → (xs : List A) → AllFree at (map spell xs)
all_free at spell free [] = tt
all_free at spell free (x ∷ xs) = (free x, all_free at spell free xs)

list_back : {A B : Type 0} (read : List Symbol → Option B) (spell : A → List Symbol) (value : A → B) → ((x : A) → read (spell x) ≡ Some (value x)) → ((x : A) → Free sign.Comma (spell x))
    → (xs : List A) → 0 < length xs → each read (groups_of (list_words spell xs)) ≡ Some (map value xs)
list_back read spell value h free [] some = absurd (omega (arith, some))
list_back read spell value h free (x ∷ xs) some =
    ap (each read) (groups_back (spell x) (map spell xs) (free x) (all_free sign.Comma spell free xs)) ∙ each_spelled read spell value h (x ∷ xs)

list_free : {A : Type 0} (at : Sign) (spell : A → List Symbol) → ((x : A) → Free at (spell x)) → is_sign at comma ≡ false → (xs : List A) → Free at (list_words spell xs)
list_free at spell free s [] = tt
list_free at spell free s (x ∷ xs) = free_joined at (spell x) (map spell xs) s (free x) (all_free at spell free xs)

-- ---- assignments

if_ok : {A : Type 0} (b : Bool) (o : Option A) (y : A) → cond b o None ≡ Some y → (b ≡ true) × (o ≡ Some y)
if_ok true o y h = (refl, h)
if_ok false o y h = absurd cc

pub assignment_ok : (left right : List Symbol) (a : List Item × List Said) → assignment_of left right ≡ Some a → IsAssignment (left ++ symbol.Sign sign.Becomes ∷ right) a.0 a.1
unfolding assignment_of
assignment_ok left right a h =
    let i = read_ok (each item_of (groups_of left)) (λ items. cond (are_distinct items) (then_read (each expression_of (groups_of right)) (λ values. cond (length items == length values) (Some (items, values)) None)) None) a h in
    let d = if_ok (are_distinct i.0) (then_read (each expression_of (groups_of right)) (λ values. cond (length i.0 == length values) (Some (i.0, values)) None)) a i.2 in
    let v = read_ok (each expression_of (groups_of right)) (λ values. cond (length i.0 == length values) (Some (i.0, values)) None) a d.1 in
    let l = if_ok (length i.0 == length v.0) (Some (i.0, v.0)) a v.2 in
    let items = items_ok left i.0 i.1 in
    let values = values_ok right v.0 v.1 in
    subst (λ (a : List Item × List Said). IsAssignment (left ++ symbol.Sign sign.Becomes ∷ right) a.0 a.1) (some_is (i.0, v.0) a l.1)
    (values.written, values.says, eqb-true (length i.0) (length v.0) l.0, items.some, distinct_ok i.0 d.0, (λ j. items.spelled j ++ symbol.Sign sign.Becomes ∷ values.spelled j))

assignment_back : (items : List Item) (ws : List Written) → length items ≡ length (map meant ws) → 0 < length items → IsDistinct nat_eq (plain_names items)
    → assignment_of (list_words item_words items) (list_words words ws) ≡ Some (items, map meant ws)
unfolding assignment_of
assignment_back items ws same some distinct =
    let left : each item_of (groups_of (list_words item_words items)) ≡ Some items =
    list_back item_of item_words (λ i. i) item_back (λ i. item_free sign.Comma refl i) items some ∙ ap (λ xs. Some xs) (map_self items) in
    let right : each expression_of (groups_of (list_words words ws)) ≡ Some (map meant ws) =
    list_back expression_of words meant expression_back (λ w. words_free w sign.Comma refl) ws (omega (arith, same, some, length-map ws meant)) in
    ap (λ o. then_read o (λ items. cond (are_distinct items) (then_read (each expression_of (groups_of (list_words words ws))) (λ values. cond (length items == length values) (Some (items, values)) None)) None)) left
    ∙ cond-true (are_distinct items) _ _ (distinct_back items distinct)
    ∙ ap (λ o. then_read o (λ values. cond (length items == length values) (Some (items, values)) None)) right
    ∙ cond-true (length items == length (map meant ws)) _ _ (eq-eqb (length items) (length (map meant ws)) same)

-- ---- inputs, outputs and guards

input_ok : (left right : List Symbol) (i : Item × Item) → input_of left right ≡ Some i → IsInput (left ++ symbol.Sign sign.Query ∷ right) i.0 i.1
unfolding input_of
input_ok left right i h =
    let c = read_ok (item_of left) (λ chan. then_read (item_of right) (λ var. Some (chan, var))) i h in
    let v = read_ok (item_of right) (λ var. Some (c.0, var)) i c.2 in
    subst (λ (i : Item × Item). IsInput (left ++ symbol.Sign sign.Query ∷ right) i.0 i.1) (some_is (c.0, v.0) i v.2) (λ j. item_ok left c.0 c.1 j ++ symbol.Sign sign.Query ∷ item_ok right v.0 v.1 j)

input_back : (chan var : Item) → input_of (item_words chan) (item_words var) ≡ Some (chan, var)
unfolding input_of
input_back chan var =
    ap (λ o. then_read o (λ chan. then_read (item_of (item_words var)) (λ var. Some (chan, var)))) (item_back chan) ∙ ap (λ o. then_read o (λ var. Some (chan, var))) (item_back var)

output_ok : (left right : List Symbol) (o : Item × Said) → output_of left right ≡ Some o → IsOutput (left ++ symbol.Sign sign.Bang ∷ right) o.0 o.1
unfolding output_of
output_ok left right o h =
    let c = read_ok (item_of left) (λ chan. then_read (expression_of right) (λ value. Some (chan, value))) o h in
    let v = read_ok (expression_of right) (λ value. Some (c.0, value)) o c.2 in
    let w = expression_ok right v.0 v.1 in
    subst (λ (o : Item × Said). IsOutput (left ++ symbol.Sign sign.Bang ∷ right) o.0 o.1) (some_is (c.0, v.0) o v.2) (w.0, (λ j. item_ok left c.0 c.1 j ++ symbol.Sign sign.Bang ∷ w.1 j), w.2)

output_back : (chan : Item) (w : Written) → output_of (item_words chan) (words w) ≡ Some (chan, meant w)
unfolding output_of
output_back chan w =
    ap (λ o. then_read o (λ chan. then_read (expression_of (words w)) (λ value. Some (chan, value)))) (item_back chan) ∙ ap (λ o. then_read o (λ value. Some (chan, value))) (expression_back w)

pub waiting_ok : (symbols : List Symbol) (w : Waiting) → waiting_of symbols ≡ Some w → IsWaiting symbols w
unfolding waiting_of
waiting_ok symbols w h = elim (inspect (behind_word word.Skip symbols)) [
  | inr a ↦
      let z = alone_ok ready w a.0 (rw a.1 at h) in
      subst (IsWaiting symbols) z.1 (behind_ok (symbol.Keyword word.Skip) symbols a.0 a.1 ∙ ap (λ r. symbol.Keyword word.Skip ∷ r) z.0)
  | inl n ↦
      let h2 = rw n at h in
      elim (inspect (cut sign.Query symbols)) [
        | inr p ↦
            let i = read_ok (input_of p.0.0 p.0.1) (λ i. Some (input i.0 i.1)) w (rw p.1 at h2) in
            subst (IsWaiting symbols) (some_is (input i.0.0 i.0.1) w i.2) (subst (λ s. IsInput s i.0.0 i.0.1) (sym (cut_ok sign.Query symbols p.0 p.1)) (input_ok p.0.0 p.0.1 i.0 i.1))
        | inl m ↦
            let p = read_ok (cut sign.Bang symbols) (λ parts. then_read (output_of parts.0 parts.1) (λ o. Some (output o.0 o.1))) w (rw m at h2) in
            let o = read_ok (output_of p.0.0 p.0.1) (λ o. Some (output o.0 o.1)) w p.2 in
            subst (IsWaiting symbols) (some_is (output o.0.0 o.0.1) w o.2) (subst (λ s. IsOutput s o.0.0 o.0.1) (sym (cut_ok sign.Bang symbols p.0 p.1)) (output_ok p.0.0 p.0.1 o.0 o.1))
      ]
]

-- the parts of an input and an output with the sign between them
abbrev input_words : Item → Item → List Symbol
input_words chan var = item_words chan ++ symbol.Sign sign.Query ∷ item_words var

abbrev output_words : Item → Written → List Symbol
output_words chan w = item_words chan ++ symbol.Sign sign.Bang ∷ words w

cut_input : (chan var : Item) → cut sign.Query (input_words chan var) ≡ Some (item_words chan, item_words var)
cut_input chan var = cut_back sign.Query (item_words chan) (item_words var) refl (item_free sign.Query refl chan)

cut_output : (chan : Item) (w : Written) → cut sign.Bang (output_words chan w) ≡ Some (item_words chan, words w)
cut_output chan w = cut_back sign.Bang (item_words chan) (words w) refl (item_free sign.Bang refl chan)

input_free : (at : Sign) → is_outer at ≡ true → is_sign at (symbol.Sign sign.Query) ≡ false → (chan var : Item) → Free at (input_words chan var)
input_free at h q chan var = free_append at (item_words chan) (symbol.Sign sign.Query ∷ item_words var) (item_free at h chan) (q, item_free at h var)

output_free : (at : Sign) → is_outer at ≡ true → is_sign at (symbol.Sign sign.Bang) ≡ false → (chan : Item) (w : Written) → Free at (output_words chan w)
output_free at h q chan w = free_append at (item_words chan) (symbol.Sign sign.Bang ∷ words w) (item_free at h chan) (q, words_free w at h)

waiting_input : (chan var : Item) → waiting_of (input_words chan var) ≡ Some (input chan var)
unfolding waiting_of
waiting_input chan var =
    ap (λ c. either c (then_read (cut sign.Bang (input_words chan var)) (λ parts. then_read (output_of parts.0 parts.1) (λ o. Some (output o.0 o.1)))) (λ parts. then_read (input_of parts.0 parts.1) (λ i. Some (input i.0 i.1)))) (cut_input chan var)
    ∙ ap (λ o. then_read o (λ i. Some (input i.0 i.1))) (input_back chan var)

waiting_output : (chan : Item) (w : Written) → waiting_of (output_words chan w) ≡ Some (output chan (meant w))
unfolding waiting_of
waiting_output chan w =
    ap (λ c. either c (then_read (cut sign.Bang (output_words chan w)) (λ parts. then_read (output_of parts.0 parts.1) (λ o. Some (output o.0 o.1)))) (λ parts. then_read (input_of parts.0 parts.1) (λ i. Some (input i.0 i.1))))
    (cut_none sign.Query (output_words chan w) (output_free sign.Query refl refl chan w))
    ∙ ap (λ c. then_read c (λ parts. then_read (output_of parts.0 parts.1) (λ o. Some (output o.0 o.1)))) (cut_output chan w)
    ∙ ap (λ o. then_read o (λ o. Some (output o.0 o.1))) (output_back chan w)

pub waiting_back : (symbols : List Symbol) (w : Waiting) → IsWaiting symbols w → waiting_of symbols ≡ Some w
unfolding waiting_of
waiting_back symbols ready h = ap waiting_of h
waiting_back symbols (input chan var) h = ap waiting_of h ∙ waiting_input chan var
waiting_back symbols (output chan value) h = ap waiting_of h.1 ∙ waiting_output chan h.0 ∙ ap (λ v. Some (output chan v)) (sym h.2)

waiting_free : (symbols : List Symbol) (w : Waiting) → IsWaiting symbols w → Free sign.Becomes symbols
waiting_free symbols ready h = subst (Free sign.Becomes) (sym h) (refl, tt)
waiting_free symbols (input chan var) h = subst (Free sign.Becomes) (sym h) (input_free sign.Becomes refl refl chan var)
waiting_free symbols (output chan value) h = subst (Free sign.Becomes) (sym h.1) (output_free sign.Becomes refl refl chan h.0)

guard_ok : (left right : List Symbol) (g : Said × Waiting) → guard_of left right ≡ Some g → IsGuard (left ++ symbol.Sign sign.Ampersand ∷ right) g.0 g.1
unfolding guard_of
guard_ok left right g h =
    let c = read_ok (expression_of left) (λ c. then_read (waiting_of right) (λ w. Some (c, w))) g h in
    let w = read_ok (waiting_of right) (λ w. Some (c.0, w)) g c.2 in
    subst (λ (g : Said × Waiting). IsGuard (left ++ symbol.Sign sign.Ampersand ∷ right) g.0 g.1) (some_is (c.0, w.0) g w.2) (left, right, refl, expression_ok left c.0 c.1, waiting_ok right w.0 w.1)

guard_back : (left right : List Symbol) (c : Said) (w : Waiting) → IsWritten left c → IsWaiting right w → guard_of left right ≡ Some (c, w)
unfolding guard_of
guard_back left right c w h k =
    let e : expression_of left ≡ Some c = ap expression_of h.1 ∙ expression_back h.0 ∙ ap (λ s. Some s) (sym h.2) in
    ap (λ o. then_read o (λ c. then_read (waiting_of right) (λ w. Some (c, w)))) e ∙ ap (λ o. then_read o (λ w. Some (c, w))) (waiting_back right w k)

-- ---- statements

pub statement_ok : (symbols : List Symbol) (s : Shape) → statement_of symbols ≡ Some s → Says symbols s
unfolding statement_of
statement_ok symbols s h = elim (inspect (cut sign.Becomes symbols)) [
  | inr p ↦
      let a = read_ok (assignment_of p.0.0 p.0.1) (λ a. Some (assign a.0 a.1)) s (rw p.1 at h) in
      subst (Says symbols) (some_is (assign a.0.0 a.0.1) s a.2) (subst (λ t. IsAssignment t a.0.0 a.0.1) (sym (cut_ok sign.Becomes symbols p.0 p.1)) (assignment_ok p.0.0 p.0.1 a.0 a.1))
  | inl n ↦
      let h2 = rw n at h in
      elim (inspect (cut sign.Ampersand symbols)) [
        | inr p ↦
            let g = read_ok (guard_of p.0.0 p.0.1) (λ g. Some (guard g.0 g.1)) s (rw p.1 at h2) in
            subst (Says symbols) (some_is (guard g.0.0 g.0.1) s g.2) (subst (λ t. IsGuard t g.0.0 g.0.1) (sym (cut_ok sign.Ampersand symbols p.0 p.1)) (guard_ok p.0.0 p.0.1 g.0 g.1))
        | inl m ↦
            let h3 = rw m at h2 in
            elim (inspect (cut sign.Query symbols)) [
              | inr p ↦
                  let i = read_ok (input_of p.0.0 p.0.1) (λ i. Some (receive i.0 i.1)) s (rw p.1 at h3) in
                  subst (Says symbols) (some_is (receive i.0.0 i.0.1) s i.2) (subst (λ t. IsInput t i.0.0 i.0.1) (sym (cut_ok sign.Query symbols p.0 p.1)) (input_ok p.0.0 p.0.1 i.0 i.1))
              | inl q ↦
                  let h4 = rw q at h3 in
                  elim (inspect (cut sign.Bang symbols)) [
                    | inr p ↦
                        let o = read_ok (output_of p.0.0 p.0.1) (λ o. Some (send o.0 o.1)) s (rw p.1 at h4) in
                        subst (Says symbols) (some_is (send o.0.0 o.0.1) s o.2) (subst (λ t. IsOutput t o.0.0 o.0.1) (sym (cut_ok sign.Bang symbols p.0 p.1)) (output_ok p.0.0 p.0.1 o.0 o.1))
                    | inl r ↦
                        let c = read_ok (expression_of symbols) (λ c. Some (condition c)) s (rw r at h4) in
                        subst (Says symbols) (some_is (condition c.0) s c.2) (expression_ok symbols c.0 c.1)
                  ]
            ]
      ]
]

-- the readings that are tried one after another, by what each cut finds
abbrev tried : Option (List Symbol × List Symbol) → Option (List Symbol × List Symbol) → Option (List Symbol × List Symbol) → Option (List Symbol × List Symbol) → Option Said → Option Shape
tried becomes ampersand query bang whole =
    either becomes
    (either ampersand
    (either query
    (either bang
    (then_read whole (λ c. Some (condition c)))
    (λ parts. then_read (output_of parts.0 parts.1) (λ o. Some (send o.0 o.1))))
    (λ parts. then_read (input_of parts.0 parts.1) (λ i. Some (receive i.0 i.1))))
    (λ parts. then_read (guard_of parts.0 parts.1) (λ g. Some (guard g.0 g.1))))
    (λ parts. then_read (assignment_of parts.0 parts.1) (λ a. Some (assign a.0 a.1)))

statement_is : (symbols : List Symbol) → statement_of symbols ≡ tried (cut sign.Becomes symbols) (cut sign.Ampersand symbols) (cut sign.Query symbols) (cut sign.Bang symbols) (expression_of symbols)
unfolding statement_of
statement_is symbols = refl

by_becomes : (symbols left right : List Symbol) (items : List Item) (values : List Said) → cut sign.Becomes symbols ≡ Some (left, right) → assignment_of left right ≡ Some (items, values) → statement_of symbols ≡ Some (assign items values)
by_becomes symbols left right items values h k =
    statement_is symbols ∙ ap (λ b. tried b (cut sign.Ampersand symbols) (cut sign.Query symbols) (cut sign.Bang symbols) (expression_of symbols)) h ∙ ap (λ r. then_read r (λ a. Some (assign a.0 a.1))) k

by_ampersand : (symbols left right : List Symbol) (c : Said) (w : Waiting) → cut sign.Becomes symbols ≡ None → cut sign.Ampersand symbols ≡ Some (left, right) → guard_of left right ≡ Some (c, w) → statement_of symbols ≡ Some (guard c w)
by_ampersand symbols left right c w h k r =
    statement_is symbols ∙ (λ i. tried (h i) (k i) (cut sign.Query symbols) (cut sign.Bang symbols) (expression_of symbols)) ∙ ap (λ r. then_read r (λ g. Some (guard g.0 g.1))) r

by_query : (symbols left right : List Symbol) (chan var : Item) → cut sign.Becomes symbols ≡ None → cut sign.Ampersand symbols ≡ None → cut sign.Query symbols ≡ Some (left, right) → input_of left right ≡ Some (chan, var) → statement_of symbols ≡ Some (receive chan var)
by_query symbols left right chan var h k l r =
    statement_is symbols ∙ (λ i. tried (h i) (k i) (l i) (cut sign.Bang symbols) (expression_of symbols)) ∙ ap (λ r. then_read r (λ i. Some (receive i.0 i.1))) r

by_bang : (symbols left right : List Symbol) (chan : Item) (value : Said) → cut sign.Becomes symbols ≡ None → cut sign.Ampersand symbols ≡ None → cut sign.Query symbols ≡ None → cut sign.Bang symbols ≡ Some (left, right) → output_of left right ≡ Some (chan, value) → statement_of symbols ≡ Some (send chan value)
by_bang symbols left right chan value h k l m r =
    statement_is symbols ∙ (λ i. tried (h i) (k i) (l i) (m i) (expression_of symbols)) ∙ ap (λ r. then_read r (λ o. Some (send o.0 o.1))) r

by_none : (symbols : List Symbol) (c : Said) → cut sign.Becomes symbols ≡ None → cut sign.Ampersand symbols ≡ None → cut sign.Query symbols ≡ None → cut sign.Bang symbols ≡ None → expression_of symbols ≡ Some c → statement_of symbols ≡ Some (condition c)
by_none symbols c h k l m r = statement_is symbols ∙ (λ i. tried (h i) (k i) (l i) (m i) (r i))

pub assign_back : (symbols : List Symbol) (items : List Item) (values : List Said) → IsAssignment symbols items values → statement_of symbols ≡ Some (assign items values)
assign_back symbols items values h =
    let left = list_words item_words items in
    let right = list_words words h.0 in
    let same : length items ≡ length (map meant h.0) = h.2 ∙ ap length h.1 in
    ap statement_of h.5 ∙ by_becomes (left ++ symbol.Sign sign.Becomes ∷ right) left right items (map meant h.0)
    (cut_back sign.Becomes left right refl (list_free sign.Becomes item_words (λ i. item_free sign.Becomes refl i) refl items))
    (assignment_back items h.0 same h.3 h.4)
    ∙ ap (λ v. Some (assign items v)) (sym h.1)

pub guard_said : (symbols : List Symbol) (c : Said) (w : Waiting) → IsGuard symbols c w → statement_of symbols ≡ Some (guard c w)
guard_said symbols c w h =
    let front = h.0 in
    let back = h.1 in
    let free : (at : Sign) → is_outer at ≡ true → Free at front = λ at k. subst (Free at) (sym h.3.1) (words_free h.3.0 at k) in
    ap statement_of h.2 ∙ by_ampersand (front ++ symbol.Sign sign.Ampersand ∷ back) front back c w
    (cut_none sign.Becomes (front ++ symbol.Sign sign.Ampersand ∷ back) (free_append sign.Becomes front (symbol.Sign sign.Ampersand ∷ back) (free sign.Becomes refl) (refl, waiting_free back w h.4)))
    (cut_back sign.Ampersand front back refl (free sign.Ampersand refl))
    (guard_back front back c w h.3 h.4)

pub input_said : (symbols : List Symbol) (chan var : Item) → IsInput symbols chan var → statement_of symbols ≡ Some (receive chan var)
input_said symbols chan var h =
    ap statement_of h ∙ by_query (input_words chan var) (item_words chan) (item_words var) chan var
    (cut_none sign.Becomes (input_words chan var) (input_free sign.Becomes refl refl chan var))
    (cut_none sign.Ampersand (input_words chan var) (input_free sign.Ampersand refl refl chan var))
    (cut_input chan var) (input_back chan var)

pub output_said : (symbols : List Symbol) (chan : Item) (value : Said) → IsOutput symbols chan value → statement_of symbols ≡ Some (send chan value)
output_said symbols chan value h =
    ap statement_of h.1 ∙ by_bang (output_words chan h.0) (item_words chan) (words h.0) chan (meant h.0)
    (cut_none sign.Becomes (output_words chan h.0) (output_free sign.Becomes refl refl chan h.0))
    (cut_none sign.Ampersand (output_words chan h.0) (output_free sign.Ampersand refl refl chan h.0))
    (cut_none sign.Query (output_words chan h.0) (output_free sign.Query refl refl chan h.0))
    (cut_output chan h.0) (output_back chan h.0)
    ∙ ap (λ v. Some (send chan v)) (sym h.2)

pub condition_said : (symbols : List Symbol) (c : Said) → IsWritten symbols c → statement_of symbols ≡ Some (condition c)
condition_said symbols c h =
    ap statement_of h.1 ∙ by_none (words h.0) (meant h.0)
    (cut_none sign.Becomes (words h.0) (words_free h.0 sign.Becomes refl))
    (cut_none sign.Ampersand (words h.0) (words_free h.0 sign.Ampersand refl))
    (cut_none sign.Query (words h.0) (words_free h.0 sign.Query refl))
    (cut_none sign.Bang (words h.0) (words_free h.0 sign.Bang refl))
    (expression_back h.0)
    ∙ ap (λ v. Some (condition v)) (sym h.2)
