-- The normal text of a program is that of the program under other numbers of names.
use Rattle.std.proofs.Common.{◌≡◌, inl, inr, ⊎_elim, ℕ, suc, ◌+◌, ◌<◌, ◌≤◌, ◌^◌, List, [], ◌∷◌, ◌++◌, map, length, length-append, get_or, None, slice_get, unwrap_or, refl, sym, ap, ap₂, subst, ◌∙◌, arith, lit≤}
use Rattle.std.specs.Prelude.{codes, decimal}
use Rattle.std.proofs.lemmas.Bool.{cases_lt}
use Rattle.std.proofs.lemmas.List.{length-map}
use Rattle.std.proofs.lemmas.Option.{slice_get-get_or, slice_get_cases, slice_get_within}
use Rattle.occ_nform.specs.occ_base.declared.event.Event.{Event}
use Rattle.occ_nform.specs.occ_base.declared.names.Name.{Name}
use Rattle.occ_nform.specs.occ_base.Names.{IsDistinct}
use Rattle.occ_renamed.proofs.from_meaning.RenamedTrees.{trees_agree}
use Rattle.occ_renamed.specs.occ_meaning.Rename.{renamed, renamed_event}
use Rattle.occ_nform.specs.Written.{IsNormalText}
use Rattle.occ_read_renamed.proofs.Bounds.{below_top, top}
use Rattle.occ_read_renamed.proofs.Exchanges.{applied, so_below}
use Rattle.occ_read_renamed.proofs.Standing.{stands_so}
use Rattle.occ_read_renamed.proofs.RenamedTables.{events_renamed, normal_so, offer_renamed, row_renamed, rows_renamed, state_renamed, table_same, StaysAll}
use Rattle.occ_nform.specs.occ_nform_table.declared.table.TableRow.{TableRow}
use Rattle.occ_nform.specs.occ_nform_table.Behaviours.{Stands}
use Rattle.occ_nform.specs.occ_nform_table.Judging.{row_text}
use Rattle.occ_nform.specs.occ_nform_table.Lines.{AreNamed}
use Rattle.occ_nform.specs.occ_nform_table.Normal.{Parts, text_read}
use Rattle.occ_nform.specs.occ_nform_table.Tables.{IsNormal}
use Rattle.occ_nform.specs.occ_nform_table.Texts.{params_text, rows_text, states_text, table_text}
use Rattle.occ_nform.proofs.from_nform_table.TextTables.{reads_back}
use Rattle.occ_nform.proofs.from_nform_table.Whole.{normal_text}
use Rattle.occ_renamed.specs.Renamed.{kinds_renamed}
use Rattle.occ_read_renamed.specs.Readings.{IsRenumbering}
use Rattle.occ_nform.specs.occ_syntax.Tree.{Tree}
use Rattle.occ_nform.specs.occ_syntax.declared.scope.Kind.{Kind}

-- ---- two maps that agree below a number

abbrev sum : {A : Type 0} → (A → ℕ) → List A → ℕ
sum m [] = 0
sum m (x ∷ xs) = m x + sum m xs

map_agree : {A : Type 0} (R S : A → A) (m : A → ℕ) (n : ℕ) → ((x : A) → m x ≤ n → R x ≡ S x) → (xs : List A) → sum m xs ≤ n → map R xs ≡ map S xs
map_agree R S m n h [] l = refl
map_agree R S m n h (x ∷ xs) l = ap₂ ◌∷◌ (h x (omega (arith, l))) (map_agree R S m n h xs (omega (arith, l)))

abbrev event_top : Event → ℕ
event_top e = suc e.chan.0

abbrev value_top : Name × ℕ → ℕ
value_top v = suc v.0.0

abbrev offer_top : Event × ℕ → ℕ
offer_top o = suc o.0.chan.0

abbrev row_top : TableRow → ℕ
row_top row = sum (sum value_top) row.ends + sum (sum event_top) row.accepts + sum offer_top row.offers

abbrev pub kinds_top : List (Name × Kind) → ℕ
kinds_top [] = 0
kinds_top (d ∷ ds) = suc d.0.0 + kinds_top ds

module _ (f g : ℕ → ℕ) (n : ℕ) (same : (x : ℕ) → x < n → f x ≡ g x) where
  event_agree : (e : Event) → event_top e ≤ n → renamed_event f e ≡ renamed_event g e
  event_agree e l = ap (λ x. record { chan = record { 0 = x }; dir = e.dir; value = e.value }) (same e.chan.0 (omega (arith, l)))

  state_agree : (s : List (Name × ℕ)) → sum value_top s ≤ n → state_renamed f s ≡ state_renamed g s
  state_agree s l =
      map_agree (λ (v : Name × ℕ). (record { 0 = f v.0.0 }, v.1)) (λ (v : Name × ℕ). (record { 0 = g v.0.0 }, v.1)) value_top n
      (λ v k. ap (λ x. (record { 0 = x }, v.1)) (same v.0.0 (omega (arith, k)))) s l

  events_agree : (es : List Event) → sum event_top es ≤ n → events_renamed f es ≡ events_renamed g es
  events_agree es l = map_agree (renamed_event f) (renamed_event g) event_top n event_agree es l

  row_agree : (row : TableRow) → row_top row ≤ n → row_renamed f row ≡ row_renamed g row
  row_agree row l =
      let ends = map_agree (state_renamed f) (state_renamed g) (sum value_top) n state_agree row.ends (omega (arith, l)) in
      let accepts = map_agree (events_renamed f) (events_renamed g) (sum event_top) n events_agree row.accepts (omega (arith, l)) in
      let offers = map_agree (offer_renamed f) (offer_renamed g) offer_top n (λ o k. ap (λ e. (e, o.1)) (event_agree o.0 k)) row.offers (omega (arith, l)) in
      λ i. record { ends = ends i; accepts = accepts i; offers = offers i }

  rows_agree : (rows : List TableRow) → sum row_top rows ≤ n → rows_renamed f rows ≡ rows_renamed g rows
  rows_agree rows l = map_agree (row_renamed f) (row_renamed g) row_top n row_agree rows l

  pub kinds_agree : (ds : List (Name × Kind)) → kinds_top ds ≤ n → kinds_renamed f ds ≡ kinds_renamed g ds
  kinds_agree [] l = refl
  kinds_agree (d ∷ ds) l = ap₂ (λ x r. (record { 0 = x }, d.1) ∷ r) (same d.0.0 (omega (arith, l))) (kinds_agree ds (omega (arith, l)))

-- ---- a text has as many bytes as rows

rows_short : (names : List (List ℕ)) (n : ℕ) (rows : List TableRow) → length rows ≤ length (rows_text names n rows)
unfolding rows_text
rows_short names n [] = omega arith
rows_short names n (row ∷ rows) =
    let A = codes "ROW " in
    let B = decimal n in
    let C = codes "\n" in
    let D = row_text names row in
    let E = rows_text names (n + 1) rows in
    let more = rows_short names (n + 1) rows in
    let c : length C ≡ 1 = refl in
    omega (arith, more, c, length-append (A ++ B ++ C ++ D) E, length-append (A ++ B ++ C) D, length-append (A ++ B) C, length-append A B)

pub table_short : (names : List (List ℕ)) (params : List (Name × Kind)) (rows : List TableRow) (states : List ℕ) → length rows ≤ length (table_text names params rows states)
unfolding table_text
table_short names params rows states =
    let A = codes "occam-normal 1\n" in
    let B = params_text names params in
    let C = rows_text names 0 rows in
    let D = states_text params 0 states in
    omega (arith, rows_short names 0 rows, length-append (A ++ B ++ C) D, length-append (A ++ B) C, length-append A B)

-- ---- the text under other numbers

abbrev pub parts : List (List ℕ) → List (Name × Kind) → List TableRow → List ℕ → Parts
parts names params rows states = record { names = names; params = params; rows = rows; states = states }

pub parts_are : (t : Parts) (names : List (List ℕ)) (params : List (Name × Kind)) → t.names ≡ names → t.params ≡ params → t ≡ parts names params t.rows t.states
parts_are t names params e k = λ i. record { names = e i; params = k i; rows = t.rows; states = t.states }

module _ (f : ℕ → ℕ) (names other : List (List ℕ)) (d : IsDistinct other) (r : IsRenumbering f names other) where
  texts : (x : ℕ) → unwrap_or (slice_get other (f x)) [] ≡ unwrap_or (slice_get names x) []
  texts x =
      ⊎_elim
      (λ (h : x < length names).
      let here = slice_get-get_or names x [] h in ap (λ o. unwrap_or o []) (r.texts x (get_or names x []) here ∙ sym here))
      (λ (h : length names ≤ x). ap (λ o. unwrap_or o []) (nothing other (f x) (r.beyond x h) ∙ sym (nothing names x h)))
      (cases_lt x (length names))
    where
      nothing : (ns : List (List ℕ)) (y : ℕ) → length ns ≤ y → slice_get ns y ≡ None
      nothing ns y h = elim (slice_get_cases ns y).1 [ inl k ↦ absurd (let small = k.1 in omega (arith, small, h)) | inr k ↦ k.1 ]

  within : (x : ℕ) → x < length names → f x < length other
  within x h = slice_get_within other (f x) (get_or names x []) (r.texts x (get_or names x []) (slice_get-get_or names x [] h))

  stay_all : (params : List (Name × Kind)) → AreNamed names params → StaysAll f r.one_for_one names other params
  stay_all [] h = tt
  stay_all (p ∷ params) h = ((texts p.0.0, within p.0.0 h.0), stay_all params h.1)

  stands : (params : List (Name × Kind)) (rows : List TableRow) (states : List ℕ) (p : Tree) → Stands params rows states p
      → Stands (kinds_renamed f params) (rows_renamed f rows) states (renamed p f)
  stands params rows states p h =
      let n = top p + kinds_top params + sum row_top rows in
      let b = so_below f r.one_for_one n in
      let g = applied b.pairs in
      let tree = trees_agree p g f (λ x k. let l = below_top p x k in b.same x (omega (arith, l))) in
      subst (λ q. Stands (kinds_renamed f params) (rows_renamed f rows) states q) tree
      (subst (λ rs. Stands (kinds_renamed f params) rs states (renamed p g)) (rows_agree g f n b.same rows (omega arith))
      (subst (λ ds. Stands ds (rows_renamed g rows) states (renamed p g)) (kinds_agree g f n b.same params (omega arith)) (stands_so b.pairs params rows states p h)))

  pub text_so : (params : List (Name × Kind)) (p : Tree) (text : List ℕ) → length text < 2 ^ 64 → IsNormalText names params p text
      → IsNormalText other (kinds_renamed f params) (renamed p f) text
  text_so params p text small h =
      let rows = h.table.rows in
      let states = h.table.states in
      let whole : IsNormal (parts names params rows states) × (text ≡ table_text names params rows states) =
      subst (λ (t : Parts). IsNormal t × (text ≡ table_text t.names t.params t.rows t.states)) (parts_are h.table names params h.names_are h.params_are)
      (normal_text names text h.table small h.reads) in
      let t = parts other (kinds_renamed f params) (rows_renamed f rows) states in
      let all = stay_all params whole.0.interface.named in
      let normal : IsNormal t = normal_so f r.one_for_one names other params rows states all whole.0 in
      let most : 2 ^ 64 ≤ 10 ^ 64 = lit≤ tt in
      let short = table_short names params rows states in
      let few : length (rows_renamed f rows) ≤ 10 ^ 64 = omega (arith, length-map rows (row_renamed f), short, ap (λ (s : List ℕ). length s) whole.1, small, most) in
      record {
        table = t;
        reads = ap (text_read other) (whole.1 ∙ sym (table_same f r.one_for_one names other params rows states all whole.0.rows)) ∙ reads_back t d normal few;
        names_are = refl;
        params_are = refl;
        stands = stands params rows states p h.stands;
      }
