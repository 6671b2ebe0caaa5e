-- Parameters, headers and declarations, in both directions.
use Rattle.std.proofs.Common.{◌≡◌, ℕ, ◌<◌, Bool, true, false, List, [], ◌∷◌, ◌++◌, length, map, Option, Some, None, refl, sym, ap, ◌∙◌, arith, inl, inr, subst, length-append}
use Rattle.std.specs.Prelude.{option_map}
use Rattle.std.specs.List.{AllByRecursion}
use Rattle.occ_lex.specs.occ_base.declared.event.Dir.TheVariants as dir
use Rattle.occ_lex.specs.occ_base.declared.names.Name.{Name}
use Rattle.occ_lex.specs.occ_base.declared.width.Width.{Width}
use Rattle.occ_syntax.specs.declared.scope.Kind.{Kind}
use Rattle.occ_syntax.specs.declared.scope.Kind.TheVariants as kind
use Rattle.occ_lex.specs.declared.symbol.Keyword.{Keyword}
use Rattle.occ_lex.specs.declared.symbol.Keyword.TheVariants as word
use Rattle.occ_lex.specs.declared.symbol.Sign.{Sign}
use Rattle.occ_lex.specs.declared.symbol.Sign.TheVariants as sign
use Rattle.occ_lex.specs.declared.symbol.Symbol.{Symbol}
use Rattle.occ_lex.specs.declared.symbol.Symbol.TheVariants as symbol
use Rattle.occ_parse_forms.specs.declared.declaration.Front.{Front}
use Rattle.occ_parse_forms.specs.declared.form.Declared.{Declared}
use Rattle.occ_parse_forms.specs.declared.form.Declared.TheVariants as declared
use Rattle.occ_parse_forms.specs.declared.form.Param.{Param}
use Rattle.occ_parse_forms.specs.Lines.{comma, joined, list_words, count_words, kind_words, front_words, declared_words, mark_words, tail_words, param_front, HasCount, IsMarked, IsUnmarked, IsParam, AreParams, IsDeclaration, IsHeader}
use Rattle.occ_parse_forms.specs.Reading.{front_first, declared_first, declared_of, kind_of, param_with, param_of, params_from, params_of, declared_kind, declaration_of, header_of}
use Rattle.occ_parse_forms.specs.Symbols.{then_read, either, alone, behind_sign, name_first, cut, groups_of, in_front, each}
use Rattle.occ_parse_forms.proofs.Basics.{inspect, read_ok, alone_ok, some_is, behind_ok, name_ok}
use Rattle.occ_parse_forms.proofs.Fronts.{front_spelled, CountOk, front_ok, front_back, one_front, count_of, front_of, front_words_are, count_is, has_count, declared_first_ok, declared_first_back, declared_ok, declared_back, kind_ok, kind_of_back, marks_follow}
use Rattle.occ_parse_forms.proofs.Lists.{is_sign, Free, AllFree, free_append, free_joined, groups_back, groups_ok, Pairs, front_ok as read_front_ok, each_ok, each_back, list_is, map_self, cut_back, cut_ok}

-- ---- one parameter

record IsParamOf (front : Front) (symbols : List Symbol) (p : Param) : Type 0 where
  spelled : symbols ≡ tail_words p
  same : front_of p.declared p.kind ≡ front
  marked : IsMarked p.kind

param_with_ok : (front : Front) (symbols : List Symbol) (p : Param) → param_with front symbols ≡ Some p → IsParamOf front symbols p
unfolding param_with
param_with_ok front symbols p h =
    let d = read_ok (declared_first front.count symbols) (λ d. then_read (kind_of front d.1) (λ k. Some (record { declared = d.0; kind = k }))) p h in
    let k = read_ok (kind_of front d.0.1) (λ k. Some (record { declared = d.0.0; kind = k })) p d.2 in
    let r = declared_first_ok front.count symbols d.0 d.1 in
    let m = kind_ok front d.0.1 k.0 k.1 in
    subst (IsParamOf front symbols) (some_is (record { declared = d.0.0; kind = k.0 }) p k.2) (record {
      spelled = r.spelled ∙ ap (λ r. declared_words d.0.0 ++ r) m.spelled;
      same = λ i. record { count = r.same i; is_channel = m.channel i; width = m.width i };
      marked = m.marked;
    })

param_with_back : (p : Param) → IsMarked p.kind → param_with (front_of p.declared p.kind) (tail_words p) ≡ Some p
unfolding param_with
param_with_back p h =
    ap (λ f. then_read f (λ d. then_read (kind_of (front_of p.declared p.kind) d.1) (λ k. Some (record { declared = d.0; kind = k })))) (declared_first_back p.declared (mark_words p.kind) (marks_follow p.kind))
    ∙ ap (λ f. then_read f (λ k. Some (record { declared = p.declared; kind = k }))) (kind_of_back p.declared p.kind h)

abbrev BeforeOk : Option Front → Type 0
BeforeOk None = Unit {0}
BeforeOk (Some front) = CountOk front.count

abbrev words_before : Option Front → Option (List Symbol)
words_before before = option_map front_spelled before

record ParamRead (before : Option Front) (symbols : List Symbol) (f : Front × Param) : Type 0 where
  is : IsParam (words_before before) symbols f.1
  front : front_spelled f.0 ≡ param_front f.1
  counted : CountOk f.0.count

front_is : (f : Front) (p : Param) → front_of p.declared p.kind ≡ f → front_spelled f ≡ param_front p
front_is f p e = sym (ap front_spelled e) ∙ front_words_are p.declared p.kind

whole_param : (before : Option Front) (symbols rest : List Symbol) (f : Front) (p : Param) → symbols ≡ front_spelled f ++ rest → CountOk f.count → IsParamOf f rest p → ParamRead before symbols (f, p)
whole_param before symbols rest f p spelled ok r = record {
  is = (has_count p.declared (subst CountOk (ap (λ f. f.count) (sym r.same)) ok), r.marked, inl (spelled ∙ (λ i. front_is f p r.same i ++ r.spelled i)));
  front = front_is f p r.same;
  counted = ok;
}

short_param : (symbols : List Symbol) (f : Front) (p : Param) → CountOk f.count → IsParamOf f symbols p → ParamRead (Some f) symbols (f, p)
short_param symbols f p ok r = record {
  is = (has_count p.declared (subst CountOk (ap (λ f. f.count) (sym r.same)) ok), r.marked, inr (ap (λ w. Some w) (front_is f p r.same), r.spelled));
  front = front_is f p r.same;
  counted = ok;
}

carried_ok : (before : Option Front) (symbols : List Symbol) (f : Front × Param) → BeforeOk before
    → then_read before (λ front. then_read (param_with front symbols) (λ p. Some (front, p))) ≡ Some f → ParamRead before symbols f
carried_ok None symbols f ok h = absurd cc
carried_ok (Some front) symbols f ok h =
    let p = read_ok (param_with front symbols) (λ p. Some (front, p)) f h in
    subst (ParamRead (Some front) symbols) (some_is (front, p.0) f p.2) (short_param symbols front p.0 ok (param_with_ok front symbols p.0 p.1))

param_ok : (before : Option Front) (symbols : List Symbol) (f : Front × Param) → BeforeOk before → param_of before symbols ≡ Some f → ParamRead before symbols f
unfolding param_of
param_ok before symbols f ok h = elim (inspect (front_first symbols)) [
  | inr a ↦
      let p = read_ok (param_with a.0.0 a.0.1) (λ p. Some (a.0.0, p)) f (rw a.1 at h) in
      let r = front_ok symbols a.0 a.1 in
      subst (ParamRead before symbols) (some_is (a.0.0, p.0) f p.2) (whole_param before symbols a.0.1 a.0.0 p.0 r.spelled r.counted (param_with_ok a.0.0 a.0.1 p.0 p.1))
  | inl n ↦ carried_ok before symbols f ok (rw n at h)
]

declared_no_front : (d : Declared) (rest : List Symbol) → front_first (declared_words d ++ rest) ≡ None
unfolding front_first
declared_no_front (declared.Plain name) rest = refl
declared_no_front (declared.Element name place) rest = refl
declared_no_front (declared.Array name count) rest = refl

tail_no_front : (p : Param) → front_first (tail_words p) ≡ None
tail_no_front p = declared_no_front p.declared (mark_words p.kind)

whole_back : (before : Option Front) (p : Param) → HasCount p.declared → IsMarked p.kind → param_of before (param_front p ++ tail_words p) ≡ Some (front_of p.declared p.kind, p)
unfolding param_of
whole_back before p h m =
    let f = front_of p.declared p.kind in
    let e : front_first (param_front p ++ tail_words p) ≡ Some (f, tail_words p) =
    ap (λ w. front_first (w ++ tail_words p)) (sym (front_words_are p.declared p.kind)) ∙ front_back f (tail_words p) (count_is p.declared h) in
    ap (λ o. either o (then_read before (λ front. then_read (param_with front (param_front p ++ tail_words p)) (λ p. Some (front, p)))) (λ f. then_read (param_with f.0 f.1) (λ p. Some (f.0, p)))) e
    ∙ ap (λ o. then_read o (λ p. Some (f, p))) (param_with_back p m)

short_back : (f : Front) (p : Param) → front_of p.declared p.kind ≡ f → IsMarked p.kind → param_of (Some f) (tail_words p) ≡ Some (f, p)
unfolding param_of
short_back f p e m =
    ap (λ o. either o (then_read (param_with f (tail_words p)) (λ p. Some (f, p))) (λ f. then_read (param_with f.0 f.1) (λ p. Some (f.0, p)))) (tail_no_front p)
    ∙ ap (λ o. then_read o (λ p. Some (f, p))) (ap (λ f. param_with f (tail_words p)) (sym e) ∙ param_with_back p m)

carried_back : (before : Option Front) (p : Param) → BeforeOk before → HasCount p.declared → IsMarked p.kind → words_before before ≡ Some (param_front p) → param_of before (tail_words p) ≡ Some (front_of p.declared p.kind, p)
carried_back None p ok h m e = absurd cc
carried_back (Some f) p ok h m e =
    let same : f ≡ front_of p.declared p.kind = one_front f (front_of p.declared p.kind) ok (count_is p.declared h) (some_is (front_spelled f) (param_front p) e ∙ sym (front_words_are p.declared p.kind)) in
    short_back f p (sym same) m ∙ ap (λ f. Some (f, p)) same

param_back : (before : Option Front) (symbols : List Symbol) (p : Param) → BeforeOk before → IsParam (words_before before) symbols p → param_of before symbols ≡ Some (front_of p.declared p.kind, p)
param_back before symbols p ok h = elim h.2 [
  | inl e ↦ ap (param_of before) e ∙ whole_back before p h.0 h.1
  | inr e ↦ ap (param_of before) e.1 ∙ carried_back before p ok h.0 h.1 e.0
]

-- ---- lists of parameters

params_ok : (before : Option Front) (groups : List (List Symbol)) (params : List Param) → BeforeOk before → params_from before groups ≡ Some params → AreParams (words_before before) groups params
params_ok before [] [] ok h = tt
params_ok before [] (p ∷ params) ok h = absurd cc
params_ok before (g ∷ groups) [] ok h =
    let r = read_ok (param_of before g) (λ p. in_front (p.1 ∷ []) (params_from (Some p.0) groups)) [] h in
    let f = read_front_ok r.0.1 (params_from (Some r.0.0) groups) [] r.2 in
    let e = f.2 in
    absurd cc
params_ok before (g ∷ groups) (p ∷ params) ok h =
    let r = read_ok (param_of before g) (λ p. in_front (p.1 ∷ []) (params_from (Some p.0) groups)) (p ∷ params) h in
    let f = read_front_ok r.0.1 (params_from (Some r.0.0) groups) (p ∷ params) r.2 in
    let e = f.2 in
    let a : r.0.1 ≡ p = cc in
    let b : f.0 ≡ params = cc in
    let one = param_ok before g r.0 ok r.1 in
    let rest = params_ok (Some r.0.0) groups f.0 one.counted f.1 in
    (subst (IsParam (words_before before) g) a one.is, subst (λ w. AreParams (Some w) groups params) (one.front ∙ ap param_front a) (subst (AreParams (Some (front_spelled r.0.0)) groups) b rest))

params_back : (before : Option Front) (groups : List (List Symbol)) (params : List Param) → BeforeOk before → AreParams (words_before before) groups params → params_from before groups ≡ Some params
params_back before [] [] ok h = refl
params_back before [] (p ∷ params) ok h = absurd h
params_back before (g ∷ groups) [] ok h = absurd h
params_back before (g ∷ groups) (p ∷ params) ok h =
    let rest = params_back (Some (front_of p.declared p.kind)) groups params (count_is p.declared h.0.0) (subst (λ w. AreParams (Some w) groups params) (sym (front_words_are p.declared p.kind)) h.1) in
    ap (λ o. then_read o (λ p. in_front (p.1 ∷ []) (params_from (Some p.0) groups))) (param_back before g p ok h.0) ∙ ap (in_front (p ∷ [])) rest

-- ---- signs that stand in no parameter

declared_free : (at : Sign) → is_sign at (symbol.Sign sign.OpenIndex) ≡ false → is_sign at (symbol.Sign sign.CloseIndex) ≡ false → (d : Declared) → Free at (declared_words d)
declared_free at q r (declared.Plain name) = (refl, tt)
declared_free at q r (declared.Element name place) = (refl, (q, (refl, (r, tt))))
declared_free at q r (declared.Array name count) = (refl, tt)

count_free : (at : Sign) → is_sign at (symbol.Sign sign.OpenIndex) ≡ false → is_sign at (symbol.Sign sign.CloseIndex) ≡ false → (d : Declared) → Free at (count_words d)
count_free at q r (declared.Plain name) = tt
count_free at q r (declared.Element name place) = tt
count_free at q r (declared.Array name count) = (q, (refl, (r, tt)))

kind_free : (at : Sign) (k : Kind) → Free at (kind_words k)
kind_free at (kind.Var width) = (refl, tt)
kind_free at (kind.Chan width mark) = (refl, (refl, (refl, tt)))

mark_free : (at : Sign) → is_sign at (symbol.Sign sign.Query) ≡ false → is_sign at (symbol.Sign sign.Bang) ≡ false → (k : Kind) → Free at (mark_words k)
mark_free at q r (kind.Var width) = tt
mark_free at q r (kind.Chan width None) = tt
mark_free at q r (kind.Chan width (Some dir.Input)) = (q, tt)
mark_free at q r (kind.Chan width (Some dir.Output)) = (r, tt)

record Calm (at : Sign) : Type 0 where
  open_index : is_sign at (symbol.Sign sign.OpenIndex) ≡ false
  close_index : is_sign at (symbol.Sign sign.CloseIndex) ≡ false
  query : is_sign at (symbol.Sign sign.Query) ≡ false
  bang : is_sign at (symbol.Sign sign.Bang) ≡ false

calm_close : Calm sign.Close
calm_close = record { open_index = refl; close_index = refl; query = refl; bang = refl }

calm_comma : Calm sign.Comma
calm_comma = record { open_index = refl; close_index = refl; query = refl; bang = refl }

tail_free : (at : Sign) → Calm at → (p : Param) → Free at (tail_words p)
tail_free at q p = free_append at (declared_words p.declared) (mark_words p.kind) (declared_free at q.open_index q.close_index p.declared) (mark_free at q.query q.bang p.kind)

param_front_free : (at : Sign) → Calm at → (p : Param) → Free at (param_front p)
param_front_free at q p = free_append at (count_words p.declared) (kind_words p.kind) (count_free at q.open_index q.close_index p.declared) (kind_free at p.kind)

param_free : (at : Sign) → Calm at → (before : Option (List Symbol)) (symbols : List Symbol) (p : Param) → IsParam before symbols p → Free at symbols
param_free at q before symbols p h = elim h.2 [
  | inl e ↦ subst (Free at) (sym e) (free_append at (param_front p) (tail_words p) (param_front_free at q p) (tail_free at q p))
  | inr e ↦ subst (Free at) (sym e.1) (tail_free at q p)
]

params_free : (at : Sign) → Calm at → (before : Option (List Symbol)) (groups : List (List Symbol)) (params : List Param) → AreParams before groups params → AllFree at groups
params_free at q before [] [] h = tt
params_free at q before [] (p ∷ params) h = tt
params_free at q before (g ∷ groups) [] h = absurd h
params_free at q before (g ∷ groups) (p ∷ params) h = (param_free at q before g p h.0, params_free at q (Some (param_front p)) groups params h.1)

-- ---- the header

tail_some : (d : Declared) (rest : List Symbol) → 0 < length (declared_words d ++ rest)
tail_some (declared.Plain name) rest = omega arith
tail_some (declared.Element name place) rest = omega arith
tail_some (declared.Array name count) rest = omega arith

param_some : (before : Option (List Symbol)) (symbols : List Symbol) (p : Param) → IsParam before symbols p → 0 < length symbols
param_some before symbols p h =
    let t = tail_some p.declared (mark_words p.kind) in
    elim h.2 [
      | inl e ↦ omega (arith, ap length e, length-append (param_front p) (tail_words p), t)
      | inr e ↦ omega (arith, ap length e.1, t)
    ]

joined_some : (g : List Symbol) (gs : List (List Symbol)) → 0 < length g → 0 < length (joined g gs)
joined_some g [] h = h
joined_some g (next ∷ gs) h = omega (arith, length-append g (comma ∷ joined next gs))

some_params : (symbols : List Symbol) → 0 < length symbols → params_of symbols ≡ params_from None (groups_of symbols)
some_params [] h = absurd (omega (arith, h))
some_params (s ∷ symbols) h = refl

record AreInside (symbols : List Symbol) (params : List Param) : Type 0 where
  groups : List (List Symbol)
  are : AreParams None groups params
  spelled : symbols ≡ list_words (λ g. g) groups

inside_ok : (symbols : List Symbol) (params : List Param) → params_of symbols ≡ Some params → AreInside symbols params
inside_ok [] params h = record { groups = []; are = subst (AreParams None []) (some_is [] params h) tt; spelled = refl }
inside_ok (s ∷ symbols) params h =
    let g = groups_ok (s ∷ symbols) in
    let a = params_ok None (groups_of (s ∷ symbols)) params tt h in
    record {
      groups = g.first ∷ g.others;
      are = subst (λ gs. AreParams None gs params) g.groups a;
      spelled = g.spelled ∙ ap (joined g.first) (sym (map_self g.others));
    }

inside_back : (groups : List (List Symbol)) (params : List Param) → AreParams None groups params → params_of (list_words (λ g. g) groups) ≡ Some params
inside_back [] [] h = refl
inside_back [] (p ∷ params) h = absurd h
inside_back (g ∷ groups) [] h = absurd h
inside_back (g ∷ groups) (p ∷ params) h =
    let free = params_free sign.Comma calm_comma None (g ∷ groups) (p ∷ params) h in
    ap (λ gs. params_of (joined g gs)) (map_self groups) ∙ some_params (joined g groups) (joined_some g groups (param_some None g p h.0))
    ∙ ap (params_from None) (groups_back g groups free.0 free.1) ∙ params_back None (g ∷ groups) (p ∷ params) tt h

inside_free : (groups : List (List Symbol)) (params : List Param) → AreParams None groups params → Free sign.Close (list_words (λ g. g) groups)
inside_free [] params h = tt
inside_free (g ∷ groups) params h =
    let free = params_free sign.Close calm_close None (g ∷ groups) params h in
    subst (λ gs. Free sign.Close (joined g gs)) (sym (map_self groups)) (free_joined sign.Close g groups refl free.0 free.1)

pub header_ok : (symbols : List Symbol) (h : Name × List Param) → header_of symbols ≡ Some h → IsHeader (symbol.Keyword word.Proc ∷ symbols) h.0 h.1
unfolding header_of
header_ok symbols h e =
    let n = read_ok (name_first symbols) (λ n. then_read (behind_sign sign.Open n.1) (λ rest. then_read (cut sign.Close rest) (λ parts. then_read (alone parts.0 parts.1) (λ inside. then_read (params_of inside) (λ params. Some (n.0, params)))))) h e in
    let o = read_ok (behind_sign sign.Open n.0.1) (λ rest. then_read (cut sign.Close rest) (λ parts. then_read (alone parts.0 parts.1) (λ inside. then_read (params_of inside) (λ params. Some (n.0.0, params))))) h n.2 in
    let c = read_ok (cut sign.Close o.0) (λ parts. then_read (alone parts.0 parts.1) (λ inside. then_read (params_of inside) (λ params. Some (n.0.0, params)))) h o.2 in
    let i = read_ok (alone c.0.0 c.0.1) (λ inside. then_read (params_of inside) (λ params. Some (n.0.0, params))) h c.2 in
    let p = read_ok (params_of i.0) (λ params. Some (n.0.0, params)) h i.2 in
    let a = alone_ok c.0.0 i.0 c.0.1 i.1 in
    let r = inside_ok i.0 p.0 p.1 in
    subst (λ (h : Name × List Param). IsHeader (symbol.Keyword word.Proc ∷ symbols) h.0 h.1) (some_is (n.0.0, p.0) h p.2) (
      r.groups,
      r.are,
      ap (λ s. symbol.Keyword word.Proc ∷ s) (name_ok symbols n.0 n.1 ∙ ap (λ s. symbol.Name n.0.0 ∷ s) (behind_ok (symbol.Sign sign.Open) n.0.1 o.0 o.1
          ∙ ap (λ s. symbol.Sign sign.Open ∷ s) (cut_ok sign.Close o.0 c.0 c.1 ∙ (λ i. (a.1 i) ++ symbol.Sign sign.Close ∷ (a.0 i)) ∙ ap (λ s. s ++ symbol.Sign sign.Close ∷ []) r.spelled))),
    )

pub header_back : (name : Name) (groups : List (List Symbol)) (params : List Param) → AreParams None groups params
    → header_of (symbol.Name name ∷ symbol.Sign sign.Open ∷ (list_words (λ g. g) groups ++ symbol.Sign sign.Close ∷ [])) ≡ Some (name, params)
unfolding header_of
header_back name groups params h =
    ap (λ c. then_read c (λ parts. then_read (alone parts.0 parts.1) (λ inside. then_read (params_of inside) (λ params. Some (name, params))))) (cut_back sign.Close (list_words (λ g. g) groups) [] refl (inside_free groups params h))
    ∙ ap (λ p. then_read p (λ params. Some (name, params))) (inside_back groups params h)

-- ---- declarations

abbrev DeclaredAs : Option ℕ → List Symbol → Declared → Type 0
DeclaredAs count symbols d = (symbols ≡ declared_words d) × (count_of d ≡ count)

declared_as_back : (count : Option ℕ) (g : List Symbol) (d : Declared) → DeclaredAs count g d → declared_of count g ≡ Some d
declared_as_back count g d h = (λ i. declared_of (sym h.1 i) (h.0 i)) ∙ declared_back d

record IsKindOf (f : Front) : Type 0 where
  unmarked : IsUnmarked (declared_kind f)
  fronts : (d : Declared) → count_of d ≡ f.count → front_of d (declared_kind f) ≡ f

kind_of_front : (count : Option ℕ) (b : Bool) (width : Width) → IsKindOf (record { count = count; is_channel = b; width = width })
kind_of_front count true width = record { unmarked = tt; fronts = λ d e. (λ i. record { count = e i; is_channel = true; width = width }) }
kind_of_front count false width = record { unmarked = tt; fronts = λ d e. (λ i. record { count = e i; is_channel = false; width = width }) }

words_of_front : (f : Front) (d : Declared) → count_of d ≡ f.count → front_words d (declared_kind f) ≡ front_spelled f
words_of_front f d e = let k = kind_of_front f.count f.is_channel f.width in sym (front_words_are d (declared_kind f)) ∙ ap front_spelled (k.fronts d e)

all_fronts : (f : Front) (first : Declared) → count_of first ≡ f.count → (gs : List (List Symbol)) (ds : List Declared) → Pairs (DeclaredAs f.count) gs ds
    → AllByRecursion (λ e. front_words e (declared_kind f) ≡ front_words first (declared_kind f)) ds
all_fronts f first h [] [] k = tt
all_fronts f first h [] (d ∷ ds) k = absurd k
all_fronts f first h (g ∷ gs) [] k = absurd k
all_fronts f first h (g ∷ gs) (d ∷ ds) k = (words_of_front f d k.0.1 ∙ sym (words_of_front f first h), all_fronts f first h gs ds k.1)

all_words : (count : Option ℕ) (gs : List (List Symbol)) (ds : List Declared) → Pairs (DeclaredAs count) gs ds → gs ≡ map declared_words ds
all_words count [] [] k = refl
all_words count [] (d ∷ ds) k = absurd k
all_words count (g ∷ gs) [] k = absurd k
all_words count (g ∷ gs) (d ∷ ds) k = λ i. k.0.0 i ∷ all_words count gs ds k.1 i

names_ok : (f : Front) (symbols : List Symbol) (g : List Symbol) (gs : List (List Symbol)) (ds : List Declared) → CountOk f.count
    → symbols ≡ front_spelled f ++ (joined g gs ++ symbol.Sign sign.Colon ∷ []) → Pairs (DeclaredAs f.count) (g ∷ gs) ds → IsDeclaration symbols (declared_kind f) ds
names_ok f symbols g gs [] ok spelled h = absurd h
names_ok f symbols g gs (d ∷ ds) ok spelled h = (
  (kind_of_front f.count f.is_channel f.width).unmarked,
  has_count d (subst CountOk (sym h.0.1) ok),
  all_fronts f d h.0.1 gs ds h.1,
  spelled ∙ (λ i. sym (words_of_front f d h.0.1) i ++ (list_is declared_words (d ∷ ds) g gs (all_words f.count (g ∷ gs) (d ∷ ds) h) i ++ symbol.Sign sign.Colon ∷ [])),
)

pub declaration_ok : (symbols : List Symbol) (d : Kind × List Declared) → declaration_of symbols ≡ Some d → IsDeclaration symbols d.0 d.1
unfolding declaration_of
declaration_ok symbols d h =
    let f = read_ok (front_first symbols) (λ f. then_read (cut sign.Colon f.1) (λ parts. then_read (alone parts.0 parts.1) (λ names. then_read (each (declared_of f.0.count) (groups_of names)) (λ ds. Some (declared_kind f.0, ds))))) d h in
    let c = read_ok (cut sign.Colon f.0.1) (λ parts. then_read (alone parts.0 parts.1) (λ names. then_read (each (declared_of f.0.0.count) (groups_of names)) (λ ds. Some (declared_kind f.0.0, ds)))) d f.2 in
    let n = read_ok (alone c.0.0 c.0.1) (λ names. then_read (each (declared_of f.0.0.count) (groups_of names)) (λ ds. Some (declared_kind f.0.0, ds))) d c.2 in
    let e = read_ok (each (declared_of f.0.0.count) (groups_of n.0)) (λ ds. Some (declared_kind f.0.0, ds)) d n.2 in
    let a = alone_ok c.0.0 n.0 c.0.1 n.1 in
    let r = front_ok symbols f.0 f.1 in
    let g = groups_ok n.0 in
    let p = each_ok (DeclaredAs f.0.0.count) (declared_of f.0.0.count) (declared_ok f.0.0.count) (groups_of n.0) e.0 e.1 in
    subst (λ (d : Kind × List Declared). IsDeclaration symbols d.0 d.1) (some_is (declared_kind f.0.0, e.0) d e.2)
    (names_ok f.0.0 symbols g.first g.others e.0 r.counted
    (r.spelled ∙ ap (λ s. front_spelled f.0.0 ++ s) (cut_ok sign.Colon f.0.1 c.0 c.1 ∙ (λ i. (a.1 i) ++ symbol.Sign sign.Colon ∷ (a.0 i)) ∙ ap (λ s. s ++ symbol.Sign sign.Colon ∷ []) g.spelled))
    (subst (λ gs. Pairs (DeclaredAs f.0.0.count) gs e.0) g.groups p))

count_same : (e d : Declared) (x : Keyword) (rest : List Symbol) → count_words e ++ symbol.Keyword x ∷ rest ≡ count_words d ++ symbol.Keyword x ∷ rest → count_of e ≡ count_of d
count_same (declared.Plain n) (declared.Plain m) x rest h = refl
count_same (declared.Plain n) (declared.Element m i) x rest h = refl
count_same (declared.Plain n) (declared.Array m c) x rest h = absurd cc
count_same (declared.Element n i) (declared.Plain m) x rest h = refl
count_same (declared.Element n i) (declared.Element m j) x rest h = refl
count_same (declared.Element n i) (declared.Array m c) x rest h = absurd cc
count_same (declared.Array n c) (declared.Plain m) x rest h = absurd cc
count_same (declared.Array n c) (declared.Element m j) x rest h = absurd cc
count_same (declared.Array n c) (declared.Array m b) x rest h = let e : c ≡ b = cc in ap (λ c. Some c) e

same_count : (k : Kind) (e d : Declared) → front_words e k ≡ front_words d k → count_of e ≡ count_of d
same_count (kind.Var width) e d h = count_same e d (word.Width width) [] h
same_count (kind.Chan width mark) e d h = count_same e d word.Chan (symbol.Keyword word.Of ∷ symbol.Keyword (word.Width width) ∷ []) h

all_as : (k : Kind) (first : Declared) (ds : List Declared) → AllByRecursion (λ e. front_words e k ≡ front_words first k) ds → Pairs (DeclaredAs (count_of first)) (map declared_words ds) ds
all_as k first [] h = tt
all_as k first (d ∷ ds) h = ((refl, same_count k d first h.0), all_as k first ds h.1)

all_free : (at : Sign) → is_sign at (symbol.Sign sign.OpenIndex) ≡ false → is_sign at (symbol.Sign sign.CloseIndex) ≡ false → (ds : List Declared) → AllFree at (map declared_words ds)
all_free at q r [] = tt
all_free at q r (d ∷ ds) = (declared_free at q r d, all_free at q r ds)

kind_again : (d : Declared) (k : Kind) → IsUnmarked k → declared_kind (front_of d k) ≡ k
kind_again d (kind.Var width) h = refl
kind_again d (kind.Chan width None) h = refl
kind_again d (kind.Chan width (Some mark)) h = absurd h

pub declaration_back : (k : Kind) (d : Declared) (ds : List Declared) → IsUnmarked k → HasCount d → AllByRecursion (λ e. front_words e k ≡ front_words d k) ds
    → declaration_of (front_words d k ++ (list_words declared_words (d ∷ ds) ++ symbol.Sign sign.Colon ∷ [])) ≡ Some (k, d ∷ ds)
unfolding declaration_of
declaration_back k d ds u h same =
    let f = front_of d k in
    let names = joined (declared_words d) (map declared_words ds) in
    ap (λ s. declaration_of (s ++ (names ++ symbol.Sign sign.Colon ∷ []))) (sym (front_words_are d k))
    ∙ ap (λ f. then_read f (λ f. then_read (cut sign.Colon f.1) (λ parts. then_read (alone parts.0 parts.1) (λ names. then_read (each (declared_of f.0.count) (groups_of names)) (λ ds. Some (declared_kind f.0, ds))))))
    (front_back f (names ++ symbol.Sign sign.Colon ∷ []) (count_is d h))
    ∙ ap (λ c. then_read c (λ parts. then_read (alone parts.0 parts.1) (λ names. then_read (each (declared_of f.count) (groups_of names)) (λ ds. Some (declared_kind f, ds)))))
    (cut_back sign.Colon names [] refl (free_joined sign.Colon (declared_words d) (map declared_words ds) refl (declared_free sign.Colon refl refl d) (all_free sign.Colon refl refl ds)))
    ∙ ap (λ gs. then_read (each (declared_of f.count) gs) (λ ds. Some (declared_kind f, ds)))
    (groups_back (declared_words d) (map declared_words ds) (declared_free sign.Comma refl refl d) (all_free sign.Comma refl refl ds))
    ∙ ap (λ r. then_read r (λ ds. Some (declared_kind f, ds))) (each_back (DeclaredAs (count_of d)) (declared_of (count_of d)) (declared_as_back (count_of d)) (declared_words d ∷ map declared_words ds) (d ∷ ds) ((refl, refl), all_as k d ds same))
    ∙ ap (λ k. Some (k, d ∷ ds)) (kind_again d k u)
