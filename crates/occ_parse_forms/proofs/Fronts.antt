-- What stands in front of declared names, and the names themselves, in both directions.
use Rattle.std.proofs.Common.{◌≡◌, ℕ, ◌<◌, ◌==◌, Bool, true, false, cond, List, [], ◌∷◌, ◌++◌, Option, Some, None, refl, sym, ap, ◌∙◌, arith, inl, inr, subst}
use Rattle.std.proofs.lemmas.List.{append-nil}
use Rattle.std.proofs.lemmas.Bool.{cases_Bool, cond-true, cond-false}
use Rattle.std.proofs.lemmas.Bool.Decides.{nat_tests}
use Rattle.occ_lex.specs.occ_base.declared.event.Dir.TheVariants as dir
use Rattle.occ_lex.specs.occ_base.declared.names.Name.{Name}
use Rattle.occ_lex.specs.occ_base.declared.width.Width.{Width}
use Rattle.occ_syntax.specs.declared.scope.Kind.{Kind}
use Rattle.occ_syntax.specs.declared.scope.Kind.TheVariants as kind
use Rattle.occ_lex.specs.declared.symbol.Keyword.TheVariants as word
use Rattle.occ_lex.specs.declared.symbol.Sign.TheVariants as sign
use Rattle.occ_lex.specs.declared.symbol.Symbol.{Symbol}
use Rattle.occ_lex.specs.declared.symbol.Symbol.TheVariants as symbol
use Rattle.occ_parse_forms.specs.declared.declaration.Front.{Front}
use Rattle.occ_parse_forms.specs.declared.form.Declared.{Declared}
use Rattle.occ_parse_forms.specs.declared.form.Declared.TheVariants as declared
use Rattle.occ_parse_forms.specs.Lines.{count_words, kind_words, front_words, declared_words, mark_words, HasCount, IsMarked}
use Rattle.occ_parse_forms.specs.Reading.{front_behind, front_first, counted, element_behind, declared_first, declared_of, channel_of, kind_of}
use Rattle.occ_parse_forms.specs.Symbols.{then_read, either, alone, behind_sign, behind_word, name_first, numeral_first, width_first}
use Rattle.occ_parse_forms.proofs.Basics.{inspect, read_ok, alone_ok, some_is, behind_ok, name_ok, numeral_ok, width_ok}

abbrev count_spelled : Option ℕ → List Symbol
count_spelled None = []
count_spelled (Some count) = symbol.Sign sign.OpenIndex ∷ symbol.Numeral count ∷ symbol.Sign sign.CloseIndex ∷ []

abbrev kind_spelled : Bool → Width → List Symbol
kind_spelled false width = symbol.Keyword (word.Width width) ∷ []
kind_spelled true width = symbol.Keyword word.Chan ∷ symbol.Keyword word.Of ∷ symbol.Keyword (word.Width width) ∷ []

abbrev pub front_spelled : Front → List Symbol
front_spelled f = count_spelled f.count ++ kind_spelled f.is_channel f.width

abbrev pub CountOk : Option ℕ → Type 0
CountOk None = Unit {0}
CountOk (Some count) = 0 < count

positive : (n : ℕ) → (n == 0) ≡ false → 0 < n
positive n h = grind (arith, nat_tests)

not_zero : (n : ℕ) → 0 < n → (n == 0) ≡ false
not_zero n h = grind (arith, nat_tests)

-- ---- the front is read as it is spelled

record HasFront (symbols : List Symbol) (count : Option ℕ) (f : Front × List Symbol) : Type 0 where
  spelled : symbols ≡ kind_spelled f.0.is_channel f.0.width ++ f.1
  same : f.0.count ≡ count

kind_first_ok : (count : Option ℕ) (symbols : List Symbol) (f : Front × List Symbol) → front_behind count symbols ≡ Some f → HasFront symbols count f
kind_first_ok count symbols f h = elim (inspect (behind_word word.Chan symbols)) [
  | inr a ↦
      let b = read_ok (behind_word word.Of a.0) (λ rest. then_read (width_first rest) (λ w. Some (record { count = count; is_channel = true; width = w.0 }, w.1))) f (rw a.1 at h) in
      let w = read_ok (width_first b.0) (λ w. Some (record { count = count; is_channel = true; width = w.0 }, w.1)) f b.2 in
      let e = some_is (record { count = count; is_channel = true; width = w.0.0 }, w.0.1) f w.2 in
      record {
        spelled = behind_ok (symbol.Keyword word.Chan) symbols a.0 a.1 ∙ ap (λ r. symbol.Keyword word.Chan ∷ r) (behind_ok (symbol.Keyword word.Of) a.0 b.0 b.1 ∙ ap (λ r. symbol.Keyword word.Of ∷ r) (width_ok b.0 w.0 w.1))
            ∙ ap (λ (f : Front × List Symbol). kind_spelled f.0.is_channel f.0.width ++ f.1) e;
        same = sym (ap (λ (f : Front × List Symbol). f.0.count) e);
      }
  | inl n ↦
      let w = read_ok (width_first symbols) (λ w. Some (record { count = count; is_channel = false; width = w.0 }, w.1)) f (rw n at h) in
      let e = some_is (record { count = count; is_channel = false; width = w.0.0 }, w.0.1) f w.2 in
      record {
        spelled = width_ok symbols w.0 w.1 ∙ ap (λ (f : Front × List Symbol). kind_spelled f.0.is_channel f.0.width ++ f.1) e;
        same = sym (ap (λ (f : Front × List Symbol). f.0.count) e);
      }
]

pub record IsFront (symbols : List Symbol) (f : Front × List Symbol) : Type 0 where
  pub spelled : symbols ≡ front_spelled f.0 ++ f.1
  pub counted : CountOk f.0.count

unless_zero : {A : Type 0} (n : ℕ) (o : Option A) (y : A) → cond (n == 0) None o ≡ Some y → (0 < n) × (o ≡ Some y)
unless_zero {A = A} n o y h = elim (cases_Bool (n == 0)) [
  | inl t ↦ let e : None ≡ Some y = sym (cond-true (n == 0) _ _ t) ∙ h in absurd cc
  | inr f ↦ (positive n f, sym (cond-false (n == 0) _ _ f) ∙ h)
]

pub front_ok : (symbols : List Symbol) (f : Front × List Symbol) → front_first symbols ≡ Some f → IsFront symbols f
unfolding front_first
front_ok symbols f h = elim (inspect (behind_sign sign.OpenIndex symbols)) [
  | inr a ↦
      let n = read_ok (numeral_first a.0) (λ n. then_read (behind_sign sign.CloseIndex n.1) (λ rest. cond (n.0 == 0) None (front_behind (Some n.0) rest))) f (rw a.1 at h) in
      let z = read_ok (behind_sign sign.CloseIndex n.0.1) (λ rest. cond (n.0.0 == 0) None (front_behind (Some n.0.0) rest)) f n.2 in
      let u = unless_zero n.0.0 (front_behind (Some n.0.0) z.0) f z.2 in
      let k = kind_first_ok (Some n.0.0) z.0 f u.1 in
      record {
        spelled = behind_ok (symbol.Sign sign.OpenIndex) symbols a.0 a.1
            ∙ ap (λ r. symbol.Sign sign.OpenIndex ∷ r) (numeral_ok a.0 n.0 n.1 ∙ ap (λ r. symbol.Numeral n.0.0 ∷ r) (behind_ok (symbol.Sign sign.CloseIndex) n.0.1 z.0 z.1 ∙ ap (λ r. symbol.Sign sign.CloseIndex ∷ r) k.spelled))
            ∙ ap (λ c. (count_spelled c ++ kind_spelled f.0.is_channel f.0.width) ++ f.1) (sym k.same);
        counted = subst CountOk (sym k.same) u.0;
      }
  | inl n ↦
      let k = kind_first_ok None symbols f (rw n at h) in
      record {
        spelled = k.spelled ∙ ap (λ c. (count_spelled c ++ kind_spelled f.0.is_channel f.0.width) ++ f.1) (sym k.same);
        counted = subst CountOk (sym k.same) tt;
      }
]

-- ---- a front that is spelled is read

kind_back : (count : Option ℕ) (b : Bool) (width : Width) (rest : List Symbol) → front_behind count (kind_spelled b width ++ rest) ≡ Some (record { count = count; is_channel = b; width = width }, rest)
kind_back count false width rest = refl
kind_back count true width rest = refl

parts_back : (count : Option ℕ) (b : Bool) (width : Width) (rest : List Symbol) → CountOk count
    → front_first ((count_spelled count ++ kind_spelled b width) ++ rest) ≡ Some (record { count = count; is_channel = b; width = width }, rest)
unfolding front_first
parts_back None false width rest h = refl
parts_back None true width rest h = refl
parts_back (Some count) b width rest h = cond-false (count == 0) _ _ (not_zero count h) ∙ kind_back (Some count) b width rest

pub front_back : (f : Front) (rest : List Symbol) → CountOk f.count → front_first (front_spelled f ++ rest) ≡ Some (f, rest)
front_back f rest h = parts_back f.count f.is_channel f.width rest h

pub one_front : (f g : Front) → CountOk f.count → CountOk g.count → front_spelled f ≡ front_spelled g → f ≡ g
one_front f g h k e =
    let s : Some (f, []) ≡ Some (g, []) = sym (front_back f [] h) ∙ ap (λ ts. front_first (ts ++ [])) e ∙ front_back g [] k in
    ap (λ p. p.0) (some_is (f, []) (g, []) s)

-- ---- the front of what is declared

abbrev pub count_of : Declared → Option ℕ
count_of (declared.Plain name) = None
count_of (declared.Element name place) = None
count_of (declared.Array name count) = Some count

abbrev is_chan : Kind → Bool
is_chan (kind.Var width) = false
is_chan (kind.Chan width mark) = true

abbrev width_of : Kind → Width
width_of (kind.Var width) = width
width_of (kind.Chan width mark) = width

abbrev pub front_of : Declared → Kind → Front
front_of d k = record { count = count_of d; is_channel = is_chan k; width = width_of k }

count_words_are : (d : Declared) → count_spelled (count_of d) ≡ count_words d
count_words_are (declared.Plain name) = refl
count_words_are (declared.Element name place) = refl
count_words_are (declared.Array name count) = refl

kind_words_are : (k : Kind) → kind_spelled (is_chan k) (width_of k) ≡ kind_words k
kind_words_are (kind.Var width) = refl
kind_words_are (kind.Chan width mark) = refl

pub front_words_are : (d : Declared) (k : Kind) → front_spelled (front_of d k) ≡ front_words d k
front_words_are d k = λ i. count_words_are d i ++ kind_words_are k i

pub count_is : (d : Declared) → HasCount d → CountOk (count_of d)
count_is (declared.Plain name) h = tt
count_is (declared.Element name place) h = tt
count_is (declared.Array name count) h = h

pub has_count : (d : Declared) → CountOk (count_of d) → HasCount d
has_count (declared.Plain name) h = tt
has_count (declared.Element name place) h = tt
has_count (declared.Array name count) h = h

-- ---- declared names

pub record IsDeclared (count : Option ℕ) (symbols : List Symbol) (d : Declared × List Symbol) : Type 0 where
  pub spelled : symbols ≡ declared_words d.0 ++ d.1
  pub same : count_of d.0 ≡ count

declared_is : (count : Option ℕ) (symbols : List Symbol) (d : Declared) (rest : List Symbol) (f : Declared × List Symbol) → Some (d, rest) ≡ Some f → symbols ≡ declared_words d ++ rest → count_of d ≡ count → IsDeclared count symbols f
declared_is count symbols d rest f h spelled same =
    let e = some_is (d, rest) f h in
    record { spelled = spelled ∙ ap (λ f. declared_words f.0 ++ f.1) e; same = sym (ap (λ f. count_of f.0) e) ∙ same }

counted_ok : (count : Option ℕ) (name : Name) (symbols : List Symbol) (f : Declared × List Symbol) → Some (counted count name, symbols) ≡ Some f → IsDeclared count (symbol.Name name ∷ symbols) f
counted_ok None name symbols f h = declared_is None (symbol.Name name ∷ symbols) (declared.Plain name) symbols f h refl refl
counted_ok (Some count) name symbols f h = declared_is (Some count) (symbol.Name name ∷ symbols) (declared.Array name count) symbols f h refl refl

element_ok : (count : Option ℕ) (name : Name) (symbols : List Symbol) (f : Declared × List Symbol) → element_behind count name symbols ≡ Some f → IsDeclared count (symbol.Name name ∷ symbol.Sign sign.OpenIndex ∷ symbols) f
element_ok (Some count) name symbols f h = absurd cc
element_ok None name symbols f h =
    let n = read_ok (numeral_first symbols) (λ n. then_read (behind_sign sign.CloseIndex n.1) (λ rest. Some (declared.Element name n.0, rest))) f h in
    let z = read_ok (behind_sign sign.CloseIndex n.0.1) (λ rest. Some (declared.Element name n.0.0, rest)) f n.2 in
    declared_is None (symbol.Name name ∷ symbol.Sign sign.OpenIndex ∷ symbols) (declared.Element name n.0.0) z.0 f z.2
    (ap (λ r. symbol.Name name ∷ symbol.Sign sign.OpenIndex ∷ r) (numeral_ok symbols n.0 n.1 ∙ ap (λ r. symbol.Numeral n.0.0 ∷ r) (behind_ok (symbol.Sign sign.CloseIndex) n.0.1 z.0 z.1))) refl

pub declared_first_ok : (count : Option ℕ) (symbols : List Symbol) (f : Declared × List Symbol) → declared_first count symbols ≡ Some f → IsDeclared count symbols f
unfolding declared_first
declared_first_ok count symbols f h =
    let n = read_ok (name_first symbols) (λ n. either (behind_sign sign.OpenIndex n.1) (Some (counted count n.0, n.1)) (λ rest. element_behind count n.0 rest)) f h in
    let named = name_ok symbols n.0 n.1 in
    elim (inspect (behind_sign sign.OpenIndex n.0.1)) [
      | inr a ↦
          let r = element_ok count n.0.0 a.0 f (rw a.1 at n.2) in
          record { spelled = named ∙ ap (λ r. symbol.Name n.0.0 ∷ r) (behind_ok (symbol.Sign sign.OpenIndex) n.0.1 a.0 a.1) ∙ r.spelled; same = r.same }
      | inl b ↦
          let r = counted_ok count n.0.0 n.0.1 f (rw b at n.2) in
          record { spelled = named ∙ r.spelled; same = r.same }
    ]

pub declared_first_back : (d : Declared) (rest : List Symbol) → behind_sign sign.OpenIndex rest ≡ None → declared_first (count_of d) (declared_words d ++ rest) ≡ Some (d, rest)
unfolding declared_first
declared_first_back (declared.Plain name) rest h = rw h refl
declared_first_back (declared.Element name place) rest h = refl
declared_first_back (declared.Array name count) rest h = rw h refl

pub declared_ok : (count : Option ℕ) (symbols : List Symbol) (d : Declared) → declared_of count symbols ≡ Some d → (symbols ≡ declared_words d) × (count_of d ≡ count)
unfolding declared_of
declared_ok count symbols d h =
    let f = read_ok (declared_first count symbols) (λ d. alone d.0 d.1) d h in
    let r = declared_first_ok count symbols f.0 f.1 in
    let a = alone_ok f.0.0 d f.0.1 f.2 in
    (r.spelled ∙ ap (λ r. declared_words f.0.0 ++ r) a.0 ∙ append-nil (declared_words f.0.0) ∙ ap declared_words a.1, ap count_of (sym a.1) ∙ r.same)

pub declared_back : (d : Declared) → declared_of (count_of d) (declared_words d) ≡ Some d
unfolding declared_of
declared_back d =
    ap (λ r. then_read (declared_first (count_of d) r) (λ d. alone d.0 d.1)) (sym (append-nil (declared_words d))) ∙ ap (λ f. then_read f (λ d. alone d.0 d.1)) (declared_first_back d [] refl)

-- ---- the kind of a parameter

pub record IsKind (front : Front) (symbols : List Symbol) (k : Kind) : Type 0 where
  pub spelled : symbols ≡ mark_words k
  pub marked : IsMarked k
  pub channel : is_chan k ≡ front.is_channel
  pub width : width_of k ≡ front.width

kind_is : (front : Front) (symbols : List Symbol) (k l : Kind) → k ≡ l → IsKind front symbols k → IsKind front symbols l
kind_is front symbols k l e h = subst (IsKind front symbols) e h

pub kind_ok : (front : Front) (symbols : List Symbol) (k : Kind) → kind_of front symbols ≡ Some k → IsKind front symbols k
unfolding kind_of
kind_ok front symbols k h = elim (cases_Bool front.is_channel) [
  | inl t ↦
      let c : channel_of front.width symbols ≡ Some k = sym (cond-true front.is_channel _ _ t) ∙ h in
      elim (inspect (behind_sign sign.Query symbols)) [
        | inr a ↦
            let z = alone_ok (kind.Chan front.width (Some dir.Input)) k a.0 (rw a.1 at c) in
            kind_is front symbols (kind.Chan front.width (Some dir.Input)) k z.1 (record { spelled = behind_ok (symbol.Sign sign.Query) symbols a.0 a.1 ∙ ap (λ r. symbol.Sign sign.Query ∷ r) z.0; marked = tt; channel = sym t; width = refl })
        | inl n ↦
            let b = read_ok (behind_sign sign.Bang symbols) (λ rest. alone (kind.Chan front.width (Some dir.Output)) rest) k (rw n at c) in
            let z = alone_ok (kind.Chan front.width (Some dir.Output)) k b.0 b.2 in
            kind_is front symbols (kind.Chan front.width (Some dir.Output)) k z.1 (record { spelled = behind_ok (symbol.Sign sign.Bang) symbols b.0 b.1 ∙ ap (λ r. symbol.Sign sign.Bang ∷ r) z.0; marked = tt; channel = sym t; width = refl })
      ]
  | inr f ↦
      let z = alone_ok (kind.Var front.width) k symbols (sym (cond-false front.is_channel _ _ f) ∙ h) in
      kind_is front symbols (kind.Var front.width) k z.1 (record { spelled = z.0; marked = tt; channel = sym f; width = refl })
]

pub kind_of_back : (d : Declared) (k : Kind) → IsMarked k → kind_of (front_of d k) (mark_words k) ≡ Some k
unfolding kind_of
kind_of_back d (kind.Var width) h = refl
kind_of_back d (kind.Chan width None) h = absurd h
kind_of_back d (kind.Chan width (Some dir.Input)) h = refl
kind_of_back d (kind.Chan width (Some dir.Output)) h = refl

pub marks_follow : (k : Kind) → behind_sign sign.OpenIndex (mark_words k) ≡ None
marks_follow (kind.Var width) = refl
marks_follow (kind.Chan width None) = refl
marks_follow (kind.Chan width (Some dir.Input)) = refl
marks_follow (kind.Chan width (Some dir.Output)) = refl
