-- Parameters that are a scope of few names and few bits, each with a name as a program can have it, are an interface.
use Rattle.std.proofs.Common.{◌≡◌, ℕ, ◌+◌, ◌<◌, ◌≤◌, Bool, true, false, cond, eqb, nat_le, List, [], ◌∷◌, ◌++◌, length, map, Option, Some, None, is_none, refl, sym, ap, subst, ◌∙◌, arith, append_assoc, length-append}
use Rattle.std.specs.List.{AllByRecursion, list_all, list_any}
use Rattle.std.specs.Str.{bytes_eq}
use Rattle.std.proofs.lemmas.Bool.{and_parts, and_from, or_from, both_ways, eq-eqb, false_from_ne_true, leb-true, le-leb, lt-ltb, not_from_false}
use Rattle.std.proofs.lemmas.List.{length-map}
use Rattle.std.proofs.lemmas.Slice.Eq.{bytes_eq-Decides}
use Rattle.occ_nform.specs.occ_base.declared.names.Name.{Name}
use Rattle.occ_nform.specs.occ_base.declared.width.Width.{Width}
use Rattle.occ_nform.specs.occ_base.declared.width.Width.TheVariants.{Bool as Truth, Word}
use Rattle.occ_nform.specs.occ_base.Names.{IsDistinct}
use Rattle.occ_nform.specs.occ_base.Width.{IsWidth}
use Rattle.occ_nform.specs.occ_syntax.declared.scope.Kind.{Kind}
use Rattle.occ_nform.specs.occ_syntax.declared.scope.Kind.TheVariants.{Var, Chan}
use Rattle.occ_nform.specs.occ_syntax.Counts.{bits_of_kind, bits_of_scope}
use Rattle.occ_nform.specs.occ_syntax.Scopes.{environment}
use Rattle.occ_nform.specs.occ_syntax.Types.{can_declare, is_width, scope_kept, width_of_kind}
use Rattle.occ_renamed.specs.occ_parse_forms.declared.form.Param.{Param}
use Rattle.occ_renamed.specs.occ_parse_forms.Lines.{IsMarked}
use Rattle.occ_renamed.specs.occ_parse_rules.Forest.{no_line}
use Rattle.occ_renamed.specs.occ_parse_rules.Names.{redeclares_some}
use Rattle.occ_renamed.specs.occ_parse_rules.Places.{Place, places, param_entries}
use Rattle.occ_renamed.specs.occ_parse_rules.Unrolled.{Numbers, named, params_named}
use Rattle.occ_renamed.specs.occ_parse_rules.Agreement.{Has}
use Rattle.occ_renamed.specs.occ_parse_rules.Sound.{has_width}
use Rattle.occ_renamed.proofs.from_parse_rules.Params.{program_kept}
use Rattle.occ_renamed.specs.occ_parse_unroll.Elements.{params_places}
use Rattle.occ_renamed.specs.occ_parse_unroll.Numbers.{number_in}
use Rattle.occ_renamed.proofs.from_parse.Places.{knows, one_to_one}
use Rattle.occ_nform.proofs.from_nform_table.TextNamed.{one_number, IsNamed}
use Rattle.occ_nform.specs.occ_nform_table.Lines.{AreNamed, HasWidth, can_follow, text_of}
use Rattle.occ_nform.specs.occ_nform_table.Tables.{are_params, is_marked, IsInterface}
use Rattle.occ_read_renamed.proofs.Header.{Table}
use Rattle.occ_read_renamed.proofs.Named.{Stands}

-- ---- lists

all_front : {A : Type 0} (P : A → Type 0) (xs ys : List A) → AllByRecursion P (xs ++ ys) → AllByRecursion P xs
all_front P [] ys h = tt
all_front P (x ∷ xs) ys h = (h.0, all_front P xs ys h.1)

all_back : {A : Type 0} (P : A → Type 0) (xs ys : List A) → AllByRecursion P (xs ++ ys) → AllByRecursion P ys
all_back P [] ys h = h
all_back P (x ∷ xs) ys h = all_back P xs ys h.1

all_both : {A : Type 0} (P : A → Type 0) (xs ys : List A) → AllByRecursion P xs → AllByRecursion P ys → AllByRecursion P (xs ++ ys)
all_both P [] ys h k = k
all_both P (x ∷ xs) ys h k = (h.0, all_both P xs ys h.1 k)

all_more : {A : Type 0} (P Q : A → Type 0) → ((x : A) → P x → Q x) → (xs : List A) → AllByRecursion P xs → AllByRecursion Q xs
all_more P Q more [] h = tt
all_more P Q more (x ∷ xs) h = (more x h.0, all_more P Q more xs h.1)

-- ---- each parameter

-- a parameter with a number of the table, a name as a program can have it, a mark where it is a channel, and a width
record IsGood (t : Table) (entry : Name × Kind) : Type 0 where
  within : entry.0.0 < length t
  named : IsNamed t entry
  wide : HasWidth entry.1

marked : (k : Kind) → IsMarked k → is_marked k ≡ true
marked (Var width) h = refl
marked (Chan width None) h = absurd h
marked (Chan width (Some mark)) h = refl

is_wide : (w : Width) → is_width w ≡ true → IsWidth w
is_wide Truth h = tt
is_wide (Word bits) h = let parts = and_parts (nat_le 1 bits) (nat_le bits 8) h in (leb-true _ _ parts.0, leb-true _ _ parts.1)

kind_wide : (k : Kind) → has_width k ≡ true → HasWidth k
kind_wide (Var width) h = is_wide width h
kind_wide (Chan width mark) h = is_wide width h

all_named : (t : Table) (k : Kind) → IsMarked k → has_width k ≡ true → (ps : List Place) → AllByRecursion (Stands t) ps
    → AllByRecursion (IsGood t) (map (λ (p : Place). (record { 0 = number_in t p.name p.element }, k)) ps)
all_named t k m w [] h = tt
all_named t k m w (p ∷ ps) h = (record { within = h.0.within; named = (h.0.named, marked k m); wide = kind_wide k w }, all_named t k m w ps h.1)

all_good : (t : Table) (ps : List Param) → AllByRecursion (λ p. IsMarked p.kind) ps → list_all (λ p. has_width p.kind) ps ≡ true → AllByRecursion (Stands t) (params_places ps)
    → AllByRecursion (IsGood t) (params_named (number_in t) ps)
all_good t [] m w h = tt
all_good t (p ∷ ps) m w h =
    let widths = and_parts (has_width p.kind) (list_all (λ q. has_width q.kind) ps) w in
    all_both (IsGood t) (named (number_in t) p.kind p.declared) (params_named (number_in t) ps)
    (all_named t p.kind m.0 widths.0 (places p.declared) (all_front (Stands t) (places p.declared) (params_places ps) h))
    (all_good t ps m.1 widths.1 (all_back (Stands t) (places p.declared) (params_places ps) h))

-- ---- the scope

scope_is : (t : Table) → IsDistinct t → (ps : List Param) → redeclares_some [] (param_entries ps) ≡ false → list_all (λ p. has_width p.kind) ps ≡ true → AllByRecursion (Stands t) (params_places ps)
    → scope_kept (params_named (number_in t) ps) ≡ true
scope_is t d ps once wide stand =
    (program_kept (knows t) (number_in t) (one_to_one t d) ps no_line (record {
      once = once;
      widths = wide;
      known = all_more (Stands t) (λ p. Has (knows t) p.name p.element) (λ p s. s.known) (params_places ps) stand;
      sound = refl;
      placed = refl;
      declared = tt;
      lines = record { names = refl; types = refl; directions = refl };
    })).scope

pub length_is : (N : Numbers) (ps : List Param) → length (params_named N ps) ≡ length (params_places ps)
length_is N [] = refl
length_is N (p ∷ ps) =
    length-append (named N p.kind p.declared) (params_named N ps)
    ∙ ap (λ n. n + length (params_named N ps)) (length-map (places p.declared) (λ q. (record { 0 = N q.name q.element }, p.kind)))
    ∙ ap (λ n. length (places p.declared) + n) (length_is N ps)
    ∙ sym (length-append (places p.declared) (params_places ps))

-- ---- parameters one behind the other

bits-append : (a b : List (Name × Kind)) → bits_of_scope (a ++ b) ≡ bits_of_scope a + bits_of_scope b
bits-append [] b = omega arith
bits-append (p ∷ a) b = omega (arith, bits-append a b)

-- a name that stands in a scope is in its environment
in_scope : (before rest : List (Name × Kind)) (p : Name × Kind) (x : ℕ) → x ≡ p.0.0 → is_none (environment (before ++ p ∷ rest) x) ≡ false
in_scope [] rest p x e = ap (λ b. is_none (cond b (Some p.1) (environment rest x))) (eq-eqb x p.0.0 e)
in_scope (q ∷ before) rest p x e = pick (eqb x q.0.0) (environment (before ++ p ∷ rest) x) (in_scope before rest p x e)
  where
    pick : (b : Bool) (o : Option Kind) → is_none o ≡ false → is_none (cond b (Some q.1) o) ≡ false
    pick true o h = refl
    pick false o h = h

module _ (t : Table) (d : IsDistinct t) where
  -- no earlier parameter has the text of a later one
  apart : (before rest : List (Name × Kind)) (p : Name × Kind) → scope_kept (before ++ p ∷ rest) ≡ true → AreNamed t before → p.0.0 < length t
      → list_any (λ (q : Name × Kind). bytes_eq (text_of t p.0) (text_of t q.0)) before ≡ false
  apart [] rest p h a w = refl
  apart (q ∷ before) rest p h a w =
      let parts = and_parts (can_declare (environment (before ++ p ∷ rest)) q.0.0 (width_of_kind q.1)) (scope_kept (before ++ p ∷ rest)) h in
      let none = (and_parts (is_none (environment (before ++ p ∷ rest) q.0.0)) (is_width (width_of_kind q.1)) parts.0).0 in
      let other : bytes_eq (text_of t p.0) (text_of t q.0) ≡ false = false_from_ne_true _ (λ same.
      let texts = (bytes_eq-Decides (text_of t p.0) (text_of t q.0)).0 same in
      let numbers = one_number t d p.0 q.0 w a.0 texts in
      both_ways _ (in_scope before rest p q.0.0 (sym numbers)) none) in
      or_from _ _ other (apart before rest p parts.1 a.1 w)

  record IsSmallScope (all : List (Name × Kind)) : Type 0 where
    kept : scope_kept all ≡ true
    few : length all ≤ 16
    bits : bits_of_scope all ≤ 16

  follows : (before rest : List (Name × Kind)) (p : Name × Kind) → IsSmallScope (before ++ p ∷ rest) → AreNamed t before → p.0.0 < length t → can_follow t before (text_of t p.0, p.1) ≡ true
  unfolding can_follow
  follows before rest p s a w =
      let room : length before < 16 = omega (arith, s.few, length-append before (p ∷ rest)) in
      let bits : bits_of_scope before + bits_of_kind p.1 ≤ 16 = omega (arith, s.bits, bits-append before (p ∷ rest)) in
      and_from _ _ (and_from _ _ (lt-ltb _ _ room) (not_from_false _ (apart before rest p s.kept a w))) (le-leb _ _ bits)

  are : (before params : List (Name × Kind)) → IsSmallScope (before ++ params) → AreNamed t before → AllByRecursion (IsGood t) params → are_params t before params ≡ true
  unfolding are_params
  are before [] s a h = refl
  are before (p ∷ params) s a h =
      let g = h.0 in
      and_from _ _ (and_from _ _ (and_from _ _ g.named.0 g.named.1) (follows before params p s a g.within))
      (are (before ++ p ∷ []) params (subst IsSmallScope (sym (append_assoc before (p ∷ []) params)) s)
      (all_both (λ (q : Name × Kind). q.0.0 < length t) before (p ∷ []) a (g.within, tt)) h.1)

-- ---- the interface

pub interface : (t : Table) → IsDistinct t → (ps : List Param) → redeclares_some [] (param_entries ps) ≡ false → list_all (λ p. has_width p.kind) ps ≡ true → AllByRecursion (λ p. IsMarked p.kind) ps
    → AllByRecursion (Stands t) (params_places ps) → length (params_places ps) ≤ 16 → bits_of_scope (params_named (number_in t) ps) ≤ 16
    → IsInterface t (params_named (number_in t) ps) × (are_params t [] (params_named (number_in t) ps) ≡ true)
interface t d ps once wide marks stand few bits =
    let params = params_named (number_in t) ps in
    let good = all_good t ps marks wide stand in
    let short : length params ≤ 16 = omega (arith, few, length_is (number_in t) ps) in (
      record {
        named = all_more (IsGood t) (λ (q : Name × Kind). q.0.0 < length t) (λ q g. g.within) params good;
        wide = all_more (IsGood t) (λ (q : Name × Kind). HasWidth q.1) (λ q g. g.wide) params good;
        few = short;
        bits = bits;
      },
      are t d [] params (record { kept = scope_is t d ps once wide stand; few = short; bits = bits }) tt good,
    )
