-- Tables of names of which two are exchanged.
use Rattle.std.proofs.Common.{◌≡◌, ◌⊎◌, inl, inr, ℕ, ◌<◌, ◌≤◌, nat_le, true, false, ◌==◌, if◌then◌else◌, List, [], length, get_or, Some, None, Option, slice_get, unwrap_or, refl, sym, ap, subst, ◌∙◌}
use Rattle.std.proofs.lemmas.Bool.{ne_eqb}
use Rattle.std.proofs.lemmas.Bool.Decides.{eqb_tells}
use Rattle.std.proofs.lemmas.List.Edits.{Swapped, length-swap, swapped_from_swap}
use Rattle.std.proofs.lemmas.Option.{slice_get-get_or, slice_get_cases, unwrap_or-slice_get}
use Rattle.occ_engine_known.specs.occ_base.Names.{IsDistinct}
use Rattle.occ_renamed.specs.occ_lex.Spelling.{kind_of}
use Rattle.occ_renamed.proofs.from_meaning.Facts.{if_false, if_true}
use Rattle.occ_renamed.proofs.from_meaning.Renaming.{IsExchange, exchange_is}
use Rattle.occ_renamed.specs.occ_meaning.Rename.{exchanging}
use Rattle.occ_renamed.specs.occ_parse_rules.Places.{Place}
use Rattle.occ_renamed.specs.occ_print.Spelled.{name_text}
use Rattle.occ_script_table.specs.occ_print_back.Placed.{IsPlace, IsTable, place_text}
use Rattle.occ_engine_written.specs.Exchanged.{names_exchanged, places_renamed}
use Rattle.occ_renamed.specs.Lines.{IsRenumbered}

pub text_is : (names : List (List ℕ)) (x : ℕ) → name_text names x ≡ get_or names x []
text_is names x = unwrap_or-slice_get names x []

pub text_at : (names : List (List ℕ)) (x : ℕ) (text : List ℕ) → slice_get names x ≡ Some text → name_text names x ≡ text
text_at names x text e = ap (λ o. unwrap_or o []) e

pub there : (names : List (List ℕ)) (x : ℕ) → x < length names → slice_get names x ≡ Some (name_text names x)
there names x h = slice_get-get_or names x [] h ∙ ap Some (sym (text_is names x))

pub within_of : (names : List (List ℕ)) (x : ℕ) (text : List ℕ) → slice_get names x ≡ Some text → x < length names
within_of names x text e = at (slice_get_cases names x).1
  where
    at : ((y : List ℕ) × (x < length names) × (slice_get names x ≡ Some y) × (get_or names x y ≡ y)) ⊎ ((length names ≤ x) × (slice_get names x ≡ None))
        → x < length names
    at (inl h) = h.1
    at (inr h) = absurd (let bad : ◌≡◌ {A = Option (List ℕ)} (Some text) None = sym e ∙ h.1 in cc)

-- each of two numbers is exchanged for the other
pub exchanged_first : (a b : ℕ) → exchanging a b a ≡ b
exchanged_first a b = at (eqb_tells a a)
  where
    at : (((a == a) ≡ true) × (a ≡ a)) ⊎ (((a == a) ≡ false) × (a ≡ a → ⊥)) → exchanging a b a ≡ b
    at (inl h) = if_true (a == a) b (if a == b then a else a) h.0
    at (inr h) = absurd (h.1 refl)

pub exchanged_second : (a b : ℕ) → exchanging a b b ≡ a
exchanged_second a b = ap (exchanging a b) (sym (exchanged_first a b)) ∙ exchange_is a b a

pub exchanged_other : (a b x : ℕ) → (x ≡ a → ⊥) → (x ≡ b → ⊥) → exchanging a b x ≡ x
exchanged_other a b x h k = if_false (x == a) b (if x == b then a else x) (ne_eqb x a h) ∙ if_false (x == b) a x (ne_eqb x b k)

-- below a number that both are below
pub exchanged_within : (a b n : ℕ) → a < n → b < n → (x : ℕ) → x < n → exchanging a b x < n
exchanged_within a b n p q x h = at (eqb_tells x a)
  where
    at : (((x == a) ≡ true) × (x ≡ a)) ⊎ (((x == a) ≡ false) × (x ≡ a → ⊥)) → exchanging a b x < n
    at (inl k) = subst (λ y. y < n) (sym (ap (exchanging a b) k.1 ∙ exchanged_first a b)) q
    at (inr k) = other (eqb_tells x b)
      where
        other : (((x == b) ≡ true) × (x ≡ b)) ⊎ (((x == b) ≡ false) × (x ≡ b → ⊥)) → exchanging a b x < n
        other (inl j) = subst (λ y. y < n) (sym (ap (exchanging a b) j.1 ∙ exchanged_second a b)) p
        other (inr j) = subst (λ y. y < n) (sym (exchanged_other a b x k.1 j.1)) h

pub exchanged_length : (a b : ℕ) (names : List (List ℕ)) → length (names_exchanged a b names) ≡ length names
exchanged_length a b names = length-swap names a b

-- the texts of the exchanged table
pub renumbered : (a b : ℕ) (names : List (List ℕ)) → a < length names → b < length names → IsRenumbered (exchanging a b) names (names_exchanged a b names)
renumbered a b names p q x =
    let other = names_exchanged a b names in
    let s : Swapped (λ i. get_or names i []) (λ i. get_or other i []) a b = swapped_from_swap names other a b [] p q refl in
    let whole : get_or other (exchanging a b x) [] ≡ get_or names x [] = at s (eqb_tells x a) (eqb_tells x b) in
    text_is other (exchanging a b x) ∙ whole ∙ sym (text_is names x)
  where
    at : Swapped (λ i. get_or names i []) (λ i. get_or (names_exchanged a b names) i []) a b
        → (((x == a) ≡ true) × (x ≡ a)) ⊎ (((x == a) ≡ false) × (x ≡ a → ⊥)) → (((x == b) ≡ true) × (x ≡ b)) ⊎ (((x == b) ≡ false) × (x ≡ b → ⊥))
        → get_or (names_exchanged a b names) (exchanging a b x) [] ≡ get_or names x []
    at s (inl k) o = ap (λ y. get_or (names_exchanged a b names) (exchanging a b y) []) k.1
        ∙ ap (λ y. get_or (names_exchanged a b names) y []) (exchanged_first a b) ∙ s.1 ∙ ap (λ y. get_or names y []) (sym k.1)
    at s (inr k) (inl j) = ap (λ y. get_or (names_exchanged a b names) (exchanging a b y) []) j.1
        ∙ ap (λ y. get_or (names_exchanged a b names) y []) (exchanged_second a b) ∙ s.0 ∙ ap (λ y. get_or names y []) (sym j.1)
    at s (inr k) (inr j) = ap (λ y. get_or (names_exchanged a b names) y []) (exchanged_other a b x k.1 j.1) ∙ s.2 x k.1 j.1

-- A table with the same texts under an exchange is one of places too.
module _ (f : ℕ → ℕ) (inv : IsExchange f) (names other : List (List ℕ)) (same : IsRenumbered f names other) (long : length other ≡ length names)
    (within : (x : ℕ) → x < length names → f x < length names) where
  pub text_under : (x : ℕ) → name_text other x ≡ name_text names (f x)
  text_under x = ap (name_text other) (sym (inv x)) ∙ same (f x)

  pub back : (x : ℕ) (text : List ℕ) → slice_get other x ≡ Some text → slice_get names (f x) ≡ Some text
  back x text e =
      let here : x < length other = within_of other x text e in
      there names (f x) (within x (subst (λ n. x < n) long here)) ∙ ap Some (sym (text_under x) ∙ text_at other x text e)

  pub distinct_under : IsDistinct names → IsDistinct other
  distinct_under d i j text h k = sym (inv i) ∙ ap f (d (f i) (f j) text (back i text h) (back j text k)) ∙ inv j

  place_under : (P : ℕ → Place) (x : ℕ) → IsPlace names (P (f x)) (name_text names (f x)) → IsPlace other (places_renamed f P x) (name_text other x)
  place_under P x h =
      let p = P (f x) in
      let base : name_text other (f p.name) ≡ name_text names p.name = same p.name in
      record {
        there = subst (λ n. f p.name < n) (sym long) (within p.name h.there);
        kind = ap kind_of base ∙ h.kind;
        short = ap (λ t. nat_le (length t) 32) base ∙ h.short;
        index = h.index;
        text_is = text_under x ∙ h.text_is ∙ ap (λ t. place_text t p.element) (sym base);
      }

  pub table_under : (P : ℕ → Place) → IsTable names P → IsTable other (places_renamed f P)
  table_under P t = record {
    distinct = distinct_under t.distinct;
    places = λ x h. place_under P x (t.places (f x) (within x (subst (λ n. x < n) long h)));
  }
