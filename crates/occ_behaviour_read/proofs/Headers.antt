-- The names of a text that is read with none are those of its parameters, in their order.
use Rattle.std.proofs.Common.{◌≡◌, ◌∙◌, ℕ, zero, suc, ◌+◌, ◌<◌, ◌≤◌, Bool, true, cond, ltb, leb, not, ◌&&◌, List, [], ◌∷◌, ◌++◌, length, map, slice_get, Option, None, Some, refl, sym, ap, subst, arith, append_assoc, append-nil, length-append, ⊎_elim}
use Rattle.std.specs.Prelude.{unwrap_or}
use Rattle.std.specs.List.{list_any, AllByRecursion}
use Rattle.std.specs.Str.{bytes_eq}
use Rattle.std.proofs.lemmas.Bool.{and_parts, both_ways, cases_lt, cond-true, not-true, or_left, or_right}
use Rattle.std.proofs.lemmas.List.{map-append}
use Rattle.std.proofs.lemmas.Option.{cond_some, same_Some}
use Rattle.std.proofs.lemmas.Slice.Eq.{bytes_eq-Decides}
use Rattle.occ_syntax.specs.occ_base.Names.{IsDistinct, IsNaming, place_of, with_text}
use Rattle.occ_syntax.specs.occ_base.declared.names.Name.{Name}
use Rattle.occ_syntax.proofs.from_base.Naming.{at_place, naming, place-le, with_new}
use Rattle.occ_syntax.specs.Counts.{bits_of_kind, bits_of_scope}
use Rattle.occ_syntax.specs.declared.scope.Kind.{Kind}
use Rattle.occ_nform_read.specs.occ_nform_table.Lines.{AreNamed, HaveWidths, can_follow, is_param_name, next_param, param_of, text_of}
use Rattle.occ_nform_read.specs.occ_nform_table.Reading.{Header, Lines, either, params_in}
use Rattle.occ_nform_read.specs.occ_nform_table.Tables.{are_params, is_marked}
use Rattle.occ_nform_read.specs.occ_nform_table.Words.{then_read}
use Rattle.occ_nform_read.proofs.from_nform_table.TextNamed.{text_there}
use Rattle.occ_nform_read.proofs.from_nform_table.Names.{Keeps, all_push, follow_kept, keeps_with, named_kept, place_within}
use Rattle.occ_nform_read.proofs.from_nform_table.Names.{text_there as new_there}
use Rattle.occ_nform_read.proofs.from_nform_table.ReadWords.{then_inv}
use Rattle.occ_nform_read.proofs.from_nform_table.TextRows.{Stops}
use Rattle.occ_nform_read.proofs.from_nform_table.WrittenParams.{other_header, param_line, param_reads}

-- the texts of parameters
abbrev pub texts_of : List (List ℕ) → List (Name × Kind) → List (List ℕ)
texts_of names params = map (λ (p : Name × Kind). text_of names p.0) params

-- a text at a place is among them
any_there : (f : Name × Kind → List ℕ) (params : List (Name × Kind)) (i : ℕ) (text : List ℕ) → slice_get (map f params) i ≡ Some text → list_any (λ q. bytes_eq text (f q)) params ≡ true
any_there f [] i text e = absurd (let never : ⊥ = cc in never)
any_there f (p ∷ params) zero text e = or_left _ _ ((bytes_eq-Decides text (f p)).1 (sym (same_Some (f p) text e)))
any_there f (p ∷ params) (suc i) text e = or_right _ _ (any_there f params i text e)

texts_kept : (names more : List (List ℕ)) (params : List (Name × Kind)) → Keeps names more → AreNamed names params → texts_of more params ≡ texts_of names params
texts_kept names more [] keeps named = refl
texts_kept names more (p ∷ params) keeps named = (λ i. unwrap_or (keeps.kept p.0.0 named.0 i) [] ∷ texts_kept names more params keeps named.1 i)

-- the table of names is that of the parameters, and has each name once
pub record AreOwn (names : List (List ℕ)) (params : List (Name × Kind)) : Type 0 where
  pub texts : names ≡ texts_of names params
  pub distinct : IsDistinct names
  pub named : AreNamed names params

-- a parameter that can follow has a name of its own
new_name : (names : List (List ℕ)) (params : List (Name × Kind)) (p : List ℕ × Kind) → AreOwn names params → can_follow names params p ≡ true → length names ≤ place_of names p.0
unfolding can_follow
new_name names params p own follows = ⊎_elim
    (λ (less : place_of names p.0 < length names).
    let any : Bool = list_any (λ (q : Name × Kind). bytes_eq p.0 (text_of names q.0)) params in
    let parts = and_parts (ltb (length params) 16 && not any) (leb (bits_of_scope params + bits_of_kind p.1) 16) follows in
    let free = (and_parts (ltb (length params) 16) (not any) parts.0).1 in
    let there = any_there (λ q. text_of names q.0) params (place_of names p.0) p.0 (ap (λ (ns : List (List ℕ)). slice_get ns (place_of names p.0)) (sym own.texts) ∙ at_place names p.0 less) in
    absurd (both_ways any (not-true any free) there))
    (λ more. more)
    (cases_lt (place_of names p.0) (length names))

next_own : (names : List (List ℕ)) (params : List (Name × Kind)) (p : List ℕ × Kind) → AreOwn names params → can_follow names params p ≡ true
    → AreOwn (with_text names p.0) (params ++ (record { 0 = place_of names p.0 }, p.1) ∷ [])
next_own names params p own follows =
    let more : List (List ℕ) = with_text names p.0 in
    let entry : Name × Kind = (record { 0 = place_of names p.0 }, p.1) in
    let all : IsNaming names p.0 = naming names p.0 in
    let keeps : Keeps names more = keeps_with names p.0 in
    record {
      texts = with_new names p.0 (new_name names params p own follows)
          ∙ (λ i. (own.texts ∙ sym (texts_kept names more params keeps own.named)) i ++ sym (new_there names p.0) i ∷ [])
          ∙ sym (map-append (λ (q : Name × Kind). text_of more q.0) params (entry ∷ []));
      distinct = all.distinct own.distinct;
      named = all_push (λ (q : Name × Kind). q.0.0 < length more) params entry (named_kept names more params keeps own.named) (place_within names p.0);
    }

pub header_own : (names : List (List ℕ)) (params : List (Name × Kind)) (lines : Lines) → AreOwn names params → AreOwn (params_in names params lines).names (params_in names params lines).params
unfolding params_in next_param
header_own names params [] own = own
header_own names params (line ∷ lines) own = at (next_param names params line) refl (λ p is. header_own (with_text names p.0) (params ++ (record { 0 = place_of names p.0 }, p.1) ∷ []) lines is)
  where
    next : List ℕ × Kind → Header
    next p = params_in (with_text names p.0) (params ++ (record { 0 = place_of names p.0 }, p.1) ∷ []) lines

    at : (o : Option (List ℕ × Kind)) → next_param names params line ≡ o
        → ((p : List ℕ × Kind) → AreOwn (with_text names p.0) (params ++ (record { 0 = place_of names p.0 }, p.1) ∷ []) → AreOwn (next p).names (next p).params)
        → AreOwn (either o (other_header names params (line ∷ lines)) next).names (either o (other_header names params (line ∷ lines)) next).params
    at None e later = own
    at (Some p) e later =
        let one = then_inv (param_of line) (λ q. cond (can_follow names params q) (Some q) None) p e in
        let fit = cond_some (can_follow names params one.0) one.0 p one.2 in
        later p (next_own names params p own (subst (λ q. can_follow names params q ≡ true) fit.1 fit.0))

-- ---- parameters that are written

pub get_front : (xs ys : List (List ℕ)) (i : ℕ) → i < length xs → slice_get (xs ++ ys) i ≡ slice_get xs i
get_front [] ys i h = absurd (omega (arith, h))
get_front (x ∷ xs) ys zero h = refl
get_front (x ∷ xs) ys (suc i) h = get_front xs ys i (omega (arith, h))

pub get_middle : (xs : List (List ℕ)) (y : List ℕ) (ys : List (List ℕ)) → slice_get (xs ++ y ∷ ys) (length xs) ≡ Some y
get_middle [] y ys = refl
get_middle (x ∷ xs) y ys = get_middle xs y ys

module _ (all : List (List ℕ)) (distinct : IsDistinct all) where
  -- parameters are read with the names of those in front alone
  pub grow_read : (known : List (List ℕ)) (front params : List (Name × Kind)) (rest : Lines) → are_params all front params ≡ true → AllByRecursion (λ (q : Name × Kind). q.0.0 < length known) front
      → AreNamed all params → HaveWidths params → known ++ texts_of all params ≡ all → Stops param_of rest
      → params_in known front (map (param_line all) params ++ rest) ≡ other_header all (front ++ params) rest
  unfolding params_in are_params next_param
  grow_read known front [] [] are earlier there wide whole stops = (λ i. other_header ((sym (append-nil known) ∙ whole) i) (sym (append-nil front) i) [])
  grow_read known front [] (line ∷ lines) are earlier there wide whole stops =
      ap (λ o. either (then_read o follows) (other_header known front (line ∷ lines)) more) stops ∙ (λ i. other_header ((sym (append-nil known) ∙ whole) i) (sym (append-nil front) i) (line ∷ lines))
    where
      follows : List ℕ × Kind → Option (List ℕ × Kind)
      follows p = cond (can_follow known front p) (Some p) None

      more : List ℕ × Kind → Header
      more p = params_in (with_text known p.0) (front ++ (record { 0 = place_of known p.0 }, p.1) ∷ []) lines
  grow_read known front (p ∷ params) rest are earlier there wide whole stops =
      let text = text_of all p.0 in
      let lines = map (param_line all) params ++ rest in
      let parts = and_parts (is_param_name text && is_marked p.1 && can_follow all front (text, p.1)) (are_params all (front ++ p ∷ []) params) are in
      let two = and_parts (is_param_name text && is_marked p.1) (can_follow all front (text, p.1)) parts.0 in
      let one = and_parts (is_param_name text) (is_marked p.1) two.0 in
      let follows : List ℕ × Kind → Option (List ℕ × Kind) = λ q. cond (can_follow known front q) (Some q) None in
      let more : List ℕ × Kind → Header = λ q. params_in (with_text known q.0) (front ++ (record { 0 = place_of known q.0 }, q.1) ∷ []) lines in
      let stop : Header = other_header known front (param_line all p ∷ lines) in
      let own : slice_get all (length known) ≡ Some text = ap (λ (ns : List (List ℕ)). slice_get ns (length known)) (sym whole) ∙ get_middle known text (texts_of all params) in
      let number : p.0.0 ≡ length known = distinct p.0.0 (length known) text (text_there all p.0 there.0) own in
      let kept : (i : ℕ) → i < length known → slice_get all i ≡ slice_get known i = λ i h. ap (λ (ns : List (List ℕ)). slice_get ns i) (sym whole) ∙ get_front known (text ∷ texts_of all params) i h in
      let longer : length all ≡ length known + length (text ∷ texts_of all params) = ap (λ (ns : List (List ℕ)). length ns) (sym whole) ∙ length-append known (text ∷ texts_of all params) in
      let keeps : Keeps known all = record { longer = omega (arith, longer); kept = kept } in
      let new : length known ≤ place_of known text = ⊎_elim
      (λ (less : place_of known text < length known).
      let same : place_of known text ≡ length known = distinct (place_of known text) (length known) text (kept (place_of known text) less ∙ at_place known text less) own in
      absurd (omega (arith, less, same)))
      (λ past. past)
      (cases_lt (place_of known text) (length known)) in
      let place : place_of known text ≡ p.0.0 = omega (arith, new, place-le known text, number) in
      let grown : with_text known text ≡ known ++ text ∷ [] = with_new known text new in
      let follow : can_follow known front (text, p.1) ≡ true = sym (follow_kept known all front (text, p.1) keeps earlier) ∙ two.1 in
      let later : AllByRecursion (λ (q : Name × Kind). q.0.0 < length (known ++ text ∷ [])) (front ++ p ∷ []) =
      all_push (λ (q : Name × Kind). q.0.0 < length (known ++ text ∷ [])) front p
      (named_kept known (known ++ text ∷ []) front (record { longer = omega (arith, length-append known (text ∷ [])); kept = λ i h. get_front known (text ∷ []) i h }) earlier)
      (omega (arith, number, length-append known (text ∷ []))) in
      ap (λ o. either (then_read o follows) stop more) (param_reads text one.0 p.1 one.1 wide.0)
      ∙ ap (λ o. either o stop more) (cond-true _ (Some (text, p.1)) None follow)
      ∙ (λ i. params_in (grown i) (front ++ (record { 0 = place i }, p.1) ∷ []) lines)
      ∙ grow_read (known ++ text ∷ []) (front ++ p ∷ []) params rest parts.1 later there.1 wide.1 (append_assoc known (text ∷ []) (texts_of all params) ∙ whole) stops
      ∙ ap (λ ps. other_header all ps rest) (append_assoc front (p ∷ []) params)
