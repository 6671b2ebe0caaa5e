-- The parameters of a normal table and the variables into which its program inputs are a header.
use Rattle.std.proofs.Common.{◌≡◌, ◌∙◌, ◌++◌, ◌==◌, ◌+◌, ◌<◌, ◌≤◌, ℕ, zero, suc, Bool, cond, false, true, List, [], ◌∷◌, filter, length, slice_get, None, Some, if◌then◌else◌, refl, sym, ap, subst, inl, inr, ◌⊎◌, arith}
use Rattle.std.proofs.lemmas.Bool.{eqb-true, or_left, or_right, true≢false}
use Rattle.std.proofs.lemmas.List.{append_assoc}
use Rattle.std.proofs.lemmas.Option.{slice_get_within}
use Rattle.std.specs.List.{AllByRecursion}
use Rattle.occ_engine.proofs.from_base.Naming.{naming}
use Rattle.occ_engine.specs.occ_base.declared.event.Dir.TheVariants.{Input}
use Rattle.occ_engine.specs.occ_base.declared.names.Name.{Name}
use Rattle.occ_engine.specs.occ_base.declared.width.Width.{Width}
use Rattle.occ_engine.specs.occ_base.declared.width.Width.TheVariants.{Bool as Truth, Word}
use Rattle.occ_engine.specs.occ_base.Names.{place_of, with_text}
use Rattle.occ_engine.specs.occ_base.Width.{IsWidth}
use Rattle.occ_complete.proofs.Kept.{kind_there}
use Rattle.occ_complete.specs.Tables.{header_of}
use Rattle.occ_complete_states.specs.occ_derive_moves.Unified.{is_target}
use Rattle.occ_complete_states.proofs.Scopes.{last_new, scope_front}
use Rattle.occ_complete_states.specs.Headers.{IsHeader}
use Rattle.occ_engine.proofs.from_meaning.Facts.{at_itself}
use Rattle.occ_complete_states.specs.occ_nform_table.Lines.{HasWidth}
use Rattle.occ_complete_states.specs.occ_nform_table.Normal.{Parts}
use Rattle.occ_complete_states.specs.occ_nform_table.Tables.{IsNormal}
use Rattle.occ_complete_states.proofs.from_nform_table.Events.{kind_holds, some_is, none_not_some}
use Rattle.occ_complete_states.proofs.from_nform_table.Facts.{proper_of}
use Rattle.occ_complete_states.specs.occ_nform_table.Lists.{In}
use Rattle.occ_engine.proofs.from_script_lines.Scoping.{scope_kept-push}
use Rattle.occ_engine.specs.occ_syntax.declared.scope.Kind.{Kind}
use Rattle.occ_engine.specs.occ_syntax.declared.scope.Kind.TheVariants.{Chan, Var}
use Rattle.occ_engine.specs.occ_syntax.Names.{is_in}
use Rattle.occ_engine.specs.occ_syntax.Scopes.{environment, variable_kind, variable_width}
use Rattle.occ_engine.specs.occ_syntax.Types.{is_width, scope_kept, width_of_kind, same_width}
use Rattle.occ_complete_states.specs.occ_target.Inputs.{all_widths, digit_of, dotted, input_name, input_text, input_variables, input_widths, is_input_of, is_input_width, is_taken, variables_of}
use Rattle.occ_complete_states.specs.occ_target.Rows.{variable_of}
use Rattle.occ_complete_states.specs.occ_target.States.{variables}
use Rattle.occ_complete_states.specs.occ_target_laws.Bodies.{AreDeclared, IsVariable}
use Rattle.occ_complete_states.specs.occ_target_laws.Shapes.{Header}
use Rattle.occ_engine.proofs.from_usage.Scoped.{environment-push}
use Rattle.occ_engine.proofs.from_syntax.Widths.{same_as_itself, same_widths}

-- ---- texts: the second byte tells the width

abbrev second : List ℕ → ℕ
second [] = 0
second (a ∷ []) = 0
second (a ∷ b ∷ rest) = b

dotted_second : (names : List (List ℕ)) (params : List (Name × Kind)) (more a b : ℕ) (rest : List ℕ)
    → second (dotted names params more (a ∷ b ∷ rest)) ≡ b
unfolding dotted
dotted_second names params zero a b rest = refl
dotted_second names params (suc more) a b rest =
    choose (is_taken names params (a ∷ b ∷ rest)) (dotted_second names params more a b (rest ++ 46 ∷ []))
  where
    choose : (t : Bool) → second (dotted names params more (a ∷ b ∷ rest ++ 46 ∷ [])) ≡ b
        → second (if t then dotted names params more (a ∷ b ∷ rest ++ 46 ∷ []) else a ∷ b ∷ rest) ≡ b
    choose true h = h
    choose false h = refl

text_second : (names : List (List ℕ)) (params : List (Name × Kind)) (w : Width) → second (input_text names params w) ≡ 48 + digit_of w
text_second names params w = dotted_second names params (length params) 116 (48 + digit_of w) []

-- a text takes no number that another one has
others_number : (names : List (List ℕ)) (n : ℕ) (text other : List ℕ) → slice_get names n ≡ Some text → second text < second other
    → (place_of names other == n) ≡ false
others_number names n text other known less = at (place_of names other == n) refl
  where
    at : (t : Bool) → (place_of names other == n) ≡ t → t ≡ false
    at false e = refl
    at true e =
        let all = naming names other in
        let same : other ≡ text = some_is (sym all.there ∙ ap (slice_get (with_text names other)) (eqb-true (place_of names other) n e)
        ∙ all.kept n (slice_get_within names n text known) ∙ known) in
        absurd (omega (arith, ap second same, less))

-- ---- widths that rise

abbrev Rises : ℕ → List Width → Type 0
Rises low [] = Unit {0}
Rises low (w ∷ ws) = (low ≤ digit_of w) × Rises (digit_of w + 1) ws

rises_lower : (m n : ℕ) (ws : List Width) → m ≤ n → Rises n ws → Rises m ws
rises_lower m n [] l r = tt
rises_lower m n (w ∷ ws) l r = let low = r.0 in (omega (arith, l, low), r.1)

rises_filtered : (p : Width → Bool) (low : ℕ) (ws : List Width) → Rises low ws → Rises low (filter p ws)
rises_filtered p low [] r = tt
rises_filtered p low (w ∷ ws) r = at (p w) (rises_filtered p (digit_of w + 1) ws r.1)
  where
    at : (t : Bool) → Rises (digit_of w + 1) (filter p ws) → Rises low (cond t (w ∷ filter p ws) (filter p ws))
    at true more = (r.0, more)
    at false more = let least = r.0 in rises_lower low (digit_of w + 1) (filter p ws) (omega (arith, least)) more

all_filtered : (P : Width → Type 0) (p : Width → Bool) (ws : List Width) → AllByRecursion P ws → AllByRecursion P (filter p ws)
all_filtered P p [] all = tt
all_filtered P p (w ∷ ws) all = at (p w) (all_filtered P p ws all.1)
  where
    at : (t : Bool) → AllByRecursion P (filter p ws) → AllByRecursion P (cond t (w ∷ filter p ws) (filter p ws))
    at true more = (all.0, more)
    at false more = more

filtered_in : (p : Width → Bool) (ws : List Width) (w : Width) → In w ws → p w ≡ true → In w (filter p ws)
filtered_in p [] w i h = absurd i
filtered_in p (v ∷ ws) w i h = at (p v) refl i (λ j. filtered_in p ws w j h)
  where
    at : (t : Bool) → p v ≡ t → (w ≡ v) ⊎ In w ws → (In w ws → In w (filter p ws)) → In w (cond t (v ∷ filter p ws) (filter p ws))
    at true e (inl f) ih = inl f
    at true e (inr j) ih = inr (ih j)
    at false e (inl f) ih = absurd (true≢false (sym h ∙ ap p f ∙ e))
    at false e (inr j) ih = ih j

widths_rise : Rises 0 all_widths
widths_rise = (omega arith, (omega arith, (omega arith, (omega arith, (omega arith, (omega arith, (omega arith, (omega arith, (omega arith, tt)))))))))

pub widths_fit : AllByRecursion (λ w. is_width w ≡ true) all_widths
widths_fit = (refl, (refl, (refl, (refl, (refl, (refl, (refl, (refl, (refl, tt)))))))))

pub width_in : (w : Width) → IsWidth w → In w all_widths
width_in Truth h = inl refl
width_in (Word bits) h = word bits h.0 h.1
  where
    word : (n : ℕ) → 1 ≤ n → n ≤ 8 → In (Word n) all_widths
    word zero l m = absurd (omega (arith, l))
    word (suc zero) l m = inr (inl refl)
    word (suc (suc zero)) l m = inr (inr (inl refl))
    word (suc (suc (suc zero))) l m = inr (inr (inr (inl refl)))
    word (suc (suc (suc (suc zero)))) l m = inr (inr (inr (inr (inl refl))))
    word (suc (suc (suc (suc (suc zero))))) l m = inr (inr (inr (inr (inr (inl refl)))))
    word (suc (suc (suc (suc (suc (suc zero)))))) l m = inr (inr (inr (inr (inr (inr (inl refl))))))
    word (suc (suc (suc (suc (suc (suc (suc zero))))))) l m = inr (inr (inr (inr (inr (inr (inr (inl refl)))))))
    word (suc (suc (suc (suc (suc (suc (suc (suc zero)))))))) l m = inr (inr (inr (inr (inr (inr (inr (inr (inl refl))))))))
    word (suc (suc (suc (suc (suc (suc (suc (suc (suc n))))))))) l m = absurd (omega (arith, m))

-- ---- each variable has a name of its own

abbrev pub AreOff : ℕ → List (Name × Kind) → Type 0
AreOff n vs = AllByRecursion (λ (v : Name × Kind). (v.0.0 == n) ≡ false) vs

abbrev pub AreApart : List (Name × Kind) → Type 0
AreApart [] = Unit {0}
AreApart (v ∷ vs) = AreOff v.0.0 vs × AreApart vs

module _ (params : List (Name × Kind)) where
  names_off : (names : List (List ℕ)) (n : ℕ) (text : List ℕ) (low : ℕ) (ws : List Width) → slice_get names n ≡ Some text → second text < 48 + low
      → Rises low ws → AreOff n (variables_of names params ws)
  unfolding variables_of
  names_off names n text low [] known less r = tt
  names_off names n text low (w ∷ ws) known less r =
      let other = input_text names params w in
      let least = r.0 in
      let two = text_second names params w in (
        others_number names n text other known (omega (arith, least, less, two)),
        names_off (with_text names other) n text (digit_of w + 1) ws ((naming names other).kept n (slice_get_within names n text known) ∙ known)
            (omega (arith, least, less)) r.1,
      )

  names_apart : (names : List (List ℕ)) (low : ℕ) (ws : List Width) → Rises low ws → AreApart (variables_of names params ws)
  unfolding variables_of
  names_apart names low [] r = tt
  names_apart names low (w ∷ ws) r =
      let text = input_text names params w in
      let two = text_second names params w in (
        names_off (with_text names text) (place_of names text) text (digit_of w + 1) ws (naming names text).there (omega (arith, two)) r.1,
        names_apart (with_text names text) (digit_of w + 1) ws r.1,
      )

  all_fit : (names : List (List ℕ)) (ws : List Width) → AllByRecursion (λ w. is_width w ≡ true) ws
      → AllByRecursion (λ (v : Name × Kind). is_width (width_of_kind v.1) ≡ true) (variables_of names params ws)
  unfolding variables_of
  all_fit names [] all = tt
  all_fit names (w ∷ ws) all = (all.0, all_fit (with_text names (input_text names params w)) ws all.1)

  -- the variable of a width, and where it stands
  pub record IsFound (ts : List (Name × Kind)) (w : Width) : Type 0 where
    pub front : List (Name × Kind)
    pub rest : List (Name × Kind)
    pub name : Name
    pub parts : ts ≡ front ++ (name, Var w) ∷ rest
    pub is : variable_of ts w ≡ name.0

  found_one : (names : List (List ℕ)) (ws : List Width) (w : Width) → In w ws → IsFound (variables_of names params ws) w
  unfolding variables_of
  found_one names [] w i = absurd i
  found_one names (v ∷ ws) w i = at (same_width w v) refl (λ j. found_one (with_text names (input_text names params v)) ws w j) i
    where
      n : Name
      n = input_name names params v

      more : List (Name × Kind)
      more = variables_of (with_text names (input_text names params v)) params ws

      at : (t : Bool) → same_width w v ≡ t → (In w ws → IsFound more w) → (w ≡ v) ⊎ In w ws → IsFound ((n, Var v) ∷ more) w
      at true e ih j = record {
        front = [];
        rest = more;
        name = n;
        parts = λ k. (n, Var (sym (same_widths w v e) k)) ∷ more;
        is = ap (λ b. if b then n.0 else variable_of more w) e;
      }
      at false e ih (inl f) = absurd (true≢false (sym (ap (same_width w) (sym f) ∙ same_as_itself w) ∙ e))
      at false e ih (inr j) =
          let r = ih j in
          record {
            front = (n, Var v) ∷ r.front;
            rest = r.rest;
            name = r.name;
            parts = ap (λ l. (n, Var v) ∷ l) r.parts;
            is = ap (λ b. if b then n.0 else variable_of more w) e ∙ r.is;
          }

-- ---- the scope

pub scope_added : (S vs : List (Name × Kind)) → scope_kept S ≡ true → AllByRecursion (λ (v : Name × Kind). environment S v.0.0 ≡ None) vs → AreApart vs
    → AllByRecursion (λ (v : Name × Kind). is_width (width_of_kind v.1) ≡ true) vs → scope_kept (S ++ vs) ≡ true
scope_added S [] kept new apart fit = subst (λ U. scope_kept U ≡ true) (sym (append_nil S)) kept
  where
    append_nil : (S : List (Name × Kind)) → S ++ [] ≡ S
    append_nil [] = refl
    append_nil (s ∷ S) = ap (λ T. s ∷ T) (append_nil S)
scope_added S (v ∷ vs) kept new apart fit =
    subst (λ U. scope_kept U ≡ true) (append_assoc S (v ∷ []) vs)
    (scope_added (S ++ v ∷ []) vs (scope_kept-push S v.0 v.1 kept new.0 fit.0) (still vs new.1 apart.0) apart.1 fit.1)
  where
    still : (us : List (Name × Kind)) → AllByRecursion (λ (u : Name × Kind). environment S u.0.0 ≡ None) us → AreOff v.0.0 us
        → AllByRecursion (λ (u : Name × Kind). environment (S ++ v ∷ []) u.0.0 ≡ None) us
    still [] n o = tt
    still (u ∷ us) n o =
        (ap (λ Γ. Γ u.0.0) (environment-push S v.0 v.1 new.0) ∙ ap (λ b. if b then Some v.1 else environment S u.0.0) o.0 ∙ n.0, still us n.1 o.1)

listed : (front rest : List (Name × Kind)) (n : Name) (w : Width) → is_in (variables (front ++ (n, Var w) ∷ rest)) n.0 ≡ true
listed [] rest n w = or_left (n.0 == n.0) (is_in (variables rest) n.0) (at_itself n.0)
listed ((m, Chan v d) ∷ front) rest n w = listed front rest n w
listed ((m, Var v) ∷ front) rest n w = or_right (n.0 == m.0) (is_in (variables (front ++ (n, Var w) ∷ rest)) n.0) (listed front rest n w)

input_there : (params : List (Name × Kind)) (c : ℕ) (w : Width) → environment params c ≡ Some (Chan w (Some Input)) → is_input_width params w ≡ true
input_there [] c w e = none_not_some e
input_there (p ∷ params) c w e = at (c == p.0.0) e (input_there params c w)
  where
    at : (b : Bool) → (if b then Some p.1 else environment params c) ≡ Some (Chan w (Some Input))
        → (environment params c ≡ Some (Chan w (Some Input)) → is_input_width params w ≡ true) → is_input_width (p ∷ params) w ≡ true
    at true k ih = or_left (is_input_of w p.1) (is_input_width params w) (ap (is_input_of w) (some_is k) ∙ same_as_itself w)
    at false k ih = or_right (is_input_of w p.1) (is_input_width params w) (ih k)

apart_from : (params ts : List (Name × Kind)) → AllByRecursion (λ (t : Name × Kind). IsVariable t.1 × (environment params t.0.0 ≡ None)) ts
    → AllByRecursion (λ (t : Name × Kind). environment params t.0.0 ≡ None) ts
apart_from params [] all = tt
apart_from params (t ∷ ts) all = (all.0.1, apart_from params ts all.1)

pub record HasTarget (h : Header) (w : Width) : Type 0 where
  pub target : is_target h (variable_of h.inputs w) ≡ true
  pub width : variable_width (environment (h.params ++ h.inputs)) (variable_of h.inputs w) ≡ Some w

pub target_there : (h : Header) (w : Width) (front rest : List (Name × Kind)) (n : Name) → scope_kept (h.params ++ h.inputs) ≡ true
    → h.inputs ≡ front ++ (n, Var w) ∷ rest → variable_of h.inputs w ≡ n.0 → HasTarget h w
target_there h w front rest n kept parts is =
    let whole : h.params ++ h.inputs ≡ (h.params ++ front) ++ (n, Var w) ∷ rest =
    ap (λ l. h.params ++ l) parts ∙ sym (append_assoc h.params front ((n, Var w) ∷ rest)) in
    let all : scope_kept (((h.params ++ front) ++ (n, Var w) ∷ []) ++ rest) ≡ true =
    subst (λ U. scope_kept U ≡ true) (whole ∙ sym (append_assoc (h.params ++ front) ((n, Var w) ∷ []) rest)) kept in
    let new = last_new (h.params ++ front) n (Var w) (scope_front ((h.params ++ front) ++ (n, Var w) ∷ []) rest all) in
    record {
      target = (λ i. is_in (variables (parts i)) (is i)) ∙ listed front rest n w;
      width = (λ i. variable_kind (environment (whole i) (is i))) ∙ ap variable_kind (kind_there (h.params ++ front) rest n (Var w) new.new);
    }

pub tables_have_headers : (t : Parts) → IsNormal t → scope_kept t.params ≡ true → AreDeclared (header_of t) → IsHeader (header_of t)
tables_have_headers t normal kept declared = record {
  kept = scope;
  marked = (proper_of t normal).marked;
  declared = declared;
  takes = λ c w e. (
      let wide = kind_holds HasWidth t.params normal.interface.wide c (Chan w (Some Input)) e in
      let found = found_one t.params t.names (input_widths t.params) w
      (filtered_in (is_input_width t.params) all_widths w (width_in w wide) (input_there t.params c w e)) in
      let target = target_there (header_of t) w found.front found.rest found.name scope found.parts found.is in
      (target.target, target.width)
      );
}
  where
    scope : scope_kept (t.params ++ input_variables t.names t.params) ≡ true
    scope = scope_added t.params (input_variables t.names t.params) kept (apart_from t.params (input_variables t.names t.params) declared)
        (names_apart t.params t.names 0 (input_widths t.params) (rises_filtered (is_input_width t.params) 0 all_widths widths_rise))
        (all_fit t.params t.names (input_widths t.params) (all_filtered (λ w. is_width w ≡ true) (is_input_width t.params) all_widths widths_fit))
