-- Lines in order stand for processes that keep names, types and directions.
use Rattle.std.proofs.Common.{◌≡◌, refl, sym, subst, Bool, true, false, ◌&&◌, ◌||◌, ◌==◌, zero, suc, Option, Some, None, map, List, [], ◌∷◌, ◌++◌, ℕ, not}
use Rattle.std.specs.List.{list_any, list_all}
use Rattle.std.proofs.lemmas.Bool.{or_parts, or_left, or_right, and_parts, and_from}
use Rattle.occ_meaning.specs.occ_base.declared.names.Name.{Name}
use Rattle.occ_meaning.specs.occ_base.declared.width.Width.TheVariants.{Bool as TruthValue}
use Rattle.occ_meaning.proofs.Facts.{true_not_false, false_not_true, at_itself}
use Rattle.occ_meaning.specs.occ_syntax.declared.scope.Kind.{Kind}
use Rattle.occ_meaning.specs.occ_syntax.Scopes.{Environment}
use Rattle.occ_meaning.specs.occ_syntax.Tree.{Trees, no_tree, and_tree, Cases, no_case, and_case, Branches, no_branch, and_branch, truth}
use Rattle.occ_meaning.specs.occ_syntax.Types.{types_kept, all_types_kept, cases_kept, branches_kept, is_condition, waiting_kept, is_pair, pairs_kept}
use Rattle.occ_meaning.specs.occ_syntax.Declarations.{declaring_all}
use Rattle.occ_parse_forms.specs.declared.form.Declared.{Declared}
use Rattle.occ_parse_forms.specs.declared.form.Group.{Group}
use Rattle.occ_parse_forms.specs.declared.form.Group.TheVariants as word
use Rattle.occ_parse_forms.specs.declared.form.Item.{Item}
use Rattle.occ_parse_forms.specs.declared.form.Times.{Times}
use Rattle.occ_parse_forms.specs.Shape.{Said, Shape, Waiting}
use Rattle.occ_parse_forms.specs.Shape as line
use Rattle.occ_parse_rules.specs.Forest.{Forest, no_line, and_line}
use Rattle.occ_parse_rules.specs.Judging.{or_else, on_line, inside, behind, first_fault}
use Rattle.occ_parse_rules.specs.Names.{name_fault, is_undeclared, is_outside, redeclares, some_meet, uses, left_items}
use Rattle.occ_parse_rules.specs.Places.{Sorts, Indices, declared_in, entries_of, counter_of, numbers_from, values_of, with_index, for_some}
use Rattle.occ_parse_rules.specs.Types.{type_fault, direction_fault, has_lost, has_untyped, line_clashes, line_untyped, line_against, clashes, waiting_clashes, waiting_untyped}
use Rattle.occ_parse_rules.specs.Unrolled.{Numbers, Lines, all_named, item_number, values, waited, condition, trees_then, cases_then, branches_then, copies, copied, first_tree, as_parts, slot, construct, process, part_line, nested_cases, case_line, nested_branches, branch_line, unrolled}
use Rattle.occ_parse_rules.specs.Sound.{is_sound, are_sound, has_widths, waiting_has_widths, are_pairs, are_distinct, has_width, is_unmarked, are_options, are_placed, is_declare, options_below}
use Rattle.occ_parse_rules.specs.Agreement.{Known, IsOneToOne, Agrees, AreIn, AreKnown, IsTaken, behind_index, declared_places}
use Rattle.occ_parse_rules.specs.Scoped.{after, can_declare_all}
use Rattle.occ_parse_rules.specs.InOrder.{IsInOrder, AreInOrder}
use Rattle.occ_parse_rules.proofs.Facts.{or_else_none, on_line_none, if_none}
use Rattle.occ_parse_rules.proofs.Taken.{none_taken}
use Rattle.occ_parse_rules.proofs.Declared.{after_more, can_more, declared_kept, all_entered, all_taken, counted}
use Rattle.occ_parse_rules.proofs.Lines.{condition_kept, all_here, pairs_are_kept, input_is_kept, output_is_kept, waiting_is_kept}

-- ---- faults of lines and of the lines below and behind them

pub split : {F : Type 0} (judge : Sorts → Shape → Option F) (outer Γ : Sorts) (n : ℕ) (s : Shape) (below rest : Forest) → first_fault judge outer Γ (and_line n s below rest) ≡ None
    → (judge Γ s ≡ None) × (first_fault judge (inside Γ s) (inside Γ s) below ≡ None) × (first_fault judge outer (behind outer Γ s) rest ≡ None)
split judge outer Γ n s below rest h =
    let one = or_else_none (on_line n (judge Γ s)) (or_else (first_fault judge (inside Γ s) (inside Γ s) below) (first_fault judge outer (behind outer Γ s) rest)) h in
    let two = or_else_none (first_fault judge (inside Γ s) (inside Γ s) below) (first_fault judge outer (behind outer Γ s) rest) one.1 in
    (on_line_none n (judge Γ s) one.0, two.0, two.1)

pub here : (outer Γ : Sorts) (n : ℕ) (s : Shape) (below rest : Forest) → AreInOrder outer Γ (and_line n s below rest) → IsInOrder Γ s
here outer Γ n s below rest h = record {
  names = (split name_fault outer Γ n s below rest h.names).0;
  types = (split type_fault outer Γ n s below rest h.types).0;
  directions = (split direction_fault outer Γ n s below rest h.directions).0;
}

pub under : (outer Γ : Sorts) (n : ℕ) (s : Shape) (below rest : Forest) → AreInOrder outer Γ (and_line n s below rest) → AreInOrder (inside Γ s) (inside Γ s) below
under outer Γ n s below rest h = record {
  names = (split name_fault outer Γ n s below rest h.names).1;
  types = (split type_fault outer Γ n s below rest h.types).1;
  directions = (split direction_fault outer Γ n s below rest h.directions).1;
}

pub next : (outer Γ : Sorts) (n : ℕ) (s : Shape) (below rest : Forest) → AreInOrder outer Γ (and_line n s below rest) → AreInOrder outer (behind outer Γ s) rest
next outer Γ n s below rest h = record {
  names = (split name_fault outer Γ n s below rest h.names).2;
  types = (split type_fault outer Γ n s below rest h.types).2;
  directions = (split direction_fault outer Γ n s below rest h.directions).2;
}

no_redeclared : (Γ : Sorts) (s : Shape) → IsInOrder Γ s → redeclares Γ s ≡ false
no_redeclared Γ s j = (if_none (redeclares Γ s) _ _ (if_none (list_any (is_undeclared Γ) (uses s)) _ _ j.names).1).0

no_meeting : (Γ : Sorts) (s : Shape) → IsInOrder Γ s → some_meet Γ (left_items s) ≡ false
no_meeting Γ s j = (or_parts (list_any (is_outside Γ) (uses s)) (some_meet Γ (left_items s))
    (if_none (list_any (is_outside Γ) (uses s) || some_meet Γ (left_items s)) _ _ (if_none (redeclares Γ s) _ _ (if_none (list_any (is_undeclared Γ) (uses s)) _ _ j.names).1).1).0).1

no_clash : (Γ : Sorts) (s : Shape) (ρ : Indices) → IsTaken Γ ρ → IsInOrder Γ s → line_clashes Γ ρ s ≡ false
no_clash Γ s ρ t j = none_taken Γ (λ σ. line_clashes Γ σ s) ρ t (or_parts (has_lost Γ s) (for_some Γ (λ σ. line_clashes Γ σ s)) (if_none (has_lost Γ s || for_some Γ (λ σ. line_clashes Γ σ s)) _ _ j.types).0).1

no_untyped : (Γ : Sorts) (s : Shape) (ρ : Indices) → IsTaken Γ ρ → IsInOrder Γ s → line_untyped Γ ρ s ≡ false
no_untyped Γ s ρ t j = none_taken Γ (λ σ. line_untyped Γ σ s) ρ t (if_none (for_some Γ (λ σ. line_untyped Γ σ s)) _ _ (if_none (has_lost Γ s || for_some Γ (λ σ. line_clashes Γ σ s)) _ _ j.types).1).0

no_against : (Γ : Sorts) (s : Shape) (ρ : Indices) → IsTaken Γ ρ → IsInOrder Γ s → line_against Γ ρ s ≡ false
no_against Γ s ρ t j = none_taken Γ (λ σ. line_against Γ σ s) ρ t (if_none (for_some Γ (λ σ. line_against Γ σ s)) _ _ j.directions).0

-- ---- lists

trees_join : (E : Environment) (a b : Trees) → all_types_kept a E ≡ true → all_types_kept b E ≡ true → all_types_kept (trees_then a b) E ≡ true
trees_join E no_tree b h k = k
trees_join E (and_tree p ps) b h k = let both = and_parts (types_kept p E) (all_types_kept ps E) h in and_from (types_kept p E) (all_types_kept (trees_then ps b) E) both.0 (trees_join E ps b both.1 k)

cases_join : (E : Environment) (a b : Cases) → cases_kept a E ≡ true → cases_kept b E ≡ true → cases_kept (cases_then a b) E ≡ true
cases_join E no_case b h k = k
cases_join E (and_case e p cs) b h k =
    let both = and_parts (is_condition E e && types_kept p E) (cases_kept cs E) h in and_from (is_condition E e && types_kept p E) (cases_kept (cases_then cs b) E) both.0 (cases_join E cs b both.1 k)

branches_join : (E : Environment) (a b : Branches) → branches_kept a E ≡ true → branches_kept b E ≡ true → branches_kept (branches_then a b) E ≡ true
branches_join E no_branch b h k = k
branches_join E (and_branch e w p bs) b h k =
    let both = and_parts (is_condition E e && waiting_kept E w && types_kept p E) (branches_kept bs E) h in
    and_from (is_condition E e && waiting_kept E w && types_kept p E) (branches_kept (branches_then bs b) E) both.0 (branches_join E bs b both.1 k)

first_kept : (E : Environment) (ps : Trees) → all_types_kept ps E ≡ true → types_kept (first_tree ps) E ≡ true
first_kept E no_tree h = refl
first_kept E (and_tree p ps) h = (and_parts (types_kept p E) (all_types_kept ps E) h).0

-- ---- copies

pub some_value : (v b n : ℕ) → list_any (λ u. v == u) (numbers_from b n) ≡ true → list_any (λ u. v == u) (values_of b n) ≡ true
some_value v b zero h = false_not_true h
some_value v b (suc n) h = h

all_copies : {A : Type 0} (join : A → A → A) (none : A) (P : A → Bool) → P none ≡ true → ((a b : A) → P a ≡ true → P b ≡ true → P (join a b) ≡ true)
    → (times : Times) (Γ : Sorts) (ρ : Indices) (copy : Sorts → Indices → A) (vs : List ℕ)
    → ((v : ℕ) → list_any (λ u. v == u) vs ≡ true → P (copy (counter_of times ∷ Γ) (with_index ρ times.index.0 v)) ≡ true) → P (copies join none times Γ ρ copy vs) ≡ true
all_copies join none P e j times Γ ρ copy [] h = e
all_copies join none P e j times Γ ρ copy (v ∷ vs) h =
    j (copy (counter_of times ∷ Γ) (with_index ρ times.index.0 v)) (copies join none times Γ ρ copy vs)
    (h v (or_left (v == v) (list_any (λ u. v == u) vs) (at_itself v)))
    (all_copies join none P e j times Γ ρ copy vs (λ u k. h u (or_right (u == v) (list_any (λ w. u == w) vs) k)))

-- what lines stand for keeps types, in each scope in which they are in order
pub record Kept (D : Known) (N : Numbers) (f : Forest) : Type 0 where
  pub parts : (outer Γ : Sorts) (waiting : List (Name × Kind)) (ρ : Indices) (E : Environment) → AreInOrder outer Γ f → IsTaken outer ρ → IsTaken Γ ρ → Agrees D N outer E
      → Agrees D N Γ (after waiting E) → can_declare_all waiting E ≡ true → all_types_kept ((unrolled N f).parts outer Γ waiting ρ) E ≡ true
  pub cases : (Γ : Sorts) (ρ : Indices) (E : Environment) → are_options f ≡ true → AreInOrder Γ Γ f → IsTaken Γ ρ → Agrees D N Γ E → cases_kept ((unrolled N f).cases Γ ρ) E ≡ true
  pub branches : (Γ : Sorts) (ρ : Indices) (E : Environment) → are_options f ≡ true → AreInOrder Γ Γ f → IsTaken Γ ρ → Agrees D N Γ E → branches_kept ((unrolled N f).branches Γ ρ) E ≡ true

copied_kept : (D : Known) (N : Numbers) (E : Environment) {A : Type 0} (join : A → A → A) (none : A) (P : A → Bool) → P none ≡ true → ((a b : A) → P a ≡ true → P b ≡ true → P (join a b) ≡ true)
    → (g : Group) (times : Option Times) (Γ : Sorts) (ρ : Indices) (copy : Sorts → Indices → A) (below : Forest) → IsTaken Γ ρ → Agrees D N Γ E → IsInOrder Γ (line.group g times) → AreIn D (declared_places (line.group g times))
    → AreInOrder (inside Γ (line.group g times)) (inside Γ (line.group g times)) below
    → ((Δ : Sorts) (σ : Indices) → AreInOrder Δ Δ below → IsTaken Δ σ → Agrees D N Δ E → P (copy Δ σ) ≡ true) → P (copied join none times Γ ρ copy) ≡ true
copied_kept D N E join none P e j g None Γ ρ copy below t a i k b h = h Γ ρ b t a
copied_kept D N E join none P e j g (Some times) Γ ρ copy below t a i k b h =
    all_copies join none P e j times Γ ρ copy (numbers_from times.base times.count) (λ v m.
    h (counter_of times ∷ Γ) (with_index ρ times.index.0 v) b (behind_index times v (some_value v times.base times.count m) t) (counted D N Γ E a times k (no_redeclared Γ (line.group g (Some times)) i)))

as_parts_kept : (D : Known) (N : Numbers) (below : Forest) (E : Environment) → Kept D N below → (Γ : Sorts) (ρ : Indices) → AreInOrder Γ Γ below → IsTaken Γ ρ → Agrees D N Γ E
    → all_types_kept (as_parts (unrolled N below) Γ ρ) E ≡ true
as_parts_kept D N below E k Γ ρ h t a = k.parts Γ Γ [] ρ E h t t a a refl

slot_kept : (D : Known) (N : Numbers) (below : Forest) (E : Environment) → Kept D N below → (Γ : Sorts) (ρ : Indices) → AreInOrder Γ Γ below → IsTaken Γ ρ → Agrees D N Γ E
    → types_kept (slot (unrolled N below) Γ ρ) E ≡ true
slot_kept D N below E k Γ ρ h t a = first_kept E (as_parts (unrolled N below) Γ ρ) (as_parts_kept D N below E k Γ ρ h t a)

construct_kept : (D : Known) (N : Numbers) (below : Forest) (E : Environment) → Kept D N below → (g : Group) (times : Option Times) (Γ : Sorts) (ρ : Indices) → IsTaken Γ ρ → Agrees D N Γ E
    → options_below (line.group g times) below ≡ true → IsInOrder Γ (line.group g times) → AreIn D (declared_places (line.group g times)) → AreInOrder (inside Γ (line.group g times)) (inside Γ (line.group g times)) below
    → types_kept (construct g times (unrolled N below) Γ ρ) E ≡ true
construct_kept D N below E k word.Seq times Γ ρ t a o i m b =
    copied_kept D N E trees_then no_tree (λ ps. all_types_kept ps E) refl (trees_join E) word.Seq times Γ ρ (as_parts (unrolled N below)) below t a i m b (as_parts_kept D N below E k)
construct_kept D N below E k word.Par times Γ ρ t a o i m b =
    copied_kept D N E trees_then no_tree (λ ps. all_types_kept ps E) refl (trees_join E) word.Par times Γ ρ (as_parts (unrolled N below)) below t a i m b (as_parts_kept D N below E k)
construct_kept D N below E k word.If times Γ ρ t a o i m b =
    copied_kept D N E cases_then no_case (λ cs. cases_kept cs E) refl (cases_join E) word.If times Γ ρ (unrolled N below).cases below t a i m b (λ Δ σ r t' a'. k.cases Δ σ E o r t' a')
construct_kept D N below E k word.Alt times Γ ρ t a o i m b =
    copied_kept D N E branches_then no_branch (λ bs. branches_kept bs E) refl (branches_join E) word.Alt times Γ ρ (unrolled N below).branches below t a i m b (λ Δ σ r t' a'. k.branches Δ σ E o r t' a')

pairs_there : (E : Environment) (xs : List ℕ) (es : List _) → is_pair xs ≡ true → pairs_kept E xs es ≡ true → (is_pair xs && pairs_kept E xs es) ≡ true
pairs_there E xs es h k = and_from (is_pair xs) (pairs_kept E xs es) h k

some_pair : (N : Numbers) (ρ : Indices) (xs : List Item) (es : List Said) → are_pairs xs es ≡ true → is_pair (map (item_number N ρ) xs) ≡ true
some_pair N ρ [] es h = false_not_true h
some_pair N ρ (x ∷ xs) es h = refl

process_kept : (D : Known) (N : Numbers) → IsOneToOne D N → (s : Shape) (below : Forest) (E : Environment) → is_sound s ≡ true → options_below s below ≡ true → AreIn D (declared_places s) → Kept D N below → (Γ : Sorts) (ρ : Indices)
    → IsTaken Γ ρ → Agrees D N Γ E → IsInOrder Γ s → AreInOrder (inside Γ s) (inside Γ s) below → types_kept (process N s (unrolled N below) Γ ρ) E ≡ true
process_kept D N u (line.header name params) below E s o m k Γ ρ t a i b = refl
process_kept D N u line.close below E s o m k Γ ρ t a i b = refl
process_kept D N u line.skip below E s o m k Γ ρ t a i b = refl
process_kept D N u line.stop below E s o m k Γ ρ t a i b = refl
process_kept D N u (line.assign xs es) below E s o m k Γ ρ t a i b =
    let both = and_parts (are_pairs xs es && are_distinct xs) (list_all has_widths es) s in
    let more = and_parts (are_pairs xs es) (are_distinct xs) both.0 in
    let clash = no_clash Γ (line.assign xs es) ρ t i in
    pairs_there E (map (item_number N ρ) xs) (values N Γ ρ xs es) (some_pair N ρ xs es more.0)
    (pairs_are_kept D N u Γ E ρ a t xs es more.0 (all_here Γ ρ xs es more.0 clash) more.1 both.1 (no_meeting Γ (line.assign xs es) i) clash (no_untyped Γ (line.assign xs es) ρ t i))
process_kept D N u (line.receive c x) below E s o m k Γ ρ t a i b = input_is_kept D N Γ E ρ a c x (no_clash Γ (line.receive c x) ρ t i) (no_against Γ (line.receive c x) ρ t i)
process_kept D N u (line.send c e) below E s o m k Γ ρ t a i b =
    output_is_kept D N Γ E ρ a t c e s (no_clash Γ (line.send c e) ρ t i) (no_untyped Γ (line.send c e) ρ t i) (no_against Γ (line.send c e) ρ t i)
process_kept D N u (line.group g times) below E s o m k Γ ρ t a i b = construct_kept D N below E k g times Γ ρ t a o i m b
process_kept D N u (line.declare kind ds) below E s o m k Γ ρ t a i b = refl
process_kept D N u (line.condition e) below E s o m k Γ ρ t a i b = refl
process_kept D N u (line.guard e w) below E s o m k Γ ρ t a i b = refl
process_kept D N u line.nothing below E s o m k Γ ρ t a i b = refl

-- ---- slots

pub part_is : (N : Numbers) (s : Shape) (below rest : Lines) (outer Γ : Sorts) (waiting : List (Name × Kind)) (ρ : Indices) → is_declare s ≡ false
    → part_line N s below rest outer Γ waiting ρ ≡ and_tree (declaring_all waiting (process N s below Γ ρ)) (rest.parts outer outer [] ρ)
unfolding is_declare
part_is N (line.header name params) below rest outer Γ waiting ρ h = refl
part_is N line.close below rest outer Γ waiting ρ h = refl
part_is N line.skip below rest outer Γ waiting ρ h = refl
part_is N line.stop below rest outer Γ waiting ρ h = refl
part_is N (line.assign xs es) below rest outer Γ waiting ρ h = refl
part_is N (line.receive c x) below rest outer Γ waiting ρ h = refl
part_is N (line.send c e) below rest outer Γ waiting ρ h = refl
part_is N (line.group g times) below rest outer Γ waiting ρ h = refl
part_is N (line.declare kind ds) below rest outer Γ waiting ρ h = true_not_false h
part_is N (line.condition e) below rest outer Γ waiting ρ h = refl
part_is N (line.guard e w) below rest outer Γ waiting ρ h = refl
part_is N line.nothing below rest outer Γ waiting ρ h = refl

pub behind_is : (s : Shape) (outer Γ : Sorts) → is_declare s ≡ false → behind outer Γ s ≡ outer
unfolding is_declare
behind_is (line.header name params) outer Γ h = refl
behind_is line.close outer Γ h = refl
behind_is line.skip outer Γ h = refl
behind_is line.stop outer Γ h = refl
behind_is (line.assign xs es) outer Γ h = refl
behind_is (line.receive c x) outer Γ h = refl
behind_is (line.send c e) outer Γ h = refl
behind_is (line.group g times) outer Γ h = refl
behind_is (line.declare kind ds) outer Γ h = true_not_false h
behind_is (line.condition e) outer Γ h = refl
behind_is (line.guard e w) outer Γ h = refl
behind_is line.nothing outer Γ h = refl

PartKept : (D : Known) (N : Numbers) (n : ℕ) (s : Shape) (below rest : Forest) → Type 0
PartKept D N n s below rest = (outer Γ : Sorts) (waiting : List (Name × Kind)) (ρ : Indices) (E : Environment) → AreInOrder outer Γ (and_line n s below rest) → IsTaken outer ρ → IsTaken Γ ρ → Agrees D N outer E
    → Agrees D N Γ (after waiting E) → can_declare_all waiting E ≡ true → all_types_kept (part_line N s (unrolled N below) (unrolled N rest) outer Γ waiting ρ) E ≡ true

one_part : (D : Known) (N : Numbers) → IsOneToOne D N → (n : ℕ) (s : Shape) (below rest : Forest) → is_sound s ≡ true → options_below s below ≡ true → AreIn D (declared_places s) → Kept D N below → Kept D N rest → is_declare s ≡ false
    → PartKept D N n s below rest
unfolding PartKept
one_part D N u n s below rest sound opts known kb kr d = λ outer Γ waiting ρ E i t g a w can.
    subst (λ ps. all_types_kept ps E ≡ true) (sym (part_is N s (unrolled N below) (unrolled N rest) outer Γ waiting ρ d))
    (and_from (types_kept (declaring_all waiting (process N s (unrolled N below) Γ ρ)) E) (all_types_kept ((unrolled N rest).parts outer outer [] ρ) E)
    (declared_kept waiting (process N s (unrolled N below) Γ ρ) E can
    (process_kept D N u s below (after waiting E) sound opts known kb Γ ρ g w (here outer Γ n s below rest i) (under outer Γ n s below rest i)))
    (kr.parts outer outer [] ρ E (subst (λ Δ. AreInOrder outer Δ rest) (behind_is s outer Γ d) (next outer Γ n s below rest i)) t t a a refl))

declared_part : (D : Known) (N : Numbers) → IsOneToOne D N → (n : ℕ) (k : Kind) (ds : List Declared) (below rest : Forest) → is_sound (line.declare k ds) ≡ true → AreIn D (declared_places (line.declare k ds))
    → Kept D N rest → PartKept D N n (line.declare k ds) below rest
unfolding PartKept
declared_part D N u n k ds below rest sound known kr = λ outer Γ waiting ρ E i t g a w can.
    let both = and_parts (has_width k) (is_unmarked k) sound in
    let more = all_entered D N u k ds Γ (after waiting E) w known both.0 both.1 (no_redeclared Γ (line.declare k ds) (here outer Γ n (line.declare k ds) below rest i)) in
    kr.parts outer (declared_in Γ (entries_of k ds)) (waiting ++ all_named N k ds) ρ E (next outer Γ n (line.declare k ds) below rest i) t (all_taken k ds Γ ρ g) a
    (subst (λ F. Agrees D N (declared_in Γ (entries_of k ds)) F) (sym (after_more waiting (all_named N k ds) E)) more.0)
    (can_more waiting (all_named N k ds) E can more.1)

-- ---- choices

pub CasesKept : (D : Known) (N : Numbers) (n : ℕ) (s : Shape) (below rest : Forest) → Type 0
CasesKept D N n s below rest = (Γ : Sorts) (ρ : Indices) (E : Environment) → are_options (and_line n s below rest) ≡ true → AreInOrder Γ Γ (and_line n s below rest) → IsTaken Γ ρ → Agrees D N Γ E
    → cases_kept (case_line N s (unrolled N below) (unrolled N rest) Γ ρ) E ≡ true

rest_cases : (D : Known) (N : Numbers) (n : ℕ) (s : Shape) (below rest : Forest) → Kept D N rest → is_declare s ≡ false → (Γ : Sorts) (ρ : Indices) (E : Environment)
    → are_options (and_line n s below rest) ≡ true → AreInOrder Γ Γ (and_line n s below rest) → IsTaken Γ ρ → Agrees D N Γ E → cases_kept ((unrolled N rest).cases Γ ρ) E ≡ true
rest_cases D N n s below rest kr d Γ ρ E p i t a = kr.cases Γ ρ E (and_parts (not (is_declare s)) (are_options rest) p).1 (subst (λ Δ. AreInOrder Γ Δ rest) (behind_is s Γ Γ d) (next Γ Γ n s below rest i)) t a

nested_cases_kept : (D : Known) (N : Numbers) (below : Forest) (E : Environment) → Kept D N below → (g : Group) (times : Option Times) (Γ : Sorts) (ρ : Indices) → IsTaken Γ ρ → Agrees D N Γ E
    → options_below (line.group g times) below ≡ true → IsInOrder Γ (line.group g times) → AreIn D (declared_places (line.group g times)) → AreInOrder (inside Γ (line.group g times)) (inside Γ (line.group g times)) below
    → cases_kept (nested_cases g times (unrolled N below) Γ ρ) E ≡ true
nested_cases_kept D N below E k word.Seq times Γ ρ t a o i m b = refl
nested_cases_kept D N below E k word.Par times Γ ρ t a o i m b = refl
nested_cases_kept D N below E k word.Alt times Γ ρ t a o i m b = refl
nested_cases_kept D N below E k word.If times Γ ρ t a o i m b =
    copied_kept D N E cases_then no_case (λ cs. cases_kept cs E) refl (cases_join E) word.If times Γ ρ (unrolled N below).cases below t a i m b (λ Δ σ r t' a'. k.cases Δ σ E o r t' a')

one_case : (D : Known) (N : Numbers) (n : ℕ) (s : Shape) (below rest : Forest) → is_sound s ≡ true → options_below s below ≡ true → AreIn D (declared_places s) → Kept D N below → Kept D N rest → CasesKept D N n s below rest
unfolding CasesKept is_declare
one_case D N n (line.header name params) below rest sound o m kb kr = λ Γ ρ E p i t a. rest_cases D N n (line.header name params) below rest kr refl Γ ρ E p i t a
one_case D N n line.close below rest sound o m kb kr = λ Γ ρ E p i t a. rest_cases D N n line.close below rest kr refl Γ ρ E p i t a
one_case D N n line.skip below rest sound o m kb kr = λ Γ ρ E p i t a. rest_cases D N n line.skip below rest kr refl Γ ρ E p i t a
one_case D N n line.stop below rest sound o m kb kr = λ Γ ρ E p i t a. rest_cases D N n line.stop below rest kr refl Γ ρ E p i t a
one_case D N n (line.assign xs es) below rest sound o m kb kr = λ Γ ρ E p i t a. rest_cases D N n (line.assign xs es) below rest kr refl Γ ρ E p i t a
one_case D N n (line.receive c x) below rest sound o m kb kr = λ Γ ρ E p i t a. rest_cases D N n (line.receive c x) below rest kr refl Γ ρ E p i t a
one_case D N n (line.send c e) below rest sound o m kb kr = λ Γ ρ E p i t a. rest_cases D N n (line.send c e) below rest kr refl Γ ρ E p i t a
one_case D N n (line.group g times) below rest sound o m kb kr = λ Γ ρ E p i t a.
    cases_join E (nested_cases g times (unrolled N below) Γ ρ) ((unrolled N rest).cases Γ ρ)
    (nested_cases_kept D N below E kb g times Γ ρ t a o (here Γ Γ n (line.group g times) below rest i) m (under Γ Γ n (line.group g times) below rest i))
    (rest_cases D N n (line.group g times) below rest kr refl Γ ρ E p i t a)
one_case D N n (line.declare kind ds) below rest sound o m kb kr = λ Γ ρ E p i t a. false_not_true p
one_case D N n (line.condition e) below rest sound o m kb kr = λ Γ ρ E p i t a.
    let j = here Γ Γ n (line.condition e) below rest i in
    and_from (is_condition E (condition N Γ ρ e) && types_kept (slot (unrolled N below) Γ ρ) E) (cases_kept ((unrolled N rest).cases Γ ρ) E)
    (and_from (is_condition E (condition N Γ ρ e)) (types_kept (slot (unrolled N below) Γ ρ) E)
    (condition_kept D N Γ E ρ a t e sound (no_clash Γ (line.condition e) ρ t j) (no_untyped Γ (line.condition e) ρ t j))
    (slot_kept D N below E kb Γ ρ (under Γ Γ n (line.condition e) below rest i) t a))
    (rest_cases D N n (line.condition e) below rest kr refl Γ ρ E p i t a)
one_case D N n (line.guard e w) below rest sound o m kb kr = λ Γ ρ E p i t a. rest_cases D N n (line.guard e w) below rest kr refl Γ ρ E p i t a
one_case D N n line.nothing below rest sound o m kb kr = λ Γ ρ E p i t a. rest_cases D N n line.nothing below rest kr refl Γ ρ E p i t a

-- ---- alternatives

pub BranchesKept : (D : Known) (N : Numbers) (n : ℕ) (s : Shape) (below rest : Forest) → Type 0
BranchesKept D N n s below rest = (Γ : Sorts) (ρ : Indices) (E : Environment) → are_options (and_line n s below rest) ≡ true → AreInOrder Γ Γ (and_line n s below rest) → IsTaken Γ ρ → Agrees D N Γ E
    → branches_kept (branch_line N s (unrolled N below) (unrolled N rest) Γ ρ) E ≡ true

rest_branches : (D : Known) (N : Numbers) (n : ℕ) (s : Shape) (below rest : Forest) → Kept D N rest → is_declare s ≡ false → (Γ : Sorts) (ρ : Indices) (E : Environment)
    → are_options (and_line n s below rest) ≡ true → AreInOrder Γ Γ (and_line n s below rest) → IsTaken Γ ρ → Agrees D N Γ E → branches_kept ((unrolled N rest).branches Γ ρ) E ≡ true
rest_branches D N n s below rest kr d Γ ρ E p i t a = kr.branches Γ ρ E (and_parts (not (is_declare s)) (are_options rest) p).1 (subst (λ Δ. AreInOrder Γ Δ rest) (behind_is s Γ Γ d) (next Γ Γ n s below rest i)) t a

nested_branches_kept : (D : Known) (N : Numbers) (below : Forest) (E : Environment) → Kept D N below → (g : Group) (times : Option Times) (Γ : Sorts) (ρ : Indices) → IsTaken Γ ρ → Agrees D N Γ E
    → options_below (line.group g times) below ≡ true → IsInOrder Γ (line.group g times) → AreIn D (declared_places (line.group g times)) → AreInOrder (inside Γ (line.group g times)) (inside Γ (line.group g times)) below
    → branches_kept (nested_branches g times (unrolled N below) Γ ρ) E ≡ true
nested_branches_kept D N below E k word.Seq times Γ ρ t a o i m b = refl
nested_branches_kept D N below E k word.Par times Γ ρ t a o i m b = refl
nested_branches_kept D N below E k word.If times Γ ρ t a o i m b = refl
nested_branches_kept D N below E k word.Alt times Γ ρ t a o i m b =
    copied_kept D N E branches_then no_branch (λ bs. branches_kept bs E) refl (branches_join E) word.Alt times Γ ρ (unrolled N below).branches below t a i m b (λ Δ σ r t' a'. k.branches Δ σ E o r t' a')

guarded : (N : Numbers) (E : Environment) (below : Forest) (rest : Lines) (Γ : Sorts) (ρ : Indices) (e : _) (w : _) → is_condition E e ≡ true → waiting_kept E w ≡ true
    → types_kept (slot (unrolled N below) Γ ρ) E ≡ true → branches_kept (rest.branches Γ ρ) E ≡ true → branches_kept (and_branch e w (slot (unrolled N below) Γ ρ) (rest.branches Γ ρ)) E ≡ true
guarded N E below rest Γ ρ e w c k s r =
    and_from (is_condition E e && waiting_kept E w && types_kept (slot (unrolled N below) Γ ρ) E) (branches_kept (rest.branches Γ ρ) E)
    (and_from (is_condition E e && waiting_kept E w) (types_kept (slot (unrolled N below) Γ ρ) E) (and_from (is_condition E e) (waiting_kept E w) c k) s) r

one_branch : (D : Known) (N : Numbers) (n : ℕ) (s : Shape) (below rest : Forest) → is_sound s ≡ true → options_below s below ≡ true → AreIn D (declared_places s) → Kept D N below → Kept D N rest → BranchesKept D N n s below rest
unfolding BranchesKept is_declare
one_branch D N n (line.header name params) below rest sound o m kb kr = λ Γ ρ E p i t a. rest_branches D N n (line.header name params) below rest kr refl Γ ρ E p i t a
one_branch D N n line.close below rest sound o m kb kr = λ Γ ρ E p i t a. rest_branches D N n line.close below rest kr refl Γ ρ E p i t a
one_branch D N n line.skip below rest sound o m kb kr = λ Γ ρ E p i t a. rest_branches D N n line.skip below rest kr refl Γ ρ E p i t a
one_branch D N n line.stop below rest sound o m kb kr = λ Γ ρ E p i t a. rest_branches D N n line.stop below rest kr refl Γ ρ E p i t a
one_branch D N n (line.assign xs es) below rest sound o m kb kr = λ Γ ρ E p i t a. rest_branches D N n (line.assign xs es) below rest kr refl Γ ρ E p i t a
one_branch D N n (line.receive c x) below rest sound o m kb kr = λ Γ ρ E p i t a.
    let j = here Γ Γ n (line.receive c x) below rest i in
    guarded N E below (unrolled N rest) Γ ρ (truth true) (waited N Γ ρ (line.input c x)) refl
    (waiting_is_kept D N Γ E ρ a t (line.input c x) refl (no_clash Γ (line.receive c x) ρ t j) refl (no_against Γ (line.receive c x) ρ t j))
    (slot_kept D N below E kb Γ ρ (under Γ Γ n (line.receive c x) below rest i) t a)
    (rest_branches D N n (line.receive c x) below rest kr refl Γ ρ E p i t a)
one_branch D N n (line.send c e) below rest sound o m kb kr = λ Γ ρ E p i t a.
    let j = here Γ Γ n (line.send c e) below rest i in
    guarded N E below (unrolled N rest) Γ ρ (truth true) (waited N Γ ρ (line.output c e)) refl
    (waiting_is_kept D N Γ E ρ a t (line.output c e) sound (no_clash Γ (line.send c e) ρ t j) (no_untyped Γ (line.send c e) ρ t j) (no_against Γ (line.send c e) ρ t j))
    (slot_kept D N below E kb Γ ρ (under Γ Γ n (line.send c e) below rest i) t a)
    (rest_branches D N n (line.send c e) below rest kr refl Γ ρ E p i t a)
one_branch D N n (line.group g times) below rest sound o m kb kr = λ Γ ρ E p i t a.
    branches_join E (nested_branches g times (unrolled N below) Γ ρ) ((unrolled N rest).branches Γ ρ)
    (nested_branches_kept D N below E kb g times Γ ρ t a o (here Γ Γ n (line.group g times) below rest i) m (under Γ Γ n (line.group g times) below rest i))
    (rest_branches D N n (line.group g times) below rest kr refl Γ ρ E p i t a)
one_branch D N n (line.declare kind ds) below rest sound o m kb kr = λ Γ ρ E p i t a. false_not_true p
one_branch D N n (line.condition e) below rest sound o m kb kr = λ Γ ρ E p i t a. rest_branches D N n (line.condition e) below rest kr refl Γ ρ E p i t a
one_branch D N n (line.guard e w) below rest sound o m kb kr = λ Γ ρ E p i t a.
    let j = here Γ Γ n (line.guard e w) below rest i in
    let widths = and_parts (has_widths e) (waiting_has_widths w) sound in
    let clash = or_parts (clashes Γ ρ e TruthValue) (waiting_clashes Γ ρ w) (no_clash Γ (line.guard e w) ρ t j) in
    let untyped = or_parts (has_untyped Γ ρ e) (waiting_untyped Γ ρ w) (no_untyped Γ (line.guard e w) ρ t j) in
    guarded N E below (unrolled N rest) Γ ρ (condition N Γ ρ e) (waited N Γ ρ w)
    (condition_kept D N Γ E ρ a t e widths.0 clash.0 untyped.0)
    (waiting_is_kept D N Γ E ρ a t w widths.1 clash.1 untyped.1 (no_against Γ (line.guard e w) ρ t j))
    (slot_kept D N below E kb Γ ρ (under Γ Γ n (line.guard e w) below rest i) t a)
    (rest_branches D N n (line.guard e w) below rest kr refl Γ ρ E p i t a)
one_branch D N n line.nothing below rest sound o m kb kr = λ Γ ρ E p i t a. rest_branches D N n line.nothing below rest kr refl Γ ρ E p i t a

-- ---- all lines

any_part : (D : Known) (N : Numbers) → IsOneToOne D N → (n : ℕ) (s : Shape) (below rest : Forest) → is_sound s ≡ true → options_below s below ≡ true → AreIn D (declared_places s) → Kept D N below → Kept D N rest → PartKept D N n s below rest
unfolding is_declare
any_part D N u n (line.header name params) below rest sound o m kb kr = one_part D N u n (line.header name params) below rest sound o m kb kr refl
any_part D N u n line.close below rest sound o m kb kr = one_part D N u n line.close below rest sound o m kb kr refl
any_part D N u n line.skip below rest sound o m kb kr = one_part D N u n line.skip below rest sound o m kb kr refl
any_part D N u n line.stop below rest sound o m kb kr = one_part D N u n line.stop below rest sound o m kb kr refl
any_part D N u n (line.assign xs es) below rest sound o m kb kr = one_part D N u n (line.assign xs es) below rest sound o m kb kr refl
any_part D N u n (line.receive c x) below rest sound o m kb kr = one_part D N u n (line.receive c x) below rest sound o m kb kr refl
any_part D N u n (line.send c e) below rest sound o m kb kr = one_part D N u n (line.send c e) below rest sound o m kb kr refl
any_part D N u n (line.group g times) below rest sound o m kb kr = one_part D N u n (line.group g times) below rest sound o m kb kr refl
any_part D N u n (line.declare kind ds) below rest sound o m kb kr = declared_part D N u n kind ds below rest sound m kr
any_part D N u n (line.condition e) below rest sound o m kb kr = one_part D N u n (line.condition e) below rest sound o m kb kr refl
any_part D N u n (line.guard e w) below rest sound o m kb kr = one_part D N u n (line.guard e w) below rest sound o m kb kr refl
any_part D N u n line.nothing below rest sound o m kb kr = one_part D N u n line.nothing below rest sound o m kb kr refl

pub kept : (D : Known) (N : Numbers) → IsOneToOne D N → (f : Forest) → are_sound f ≡ true → are_placed f ≡ true → AreKnown D f → Kept D N f
unfolding PartKept CasesKept BranchesKept
kept D N u no_line s q m = record { parts = λ outer Γ waiting ρ E i t g a w can. refl; cases = λ Γ ρ E p i t a. refl; branches = λ Γ ρ E p i t a. refl }
kept D N u (and_line n s below rest) sound q m =
    let one = and_parts (is_sound s) (are_sound below && are_sound rest) sound in
    let two = and_parts (are_sound below) (are_sound rest) one.1 in
    let opts = and_parts (options_below s below) (are_placed below && are_placed rest) q in
    let placed = and_parts (are_placed below) (are_placed rest) opts.1 in
    let kb = kept D N u below two.0 placed.0 m.1.0 in
    let kr = kept D N u rest two.1 placed.1 m.1.1 in
    record {
      parts = any_part D N u n s below rest one.0 opts.0 m.0 kb kr;
      cases = one_case D N n s below rest one.0 opts.0 m.0 kb kr;
      branches = one_branch D N n s below rest one.0 opts.0 m.0 kb kr;
    }

pub slot_is_kept : (D : Known) (N : Numbers) → IsOneToOne D N → (f : Forest) → are_sound f ≡ true → are_placed f ≡ true → AreKnown D f → (Γ : Sorts) (ρ : Indices) (E : Environment) → AreInOrder Γ Γ f → IsTaken Γ ρ → Agrees D N Γ E
    → types_kept (slot (unrolled N f) Γ ρ) E ≡ true
slot_is_kept D N u f sound q m Γ ρ E i t a = slot_kept D N f E (kept D N u f sound q m) Γ ρ i t a
