-- What stands at each level, one line on.
use Rattle.std.proofs.Common.{◌≡◌, ℕ, ◌+◌, ◌<◌, ◌≤◌, Bool, true, false, not, ◌&&◌, ◌||◌, cond, List, [], ◌∷◌, ◌++◌, length, get_or, take, refl, sym, subst, ap, ◌∙◌, arith, ⊎_elim}
use Rattle.std.proofs.lemmas.Bool.{cond-true, cond-false, le-leb, lt-leb, eq-eqb, ne_eqb, lt-ltb, le-ltb, cases_order, cases_lt}
use Rattle.std.proofs.lemmas.List.{get_or_append_left, get_or-take, get_or_push, get_or_past, length-take-le, length_push}
use Rattle.occ_parse_rules.specs.Forest.{Laid}
use Rattle.occ_parse_layout.specs.declared.placed.Frame.{Frame}
use Rattle.occ_parse_layout.specs.declared.kind.Room.{Room}
use Rattle.occ_parse_layout.specs.declared.kind.Room.TheVariants as room
use Rattle.occ_parse_layout.specs.declared.passed.Open.{Open}
use Rattle.occ_parse_layout.specs.declared.passed.Passed.{Passed}
use Rattle.occ_parse_layout.specs.Layout.{kind_of, is_declaration, takes, room_at, is_free, closes}
use Rattle.occ_parse_layout.specs.Scan.{Describes, shut}

-- ---- the list of what is open

abbrev pub next : List Open → ℕ → Open → Open → List Open
next L k used inner = (take k L ++ used ∷ []) ++ inner ∷ []

length_used : (L : List Open) (k : ℕ) (used : Open) → k < length L → length (take k L ++ used ∷ []) ≡ k + 1
length_used L k used h = omega (arith, length_push (take k L) used, length-take-le k L (omega arith))

length_next : (L : List Open) (k : ℕ) (used inner : Open) → k < length L → length (next L k used inner) ≡ k + 2
length_next L k used inner h = omega (arith, length_used L k used h, length_push (take k L ++ used ∷ []) inner)

at_before : (L : List Open) (k n : ℕ) (used inner : Open) → k < length L → n < k → get_or (next L k used inner) n shut ≡ get_or L n shut
at_before L k n used inner h l =
    get_or_append_left (take k L ++ used ∷ []) (inner ∷ []) shut n (omega (arith, length_used L k used h))
    ∙ get_or_append_left (take k L) (used ∷ []) shut n (omega (arith, length-take-le k L (omega arith)))
    ∙ get_or-take k L n shut l

at_same : (L : List Open) (k : ℕ) (used inner : Open) → k < length L → get_or (next L k used inner) k shut ≡ used
at_same L k used inner h =
    get_or_append_left (take k L ++ used ∷ []) (inner ∷ []) shut k (omega (arith, length_used L k used h))
    ∙ get_or_push (take k L) used shut k (length-take-le k L (omega arith))

at_next : (L : List Open) (k : ℕ) (used inner : Open) → k < length L → get_or (next L k used inner) (k + 1) shut ≡ inner
at_next L k used inner h = get_or_push (take k L ++ used ∷ []) inner shut (k + 1) (length_used L k used h)

at_behind : (L : List Open) (k n : ℕ) (used inner : Open) → k < length L → k + 1 < n → get_or (next L k used inner) n shut ≡ shut
at_behind L k n used inner h l = get_or_past (next L k used inner) n shut (omega (arith, length_next L k used inner h))

-- ---- rooms

room_before : (f : Frame) (r : Laid) (before : List Laid) (n : ℕ) → n ≤ r.level → room_at f (r ∷ before) n ≡ room_at f before n
room_before f r before n h = cond-true _ _ _ (le-leb n r.level h)

pub room_next : (f : Frame) (r : Laid) (before : List Laid) → room_at f (r ∷ before) (r.level + 1) ≡ takes (room_at f before r.level) (kind_of r.shape)
room_next f r before = cond-false _ _ _ (lt-leb (r.level + 1) r.level (omega arith)) ∙ cond-true _ _ _ (eq-eqb (r.level + 1) (r.level + 1) refl)

pub room_behind : (f : Frame) (r : Laid) (before : List Laid) (n : ℕ) → r.level + 1 < n → room_at f (r ∷ before) n ≡ room.Nothing
room_behind f r before n h = cond-false _ _ _ (lt-leb n r.level (omega arith)) ∙ cond-false _ _ _ (ne_eqb n (r.level + 1) (λ e. absurd (omega arith)))

-- ---- free places

free_before : (r : Laid) (before : List Laid) (n : ℕ) → n < r.level → is_free (r ∷ before) n ≡ is_free before n
free_before r before n h =
    cond-false _ _ _ (le-ltb r.level n (omega arith))
    ∙ cond-false _ _ _ (ap (λ b. b && not (is_declaration (kind_of r.shape))) (ne_eqb r.level n (λ e. absurd (omega arith))))

free_by : (b d : Bool) → cond (not d) false b ≡ (b && d)
free_by true true = refl
free_by true false = refl
free_by false true = refl
free_by false false = refl

free_same : (r : Laid) (before : List Laid) → is_free (r ∷ before) r.level ≡ (is_free before r.level && is_declaration (kind_of r.shape))
free_same r before =
    cond-false _ _ _ (le-ltb r.level r.level (omega arith))
    ∙ ap (λ t. cond (t && not (is_declaration (kind_of r.shape))) false (is_free before r.level)) (eq-eqb r.level r.level refl)
    ∙ free_by (is_free before r.level) (is_declaration (kind_of r.shape))

free_next : (r : Laid) (before : List Laid) → is_free (r ∷ before) (r.level + 1) ≡ true
free_next r before = cond-true _ _ _ (lt-ltb r.level (r.level + 1) (omega arith))

-- ---- one line on

pub room_step : (f : Frame) (before : List Laid) (L : List Open) (r : Laid) (used inner : Open) → r.level < length L
    → ((n : ℕ) → (get_or L n shut).room ≡ room_at f before n)
    → used.room ≡ (get_or L r.level shut).room
    → inner.room ≡ takes (get_or L r.level shut).room (kind_of r.shape)
    → (n : ℕ) → (get_or (next L r.level used inner) n shut).room ≡ room_at f (r ∷ before) n
room_step f before L r used inner h rooms u i n =
    let k = r.level in
    ⊎_elim
    (λ (e : n ≡ k). subst (λ (m : ℕ). (get_or (next L k used inner) m shut).room ≡ room_at f (r ∷ before) m) (sym e)
    (ap (λ (o : Open). o.room) (at_same L k used inner h) ∙ u ∙ rooms k ∙ sym (room_before f r before k (omega arith))))
    (⊎_elim
    (λ (l : n < k). ap (λ (o : Open). o.room) (at_before L k n used inner h l) ∙ rooms n ∙ sym (room_before f r before n (omega arith)))
    (λ (l : k < n). ⊎_elim
    (λ (l2 : k + 1 < n). ap (λ (o : Open). o.room) (at_behind L k n used inner h l2) ∙ sym (room_behind f r before n l2))
    (λ (l2 : n ≤ k + 1).
    let e : k + 1 ≡ n = omega arith in
    subst (λ (m : ℕ). (get_or (next L k used inner) m shut).room ≡ room_at f (r ∷ before) m) e
    (ap (λ (o : Open). o.room) (at_next L k used inner h) ∙ i ∙ ap (λ (q : Room). takes q (kind_of r.shape)) (rooms k) ∙ sym (room_next f r before)))
    (cases_lt (k + 1) n)))
    (cases_order n k)

pub free_step : (before : List Laid) (L : List Open) (r : Laid) (used inner : Open) → r.level < length L
    → ((n : ℕ) → n < length L → (get_or L n shut).free ≡ is_free before n)
    → used.free ≡ ((get_or L r.level shut).free && is_declaration (kind_of r.shape))
    → inner.free ≡ true
    → (n : ℕ) → n < length (next L r.level used inner) → (get_or (next L r.level used inner) n shut).free ≡ is_free (r ∷ before) n
free_step before L r used inner h frees u i n below =
    let k = r.level in
    let len : n < k + 2 = omega (arith, length_next L k used inner h) in
    ⊎_elim
    (λ (e : n ≡ k). subst (λ (m : ℕ). (get_or (next L k used inner) m shut).free ≡ is_free (r ∷ before) m) (sym e)
    (ap (λ (o : Open). o.free) (at_same L k used inner h) ∙ u ∙ ap (λ (b : Bool). b && is_declaration (kind_of r.shape)) (frees k h) ∙ sym (free_same r before)))
    (⊎_elim
    (λ (l : n < k). ap (λ (o : Open). o.free) (at_before L k n used inner h l) ∙ frees n (omega arith) ∙ sym (free_before r before n l))
    (λ (l : k < n).
    let e : k + 1 ≡ n = omega arith in
    subst (λ (m : ℕ). (get_or (next L k used inner) m shut).free ≡ is_free (r ∷ before) m) e
    (ap (λ (o : Open). o.free) (at_next L k used inner h) ∙ i ∙ sym (free_next r before))))
    (cases_order n k)

pub passes : (before : List Laid) (old new : Passed) (r : Laid) (used inner : Open) → r.level < length old.open.items
    → new.open.items ≡ next old.open.items r.level used inner
    → used.room ≡ (get_or old.open.items r.level shut).room
    → used.free ≡ ((get_or old.open.items r.level shut).free && is_declaration (kind_of r.shape))
    → inner.room ≡ takes (get_or old.open.items r.level shut).room (kind_of r.shape)
    → inner.free ≡ true
    → new.frame ≡ old.frame → new.begun ≡ true → new.closed ≡ (closes r || old.closed)
    → Describes before old → Describes (r ∷ before) new
passes before old new r used inner h items ur uf ir jf frame begun closed d = record {
  room = λ n.
      subst (λ (L : List Open). (get_or L n shut).room ≡ room_at new.frame (r ∷ before) n) (sym items)
      (subst (λ (f : Frame). (get_or (next old.open.items r.level used inner) n shut).room ≡ room_at f (r ∷ before) n) (sym frame)
      (room_step old.frame before old.open.items r used inner h d.room ur ir n));
  free = λ n l. subst (λ (L : List Open). (get_or L n shut).free ≡ is_free (r ∷ before) n) (sym items) (free_step before old.open.items r used inner h d.free uf jf n (subst (λ (L : List Open). n < length L) items l));
  outermost = omega (arith, ap length items, length_next old.open.items r.level used inner h);
  begun = begun;
  closed = closed ∙ ap (λ (b : Bool). closes r || b) d.closed;
}
