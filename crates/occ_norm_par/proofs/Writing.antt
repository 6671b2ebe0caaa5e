-- The bits of the variables that parts write.
use Rattle.std.proofs.Common.{◌≡◌, ℕ, zero, suc, ◌+◌, ◌<◌, ◌≤◌, ◌==◌, ◌&&◌, ◌||◌, ◌++◌, max, Bool, true, false, cond, nat_le, nat_lt, List, [], ◌∷◌, Some, length, get_or, take, ⊎_elim, refl, sym, ap, ◌∙◌, subst, arith}
use Rattle.std.specs.Int.{bit_at}
use Rattle.std.specs.Int.RustNames.{bit_or}
use Rattle.std.specs.List.{list_any}
use Rattle.std.proofs.lemmas.Bool.{and_from, and_left, and_right, cases_Bool, cases_lt, eqb-true, le-leb, lt-leb, lt-ltb, le-ltb, or_from}
use Rattle.std.proofs.lemmas.List.Folds.{list_any-append}
use Rattle.std.proofs.lemmas.List.{get_or_append_left, get_or_push, length-append, length-take-le}
use Rattle.std.proofs.lemmas.Nat.Bits.{bit_at-zero, bit_at_or}
use Rattle.occ_syntax.specs.occ_base.declared.names.Name.{Name}
use Rattle.occ_syntax.specs.occ_base.declared.width.Width.{Width}
use Rattle.occ_syntax.specs.occ_base.Width.{bits_of}
use Rattle.occ_norm_frame.specs.occ_bits.Layout.{IsLayout, entry_of, laid_out, scope_in, state_of}
use Rattle.occ_norm_frame.proofs.from_bits.Laid.{found_within, same_pair}
use Rattle.occ_norm_frame.proofs.from_meaning.Facts.{none_not_some, same_turned}
use Rattle.occ_syntax.specs.declared.proc.Proc.{Proc, Skip}
use Rattle.occ_syntax.specs.declared.scope.Kind.{Kind}
use Rattle.occ_syntax.specs.declared.scope.Kind.TheVariants.{Var, Chan}
use Rattle.occ_syntax.specs.Names.{is_in, written, written_in_some}
use Rattle.occ_syntax.specs.Scopes.{Environment}
use Rattle.occ_syntax.specs.Tree.{Tree, par}
use Rattle.occ_syntax.specs.Types.{types_kept}
use Rattle.occ_syntax.specs.View.{numbers, tree, trees}
use Rattle.occ_norm_frame.proofs.from_weave.Stepping.{all_taken, take_push}
use Rattle.occ_norm_frame.specs.After.{WritesWithin}
use Rattle.occ_norm_frame.specs.Placed.{IsAround, IsFrame}
use Rattle.occ_norm_par.specs.Joined.{WriteEach}
use Rattle.occ_norm_par.specs.Sides.{AllWritten, AreWritten, bits_in}
use Rattle.occ_norm_par.specs.Spans.{covers, is_of}
use Rattle.occ_norm_par.proofs.Assignments.{bits_by_value, covered, value_kept}

abbrev pub digit : Bool → ℕ
digit b = cond b 1 0

either_digit : (a b : Bool) → max (digit a) (digit b) ≡ digit (a || b)
either_digit true true = refl
either_digit true false = refl
either_digit false true = refl
either_digit false false = refl

pub or_digits : (x y k : ℕ) (a b : Bool) → bit_at x k ≡ digit a → bit_at y k ≡ digit b → bit_at (bit_or x y) k ≡ digit (a || b)
or_digits x y k a b h l = bit_at_or x y k ∙ (λ i. max (h i) (l i)) ∙ either_digit a b

-- ---- the bits of some names
pub covers_more : (entries : List (Name × Width × ℕ)) (i : ℕ) (d : Name × Width × ℕ) (xs : List ℕ) (k : ℕ) → i < length entries → covers (take (i + 1) entries) xs k ≡ (covers (take i entries) xs k || (is_of xs k (get_or entries i d) || false))
covers_more entries i d xs k h = ap (λ es. covers es xs k) (take_push i entries d h) ∙ list_any-append (is_of xs k) (take i entries) (get_or entries i d ∷ [])

-- no later variable has a bit below where the later ones begin
covers_later : (a : ℕ) (scope : List (Name × Kind)) (xs : List ℕ) (k : ℕ) → k < a → covers (laid_out a scope) xs k ≡ false
covers_later a [] xs k h = refl
covers_later a ((n, Chan w d) ∷ scope) xs k h = covers_later a scope xs k h
covers_later a ((n, Var w) ∷ scope) xs k h =
    or_from (is_of xs k (n, w, a)) (covers (laid_out (a + bits_of w) scope) xs k)
    (and_right (is_in xs n.0) (nat_le a k && nat_lt k (a + bits_of w)) (and_left (nat_le a k) (nat_lt k (a + bits_of w)) (lt-leb a k h)))
    (covers_later (a + bits_of w) scope xs k (omega (arith, h)))

later_first : (a : ℕ) (scope : List (Name × Kind)) (y : ℕ) (w : Width) (f : ℕ) → entry_of (laid_out a scope) y ≡ Some (w, f) → a ≤ f
later_first a [] y w f e = none_not_some e
later_first a ((n, Chan v d) ∷ scope) y w f e = later_first a scope y w f e
later_first a ((n, Var v) ∷ scope) y w f e = ⊎_elim
    (λ (t : (y == n.0) ≡ true). let g : (v, a) ≡ (w, f) = same_pair (v, a) (w, f) (sym (ap (λ b. cond b (Some (v, a)) (entry_of (laid_out (a + bits_of v) scope) y)) t) ∙ e) in
    let at : a ≡ f = ap (λ (p : Width × ℕ). p.1) g in omega arith)
    (λ (t : (y == n.0) ≡ false). omega (arith, later_first (a + bits_of v) scope y w f (sym (ap (λ b. cond b (Some (v, a)) (entry_of (laid_out (a + bits_of v) scope) y)) t) ∙ e)))
    (cases_Bool (y == n.0))

covers_laid : (a : ℕ) (scope : List (Name × Kind)) (xs : List ℕ) (y : ℕ) (w : Width) (f : ℕ) → entry_of (laid_out a scope) y ≡ Some (w, f) → (k : ℕ) → f ≤ k → k < f + bits_of w → covers (laid_out a scope) xs k ≡ is_in xs y
covers_laid a [] xs y w f e k l h = none_not_some e
covers_laid a ((n, Chan v d) ∷ scope) xs y w f e k l h = covers_laid a scope xs y w f e k l h
covers_laid a ((n, Var v) ∷ scope) xs y w f e k l h = ⊎_elim
    (λ (t : (y == n.0) ≡ true).
    let g : (v, a) ≡ (w, f) = same_pair (v, a) (w, f) (sym (ap (λ b. cond b (Some (v, a)) (entry_of (laid_out (a + bits_of v) scope) y)) t) ∙ e) in
    let at : a ≡ f = ap (λ (p : Width × ℕ). p.1) g in
    let long : bits_of v ≡ bits_of w = ap (λ (p : Width × ℕ). bits_of p.0) g in
    let name : n.0 ≡ y = sym (eqb-true y n.0 t) in
    here (is_in xs n.0) (nat_le a k && nat_lt k (a + bits_of v)) (covers (laid_out (a + bits_of v) scope) xs k)
    (and_from (nat_le a k) (nat_lt k (a + bits_of v)) (le-leb a k (omega arith)) (lt-ltb k (a + bits_of v) (omega arith)))
    (covers_later (a + bits_of v) scope xs k (omega arith)) ∙ ap (is_in xs) name)
    (λ (t : (y == n.0) ≡ false).
    let found : entry_of (laid_out (a + bits_of v) scope) y ≡ Some (w, f) = sym (ap (λ b. cond b (Some (v, a)) (entry_of (laid_out (a + bits_of v) scope) y)) t) ∙ e in
    let low : a + bits_of v ≤ f = later_first (a + bits_of v) scope y w f found in
    ap (λ b. b || covers (laid_out (a + bits_of v) scope) xs k) (and_right (is_in xs n.0) (nat_le a k && nat_lt k (a + bits_of v)) (and_right (nat_le a k) (nat_lt k (a + bits_of v)) (le-ltb k (a + bits_of v) (omega arith))))
    ∙ covers_laid (a + bits_of v) scope xs y w f found k l h)
    (cases_Bool (y == n.0))
  where
    here : (i r c : Bool) → r ≡ true → c ≡ false → ((i && r) || c) ≡ i
    here true r c e z = ap (λ b. b || c) e
    here false r c e z = z

-- a bit of a variable is among those of some names where the variable is
pub covers_variable : (layout : List (Name × Width × ℕ)) → IsLayout layout → (xs : List ℕ) (y : ℕ) (w : Width) (f : ℕ) → entry_of layout y ≡ Some (w, f) → (k : ℕ) → f ≤ k → k < f + bits_of w → covers layout xs k ≡ is_in xs y
covers_variable layout is xs y w f e k l h =
    ap (λ es. covers es xs k) is.laid ∙ covers_laid 0 (scope_in layout) xs y w f (ap (λ es. entry_of es y) (sym is.laid) ∙ e) k l h

pub names_written : (layout entries : List (Name × Width × ℕ)) (p : Tree) (names given : List Name) (bits : ℕ) → IsLayout layout → entries ≡ layout → given ≡ names → ((x : ℕ) → is_in (numbers names) x ≡ written p x)
    → ((k : ℕ) → k < 64 → bit_at bits k ≡ digit (covers entries (numbers given) k)) → AreWritten layout p bits
names_written layout entries p names given bits is same_entries same_names members h = record {
  at = λ x width first found k l u. let within : first + bits_of width ≤ 64 = found_within layout is x width first found in
      h k (omega arith) ∙ ap digit ((λ i. covers (same_entries i) (numbers (same_names i)) k) ∙ covers_variable layout is (numbers names) x width first found k l u ∙ members x);
}

-- ---- of several parts
pub none_written : (layout : List (Name × Width × ℕ)) → AreWritten layout (par (trees [])) 0
none_written layout = record { at = λ x width first found k l u. bit_at-zero k }

some_written_more : (ps : List Proc) (i : ℕ) (d : Proc) (x : ℕ) → i < length ps → written_in_some (trees (take (i + 1) ps)) x ≡ (written_in_some (trees (take i ps)) x || written (tree (get_or ps i d)) x)
some_written_more ps i d x h = ap (λ qs. written_in_some (trees qs) x) (take_push i ps d h) ∙ pushed (take i ps) (get_or ps i d)
  where
    pushed : (qs : List Proc) (p : Proc) → written_in_some (trees (qs ++ p ∷ [])) x ≡ (written_in_some (trees qs) x || written (tree p) x)
    pushed [] p = last (written (tree p) x)
      where
        last : (b : Bool) → (b || false) ≡ b
        last true = refl
        last false = refl
    pushed (q ∷ qs) p = ap (λ b. written (tree q) x || b) (pushed qs p) ∙ grouped (written (tree q) x) (written_in_some (trees qs) x) (written (tree p) x)
      where
        grouped : (a b c : Bool) → (a || (b || c)) ≡ ((a || b) || c)
        grouped true b c = refl
        grouped false b c = refl

pub more_written : (layout : List (Name × Width × ℕ)) (ps : List Proc) (i : ℕ) (d p : Proc) (old bits : ℕ) → i < length ps → p ≡ get_or ps i d → AreWritten layout (par (trees (take i ps))) old → AreWritten layout (tree p) bits
    → AreWritten layout (par (trees (take (i + 1) ps))) (bit_or old bits)
more_written layout ps i d p old bits h e was one = record {
  at = λ x width first found k l u. or_digits old bits k (written_in_some (trees (take i ps)) x) (written (tree p) x) (was.at x width first found k l u) (one.at x width first found k l u)
      ∙ ap digit (ap (λ q. written_in_some (trees (take i ps)) x || written (tree q) x) e ∙ sym (some_written_more ps i d x h));
}

pub written_end : (layout : List (Name × Width × ℕ)) (ps : List Proc) (i bits : ℕ) → length ps ≤ i → AreWritten layout (par (trees (take i ps))) bits → AreWritten layout (par (trees ps)) bits
written_end layout ps i bits h = subst (λ qs. AreWritten layout (par (trees qs)) bits) (all_taken i ps h)

-- the first parts, so many, write the bits that are listed for them
first_written : (layout : List (Name × Width × ℕ)) (writes : List ℕ) (place : ℕ) (ps : List Proc) → WriteEach layout writes place ps → (i : ℕ) → i ≤ length ps → AreWritten layout (par (trees (take i ps))) (bits_in writes place i)
unfolding bits_in
first_written layout writes place ps each zero h = none_written layout
first_written layout writes place ps each (suc i) h =
    let more : suc i ≡ i + 1 = omega arith in
    subst (λ n. AreWritten layout (par (trees (take n ps))) (bit_or (bits_in writes place i) (get_or writes (place + i) 0))) (sym more)
    (more_written layout ps i Skip (get_or ps i Skip) (bits_in writes place i) (get_or writes (place + i) 0) (omega (arith, h)) refl (first_written layout writes place ps each i (omega (arith, h))) (each i (omega (arith, h))))

pub written_in : (layout : List (Name × Width × ℕ)) (writes : List ℕ) (place : ℕ) (ps : List Proc) → WriteEach layout writes place ps → AreWritten layout (par (trees ps)) (bits_in writes place (length ps))
written_in layout writes place ps each = written_end layout ps (length ps) (bits_in writes place (length ps)) (omega arith) (first_written layout writes place ps each (length ps) (omega arith))

pub write_all : (layout : List (Name × Width × ℕ)) (writes : List ℕ) (ps : List Proc) → AllWritten layout ps writes → WriteEach layout writes 0 ps
write_all layout writes ps all i h = let e : i ≡ 0 + i = omega arith in subst (λ n. AreWritten layout (tree (get_or ps i Skip)) (get_or writes n 0)) e (all.each i h)

nothing : (a b : ℕ) → b ≡ 0 → a ≡ max a b
nothing a b e = omega (arith, e)

grouped : (a b c : ℕ) → max (max a b) c ≡ max a (max b c)
grouped a b c = omega arith

-- the bits of parts in a row are those of the first ones and of the others
pub bits_both : (writes : List ℕ) (place k n i : ℕ) → bit_at (bits_in writes place (k + n)) i ≡ max (bit_at (bits_in writes place k) i) (bit_at (bits_in writes (place + k) n) i)
unfolding bits_in
bits_both writes place k zero i =
    let e : k + 0 ≡ k = omega arith in
    ap (λ m. bit_at (bits_in writes place m) i) e ∙ nothing (bit_at (bits_in writes place k) i) (bit_at 0 i) (bit_at-zero i)
bits_both writes place k (suc n) i =
    let e : k + suc n ≡ suc (k + n) = omega arith in
    let f : place + (k + n) ≡ place + k + n = omega arith in
    ap (λ m. bit_at (bits_in writes place m) i) e
    ∙ bit_at_or (bits_in writes place (k + n)) (get_or writes (place + (k + n)) 0) i
    ∙ (λ d. max (bits_both writes place k n i d) (bit_at (get_or writes (f d) 0) i))
    ∙ grouped (bit_at (bits_in writes place k) i) (bit_at (bits_in writes (place + k) n) i) (bit_at (get_or writes (place + k + n) 0) i)
    ∙ ap (max (bit_at (bits_in writes place k) i)) (sym (bit_at_or (bits_in writes (place + k) n) (get_or writes (place + k + n) 0) i))

pub bits_none : (writes : List ℕ) (place : ℕ) → 0 ≡ bits_in writes place 0
unfolding bits_in
bits_none writes place = refl

pub bits_more_in : (writes : List ℕ) (place n : ℕ) → bit_or (bits_in writes place n) (get_or writes (place + n) 0) ≡ bits_in writes place (n + 1)
unfolding bits_in
bits_more_in writes place n = let e : suc n ≡ n + 1 = omega arith in ap (bits_in writes place) e

-- the bits of one more part
pub all_written_more : (layout : List (Name × Width × ℕ)) (ps : List Proc) (i : ℕ) (d p : Proc) (old : List ℕ) (bits : ℕ) → i < length ps → p ≡ get_or ps i d → AllWritten layout (take i ps) old → AreWritten layout (tree p) bits
    → AllWritten layout (take (i + 1) ps) (old ++ bits ∷ [])
all_written_more layout ps i d p old bits h e was one =
    let low : length (take i ps) ≡ i = length-take-le i ps (omega (arith, h)) in
    let count : length old ≡ i = was.count ∙ low in
    subst (λ qs. AllWritten layout qs (old ++ bits ∷ [])) (sym (take_push i ps d h))
    (record {
      count = length-append old (bits ∷ []) ∙ ap (λ n. n + 1) was.count ∙ sym (length-append (take i ps) (get_or ps i d ∷ []));
      each = λ k l. ⊎_elim
          (λ (m : k < i).
          let first : get_or (take i ps ++ get_or ps i d ∷ []) k Skip ≡ get_or (take i ps) k Skip = get_or_append_left (take i ps) (get_or ps i d ∷ []) Skip k (omega (arith, m, low)) in
          let there : get_or (old ++ bits ∷ []) k 0 ≡ get_or old k 0 = get_or_append_left old (bits ∷ []) 0 k (omega (arith, m, count)) in
          subst (λ (q : Proc). AreWritten layout (tree q) (get_or (old ++ bits ∷ []) k 0)) (sym first) (subst (λ (n : ℕ). AreWritten layout (tree (get_or (take i ps) k Skip)) n) (sym there) (was.each k (omega (arith, m, low)))))
          (λ (m : i ≤ k).
          let whole : length (take i ps ++ get_or ps i d ∷ []) ≡ length (take i ps) + 1 = length-append (take i ps) (get_or ps i d ∷ []) in
          let last : get_or (take i ps ++ get_or ps i d ∷ []) k Skip ≡ get_or ps i d = get_or_push (take i ps) (get_or ps i d) Skip k (omega (arith, l, m, low, whole)) in
          let there : get_or (old ++ bits ∷ []) k 0 ≡ bits = get_or_push old bits 0 k (omega (arith, l, m, low, whole, count)) in
          subst (λ (q : Proc). AreWritten layout (tree q) (get_or (old ++ bits ∷ []) k 0)) (e ∙ sym last) (subst (λ (n : ℕ). AreWritten layout (tree p) n) (sym there) one))
          (cases_lt k i);
    })

pub all_written_end : (layout : List (Name × Width × ℕ)) (ps : List Proc) (i : ℕ) (writes : List ℕ) → length ps ≤ i → AllWritten layout (take i ps) writes → AllWritten layout ps writes
all_written_end layout ps i writes h = subst (λ qs. AllWritten layout qs writes) (all_taken i ps h)

pub all_written_none : (layout : List (Name × Width × ℕ)) → AllWritten layout [] []
all_written_none layout = record { count = refl; each = λ i h. absurd (omega (arith, h)) }

-- ---- what isn't written is kept
pub writes_within : (vars : List (Name × Kind)) (layout : List (Name × Width × ℕ)) (bits : ℕ) → IsFrame vars layout bits → (Γ : Environment) → IsAround Γ vars → (p : Tree) → types_kept p Γ ≡ true → (mask : ℕ)
    → AreWritten layout p mask → WritesWithin layout bits mask Γ p
writes_within vars layout bits frame Γ around p typed mask are x y t d k h off =
    let c = covered vars layout bits frame k h in
    let bit : bit_at mask k ≡ digit (written p c.var) = are.at c.var c.width c.first c.found k c.low c.high in
    let kept : written p c.var ≡ false = not_one (written p c.var) (sym bit ∙ off) in
    bits_by_value layout x y c.var c.width c.first c.found (sym (value_kept vars layout bits frame Γ around p typed c.var kept (state_of layout x) t (state_of layout y) d)) k c.low c.high
  where
    not_one : (b : Bool) → digit b ≡ 0 → b ≡ false
    not_one true e = absurd (let f : 1 ≡ 0 = e in omega arith)
    not_one false e = refl

pub names_there : (names : List Name) (n : Name) → list_any (λ (k : Name). k.0 == n.0) names ≡ is_in (numbers names) n.0
names_there [] n = refl
names_there (k ∷ names) n = λ i. same_turned k.0 n.0 i || names_there names n i

-- ---- the bits of one variable
pub entry_off : (xs : List ℕ) (e : Name × Width × ℕ) → is_in xs e.0.0 ≡ false → (k : ℕ) → bit_at 0 k ≡ digit (is_of xs k e)
entry_off xs e h k = bit_at-zero k ∙ sym (ap digit (and_left (is_in xs e.0.0) (nat_le e.2 k && nat_lt k (e.2 + bits_of e.1)) h))

pub entry_on : (xs : List ℕ) (e : Name × Width × ℕ) (bits count : ℕ) → is_in xs e.0.0 ≡ true → count ≡ bits_of e.1 → ((k : ℕ) → k < 64 → bit_at bits k ≡ digit (nat_le e.2 k && nat_lt k (e.2 + count)))
    → (k : ℕ) → k < 64 → bit_at bits k ≡ digit (is_of xs k e)
entry_on xs e bits count h c f k l = f k l ∙ ap (λ n. digit (nat_le e.2 k && nat_lt k (e.2 + n))) c ∙ sym (ap (λ b. digit (b && (nat_le e.2 k && nat_lt k (e.2 + bits_of e.1)))) h)

or_none : (b : Bool) → (b || false) ≡ b
or_none true = refl
or_none false = refl

pub bits_more : (entries : List (Name × Width × ℕ)) (i : ℕ) (d : Name × Width × ℕ) (xs : List ℕ) (old one : ℕ) → i < length entries → ((k : ℕ) → k < 64 → bit_at old k ≡ digit (covers (take i entries) xs k))
    → ((k : ℕ) → k < 64 → bit_at one k ≡ digit (is_of xs k (get_or entries i d))) → (k : ℕ) → k < 64 → bit_at (bit_or old one) k ≡ digit (covers (take (i + 1) entries) xs k)
bits_more entries i d xs old one h f g k l =
    or_digits old one k (covers (take i entries) xs k) (is_of xs k (get_or entries i d)) (f k l) (g k l)
    ∙ ap digit (sym (covers_more entries i d xs k h ∙ ap (λ b. covers (take i entries) xs k || b) (or_none (is_of xs k (get_or entries i d)))))

pub bits_end : (entries : List (Name × Width × ℕ)) (i : ℕ) (xs : List ℕ) (bits : ℕ) → length entries ≤ i → ((k : ℕ) → k < 64 → bit_at bits k ≡ digit (covers (take i entries) xs k))
    → (k : ℕ) → k < 64 → bit_at bits k ≡ digit (covers entries xs k)
bits_end entries i xs bits h f k l = f k l ∙ ap (λ es. digit (covers es xs k)) (all_taken i entries h)
