-- A program is transformed, or expanded, with one answer.
use Rattle.std.proofs.Common.{◌≡◌, ◌++◌, ℕ, List, [], ◌∷◌, map, None, refl, sym, ◌∙◌, ap, subst, arith}
use Rattle.std.specs.Prelude.{◌-◌, codes, slice_get, unwrap_or}
use Rattle.std.specs.List.{flat_map}
use Rattle.std.specs.Option.{option_map}
use Rattle.occ_syntax.specs.occ_base.declared.names.Name.{Name}
use Rattle.occ_run_schedule.specs.occ_behaviour.declared.behaviour.Side.TheVariants.{Second}
use Rattle.occ_engine_written.specs.occ_engine.Moved.{moves_of, number_of, order_of, orders_of}
use Rattle.occ_replay.specs.occ_replay_rules.Expansion.{IsBlocked, IsExpanded, IsNoPar}
use Rattle.occ_replay.specs.occ_replay_rules.Moves.{Move}
use Rattle.occ_replay.specs.occ_replay_rules.Orders.{Follows, Lack, Order as Wanted, Stops}
use Rattle.occ_replay.specs.occ_law.Table.{law_names}
use Rattle.occ_run_schedule.specs.occ_meaning.Context.{part_at}
use Rattle.occ_replay.specs.occ_print.Spelled.{part_text, program_text}
use Rattle.occ_replay.specs.occ_script.declared.fault.ScriptFault.{ScriptFault}
use Rattle.occ_replay.specs.occ_script.declared.script.Order.{Order}
use Rattle.occ_replay.specs.occ_script.Orders.{IsOrders, IsOrdersFault}
use Rattle.occ_replay.specs.occ_script.Shown.{ShownOrder, shown_order}
use Rattle.occ_derive.specs.occ_script_write.declared.writing.Done.{Done}
use Rattle.occ_derive.specs.occ_script_write.Text.{direction_text, line, path_text, script_text, steps_text, text_of_program}
use Rattle.occ_syntax.specs.declared.scope.Kind.{Kind}
use Rattle.occ_syntax.specs.declared.scope.Program.{Program}
use Rattle.occ_syntax.specs.Tree.{Tree}
use Rattle.occ_syntax.specs.View.{tree}
use Rattle.occ_tool_run.specs.declared.answer.Answer.{Answer}
use Rattle.occ_tool_run.specs.declared.answer.Answer.TheVariants.{RefusedOrder, RefusedOrders, RefusedPath, TooLong}
use Rattle.occ_tool_run.specs.declared.reason.Reason.TheVariants.{NoPath, NotPar, NotAccepted}
use Rattle.occ_tool_run.specs.Stored.{seen}
use Rattle.occ_tool_run.specs.Texts.{status_of, text_of}
use Rattle.occ_tool_run.specs.Transforms.{IsExpandedTo, IsScriptOf, IsTransformed, blocked, expanded, faulty_orders, followed_orders, no_par, no_part, reason_of, stopped_orders, too_long_orders}
use Rattle.occ_tool_run.proofs.Once.{AreAlike, alike}
use Rattle.occ_tool_run.proofs.Taken.{AreOne}

abbrev Table : Type 0
Table = List (List ℕ)

-- a text is one list of orders as far as they can be seen, or has one fault; orders have one outcome, and so has an expansion
pub record IsOneOutcome : Type 0 where
  pub one_orders : (text : List ℕ) (old m n : Table) (xs ys : List Order) → IsOrders text old m xs → IsOrders text old n ys
      → (map shown_order xs ≡ map shown_order ys) × (m ≡ n)
  pub one_fault : (text : List ℕ) (old : Table) (e f : ScriptFault) → IsOrdersFault text old e → IsOrdersFault text old f → e ≡ f
  pub not_both : (text : List ℕ) (old m : Table) (xs : List Order) (e : ScriptFault) → IsOrders text old m xs → IsOrdersFault text old e → ⊥
  pub one_following : (S : List (Name × Kind)) (p q r : Tree) (orders : List Wanted) (moves others : List Move) → Follows S p orders moves q
      → Follows S p orders others r → (moves ≡ others) × (q ≡ r)
  pub follow_or_stop : (S : List (Name × Kind)) (p q : Tree) (orders : List Wanted) (moves : List Move) (number : ℕ) (lack : Lack)
      → Follows S p orders moves q → Stops S p orders number lack → ⊥
  pub one_stop : (S : List (Name × Kind)) (p : Tree) (orders : List Wanted) (n m : ℕ) (a b : Lack) → Stops S p orders n a
      → Stops S p orders m b → (n ≡ m) × (a ≡ b)
  pub one_expansion : (S : List (Name × Kind)) (p q r : Tree) (path : List ℕ) (moves others : List Move) → IsExpanded S p path moves q
      → IsExpanded S p path others r → (moves ≡ others) × (q ≡ r)
  pub no_cause : (S : List (Name × Kind)) (p q : Tree) (path : List ℕ) (moves : List Move) → IsExpanded S p path moves q
      → (part_at path p ≡ None → ⊥) × (IsNoPar p path → ⊥) × (IsBlocked S p path → ⊥)
  pub one_cause : (S : List (Name × Kind)) (p : Tree) (path : List ℕ)
      → (part_at path p ≡ None → IsNoPar p path → ⊥) × (part_at path p ≡ None → IsBlocked S p path → ⊥) × (IsNoPar p path → IsBlocked S p path → ⊥)

-- ---- orders as they are seen

abbrev as_wanted : ShownOrder → Wanted
as_wanted s = record { law = option_map number_of s.law; dir = s.dir; path = s.path; part = s.part }

orders_seen : (xs : List Order) → orders_of xs ≡ map as_wanted (map shown_order xs)
orders_seen [] = refl
orders_seen (x ∷ xs) = ap (λ more. order_of x ∷ more) (orders_seen xs)

same_orders : (xs ys : List Order) → map shown_order xs ≡ map shown_order ys → orders_of xs ≡ orders_of ys
same_orders xs ys e = orders_seen xs ∙ ap (map as_wanted) e ∙ sym (orders_seen ys)

-- ---- scripts are texts of moves

abbrev move_text : Table → Move → List ℕ
move_text names move =
    line (codes "STEP " ++ unwrap_or (slice_get law_names (move.law - 1)) [] ++ codes " " ++ direction_text move.dir ++ codes " " ++ path_text move.path)
    ++ part_text names 1 move.part

steps_seen : (names : Table) (steps : List Done) → steps_text names steps ≡ flat_map (move_text names) (moves_of steps)
steps_seen names [] = refl
steps_seen names (s ∷ ss) = ap (λ more. move_text names (record { law = s.law.0; dir = s.dir; path = s.path; part = tree s.part }) ++ more) (steps_seen names ss)

-- programs that are written alike
record AreWrittenAlike (p q : Program) : Type 0 where
  name : p.name ≡ q.name
  params : p.params ≡ q.params
  body : tree p.body ≡ tree q.body

program_alike : (m n : Table) (p q : Program) → m ≡ n → AreWrittenAlike p q → text_of_program m p ≡ text_of_program n q
program_alike m n p q e d = λ i. program_text (e i) (d.name i).0 (d.params i) (d.body i)

steps_alike : (m n : Table) (xs ys : List Done) → m ≡ n → moves_of xs ≡ moves_of ys → steps_text m xs ≡ steps_text n ys
steps_alike m n xs ys e d = steps_seen m xs ∙ (λ i. flat_map (move_text (e i)) (d i)) ∙ sym (steps_seen n ys)

script_alike : (m n : Table) (p q o r : Program) (xs ys : List Done) → m ≡ n → AreWrittenAlike p q → AreWrittenAlike o r
    → moves_of xs ≡ moves_of ys
    → script_text m p xs o ≡ script_text n q ys r
script_alike m n p q o r xs ys e f g h =
    let first = program_alike m n p q e f in
    let between = steps_alike m n xs ys e h in
    let last = program_alike m n o r e g in
    λ i. line (codes "occam-script 2") ++ line (codes "FROM") ++ first i ++ between i ++ line (codes "TO") ++ last i

-- two scripts of the same moves
scripts_alike : (m n : Table) (p q : Program) (xs ys : List Done) (o r : Program) (a b : Answer) → m ≡ n → AreWrittenAlike p q
    → tree o.body ≡ tree r.body → moves_of xs ≡ moves_of ys
    → IsScriptOf m p xs o a → IsScriptOf n q ys r b → AreAlike a b
scripts_alike m n p q xs ys o r a b e f body h s t =
    let g : AreWrittenAlike o r = record { name = s.name ∙ f.name ∙ sym t.name; params = s.params ∙ f.params ∙ sym t.params; body = body } in
    record {
      status = ap status_of s.answer_is ∙ sym (ap status_of t.answer_is);
      text = ap text_of s.answer_is ∙ s.text_is ∙ script_alike m n p q o r xs ys e f g h ∙ sym t.text_is ∙ sym (ap text_of t.answer_is);
    }

-- ---- what is asked of a program is asked of its parameters and of its body as a tree

as_parts : (P : List (Name × Kind) → Tree → Type 0) (p q : Program) → p.params ≡ q.params → tree p.body ≡ tree q.body
    → P q.params (tree q.body) → P p.params (tree p.body)
as_parts P p q params body h =
    let F : List (Name × Kind) → Type 0 = λ ps. P ps (tree p.body) in
    let G : Tree → Type 0 = λ t. P q.params t in
    subst F (sym params) (subst G (sym body) h)

module _ (one : IsOneOutcome) where
  -- ---- orders

  -- the same text is read with the same names
  module _ (bytes : List ℕ) (m n : Table) (p q : Program) (d : AreOne m n (seen p) (seen q)) where
    there : (new : Table) (orders : List Order) → IsOrders bytes n new orders → IsOrders bytes m new orders
    there new orders h = let P : Table → Type 0 = λ old. IsOrders bytes old new orders in subst P (sym d.names) h

    fault_there : (e : ScriptFault) → IsOrdersFault bytes n e → IsOrdersFault bytes m e
    fault_there e h = let P : Table → Type 0 = λ old. IsOrdersFault bytes old e in subst P (sym d.names) h

    follows_there : (xs ys : List Order) (ss : List Done) (o : Program) → map shown_order xs ≡ map shown_order ys
        → Follows q.params (tree q.body) (orders_of ys) (moves_of ss) (tree o.body)
        → Follows p.params (tree p.body) (orders_of xs) (moves_of ss) (tree o.body)
    follows_there xs ys ss o e h =
        let P : List (Name × Kind) → Tree → Type 0 = λ S t. Follows S t (orders_of xs) (moves_of ss) (tree o.body) in
        let Q : List Wanted → Type 0 = λ os. Follows q.params (tree q.body) os (moves_of ss) (tree o.body) in
        as_parts P p q d.params d.body (subst Q (sym (same_orders xs ys e)) h)

    stops_there : (xs ys : List Order) (k : ℕ) (lack : Lack) → map shown_order xs ≡ map shown_order ys
        → Stops q.params (tree q.body) (orders_of ys) k lack
        → Stops p.params (tree p.body) (orders_of xs) k lack
    stops_there xs ys k lack e h =
        let P : List (Name × Kind) → Tree → Type 0 = λ S t. Stops S t (orders_of xs) k lack in
        let Q : List Wanted → Type 0 = λ os. Stops q.params (tree q.body) os k lack in
        as_parts P p q d.params d.body (subst Q (sym (same_orders xs ys e)) h)

    orders_alike : (u v : Table) (xs ys : List Order) → IsOrders bytes m u xs → IsOrders bytes n v ys
        → (map shown_order xs ≡ map shown_order ys) × (u ≡ v)
    orders_alike u v xs ys f g = one.one_orders bytes m u v xs ys f (there v ys g)

    pub transformed_alike : (a b : Answer) → IsTransformed bytes m p a → IsTransformed bytes n q b → AreAlike a b
    transformed_alike a b (too_long_orders l x) (too_long_orders k y) = alike a b (TooLong Second) (TooLong Second) x refl y
    transformed_alike a b (too_long_orders l x) (faulty_orders f k g y) = absurd (omega (arith, l, k))
    transformed_alike a b (too_long_orders l x) (stopped_orders v ys j c k g t y) = absurd (omega (arith, l, k))
    transformed_alike a b (too_long_orders l x) (followed_orders v ys ss o k g t y) = absurd (omega (arith, l, k))
    transformed_alike a b (faulty_orders e l f x) (too_long_orders k y) = absurd (omega (arith, l, k))
    transformed_alike a b (faulty_orders e l f x) (faulty_orders h k g y) =
        alike a b (RefusedOrders e) (RefusedOrders h) x (ap RefusedOrders (one.one_fault bytes m e h f (fault_there h g))) y
    transformed_alike a b (faulty_orders e l f x) (stopped_orders v ys j c k g t y) = absurd (one.not_both bytes m v ys e (there v ys g) f)
    transformed_alike a b (faulty_orders e l f x) (followed_orders v ys ss o k g t y) = absurd (one.not_both bytes m v ys e (there v ys g) f)
    transformed_alike a b (stopped_orders u xs i c l f s x) (too_long_orders k y) = absurd (omega (arith, l, k))
    transformed_alike a b (stopped_orders u xs i c l f s x) (faulty_orders h k g y) = absurd (one.not_both bytes m u xs h f (fault_there h g))
    transformed_alike a b (stopped_orders u xs i c l f s x) (stopped_orders v ys j e k g t y) =
        let h = one.one_stop p.params (tree p.body) (orders_of xs) i j c e s (stops_there xs ys j e (orders_alike u v xs ys f g).0 t) in
        alike a b (RefusedOrder i (reason_of c)) (RefusedOrder j (reason_of e)) x (λ w. RefusedOrder (h.0 w) (reason_of (h.1 w))) y
    transformed_alike a b (stopped_orders u xs i c l f s x) (followed_orders v ys ss o k g t y) =
        absurd (one.follow_or_stop p.params (tree p.body) (tree o.body) (orders_of xs) (moves_of ss) i c (follows_there xs ys ss o (orders_alike u v xs ys f g).0 t) s)
    transformed_alike a b (followed_orders u xs rs r l f s x) (too_long_orders k y) = absurd (omega (arith, l, k))
    transformed_alike a b (followed_orders u xs rs r l f s x) (faulty_orders h k g y) = absurd (one.not_both bytes m u xs h f (fault_there h g))
    transformed_alike a b (followed_orders u xs rs r l f s x) (stopped_orders v ys j e k g t y) =
        absurd (one.follow_or_stop p.params (tree p.body) (tree r.body) (orders_of xs) (moves_of rs) j e s (stops_there xs ys j e (orders_alike u v xs ys f g).0 t))
    transformed_alike a b (followed_orders u xs rs r l f s x) (followed_orders v ys ss o k g t y) =
        let e = orders_alike u v xs ys f g in
        let h = one.one_following p.params (tree p.body) (tree r.body) (tree o.body) (orders_of xs) (moves_of rs) (moves_of ss) s (follows_there xs ys ss o e.0 t) in
        scripts_alike u v p q rs ss r o a b e.1 (record { name = d.name; params = d.params; body = d.body }) h.1 h.0 x y

  -- ---- an expansion

  module _ (path : List ℕ) (m n : Table) (p q : Program) (d : AreOne m n (seen p) (seen q)) where
    none_there : part_at path (tree q.body) ≡ None → part_at path (tree p.body) ≡ None
    none_there h = ap (part_at path) d.body ∙ h

    no_par_there : IsNoPar (tree q.body) path → IsNoPar (tree p.body) path
    no_par_there h = let P : Tree → Type 0 = λ t. IsNoPar t path in subst P (sym d.body) h

    blocked_there : IsBlocked q.params (tree q.body) path → IsBlocked p.params (tree p.body) path
    blocked_there h = as_parts (λ S t. IsBlocked S t path) p q d.params d.body h

    expanded_there : (ss : List Done) (o : Program) → IsExpanded q.params (tree q.body) path (moves_of ss) (tree o.body)
        → IsExpanded p.params (tree p.body) path (moves_of ss) (tree o.body)
    expanded_there ss o h = as_parts (λ S t. IsExpanded S t path (moves_of ss) (tree o.body)) p q d.params d.body h

    pub expanded_alike : (a b : Answer) → IsExpandedTo path m p a → IsExpandedTo path n q b → AreAlike a b
    expanded_alike a b (no_part f x) (no_part g y) = alike a b (RefusedPath NoPath) (RefusedPath NoPath) x refl y
    expanded_alike a b (no_part f x) (no_par g y) = absurd ((one.one_cause p.params (tree p.body) path).0 f (no_par_there g))
    expanded_alike a b (no_part f x) (blocked g y) = absurd ((one.one_cause p.params (tree p.body) path).1 f (blocked_there g))
    expanded_alike a b (no_part f x) (expanded ss o g y) =
        absurd ((one.no_cause p.params (tree p.body) (tree o.body) path (moves_of ss) (expanded_there ss o g)).0 f)
    expanded_alike a b (no_par f x) (no_part g y) = absurd ((one.one_cause p.params (tree p.body) path).0 (none_there g) f)
    expanded_alike a b (no_par f x) (no_par g y) = alike a b (RefusedPath NotPar) (RefusedPath NotPar) x refl y
    expanded_alike a b (no_par f x) (blocked g y) = absurd ((one.one_cause p.params (tree p.body) path).2 f (blocked_there g))
    expanded_alike a b (no_par f x) (expanded ss o g y) =
        absurd ((one.no_cause p.params (tree p.body) (tree o.body) path (moves_of ss) (expanded_there ss o g)).1 f)
    expanded_alike a b (blocked f x) (no_part g y) = absurd ((one.one_cause p.params (tree p.body) path).1 (none_there g) f)
    expanded_alike a b (blocked f x) (no_par g y) = absurd ((one.one_cause p.params (tree p.body) path).2 (no_par_there g) f)
    expanded_alike a b (blocked f x) (blocked g y) = alike a b (RefusedPath NotAccepted) (RefusedPath NotAccepted) x refl y
    expanded_alike a b (blocked f x) (expanded ss o g y) =
        absurd ((one.no_cause p.params (tree p.body) (tree o.body) path (moves_of ss) (expanded_there ss o g)).2 f)
    expanded_alike a b (expanded rs r f x) (no_part g y) =
        absurd ((one.no_cause p.params (tree p.body) (tree r.body) path (moves_of rs) f).0 (none_there g))
    expanded_alike a b (expanded rs r f x) (no_par g y) =
        absurd ((one.no_cause p.params (tree p.body) (tree r.body) path (moves_of rs) f).1 (no_par_there g))
    expanded_alike a b (expanded rs r f x) (blocked g y) =
        absurd ((one.no_cause p.params (tree p.body) (tree r.body) path (moves_of rs) f).2 (blocked_there g))
    expanded_alike a b (expanded rs r f x) (expanded ss o g y) =
        let h = one.one_expansion p.params (tree p.body) (tree r.body) (tree o.body) path (moves_of rs) (moves_of ss) f (expanded_there ss o g) in
        scripts_alike m n p q rs ss r o a b d.names (record { name = d.name; params = d.params; body = d.body }) h.1 h.0 x y
