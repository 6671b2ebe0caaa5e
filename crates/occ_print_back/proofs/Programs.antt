-- Whole programs: the header and the closing line round the body.
use Rattle.std.proofs.Common.{◌≡◌, ℕ, ◌<◌, ◌≤◌, ◌+◌, Bool, true, false, not, ◌&&◌, ◌||◌, eqb, leb, List, [], ◌∷◌, ◌++◌, length, map, Option, None, Some, refl, ap, sym, ◌∙◌, arith, inl}
use Rattle.std.specs.Prelude.{if◌then◌else◌, is_none}
use Rattle.std.specs.List.{AllByRecursion, list_any}
use Rattle.std.proofs.lemmas.Bool.{and_parts, and_from, ne_eqb, eqb-true, leb-true}
use Rattle.std.proofs.lemmas.List.{append-nil}
use Rattle.occ_print.specs.occ_base.declared.event.Dir.TheVariants as dir
use Rattle.occ_print.specs.occ_base.declared.names.Name.{Name}
use Rattle.occ_print.specs.occ_syntax.declared.scope.Kind.{Kind}
use Rattle.occ_print.specs.occ_syntax.declared.scope.Kind.TheVariants as kind
use Rattle.occ_print.specs.occ_syntax.Scopes.{Environment, environment, with_name}
use Rattle.occ_print.specs.occ_syntax.Tree.{Tree}
use Rattle.occ_print.specs.occ_syntax.Types.{is_width, can_declare, width_of_kind, scope_kept}
use Rattle.occ_print.specs.occ_lex.declared.symbol.Keyword.TheVariants as word
use Rattle.occ_print.specs.occ_lex.declared.symbol.Sign.TheVariants as sign
use Rattle.occ_print.specs.occ_lex.declared.symbol.Symbol.{Symbol}
use Rattle.occ_print.specs.occ_lex.declared.symbol.Symbol.TheVariants as symbol
use Rattle.occ_print.specs.occ_parse_forms.Lines.{list_words, HasCount, IsMarked, tail_words, param_front, AreParams, IsHeader}
use Rattle.occ_print.specs.occ_parse_forms.Shape as line
use Rattle.occ_print.specs.occ_parse_forms.Written.{place_words, item_words}
use Rattle.occ_parse.specs.occ_parse_rules.Forest.{Laid, no_line, lines_at}
use Rattle.occ_parse.specs.occ_parse_rules.Places.{Place, Sorts, declared_in, entry_of, param_entries}
use Rattle.occ_parse.specs.occ_parse_rules.Unrolled.{Numbers, params_named, slot_process, first_tree}
use Rattle.occ_parse.specs.occ_parse_layout.declared.placed.Frame.TheVariants as frame
use Rattle.occ_parse.specs.occ_parse_layout.Layout.{is_close, closes, has_child, has_close, kind_of, is_good, least_bad}
use Rattle.occ_print.specs.Symbols.{separated, named_symbols, header_symbols}
use Rattle.occ_print.specs.Lines.{TextLine, part_lines, program_lines}
use Rattle.occ_print.specs.Spelled.{program_text}
use Rattle.occ_print_back.proofs.Rows.{lines_read}
use Rattle.occ_print.proofs.Lists.{all-append}
use Rattle.occ_print_back.specs.Said.{item_of, index_of, declared_at, declared_of}
use Rattle.occ_print_back.specs.Forest.{height}
use Rattle.occ_print_back.specs.Scoped.{IsNumbered, IsScope, sort_in}
use Rattle.occ_print_back.specs.Read.{symbols_read, ReadsAs}
use Rattle.occ_print_back.specs.Placed.{IsSayable, AreSayable, IsBegun, LinesAreSayable}
use Rattle.occ_print_back.specs.Formed.{AreFormed}
use Rattle.occ_print_back.specs.Program.{param_said, params_said, header_scope, body_forest, program_forest, IsPrintable}
use Rattle.occ_print_back.proofs.Phrases.{read-append, separated_read}
use Rattle.occ_print_back.proofs.Forms.{part_height, formed-append, alone}
use Rattle.occ_print_back.proofs.Standing.{scope_more, named_is, part_back}
use Rattle.occ_print_back.proofs.Saying.{named_sayable, separated_sayable, part_sayable}
use Rattle.occ_print_back.proofs.Laying.{pushed, good-append, none_bad, has_child_part, one_slot, part_good, lines_above}

-- ---- the header's form

abbrev group_of : (ℕ → Place) → Name × Kind → List Symbol
group_of P p = param_front (param_said P p) ++ tail_words (param_said P p)

group_at : (y : ℕ) (j : Option ℕ) (k : Kind) (P : ℕ → Place) (x : ℕ) → item_of (P x) ≡ item_of (record { name = y; element = j })
    → symbols_read P (named_symbols x k) ≡ param_front (record { declared = declared_at y j; kind = k }) ++ tail_words (record { declared = declared_at y j; kind = k })
group_at y None (kind.Var w) P x e = ap (λ i. symbol.Keyword (word.Width w) ∷ (item_words i ++ [])) e
group_at y None (kind.Chan w None) P x e = ap (λ i. symbol.Keyword word.Chan ∷ symbol.Keyword word.Of ∷ symbol.Keyword (word.Width w) ∷ (item_words i ++ [])) e
group_at y None (kind.Chan w (Some dir.Input)) P x e =
    ap (λ i. symbol.Keyword word.Chan ∷ symbol.Keyword word.Of ∷ symbol.Keyword (word.Width w) ∷ (item_words i ++ symbol.Sign sign.Query ∷ [])) e
group_at y None (kind.Chan w (Some dir.Output)) P x e =
    ap (λ i. symbol.Keyword word.Chan ∷ symbol.Keyword word.Of ∷ symbol.Keyword (word.Width w) ∷ (item_words i ++ symbol.Sign sign.Bang ∷ [])) e
group_at y (Some j) (kind.Var w) P x e = ap (λ i. symbol.Keyword (word.Width w) ∷ (item_words i ++ [])) e
group_at y (Some j) (kind.Chan w None) P x e = ap (λ i. symbol.Keyword word.Chan ∷ symbol.Keyword word.Of ∷ symbol.Keyword (word.Width w) ∷ (item_words i ++ [])) e
group_at y (Some j) (kind.Chan w (Some dir.Input)) P x e =
    ap (λ i. symbol.Keyword word.Chan ∷ symbol.Keyword word.Of ∷ symbol.Keyword (word.Width w) ∷ (item_words i ++ symbol.Sign sign.Query ∷ [])) e
group_at y (Some j) (kind.Chan w (Some dir.Output)) P x e =
    ap (λ i. symbol.Keyword word.Chan ∷ symbol.Keyword word.Of ∷ symbol.Keyword (word.Width w) ∷ (item_words i ++ symbol.Sign sign.Bang ∷ [])) e

group_read : (P : ℕ → Place) (p : Name × Kind) → symbols_read P (named_symbols p.0.0 p.1) ≡ group_of P p
group_read P p = group_at (P p.0.0).name (P p.0.0).element p.1 P p.0.0 refl

has_count : (y : ℕ) (j : Option ℕ) → HasCount (declared_at y j)
has_count y None = tt
has_count y (Some j) = tt

are_params : (P : ℕ → Place) (before : Option (List Symbol)) (ps : List (Name × Kind)) → AllByRecursion (λ (p : Name × Kind). IsMarked p.1) ps
    → AreParams before (map (group_of P) ps) (params_said P ps)
are_params P before [] h = tt
are_params P before (p ∷ ps) h = ((has_count (P p.0.0).name (P p.0.0).element, h.0, inl refl), are_params P (Some (param_front (param_said P p))) ps h.1)

groups_are : (P : ℕ → Place) (ps : List (Name × Kind)) → list_words (λ (g : List Symbol). g) (map (group_of P) ps) ≡ symbols_read P (separated (λ (p : Name × Kind). named_symbols p.0.0 p.1) ps)
groups_are P ps = sym (separated_read P (λ (p : Name × Kind). named_symbols p.0.0 p.1) (λ (g : List Symbol). g) (group_of P) (group_read P) ps)

header_form : (P : ℕ → Place) (name : ℕ) (ps : List (Name × Kind)) → (P name).element ≡ None → AllByRecursion (λ (p : Name × Kind). IsMarked p.1) ps
    → IsHeader (symbols_read P (header_symbols name ps)) (record { 0 = (P name).name }) (params_said P ps)
header_form P name ps e h =
    let groups = separated (λ (p : Name × Kind). named_symbols p.0.0 p.1) ps in (
      map (group_of P) ps,
      are_params P None ps h,
      ap (λ k. symbol.Keyword word.Proc ∷ ((symbol.Name (record { 0 = (P name).name }) ∷ place_words (index_of k)) ++ symbol.Sign sign.Open ∷ symbols_read P (groups ++ symbol.Sign sign.Close ∷ []))) e
          ∙ ap (λ t. symbol.Keyword word.Proc ∷ symbol.Name (record { 0 = (P name).name }) ∷ symbol.Sign sign.Open ∷ t)
          (read-append P groups (symbol.Sign sign.Close ∷ []) ∙ ap (λ t. t ++ symbol.Sign sign.Close ∷ []) (sym (groups_are P ps))),
    )

-- ---- the scope below the header

abbrev or_kind : Option Kind → Option Kind → Option Kind
or_kind (Some k) other = Some k
or_kind None other = other

or_none : (k : Option Kind) → or_kind k None ≡ k
or_none None = refl
or_none (Some k) = refl

none_is : (o : Option Kind) → is_none o ≡ true → o ≡ None
none_is None h = refl
none_is (Some k) h = absurd (cc)

over_at : (o e : Option Kind) (k : Kind) (b : Bool) → (b ≡ true → o ≡ None) → or_kind o (if b then Some k else e) ≡ or_kind (if b then Some k else o) e
over_at o e k true h = ap (λ t. or_kind t (Some k)) (h refl)
over_at o e k false h = refl

module _ (count : ℕ) (P : ℕ → Place) (N : Numbers) (numbered : IsNumbered count P N) where
  scope_params : (ps : List (Name × Kind)) (E : Environment) (Γ : Sorts) → scope_kept ps ≡ true → AllByRecursion (λ (p : Name × Kind). p.0.0 < count) ps → IsScope count P E Γ
      → IsScope count P (λ x. or_kind (environment ps x) (E x)) (declared_in Γ (param_entries (params_said P ps)))
  scope_params [] E Γ t h s = s
  scope_params (q ∷ qs) E Γ t h s =
      let parts = and_parts (can_declare (environment qs) q.0.0 (width_of_kind q.1)) (scope_kept qs) t in
      let fresh : environment qs q.0.0 ≡ None = none_is _ (and_parts (is_none (environment qs q.0.0)) _ parts.0).0 in
      λ x l. scope_params qs (with_name E q.0.0 q.1) (entry_of q.1 (declared_of (P q.0.0)) ∷ Γ) parts.1 h.1 (scope_more count P N numbered E Γ q.0.0 q.1 h.0 s) x l
      ∙ ap sort_in (over_at (environment qs x) (E x) q.1 (eqb x q.0.0) (λ b. ap (environment qs) (eqb-true x q.0.0 b) ∙ fresh))

  pub header_scoped : (ps : List (Name × Kind)) → scope_kept ps ≡ true → AllByRecursion (λ (p : Name × Kind). p.0.0 < count) ps → IsScope count P (environment ps) (header_scope P ps)
  header_scoped ps t h = λ x l. scope_params ps (λ y. None) [] t h (λ y k. refl) x l ∙ ap sort_in (or_none (environment ps x))

  pub params_back : (ps : List (Name × Kind)) → AllByRecursion (λ (p : Name × Kind). p.0.0 < count) ps → params_named N (params_said P ps) ≡ ps
  params_back [] h = refl
  params_back (p ∷ ps) h =
      ap (λ t. t ++ params_named N (params_said P ps)) (named_is count P N numbered p.0.0 p.1 (P p.0.0).name (P p.0.0).element (numbered p.0.0 h.0))
      ∙ ap (λ t. p ∷ t) (params_back ps h.1)

-- ---- the whole

all_params : (count : ℕ) (ps : List (Name × Kind)) → AllByRecursion (λ (p : Name × Kind). p.0.0 < count) ps → scope_kept ps ≡ true
    → AllByRecursion (λ (p : Name × Kind). (p.0.0 < count) × (is_width (width_of_kind p.1) ≡ true)) ps
all_params count [] h t = tt
all_params count (p ∷ ps) h t =
    let parts = and_parts (can_declare (environment ps) p.0.0 (width_of_kind p.1)) (scope_kept ps) t in
    ((h.0, (and_parts _ (is_width (width_of_kind p.1)) parts.0).1), all_params count ps h.1 parts.1)

pub program_sayable : (names : List (List ℕ)) (P : ℕ → Place) (name : ℕ) (ps : List (Name × Kind)) (body : Tree) → IsPrintable names P name ps body
    → LinesAreSayable (length names) (program_lines name ps body)
program_sayable names P name ps body h =
    let count = length names in
    let spell = λ (p : Name × Kind). named_symbols p.0.0 p.1 in
    let params : AreSayable count (separated spell ps) = separated_sayable count spell (λ (p : Name × Kind). (p.0.0 < count) × (is_width (width_of_kind p.1) ≡ true))
    (λ p k. named_sayable count p.0.0 p.1 k.0 k.1) ps (all_params count ps h.known.params_are h.scope) in (
      (tt, (tt, (h.known.name_is, (tt, all-append (IsSayable count) (separated spell ps) (symbol.Sign sign.Close ∷ []) params (tt, tt))))),
      all-append (λ (l : TextLine). IsBegun l.symbols × AreSayable count l.symbols) (part_lines 1 body) (record { level = 0; symbols = symbol.Sign sign.Colon ∷ [] } ∷ [])
          (part_sayable count (environment ps) 1 body h.known.body_is h.types) ((tt, (tt, tt)), tt),
    )

pub program_formed : (names : List (List ℕ)) (P : ℕ → Place) (N : Numbers) (n name : ℕ) (ps : List (Name × Kind)) (body : Tree) → IsNumbered (length names) P N
    → IsPrintable names P name ps body → AreFormed P n (program_lines name ps body) (lines_at 0 (program_forest P n name ps body))
program_formed names P N n name ps body numbered h = (
  refl,
  refl,
  header_form P name ps h.plain h.marked,
  formed-append P (n + 1) (n + 1 + height body) (part_lines 1 body) (record { level = 0; symbols = symbol.Sign sign.Colon ∷ [] } ∷ []) (lines_at 1 (body_forest P n body))
      (record { number = n + 1 + height body; level = 0; shape = line.close } ∷ [])
      (omega (arith, part_height 1 body)) (alone (length names) P N numbered (environment ps) 1 (n + 1) body h.known.body_is h.types) (refl, refl, refl, tt),
)

-- ---- the layout of the whole

or-right : (a b : Bool) → b ≡ true → (a || b) ≡ true
or-right true b h = refl
or-right false b h = h

not_closing : (r : Laid) → 1 ≤ r.level → closes r ≡ false
not_closing r h = ap (λ b. b && is_close (kind_of r.shape)) (ne_eqb r.level 0 (λ e. omega (arith, h, e)))

pushed_none : (rows before : List Laid) → AllByRecursion (λ (r : Laid). 1 ≤ r.level) rows → list_any closes before ≡ false → list_any closes (pushed rows before) ≡ false
pushed_none [] before h k = k
pushed_none (r ∷ rows) before h k = pushed_none rows (r ∷ before) h.1 (ap (λ b. b || list_any closes before) (not_closing r h.0) ∙ k)

some_left : (rows : List Laid) (q : Laid) (before : List Laid) → (first : Laid) × (others : List Laid) × (pushed rows (q ∷ before) ≡ first ∷ others)
some_left [] q before = (q, before, refl)
some_left (r ∷ rows) q before = some_left rows r (q ∷ before)

any-last : (rows : List Laid) (q : Laid) → closes q ≡ true → list_any closes (rows ++ q ∷ []) ≡ true
any-last [] q h = ap (λ b. b || false) h
any-last (r ∷ rows) q h = or-right (closes r) _ (any-last rows q h)

levels_from : (rows : List Laid) → AllByRecursion (λ (r : Laid). leb 1 r.level ≡ true) rows → AllByRecursion (λ (r : Laid). 1 ≤ r.level) rows
levels_from [] h = tt
levels_from (r ∷ rows) h = (leb-true 1 r.level h.0, levels_from rows h.1)

close_good_at : (before after : List Laid) (n : ℕ) (first : Laid) (others : List Laid) → before ≡ first ∷ others → list_any closes before ≡ false
    → is_good frame.Plain false before (record { number = n; level = 0; shape = line.close }) after ≡ true
close_good_at before after n first others e h =
    ap (λ b. is_good frame.Plain false b (record { number = n; level = 0; shape = line.close }) after) e
    ∙ ap (λ b. not b && true) (sym (ap (list_any closes) e) ∙ h)

pub program_good : (P : ℕ → Place) (n name : ℕ) (ps : List (Name × Kind)) (body : Tree) → least_bad frame.Plain false (lines_at 0 (program_forest P n name ps body)) ≡ None
program_good P n name ps body =
    let head : Laid = record { number = n; level = 0; shape = line.header (record { 0 = (P name).name }) (params_said P ps) } in
    let last : Laid = record { number = n + 1 + height body; level = 0; shape = line.close } in
    let rows = lines_at 1 (body_forest P n body) in
    let levels = levels_from rows (lines_above 1 1 (body_forest P n body) (omega arith)) in
    let some = some_left rows head [] in
    let closed : is_good frame.Plain false (pushed rows (head ∷ [])) last [] ≡ true = close_good_at (pushed rows (head ∷ [])) [] (n + 1 + height body) some.0 some.1 some.2 (pushed_none rows (head ∷ []) levels refl) in
    let served : (has_child false 0 (rows ++ last ∷ []) && has_close false (rows ++ last ∷ [])) ≡ true = and_from (has_child false 0 (rows ++ last ∷ [])) _ (has_child_part P 0 (n + 1) body (last ∷ [])) (any-last rows last refl) in
    let opened : is_good frame.Plain false [] head ((rows ++ last ∷ []) ++ []) ≡ true = ap (λ t. is_good frame.Plain false [] head t) (append-nil (rows ++ last ∷ [])) ∙ served in
    none_bad [] (head ∷ (rows ++ last ∷ [])) (opened, good-append (head ∷ []) rows (last ∷ []) [] (part_good P (head ∷ []) 1 (n + 1) body (last ∷ []) refl (one_slot refl refl)) (closed, tt))

pub program_read : (names : List (List ℕ)) (P : ℕ → Place) (name : ℕ) (ps : List (Name × Kind)) (body : Tree) → IsPrintable names P name ps body
    → ReadsAs (program_text names name ps body) names P 1 (program_lines name ps body)
program_read names P name ps body h = lines_read names P h.table (program_lines name ps body) (program_sayable names P name ps body h)

pub program_back : (names : List (List ℕ)) (P : ℕ → Place) (N : Numbers) (n name : ℕ) (ps : List (Name × Kind)) (body : Tree) → IsNumbered (length names) P N
    → IsPrintable names P name ps body → slot_process N (header_scope P ps) (body_forest P n body) ≡ body
program_back names P N n name ps body numbered h =
    let scope = header_scoped (length names) P N numbered ps h.scope h.known.params_are in
    ap first_tree (part_back (length names) P N numbered (environment ps) (header_scope P ps) scope (λ i. 0) (n + 1) body no_line (header_scope P ps) [] h.known.body_is h.types)
