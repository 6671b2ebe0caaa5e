-- The branches of events as they are made of offers: outputs one by one, and the inputs from a channel together.
use Rattle.std.proofs.Common.{◌≡◌, ℕ, zero, suc, ◌+◌, ◌^◌, ◌<◌, true, false, ◌&&◌, if◌then◌else◌, List, [], ◌∷◌, ◌++◌, length, map, filter, get_or, Option, Some, refl, sym, ap, ◌∙◌, subst, inl, inr, ◌⊎◌, arith}
use Rattle.std.proofs.lemmas.Bool.{eq-eqb}
use Rattle.occ_target.specs.occ_base.declared.event.Dir.TheVariants.{Input, Output}
use Rattle.occ_target.specs.occ_base.declared.event.Event.{Event}
use Rattle.occ_target.specs.occ_base.declared.names.Name.{Name}
use Rattle.occ_target.specs.occ_base.Width.{bits_of}
use Rattle.occ_target.specs.occ_syntax.Tree.{Tree, Waiting, and_case, input, output, select}
use Rattle.occ_target.specs.occ_nform_table.Lists.{In}
use Rattle.occ_target.specs.Rows.{Frame, behind, choices, event_branches, is_input, is_name, is_on, part_at, value_choice, value_choices, variable_of, waits_for, width_in}
use Rattle.occ_target.specs.States.{constant, is_at}
use Rattle.occ_target_laws.specs.Shapes.{event, numbered}
use Rattle.occ_target_laws.proofs.Lists.{in_either, in_left, in_right}
use Rattle.occ_target_laws.proofs.Following.{two_ways}

-- the offers of the inputs from a channel, from a value on
abbrev pub inputs_of : ℕ → ℕ → List ℕ → List (Event × ℕ)
inputs_of c v [] = []
inputs_of c v (n ∷ rows) = (event c Input v, n) ∷ inputs_of c (v + 1) rows

module _ (f : Frame) where
  abbrev pub values_of : ℕ → ℕ
  values_of c = 2 ^ bits_of (width_in f.params c)

  abbrev pub variable_at : ℕ → ℕ
  variable_at c = variable_of f.inputs (width_in f.params c)

  abbrev pub sent_branch : Event × ℕ → Waiting × Tree
  sent_branch o = (output o.0.chan.0 (constant (width_in f.params o.0.chan.0) o.0.value), part_at f.parts o.1)

  abbrev pub received_branch : ℕ → List ℕ → Waiting × Tree
  received_branch c rows = (input c (variable_at c), select (numbered (is_at (variable_at c) (width_in f.params c)) 0 (map (part_at f.parts) rows)))

pub data Groups (f : Frame) : List (Event × ℕ) → List (Waiting × Tree) → Type 0 where
  no_group : Groups f [] []
  a_sent : (o : Event × ℕ) (offers : List (Event × ℕ)) (bs : List (Waiting × Tree)) → o.0.dir ≡ Output → Groups f offers bs → Groups f (o ∷ offers) (sent_branch f o ∷ bs)
  a_received : (c n : ℕ) (rows : List ℕ) (offers : List (Event × ℕ)) (bs : List (Waiting × Tree)) → length (n ∷ rows) ≡ values_of f c → Groups f offers bs
      → Groups f (inputs_of c 0 (n ∷ rows) ++ offers) (received_branch f c (n ∷ rows) ∷ bs)

-- ---- the choices of the inputs from a channel

module _ (f : Frame) (c : ℕ) where
  same_choices : (v : ℕ) (rows : List ℕ)
      → choices (map (value_choice f c) (inputs_of c v rows)) ≡ numbered (is_at (variable_at f c) (width_in f.params c)) v (map (part_at f.parts) rows)
  same_choices v [] = refl
  same_choices v (n ∷ rows) = ap (and_case (is_at (variable_at f c) (width_in f.params c) v) (part_at f.parts n)) (same_choices (v + 1) rows)

  kept_on : (x : Event × ℕ) (offers : List (Event × ℕ)) → is_on c x ≡ true → filter (is_on c) (x ∷ offers) ≡ x ∷ filter (is_on c) offers
  kept_on x offers e = ap (λ b. if b then x ∷ filter (is_on c) offers else filter (is_on c) offers) e

  left_off : (x : Event × ℕ) (offers : List (Event × ℕ)) → is_on c x ≡ false → filter (is_on c) (x ∷ offers) ≡ filter (is_on c) offers
  left_off x offers e = ap (λ b. if b then x ∷ filter (is_on c) offers else filter (is_on c) offers) e

  off_all : (offers : List (Event × ℕ)) → ((o : Event × ℕ) → In o offers → is_on c o ≡ false) → filter (is_on c) offers ≡ []
  off_all [] h = refl
  off_all (o ∷ offers) h = left_off o offers (h o (inl refl)) ∙ off_all offers (λ x i. h x (inr i))

  on_channel : (v : ℕ) (rows : List ℕ) (offers : List (Event × ℕ)) → ((o : Event × ℕ) → In o offers → is_on c o ≡ false) → filter (is_on c) (inputs_of c v rows ++ offers) ≡ inputs_of c v rows
  on_channel v [] offers h = off_all offers h
  on_channel v (n ∷ rows) offers h =
      let rest = on_channel (v + 1) rows offers h in
      kept_on (event c Input v, n) (inputs_of c (v + 1) rows ++ offers) (eq-eqb c c refl) ∙ (λ i. (event c Input v, n) ∷ rest i)

  -- behind the first, the other inputs from the channel make no branch
  skipped : (v : ℕ) (rows : List ℕ) (offers : List (Event × ℕ)) (name : Name) → name.0 ≡ c
      → event_branches f (Some name) (inputs_of c v rows ++ offers) ≡ event_branches f (Some (record { 0 = c })) offers
  unfolding event_branches
  skipped v [] offers name e = λ i. event_branches f (Some (record { 0 = e i })) offers
  skipped v (n ∷ rows) offers name e =
      ap (λ b. (if b then [] else (waits_for f Input c v, behind f Input c n ((event c Input v, n) ∷ inputs_of c (v + 1) rows ++ offers)) ∷ [])
      ++ event_branches f (Some (record { 0 = c })) (inputs_of c (v + 1) rows ++ offers)) (eq-eqb name.0 c e)
      ∙ skipped (v + 1) rows offers (record { 0 = c }) refl

  pub received_first : (n : ℕ) (rows : List ℕ) (offers : List (Event × ℕ)) (before : Option Name) → is_name c before ≡ false → ((o : Event × ℕ) → In o offers → is_on c o ≡ false)
      → event_branches f before (inputs_of c 0 (n ∷ rows) ++ offers) ≡ received_branch f c (n ∷ rows) ∷ event_branches f (Some (record { 0 = c })) offers
  unfolding event_branches
  received_first n rows offers before new apart =
      let rest = skipped (0 + 1) rows offers (record { 0 = c }) refl in
      let parts : choices (value_choices f c (inputs_of c 0 (n ∷ rows) ++ offers)) ≡ numbered (is_at (variable_at f c) (width_in f.params c)) 0 (map (part_at f.parts) (n ∷ rows)) =
      ap (λ xs. choices (map (value_choice f c) xs)) (on_channel 0 (n ∷ rows) offers apart) ∙ same_choices 0 (n ∷ rows) in
      ap (λ b. (if b then [] else (waits_for f Input c 0, behind f Input c n (inputs_of c 0 (n ∷ rows) ++ offers)) ∷ [])
      ++ event_branches f (Some (record { 0 = c })) (inputs_of c (0 + 1) rows ++ offers)) new
      ∙ (λ i. (input c (variable_at f c), select (parts i)) ∷ rest i)

pub sent_first : (f : Frame) (o : Event × ℕ) (offers : List (Event × ℕ)) (before : Option Name) → o.0.dir ≡ Output
    → event_branches f before (o ∷ offers) ≡ sent_branch f o ∷ event_branches f (Some o.0.chan) offers
unfolding event_branches
sent_first f o offers before dir =
    ap (λ b. (if b then [] else (waits_for f o.0.dir o.0.chan.0 o.0.value, behind f o.0.dir o.0.chan.0 o.1 (o ∷ offers)) ∷ []) ++ event_branches f (Some o.0.chan) offers)
    (ap (λ d. is_input d && is_name o.0.chan.0 before) dir)
    ∙ (λ i. (waits_for f (dir i) o.0.chan.0 o.0.value, behind f (dir i) o.0.chan.0 o.1 (o ∷ offers)) ∷ event_branches f (Some o.0.chan) offers)

-- ---- what is in groups

-- the offers from which a branch comes
abbrev pub Source : Frame → List (Event × ℕ) → Waiting × Tree → Type 0
Source f offers b = ((o : Event × ℕ) × In o offers × (o.0.dir ≡ Output) × (b ≡ sent_branch f o))
    ⊎ ((c : ℕ) × (rows : List ℕ) × (length rows ≡ values_of f c) × ((v : ℕ) → v < length rows → In (event c Input v, get_or rows v 0) offers) × (b ≡ received_branch f c rows))

pub input_in : (c v : ℕ) (rows : List ℕ) (j : ℕ) → j < length rows → In (event c Input (v + j), get_or rows j 0) (inputs_of c v rows)
input_in c v [] j l = absurd (omega (arith, l))
input_in c v (n ∷ rows) zero l = inl (λ i. (event c Input (sums i), n))
  where
    sums : v + 0 ≡ v
    sums = omega arith
input_in c v (n ∷ rows) (suc j) l = inr (subst (λ m. In (event c Input m, get_or rows j 0) (inputs_of c (v + 1) rows)) (omega arith) (input_in c (v + 1) rows j (omega (arith, l))))

pub in_inputs : (c v : ℕ) (rows : List ℕ) (o : Event × ℕ) → In o (inputs_of c v rows) → (j : ℕ) × (j < length rows) × (o ≡ (event c Input (v + j), get_or rows j 0))
in_inputs c v [] o i = absurd i
in_inputs c v (n ∷ rows) o (inl e) = (0, omega arith, e ∙ (λ i. (event c Input (sums i), n)))
  where
    sums : v ≡ v + 0
    sums = omega arith
in_inputs c v (n ∷ rows) o (inr i) =
    let found = in_inputs c (v + 1) rows o i in
    let sums : v + 1 + found.0 ≡ v + suc found.0 = omega arith in
    (suc found.0, omega (arith, found.1), found.2 ∙ (λ i. (event c Input (sums i), get_or rows found.0 0)))

more_source : (f : Frame) (offers more : List (Event × ℕ)) (b : Waiting × Tree) → ((o : Event × ℕ) → In o offers → In o more) → Source f offers b → Source f more b
more_source f offers more b sub (inl k) = inl (k.0, sub k.0 k.1, k.2, k.3)
more_source f offers more b sub (inr k) = inr (k.0, k.1, k.2, λ v l. sub (event k.0 Input v, get_or k.1 v 0) (k.3 v l), k.4)

pub source : (f : Frame) (offers : List (Event × ℕ)) (bs : List (Waiting × Tree)) → Groups f offers bs → (b : Waiting × Tree) → In b bs → Source f offers b
source f offers bs no_group b i = absurd i
source f offers bs (a_sent o others cs dir g) b (inl e) = inl (o, inl refl, dir, e)
source f offers bs (a_sent o others cs dir g) b (inr i) = more_source f others (o ∷ others) b (λ x j. inr j) (source f others cs g b i)
source f offers bs (a_received c n rows others cs count g) b (inl e) =
    inr (
      c,
      n ∷ rows,
      count,
      λ v l. in_left (inputs_of c 0 (n ∷ rows)) others (event c Input v, get_or (n ∷ rows) v 0)
          (subst (λ m. In (event c Input m, get_or (n ∷ rows) v 0) (inputs_of c 0 (n ∷ rows))) (omega arith) (input_in c 0 (n ∷ rows) v l)),
      e,
    )
source f offers bs (a_received c n rows others cs count g) b (inr i) =
    more_source f others (inputs_of c 0 (n ∷ rows) ++ others) b (in_right (inputs_of c 0 (n ∷ rows)) others) (source f others cs g b i)

-- an offer comes to stand in a branch
pub sent_in : (f : Frame) (offers : List (Event × ℕ)) (bs : List (Waiting × Tree)) → Groups f offers bs → (o : Event × ℕ) → In o offers → o.0.dir ≡ Output → In (sent_branch f o) bs
sent_in f offers bs no_group o i dir = absurd i
sent_in f offers bs (a_sent x others cs d g) o (inl e) dir = inl (ap (sent_branch f) e)
sent_in f offers bs (a_sent x others cs d g) o (inr i) dir = inr (sent_in f others cs g o i dir)
sent_in f offers bs (a_received c n rows others cs count g) o i dir = go (in_either (inputs_of c 0 (n ∷ rows)) others o i) (λ j. sent_in f others cs g o j dir)
  where
    go : In o (inputs_of c 0 (n ∷ rows)) ⊎ In o others → (In o others → In (sent_branch f o) cs) → In (sent_branch f o) (received_branch f c (n ∷ rows) ∷ cs)
    go (inl j) ih = let found = in_inputs c 0 (n ∷ rows) o j in two_ways dir (ap (λ (x : Event × ℕ). x.0.dir) found.2)
    go (inr j) ih = inr (ih j)

-- the rows of the inputs from a channel
abbrev pub Received : Frame → List (Event × ℕ) → List (Waiting × Tree) → ℕ → Type 0
Received f offers bs c = (rows : List ℕ) × (length rows ≡ values_of f c) × ((v : ℕ) → v < length rows → In (event c Input v, get_or rows v 0) offers) × In (received_branch f c rows) bs

pub received_in : (f : Frame) (offers : List (Event × ℕ)) (bs : List (Waiting × Tree)) → Groups f offers bs → (c v m : ℕ) → In (event c Input v, m) offers → Received f offers bs c
received_in f offers bs no_group c v m i = absurd i
received_in f offers bs (a_sent x others cs d g) c v m (inl e) = two_ways d (sym (ap (λ (z : Event × ℕ). z.0.dir) e))
received_in f offers bs (a_sent x others cs d g) c v m (inr i) = let k = received_in f others cs g c v m i in (k.0, k.1, λ u l. inr (k.2 u l), inr k.3)
received_in f offers bs (a_received d n rows others cs count g) c v m i = go (in_either (inputs_of d 0 (n ∷ rows)) others (event c Input v, m) i) (received_in f others cs g c v m)
  where
    go : In (event c Input v, m) (inputs_of d 0 (n ∷ rows)) ⊎ In (event c Input v, m) others → (In (event c Input v, m) others → Received f others cs c)
        → Received f (inputs_of d 0 (n ∷ rows) ++ others) (received_branch f d (n ∷ rows) ∷ cs) c
    go (inl j) ih =
        let found = in_inputs d 0 (n ∷ rows) (event c Input v, m) j in
        let same : d ≡ c = sym (ap (λ (x : Event × ℕ). x.0.chan.0) found.2) in
        subst (λ z. Received f (inputs_of d 0 (n ∷ rows) ++ others) (received_branch f d (n ∷ rows) ∷ cs) z) same (
          n ∷ rows,
          count,
          λ u l. in_left (inputs_of d 0 (n ∷ rows)) others (event d Input u, get_or (n ∷ rows) u 0)
              (subst (λ z. In (event d Input z, get_or (n ∷ rows) u 0) (inputs_of d 0 (n ∷ rows))) (omega arith) (input_in d 0 (n ∷ rows) u l)),
          inl refl,
        )
    go (inr j) ih = let k = ih j in (k.0, k.1, λ u l. in_right (inputs_of d 0 (n ∷ rows)) others (event c Input u, get_or k.0 u 0) (k.2 u l), inr k.3)
