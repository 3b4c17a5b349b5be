-- The marks of a search are exactly the points to which paths lead. Here g is a graph, t a trail, start a point of the callback.
use Rattle.std.proofs.Common.{◌≡◌, ◌⊎◌, ℕ, zero, suc, ◌+◌, ◌<◌, ◌≤◌, Bool, true, false, List, [], ◌∷◌, length}
use Rattle.std.proofs.Common.{Option, Some, None, get_or, refl, sym, ap, subst, ◌∙◌, arith, inl, inr}
use Rattle.std.specs.Prelude.{if◌then◌else◌, ◌&&◌, replicate, slice_set}
use Rattle.std.proofs.lemmas.Bool.{cases_eq}
use Rattle.std.proofs.lemmas.List.{length-set, length-replicate, get_or-set_same}
use Rattle.flt_graph.specs.Graph.{points_at, instruction_at}
use Rattle.flt_graph.specs.declared.graph.Graph.{Graph}
use Rattle.flt_explain_warnings.specs.Flow.{is_marked, marked, blank, marked_behind, followed, followed_from}
use Rattle.flt_explain_warnings.specs.Flow.{passed, settled, reached, is_end, first_end_from, end_from}
use Rattle.flt_explain_warnings.specs.Paths.{Path, here, further, IsFoundBy}
use Rattle.flt_explain_warnings.specs.Trail.{onward, ends}
use Rattle.flt_explain_warnings.specs.declared.trail.Trail.{Trail}
use Rattle.flt_explain_warnings.proofs.Marks.{settled_once}

-- ---- lists of marks

-- what holds of all that is marked holds after one more mark, if it holds of that
all_set : {P : ℕ → Type 0} (marks : List Bool) (q : ℕ) → ((p : ℕ) → get_or marks p false ≡ true → P p) → (q < length marks → P q) →
    (p : ℕ) → get_or (slice_set marks q true) p false ≡ true → P p
all_set [] q old new p e = old p e
all_set (b ∷ marks) zero old new zero e = new (omega arith)
all_set (b ∷ marks) zero old new (suc p) e = old (suc p) e
all_set (b ∷ marks) (suc q) old new zero e = old zero e
all_set {P} (b ∷ marks) (suc q) old new (suc p) e =
    all_set {P = λ x. P (suc x)} marks q (λ x h. old (suc x) h) (λ h. new (omega arith)) p e

-- what is marked stays marked
set_keeps : (marks : List Bool) (q p : ℕ) → get_or marks p false ≡ true → get_or (slice_set marks q true) p false ≡ true
set_keeps [] q p e = e
set_keeps (b ∷ marks) zero zero e = refl
set_keeps (b ∷ marks) zero (suc p) e = e
set_keeps (b ∷ marks) (suc q) zero e = e
set_keeps (b ∷ marks) (suc q) (suc p) e = set_keeps marks q p e

none_marked : (n p : ℕ) → get_or (replicate n false) p false ≡ true → ⊥
none_marked zero p e = absurd (cc)
none_marked (suc n) zero e = absurd (cc)
none_marked (suc n) (suc p) e = none_marked n p e

-- how many points aren't marked
abbrev unmarked : List Bool → ℕ
unmarked [] = 0
unmarked (true ∷ marks) = unmarked marks
unmarked (false ∷ marks) = suc (unmarked marks)

few_unmarked : (marks : List Bool) → unmarked marks ≤ length marks
few_unmarked [] = omega arith
few_unmarked (true ∷ marks) = let h = few_unmarked marks in omega (arith, h)
few_unmarked (false ∷ marks) = let h = few_unmarked marks in omega (arith, h)

-- nothing is new, or fewer aren't marked
abbrev Grows : List Bool → List Bool → Type 0
Grows a b = (b ≡ a) ⊎ (unmarked b < unmarked a)

no_more : (a b : List Bool) → Grows a b → unmarked b ≤ unmarked a
no_more a b (inl same) = let e : unmarked b ≡ unmarked a = ap unmarked same in omega (arith, e)
no_more a b (inr less) = omega arith

grows_on : (a b c : List Bool) → Grows a b → Grows b c → Grows a c
grows_on a b c (inl same) next = subst (λ x. Grows x c) same next
grows_on a b c (inr less) next = let h = no_more b c next in inr (omega (arith, h))

-- where nothing is new in the end, nothing was on the way
still : (a b c : List Bool) → Grows a b → Grows b c → c ≡ a → b ≡ a
still a b c (inl same) next e = same
still a b c (inr less) next e =
    let h = no_more b c next in let k : unmarked c ≡ unmarked a = ap unmarked e in absurd (omega (arith, h, k))

set_grows : (marks : List Bool) (q : ℕ) → Grows marks (slice_set marks q true)
set_grows [] q = inl refl
set_grows (true ∷ marks) zero = inl refl
set_grows (false ∷ marks) zero = inr (omega arith)
set_grows (b ∷ marks) (suc q) = by b (set_grows marks q)
  where
    by : (b : Bool) → Grows marks (slice_set marks q true) → Grows (b ∷ marks) (b ∷ slice_set marks q true)
    by b (inl same) = inl (ap (λ xs. b ∷ xs) same)
    by true (inr less) = inr less
    by false (inr less) = inr (omega arith)

-- ---- one point and one pass

marked_length : (marks : List Bool) (o : Option ℕ) → length (marked marks o) ≡ length marks
marked_length marks None = refl
marked_length marks (Some q) = length-set marks q true

marked_keeps : (marks : List Bool) (o : Option ℕ) (p : ℕ) → get_or marks p false ≡ true → get_or (marked marks o) p false ≡ true
marked_keeps marks None p e = e
marked_keeps marks (Some q) p e = set_keeps marks q p e

marked_grows : (marks : List Bool) (o : Option ℕ) → Grows marks (marked marks o)
marked_grows marks None = inl refl
marked_grows marks (Some q) = set_grows marks q

both : (a b : Bool) → (a && b) ≡ true → (a ≡ true) × (b ≡ true)
both true true e = (refl, refl)
both true false e = absurd (cc)
both false b e = absurd (cc)

joined : (a b : Bool) → a ≡ true → b ≡ true → (a && b) ≡ true
joined true true e f = refl
joined true false e f = f
joined false b e f = e

module _ (g : Graph) (callback : ℕ) (t : Trail) where
  followed_length : (marks : List Bool) (p : ℕ) → length (followed g callback t p marks) ≡ length marks
  followed_length marks p = by (is_marked marks p)
    where
      by : (b : Bool) → length (if b then marked_behind g callback t p marks else marks) ≡ length marks
      by true =
          marked_length (marked marks (onward g t (instruction_at g callback p) true)) (onward g t (instruction_at g callback p) false)
          ∙ marked_length marks (onward g t (instruction_at g callback p) true)
      by false = refl

  followed_keeps : (marks : List Bool) (p q : ℕ) → get_or marks q false ≡ true → get_or (followed g callback t p marks) q false ≡ true
  followed_keeps marks p q e = by (is_marked marks p)
    where
      by : (b : Bool) → get_or (if b then marked_behind g callback t p marks else marks) q false ≡ true
      by true =
          marked_keeps (marked marks (onward g t (instruction_at g callback p) true)) (onward g t (instruction_at g callback p) false) q
          (marked_keeps marks (onward g t (instruction_at g callback p) true) q e)
      by false = e

  behind_grows : (marks : List Bool) (p : ℕ) → Grows marks (marked_behind g callback t p marks)
  behind_grows marks p =
      grows_on marks (marked marks (onward g t (instruction_at g callback p) true)) (marked_behind g callback t p marks)
      (marked_grows marks (onward g t (instruction_at g callback p) true))
      (marked_grows (marked marks (onward g t (instruction_at g callback p) true)) (onward g t (instruction_at g callback p) false))

  followed_grows : (marks : List Bool) (p : ℕ) → Grows marks (followed g callback t p marks)
  followed_grows marks p = by (is_marked marks p)
    where
      by : (b : Bool) → Grows marks (if b then marked_behind g callback t p marks else marks)
      by true = behind_grows marks p
      by false = inl refl

  from_length : (n p : ℕ) (marks : List Bool) → length (followed_from g callback t p n marks) ≡ length marks
  unfolding followed_from
  from_length zero p marks = refl
  from_length (suc n) p marks = from_length n (p + 1) (followed g callback t p marks) ∙ followed_length marks p

  from_keeps : (n p q : ℕ) (marks : List Bool) → get_or marks q false ≡ true → get_or (followed_from g callback t p n marks) q false ≡ true
  unfolding followed_from
  from_keeps zero p q marks e = e
  from_keeps (suc n) p q marks e = from_keeps n (p + 1) q (followed g callback t p marks) (followed_keeps marks p q e)

  from_grows : (n p : ℕ) (marks : List Bool) → Grows marks (followed_from g callback t p n marks)
  unfolding followed_from
  from_grows zero p marks = inl refl
  from_grows (suc n) p marks =
      grows_on marks (followed g callback t p marks) (followed_from g callback t (p + 1) n (followed g callback t p marks))
      (followed_grows marks p) (from_grows n (p + 1) (followed g callback t p marks))

  -- where no point of some brings anything new, each of them brings nothing new
  from_still : (n p i : ℕ) (marks : List Bool) → followed_from g callback t p n marks ≡ marks → p ≤ i → i < p + n →
      followed g callback t i marks ≡ marks
  unfolding followed_from
  from_still zero p i marks e low high = absurd (omega arith)
  from_still (suc n) p i marks e low high =
      let same = still marks (followed g callback t p marks) (followed_from g callback t (p + 1) n (followed g callback t p marks))
      (followed_grows marks p) (from_grows n (p + 1) (followed g callback t p marks)) e in
      let rest : followed_from g callback t (p + 1) n marks ≡ marks =
      sym (ap (λ x. followed_from g callback t (p + 1) n x) same) ∙ e in elim (cases_eq i p) [
        | inl is ↦ ap (λ x. followed g callback t x marks) is ∙ same
        | inr ne ↦ from_still n (p + 1) i marks rest (omega arith) (omega arith)
      ]

  settled_length : (n : ℕ) (marks : List Bool) → length (settled g callback t n marks) ≡ length marks
  unfolding settled
  settled_length zero marks = refl
  settled_length (suc n) marks = settled_length n (passed g callback t marks) ∙ from_length (points_at g callback) 0 marks

  settled_keeps : (n q : ℕ) (marks : List Bool) → get_or marks q false ≡ true → get_or (settled g callback t n marks) q false ≡ true
  unfolding settled
  settled_keeps zero q marks e = e
  settled_keeps (suc n) q marks e = settled_keeps n q (passed g callback t marks) (from_keeps (points_at g callback) 0 q marks e)

  -- as many passes as points aren't marked are enough: one more changes nothing
  settles : (n : ℕ) (marks : List Bool) → unmarked marks ≤ n →
      passed g callback t (settled g callback t n marks) ≡ settled g callback t n marks
  unfolding settled
  settles zero marks h = elim (from_grows (points_at g callback) 0 marks) [
    | inl same ↦ same
    | inr less ↦ absurd (omega arith)
  ]
  settles (suc n) marks h = elim (from_grows (points_at g callback) 0 marks) [
    | inl same ↦ subst (λ x. passed g callback t x ≡ x) (sym (settled_once g callback t (suc n) marks same)) same
    | inr less ↦ settles n (passed g callback t marks) (omega arith)
  ]

  module _ (start : ℕ) where
    -- all that is marked is on paths
    abbrev OnPaths : List Bool → Type 0
    OnPaths marks = (p : ℕ) → get_or marks p false ≡ true → Path g callback t start p

    marked_on : (marks : List Bool) (o : Option ℕ) → OnPaths marks → ((q : ℕ) → o ≡ Some q → q < length marks → Path g callback t start q) →
        OnPaths (marked marks o)
    marked_on marks None old new = old
    marked_on marks (Some q) old new = all_set {P = λ x. Path g callback t start x} marks q old (λ h. new q refl h)

    followed_on : (marks : List Bool) (p : ℕ) → length marks ≡ points_at g callback → OnPaths marks →
        OnPaths (followed g callback t p marks)
    followed_on marks p l old = by (is_marked marks p) refl
      where
        by : (b : Bool) → is_marked marks p ≡ b → OnPaths (if b then marked_behind g callback t p marks else marks)
        by true h =
            marked_on (marked marks (onward g t (instruction_at g callback p) true)) (onward g t (instruction_at g callback p) false)
            (marked_on marks (onward g t (instruction_at g callback p) true) old
            (λ q e k. further true (old p h) e (subst (λ n. q < n) l k)))
            (λ q e k. further false (old p h) e
            (subst (λ n. q < n) (marked_length marks (onward g t (instruction_at g callback p) true) ∙ l) k))
        by false h = old

    from_on : (n p : ℕ) (marks : List Bool) → length marks ≡ points_at g callback → OnPaths marks →
        OnPaths (followed_from g callback t p n marks)
    unfolding followed_from
    from_on zero p marks l old = old
    from_on (suc n) p marks l old =
        from_on n (p + 1) (followed g callback t p marks) (followed_length marks p ∙ l) (followed_on marks p l old)

    settled_on : (n : ℕ) (marks : List Bool) → length marks ≡ points_at g callback → OnPaths marks → OnPaths (settled g callback t n marks)
    unfolding settled
    settled_on zero marks l old = old
    settled_on (suc n) marks l old =
        settled_on n (passed g callback t marks) (from_length (points_at g callback) 0 marks ∙ l)
        (from_on (points_at g callback) 0 marks l old)

    begun_length : length (marked (blank (points_at g callback)) (Some start)) ≡ points_at g callback
    begun_length = length-set (blank (points_at g callback)) start true ∙ length-replicate (points_at g callback) false

    -- what is reached is on paths
    reached_on : OnPaths (reached g callback t start)
    reached_on =
        settled_on (points_at g callback) (marked (blank (points_at g callback)) (Some start)) begun_length
        (all_set {P = λ x. Path g callback t start x} (blank (points_at g callback)) start
        (λ p e. absurd (none_marked (points_at g callback) p e))
        (λ h. here (subst (λ n. start < n) (length-replicate (points_at g callback) false) h)))

    reached_length : length (reached g callback t start) ≡ points_at g callback
    reached_length =
        settled_length (points_at g callback) (marked (blank (points_at g callback)) (Some start)) ∙ begun_length

    -- ---- what is on paths is reached

    path_within : (q : ℕ) → Path g callback t start q → q < points_at g callback
    path_within q (here h) = h
    path_within q (further outcome path e h) = h

    one_more_changes_nothing : passed g callback t (reached g callback t start) ≡ reached g callback t start
    one_more_changes_nothing =
        let few = few_unmarked (marked (blank (points_at g callback)) (Some start)) in
        settles (points_at g callback) (marked (blank (points_at g callback)) (Some start))
        (subst (λ n. unmarked (marked (blank (points_at g callback)) (Some start)) ≤ n) begun_length few)

    set_there : (marks : List Bool) (o : Option ℕ) (q : ℕ) → marked marks o ≡ marks → o ≡ Some q → q < length marks →
        get_or marks q false ≡ true
    set_there marks None q same e h = absurd (cc)
    set_there marks (Some r) q same e h =
        let is : r ≡ q = cc in
        ap (λ x. get_or x q false) (sym same) ∙ ap (λ x. get_or (slice_set marks x true) q false) is ∙ get_or-set_same marks q true false h

    behind_marked : (marks : List Bool) (p q : ℕ) (outcome : Bool) → marked_behind g callback t p marks ≡ marks →
        onward g t (instruction_at g callback p) outcome ≡ Some q → q < length marks → get_or marks q false ≡ true
    behind_marked marks p q true same e h =
        set_there marks (onward g t (instruction_at g callback p) true) q
        (still marks (marked marks (onward g t (instruction_at g callback p) true)) (marked_behind g callback t p marks)
        (marked_grows marks (onward g t (instruction_at g callback p) true))
        (marked_grows (marked marks (onward g t (instruction_at g callback p) true)) (onward g t (instruction_at g callback p) false))
        same) e h
    behind_marked marks p q false same e h =
        let first_same = still marks (marked marks (onward g t (instruction_at g callback p) true)) (marked_behind g callback t p marks)
        (marked_grows marks (onward g t (instruction_at g callback p) true))
        (marked_grows (marked marks (onward g t (instruction_at g callback p) true)) (onward g t (instruction_at g callback p) false))
        same in
        set_there marks (onward g t (instruction_at g callback p) false) q
        (sym (ap (λ x. marked x (onward g t (instruction_at g callback p) false)) first_same) ∙ same) e h

    follows : (marks : List Bool) (p q : ℕ) (outcome : Bool) → followed g callback t p marks ≡ marks → get_or marks p false ≡ true →
        onward g t (instruction_at g callback p) outcome ≡ Some q → q < length marks → get_or marks q false ≡ true
    follows marks p q outcome same m e h = by (is_marked marks p) same m
      where
        by : (b : Bool) → (if b then marked_behind g callback t p marks else marks) ≡ marks → b ≡ true → get_or marks q false ≡ true
        by true s is = behind_marked marks p q outcome s e h
        by false s is = absurd (cc)

    -- a path leads to what is reached alone
    path_reached : (q : ℕ) → Path g callback t start q → get_or (reached g callback t start) q false ≡ true
    path_reached q (here h) =
        settled_keeps (points_at g callback) start (marked (blank (points_at g callback)) (Some start))
        (get_or-set_same (blank (points_at g callback)) start true false
        (subst (λ n. start < n) (sym (length-replicate (points_at g callback) false)) h))
    path_reached q (further {p} outcome path e h) =
        follows (reached g callback t start) p q outcome
        (from_still (points_at g callback) 0 p (reached g callback t start) one_more_changes_nothing (omega arith)
        (omega (arith, path_within p path))) (path_reached p path) e (subst (λ n. q < n) (sym reached_length) h)

  -- ---- ends

  found_by : (marks : List Bool) (p q : ℕ) (rest : Option ℕ) (b : Bool) → is_end g callback t marks p ≡ b →
      (if b then Some p else rest) ≡ Some q → (rest ≡ Some q → is_end g callback t marks q ≡ true) → is_end g callback t marks q ≡ true
  found_by marks p q rest true h e later = let is : p ≡ q = cc in subst (λ x. is_end g callback t marks x ≡ true) is h
  found_by marks p q rest false h e later = later e

  found_end : (marks : List Bool) (n p q : ℕ) → first_end_from g callback t marks p n ≡ Some q → is_end g callback t marks q ≡ true
  unfolding first_end_from
  found_end marks zero p q e = absurd (cc)
  found_end marks (suc n) p q e =
      found_by marks p q (first_end_from g callback t marks (p + 1) n) (is_end g callback t marks p) refl e
      (λ k. found_end marks n (p + 1) q k)

  -- an end is found, or one before it
  pub record IsFirst (marks : List Bool) (p n q : ℕ) : Type 0 where
    pub found : ℕ
    pub is : first_end_from g callback t marks p n ≡ Some found
    pub first : found ≤ q

  past : (marks : List Bool) (p q : ℕ) → p ≤ q → is_end g callback t marks p ≡ false → is_end g callback t marks q ≡ true → p + 1 ≤ q
  past marks p q low not_here e = elim (cases_eq p q) [
    | inl same ↦ let bad : false ≡ true = sym not_here ∙ ap (λ x. is_end g callback t marks x) same ∙ e in absurd (cc)
    | inr ne ↦ omega arith
  ]

  end_by : (marks : List Bool) (n p q : ℕ) (b : Bool) → is_end g callback t marks p ≡ b → p ≤ q → (b ≡ false → IsFirst marks (p + 1) n q) →
      IsFirst marks p (suc n) q
  unfolding first_end_from
  end_by marks n p q true h low later = record {
    found = p;
    is = ap (λ (b : Bool). if b then Some p else first_end_from g callback t marks (p + 1) n) h;
    first = low;
  }
  end_by marks n p q false h low later = record {
    found = (later refl).found;
    is = ap (λ (b : Bool). if b then Some p else first_end_from g callback t marks (p + 1) n) h ∙ (later refl).is;
    first = (later refl).first;
  }

  end_found : (marks : List Bool) (n p q : ℕ) → p ≤ q → q < p + n → is_end g callback t marks q ≡ true → IsFirst marks p n q
  end_found marks zero p q low high e = absurd (omega arith)
  end_found marks (suc n) p q low high e =
      end_by marks n p q (is_end g callback t marks p) refl low
      (λ not_here. end_found marks n (p + 1) q (past marks p q low not_here e) (omega arith) e)

-- what a search finds is on a path and is looked for
pub end_on_path : (g : Graph) (callback : ℕ) (t : Trail) (start q : ℕ) → end_from g callback t start ≡ Some q →
    Path g callback t start q × (ends t (instruction_at g callback q) ≡ true)
end_on_path g callback t start q e =
    let end = both (is_marked (reached g callback t start) q) (ends t (instruction_at g callback q))
    (found_end g callback t (reached g callback t start) (points_at g callback) 0 q e) in
    (reached_on g callback t start q end.0, end.1)

-- what is on a path and is looked for is found, or such a point before it
pub path_to_end : (g : Graph) (callback : ℕ) (t : Trail) (start q : ℕ) → Path g callback t start q →
    ends t (instruction_at g callback q) ≡ true → IsFoundBy g callback t start q
path_to_end g callback t start q path e =
    let found = end_found g callback t (reached g callback t start) (points_at g callback) 0 q (omega arith)
    (omega (arith, path_within g callback t start q path))
    (joined (is_marked (reached g callback t start) q) (ends t (instruction_at g callback q)) (path_reached g callback t start q path) e) in
    record { found = found.found; is = found.is; first = found.first }
