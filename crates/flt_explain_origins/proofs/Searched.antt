-- Where a search ends without the point, no path of the graph has an origin there; what it finds has one.
use Rattle.std.proofs.Common.{◌≡◌, ◌==◌, ◌<◌, ◌≤◌, ◌+◌, ◌-◌, ℕ, zero, suc, Bool, true, false, List, [], ◌∷◌, ◌++◌, Option}
use Rattle.std.proofs.Common.{Some, None, length, get_or, slice_get, slice_index_or, arith, ap, sym, subst, refl, ◌∙◌}
use Rattle.std.specs.Prelude.{◌&&◌, ◌||◌, if◌then◌else◌}
use Rattle.std.proofs.lemmas.Bool.{and_parts, and_from, or_left, or_right, eqb-true, eq-eqb}
use Rattle.std.proofs.lemmas.Option.{slice_get-get_or, slice_get_within}
use Rattle.flt_abs.specs.Entry.{entry}
use Rattle.flt_graph.specs.Graph.{place_at, instruction_at, callback_at, points_at, no_point}
use Rattle.flt_graph.specs.Points.{successor}
use Rattle.flt_graph.specs.declared.graph.Graph.{Graph}
use Rattle.flt_graph.specs.declared.graph.Point.{Point}
use Rattle.flt_graph.specs.declared.instruction.Instruction.{Instruction}
use Rattle.flt_graph.specs.declared.instruction.Instruction.TheVariants as instruction
use Rattle.flt_explain_origins.specs.Facts.{makes, keeps, leaves_alone, lets_pass}
use Rattle.flt_explain_origins.specs.Origins.{may_be, is_kept, leads, is_at, is_made_by, is_made, behind, is_origin}
use Rattle.flt_explain_origins.specs.Origins.{is_outcome, is_step_from, path_end, IsLast, HasNoneAt}
use Rattle.flt_explain_origins.specs.Search.{is_marked, unmarked, arrived, at_entry, entered, step, gone_on, is_sought, AreArrivals}
use Rattle.flt_explain_origins.specs.Search.{IsReached, AreMarks, IsFollowed, IsSearched, IsUnsearched, open_in}
use Rattle.flt_explain_origins.specs.declared.origin.Cause.{Cause}
use Rattle.flt_explain_origins.specs.declared.origin.Cause.TheVariants as cause
use Rattle.flt_explain_origins.specs.declared.facts.Fact.{Fact}
use Rattle.flt_explain_origins.specs.declared.path.Mark.{Mark}
use Rattle.flt_explain_origins.specs.declared.path.ReachedPoint.{ReachedPoint}
use Rattle.flt_explain_origins.specs.declared.path.Search.{Search}
use Rattle.flt_explain_origins.specs.declared.answer.Step.{Step}
use borrow.Author.Count.{below_more}
use Rattle.flt_explain_origins.proofs.Searching.{IsMore, more_then, still_reached, arrived_more, arrived_there, arrived_arrivals}
use Rattle.flt_explain_origins.proofs.Searching.{gone_more, gone_arrivals, gone_followed, still_followed}

none_past : {A : Type 0} (xs : List A) (n : ℕ) → slice_get xs n ≡ None → length xs ≤ n
none_past [] n h = omega arith
none_past (x ∷ xs) zero h = absurd (cc)
none_past (x ∷ xs) (suc n) h = let less = none_past xs n h in omega (arith, less)

-- ---- the points that are there

-- only a point that is there comes out
has_outcome : (ps : List Point) (p : ℕ) (b : Bool) → is_outcome (slice_index_or ps p no_point).instruction b ≡ true → p < length ps
has_outcome [] p b h = absurd (cc)
has_outcome (x ∷ ps) zero b h = omega arith
has_outcome (x ∷ ps) (suc p) b h = let less = has_outcome ps p b h in omega (arith, less)

passes_outcome : (i : Instruction) (b : Bool) (f : Fact) → lets_pass i b f ≡ true → is_outcome i b ≡ true
passes_outcome (instruction.Act a next) b f h = h
passes_outcome (instruction.Call c granted refused) true f h = refl
passes_outcome (instruction.Call c granted refused) false f h = h
passes_outcome (instruction.Test t granted refused) b f h = refl
passes_outcome (instruction.Repeat turns block next) b f h = refl
passes_outcome (instruction.Return status) b f h = h
passes_outcome instruction.End b f h = h

-- what keeps a fact may come out so
pub keeps_outcome : (i : Instruction) (b : Bool) (f : Fact) → keeps i b f ≡ true → is_outcome i b ≡ true
keeps_outcome i b f h = passes_outcome i b f (and_parts (leaves_alone i b f) (lets_pass i b f) h).1

is_there : (o : Option ℕ) (p : ℕ) → is_at o p ≡ true → o ≡ Some p
is_there (Some q) p h = ap Some (eqb-true q p h)
is_there None p h = cc

module _ (g : Graph) (k : ℕ) (f : Fact) where
  within : (p : ℕ) (b : Bool) → is_outcome (instruction_at g k p) b ≡ true → p < points_at g k
  within p b h = has_outcome (callback_at g k).points p b h

  -- ---- one point more is followed

  module _ (p : ℕ) (x : Search) (n : ℕ) (r : ReachedPoint) (h : IsSearched g k f p x n) (there : slice_get x.found n ≡ Some r) where
    abbrev y : Search
    y = gone_on g k f n r x

    more : IsMore x y
    more = gone_more g k f n r x

    -- what is reached before is there already
    there_before : (m : ℕ) (s : ReachedPoint) → m < n → slice_get y.found m ≡ Some s → slice_get x.found m ≡ Some s
    there_before m s less at =
        let before = slice_get_within x.found n r there in
        let old = slice_get-get_or x.found m r (omega (arith, less, before)) in
        let new = more.more m (get_or x.found m r) old in cc

    the_same : (s : ReachedPoint) → slice_get y.found n ≡ Some s → r ≡ s
    the_same s at = let new = more.more n r there in cc

    follows : (m : ℕ) → m < n + 1 → (s : ReachedPoint) → slice_get y.found m ≡ Some s → IsFollowed g k f y s
    follows = below_more (λ (m : ℕ). (s : ReachedPoint) → slice_get y.found m ≡ Some s → IsFollowed g k f y s) n
        (λ m less s at. still_followed g k f x y s more (h.followed m s less (there_before m s less at)))
        (λ s at. subst (λ (t : ReachedPoint). IsFollowed g k f y t) (the_same s at) (gone_followed g k f n r x h.marks))

    others : is_sought r p ≡ false → (m : ℕ) → m < n + 1 → (s : ReachedPoint) → slice_get y.found m ≡ Some s → is_sought s p ≡ false
    others other = below_more (λ (m : ℕ). (s : ReachedPoint) → slice_get y.found m ≡ Some s → is_sought s p ≡ false) n
        (λ m less s at. h.others m s less (there_before m s less at))
        (λ s at. subst (λ (t : ReachedPoint). is_sought t p ≡ false) (the_same s at) other)

    pub one_more : is_sought r p ≡ false → IsSearched g k f p (gone_on g k f n r x) (n + 1)
    one_more other = record {
      arrivals = gone_arrivals g k f n r x there h.arrivals;
      marks = more.marks h.marks;
      points = let e = more.long in let a = h.points in omega (arith, e, a);
      target = let e = more.long in let a = h.target in omega (arith, e, a);
      entry_bare = still_reached x y 0 false more h.entry_bare;
      entry_so = λ e. still_reached x y 0 true more (h.entry_so e);
      followed = λ m s less at. follows m less s at;
      others = λ m s less at. others other m less s at;
    }

  -- ---- nothing is left to follow

  kept_nowhere : (p : ℕ) (steps : List Step) → leads g k f None steps ≡ Some p → ⊥
  kept_nowhere p [] e = absurd (cc)
  kept_nowhere p (s ∷ steps) e = absurd (cc)

  passed_nowhere : (p : ℕ) (steps : List Step) → path_end g k None steps ≡ Some p → ⊥
  passed_nowhere p [] e = absurd (cc)
  passed_nowhere p (s ∷ steps) e = absurd (cc)

  module _ (p : ℕ) (x : Search) (n : ℕ) (h : IsSearched g k f p x n) (all : length x.found ≤ n) where
    followed : (q : ℕ) (so : Bool) (a : IsReached x.found q so) → IsFollowed g k f x a.one
    followed q so a =
        let less = slice_get_within x.found a.number a.one a.there in
        h.followed a.number a.one (omega (arith, less, all)) a.there

    not_there : IsReached x.found p true → ⊥
    not_there a =
        let less = slice_get_within x.found a.number a.one a.there in
        let other = h.others a.number a.one (omega (arith, less, all)) a.there in
        let sought = and_from (a.one.point == p) a.one.is_so (eq-eqb a.one.point p a.point) a.same in absurd (cc)

    -- the step of a point that is reached leads to one that is
    onward : (q : ℕ) (so : Bool) (s : Step) (to : ℕ) → IsReached x.found q so → s.point ≡ q →
        is_outcome (instruction_at g k s.point) s.granted ≡ true → successor (instruction_at g k s.point) s.granted ≡ Some to →
        to < length x.seen → IsReached x.found to false ×
        ((makes (instruction_at g k s.point) s.granted s.gives f || (so && keeps (instruction_at g k s.point) s.granted f)) ≡ true →
        IsReached x.found to true)
    onward q so s to a at outcome leads less =
        let same : a.one.point ≡ s.point = a.point ∙ sym at in
        let found = followed q so a s.granted s.gives to
        (subst (λ i. is_outcome (instruction_at g k i) s.granted ≡ true) (sym same) outcome)
        (subst (λ i. successor (instruction_at g k i) s.granted ≡ Some to) (sym same) leads) less in (
          found.0,
          λ e. found.1
              (subst (λ i.
              (makes (instruction_at g k i) s.granted s.gives f || (a.one.is_so && keeps (instruction_at g k i) s.granted f)) ≡ true)
              (sym same)
              (subst (λ b.
              (makes (instruction_at g k s.point) s.granted s.gives f || (b && keeps (instruction_at g k s.point) s.granted f)) ≡ true)
              (sym a.same) e)),
        )

    point_within : (s : Step) → is_outcome (instruction_at g k s.point) s.granted ≡ true → s.point < length x.seen
    point_within s outcome =
        let less = within s.point s.granted outcome in
        let long = h.points in omega (arith, less, long)

    -- a point from which steps lead to the one that is looked for is in the table
    kept_within : (q : ℕ) (steps : List Step) → leads g k f (Some q) steps ≡ Some p → q < length x.seen
    kept_within q [] e = let same : q ≡ p = cc in subst (λ i. i < length x.seen) (sym same) h.target
    kept_within q (s ∷ steps) e = by (is_kept g k f q s) refl e where
      by : (b : Bool) → is_kept g k f q s ≡ b →
          (if b then leads g k f (successor (instruction_at g k s.point) s.granted) steps else None) ≡ Some p → q < length x.seen
      by true is e =
          let parts = and_parts (s.point == q) (keeps (instruction_at g k s.point) s.granted f) is in
          subst (λ i. i < length x.seen) (eqb-true s.point q parts.0)
          (point_within s (keeps_outcome (instruction_at g k s.point) s.granted f parts.1))
      by false is e = absurd (cc)

    passed_within : (q : ℕ) (steps : List Step) → path_end g k (Some q) steps ≡ Some p → q < length x.seen
    passed_within q [] e = let same : q ≡ p = cc in subst (λ i. i < length x.seen) (sym same) h.target
    passed_within q (s ∷ steps) e = by (is_step_from g k q s) refl e where
      by : (b : Bool) → is_step_from g k q s ≡ b →
          (if b then path_end g k (successor (instruction_at g k s.point) s.granted) steps else None) ≡ Some p → q < length x.seen
      by true is e =
          let parts = and_parts (s.point == q) (is_outcome (instruction_at g k s.point) s.granted) is in
          subst (λ i. i < length x.seen) (eqb-true s.point q parts.0) (point_within s parts.1)
      by false is e = absurd (cc)

    abbrev NotKept : List Step → Type 0
    NotKept steps = (to : ℕ) → IsReached x.found to true → leads g k f (Some to) steps ≡ Some p → ⊥

    abbrev NotPassed : List Step → Type 0
    NotPassed steps = (to : ℕ) → IsReached x.found to false → path_end g k (Some to) steps ≡ Some p → ⊥

    -- nothing that is so at a point that is reached is kept up to the one that is looked for
    not_kept : (q : ℕ) (steps : List Step) → IsReached x.found q true → leads g k f (Some q) steps ≡ Some p → ⊥
    not_kept q [] a e = let same : q ≡ p = cc in not_there (subst (λ i. IsReached x.found i true) same a)
    not_kept q (s ∷ steps) a e = by (λ to b e. not_kept to steps b e) (is_kept g k f q s) refl e where
      go : NotKept steps → keeps (instruction_at g k s.point) s.granted f ≡ true → s.point ≡ q → (o : Option ℕ) →
          successor (instruction_at g k s.point) s.granted ≡ o → leads g k f o steps ≡ Some p → ⊥
      go again keep at (Some to) led e =
          again to
          ((onward q true s to a at (keeps_outcome (instruction_at g k s.point) s.granted f keep) led (kept_within to steps e)).1
          (or_right (makes (instruction_at g k s.point) s.granted s.gives f) (keeps (instruction_at g k s.point) s.granted f) keep)) e
      go again keep at None led e = kept_nowhere p steps e

      by : NotKept steps → (b : Bool) → is_kept g k f q s ≡ b →
          (if b then leads g k f (successor (instruction_at g k s.point) s.granted) steps else None) ≡ Some p → ⊥
      by again true is e =
          let parts = and_parts (s.point == q) (keeps (instruction_at g k s.point) s.granted f) is in
          go again parts.1 (eqb-true s.point q parts.0) (successor (instruction_at g k s.point) s.granted) refl e
      by again false is e = absurd (cc)

    -- nor is what a step of a path makes
    not_made : (q : ℕ) (front : List Step) (s : Step) (later : List Step) → IsReached x.found q false →
        path_end g k (Some q) (front ++ s ∷ later) ≡ Some p → is_made_by g k f s ≡ true →
        leads g k f (behind g k (cause.Made s)) later ≡ Some p → ⊥
    not_made q [] s later a e made kept = by (is_step_from g k q s) refl e where
      go : s.point ≡ q → is_outcome (instruction_at g k s.point) s.granted ≡ true → (o : Option ℕ) →
          successor (instruction_at g k s.point) s.granted ≡ o → leads g k f o later ≡ Some p → ⊥
      go at outcome (Some to) led e =
          not_kept to later
          ((onward q false s to a at outcome led (kept_within to later e)).1
          (or_left (makes (instruction_at g k s.point) s.granted s.gives f) (false && keeps (instruction_at g k s.point) s.granted f) made))
          e
      go at outcome None led e = kept_nowhere p later e

      by : (b : Bool) → is_step_from g k q s ≡ b →
          (if b then path_end g k (successor (instruction_at g k s.point) s.granted) later else None) ≡ Some p → ⊥
      by true is e =
          let parts = and_parts (s.point == q) (is_outcome (instruction_at g k s.point) s.granted) is in
          go (eqb-true s.point q parts.0) parts.1 (successor (instruction_at g k s.point) s.granted) refl kept
      by false is e = absurd (cc)
    not_made q (t ∷ front) s later a e made kept =
        by (λ to b e. not_made to front s later b e made kept) (is_step_from g k q t) refl e
      where
        go : NotPassed (front ++ s ∷ later) → t.point ≡ q → is_outcome (instruction_at g k t.point) t.granted ≡ true → (o : Option ℕ) →
            successor (instruction_at g k t.point) t.granted ≡ o → path_end g k o (front ++ s ∷ later) ≡ Some p → ⊥
        go again at outcome (Some to) led e =
            again to (onward q false t to a at outcome led (passed_within to (front ++ s ∷ later) e)).0 e
        go again at outcome None led e = passed_nowhere p (front ++ s ∷ later) e

        by : NotPassed (front ++ s ∷ later) → (b : Bool) → is_step_from g k q t ≡ b →
            (if b then path_end g k (successor (instruction_at g k t.point) t.granted) (front ++ s ∷ later) else None) ≡ Some p → ⊥
        by again true is e =
            let parts = and_parts (t.point == q) (is_outcome (instruction_at g k t.point) t.granted) is in
            go again (eqb-true t.point q parts.0) parts.1 (successor (instruction_at g k t.point) t.granted) refl e
        by again false is e = absurd (cc)

    no_origin : (steps : List Step) (c : Cause) (later : List Step) → path_end g k (Some 0) steps ≡ Some p → IsLast g k f steps c later →
        is_made g k f c ≡ true → leads g k f (behind g k c) later ≡ Some p → ⊥
    no_origin steps cause.Entry later path last made kept = not_kept 0 later (h.entry_so made) kept
    no_origin steps (cause.Made s) later path last made kept =
        not_made 0 last.0 s later h.entry_bare (subst (λ all. path_end g k (Some 0) all ≡ Some p) last.1 path) made kept

    -- no path has an origin there
    pub none_at : HasNoneAt g k f p
    none_at steps path c later last = by (is_origin g k f p c later) refl where
      by : (b : Bool) → is_origin g k f p c later ≡ b → b ≡ false
      by true is =
          let parts = and_parts (is_made g k f c) (is_at (leads g k f (behind g k c) later) p) is in
          absurd (no_origin steps c later path last parts.0 (is_there (leads g k f (behind g k c) later) p parts.1))
      by false is = refl

  -- where all that was reached has been followed, no path has an origin at the point
  pub all_followed : (p : ℕ) (x : Search) (n : ℕ) → IsSearched g k f p x n → length x.found ≤ n → HasNoneAt g k f p
  all_followed p x n h all = none_at p x n h all

  -- where nothing is left to follow, no path has an origin at the point
  pub nothing_left : (p : ℕ) (x : Search) (n : ℕ) → IsSearched g k f p x n → slice_get x.found n ≡ None → HasNoneAt g k f p
  nothing_left p x n h end = none_at p x n h (none_past x.found n end)

-- ---- the entry

nothing_there : {A : Type 0} (n : ℕ) (x : A) → slice_get [] n ≡ Some x → ⊥
nothing_there n x h = absurd (cc)

module _ (g : Graph) (k : ℕ) (f : Fact) where
  entry_arrivals : (so : Bool) (x : Search) → (so ≡ true → may_be (entry (place_at g k)) f ≡ true) → AreArrivals g k f x.found →
      AreArrivals g k f (arrived x (at_entry so)).found
  entry_arrivals so x may all = arrived_arrivals g k f x (at_entry so) (refl, may) all

  module _ (p : ℕ) (x : Search) (h : IsUnsearched (points_at g k) p x) where
    no_arrivals : AreArrivals g k f x.found
    no_arrivals n r there = absurd (nothing_there n r (subst (λ found. slice_get found n ≡ Some r) h.none there))

    no_marks : AreMarks x
    no_marks q m so there is = absurd (unmarked_not so (subst (λ (v : Mark). is_marked v so ≡ true) (h.marks q m there) is)) where
      unmarked_not : (b : Bool) → is_marked unmarked b ≡ true → ⊥
      unmarked_not true e = absurd (cc)
      unmarked_not false e = absurd (cc)

    some : 0 < length x.seen
    some = let less = h.target in omega (arith, less)

    searched : (y : Search) → IsMore x y → AreArrivals g k f y.found → IsReached y.found 0 false →
        (may_be (entry (place_at g k)) f ≡ true → IsReached y.found 0 true) → IsSearched g k f p y 0
    searched y more all first first_so = record {
      arrivals = all;
      marks = more.marks no_marks;
      points = let e = more.long in let a = h.points in omega (arith, e, a);
      target = let e = more.long in let a = h.target in omega (arith, e, a);
      entry_bare = first;
      entry_so = first_so;
      followed = λ n r less there. absurd (omega (arith, less));
      others = λ n r less there. absurd (omega (arith, less));
    }

    pub entered_if : (so : Bool) → may_be (entry (place_at g k)) f ≡ so → IsSearched g k f p (entered so x) 0
    entered_if true may =
        let y = arrived x (at_entry true) in
        let a = arrived_more x (at_entry true) in
        let b = arrived_more y (at_entry false) in
        let long = a.long in
        let less = some in
        searched (arrived y (at_entry false)) (more_then x y (arrived y (at_entry false)) a b)
        (entry_arrivals false y (λ e. cc) (entry_arrivals true x (λ e. may) no_arrivals))
        (arrived_there y (at_entry false) (a.marks no_marks) (omega (arith, long, less)))
        (λ e. still_reached y (arrived y (at_entry false)) 0 true b (arrived_there x (at_entry true) no_marks some))
    entered_if false may =
        searched (arrived x (at_entry false)) (arrived_more x (at_entry false)) (entry_arrivals false x (λ e. cc) no_arrivals)
        (arrived_there x (at_entry false) no_marks some) (λ e. cc)

  -- what is reached first
  pub entered_searched : (p points : ℕ) (so : Bool) (x y : Search) →
      points ≡ points_at g k → so ≡ may_be (entry (place_at g k)) f → IsUnsearched points p x →
      y ≡ entered so x → IsSearched g k f p y 0
  entered_searched p points so x y same may h is =
      subst (λ (z : Search). IsSearched g k f p z 0) (sym is) (entered_if p x (subst (λ n. IsUnsearched n p x) same h) so (sym may))

  -- each point that is followed is one less
  pub fewer_left : (x : Search) (n : ℕ) (r : ReachedPoint) (y : Search) → slice_get x.found n ≡ Some r → y ≡ gone_on g k f n r x →
      (open_in y.seen + (length y.found - (n + 1))) + 1 ≡ open_in x.seen + (length x.found - n)
  fewer_left x n r y there is =
      let more = subst (λ (z : Search). IsMore x z) (sym is) (gone_more g k f n r x) in
      let sum = more.sum in
      let before = slice_get_within x.found n r there in
      let after = slice_get_within y.found n r (more.more n r there) in
      omega (arith, sum, before, after)

  -- each point that is followed is one more
  pub followed_more : (p : ℕ) (x : Search) (n : ℕ) (r : ReachedPoint) (y : Search) → IsSearched g k f p x n → slice_get x.found n ≡ Some r →
      is_sought r p ≡ false → y ≡ gone_on g k f n r x → IsSearched g k f p y (n + 1)
  followed_more p x n r y h there other is =
      subst (λ (z : Search). IsSearched g k f p z (n + 1)) (sym is) (one_more g k f p x n r h there other)
