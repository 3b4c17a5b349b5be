-- What a search of the graph has reached stays reached, and what follows a point is reached with it.
use Rattle.std.proofs.Common.{◌⊎◌, inl, inr, ◌≡◌, ◌<◌, ◌+◌, ℕ, zero, suc, Bool, true, false, List, [], ◌∷◌, ◌++◌, Option}
use Rattle.std.proofs.Common.{Some, None, length, slice_get, arith, ap, sym, subst, refl, ◌∙◌, length-append}
use Rattle.std.specs.Prelude.{slice_set, if◌then◌else◌}
use Rattle.std.proofs.lemmas.List.{length-set}
use Rattle.std.proofs.lemmas.Option.{slice_get-get_or, slice_get_within}
use Rattle.flt_graph.specs.Graph.{instruction_at}
use Rattle.flt_graph.specs.Points.{successor}
use Rattle.flt_graph.specs.declared.graph.Graph.{Graph}
use Rattle.flt_explain_origins.specs.Origins.{is_outcome}
use Rattle.flt_explain_origins.specs.Search.{is_marked, marked, added, arrived_by, arrived, reached, arrived_both, may_be_after, led, taken}
use Rattle.flt_explain_origins.specs.Search.{step, gone_on, IsArrival, AreArrivals, IsReached, AreMarks, IsFollowed, open_sides, open_in}
use Rattle.flt_explain_origins.specs.declared.facts.Fact.{Fact}
use Rattle.flt_explain_origins.specs.declared.path.Mark.{Mark}
use Rattle.flt_explain_origins.specs.declared.path.ReachedPoint.{ReachedPoint}
use Rattle.flt_explain_origins.specs.declared.path.Search.{Search}
use Rattle.flt_explain_origins.specs.declared.answer.Step.{Step}

-- ---- lists

-- what stands in a list stands there too where more follows
pub kept_at : {A : Type 0} (xs ys : List A) (n : ℕ) (x : A) → slice_get xs n ≡ Some x → slice_get (xs ++ ys) n ≡ Some x
kept_at [] ys n x h = absurd (cc)
kept_at (y ∷ xs) ys zero x h = h
kept_at (y ∷ xs) ys (suc n) x h = kept_at xs ys n x h

last_at : {A : Type 0} (xs : List A) (x : A) → slice_get (xs ++ x ∷ []) (length xs) ≡ Some x
last_at [] x = refl
last_at (y ∷ xs) x = last_at xs x

-- what stands in a list with one more
pub at_push : {A : Type 0} (xs : List A) (y z : A) (k : ℕ) → slice_get (xs ++ y ∷ []) k ≡ Some z →
    (slice_get xs k ≡ Some z) ⊎ ((k ≡ length xs) × (y ≡ z))
at_push [] y z zero is = inr (refl, cc)
at_push [] y z (suc k) is = absurd (cc)
at_push (x ∷ xs) y z zero is = inl is
at_push (x ∷ xs) y z (suc k) is = shifted (at_push xs y z k is) where
  shifted : (slice_get xs k ≡ Some z) ⊎ ((k ≡ length xs) × (y ≡ z)) → (slice_get xs k ≡ Some z) ⊎ ((suc k ≡ suc (length xs)) × (y ≡ z))
  shifted (inl there) = inl there
  shifted (inr (last, same)) = inr (ap suc last, same)

-- what stands in a list after one is replaced
at_set : {A : Type 0} (xs : List A) (i : ℕ) (y z : A) (k : ℕ) → slice_get (slice_set xs i y) k ≡ Some z →
    (slice_get xs k ≡ Some z) ⊎ ((k ≡ i) × (y ≡ z))
at_set [] i y z k is = inl is
at_set (x ∷ xs) zero y z zero is = inr (refl, cc)
at_set (x ∷ xs) zero y z (suc k) is = inl is
at_set (x ∷ xs) (suc i) y z zero is = inl is
at_set (x ∷ xs) (suc i) y z (suc k) is = shifted (at_set xs i y z k is) where
  shifted : (slice_get xs k ≡ Some z) ⊎ ((k ≡ i) × (y ≡ z)) → (slice_get xs k ≡ Some z) ⊎ ((suc k ≡ suc i) × (y ≡ z))
  shifted (inl there) = inl there
  shifted (inr (last, same)) = inr (ap suc last, same)

-- ---- marks

marked_cases : (m : Mark) (b c : Bool) → is_marked (marked m b) c ≡ true → (is_marked m c ≡ true) ⊎ (b ≡ c)
marked_cases m true true h = inr refl
marked_cases m true false h = inl h
marked_cases m false true h = inl h
marked_cases m false false h = inr refl

fewer_absent : (a p : Bool) → a ≡ false →
    open_sides (record { absent = true; present = p }) + 1 ≡ open_sides (record { absent = a; present = p })
fewer_absent true p h = cc
fewer_absent false true h = refl
fewer_absent false false h = refl

fewer_present : (a p : Bool) → p ≡ false →
    open_sides (record { absent = a; present = true }) + 1 ≡ open_sides (record { absent = a; present = p })
fewer_present a true h = cc
fewer_present true false h = refl
fewer_present false false h = refl

fewer_sides : (m : Mark) (b : Bool) → is_marked m b ≡ false → open_sides (marked m b) + 1 ≡ open_sides m
fewer_sides m true h = fewer_present m.absent m.present h
fewer_sides m false h = fewer_absent m.absent m.present h

-- a side that is marked is open no more
fewer_open : (ms : List Mark) (p : ℕ) (m : Mark) (b : Bool) → slice_get ms p ≡ Some m → is_marked m b ≡ false →
    open_in (slice_set ms p (marked m b)) + 1 ≡ open_in ms
fewer_open [] p m b there e = absurd (cc)
fewer_open (x ∷ ms) zero m b there e =
    let same : x ≡ m = cc in
    let one = fewer_sides m b e in
    subst (λ y. (open_sides (marked m b) + open_in ms) + 1 ≡ open_sides y + open_in ms) (sym same) (omega (arith, one))
fewer_open (x ∷ ms) (suc p) m b there e = let h = fewer_open ms p m b there e in omega (arith, h)

-- ---- one point more

-- a search has all that another one has
pub record IsMore (x y : Search) : Type 0 where
  pub more : (n : ℕ) (r : ReachedPoint) → slice_get x.found n ≡ Some r → slice_get y.found n ≡ Some r
  pub marks : AreMarks x → AreMarks y
  pub long : length y.seen ≡ length x.seen
  pub sum : open_in y.seen + length y.found ≡ open_in x.seen + length x.found

pub more_same : (x : Search) → IsMore x x
more_same x = record { more = λ n r h. h; marks = λ h. h; long = refl; sum = refl }

-- a search that has more than one with more than a third has more than the third
pub more_then : (x y z : Search) → IsMore x y → IsMore y z → IsMore x z
more_then x y z a b = record {
  more = λ n r h. b.more n r (a.more n r h);
  marks = λ h. b.marks (a.marks h);
  long = b.long ∙ a.long;
  sum = b.sum ∙ a.sum;
}

-- what a search has reached, one with more has reached
pub still_reached : (x y : Search) (p : ℕ) (so : Bool) → IsMore x y → IsReached x.found p so → IsReached y.found p so
still_reached x y p so a h =
    record { number = h.number; one = h.one; there = a.more h.number h.one h.there; point = h.point; same = h.same }

added_marks : (x : Search) (r : ReachedPoint) (m : Mark) → slice_get x.seen r.point ≡ Some m → AreMarks x → AreMarks (added x r m)
added_marks x r m e all p n so there is = by (at_set x.seen r.point (marked m r.is_so) n p there) where
  old : IsReached x.found p so → IsReached (x.found ++ r ∷ []) p so
  old h = record { number = h.number; one = h.one; there = kept_at x.found (r ∷ []) h.number h.one h.there; point = h.point; same = h.same }

  new : p ≡ r.point → (is_marked m so ≡ true) ⊎ (r.is_so ≡ so) → IsReached (x.found ++ r ∷ []) p so
  new at (inl before) = old (all p m so (subst (λ q. slice_get x.seen q ≡ Some m) (sym at) e) before)
  new at (inr same) = record { number = length x.found; one = r; there = last_at x.found r; point = sym at; same = same }

  by : (slice_get x.seen p ≡ Some n) ⊎ ((p ≡ r.point) × (marked m r.is_so ≡ n)) → IsReached (x.found ++ r ∷ []) p so
  by (inl before) = old (all p n so before is)
  by (inr (at, same)) = new at (marked_cases m r.is_so so (subst (λ v. is_marked v so ≡ true) (sym same) is))

added_more : (x : Search) (r : ReachedPoint) (m : Mark) →
    slice_get x.seen r.point ≡ Some m → is_marked m r.is_so ≡ false → IsMore x (added x r m)
added_more x r m e is = record {
  more = λ n s h. kept_at x.found (r ∷ []) n s h;
  marks = added_marks x r m e;
  long = length-set x.seen r.point (marked m r.is_so);
  sum =
      let fewer = fewer_open x.seen r.point m r.is_so e is in
      let longer = length-append x.found (r ∷ []) in
      let one : length (r ∷ []) ≡ 1 = refl in omega (arith, fewer, longer, one);
}

marked_more : (x : Search) (r : ReachedPoint) (m : Mark) → slice_get x.seen r.point ≡ Some m → (b : Bool) → is_marked m r.is_so ≡ b →
    IsMore x (if b then x else added x r m)
marked_more x r m e true is = more_same x
marked_more x r m e false is = added_more x r m e is

arrived_by_more : (x : Search) (r : ReachedPoint) (o : Option Mark) → slice_get x.seen r.point ≡ o → IsMore x (arrived_by o x r)
arrived_by_more x r None e = more_same x
arrived_by_more x r (Some m) e = marked_more x r m e (is_marked m r.is_so) refl

-- an arrival leaves all that was reached
pub arrived_more : (x : Search) (r : ReachedPoint) → IsMore x (arrived x r)
arrived_more x r = arrived_by_more x r (slice_get x.seen r.point) refl

reached_if : (x : Search) (r : ReachedPoint) (m : Mark) → AreMarks x →
    slice_get x.seen r.point ≡ Some m → (b : Bool) → is_marked m r.is_so ≡ b →
    IsReached (if b then x else added x r m).found r.point r.is_so
reached_if x r m all e true is = all r.point m r.is_so e is
reached_if x r m all e false is = record { number = length x.found; one = r; there = last_at x.found r; point = refl; same = refl }

reached_by : (x : Search) (r : ReachedPoint) → AreMarks x → r.point < length x.seen → (o : Option Mark) → slice_get x.seen r.point ≡ o →
    IsReached (arrived_by o x r).found r.point r.is_so
reached_by x r all less None e =
    let there = slice_get-get_or x.seen r.point (record { absent = false; present = false }) less in absurd (cc)
reached_by x r all less (Some m) e = reached_if x r m all e (is_marked m r.is_so) refl

-- a point of the table is reached
pub arrived_there : (x : Search) (r : ReachedPoint) → AreMarks x → r.point < length x.seen → IsReached (arrived x r).found r.point r.is_so
arrived_there x r all less = reached_by x r all less (slice_get x.seen r.point) refl

-- ---- one step more

module _ (g : Graph) (k : ℕ) (f : Fact) where
  still_arrival : (found more : List ReachedPoint) (n : ℕ) (r : ReachedPoint) (a : Option (ℕ × Step)) → IsArrival g k f found n r a →
      IsArrival g k f (found ++ more) n r a
  still_arrival found more n r None h = h
  still_arrival found more n r (Some a) h = record {
    before = h.before;
    from = h.from;
    there = kept_at found more a.0 h.from h.there;
    point = h.point;
    outcome = h.outcome;
    leads = h.leads;
    so = h.so;
  }

  added_arrivals : (x : Search) (r : ReachedPoint) (m : Mark) →
      IsArrival g k f x.found (length x.found) r r.arrival → AreArrivals g k f x.found →
      AreArrivals g k f (added x r m).found
  added_arrivals x r m new all n s there = by (at_push x.found r s n there) where
    by : (slice_get x.found n ≡ Some s) ⊎ ((n ≡ length x.found) × (r ≡ s)) → IsArrival g k f (x.found ++ r ∷ []) n s s.arrival
    by (inl before) = still_arrival x.found (r ∷ []) n s s.arrival (all n s before)
    by (inr (at, same)) =
        let here = subst (λ i. IsArrival g k f (x.found ++ r ∷ []) i r r.arrival) (sym at)
        (still_arrival x.found (r ∷ []) (length x.found) r r.arrival new) in
        subst (λ (t : ReachedPoint). IsArrival g k f (x.found ++ r ∷ []) n t t.arrival) same here

  arrivals_if : (x : Search) (r : ReachedPoint) (m : Mark) →
      IsArrival g k f x.found (length x.found) r r.arrival → AreArrivals g k f x.found →
      (b : Bool) → AreArrivals g k f (if b then x else added x r m).found
  arrivals_if x r m new all true = all
  arrivals_if x r m new all false = added_arrivals x r m new all

  arrivals_by : (x : Search) (r : ReachedPoint) → IsArrival g k f x.found (length x.found) r r.arrival → AreArrivals g k f x.found →
      (o : Option Mark) → AreArrivals g k f (arrived_by o x r).found
  arrivals_by x r new all None = all
  arrivals_by x r new all (Some m) = arrivals_if x r m new all (is_marked m r.is_so)

  -- what is reached by one more step is reached by steps
  pub arrived_arrivals : (x : Search) (r : ReachedPoint) →
      IsArrival g k f x.found (length x.found) r r.arrival → AreArrivals g k f x.found →
      AreArrivals g k f (arrived x r).found
  arrived_arrivals x r new all = arrivals_by x r new all (slice_get x.seen r.point)

  both_more : (so : Bool) (p n : ℕ) (s : Step) (x : Search) → IsMore x (arrived_both so p n s x)
  both_more true p n s x =
      let y = arrived x (reached p true n s) in
      more_then x y (arrived y (reached p false n s)) (arrived_more x (reached p true n s)) (arrived_more y (reached p false n s))
  both_more false p n s x = arrived_more x (reached p false n s)

  both_arrivals : (so : Bool) (p n : ℕ) (r : ReachedPoint) (s : Step) (x : Search) → slice_get x.found n ≡ Some r → s.point ≡ r.point →
      is_outcome (instruction_at g k s.point) s.granted ≡ true → successor (instruction_at g k s.point) s.granted ≡ Some p →
      may_be_after g k f r s ≡ so → AreArrivals g k f x.found → AreArrivals g k f (arrived_both so p n s x).found
  both_arrivals so p n r s x there at outcome leads is all = by so is where
    new : (y : Search) (b : Bool) → slice_get y.found n ≡ Some r → (b ≡ true → may_be_after g k f r s ≡ true) →
        IsArrival g k f y.found (length y.found) (reached p b n s) (Some (n, s))
    new y b here so = record {
      before = slice_get_within y.found n r here;
      from = r;
      there = here;
      point = at;
      outcome = outcome;
      leads = leads;
      so = so;
    }

    without : (y : Search) → slice_get y.found n ≡ Some r → AreArrivals g k f y.found →
        AreArrivals g k f (arrived y (reached p false n s)).found
    without y here all = arrived_arrivals y (reached p false n s) (new y false here (λ h. cc)) all

    by : (b : Bool) → may_be_after g k f r s ≡ b → AreArrivals g k f (arrived_both b p n s x).found
    by true is =
        let y = arrived x (reached p true n s) in
        without y ((arrived_more x (reached p true n s)).more n r there)
        (arrived_arrivals x (reached p true n s) (new x true there (λ h. is)) all)
    by false is = without x there all

  both_reached : (so : Bool) (p n : ℕ) (s : Step) (x : Search) → AreMarks x → p < length x.seen →
      IsReached (arrived_both so p n s x).found p false × (so ≡ true → IsReached (arrived_both so p n s x).found p true)
  both_reached true p n s x all less =
      let r = reached p true n s in
      let y = arrived x r in
      let e = (arrived_more x r).long in (
        arrived_there y (reached p false n s) ((arrived_more x r).marks all) (omega (arith, e, less)),
        λ h. still_reached y (arrived y (reached p false n s)) p true (arrived_more y (reached p false n s)) (arrived_there x r all less),
      )
  both_reached false p n s x all less = (arrived_there x (reached p false n s) all less, λ h. cc)

  led_more : (o : Option ℕ) (b so : Bool) (n : ℕ) (s : Step) (x : Search) → IsMore x (led o b so n s x)
  led_more (Some p) true so n s x = both_more so p n s x
  led_more (Some p) false so n s x = more_same x
  led_more None b so n s x = more_same x

  pub taken_more : (n : ℕ) (r : ReachedPoint) (s : Step) (x : Search) → IsMore x (taken g k f n r s x)
  taken_more n r s x =
      led_more (successor (instruction_at g k s.point) s.granted) (is_outcome (instruction_at g k s.point) s.granted)
      (may_be_after g k f r s) n s x

  led_arrivals : (o : Option ℕ) (b : Bool) (n : ℕ) (r : ReachedPoint) (s : Step) (x : Search) →
      slice_get x.found n ≡ Some r → s.point ≡ r.point →
      is_outcome (instruction_at g k s.point) s.granted ≡ b → successor (instruction_at g k s.point) s.granted ≡ o →
      AreArrivals g k f x.found → AreArrivals g k f (led o b (may_be_after g k f r s) n s x).found
  led_arrivals (Some p) true n r s x there at outcome leads all =
      both_arrivals (may_be_after g k f r s) p n r s x there at outcome leads refl all
  led_arrivals (Some p) false n r s x there at outcome leads all = all
  led_arrivals None b n r s x there at outcome leads all = all

  taken_arrivals : (n : ℕ) (r : ReachedPoint) (s : Step) (x : Search) → slice_get x.found n ≡ Some r → s.point ≡ r.point →
      AreArrivals g k f x.found → AreArrivals g k f (taken g k f n r s x).found
  taken_arrivals n r s x there at all =
      led_arrivals (successor (instruction_at g k s.point) s.granted)
      (is_outcome (instruction_at g k s.point) s.granted) n r s x there at refl refl all

  -- a point is reached without the fact, and with it if it may be so
  abbrev AreReached : Search → ℕ → Bool → Type 0
  AreReached x p so = IsReached x.found p false × (so ≡ true → IsReached x.found p true)

  still_both : (x y : Search) (p : ℕ) (so : Bool) → IsMore x y → AreReached x p so → AreReached y p so
  still_both x y p so a h = (still_reached x y p false a h.0, λ e. still_reached x y p true a (h.1 e))

  led_reached : (o : Option ℕ) (b so : Bool) (p n : ℕ) (s : Step) (x : Search) → b ≡ true → o ≡ Some p → AreMarks x → p < length x.seen →
      AreReached (led o b so n s x) p so
  led_reached (Some q) true so p n s x outcome leads all less =
      let same : q ≡ p = cc in
      subst (λ a. AreReached (arrived_both so a n s x) p so) (sym same) (both_reached so p n s x all less)
  led_reached (Some q) false so p n s x outcome leads all less = cc
  led_reached None b so p n s x outcome leads all less = absurd (cc)

  taken_reached : (n : ℕ) (r : ReachedPoint) (s : Step) (x : Search) (p : ℕ) → is_outcome (instruction_at g k s.point) s.granted ≡ true →
      successor (instruction_at g k s.point) s.granted ≡ Some p → AreMarks x → p < length x.seen →
      AreReached (taken g k f n r s x) p (may_be_after g k f r s)
  taken_reached n r s x p outcome leads all less =
      led_reached (successor (instruction_at g k s.point) s.granted) (is_outcome (instruction_at g k s.point) s.granted)
      (may_be_after g k f r s) p n s x outcome leads all less

  -- ---- all steps from a point

  module _ (n : ℕ) (r : ReachedPoint) (x : Search) where
    abbrev one : Search
    one = taken g k f n r (step r.point true true) x

    abbrev two : Search
    two = taken g k f n r (step r.point true false) one

    abbrev three : Search
    three = taken g k f n r (step r.point false true) two

    abbrev four : Search
    four = taken g k f n r (step r.point false false) three

    to_one : IsMore x one
    to_one = taken_more n r (step r.point true true) x

    to_two : IsMore x two
    to_two = more_then x one two to_one (taken_more n r (step r.point true false) one)

    to_three : IsMore x three
    to_three = more_then x two three to_two (taken_more n r (step r.point false true) two)

    from_three : IsMore three four
    from_three = taken_more n r (step r.point false false) three

    from_two : IsMore two four
    from_two = more_then two three four (taken_more n r (step r.point false true) two) from_three

    from_one : IsMore one four
    from_one = more_then one two four (taken_more n r (step r.point true false) one) from_two

    -- what is reached after a point leaves all that was reached
    pub gone_more : IsMore x (gone_on g k f n r x)
    gone_more = more_then x three four to_three from_three

    -- the arrivals after a point has been followed come from points that were reached
    pub gone_arrivals : slice_get x.found n ≡ Some r → AreArrivals g k f x.found → AreArrivals g k f (gone_on g k f n r x).found
    gone_arrivals there all =
        taken_arrivals n r (step r.point false false) three (to_three.more n r there) refl
        (taken_arrivals n r (step r.point false true) two (to_two.more n r there) refl
        (taken_arrivals n r (step r.point true false) one (to_one.more n r there) refl
        (taken_arrivals n r (step r.point true true) x there refl all)))

    -- what follows a point is reached
    pub gone_followed : AreMarks x → IsFollowed g k f (gone_on g k f n r x) r
    gone_followed all true true p outcome leads less =
        let e = gone_more.long in
        still_both one four p (may_be_after g k f r (step r.point true true)) from_one
        (taken_reached n r (step r.point true true) x p outcome leads all (omega (arith, e, less)))
    gone_followed all true false p outcome leads less =
        let e = from_one.long in
        still_both two four p (may_be_after g k f r (step r.point true false)) from_two
        (taken_reached n r (step r.point true false) one p outcome leads (to_one.marks all) (omega (arith, e, less)))
    gone_followed all false true p outcome leads less =
        let e = from_two.long in
        still_both three four p (may_be_after g k f r (step r.point false true)) from_three
        (taken_reached n r (step r.point false true) two p outcome leads (to_two.marks all) (omega (arith, e, less)))
    gone_followed all false false p outcome leads less =
        let e = from_three.long in
        taken_reached n r (step r.point false false) three p outcome leads (to_three.marks all) (omega (arith, e, less))

  -- what was followed in a search is followed in one with more
  pub still_followed : (x y : Search) (r : ReachedPoint) → IsMore x y → IsFollowed g k f x r → IsFollowed g k f y r
  still_followed x y r a h granted gives p outcome leads less =
      let e = a.long in
      still_both x y p (may_be_after g k f r (step r.point granted gives)) a (h granted gives p outcome leads (omega (arith, e, less)))
