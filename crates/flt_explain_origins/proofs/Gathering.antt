-- Findings that are put together one after the other are put together as all at once.
use Rattle.std.proofs.Common.{◌≡◌, ◌≤◌, ◌<◌, ◌+◌, ℕ, zero, suc, Bool, true, false, List, [], ◌∷◌}
use Rattle.std.proofs.Common.{◌++◌, length, take, get_or, arith, ap, sym, refl, subst, ◌∙◌}
use Rattle.std.specs.Bool.{beq}
use Rattle.std.specs.Option.{option_eq}
use Rattle.std.specs.Prelude.{Option, Some, None, filter, not, ◌&&◌, ◌==◌, nat_eq, slice_set, slice_index_or, option_map, if◌then◌else◌}
use Rattle.std.proofs.lemmas.Bool.{eqb-true, eq-eqb, and_parts}
use Rattle.std.proofs.lemmas.List.{append-nil, take_more, length-take-le}
use Rattle.std.proofs.lemmas.List.Elements.{filter-append}
use Rattle.std.proofs.lemmas.List.Sums.{length-filter, count_by-le-length}
use Rattle.std.proofs.lemmas.Option.{none-some, same_Some}
use Rattle.flt_rules.specs.Rule.{number}
use Rattle.flt_abs.specs.Outcome.{agrees}
use Rattle.flt_explain.specs.Subjects.{place}
use Rattle.flt_explain_origins.specs.Gathering.{common_by, common_of, same, is_of, added, joined, place_in}
use Rattle.flt_explain_origins.specs.Grouping.{is_like, is_unlike, share, group, groups_in}
use Rattle.flt_explain_origins.specs.declared.grouping.Common.{Common}
use Rattle.flt_explain_origins.specs.declared.grouping.Group.{Group}
use Rattle.flt_explain_origins.specs.declared.grouping.TracedFinding.{TracedFinding}
use Rattle.flt_explain_origins.specs.declared.origin.Cause.{Cause}
use Rattle.flt_explain_origins.specs.declared.origin.Cause.TheVariants as cause

-- ---- one more finding

-- nothing is left of nothing
pub none_left : (turns : List TracedFinding) → groups_in turns [] ≡ []
none_left [] = refl
none_left (turn ∷ turns) = refl

fewer : (p : TracedFinding → Bool) (xs : List TracedFinding) → length (filter p xs) ≤ length xs
fewer p xs = let e = length-filter p xs in let h = count_by-le-length p xs in omega (arith, e, h)

module _ (turns : List TracedFinding) (y x : TracedFinding) (ys : List TracedFinding) where
  abbrev Rest : Type 0
  Rest = groups_in turns (filter (is_unlike y) ys ++ x ∷ []) ≡ added x (groups_in turns (filter (is_unlike y) ys))

  kept : (b : Bool) → is_like y x ≡ b → filter (is_like y) (ys ++ x ∷ []) ≡ filter (is_like y) ys ++ (if b then x ∷ [] else [])
  kept b e = filter-append (is_like y) ys (x ∷ []) ∙ ap (λ b. filter (is_like y) ys ++ (if b then x ∷ [] else [])) e

  left : (b : Bool) → is_like y x ≡ b →
      filter (is_unlike y) (ys ++ x ∷ []) ≡ filter (is_unlike y) ys ++ (if not b then x ∷ [] else [])
  left b e = filter-append (is_unlike y) ys (x ∷ []) ∙ ap (λ b. filter (is_unlike y) ys ++ (if not b then x ∷ [] else [])) e

  goes_in : (b : Bool) → is_like y x ≡ b → added x (group y (filter (is_like y) ys) ∷ groups_in turns (filter (is_unlike y) ys))
      ≡ (if b then group y (filter (is_like y) ys ++ x ∷ []) ∷ groups_in turns (filter (is_unlike y) ys)
      else group y (filter (is_like y) ys) ∷ added x (groups_in turns (filter (is_unlike y) ys)))
  goes_in b e = ap
      (λ b. if b then group y (filter (is_like y) ys ++ x ∷ []) ∷ groups_in turns (filter (is_unlike y) ys)
      else group y (filter (is_like y) ys) ∷ added x (groups_in turns (filter (is_unlike y) ys)))
      e

  one_step : Rest → (b : Bool) → is_like y x ≡ b →
      group y (filter (is_like y) (ys ++ x ∷ [])) ∷ groups_in turns (filter (is_unlike y) (ys ++ x ∷ []))
      ≡ added x (group y (filter (is_like y) ys) ∷ groups_in turns (filter (is_unlike y) ys))
  one_step rest true e =
      ap (λ zs. group y zs ∷ groups_in turns (filter (is_unlike y) (ys ++ x ∷ []))) (kept true e)
      ∙ ap (λ zs. group y (filter (is_like y) ys ++ x ∷ []) ∷ groups_in turns zs)
      (left true e ∙ append-nil (filter (is_unlike y) ys))
      ∙ sym (goes_in true e)
  one_step rest false e =
      ap (λ zs. group y zs ∷ groups_in turns (filter (is_unlike y) (ys ++ x ∷ [])))
      (kept false e ∙ append-nil (filter (is_like y) ys))
      ∙ ap (λ zs. group y (filter (is_like y) ys) ∷ groups_in turns zs) (left false e)
      ∙ ap (λ gs. group y (filter (is_like y) ys) ∷ gs) rest ∙ sym (goes_in false e)

-- the groups of findings with one more are those without it, to which it is added
pub more : (turns xs : List TracedFinding) (x : TracedFinding) → length xs < length turns →
    groups_in turns (xs ++ x ∷ []) ≡ added x (groups_in turns xs)
more [] xs x h = absurd (omega (arith, h))
more (turn ∷ turns) [] x h = ap (λ gs. group x [] ∷ gs) (none_left turns)
more (turn ∷ turns) (y ∷ ys) x h =
    one_step turns y x ys
    (more turns (filter (is_unlike y) ys) x (let less = fewer (is_unlike y) ys in omega (arith, less, h)))
    (is_like y x) refl

-- the same of the next finding
pub more_taken : (found : List TracedFinding) (i : ℕ) (d : TracedFinding) → i < length found →
    groups_in found (take (i + 1) found) ≡ added (get_or found i d) (groups_in found (take i found))
more_taken found i d h =
    ap (groups_in found) (take_more found i d h)
    ∙ more found (take i found) (get_or found i d)
    (let e = length-take-le i found (omega (arith, h)) in omega (arith, e, h))

-- ---- what findings have in common says which are alike

flip : (a b : ℕ) → (a == b) ≡ (b == a)
flip a b = by_test (a == b) (b == a) refl refl
  where
    by_test : (p q : Bool) → (a == b) ≡ p → (b == a) ≡ q → p ≡ q
    by_test true true e f = refl
    by_test false false e f = refl
    by_test true false e f = sym (eq-eqb b a (sym (eqb-true a b e))) ∙ f
    by_test false true e f = sym e ∙ eq-eqb a b (sym (eqb-true b a f))

none_of : (a b c : Bool) → (a && (b && (c && false))) ≡ false
none_of true true true = refl
none_of true true false = refl
none_of true false c = refl
none_of false b c = refl

-- whether both are known, and the same
abbrev pub agree : Option Common → Option Common → Bool
agree None o = false
agree (Some k) o = is_of k o

with_all : (a b c d e f g h : Bool) → a ≡ e → b ≡ f → c ≡ g → d ≡ h → (a && (b && (c && d))) ≡ (e && (f && (g && h)))
with_all a b c d e f g h p q r s =
    ap (λ x. x && (b && (c && d))) p ∙ ap (λ x. e && (x && (c && d))) q ∙ ap (λ x. e && (f && (x && d))) r
    ∙ ap (λ x. e && (f && (g && x))) s

answers : (a b : Bool) → beq a b ≡ agrees b a
answers true true = refl
answers true false = refl
answers false true = refl
answers false false = refl

nothing : (x y : TracedFinding) → false ≡ ((y.finding.callback == x.finding.callback) && ((number y.finding.rule == number x.finding.rule)
    && ((place y.finding.subject == place x.finding.subject) && false)))
nothing x y =
    sym (none_of (y.finding.callback == x.finding.callback) (number y.finding.rule == number x.finding.rule)
    (place y.finding.subject == place x.finding.subject))

turned : (x y : TracedFinding) (d h : Bool) → d ≡ h → ((x.finding.callback == y.finding.callback)
    && ((number x.finding.rule == number y.finding.rule) && ((place x.finding.subject == place y.finding.subject) && d)))
    ≡ ((y.finding.callback == x.finding.callback) && ((number y.finding.rule == number x.finding.rule)
    && ((place y.finding.subject == place x.finding.subject) && h)))
turned x y d h e =
    with_all (x.finding.callback == y.finding.callback) (number x.finding.rule == number y.finding.rule)
    (place x.finding.subject == place y.finding.subject) d (y.finding.callback == x.finding.callback)
    (number y.finding.rule == number x.finding.rule) (place y.finding.subject == place x.finding.subject) h
    (flip x.finding.callback y.finding.callback) (flip (number x.finding.rule) (number y.finding.rule))
    (flip (place x.finding.subject) (place y.finding.subject)) e

like_by : (x y : TracedFinding) (c d : Option Cause) → agree (common_by x c) (common_by y d)
    ≡ ((y.finding.callback == x.finding.callback) && ((number y.finding.rule == number x.finding.rule)
    && ((place y.finding.subject == place x.finding.subject) && share d c)))
like_by x y None None = nothing x y
like_by x y None (Some cause.Entry) = nothing x y
like_by x y None (Some (cause.Made s)) = nothing x y
like_by x y (Some cause.Entry) None = nothing x y
like_by x y (Some (cause.Made s)) None = nothing x y
like_by x y (Some cause.Entry) (Some cause.Entry) = turned x y true true refl
like_by x y (Some cause.Entry) (Some (cause.Made s)) = turned x y false false refl
like_by x y (Some (cause.Made s)) (Some cause.Entry) = turned x y false false refl
like_by x y (Some (cause.Made s)) (Some (cause.Made u)) =
    turned x y ((s.point == u.point) && beq s.granted u.granted) ((u.point == s.point) && agrees u.granted s.granted)
    (ap (λ b. b && beq s.granted u.granted) (flip s.point u.point) ∙ ap (λ b. (u.point == s.point) && b) (answers s.granted u.granted))

-- what a finding has in common with others says which are like it
alike : (x y : TracedFinding) (k : Common) → common_of x ≡ Some k → is_of k (common_of y) ≡ is_like y x
alike x y k e = sym (ap (λ o. agree o (common_of y)) e) ∙ like_by x y x.cause y.cause

-- none is like one whose origin isn't known
unlike : (x y : TracedFinding) → common_of x ≡ None → is_like y x ≡ false
unlike x y e = sym (like_by x y x.cause y.cause) ∙ ap (λ o. agree o (common_of y)) e

-- ---- where it joins

-- a group of its own behind the others, if none is like it
alone : (x : TracedFinding) (gs : List Group) → ((y : TracedFinding) → is_like y x ≡ false) → added x gs ≡ gs ++ group x [] ∷ []
alone x [] h = refl
alone x (g ∷ gs) h =
    ap (λ b. if b then group g.first (g.others ++ x ∷ []) ∷ gs else g ∷ added x gs) (h g.first) ∙ ap (λ hs. g ∷ hs) (alone x gs h)

-- a finding that has no group begins one
pub unknown : (x : TracedFinding) (gs : List Group) → common_of x ≡ None → added x gs ≡ gs ++ group x [] ∷ []
unknown x gs e = alone x gs (λ y. unlike x y e)

module _ (x : TracedFinding) (k : Common) (e : common_of x ≡ Some k) (g : Group) (gs : List Group) where
  -- it goes into the first group or on, by whether that is of this
  into : (b : Bool) → is_of k (common_of g.first) ≡ b →
      added x (g ∷ gs) ≡ (if b then group g.first (g.others ++ x ∷ []) ∷ gs else g ∷ added x gs)
  into b t =
      ap (λ b. if b then group g.first (g.others ++ x ∷ []) ∷ gs else g ∷ added x gs) (sym (alike x g.first k e) ∙ t)

  first_place : (b : Bool) → is_of k (common_of g.first) ≡ b →
      (if b then Some 0 else option_map suc (place_in k gs)) ≡ place_in k (g ∷ gs)
  first_place b t = sym (ap (λ b. if b then Some 0 else option_map suc (place_in k gs)) t)

  joins_on : (i : ℕ) → ((j : ℕ) → place_in k gs ≡ Some j → added x gs ≡ joined gs j x) → (o : Option ℕ) → place_in k gs ≡ o →
      option_map suc o ≡ Some i → g ∷ added x gs ≡ joined (g ∷ gs) i x
  joins_on i rest None f found = absurd (none-some i found)
  joins_on i rest (Some j) f found = ap (λ hs. g ∷ hs) (rest j f) ∙ ap (λ n. joined (g ∷ gs) n x) (same_Some (suc j) i found)

  joins_here : (i : ℕ) → ((j : ℕ) → place_in k gs ≡ Some j → added x gs ≡ joined gs j x) → place_in k (g ∷ gs) ≡ Some i →
      (b : Bool) → is_of k (common_of g.first) ≡ b → added x (g ∷ gs) ≡ joined (g ∷ gs) i x
  joins_here i rest h true t = into true t ∙ ap (λ n. joined (g ∷ gs) n x) (same_Some 0 i (first_place true t ∙ h))
  joins_here i rest h false t = into false t ∙ joins_on i rest (place_in k gs) refl (first_place false t ∙ h)

  begins_on : (place_in k gs ≡ None → added x gs ≡ gs ++ group x [] ∷ []) → (o : Option ℕ) → place_in k gs ≡ o →
      option_map suc o ≡ None → added x gs ≡ gs ++ group x [] ∷ []
  begins_on rest None f found = rest f
  begins_on rest (Some j) f found = absurd (none-some (suc j) (sym found))

  begins_here : (place_in k gs ≡ None → added x gs ≡ gs ++ group x [] ∷ []) → place_in k (g ∷ gs) ≡ None → (b : Bool) →
      is_of k (common_of g.first) ≡ b → added x (g ∷ gs) ≡ g ∷ gs ++ group x [] ∷ []
  begins_here rest h true t = absurd (none-some 0 (sym h ∙ sym (first_place true t)))
  begins_here rest h false t =
      into false t ∙ ap (λ hs. g ∷ hs) (begins_on rest (place_in k gs) refl (first_place false t ∙ h))

-- it joins the group at the place that is kept
pub joins : (x : TracedFinding) (k : Common) → common_of x ≡ Some k → (gs : List Group) (i : ℕ) → place_in k gs ≡ Some i →
    added x gs ≡ joined gs i x
joins x k e [] i h = absurd (none-some i h)
joins x k e (g ∷ gs) i h = joins_here x k e g gs i (λ j f. joins x k e gs j f) h (is_of k (common_of g.first)) refl

-- it begins a group where no place is kept
pub begins : (x : TracedFinding) (k : Common) → common_of x ≡ Some k → (gs : List Group) → place_in k gs ≡ None →
    added x gs ≡ gs ++ group x [] ∷ []
begins x k e [] h = refl
begins x k e (g ∷ gs) h = begins_here x k e g gs (λ f. begins x k e gs f) h (is_of k (common_of g.first)) refl

-- what a list lends is written back
pub written : (gs : List Group) (i : ℕ) (g : Group) (x : TracedFinding) → i < length gs → g ≡ slice_index_or gs i g →
    slice_set gs i (group g.first (g.others ++ x ∷ [])) ≡ joined gs i x
written [] i g x within e = absurd (omega (arith, within))
written (h ∷ gs) zero g x within e = ap (λ (f : Group). group f.first (f.others ++ x ∷ []) ∷ gs) e
written (h ∷ gs) (suc i) g x within e = ap (λ hs. h ∷ hs) (written gs i g x (omega (arith, within)) e)

-- nothing is where no group is
pub outside : (gs : List Group) (i : ℕ) (x : TracedFinding) → (i < length gs → ⊥) → gs ≡ joined gs i x
outside [] i x h = refl
outside (g ∷ gs) zero x h = absurd (h (omega arith))
outside (g ∷ gs) (suc i) x h = ap (λ hs. g ∷ hs) (outside gs i x (λ w. h (omega (arith, w))))

-- ---- the places that are kept

-- they stay where a finding joins a group
pub stay : (q : Common) (gs : List Group) (i : ℕ) (x : TracedFinding) → place_in q (joined gs i x) ≡ place_in q gs
stay q [] i x = refl
stay q (g ∷ gs) zero x = refl
stay q (g ∷ gs) (suc i) x = ap (λ o. if is_of q (common_of g.first) then Some 0 else option_map suc o) (stay q gs i x)

-- the place of a group behind the others, where none before it is of this
abbrev pub or_last : Option ℕ → Bool → ℕ → Option ℕ
or_last (Some i) b n = Some i
or_last None b n = if b then Some n else None

next : (o : Option ℕ) (b : Bool) (n : ℕ) → option_map suc (or_last o b n) ≡ or_last (option_map suc o) b (suc n)
next (Some i) b n = refl
next None true n = refl
next None false n = refl

place_behind : (q : Common) (x : TracedFinding) (g : Group) (gs : List Group) →
    place_in q (gs ++ group x [] ∷ []) ≡ or_last (place_in q gs) (is_of q (common_of x)) (length gs) → (b : Bool) →
    (if b then Some 0 else option_map suc (place_in q (gs ++ group x [] ∷ [])))
    ≡ or_last (if b then Some 0 else option_map suc (place_in q gs)) (is_of q (common_of x)) (suc (length gs))
place_behind q x g gs rest true = refl
place_behind q x g gs rest false = ap (option_map suc) rest ∙ next (place_in q gs) (is_of q (common_of x)) (length gs)

behind : (q : Common) (x : TracedFinding) (gs : List Group) →
    place_in q (gs ++ group x [] ∷ []) ≡ or_last (place_in q gs) (is_of q (common_of x)) (length gs)
behind q x [] = refl
behind q x (g ∷ gs) = place_behind q x g gs (behind q x gs) (is_of q (common_of g.first))

no_last : (o : Option ℕ) (n : ℕ) → or_last o false n ≡ o
no_last (Some i) n = refl
no_last None n = refl

of_none : (q : Common) (o : Option Common) → o ≡ None → is_of q o ≡ false
of_none q None e = refl
of_none q (Some k) e = absurd (none-some k (sym e))

-- they stay where a finding begins a group whose origin isn't known
pub stay_behind : (q : Common) (x : TracedFinding) (gs : List Group) → common_of x ≡ None →
    place_in q (gs ++ group x [] ∷ []) ≡ place_in q gs
stay_behind q x gs e =
    behind q x gs ∙ ap (λ b. or_last (place_in q gs) b (length gs)) (of_none q (common_of x) e) ∙ no_last (place_in q gs) (length gs)

-- ---- what is the same in common

same_number : (m n : Option ℕ) → option_eq nat_eq m n ≡ true → m ≡ n
same_number None None h = refl
same_number (Some m) (Some n) h = ap Some (eqb-true m n h)
same_number None (Some n) h = absurd (cc h)
same_number (Some m) None h = absurd (cc h)

same_answer : (a b : Bool) → beq a b ≡ true → a ≡ b
same_answer true true h = refl
same_answer false false h = refl
same_answer true false h = absurd (cc h)
same_answer false true h = absurd (cc h)

abbrev common : ℕ → ℕ → ℕ → Option ℕ → Bool → Common
common c r s p g = record { callback = c; rule = r; subject = s; point = p; granted = g }

same_is : (k q : Common) → same k q ≡ true → k ≡ q
same_is k q h =
    let callback = and_parts (k.callback == q.callback) _ h in
    let rule = and_parts (k.rule == q.rule) _ callback.1 in
    let subject = and_parts (k.subject == q.subject) _ rule.1 in
    let rest = and_parts (option_eq nat_eq k.point q.point) _ subject.1 in
    ap (λ c. common c k.rule k.subject k.point k.granted) (eqb-true k.callback q.callback callback.0)
    ∙ ap (λ r. common q.callback r k.subject k.point k.granted) (eqb-true k.rule q.rule rule.0)
    ∙ ap (λ s. common q.callback q.rule s k.point k.granted) (eqb-true k.subject q.subject subject.0)
    ∙ ap (λ p. common q.callback q.rule q.subject p k.granted) (same_number k.point q.point rest.0)
    ∙ ap (λ g. common q.callback q.rule q.subject q.point g) (same_answer k.granted q.granted rest.1)

both : (k q : Common) → k ≡ q → same k q ≡ same q k
both k q e = subst (λ z. same k z ≡ same z k) e refl

-- one more is kept where a finding begins a group of which none was before
pub one_more : (q : Common) (x : TracedFinding) (k : Common) (gs : List Group) → common_of x ≡ Some k → place_in k gs ≡ None →
    place_in q (gs ++ group x [] ∷ []) ≡ (if same k q then Some (length gs) else place_in q gs)
one_more q x k gs e h =
    behind q x gs ∙ ap (λ o. or_last (place_in q gs) (is_of q o) (length gs)) e ∙ by_test (same k q) (same q k) refl refl
  where
    by_test : (a b : Bool) → same k q ≡ a → same q k ≡ b →
        or_last (place_in q gs) (same q k) (length gs) ≡ (if same k q then Some (length gs) else place_in q gs)
    by_test true b t u =
        let none = subst (λ z. place_in z gs ≡ None) (same_is k q t) h in
        ap (λ o. or_last o (same q k) (length gs)) none
        ∙ ap (λ c. or_last None c (length gs)) (sym (both k q (same_is k q t)) ∙ t)
        ∙ sym (ap (λ c. if c then Some (length gs) else place_in q gs) t)
    by_test false true t u = absurd (cc (sym t ∙ both k q (sym (same_is q k u)) ∙ u))
    by_test false false t u =
        ap (λ c. or_last (place_in q gs) c (length gs)) u ∙ no_last (place_in q gs) (length gs)
        ∙ sym (ap (λ c. if c then Some (length gs) else place_in q gs) t)
