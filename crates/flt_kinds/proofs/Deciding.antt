-- What the cells of both kinds say of each context.
use Rattle.std.proofs.Common.{arith, ◌≡◌, ◌∙◌, ◌<◌, ◌≤◌, ℕ, zero, suc, Bool, true, false, true≢false, List, [], Option}
use Rattle.std.proofs.Common.{Some, None, is_none, is_some, unwrap_or, length, Contains, ap, sym, refl, subst, ⊎_elim}
use Rattle.std.proofs.lemmas.List.Elements.{Contains-append_left, Contains-append_right, Contains-append_cases, Contains-push}
use Rattle.flt_rules.specs.declared.call.Anchor.{Anchor}
use Rattle.flt_rules.specs.declared.call.Anchor.TheVariants.{Stream, Instance}
use Rattle.flt_graph.specs.Graph.{points_at}
use Rattle.flt_graph.specs.declared.graph.Graph.{Graph}
use Rattle.flt_kinds.specs.Cells.{Cells, cell}
use Rattle.flt_kinds.specs.Deciding.{both, begun_twice, set_elsewhere, given_twice, first_of, mixed_at, mixed_below}
use Rattle.flt_kinds.specs.Deciding.{mixed_in, has_setter, is_needed, only, needed_below, needed_in}
use Rattle.flt_kinds.specs.Flows.{spot}
use Rattle.flt_kinds.specs.Kinds.{IsThere, MaySet, IsBegun, IsGiven, IsNeeded, AreKinds, KindsHold, IsMixed}
use Rattle.flt_kinds.specs.Kinds.{allocated, of_stream, of_instance}
use Rattle.flt_kinds.specs.Settled.{IsJust, IsComplete, IsSettled}
use Rattle.flt_kinds.specs.Sites.{begun_at, given_at}
use Rattle.flt_kinds.specs.declared.mixed.MixedContext.{MixedContext}
use Rattle.flt_kinds.specs.declared.sites.ContextSite.{ContextSite}
use Rattle.flt_kinds.specs.declared.slot.Slot.{Slot}
use Rattle.flt_kinds.specs.declared.slot.Spot.{Spot}
use Rattle.flt_kinds.proofs.Closing.{is_callback, equal_or_below}

-- ---- one answer at most

some_slot : (a b : Slot) → Some a ≡ Some b → a ≡ b
some_slot a b e = ap (λ (o : Option Slot). unwrap_or o a) e

begun_once : (g : Graph) (site : Spot) (s t : Slot) → IsBegun g site s → IsBegun g site t → s ≡ t
begun_once g site s t a b = some_slot s t (sym a.begins ∙ b.begins)

is_stream : Anchor → Bool
is_stream Stream = true
is_stream Instance = false

not_both : Stream ≡ Instance → ⊥
unfolding is_stream
not_both e = true≢false (ap is_stream e)

held_apart : (g : Graph) (listed : List Spot) (m : MixedContext) → KindsHold g listed → IsMixed g m → ⊥
held_apart g listed _ k (allocated {site = site} {stream = a} {instance = b} {slot = slot} begun stream instance) =
    k.of_stream site a slot begun stream (k.of_instance site b slot begun instance)
held_apart g listed _ k (of_stream {site = site} {instance = b} {slot = slot} given instance) =
    not_both (k.given site b slot Stream Instance given instance)
held_apart g listed _ k (of_instance {site = site} {stream = a} {slot = slot} given stream) =
    not_both (sym (k.given site a slot Instance Stream given stream))

-- a context that is mixed has no kinds
pub exclusive : (g : Graph) (listed : List Spot) (m : MixedContext) → AreKinds g listed → IsMixed g m → ⊥
unfolding AreKinds
exclusive g listed m k x = held_apart g listed m k x

-- ---- one statement

-- what a cell has may be set there, and what may be set there is in a cell
cell_may : (g : Graph) (anchor : Anchor) (cells : Cells) (s : Slot) (at : Spot) → IsSettled g anchor cells → cell cells s ≡ Some at →
    MaySet g anchor s at
unfolding IsJust
cell_may g anchor cells s at settled e = settled.just s at e

may_cell : (g : Graph) (anchor : Anchor) (cells : Cells) (s : Slot) (at : Spot) → IsSettled g anchor cells → MaySet g anchor s at →
    is_none (cell cells s) ≡ false
unfolding IsComplete
may_cell g anchor cells s at settled may = settled.complete s at may

some_spot : (a b : Spot) → Some a ≡ Some b → a ≡ b
some_spot a b e = ap (λ (o : Option Spot). unwrap_or o a) e

some_mixed : (a b : MixedContext) → Some a ≡ Some b → a ≡ b
some_mixed a b e = ap (λ (o : Option MixedContext). unwrap_or o a) e

mixture : Spot → Spot → Spot → MixedContext
mixture at a b = record { site = at; stream = a; instance = b }

nothing_mixed : (m : MixedContext) → None ≡ Some m → ⊥
nothing_mixed m e = true≢false (ap is_none e)

both_is : (g : Graph) (at : Spot) (x y : Option Spot) (m : MixedContext) →
    ((a b : Spot) → x ≡ Some a → y ≡ Some b → IsMixed g (mixture at a b)) → both at x y ≡ Some m → IsMixed g m
unfolding mixture
both_is g at (Some a) (Some b) m h e = subst (λ x. IsMixed g x) (some_mixed (mixture at a b) m e) (h a b refl refl)
both_is g at (Some a) None m h e = absurd (nothing_mixed m e)
both_is g at None y m h e = absurd (nothing_mixed m e)

both_none : (at : Spot) (x y : Option Spot) → both at x y ≡ None → is_none x ≡ false → is_none y ≡ false → ⊥
unfolding mixture
both_none at (Some a) (Some b) e h k = nothing_mixed (mixture at a b) (sym e)
both_none at (Some a) None e h k = true≢false k
both_none at None y e h k = true≢false h

some_if : (x : Option Spot) → is_none x ≡ false → is_some x ≡ true
some_if (Some a) h = refl
some_if None h = absurd (true≢false h)

some_cell : (cells : Cells) (slot : Slot) (x : Option Spot) → cell cells slot ≡ x → is_some x ≡ true →
    (t : Slot) × ((at : Spot) × ((Some slot ≡ Some t) × (cell cells t ≡ Some at)))
some_cell cells slot None q h = absurd (true≢false (sym h))
some_cell cells slot (Some at) q h = (slot, (at, (refl, q)))

module _ (g : Graph) (streams instances : Cells) (s : IsSettled g Stream streams) (i : IsSettled g Instance instances) where
  begun_is : (at : Spot) (found : Option Slot) (m : MixedContext) → IsThere g at → begun_at g at.callback at.point ≡ found →
      begun_twice streams instances at found ≡ Some m → IsMixed g m
  unfolding mixture
  begun_is at None m there is e = absurd (nothing_mixed m e)
  begun_is at (Some slot) m there is e =
      both_is g at (cell streams slot) (cell instances slot) m
      (λ a b x y. allocated (record { there = there; begins = is }) (cell_may g Stream streams slot a s x)
      (cell_may g Instance instances slot b i y)) e

  elsewhere_is : (at : Spot) (anchor : Anchor) (slot : Slot) (m : MixedContext) → IsGiven g anchor at slot →
      set_elsewhere streams instances at anchor slot ≡ Some m → IsMixed g m
  unfolding mixture
  elsewhere_is at Stream slot m given e =
      both_is g at (Some at) (cell instances slot) m
      (λ a b x y. subst (λ z. IsMixed g (mixture at z b)) (some_spot at a x) (of_stream given (cell_may g Instance instances slot b i y))) e
  elsewhere_is at Instance slot m given e =
      both_is g at (cell streams slot) (Some at) m
      (λ a b x y. subst (λ z. IsMixed g (mixture at a z)) (some_spot at b y) (of_instance given (cell_may g Stream streams slot a s x))) e

  given_is : (at : Spot) (outcome : Bool) (found : Option ContextSite) (m : MixedContext) → IsThere g at →
      given_at g at.callback at.point outcome ≡ found → given_twice streams instances at found ≡ Some m → IsMixed g m
  given_is at outcome None m there is e = absurd (nothing_mixed m e)
  given_is at outcome (Some found) m there is e =
      elsewhere_is at found.anchor found.slot m (record { there = there; outcome = outcome; gives = is }) e

  first_is : (x y : Option MixedContext) (m : MixedContext) → (x ≡ Some m → IsMixed g m) → (y ≡ Some m → IsMixed g m) →
      first_of x y ≡ Some m → IsMixed g m
  first_is (Some x) y m h k e = h e
  first_is None y m h k e = k e

  statement_is : (callback point : ℕ) (m : MixedContext) → point < points_at g callback →
      mixed_at g streams instances callback point ≡ Some m → IsMixed g m
  unfolding mixed_at
  statement_is callback point m there e =
      let begun = begun_twice streams instances (spot callback point) (begun_at g callback point) in
      let granted = given_twice streams instances (spot callback point) (given_at g callback point true) in
      let failed = given_twice streams instances (spot callback point) (given_at g callback point false) in
      first_is begun (first_of granted failed) m (begun_is (spot callback point) (begun_at g callback point) m there refl)
      (λ f. first_is granted failed m (given_is (spot callback point) true (given_at g callback point true) m there refl)
      (given_is (spot callback point) false (given_at g callback point false) m there refl) f) e

  below_is : (callback n : ℕ) (m : MixedContext) → n ≤ points_at g callback →
      mixed_below g streams instances callback n ≡ Some m → IsMixed g m
  below_is callback zero m low e = absurd (nothing_mixed m e)
  below_is callback (suc n) m low e =
      first_is (mixed_below g streams instances callback n) (mixed_at g streams instances callback n) m
      (below_is callback n m (omega (arith, low))) (statement_is callback n m (omega (arith, low))) e

  in_is : (n : ℕ) (m : MixedContext) → mixed_in g streams instances n ≡ Some m → IsMixed g m
  in_is zero m e = absurd (nothing_mixed m e)
  in_is (suc n) m e =
      first_is (mixed_in g streams instances n) (mixed_below g streams instances n (points_at g n)) m (in_is n m) (below_is n
      (points_at g n) m (omega arith)) e

  -- ---- no mixture

  left_none : (x y : Option MixedContext) → first_of x y ≡ None → x ≡ None
  left_none None y e = refl
  left_none (Some m) y e = e

  right_none : (x y : Option MixedContext) → first_of x y ≡ None → y ≡ None
  right_none None y e = e
  right_none (Some m) y e = absurd (nothing_mixed m (sym e))

  below_none : (callback n p : ℕ) → mixed_below g streams instances callback n ≡ None → p < n →
      mixed_at g streams instances callback p ≡ None
  below_none callback zero p e less = absurd (omega (arith, less))
  below_none callback (suc n) p e less =
      let first = mixed_below g streams instances callback n in
      let last = mixed_at g streams instances callback n in
      ⊎_elim (λ q. subst (λ k. mixed_at g streams instances callback k ≡ None) (sym q) (right_none first last e))
      (λ low. below_none callback n p (left_none first last e) low) (equal_or_below p n less)

  in_none : (n callback p : ℕ) → mixed_in g streams instances n ≡ None → callback < n → p < points_at g callback →
      mixed_at g streams instances callback p ≡ None
  in_none zero callback p e less there = absurd (omega (arith, less))
  in_none (suc n) callback p e less there =
      let first = mixed_in g streams instances n in
      let last = mixed_below g streams instances n (points_at g n) in
      ⊎_elim (λ q. below_none callback (points_at g callback) p
      (subst (λ k. mixed_below g streams instances k (points_at g k) ≡ None) (sym q) (right_none first last e)) there)
      (λ low. in_none n callback p (left_none first last e) low there) (equal_or_below callback n less)

  none_at : (at : Spot) → mixed_in g streams instances (length g.callbacks) ≡ None → IsThere g at →
      mixed_at g streams instances at.callback at.point ≡ None
  none_at at e there = in_none (length g.callbacks) at.callback at.point e (is_callback g at.callback at.point there) there

  begun_pure : (at a b : Spot) (slot : Slot) → mixed_at g streams instances at.callback at.point ≡ None → IsBegun g at slot →
      MaySet g Stream slot a → MaySet g Instance slot b → ⊥
  unfolding mixed_at
  begun_pure at a b slot e begun x y =
      both_none at (cell streams slot) (cell instances slot)
      (subst (λ o. begun_twice streams instances at o ≡ None) begun.begins
      (left_none (begun_twice streams instances at (begun_at g at.callback at.point))
      (first_of (given_twice streams instances at (given_at g at.callback at.point true))
      (given_twice streams instances at (given_at g at.callback at.point false))) e))
      (may_cell g Stream streams slot a s x) (may_cell g Instance instances slot b i y)

  begun : Spot → Option MixedContext
  begun at = begun_twice streams instances at (begun_at g at.callback at.point)

  granted : Spot → Option MixedContext
  granted at = given_twice streams instances at (given_at g at.callback at.point true)

  failed : Spot → Option MixedContext
  failed at = given_twice streams instances at (given_at g at.callback at.point false)

  given_none : (at : Spot) (outcome : Bool) → mixed_at g streams instances at.callback at.point ≡ None →
      given_twice streams instances at (given_at g at.callback at.point outcome) ≡ None
  unfolding mixed_at begun granted failed
  given_none at true e = left_none (granted at) (failed at) (right_none (begun at) (first_of (granted at) (failed at)) e)
  given_none at false e = right_none (granted at) (failed at) (right_none (begun at) (first_of (granted at) (failed at)) e)

  given_pure : (at a : Spot) (slot : Slot) (gave anchor : Anchor) → mixed_at g streams instances at.callback at.point ≡ None →
      IsGiven g gave at slot → MaySet g anchor slot a → gave ≡ anchor
  given_pure at a slot Stream Stream e given may = refl
  given_pure at a slot Instance Instance e given may = refl
  given_pure at a slot Stream Instance e given may =
      absurd (both_none at (Some at) (cell instances slot)
      (subst (λ o. given_twice streams instances at o ≡ None) given.gives (given_none at given.outcome e)) refl
      (may_cell g Instance instances slot a i may))
  given_pure at a slot Instance Stream e given may =
      absurd (both_none at (cell streams slot) (Some at)
      (subst (λ o. given_twice streams instances at o ≡ None) given.gives (given_none at given.outcome e))
      (may_cell g Stream streams slot a s may) refl)

  -- ---- the list

  some_there : (found : Option Slot) → has_setter instances found ≡ true →
      (slot : Slot) × ((at : Spot) × ((found ≡ Some slot) × (cell instances slot ≡ Some at)))
  some_there None e = absurd (true≢false (sym e))
  some_there (Some slot) e = some_cell instances slot (cell instances slot) refl e

  needed_is : (callback point : ℕ) → point < points_at g callback → is_needed g instances callback point ≡ true →
      IsNeeded g (spot callback point)
  unfolding is_needed
  needed_is callback point there e =
      let found = some_there (begun_at g callback point) e in
      record {
        slot = found.0;
        at = found.1.0;
        begun = record { there = there; begins = found.1.1.0 };
        sets = cell_may g Instance instances found.0 found.1.0 i found.1.1.1;
      }

  only_is : (b : Bool) (at found : Spot) → Contains (only b at) found → (b ≡ true) × (at ≡ found)
  only_is true at found (zero, less, e) = (refl, e)
  only_is true at found (suc k, less, e) = absurd (omega (arith, less))
  only_is false at found (k, less, e) = absurd (omega (arith, less))

  below_needed : (callback n : ℕ) (found : Spot) → n ≤ points_at g callback → Contains (needed_below g instances callback n) found →
      IsNeeded g found
  below_needed callback zero found low (k, less, e) = absurd (omega (arith, less))
  below_needed callback (suc n) found low has =
      ⊎_elim (below_needed callback n found (omega (arith, low)))
      (λ last. let is = only_is (is_needed g instances callback n) (spot callback n) found last in
      subst (λ x. IsNeeded g x) is.1 (needed_is callback n (omega (arith, low)) is.0))
      (Contains-append_cases (needed_below g instances callback n) (only (is_needed g instances callback n) (spot callback n)) found has)

  in_needed : (n : ℕ) (found : Spot) → Contains (needed_in g instances n) found → IsNeeded g found
  in_needed zero found (k, less, e) = absurd (omega (arith, less))
  in_needed (suc n) found has =
      ⊎_elim (in_needed n found) (below_needed n (points_at g n) found (omega arith))
      (Contains-append_cases (needed_in g instances n) (needed_below g instances n (points_at g n)) found has)

  only_has : (b : Bool) (at : Spot) → b ≡ true → Contains (only b at) at
  only_has true at e = Contains-push [] at
  only_has false at e = absurd (true≢false (sym e))

  has_below : (callback n p : ℕ) → p < n → is_needed g instances callback p ≡ true → Contains (needed_below g instances callback n)
      (spot callback p)
  has_below callback zero p less e = absurd (omega (arith, less))
  has_below callback (suc n) p less e =
      ⊎_elim (λ q. Contains-append_right (needed_below g instances callback n) (only (is_needed g instances callback n) (spot callback n))
      (spot callback p) (subst (λ k. Contains (only (is_needed g instances callback k) (spot callback k)) (spot callback p)) q
      (only_has (is_needed g instances callback p) (spot callback p) e)))
      (λ low. Contains-append_left (needed_below g instances callback n) (only (is_needed g instances callback n) (spot callback n))
      (spot callback p) (has_below callback n p low e)) (equal_or_below p n less)

  has_in : (n callback p : ℕ) → callback < n → p < points_at g callback → is_needed g instances callback p ≡ true →
      Contains (needed_in g instances n) (spot callback p)
  has_in zero callback p less there e = absurd (omega (arith, less))
  has_in (suc n) callback p less there e =
      ⊎_elim (λ q. Contains-append_right (needed_in g instances n) (needed_below g instances n (points_at g n)) (spot callback p)
      (subst (λ k. Contains (needed_below g instances k (points_at g k)) (spot callback p)) q
      (has_below callback (points_at g callback) p there e)))
      (λ low. Contains-append_left (needed_in g instances n) (needed_below g instances n (points_at g n)) (spot callback p)
      (has_in n callback p low there e)) (equal_or_below callback n less)

  needs : (at by : Spot) (slot : Slot) → IsBegun g at slot → MaySet g Instance slot by → is_needed g instances at.callback at.point ≡ true
  unfolding is_needed
  needs at by slot begun may =
      subst (λ o. has_setter instances o ≡ true) (sym begun.begins) (some_if (cell instances slot)
      (may_cell g Instance instances slot by i may))

  not_stream : (site at : Spot) (slot : Slot) → mixed_in g streams instances (length g.callbacks) ≡ None → IsBegun g site slot →
      MaySet g Stream slot at → IsNeeded g site → ⊥
  not_stream site at slot e begun may needed =
      begun_pure site at needed.at slot (none_at site e begun.there) begun may
      (subst (λ x. MaySet g Instance x needed.at) (begun_once g site needed.slot slot needed.begun begun) needed.sets)

  -- what is found mixed in the cells of both kinds is mixed
  pub mixed_is : (m : MixedContext) → mixed_in g streams instances (length g.callbacks) ≡ Some m → IsMixed g m
  mixed_is m e = in_is (length g.callbacks) m e

  -- where nothing is found mixed, each context has its kind
  pub kinds_are : mixed_in g streams instances (length g.callbacks) ≡ None → AreKinds g (needed_in g instances (length g.callbacks))
  unfolding AreKinds
  kinds_are e = record {
    of_stream = λ site at slot begun may has. not_stream site at slot e begun may (in_needed (length g.callbacks) site has);
    of_instance = λ site at slot begun may. has_in (length g.callbacks) site.callback site.point
        (is_callback g site.callback site.point begun.there) begun.there (needs site at slot begun may);
    given = λ site at slot gave anchor given may. given_pure site at slot gave anchor (none_at site e given.there) given may;
    needed = λ found has. in_needed (length g.callbacks) found has;
  }
