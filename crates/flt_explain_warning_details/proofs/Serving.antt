-- The first comment that passes a test: its place, and what comes before it.
use Rattle.std.proofs.Common.{◌≡◌, ℕ, zero, suc, ◌<◌, ◌+◌, Bool, true, false, not, ◌&&◌, ◌||◌, ◌==◌, cond}
use Rattle.std.proofs.Common.{List, [], ◌∷◌, ◌++◌, length, take, get_or, Option, Some, None, refl, ap, ◌∙◌, sym, arith}
use Rattle.std.proofs.lemmas.Bool.Decides.{nat_tests}
use Rattle.std.proofs.lemmas.List.{take_more, length-take-le}
use Rattle.std.proofs.lemmas.List.Folds.{list_any_more}
use Rattle.std.specs.Prelude.{option_map, if◌then◌else◌}
use Rattle.std.specs.BTreeMap.{BTreeMap, get}
use Rattle.std.specs.BTreeSet.{BTreeSet, contains}
use Rattle.std.specs.List.{find, list_any, slice_get}
use Rattle.std.specs.Option.{is_some}
use Rattle.std.specs.Ordering.{nat_cmp, is_eq}
use Rattle.flt_explain_warnings.specs.declared.allowance.Allowance.{Allowance}
use Rattle.flt_explain_warnings.specs.declared.warning.Warning.{Warning}
use Rattle.flt_explain_warning_details.specs.Allowing.{serves, is_first, is_needed}
use Rattle.flt_explain_warning_details.specs.Details.{idle_at, idle_by}
use Rattle.flt_explain_warning_details.specs.Indexed.{number_of, key_cmp, is_key, key_of, is_for, place_of, placed, is_place}
use Rattle.flt_explain_warning_details.specs.Indexed.{idle_unless_needed, ArePlaces, IsAdded, AreNeeded}
use Rattle.flt_explain_warning_details.specs.Parsed.{Parsed}
use Rattle.flt_explain_warning_details.proofs.Keys.{is_key_of, cmp_is, same_place, for_key}

module _ (p : Allowance → Bool) where
  -- ---- the comment at a place

  -- the comment at a place, if there is one
  abbrev at_place : List Allowance → Option ℕ → Option Allowance
  at_place cs None = None
  at_place cs (Some i) = slice_get cs i

  further : (a : Allowance) (cs : List Allowance) (o : Option ℕ) → at_place (a ∷ cs) (option_map suc o) ≡ at_place cs o
  further a cs None = refl
  further a cs (Some i) = refl

  found_by : (a : Allowance) (cs : List Allowance) (b : Bool) → find p cs ≡ at_place cs (place_of p cs) →
      cond b (Some a) (find p cs) ≡ at_place (a ∷ cs) (if b then Some 0 else option_map suc (place_of p cs))
  found_by a cs true h = refl
  found_by a cs false h = h ∙ sym (further a cs (place_of p cs))

  found : (cs : List Allowance) → find p cs ≡ at_place cs (place_of p cs)
  found [] = refl
  found (a ∷ cs) = found_by a cs (p a) (found cs)

  -- the first comment is at its place
  pub found_at : (cs : List Allowance) (i : ℕ) → place_of p cs ≡ Some i → slice_get cs i ≡ find p cs
  found_at cs i h = ap (at_place cs) (sym h) ∙ sym (found cs)

  -- there is none where there is no place
  pub found_nowhere : (cs : List Allowance) → place_of p cs ≡ None → None ≡ find p cs
  found_nowhere cs h = ap (at_place cs) (sym h) ∙ sym (found cs)

  -- ---- one more comment

  placed_further : (b : Bool) (n : ℕ) (o : Option ℕ) → option_map suc (placed b n o) ≡ placed b (suc n) (option_map suc o)
  placed_further b n (Some i) = refl
  placed_further true n None = refl
  placed_further false n None = refl

  more_by : (a b : Allowance) (cs : List Allowance) (c : Bool) → place_of p (cs ++ b ∷ []) ≡ placed (p b) (length cs) (place_of p cs) →
      (if c then Some 0 else option_map suc (place_of p (cs ++ b ∷ [])))
      ≡ placed (p b) (suc (length cs)) (if c then Some 0 else option_map suc (place_of p cs))
  more_by a b cs true h = refl
  more_by a b cs false h = ap (option_map suc) h ∙ placed_further (p b) (length cs) (place_of p cs)

  -- the place of the first among some comments and one more
  pub place_more : (cs : List Allowance) (b : Allowance) → place_of p (cs ++ b ∷ []) ≡ placed (p b) (length cs) (place_of p cs)
  place_more [] b = refl
  place_more (a ∷ cs) b = more_by a b cs (p a) (place_more cs b)

  -- ---- whether a comment is the first

  sucs : (i j : ℕ) → (suc j == suc i) ≡ (j == i)
  sucs i j = grind (arith, nat_tests)

  suc_none : (j : ℕ) → (suc j == 0) ≡ false
  suc_none j = grind (arith, nat_tests)

  none_first : (i : ℕ) → (0 == suc i) ≡ false
  none_first i = grind (arith, nat_tests)

  none_at : (i : ℕ) (o : Option ℕ) → is_place (suc i) (option_map suc o) ≡ is_place i o
  none_at i None = refl
  none_at i (Some j) = sucs i j

  at_none : (o : Option ℕ) → is_place 0 (option_map suc o) ≡ false
  at_none None = refl
  at_none (Some j) = suc_none j

  all_pass : (x : Bool) → x ≡ (x && true)
  all_pass true = refl
  all_pass false = refl

  none_passes : (x : Bool) → false ≡ (x && false)
  none_passes true = refl
  none_passes false = refl

  here_by : (o : Option ℕ) (b : Bool) → is_place 0 (if b then Some 0 else option_map suc o) ≡ b
  here_by o true = refl
  here_by o false = at_none o

  later_by : (i : ℕ) (a b : Allowance) (cs : List Allowance) (c : Bool) →
      is_place i (place_of p cs) ≡ (p b && not (list_any p (take i cs))) →
      is_place (suc i) (if c then Some 0 else option_map suc (place_of p cs)) ≡ (p b && not (c || list_any p (take i cs)))
  later_by i a b cs true h = none_first i ∙ none_passes (p b)
  later_by i a b cs false h = none_at i (place_of p cs) ∙ h

  -- a comment is the first where it passes and none before it does
  pub first_at : (cs : List Allowance) (i : ℕ) (b : Allowance) → slice_get cs i ≡ Some b →
      is_place i (place_of p cs) ≡ (p b && not (list_any p (take i cs)))
  first_at [] i b h = absurd (cc)
  first_at (a ∷ cs) zero b h =
      let e : a ≡ b = cc in here_by (place_of p cs) (p a) ∙ ap p e ∙ all_pass (p b)
  first_at (a ∷ cs) (suc i) b h = later_by i a b cs (p a) (first_at cs i b h)

-- ---- whether a comment is needed

same_any : (f g : Warning → Bool) → ((w : Warning) → f w ≡ g w) → (ws : List Warning) → list_any f ws ≡ list_any g ws
same_any f g h [] = refl
same_any f g h (w ∷ ws) = ap (λ (b : Bool). b || list_any f ws) (h w) ∙ ap (λ (b : Bool). g w || b) (same_any f g h ws)

-- a comment is needed where its place is among those that are
pub needed_at : (x : Parsed) (comments : List Allowance) (ws : List Warning) (places : BTreeSet ℕ) (i : ℕ) (a : Allowance) →
    AreNeeded x comments ws places → slice_get comments i ≡ Some a →
    contains nat_cmp places i ≡ is_needed x ws (take i comments) a
needed_at x comments ws places i a needed h =
    needed i
    ∙ same_any (λ w. is_place i (place_of (serves x w) comments)) (is_first x (take i comments) a)
    (λ w. first_at (serves x w) comments i a h) ws

-- one more warning makes the comment needed that is the first to allow it
pub more_needed : (x : Parsed) (comments : List Allowance) (ws : List Warning) (i : ℕ) (w : Warning) (place : Option ℕ)
    (before after : BTreeSet ℕ) → i < length ws → w ≡ get_or ws i w → place ≡ place_of (serves x w) comments →
    AreNeeded x comments (take i ws) before →
    ((n : ℕ) → contains nat_cmp after n ≡ (contains nat_cmp before n || is_place n place)) →
    AreNeeded x comments (take (i + 1) ws) after
more_needed x comments ws i w place before after within item is was added = λ n.
    let test : Warning → Bool = λ (v : Warning). is_place n (place_of (serves x v) comments) in
    added n
    ∙ ap (λ (o : Option ℕ). contains nat_cmp before n || is_place n o) is
    ∙ ap (λ (b : Bool). b || test w) (was n)
    ∙ ap (λ (v : Warning). list_any test (take i ws) || test v) item
    ∙ sym (list_any_more test ws i w within)

-- ---- the places by key

some_none : (o : Option ℕ) → is_some o ≡ false → o ≡ None
some_none None h = refl
some_none (Some i) h = absurd (cc)

unplaced : (i : ℕ) (o : Option ℕ) → o ≡ placed false i o
unplaced i None = refl
unplaced i (Some j) = refl

stays : (b : Bool) (i : ℕ) (o : Option ℕ) → is_some o ≡ true → o ≡ placed b i o
stays b i None h = absurd (cc)
stays b i (Some j) h = refl

module _ (m : BTreeMap (ℕ × ℕ) ℕ) (p q : ℕ × ℕ) (i : ℕ) where
  kept_by : (b : Bool) → is_key p q ≡ b → is_some (get key_cmp m p) ≡ true → get key_cmp m q ≡ placed b i (get key_cmp m q)
  kept_by true e h = stays true i (get key_cmp m q) (ap is_some (same_place m p q e) ∙ h)
  kept_by false e h = unplaced i (get key_cmp m q)

  -- a place that is there stays
  pub kept : is_some (get key_cmp m p) ≡ true → get key_cmp m q ≡ placed (is_key p q) i (get key_cmp m q)
  kept h = kept_by (is_key p q) refl h

  put_by : (b : Bool) → is_key p q ≡ b → get key_cmp m p ≡ None → cond b (Some i) (get key_cmp m q) ≡ placed b i (get key_cmp m q)
  put_by true e h = sym (ap (placed true i) (same_place m p q e ∙ h))
  put_by false e h = unplaced i (get key_cmp m q)

  -- a place that is new is put in
  pub put : (n : BTreeMap (ℕ × ℕ) ℕ) → is_some (get key_cmp m p) ≡ false →
      get key_cmp n q ≡ cond (is_eq (key_cmp p q)) (Some i) (get key_cmp m q) →
      get key_cmp n q ≡ placed (is_key p q) i (get key_cmp m q)
  put n h e =
      e ∙ ap (λ (b : Bool). cond b (Some i) (get key_cmp m q)) (cmp_is p q)
      ∙ put_by (is_key p q) refl (some_none (get key_cmp m p) h)

-- by the key of a comment its place is put in for each line and kind that it allows
pub by_key : (m n : BTreeMap (ℕ × ℕ) ℕ) (i : ℕ) (c : Allowance) (k : ℕ × ℕ) → Some k ≡ key_of c →
    ((q : ℕ × ℕ) → get key_cmp n q ≡ placed (is_key k q) i (get key_cmp m q)) → IsAdded m n c i
by_key m n i c k is added = λ line kind.
    let q : ℕ × ℕ = (line, number_of kind) in
    added q
    ∙ ap (λ (o : Option (ℕ × ℕ)). placed (is_key_of o q) i (get key_cmp m q)) is
    ∙ sym (ap (λ (b : Bool). placed b i (get key_cmp m q)) (for_key line kind c))

-- a comment without a key adds nothing
pub no_key : (m : BTreeMap (ℕ × ℕ) ℕ) (i : ℕ) (c : Allowance) → None ≡ key_of c → IsAdded m m c i
no_key m i c is = λ line kind.
    let q : ℕ × ℕ = (line, number_of kind) in
    unplaced i (get key_cmp m q)
    ∙ ap (λ (o : Option (ℕ × ℕ)). placed (is_key_of o q) i (get key_cmp m q)) is
    ∙ sym (ap (λ (b : Bool). placed b i (get key_cmp m q)) (for_key line kind c))

-- the places of the first of some comments and of one more
pub more_places : (comments : List Allowance) (i : ℕ) (c : Allowance) (before after : BTreeMap (ℕ × ℕ) ℕ) →
    i < length comments → c ≡ get_or comments i c → ArePlaces before (take i comments) → IsAdded before after c i →
    ArePlaces after (take (i + 1) comments)
more_places comments i c before after within item was added = λ line kind.
    let test : Allowance → Bool = is_for line kind in
    let many : length (take i comments) ≡ i = length-take-le i comments (omega arith) in
    added line kind
    ∙ ap (placed (test c) i) (was line kind)
    ∙ ap (λ (n : ℕ). placed (test c) n (place_of test (take i comments))) (sym many)
    ∙ sym (place_more test (take i comments) c)
    ∙ ap (λ (a : Allowance). place_of test (take i comments ++ a ∷ [])) item
    ∙ sym (ap (place_of test) (take_more comments i c within))

-- ---- what is said of a comment

idle_by_need : (x : Parsed) (comments : List Allowance) (ws : List Warning) (places : BTreeSet ℕ) (i : ℕ) (o : Option Allowance) →
    AreNeeded x comments ws places → slice_get comments i ≡ o →
    idle_unless_needed x.files (contains nat_cmp places i) o ≡ idle_by x ws (take i comments) o
idle_by_need x comments ws places i None needed h = refl
idle_by_need x comments ws places i (Some a) needed h =
    ap (λ (b : Bool). idle_unless_needed x.files b (Some a)) (needed_at x comments ws places i a needed h)

-- it is said unless its place is among those that are needed
pub idle_by_place : (x : Parsed) (comments : List Allowance) (ws : List Warning) (places : BTreeSet ℕ) (i : ℕ) →
    AreNeeded x comments ws places →
    idle_unless_needed x.files (contains nat_cmp places i) (slice_get comments i) ≡ idle_at x comments ws i
idle_by_place x comments ws places i needed = idle_by_need x comments ws places i (slice_get comments i) needed refl
