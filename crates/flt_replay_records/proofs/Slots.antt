-- The slots of a lock's holders: what is left where one comes or is emptied, and who stands in the way.
use Rattle.std.proofs.Common.{◌≡◌, ◌≢◌, ℕ, cond, is_some, zero, suc, ◌+◌, Bool, true, false, not, ◌&&◌}
use Rattle.std.proofs.Common.{◌||◌, ◌==◌, if◌then◌else◌, List, [], ◌∷◌, ◌++◌, Option, Some, None, filter, length}
use Rattle.std.proofs.Common.{take, ◌-◌, IsTrue, get_or, set, refl, sym, ap, subst, ⊎_elim, ◌∙◌, arith}
use Rattle.std.proofs.lemmas.Bool.{cases_eq, cond-true, cond-false}
use Rattle.std.proofs.lemmas.Bool.Decides.{nat_tests}
use Rattle.std.proofs.lemmas.List.{append-nil, get_or_push}
use Rattle.std.specs.BTreeMap.{is_at}
use Rattle.std.specs.List.{list_all, slice_get}
use Rattle.std.specs.Map.{lookup}
use Rattle.std.specs.Ordering.{nat_cmp}
use Rattle.flt_rules.specs.Held.{same_access, are_compatible}
use Rattle.flt_rules.specs.declared.held.Access.{Access}
use Rattle.flt_rules.specs.declared.held.Access.TheVariants.{Exclusive, Shared}
use Rattle.flt_model.specs.Locks.{may_join, is_free_for}
use Rattle.flt_model.specs.declared.parts.Holder.{Holder}
use Rattle.flt_replay_records.proofs.Keys.{at_self, at_other}
use Rattle.flt_replay_records.specs.Slots.{left, is_own, is_owned, is_slot_of, may_join_slot}
use Rattle.flt_replay_records.specs.Slots.{how_many, no_other, IsOnly, ArePlaces}

-- ---- what is left

left_append : (xs ys : List (Option Holder)) → left (xs ++ ys) ≡ left xs ++ left ys
left_append [] ys = refl
left_append (None ∷ xs) ys = left_append xs ys
left_append (Some h ∷ xs) ys = ap (λ (l : List Holder). h ∷ l) (left_append xs ys)

-- one holder more
pub left_push : (xs : List (Option Holder)) (h : Holder) → left (xs ++ Some h ∷ []) ≡ left xs ++ h ∷ []
left_push xs h = left_append xs (Some h ∷ [])

-- ---- tests by cases

apart : {b : Bool} → b ≡ true → b ≡ false → ⊥
apart holds fails = absurd (cc)

same_itself : (access : Access) → same_access access access ≡ true
same_itself Exclusive = refl
same_itself Shared = refl

-- ---- the slots of one activation that holds the lock so

module _ (access : Access) (a : ℕ) where
  abbrev others : Holder → Bool
  others h = not (is_own access a h)

  keeps : (h : Holder) (holders : List Holder) → is_own access a h ≡ false → filter others (h ∷ holders) ≡ h ∷ filter others holders
  keeps h holders e = rw e refl

  drops : (h : Holder) (holders : List Holder) → is_own access a h ≡ true → filter others (h ∷ holders) ≡ filter others holders
  drops h holders e = rw e refl

  -- where no slot is its, nothing goes
  pub none_goes : (slots : List (Option Holder)) → IsOnly access a slots None → filter others (left slots) ≡ left slots
  none_goes [] none = refl
  none_goes (None ∷ slots) none = none_goes slots (λ p. none (suc p))
  none_goes (Some h ∷ slots) none =
      keeps h (left slots) (none 0) ∙ ap (λ (l : List Holder). h ∷ l) (none_goes slots (λ p. none (suc p)))

  later_only : (slot : Option Holder) (slots : List (Option Holder)) (q : ℕ) → IsOnly access a (slot ∷ slots) (Some (suc q)) →
      IsOnly access a slots (Some q)
  later_only slot slots q only = (only.0, λ p other. only.1 (suc p) (λ e. other (omega (arith, e))))

  -- where only one slot is its, that one goes
  pub one_goes : (slots : List (Option Holder)) (q : ℕ) → IsOnly access a slots (Some q) →
      left (set slots q None) ≡ filter others (left slots)
  one_goes [] q only = absurd (cc)
  one_goes (None ∷ slots) zero only = absurd (cc)
  one_goes (Some h ∷ slots) zero only =
      sym (drops h (left slots) only.0 ∙ none_goes slots (λ p. only.1 (suc p) (λ e. omega (arith, e))))
  one_goes (None ∷ slots) (suc q) only = one_goes slots q (later_only None slots q only)
  one_goes (Some h ∷ slots) (suc q) only =
      ap (λ (l : List Holder). h ∷ l) (one_goes slots q (later_only (Some h) slots q only))
      ∙ sym (keeps h (left slots) (only.1 0 (λ e. omega (arith, e))))

  -- no slot is its after that
  pub none_after : (slots : List (Option Holder)) (q : ℕ) → IsOnly access a slots (Some q) → IsOnly access a (set slots q None) None
  none_after [] q only p = absurd (cc)
  none_after (s ∷ slots) zero only zero = refl
  none_after (s ∷ slots) zero only (suc p) = only.1 (suc p) (λ e. omega (arith, e))
  none_after (s ∷ slots) (suc q) only zero = only.1 0 (λ e. omega (arith, e))
  none_after (s ∷ slots) (suc q) only (suc p) = none_after slots q (later_only s slots q only) p

-- ---- another activation, or another way to hold the lock

-- the slot is not such a holder's
pub is_other : (access other : Access) (a b : ℕ) (slot : Option Holder) → is_owned access a slot ≡ true →
    (same_access access other && (a == b)) ≡ false → is_owned other b slot ≡ false
is_other access other a b None own differ = refl
is_other Exclusive Exclusive a b (Some h) own differ = grind (arith, nat_tests)
is_other Exclusive Shared a b (Some h) own differ = grind (arith, nat_tests)
is_other Shared Exclusive a b (Some h) own differ = grind (arith, nat_tests)
is_other Shared Shared a b (Some h) own differ = grind (arith, nat_tests)

from_own : (access : Access) (a : ℕ) (h : Holder) → is_own access a h ≡ true → (h.activation ≡ a) × (same_access access h.access ≡ true)
from_own Exclusive a h own = (grind (arith, nat_tests), grind (arith, nat_tests))
from_own Shared a h own = (grind (arith, nat_tests), grind (arith, nat_tests))

same_is : (access kind : Access) → same_access access kind ≡ true → access ≡ kind
same_is Exclusive Exclusive e = refl
same_is Shared Shared e = refl
same_is Exclusive Shared e = absurd (cc)
same_is Shared Exclusive e = absurd (cc)

-- ---- how many hold the lock so

counts : (access : Access) (h : Holder) (holders : List Holder) → same_access access h.access ≡ true →
    how_many access (h ∷ holders) ≡ suc (how_many access holders)
counts access h holders e = rw e (omega arith)

skips : (access : Access) (h : Holder) (holders : List Holder) → same_access access h.access ≡ false →
    how_many access (h ∷ holders) ≡ how_many access holders
skips access h holders e = rw e (omega arith)

more_of : (access : Access) (h : Holder) (xs ys : List Holder) (n : ℕ) → how_many access xs ≡ n + how_many access ys →
    how_many access (h ∷ xs) ≡ n + how_many access (h ∷ ys)
more_of access h xs ys n e = omega arith

-- one less where the slot is emptied
one_less : (access : Access) (a : ℕ) (slots : List (Option Holder)) (q : ℕ) → IsOnly access a slots (Some q) →
    how_many access (left slots) ≡ 1 + how_many access (left (set slots q None))
one_less access a [] q only = absurd (cc)
one_less access a (None ∷ slots) zero only = absurd (cc)
one_less access a (Some h ∷ slots) zero only = counts access h (left slots) (from_own access a h only.0).1 ∙ omega arith
one_less access a (None ∷ slots) (suc q) only = one_less access a slots q (later_only access a None slots q only)
one_less access a (Some h ∷ slots) (suc q) only =
    more_of access h (left slots) (left (set slots q None)) 1 (one_less access a slots q (later_only access a (Some h) slots q only))

turned : (access other : Access) → same_access access other ≡ false → same_access other access ≡ false
turned Exclusive Exclusive d = d
turned Exclusive Shared d = refl
turned Shared Exclusive d = refl
turned Shared Shared d = d

-- as many of the other kind
same_others : (access other : Access) (a : ℕ) (slots : List (Option Holder)) (q : ℕ) → same_access access other ≡ false →
    is_owned access a (get_or slots q None) ≡ true → how_many other (left (set slots q None)) ≡ how_many other (left slots)
same_others access other a [] q differ own = absurd (cc)
same_others access other a (None ∷ slots) zero differ own = absurd (cc)
same_others access other a (Some h ∷ slots) zero differ own =
    let is : access ≡ h.access = same_is access h.access (from_own access a h own).1 in
    sym (skips other h (left slots) (subst (λ (kind : Access). same_access other kind ≡ false) is (turned access other differ)))
same_others access other a (None ∷ slots) (suc q) differ own = same_others access other a slots q differ own
same_others access other a (Some h ∷ slots) (suc q) differ own =
    ap (λ (n : ℕ). (if same_access other h.access then 1 else 0) + n) (same_others access other a slots q differ own)

-- ---- where a slot is emptied

emptied : (access : Access) (b : ℕ) (slots : List (Option Holder)) (q p : ℕ) → is_owned access b (get_or slots p None) ≡ false →
    is_owned access b (get_or (set slots q None) p None) ≡ false
emptied access b [] q p fails = fails
emptied access b (s ∷ slots) zero zero fails = refl
emptied access b (s ∷ slots) zero (suc p) fails = fails
emptied access b (s ∷ slots) (suc q) zero fails = fails
emptied access b (s ∷ slots) (suc q) (suc p) fails = emptied access b slots q p fails

stays : (slots : List (Option Holder)) (q p : ℕ) → (p ≡ q → ⊥) → get_or (set slots q None) p None ≡ get_or slots p None
stays [] q p other = refl
stays (s ∷ slots) zero zero other = absurd (other refl)
stays (s ∷ slots) zero (suc p) other = refl
stays (s ∷ slots) (suc q) zero other = refl
stays (s ∷ slots) (suc q) (suc p) other = stays slots q p (λ e. other (ap suc e))

-- the slots of another holder
others_stay : (access : Access) (b : ℕ) (slots : List (Option Holder)) (q : ℕ) (o : Option ℕ) →
    is_owned access b (get_or slots q None) ≡ false → IsOnly access b slots o → IsOnly access b (set slots q None) o
others_stay access b slots q None fails only = λ p. emptied access b slots q p (only p)
others_stay access b slots q (Some r) fails only = (
  ap (is_owned access b) (stays slots q r (λ (e : r ≡ q).
      apart (subst (λ (n : ℕ). is_owned access b (get_or slots n None) ≡ true) e only.0) fails)) ∙ only.0,
  λ p other. emptied access b slots q p (only.1 p other),
)

-- ---- the slots and one more

pushed : (access : Access) (b : ℕ) (h : Holder) → is_own access b h ≡ false → (slots : List (Option Holder)) (p : ℕ) →
    is_owned access b (get_or (slots ++ Some h ∷ []) p None) ≡ is_owned access b (get_or slots p None)
pushed access b h fails [] zero = fails
pushed access b h fails [] (suc p) = refl
pushed access b h fails (s ∷ slots) zero = refl
pushed access b h fails (s ∷ slots) (suc p) = pushed access b h fails slots p

elsewhere : (access : Access) (b : ℕ) (h : Holder) (slots : List (Option Holder)) →
    ((p : ℕ) → is_owned access b (get_or slots p None) ≡ false) → (p : ℕ) → (p ≡ length slots → ⊥) →
    is_owned access b (get_or (slots ++ Some h ∷ []) p None) ≡ false
elsewhere access b h [] fails zero other = absurd (other refl)
elsewhere access b h [] fails (suc p) other = refl
elsewhere access b h (s ∷ slots) fails zero other = fails 0
elsewhere access b h (s ∷ slots) fails (suc p) other = elsewhere access b h slots (λ r. fails (suc r)) p (λ e. other (ap suc e))

how_many_push : (access : Access) (holders : List Holder) (h : Holder) →
    how_many access (holders ++ h ∷ []) ≡ how_many access holders + (if same_access access h.access then 1 else 0)
how_many_push access [] h = omega arith
how_many_push access (x ∷ holders) h = let e = how_many_push access holders h in omega arith

own_number : (n : ℕ) → ((n == n) && true) ≡ true
own_number n = grind (arith, nat_tests)

not_one : (access : Access) (a b : ℕ) → a ≢ b → (same_access access access && (a == b)) ≡ false
not_one access a b ne = rw (same_itself access) (grind (arith, nat_tests))

not_number : (access : Access) (h : Holder) (b : ℕ) → h.activation ≢ b → is_own access b h ≡ false
not_number access h b ne = let e : (h.activation == b) ≡ false = grind (arith, nat_tests) in rw e refl

and-false : (b : Bool) → (b && false) ≡ false
and-false true = refl
and-false false = refl

-- ---- the places, where one of them is given up

module _ (access : Access) (a q : ℕ) (slots : List (Option Holder)) (places after : List (ℕ × ℕ))
    (are : ArePlaces access slots places) (was : lookup (is_at (nat_cmp a)) places ≡ Some q) where
  only_it : IsOnly access a slots (Some q)
  only_it = subst (IsOnly access a slots) was (are.each a)

  -- that slot's holder is gone
  pub emptied_left : left (set slots q None) ≡ filter (λ (h : Holder). not (is_own access a h)) (left slots)
  emptied_left = one_goes access a slots q only_it

  -- the places of those that hold it in the other way stay
  pub emptied_others : (other : Access) (others : List (ℕ × ℕ)) → same_access access other ≡ false → ArePlaces other slots others →
      ArePlaces other (set slots q None) others
  emptied_others other others differ theirs = record {
    each = λ b.
        others_stay other b slots q (lookup (is_at (nat_cmp b)) others)
        (is_other access other a b (get_or slots q None) only_it.0 (rw differ refl)) (theirs.each b);
    counted = theirs.counted ∙ sym (same_others access other a slots q differ only_it.0);
  }

  module _ (updated : (b : ℕ) → lookup (is_at (nat_cmp b)) after ≡ cond (is_at (nat_cmp a) b) None (lookup (is_at (nat_cmp b)) places))
      (less : length after + 1 ≡ length places) where
    each_after : (b : ℕ) → IsOnly access b (set slots q None) (lookup (is_at (nat_cmp b)) after)
    each_after b =
        ⊎_elim (λ (e : a ≡ b).
        subst (IsOnly access b (set slots q None))
        (sym (updated b ∙ cond-true (is_at (nat_cmp a) b) None (lookup (is_at (nat_cmp b)) places)
        (subst (λ (n : ℕ). is_at (nat_cmp a) n ≡ true) e (at_self a))))
        (subst (λ (n : ℕ). IsOnly access n (set slots q None) None) e (none_after access a slots q only_it)))
        (λ (ne : a ≢ b).
        subst (IsOnly access b (set slots q None))
        (sym (updated b ∙ cond-false (is_at (nat_cmp a) b) None (lookup (is_at (nat_cmp b)) places) (at_other a b (λ e. ne (sym e)))))
        (others_stay access b slots q (lookup (is_at (nat_cmp b)) places)
        (is_other access access a b (get_or slots q None) only_it.0 (not_one access a b ne)) (are.each b)))
        (cases_eq a b)

    -- the places without that one
    pub emptied_places : ArePlaces access (set slots q None) after
    emptied_places = record {
      each = each_after;
      counted = let l = one_less access a slots q only_it in let k = are.counted in omega arith;
    }

-- ---- one holder more

module _ (slots : List (Option Holder)) (h : Holder) where
  abbrev more : List (Option Holder)
  more = slots ++ Some h ∷ []

  how_many_more : (access : Access) →
      how_many access (left more) ≡ how_many access (left slots) + (if same_access access h.access then 1 else 0)
  how_many_more access = ap (how_many access) (left_push slots h) ∙ how_many_push access (left slots) h

  module _ (other : Access) (b : ℕ) (not_its : is_own other b h ≡ false) where
    only_more : (o : Option ℕ) → IsOnly other b slots o → IsOnly other b more o
    only_more None only = λ p. pushed other b h not_its slots p ∙ only p
    only_more (Some r) only = (pushed other b h not_its slots r ∙ only.0, λ p ne. pushed other b h not_its slots p ∙ only.1 p ne)

  -- the places of those that hold it in the other way stay
  pub others_more : (other : Access) (others : List (ℕ × ℕ)) → same_access other h.access ≡ false → ArePlaces other slots others →
      ArePlaces other more others
  others_more other others differ theirs = record {
    each = λ b. only_more other b (rw differ (and-false (h.activation == b))) (lookup (is_at (nat_cmp b)) others) (theirs.each b);
    counted = theirs.counted ∙ sym (how_many_more other ∙ rw differ (omega arith));
  }

  -- it had no place
  module _ (access : Access) (is : same_access access h.access ≡ true) (places after : List (ℕ × ℕ)) (are : ArePlaces access slots places)
      (new : lookup (is_at (nat_cmp h.activation)) places ≡ None)
      (updated : (b : ℕ) → lookup (is_at (nat_cmp b)) after ≡
      cond (is_at (nat_cmp h.activation) b) (Some (length slots)) (lookup (is_at (nat_cmp b)) places))
      (longer : length after ≡ length places + 1) where
    its_only : IsOnly access h.activation more (Some (length slots))
    its_only = (
      ap (is_owned access h.activation) (get_or_push slots (Some h) None (length slots) refl) ∙ rw is (own_number h.activation),
      elsewhere access h.activation h slots (subst (IsOnly access h.activation slots) new (are.each h.activation)),
    )

    each_more : (b : ℕ) → IsOnly access b more (lookup (is_at (nat_cmp b)) after)
    each_more b =
        ⊎_elim (λ (e : h.activation ≡ b).
        subst (IsOnly access b more)
        (sym (updated b ∙ cond-true (is_at (nat_cmp h.activation) b) (Some (length slots)) (lookup (is_at (nat_cmp b)) places)
        (subst (λ (n : ℕ). is_at (nat_cmp h.activation) n ≡ true) e (at_self h.activation))))
        (subst (λ (n : ℕ). IsOnly access n more (Some (length slots))) e its_only))
        (λ (ne : h.activation ≢ b).
        subst (IsOnly access b more)
        (sym (updated b ∙ cond-false (is_at (nat_cmp h.activation) b) (Some (length slots)) (lookup (is_at (nat_cmp b)) places)
        (at_other h.activation b (λ e. ne (sym e)))))
        (only_more access b (not_number access h b ne) (lookup (is_at (nat_cmp b)) places) (are.each b)))
        (cases_eq h.activation b)

    -- the places with that of the new slot
    pub places_more : ArePlaces access more after
    places_more = record {
      each = each_more;
      counted =
          let k = are.counted in
          let m : how_many access (left more) ≡ how_many access (left slots) + 1 = how_many_more access ∙ rw is refl in omega arith;
    }

-- ---- an empty slot at the end

-- it leaves the same holders
pub left_trimmed : (slots : List (Option Holder)) → left (slots ++ None ∷ []) ≡ left slots
left_trimmed slots = left_append slots (None ∷ []) ∙ append-nil (left slots)

read_trimmed : (slots : List (Option Holder)) (p : ℕ) → get_or (slots ++ None ∷ []) p None ≡ get_or slots p None
read_trimmed [] zero = refl
read_trimmed [] (suc p) = refl
read_trimmed (s ∷ slots) zero = refl
read_trimmed (s ∷ slots) (suc p) = read_trimmed slots p

only_trimmed : (access : Access) (b : ℕ) (slots : List (Option Holder)) (o : Option ℕ) → IsOnly access b (slots ++ None ∷ []) o →
    IsOnly access b slots o
only_trimmed access b slots None only = λ p. ap (is_owned access b) (sym (read_trimmed slots p)) ∙ only p
only_trimmed access b slots (Some r) only = (
  ap (is_owned access b) (sym (read_trimmed slots r)) ∙ only.0,
  λ p ne. ap (is_owned access b) (sym (read_trimmed slots p)) ∙ only.1 p ne,
)

-- it is no holder's place
pub places_trimmed : (access : Access) (slots : List (Option Holder)) (places : List (ℕ × ℕ)) →
    ArePlaces access (slots ++ None ∷ []) places → ArePlaces access slots places
places_trimmed access slots places are = record {
  each = λ b. only_trimmed access b slots (lookup (is_at (nat_cmp b)) places) (are.each b);
  counted = are.counted ∙ ap (how_many access) (left_trimmed slots);
}

ends_empty : (slots : List (Option Holder)) (n : ℕ) → n + 1 ≡ length slots → slice_get slots n ≡ Some None →
    slots ≡ take n slots ++ None ∷ []
ends_empty [] n long at = absurd (cc)
ends_empty (s ∷ []) zero long at = let same : s ≡ None = cc in ap (λ (x : Option Holder). x ∷ []) same
ends_empty (s ∷ t ∷ slots) zero long at = absurd (omega (arith, long))
ends_empty (s ∷ slots) (suc n) long at = ap (λ (l : List (Option Holder)). s ∷ l) (ends_empty slots n (omega (arith, long)) at)

-- the last slot, where it is empty
pub last_empty : (slots rest : List (Option Holder)) → rest ≡ take (length slots - 1) slots →
    slice_get slots (length slots - 1) ≡ Some None → slots ≡ rest ++ None ∷ []
last_empty [] rest is at = absurd (cc)
last_empty (s ∷ slots) rest is at =
    ends_empty (s ∷ slots) (length (s ∷ slots) - 1) (omega arith) at ∙ ap (λ (l : List (Option Holder)). l ++ None ∷ []) (sym is)

-- ---- who stands in the way

no_other_skips : (access : Access) (a : ℕ) (h : Holder) (holders : List Holder) → same_access access h.access ≡ false →
    no_other access a (h ∷ holders) ≡ no_other access a holders
no_other_skips access a h holders e = rw e refl

no_other_fails : (access : Access) (a : ℕ) (h : Holder) (holders : List Holder) → same_access access h.access ≡ true →
    is_own access a h ≡ false → no_other access a (h ∷ holders) ≡ false
no_other_fails access a h holders e fails =
    let f : (h.activation == a) ≡ false = unsame (h.activation == a) (rw e at fails) in rw (e, f) refl
  where
    unsame : (b : Bool) → (b && true) ≡ false → b ≡ false
    unsame true h = absurd (cc)
    unsame false h = refl

no_other_owns : (access : Access) (a : ℕ) (h : Holder) (holders : List Holder) → is_own access a h ≡ true →
    no_other access a (h ∷ holders) ≡ no_other access a holders
no_other_owns access a h holders own =
    let f = from_own access a h own in let e : (h.activation == a) ≡ true = grind (arith, nat_tests, f.0) in rw (f.1, e) refl

above_zero : (m n : ℕ) → n ≡ suc m → (n == 0) ≡ false
above_zero m n e = grind (arith, nat_tests)

one_above : (m n : ℕ) → n ≡ 1 + m → (m == 0) ≡ (n == 1)
one_above m n e = grind (arith, nat_tests)

-- where no slot is the activation's
none_free_by : (access : Access) (a : ℕ) (h : Holder) (holders : List Holder) (b : Bool) → same_access access h.access ≡ b →
    is_own access a h ≡ false → no_other access a holders ≡ (how_many access holders == 0) →
    no_other access a (h ∷ holders) ≡ (how_many access (h ∷ holders) == 0)
none_free_by access a h holders true e fails rest =
    no_other_fails access a h holders e fails
    ∙ sym (above_zero (how_many access holders) (how_many access (h ∷ holders)) (counts access h holders e))
none_free_by access a h holders false e fails rest =
    no_other_skips access a h holders e ∙ rest ∙ ap (λ (n : ℕ). n == 0) (sym (skips access h holders e))

none_free : (access : Access) (a : ℕ) (slots : List (Option Holder)) → IsOnly access a slots None →
    no_other access a (left slots) ≡ (how_many access (left slots) == 0)
none_free access a [] none = refl
none_free access a (None ∷ slots) none = none_free access a slots (λ p. none (suc p))
none_free access a (Some h ∷ slots) none =
    none_free_by access a h (left slots) (same_access access h.access) refl (none 0) (none_free access a slots (λ p. none (suc p)))

without_own_by : (access : Access) (a : ℕ) (h : Holder) (holders : List Holder) (b : Bool) → is_own access a h ≡ b →
    no_other access a holders ≡ no_other access a (filter (others access a) holders) →
    no_other access a (h ∷ holders) ≡ no_other access a (filter (others access a) (h ∷ holders))
without_own_by access a h holders true e rest =
    no_other_owns access a h holders e ∙ rest ∙ ap (no_other access a) (sym (drops access a h holders e))
without_own_by access a h holders false e rest =
    ap (λ (b : Bool). (not (same_access access h.access) || (h.activation == a)) && b) rest
    ∙ ap (no_other access a) (sym (keeps access a h holders e))

without_own : (access : Access) (a : ℕ) (holders : List Holder) →
    no_other access a holders ≡ no_other access a (filter (others access a) holders)
without_own access a [] = refl
without_own access a (h ∷ holders) = without_own_by access a h holders (is_own access a h) refl (without_own access a holders)

one_free : (access : Access) (a : ℕ) (slots : List (Option Holder)) (q : ℕ) → IsOnly access a slots (Some q) →
    no_other access a (left slots) ≡ (how_many access (left slots) == 1)
one_free access a slots q only =
    without_own access a (left slots) ∙ ap (no_other access a) (sym (one_goes access a slots q only))
    ∙ none_free access a (set slots q None) (none_after access a slots q only)
    ∙ one_above (how_many access (left (set slots q None))) (how_many access (left slots)) (one_less access a slots q only)

pub free_by : (access : Access) (a : ℕ) (slots : List (Option Holder)) (o : Option ℕ) → IsOnly access a slots o →
    no_other access a (left slots) ≡ (how_many access (left slots) == (if is_some o then 1 else 0))
free_by access a slots None only = none_free access a slots only
free_by access a slots (Some q) only = one_free access a slots q only

-- by how many places there are, where the activation has one and where it has none
pub counted_one : (access : Access) (a : ℕ) (slots : List (Option Holder)) (places : List (ℕ × ℕ)) → ArePlaces access slots places →
    is_some (lookup (is_at (nat_cmp a)) places) ≡ true → (length places == 1) ≡ no_other access a (left slots)
counted_one access a slots places are has =
    sym (free_by access a slots (lookup (is_at (nat_cmp a)) places) (are.each a) ∙ rw (has, sym are.counted) refl)

-- where an activation has no place of its own, there are no places just where no other one holds the lock in this way
pub counted_none : (access : Access) (a : ℕ) (slots : List (Option Holder)) (places : List (ℕ × ℕ)) → ArePlaces access slots places →
    is_some (lookup (is_at (nat_cmp a)) places) ≡ false → (length places == 0) ≡ no_other access a (left slots)
counted_none access a slots places are has =
    sym (free_by access a slots (lookup (is_at (nat_cmp a)) places) (are.each a) ∙ rw (has, sym are.counted) refl)

-- ---- both ways to hold the lock

join_shared : (a n : ℕ) (kind : Access) → ((n == a) || are_compatible Shared kind) ≡ (not (same_access Exclusive kind) || (n == a))
join_shared a n Exclusive = or_false (n == a)
  where
    or_false : (b : Bool) → (b || false) ≡ b
    or_false true = refl
    or_false false = refl
join_shared a n Shared = or_true (n == a)
  where
    or_true : (b : Bool) → (b || true) ≡ true
    or_true true = refl
    or_true false = refl

join_alone : (b : Bool) (kind : Access) (x y : Bool) → ((b || are_compatible Exclusive kind) && (x && y))
    ≡ (((not (same_access Exclusive kind) || b) && x) && ((not (same_access Shared kind) || b) && y))
join_alone true Exclusive x y = refl
join_alone true Shared x y = refl
join_alone false Exclusive x y = refl
join_alone false Shared true y = refl
join_alone false Shared false y = refl

gone_by : (a : ℕ) (h : Holder) (holders : List Holder) (b : Bool) → (h.activation == a) ≡ b → (kind : Access) → h.access ≡ kind →
    filter (others Shared a) (filter (others Exclusive a) holders) ≡ filter (λ (h : Holder). not (h.activation == a)) holders →
    filter (others Shared a) (filter (others Exclusive a) (h ∷ holders)) ≡ filter (λ (h : Holder). not (h.activation == a)) (h ∷ holders)
gone_by a h holders true e Exclusive f rest = rw (f, e) rest
gone_by a h holders true e Shared f rest = rw (f, e, e) rest
gone_by a h holders false e kind f rest = rw (e, e) (ap (λ (l : List Holder). h ∷ l) rest)

pub both_gone : (a : ℕ) (holders : List Holder) →
    filter (others Shared a) (filter (others Exclusive a) holders) ≡ filter (λ (h : Holder). not (h.activation == a)) holders
both_gone a [] = refl
both_gone a (h ∷ holders) = gone_by a h holders (h.activation == a) refl h.access refl (both_gone a holders)

pub free_to_share : (a : ℕ) (holders : List Holder) → is_free_for a Shared holders ≡ no_other Exclusive a holders
free_to_share a [] = refl
free_to_share a (h ∷ holders) = rw (free_to_share a holders, join_shared a h.activation h.access) refl

pub free_alone : (a : ℕ) (holders : List Holder) →
    is_free_for a Exclusive holders ≡ (no_other Exclusive a holders && no_other Shared a holders)
free_alone a [] = refl
free_alone a (h ∷ holders) =
    rw (free_alone a holders) (join_alone (h.activation == a) h.access (no_other Exclusive a holders) (no_other Shared a holders))

-- where another holds it exclusively, it is free in no way
pub held_alone : (a : ℕ) (access : Access) (holders : List Holder) (b : Bool) → b ≡ no_other Exclusive a holders → b ≡ false →
    false ≡ is_free_for a access holders
held_alone a Exclusive holders b e f = sym (free_alone a holders ∙ rw (sym e ∙ f) refl)
held_alone a Shared holders b e f = sym (free_to_share a holders ∙ sym e ∙ f)

-- where no other does, it may be shared
pub not_held_alone : (a : ℕ) (holders : List Holder) (b : Bool) → b ≡ no_other Exclusive a holders → b ≡ true →
    true ≡ is_free_for a Shared holders
not_held_alone a holders b e f = sym (free_to_share a holders ∙ sym e ∙ f)

-- and it may be taken exclusively, where no other shares it either
pub held_by_none : (a : ℕ) (holders : List Holder) (b c : Bool) → b ≡ no_other Exclusive a holders → b ≡ true →
    c ≡ no_other Shared a holders → c ≡ is_free_for a Exclusive holders
held_by_none a holders b c e f g = g ∙ sym (free_alone a holders ∙ rw (sym e ∙ f) refl)

-- ---- the slots, walked

-- each slot lets it be taken, exactly where each holder that is left does
pub walked_free : (a : ℕ) (access : Access) (slots : List (Option Holder)) →
    list_all (may_join_slot a access) slots ≡ is_free_for a access (left slots)
walked_free a access [] = refl
walked_free a access (None ∷ slots) = walked_free a access slots
walked_free a access (Some h ∷ slots) = ap (λ (b : Bool). may_join a access h && b) (walked_free a access slots)

walked_by : (a : ℕ) (h : Holder) (slots : List (Option Holder)) (b : Bool) → (h.activation == a) ≡ b →
    left (filter (λ (s : Option Holder). not (is_slot_of a s)) slots) ≡ filter (λ (x : Holder). not (x.activation == a)) (left slots) →
    left (filter (λ (s : Option Holder). not (is_slot_of a s)) (Some h ∷ slots))
    ≡ filter (λ (x : Holder). not (x.activation == a)) (left (Some h ∷ slots))
walked_by a h slots true e rest = rw e rest
walked_by a h slots false e rest = rw e (ap (λ (l : List Holder). h ∷ l) rest)

-- without an activation's slots, all but that activation are left
pub walked_gone : (a : ℕ) (slots : List (Option Holder)) →
    left (filter (λ (s : Option Holder). not (is_slot_of a s)) slots) ≡ filter (λ (h : Holder). not (h.activation == a)) (left slots)
walked_gone a [] = refl
walked_gone a (None ∷ slots) = walked_gone a slots
walked_gone a (Some h ∷ slots) = walked_by a h slots (h.activation == a) refl (walked_gone a slots)

-- ---- all of an activation's slots, one after the other

-- those that hold it exclusively, those that share it, and the empty slots at the end
pub all_gone : (a : ℕ) (slots one both last : List (Option Holder)) → left one ≡ filter (others Exclusive a) (left slots) →
    left both ≡ filter (others Shared a) (left one) → left last ≡ left both →
    left last ≡ filter (λ (h : Holder). not (h.activation == a)) (left slots)
all_gone a slots one both last e f g = g ∙ f ∙ ap (filter (others Shared a)) e ∙ both_gone a (left slots)

-- what isn't some is none
pub none_some : (o : Option ℕ) → is_some o ≡ false → o ≡ None
none_some None h = refl
none_some (Some n) h = absurd (cc)

-- a test of whether there is none
pub empty_is : (b : Bool) (n : ℕ) → (IsTrue b → n ≡ 0) × (n ≡ 0 → IsTrue b) → b ≡ (n == 0)
empty_is true n h = rw (h.0 refl) refl
empty_is false n h = sym (not_zero n h.1)
  where
    not_zero : (n : ℕ) → (n ≡ 0 → IsTrue false) → (n == 0) ≡ false
    not_zero zero k = let no_more : IsTrue false = k refl in absurd (cc)
    not_zero (suc n) k = grind (arith, nat_tests)

-- ---- the kinds

-- a lock that is held exclusively isn't shared
pub exclusive_kind : (kind : Access) → same_access kind Exclusive ≡ true →
    (same_access Exclusive kind ≡ true) × (same_access Shared kind ≡ false)
exclusive_kind Exclusive e = (refl, refl)
exclusive_kind Shared e = absurd (cc)

-- and one that isn't is shared
pub shared_kind : (kind : Access) → same_access kind Exclusive ≡ false →
    (same_access Shared kind ≡ true) × (same_access Exclusive kind ≡ false)
shared_kind Exclusive e = absurd (cc)
shared_kind Shared e = (refl, refl)
