-- Names by number, and what has a name by the number of its name.
use Rattle.std.proofs.Common.{◌≡◌, ℕ, suc, ◌+◌, ◌<◌, Bool, true, false, cond, ◌||◌, slice_get, get_or, List}
use Rattle.std.proofs.Common.{[], ◌∷◌, ◌++◌, map, length, nat_lt, Bor, refl, sym, ap, subst, ◌∙◌, arith}
use Rattle.std.specs.Prelude.{Option, Some, None, if◌then◌else◌, ◌&&◌, position}
use Rattle.std.proofs.lemmas.Cmp.{nat_list_eq_equiv}
use Rattle.std.proofs.lemmas.List.{append-nil, append_assoc}
use Rattle.std.proofs.lemmas.Option.{slice_get-get_or}
use Rattle.std.specs.Option.{option_map}
use Rattle.std.specs.Str.{bytes_eq}
use Rattle.std.specs.List.{list_any, position_or_len, IsDistinct, AllByRecursion}
use Rattle.std.proofs.lemmas.Grind.{common_steps}
use Rattle.flt_rules.specs.declared.call.LockKind.{LockKind}
use Rattle.flt_tree.specs.Declarations.{has_lock, has_routine, same_lock_kind, lock_place}
use Rattle.flt_tree.specs.Names.{Text, has_name, lock_names, names_of, routine_names}
use Rattle.flt_tree.specs.Filter.{is_named}
use Rattle.flt_tree.specs.declared.filter.Callback.{Callback}
use Rattle.flt_tree.specs.declared.filter.Head.{Head}
use Rattle.flt_tree.specs.declared.filter.Head.TheVariants.{Pre, Post, Canceled, DeferredPre, DeferredPost, Generic}
use Rattle.flt_tree.specs.declared.filter.Lock.{Lock}

any_of : {X Y : Type 0} (f : X → Y) (p : Y → Bool) (xs : List X) → list_any p (map f xs) ≡ list_any (λ x. p (f x)) xs
any_of f p [] = refl
any_of f p (x ∷ xs) = ap (λ b. p (f x) || b) (any_of f p xs)

-- where a test first passes, by the first element
place_step : {X : Type 0} (p : X → Bool) (x : X) (xs : List X) →
    position p (x ∷ xs) ≡ (if p x then Some 0 else option_map (λ n. 1 + n) (position p xs))
place_step p x xs = by (p x) refl
  where
    inside : (n m : ℕ) (c : Bool) → nat_lt n m ≡ c →
        cond (nat_lt (1 + n) (suc m)) (Some (1 + n)) None ≡ option_map (λ n. 1 + n) (cond (nat_lt n m) (Some n) None)
    inside n m true h = let e : nat_lt (1 + n) (suc m) ≡ true = grind (arith, common_steps) in rw (e, h) refl
    inside n m false h = let e : nat_lt (1 + n) (suc m) ≡ false = grind (arith, common_steps) in rw (e, h) refl

    by : (b : Bool) → p x ≡ b → position p (x ∷ xs) ≡ (if b then Some 0 else option_map (λ n. 1 + n) (position p xs))
    by true e = let h : nat_lt 0 (suc (length xs)) ≡ true = grind (arith, common_steps) in rw (e, h) refl
    by false e = rw e (inside (position_or_len p xs) (length xs) _ refl)

place_of : {X Y : Type 0} (f : X → Y) (p : Y → Bool) (xs : List X) → position p (map f xs) ≡ position (λ x. p (f x)) xs
place_of f p [] = refl
place_of f p (x ∷ xs) = place_step p (f x) (map f xs)
    ∙ ap (λ q. if p (f x) then Some 0 else option_map (λ n. 1 + n) q) (place_of f p xs) ∙ sym (place_step (λ x. p (f x)) x xs)

-- what the number of a name says, and whether a name is there
pub number_of : (name : List ℕ) (names : List (Bor (List ℕ))) →
    position (λ k. bytes_eq name k.now) names ≡ position (bytes_eq name) (map (λ k. k.now) names)
number_of name names = sym (place_of (λ k. k.now) (bytes_eq name) names)

-- a name is among some by its bytes just where it is among their bytes
pub is_there : (name : List ℕ) (names : List (Bor (List ℕ))) →
    list_any (λ k. bytes_eq name k.now) names ≡ list_any (bytes_eq name) (map (λ k. k.now) names)
is_there name names = sym (any_of (λ k. k.now) (bytes_eq name) names)

-- names that differ where they lie differ as texts
others : {X Y : Type 0} (f : X → Y) (eq : Y → Y → Bool) (x : Y) (xs : List X) → AllByRecursion (λ y. eq x (f y) ≡ false) xs →
    AllByRecursion (λ y. eq x y ≡ false) (map f xs)
others f eq x [] h = h
others f eq x (y ∷ xs) h = (h.0, others f eq x xs h.1)

-- elements are distinct by what a test reads of them where what it reads is distinct
pub distinct_of : {X Y : Type 0} (f : X → Y) (eq : Y → Y → Bool) (xs : List X) → IsDistinct (λ a b. eq (f a) (f b)) xs →
    IsDistinct eq (map f xs)
unfolding IsDistinct
distinct_of f eq [] h = h
distinct_of f eq (x ∷ xs) h = (others f eq (f x) xs h.0, distinct_of f eq xs h.1)

-- ---- locks by their names

same_either_way : (a b : Text) → bytes_eq a b ≡ bytes_eq b a
same_either_way = nat_list_eq_equiv.symm

-- a lock's name is among the names of locks just where there is such a lock
pub lock_is_there : (name : Text) (locks : List Lock) → has_name name (lock_names locks) ≡ has_lock name locks
lock_is_there name [] = refl
lock_is_there name (l ∷ ls) = rw (same_either_way name l.name, lock_is_there name ls) refl

-- the place, if the lock that stands there is of the kind
abbrev pub kept : LockKind → ℕ → Option Lock → Option ℕ
kept kind i None = None
kept kind i (Some l) = if same_lock_kind l.kind kind then Some i else None

abbrev pub of_kind : LockKind → List Lock → Option ℕ → Option ℕ
of_kind kind locks None = None
of_kind kind locks (Some i) = kept kind i (slice_get locks i)

never : (b : Bool) → (b && false) ≡ false
never true = refl
never false = refl

kept_behind : (kind : LockKind) (i : ℕ) (l : Option Lock) → kept kind (1 + i) l ≡ option_map (λ n. 1 + n) (kept kind i l)
kept_behind kind i None = refl
kept_behind kind i (Some l) = by (same_lock_kind l.kind kind)
  where
    by : (b : Bool) → (if b then Some (1 + i) else None) ≡ option_map (λ n. 1 + n) (if b then Some i else None)
    by true = refl
    by false = refl

behind : {X : Type 0} (x : X) (xs : List X) (i : ℕ) → slice_get (x ∷ xs) (1 + i) ≡ slice_get xs i
behind x xs i = grind (arith, common_steps)

of_kind_behind : (kind : LockKind) (l : Lock) (ls : List Lock) (place : Option ℕ) →
    of_kind kind (l ∷ ls) (option_map (λ n. 1 + n) place) ≡ option_map (λ n. 1 + n) (of_kind kind ls place)
of_kind_behind kind l ls None = refl
of_kind_behind kind l ls (Some i) = ap (kept kind (1 + i)) (behind l ls i) ∙ kept_behind kind i (slice_get ls i)

module _ (kind : LockKind) (name : Text) where
  -- a lock of the kind and the name
  Fits : Lock → Bool
  Fits l = same_lock_kind l.kind kind && bytes_eq l.name name

  unfit : (l : Lock) → bytes_eq name l.name ≡ false → Fits l ≡ false
  unfolding Fits
  unfit l e = ap (λ b. same_lock_kind l.kind kind && b) (same_either_way l.name name ∙ e) ∙ never _

  no_other : (x : Text) (ls : List Lock) → bytes_eq name x ≡ true → AllByRecursion (λ y. bytes_eq x y ≡ false) (lock_names ls) →
      position Fits ls ≡ None
  no_other x [] e h = refl
  no_other x (l ∷ ls) e h =
      let u : Fits l ≡ false = unfit l (nat_list_eq_equiv.congr name x l.name e ∙ h.0) in
      place_step Fits l ls ∙ rw (u, no_other x ls e h.1) refl

  named : (l : Lock) (ls : List Lock) (b : Bool) → bytes_eq name l.name ≡ true → same_lock_kind l.kind kind ≡ b →
      AllByRecursion (λ y. bytes_eq l.name y ≡ false) (lock_names ls) →
      (if Fits l then Some 0 else option_map (λ n. 1 + n) (position Fits ls)) ≡ kept kind 0 (Some l)
  unfolding Fits
  named l ls true e k d = let f : Fits l ≡ true = rw (k, same_either_way l.name name, e) refl in rw (f, k) refl
  named l ls false e k d = let f : Fits l ≡ false = rw k refl in rw (f, k, no_other l.name ls e d) refl

  chosen : (l : Lock) (ls : List Lock) (b : Bool) → bytes_eq name l.name ≡ b → IsDistinct bytes_eq (lock_names (l ∷ ls)) →
      position Fits ls ≡ of_kind kind ls (position (bytes_eq name) (lock_names ls)) →
      (if Fits l then Some 0 else option_map (λ n. 1 + n) (position Fits ls))
      ≡ of_kind kind (l ∷ ls) (if b then Some 0 else option_map (λ n. 1 + n) (position (bytes_eq name) (lock_names ls)))
  unfolding IsDistinct
  chosen l ls true e d later = named l ls _ e refl d.0
  chosen l ls false e d later = rw (unfit l e) (ap (option_map (λ n. 1 + n)) later ∙ sym (of_kind_behind kind l ls _))

  -- no two locks have a name, so that the one of a kind and a name is the one of the name, if that is of the kind
  pub place_by_name : (ls : List Lock) → IsDistinct bytes_eq (lock_names ls) →
      lock_place kind name ls ≡ of_kind kind ls (position (bytes_eq name) (lock_names ls))
  unfolding Fits IsDistinct
  place_by_name [] d = refl
  place_by_name (l ∷ ls) d =
      place_step Fits l ls ∙ chosen l ls _ refl d (place_by_name ls d.1)
      ∙ ap (of_kind kind (l ∷ ls)) (sym (place_step (bytes_eq name) l.name (lock_names ls)))

-- one more lock has one more name
pub one_lock_more : (locks : List Lock) (l : Lock) → lock_names (locks ++ l ∷ []) ≡ lock_names locks ++ l.name ∷ []
one_lock_more [] l = refl
one_lock_more (x ∷ locks) l = ap (λ ns. x.name ∷ ns) (one_lock_more locks l)

-- ---- routines by their names

-- one more callback has the routine's name that it has, if it is a routine
pub one_callback_more : (callbacks : List Callback) (c : Callback) →
    routine_names (callbacks ++ c ∷ []) ≡ routine_names callbacks ++ names_of c.head
one_callback_more [] c = append-nil (names_of c.head)
one_callback_more (x ∷ callbacks) c = ap (λ ns. names_of x.head ++ ns) (one_callback_more callbacks c)
    ∙ sym (append_assoc (names_of x.head) (routine_names callbacks) (names_of c.head))

named_so : (name : Text) (head : Head) (names : List Text) →
    has_name name (names_of head ++ names) ≡ (is_named name head || has_name name names)
named_so name (DeferredPre r) names = rw (same_either_way name r) refl
named_so name (DeferredPost r) names = rw (same_either_way name r) refl
named_so name (Generic r) names = rw (same_either_way name r) refl
named_so name (Pre o) names = refl
named_so name (Post o) names = refl
named_so name Canceled names = refl

-- a routine's name is among the names of routines just where there is such a routine
pub routine_is_there : (name : Text) (callbacks : List Callback) → has_name name (routine_names callbacks) ≡ has_routine name callbacks
routine_is_there name [] = refl
routine_is_there name (c ∷ cs) = named_so name c.head (routine_names cs) ∙ ap (λ b. is_named name c.head || b) (routine_is_there name cs)

-- no further names leave the names as they are
pub and_no_name : (names more : List Text) → more ≡ [] → names ≡ names ++ more
and_no_name names more e = rw e (sym (append-nil names))

-- what stands at the number of a name is the lock of the name
pub place_is : (kind : LockKind) (name : Text) (names : List Text) (locks : List Lock) (i : ℕ) (l : Lock) (b : Bool) →
    names ≡ lock_names locks → IsDistinct bytes_eq names → Some i ≡ position (bytes_eq name) names → i < length locks →
    l ≡ get_or locks i l →
    b ≡ same_lock_kind l.kind kind → (if b then Some i else None) ≡ lock_place kind name locks
place_is kind name names locks i l b named once number within there same =
    ap (λ c. if c then Some i else None) same ∙ ap (kept kind i) (ap Some there ∙ sym (slice_get-get_or locks i l within))
    ∙ ap (of_kind kind locks) (number ∙ ap (position (bytes_eq name)) named)
    ∙ sym (place_by_name kind name locks (subst (IsDistinct bytes_eq) named once))
