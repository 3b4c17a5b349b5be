-- What is read from a line is spelled so, and what is spelled so is read.
use Rattle.std.proofs.Common.{◌≡◌, ◌<◌, ◌≤◌, ◌+◌, ◌-◌, ◌*◌, ◌/◌, ◌%◌, ℕ, zero, suc, Bool, true, false, List, [], ◌∷◌}
use Rattle.std.proofs.Common.{◌++◌, length, take, drop, refl, sym, ap, subst, arith, ◌∙◌, append_assoc, append-nil}
use Rattle.std.specs.Prelude.{not, ◌==◌, ◌&&◌, ◌||◌, nat_lt, if◌then◌else◌, Option, Some, None, codes}
use Rattle.std.specs.List.{list_all}
use Rattle.std.specs.Str.{bytes_eq}
use Rattle.std.proofs.lemmas.Bool.{and_parts, or_parts, or_from, eqb-true, eq-eqb, ne_eqb, ltb-true}
use Rattle.std.proofs.lemmas.Bool.{ltb-false, lt-ltb, le-ltb, not-true, agree_below, agree_below_at}
use Rattle.std.proofs.lemmas.Slice.Eq.{bytes_eq-Decides}
use Rattle.std.proofs.lemmas.List.{take-append-drop}
use Rattle.flt_rules.specs.Call.{place_of, lock_at}
use Rattle.flt_rules.specs.Held.{held, same_lock, holds_lock}
use Rattle.flt_rules.specs.declared.call.LockNumber.{LockNumber}
use Rattle.flt_rules.specs.declared.held.Access.{Access}
use Rattle.flt_rules.specs.declared.held.Access.TheVariants.{Exclusive, Shared}
use Rattle.flt_rules.specs.declared.held.HeldLock.{HeldLock}
use Rattle.flt_abs.specs.Locks.{are_locks}
use Rattle.flt_abs.specs.LockLaws.{lock_at-place_of, place_of-lock_at, turned, eight_at_most}
use Rattle.flt_abs.specs.Sets.{StatusSet, ModeSet, DrainingSet, status_bits, mode_bits, draining_bits}
use Rattle.flt_abs.specs.Sets.{is_possible, is_mode_possible, is_draining_possible}
use Rattle.flt_abs.specs.SetLaws.{status_bits-statuses, mode_bits-modes, draining_bits-draining}
use Rattle.flt_abs.specs.State.{State, state_of, is_proper}
use Rattle.flt_cert.specs.Text.{Text, decimal, after, count_of, leading, digit_of, ◌>>=◌}
use Rattle.flt_cert.specs.Format.{Point, is_point, digits, access_text, lock_text, more_locks}
use Rattle.flt_cert.specs.Format.{locks_text, state_text, point_text, point_line, callback_line}
use Rattle.flt_cert.specs.Reading.{status_of, sets_from, front_of, byte_at, modes_of, draining_of, blank, lock_of}
use Rattle.flt_cert.specs.Reading.{access_at, with_lock, locks_from, locks_of, made, state_at, point_of, head_of}

-- ---- steps that may fail

some_bind : {A B : Type 0} {y : B} (o : Option A) (f : A → Option B) → (o >>= f) ≡ Some y → (x : A) × (o ≡ Some x) × (f x ≡ Some y)
some_bind None f h = cc
some_bind (Some x) f h = (x, refl, h)

-- what two equal options have inside is equal
pub some_inside : {A : Type 0} {x y : A} → Some x ≡ Some y → x ≡ y
some_inside h = cc

bind_again : {A B : Type 0} {r : Option B} (o : Option A) (f : A → Option B) (x : A) → o ≡ Some x → f x ≡ r → (o >>= f) ≡ r
bind_again o f x e h = rw e h

-- what is chosen by a test is what the test passed for
pub chosen : {A : Type 0} {x y : A} (b : Bool) → (if b then Some x else None) ≡ Some y → (b ≡ true) × (x ≡ y)
chosen true h = (refl, cc)
chosen false h = cc

taken : {A : Type 0} {o : Option A} {y : A} (b : Bool) → (if b then o else None) ≡ Some y → (b ≡ true) × (o ≡ Some y)
taken true h = (refl, h)
taken false h = cc

-- ---- the front of a text

-- a text from which a front is taken begins with this front
pub after_takes : (front text rest : Text) → after front text ≡ Some rest → text ≡ front ++ rest
after_takes [] text rest h = cc
after_takes (a ∷ front) [] rest h = cc
after_takes (a ∷ front) (b ∷ text) rest h =
    let both = taken (b == a) h in
    let same : b ≡ a = eqb-true b a both.0 in
    let others = after_takes front text rest both.1 in
    cc

-- a front is taken from a text that begins with it
pub after_again : (front rest : Text) → after front (front ++ rest) ≡ Some rest
after_again [] rest = refl
after_again (a ∷ front) rest = rw (eq-eqb a a refl) (after_again front rest)

otherwise : {A : Type 0} {x y : A} (b : Bool) → (if b then None else Some x) ≡ Some y → x ≡ y
otherwise true h = cc
otherwise false h = cc

-- so many bytes that are taken are the front of the text
pub front_takes : (n : ℕ) (text front rest : Text) → front_of n text ≡ Some (front, rest) → text ≡ front ++ rest
front_takes n text front rest h =
    let pair = otherwise (nat_lt (length text) n) h in
    let left : take n text ≡ front = ap (λ (p : Text × Text). p.0) pair in
    let right : drop n text ≡ rest = ap (λ (p : Text × Text). p.1) pair in
    let whole = take-append-drop n text in
    cc

take_front : (front rest : Text) → take (length front) (front ++ rest) ≡ front
take_front [] rest = refl
take_front (b ∷ front) rest = ap (λ z. b ∷ z) (take_front front rest)

drop_front : (front rest : Text) → drop (length front) (front ++ rest) ≡ rest
drop_front [] rest = refl
drop_front (b ∷ front) rest = drop_front front rest

longer : (front rest : Text) → length front ≤ length (front ++ rest)
longer [] rest = omega arith
longer (b ∷ front) rest = let less = longer front rest in omega arith

front_again : (n : ℕ) (front rest : Text) → n ≡ length front → front_of n (front ++ rest) ≡ Some (front, rest)
front_again n front rest e = rw e (rw (le-ltb _ _ (longer front rest), take_front front rest, drop_front front rest) refl)

byte_takes : (text rest : Text) (b : ℕ) → byte_at text ≡ Some (b, rest) → text ≡ b ∷ rest
byte_takes [] rest b h = cc
byte_takes (a ∷ text) rest b h =
    let pair : (a, text) ≡ (b, rest) = cc in
    let left : a ≡ b = ap (λ (p : ℕ × Text). p.0) pair in
    let right : text ≡ rest = ap (λ (p : ℕ × Text). p.1) pair in
    cc

-- ---- sets

status_takes : (b : ℕ) (s : StatusSet) → status_of b ≡ Some s → b ≡ 48 + status_bits s
status_takes b s h =
    let both = chosen _ h in
    let range = and_parts (nat_lt 48 b) (nat_lt b 56) both.0 in
    let low = ltb-true 48 b range.0 in
    let high = ltb-true b 56 range.1 in
    let small : b - 48 < 8 = omega arith in
    let bits : status_bits s ≡ b - 48 = rw (← both.1) (status_bits-statuses (b - 48) small) in
    omega arith

set_again : (x y z : Bool) → (x || (y || z)) ≡ true →
    status_of (48 + status_bits (record { null = x; held = y; stale = z })) ≡ Some (record { null = x; held = y; stale = z })
set_again true true true h = refl
set_again true true false h = refl
set_again true false true h = refl
set_again true false false h = refl
set_again false true true h = refl
set_again false true false h = refl
set_again false false true h = refl
set_again false false false h = cc

status_again : (s : StatusSet) → is_possible s ≡ true → status_of (48 + status_bits s) ≡ Some s
status_again s h = set_again s.null s.held s.stale h

-- sets that are read from digits are spelled by these digits
pub sets_take : (text : Text) (found sets : List StatusSet) → sets_from found text ≡ Some sets → (more : List StatusSet)
    × (sets ≡ found ++ more) × (text ≡ digits more)
sets_take [] found sets h = ([], (let same : found ≡ sets = cc in sym same ∙ sym (append-nil found)), refl)
sets_take (b ∷ text) found sets h =
    let one = some_bind (status_of b) (λ s. sets_from (found ++ s ∷ []) text) h in
    let others = sets_take text (found ++ one.0 ∷ []) sets one.2 in
    let first = status_takes b one.0 one.1 in
    let regrouped : (found ++ one.0 ∷ []) ++ others.0 ≡ found ++ one.0 ∷ others.0 = append_assoc found (one.0 ∷ []) others.0 in
    (one.0 ∷ others.0, others.1 ∙ regrouped, (let rest = others.2 in cc))

sets_again : (found more : List StatusSet) → list_all is_possible more ≡ true → sets_from found (digits more) ≡ Some (found ++ more)
sets_again found [] h = ap (λ z. Some z) (sym (append-nil found))
sets_again found (s ∷ more) h =
    let both = and_parts (is_possible s) (list_all is_possible more) h in
    bind_again (status_of (48 + status_bits s)) (λ t. sets_from (found ++ t ∷ []) (digits more)) s (status_again s both.0)
    (sets_again (found ++ s ∷ []) more both.1 ∙ ap (λ z. Some z) (append_assoc found (s ∷ []) more))

-- a mode set that is read from a byte is spelled by this byte
pub modes_take : (b : ℕ) (s : ModeSet) → modes_of b ≡ Some s → b ≡ 48 + mode_bits s
modes_take b s h =
    let both = chosen _ h in
    let range = and_parts (nat_lt 48 b) (nat_lt b 52) both.0 in
    let low = ltb-true 48 b range.0 in
    let high = ltb-true b 52 range.1 in
    let small : b - 48 < 4 = omega arith in
    let bits : mode_bits s ≡ b - 48 = rw (← both.1) (mode_bits-modes (b - 48) small) in
    omega arith

modes_again : (s : ModeSet) → is_mode_possible s ≡ true → modes_of (48 + mode_bits s) ≡ Some s
modes_again s h = go s.irp s.fast h
  where
    go : (x y : Bool) → (x || y) ≡ true → modes_of (48 + mode_bits (record { irp = x; fast = y })) ≡ Some (record { irp = x; fast = y })
    go true true h = refl
    go true false h = refl
    go false true h = refl
    go false false h = cc

-- a draining set that is read from a byte is spelled by this byte
pub draining_takes : (b : ℕ) (s : DrainingSet) → draining_of b ≡ Some s → b ≡ 48 + draining_bits s
draining_takes b s h =
    let both = chosen _ h in
    let range = and_parts (nat_lt 48 b) (nat_lt b 52) both.0 in
    let low = ltb-true 48 b range.0 in
    let high = ltb-true b 52 range.1 in
    let small : b - 48 < 4 = omega arith in
    let bits : draining_bits s ≡ b - 48 = rw (← both.1) (draining_bits-draining (b - 48) small) in
    omega arith

draining_again : (s : DrainingSet) → is_draining_possible s ≡ true → draining_of (48 + draining_bits s) ≡ Some s
draining_again s h = go s.no s.yes h
  where
    go : (x y : Bool) → (x || y) ≡ true → draining_of (48 + draining_bits (record { no = x; yes = y })) ≡ Some (record { no = x; yes = y })
    go true true h = refl
    go true false h = refl
    go false true h = refl
    go false false h = cc

-- ---- locks

lock_takes : (found : List HeldLock) (b : ℕ) (l : LockNumber) → lock_of found b ≡ Some l → b ≡ 48 + place_of l
lock_takes found b l h = by_low (nat_lt b 48) refl h
  where
    by_low : (low : Bool) → nat_lt b 48 ≡ low →
        (if low then None else (lock_at (b - 48) >>= λ k. if holds_lock k found then None else Some k)) ≡ Some l → b ≡ 48 + place_of l
    by_low true e h = cc
    by_low false e h =
        let one = some_bind (lock_at (b - 48)) (λ k. if holds_lock k found then None else Some k) h in
        let same : one.0 ≡ l = otherwise (holds_lock one.0 found) one.2 in
        let place : place_of l ≡ b - 48 = ap place_of (sym same) ∙ place_of-lock_at (b - 48) one.0 one.1 in
        let most : 48 ≤ b = ltb-false b 48 e in
        omega arith

lock_again : (found : List HeldLock) (l : LockNumber) → holds_lock l found ≡ false → lock_of found (48 + place_of l) ≡ Some l
lock_again found l new =
    let less : 48 + place_of l - 48 ≡ place_of l = omega arith in
    rw (le-ltb (48 + place_of l) 48 (omega arith), less, lock_at-place_of l, new) refl

-- how a lock is held as it is spelled, and what follows
abbrev behind : Access × Text → Text
behind q = access_text q.0 ++ q.1

access_takes : (text : Text) → text ≡ behind (access_at text)
access_takes [] = refl
access_takes (b ∷ text) = by_s (b == 115) refl
  where
    by_s : (x : Bool) → (b == 115) ≡ x → b ∷ text ≡ behind (if x then (Shared, text) else (Exclusive, b ∷ text))
    by_s true e = ap (λ c. c ∷ text) (eqb-true b 115 e)
    by_s false e = refl

-- a text that doesn't begin with "s" follows the lock before it
access_again : (a : Access) (text : Text) → access_at text ≡ (Exclusive, text) → access_at (access_text a ++ text) ≡ (a, text)
access_again Exclusive text h = h
access_again Shared text h = refl

with_takes : (found : List HeldLock) (text : Text) (more : List HeldLock × Text) → with_lock found text ≡ Some more →
    (h : HeldLock) × (more.0 ≡ found ++ h ∷ []) × (text ≡ lock_text h ++ more.1)
with_takes found text more h =
    let digit = some_bind (byte_at text) _ h in
    let one = some_bind (lock_of found digit.0.0) _ digit.2 in
    let access = access_at digit.0.1 in
    let whole : (found ++ held one.0 access.0 ∷ [], access.1) ≡ more = some_inside one.2 in
    let list : more.0 ≡ found ++ held one.0 access.0 ∷ [] = ap (λ (x : List HeldLock × Text). x.0) (sym whole) in
    let rest : access.1 ≡ more.1 = ap (λ (x : List HeldLock × Text). x.1) whole in
    let first : text ≡ digit.0.0 ∷ digit.0.1 = byte_takes text digit.0.1 digit.0.0 digit.1 in
    let byte : digit.0.0 ≡ 48 + place_of one.0 = lock_takes found digit.0.0 one.0 one.1 in
    let behind : digit.0.1 ≡ access_text access.0 ++ access.1 = access_takes digit.0.1 in
    let same : digit.0.0 ∷ digit.0.1 ≡ (48 + place_of one.0) ∷ (access_text access.0 ++ access.1) = ap (λ b. b ∷ digit.0.1) byte
    ∙ ap (λ t. (48 + place_of one.0) ∷ t) behind in
    (held one.0 access.0, list, first ∙ same ∙ ap (λ t. lock_text (held one.0 access.0) ++ t) rest)

with_again : (found : List HeldLock) (h : HeldLock) (text : Text) → holds_lock h.lock found ≡ false → access_at text ≡ (Exclusive, text) →
    with_lock found (lock_text h ++ text) ≡ Some (found ++ h ∷ [], text)
with_again found h text new first =
    bind_again (lock_of found (48 + place_of h.lock))
    (λ l. Some (found ++ held l (access_at (access_text h.access ++ text)).0 ∷ [], (access_at (access_text h.access ++ text)).1)) h.lock
    (lock_again found h.lock new)
    (ap (λ (x : Access × Text). Some (found ++ held h.lock x.0 ∷ [], x.1)) (access_again h.access text first))

-- a lock that stands before others in a list isn't among those before it
before : (found : List HeldLock) (h : HeldLock) (after : List HeldLock) → are_locks (found ++ h ∷ after) ≡ true →
    holds_lock h.lock found ≡ false
before [] h after e = refl
before (k ∷ found) h after e =
    let parts = and_parts (not (holds_lock k.lock (found ++ h ∷ after))) (are_locks (found ++ h ∷ after)) e in
    or_from _ _ (turned k.lock h.lock (apart k.lock found (not-true _ parts.0))) (before found h after parts.1)
  where
    apart : (q : LockNumber) (found : List HeldLock) → holds_lock q (found ++ h ∷ after) ≡ false → same_lock q h.lock ≡ false
    apart q [] e = (or_parts (same_lock q h.lock) (holds_lock q after) e).0
    apart q (r ∷ found) e = apart q found (or_parts (same_lock q r.lock) (holds_lock q (found ++ h ∷ after)) e).1

Listed : List HeldLock → Text → List HeldLock → Type 0
Listed found text locks = (h : HeldLock) × (more : List HeldLock) × (locks ≡ found ++ h ∷ more)
    × (text ≡ lock_text h ++ (more_locks more ++ 10 ∷ []))

no_more : (text : Text) → (length text == 0) ≡ true → text ≡ []
no_more [] h = refl
no_more (b ∷ text) h = absurd (omega (arith, eqb-true _ _ h))

from_takes : (left : ℕ) (found : List HeldLock) (text : Text) (locks : List HeldLock) → locks_from left found text ≡ Some locks →
    Listed found text locks
unfolding Listed
from_takes zero found text locks h = cc
from_takes (suc left) found text locks h =
    let one = some_bind (with_lock found text) _ h in
    let next = some_bind (byte_at one.0.1) _ one.2 in
    let behind : one.0.1 ≡ next.0.0 ∷ next.0.1 = byte_takes one.0.1 next.0.1 next.0.0 next.1 in
    by_comma one.0.0 one.0.1 (with_takes found text one.0 one.1) next.0.0 next.0.1 behind (next.0.0 == 44) refl next.2
    (λ g. from_takes left one.0.0 next.0.1 locks g)
  where
    by_comma : (more : List HeldLock) (after : Text) → (h : HeldLock) × (more ≡ found ++ h ∷ []) × (text ≡ lock_text h ++ after) →
        (b : ℕ) (rest : Text) → after ≡ b ∷ rest → (x : Bool) → (b == 44) ≡ x →
        (if x then locks_from left more rest else (if b == 10 && length rest == 0 then Some more else None)) ≡ Some locks →
        (locks_from left more rest ≡ Some locks → Listed more rest locks) → Listed found text locks
    by_comma more after first b rest behind true e h others =
        let comma : b ≡ 44 = eqb-true b 44 e in
        let later = others h in
        let list : locks ≡ (found ++ first.0 ∷ []) ++ later.0 ∷ later.1 = later.2 ∙ ap (λ z. z ++ later.0 ∷ later.1) first.1 in
        let tail : rest ≡ lock_text later.0 ++ (more_locks later.1 ++ 10 ∷ []) = later.3 in
        let grouped : (lock_text later.0 ++ more_locks later.1) ++ 10 ∷ [] ≡ lock_text later.0 ++ (more_locks later.1 ++ 10 ∷ []) =
        append_assoc (lock_text later.0) (more_locks later.1) (10 ∷ []) in
        let end : after ≡ 44 ∷ ((lock_text later.0 ++ more_locks later.1) ++ 10 ∷ []) = behind ∙ ap (λ c. c ∷ rest) comma
        ∙ ap (λ t. 44 ∷ t) (tail ∙ sym grouped) in (
          first.0,
          later.0 ∷ later.1,
          list ∙ append_assoc found (first.0 ∷ []) (later.0 ∷ later.1),
          first.2
              ∙ ap (λ t. lock_text first.0 ++ t) end,
        )
    by_comma more after first b rest behind false e h others =
        let both = chosen (b == 10 && length rest == 0) h in
        let parts = and_parts (b == 10) (length rest == 0) both.0 in
        let ten : b ≡ 10 = eqb-true b 10 parts.0 in
        let nothing : rest ≡ [] = no_more rest parts.1 in
        let end : after ≡ 10 ∷ [] = behind ∙ ap (λ c. c ∷ rest) ten ∙ ap (λ t. 10 ∷ t) nothing in
        (first.0, [], sym both.1 ∙ first.1, first.2 ∙ ap (λ t. lock_text first.0 ++ t) end)

from_again : (left : ℕ) (found : List HeldLock) (h : HeldLock) (more : List HeldLock) → length more < left →
    are_locks (found ++ h ∷ more) ≡ true →
    locks_from left found (lock_text h ++ (more_locks more ++ 10 ∷ [])) ≡ Some (found ++ h ∷ more)
from_again zero found h more few e = absurd (omega arith)
from_again (suc left) found h [] few e =
    bind_again (with_lock found (lock_text h ++ 10 ∷ [])) _ (found ++ h ∷ [], 10 ∷ [])
    (with_again found h (10 ∷ []) (before found h [] e) refl) refl
from_again (suc left) found h (k ∷ more) few e =
    let listed : (found ++ h ∷ []) ++ k ∷ more ≡ found ++ h ∷ k ∷ more = append_assoc found (h ∷ []) (k ∷ more) in
    let grouped : (lock_text k ++ more_locks more) ++ 10 ∷ [] ≡ lock_text k ++ (more_locks more ++ 10 ∷ []) =
    append_assoc (lock_text k) (more_locks more) (10 ∷ []) in
    let rest : Text = (lock_text k ++ more_locks more) ++ 10 ∷ [] in
    let others : locks_from left (found ++ h ∷ []) rest ≡ Some (found ++ h ∷ k ∷ more) =
    ap (λ t. locks_from left (found ++ h ∷ []) t) grouped ∙ from_again left (found ++ h ∷ []) k more (omega arith) (rw listed e)
    ∙ ap (λ z. Some z) listed in
    bind_again (with_lock found (lock_text h ++ 44 ∷ rest)) _ (found ++ h ∷ [], 44 ∷ rest)
    (with_again found h (44 ∷ rest) (before found h (k ∷ more) e) refl) others

listed_parts : (text : Text) (locks : List HeldLock) → Listed [] text locks → (h : HeldLock) × (more : List HeldLock)
    × (locks ≡ h ∷ more) × (text ≡ lock_text h ++ (more_locks more ++ 10 ∷ []))
unfolding Listed
listed_parts text locks h = h

locks_take : (text : Text) (locks : List HeldLock) → locks_of text ≡ Some locks → text ≡ locks_text locks ++ 10 ∷ []
unfolding locks_of
locks_take text locks h = go (bytes_eq text (45 ∷ 10 ∷ [])) refl h
  where
    go : (x : Bool) → bytes_eq text (45 ∷ 10 ∷ []) ≡ x → (if x then Some [] else locks_from 8 [] text) ≡ Some locks →
        text ≡ locks_text locks ++ 10 ∷ []
    go true e h =
        let same : text ≡ 45 ∷ 10 ∷ [] = (bytes_eq-Decides text (45 ∷ 10 ∷ [])).0 e in
        let none : [] ≡ locks = cc in
        rw (← none) same
    go false e h =
        let some = listed_parts text locks (from_takes 8 [] text locks h) in
        some.3 ∙ sym (append_assoc (lock_text some.0) (more_locks some.1) (10 ∷ [])) ∙ ap (λ ls. locks_text ls ++ 10 ∷ []) (sym some.2)

locks_again : (locks : List HeldLock) → are_locks locks ≡ true → locks_of (locks_text locks ++ 10 ∷ []) ≡ Some locks
unfolding locks_of
locks_again [] h = refl
locks_again (k ∷ locks) h =
    let other : (48 + place_of k.lock == 45) ≡ false = ne_eqb (48 + place_of k.lock) 45 (λ e. omega arith) in
    let grouped : (lock_text k ++ more_locks locks) ++ 10 ∷ [] ≡ lock_text k ++ (more_locks locks ++ 10 ∷ []) =
    append_assoc (lock_text k) (more_locks locks) (10 ∷ []) in
    let few : suc (length locks) ≤ 8 = eight_at_most (k ∷ locks) h in
    rw other (ap (λ t. locks_from 8 [] t) grouped ∙ from_again 8 [] k locks (omega arith) h)

-- ---- a state

made_takes : (s t : State) → made s ≡ Some t → (is_proper s ≡ true) × (s ≡ t)
made_takes s t h = chosen (is_proper s) h

blank_takes : (text rest : Text) → blank text ≡ Some rest → text ≡ 32 ∷ rest
blank_takes text rest h = after_takes (32 ∷ []) text rest h

state_takes : (text : Text) (s : State) → state_at text ≡ Some s → (text ≡ state_text s ++ 10 ∷ []) × (is_proper s ≡ true)
unfolding state_at
state_takes text s h =
    let a = some_bind (front_of 9 text) _ h in
    let b = some_bind (sets_from [] a.0.0) _ a.2 in
    let c = some_bind (blank a.0.1) _ b.2 in
    let d = some_bind (front_of 5 c.0) _ c.2 in
    let e = some_bind (sets_from [] d.0.0) _ d.2 in
    let f = some_bind (blank d.0.1) _ e.2 in
    let g = some_bind (byte_at f.0) _ f.2 in
    let i = some_bind (modes_of g.0.0) _ g.2 in
    let j = some_bind (blank g.0.1) _ i.2 in
    let k = some_bind (byte_at j.0) _ j.2 in
    let l = some_bind (draining_of k.0.0) _ k.2 in
    let m = some_bind (blank k.0.1) _ l.2 in
    let n = some_bind (locks_of m.0) _ m.2 in
    let o = made_takes (state_of b.0 e.0 i.0 l.0 n.0) s n.2 in
    let contexts = sets_take a.0.0 [] b.0 b.1 in
    let operations = sets_take d.0.0 [] e.0 e.1 in
    let x1 : text ≡ a.0.0 ++ a.0.1 = front_takes 9 text a.0.0 a.0.1 a.1 in
    let x2 : a.0.0 ≡ digits b.0 = contexts.2 ∙ ap digits (sym contexts.1) in
    let x3 : a.0.1 ≡ 32 ∷ c.0 = blank_takes a.0.1 c.0 c.1 in
    let x4 : c.0 ≡ d.0.0 ++ d.0.1 = front_takes 5 c.0 d.0.0 d.0.1 d.1 in
    let x5 : d.0.0 ≡ digits e.0 = operations.2 ∙ ap digits (sym operations.1) in
    let x6 : d.0.1 ≡ 32 ∷ f.0 = blank_takes d.0.1 f.0 f.1 in
    let x7 : f.0 ≡ g.0.0 ∷ g.0.1 = byte_takes f.0 g.0.1 g.0.0 g.1 in
    let x8 : g.0.0 ≡ 48 + mode_bits i.0 = modes_take g.0.0 i.0 i.1 in
    let x9 : g.0.1 ≡ 32 ∷ j.0 = blank_takes g.0.1 j.0 j.1 in
    let y1 : j.0 ≡ k.0.0 ∷ k.0.1 = byte_takes j.0 k.0.1 k.0.0 k.1 in
    let y2 : k.0.0 ≡ 48 + draining_bits l.0 = draining_takes k.0.0 l.0 l.1 in
    let y3 : k.0.1 ≡ 32 ∷ m.0 = blank_takes k.0.1 m.0 m.1 in
    let y4 : m.0 ≡ locks_text n.0 ++ 10 ∷ [] = locks_take m.0 n.0 n.1 in
    spelled text s b.0 e.0 i.0 l.0 n.0 a.0.0 a.0.1 c.0 d.0.0 d.0.1 f.0 g.0.1 j.0 k.0.1 m.0 g.0.0 k.0.0 o.0 o.1 x1 x2 x3 x4 x5 x6
    x7 x8 x9 y1 y2 y3 y4
  where
    spelled : (text : Text) (s : State) (contexts operations : List StatusSet) (some : ModeSet) (answers : DrainingSet)
        (locks : List HeldLock)
        (t1 t2 t3 t4 t5 t6 t7 t8 t9 t10 : Text) (u v : ℕ) → is_proper (state_of contexts operations some answers locks) ≡ true →
        state_of contexts operations some answers locks ≡ s →
        text ≡ t1 ++ t2 → t1 ≡ digits contexts → t2 ≡ 32 ∷ t3 → t3 ≡ t4 ++ t5 → t4 ≡ digits operations → t5 ≡ 32 ∷ t6 →
        t6 ≡ u ∷ t7 → u ≡ 48 + mode_bits some →
        t7 ≡ 32 ∷ t8 → t8 ≡ v ∷ t9 → v ≡ 48 + draining_bits answers → t9 ≡ 32 ∷ t10 → t10 ≡ locks_text locks ++ 10 ∷ [] →
        (text ≡ state_text s ++ 10 ∷ []) × (is_proper s ≡ true)
    spelled text s contexts operations some answers locks t1 t2 t3 t4 t5 t6 t7 t8 t9 t10 u v q o x1 x2 x3 x4 x5 x6 x7 x8 x9 y1 y2 y3 y4 =
        (rw (x1, x2, x3, x4, x5, x6, x7, x8, x9, y1, y2, y3, y4, ← o) (simp append_assoc), rw (← o) q)

-- ---- whole lines

lead_takes : (a n : ℕ) → leading a ≡ Some n → (a ≡ 48 + n) × (0 < n) × (n < 10)
lead_takes a n h =
    let both = chosen _ h in
    let range = and_parts (nat_lt 48 a) (nat_lt a 58) both.0 in
    let low = ltb-true 48 a range.0 in
    let high = ltb-true a 58 range.1 in
    let same : a - 48 ≡ n = both.1 in
    (omega arith, omega arith, omega arith)

digit_takes : (a n : ℕ) → digit_of a ≡ Some n → (a ≡ 48 + n) × (n < 10)
digit_takes a n h =
    let both = chosen _ h in
    let range = and_parts (nat_lt 47 a) (nat_lt a 58) both.0 in
    let low = ltb-true 47 a range.0 in
    let high = ltb-true a 58 range.1 in
    let same : a - 48 ≡ n = both.1 in
    (omega arith, omega arith)

Counted : Text → ℕ → Type 0
Counted text n = (text ≡ decimal n ++ 10 ∷ []) × (0 < n) × (n < 513)

one_digit : (n : ℕ) → n < 10 → decimal n ≡ (48 + n) ∷ []
one_digit n h = rw (lt-ltb n 10 h) refl

two_digits : (m n : ℕ) → 0 < m → m < 10 → n < 10 → decimal (10 * m + n) ≡ (48 + m) ∷ (48 + n) ∷ []
two_digits m n h k l =
    let high : (10 * m + n) / 10 ≡ m = omega arith in
    let low : (10 * m + n) % 10 ≡ n = omega arith in
    rw (le-ltb (10 * m + n) 10 (omega arith), lt-ltb (10 * m + n) 100 (omega arith), high, low) refl

three_digits : (l m n : ℕ) → 0 < l → m < 10 → n < 10 → decimal (100 * l + 10 * m + n) ≡ (48 + l) ∷ (48 + m) ∷ (48 + n) ∷ []
three_digits l m n h k j =
    let high : (100 * l + 10 * m + n) / 100 ≡ l = omega arith in
    let middle : (100 * l + 10 * m + n) / 10 % 10 ≡ m = omega arith in
    let low : (100 * l + 10 * m + n) % 10 ≡ n = omega arith in
    rw (le-ltb (100 * l + 10 * m + n) 10 (omega arith), le-ltb (100 * l + 10 * m + n) 100 (omega arith), high, middle, low) refl

same_bytes : (a b c x y z : ℕ) → a ≡ x → b ≡ y → c ≡ z → a ∷ b ∷ c ∷ [] ≡ x ∷ y ∷ z ∷ []
same_bytes a b c x y z h k l = cc

count_takes : (text : Text) (n : ℕ) → count_of text ≡ Some n → Counted text n
unfolding Counted
count_takes [] n h = cc
count_takes (a ∷ []) n h = cc
count_takes (a ∷ z ∷ []) n h =
    let end = taken (z == 10) h in
    let ten : z ≡ 10 = eqb-true z 10 end.0 in
    let one = lead_takes a n end.1 in
    let byte = one.0 in
    let text : decimal n ≡ (48 + n) ∷ [] = one_digit n one.2 in
    (rw (text, byte, ten) refl, one.1, omega arith)
count_takes (a ∷ b ∷ z ∷ []) n h =
    let end = taken (z == 10) h in
    let ten : z ≡ 10 = eqb-true z 10 end.0 in
    let x = some_bind (leading a) _ end.1 in
    let y = some_bind (digit_of b) _ x.2 in
    let one = lead_takes a x.0 x.1 in
    let two = digit_takes b y.0 y.1 in
    let sum : 10 * x.0 + y.0 ≡ n = cc (y.2) in
    let text = two_digits x.0 y.0 one.1 one.2 two.1 in (
      same_bytes a b z (48 + x.0) (48 + y.0) 10 one.0 two.0 ten ∙ ap (λ t. t ++ 10 ∷ []) (sym text ∙ ap decimal sum),
      omega arith,
      omega arith,
    )
count_takes (a ∷ b ∷ c ∷ z ∷ []) n h =
    let end = taken (z == 10) h in
    let ten : z ≡ 10 = eqb-true z 10 end.0 in
    let x = some_bind (leading a) _ end.1 in
    let y = some_bind (digit_of b) _ x.2 in
    let w = some_bind (digit_of c) _ y.2 in
    let few = chosen _ w.2 in
    let one = lead_takes a x.0 x.1 in
    let two = digit_takes b y.0 y.1 in
    let three = digit_takes c w.0 w.1 in
    let sum : 100 * x.0 + 10 * y.0 + w.0 ≡ n = few.1 in
    let most : 100 * x.0 + 10 * y.0 + w.0 < 513 = ltb-true _ _ few.0 in
    let text = three_digits x.0 y.0 w.0 one.1 two.1 three.1 in (
      ap (λ t. a ∷ t) (same_bytes b c z (48 + y.0) (48 + w.0) 10 two.0 three.0 ten)
          ∙ ap (λ h. h ∷ (48 + y.0) ∷ (48 + w.0) ∷ 10 ∷ []) one.0 ∙ ap (λ t. t ++ 10 ∷ []) (sym text ∙ ap decimal sum),
      omega arith,
      omega arith,
    )
count_takes (a ∷ b ∷ c ∷ d ∷ e ∷ text) n h = cc

matches : Option ℕ → ℕ → Bool
matches None n = false
matches (Some m) n = m == n

abbrev counts : ℕ → Bool
counts n = n == 0 || matches (count_of (decimal n ++ 10 ∷ [])) n

all_count : agree_below counts (λ n. true) 513 ≡ true
unfolding matches
all_count = refl

count_again : (n : ℕ) → 0 < n → n < 513 → count_of (decimal n ++ 10 ∷ []) ≡ Some n
unfolding matches
count_again n h k =
    go (n == 0) (ne_eqb n 0 (λ e. omega arith)) (count_of (decimal n ++ 10 ∷ [])) (agree_below_at counts (λ m. true) 513 n all_count k)
  where
    go : (x : Bool) → x ≡ false → (o : Option ℕ) → (x || matches o n) ≡ true → o ≡ Some n
    go true e o t = cc
    go false e None t = cc
    go false e (Some m) t = ap (λ z. Some z) (eqb-true m n t)

-- the head of a callback that is read is spelled by its line, with 1 to 512 points
pub head_takes : (k : ℕ) (text : Text) (n : ℕ) → head_of k text ≡ Some n → (text ≡ callback_line k n) × (0 < n) × (n < 513)
unfolding head_of Counted
head_takes k text n h =
    let a = some_bind (after (codes "callback ") text) _ h in
    let b = some_bind (after (decimal k) a.0) _ a.2 in
    let c = some_bind (blank b.0) _ b.2 in
    let d = count_takes c.0 n c.2 in
    let x : text ≡ codes "callback " ++ a.0 = after_takes (codes "callback ") text a.0 a.1 in
    let y : a.0 ≡ decimal k ++ b.0 = after_takes (decimal k) a.0 b.0 b.1 in
    let z : b.0 ≡ 32 ∷ c.0 = blank_takes b.0 c.0 c.1 in
    let w : c.0 ≡ decimal n ++ 10 ∷ [] = d.0 in
    (x ∙ ap (λ t. codes "callback " ++ t) (y ∙ ap (λ t. decimal k ++ t) (z ∙ ap (λ t. 32 ∷ t) w)), d.1, d.2)

-- the line of a callback's head is read as this head
pub head_again : (k n : ℕ) → 0 < n → n < 513 → head_of k (callback_line k n) ≡ Some n
unfolding head_of
head_again k n h l =
    bind_again (after (codes "callback ") (callback_line k n))
    (λ text. after (decimal k) text >>= λ text. blank text >>= λ text. count_of text)
    (decimal k ++ 32 ∷ (decimal n ++ 10 ∷ [])) (after_again (codes "callback ") (decimal k ++ 32 ∷ (decimal n ++ 10 ∷ [])))
    (bind_again (after (decimal k) (decimal k ++ 32 ∷ (decimal n ++ 10 ∷ []))) (λ text. blank text >>= λ text. count_of text)
    (32 ∷ (decimal n ++ 10 ∷ [])) (after_again (decimal k) (32 ∷ (decimal n ++ 10 ∷ [])))
    (count_again n h l))

-- a point that is read is spelled by its line, and is one
pub point_takes : (p : ℕ) (text : Text) (point : Point) → point_of p text ≡ Some point → (text ≡ point_line p point)
    × (is_point point ≡ true)
unfolding point_of
point_takes p text point h =
    let a = some_bind (after (decimal p) text) _ h in
    let b = some_bind (blank a.0) _ a.2 in
    let x : text ≡ decimal p ++ a.0 = after_takes (decimal p) text a.0 a.1 in
    let y : a.0 ≡ 32 ∷ b.0 = blank_takes a.0 b.0 b.1 in
    let rest = go b.0 point (bytes_eq b.0 (33 ∷ 10 ∷ [])) refl b.2 in
    (x ∙ ap (λ t. decimal p ++ t) (y ∙ ap (λ t. 32 ∷ t) rest.0), rest.1)
  where
    go : (text : Text) (point : Point) (x : Bool) → bytes_eq text (33 ∷ 10 ∷ []) ≡ x →
        (if x then Some None else (state_at text >>= λ s. Some (Some s))) ≡ Some point → (text ≡ point_text point ++ 10 ∷ [])
        × (is_point point ≡ true)
    go text None true e h = ((bytes_eq-Decides text (33 ∷ 10 ∷ [])).0 e, refl)
    go text (Some s) true e h = cc
    go text None false e h = let one = some_bind (state_at text) _ h in let wrong = one.2 in cc
    go text (Some s) false e h =
        let one = some_bind (state_at text) _ h in
        let same : one.0 ≡ s = cc (one.2) in
        let spelled = state_takes text one.0 one.1 in
        let P : State → Type 0 = λ t. (text ≡ state_text t ++ 10 ∷ []) × (is_proper t ≡ true) in
        subst P same spelled

state_again : (s : State) → is_proper s ≡ true → state_at (state_text s ++ 10 ∷ []) ≡ Some s
unfolding state_at
state_again s h =
    let nine = and_parts (length s.contexts == 9) _ h in
    let five = and_parts (length s.operations == 5) _ nine.1 in
    let contexts = and_parts (list_all is_possible s.contexts) _ five.1 in
    let operations = and_parts (list_all is_possible s.operations) _ contexts.1 in
    let some = and_parts (is_mode_possible s.modes) _ operations.1 in
    let answers = and_parts (is_draining_possible s.draining) (are_locks s.locks) some.1 in
    let end : Text = locks_text s.locks ++ 10 ∷ [] in
    let fourth : Text = (48 + draining_bits s.draining) ∷ 32 ∷ end in
    let third : Text = (48 + mode_bits s.modes) ∷ 32 ∷ fourth in
    let second : Text = digits s.operations ++ 32 ∷ third in
    let regrouped : state_text s ++ 10 ∷ [] ≡ digits s.contexts ++ 32 ∷ second = simp append_assoc in
    let nine_digits : 9 ≡ length (digits s.contexts) = sym (length_digits s.contexts ∙ eqb-true _ _ nine.0) in
    let five_digits : 5 ≡ length (digits s.operations) = sym (length_digits s.operations ∙ eqb-true _ _ five.0) in
    rw regrouped
    (bind_again (front_of 9 (digits s.contexts ++ 32 ∷ second)) _ (digits s.contexts, 32 ∷ second)
    (front_again 9 (digits s.contexts) (32 ∷ second) nine_digits)
    (bind_again (sets_from [] (digits s.contexts)) _ s.contexts (sets_again [] s.contexts contexts.0)
    (bind_again (front_of 5 second) _ (digits s.operations, 32 ∷ third) (front_again 5 (digits s.operations) (32 ∷ third) five_digits)
    (bind_again (sets_from [] (digits s.operations)) _ s.operations (sets_again [] s.operations operations.0)
    (bind_again (modes_of (48 + mode_bits s.modes)) _ s.modes (modes_again s.modes some.0)
    (bind_again (draining_of (48 + draining_bits s.draining)) _ s.draining (draining_again s.draining answers.0)
    (bind_again (locks_of end) _ s.locks (locks_again s.locks answers.1) (rw h refl))))))))
  where
    length_digits : (sets : List StatusSet) → length (digits sets) ≡ length sets
    length_digits [] = refl
    length_digits (t ∷ sets) = ap (λ n. suc n) (length_digits sets)

-- the line of a point is read as this point
pub point_again : (p : ℕ) (point : Point) → is_point point ≡ true → point_of p (point_line p point) ≡ Some point
unfolding point_of
point_again p point h =
    bind_again (after (decimal p) (point_line p point)) _ (32 ∷ (point_text point ++ 10 ∷ [])) (after_again (decimal p) _) (go point h)
  where
    begins : (sets : List StatusSet) (rest : Text) → (length sets == 9) ≡ true → bytes_eq (digits sets ++ rest) (33 ∷ 10 ∷ []) ≡ false
    begins [] rest e = cc
    begins (t ∷ sets) rest e = let other : (48 + status_bits t == 33) ≡ false =
        ne_eqb (48 + status_bits t) 33 (λ e. omega arith) in rw other refl

    go : (point : Point) → is_point point ≡ true →
        (if bytes_eq (point_text point ++ 10 ∷ []) (33 ∷ 10 ∷ []) then Some None
        else (state_at (point_text point ++ 10 ∷ []) >>= λ s. Some (Some s))) ≡ Some point
    go None h = refl
    go (Some s) h =
        let others : Text = 32 ∷ (digits s.operations ++ 32 ∷ (48 + mode_bits s.modes) ∷ 32 ∷ (48 + draining_bits s.draining) ∷ 32
        ∷ locks_text s.locks) in
        let grouped : state_text s ++ 10 ∷ [] ≡ digits s.contexts ++ (others ++ 10 ∷ []) =
        append_assoc (digits s.contexts) others (10 ∷ []) in
        let other : bytes_eq (state_text s ++ 10 ∷ []) (33 ∷ 10 ∷ []) ≡ false =
        ap (λ t. bytes_eq t (33 ∷ 10 ∷ [])) grouped ∙ begins s.contexts (others ++ 10 ∷ []) (and_parts (length s.contexts == 9) _ h).0 in
        rw other (bind_again (state_at (state_text s ++ 10 ∷ [])) (λ t. Some (Some t)) s (state_again s h) refl)
