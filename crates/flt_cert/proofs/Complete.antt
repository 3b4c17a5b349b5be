-- What is spelled so is read.
use Rattle.std.proofs.Common.{◌≡◌, ◌<◌, ◌≤◌, ◌+◌, ◌/◌, ◌%◌, ℕ, zero, suc, Bool, true, false, List, [], ◌∷◌, ◌++◌}
use Rattle.std.proofs.Common.{length, refl, sym, ap, arith, ◌∙◌, append_assoc, append-nil, length-append}
use Rattle.std.specs.Prelude.{not, ◌==◌, nat_lt, if◌then◌else◌, Ok, Some, None, codes}
use Rattle.std.specs.List.{list_all}
use Rattle.std.specs.Str.{bytes_eq}
use Rattle.std.proofs.lemmas.Bool.{and_parts, and_from, and_right, lt-ltb, ltb-true, ne_eqb, not_from_false}
use Rattle.std.proofs.lemmas.List.Folds.{list_all-append}
use Rattle.flt_rules.specs.Call.{place_of}
use Rattle.flt_rules.specs.declared.held.Access.{Access}
use Rattle.flt_rules.specs.declared.held.Access.TheVariants.{Exclusive, Shared}
use Rattle.flt_rules.specs.declared.held.HeldLock.{HeldLock}
use Rattle.flt_abs.specs.Sets.{StatusSet, status_bits, mode_bits, draining_bits}
use Rattle.flt_abs.specs.State.{State, is_proper}
use Rattle.flt_cert.specs.Text.{Text, lines_of, decimal}
use Rattle.flt_cert.specs.Format.{Point, Certificate, is_point, is_callback, is_certificate, digits, access_text, lock_text}
use Rattle.flt_cert.specs.Format.{more_locks, locks_text, state_text, point_text, point_line, callback_line, last_line}
use Rattle.flt_cert.specs.Format.{point_lines, one_callback, callback_lines, full_lines_for, joined, full_spelling}
use Rattle.flt_cert.specs.Reading.{Place, and_then, line, point, points_from, points, callback}
use Rattle.flt_cert.specs.Reading.{callbacks_from, closed, is_last, first, certificate, start}
use Rattle.flt_cert.proofs.FieldLaws.{point_again, head_again}

-- ---- lines

-- no LF stands in it
abbrev plain : Text → Bool
plain = list_all (λ b. not (b == 10))

ended : (text rest : Text) → plain text ≡ true → lines_of (text ++ 10 ∷ rest) ≡ (text ++ 10 ∷ []) ∷ lines_of rest
ended [] rest h = refl
ended (b ∷ text) rest h = go (b == 10) refl (ended text rest)
  where
    parts : (not (b == 10) ≡ true) × (plain text ≡ true)
    parts = and_parts (not (b == 10)) (plain text) h

    go : (x : Bool) → (b == 10) ≡ x → (plain text ≡ true → lines_of (text ++ 10 ∷ rest) ≡ (text ++ 10 ∷ []) ∷ lines_of rest) →
        lines_of (b ∷ text ++ 10 ∷ rest) ≡ (b ∷ text ++ 10 ∷ []) ∷ lines_of rest
    go true e others = let wrong : not (b == 10) ≡ false = ap not e in let right = parts.0 in cc
    go false e others = rw (e, others parts.1) refl

-- a line with LF at its end and nowhere else
pub Ended : Text → Type 0
Ended text = (front : Text) × (plain front ≡ true) × (text ≡ front ++ 10 ∷ [])

-- so is what ends with one and has no other
pub ended_front : (front : Text) → plain front ≡ true → Ended (front ++ 10 ∷ [])
unfolding Ended
ended_front front h = (front, h, refl)

-- so each of some lines
pub data AllEnded : List Text → Type 0 where
  no_lines : AllEnded []
  begins_with : {text : Text} {lines : List Text} → Ended text → AllEnded lines → AllEnded (text ∷ lines)

-- some lines, and others
pub both_ended : (xs ys : List Text) → AllEnded xs → AllEnded ys → AllEnded (xs ++ ys)
both_ended [] ys no_lines h = h
both_ended (text ∷ xs) ys (begins_with e others) h = begins_with e (both_ended xs ys others h)

-- such lines, joined, are the lines of the text
pub lines_joined : (lines : List Text) → AllEnded lines → lines_of (joined lines) ≡ lines
unfolding Ended
lines_joined [] no_lines = refl
lines_joined (text ∷ lines) (begins_with e others) =
    let grouped : text ++ joined lines ≡ e.0 ++ 10 ∷ joined lines = ap (λ z. z ++ joined lines) e.2
    ∙ append_assoc e.0 (10 ∷ []) (joined lines) in
    ap lines_of grouped ∙ ended e.0 (joined lines) e.1 ∙ ap (λ z. z ∷ lines_of (joined lines)) (sym e.2)
    ∙ ap (λ z. text ∷ z) (lines_joined lines others)

above : (n : ℕ) → not (48 + n == 10) ≡ true
above n = not_from_false (48 + n == 10) (ne_eqb (48 + n) 10 (λ e. omega arith))

plain_decimal : (n : ℕ) → plain (decimal n) ≡ true
plain_decimal n = go (nat_lt n 10) (nat_lt n 100)
  where
    go : (x y : Bool) → plain (if x then (48 + n) ∷ []
        else (if y then (48 + n / 10) ∷ (48 + n % 10) ∷ [] else (48 + n / 100) ∷ (48 + n / 10 % 10) ∷ (48 + n % 10) ∷ [])) ≡ true
    go true y = and_from _ _ (above n) refl
    go false true = and_from _ _ (above (n / 10)) (and_from _ _ (above (n % 10)) refl)
    go false false = and_from _ _ (above (n / 100)) (and_from _ _ (above (n / 10 % 10)) (and_from _ _ (above (n % 10)) refl))

plain_both : (a b : Text) → plain a ≡ true → plain b ≡ true → plain (a ++ b) ≡ true
plain_both a b h k = list_all-append (λ c. not (c == 10)) a b ∙ and_from _ _ h k

plain_digits : (sets : List StatusSet) → plain (digits sets) ≡ true
plain_digits [] = refl
plain_digits (s ∷ sets) = and_from _ _ (above (status_bits s)) (plain_digits sets)

plain_lock : (h : HeldLock) → plain (lock_text h) ≡ true
plain_lock h = and_from _ _ (above (place_of h.lock)) (of_access h.access)
  where
    of_access : (a : Access) → plain (access_text a) ≡ true
    of_access Exclusive = refl
    of_access Shared = refl

plain_locks : (locks : List HeldLock) → plain (locks_text locks) ≡ true
plain_locks [] = refl
plain_locks (h ∷ locks) = plain_both (lock_text h) (more_locks locks) (plain_lock h) (others locks)
  where
    others : (locks : List HeldLock) → plain (more_locks locks) ≡ true
    others [] = refl
    others (k ∷ locks) = plain_both (lock_text k) (more_locks locks) (plain_lock k) (others locks)

plain_state : (s : State) → plain (state_text s) ≡ true
plain_state s =
    plain_both (digits s.contexts) (32 ∷
    (digits s.operations ++ 32 ∷ (48 + mode_bits s.modes) ∷ 32 ∷ (48 + draining_bits s.draining) ∷ 32 ∷ locks_text s.locks))
    (plain_digits s.contexts)
    (plain_both (digits s.operations) (32 ∷ (48 + mode_bits s.modes) ∷ 32 ∷ (48 + draining_bits s.draining) ∷ 32
    ∷ locks_text s.locks) (plain_digits s.operations)
    (and_from _ _ (above (mode_bits s.modes)) (and_from _ _ (above (draining_bits s.draining)) (plain_locks s.locks))))

plain_point : (point : Point) → plain (point_text point) ≡ true
plain_point None = refl
plain_point (Some s) = plain_state s

-- the line of a point is such a line
pub point_ended : (p : ℕ) (point : Point) → Ended (point_line p point)
unfolding Ended
point_ended p point = (
  decimal p ++ 32 ∷ point_text point,
  plain_both (decimal p) (32 ∷ point_text point) (plain_decimal p) (plain_point point),
  sym (append_assoc (decimal p) (32 ∷ point_text point) (10 ∷ [])),
)

-- so is the first line of a callback
pub callback_ended : (k n : ℕ) → Ended (callback_line k n)
unfolding Ended
callback_ended k n = (
  codes "callback " ++ (decimal k ++ 32 ∷ decimal n),
  plain_both (codes "callback ") (decimal k ++ 32 ∷ decimal n) refl
      (plain_both (decimal k) (32 ∷ decimal n) (plain_decimal k) (plain_decimal n)),
  ap (λ z. codes "callback " ++ z) (sym (append_assoc (decimal k) (32 ∷ decimal n) (10 ∷ []))),
)

points_ended : (p : ℕ) (points : List Point) → AllEnded (point_lines p points)
points_ended p [] = no_lines
points_ended p (point ∷ points) = begins_with (point_ended p point) (points_ended (suc p) points)

callbacks_ended : (k : ℕ) (cs : Certificate) → AllEnded (callback_lines k cs)
callbacks_ended k [] = no_lines
callbacks_ended k (points ∷ cs) =
    both_ended (one_callback k points) (callback_lines (suc k) cs)
    (begins_with (callback_ended k (length points)) (points_ended 0 points)) (callbacks_ended (suc k) cs)

-- the lines of a spelling
pub lines_spelled : (cs : Certificate) → lines_of (full_spelling cs) ≡ full_lines_for cs
unfolding Ended
lines_spelled cs =
    lines_joined (full_lines_for cs) (begins_with (codes "fltcert 1", refl, refl)
    (both_ended (callback_lines 0 cs) (last_line ∷ []) (callbacks_ended 0 cs) (begins_with (codes "end", refl, refl) no_lines)))

-- ---- reading them

-- the line of a point is read
pub point_read : (p : ℕ) (x : Point) (n : ℕ) (lines : List Text) → is_point x ≡ true →
    point p (record { number = n; lines = point_line p x ∷ lines }) ≡ Ok (x, record { number = n + 1; lines = lines })
unfolding point line
point_read p x n lines h = rw (point_again p x h) refl

-- so is the line of a state at the front of a text
pub state_read : (p : ℕ) (s : State) (n : ℕ) (text rest : Text) → is_proper s ≡ true → text ≡ point_line p (Some s) ++ rest →
    point p (record { number = n; lines = lines_of text }) ≡ Ok (Some s, record { number = n + 1; lines = lines_of rest })
unfolding Ended
state_read p s n text rest h e =
    let line = point_ended p (Some s) in
    let grouped : text ≡ line.0 ++ 10 ∷ rest = e ∙ ap (λ z. z ++ rest) line.2 ∙ append_assoc line.0 (10 ∷ []) rest in
    let lines : lines_of text ≡ point_line p (Some s) ∷ lines_of rest = ap lines_of grouped ∙ ended line.0 rest line.1
    ∙ ap (λ z. z ∷ lines_of rest) (sym line.2) in
    rw lines (point_read p (Some s) n (lines_of rest) h)

points_read : (more found : List Point) (n : ℕ) (lines : List Text) → list_all is_point more ≡ true →
    (m : ℕ) × (points_from (length more) found (record { number = n; lines = point_lines (length found) more ++ lines }) ≡ Ok
    (found ++ more, record { number = m; lines = lines }))
points_read [] found n lines h = (n, ap (λ z. Ok (z, record { number = n; lines = lines })) (sym (append-nil found)))
points_read (x ∷ more) found n lines h =
    let parts = and_parts (is_point x) (list_all is_point more) h in
    let rest = points_read more (found ++ x ∷ []) (n + 1) lines parts.1 in
    let len : length (found ++ x ∷ []) ≡ suc (length found) = length-append found (x ∷ [])
    ∙ (let e : length found + 1 ≡ suc (length found) = omega arith in e) in
    let shifted = ap (λ m. points_from (length more) (found ++ x ∷ [])
    (record { number = n + 1; lines = point_lines m more ++ lines })) (sym len) in (
      rest.0,
      ap (λ o. and_then o (λ q. points_from (length more) (found ++ q.0 ∷ []) q.1))
          (point_read (length found) x n (point_lines (suc (length found)) more ++ lines) parts.0)
          ∙ shifted ∙ rest.1 ∙ ap (λ z. Ok (z, record { number = rest.0; lines = lines })) (append_assoc found (x ∷ []) more),
    )

callback_read : (k : ℕ) (ps : List Point) (n : ℕ) (lines : List Text) → is_callback ps ≡ true →
    (m : ℕ) × (callback k (callback_line k (length ps)) (record { number = n; lines = point_lines 0 ps ++ lines }) ≡ Ok
    (ps, record { number = m; lines = lines }))
unfolding callback points
callback_read k ps n lines h =
    let some = and_parts (nat_lt 0 (length ps)) _ h in
    let few = and_parts (nat_lt (length ps) 513) _ some.1 in
    let read = points_read ps [] n lines few.1 in
    (read.0, rw (head_again k (length ps) (ltb-true _ _ some.0) (ltb-true _ _ few.0)) read.1)

not_last : (k n : ℕ) → bytes_eq (callback_line k n) last_line ≡ false
not_last k n = refl

callbacks_read : (more : Certificate) (left : ℕ) (found : Certificate) (n : ℕ) → length more ≤ left →
    0 < length found + length more → list_all is_callback more ≡ true →
    (m : ℕ) × (callbacks_from left found (record { number = n; lines = callback_lines (length found) more ++ last_line ∷ [] })
    ≡ Ok (found ++ more, record { number = m; lines = [] }))
unfolding callbacks_from line closed
callbacks_read [] zero found n h some each =
    (n + 1, rw (lt-ltb 0 (length found) (omega arith)) (ap (λ z. Ok (z, record { number = n + 1; lines = [] })) (sym (append-nil found))))
callbacks_read [] (suc left) found n h some each =
    (n + 1, rw (lt-ltb 0 (length found) (omega arith)) (ap (λ z. Ok (z, record { number = n + 1; lines = [] })) (sym (append-nil found))))
callbacks_read (ps ∷ more) zero found n h some each = absurd (omega arith)
callbacks_read (ps ∷ more) (suc left) found n h some each =
    let parts = and_parts (is_callback ps) (list_all is_callback more) each in
    let len : length (found ++ ps ∷ []) ≡ suc (length found) = length-append found (ps ∷ [])
    ∙ (let e : length found + 1 ≡ suc (length found) = omega arith in e) in
    let after : List Text = callback_lines (suc (length found)) more ++ last_line ∷ [] in
    let read = callback_read (length found) ps (n + 1) after parts.0 in
    let rest = callbacks_read more left (found ++ ps ∷ []) read.0 (omega arith) (omega (arith, len)) parts.1 in
    let grouped : callback_lines (length found) (ps ∷ more) ++ last_line ∷ [] ≡ callback_line (length found) (length ps)
    ∷ (point_lines 0 ps ++ after) =
    append_assoc (one_callback (length found) ps) (callback_lines (suc (length found)) more) (last_line ∷ []) in
    let no : is_last found (callback_line (length found) (length ps)) ≡ false =
    and_right (nat_lt 0 (length found)) _ (not_last (length found) (length ps)) in
    let step : callbacks_from (suc left) found
    (record { number = n; lines = callback_line (length found) (length ps) ∷ (point_lines 0 ps ++ after) })
    ≡ callbacks_from left (found ++ ps ∷ []) (record { number = read.0; lines = after }) = rw (no, read.1) refl in (
      rest.0,
      ap (λ z. callbacks_from (suc left) found (record { number = n; lines = z })) grouped ∙ step
          ∙ ap (λ m. callbacks_from left (found ++ ps ∷ [])
          (record { number = read.0; lines = callback_lines m more ++ last_line ∷ [] })) (sym len) ∙ rest.1
          ∙ ap (λ z. Ok (z, record { number = rest.0; lines = [] })) (append_assoc found (ps ∷ []) more),
    )

-- what is spelled so is read
pub lines_read : (text : Text) (cs : Certificate) → is_certificate cs ≡ true → lines_of text ≡ full_lines_for cs → (o : Place)
    × (certificate (start text) ≡ Ok (cs, o))
unfolding certificate first line
lines_read text cs h lines =
    let some = and_parts (nat_lt 0 (length cs)) _ h in
    let few = and_parts (nat_lt (length cs) 17) _ some.1 in
    let most : length cs < 17 = ltb-true (length cs) 17 few.0 in
    let one : 0 < length cs = ltb-true 0 (length cs) some.0 in
    let rest = callbacks_read cs 16 [] 1 (omega arith) (omega arith) few.1 in
    (record { number = rest.0; lines = [] }, ap (λ z. certificate (record { number = 0; lines = z })) lines ∙ rest.1)
