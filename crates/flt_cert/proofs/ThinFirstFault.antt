-- A fault of a thin certificate depends on no line after the one that it names.
use Rattle.std.proofs.Common.{◌≡◌, ◌<◌, ◌+◌, ℕ, zero, suc, Bool, true, false, List, [], ◌∷◌, ◌++◌, length, take, refl, sym, ap, arith, ◌∙◌}
use Rattle.std.specs.Prelude.{if◌then◌else◌, Ok, Err, Option, Some, None}
use Rattle.flt_cert.specs.Text.{Text, lines_of}
use Rattle.flt_cert.specs.Format.{Point, joined}
use Rattle.flt_cert.specs.Reading.{Place, Outcome, and_then, line, asked, head_of, point, closed, closed_by, start, Fails}
use Rattle.flt_cert.specs.Thin.{Slot, Thin, is_thin}
use Rattle.flt_cert.specs.ThinFormat.{thin_spelling, IsFirstThinFault}
use Rattle.flt_cert.specs.ThinReading.{given_at, padded, with_given, if_given, slots_from, slots, thin_callback, is_thin_end, thin_finished}
use Rattle.flt_cert.specs.ThinReading.{thin_callbacks_from, thin_callbacks, is_first_thin, first_thin, thin_certificate, IsThinFaultOf}
use Rattle.flt_cert.specs.declared.fault.CertFault.{CertFault}
use Rattle.flt_cert.specs.declared.fault.CertFault.TheVariants.{Line, OutOfMemory}
use Rattle.flt_cert.proofs.Sound.{joined_lines}
use Rattle.flt_cert.proofs.FirstFault.{place, Late, then_late, line_late, asked_late, point_late, both, Alike}
use Rattle.flt_cert.proofs.FirstFault.{then_same, line_same, asked_same, point_same, Told, then_told}
use Rattle.flt_cert.proofs.ThinSound.{fault_begun, read_lines}
use Rattle.flt_cert.proofs.ThinComplete.{lines_read, lines_spelled}

-- ---- past a line

given_late : (m left count : ℕ) (found : List Slot) (text : Text) (i : Place) → m < i.number →
    ((more : List Slot) (j : Place) → m < j.number → Late m (slots_from left count more j)) → (g : Option (ℕ × Point)) →
    Late m (if_given g (λ q. slots_from left count (with_given q.0 q.1 found) i) (Ok ((padded count found, text), i)))
given_late m left count found text i h rest None = h
given_late m left count found text i h rest (Some q) = rest (with_given q.0 q.1 found) i h

slots_late : (m left count : ℕ) (found : List Slot) (i : Place) → m < i.number → Late m (slots_from left count found i)
slots_late m zero count found i h =
    then_late m (line i) (λ q. Ok ((padded count found, q.0), q.1)) (line_late m i (omega arith)) (λ text j k. k)
slots_late m (suc left) count found i h =
    then_late m (line i) (λ q. if_given (given_at (length found) count q.0) (λ g. slots_from left count (with_given g.0 g.1 found) q.1)
    (Ok ((padded count found, q.0), q.1))) (line_late m i (omega arith))
    (λ text j k. given_late m left count found text j k (λ more l w. slots_late m left count more l w) (given_at (length found) count text))

all_slots_late : (m count : ℕ) (i : Place) → m < i.number → Late m (slots count i)
unfolding slots
all_slots_late m count i h =
    then_late m (point 0 i) (λ q. slots_from count count (Some q.0 ∷ []) q.1) (point_late m 0 i h)
    (λ x j k. slots_late m count count (Some x ∷ []) j k)

callback_late : (m k : ℕ) (text : Text) (i : Place) → m < i.number → Late m (thin_callback k text i)
unfolding thin_callback
callback_late m k text i h = then_late m (asked (head_of k text) i) (λ n. slots n.0 n.1) (asked_late m (head_of k text) i h)
    (λ n j l. all_slots_late m n j l)

finished_late : (m : ℕ) (found : Thin) (i : Place) → m < i.number → Late m (thin_finished found i)
unfolding closed
finished_late m found i h = go i.lines
  where
    go : (lines : List Text) → Late m (and_then (closed_by lines i) (λ e. Ok (found, e.1)))
    go [] = h
    go (text ∷ lines) = omega arith

turn_late : (m : ℕ) (found : Thin) (i : Place) (rest : Outcome Thin) → m < i.number → Late m rest → (x : Bool) →
    Late m (if x then thin_finished found i else rest)
turn_late m found i rest h l true = finished_late m found i h
turn_late m found i rest h l false = l

callbacks_late : (m left : ℕ) (found : Thin) (text : Text) (i : Place) → m < i.number → Late m (thin_callbacks_from left found text i)
unfolding thin_callbacks_from
callbacks_late m zero found text i h = turn_late m found i (Err i.number) h h (is_thin_end found text)
callbacks_late m (suc left) found text i h =
    turn_late m found i (and_then (thin_callback (length found) text i) (λ q. thin_callbacks_from left (found ++ q.0.0 ∷ []) q.0.1 q.1)) h
    (then_late m (thin_callback (length found) text i) (λ q. thin_callbacks_from left (found ++ q.0.0 ∷ []) q.0.1 q.1)
    (callback_late m (length found) text i h) (λ r j k. callbacks_late m left (found ++ r.0 ∷ []) r.1 j k)) (is_thin_end found text)

-- ---- two texts that are the same up to a line

given_same : (m left count : ℕ) (found : List Slot) (text : Text) → ((more : List Slot) → Alike m (slots_from left count more)) →
    (g : Option (ℕ × Point)) →
    Alike m (λ i. if_given g (λ q. slots_from left count (with_given q.0 q.1 found) i) (Ok ((padded count found, text), i)))
unfolding Alike
given_same m left count found text rest None n k xs ys e h = both (padded count found, text) n k xs ys e h
given_same m left count found text rest (Some q) n k xs ys e h = rest (with_given q.0 q.1 found) n k xs ys e h

slots_same : (m left count : ℕ) (found : List Slot) → Alike m (slots_from left count found)
unfolding Alike
slots_same m zero count found n k xs ys e h =
    then_same m (line (place n xs)) (line (place n ys)) (λ q. Ok ((padded count found, q.0), q.1)) (line_same m n k xs ys e h)
    (λ text o c us vs f g. both (padded count found, text) o c us vs f g) (λ text i l. l)
slots_same m (suc left) count found n k xs ys e h =
    then_same m (line (place n xs)) (line (place n ys))
    (λ q. if_given (given_at (length found) count q.0) (λ g. slots_from left count (with_given g.0 g.1 found) q.1)
    (Ok ((padded count found, q.0), q.1))) (line_same m n k xs ys e h)
    (λ text. given_same m left count found text (λ more. slots_same m left count more) (given_at (length found) count text))
    (λ text i l. given_late m left count found text i l (λ more j w. slots_late m left count more j w) (given_at (length found) count text))

all_slots_same : (m count : ℕ) → Alike m (slots count)
unfolding Alike slots
all_slots_same m count n k xs ys e h =
    then_same m (point 0 (place n xs)) (point 0 (place n ys)) (λ q. slots_from count count (Some q.0 ∷ []) q.1)
    (point_same m 0 n k xs ys e h) (λ x. slots_same m count count (Some x ∷ [])) (λ x i l. slots_late m count count (Some x ∷ []) i l)

callback_same : (m p : ℕ) (text : Text) → Alike m (thin_callback p text)
unfolding Alike thin_callback
callback_same m p text n k xs ys e h =
    then_same m (asked (head_of p text) (place n xs)) (asked (head_of p text) (place n ys)) (λ c. slots c.0 c.1)
    (asked_same m (head_of p text) n k xs ys e h) (λ c. all_slots_same m c) (λ c i l. all_slots_late m c i l)

first_same : (m : ℕ) → Alike m first_thin
unfolding Alike first_thin
first_same m n k xs ys e h =
    then_same m (line (place n xs)) (line (place n ys)) (λ q. asked (is_first_thin q.0) q.1) (line_same m n k xs ys e h)
    (λ text. asked_same m (is_first_thin text)) (λ text i l. asked_late m (is_first_thin text) i l)

-- ---- a fault up to the line is a fault of both

finished_told : (m : ℕ) (found : Thin) (n k : ℕ) (xs ys : List Text) → n + k ≡ m → take k xs ≡ take k ys →
    Told m (thin_finished found (place n xs)) (thin_finished found (place n ys))
unfolding Told closed
finished_told m found n k [] ys e h j l w = cc
finished_told m found n zero (x ∷ xs) ys e h j l w = let same : n + 1 ≡ j = cc in absurd (omega arith)
finished_told m found n (suc k) (x ∷ xs) [] e h j l w = cc
finished_told m found n (suc k) (x ∷ xs) (y ∷ ys) e h j l w = w

callbacks_told : (m left : ℕ) (found : Thin) (text : Text) (n k : ℕ) (xs ys : List Text) → n + k ≡ m → take k xs ≡ take k ys →
    Told m (thin_callbacks_from left found text (place n xs)) (thin_callbacks_from left found text (place n ys))
unfolding thin_callbacks_from Told Alike
callbacks_told m zero found text n k xs ys e h = turn_told (is_thin_end found text)
  where
    turn_told : (x : Bool) →
        Told m (if x then thin_finished found (place n xs) else Err n) (if x then thin_finished found (place n ys) else Err n)
    turn_told true = finished_told m found n k xs ys e h
    turn_told false = λ j l w. w
callbacks_told m (suc left) found text n k xs ys e h =
    turn_told (is_thin_end found text) (λ s after a b us vs v w. callbacks_told m left (found ++ s ∷ []) after a b us vs v w)
  where
    turn_told : (x : Bool) →
        ((s : List Slot) (after : Text) (a b : ℕ) (us vs : List Text) → a + b ≡ m → take b us ≡ take b vs →
        Told m (thin_callbacks_from left (found ++ s ∷ []) after (place a us))
        (thin_callbacks_from left (found ++ s ∷ []) after (place a vs))) →
        Told m (if x then thin_finished found (place n xs)
        else and_then (thin_callback (length found) text (place n xs)) (λ q. thin_callbacks_from left (found ++ q.0.0 ∷ []) q.0.1 q.1))
        (if x then thin_finished found (place n ys)
        else and_then (thin_callback (length found) text (place n ys)) (λ q. thin_callbacks_from left (found ++ q.0.0 ∷ []) q.0.1 q.1))
    turn_told true rest = finished_told m found n k xs ys e h
    turn_told false rest =
        then_told m (thin_callback (length found) text (place n xs)) (thin_callback (length found) text (place n ys))
        (λ q. thin_callbacks_from left (found ++ q.0.0 ∷ []) q.0.1 q.1)
        (callback_same m (length found) text n k xs ys e h) (λ r a b us vs v w. rest r.0 r.1 a b us vs v w)
        (λ r i l. callbacks_late m left (found ++ r.0 ∷ []) r.1 i l)

all_callbacks_late : (m : ℕ) (i : Place) → m < i.number → Late m (thin_callbacks i)
unfolding thin_callbacks
all_callbacks_late m i h =
    then_late m (line i) (λ q. thin_callbacks_from 16 [] q.0 q.1) (line_late m i (omega arith))
    (λ text j k. callbacks_late m 16 [] text j k)

all_callbacks_told : (m n k : ℕ) (xs ys : List Text) → n + k ≡ m → take k xs ≡ take k ys →
    Told m (thin_callbacks (place n xs)) (thin_callbacks (place n ys))
unfolding thin_callbacks Alike
all_callbacks_told m n k xs ys e h =
    then_told m (line (place n xs)) (line (place n ys)) (λ q. thin_callbacks_from 16 [] q.0 q.1) (line_same m n k xs ys e h)
    (λ text a b us vs v w. callbacks_told m 16 [] text a b us vs v w) (λ text i l. callbacks_late m 16 [] text i l)

certificate_told : (m : ℕ) (xs ys : List Text) → take m xs ≡ take m ys →
    Told m (thin_certificate (place 0 xs)) (thin_certificate (place 0 ys))
unfolding thin_certificate Alike
certificate_told m xs ys h =
    then_told m (first_thin (place 0 xs)) (first_thin (place 0 ys)) (λ q. thin_callbacks q.1) (first_same m 0 m xs ys (omega arith) h)
    (λ x n k us vs e g. all_callbacks_told m n k us vs e g) (λ x i l. all_callbacks_late m i l)

-- the fault of a text is at its first malformed line
pub first_fault : (text : Text) (n : ℕ) → thin_certificate (start text) ≡ Err n → IsFirstThinFault text n
unfolding Told
first_fault text n h =
    let begun = fault_begun text n h in
    record {
      before = begun.before;
      next = begun.next;
      whose = begun.whose;
      thin = begun.thin;
      begun = begun.begun;
      stopped = λ t good agree. (let read = lines_read (thin_spelling t) t good (lines_spelled t) in
          let told : thin_certificate (start (thin_spelling t)) ≡ Err n =
          certificate_told n (lines_of text) (lines_of (thin_spelling t)) (agree ∙ sym (ap (λ z. take n z) (lines_spelled t))) n
          (omega arith) h in
          not_both (thin_certificate (start (thin_spelling t))) t read.0 n read.1 told);
    }
  where
    not_both : (r : Outcome Thin) (t : Thin) (o : Place) (n : ℕ) → r ≡ Ok (t, o) → r ≡ Err n → ⊥
    not_both r t o n h k = cc

-- ---- what `read_thin` ensures

-- what is read is spelled so
pub is_spelled : (text : Text) (t : Thin) (o : Place) → thin_certificate (start text) ≡ Ok (t, o) → text ≡ thin_spelling t
is_spelled text t o h = sym (joined_lines text) ∙ ap joined (read_lines text t o h).0

-- and is a thin certificate
pub is_certified : (text : Text) (t : Thin) (o : Place) → thin_certificate (start text) ≡ Ok (t, o) → is_thin t ≡ true
is_certified text t o h = (read_lines text t o h).1

spelled_read : (text : Text) (t : Thin) → is_thin t ≡ true → text ≡ thin_spelling t → (o : Place)
    × (thin_certificate (start text) ≡ Ok (t, o))
spelled_read text t good spelled = lines_read text t good (ap lines_of spelled ∙ lines_spelled t)

-- what is spelled so is what is read
pub is_read : (text : Text) (found : Thin) (o : Place) → thin_certificate (start text) ≡ Ok (found, o) → (t : Thin) →
    is_thin t ≡ true → text ≡ thin_spelling t → found ≡ t
is_read text found o h t good spelled = let read = spelled_read text t good spelled in
    same_value (thin_certificate (start text)) found t o read.0 h read.1
  where
    same_value : (r : Outcome Thin) (found t : Thin) (o p : Place) → r ≡ Ok (found, o) → r ≡ Ok (t, p) → found ≡ t
    same_value r found t o p h k = let pair : (found, o) ≡ (t, p) = cc in ap (λ (q : Thin × Place). q.0) pair

-- a fault is at the first malformed line
pub is_fault : (text : Text) (e : CertFault) → Fails (thin_certificate (start text)) e → IsThinFaultOf text e
is_fault text OutOfMemory h = tt
is_fault text (Line n) h = first_fault text n h

-- what is spelled so fails only for memory
pub only_memory : (text : Text) (e : CertFault) → Fails (thin_certificate (start text)) e → (t : Thin) →
    is_thin t ≡ true → text ≡ thin_spelling t → e ≡ OutOfMemory
only_memory text OutOfMemory h t good spelled = refl
only_memory text (Line n) h t good spelled = let read = spelled_read text t good spelled in
    wrong (thin_certificate (start text)) read.0 read.1 h
  where
    wrong : (r : Outcome Thin) (o : Place) → r ≡ Ok (t, o) → r ≡ Err n → Line n ≡ OutOfMemory
    wrong r o h k = cc
