-- A fault depends on no line after the one that it names.
use Rattle.std.proofs.Common.{◌≡◌, ◌<◌, ◌≤◌, ◌+◌, ℕ, zero, suc, Bool, true, false, List, []}
use Rattle.std.proofs.Common.{◌∷◌, ◌++◌, length, take, refl, sym, ap, subst, arith, ◌∙◌}
use Rattle.std.specs.Prelude.{if◌then◌else◌, Ok, Err, Option, Some, None}
use Rattle.flt_cert.specs.Text.{Text, lines_of}
use Rattle.flt_cert.specs.Format.{Point, Certificate, is_certificate, joined, full_spelling, IsFirstFullFault}
use Rattle.flt_cert.specs.Reading.{Place, Outcome, and_then, line, line_at, asked, head_of, point_of, point, points_from}
use Rattle.flt_cert.specs.Reading.{points, callback, callbacks_from, callbacks, closed, closed_by, finished, is_last}
use Rattle.flt_cert.specs.Reading.{is_first, first, certificate, start, Fails, IsFullFaultOf}
use Rattle.flt_cert.specs.declared.fault.CertFault.{CertFault}
use Rattle.flt_cert.specs.declared.fault.CertFault.TheVariants.{Line, OutOfMemory}
use Rattle.flt_cert.proofs.Sound.{fault_begun, read_lines, joined_lines}
use Rattle.flt_cert.proofs.Complete.{lines_read, lines_spelled}

-- a place by its number and its lines
abbrev pub place : ℕ → List Text → Place
place n lines = record { number = n; lines = lines }

-- ---- past a line

-- no fault up to a line
abbrev pub Late : {A : Type 0} → ℕ → Outcome A → Type 0
Late m (Ok x) = m < x.1.number
Late m (Err n) = m < n

-- nor in what is read after it
pub then_late : {A B : Type 0} (m : ℕ) (o : Outcome A) (f : A × Place → Outcome B) → Late m o →
    ((a : A) (i : Place) → m < i.number → Late m (f (a, i))) → Late m (and_then o f)
then_late m (Ok x) f h g = g x.0 x.1 h
then_late m (Err n) f h g = h

-- nor in a line after it
pub line_late : (m : ℕ) (i : Place) → m ≤ i.number → Late m (line i)
unfolding line
line_late m i h = go i.lines
  where
    go : (lines : List Text) → Late m (line_at i.number lines)
    go [] = omega arith
    go (text ∷ lines) = omega arith

-- nor in what such a line says
pub asked_late : {A : Type 0} (m : ℕ) (what : Option A) (i : Place) → m < i.number → Late m (asked what i)
asked_late m None i h = h
asked_late m (Some x) i h = h

-- nor in the line of a point
pub point_late : (m p : ℕ) (i : Place) → m < i.number → Late m (point p i)
unfolding point
point_late m p i h = then_late m (line i) (λ q. asked (point_of p q.0) q.1) (line_late m i (omega arith))
    (λ text j k. asked_late m (point_of p text) j k)

points_late : (m left : ℕ) (found : List Point) (i : Place) → m < i.number → Late m (points_from left found i)
points_late m zero found i h = h
points_late m (suc left) found i h =
    then_late m (point (length found) i) (λ q. points_from left (found ++ q.0 ∷ []) q.1) (point_late m (length found) i h)
    (λ x j k. points_late m left (found ++ x ∷ []) j k)

callback_late : (m k : ℕ) (text : Text) (i : Place) → m < i.number → Late m (callback k text i)
unfolding callback points
callback_late m k text i h = then_late m (asked (head_of k text) i) (λ n. points n.0 n.1) (asked_late m (head_of k text) i h)
    (λ n j l. points_late m n [] j l)

finished_late : (m : ℕ) (found : Certificate) (i : Place) → m < i.number → Late m (finished found i)
unfolding closed
finished_late m found i h = go i.lines
  where
    go : (lines : List Text) → Late m (and_then (closed_by lines i) (λ e. Ok (found, e.1)))
    go [] = h
    go (text ∷ lines) = omega arith

turn_late : (m : ℕ) (found : Certificate) (text : Text) (i : Place) (rest : Outcome Certificate) → m < i.number → Late m rest →
    (x : Bool) → Late m (if x then finished found i else rest)
turn_late m found text i rest h l true = finished_late m found i h
turn_late m found text i rest h l false = l

callbacks_late : (m left : ℕ) (found : Certificate) (i : Place) → m < i.number → Late m (callbacks_from left found i)
unfolding callbacks_from
callbacks_late m zero found i h =
    then_late m (line i) (λ q. if is_last found q.0 then finished found q.1 else Err q.1.number) (line_late m i (omega arith)) (λ text j k.
    turn_late m found text j (Err j.number) k k (is_last found text))
callbacks_late m (suc left) found i h =
    then_late m (line i) (λ q. if is_last found q.0 then finished found q.1
    else and_then (callback (length found) q.0 q.1) (λ ps. callbacks_from left (found ++ ps.0 ∷ []) ps.1))
    (line_late m i (omega arith)) (λ text j k.
    turn_late m found text j (and_then (callback (length found) text j) (λ ps. callbacks_from left (found ++ ps.0 ∷ []) ps.1)) k
    (then_late m (callback (length found) text j) (λ ps. callbacks_from left (found ++ ps.0 ∷ []) ps.1)
    (callback_late m (length found) text j k) (λ ps l w.
    callbacks_late m left (found ++ ps ∷ []) l w)) (is_last found text))

-- ---- two texts that are the same up to a line

-- the same outcome, or none up to the line
pub data Same {A : Type 0} (m : ℕ) : Outcome A → Outcome A → Type 0 where
  both : (a : A) (n k : ℕ) (xs ys : List Text) → n + k ≡ m → take k xs ≡ take k ys → Same m (Ok (a, place n xs)) (Ok (a, place n ys))
  fault : (n : ℕ) → Same m (Err n) (Err n)
  late : {r s : Outcome A} → Late m r → Same m r s

-- from texts that are the same up to the line it makes the same
unfoldable pub Alike : {A : Type 0} → ℕ → (Place → Outcome A) → Type 0
Alike m f = (n k : ℕ) (xs ys : List Text) → n + k ≡ m → take k xs ≡ take k ys → Same m (f (place n xs)) (f (place n ys))

-- one reader after another makes the same
pub then_same : {A B : Type 0} (m : ℕ) (r s : Outcome A) (f : A × Place → Outcome B) → Same m r s → ((a : A) → Alike m (λ i. f (a, i))) →
    ((a : A) (i : Place) → m < i.number → Late m (f (a, i))) → Same m (and_then r f) (and_then s f)
unfolding Alike
then_same m _ _ f (both a n k xs ys e h) g l = g a n k xs ys e h
then_same m _ _ f (fault n) g l = fault n
then_same m r s f (late h) g l = late (then_late m r f h l)

-- so does a line
pub line_same : (m : ℕ) → Alike m line
unfolding Alike line
line_same m n zero xs ys e h = late (line_late m (place n xs) (omega arith))
line_same m n (suc k) [] [] e h = fault (n + 1)
line_same m n (suc k) [] (y ∷ ys) e h = cc
line_same m n (suc k) (x ∷ xs) [] e h = cc
line_same m n (suc k) (x ∷ xs) (y ∷ ys) e h =
    let head : y ≡ x = cc in
    let tail : take k xs ≡ take k ys = cc in
    let P : Text → Type 0 = λ z. Same m (Ok (x, place (n + 1) xs)) (Ok (z, place (n + 1) ys)) in
    subst P (sym head) (both x (n + 1) k xs ys (omega arith) tail)

-- so does what it says
pub asked_same : {A : Type 0} (m : ℕ) (what : Option A) → Alike m (asked what)
unfolding Alike
asked_same m None n k xs ys e h = fault n
asked_same m (Some x) n k xs ys e h = both x n k xs ys e h

-- so does the line of a point
pub point_same : (m p : ℕ) → Alike m (point p)
unfolding Alike point
point_same m p n k xs ys e h =
    then_same m (line (place n xs)) (line (place n ys)) (λ q. asked (point_of p q.0) q.1) (line_same m n k xs ys e h)
    (λ text. asked_same m (point_of p text)) (λ text i l. asked_late m (point_of p text) i l)

points_same : (m left : ℕ) (found : List Point) → Alike m (points_from left found)
unfolding Alike
points_same m zero found n k xs ys e h = both found n k xs ys e h
points_same m (suc left) found n k xs ys e h =
    then_same m (point (length found) (place n xs)) (point (length found) (place n ys))
    (λ q. points_from left (found ++ q.0 ∷ []) q.1) (point_same m (length found) n k xs ys e h)
    (λ x. points_same m left (found ++ x ∷ [])) (λ x i l. points_late m left (found ++ x ∷ []) i l)

callback_same : (m p : ℕ) (text : Text) → Alike m (callback p text)
unfolding Alike callback points
callback_same m p text n k xs ys e h =
    then_same m (asked (head_of p text) (place n xs)) (asked (head_of p text) (place n ys)) (λ c. points c.0 c.1)
    (asked_same m (head_of p text) n k xs ys e h)
    (λ c. points_same m c []) (λ c i l. points_late m c [] i l)

first_same : (m : ℕ) → Alike m first
unfolding Alike first
first_same m n k xs ys e h =
    then_same m (line (place n xs)) (line (place n ys)) (λ q. asked (is_first q.0) q.1) (line_same m n k xs ys e h)
    (λ text. asked_same m (is_first text)) (λ text i l. asked_late m (is_first text) i l)

-- ---- a fault up to the line is a fault of both

-- a fault of the first up to the line is one of the second
unfoldable pub Told : {A : Type 0} → ℕ → Outcome A → Outcome A → Type 0
Told m r s = (n : ℕ) → n ≤ m → r ≡ Err n → s ≡ Err n

told_late : {A : Type 0} (m : ℕ) (r s : Outcome A) → Late m r → Told m r s
unfolding Told
told_late m (Ok x) s h n l e = cc
told_late m (Err k) s h n l e = let same : k ≡ n = cc in absurd (omega arith)

-- one reader after another
pub then_told : {A B : Type 0} (m : ℕ) (r s : Outcome A) (f : A × Place → Outcome B) → Same m r s →
    ((a : A) (n k : ℕ) (xs ys : List Text) → n + k ≡ m → take k xs ≡ take k ys → Told m (f (a, place n xs)) (f (a, place n ys))) →
    ((a : A) (i : Place) → m < i.number → Late m (f (a, i))) → Told m (and_then r f) (and_then s f)
unfolding Told
then_told m _ _ f (both a n k xs ys e h) g l = g a n k xs ys e h
then_told m _ _ f (fault n) g l = λ j k e. e
then_told m r s f (late h) g l = told_late m (and_then r f) (and_then s f) (then_late m r f h l)

finished_told : (m : ℕ) (found : Certificate) (n k : ℕ) (xs ys : List Text) → n + k ≡ m → take k xs ≡ take k ys →
    Told m (finished found (place n xs)) (finished found (place n ys))
unfolding Told closed
finished_told m found n k [] ys e h j l w = cc
finished_told m found n zero (x ∷ xs) ys e h j l w = let same : n + 1 ≡ j = cc in absurd (omega arith)
finished_told m found n (suc k) (x ∷ xs) [] e h j l w = cc
finished_told m found n (suc k) (x ∷ xs) (y ∷ ys) e h j l w = w

callbacks_told : (m left : ℕ) (found : Certificate) (n k : ℕ) (xs ys : List Text) → n + k ≡ m → take k xs ≡ take k ys →
    Told m (callbacks_from left found (place n xs)) (callbacks_from left found (place n ys))
unfolding callbacks_from Told Alike
callbacks_told m zero found n k xs ys e h =
    then_told m (line (place n xs)) (line (place n ys)) (λ q. if is_last found q.0 then finished found q.1 else Err q.1.number)
    (line_same m n k xs ys e h)
    (λ text o c us vs f g. turn_told text o c us vs f g (is_last found text))
    (λ text i l. turn_late m found text i (Err i.number) l l (is_last found text))
  where
    turn_told : (text : Text) (o c : ℕ) (us vs : List Text) → o + c ≡ m → take c us ≡ take c vs → (x : Bool) →
        Told m (if x then finished found (place o us) else Err o) (if x then finished found (place o vs) else Err o)
    turn_told text o c us vs f g true = finished_told m found o c us vs f g
    turn_told text o c us vs f g false = λ j l w. w
callbacks_told m (suc left) found n k xs ys e h =
    then_told m (line (place n xs)) (line (place n ys))
    (λ q. if is_last found q.0 then finished found q.1
    else and_then (callback (length found) q.0 q.1) (λ ps. callbacks_from left (found ++ ps.0 ∷ []) ps.1))
    (line_same m n k xs ys e h)
    (λ text o c us vs f g. turn_told text o c us vs f g (is_last found text)
    (λ ps a b us2 bs v w. callbacks_told m left (found ++ ps ∷ []) a b us2 bs v w))
    (λ text i l. turn_late m found text i
    (and_then (callback (length found) text i) (λ ps. callbacks_from left (found ++ ps.0 ∷ []) ps.1)) l
    (then_late m (callback (length found) text i) (λ ps. callbacks_from left (found ++ ps.0 ∷ []) ps.1)
    (callback_late m (length found) text i l) (λ ps j w. callbacks_late m left (found ++ ps ∷ []) j w)) (is_last found text))
  where
    turn_told : (text : Text) (o c : ℕ) (us vs : List Text) → o + c ≡ m → take c us ≡ take c vs → (x : Bool) →
        ((ps : List Point) (a b : ℕ) (us2 bs : List Text) → a + b ≡ m → take b us2 ≡ take b bs →
        Told m (callbacks_from left (found ++ ps ∷ []) (place a us2)) (callbacks_from left (found ++ ps ∷ []) (place a bs))) →
        Told m (if x then finished found (place o us)
        else and_then (callback (length found) text (place o us)) (λ ps. callbacks_from left (found ++ ps.0 ∷ []) ps.1))
        (if x then finished found (place o vs)
        else and_then (callback (length found) text (place o vs)) (λ ps. callbacks_from left (found ++ ps.0 ∷ []) ps.1))
    turn_told text o c us vs f g true rest = finished_told m found o c us vs f g
    turn_told text o c us vs f g false rest =
        then_told m (callback (length found) text (place o us)) (callback (length found) text (place o vs))
        (λ ps. callbacks_from left (found ++ ps.0 ∷ []) ps.1)
        (callback_same m (length found) text o c us vs f g) (λ ps a b us2 bs v w. rest ps a b us2 bs v w)
        (λ ps i l. callbacks_late m left (found ++ ps ∷ []) i l)

certificate_told : (m : ℕ) (xs ys : List Text) → take m xs ≡ take m ys → Told m (certificate (place 0 xs)) (certificate (place 0 ys))
unfolding certificate Alike
certificate_told m xs ys h =
    then_told m (first (place 0 xs)) (first (place 0 ys)) (λ q. callbacks q.1) (first_same m 0 m xs ys (omega arith) h)
    (λ x n k us vs e g. callbacks_told m 16 [] n k us vs e g) (λ x i l. callbacks_late m 16 [] i l)

-- the fault of a text is at its first malformed line
pub first_fault : (text : Text) (n : ℕ) → certificate (start text) ≡ Err n → IsFirstFullFault text n
unfolding Told
first_fault text n h =
    let begun = fault_begun text n h in
    record {
      before = begun.before;
      next = begun.next;
      whose = begun.whose;
      certificate = begun.certificate;
      begun = begun.begun;
      stopped = λ cs good agree. (let read = lines_read (full_spelling cs) cs good (lines_spelled cs) in
          let told : certificate (start (full_spelling cs)) ≡ Err n =
          certificate_told n (lines_of text) (lines_of (full_spelling cs)) (agree ∙ sym (ap (λ z. take n z) (lines_spelled cs))) n
          (omega arith) h in
          not_both (certificate (start (full_spelling cs))) cs read.0 n read.1 told);
    }
  where
    not_both : (r : Outcome Certificate) (cs : Certificate) (o : Place) (n : ℕ) → r ≡ Ok (cs, o) → r ≡ Err n → ⊥
    not_both r cs o n h k = cc

-- ---- what `read` ensures

-- a certificate that is read is spelled by the text
pub is_spelled : (text : Text) (cs : Certificate) (o : Place) → certificate (start text) ≡ Ok (cs, o) → text ≡ full_spelling cs
is_spelled text cs o h = sym (joined_lines text) ∙ ap joined (read_lines text cs o h).0

-- what is read is a certificate
pub is_certified : (text : Text) (cs : Certificate) (o : Place) → certificate (start text) ≡ Ok (cs, o) → is_certificate cs ≡ true
is_certified text cs o h = (read_lines text cs o h).1

spelled_read : (text : Text) (cs : Certificate) → is_certificate cs ≡ true → text ≡ full_spelling cs → (o : Place)
    × (certificate (start text) ≡ Ok (cs, o))
spelled_read text cs good spelled = lines_read text cs good (ap lines_of spelled ∙ lines_spelled cs)

-- the spelling of a certificate is read as this certificate
pub is_read : (text : Text) (found : Certificate) (o : Place) → certificate (start text) ≡ Ok (found, o) → (cs : Certificate) →
    is_certificate cs ≡ true → text ≡ full_spelling cs → found ≡ cs
is_read text found o h cs good spelled = let read = spelled_read text cs good spelled in
    same_value (certificate (start text)) found cs o read.0 h read.1
  where
    same_value : (r : Outcome Certificate) (found cs : Certificate) (o p : Place) → r ≡ Ok (found, o) → r ≡ Ok (cs, p) → found ≡ cs
    same_value r found cs o p h k = let pair : (found, o) ≡ (cs, p) = cc in ap (λ (q : Certificate × Place). q.0) pair

-- where reading fails, it fails with a fault of the text
pub is_fault : (text : Text) (e : CertFault) → Fails (certificate (start text)) e → IsFullFaultOf text e
is_fault text OutOfMemory h = tt
is_fault text (Line n) h = first_fault text n h

-- the spelling of a certificate fails for want of memory alone
pub only_memory : (text : Text) (e : CertFault) → Fails (certificate (start text)) e → (cs : Certificate) →
    is_certificate cs ≡ true → text ≡ full_spelling cs → e ≡ OutOfMemory
only_memory text OutOfMemory h cs good spelled = refl
only_memory text (Line n) h cs good spelled = let read = spelled_read text cs good spelled in
    wrong (certificate (start text)) read.0 read.1 h
  where
    wrong : (r : Outcome Certificate) (o : Place) → r ≡ Ok (cs, o) → r ≡ Err n → Line n ≡ OutOfMemory
    wrong r o h k = cc
