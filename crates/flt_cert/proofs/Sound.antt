-- What is read is spelled so, and the lines before a fault begin a certificate.
use Rattle.std.proofs.Common.{◌≡◌, ◌<◌, ◌+◌, ℕ, zero, suc, Bool, true, false, List, [], ◌∷◌, ◌++◌, length, take}
use Rattle.std.proofs.Common.{refl, sym, ap, subst, arith, ◌∙◌, append_assoc, append-nil, length-append}
use Rattle.std.specs.Prelude.{◌==◌, nat_lt, if◌then◌else◌, Ok, Err, Option, Some, None}
use Rattle.std.specs.List.{list_all}
use Rattle.std.specs.Str.{bytes_eq}
use Rattle.std.proofs.lemmas.Bool.{and_parts, and_from, lt-ltb, ltb-true, eqb-true}
use Rattle.std.proofs.lemmas.List.Folds.{list_all-append}
use Rattle.std.proofs.lemmas.Slice.Eq.{bytes_eq-Decides}
use Rattle.std.proofs.Math.Seq.{take-append_seam}
use Rattle.flt_cert.specs.Text as text_spec
use Rattle.flt_cert.specs.Text.{Text, lines_of}
use Rattle.flt_cert.specs.Format.{Point, Certificate, is_point, is_callback, is_certificate, point_line, callback_line, first_line}
use Rattle.flt_cert.specs.Format.{last_line, point_lines, one_callback, callback_lines, full_lines_for, joined}
use Rattle.flt_cert.specs.Reading.{Place, Outcome, and_then, line, line_at, asked, head_of, point_of, point, points_from, points, callback}
use Rattle.flt_cert.specs.Reading.{callbacks_from, callbacks, closed, closed_by, finished, is_last, is_first, first, certificate, start}
use Rattle.flt_cert.proofs.FieldLaws.{point_takes, head_takes}

-- ---- outcomes

-- what holds of a value and the place after it, or of the number of a fault
pub data Gives {A : Type 0} (F : ℕ → Type 0) (R : A → Place → Type 0) : Outcome A → Type 0 where
  gives : (a : A) (o : Place) → R a o → Gives F R (Ok (a, o))
  fails : (n : ℕ) → F n → Gives F R (Err n)

-- what holds of one reader after another
pub then_gives : {A B : Type 0} {F : ℕ → Type 0} {P : A → Place → Type 0} {R : B → Place → Type 0} (o : Outcome A)
    (f : A × Place → Outcome B) → Gives F P o → ((a : A) (i : Place) → P a i → Gives F R (f (a, i))) → Gives F R (and_then o f)
then_gives _ f (gives a i p) g = g a i p
then_gives _ f (fails n p) g = fails n p

-- ---- places in a text

-- the lines before the place
pub record At (all front : List Text) (i : Place) : Type 0 where
  pub lines : all ≡ front ++ i.lines
  pub number : length front ≡ i.number

-- the lines before a line begin a certificate
pub record Begun (all : List Text) (n : ℕ) : Type 0 where
  pub before : ℕ
  pub next : n ≡ suc before
  pub whose : Certificate
  pub certificate : is_certificate whose ≡ true
  pub begun : take before all ≡ take before (full_lines_for whose)

-- ---- lists of lines

point_lines_more : (p : ℕ) (ps qs : List Point) → point_lines p (ps ++ qs) ≡ point_lines p ps ++ point_lines (p + length ps) qs
point_lines_more p [] qs =
    let same : p ≡ p + length {A = Point} [] = omega arith in
    ap (λ n. point_lines n qs) same
point_lines_more p (x ∷ ps) qs =
    let shifted : suc p + length ps ≡ p + length (x ∷ ps) = omega arith in
    ap (λ z. point_line p x ∷ z) (point_lines_more (suc p) ps qs ∙ ap (λ n. point_lines (suc p) ps ++ point_lines n qs) shifted)

callback_lines_more : (k : ℕ) (found : Certificate) (ps : List Point) →
    callback_lines k (found ++ ps ∷ []) ≡ callback_lines k found ++ one_callback (k + length found) ps
callback_lines_more k [] ps =
    let same : k ≡ k + length {A = List Point} [] = omega arith in
    append-nil (one_callback k ps) ∙ ap (λ n. one_callback n ps) same
callback_lines_more k (qs ∷ found) ps =
    let shifted : suc k + length found ≡ k + length (qs ∷ found) = omega arith in
    let rest = callback_lines_more (suc k) found ps ∙ ap (λ n. callback_lines (suc k) found ++ one_callback n ps) shifted in
    ap (λ z. one_callback k qs ++ z) rest
    ∙ sym (append_assoc (one_callback k qs) (callback_lines (suc k) found) (one_callback (k + length (qs ∷ found)) ps))

-- ---- the lines before a fault

-- the lines of the callbacks that were read
abbrev done : Certificate → List Text
done found = first_line ∷ callback_lines 0 found

-- those, the first line of one more callback, and the lines of its points that were read
abbrev opened : Certificate → ℕ → List Point → List Text
opened cs n found = done cs ++ callback_line (length cs) n ∷ point_lines 0 found

begun_by : (all front more : List Text) (i : Place) (cs : Certificate) → At all front i → is_certificate cs ≡ true →
    full_lines_for cs ≡ front ++ more → Begun all (suc i.number)
begun_by all front more i cs here good lines =
    record {
      before = length front;
      next = ap (λ n. suc n) (sym here.number);
      whose = cs;
      certificate = good;
      begun = ap (λ z. take (length front) z) here.lines ∙ take-append_seam front i.lines
          ∙ sym (ap (λ z. take (length front) z) lines ∙ take-append_seam front more);
    }

one_point : is_certificate ((None ∷ []) ∷ []) ≡ true
one_point = refl

begun_first : (all : List Text) (i : Place) → At all [] i → Begun all (suc i.number)
begun_first all i here = begun_by all [] (full_lines_for ((None ∷ []) ∷ [])) i ((None ∷ []) ∷ []) here one_point refl

certified : (cs : Certificate) → 0 < length cs → length cs < 17 → list_all is_callback cs ≡ true → is_certificate cs ≡ true
certified cs some few each = and_from _ _ (lt-ltb 0 (length cs) some) (and_from _ _ (lt-ltb (length cs) 17 few) each)

begun_done : (all : List Text) (cs : Certificate) (i : Place) → At all (done cs) i → length cs < 17 →
    list_all is_callback cs ≡ true → Begun all (suc i.number)
begun_done all [] i here few each =
    begun_by all (done []) (callback_lines 0 ((None ∷ []) ∷ []) ++ last_line ∷ []) i ((None ∷ []) ∷ []) here one_point refl
begun_done all (ps ∷ cs) i here few each =
    begun_by all (done (ps ∷ cs)) (last_line ∷ []) i (ps ∷ cs) here (certified (ps ∷ cs) (omega arith) few each) refl

unreached : ℕ → List Point
unreached zero = []
unreached (suc n) = None ∷ unreached n

length_unreached : (n : ℕ) → length (unreached n) ≡ n
unfolding unreached
length_unreached zero = refl
length_unreached (suc n) = ap (λ m. suc m) (length_unreached n)

all_unreached : (n : ℕ) → list_all is_point (unreached n) ≡ true
unfolding unreached
all_unreached zero = refl
all_unreached (suc n) = all_unreached n

-- the callback that the first line of one more callback asks for
record Open (cs : Certificate) (n left : ℕ) (found : List Point) : Type 0 where
  few : length cs < 16
  each : list_all is_callback cs ≡ true
  some : 0 < n
  most : n < 513
  count : length found + left ≡ n
  points : list_all is_point found ≡ true

begun_opened : (all : List Text) (cs : Certificate) (n left : ℕ) (found : List Point) (i : Place) → Open cs n left found →
    At all (opened cs n found) i → Begun all (suc i.number)
begun_opened all cs n left found i opening here =
    let rest = unreached left in
    let ps : List Point = found ++ rest in
    let len : length ps ≡ n = length-append found rest ∙ ap (λ m. length found + m) (length_unreached left) ∙ opening.count in
    let good_points : list_all is_point ps ≡ true = list_all-append is_point found rest
    ∙ and_from _ _ opening.points (all_unreached left) in
    let good : is_callback ps ≡ true = rw len
    (and_from _ _ (lt-ltb 0 n opening.some) (and_from _ _ (lt-ltb n 513 opening.most) good_points)) in
    let each : list_all is_callback (cs ++ ps ∷ []) ≡ true = list_all-append is_callback cs (ps ∷ [])
    ∙ and_from _ _ opening.each (and_from _ _ good refl) in
    let size : length (cs ++ ps ∷ []) ≡ length cs + 1 = length-append cs (ps ∷ []) in
    let few = opening.few in
    let whole : is_certificate (cs ++ ps ∷ []) ≡ true = certified (cs ++ ps ∷ []) (omega arith) (omega arith) each in
    let one : one_callback (length cs) ps ≡ callback_line (length cs) n ∷ (point_lines 0 found ++ point_lines (0 + length found) rest) =
    rw (len, point_lines_more 0 found rest) refl in
    let lines : full_lines_for (cs ++ ps ∷ []) ≡ opened cs n found ++ (point_lines (0 + length found) rest ++ last_line ∷ []) =
    ap (λ z. first_line ∷ (z ++ last_line ∷ []))
    (callback_lines_more 0 cs ps ∙ ap (λ m. callback_lines 0 cs ++ one_callback m ps)
    (let e : 0 + length cs ≡ length cs = omega arith in e) ∙ ap (λ z. callback_lines 0 cs ++ z) one)
    ∙ simp append_assoc in
    begun_by all (opened cs n found) (point_lines (0 + length found) rest ++ last_line ∷ []) i (cs ++ ps ∷ []) here whole lines

-- ---- productions

at_next : {all front : List Text} {i : Place} (text : Text) (lines : List Text) → At all front i → i.lines ≡ text ∷ lines →
    At all (front ++ text ∷ []) (record { number = i.number + 1; lines = lines })
at_next {all} {front} {i} text lines here h =
    record {
      lines = here.lines ∙ ap (λ z. front ++ z) h ∙ sym (append_assoc front (text ∷ []) lines);
      number = length-append front (text ∷ []) ∙ ap (λ n. n + 1) here.number;
    }

-- the place after one line more, or a fault there
pub next_line : (F : ℕ → Type 0) (all front : List Text) (i : Place) → At all front i → F (suc i.number) →
    Gives F (λ text o. At all (front ++ text ∷ []) o × (o.number ≡ suc i.number)) (line i)
unfolding line
next_line F all front i here fault = go i.lines refl
  where
    go : (lines : List Text) → i.lines ≡ lines →
        Gives F (λ text o. At all (front ++ text ∷ []) o × (o.number ≡ suc i.number)) (line_at i.number lines)
    go [] h = let same : suc i.number ≡ i.number + 1 = omega arith in fails (i.number + 1) (subst F same fault)
    go (text ∷ lines) h = gives text (record { number = i.number + 1; lines = lines }) (at_next text lines here h, omega arith)

-- what the latest line says, or a fault there
pub said_by : {A : Type 0} (F : ℕ → Type 0) (what : Option A) (i : Place) (R : A → Place → Type 0) → F i.number →
    ((x : A) → what ≡ Some x → R x i) → Gives F R (asked what i)
said_by F None i R fault h = fails i.number fault
said_by F (Some x) i R fault h = gives x i (h x refl)

-- a place after one front of lines is a place after an equal front
pub same_front : {all : List Text} {front other : List Text} {i : Place} → front ≡ other → At all front i → At all other i
same_front {all} {front} {other} {i} h here = let P : List Text → Type 0 = λ z. At all z i in subst P h here

-- the place after the line of a point, or a fault there
pub next_point : (F : ℕ → Type 0) (all front : List Text) (p : ℕ) (i : Place) → At all front i → F (suc i.number) →
    Gives F (λ x o. At all (front ++ point_line p x ∷ []) o × (is_point x ≡ true)) (point p i)
unfolding point
next_point F all front p i here fault =
    then_gives (line i) (λ q. asked (point_of p q.0) q.1) (next_line F all front i here fault) (λ text o r.
    said_by F (point_of p text) o (λ x o. At all (front ++ point_line p x ∷ []) o × (is_point x ≡ true))
    (subst F (sym r.1) fault) (λ x h.
    (let good = point_takes p text x h in (same_front (ap (λ z. front ++ z ∷ []) good.0) r.0, good.1))))

line_gives : (all front : List Text) (i : Place) → At all front i → Begun all (suc i.number) →
    Gives (Begun all) (λ text o. At all (front ++ text ∷ []) o × (o.number ≡ suc i.number)) (line i)
line_gives all = next_line (Begun all) all

asked_gives : {A : Type 0} (all front : List Text) (what : Option A) (i : Place) (R : A → Place → Type 0) → Begun all i.number →
    ((x : A) → what ≡ Some x → R x i) → Gives (Begun all) R (asked what i)
asked_gives all front = said_by (Begun all)

number_begun : (all : List Text) (n m : ℕ) → n ≡ m → Begun all m → Begun all n
number_begun all n m h begun = let P : ℕ → Type 0 = Begun all in subst P (sym h) begun

point_gives : (all front : List Text) (p : ℕ) (i : Place) → At all front i → Begun all (suc i.number) →
    Gives (Begun all) (λ x o. At all (front ++ point_line p x ∷ []) o × (is_point x ≡ true)) (point p i)
point_gives all = next_point (Begun all) all

points_gives : (all : List Text) (cs : Certificate) (n left : ℕ) (found : List Point) (i : Place) → Open cs n left found →
    At all (opened cs n found) i →
    Gives (Begun all) (λ ps o. At all (opened cs n ps) o × (length ps ≡ n) × (list_all is_point ps ≡ true)) (points_from left found i)
points_gives all cs n zero found i opening here = gives found i (here, (let count = opening.count in omega arith), opening.points)
points_gives all cs n (suc left) found i opening here =
    then_gives (point (length found) i) (λ q. points_from left (found ++ q.0 ∷ []) q.1)
    (point_gives all (opened cs n found) (length found) i here (begun_opened all cs n (suc left) found i opening here)) (λ x o r.
    points_gives all cs n left (found ++ x ∷ []) o (opened_more x r.1) (same_front (more_lines x) r.0))
  where
    opened_more : (x : Point) → is_point x ≡ true → Open cs n left (found ++ x ∷ [])
    opened_more x good =
        let count = opening.count in
        record {
          few = opening.few;
          each = opening.each;
          some = opening.some;
          most = opening.most;
          count = ap (λ m. m + left) (length-append found (x ∷ [])) ∙ (let e : length found + 1 + left ≡ n = omega arith in e);
          points = list_all-append is_point found (x ∷ []) ∙ and_from _ _ opening.points (and_from _ _ good refl);
        }

    more_lines : (x : Point) → opened cs n found ++ point_line (length found) x ∷ [] ≡ opened cs n (found ++ x ∷ [])
    more_lines x =
        append_assoc (done cs) (callback_line (length cs) n ∷ point_lines 0 found) (point_line (length found) x ∷ [])
        ∙ ap (λ z. done cs ++ callback_line (length cs) n ∷ z)
        (ap (λ m. point_lines 0 found ++ point_line m x ∷ []) (let e : length found ≡ 0 + length found = omega arith in e)
        ∙ sym (point_lines_more 0 found (x ∷ [])))

-- what is known of callbacks that were read
record Found (all : List Text) (left : ℕ) (found : Certificate) (i : Place) : Type 0 where
  here : At all (done found) i
  each : list_all is_callback found ≡ true
  few : length found + left ≡ 16

callback_gives : (all : List Text) (found : Certificate) (text : Text) (i : Place) → At all (done found ++ text ∷ []) i →
    Begun all i.number → length found < 16 → list_all is_callback found ≡ true →
    Gives (Begun all) (λ ps o. At all (done (found ++ ps ∷ [])) o × (is_callback ps ≡ true)) (callback (length found) text i)
unfolding callback points
callback_gives all found text i here begun few each =
    then_gives (asked (head_of (length found) text) i) (λ n. points n.0 n.1)
    (asked_gives all (done found) (head_of (length found) text) i (λ n o. At all (opened found n []) o × (0 < n) × (n < 513)) begun (λ n h.
    (let head = head_takes (length found) text n h in (same_front (ap (λ z. done found ++ z ∷ []) head.0) here, head.1, head.2)))) (λ n o r.
    then_same n (points_from n [] o) (points_gives all found n n [] o
    (record { few = few; each = each; some = r.1; most = r.2; count = omega arith; points = refl }) r.0) r.1 r.2)
  where
    closed_lines : (n : ℕ) (ps : List Point) → length ps ≡ n → opened found n ps ≡ done (found ++ ps ∷ [])
    closed_lines n ps h = rw (← h) (ap (λ z. first_line ∷ z)
        (sym (callback_lines_more 0 found ps
        ∙ ap (λ m. callback_lines 0 found ++ one_callback m ps) (let e : 0 + length found ≡ length found = omega arith in e))))

    then_same : (n : ℕ) (o : Outcome (List Point)) →
        Gives (Begun all) (λ ps o. At all (opened found n ps) o × (length ps ≡ n) × (list_all is_point ps ≡ true)) o → 0 < n → n < 513 →
        Gives (Begun all) (λ ps o. At all (done (found ++ ps ∷ [])) o × (is_callback ps ≡ true)) o
    then_same n _ (gives ps o r) some most =
        gives ps o (
          same_front (closed_lines n ps r.1) r.0,
          (let len : length ps ≡ n = r.1 in rw len (and_from _ _ (lt-ltb 0 n some) (and_from _ _ (lt-ltb n 513 most) r.2))),
        )
    then_same n _ (fails m r) some most = fails m r

-- all lines are read
Whole : List Text → Certificate → Place → Type 0
Whole all cs o = (all ≡ full_lines_for cs) × (is_certificate cs ≡ true)

finished_gives : (all : List Text) (found : Certificate) (text : Text) (i : Place) → At all (done found ++ text ∷ []) i →
    is_last found text ≡ true → length found < 17 → list_all is_callback found ≡ true →
    Gives (Begun all) (Whole all) (finished found i)
unfolding closed Whole
finished_gives all found text i here last few each = go i.lines refl
  where
    parts : (nat_lt 0 (length found) ≡ true) × (bytes_eq text last_line ≡ true)
    parts = and_parts (nat_lt 0 (length found)) (bytes_eq text last_line) last

    good : is_certificate found ≡ true
    good = certified found (ltb-true _ _ parts.0) few each

    end : done found ++ text ∷ [] ≡ full_lines_for found
    end = ap (λ z. done found ++ z ∷ []) ((bytes_eq-Decides text last_line).0 parts.1)

    go : (lines : List Text) → i.lines ≡ lines → Gives (Begun all) (Whole all) (and_then (closed_by lines i) (λ e. Ok (found, e.1)))
    go [] h = gives found i (here.lines ∙ ap (λ z. (done found ++ text ∷ []) ++ z) h ∙ append-nil (done found ++ text ∷ []) ∙ end, good)
    go (other ∷ lines) h = fails (i.number + 1) (number_begun all (i.number + 1) (suc i.number) (omega arith)
        (begun_by all (done found ++ text ∷ []) [] i found here good (sym (append-nil (done found ++ text ∷ []) ∙ end))))

callbacks_gives : (all : List Text) (left : ℕ) (found : Certificate) (i : Place) → Found all left found i →
    Gives (Begun all) (Whole all) (callbacks_from left found i)
unfolding callbacks_from
callbacks_gives all zero found i known =
    then_gives (line i) (λ q. if is_last found q.0 then finished found q.1 else Err q.1.number)
    (line_gives all (done found) i known.here begun) (λ text o r. go text o r (is_last found text) refl)
  where
    few : length found < 17
    few = let count = known.few in omega arith

    begun : Begun all (suc i.number)
    begun = begun_done all found i known.here few known.each

    go : (text : Text) (o : Place) → At all (done found ++ text ∷ []) o × (o.number ≡ suc i.number) → (x : Bool) →
        is_last found text ≡ x → Gives (Begun all) (Whole all) (if x then finished found o else Err o.number)
    go text o r true h = finished_gives all found text o r.0 h few known.each
    go text o r false h = fails o.number (number_begun all o.number (suc i.number) r.1 begun)
callbacks_gives all (suc left) found i known =
    then_gives (line i) (λ q. if is_last found q.0 then finished found q.1
    else and_then (callback (length found) q.0 q.1) (λ ps. callbacks_from left (found ++ ps.0 ∷ []) ps.1))
    (line_gives all (done found) i known.here begun)
    (λ text o r. go text o r (is_last found text) refl (λ ps j k. callbacks_gives all left (found ++ ps ∷ []) j k))
  where
    few : length found < 16
    few = let count = known.few in omega arith

    begun : Begun all (suc i.number)
    begun = begun_done all found i known.here (omega (arith, few)) known.each

    go : (text : Text) (o : Place) → At all (done found ++ text ∷ []) o × (o.number ≡ suc i.number) → (x : Bool) → is_last found text ≡ x →
        ((ps : List Point) (j : Place) → Found all left (found ++ ps ∷ []) j →
        Gives (Begun all) (Whole all) (callbacks_from left (found ++ ps ∷ []) j)) →
        Gives (Begun all) (Whole all) (if x then finished found o
        else and_then (callback (length found) text o) (λ ps. callbacks_from left (found ++ ps.0 ∷ []) ps.1))
    go text o r true h rest = finished_gives all found text o r.0 h (omega (arith, few)) known.each
    go text o r false h rest =
        then_gives (callback (length found) text o) (λ ps. callbacks_from left (found ++ ps.0 ∷ []) ps.1)
        (callback_gives all found text o r.0 (number_begun all o.number (suc i.number) r.1 begun) few known.each) (λ ps j k.
        rest ps j (record {
          here = k.0;
          each = list_all-append is_callback found (ps ∷ []) ∙ and_from _ _ known.each (and_from _ _ k.1 refl);
          few = ap (λ m. m + left) (length-append found (ps ∷ []))
              ∙ (let count = known.few in let e : length found + 1 + left ≡ 16 = omega arith in e);
        }))

certificate_gives : (text : Text) → Gives (Begun (lines_of text)) (Whole (lines_of text)) (certificate (start text))
unfolding certificate first
certificate_gives text =
    let all = lines_of text in
    let begun = begun_first all (start text) (record { lines = refl; number = refl }) in
    then_gives (first (start text)) (λ q. callbacks q.1)
    (then_gives (line (start text)) (λ q. asked (is_first q.0) q.1)
    (line_gives all [] (start text) (record { lines = refl; number = refl }) begun) (λ first_text o r.
    asked_gives all [] (is_first first_text) o (λ x o. At all (done []) o) (number_begun all o.number 1 r.1 begun)
    (λ x h. same_front (ap (λ z. z ∷ []) (header first_text x h)) r.0))) (λ x o r.
    callbacks_gives all 16 [] o (record { here = r; each = refl; few = refl }))
  where
    header : (text : Text) (x : Unit {0}) → is_first text ≡ Some x → text ≡ first_line
    header text x h = go (bytes_eq text first_line) refl h
      where
        go : (b : Bool) → bytes_eq text first_line ≡ b → (if b then Some tt else None) ≡ Some x → text ≡ first_line
        go true e h = (bytes_eq-Decides text first_line).0 e
        go false e h = cc

-- what is read is spelled so
pub read_lines : (text : Text) (cs : Certificate) (o : Place) → certificate (start text) ≡ Ok (cs, o) →
    (lines_of text ≡ full_lines_for cs) × (is_certificate cs ≡ true)
unfolding Whole
read_lines text cs o h = go (certificate (start text)) (certificate_gives text) h
  where
    go : (r : Outcome Certificate) → Gives (Begun (lines_of text)) (Whole (lines_of text)) r → r ≡ Ok (cs, o) →
        (lines_of text ≡ full_lines_for cs) × (is_certificate cs ≡ true)
    go _ (gives found p w) h = let same : (found, p) ≡ (cs, o) = cc in let P : Certificate → Type 0 =
        λ c. (lines_of text ≡ full_lines_for c) × (is_certificate c ≡ true) in
        subst P (ap (λ (q : Certificate × Place). q.0) same) w
    go _ (fails n w) h = cc

-- the lines before a fault begin a certificate
pub fault_begun : (text : Text) (n : ℕ) → certificate (start text) ≡ Err n → Begun (lines_of text) n
fault_begun text n h = go (certificate (start text)) (certificate_gives text) h
  where
    go : (r : Outcome Certificate) → Gives (Begun (lines_of text)) (Whole (lines_of text)) r → r ≡ Err n → Begun (lines_of text) n
    go _ (gives found p w) h = cc
    go _ (fails m w) h = let same : m ≡ n = cc in let P : ℕ → Type 0 = Begun (lines_of text) in subst P same w

-- the lines of a text make the text
pub joined_lines : (text : Text) → joined (lines_of text) ≡ text
joined_lines [] = refl
joined_lines (b ∷ text) = go (b == 10) refl (lines_of text) (joined_lines text)
  where
    go : (x : Bool) → (b == 10) ≡ x → (lines : List Text) → joined lines ≡ text →
        joined (if x then (10 ∷ []) ∷ lines else text_spec.begun_by b lines) ≡ b ∷ text
    go true e lines h = rw (eqb-true b 10 e) (ap (λ z. 10 ∷ z) h)
    go false e [] h = ap (λ z. b ∷ z) h
    go false e (line ∷ lines) h = ap (λ z. b ∷ z) h
