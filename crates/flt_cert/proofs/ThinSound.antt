-- What is read of a thin certificate is spelled so, and the lines before a fault begin a thin certificate.
use Rattle.std.proofs.Common.{◌≡◌, ◌<◌, ◌≤◌, ◌+◌, ◌-◌, ℕ, zero, suc, Bool, true, false, List, [], ◌∷◌, ◌++◌, length}
use Rattle.std.proofs.Common.{take, refl, sym, ap, subst, arith, ◌∙◌, append_assoc, append-nil, length-append}
use Rattle.std.specs.Prelude.{nat_lt, if◌then◌else◌, Ok, Err, Option, Some, None}
use Rattle.std.specs.List.{list_all}
use Rattle.std.specs.Str.{bytes_eq}
use Rattle.std.proofs.lemmas.Bool.{and_parts, and_from, lt-ltb, ltb-true}
use Rattle.std.proofs.lemmas.List.Folds.{list_all-append}
use Rattle.std.proofs.lemmas.Slice.Eq.{bytes_eq-Decides}
use Rattle.std.proofs.Math.Seq.{take-append_seam}
use Rattle.flt_cert.specs.Text.{Text, lines_of}
use Rattle.flt_cert.specs.Format.{Point, is_point, point_line, callback_line, last_line}
use Rattle.flt_cert.specs.Reading.{Place, Outcome, and_then, line, asked, head_of, point, closed, closed_by, start}
use Rattle.flt_cert.specs.Thin.{Slot, Thin, is_slot, begins, is_thin_callback, is_thin}
use Rattle.flt_cert.specs.ThinFormat.{slot_lines, one_thin_callback, thin_callback_lines, first_thin_line, thin_lines_for}
use Rattle.flt_cert.specs.ThinReading.{given_at, nothing_given, padded, with_given, if_given, slots_from, slots, thin_callback, is_thin_end}
use Rattle.flt_cert.specs.ThinReading.{thin_finished, thin_callbacks_from, thin_callbacks, is_first_thin, first_thin, thin_certificate}
use Rattle.flt_cert.proofs.FieldLaws.{head_takes}
use Rattle.flt_cert.proofs.GivenLaws.{given_takes}
use Rattle.flt_cert.proofs.Sound.{Gives, gives, fails, then_gives, At, next_line, said_by, same_front, next_point}

-- the lines before a line begin a thin certificate
pub record ThinBegun (all : List Text) (n : ℕ) : Type 0 where
  pub before : ℕ
  pub next : n ≡ suc before
  pub whose : Thin
  pub thin : is_thin whose ≡ true
  pub begun : take before all ≡ take before (thin_lines_for whose)

-- ---- lists of slots

length-nothing : (n : ℕ) → length (nothing_given n) ≡ n
length-nothing zero = refl
length-nothing (suc n) = ap (λ m. suc m) (length-nothing n)

nothing-slots : (n : ℕ) → list_all is_slot (nothing_given n) ≡ true
nothing-slots zero = refl
nothing-slots (suc n) = nothing-slots n

nothing-lines : (p n : ℕ) → slot_lines p (nothing_given n) ≡ []
nothing-lines p zero = refl
nothing-lines p (suc n) = nothing-lines (suc p) n

slot_lines_more : (p : ℕ) (xs ys : List Slot) → slot_lines p (xs ++ ys) ≡ slot_lines p xs ++ slot_lines (p + length xs) ys
slot_lines_more p [] ys =
    let same : p ≡ p + length {A = Slot} [] = omega arith in
    ap (λ n. slot_lines n ys) same
slot_lines_more p (Some x ∷ xs) ys =
    let shifted : suc p + length xs ≡ p + length (Some x ∷ xs) = omega arith in
    ap (λ z. point_line p x ∷ z) (slot_lines_more (suc p) xs ys ∙ ap (λ n. slot_lines (suc p) xs ++ slot_lines n ys) shifted)
slot_lines_more p (None ∷ xs) ys =
    let shifted : suc p + length xs ≡ p + length {A = Slot} (None ∷ xs) = omega arith in
    slot_lines_more (suc p) xs ys ∙ ap (λ n. slot_lines (suc p) xs ++ slot_lines n ys) shifted

begins_more : (xs ys : List Slot) → begins xs ≡ true → begins (xs ++ ys) ≡ true
begins_more [] ys h = cc
begins_more (s ∷ xs) ys h = h

pub length-padded : (n : ℕ) (found : List Slot) → length found ≤ n → length (padded n found) ≡ n
length-padded n found h =
    let all = length-append found (nothing_given (n - length found)) in
    let rest = length-nothing (n - length found) in
    omega arith

padded-slots : (n : ℕ) (found : List Slot) → list_all is_slot found ≡ true → list_all is_slot (padded n found) ≡ true
padded-slots n found h =
    list_all-append is_slot found (nothing_given (n - length found)) ∙ and_from _ _ h (nothing-slots (n - length found))

padded-lines : (n : ℕ) (found : List Slot) → slot_lines 0 (padded n found) ≡ slot_lines 0 found
padded-lines n found =
    slot_lines_more 0 found (nothing_given (n - length found))
    ∙ (ap (λ z. slot_lines 0 found ++ z) (nothing-lines (0 + length found) (n - length found)) ∙ append-nil (slot_lines 0 found))

given-lines : (p : ℕ) (x : Point) (found : List Slot) → length found ≤ p →
    slot_lines 0 (with_given p x found) ≡ slot_lines 0 found ++ point_line p x ∷ []
given-lines p x found h =
    let size : 0 + length (padded p found) ≡ p = (let len = length-padded p found h in omega arith) in
    slot_lines_more 0 (padded p found) (Some x ∷ [])
    ∙ (ap (λ z. z ++ slot_lines (0 + length (padded p found)) (Some x ∷ [])) (padded-lines p found)
    ∙ ap (λ m. slot_lines 0 found ++ slot_lines m (Some x ∷ [])) size)

thin_lines_more : (k : ℕ) (t : Thin) (s : List Slot) →
    thin_callback_lines k (t ++ s ∷ []) ≡ thin_callback_lines k t ++ one_thin_callback (k + length t) s
thin_lines_more k [] s =
    let same : k ≡ k + length {A = List Slot} [] = omega arith in
    append-nil (one_thin_callback k s) ∙ ap (λ n. one_thin_callback n s) same
thin_lines_more k (r ∷ t) s =
    let shifted : suc k + length t ≡ k + length (r ∷ t) = omega arith in
    let rest = thin_lines_more (suc k) t s ∙ ap (λ n. thin_callback_lines (suc k) t ++ one_thin_callback n s) shifted in
    ap (λ z. one_thin_callback k r ++ z) rest
    ∙ sym (append_assoc (one_thin_callback k r) (thin_callback_lines (suc k) t) (one_thin_callback (k + length (r ∷ t)) s))

-- ---- the lines before a fault

-- the lines of the callbacks that were read
abbrev done : Thin → List Text
done t = first_thin_line ∷ thin_callback_lines 0 t

-- those, the first line of one more callback, and the lines of its points that were read
abbrev opened : Thin → ℕ → List Slot → List Text
opened t n found = done t ++ callback_line (length t) n ∷ slot_lines 0 found

begun_by : (all front more : List Text) (i : Place) (t : Thin) → At all front i → is_thin t ≡ true →
    thin_lines_for t ≡ front ++ more → ThinBegun all (suc i.number)
begun_by all front more i t here good lines =
    record {
      before = length front;
      next = ap (λ n. suc n) (sym here.number);
      whose = t;
      thin = good;
      begun = ap (λ z. take (length front) z) here.lines ∙ take-append_seam front i.lines
          ∙ sym (ap (λ z. take (length front) z) lines ∙ take-append_seam front more);
    }

-- one point that isn't reached
one_given : is_thin ((Some None ∷ []) ∷ []) ≡ true
one_given = refl

begun_first : (all : List Text) (i : Place) → At all [] i → ThinBegun all (suc i.number)
begun_first all i here = begun_by all [] (thin_lines_for ((Some None ∷ []) ∷ [])) i ((Some None ∷ []) ∷ []) here one_given refl

begun_second : (all : List Text) (i : Place) → At all (done []) i → ThinBegun all (suc i.number)
begun_second all i here =
    begun_by all (done []) (thin_callback_lines 0 ((Some None ∷ []) ∷ []) ++ last_line ∷ []) i ((Some None ∷ []) ∷ []) here one_given refl

certified : (t : Thin) → 0 < length t → length t < 17 → list_all is_thin_callback t ≡ true → is_thin t ≡ true
certified t some few each = and_from _ _ (lt-ltb 0 (length t) some) (and_from _ _ (lt-ltb (length t) 17 few) each)

-- the callback that the first line of one more callback asks for
record Open (t : Thin) (n : ℕ) (found : List Slot) : Type 0 where
  few : length t < 16
  each : list_all is_thin_callback t ≡ true
  most : n < 513
  within : length found ≤ n
  first : begins found ≡ true
  good : list_all is_slot found ≡ true

good_callback : (t : Thin) (n : ℕ) (found : List Slot) → Open t n found → is_thin_callback (padded n found) ≡ true
good_callback t n found opening =
    let len : length (padded n found) ≡ n = length-padded n found opening.within in
    and_from _ _ (begins_more found (nothing_given (n - length found)) opening.first)
    (and_from _ _ (ap (λ m. nat_lt m 513) len ∙ lt-ltb n 513 opening.most) (padded-slots n found opening.good))

more_callbacks : (t : Thin) (s : List Slot) → list_all is_thin_callback t ≡ true → is_thin_callback s ≡ true →
    list_all is_thin_callback (t ++ s ∷ []) ≡ true
more_callbacks t s each good = list_all-append is_thin_callback t (s ∷ []) ∙ and_from _ _ each (and_from _ _ good refl)

whole : (t : Thin) (s : List Slot) → length t < 16 → list_all is_thin_callback t ≡ true → is_thin_callback s ≡ true →
    is_thin (t ++ s ∷ []) ≡ true
whole t s few each good =
    let size : length (t ++ s ∷ []) ≡ length t + 1 = length-append t (s ∷ []) in
    certified (t ++ s ∷ []) (omega arith) (omega arith) (more_callbacks t s each good)

-- the lines of a callback that nothing more is given of
closed_lines : (t : Thin) (n : ℕ) (found : List Slot) → length found ≤ n → opened t n found ≡ done (t ++ padded n found ∷ [])
closed_lines t n found h =
    let same : length t ≡ 0 + length t = omega arith in
    let one : callback_line (length t) n ∷ slot_lines 0 found ≡ one_thin_callback (0 + length t) (padded n found) =
    ap (λ m. callback_line (length t) m ∷ slot_lines 0 found) (sym (length-padded n found h))
    ∙ (ap (λ z. callback_line (length t) (length (padded n found)) ∷ z) (sym (padded-lines n found))
    ∙ ap (λ m. one_thin_callback m (padded n found)) same) in
    ap (λ z. first_thin_line ∷ (thin_callback_lines 0 t ++ z)) one
    ∙ ap (λ z. first_thin_line ∷ z) (sym (thin_lines_more 0 t (padded n found)))

begun_opened : (all : List Text) (t : Thin) (n : ℕ) (found : List Slot) (i : Place) → Open t n found → At all (opened t n found) i →
    ThinBegun all (suc i.number)
begun_opened all t n found i opening here =
    begun_by all (opened t n found) (last_line ∷ []) i (t ++ padded n found ∷ []) here
    (whole t (padded n found) opening.few opening.each (good_callback t n found opening))
    (ap (λ z. z ++ last_line ∷ []) (sym (closed_lines t n found opening.within)))

-- the line of the first point is still to come
begun_empty : (all : List Text) (t : Thin) (n : ℕ) (i : Place) → Open t n (Some None ∷ []) → At all (opened t n []) i →
    ThinBegun all (suc i.number)
begun_empty all t n i opening here =
    begun_by all (opened t n []) (point_line 0 None ∷ last_line ∷ []) i (t ++ padded n (Some None ∷ []) ∷ []) here
    (whole t (padded n (Some None ∷ [])) opening.few opening.each (good_callback t n (Some None ∷ []) opening))
    (ap (λ z. z ++ last_line ∷ []) (sym (closed_lines t n (Some None ∷ []) opening.within))
    ∙ (append_assoc (done t) (callback_line (length t) n ∷ point_line 0 None ∷ []) (last_line ∷ [])
    ∙ sym (append_assoc (done t) (callback_line (length t) n ∷ []) (point_line 0 None ∷ last_line ∷ []))))

-- ---- productions

-- the slots of one more callback were read, and the line behind them
record Taken (all : List Text) (t : Thin) (r : List Slot × Text) (o : Place) : Type 0 where
  here : At all (done (t ++ r.0 ∷ []) ++ r.1 ∷ []) o
  good : is_thin_callback r.0 ≡ true
  begun : ThinBegun all o.number

taken : (all : List Text) (t : Thin) (n : ℕ) (found : List Slot) (i : Place) (text : Text) (o : Place) → Open t n found →
    At all (opened t n found) i → At all (opened t n found ++ text ∷ []) o → o.number ≡ suc i.number → Taken all t (padded n found, text) o
taken all t n found i text o opening before here next =
    record {
      here = same_front (ap (λ z. z ++ text ∷ []) (closed_lines t n found opening.within)) here;
      good = good_callback t n found opening;
      begun = (let P : ℕ → Type 0 = ThinBegun all in subst P (sym next) (begun_opened all t n found i opening before));
    }

open_more : (t : Thin) (n : ℕ) (found : List Slot) (p : ℕ) (x : Point) → Open t n found → length found ≤ p → p < n → is_point x ≡ true →
    Open t n (with_given p x found)
open_more t n found p x opening low high good =
    let len : length (padded p found) ≡ p = length-padded p found low in
    let more : length (with_given p x found) ≡ length (padded p found) + 1 = length-append (padded p found) (Some x ∷ []) in
    record {
      few = opening.few;
      each = opening.each;
      most = opening.most;
      within = omega arith;
      first = begins_more (padded p found) (Some x ∷ []) (begins_more found (nothing_given (p - length found)) opening.first);
      good = list_all-append is_slot (padded p found) (Some x ∷ [])
          ∙ and_from _ _ (padded-slots p found opening.good) (and_from _ _ good refl);
    }

more_lines : (t : Thin) (n : ℕ) (found : List Slot) (p : ℕ) (x : Point) → length found ≤ p →
    opened t n found ++ point_line p x ∷ [] ≡ opened t n (with_given p x found)
more_lines t n found p x low =
    append_assoc (done t) (callback_line (length t) n ∷ slot_lines 0 found) (point_line p x ∷ [])
    ∙ ap (λ z. done t ++ callback_line (length t) n ∷ z) (sym (given-lines p x found low))

slots_gives : (all : List Text) (t : Thin) (n left : ℕ) (found : List Slot) (i : Place) → Open t n found → At all (opened t n found) i →
    Gives (ThinBegun all) (Taken all t) (slots_from left n found i)
slots_gives all t n zero found i opening here =
    then_gives (line i) (λ q. Ok ((padded n found, q.0), q.1))
    (next_line (ThinBegun all) all (opened t n found) i here (begun_opened all t n found i opening here)) (λ text o r.
    gives (padded n found, text) o (taken all t n found i text o opening here r.0 r.1))
slots_gives all t n (suc left) found i opening here =
    then_gives (line i) (λ q. if_given (given_at (length found) n q.0) (λ g. slots_from left n (with_given g.0 g.1 found) q.1)
    (Ok ((padded n found, q.0), q.1)))
    (next_line (ThinBegun all) all (opened t n found) i here (begun_opened all t n found i opening here)) (λ text o r.
    by_given text o r (given_at (length found) n text) refl (λ more j opens at. slots_gives all t n left more j opens at))
  where
    by_given : (text : Text) (o : Place) → At all (opened t n found ++ text ∷ []) o × (o.number ≡ suc i.number) →
        (g : Option (ℕ × Point)) → given_at (length found) n text ≡ g →
        ((more : List Slot) (j : Place) → Open t n more → At all (opened t n more) j →
        Gives (ThinBegun all) (Taken all t) (slots_from left n more j)) →
        Gives (ThinBegun all) (Taken all t)
        (if_given g (λ q. slots_from left n (with_given q.0 q.1 found) o) (Ok ((padded n found, text), o)))
    by_given text o r None e rest = gives (padded n found, text) o (taken all t n found i text o opening here r.0 r.1)
    by_given text o r (Some (p, x)) e rest =
        let found_at = given_takes (length found) n text p x e in
        rest (with_given p x found) o (open_more t n found p x opening found_at.2 found_at.3 found_at.1)
        (same_front (ap (λ z. opened t n found ++ z ∷ []) found_at.0 ∙ more_lines t n found p x found_at.2) r.0)

callback_gives : (all : List Text) (t : Thin) (text : Text) (i : Place) → At all (done t ++ text ∷ []) i → ThinBegun all i.number →
    length t < 16 → list_all is_thin_callback t ≡ true → Gives (ThinBegun all) (Taken all t) (thin_callback (length t) text i)
unfolding thin_callback slots
callback_gives all t text i here begun few each =
    then_gives (asked (head_of (length t) text) i) (λ n. slots n.0 n.1)
    (said_by (ThinBegun all) (head_of (length t) text) i (λ n o. At all (opened t n []) o × (0 < n) × (n < 513)) begun (λ n h.
    (let head = head_takes (length t) text n h in (same_front (ap (λ z. done t ++ z ∷ []) head.0) here, head.1, head.2)))) (λ n o r.
    then_gives (point 0 o) (λ q. slots_from n n (Some q.0 ∷ []) q.1)
    (next_point (ThinBegun all) all (opened t n []) 0 o r.0 (begun_empty all t n o (opening n None r.1 r.2 refl) r.0)) (λ x j h.
    slots_gives all t n n (Some x ∷ []) j (opening n x r.1 r.2 h.1)
    (same_front (append_assoc (done t) (callback_line (length t) n ∷ []) (point_line 0 x ∷ [])) h.0)))
  where
    opening : (n : ℕ) (x : Point) → 0 < n → n < 513 → is_point x ≡ true → Open t n (Some x ∷ [])
    opening n x some most good =
        record {
          few = few;
          each = each;
          most = most;
          within = omega arith;
          first = refl;
          good = and_from _ _ good refl;
        }

-- what is known of callbacks that were read, and the line behind them
record Found (all : List Text) (left : ℕ) (t : Thin) (text : Text) (i : Place) : Type 0 where
  here : At all (done t ++ text ∷ []) i
  begun : ThinBegun all i.number
  each : list_all is_thin_callback t ≡ true
  few : length t + left ≡ 16

-- all lines are read
Whole : List Text → Thin → Place → Type 0
Whole all t o = (all ≡ thin_lines_for t) × (is_thin t ≡ true)

finished_gives : (all : List Text) (t : Thin) (text : Text) (i : Place) → At all (done t ++ text ∷ []) i →
    is_thin_end t text ≡ true → length t < 17 → list_all is_thin_callback t ≡ true → Gives (ThinBegun all) (Whole all) (thin_finished t i)
unfolding closed Whole
finished_gives all t text i here last few each = go i.lines refl
  where
    parts : (nat_lt 0 (length t) ≡ true) × (bytes_eq text last_line ≡ true)
    parts = and_parts (nat_lt 0 (length t)) (bytes_eq text last_line) last

    good : is_thin t ≡ true
    good = certified t (ltb-true _ _ parts.0) few each

    end : done t ++ text ∷ [] ≡ thin_lines_for t
    end = ap (λ z. done t ++ z ∷ []) ((bytes_eq-Decides text last_line).0 parts.1)

    go : (lines : List Text) → i.lines ≡ lines → Gives (ThinBegun all) (Whole all) (and_then (closed_by lines i) (λ e. Ok (t, e.1)))
    go [] h = gives t i (here.lines ∙ ap (λ z. (done t ++ text ∷ []) ++ z) h ∙ append-nil (done t ++ text ∷ []) ∙ end, good)
    go (other ∷ lines) h =
        let P : ℕ → Type 0 = ThinBegun all in
        let same : suc i.number ≡ i.number + 1 = omega arith in
        fails (i.number + 1) (subst P same
        (begun_by all (done t ++ text ∷ []) [] i t here good (sym (append-nil (done t ++ text ∷ []) ∙ end))))

callbacks_gives : (all : List Text) (left : ℕ) (t : Thin) (text : Text) (i : Place) → Found all left t text i →
    Gives (ThinBegun all) (Whole all) (thin_callbacks_from left t text i)
unfolding thin_callbacks_from
callbacks_gives all zero t text i known = go (is_thin_end t text) refl
  where
    few : length t < 17
    few = let count = known.few in omega arith

    go : (x : Bool) → is_thin_end t text ≡ x → Gives (ThinBegun all) (Whole all) (if x then thin_finished t i else Err i.number)
    go true h = finished_gives all t text i known.here h few known.each
    go false h = fails i.number known.begun
callbacks_gives all (suc left) t text i known =
    go (is_thin_end t text) refl (λ s after j k. callbacks_gives all left (t ++ s ∷ []) after j k)
  where
    few : length t < 16
    few = let count = known.few in omega arith

    go : (x : Bool) → is_thin_end t text ≡ x →
        ((s : List Slot) (after : Text) (j : Place) → Found all left (t ++ s ∷ []) after j →
        Gives (ThinBegun all) (Whole all) (thin_callbacks_from left (t ++ s ∷ []) after j)) →
        Gives (ThinBegun all) (Whole all) (if x then thin_finished t i
        else and_then (thin_callback (length t) text i) (λ q. thin_callbacks_from left (t ++ q.0.0 ∷ []) q.0.1 q.1))
    go true h rest = finished_gives all t text i known.here h (omega (arith, few)) known.each
    go false h rest =
        then_gives (thin_callback (length t) text i) (λ q. thin_callbacks_from left (t ++ q.0.0 ∷ []) q.0.1 q.1)
        (callback_gives all t text i known.here known.begun few known.each) (λ r j k.
        rest r.0 r.1 j (record {
          here = k.here;
          begun = k.begun;
          each = more_callbacks t r.0 known.each k.good;
          few = ap (λ m. m + left) (length-append t (r.0 ∷ []))
              ∙ (let count = known.few in let e : length t + 1 + left ≡ 16 = omega arith in e);
        }))

certificate_gives : (text : Text) → Gives (ThinBegun (lines_of text)) (Whole (lines_of text)) (thin_certificate (start text))
unfolding thin_certificate first_thin thin_callbacks
certificate_gives text =
    let all = lines_of text in
    let begun = begun_first all (start text) (record { lines = refl; number = refl }) in
    let P : ℕ → Type 0 = ThinBegun all in
    then_gives (first_thin (start text)) (λ q. thin_callbacks q.1)
    (then_gives (line (start text)) (λ q. asked (is_first_thin q.0) q.1)
    (next_line P all [] (start text) (record { lines = refl; number = refl }) begun) (λ first_text o r.
    said_by P (is_first_thin first_text) o (λ x o. At all (done []) o) (subst P (sym r.1) begun)
    (λ x h. same_front (ap (λ z. z ∷ []) (header first_text x h)) r.0))) (λ x o r.
    then_gives (line o) (λ q. thin_callbacks_from 16 [] q.0 q.1) (next_line P all (done []) o r (begun_second all o r)) (λ second j k.
    callbacks_gives all 16 [] second j
    (record { here = k.0; begun = subst P (sym k.1) (begun_second all o r); each = refl; few = refl })))
  where
    header : (text : Text) (x : Unit {0}) → is_first_thin text ≡ Some x → text ≡ first_thin_line
    header text x h = go (bytes_eq text first_thin_line) refl h
      where
        go : (b : Bool) → bytes_eq text first_thin_line ≡ b → (if b then Some tt else None) ≡ Some x → text ≡ first_thin_line
        go true e h = (bytes_eq-Decides text first_thin_line).0 e
        go false e h = cc

-- what is read is spelled so
pub read_lines : (text : Text) (t : Thin) (o : Place) → thin_certificate (start text) ≡ Ok (t, o) →
    (lines_of text ≡ thin_lines_for t) × (is_thin t ≡ true)
unfolding Whole
read_lines text t o h = go (thin_certificate (start text)) (certificate_gives text) h
  where
    go : (r : Outcome Thin) → Gives (ThinBegun (lines_of text)) (Whole (lines_of text)) r → r ≡ Ok (t, o) →
        (lines_of text ≡ thin_lines_for t) × (is_thin t ≡ true)
    go _ (gives found p w) h = let same : (found, p) ≡ (t, o) = cc in let P : Thin → Type 0 =
        λ c. (lines_of text ≡ thin_lines_for c) × (is_thin c ≡ true) in
        subst P (ap (λ (q : Thin × Place). q.0) same) w
    go _ (fails n w) h = cc

-- the lines before a fault begin a thin certificate
pub fault_begun : (text : Text) (n : ℕ) → thin_certificate (start text) ≡ Err n → ThinBegun (lines_of text) n
fault_begun text n h = go (thin_certificate (start text)) (certificate_gives text) h
  where
    go : (r : Outcome Thin) → Gives (ThinBegun (lines_of text)) (Whole (lines_of text)) r → r ≡ Err n → ThinBegun (lines_of text) n
    go _ (gives found p w) h = cc
    go _ (fails m w) h = let same : m ≡ n = cc in let P : ℕ → Type 0 = ThinBegun (lines_of text) in subst P same w
