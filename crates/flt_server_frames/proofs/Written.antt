-- A frame that is written is read again, and a stream has one reading.
use Rattle.std.proofs.Common.{◌≡◌, ◌≢◌, ◌<◌, ◌≤◌, ◌+◌, ◌-◌, ◌*◌, ◌/◌, ◌%◌, ◌^◌, ◌++◌, ◌∷◌, ◌∙◌, ◌⊎◌, inl}
use Rattle.std.proofs.Common.{inr, [], ℕ, zero, suc, eqb, Bool, true, false, not, ◌&&◌, List, Option, Some}
use Rattle.std.proofs.Common.{None, if◌then◌else◌, nat_lt, ap, sym, subst, refl, length, codes, arith}
use Rattle.std.proofs.Math.Seq.{get_or-append_seam, take-append_seam}
use Rattle.std.proofs.lemmas.Bool.{and_from, and_parts, le-leb, le-ltb, lt-ltb, not-true, true≢false}
use Rattle.std.proofs.lemmas.Bool.Decides.{eqb_tells}
use Rattle.std.proofs.lemmas.Fmt.{decimal_by_steps, length-decimal-le}
use Rattle.std.proofs.lemmas.List.{append_assoc, append-nil, length-append}
use Rattle.std.specs.Char.{is_ascii_digit}
use Rattle.std.specs.Fmt.{decimal}
use Rattle.std.specs.List.{AllByRecursion, flat_map}
use Rattle.flt_server_frames.proofs.Reading.{body_with}
use Rattle.flt_server_frames.specs.Frames.{AreFrames, Ending, Front, body_of, cut, ended, ends, ends_cut}
use Rattle.flt_server_frames.specs.Frames.{ends_malformed, framed, front_of, in_header, malformed, whole}
use Rattle.flt_server_frames.specs.Line.{Text, after_blanks, length_in, number_after, said_by, said_of_length, without_return}
use Rattle.flt_server_frames.specs.declared.line.HeaderLine.TheVariants as said

-- ---- one reading

abbrev is_whole : Front → Bool
is_whole (whole body rest) = true
is_whole front = false

abbrev body_in : Front → Text
body_in (whole body rest) = body
body_in front = []

abbrev rest_in : Front → Text
rest_in (whole body rest) = rest
rest_in front = []

abbrev ending_in : Front → Ending
ending_in malformed = ends_malformed
ending_in cut = ends_cut
ending_in front = ends

not_whole : (ending : Ending) → is_whole (ended ending) ≡ false
not_whole ends = refl
not_whole ends_malformed = refl
not_whole ends_cut = refl

ended_back : (ending : Ending) → ending_in (ended ending) ≡ ending
ended_back ends = refl
ended_back ends_malformed = refl
ended_back ends_cut = refl

-- a stream is frames of one list of bodies, and ends in one way
pub one_reading : (bodies others : List Text) (ending end : Ending) (stream : Text) → AreFrames bodies ending stream →
    AreFrames others end stream → (bodies ≡ others) × (ending ≡ end)
one_reading [] [] ending end stream a b = (refl, sym (ended_back ending) ∙ ap ending_in (sym a ∙ b) ∙ ended_back end)
one_reading [] (o ∷ os) ending end stream a b = absurd (true≢false (sym (ap is_whole (sym a ∙ b.1)) ∙ not_whole ending))
one_reading (x ∷ xs) [] ending end stream a b = absurd (true≢false (sym (ap is_whole (sym b ∙ a.1)) ∙ not_whole end))
one_reading (x ∷ xs) (o ∷ os) ending end stream a b =
    let same : whole x a.0 ≡ whole o b.0 = sym a.1 ∙ b.1 in
    let rest : a.0 ≡ b.0 = ap rest_in same in
    let others = one_reading xs os ending end a.0 a.2 (subst (AreFrames os end) (sym rest) b.2) in
    (ap (λ y. y ∷ xs) (ap body_in same) ∙ ap (λ ys. o ∷ ys) others.0, others.1)

-- ---- the line of a length

unequal : (a b : ℕ) → a ≢ b → eqb a b ≡ false
unequal a b other = by (eqb_tells a b) where
  by : ((eqb a b ≡ true) × (a ≡ b)) ⊎ ((eqb a b ≡ false) × (a ≢ b)) → eqb a b ≡ false
  by (inl same) = absurd (other same.1)
  by (inr ne) = ne.0

is_digit : (n : ℕ) → n < 10 → is_ascii_digit (48 + n) ≡ true
is_digit n low = and_from _ _ (le-leb 48 (48 + n) (omega arith)) (le-leb (48 + n) 57 (omega arith))

-- no line ends within a text
abbrev no_feed : Text → Bool
no_feed [] = true
no_feed (b ∷ bytes) = not (eqb b 10) && no_feed bytes

no_feed-append : (a b : Text) → no_feed a ≡ true → no_feed b ≡ true → no_feed (a ++ b) ≡ true
no_feed-append [] b first second = second
no_feed-append (x ∷ a) b first second =
    let parts = and_parts (not (eqb x 10)) (no_feed a) first in
    and_from _ _ parts.0 (no_feed-append a b parts.1 second)

abbrev found_number : Option (ℕ × Text) → ℕ
found_number None = 0
found_number (Some found) = found.0

abbrev found_rest : Option (ℕ × Text) → Text
found_rest None = []
found_rest (Some found) = found.1

-- one digit more
number_more : (ds : Text) (m k c : ℕ) → number_after m ds ≡ Some (k, []) → is_ascii_digit c ≡ true → 10 * k + (c - 48) ≤ 1000000000000000000 →
    number_after m (ds ++ c ∷ []) ≡ Some (10 * k + (c - 48), [])
number_more [] m k c found digit small =
    let same : m ≡ k = ap found_number found in
    let low : 10 * m + (c - 48) ≤ 1000000000000000000 = omega (arith, same, small) in
    rw (digit, le-ltb 1000000000000000000 (10 * m + (c - 48)) low) (ap (λ n. Some (10 * n + (c - 48), [])) same)
number_more (b ∷ bs) m k c found digit small =
    by (is_ascii_digit b) (nat_lt 1000000000000000000 (10 * m + (b - 48))) found (λ n h. number_more bs n k c h digit small) where
      by : (is large : Bool) →
          (if is then (if large then None else number_after (10 * m + (b - 48)) bs) else Some (m, b ∷ bs)) ≡ Some (k, []) →
          ((n : ℕ) → number_after n bs ≡ Some (k, []) → number_after n (bs ++ c ∷ []) ≡ Some (10 * k + (c - 48), [])) →
          (if is then (if large then None else number_after (10 * m + (b - 48)) (bs ++ c ∷ [])) else Some (m, b ∷ (bs ++ c ∷ [])))
          ≡ Some (10 * k + (c - 48), [])
      by true true h rest = absurd (cc h)
      by true false h rest = rest (10 * m + (b - 48)) h
      by false large h rest = absurd (omega (arith, ap length (ap found_rest h)))

-- a text is the digits of a number
record IsNumber (n : ℕ) (ds : Text) : Type 0 where
  number : n ≤ 1000000000000000000 → number_after 0 ds ≡ Some (n, [])
  line : no_feed ds ≡ true
  blanks : (more : Text) → after_blanks (ds ++ more) ≡ ds ++ more
  some : 0 < length ds

one_digit : (n : ℕ) → n < 10 → IsNumber n ((48 + n) ∷ [])
one_digit n low =
    let value : 10 * 0 + ((48 + n) - 48) ≡ n = omega arith in
    let small : 10 * 0 + ((48 + n) - 48) ≤ 1000000000000000000 = omega arith in
    record {
      number = λ bounded. rw (is_digit n low, le-ltb 1000000000000000000 _ small) (ap (λ m. Some (m, [])) value);
      line = rw (unequal (48 + n) 10 (omega arith)) refl;
      blanks = λ more. rw (unequal (48 + n) 32 (omega arith), unequal (48 + n) 9 (omega arith)) refl;
      some = omega arith;
    }

more_digits : (n : ℕ) (ds : Text) → 10 ≤ n → IsNumber (n / 10) ds → IsNumber n (ds ++ ((48 + n % 10) ∷ []))
more_digits n ds high before =
    let low : n % 10 < 10 = omega arith in
    let value : 10 * (n / 10) + ((48 + n % 10) - 48) ≡ n = omega arith in
    record {
      number = λ bounded.
          number_more ds 0 (n / 10) (48 + n % 10) (before.number (omega arith)) (is_digit (n % 10) low) (omega (arith, value, bounded))
          ∙ ap (λ m. Some (m, [])) value;
      line = no_feed-append ds _ before.line (rw (unequal (48 + n % 10) 10 (omega arith)) refl);
      blanks = λ more.
          ap after_blanks (append_assoc ds _ more) ∙ before.blanks ((48 + n % 10) ∷ more) ∙ sym (append_assoc ds _ more);
      some = omega (arith, length-append ds ((48 + n % 10) ∷ []), before.some);
    }

decimal_number : (n : ℕ) → n < 2 ^ 64 → IsNumber n (decimal n)
decimal_number = decimal_by_steps IsNumber one_digit more_digits

without_return-end : (line : Text) → without_return (line ++ 13 ∷ []) ≡ line
without_return-end line =
    let last : length (line ++ 13 ∷ []) - 1 ≡ length line = omega (arith, length-append line (13 ∷ [])) in
    rw (last, get_or-append_seam line 13 [] 0, take-append_seam line (13 ∷ [])) refl

length_read : (n : ℕ) → n ≤ 1000000000000000000 → length_in (32 ∷ decimal n) ≡ Some n
length_read n small =
    let is = decimal_number n (omega arith) in
    let plain : after_blanks (decimal n) ≡ decimal n = subst (λ ds. after_blanks ds ≡ ds) (append-nil (decimal n)) (is.blanks []) in
    rw (plain, is.number small, lt-ltb 0 (length (decimal n)) is.some) refl

line_said : (n : ℕ) → n ≤ 1000000000000000000 → said_by (codes "Content-Length: " ++ (decimal n ++ 13 ∷ [])) ≡ said.Length n
line_said n small =
    let name = codes "Content-Length: " in
    let plain : without_return (name ++ (decimal n ++ 13 ∷ [])) ≡ name ++ decimal n =
    ap without_return (sym (append_assoc name (decimal n) (13 ∷ []))) ∙ without_return-end (name ++ decimal n) in
    rw plain (ap said_of_length (length_read n small))

-- ---- the header

-- a part of a line is read
in_line : (text line more : Text) (length_said : Option ℕ) (room k : ℕ) → room ≡ length text + k → no_feed text ≡ true →
    in_header room line length_said (text ++ more) ≡ in_header k (line ++ text) length_said more
in_line [] line more length_said room k is none =
    let same : room ≡ k = omega (arith, is) in
    ap (λ r. in_header r line length_said more) same ∙ ap (λ l. in_header k l length_said more) (sym (append-nil line))
in_line (b ∷ bs) line more length_said zero k is none = absurd (omega (arith, is))
in_line (b ∷ bs) line more length_said (suc room) k is none =
    let parts = and_parts (not (eqb b 10)) (no_feed bs) none in
    let other : eqb b 10 ≡ false = not-true _ parts.0 in
    rw other (in_line bs (line ++ b ∷ []) more length_said room k (omega (arith, is)) parts.1
    ∙ ap (λ l. in_header k l length_said more) (append_assoc line (b ∷ []) bs))

-- the end of a header with one line
header_end : (line rest : Text) (n k : ℕ) → said_by (line ++ 13 ∷ []) ≡ said.Length n →
    in_header (suc (suc (suc (suc k)))) line None (13 ∷ 10 ∷ 13 ∷ 10 ∷ rest) ≡ body_of n rest
header_end line rest n k says = rw says refl

-- a frame that is written is at the front
pub frame_read : (body more : Text) → length body ≤ 1000000000000000000 → front_of (framed body ++ more) ≡ whole body more
frame_read body more small =
    let n = length body in
    let name = codes "Content-Length: " in
    let is = decimal_number n (omega (arith, small)) in
    let digits : length (decimal n) ≤ 19 = length-decimal-le 19 n (omega arith) (omega (arith, small)) (omega (arith, small)) in
    let k = 8172 - length (decimal n) in
    let rest = body ++ more in
    let parts : framed body ++ more ≡ name ++ (decimal n ++ (13 ∷ 10 ∷ 13 ∷ 10 ∷ rest)) =
    append_assoc name (decimal n ++ (codes "\r\n\r\n" ++ body)) more
    ∙ ap (λ l. name ++ l) (append_assoc (decimal n) (codes "\r\n\r\n" ++ body) more) in
    let begins : front_of (name ++ (decimal n ++ (13 ∷ 10 ∷ 13 ∷ 10 ∷ rest))) ≡
    in_header 8176 name None (decimal n ++ (13 ∷ 10 ∷ 13 ∷ 10 ∷ rest)) = refl in
    let room : 8176 ≡ length (decimal n) + suc (suc (suc (suc k))) = omega (arith, digits) in
    let says : said_by ((name ++ decimal n) ++ 13 ∷ []) ≡ said.Length n =
    ap said_by (append_assoc name (decimal n) (13 ∷ [])) ∙ line_said n small in
    ap front_of parts ∙ begins
    ∙ in_line (decimal n) name (13 ∷ 10 ∷ 13 ∷ 10 ∷ rest) None 8176 (suc (suc (suc (suc k)))) room is.line
    ∙ header_end (name ++ decimal n) rest n k says ∙ body_with body more

-- frames that are written are read again
pub frames_read : (bodies : List Text) → AllByRecursion (λ body. length body ≤ 1000000000000000000) bodies →
    AreFrames bodies ends (flat_map framed bodies)
frames_read [] small = refl
frames_read (body ∷ bodies) small =
    (flat_map framed bodies, frame_read body (flat_map framed bodies) small.0, frames_read bodies small.1)
