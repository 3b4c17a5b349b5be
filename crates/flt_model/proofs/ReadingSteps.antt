-- The steps of reading, as loops and recursions make them.
use Rattle.std.proofs.Common.{◌≡◌, ◌<◌, ◌+◌, ◌-◌, ℕ, zero, suc, true, false, [], ◌∷◌, ◌++◌, length}
use Rattle.std.proofs.Common.{drop, drop-cons, slice_index_or, refl, sym, ap, arith, ◌∙◌}
use Rattle.std.specs.Prelude.{◌==◌, ◌≤◌, slice_get, Ok, Err, Some, None}
use Rattle.flt_model.specs.Streams.{Text}
use Rattle.flt_model.specs.JournalText.{Entries, most_entries}
use Rattle.flt_model.specs.JournalTextReading.{Reads, byte, exactly, digits, number, with_digit, line, ending, closed, entries_from}
use Rattle.flt_model.specs.declared.scanner.Stop.{Stop}
use Rattle.flt_model.specs.declared.scanner.Stop.TheVariants.{Wrong, Failed}
use Rattle.flt_model.specs.declared.moves.JournalEntry.{JournalEntry}
use Rattle.flt_rules.specs.Limits.{max_entries}

-- ---- these bytes

-- where the byte isn't read, nor are those from its place on
pub exactly_none : (bytes : Text) (i : ℕ) (text new : Text) (e : Stop) → i < length bytes → Reads {A = ℕ} (byte text) (Err e) new →
    Reads {A = Unit {0}} (exactly (drop i bytes) text) (Err e) new
exactly_none bytes i text new Wrong low h = rw (drop-cons bytes i 0, h) refl
exactly_none bytes i text new Failed low h = tt

-- ---- digits

one_less : (n : ℕ) → 0 < n → n ≡ suc (n - 1)
one_less n h = omega arith

-- where no byte is left, no digit is read
pub digits_none : (left end n : ℕ) (text new : Text) (e : Stop) → Reads {A = ℕ} (byte text) (Err e) new →
    Reads {A = ℕ} (digits left end n text) (Err e) new
unfolding digits
digits_none zero end n text new Wrong h = rw h refl
digits_none (suc left) end n text new Wrong h = rw h refl
digits_none left end n text new Failed h = tt

-- the byte that ends a number ends it, and is taken
pub digits_end : (left end n b : ℕ) (text new : Text) → byte text ≡ Ok (b, new) → (b == end) ≡ true → digits left end n text ≡ Ok (n, new)
unfolding digits
digits_end zero end n b text new h e = rw (h, e) refl
digits_end (suc left) end n b text new h e = rw (h, e) refl

-- a digit more than a number may have isn't read
pub digits_last : (left end n b : ℕ) (text new : Text) → left ≡ 0 → byte text ≡ Ok (b, new) → (b == end) ≡ false →
    digits left end n text ≡ Err new
unfolding digits
digits_last left end n b text new z h e = rw (z, h, e) refl

-- a byte that isn't a digit, or that makes the number too large, ends the reading
pub digits_wrong : (left end n b : ℕ) (text new : Text) → 0 < left → byte text ≡ Ok (b, new) → (b == end) ≡ false →
    with_digit n b ≡ None → digits left end n text ≡ Err new
unfolding digits
digits_wrong left end n b text new z h e d = rw (one_less left z, h, e, d) refl

more_behind : (less end n b m : ℕ) (text new : Text) → byte text ≡ Ok (b, new) → (b == end) ≡ false → with_digit n b ≡ Some m →
    digits (suc less) end n text ≡ digits less end m new
unfolding digits
more_behind less end n b m text new h e d = rw (h, e, d) refl

-- one more digit is read, and one fewer may follow
pub digits_more : (left end n b m : ℕ) (text new : Text) → 0 < left → byte text ≡ Ok (b, new) → (b == end) ≡ false →
    with_digit n b ≡ Some m →
    digits left end n text ≡ digits (left - 1) end m new
digits_more left end n b m text new z h e d = ap (λ k. digits k end n text) (one_less left z)
    ∙ more_behind (left - 1) end n b m text new h e d

-- ---- bytes at hand

-- the byte of a place
byte_at : (bytes left : Text) (i j d : ℕ) → i < length bytes → j ≡ suc i →
    byte (drop i (bytes ++ left)) ≡ Ok (slice_index_or bytes i d, drop j (bytes ++ left))
byte_at [] left i j d low next = absurd (omega (arith, low))
byte_at (b ∷ bytes) left i zero d low next = absurd (omega (arith, next))
byte_at (b ∷ bytes) left zero (suc j) d low next = let none : j ≡ 0 = omega (arith, next) in rw none refl
byte_at (b ∷ bytes) left (suc i) (suc j) d low next = byte_at bytes left i j d (omega (arith, low)) (omega (arith, next))

byte_read : (bytes left : Text) (i b : ℕ) → i < length bytes → b ≡ slice_index_or bytes i b →
    byte (drop i (bytes ++ left)) ≡ Ok (b, drop (i + 1) (bytes ++ left))
byte_read bytes left i b low is =
    byte_at bytes left i (i + 1) b low (omega arith) ∙ ap (λ x. Ok (x, drop (i + 1) (bytes ++ left))) (sym is)

-- there is one where there is a first
pub first_within : (bytes : Text) (b : ℕ) → slice_get bytes 0 ≡ Some b → 1 ≤ length bytes
first_within [] b is = cc is
first_within (a ∷ bytes) b is = omega arith

-- a number that begins with a digit other than 0 goes on with nine digits at most
pub number_begins : (bytes left : Text) (end b n : ℕ) → slice_get bytes 0 ≡ Some b → (b == 48) ≡ false →
    with_digit 0 b ≡ Some n → number end (bytes ++ left) ≡ digits 9 end n (drop 1 (bytes ++ left))
unfolding number
number_begins [] left end b n is other digit = cc is
number_begins (a ∷ bytes) left end b n is other digit =
    let same : a ≡ b = cc is in
    rw (same, other, digit) refl

-- a number ends at its byte, wherever that is among the bytes at hand
pub number_ends : (bytes left : Text) (i end n b : ℕ) → i < length bytes → b ≡ slice_index_or bytes i b → (b == end) ≡ true →
    digits (10 - i) end n (drop i (bytes ++ left)) ≡ Ok (n, drop (i + 1) (bytes ++ left))
number_ends bytes left i end n b low is last =
    digits_end (10 - i) end n b (drop i (bytes ++ left)) (drop (i + 1) (bytes ++ left)) (byte_read bytes left i b low is) last

-- a number goes on with the next of the bytes at hand
pub number_goes_on : (bytes left : Text) (i end n b m : ℕ) → i < 10 → i < length bytes → b ≡ slice_index_or bytes i b →
    (b == end) ≡ false → with_digit n b ≡ Some m →
    digits (10 - i) end n (drop i (bytes ++ left)) ≡ digits (10 - (i + 1)) end m (drop (i + 1) (bytes ++ left))
number_goes_on bytes left i end n b m few low is other digit =
    let less : 10 - i - 1 ≡ 10 - (i + 1) = omega arith in
    digits_more (10 - i) end n b m (drop i (bytes ++ left)) (drop (i + 1) (bytes ++ left)) (omega (arith, few))
    (byte_read bytes left i b low is) other digit
    ∙ ap (λ k. digits k end m (drop (i + 1) (bytes ++ left))) less

-- ---- entries

-- a journal has at most 1000000 entries
pub most_entries_is : most_entries ≡ max_entries
unfolding most_entries
most_entries_is = refl

one_left : (n number : ℕ) → number < n → n - number ≡ suc (n - (number + 1))
one_left n number h = omega arith

-- one more entry is read, and one fewer may follow
pub next_entry : (n number : ℕ) (found : Entries) (entry : JournalEntry) (text new : Text) → number < n → length found ≡ number →
    line text ≡ Ok (Some entry, new) → entries_from (n - number) found text ≡ entries_from (n - (number + 1)) (found ++ entry ∷ []) new
unfolding entries_from
next_entry n number found entry text new low count read = rw (one_left n number low, read) refl

-- after the last entry the journal is closed
pub last_entry : (n number : ℕ) (found : Entries) (text new : Text) → number < n →
    line text ≡ Ok (None, new) → entries_from (n - number) found text ≡ closed found new
unfolding entries_from
last_entry n number found text new low read = rw (one_left n number low, read) refl

-- an entry that can't be read is a fault in its line; the first line is the journal's own
pub bad_entry : (n number : ℕ) (found : Entries) (text new : Text) → number < n → length found ≡ number →
    line text ≡ Err new → entries_from (n - number) found text ≡ Err (record { line = number + 2; left = new })
unfolding entries_from
bad_entry n number found text new low count read = rw (one_left n number low, count, read) refl

-- after as many entries as there may be, the journal ends
pub full : (n number : ℕ) (found : Entries) (text : Text) → number ≡ n → entries_from (n - number) found text ≡ ending found text
unfolding entries_from
full n number found text h = let none : n - number ≡ 0 = omega arith in rw none refl
