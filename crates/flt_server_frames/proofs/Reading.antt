-- A header is read byte by byte, and a body after it.
use Rattle.std.proofs.Common.{◌≡◌, ◌≢◌, ◌<◌, ◌≤◌, ◌+◌, ◌-◌, ◌++◌, ◌∷◌, ◌∙◌, [], ℕ, suc, List, Option, None, ap, sym, refl, length, take, arith}
use Rattle.std.proofs.KnownBytes.{Consumes-nil, Consumes-trans}
use Rattle.std.proofs.Math.Seq.{take-append_seam, drop-append_seam}
use Rattle.std.proofs.lemmas.Bool.{lt-ltb, le-ltb}
use Rattle.std.proofs.lemmas.List.{append_assoc, length-append, length-take-le}
use Rattle.std.specs.Io.KnownBytes.{Consumes, IsAtEnd}
use Rattle.flt_server_frames.specs.Line.{Text}
use Rattle.flt_server_frames.specs.Frames.{Front, Gives, GivesAll, IsHead, IsTooLong, at_end, body_of, cut, front_of, in_header, malformed, whole}
use Rattle.flt_server_frames.specs.Header.{Ends}
use Rattle.flt_server_frames.specs.declared.header.Head.{Head}
use Rattle.flt_server_frames.specs.declared.header.Head.TheVariants as head

-- so many bytes of a header were read
abbrev pub Reads : Option Text → Option Text → ℕ → Text → Option ℕ → Type 0
Reads old new at line said = (bytes : List ℕ) × Consumes old new bytes × (length bytes ≡ at) ×
    ((more : List ℕ) → in_header 8192 [] None (bytes ++ more) ≡ in_header (8192 - at) line said more)

-- no byte was read yet
pub none_read : (old : Option Text) (line : Text) → line ≡ [] → Reads old old 0 line None
none_read old line empty = ([], Consumes-nil old, refl, λ more. ap (λ l. in_header 8192 l None more) (sym empty))

-- some bytes of a header are at the front of a stream
front_with : (bytes more : Text) → 0 < length bytes → front_of (bytes ++ more) ≡ in_header 8192 [] None (bytes ++ more)
front_with [] more some = absurd (omega (arith, some))
front_with (b ∷ bytes) more some = refl

one_more : (at : ℕ) → at < 8192 → 8192 - at ≡ suc (8192 - (at + 1))
one_more at low = omega (arith, low)

-- what is at the front after one byte more
byte_more : (bytes line more : Text) (said : Option ℕ) (at x : ℕ) (front : Front) → at < 8192 →
    ((more : List ℕ) → in_header 8192 [] None (bytes ++ more) ≡ in_header (8192 - at) line said more) →
    in_header (suc (8192 - (at + 1))) line said (x ∷ more) ≡ front → in_header 8192 [] None ((bytes ++ x ∷ []) ++ more) ≡ front
byte_more bytes line more said at x front low before next =
    ap (λ l. in_header 8192 [] None l) (append_assoc bytes (x ∷ []) more) ∙ before (x ∷ more)
    ∙ ap (λ room. in_header room line said (x ∷ more)) (one_more at low) ∙ next

-- one byte of a header more, which goes on
pub reads_more : (old between new : Option Text) (at x : ℕ) (line after : Text) (said next : Option ℕ) → at < 8192 →
    Reads old between at line said → Consumes between new (x ∷ []) →
    ((room : ℕ) (more : List ℕ) → in_header (suc room) line said (x ∷ more) ≡ in_header room after next more) → Reads old new (at + 1)
    after next
reads_more old between new at x line after said next low before taken goes = (
  before.0 ++ x ∷ [],
  Consumes-trans _ _ _ _ _ before.1 taken,
  length-append before.0 (x ∷ []) ∙ ap (λ n. n + 1) before.2,
  λ more. byte_more before.0 line more said at x _ low before.3 (goes (8192 - (at + 1)) more),
)

-- the last byte of a header
pub header_read : (old between new : Option Text) (at x : ℕ) (line : Text) (said : Option ℕ) (found : Head) → at < 8192 →
    Reads old between at line said → Consumes between new (x ∷ []) →
    ((room : ℕ) (more : List ℕ) → Ends found more (in_header (suc room) line said (x ∷ more))) → IsHead old new found
header_read old between new at x line said (head.Length n) low before taken ends = (
  before.0 ++ x ∷ [],
  Consumes-trans _ _ _ _ _ before.1 taken,
  λ more.
      front_with (before.0 ++ x ∷ []) more (omega (arith, length-append before.0 (x ∷ [])))
      ∙ byte_more before.0 line more said at x _ low before.3 (ends (8192 - (at + 1)) more),
)
header_read old between new at x line said head.Malformed low before taken ends = (
  before.0 ++ x ∷ [],
  Consumes-trans _ _ _ _ _ before.1 taken,
  λ more.
      front_with (before.0 ++ x ∷ []) more (omega (arith, length-append before.0 (x ∷ [])))
      ∙ byte_more before.0 line more said at x _ low before.3 (ends (8192 - (at + 1)) more),
)
header_read old between new at x line said head.Cut low before taken ends = absurd (ends 0 [])
header_read old between new at x line said head.End low before taken ends = absurd (ends 0 [])

-- a header in which the stream ends
pub header_cut : (old between new : Option Text) (at : ℕ) (line : Text) (said : Option ℕ) → at < 8192 → at ≢ 0 →
    Reads old between at line said → Consumes between new [] → IsAtEnd new → GivesAll old new cut
header_cut old between new at line said low some before taken end =
    let all = before.0 in (
      all ++ [],
      Consumes-trans _ _ _ _ _ before.1 taken,
      end,
      front_with all [] (omega (arith, before.2, some)) ∙ before.3 [] ∙ ap (λ room. in_header room line said []) (one_more at low),
    )

-- no header, where the stream has ended
pub stream_ended : (old between new : Option Text) (line : Text) (said : Option ℕ) → Reads old between 0 line said →
    Consumes between new [] → IsAtEnd new → GivesAll old new at_end
stream_ended old between new line said before taken end = by_bytes before.0 before.1 before.2 where
  by_bytes : (bytes : Text) → Consumes old between bytes → length bytes ≡ 0 → GivesAll old new at_end
  by_bytes [] given none = ([] ++ [], Consumes-trans _ _ _ _ _ given taken, end, refl)
  by_bytes (b ∷ bytes) given none = absurd (omega (arith, none))

-- a header that is too long
pub header_too_long : (old new : Option Text) (at : ℕ) (line : Text) (said : Option ℕ) → 8192 ≤ at → Reads old new at line said →
    Gives old new (λ more. malformed)
header_too_long old new at line said high before =
    let full : 8192 - at ≡ 0 = omega (arith, high) in (
      before.0,
      before.1,
      λ more. front_with before.0 more (omega (arith, before.2, high)) ∙ before.3 more
          ∙ ap (λ room. in_header room line said more) full,
    )

-- ---- the body

-- a body of the length that was told is read whole, and what follows stays
pub body_with : (body more : Text) → body_of (length body) (body ++ more) ≡ whole body more
body_with body more =
    let long : length body ≤ length (body ++ more) = omega (arith, length-append body more) in
    rw (le-ltb _ _ long, take-append_seam body more, drop-append_seam body more) refl

-- the body after a header
pub body_read : (old between new : Option Text) (n : ℕ) (body : Text) → Gives old between (body_of n) → Consumes between new body →
    length body ≡ n → Gives old new (whole body)
body_read old between new n body before taken count = (
  before.0 ++ body,
  Consumes-trans _ _ _ _ _ before.1 taken,
  λ more.
      ap front_of (append_assoc before.0 body more) ∙ before.2 (body ++ more) ∙ ap (λ m. body_of m (body ++ more)) (sym count)
      ∙ body_with body more,
)

-- some bytes more were read past
pub passed_more : (old between new : Option Text) (n k : ℕ) (buffer : Text) →
    ((bytes : Text) × Consumes old between bytes × (length bytes ≡ n)) → Consumes between new (take k buffer) → k ≤ length buffer →
    (bytes : Text) × Consumes old new bytes × (length bytes ≡ n + k)
passed_more old between new n k buffer before taken few = (
  before.0 ++ take k buffer,
  Consumes-trans _ _ _ _ _ before.1 taken,
  omega (arith, length-append before.0 (take k buffer), before.2, length-take-le k buffer few),
)

-- a body of so many bytes was read past
pub body_passed : (old between new : Option Text) (n : ℕ) → Gives old between (body_of n) →
    ((bytes : Text) × Consumes between new bytes × (length bytes ≡ n)) → 16777216 < n →
    (body : Text) × IsTooLong body × Gives old new (whole body)
body_passed old between new n before passed long =
    (passed.0, omega (arith, passed.2, long), body_read old between new n passed.0 before passed.1 passed.2)

-- a body in which the stream ends
pub body_cut : (old between new : Option Text) (n : ℕ) (part : Text) → Gives old between (body_of n) → Consumes between new part →
    length part < n → IsAtEnd new → GivesAll old new cut
body_cut old between new n part before taken short end =
    let few : body_of n part ≡ cut = rw (lt-ltb _ _ short) refl in
    (before.0 ++ part, Consumes-trans _ _ _ _ _ before.1 taken, end, before.2 part ∙ few)
