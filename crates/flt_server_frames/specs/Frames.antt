-- Frames of messages over a stream of bytes: a header, and the body. The base protocol of the Language Server Protocol.
use Rattle.std.specs.Fmt.{decimal}
use Rattle.std.specs.Io.KnownBytes.{Consumes, IsAtEnd}
use Rattle.std.specs.Prelude.{◌≡◌, ◌<◌, ◌≤◌, ℕ, zero, suc, ◌==◌, nat_lt, if◌then◌else◌, List, []}
use Rattle.std.specs.Prelude.{◌∷◌, ◌++◌, codes, drop, length, take, Option, Some, None}
use Rattle.flt_server_frames.specs.Line.{Text, said_by}
use Rattle.flt_server_frames.specs.declared.frame.Frame.{Frame}
use Rattle.flt_server_frames.specs.declared.frame.Frame.TheVariants as frame
use Rattle.flt_server_frames.specs.declared.header.Head.{Head}
use Rattle.flt_server_frames.specs.declared.header.Head.TheVariants as head
use Rattle.flt_server_frames.specs.declared.line.HeaderLine.{HeaderLine}
use Rattle.flt_server_frames.specs.declared.line.HeaderLine.TheVariants as said

-- ---- reading

-- what is at the front of a stream
pub data Front : Type 0 where
  -- a frame of this body, however long that is, and what comes after it
  whole : Text → Text → Front
  -- nothing: the stream ends
  at_end : Front
  -- bytes that can't be the header of a frame
  malformed : Front
  -- a part of a frame, in which the stream ends
  cut : Front

-- what is at the front after a header that says this length
abbrev pub body_of : ℕ → Text → Front
body_of n bytes = if nat_lt (length bytes) n then cut else whole (take n bytes) (drop n bytes)

-- the same for a header that may say no length
abbrev pub body_if : Option ℕ → Text → Front
body_if None bytes = malformed
body_if (Some n) bytes = body_of n bytes

-- after one more line of a header, whose earlier lines say this length or none, and how its next lines are read. A header says one length
abbrev pub after_line : HeaderLine → Option ℕ → Text → (Option ℕ → Front) → Front
after_line said.End length bytes more = body_if length bytes
after_line (said.Length n) None bytes more = more (Some n)
after_line (said.Length n) (Some m) bytes more = malformed
after_line said.Other length bytes more = more length
after_line said.Malformed length bytes more = malformed

-- what is at the front within a header that may have so many bytes more. A part of its line was read, and the length if a line said it.
-- A line ends with a line feed
abbrev pub in_header : ℕ → Text → Option ℕ → Text → Front
in_header zero line length bytes = malformed
in_header (suc room) line length [] = cut
in_header (suc room) line length (b ∷ bytes) =
    if b == 10 then after_line (said_by line) length bytes (λ said. in_header room [] said bytes)
    else in_header room (line ++ b ∷ []) length bytes

-- what is at the front of a stream. A header has 8,192 bytes at most
abbrev pub front_of : Text → Front
front_of [] = at_end
front_of (b ∷ bytes) = in_header 8192 [] None (b ∷ bytes)

-- how a stream of frames ends
pub data Ending : Type 0 where
  ends : Ending
  ends_malformed : Ending
  ends_cut : Ending

abbrev pub ended : Ending → Front
ended ends = at_end
ended ends_malformed = malformed
ended ends_cut = cut

-- a stream is frames of these bodies, and then ends so
abbrev pub AreFrames : List Text → Ending → Text → Type 0
AreFrames [] ending stream = front_of stream ≡ ended ending
AreFrames (body ∷ bodies) ending stream = (rest : Text) × (front_of stream ≡ whole body rest) × AreFrames bodies ending rest

-- ---- long bodies

-- a body that may be kept has 16,777,216 bytes at most; this project's own rule
abbrev pub IsShort : Text → Type 0
IsShort body = length body ≤ 16777216

-- a body that is read past, and isn't kept
abbrev pub IsTooLong : Text → Type 0
IsTooLong body = 16777216 < length body

-- ---- in pieces

-- a reader gave these bytes, after which more of any kind may come, and so this is at the front of what it had
abbrev pub Gives : Option Text → Option Text → (Text → Front) → Type 0
Gives old new front = (bytes : Text) × Consumes old new bytes × ((more : Text) → front_of (bytes ++ more) ≡ front more)

-- a reader gave these bytes, which are all that it had, and so this is at the front of them
abbrev pub GivesAll : Option Text → Option Text → Front → Type 0
GivesAll old new front = (bytes : Text) × Consumes old new bytes × IsAtEnd new × (front_of bytes ≡ front)

-- what a reader had at the front: a header and its length
abbrev pub IsHead : Option Text → Option Text → Head → Type 0
IsHead old new (head.Length n) = Gives old new (body_of n)
IsHead old new head.Malformed = Gives old new (λ more. malformed)
IsHead old new head.Cut = GivesAll old new cut
IsHead old new head.End = GivesAll old new at_end

-- what a reader had at the front: a frame, which was read to its last byte, and nothing after it. Of a body that is too long nothing is
-- known but that; the next frame begins after it
abbrev pub IsFrame : Option Text → Option Text → Frame → Type 0
IsFrame old new (frame.Body body) = IsShort body.items × Gives old new (whole body.items)
IsFrame old new frame.TooLong = (body : Text) × IsTooLong body × Gives old new (whole body)
IsFrame old new frame.Malformed = Gives old new (λ more. malformed)
IsFrame old new frame.Cut = GivesAll old new cut
IsFrame old new frame.End = GivesAll old new at_end

-- ---- writing

-- a body as a frame
abbrev pub framed : Text → Text
framed body = codes "Content-Length: " ++ (decimal (length body) ++ (codes "\r\n\r\n" ++ body))
