-- A C file as a sequence of pieces, and the text that its comments make. The C standard's translation phases 2 and 3; the marker is this
-- project's own rule. It knows nothing of how a file is read byte by byte.
use Rattle.std.specs.Prelude.{◌≡◌, ℕ, zero, suc, ◌-◌, Bool, true, false, not, ◌&&◌, ◌||◌, if◌then◌else◌}
use Rattle.std.specs.Prelude.{◌==◌, nat_lt, List, [], ◌∷◌, ◌++◌, codes, map, Option, Some, None, Ok}
use Rattle.flt_c.specs.declared.front.Front.{Front}
use Rattle.flt_c.specs.declared.front.Front.TheVariants.{Nothing}
use Rattle.flt_c.specs.declared.place.PlacedByte.{PlacedByte}
use Rattle.flt_c.specs.Fronts.{depth_after, front_after, is_lenient}
use Rattle.flt_c.specs.Scan.{annotations, continuation}

-- a file without its continuations; of one `left` bytes are left over
abbrev pub spliced : ℕ → List ℕ → List ℕ
spliced left [] = []
spliced (suc left) (b ∷ z) = spliced left z
spliced zero (b ∷ z) = let n = continuation (b ∷ z) in if n == 0 then b ∷ spliced zero z else spliced (n - 1) z

-- ---- comments

-- a line comment has no line feed
abbrev pub IsLineBody : List ℕ → Type 0
IsLineBody [] = Unit {0}
IsLineBody (b ∷ z) = ((b == 10) ≡ false) × IsLineBody z

-- it goes on to the end of its line
abbrev pub EndsLine : List ℕ → Type 0
EndsLine [] = Unit {0}
EndsLine (b ∷ z) = b ≡ 10

-- `/` follows
abbrev pub is_slash_next : List ℕ → Bool
is_slash_next [] = false
is_slash_next (b ∷ z) = b == 47

-- a block comment has no `*/`
abbrev pub IsBlockBody : List ℕ → Type 0
IsBlockBody [] = Unit {0}
IsBlockBody (b ∷ z) = ((b == 42 && is_slash_next z) ≡ false) × IsBlockBody z

-- a `-` follows the marker of another kind of comment
abbrev pub is_other_kind : List ℕ → Bool
is_other_kind [] = false
is_other_kind (b ∷ z) = b == 45

-- what follows a marker, if the bytes begin with it
abbrev pub after_marker : List ℕ → List ℕ → Option (List ℕ)
after_marker [] body = Some body
after_marker (m ∷ marker) [] = None
after_marker (m ∷ marker) (b ∷ z) = if b == m then after_marker marker z else None

-- the text of what follows the marker: itself and a line feed
abbrev pub note_after : Option (List ℕ) → List ℕ
note_after None = []
note_after (Some rest) = if is_other_kind rest then [] else rest ++ 10 ∷ []

-- the text of a comment
abbrev pub note_of : List ℕ → List ℕ
note_of body = note_after (after_marker (codes "@flt") body)

-- comments of a group that is skipped have no text
abbrev pub read_at : ℕ → List ℕ → List ℕ
read_at depth text = if nat_lt 0 depth then [] else text

-- ---- strings and character constants

-- a quote
abbrev pub is_quote : ℕ → Bool
is_quote b = b == 34 || b == 39

-- what stands between quotes: a backslash takes the next byte with it, which `escaped` says of the first;
-- it stays in its line, and is closed or not
abbrev pub is_quoted : ℕ → Bool → Bool → List ℕ → Bool
is_quoted quote closed escaped [] = not (closed && escaped)
is_quoted quote closed true (b ∷ z) = not (b == 10) && is_quoted quote closed false z
is_quoted quote closed false (b ∷ z) = not (b == quote) && (not (b == 10) && is_quoted quote closed (b == 92) z)

-- ---- pieces

-- `//` or `/*` begins a comment
abbrev pub begins_comment : ℕ → List ℕ → Bool
begins_comment b [] = false
begins_comment b (c ∷ z) = b == 47 && (c == 47 || c == 42)

-- what a line begins with, how many groups are open from one that is skipped, what is left of a file, and the text of its comments
pub data ArePieces : Front → ℕ → List ℕ → List ℕ → Type 0 where
  -- nothing is left
  none : {front : Front} → ArePieces front 0 [] []
  -- a byte of code
  code : {front : Front} {depth b : ℕ} {z text : List ℕ} → is_quote b ≡ false → (b == 10) ≡ false → begins_comment b z ≡ false →
      ArePieces (front_after front b) (depth_after depth front b) z text → ArePieces front depth (b ∷ z) text
  -- the end of a line
  line_feed : {front : Front} {depth : ℕ} {z text : List ℕ} → ArePieces Nothing (depth_after depth front 10) z text →
      ArePieces front depth (10 ∷ z) text
  -- a line comment; a comment is a blank
  line_comment : {front : Front} {depth : ℕ} {z text : List ℕ} (body : List ℕ) → IsLineBody body → EndsLine z →
      ArePieces (front_after front 32) depth z text → ArePieces front depth (47 ∷ 47 ∷ (body ++ z)) (read_at depth (note_of body) ++ text)
  -- a block comment
  block_comment : {front : Front} {depth : ℕ} {z text : List ℕ} (body : List ℕ) → IsBlockBody body →
      ArePieces (front_after front 32) depth z text →
      ArePieces front depth (47 ∷ 42 ∷ (body ++ 42 ∷ 47 ∷ z)) (read_at depth (note_of body) ++ text)
  -- a string or a character constant
  quoted : {front : Front} {depth quote : ℕ} {z text : List ℕ} (body : List ℕ) →
      is_quote quote ≡ true → is_quoted quote true false body ≡ true →
      ArePieces (front_after front quote) depth z text → ArePieces front depth (quote ∷ (body ++ quote ∷ z)) text
  -- one that ends with its line, in a directive or in a group that is skipped
  unclosed : {front : Front} {depth quote : ℕ} {z text : List ℕ} (body : List ℕ) →
      is_quote quote ≡ true → is_quoted quote false false body ≡ true →
      EndsLine z → is_lenient (front_after front quote) depth ≡ true →
      ArePieces (front_after front quote) depth z text → ArePieces front depth (quote ∷ (body ++ z)) text

-- a file that is read is a sequence of pieces, and its text is that of their comments
abbrev pub FilesArePieces : Type 0
FilesArePieces = (file : List ℕ) (text : List PlacedByte) → annotations file ≡ Ok text →
    ArePieces Nothing 0 (spliced zero file) (map (λ p. p.byte) text)
