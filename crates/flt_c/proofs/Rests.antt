-- What is being read of a file is the rest of a piece: byte by byte.
use Rattle.std.proofs.Common.{◌≡◌, inl, inr, ℕ, Bool, true, false, List, [], ◌∷◌, ◌++◌, refl, sym, ap, subst, ◌∙◌, codes}
use Rattle.std.proofs.lemmas.Bool.{eqb-true}
use Rattle.std.specs.Prelude.{◌==◌, not, nat_lt, if◌then◌else◌}
use Rattle.flt_c.proofs.Follow.{differ}
use Rattle.flt_c.proofs.Pieced.{InBlock, InLine, InQuotes, IsOfMarker, block_at, block_on, is_star_first, line_ends, line_on, marked}
use Rattle.flt_c.proofs.Pieced.{marker_after, marker_ends, marker_fails, marker_from, marker_goes_on, marking, next_of_marker, nothing}
use Rattle.flt_c.proofs.Pieced.{quote_closes, quote_ends, quote_on, read_none, read_whole, star_closes, star_passes, star_stays, whole}
use Rattle.flt_c.specs.declared.front.Front.{Front}
use Rattle.flt_c.specs.declared.front.Front.TheVariants as f
use Rattle.flt_c.specs.declared.mode.Mode.{Mode}
use Rattle.flt_c.specs.declared.mode.Mode.TheVariants as m
use Rattle.flt_c.specs.Fronts.{depth_after, front_after, is_lenient, next_front}
use Rattle.flt_c.specs.Modes.{after_slash, following, in_code}
use Rattle.flt_c.specs.Pieces.{ArePieces, begins_comment, block_comment, code, is_quote, line_comment, line_feed, quoted, unclosed}

-- what is left of the piece that is being read, and the pieces after it
abbrev pub Rest : Mode → Front → ℕ → List ℕ → List ℕ → Type 0
Rest m.Code front depth z text = ArePieces front depth z text
Rest m.LetterR front depth z text = ArePieces front depth z text
Rest m.Slash front depth z text = ArePieces front depth (47 ∷ z) text
Rest (m.LineMark w) front depth z text = IsOfMarker w → InLine front depth (marking depth (marker_from w)) z text
Rest m.Line front depth z text = InLine front depth nothing z text
Rest m.LineMarked front depth z text = InLine front depth marked z text
Rest m.LineText front depth z text = InLine front depth whole z text
Rest (m.BlockMark w) front depth z text = IsOfMarker w → InBlock front depth (marking depth (marker_from w)) z text
Rest m.Block front depth z text = InBlock front depth nothing z text
Rest m.BlockStar front depth z text = InBlock front depth nothing (42 ∷ z) text
Rest m.BlockMarked front depth z text = InBlock front depth marked z text
Rest m.BlockText front depth z text = InBlock front depth whole z text
Rest m.BlockTextStar front depth z text = InBlock front depth whole (42 ∷ z) text
Rest m.String front depth z text = InQuotes 34 false front depth z text
Rest m.StringEscape front depth z text = InQuotes 34 true front depth z text
Rest m.Character front depth z text = InQuotes 39 false front depth z text
Rest m.CharacterEscape front depth z text = InQuotes 39 true front depth z text

-- two bytes aren't one
two_bytes : (b c d : ℕ) → (b == c) ≡ true → (b == d) ≡ true → (c == d) ≡ false → ⊥
two_bytes b c d e h apart = let is : b ≡ c = eqb-true b c e in differ (sym apart ∙ subst (λ x. (x == d) ≡ true) is h)

-- ---- line comments

module _ (front : Front) (depth b : ℕ) (z text : List ℕ) where
  -- behind a line feed the next line begins
  abbrev front_past : Bool → Front
  front_past y = if y then f.Nothing else front

  abbrev depth_past : Bool → ℕ
  depth_past y = if y then depth_after depth front 10 else depth

  -- one more byte of a line comment that isn't an annotation
  pub line_step : (y : Bool) → (b == 10) ≡ y → Rest (if y then m.Code else m.Line) (front_past y) (depth_past y) z text →
      InLine front depth nothing (b ∷ z) text
  line_step true e r = line_ends front depth nothing b z text [] (eqb-true b 10 e) refl r
  line_step false e r = line_on front depth nothing nothing b z text [] e (λ body. refl) r

  -- one more byte of an annotation in a line comment
  pub line_text_step : (y : Bool) → (b == 10) ≡ y → Rest (if y then m.Code else m.LineText) (front_past y) (depth_past y) z text →
      InLine front depth whole (b ∷ z) (b ∷ text)
  line_text_step true e r =
      let is : b ≡ 10 = eqb-true b 10 e in line_ends front depth whole b z text (b ∷ []) is (ap (λ c. c ∷ []) is) r
  line_text_step false e r = line_on front depth whole whole b z text (b ∷ []) e (λ body. refl) r

  -- after the marker a blank
  pub line_blank : (y : Bool) → (b == 10) ≡ y → (b == 45) ≡ false →
      Rest (if y then m.Code else m.LineText) (front_past y) (depth_past y) z text →
      InLine front depth marked (b ∷ z) (b ∷ text)
  line_blank true e dash r =
      let is : b ≡ 10 = eqb-true b 10 e in line_ends front depth marked b z text (b ∷ []) is (ap (λ c. c ∷ []) is) r
  line_blank false e dash r = line_on front depth marked whole b z text (b ∷ []) e (λ body. rw dash refl) r

  -- or a `-`
  pub line_dash : (b == 10) ≡ false → (b == 45) ≡ true → InLine front depth nothing z text → InLine front depth marked (b ∷ z) text
  line_dash e dash r = line_on front depth marked nothing b z text [] e (λ body. rw dash refl) r

  module _ (w : ℕ) (v : IsOfMarker w) where
    no_feed : (b == w) ≡ true → (b == 10) ≡ true → ⊥
    no_feed e h = elim v [
      | inl is ↦ two_bytes b w 10 e h (rw is refl)
      | inr v ↦ elim v [
        | inl is ↦ two_bytes b w 10 e h (rw is refl)
        | inr v ↦ elim v [ inl is ↦ two_bytes b w 10 e h (rw is refl) | inr is ↦ two_bytes b w 10 e h (rw is refl) ]
      ]
    ]

    no_star : (b == w) ≡ true → (b == 42) ≡ true → ⊥
    no_star e h = elim v [
      | inl is ↦ two_bytes b w 42 e h (rw is refl)
      | inr v ↦ elim v [
        | inl is ↦ two_bytes b w 42 e h (rw is refl)
        | inr v ↦ elim v [ inl is ↦ two_bytes b w 42 e h (rw is refl) | inr is ↦ two_bytes b w 42 e h (rw is refl) ]
      ]
    ]

    at_last : (b == w) ≡ true → (b == 116) ≡ true → marker_after w ≡ []
    at_last e h = let is : b ≡ w = eqb-true b w e in let last : (w == 116) ≡ true = subst (λ c. (c == 116) ≡ true) is h in rw last refl

    before_last : (b == w) ≡ true → (b == 116) ≡ false → (w == 116) ≡ false
    before_last e h = subst (λ c. (c == 116) ≡ false) (eqb-true b w e) h

    goes_on : (e : (b == w) ≡ true) → (b == 116) ≡ false → marker_after w ≡ marker_from (following b)
    goes_on e h =
        let other = before_last e h in
        let first : marker_after w ≡ marker_from (following w) = rw other refl in
        first ∙ ap (λ c. marker_from (following c)) (sym (eqb-true b w e))

    -- what the last byte of the marker leads to
    last_adds : (e : (b == w) ≡ true) → (b == 116) ≡ true → nat_lt 0 depth ≡ false → (body : List ℕ) →
        marked body ≡ marking depth (marker_from w) (b ∷ body)
    last_adds e h s body =
        read_whole depth (marked body) s ∙ (ap (λ mk. marking depth mk body) (sym (at_last e h)) ∙ marker_goes_on depth w v b body e)

    next_adds : (e : (b == w) ≡ true) → (b == 116) ≡ false → (body : List ℕ) →
        marking depth (marker_from (following b)) body ≡ marking depth (marker_from w) (b ∷ body)
    next_adds e h body = ap (λ mk. marking depth mk body) (sym (goes_on e h)) ∙ marker_goes_on depth w v b body e

    next_valid : (b == w) ≡ true → (b == 116) ≡ false → IsOfMarker (following b)
    next_valid e h = subst (λ c. IsOfMarker (following c)) (sym (eqb-true b w e)) (next_of_marker w v (before_last e h))

    -- one more byte of a line comment that may be marked as an annotation
    pub line_mark_step : (x y u s : Bool) → (b == w) ≡ x → (b == 10) ≡ y → (b == 116) ≡ u → nat_lt 0 depth ≡ s →
        Rest (if not x then (if y then m.Code else m.Line)
        else (if u then (if s then m.Line else m.LineMarked) else m.LineMark (following b)))
        (front_past y) (depth_past y) z text → InLine front depth (marking depth (marker_from w)) (b ∷ z) text
    line_mark_step false true u s ex ey eu es r =
        line_ends front depth (marking depth (marker_from w)) b z text [] (eqb-true b 10 ey) (marker_ends depth w v) r
    line_mark_step false false u s ex ey eu es r =
        line_on front depth (marking depth (marker_from w)) nothing b z text [] ey (λ body. marker_fails depth w v b body ex) r
    line_mark_step true true u s ex ey eu es r = elim (no_feed ex ey) [ ]
    line_mark_step true false true true ex ey eu es r =
        line_on front depth (marking depth (marker_from w)) nothing b z text [] ey (λ body. read_none depth _ es) r
    line_mark_step true false true false ex ey eu es r =
        line_on front depth (marking depth (marker_from w)) marked b z text [] ey (last_adds ex eu es) r
    line_mark_step true false false s ex ey eu es r =
        line_on front depth (marking depth (marker_from w)) (marking depth (marker_from (following b))) b z text [] ey (next_adds ex eu)
        (r (next_valid ex eu))

    star_fails : (b == w) ≡ false → (b == 42) ≡ true → (body : List ℕ) → is_star_first body ≡ true → [] ≡ marking depth (marker_from w) body
    star_fails e h [] first = marker_ends depth w v
    star_fails e h (c ∷ body) first =
        let is : c ≡ b = eqb-true c 42 first ∙ sym (eqb-true b 42 h) in
        marker_fails depth w v c body (subst (λ x. (x == w) ≡ false) (sym is) e)

    -- one more byte of a block comment that may be marked as an annotation
    pub block_mark_step : (x y u s : Bool) → (b == w) ≡ x → (b == 42) ≡ y → (b == 116) ≡ u → nat_lt 0 depth ≡ s →
        Rest (if not x then (if y then m.BlockStar else m.Block)
        else (if u then (if s then m.Block else m.BlockMarked) else m.BlockMark (following b)))
        front depth z text → InBlock front depth (marking depth (marker_from w)) (b ∷ z) text
    block_mark_step false true u s ex ey eu es r =
        block_at front depth (marking depth (marker_from w)) nothing b z text (eqb-true b 42 ey) (star_fails ex ey) r
    block_mark_step false false u s ex ey eu es r =
        block_on front depth (marking depth (marker_from w)) nothing b z text [] ey (λ body. marker_fails depth w v b body ex) r
    block_mark_step true true u s ex ey eu es r = elim (no_star ex ey) [ ]
    block_mark_step true false true true ex ey eu es r =
        block_on front depth (marking depth (marker_from w)) nothing b z text [] ey (λ body. read_none depth _ es) r
    block_mark_step true false true false ex ey eu es r =
        block_on front depth (marking depth (marker_from w)) marked b z text [] ey (last_adds ex eu es) r
    block_mark_step true false false s ex ey eu es r =
        block_on front depth (marking depth (marker_from w)) (marking depth (marker_from (following b))) b z text [] ey (next_adds ex eu)
        (r (next_valid ex eu))

  -- ---- block comments

  -- one more byte of a block comment that isn't an annotation
  pub block_step : (y : Bool) → (b == 42) ≡ y → Rest (if y then m.BlockStar else m.Block) front depth z text →
      InBlock front depth nothing (b ∷ z) text
  block_step true e r = block_at front depth nothing nothing b z text (eqb-true b 42 e) (λ body first. refl) r
  block_step false e r = block_on front depth nothing nothing b z text [] e (λ body. refl) r

  star_marked : (body : List ℕ) → is_star_first body ≡ true → whole body ≡ marked body
  star_marked [] first = refl
  star_marked (c ∷ body) first = let is : c ≡ 42 = eqb-true c 42 first in rw is refl

  -- after the marker
  pub block_marked_star : (b == 42) ≡ true → InBlock front depth whole (42 ∷ z) text → InBlock front depth marked (b ∷ z) text
  block_marked_star e r = block_at front depth marked whole b z text (eqb-true b 42 e) star_marked r

  -- the byte after a block's marker, where it is neither a `*` nor a `-`, begins the annotation
  pub block_blank : (b == 42) ≡ false → (b == 45) ≡ false → InBlock front depth whole z text → InBlock front depth marked (b ∷ z) (b ∷ text)
  block_blank e dash r = block_on front depth marked whole b z text (b ∷ []) e (λ body. rw dash refl) r

  -- a `-` after a block's marker makes the block no annotation
  pub block_dash : (b == 42) ≡ false → (b == 45) ≡ true → InBlock front depth nothing z text → InBlock front depth marked (b ∷ z) text
  block_dash e dash r = block_on front depth marked nothing b z text [] e (λ body. rw dash refl) r

  -- the byte after a `*` in a block comment ends the block or goes on with it
  pub block_star_step : (x y : Bool) → (b == 47) ≡ x → (b == 42) ≡ y →
      Rest (if x then m.Code else (if y then m.BlockStar else m.Block)) front depth z text →
      InBlock front depth nothing (42 ∷ b ∷ z) text
  block_star_step true y ex ey r = star_closes front depth nothing b z text [] (eqb-true b 47 ex) refl r
  block_star_step false true ex ey r = star_stays front depth nothing nothing b z text [] (eqb-true b 42 ey) (λ body. refl) r
  block_star_step false false ex ey r = star_passes front depth nothing nothing b z text [] ex ey (λ body. refl) r

  -- ---- strings and character constants

  -- what a byte of one leads to: its quote, a backslash, a line feed, or another byte
  abbrev pub AfterQuoted : ℕ → Bool → Bool → Bool → Bool → Type 0
  AfterQuoted quote l true y u = ArePieces (front_past u) (depth_past u) z text
  AfterQuoted quote l false true u = InQuotes quote true (front_past u) (depth_past u) z text
  AfterQuoted quote l false false true = (l ≡ true) × ArePieces f.Nothing (depth_after depth front 10) z text
  AfterQuoted quote l false false false = InQuotes quote false front depth z text

  -- one more byte between quotes ends them, escapes the next or goes on
  pub quoted_step : (quote : ℕ) → (quote == 10) ≡ false → (x y u : Bool) → (b == quote) ≡ x → (b == 92) ≡ y → (b == 10) ≡ u →
      AfterQuoted quote (is_lenient front depth) x y u → InQuotes quote false front depth (b ∷ z) text
  quoted_step quote apart true y true ex ey eu r = elim (two_bytes b quote 10 ex eu apart) [ ]
  quoted_step quote apart true y false ex ey eu r = quote_closes quote front depth b z text (eqb-true b quote ex) r
  quoted_step quote apart false true true ex ey eu r = elim (two_bytes b 92 10 ey eu refl) [ ]
  quoted_step quote apart false true false ex ey eu r =
      quote_on quote front depth b z text false true (λ closed body h. rw (ex, eu, ey) h) r
  quoted_step quote apart false false true ex ey eu r = quote_ends quote front depth b z text false (eqb-true b 10 eu) r.0 r.1
  quoted_step quote apart false false false ex ey eu r =
      quote_on quote front depth b z text false false (λ closed body h. rw (ex, eu, ey) h) r

  -- after a backslash
  abbrev pub AfterEscaped : ℕ → Bool → Bool → Type 0
  AfterEscaped quote l true = (l ≡ true) × ArePieces f.Nothing (depth_after depth front 10) z text
  AfterEscaped quote l false = InQuotes quote false front depth z text

  -- the byte after a backslash goes on between the quotes
  pub escaped_step : (quote : ℕ) (u : Bool) → (b == 10) ≡ u → AfterEscaped quote (is_lenient front depth) u →
      InQuotes quote true front depth (b ∷ z) text
  escaped_step quote true eu r = quote_ends quote front depth b z text true (eqb-true b 10 eu) r.0 r.1
  escaped_step quote false eu r = quote_on quote front depth b z text true false (λ closed body h. rw eu h) r

-- ---- code

depth_same : (front : Front) (depth b : ℕ) → (b == 102) ≡ false → (b == 110) ≡ false → (b == 108) ≡ false → (b == 10) ≡ false →
    depth_after depth front b ≡ depth
depth_same f.LetterI depth b i n l e = rw i refl
depth_same f.LetterE depth b i n l e = rw (n, l) refl
depth_same f.Zero depth b i n l e = rw e refl
depth_same _ depth b i n l e = refl

quote_pieces : (quote : ℕ) → is_quote quote ≡ true → (front : Front) (depth : ℕ) (z text : List ℕ) →
    InQuotes quote false (front_after front quote) depth z text → ArePieces front depth (quote ∷ z) text
quote_pieces quote is front depth z text i = elim i [
  | inl i ↦ subst (λ l. ArePieces front depth (quote ∷ l) text) (sym i.split) (quoted i.body is i.plain i.pieces)
  | inr i ↦ subst (λ l. ArePieces front depth (quote ∷ l) text) (sym i.split) (unclosed i.body is i.plain i.ends i.lenient i.pieces)
]

line_pieces : (front : Front) (depth : ℕ) (z text : List ℕ) → InLine (front_after front 32) depth (marking depth (codes "@flt")) z text →
    ArePieces front depth (47 ∷ 47 ∷ z) text
line_pieces front depth z text i =
    subst (λ l. ArePieces front depth (47 ∷ 47 ∷ l) text) (sym i.split)
    (subst (λ t. ArePieces front depth (47 ∷ 47 ∷ (i.body ++ i.rest)) t) (sym i.is) (line_comment i.body i.plain i.ends i.pieces))

block_pieces : (front : Front) (depth : ℕ) (z text : List ℕ) → InBlock (front_after front 32) depth (marking depth (codes "@flt")) z text →
    ArePieces front depth (47 ∷ 42 ∷ z) text
block_pieces front depth z text i =
    subst (λ l. ArePieces front depth (47 ∷ 42 ∷ l) text) (sym i.split)
    (subst (λ t. ArePieces front depth (47 ∷ 42 ∷ (i.body ++ 42 ∷ 47 ∷ i.rest)) t) (sym i.is) (block_comment i.body i.plain i.pieces))

module _ (front : Front) (depth b : ℕ) (z text : List ℕ) where
  not_comment : (z : List ℕ) → (b == 47) ≡ false → begins_comment b z ≡ false
  not_comment [] e = refl
  not_comment (c ∷ z) e = rw e refl

  not_quote : (b == 34) ≡ false → (b == 39) ≡ false → is_quote b ≡ false
  not_quote e h = rw (e, h) refl

  -- the front after a byte of code
  abbrev front_of_code : Bool → Bool → Front
  front_of_code y s = if y then f.Nothing else (if s then front else front_after front b)

  plain_code : (b == 34) ≡ false → (b == 39) ≡ false → (b == 47) ≡ false → (y : Bool) → (b == 10) ≡ y →
      ArePieces (front_of_code y false) (depth_after depth front b) z text → ArePieces front depth (b ∷ z) text
  plain_code q c s true e r =
      let is : b ≡ 10 = eqb-true b 10 e in
      subst (λ x. ArePieces front depth (x ∷ z) text) (sym is)
      (line_feed (subst (λ x. ArePieces f.Nothing (depth_after depth front x) z text) is r))
  plain_code q c s false e r = code (not_quote q c) e (not_comment z s) r

  code_step : (s q c r y : Bool) → (b == 47) ≡ s → (b == 34) ≡ q → (b == 39) ≡ c → (b == 10) ≡ y →
      Rest (if s then m.Slash else (if q then m.String else (if c then m.Character else (if r then m.LetterR else m.Code))))
      (front_of_code y s) (depth_after depth front b) z text → ArePieces front depth (b ∷ z) text
  code_step true q c r true es eq ec ey p = elim (two_bytes b 47 10 es ey refl) [ ]
  code_step true q c r false es eq ec ey p =
      let is : b ≡ 47 = eqb-true b 47 es in
      let same : depth_after depth front b ≡ depth = ap (depth_after depth front) is ∙ depth_same front depth 47 refl refl refl refl in
      subst (λ x. ArePieces front depth (x ∷ z) text) (sym is) (subst (λ d. ArePieces front d (47 ∷ z) text) same p)
  code_step false true c r true es eq ec ey p = elim (two_bytes b 34 10 eq ey refl) [ ]
  code_step false true c r false es eq ec ey p =
      let is : b ≡ 34 = eqb-true b 34 eq in
      let same : depth_after depth front b ≡ depth = ap (depth_after depth front) is ∙ depth_same front depth 34 refl refl refl refl in
      subst (λ x. ArePieces front depth (x ∷ z) text) (sym is) (quote_pieces 34 refl front depth z text
      (subst (λ x. InQuotes 34 false (front_after front x) depth z text) is
      (subst (λ d. InQuotes 34 false (front_after front b) d z text) same p)))
  code_step false false true r true es eq ec ey p = elim (two_bytes b 39 10 ec ey refl) [ ]
  code_step false false true r false es eq ec ey p =
      let is : b ≡ 39 = eqb-true b 39 ec in
      let same : depth_after depth front b ≡ depth = ap (depth_after depth front) is ∙ depth_same front depth 39 refl refl refl refl in
      subst (λ x. ArePieces front depth (x ∷ z) text) (sym is) (quote_pieces 39 refl front depth z text
      (subst (λ x. InQuotes 39 false (front_after front x) depth z text) is
      (subst (λ d. InQuotes 39 false (front_after front b) d z text) same p)))
  code_step false false false true y es eq ec ey p = plain_code eq ec es y ey p
  code_step false false false false y es eq ec ey p = plain_code eq ec es y ey p

  front_code : (y : Bool) → (b == 10) ≡ y → next_front m.Code front b ≡ front_of_code y (b == 47)
  front_code true e = rw e refl
  front_code false e = rw e refl

  -- a byte of code
  pub in_code_step : Rest (in_code b) (next_front m.Code front b) (depth_after depth front b) z text → ArePieces front depth (b ∷ z) text
  in_code_step p =
      code_step (b == 47) (b == 34) (b == 39) (b == 82) (b == 10) refl refl refl refl
      (subst (λ g. Rest (in_code b) g (depth_after depth front b) z text) (front_code (b == 10) refl) p)

-- after a `/`
slash_line : (front : Front) (depth : ℕ) (z text : List ℕ) →
    Rest (after_slash 47) (next_front m.Slash front 47) (depth_after depth (front_after front 47) 47) z text →
    ArePieces front depth (47 ∷ 47 ∷ z) text
slash_line front depth z text p =
    let same = depth_same (front_after front 47) depth 47 refl refl refl refl in
    line_pieces front depth z text (subst (λ d. Rest (m.LineMark 64) (front_after front 32) d z text) same p (inl refl))

slash_block : (front : Front) (depth : ℕ) (z text : List ℕ) →
    Rest (after_slash 42) (next_front m.Slash front 42) (depth_after depth (front_after front 47) 42) z text →
    ArePieces front depth (47 ∷ 42 ∷ z) text
slash_block front depth z text p =
    let same = depth_same (front_after front 47) depth 42 refl refl refl refl in
    block_pieces front depth z text (subst (λ d. Rest (m.BlockMark 64) (front_after front 32) d z text) same p (inl refl))

module _ (front : Front) (depth b : ℕ) (z text : List ℕ) where
  front_slash : (b == 47) ≡ false → (b == 42) ≡ false → (y : Bool) →
      (b == 10) ≡ y → next_front m.Slash front b ≡ next_front m.Code (front_after front 47) b
  front_slash s t true e = rw e refl
  front_slash s t false e = rw (e, s, t) refl

  -- the byte after a `/` begins a comment or goes on with code
  pub slash_step : (s t : Bool) → (b == 47) ≡ s → (b == 42) ≡ t →
      Rest (after_slash b) (next_front m.Slash front b) (depth_after depth (front_after front 47) b) z text →
      ArePieces front depth (47 ∷ b ∷ z) text
  slash_step true t es et p =
      let is : b ≡ 47 = eqb-true b 47 es in
      subst (λ x. ArePieces front depth (47 ∷ x ∷ z) text) (sym is) (slash_line front depth z text
      (subst (λ x. Rest (after_slash x) (next_front m.Slash front x) (depth_after depth (front_after front 47) x) z text) is p))
  slash_step false true es et p =
      let is : b ≡ 42 = eqb-true b 42 et in
      subst (λ x. ArePieces front depth (47 ∷ x ∷ z) text) (sym is) (slash_block front depth z text
      (subst (λ x. Rest (after_slash x) (next_front m.Slash front x) (depth_after depth (front_after front 47) x) z text) is p))
  slash_step false false es et p =
      let plain : after_slash b ≡ in_code b = rw (es, et) refl in
      let same = depth_same front depth 47 refl refl refl refl in
      let none : begins_comment 47 (b ∷ z) ≡ false = rw (es, et) refl in
      let after : ArePieces (front_after front 47) depth (b ∷ z) text =
      in_code_step (front_after front 47) depth b z text
      (subst (λ g. Rest (in_code b) g (depth_after depth (front_after front 47) b) z text) (front_slash es et (b == 10) refl)
      (subst (λ n. Rest n (next_front m.Slash front b) (depth_after depth (front_after front 47) b) z text) plain p)) in
      code refl refl none (subst (λ d. ArePieces (front_after front 47) d (b ∷ z) text) (sym same) after)
