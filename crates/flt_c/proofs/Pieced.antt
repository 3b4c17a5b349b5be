-- A file that is read is a sequence of pieces: what is being read is the rest of one.
use Rattle.std.proofs.Common.{◌≡◌, ◌⊎◌, inl, inr, ℕ, Bool, true, false, List, [], ◌∷◌, ◌++◌, refl, sym, ap, subst, ◌∙◌, append_assoc, codes}
use Rattle.std.proofs.lemmas.Bool.{eqb-true}
use Rattle.std.specs.Prelude.{◌==◌, nat_lt, if◌then◌else◌, Some}
use Rattle.flt_c.proofs.Follow.{differ}
use Rattle.flt_c.specs.declared.front.Front.{Front}
use Rattle.flt_c.specs.declared.front.Front.TheVariants as f
use Rattle.flt_c.specs.Fronts.{depth_after, is_lenient}
use Rattle.flt_c.specs.Modes.{following}
use Rattle.flt_c.specs.Pieces.{ArePieces, EndsLine, IsBlockBody, IsLineBody, after_marker}
use Rattle.flt_c.specs.Pieces.{is_quoted, is_slash_next, line_feed, note_after, read_at}

-- ---- the rest of a comment

-- of a line comment: its bytes add something to the text, and pieces follow
pub record InLine (front : Front) (depth : ℕ) (add : List ℕ → List ℕ) (z text : List ℕ) : Type 0 where
  pub body : List ℕ
  pub rest : List ℕ
  pub more : List ℕ
  pub split : z ≡ body ++ rest
  pub plain : IsLineBody body
  pub ends : EndsLine rest
  pub pieces : ArePieces front depth rest more
  pub is : text ≡ add body ++ more

-- of a block comment
pub record InBlock (front : Front) (depth : ℕ) (add : List ℕ → List ℕ) (z text : List ℕ) : Type 0 where
  pub body : List ℕ
  pub rest : List ℕ
  pub more : List ℕ
  pub split : z ≡ body ++ 42 ∷ 47 ∷ rest
  pub plain : IsBlockBody body
  pub pieces : ArePieces front depth rest more
  pub is : text ≡ add body ++ more

-- nothing, or a `*` first
abbrev pub is_star_first : List ℕ → Bool
is_star_first [] = true
is_star_first (b ∷ z) = b == 42

abbrev head_of : List ℕ → ℕ
head_of [] = 0
head_of (b ∷ z) = b

first_of : (body rest z : List ℕ) → 42 ∷ z ≡ body ++ 42 ∷ 47 ∷ rest → is_star_first body ≡ true
first_of [] rest z e = refl
first_of (c ∷ body) rest z e = let is : 42 ≡ c = ap head_of e in rw (sym is) refl

no_slash : (body : List ℕ) → is_star_first body ≡ true → is_slash_next body ≡ false
no_slash [] e = refl
no_slash (c ∷ body) e = let is : c ≡ 42 = eqb-true c 42 e in rw is refl

-- a comment that is no annotation adds nothing
abbrev pub nothing : List ℕ → List ℕ
nothing body = []

-- an annotation adds itself and a line feed
abbrev pub whole : List ℕ → List ℕ
whole body = body ++ 10 ∷ []

-- what follows a marker
abbrev pub marked : List ℕ → List ℕ
marked body = note_after (Some body)

-- what begins with the rest of a marker
abbrev pub marking : ℕ → List ℕ → List ℕ → List ℕ
marking depth marker body = read_at depth (note_after (after_marker marker body))

module _ (front : Front) (depth : ℕ) where
  -- a byte more at the front
  pub line_on : (add next : List ℕ → List ℕ) (b : ℕ) (z text pre : List ℕ) → (b == 10) ≡ false →
      ((body : List ℕ) → pre ++ next body ≡ add (b ∷ body)) → InLine front depth next z text → InLine front depth add (b ∷ z) (pre ++ text)
  line_on add next b z text pre e h i = record {
    body = b ∷ i.body;
    rest = i.rest;
    more = i.more;
    split = ap (λ l. b ∷ l) i.split;
    plain = (e, i.plain);
    ends = i.ends;
    pieces = i.pieces;
    is = ap (λ l. pre ++ l) i.is ∙ (sym (append_assoc pre (next i.body) i.more) ∙ ap (λ l. l ++ i.more) (h i.body));
  }

  -- the line feed at its end
  pub line_ends : (add : List ℕ → List ℕ) (b : ℕ) (z text pre : List ℕ) → b ≡ 10 → pre ≡ add [] →
      ArePieces f.Nothing (depth_after depth front 10) z text → InLine front depth add (b ∷ z) (pre ++ text)
  line_ends add b z text pre e h p = record {
    body = [];
    rest = b ∷ z;
    more = text;
    split = refl;
    plain = tt;
    ends = e;
    pieces = subst (λ c. ArePieces front depth (c ∷ z) text) (sym e) (line_feed p);
    is = ap (λ l. l ++ text) h;
  }

  -- a byte of a block that isn't a `*` goes on with the block, and is added where the text has it
  pub block_on : (add next : List ℕ → List ℕ) (b : ℕ) (z text pre : List ℕ) → (b == 42) ≡ false →
      ((body : List ℕ) → pre ++ next body ≡ add (b ∷ body)) → InBlock front depth next z text →
      InBlock front depth add (b ∷ z) (pre ++ text)
  block_on add next b z text pre e h i = record {
    body = b ∷ i.body;
    rest = i.rest;
    more = i.more;
    split = ap (λ l. b ∷ l) i.split;
    plain = (rw e refl, i.plain);
    pieces = i.pieces;
    is = ap (λ l. pre ++ l) i.is ∙ (sym (append_assoc pre (next i.body) i.more) ∙ ap (λ l. l ++ i.more) (h i.body));
  }

  -- a `*` that may end it: nothing is passed, so only what is added changes
  pub block_at : (add next : List ℕ → List ℕ) (b : ℕ) (z text : List ℕ) → b ≡ 42 →
      ((body : List ℕ) → is_star_first body ≡ true → next body ≡ add body) → InBlock front depth next (42 ∷ z) text →
      InBlock front depth add (b ∷ z) text
  block_at add next b z text e h i = subst (λ c. InBlock front depth add (c ∷ z) text) (sym e) (record {
    body = i.body;
    rest = i.rest;
    more = i.more;
    split = i.split;
    plain = i.plain;
    pieces = i.pieces;
    is = i.is ∙ ap (λ l. l ++ i.more) (h i.body (first_of i.body i.rest z i.split));
  })

  -- after a `*`, the `/` that ends it
  pub star_closes : (add : List ℕ → List ℕ) (b : ℕ) (z text pre : List ℕ) → b ≡ 47 → pre ≡ add [] → ArePieces front depth z text →
      InBlock front depth add (42 ∷ b ∷ z) (pre ++ text)
  star_closes add b z text pre e h p = record {
    body = [];
    rest = z;
    more = text;
    split = ap (λ c. 42 ∷ c ∷ z) e;
    plain = tt;
    pieces = p;
    is = ap (λ l. l ++ text) h;
  }

  -- after a `*` another one, which may end it
  pub star_stays : (add next : List ℕ → List ℕ) (b : ℕ) (z text pre : List ℕ) →
      b ≡ 42 → ((body : List ℕ) → pre ++ next body ≡ add (42 ∷ body)) →
      InBlock front depth next (42 ∷ z) text → InBlock front depth add (42 ∷ b ∷ z) (pre ++ text)
  star_stays add next b z text pre e h i = subst (λ c. InBlock front depth add (42 ∷ c ∷ z) (pre ++ text)) (sym e) (record {
    body = 42 ∷ i.body;
    rest = i.rest;
    more = i.more;
    split = ap (λ l. 42 ∷ l) i.split;
    plain = (no_slash i.body (first_of i.body i.rest z i.split), i.plain);
    pieces = i.pieces;
    is = ap (λ l. pre ++ l) i.is ∙ (sym (append_assoc pre (next i.body) i.more) ∙ ap (λ l. l ++ i.more) (h i.body));
  })

  -- after a `*` another byte
  pub star_passes : (add next : List ℕ → List ℕ) (b : ℕ) (z text pre : List ℕ) → (b == 47) ≡ false → (b == 42) ≡ false →
      ((body : List ℕ) → pre ++ next body ≡ add (42 ∷ b ∷ body)) → InBlock front depth next z text →
      InBlock front depth add (42 ∷ b ∷ z) (pre ++ text)
  star_passes add next b z text pre e g h i = record {
    body = 42 ∷ b ∷ i.body;
    rest = i.rest;
    more = i.more;
    split = ap (λ l. 42 ∷ b ∷ l) i.split;
    plain = (e, (rw g refl, i.plain));
    pieces = i.pieces;
    is = ap (λ l. pre ++ l) i.is ∙ (sym (append_assoc pre (next i.body) i.more) ∙ ap (λ l. l ++ i.more) (h i.body));
  }

-- ---- the marker

-- the rest of it from a byte on
abbrev pub marker_from : ℕ → List ℕ
marker_from w = if w == 64 then codes "@flt" else (if w == 102 then codes "flt" else (if w == 108 then codes "lt" else codes "t"))

-- it is one of its bytes
abbrev pub IsOfMarker : ℕ → Type 0
IsOfMarker w = (w ≡ 64) ⊎ ((w ≡ 102) ⊎ ((w ≡ 108) ⊎ (w ≡ 116)))

-- its rest is this byte and what follows it
abbrev pub marker_after : ℕ → List ℕ
marker_after w = if w == 116 then [] else marker_from (following w)

first_of_marker : (w : ℕ) → IsOfMarker w → marker_from w ≡ w ∷ marker_after w
first_of_marker w v = elim v [
  | inl e ↦ rw e refl
  | inr v ↦ elim v [ inl e ↦ rw e refl | inr v ↦ elim v [ inl e ↦ rw e refl | inr e ↦ rw e refl ] ]
]

-- after a byte of the marker that isn't its last, what follows is of the marker
pub next_of_marker : (w : ℕ) → IsOfMarker w → (w == 116) ≡ false → IsOfMarker (following w)
next_of_marker w v other = elim v [
  | inl e ↦ rw e (inr (inl refl))
  | inr v ↦ elim v [
    | inl e ↦ rw e (inr (inr (inl refl)))
    | inr v ↦ elim
        v [ inl e ↦ rw e (inr (inr (inr refl))) | inr e ↦ let no : (w == 116) ≡ true = rw e refl in elim (differ (sym other ∙ no)) [ ] ]
  ]
]

nothing_either : (x : Bool) (text : List ℕ) → text ≡ (if x then text else text)
nothing_either true text = refl
nothing_either false text = refl

pub read_nothing : (depth : ℕ) → [] ≡ read_at depth []
read_nothing depth = nothing_either (nat_lt 0 depth) []

module _ (depth w : ℕ) (v : IsOfMarker w) where
  -- a comment that ends within its marker adds nothing
  pub marker_ends : [] ≡ marking depth (marker_from w) []
  marker_ends = rw (first_of_marker w v) (read_nothing depth)

  -- nor does one in which another byte stands
  pub marker_fails : (b : ℕ) (body : List ℕ) → (b == w) ≡ false → [] ≡ marking depth (marker_from w) (b ∷ body)
  marker_fails b body e = rw (first_of_marker w v, e) (read_nothing depth)

  -- the next byte of the marker
  pub marker_goes_on : (b : ℕ) (body : List ℕ) → (b == w) ≡ true →
      marking depth (marker_after w) body ≡ marking depth (marker_from w) (b ∷ body)
  marker_goes_on b body e = rw (first_of_marker w v, e) refl

-- in code that compilers read, and in code that they skip
pub read_whole : (depth : ℕ) (text : List ℕ) → nat_lt 0 depth ≡ false → text ≡ read_at depth text
read_whole depth text e = rw e refl

-- a comment of a group that is skipped has no text
pub read_none : (depth : ℕ) (text : List ℕ) → nat_lt 0 depth ≡ true → [] ≡ read_at depth text
read_none depth text e = rw e refl

-- ---- the rest of a string or a character constant

-- it is closed, or ends with its line
pub record IsClosed (quote : ℕ) (escaped : Bool) (front : Front) (depth : ℕ) (z text : List ℕ) : Type 0 where
  pub body : List ℕ
  pub rest : List ℕ
  pub split : z ≡ body ++ quote ∷ rest
  pub plain : is_quoted quote true escaped body ≡ true
  pub pieces : ArePieces front depth rest text

pub record IsLeftOpen (quote : ℕ) (escaped : Bool) (front : Front) (depth : ℕ) (z text : List ℕ) : Type 0 where
  pub body : List ℕ
  pub rest : List ℕ
  pub split : z ≡ body ++ rest
  pub plain : is_quoted quote false escaped body ≡ true
  pub ends : EndsLine rest
  pub lenient : is_lenient front depth ≡ true
  pub pieces : ArePieces front depth rest text

abbrev pub InQuotes : ℕ → Bool → Front → ℕ → List ℕ → List ℕ → Type 0
InQuotes quote escaped front depth z text = IsClosed quote escaped front depth z text ⊎ IsLeftOpen quote escaped front depth z text

module _ (quote : ℕ) (front : Front) (depth b : ℕ) (z text : List ℕ) where
  -- a byte more: where this says of each rest that it may stand before it
  pub quote_on : (old new : Bool) → ((closed : Bool) (body : List ℕ) →
      is_quoted quote closed new body ≡ true → is_quoted quote closed old (b ∷ body) ≡ true) →
      InQuotes quote new front depth z text → InQuotes quote old front depth (b ∷ z) text
  quote_on old new h i = elim i [
    | inl i ↦
        inl (record { body = b ∷ i.body; rest = i.rest; split = ap (λ l. b ∷ l) i.split; plain = h true i.body i.plain; pieces = i.pieces })
    | inr i ↦ inr (record {
      body = b ∷ i.body;
      rest = i.rest;
      split = ap (λ l. b ∷ l) i.split;
      plain = h false i.body i.plain;
      ends = i.ends;
      lenient = i.lenient;
      pieces = i.pieces;
    })
  ]

  -- the quote that closes it
  pub quote_closes : b ≡ quote → ArePieces front depth z text → InQuotes quote false front depth (b ∷ z) text
  quote_closes e p = inl (record { body = []; rest = z; split = ap (λ c. c ∷ z) e; plain = refl; pieces = p })

  -- the end of the line
  pub quote_ends : (escaped : Bool) → b ≡ 10 → is_lenient front depth ≡ true → ArePieces f.Nothing (depth_after depth front 10) z text →
      InQuotes quote escaped front depth (b ∷ z) text
  quote_ends escaped e l p = inr (record {
    body = [];
    rest = b ∷ z;
    split = refl;
    plain = refl;
    ends = e;
    lenient = l;
    pieces = subst (λ c. ArePieces front depth (c ∷ z) text) (sym e) (line_feed p);
  })
