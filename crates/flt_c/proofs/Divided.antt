-- A file that is read is a sequence of pieces.
use Rattle.std.proofs.Common.{◌≡◌, inr, ℕ, zero, suc, ◌-◌, ◌≤◌, ◌<◌, Bool, true, false, List}
use Rattle.std.proofs.Common.{[], ◌∷◌, ◌++◌, drop, map, refl, sym, ap, subst, ◌∙◌, arith}
use Rattle.std.proofs.lemmas.Bool.{eqb-true, ltb-false}
use Rattle.std.specs.Prelude.{◌==◌, ◌||◌, nat_lt, if◌then◌else◌, Result, Ok, Err, Some, None}
use Rattle.flt_c.proofs.Follow.{Reads, ended, byte, joined, differ, joins, moved, reads}
use Rattle.flt_c.proofs.Pieced.{InBlock, InLine, InQuotes, block_at, block_on, star_closes, star_passes}
use Rattle.flt_c.proofs.Pieced.{star_stays, marked, marker_ends, marker_from, marking, nothing, whole}
use Rattle.flt_c.proofs.Rests.{Rest, block_blank, block_dash, block_mark_step, block_marked_star, block_star_step}
use Rattle.flt_c.proofs.Rests.{block_step, AfterQuoted, AfterEscaped, escaped_step, in_code_step, line_blank, line_dash}
use Rattle.flt_c.proofs.Rests.{line_mark_step, line_step, line_text_step, quoted_step, slash_step}
use Rattle.flt_c.specs.declared.fault.FaultKind.{FaultKind}
use Rattle.flt_c.specs.declared.fault.FaultKind.TheVariants as k
use Rattle.flt_c.specs.declared.front.Front.{Front}
use Rattle.flt_c.specs.declared.front.Front.TheVariants as f
use Rattle.flt_c.specs.declared.mode.Mode.{Mode}
use Rattle.flt_c.specs.declared.mode.Mode.TheVariants as m
use Rattle.flt_c.specs.declared.place.PlacedByte.{PlacedByte}
use Rattle.flt_c.specs.declared.scan.Scanner.{Scanner}
use Rattle.flt_c.specs.Fronts.{depth_after, front_after, front_within, is_code, is_lenient, next_depth, next_front, settled}
use Rattle.flt_c.specs.Modes.{in_line_text, is_blank, is_block, is_note, line_end, turn, unended}
use Rattle.flt_c.specs.Pieces.{ArePieces, FilesArePieces, code, none, spliced}
use Rattle.flt_c.specs.Scan.{added, added_in, continuation, or_group, start}

-- ---- the bytes of a text

abbrev bytes : List PlacedByte → List ℕ
bytes ps = map (λ p. p.byte) ps

bytes_of_both : (ps qs : List PlacedByte) → bytes (ps ++ qs) ≡ bytes ps ++ bytes qs
bytes_of_both [] qs = refl
bytes_of_both (p ∷ ps) qs = ap (λ l. p.byte ∷ l) (bytes_of_both ps qs)

-- ---- a turn

abbrev mode_of : Mode → Result Mode FaultKind → Mode
mode_of other (Ok mode) = mode
mode_of other (Err kind) = other

abbrev okay : Mode → Result Mode FaultKind
okay mode = Ok mode

same_mode : (a b : Mode) → okay a ≡ okay b → a ≡ b
same_mode a b e = ap (mode_of a) e

no_turn : (kind : FaultKind) (new : Mode) → Err kind ≡ okay new → ⊥
no_turn kind new e = cc

-- the front and the depth after a byte of a line that isn't code
front_in_line : (mode : Mode) (front : Front) (b : ℕ) →
    is_block mode ≡ false → front_within mode front b ≡ front → (y : Bool) → (b == 10) ≡ y →
    next_front mode front b ≡ (if y then f.Nothing else front)
front_in_line _ front b apart same true e = rw (e, apart) refl
front_in_line _ front b apart same false e = rw (e, same) refl

depth_in_line : (mode : Mode) (front : Front) (depth b : ℕ) →
    is_block mode ≡ false → is_code mode ≡ false → settled mode front ≡ front → (y : Bool) →
    (b == 10) ≡ y → next_depth mode front depth b ≡ (if y then depth_after depth front 10 else depth)
depth_in_line _ front depth b apart plain same true e =
    let is : b ≡ 10 = eqb-true b 10 e in rw (apart, plain, same, is) refl
depth_in_line _ front depth b apart plain same false e = rw (apart, plain, e) refl

front_in_block : (mode : Mode) (front : Front) (b : ℕ) →
    is_block mode ≡ true → front_within mode front b ≡ front → (y : Bool) → (b == 10) ≡ y →
    next_front mode front b ≡ front
front_in_block _ front b is same true e = rw (e, is) refl
front_in_block _ front b is same false e = rw (e, same) refl

module _ (l skipped : Bool) (front : Front) (depth b : ℕ) (z text : List ℕ) (new : Mode) where
  -- after a byte of a line
  in_a_line : (mode other : Mode) → is_block mode ≡ false → is_code mode ≡ false → settled mode front ≡ front →
      front_within mode front b ≡ front →
      okay other ≡ okay new → Rest new (next_front mode front b) (next_depth mode front depth b) z text →
      Rest other (if b == 10 then f.Nothing else front) (if b == 10 then depth_after depth front 10 else depth) z text
  in_a_line mode other apart plain still same e r =
      subst (λ n. Rest n (if b == 10 then f.Nothing else front) (if b == 10 then depth_after depth front 10 else depth) z text)
      (sym (same_mode other new e))
      (subst (λ g. Rest new g (if b == 10 then depth_after depth front 10 else depth) z text)
      (front_in_line mode front b apart same (b == 10) refl)
      (subst (λ d. Rest new (next_front mode front b) d z text) (depth_in_line mode front depth b apart plain still (b == 10) refl) r))

  -- after a byte of a block comment
  in_a_block : (mode other : Mode) → is_block mode ≡ true → front_within mode front b ≡ front → next_depth mode front depth b ≡ depth →
      okay other ≡ okay new → Rest new (next_front mode front b) (next_depth mode front depth b) z text → Rest other front depth z text
  in_a_block mode other is same still e r =
      subst (λ n. Rest n front depth z text) (sym (same_mode other new e))
      (subst (λ g. Rest new g depth z text) (front_in_block mode front b is same (b == 10) refl)
      (subst (λ d. Rest new (next_front mode front b) d z text) still r))

-- ---- one byte more

blank_no_dash : (b : ℕ) → is_blank b ≡ true → (y : Bool) → (b == 45) ≡ y → y ≡ false
blank_no_dash b c true h = let is : b ≡ 45 = eqb-true b 45 h in elim (differ (ap is_blank (sym is) ∙ c)) [ ]
blank_no_dash b c false h = refl

blank_no_star : (b : ℕ) → is_blank b ≡ true → (y : Bool) → (b == 42) ≡ y → y ≡ false
blank_no_star b c true h = let is : b ≡ 42 = eqb-true b 42 h in elim (differ (ap is_blank (sym is) ∙ c)) [ ]
blank_no_star b c false h = refl

no_blank_no_feed : (b : ℕ) → is_blank b ≡ false → (y : Bool) → (b == 10) ≡ y → y ≡ false
no_blank_no_feed b c true h = let is : b ≡ 10 = eqb-true b 10 h in elim (differ (sym c ∙ ap is_blank is)) [ ]
no_blank_no_feed b c false h = refl

module _ (s : Scanner) (front : Front) (depth b : ℕ) (z text : List ℕ) (new : Mode) where
  within : (mode : Mode) (other : Mode) → is_block mode ≡ false → is_code mode ≡ false → settled mode front ≡ front →
      front_within mode front b ≡ front →
      okay other ≡ okay new → Rest new (next_front mode front b) (next_depth mode front depth b) z text → (y : Bool) → (b == 10) ≡ y →
      Rest other (if y then f.Nothing else front) (if y then depth_after depth front 10 else depth) z text
  within mode other apart plain still same e r y h =
      subst (λ y. Rest other (if y then f.Nothing else front) (if y then depth_after depth front 10 else depth) z text) h
      (in_a_line (is_lenient front depth) (nat_lt 0 depth) front depth b z text new mode other apart plain still same e r)

  inside : (mode : Mode) (other : Mode) → is_block mode ≡ true → front_within mode front b ≡ front → next_depth mode front depth b ≡ depth →
      okay other ≡ okay new → Rest new (next_front mode front b) (next_depth mode front depth b) z text → Rest other front depth z text
  inside = in_a_block (is_lenient front depth) (nat_lt 0 depth) front depth b z text new

  after_letter : (x : Bool) (other : Mode) → (if x then Err k.RawString else okay other) ≡ okay new → other ≡ new
  after_letter true other e = elim (no_turn k.RawString new e) [ ]
  after_letter false other e = same_mode other new e

  line_marked_by : (x y : Bool) → is_blank b ≡ x → (b == 45) ≡ y →
      (if x then okay (in_line_text b) else (if y then okay m.Line else Err k.Marker)) ≡ okay new →
      Rest new (next_front m.LineMarked front b) (next_depth m.LineMarked front depth b) z text →
      InLine front depth marked (b ∷ z) (bytes (if x then record { byte = b; place = s.at } ∷ [] else []) ++ text)
  line_marked_by true y ex ey e r =
      line_blank front depth b z text (b == 10) refl (blank_no_dash b ex (b == 45) refl)
      (within m.LineMarked (in_line_text b) refl refl refl refl e r (b == 10) refl)
  line_marked_by false true ex ey e r =
      let feed = no_blank_no_feed b ex (b == 10) refl in
      line_dash front depth b z text feed ey (within m.LineMarked m.Line refl refl refl refl e r false feed)
  line_marked_by false false ex ey e r = elim (no_turn k.Marker new e) [ ]

  block_marked_by : (x y u : Bool) → is_blank b ≡ x → (b == 42) ≡ y → (b == 45) ≡ u →
      (if x || y then okay (if y then m.BlockTextStar else m.BlockText) else (if u then okay m.Block else Err k.Marker)) ≡ okay new →
      Rest new (next_front m.BlockMarked front b) (next_depth m.BlockMarked front depth b) z text →
      InBlock front depth marked (b ∷ z) (bytes (if x then record { byte = b; place = s.at } ∷ [] else []) ++ text)
  block_marked_by true true u ex ey eu e r = elim (differ (sym (blank_no_star b ex true ey))) [ ]
  block_marked_by true false u ex ey eu e r =
      block_blank front depth b z text ey (blank_no_dash b ex (b == 45) refl) (inside m.BlockMarked m.BlockText refl refl refl e r)
  block_marked_by false true u ex ey eu e r =
      block_marked_star front depth b z text ey (inside m.BlockMarked m.BlockTextStar refl refl refl e r)
  block_marked_by false false true ex ey eu e r = block_dash front depth b z text ey eu (inside m.BlockMarked m.Block refl refl refl e r)
  block_marked_by false false false ex ey eu e r = elim (no_turn k.Marker new e) [ ]

  block_text_by : (y : Bool) → (b == 42) ≡ y → Rest (if y then m.BlockTextStar else m.BlockText) front depth z text →
      InBlock front depth whole (b ∷ z) (bytes (if y then [] else record { byte = b; place = s.at } ∷ []) ++ text)
  block_text_by true e r = block_at front depth whole whole b z text (eqb-true b 42 e) (λ body first. refl) r
  block_text_by false e r = block_on front depth whole whole b z text (b ∷ []) e (λ body. refl) r

  block_text_star_by : (x y : Bool) → (b == 47) ≡ x → (b == 42) ≡ y →
      Rest (if x then m.Code else (if y then m.BlockTextStar else m.BlockText)) front depth z text →
      InBlock front depth whole (42 ∷ b ∷ z) (bytes (if x then record { byte = 10; place = s.last } ∷ [] else
      (if y then record { byte = 42; place = s.last } ∷ [] else (record { byte = 42; place = s.last } ∷ []) ++
      (record { byte = b; place = s.at } ∷ []))) ++ text)
  block_text_star_by true y ex ey r = star_closes front depth whole b z text (10 ∷ []) (eqb-true b 47 ex) refl r
  block_text_star_by false true ex ey r = star_stays front depth whole whole b z text (42 ∷ []) (eqb-true b 42 ey) (λ body. refl) r
  block_text_star_by false false ex ey r = star_passes front depth whole whole b z text (42 ∷ b ∷ []) ex ey (λ body. refl) r

  -- strings and character constants, which are read in these modes
  module _ (mode escape : Mode) (quote : ℕ) (unended : FaultKind) (apart : is_block mode ≡ false) (plain : is_code mode ≡ false)
      (still : settled mode front ≡ front) (same : front_within mode front b ≡ front)
      (is_in : (g : Front) (d : ℕ) → Rest m.Code g d z text → ArePieces g d z text) where
    quoted_by : (within_quotes : (g : Front) (d : ℕ) → Rest mode g d z text → InQuotes quote false g d z text) →
        (after_escape : (g : Front) (d : ℕ) → Rest escape g d z text → InQuotes quote true g d z text) →
        (l x y u : Bool) → (b == 10) ≡ u →
        (if x then okay m.Code else (if y then okay escape else (if u then line_end l unended else okay mode))) ≡ okay new →
        Rest new (next_front mode front b) (next_depth mode front depth b) z text → AfterQuoted front depth b z text quote l x y u
    quoted_by q e l true y u eu t r = is_in _ _ (within mode m.Code apart plain still same t r u eu)
    quoted_by q e l false true u eu t r = e _ _ (within mode escape apart plain still same t r u eu)
    quoted_by q e true false false true eu t r = (refl, within mode m.Code apart plain still same t r true eu)
    quoted_by q e false false false true eu t r = elim (no_turn unended new t) [ ]
    quoted_by q e l false false false eu t r = q _ _ (within mode mode apart plain still same t r false eu)

  module _ (mode back : Mode) (quote : ℕ) (unended : FaultKind) (apart : is_block mode ≡ false) (plain : is_code mode ≡ false)
      (still : settled mode front ≡ front) (same : front_within mode front b ≡ front) where
    escaped_by : (within_quotes : (g : Front) (d : ℕ) → Rest back g d z text → InQuotes quote false g d z text) → (l u : Bool) →
        (b == 10) ≡ u →
        (if u then line_end l unended else okay back) ≡ okay new →
        Rest new (next_front mode front b) (next_depth mode front depth b) z text →
        AfterEscaped front depth b z text quote l u
    escaped_by q true true eu t r = (refl, within mode m.Code apart plain still same t r true eu)
    escaped_by q false true eu t r = elim (no_turn unended new t) [ ]
    escaped_by q l false eu t r = q _ _ (within mode back apart plain still same t r false eu)

  step_rest : (mode : Mode) → turn (is_lenient front depth) (nat_lt 0 depth) mode b ≡ okay new →
      Rest new (next_front mode front b) (next_depth mode front depth b) z text →
      Rest mode front depth (b ∷ z) (bytes (added_in mode s b) ++ text)
  step_rest m.Code e r =
      in_code_step front depth b z text
      (subst (λ n. Rest n (next_front m.Code front b) (depth_after depth front b) z text) (sym (same_mode _ new e)) r)
  step_rest m.LetterR e r =
      in_code_step front depth b z text
      (subst (λ n. Rest n (next_front m.Code front b) (depth_after depth front b) z text) (sym (after_letter (b == 34) _ e)) r)
  step_rest m.Slash e r =
      slash_step front depth b z text (b == 47) (b == 42) refl refl
      (subst (λ n. Rest n (next_front m.Slash front b) (depth_after depth (front_after front 47) b) z text) (sym (same_mode _ new e)) r)
  step_rest (m.LineMark w) e r =
      λ v. line_mark_step front depth b z text w v (b == w) (b == 10) (b == 116) (nat_lt 0 depth) refl refl refl refl
      (within (m.LineMark w) _ refl refl refl refl e r (b == 10) refl)
  step_rest m.Line e r = line_step front depth b z text (b == 10) refl (within m.Line _ refl refl refl refl e r (b == 10) refl)
  step_rest m.LineMarked e r = line_marked_by (is_blank b) (b == 45) refl refl e r
  step_rest m.LineText e r = line_text_step front depth b z text (b == 10) refl (within m.LineText _ refl refl refl refl e r (b == 10) refl)
  step_rest (m.BlockMark w) e r =
      λ v. block_mark_step front depth b z text w v (b == w) (b == 42) (b == 116) (nat_lt 0 depth) refl refl refl refl
      (inside (m.BlockMark w) _ refl refl refl e r)
  step_rest m.Block e r = block_step front depth b z text (b == 42) refl (inside m.Block _ refl refl refl e r)
  step_rest m.BlockStar e r = block_star_step front depth b z text (b == 47) (b == 42) refl refl (inside m.BlockStar _ refl refl refl e r)
  step_rest m.BlockMarked e r = block_marked_by (is_blank b) (b == 42) (b == 45) refl refl refl e r
  step_rest m.BlockText e r = block_text_by (b == 42) refl (inside m.BlockText _ refl refl refl e r)
  step_rest m.BlockTextStar e r = block_text_star_by (b == 47) (b == 42) refl refl (inside m.BlockTextStar _ refl refl refl e r)
  step_rest m.String e r =
      quoted_step front depth b z text 34 refl (b == 34) (b == 92) (b == 10) refl refl refl
      (quoted_by m.String m.StringEscape 34 k.String refl refl refl refl (λ g d p. p) (λ g d p. p) (λ g d p. p) (is_lenient front depth)
      (b == 34) (b == 92) (b == 10) refl e r)
  step_rest m.StringEscape e r =
      escaped_step front depth b z text 34 (b == 10) refl
      (escaped_by m.StringEscape m.String 34 k.String refl refl refl refl (λ g d p. p) (is_lenient front depth) (b == 10) refl e r)
  step_rest m.Character e r =
      quoted_step front depth b z text 39 refl (b == 39) (b == 92) (b == 10) refl refl refl
      (quoted_by m.Character m.CharacterEscape 39 k.Character refl refl refl refl (λ g d p. p) (λ g d p. p) (λ g d p. p)
      (is_lenient front depth) (b == 39) (b == 92) (b == 10) refl e r)
  step_rest m.CharacterEscape e r =
      escaped_step front depth b z text 39 (b == 10) refl
      (escaped_by m.CharacterEscape m.Character 39 k.Character refl refl refl refl (λ g d p. p) (is_lenient front depth) (b == 10) refl e r)

-- ---- the end

some_is_none : (kind : FaultKind) → Some kind ≡ None → ⊥
some_is_none kind e = cc

module _ (s : Scanner) where
  no_group : (x : Bool) → nat_lt 0 s.depth ≡ x → (if x then Some k.Group else None) ≡ None → s.depth ≡ 0
  no_group true c e = elim (some_is_none k.Group e) [ ]
  no_group false c e = let none : s.depth ≤ 0 = ltb-false 0 s.depth c in omega (arith, none)

  nothing_left : or_group s None ≡ None → ArePieces s.front s.depth [] []
  nothing_left e = subst (λ d. ArePieces s.front d [] []) (sym (no_group (nat_lt 0 s.depth) refl e)) none

  line_left : (add : List ℕ → List ℕ) (text : List ℕ) → text ≡ add [] ++ [] → or_group s None ≡ None → InLine s.front s.depth add [] text
  line_left add text is e =
      record { body = []; rest = []; more = []; split = refl; plain = tt; ends = tt; pieces = nothing_left e; is = is }

  quote_left : (quote : ℕ) (old : Bool) (l : Bool) (kind : FaultKind) → is_lenient s.front s.depth ≡ l →
      or_group s (if l then None else Some kind) ≡ None → InQuotes quote old s.front s.depth [] []
  quote_left quote old true kind c e =
      inr (record { body = []; rest = []; split = refl; plain = refl; ends = tt; lenient = c; pieces = nothing_left e })
  quote_left quote old false kind c e = elim (some_is_none kind e) [ ]

  at_end : (mode : Mode) → or_group s (unended (is_lenient s.front s.depth) mode) ≡ None →
      Rest mode s.front s.depth [] (bytes (if is_note mode then record { byte = 10; place = s.at } ∷ [] else []))
  at_end m.Code e = nothing_left e
  at_end m.LetterR e = nothing_left e
  at_end m.Slash e =
      let is = no_group (nat_lt 0 s.depth) refl e in
      subst (λ d. ArePieces s.front d (47 ∷ []) []) (sym is)
      (code refl refl refl (subst (λ d. ArePieces (front_after s.front 47) d [] []) (zero_stays s.front) none))
    where
      zero_stays : (front : Front) → 0 ≡ depth_after 0 front 47
      zero_stays f.LetterI = refl
      zero_stays f.LetterE = refl
      zero_stays f.Zero = refl
      zero_stays _ = refl
  at_end (m.LineMark w) e =
      λ v. line_left (marking s.depth (marker_from w)) [] (marker_ends s.depth w v ∙ sym (end_of (marking s.depth (marker_from w) []))) e
    where
      end_of : (l : List ℕ) → l ++ [] ≡ l
      end_of [] = refl
      end_of (x ∷ l) = ap (λ l. x ∷ l) (end_of l)
  at_end m.Line e = line_left nothing [] refl e
  at_end m.LineMarked e = line_left marked (10 ∷ []) refl e
  at_end m.LineText e = line_left whole (10 ∷ []) refl e
  at_end (m.BlockMark w) e = elim (some_is_none k.Comment e) [ ]
  at_end m.Block e = elim (some_is_none k.Comment e) [ ]
  at_end m.BlockStar e = elim (some_is_none k.Comment e) [ ]
  at_end m.BlockMarked e = elim (some_is_none k.Comment e) [ ]
  at_end m.BlockText e = elim (some_is_none k.Comment e) [ ]
  at_end m.BlockTextStar e = elim (some_is_none k.Comment e) [ ]
  at_end m.String e = quote_left 34 false (is_lenient s.front s.depth) k.String refl e
  at_end m.StringEscape e = quote_left 34 true (is_lenient s.front s.depth) k.String refl e
  at_end m.Character e = quote_left 39 false (is_lenient s.front s.depth) k.Character refl e
  at_end m.CharacterEscape e = quote_left 39 true (is_lenient s.front s.depth) k.Character refl e

-- ---- continuations

spliced_on : (b : ℕ) (z : List ℕ) → continuation (b ∷ z) ≡ 0 → spliced zero (b ∷ z) ≡ b ∷ spliced zero z
spliced_on b z e = rw e refl

spliced_skip : (n : ℕ) (z : List ℕ) → spliced n z ≡ spliced zero (drop n z)
spliced_skip zero z = refl
spliced_skip (suc n) [] = refl
spliced_skip (suc n) (b ∷ z) = spliced_skip n z

not_zero : (n : ℕ) → 0 < n → (x : Bool) → (n == 0) ≡ x → x ≡ false
not_zero n h true e = let z : n ≡ 0 = eqb-true n 0 e in absurd (omega (arith, h))
not_zero n h false e = refl

drop_rest : (n b : ℕ) (z : List ℕ) → 0 < n → drop (n - 1) z ≡ drop n (b ∷ z)
drop_rest zero b z h = absurd (omega arith)
drop_rest (suc n) b z h = let q : suc n - 1 ≡ n = omega arith in rw q refl

spliced_over : (z : List ℕ) → 0 < continuation z → spliced zero z ≡ spliced zero (drop (continuation z) z)
spliced_over [] h = absurd (omega (arith, h))
spliced_over (b ∷ z) h =
    let n = continuation (b ∷ z) in
    let some : (n == 0) ≡ false = not_zero n h (n == 0) refl in
    let first : spliced zero (b ∷ z) ≡ spliced (n - 1) z = rw some refl in
    first ∙ (spliced_skip (n - 1) z ∙ ap (spliced zero) (drop_rest n b z h))

-- ---- all of it

rests : {s : Scanner} {z : List ℕ} {text : List PlacedByte} → Reads s z text → Rest s.mode s.front s.depth (spliced zero z) (bytes text)
rests (ended {s = s} h) = at_end s s.mode h
rests (byte {s = s} {next = next} {b = b} {z = z} {ps = ps} c h r) =
    let on = moved s b next h in
    let later = subst (λ g. Rest next.mode g (next_depth s.mode s.front s.depth b) (spliced zero z) (bytes ps)) on.front
    (subst (λ d. Rest next.mode next.front d (spliced zero z) (bytes ps)) on.depth (rests r)) in
    subst (λ l. Rest s.mode s.front s.depth l (bytes (added s b ++ ps))) (sym (spliced_on b z c))
    (subst (λ t. Rest s.mode s.front s.depth (b ∷ spliced zero z) t) (sym (bytes_of_both (added s b) ps))
    (step_rest s s.front s.depth b (spliced zero z) (bytes ps) next.mode s.mode on.mode later))
rests (joined {s = s} {next = next} {z = z} {ps = ps} p h r) =
    let on = joins s (continuation z) next h in
    let rest = spliced zero (drop (continuation z) z) in
    subst (λ l. Rest s.mode s.front s.depth l (bytes ps)) (sym (spliced_over z p))
    (subst (λ n. Rest n s.front s.depth rest (bytes ps)) on.mode
    (subst (λ g. Rest next.mode g s.depth rest (bytes ps)) on.front
    (subst (λ d. Rest next.mode next.front d rest (bytes ps)) on.depth (rests r))))

-- a file that is read is a sequence of pieces, and its text is that of their comments
pub files_are_pieces : FilesArePieces
files_are_pieces file text e = rests (reads file zero start text e)
