-- The bytes of a file's text stand in the file one beside the other up to the end of a line, and its lines further and further on.
use Rattle.std.proofs.Common.{◌≡◌, ◌⊎◌, inl, inr, ℕ, zero, ◌+◌, ◌≤◌, Bool, true, false, List}
use Rattle.std.proofs.Common.{[], ◌∷◌, ◌++◌, length, refl, sym, ap, subst, ◌∙◌, arith}
use Rattle.std.proofs.lemmas.Bool.{eqb-true}
use Rattle.std.specs.Prelude.{◌==◌, if◌then◌else◌, slice_index, Result, Ok, Err, None}
use Rattle.flt_c.proofs.Follow.{Reads, ended, byte, joined, differ, moved, joins, reads}
use Rattle.flt_c.proofs.Kept.{IsIn, Star, byte_in, is_star, joined_in, no_mode, star_is_note, star_is_open, star_of}
use Rattle.flt_c.proofs.Placing.{get_there}
use Rattle.flt_c.proofs.Reading.{past_start}
use Rattle.flt_c.specs.declared.fault.FaultKind.{FaultKind}
use Rattle.flt_c.specs.declared.mode.Mode.{Mode}
use Rattle.flt_c.specs.declared.mode.Mode.TheVariants as m
use Rattle.flt_c.specs.declared.place.Place.{Place}
use Rattle.flt_c.specs.declared.place.PlacedByte.{PlacedByte}
use Rattle.flt_c.specs.declared.scan.Scanner.{Scanner}
use Rattle.flt_c.specs.Fronts.{is_lenient}
use Rattle.flt_c.specs.Laws.{IsAt, beside}
use Rattle.flt_c.specs.Modes.{block_marked, in_block_text, in_line_text, is_blank, is_note, line_marked, turn}
use Rattle.flt_c.specs.Places.{first_place, past, place_of}
use Rattle.flt_c.specs.Scan.{added_in, annotations, continuation, join, last_line, open_at_end, start}

-- ---- the law

-- a byte stands where one is awaited: there, or where a line begins, further on
abbrev pub Follows : Place → Bool → Place → Type 0
Follows at true place = at.start ≤ place.start
Follows at false place = at ≡ place

-- each byte stands beside the one before, or begins a line further on; the last ends a line
abbrev pub Chain : List ℕ → Place → Bool → List PlacedByte → Type 0
Chain file at fresh [] = fresh ≡ true
Chain file at fresh (p ∷ ps) = Follows at fresh p.place × (IsAt file p.place p.byte × Chain file (beside p.place) (p.byte == 10) ps)

-- ---- which modes have text

-- a byte of the text may stand just before
abbrev is_text : Mode → Bool
is_text m.LineText = true
is_text m.BlockText = true
is_text m.BlockTextStar = true
is_text _ = false

abbrev text_of : Result Mode FaultKind → Bool
text_of (Ok mode) = is_text mode
text_of (Err kind) = false

text_is_note : (mode : Mode) → is_note mode ≡ false → is_text mode ≡ false
text_is_note m.LineText e = elim (differ (sym e)) [ ]
text_is_note m.BlockText e = elim (differ (sym e)) [ ]
text_is_note m.BlockTextStar e = elim (differ (sym e)) [ ]
text_is_note _ e = refl

-- ---- what is awaited

-- the place of the next byte of the text, if there is one
abbrev waiting_in : Mode → Scanner → Place
waiting_in mode s = if is_star mode then s.last else s.at

-- the next byte of the text begins a line there or further on, or it stands there
abbrev Awaits : Place → Bool → Place → Bool → Type 0
Awaits at fresh place text = ((fresh ≡ true) × (at.start ≤ place.start)) ⊎ ((text ≡ true) × ((fresh ≡ false) × (at ≡ place)))

abbrev Expects : Scanner → Place → Bool → Type 0
Expects s at fresh = Awaits at fresh (waiting_in s.mode s) (is_text s.mode)

follows : (at : Place) (fresh : Bool) (place : Place) (text : Bool) → Awaits at fresh place text → Follows at fresh place
follows at fresh place text h = elim h [ inl h ↦ rw h.0 h.1 | inr h ↦ rw h.1.0 h.1.1 ]

-- ---- one byte more

abbrev GoesOn : List ℕ → Scanner → List PlacedByte → Type 0
GoesOn file s ps = (at : Place) (fresh : Bool) → Expects s at fresh → Chain file at fresh ps

record Stepped (file : List ℕ) (s : Scanner) (b : ℕ) (next : Scanner) (ps : List PlacedByte) : Type 0 where
  at : next.at ≡ past s.at b
  last : next.last ≡ s.at
  here : place_of file s.at.start ≡ s.at
  byte : slice_index file s.at.start ≡ b
  on : GoesOn file next ps

module _ (file : List ℕ) (s : Scanner) (b : ℕ) (next : Scanner) (ps : List PlacedByte) (st : Stepped file s b next ps) where
  later : (n : ℕ) → n ≤ s.at.start → n ≤ (waiting_in next.mode next).start
  later n h = by (is_star next.mode)
    where
      to : next.at.start ≡ s.at.start + 1
      to = ap (λ (p : Place). p.start) st.at ∙ past_start s.at b (b == 10) refl

      by : (x : Bool) → n ≤ (if x then next.last else next.at).start
      by true = rw st.last h
      by false = omega (arith, to, h)

  -- a byte that adds nothing, where no byte of the text stands just before
  idle : (at : Place) (fresh : Bool) → Awaits at fresh s.at false → Chain file at fresh ps
  idle at fresh h = elim h [ inl h ↦ st.on at fresh (inl (h.0, later at.start h.1)) | inr h ↦ elim (differ h.0) [ ] ]

  -- a byte that adds itself leads to the one beside it
  put_on : is_star next.mode ≡ false → ((b == 10) ≡ false → is_text next.mode ≡ true) → Chain file (beside s.at) (b == 10) ps
  put_on star text = by (b == 10) refl
    where
      plain : waiting_in next.mode next ≡ next.at
      plain = rw star refl

      to : next.at.start ≡ s.at.start + 1
      to = ap (λ (p : Place). p.start) st.at ∙ past_start s.at b (b == 10) refl

      by : (y : Bool) → (b == 10) ≡ y → Chain file (beside s.at) y ps
      by true e = st.on (beside s.at) true (inl (refl, rw plain (omega (arith, to))))
      by false e = let same : past s.at b ≡ beside s.at = rw e refl in
          st.on (beside s.at) false (inr (text e, (refl, sym (plain ∙ (st.at ∙ same)))))

  put_here : (at : Place) (fresh x : Bool) → Awaits at fresh s.at x → is_star next.mode ≡ false →
      ((b == 10) ≡ false → is_text next.mode ≡ true) →
      Chain file at fresh (record { byte = b; place = s.at } ∷ ps)
  put_here at fresh x h star text = (follows at fresh s.at x h, ((st.here, inl st.byte), put_on star text))

  -- a `*` that waits
  star_waits : (at : Place) (fresh : Bool) → Awaits at fresh s.at true → is_star next.mode ≡ true →
      is_text next.mode ≡ true → Chain file at fresh ps
  star_waits at fresh h star text =
      let there : waiting_in next.mode next ≡ s.at = rw star st.last in
      elim h [ inl h ↦ st.on at fresh (inl (h.0, later at.start h.1)) | inr h ↦ st.on at fresh (inr (text, (h.1.0, h.1.1 ∙ sym there))) ]

  -- after a `*` that waits
  after_star : Star file s → (at : Place) (fresh : Bool) → Awaits at fresh s.last true → (x y : Bool) → (b == 47) ≡ x → (b == 42) ≡ y →
      (x ≡ false → y ≡ true → is_star next.mode ≡ true) → (x ≡ false → y ≡ true → is_text next.mode ≡ true) →
      (x ≡ false → y ≡ false → is_star next.mode ≡ false) → (x ≡ false → y ≡ false → is_text next.mode ≡ true) →
      Chain file at fresh ((if x then record { byte = 10; place = s.last } ∷ [] else
      (if y then record { byte = 42; place = s.last } ∷ [] else (record { byte = 42; place = s.last } ∷ []) ++
      (record { byte = b; place = s.at } ∷ []))) ++ ps)
  after_star star at fresh h true y e f a c d g =
      let to : s.at.start ≡ s.last.start + 1 = ap (λ (p : Place). p.start) star.next in
      let closes : slice_index file (s.last.start + 1) ≡ 47 = ap (slice_index file) (sym to) ∙ (st.byte ∙ eqb-true b 47 e) in (
        follows at fresh s.last true h,
        (
          (star.at, inr (refl, inl (star.byte, closes))),
          st.on (beside s.last) true (inl (refl, later (s.last.start + 1) (omega (arith, to)))),
        ),
      )
  after_star star at fresh h false true e f a c d g =
      let there : waiting_in next.mode next ≡ s.at = rw (a refl refl) st.last in (
        follows at fresh s.last true h,
        (
          (star.at, inl star.byte),
          st.on (beside s.last) false (inr (c refl refl, (refl, sym star.next ∙ sym there))),
        ),
      )
  after_star star at fresh h false false e f a c d g = (
    follows at fresh s.last true h,
    (
      (star.at, inl star.byte),
      (sym star.next, ((st.here, inl st.byte), put_on (d refl refl) (λ _. g refl refl))),
    ),
  )

  -- after a marker
  after_line_marker : (l x : Bool) → turn l x m.LineMarked b ≡ Ok next.mode → (at : Place) (fresh : Bool) → Awaits at fresh s.at false →
      (y : Bool) → is_blank b ≡ y → Chain file at fresh ((if y then record { byte = b; place = s.at } ∷ [] else []) ++ ps)
  after_line_marker l x e at fresh h true c =
      let is : line_marked b ≡ Ok (in_line_text b) = rw c refl in
      put_here at fresh false h (ap star_of (sym e ∙ is) ∙ no_mode (b == 10) _ _ refl refl) (λ n. ap text_of (sym e ∙ is) ∙ rw n refl)
  after_line_marker l x e at fresh h false c = idle at fresh h

  blank_is_no_star : is_blank b ≡ true → (y : Bool) → (b == 42) ≡ y → y ≡ false
  blank_is_no_star c true h = let is : b ≡ 42 = eqb-true b 42 h in elim (differ (ap is_blank (sym is) ∙ c)) [ ]
  blank_is_no_star c false h = refl

  after_block_marker : (l x : Bool) → turn l x m.BlockMarked b ≡ Ok next.mode → (at : Place) (fresh : Bool) → Awaits at fresh s.at false →
      (y : Bool) → is_blank b ≡ y → Chain file at fresh ((if y then record { byte = b; place = s.at } ∷ [] else []) ++ ps)
  after_block_marker l x e at fresh h true c =
      let is : block_marked b ≡ Ok (in_block_text b) = rw c refl in
      let plain = blank_is_no_star c (b == 42) refl in
      put_here at fresh false h (ap star_of (sym e ∙ is) ∙ rw plain refl) (λ n. ap text_of (sym e ∙ is) ∙ rw plain refl)
  after_block_marker l x e at fresh h false c = idle at fresh h

  in_block : (l x : Bool) → turn l x m.BlockText b ≡ Ok next.mode → (at : Place) (fresh : Bool) → Awaits at fresh s.at true →
      (y : Bool) → (b == 42) ≡ y → Chain file at fresh ((if y then [] else record { byte = b; place = s.at } ∷ []) ++ ps)
  in_block l x e at fresh h true c = star_waits at fresh h (ap star_of (sym e) ∙ rw c refl) (ap text_of (sym e) ∙ rw c refl)
  in_block l x e at fresh h false c = put_here at fresh true h (ap star_of (sym e) ∙ rw c refl) (λ n. ap text_of (sym e) ∙ rw c refl)

  by_mode : (l x : Bool) (mode : Mode) → turn l x mode b ≡ Ok next.mode → (is_star mode ≡ true → Star file s) →
      (at : Place) (fresh : Bool) →
      Awaits at fresh (waiting_in mode s) (is_text mode) → Chain file at fresh (added_in mode s b ++ ps)
  by_mode l x m.LineText e star at fresh h =
      put_here at fresh true h (ap star_of (sym e) ∙ no_mode (b == 10) _ _ refl refl) (λ n. ap text_of (sym e) ∙ rw n refl)
  by_mode l x m.LineMarked e star at fresh h = after_line_marker l x e at fresh h (is_blank b) refl
  by_mode l x m.BlockMarked e star at fresh h = after_block_marker l x e at fresh h (is_blank b) refl
  by_mode l x m.BlockText e star at fresh h = in_block l x e at fresh h (b == 42) refl
  by_mode l x m.BlockTextStar e star at fresh h =
      after_star (star refl) at fresh h (b == 47) (b == 42) refl refl
      (λ a c. ap star_of (sym e) ∙ rw (a, c) refl) (λ a c. ap text_of (sym e) ∙ rw (a, c) refl)
      (λ a c. ap star_of (sym e) ∙ rw (a, c) refl) (λ a c. ap text_of (sym e) ∙ rw (a, c) refl)
  by_mode l x m.Code e star at fresh h = idle at fresh h
  by_mode l x m.LetterR e star at fresh h = idle at fresh h
  by_mode l x m.Slash e star at fresh h = idle at fresh h
  by_mode l x (m.LineMark w) e star at fresh h = idle at fresh h
  by_mode l x m.Line e star at fresh h = idle at fresh h
  by_mode l x (m.BlockMark w) e star at fresh h = idle at fresh h
  by_mode l x m.Block e star at fresh h = idle at fresh h
  by_mode l x m.BlockStar e star at fresh h = idle at fresh h
  by_mode l x m.String e star at fresh h = idle at fresh h
  by_mode l x m.StringEscape e star at fresh h = idle at fresh h
  by_mode l x m.Character e star at fresh h = idle at fresh h
  by_mode l x m.CharacterEscape e star at fresh h = idle at fresh h

-- ---- all bytes

at_the_end : (file : List ℕ) (s : Scanner) → IsIn file s [] → open_at_end s ≡ None → (at : Place) (fresh : Bool) → Expects s at fresh →
    Chain file at fresh (last_line s)
at_the_end file s i e at fresh h = by (is_note s.mode) refl
  where
    star : is_star s.mode ≡ false
    star = star_is_open s (is_lenient s.front s.depth) s.mode e

    there : waiting_in s.mode s ≡ s.at
    there = rw star refl

    ends : s.at.start ≡ length file
    ends = let counted = i.counted in omega (arith, counted)

    by : (x : Bool) → is_note s.mode ≡ x → Chain file at fresh (if x then record { byte = 10; place = s.at } ∷ [] else [])
    by true c =
        (subst (Follows at fresh) there (follows at fresh (waiting_in s.mode s) (is_text s.mode) h), ((i.at, inr (refl, inr ends)), refl))
    by false c = elim h [ inl h ↦ h.0 | inr h ↦ elim (differ (sym (text_is_note s.mode c) ∙ h.0)) [ ] ]

expects_on : (s next : Scanner) (n : ℕ) → join s n ≡ Ok next → (at : Place) (fresh : Bool) → Expects s at fresh → Expects next at fresh
expects_on s next n e at fresh h =
    let on = joins s n next e in
    let star : is_star s.mode ≡ false = star_is_note s.mode on.outside in
    let still : is_star next.mode ≡ false = ap is_star on.mode ∙ star in
    let to : next.at.start ≡ s.at.start + n = ap (λ (p : Place). p.start) on.at in
    let was : (waiting_in s.mode s).start ≡ s.at.start = rw star refl in
    let is : (waiting_in next.mode next).start ≡ next.at.start = rw still refl in
    elim h [
      | inl h ↦ let le = h.1 in inl (h.0, omega (arith, to, was, is, le))
      | inr h ↦ elim (differ (sym (text_is_note s.mode on.outside) ∙ h.0)) [ ]
    ]

chains : (file : List ℕ) {s : Scanner} {z : List ℕ} {text : List PlacedByte} → Reads s z text → IsIn file s z → GoesOn file s text
chains file (ended {s = s} h) i at fresh e = at_the_end file s i h at fresh e
chains file (byte {s = s} {next = next} {b = b} {z = z} {ps = ps} c h r) i at fresh e =
    let on = moved s b next h in
    let st : Stepped file s b next ps = record {
      at = on.at;
      last = on.last;
      here = i.at;
      byte = get_there file s.at.start 0 b z i.rest;
      on = chains file r (byte_in file s next b z i h);
    } in
    by_mode file s b next ps st _ _ s.mode on.mode i.star at fresh e
chains file (joined {s = s} {next = next} {z = z} p h r) i at fresh e =
    chains file r (joined_in file s next z i p h) at fresh (expects_on s next (continuation z) h at fresh e)

-- the bytes of a file's text, where a line may begin anywhere in the file
pub chained : (file : List ℕ) (text : List PlacedByte) → annotations file ≡ Ok text → Chain file first_place true text
chained file text e =
    chains file (reads file zero start text e)
    (record { at = refl; rest = refl; counted = omega arith; star = λ h. elim (differ h) [ ] })
    first_place true (inl (refl, omega arith))
