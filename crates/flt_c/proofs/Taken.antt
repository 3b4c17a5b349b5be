-- Each byte that is read of an annotation is in the text, but a `*/`.
use Rattle.std.proofs.Common.{◌≡◌, inl, inr, ℕ, zero, suc, ◌+◌, ◌-◌, ◌<◌, Bool, true, false}
use Rattle.std.proofs.Common.{List, [], ◌∷◌, ◌++◌, drop, refl, sym, ap, subst, ◌∙◌, arith}
use Rattle.std.proofs.lemmas.Bool.{eqb-true}
use Rattle.std.specs.List.{AllByRecursion}
use Rattle.std.specs.Prelude.{◌==◌, ◌&&◌, not, if◌then◌else◌, slice_index, Ok, Err}
use Rattle.flt_c.proofs.Follow.{Reads, ended, byte, joined, differ, moved, joins, reads}
use Rattle.flt_c.proofs.Kept.{IsIn, Star, byte_in, is_star, joined_in, star_is_note, star_is_open, star_of}
use Rattle.flt_c.proofs.Placing.{get_there}
use Rattle.flt_c.specs.declared.fault.FaultKind.TheVariants as k
use Rattle.flt_c.specs.declared.mode.Mode.{Mode}
use Rattle.flt_c.specs.declared.mode.Mode.TheVariants as m
use Rattle.flt_c.specs.declared.place.Place.{Place}
use Rattle.flt_c.specs.declared.place.PlacedByte.{PlacedByte}
use Rattle.flt_c.specs.declared.scan.Scanner.{Scanner}
use Rattle.flt_c.specs.Fronts.{is_lenient}
use Rattle.flt_c.specs.Laws.{Has, IsTaken, NoByteIsLeftOut, is_other, noted, noted_by}
use Rattle.flt_c.specs.Modes.{is_blank, is_note, line_marked, block_marked, turn}
use Rattle.flt_c.specs.Scan.{added, added_in, continuation, join, start, step}

abbrev one : ℕ → Place → PlacedByte
one b at = record { byte = b; place = at }

-- ---- in a longer text

has_more : (xs ys : List PlacedByte) (p : PlacedByte) → Has ys p → Has (xs ++ ys) p
has_more [] ys p h = h
has_more (x ∷ xs) ys p h = inr (has_more xs ys p h)

taken_more : (file : List ℕ) (xs ys : List PlacedByte) (p : PlacedByte) → IsTaken file ys p → IsTaken file (xs ++ ys) p
taken_more file xs ys p h = elim h [ inl h ↦ inl (has_more xs ys p h) | inr h ↦ inr h ]

all_more : (file : List ℕ) (xs ys ps : List PlacedByte) → AllByRecursion (IsTaken file ys) ps → AllByRecursion (IsTaken file (xs ++ ys)) ps
all_more file xs ys [] h = tt
all_more file xs ys (p ∷ ps) h = (taken_more file xs ys p h.0, all_more file xs ys ps h.1)

both : (file : List ℕ) (text ps qs : List PlacedByte) → AllByRecursion (IsTaken file text) ps → AllByRecursion (IsTaken file text) qs →
    AllByRecursion (IsTaken file text) (ps ++ qs)
both file text [] qs h g = g
both file text (p ∷ ps) qs h g = (h.0, both file text ps qs h.1 g)

-- ---- what is read of annotations

noted_skip : (k : ℕ) (s : Scanner) (z : List ℕ) → noted k s z ≡ noted zero s (drop k z)
noted_skip zero s z = refl
noted_skip (suc k) s [] = refl
noted_skip (suc k) s (b ∷ z) = noted_skip k s z

noted_on : (s next : Scanner) (b : ℕ) (z : List ℕ) → continuation (b ∷ z) ≡ 0 → step s b ≡ Ok next →
    noted zero s (b ∷ z) ≡ noted_by s b ++ noted zero next z
noted_on s next b z c e = rw (c, e) refl

not_zero : (n : ℕ) → 0 < n → (x : Bool) → (n == 0) ≡ x → x ≡ false
not_zero n h true e = let z : n ≡ 0 = eqb-true n 0 e in absurd (omega (arith, h))
not_zero n h false e = refl

drop_rest : (n b : ℕ) (z : List ℕ) → 0 < n → drop (n - 1) z ≡ drop n (b ∷ z)
drop_rest zero b z h = absurd (omega arith)
drop_rest (suc n) b z h = let q : suc n - 1 ≡ n = omega arith in rw q refl

noted_over : (s next : Scanner) (z : List ℕ) → 0 < continuation z → join s (continuation z) ≡ Ok next →
    noted zero s z ≡ noted zero next (drop (continuation z) z)
noted_over s next [] h e = absurd (omega (arith, h))
noted_over s next (b ∷ z) h e =
    let n = continuation (b ∷ z) in
    let some : (n == 0) ≡ false = not_zero n h (n == 0) refl in
    let first : noted zero s (b ∷ z) ≡ noted (n - 1) next z = rw (some, e) refl in
    first ∙ (noted_skip (n - 1) next z ∙ ap (noted zero next) (drop_rest n b z h))

-- ---- one byte more

-- what is read on is taken, and a `*` that waits
record IsTakenFrom (file : List ℕ) (s : Scanner) (z : List ℕ) (text : List PlacedByte) : Type 0 where
  bytes : AllByRecursion (IsTaken file text) (noted zero s z)
  star : is_star s.mode ≡ true → IsTaken file text (one 42 s.last)

not_marker : (new : Mode) → Err k.Marker ≡ Ok new → ⊥
not_marker new e = cc

module _ (file : List ℕ) (s : Scanner) (b : ℕ) (next : Scanner) (ps : List PlacedByte) (last : next.last ≡ s.at)
    (there : slice_index file s.at.start ≡ b)
    (waits : is_star next.mode ≡ true → IsTaken file ps (one 42 next.last)) where
  star_waits : b ≡ 42 → is_star next.mode ≡ true → IsTaken file ps (one b s.at)
  star_waits is star = rw is (subst (λ p. IsTaken file ps (one 42 p)) last (waits star))

  after_line_marker : (l x : Bool) → turn l x m.LineMarked b ≡ Ok next.mode → (y z : Bool) → (b == 45) ≡ y → is_blank b ≡ z →
      AllByRecursion (IsTaken file ((if z then one b s.at ∷ [] else []) ++ ps)) (if true && not y then one b s.at ∷ [] else [])
  after_line_marker l x e true z c d = tt
  after_line_marker l x e false true c d = (inl (inl refl), tt)
  after_line_marker l x e false false c d = let is : line_marked b ≡ Err k.Marker = rw (c, d) refl in
      elim (not_marker next.mode (sym is ∙ e)) [ ]

  after_block_marker : (l x : Bool) → turn l x m.BlockMarked b ≡ Ok next.mode → (y z w : Bool) →
      (b == 45) ≡ y → is_blank b ≡ z → (b == 42) ≡ w →
      AllByRecursion (IsTaken file ((if z then one b s.at ∷ [] else []) ++ ps)) (if true && not y then one b s.at ∷ [] else [])
  after_block_marker l x e true z w c d f = tt
  after_block_marker l x e false true w c d f = (inl (inl refl), tt)
  after_block_marker l x e false false true c d f =
      let is : block_marked b ≡ Ok m.BlockTextStar = rw (d, f) refl in (star_waits (eqb-true b 42 f) (ap star_of (sym e ∙ is)), tt)
  after_block_marker l x e false false false c d f =
      let is : block_marked b ≡ Err k.Marker = rw (c, d, f) refl in elim (not_marker next.mode (sym is ∙ e)) [ ]

  in_block : (l x : Bool) → turn l x m.BlockText b ≡ Ok next.mode → (y : Bool) → (b == 42) ≡ y →
      AllByRecursion (IsTaken file ((if y then [] else one b s.at ∷ []) ++ ps)) (one b s.at ∷ [])
  in_block l x e true c = (star_waits (eqb-true b 42 c) (ap star_of (sym e) ∙ rw c refl), tt)
  in_block l x e false c = (inl (inl refl), tt)

  after_star : (l x : Bool) → turn l x m.BlockTextStar b ≡ Ok next.mode → Star file s → (y z : Bool) → (b == 47) ≡ y → (b == 42) ≡ z →
      AllByRecursion (IsTaken file
      ((if y then one 10 s.last ∷ [] else (if z then one 42 s.last ∷ [] else (one 42 s.last ∷ []) ++ (one b s.at ∷ []))) ++ ps))
      (one b s.at ∷ [])
  after_star l x e star true z c d =
      let to : s.at.start ≡ s.last.start + 1 = ap (λ (p : Place). p.start) star.next in
      (inr (inr (eqb-true b 47 c, (s.last.start, (sym to, star.byte)))), tt)
  after_star l x e star false true c d =
      (taken_more file (one 42 s.last ∷ []) ps (one b s.at) (star_waits (eqb-true b 42 d) (ap star_of (sym e) ∙ rw (c, d) refl)), tt)
  after_star l x e star false false c d = (inl (inr (inl refl)), tt)

  taken_by : (l x : Bool) (mode : Mode) → turn l x mode b ≡ Ok next.mode → (is_star mode ≡ true → Star file s) →
      AllByRecursion (IsTaken file (added_in mode s b ++ ps)) (if is_note mode && not (is_other mode b) then one b s.at ∷ [] else [])
  taken_by l x m.LineText e star = (inl (inl refl), tt)
  taken_by l x m.LineMarked e star = after_line_marker l x e (b == 45) (is_blank b) refl refl
  taken_by l x m.BlockMarked e star = after_block_marker l x e (b == 45) (is_blank b) (b == 42) refl refl refl
  taken_by l x m.BlockText e star = in_block l x e (b == 42) refl
  taken_by l x m.BlockTextStar e star = after_star l x e (star refl) (b == 47) (b == 42) refl refl
  taken_by l x _ e star = tt

  -- a `*` that waited is taken, or closes the annotation
  star_by : Star file s → (y z : Bool) → (b == 47) ≡ y →
      IsTaken file ((if y then one 10 s.last ∷ [] else (if z then one 42 s.last ∷ [] else (one 42 s.last ∷ []) ++ (one b s.at ∷ []))) ++ ps)
      (one 42 s.last)
  star_by star true z c =
      let to : s.at.start ≡ s.last.start + 1 = ap (λ (p : Place). p.start) star.next in
      inr (inl (refl, ap (slice_index file) (sym to) ∙ (there ∙ eqb-true b 47 c)))
  star_by star false true c = inl (inl refl)
  star_by star false false c = inl (inl refl)

  star_in : (mode : Mode) → is_star mode ≡ true → Star file s → IsTaken file (added_in mode s b ++ ps) (one 42 s.last)
  star_in m.BlockTextStar e star = star_by star (b == 47) (b == 42) refl
  star_in _ e star = elim (differ e) [ ]

-- ---- all bytes

taken : (file : List ℕ) {s : Scanner} {z : List ℕ} {text : List PlacedByte} → Reads s z text → IsIn file s z → IsTakenFrom file s z text
taken file (ended {s = s} h) i =
    record { bytes = tt; star = λ w. elim (differ (sym (star_is_open s (is_lenient s.front s.depth) s.mode h) ∙ w)) [ ] }
taken file (byte {s = s} {next = next} {b = b} {z = z} {ps = ps} c h r) i =
    let on = moved s b next h in
    let rest = taken file r (byte_in file s next b z i h) in
    let there = get_there file s.at.start 0 b z i.rest in
    record {
      bytes = subst (AllByRecursion (IsTaken file (added s b ++ ps))) (sym (noted_on s next b z c h))
          (both file (added s b ++ ps) (noted_by s b) (noted zero next z)
          (taken_by file s b next ps on.last there rest.star _ _ s.mode on.mode i.star)
          (all_more file (added s b) ps (noted zero next z) rest.bytes));
      star = λ w. star_in file s b next ps on.last there rest.star s.mode w (i.star w);
    }
taken file (joined {s = s} {next = next} {z = z} {ps = ps} p h r) i =
    let on = joins s (continuation z) next h in
    let rest = taken file r (joined_in file s next z i p h) in
    record {
      bytes = subst (AllByRecursion (IsTaken file ps)) (sym (noted_over s next z p h)) rest.bytes;
      star = λ w. elim (differ (sym (star_is_note s.mode on.outside) ∙ w)) [ ];
    }

-- no byte of an annotation is left out of the text, but a `*/` that closes it
pub no_byte_is_left_out : NoByteIsLeftOut
no_byte_is_left_out file text e =
    (taken file (reads file zero start text e)
    (record { at = refl; rest = refl; counted = omega arith; star = λ h. elim (differ h) [ ] })).bytes
