-- Where reading is in a file, and what is known of a `*` that waits for the byte after it.
use Rattle.std.proofs.Common.{◌≡◌, ℕ, suc, ◌+◌, ◌<◌, Bool, true, false, List, ◌∷◌, drop}
use Rattle.std.proofs.Common.{length, refl, sym, ap, subst, ◌∙◌, arith, length-drop}
use Rattle.std.proofs.lemmas.Bool.{eqb-true}
use Rattle.std.specs.Prelude.{◌==◌, ◌||◌, if◌then◌else◌, slice_index, Result, Ok, Err, Some, None}
use Rattle.flt_c.proofs.Follow.{differ, moved, joins}
use Rattle.flt_c.proofs.Placing.{continued_on, continuation_there, drop_more, drop_next, get_there, place_next}
use Rattle.flt_c.proofs.Reading.{past_start}
use Rattle.flt_c.specs.declared.fault.FaultKind.{FaultKind}
use Rattle.flt_c.specs.declared.mode.Mode.{Mode}
use Rattle.flt_c.specs.declared.mode.Mode.TheVariants as m
use Rattle.flt_c.specs.declared.place.Place.{Place}
use Rattle.flt_c.specs.declared.scan.Scanner.{Scanner}
use Rattle.flt_c.specs.Laws.{beside}
use Rattle.flt_c.specs.Modes.{in_code, is_blank, is_note, line_end, turn, unended}
use Rattle.flt_c.specs.Places.{first_place, past, past_continuation, place_of}
use Rattle.flt_c.specs.Scan.{continuation, join, or_group, step}

-- ---- which modes wait

-- a `*` waits
abbrev pub is_star : Mode → Bool
is_star m.BlockTextStar = true
is_star _ = false

abbrev pub star_of : Result Mode FaultKind → Bool
star_of (Ok mode) = is_star mode
star_of (Err kind) = false

-- neither of two modes that don't wait at a `*` waits, whichever it is
pub no_mode : (x : Bool) (p q : Mode) → is_star p ≡ false → is_star q ≡ false → is_star (if x then p else q) ≡ false
no_mode true p q h g = h
no_mode false p q h g = g

no_turn : (x : Bool) (p q : Result Mode FaultKind) → star_of p ≡ false → star_of q ≡ false → star_of (if x then p else q) ≡ false
no_turn true p q h g = h
no_turn false p q h g = g

code_waits : (b : ℕ) → is_star (in_code b) ≡ false
code_waits b = no_mode (b == 47) _ _ refl (no_mode (b == 34) _ _ refl (no_mode (b == 39) _ _ refl (no_mode (b == 82) _ _ refl refl)))

end_waits : (x : Bool) (kind : FaultKind) → star_of (line_end x kind) ≡ false
end_waits true kind = refl
end_waits false kind = refl

-- only a `*` waits
none_waits : (l x : Bool) (mode : Mode) (b : ℕ) → (b == 42) ≡ false → star_of (turn l x mode b) ≡ false
none_waits l x m.Code b e = code_waits b
none_waits l x m.LetterR b e = no_turn (b == 34) _ _ refl (code_waits b)
none_waits l x m.Slash b e = no_mode (b == 47) _ _ refl (no_mode (b == 42) _ _ refl (code_waits b))
none_waits l x (m.LineMark w) b e = no_mode _ _ _ (no_mode (b == 10) _ _ refl refl) (no_mode (b == 116) _ _ (no_mode x _ _ refl refl) refl)
none_waits l x m.Line b e = no_mode (b == 10) _ _ refl refl
none_waits l x m.LineMarked b e = no_turn (is_blank b) _ _ (no_mode (b == 10) _ _ refl refl) (no_turn (b == 45) _ _ refl refl)
none_waits l x m.LineText b e = no_mode (b == 10) _ _ refl refl
none_waits l x (m.BlockMark w) b e = no_mode _ _ _ (no_mode (b == 42) _ _ refl refl) (no_mode (b == 116) _ _ (no_mode x _ _ refl refl) refl)
none_waits l x m.Block b e = no_mode (b == 42) _ _ refl refl
none_waits l x m.BlockStar b e = no_mode (b == 47) _ _ refl (no_mode (b == 42) _ _ refl refl)
none_waits l x m.BlockMarked b e =
    let inside : is_star (if b == 42 then m.BlockTextStar else m.BlockText) ≡ false = rw e refl in
    no_turn (is_blank b || b == 42) _ _ inside (no_turn (b == 45) _ _ refl refl)
none_waits l x m.BlockText b e = rw e refl
none_waits l x m.BlockTextStar b e =
    let inside : is_star (if b == 42 then m.BlockTextStar else m.BlockText) ≡ false = rw e refl in
    no_mode (b == 47) _ _ refl inside
none_waits l x m.String b e = no_turn (b == 34) _ _ refl (no_turn (b == 92) _ _ refl (no_turn (b == 10) _ _ (end_waits l _) refl))
none_waits l x m.StringEscape b e = no_turn (b == 10) _ _ (end_waits l _) refl
none_waits l x m.Character b e = no_turn (b == 39) _ _ refl (no_turn (b == 92) _ _ refl (no_turn (b == 10) _ _ (end_waits l _) refl))
none_waits l x m.CharacterEscape b e = no_turn (b == 10) _ _ (end_waits l _) refl

pub star_only : (l x : Bool) (mode new : Mode) (b : ℕ) → turn l x mode b ≡ Ok new → is_star new ≡ true → b ≡ 42
star_only l x mode new b e star = by (b == 42) refl
  where
    by : (y : Bool) → (b == 42) ≡ y → b ≡ 42
    by true h = eqb-true b 42 h
    by false h = elim (differ (sym (none_waits l x mode b h) ∙ (ap star_of e ∙ star))) [ ]

-- an annotation waits, and nothing else
pub star_is_note : (mode : Mode) → is_note mode ≡ false → is_star mode ≡ false
star_is_note m.BlockTextStar e = elim (differ (sym e)) [ ]
star_is_note _ e = refl

-- ---- what is kept

-- a `*` that waits is the byte before
pub record Star (file : List ℕ) (s : Scanner) : Type 0 where
  pub at : place_of file s.last.start ≡ s.last
  pub byte : slice_index file s.last.start ≡ 42
  pub next : s.at ≡ beside s.last

-- reading is in the file at this place, and this is left
pub record IsIn (file : List ℕ) (s : Scanner) (z : List ℕ) : Type 0 where
  pub at : place_of file s.at.start ≡ s.at
  pub rest : drop s.at.start file ≡ z
  pub counted : s.at.start + length z ≡ length file
  pub star : is_star s.mode ≡ true → Star file s

-- so it is after a byte
pub byte_in : (file : List ℕ) (s next : Scanner) (b : ℕ) (z : List ℕ) → IsIn file s (b ∷ z) → step s b ≡ Ok next → IsIn file next z
byte_in file s next b z i e =
    let on = moved s b next e in
    let n = s.at.start in
    let one_more : n + 1 ≡ suc n = omega arith in
    let began : (past s.at b).start ≡ suc n = past_start s.at b (b == 10) refl ∙ one_more in
    let there : place_of file (suc n) ≡ past s.at b = place_next first_place file n b z i.rest ∙ ap (λ (p : Place). past p b) i.at in
    let moved_to : next.at.start ≡ suc n = ap (λ (p : Place). p.start) on.at ∙ began in
    let counted = i.counted in
    record {
      at = subst (λ (p : Place). place_of file p.start ≡ p) (sym on.at) (ap (place_of file) began ∙ there);
      rest = ap (λ k. drop k file) moved_to ∙ drop_next file n b z i.rest;
      counted = omega (arith, counted, moved_to);
      star = λ w. let is = star_only _ _ s.mode next.mode b on.mode w in record {
        at = subst (λ (p : Place). place_of file p.start ≡ p) (sym on.last) i.at;
        byte = ap (λ (p : Place). slice_index file p.start) on.last ∙ (get_there file n 0 b z i.rest ∙ is);
        next = on.at ∙ (ap (past s.at) is ∙ ap beside (sym on.last));
      };
    }

-- and after a continuation
pub joined_in : (file : List ℕ) (s next : Scanner) (z : List ℕ) → IsIn file s z → 0 < continuation z → join s (continuation z) ≡ Ok next →
    IsIn file next (drop (continuation z) z)
joined_in file s next z i h e =
    let n = continuation z in
    let on = joins s n next e in
    let there : place_of file (s.at.start + n) ≡ past_continuation s.at n =
    continued_on file s.at.start z i.rest h ∙ ap (λ (p : Place). past_continuation p n) i.at in
    let moved_to : next.at.start ≡ s.at.start + n = ap (λ (p : Place). p.start) on.at in
    let counted = i.counted in
    let left = length-drop n z in
    let fits = continuation_there z h in
    record {
      at = subst (λ (p : Place). place_of file p.start ≡ p) (sym on.at) there;
      rest = ap (λ (k : ℕ). drop k file) moved_to ∙ drop_more n s.at.start file z i.rest;
      counted = omega (arith, counted, moved_to, left, fits);
      star = λ w. elim (differ (sym (star_is_note s.mode on.outside) ∙ (ap is_star (sym on.mode) ∙ w))) [ ];
    }

some_is_none : (kind : FaultKind) → Some kind ≡ None → ⊥
some_is_none kind e = cc

-- a file ends after no `*` that waits
pub star_is_open : (s : Scanner) (l : Bool) (mode : Mode) → or_group s (unended l mode) ≡ None → is_star mode ≡ false
star_is_open s l m.BlockTextStar e = elim (some_is_none _ e) [ ]
star_is_open s l _ e = refl
