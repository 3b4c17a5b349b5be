-- What was read of a file, step by step, and what a step leaves.
use Rattle.std.proofs.Common.{◌≡◌, ℕ, zero, suc, ◌-◌, ◌<◌, Bool, true, false, List, [], ◌∷◌, ◌++◌, drop, refl, sym, ap, subst, ◌∙◌, arith}
use Rattle.std.proofs.lemmas.Bool.{eqb-true, eqb-false}
use Rattle.std.specs.Prelude.{◌==◌, ◌&&◌, nat_lt, if◌then◌else◌, Result, Ok, Err, Option, Some, None}
use Rattle.flt_c.specs.declared.fault.Fault.{Fault}
use Rattle.flt_c.specs.declared.fault.FaultKind.{FaultKind}
use Rattle.flt_c.specs.declared.fault.FaultKind.TheVariants as k
use Rattle.flt_c.specs.declared.mode.Mode.{Mode}
use Rattle.flt_c.specs.declared.place.Place.{Place}
use Rattle.flt_c.specs.declared.place.PlacedByte.{PlacedByte}
use Rattle.flt_c.specs.declared.scan.Scanner.{Scanner}
use Rattle.flt_c.specs.Fronts.{is_lenient, next_depth, next_front}
use Rattle.flt_c.specs.Modes.{is_note, turn}
use Rattle.flt_c.specs.Places.{past, past_continuation}
use Rattle.flt_c.specs.Scan.{added, begins, blamed, continuation, end_by, join, join_by, last_line}
use Rattle.flt_c.specs.Scan.{open_at_end, read, step, step_by, with_front, ◌>>=◌}

-- false isn't true
pub differ : false ≡ true → ⊥
differ e = cc

-- ---- results

abbrev pub ok : {A : Type 0} → Result A Fault → Bool
ok (Ok x) = true
ok (Err f) = false

abbrev pub or_else : {A : Type 0} → A → Result A Fault → A
or_else d (Ok x) = x
or_else d (Err f) = d

pub not_ok : {A : Type 0} (f : Fault) (x : A) → Err f ≡ Ok x → ⊥
not_ok f x e = differ (ap ok e)

abbrev pub okay : {A : Type 0} → A → Result A Fault
okay x = Ok x

pub same_ok : {A : Type 0} (x y : A) → okay x ≡ okay y → x ≡ y
same_ok x y e = ap (or_else x) e

-- what a front was put before
front_ok : (front : List PlacedByte) (r : Result (List PlacedByte) Fault) (ps : List PlacedByte) → with_front front r ≡ Ok ps →
    (qs : List PlacedByte) × (r ≡ Ok qs) × (front ++ qs ≡ ps)
front_ok front (Ok qs) ps e = (qs, refl, same_ok (front ++ qs) ps e)
front_ok front (Err f) ps e = elim (not_ok f ps e) [ ]

-- ---- what was read

-- a text was read from here on: to the end, after a byte, or after a continuation
pub data Reads : Scanner → List ℕ → List PlacedByte → Type 0 where
  ended : {s : Scanner} → open_at_end s ≡ None → Reads s [] (last_line s)
  byte : {s next : Scanner} {b : ℕ} {z : List ℕ} {ps : List PlacedByte} → continuation (b ∷ z) ≡ 0 → step s b ≡ Ok next → Reads next z ps →
      Reads s (b ∷ z) (added s b ++ ps)
  joined : {s next : Scanner} {z : List ℕ} {ps : List PlacedByte} → 0 < continuation z → join s (continuation z) ≡ Ok next →
      Reads next (drop (continuation z) z) ps → Reads s z ps

drop_nil : (k : ℕ) → drop {A = ℕ} k [] ≡ []
drop_nil zero = refl
drop_nil (suc k) = refl

drop_rest : (n b : ℕ) (z : List ℕ) → 0 < n → drop (n - 1) z ≡ drop n (b ∷ z)
drop_rest zero b z h = absurd (omega arith)
drop_rest (suc n) b z h = let q : suc n - 1 ≡ n = omega arith in rw q refl

abbrev ReadsOn : List ℕ → Type 0
ReadsOn z = (left : ℕ) (s : Scanner) (text : List PlacedByte) → read left s z ≡ Ok text → Reads s (drop left z) text

at_end : (s : Scanner) (o : Option FaultKind) (text : List PlacedByte) → open_at_end s ≡ o → end_by s o ≡ Ok text → Reads s [] text
at_end s (Some kind) text c e = elim (not_ok (blamed s kind) text e) [ ]
at_end s None text c e = subst (Reads s []) (same_ok (last_line s) text e) (ended c)

by_byte : (s : Scanner) (b : ℕ) (z : List ℕ) → continuation (b ∷ z) ≡ 0 → ReadsOn z → (r : Result Scanner Fault) →
    step s b ≡ r → (text : List PlacedByte) →
    (r >>= (λ next. with_front (added s b) (read zero next z))) ≡ Ok text → Reads s (b ∷ z) text
by_byte s b z c on (Err f) h text e = elim (not_ok f text e) [ ]
by_byte s b z c on (Ok next) h text e =
    let parts = front_ok (added s b) (read zero next z) text e in
    subst (Reads s (b ∷ z)) parts.2 (byte c h (on zero next parts.0 parts.1))

by_join : (s : Scanner) (b : ℕ) (z : List ℕ) → 0 < continuation (b ∷ z) → ReadsOn z → (r : Result Scanner Fault) →
    join s (continuation (b ∷ z)) ≡ r → (text : List PlacedByte) → (r >>= (λ next. read (continuation (b ∷ z) - 1) next z)) ≡ Ok text →
    Reads s (b ∷ z) text
by_join s b z p on (Err f) h text e = elim (not_ok f text e) [ ]
by_join s b z p on (Ok next) h text e =
    joined p h (subst (λ l. Reads next l text) (drop_rest (continuation (b ∷ z)) b z p) (on (continuation (b ∷ z) - 1) next text e))

by_first : (s : Scanner) (b : ℕ) (z : List ℕ) → ReadsOn z → (x : Bool) → (continuation (b ∷ z) == 0) ≡ x → (text : List PlacedByte) →
    (if x then step s b >>= (λ next. with_front (added s b) (read zero next z))
    else join s (continuation (b ∷ z)) >>= (λ next. read (continuation (b ∷ z) - 1) next z)) ≡ Ok text →
    Reads s (b ∷ z) text
by_first s b z on true c text e = by_byte s b z (eqb-true (continuation (b ∷ z)) 0 c) on (step s b) refl text e
by_first s b z on false c text e =
    let other : continuation (b ∷ z) ≡ 0 → ⊥ = eqb-false (continuation (b ∷ z)) 0 c in
    let some : 0 < continuation (b ∷ z) = omega (arith, other) in
    by_join s b z some on (join s (continuation (b ∷ z))) refl text e

-- a text that is read was read step by step
pub reads : (z : List ℕ) → ReadsOn z
reads [] left s text e = subst (λ l. Reads s l text) (sym (drop_nil left)) (at_end s (open_at_end s) text refl e)
reads (b ∷ z) (suc left) s text e = reads z left s text e
reads (b ∷ z) zero s text e = by_first s b z (reads z) (continuation (b ∷ z) == 0) refl text e

-- ---- a byte more

-- what is read after a byte
abbrev pub turned : Scanner → ℕ → Result Mode FaultKind
turned s b = turn (is_lenient s.front s.depth) (nat_lt 0 s.depth) s.mode b

pub record Moved (s : Scanner) (b : ℕ) (next : Scanner) : Type 0 where
  pub at : next.at ≡ past s.at b
  pub last : next.last ≡ s.at
  pub mode : turned s b ≡ Ok next.mode
  pub front : next.front ≡ next_front s.mode s.front b
  pub depth : next.depth ≡ next_depth s.mode s.front s.depth b

chosen : (x : Bool) (f : Fault) (t next : Scanner) → (if x then Err f else Ok t) ≡ Ok next → t ≡ next
chosen true f t next e = elim (not_ok f next e) [ ]
chosen false f t next e = same_ok t next e

moved_by : (s : Scanner) (b : ℕ) (r : Result Mode FaultKind) (next : Scanner) → turned s b ≡ r → step_by s b r ≡ Ok next → Moved s b next
moved_by s b (Err kind) next c e = elim (not_ok (blamed s kind) next e) [ ]
moved_by s b (Ok mode) next c e =
    let same = chosen (begins s mode && s.joined) (blamed s k.Continued) _ next e in
    record {
      at = ap (λ (t : Scanner). t.at) (sym same);
      last = ap (λ (t : Scanner). t.last) (sym same);
      mode = c ∙ ap (λ (t : Scanner). Ok t.mode) same;
      front = ap (λ (t : Scanner). t.front) (sym same);
      depth = ap (λ (t : Scanner). t.depth) (sym same);
    }

-- what a byte leaves
pub moved : (s : Scanner) (b : ℕ) (next : Scanner) → step s b ≡ Ok next → Moved s b next
moved s b next e = moved_by s b (turned s b) next refl e

-- ---- a continuation more

pub record Joined (s : Scanner) (n : ℕ) (next : Scanner) : Type 0 where
  pub at : next.at ≡ past_continuation s.at n
  pub mode : next.mode ≡ s.mode
  pub front : next.front ≡ s.front
  pub depth : next.depth ≡ s.depth
  pub outside : is_note s.mode ≡ false

joined_by : (s : Scanner) (n : ℕ) (x : Bool) (o : Option Place) (next : Scanner) → is_note s.mode ≡ x →
    (if x then Err (blamed s k.Continued) else join_by s n o) ≡ Ok next → Joined s n next
joined_by s n true o next c e = elim (not_ok (blamed s k.Continued) next e) [ ]
joined_by s n false (Some place) next c e = elim (not_ok (record { kind = k.Continued; place = place }) next e) [ ]
joined_by s n false None next c e =
    let same = same_ok _ next e in
    record {
      at = ap (λ (t : Scanner). t.at) (sym same);
      mode = ap (λ (t : Scanner). t.mode) (sym same);
      front = ap (λ (t : Scanner). t.front) (sym same);
      depth = ap (λ (t : Scanner). t.depth) (sym same);
      outside = c;
    }

-- what a continuation leaves
pub joins : (s : Scanner) (n : ℕ) (next : Scanner) → join s n ≡ Ok next → Joined s n next
joins s n next e = joined_by s n (is_note s.mode) s.noted next refl e
