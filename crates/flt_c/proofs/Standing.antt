-- Each byte of the text of some files stands in C.
use Rattle.std.proofs.Common.{◌≡◌, inl, inr, ℕ, suc, ◌+◌, Bool, true, false, List, [], ◌∷◌, ◌++◌, drop}
use Rattle.std.proofs.Common.{get_or, length, refl, sym, ap, subst, ◌∙◌, arith, append_assoc, append-nil}
use Rattle.std.specs.Prelude.{◌==◌, if◌then◌else◌, nat_lt, Result, Ok, Err}
use Rattle.flt_c.proofs.Beside.{Chain, Follows, chained}
use Rattle.flt_c.proofs.Follow.{differ}
use Rattle.flt_c.proofs.Placing.{drop_next, get_there}
use Rattle.flt_c.specs.declared.fault.Fault.{Fault}
use Rattle.flt_c.specs.declared.files.FileFlaw.{FileFlaw}
use Rattle.flt_c.specs.declared.files.Flaw.TheVariants.{Faulty, Large, Bare, Long}
use Rattle.flt_c.specs.declared.place.Place.{Place}
use Rattle.flt_c.specs.declared.place.PlacedByte.{PlacedByte}
use Rattle.flt_c.specs.declared.text.Line.{Line}
use Rattle.flt_c.specs.Files.{flawed, gathered, grown, with_file, with_files, without_expressions, ◌>>=◌}
use Rattle.flt_c.specs.Laws.{EachByteStands, IsAt, IsFurther, Stands, beside, beside_in, first_line}
use Rattle.flt_c.specs.Locks.{plain}
use Rattle.flt_c.specs.Places.{first_place}
use Rattle.flt_c.specs.Scan.{annotations}
use Rattle.flt_c.specs.Texts.{Text, after, empty, plain_text, put, put_all}
use Rattle.flt_rules.specs.Limits.{max_text}

-- ---- results

abbrev ok : {A : Type 0} → Result A FileFlaw → Bool
ok (Ok x) = true
ok (Err f) = false

abbrev or_else : Text → Result Text FileFlaw → Text
or_else d (Ok x) = x
or_else d (Err f) = d

not_ok : (f : FileFlaw) (x : Text) → Err f ≡ Ok x → ⊥
not_ok f x e = differ (ap ok e)

abbrev okay : Text → Result Text FileFlaw
okay x = Ok x

same_ok : (x y : Text) → okay x ≡ okay y → x ≡ y
same_ok x y e = ap (or_else x) e

-- ---- a text as the front of others

-- whatever stands from there on stands after the text
abbrev IsFront : List (List ℕ) → Text → Line → Type 0
IsFront files text at =
    (bytes : List ℕ) (lines : List Line) → Stands files at text.fresh bytes lines →
    Stands files first_line true (text.bytes ++ bytes) (text.lines ++ lines)

abbrev line_at : ℕ → Place → Line
line_at number place = record { file = number; place = place }

begun : (files : List (List ℕ)) (at : Line) (fresh : Bool) (b : ℕ) (z : List ℕ) (lines : List Line) (p : Place) → Follows at.place fresh p →
    IsAt (get_or files at.file []) p b → Stands files (beside_in (line_at at.file p)) (b == 10) z lines →
    Stands files at fresh (b ∷ z) ((if fresh then line_at at.file p ∷ [] else []) ++ lines)
begun files at true b z lines p f i r = (inr (refl, f), (i, r))
begun files at false b z lines p f i r = (
  subst (λ (p : Place). IsAt (get_or files at.file []) p b) (sym f) i,
  subst (λ (p : Place). Stands files (beside_in (line_at at.file p)) (b == 10) z lines) (sym f) r,
)

lines_with : (fresh : Bool) (lines more : List Line) (line : Line) →
    lines ++ ((if fresh then line ∷ [] else []) ++ more) ≡ (if fresh then lines ++ (line ∷ []) else lines) ++ more
lines_with true lines more line = sym (append_assoc lines (line ∷ []) more)
lines_with false lines more line = refl

put_front : (files : List (List ℕ)) (number : ℕ) (text : Text) (at : Place) (p : PlacedByte) → IsFront files text (line_at number at) →
    Follows at text.fresh p.place → IsAt (get_or files number []) p.place p.byte →
    IsFront files (put number text p) (line_at number (beside p.place))
put_front files number text at p front f i bytes lines r =
    subst (λ l. Stands files first_line true ((text.bytes ++ (p.byte ∷ [])) ++ bytes) l)
    (lines_with text.fresh text.lines lines (line_at number p.place))
    (subst (λ z. Stands files first_line true z (text.lines ++ ((if text.fresh then line_at number p.place ∷ [] else []) ++ lines)))
    (sym (append_assoc text.bytes (p.byte ∷ []) bytes))
    (front (p.byte ∷ bytes) ((if text.fresh then line_at number p.place ∷ [] else []) ++ lines)
    (begun files (line_at number at) text.fresh p.byte bytes lines p.place f i r)))

record IsGrown (files : List (List ℕ)) (number : ℕ) (text : Text) : Type 0 where
  at : Place
  front : IsFront files text (line_at number at)
  fresh : text.fresh ≡ true

put_all_front : (files : List (List ℕ)) (number : ℕ) (ps : List PlacedByte) (text : Text) (at : Place) →
    IsFront files text (line_at number at) →
    Chain (get_or files number []) at text.fresh ps → IsGrown files number (put_all number text ps)
put_all_front files number [] text at front c = record { at = at; front = front; fresh = c }
put_all_front files number (p ∷ ps) text at front c =
    put_all_front files number ps (put number text p) (beside p.place) (put_front files number text at p front c.0 c.1.0) c.1.1

-- the next file stands further on
next_file : (files : List (List ℕ)) (number : ℕ) (text : Text) →
    IsGrown files number text → IsFront files text (line_at (number + 1) first_place)
next_file files number text g bytes lines r = g.front bytes lines (by text.fresh bytes lines g.fresh r)
  where
    further : (line : Line) → IsFurther (line_at (number + 1) first_place) line → IsFurther (line_at number g.at) line
    further line h = elim h [ inl h ↦ inl (omega (arith, h)) | inr h ↦ let e = h.0 in inl (omega (arith, e)) ]

    by : (fresh : Bool) (bytes : List ℕ) (lines : List Line) →
        fresh ≡ true → Stands files (line_at (number + 1) first_place) fresh bytes lines →
        Stands files (line_at number g.at) fresh bytes lines
    by true [] [] e r = tt
    by true [] (line ∷ lines) e r = r
    by true (b ∷ z) [] e r = r
    by true (b ∷ z) (line ∷ lines) e r = (further line r.0, (r.1.0, r.1.1))
    by false bytes lines e r = elim (differ e) [ ]

-- ---- files

grown_by : (x y : Bool) (f g : FileFlaw) (more all : Text) → (if x then Err f else (if y then Err g else Ok more)) ≡ Ok all → more ≡ all
grown_by true y f g more all e = elim (not_ok f all e) [ ]
grown_by false true f g more all e = elim (not_ok g all e) [ ]
grown_by false false f g more all e = same_ok more all e

read_front : (files : List (List ℕ)) (number : ℕ) (text : Text) (file : List ℕ) → get_or files number [] ≡ file → text.fresh ≡ true →
    IsFront files text (line_at number first_place) → (r : Result (List PlacedByte) Fault) → annotations file ≡ r → (more : Text) →
    grown number text (after number text r) ≡ Ok more → IsGrown files number more
read_front files number text file there fresh front (Err f) a more e = elim (not_ok (record { file = number; flaw = Faulty f }) more e) [ ]
read_front files number text file there fresh front (Ok ps) a more e =
    let chain = subst (λ (x : Bool). Chain file first_place x ps) (sym fresh) (chained file ps a) in
    subst (IsGrown files number)
    (grown_by (length (put_all number text ps).bytes == length text.bytes) (nat_lt max_text (length (put_all number text ps).bytes))
    (record { file = number; flaw = Bare }) (record { file = number; flaw = Long }) (put_all number text ps) more e)
    (put_all_front files number ps text first_place front (subst (λ z. Chain z first_place text.fresh ps) (sym there) chain))

with_front_of : (files : List (List ℕ)) (number : ℕ) (text : Text) (file : List ℕ) → get_or files number [] ≡ file → text.fresh ≡ true →
    IsFront files text (line_at number first_place) → (x : Bool) → (more : Text) →
    (if x then flawed number Large else grown number text (after number text (annotations file))) ≡ Ok more → IsGrown files number more
with_front_of files number text file there fresh front true more e = elim (not_ok (record { file = number; flaw = Large }) more e) [ ]
with_front_of files number text file there fresh front false more e =
    read_front files number text file there fresh front (annotations file) refl more e

abbrev StandFrom : List (List ℕ) → List (List ℕ) → Type 0
StandFrom files rest =
    (number : ℕ) (text : Text) → drop number files ≡ rest → text.fresh ≡ true →
    IsFront files text (line_at number first_place) → (all : Text) →
    with_files number text rest ≡ Ok all → Stands files first_line true all.bytes all.lines

one_more : (files : List (List ℕ)) (file : List ℕ) (rest : List (List ℕ)) → StandFrom files rest → (number : ℕ) (text : Text) →
    drop number files ≡ file ∷ rest → text.fresh ≡ true → IsFront files text (line_at number first_place) → (all : Text) →
    (r : Result Text FileFlaw) →
    with_file number text file ≡ r → (r >>= (λ more. with_files (number + 1) more rest)) ≡ Ok all →
    Stands files first_line true all.bytes all.lines
one_more files file rest on number text d fresh front all (Err f) c e = elim (not_ok f all e) [ ]
one_more files file rest on number text d fresh front all (Ok more) c e =
    let g = with_front_of files number text file (get_there files number [] file rest d) fresh front
    (nat_lt 16777216 (length file)) more c in
    let next : suc number ≡ number + 1 = omega arith in
    on (number + 1) more (ap (λ n. drop n files) (sym next) ∙ drop_next files number file rest d) g.fresh
    (next_file files number more g) all e

files_stand : (files rest : List (List ℕ)) → StandFrom files rest
files_stand files [] number text d fresh front all e =
    let same = same_ok text all e in
    let ends : Stands files (line_at number first_place) text.fresh [] [] =
    subst (λ x. Stands files (line_at number first_place) x [] []) (sym fresh) tt in
    subst (λ (t : Text). Stands files first_line true t.bytes t.lines) same
    (subst (λ l. Stands files first_line true text.bytes l) (append-nil text.lines)
    (subst (λ z. Stands files first_line true z (text.lines ++ [])) (append-nil text.bytes) (front [] [] ends)))
files_stand files (file ∷ rest) number text d fresh front all e =
    one_more files file rest (files_stand files rest) number text d fresh front all (with_file number text file) refl e

gathered_stand : (files : List (List ℕ)) (raw : Text) → gathered files ≡ Ok raw → Stands files first_line true raw.bytes raw.lines
gathered_stand files raw e = files_stand files files 0 empty refl refl (λ bytes lines r. r) raw e

-- each byte of the text of some files stands in C at its line's place plus its column
pub each_byte_stands : EachByteStands
each_byte_stands files text e = by (gathered files) refl e
  where
    by : (r : Result Text FileFlaw) → gathered files ≡ r → without_expressions r ≡ Ok text →
        (found : List ℕ) × ((text.bytes ≡ plain found) × Stands files first_line true found text.lines)
    by (Ok raw) g e =
        let same = same_ok (plain_text raw) text e in (
          raw.bytes,
          (
            sym (ap (λ (t : Text). t.bytes) same),
            subst (λ (ls : List Line). Stands files first_line true raw.bytes ls)
                (ap (λ (t : Text). t.lines) same) (gathered_stand files raw g),
          ),
        )
    by (Err f) g e = elim (not_ok f text e) [ ]
