-- The first piece of a text, by a table of what it may begin with.
use Rattle.std.proofs.Common.{◌≡◌, ◌≤◌, ◌<◌, ℕ, zero, suc, Bool, true, false, List, [], ◌∷◌, ◌++◌}
use Rattle.std.proofs.Common.{length, take, arith, ap, sym, refl, subst, ◌∙◌}
use Rattle.std.specs.Prelude.{◌&&◌, ◌||◌, if◌then◌else◌, not}
use Rattle.std.specs.Int.{is_in_range}
use Rattle.std.specs.List.{AllByRecursion}
use Rattle.std.proofs.lemmas.Bool.{and_from, and_parts, or_left, or_right}
use Rattle.flt_shown.specs.Shown.{Range, Text, acting_pairs, acting_triples, ascii, begins, begins_any, character, character_by}
use Rattle.flt_shown.specs.Shown.{long_character, pairs, printable, quads, triples}
use Rattle.flt_door.specs.Door.{bold_signs, colours, line_feed, piece}

-- what a piece may begin with, and how many bytes it has behind its first one then, and whether it passes
abbrev pub Entry : Type 0
Entry = List (List Range) × (ℕ × Bool)

-- the first entry with which a text begins
abbrev pub choose : List Entry → Text → ℕ × Bool
choose [] z = (0, false)
choose (e ∷ t) z = if begins_any e.0 z then e.1 else choose t z

abbrev pub several : List Entry
several =
    (acting_pairs, (1, false)) ∷ (acting_triples, (2, false)) ∷ (pairs, (1, true)) ∷ (triples, (2, true)) ∷ (quads, (3, true)) ∷ []

abbrev pub characters : List Entry
characters = (printable ∷ [], (0, true)) ∷ (ascii ∷ [], (0, false)) ∷ several

abbrev pub table : List Entry
table = (line_feed ∷ [], (0, true)) ∷ (bold_signs, (3, true)) ∷ (colours, (6, true)) ∷ characters

or_none : (a : Bool) → (a || false) ≡ a
or_none true = refl
or_none false = refl

several_are : (z : Text) → long_character z ≡ choose several z
several_are z = refl

characters_by : (p a : Bool) (z : Text) →
    character_by p a z ≡ (if p || false then (0, true) else (if a || false then (0, false) else choose several z))
characters_by true a z = refl
characters_by false true z = refl
characters_by false false z = several_are z

characters_are : (z : Text) → character z ≡ choose characters z
characters_are z = characters_by (begins printable z) (begins ascii z) z

-- the first piece where it is no line feed, and this where it is no sign of the program's own
abbrev after_feed : Text → ℕ × Bool → ℕ × Bool
after_feed z c = if begins_any bold_signs z then (3, true) else (if begins_any colours z then (6, true) else c)

-- the table says which piece comes first
pub piece_is : (z : Text) → piece z ≡ choose table z
piece_is z =
    ap (λ c. if begins line_feed z then (0, true) else after_feed z c) (characters_are z)
    ∙ ap (λ b. if b then (0, true) else after_feed z (choose characters z)) (sym (or_none (begins line_feed z)))

-- ---- how long pieces are

-- each entry's pieces are as long as it says
abbrev pub Fit : List Entry → Type 0
Fit [] = Unit {0}
Fit (e ∷ t) = AllByRecursion (λ row. length row ≡ suc e.1.0) e.0 × Fit t

pub table_fits : Fit table
table_fits = (
  (refl, tt),
  (
    (refl, tt),
    (
      (refl, (refl, tt)),
      (
        (refl, tt),
        (
          (refl, tt),
          (
            (refl, (refl, tt)),
            (
              (refl, (refl, (refl, tt))),
              (
                (refl, tt),
                ((refl, (refl, (refl, (refl, tt)))), ((refl, (refl, (refl, tt))), tt)),
              ),
            ),
          ),
        ),
      ),
    ),
  ),
)

row_fits : (row : List Range) (z : Text) → begins row z ≡ true → length row ≤ length z
row_fits [] z e = omega arith
row_fits (r ∷ row) [] e = absurd (cc e)
row_fits (r ∷ row) (b ∷ z) e =
    let fits : length row ≤ length z = row_fits row z (and_parts (is_in_range r.0 r.1 b) (begins row z) e).1 in omega (arith, fits)

-- the first row, or one of the others
pub or_by : (a c : Bool) (P : Type 0) → (a ≡ true → P) → (c ≡ true → P) → (a || c) ≡ true → P
or_by true c P first others e = first refl
or_by false c P first others e = others e

rows_fit : (n : ℕ) (rows : List (List Range)) (z : Text) → AllByRecursion (λ row. length row ≡ suc n) rows → begins_any rows z ≡ true →
    n < length z
rows_fit n [] z are e = absurd (cc e)
rows_fit n (row ∷ rows) z are e =
    or_by (begins row z) (begins_any rows z) (n < length z)
    (λ h. let fits : length row ≤ length z = row_fits row z h in let long : length row ≡ suc n = are.0 in omega (arith, fits, long))
    (rows_fit n rows z are.1) e

within_by : (n : ℕ) (b : Bool) (c d : ℕ × Bool) → (b ≡ true → c.0 < n) → d.0 < n → (if b then c else d).0 < n
within_by n true c d first others = first refl
within_by n false c d first others = others

choose_within : (t : List Entry) → Fit t → (z : Text) → 0 < length z → (choose t z).0 < length z
choose_within [] fit z some = some
choose_within (e ∷ t) fit z some =
    within_by (length z) (begins_any e.0 z) e.1 (choose t z) (rows_fit e.1.0 e.0 z fit.0) (choose_within t fit.1 z some)

-- a piece is within its text
pub piece_within : (b : ℕ) (z : Text) → (piece (b ∷ z)).0 ≤ length z
piece_within b z =
    let least : (choose table (b ∷ z)).0 < length (b ∷ z) = choose_within table table_fits (b ∷ z) (omega arith) in
    rw (piece_is (b ∷ z)) (omega (arith, least))

-- ---- a piece by itself

row_cut : (k : ℕ) (row : List Range) (z : Text) → length row ≤ k → begins row (take k z) ≡ begins row z
row_cut k [] z fits = refl
row_cut zero (r ∷ row) z fits = absurd (omega (arith, fits))
row_cut (suc k) (r ∷ row) [] fits = refl
row_cut (suc k) (r ∷ row) (b ∷ z) fits = ap (λ c. is_in_range r.0 r.1 b && c) (row_cut k row z (omega (arith, fits)))

rows_cut : (n : ℕ) (rows : List (List Range)) (z : Text) → AllByRecursion (λ row. length row ≡ suc n) rows →
    begins_any rows (take (suc n) z) ≡ begins_any rows z
rows_cut n [] z are = refl
rows_cut n (row ∷ rows) z are =
    let long : length row ≡ suc n = are.0 in
    ap (λ c. c || begins_any rows (take (suc n) z)) (row_cut (suc n) row z (omega (arith, long)))
    ∙ ap (λ c. begins row z || c) (rows_cut n rows z are.1)

row_more : (k : ℕ) (row : List Range) (z : Text) → begins row (take k z) ≡ true → begins row z ≡ true
row_more k [] z e = refl
row_more zero (r ∷ row) z e = absurd (cc e)
row_more (suc k) (r ∷ row) [] e = absurd (cc e)
row_more (suc k) (r ∷ row) (b ∷ z) e =
    let parts = and_parts (is_in_range r.0 r.1 b) (begins row (take k z)) e in
    and_from (is_in_range r.0 r.1 b) (begins row z) parts.0 (row_more k row z parts.1)

rows_more : (k : ℕ) (rows : List (List Range)) (z : Text) → begins_any rows (take k z) ≡ true → begins_any rows z ≡ true
rows_more k [] z e = e
rows_more k (row ∷ rows) z e =
    or_by (begins row (take k z)) (begins_any rows (take k z)) (begins_any (row ∷ rows) z ≡ true)
    (λ h. or_left (begins row z) (begins_any rows z) (row_more k row z h))
    (λ h. or_right (begins row z) (begins_any rows z) (rows_more k rows z h)) e

-- where one test fails with another and holds with it where it is taken, the same is chosen
pick : (t u : Bool) (c d e p : ℕ × Bool) → (u ≡ true → t ≡ true) → (c ≡ p → u ≡ t) → (d ≡ p → e ≡ p) →
    (if t then c else d) ≡ p → (if u then c else e) ≡ p
pick true true c d e p more same others is = is
pick true false c d e p more same others is = absurd (cc (same is))
pick false true c d e p more same others is = absurd (cc (more refl))
pick false false c d e p more same others is = others is

choose_cut : (t : List Entry) → Fit t → (n : ℕ) (z : Text) → choose t z ≡ (n, true) → choose t (take (suc n) z) ≡ (n, true)
choose_cut [] fit n z is = absurd (cc (ap (λ (c : ℕ × Bool). c.1) is))
choose_cut (e ∷ t) fit n z is =
    pick (begins_any e.0 z) (begins_any e.0 (take (suc n) z)) e.1 (choose t z) (choose t (take (suc n) z)) (n, true)
    (rows_more (suc n) e.0 z)
    (λ h. subst (λ m. begins_any e.0 (take (suc m) z) ≡ begins_any e.0 z) (ap (λ (c : ℕ × Bool). c.0) h) (rows_cut e.1.0 e.0 z fit.0))
    (choose_cut t fit.1 n z) is

-- a piece that passes is one by itself
pub piece_cut : (b : ℕ) (z : Text) (n : ℕ) → piece (b ∷ z) ≡ (n, true) → piece (b ∷ take n z) ≡ (n, true)
piece_cut b z n is =
    piece_is (b ∷ take n z) ∙ choose_cut table table_fits n (b ∷ z) (sym (piece_is (b ∷ z)) ∙ is)

-- ---- a line feed ends a piece

feedless : List Range → Bool
feedless [] = true
feedless (r ∷ row) = not (is_in_range r.0 r.1 10) && feedless row

-- no byte but the first may be a line feed
clear_row : List Range → Bool
clear_row [] = true
clear_row (r ∷ row) = feedless row

clear_rows : List (List Range) → Bool
clear_rows [] = true
clear_rows (row ∷ rows) = clear_row row && clear_rows rows

clear : List Entry → Bool
clear [] = true
clear (e ∷ t) = clear_rows e.0 && clear t

table_clear : clear table ≡ true
unfolding feedless clear_row clear_rows clear
table_clear = refl

row_seam : (row : List Range) (y x : Text) → feedless row ≡ true → begins row (y ++ 10 ∷ x) ≡ begins row (y ++ 10 ∷ [])
unfolding feedless
row_seam [] y x f = refl
row_seam (r ∷ row) [] x f =
    let none : is_in_range r.0 r.1 10 ≡ false = none_of (is_in_range r.0 r.1 10) (and_parts _ (feedless row) f).0 in
    ap (λ c. c && begins row x) none ∙ sym (ap (λ c. c && begins row []) none)
  where
    none_of : (c : Bool) → not c ≡ true → c ≡ false
    none_of true e = absurd (cc e)
    none_of false e = refl
row_seam (r ∷ row) (b ∷ y) x f =
    ap (λ c. is_in_range r.0 r.1 b && c) (row_seam row y x (and_parts (not (is_in_range r.0 r.1 10)) (feedless row) f).1)

row_short : (row : List Range) (y x : Text) → feedless row ≡ true → begins row (y ++ 10 ∷ x) ≡ true → length row ≤ length y
unfolding feedless
row_short [] y x f e = omega arith
row_short (r ∷ row) [] x f e = absurd (never (is_in_range r.0 r.1 10) (and_parts _ (feedless row) f).0 (and_parts _ (begins row x) e).0)
  where
    never : (c : Bool) → not c ≡ true → c ≡ true → ⊥
    never true isnt is = cc isnt
    never false isnt is = cc is
row_short (r ∷ row) (b ∷ y) x f e =
    let short : length row ≤ length y = row_short row y x (and_parts (not (is_in_range r.0 r.1 10)) (feedless row) f).1
    (and_parts (is_in_range r.0 r.1 b) (begins row (y ++ 10 ∷ x)) e).1 in
    omega (arith, short)

first_seam : (row : List Range) (b : ℕ) (y x : Text) → clear_row row ≡ true → begins row (b ∷ y ++ 10 ∷ x) ≡ begins row (b ∷ y ++ 10 ∷ [])
unfolding clear_row
first_seam [] b y x f = refl
first_seam (r ∷ row) b y x f = ap (λ c. is_in_range r.0 r.1 b && c) (row_seam row y x f)

first_short : (row : List Range) (b : ℕ) (y x : Text) → clear_row row ≡ true → begins row (b ∷ y ++ 10 ∷ x) ≡ true →
    length row ≤ suc (length y)
unfolding clear_row
first_short [] b y x f e = omega arith
first_short (r ∷ row) b y x f e =
    let short : length row ≤ length y = row_short row y x f (and_parts (is_in_range r.0 r.1 b) (begins row (y ++ 10 ∷ x)) e).1 in
    omega (arith, short)

rows_seam : (rows : List (List Range)) (b : ℕ) (y x : Text) → clear_rows rows ≡ true →
    begins_any rows (b ∷ y ++ 10 ∷ x) ≡ begins_any rows (b ∷ y ++ 10 ∷ [])
unfolding clear_rows
rows_seam [] b y x f = refl
rows_seam (row ∷ rows) b y x f =
    let parts = and_parts (clear_row row) (clear_rows rows) f in
    ap (λ c. c || begins_any rows (b ∷ y ++ 10 ∷ x)) (first_seam row b y x parts.0)
    ∙ ap (λ c. begins row (b ∷ y ++ 10 ∷ []) || c) (rows_seam rows b y x parts.1)

rows_short : (n : ℕ) (rows : List (List Range)) (b : ℕ) (y x : Text) → AllByRecursion (λ row. length row ≡ suc n) rows →
    clear_rows rows ≡ true → begins_any rows (b ∷ y ++ 10 ∷ x) ≡ true → n ≤ length y
unfolding clear_rows
rows_short n [] b y x are f e = absurd (cc e)
rows_short n (row ∷ rows) b y x are f e =
    let parts = and_parts (clear_row row) (clear_rows rows) f in
    or_by (begins row (b ∷ y ++ 10 ∷ x)) (begins_any rows (b ∷ y ++ 10 ∷ x)) (n ≤ length y)
    (λ h. let short : length row ≤ suc (length y) = first_short row b y x parts.0 h in let long : length row ≡ suc n = are.0 in
    omega (arith, short, long))
    (rows_short n rows b y x are.1 parts.1) e

choose_seam : (t : List Entry) (b : ℕ) (y x : Text) → clear t ≡ true → choose t (b ∷ y ++ 10 ∷ x) ≡ choose t (b ∷ y ++ 10 ∷ [])
unfolding clear
choose_seam [] b y x f = refl
choose_seam (e ∷ t) b y x f =
    let parts = and_parts (clear_rows e.0) (clear t) f in
    ap (λ c. if c then e.1 else choose t (b ∷ y ++ 10 ∷ x)) (rows_seam e.0 b y x parts.0)
    ∙ ap (λ c. if begins_any e.0 (b ∷ y ++ 10 ∷ []) then e.1 else c) (choose_seam t b y x parts.1)

short_by : (n : ℕ) (b : Bool) (c d : ℕ × Bool) → (b ≡ true → c.0 ≤ n) → d.0 ≤ n → (if b then c else d).0 ≤ n
short_by n true c d first others = first refl
short_by n false c d first others = others

choose_short : (t : List Entry) → Fit t → (b : ℕ) (y x : Text) → clear t ≡ true → (choose t (b ∷ y ++ 10 ∷ x)).0 ≤ length y
unfolding clear
choose_short [] fit b y x f = omega arith
choose_short (e ∷ t) fit b y x f =
    let parts = and_parts (clear_rows e.0) (clear t) f in
    short_by (length y) (begins_any e.0 (b ∷ y ++ 10 ∷ x)) e.1 (choose t (b ∷ y ++ 10 ∷ x)) (rows_short e.1.0 e.0 b y x fit.0 parts.0)
    (choose_short t fit.1 b y x parts.1)

-- what comes behind a line feed is no part of a piece before it
pub piece_seam : (b : ℕ) (y x : Text) → piece (b ∷ y ++ 10 ∷ x) ≡ piece (b ∷ y ++ 10 ∷ [])
piece_seam b y x =
    piece_is (b ∷ y ++ 10 ∷ x) ∙ choose_seam table b y x table_clear ∙ sym (piece_is (b ∷ y ++ 10 ∷ []))

-- nor is the line feed
pub piece_short : (b : ℕ) (y x : Text) → (piece (b ∷ y ++ 10 ∷ x)).0 ≤ length y
piece_short b y x = rw (piece_is (b ∷ y ++ 10 ∷ x)) (choose_short table table_fits b y x table_clear)
