-- Places of tokens: those of a file are within it, and so are those of its headers.
use Rattle.std.proofs.Common.{◌≡◌, ℕ, ◌-◌, ◌+◌, ◌<◌, ◌≤◌, Bool, true, false, cond, List, [], ◌∷◌, ◌++◌, length, map, take, get_or}
use Rattle.std.proofs.Common.{refl, sym, ap, subst, ◌∙◌, arith}
use Rattle.std.proofs.lemmas.Bool.Decides.{nat_tests}
use Rattle.std.proofs.lemmas.List.{take_more, map-append, length-map, length-take-le}
use Rattle.std.proofs.lemmas.List.Elements.{All-append, All-cons, All-drop, All-nil, All-take, All-tail, All-head}
use Rattle.std.specs.List.{All}
use Rattle.std.specs.Prelude.{Option, Some, None, nat_le}
use Rattle.flt_c_tokens.specs.Bytes.{Text}
use Rattle.flt_c_tokens.proofs.Starts.{Within, all_within}
use Rattle.flt_c_tokens.specs.Tokens.{Lexeme, numbered, tokens}
use Rattle.flt_c_tokens.specs.declared.token.Token.{Token}
use Rattle.flt_c_headers.specs.Files.{texts_after, tokens_after}
use Rattle.flt_c_headers.specs.Reading.{AreLinked, Giving, behind_line, header, header_at, line_length, line_of, or_first, with_header}
use Rattle.flt_c_headers.specs.Reading.AreLinked.{nothing, other, line}
use Rattle.flt_c_headers.specs.World.{File, World, file_of}
use Rattle.flt_c_headers.specs.declared.headers.HeaderFile.{HeaderFile}

-- ---- the tokens of a file

-- a token begins within so many bytes
abbrev pub Begins : ℕ → Token → Type 0
Begins n t = t.start ≤ n

numbers_within : (known : List Text) (n : ℕ) (xs : List Lexeme) → All (Within n) xs → All (Begins n) (map (numbered known) xs)
numbers_within known n [] h = All-nil (Begins n)
numbers_within known n (x ∷ xs) h =
    All-cons (Begins n) (numbered known x) (map (numbered known) xs) (All-head (Within n) x xs h)
    (numbers_within known n xs (All-tail (Within n) x xs h))

pub tokens_within : (known : List Text) (z : Text) → All (Begins (length z)) (tokens_after known z)
unfolding tokens_after
tokens_within known z =
    let ts = map (numbered (texts_after known z)) (tokens z) in
    All-take (Begins (length z)) (length ts - 1) ts (numbers_within (texts_after known z) (length z) (tokens z) (all_within z))

-- ---- tokens with headers in the place of their names

module _ (n : ℕ) where
  header_within : (found : Option ℕ) (ts : List Token) → All (Begins n) ts → All (Begins n) (with_header found ts)
  header_within None ts h = h
  header_within (Some m) [] h = h
  header_within (Some m) (word ∷ []) h = h
  header_within (Some m) (word ∷ (t ∷ after)) h =
      let rest = All-tail (Begins n) word (t ∷ after) h in
      All-cons (Begins n) word (header m t ∷ []) (All-head (Begins n) word (t ∷ after) h)
      (All-cons (Begins n) (header m t) [] (All-head (Begins n) t after rest) (All-nil (Begins n)))

  pub linked_within : (gives : Giving) (folders : List Text) (name file : Text) (texts : List Text) (ts : List Token) (h : World)
      (us : List Token) (end : World) → AreLinked gives folders name file texts ts h us end → All (Begins n) ts → All (Begins n) us
  linked_within gives folders name file texts _ _ _ _ nothing a = a
  linked_within gives folders name file texts _ _ _ _ (other {t} {ts} {us} {h} {last} e more) a =
      All-cons (Begins n) t us (All-head (Begins n) t ts a)
      (linked_within gives folders name file texts ts h us last more (All-tail (Begins n) t ts a))
  linked_within gives folders name file texts _ _ _ _ (line {t} {ts} {us} {h} {next} {last} {found} e first more) a =
      let rest = All-tail (Begins n) t ts a in
      All-cons (Begins n) t (with_header found (line_of ts) ++ us) (All-head (Begins n) t ts a)
      (All-append (Begins n) (with_header found (line_of ts)) us
      (header_within found (line_of ts) (All-take (Begins n) (line_length ts) ts rest))
      (linked_within gives folders name file texts (behind_line ts) next us last more (All-drop (Begins n) (line_length ts) ts rest)))

-- ---- places of headers

or_zero : (f : File) (place : ℕ) (x : Bool) → nat_le f.base place ≡ x → header_at (f ∷ []) place ≡ cond x (Some 0) None
or_zero f place true e = rw e refl
or_zero f place false e = rw e refl

-- one header more
more_headers : (fs : List File) (f : File) (place : ℕ) (x : Bool) → nat_le f.base place ≡ x →
    header_at (fs ++ f ∷ []) place ≡ cond x (Some (length fs)) (header_at fs place)
more_headers [] f place x e = or_zero f place x e
more_headers (g ∷ fs) f place true e =
    let count : length fs + 1 ≡ length (g ∷ fs) = omega arith in
    ap (λ o. or_first o (nat_le g.base place)) (more_headers fs f place true e) ∙ ap (λ m. Some m) count
more_headers (g ∷ fs) f place false e = ap (λ o. or_first o (nat_le g.base place)) (more_headers fs f place false e)

module _ (fs : List HeaderFile) (n : ℕ) (f : HeaderFile) (place : ℕ) where
  last_file : 0 < n → n ≤ length fs → f ≡ get_or fs (n - 1) f →
      map file_of (take n fs) ≡ map file_of (take (n - 1) fs) ++ file_of f ∷ []
  last_file some within is =
      let count : n ≡ n - 1 + 1 = omega arith in
      let there : n - 1 < length fs = omega arith in
      ap (λ m. map file_of (take m fs)) count
      ∙ (ap (map file_of) (take_more fs (n - 1) f there ∙ ap (λ g. take (n - 1) fs ++ g ∷ []) (sym is))
      ∙ map-append file_of (take (n - 1) fs) (f ∷ []))

  pub in_header : 0 < n → n ≤ length fs → f ≡ get_or fs (n - 1) f → (get_or fs (n - 1) f).base ≤ place →
      header_at (map file_of (take n fs)) place ≡ Some (n - 1)
  in_header some within is begins =
      let there : n - 1 ≤ length fs = omega arith in
      let first : f.base ≤ place = subst (λ (g : HeaderFile). g.base ≤ place) (sym is) begins in
      let e : nat_le f.base place ≡ true = grind (arith, nat_tests) in
      ap (λ gs. header_at gs place) (last_file some within is)
      ∙ (more_headers (map file_of (take (n - 1) fs)) (file_of f) place true e
      ∙ ap (λ m. Some m) (length-map (take (n - 1) fs) file_of ∙ length-take-le (n - 1) fs there))

  pub before_header : 0 < n → n ≤ length fs → f ≡ get_or fs (n - 1) f → place < (get_or fs (n - 1) f).base →
      header_at (map file_of (take n fs)) place ≡ header_at (map file_of (take (n - 1) fs)) place
  before_header some within is begins =
      let first : place < f.base = subst (λ (g : HeaderFile). place < g.base) (sym is) begins in
      let e : nat_le f.base place ≡ false = grind (arith, nat_tests) in
      ap (λ gs. header_at gs place) (last_file some within is) ∙ more_headers (map file_of (take (n - 1) fs)) (file_of f) place false e
