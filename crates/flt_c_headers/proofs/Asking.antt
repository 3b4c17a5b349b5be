-- Names that were asked for, with their answers, and what holds when one more is.
use Rattle.std.proofs.Common.{◌≡◌, ℕ, zero, suc, ◌+◌, ◌<◌, ◌≤◌, Bool, true, false, List, [], ◌∷◌, ◌++◌, length, map, get_or}
use Rattle.std.proofs.Common.{refl, sym, ap, subst, ◌∙◌, length-append, arith}
use Rattle.std.proofs.lemmas.Bool.{and_parts, ltb-true}
use Rattle.std.proofs.lemmas.Bool.Decides.{nat_tests}
use Rattle.std.proofs.lemmas.List.{length-map, map-append}
use Rattle.std.proofs.lemmas.List.Elements.{All-append, All-cons, All-head, All-nil, All-tail}
use Rattle.std.proofs.lemmas.Str.{IsUtf8-from_is_utf8, is_utf8-from_IsUtf8}
use Rattle.std.specs.List.{All, list_any}
use Rattle.std.specs.Prelude.{◌&&◌, Option, Some, None, nat_le, nat_lt, position, slice_get, slice_index_or}
use Rattle.std.specs.Str.{IsUtf8, bytes_eq, is_utf8}
use Rattle.flt_c_tokens.proofs.Texts.{any_of, number_there}
use Rattle.flt_c_tokens.specs.Bytes.{Text}
use Rattle.flt_c_tokens.specs.Spelled.{has_text, number_of, with_text}
use Rattle.flt_c_tokens.specs.Tokens.{max_file}
use Rattle.flt_c_tokens.specs.declared.token.Token.{Token}
use Rattle.flt_c_headers.specs.World.{File, IsKnown, IsNext, IsSound, World, base_after, base_from, file_of, has_room_at, last_place}
use Rattle.flt_c_headers.specs.World.{can_be_asked, is_standard, max_headers, with_answer, with_tokens}
use Rattle.flt_c_headers.specs.declared.headers.HeaderFile.{HeaderFile}

-- a new text stands behind the others
pub new_text : (known : List Text) (w : Text) → has_text known w ≡ false → with_text known w ≡ known ++ w ∷ []
unfolding with_text
new_text known w e = rw e refl

-- a name that was found among those that were asked for
pub known_answer : {X : Type 0} (f : X → Text) (xs : List X) (h : World) (name : Text) (i : ℕ) (answer : Option ℕ) → map f xs ≡ h.asked →
    true ≡ list_any (λ x. bytes_eq name (f x)) xs → Some i ≡ position (λ x. bytes_eq name (f x)) xs →
    answer ≡ slice_index_or h.answers i None → IsKnown h name (Some answer)
known_answer f xs h name i answer view found place is =
    let n = number_there f name xs i place in (
      sym (ap (λ ts. has_text ts name) view) ∙ (any_of f (bytes_eq name) xs ∙ sym found),
      is ∙ (ap (λ m. slice_index_or h.answers m None) n ∙ ap (λ ts. slice_index_or h.answers (number_of ts name) None) view),
    )

pub unknown_answer : {X : Type 0} (f : X → Text) (xs : List X) (h : World) (name : Text) → map f xs ≡ h.asked →
    false ≡ list_any (λ x. bytes_eq name (f x)) xs → IsKnown h name None
unknown_answer f xs h name view found = sym (ap (λ ts. has_text ts name) view) ∙ (any_of f (bytes_eq name) xs ∙ sym found)

-- a name that can be asked for, and one that can't
pub as_text : (name : Text) (standard : Bool) → standard ≡ is_standard name → standard ≡ false → IsUtf8 name →
    can_be_asked name ≡ true
as_text name standard is other utf8 =
    let e : is_standard name ≡ false = sym is ∙ other in
    let text : is_utf8 name ≡ true = is_utf8-from_IsUtf8 name utf8 in rw (text, e) refl

pub no_text : (name : Text) → (IsUtf8 name → ⊥) → can_be_asked name ≡ false
no_text name fault = by (is_utf8 name) refl
  where
    by : (x : Bool) → is_utf8 name ≡ x → can_be_asked name ≡ false
    by true e = absurd (fault (IsUtf8-from_is_utf8 name e))
    by false e = rw e refl

-- ---- a name more

abbrev world : List Text → List (Option ℕ) → List File → List (List Token) → World
world asked answers files tokens = record { asked = asked; answers = answers; files = files; tokens = tokens }

module _ (asked next_asked : List Text) (answers next_answers : List (Option ℕ)) (files : List File) (tokens : List (List Token)) (h : World)
    (name : Text) (view : world asked answers files tokens ≡ h) (named : next_asked ≡ asked ++ name ∷ []) where
  pub with_nothing : next_answers ≡ answers ++ None ∷ [] → world next_asked next_answers files tokens ≡ with_answer name None h
  unfolding with_answer
  with_nothing e = subst (λ w. world next_asked next_answers files tokens ≡ with_answer name None w) view (rw (named, e) refl)

  pub without_room : (bytes : Text) → has_room_at (length files) (base_after files) bytes ≡ false →
      next_answers ≡ answers ++ Some max_headers ∷ [] → world next_asked next_answers files tokens ≡ with_answer name (Some bytes) h
  unfolding with_answer
  without_room bytes full e =
      subst (λ w. world next_asked next_answers files tokens ≡ with_answer name (Some bytes) w) view (rw (named, e, full) refl)

  pub with_room : (bytes : Text) (next_files : List File) → has_room_at (length files) (base_after files) bytes ≡ true →
      next_answers ≡ answers ++ Some (length files) ∷ [] →
      next_files ≡ files ++ record { name = name; bytes = bytes; base = base_after files } ∷ [] →
      world next_asked next_answers next_files tokens ≡ with_answer name (Some bytes) h
  unfolding with_answer
  with_room bytes next_files room e f =
      subst (λ w. world next_asked next_answers next_files tokens ≡ with_answer name (Some bytes) w) view (rw (named, e, f, room) refl)

-- ---- what holds then

base_of_more : (base : ℕ) (files : List File) (f : File) → base_from base (files ++ f ∷ []) ≡ f.base + length f.bytes + 1
base_of_more base [] f = refl
base_of_more base (g ∷ files) f = base_of_more (g.base + length g.bytes + 1) files f

-- there is room
pub record HasRoom (count base : ℕ) (bytes : Text) : Type 0 where
  pub few : count < max_headers
  pub small : length bytes ≤ max_file
  pub near : base + length bytes ≤ last_place

pub room_of : (count base : ℕ) (bytes : Text) → has_room_at count base bytes ≡ true → HasRoom count base bytes
room_of count base bytes e =
    let one = and_parts (nat_lt count max_headers && nat_le (length bytes) max_file) (nat_le (base + length bytes) last_place) e in
    let two = and_parts (nat_lt count max_headers) (nat_le (length bytes) max_file) one.0 in
    let few = two.0 in
    let small = two.1 in
    let near = one.1 in
    record { few = grind (arith, nat_tests); small = grind (arith, nat_tests); near = grind (arith, nat_tests) }

-- what was seen of it
pub room_told : (files : List HeaderFile) (count base : ℕ) (bytes seen : Text) (r x : Bool) → count ≡ length files →
    base ≡ base_after (map file_of files) → seen ≡ bytes → r ≡ has_room_at count base seen → r ≡ x →
    has_room_at (length (map file_of files)) (base_after (map file_of files)) bytes ≡ x
room_told files count base bytes seen r x counted placed same told is =
    ap (λ n. has_room_at n (base_after (map file_of files)) bytes) (length-map files file_of ∙ sym counted)
    ∙ (ap (λ n. has_room_at count n bytes) (sym placed) ∙ (ap (λ z. has_room_at count base z) (sym same) ∙ (sym told ∙ is)))

-- a header more
pub one_pushed : (files kept pushed : List HeaderFile) (f : HeaderFile) (name bytes : Text) (base : ℕ) → kept ≡ files →
    pushed ≡ kept ++ f ∷ [] → f.name.items ≡ name → f.bytes.items ≡ bytes → f.base ≡ base →
    map file_of pushed ≡ map file_of files ++ record { name = name; bytes = bytes; base = base } ∷ []
one_pushed files kept pushed f name bytes base same added named copied placed =
    let file : file_of f ≡ record { name = name; bytes = bytes; base = base } =
    ap (λ z. record { name = z; bytes = f.bytes.items; base = f.base }) named
    ∙ (ap (λ z. record { name = name; bytes = z; base = f.base }) copied
    ∙ ap (λ n. record { name = name; bytes = bytes; base = n }) placed) in
    ap (map file_of) (added ∙ ap (λ gs. gs ++ f ∷ []) same)
    ∙ (map-append file_of files (f ∷ []) ∙ ap (λ g. map file_of files ++ g ∷ []) file)

pub sound_more : (asked next_asked : List Text) (answers next_answers : List (Option ℕ)) (files next_files : List File)
    (tokens : List (List Token)) (base size : ℕ) (name bytes : Text) (answer : Option ℕ) → IsSound asked answers files tokens base →
    has_room_at (length files) (base_after files) bytes ≡ true → next_asked ≡ asked ++ name ∷ [] →
    next_answers ≡ answers ++ answer ∷ [] →
    next_files ≡ files ++ record { name = name; bytes = bytes; base = base_after files } ∷ [] → size ≡ length bytes →
    IsSound next_asked next_answers next_files tokens (base + size + 1)
sound_more asked next_asked answers next_answers files next_files tokens base size name bytes answer s e named answers_are files_are sized =
    let room = room_of (length files) (base_after files) bytes e in
    let f : File = record { name = name; bytes = bytes; base = base_after files } in
    let more_asked = length-append asked (name ∷ []) in
    let more_answers = length-append answers (answer ∷ []) in
    let more_files = length-append files (f ∷ []) in
    let P : File → Type 0 = λ g. g.base + length g.bytes ≤ last_place in
    record {
      answered = rw (named, answers_are) (omega (arith, s.answered));
      few = rw files_are (omega (arith, room.few));
      read = rw files_are (omega (arith, s.read));
      placed = subst (All P) (sym files_are) (All-append P files (f ∷ []) s.placed (All-cons P f [] room.near (All-nil P)));
      next_is =
          ap (λ n. n + size + 1) s.next_is
          ∙ (ap (λ n. base_after files + n + 1) sized ∙ sym (ap base_after files_are ∙ base_of_more 16777217 files f));
      room = omega (arith, room.near, s.next_is);
    }

-- ---- the next header

got_read : {X : Type 0} (xs : List X) (n : ℕ) (x : X) → n < length xs → x ≡ get_or xs n x → slice_get xs n ≡ Some x
got_read [] n x h e = absurd (omega arith)
got_read (y ∷ xs) zero x h e = ap (λ z. Some z) (sym e)
got_read (y ∷ xs) (suc n) x h e = got_read xs n x (omega arith) e

got_at : {X Y : Type 0} (f : X → Y) (xs : List X) (n : ℕ) (x : X) → slice_get xs n ≡ Some x → slice_get (map f xs) n ≡ Some (f x)
got_at f [] n x e = absurd (cc e)
got_at f (y ∷ xs) zero x e = let same : y ≡ x = cc in ap (λ z. Some (f z)) same
got_at f (y ∷ xs) (suc n) x e = got_at f xs n x e

all_got : {X : Type 0} (P : X → Type 0) (xs : List X) (n : ℕ) (x : X) → All P xs → slice_get xs n ≡ Some x → (n < length xs) × P x
all_got P [] n x a e = absurd (cc e)
all_got P (y ∷ xs) zero x a e = let same : y ≡ x = cc in (omega arith, subst P same (All-head P y xs a))
all_got P (y ∷ xs) (suc n) x a e = let h = all_got P xs n x (All-tail P y xs a) e in (omega (arith, h.0), h.1)

-- a copy of it
pub next_is : (asked : List Text) (answers : List (Option ℕ)) (files seen : List HeaderFile) (tokens : List (List Token)) (base n : ℕ)
    (h : World) (file copy : HeaderFile) → world asked answers (map file_of files) tokens ≡ h →
    IsSound asked answers (map file_of files) tokens base → seen ≡ files → n ≡ length tokens → true ≡ nat_lt n (length seen) →
    file ≡ get_or seen n file → copy.name.items ≡ file.name.items → copy.bytes.items ≡ file.bytes.items → copy.base ≡ file.base →
    IsNext h copy
next_is asked answers files seen tokens base n h file copy view s same counted within is named copied placed =
    let got = got_read seen n file (ltb-true n (length seen) (sym within)) is in
    let there : slice_get (map file_of files) (length tokens) ≡ Some (file_of file) =
    subst (λ m. slice_get (map file_of files) m ≡ Some (file_of file)) counted
    (subst (λ gs. slice_get (map file_of gs) n ≡ Some (file_of file)) same (got_at file_of seen n file got)) in
    let P : File → Type 0 = λ g. g.base + length g.bytes ≤ last_place in
    let near = all_got P (map file_of files) (length tokens) (file_of file) s.placed there in
    let both : file_of file ≡ file_of copy =
    ap (λ z. record { name = z; bytes = file.bytes.items; base = file.base }) (sym named)
    ∙ (ap (λ z. record { name = copy.name.items; bytes = z; base = file.base }) (sym copied)
    ∙ ap (λ m. record { name = copy.name.items; bytes = copy.bytes.items; base = m }) (sym placed)) in
    subst (λ w. IsNext w copy) view
    (record {
      is = there ∙ ap (λ g. Some g) both;
      early = near.0;
      few = s.few;
      placed = subst P both near.1;
    })

-- it gets its tokens
pub tokens_added : (asked : List Text) (answers : List (Option ℕ)) (files : List File) (tokens next_tokens : List (List Token)) (h : World)
    (ts : List Token) → world asked answers files tokens ≡ h → next_tokens ≡ tokens ++ ts ∷ [] →
    world asked answers files next_tokens ≡ with_tokens ts h
unfolding with_tokens
tokens_added asked answers files tokens next_tokens h ts view e =
    subst (λ w. world asked answers files next_tokens ≡ with_tokens ts w) view (ap (λ xs. world asked answers files xs) e)
