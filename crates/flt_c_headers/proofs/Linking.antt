-- The loops that ask for names and that link the lines of a file.
use Rattle.std.proofs.Common.{◌≡◌, ℕ, suc, ◌-◌, ◌<◌, ◌≤◌, Bool, true, false, List, [], ◌∷◌, ◌++◌, length, map, take, drop, get_or}
use Rattle.std.proofs.Common.{Result, Ok, Err}
use Rattle.std.proofs.Common.{refl, sym, ap, subst, ◌∙◌, append_assoc, append-nil, length-append, arith}
use Rattle.std.proofs.Math.Seq.{take-length}
use Rattle.std.specs.Prelude.{IfOk, OnOk, Option, Some, None}
use Rattle.std.specs.declared.alloc.AllocError.{AllocError}
use Rattle.flt_c_tokens.specs.Bytes.{Text}
use Rattle.flt_c_tokens.specs.declared.token.Token.{Token}
use Rattle.flt_c_headers.specs.Candidates.{candidates_if}
use Rattle.flt_c_headers.specs.Inclusions.{inclusion}
use Rattle.flt_c_headers.specs.Reading.{AddsLine, AreLinked, Giving, IsAnswered, IsFound, behind_line}
use Rattle.flt_c_headers.specs.Reading.{is_directive, line_of, with_header}
use Rattle.flt_c_headers.specs.Reading.AreLinked.{nothing, other, line}
use Rattle.flt_c_headers.specs.Reading.IsAnswered.{known, barred, given}
use Rattle.flt_c_headers.specs.Reading.IsFound.{nowhere, here, further}
use Rattle.flt_c_headers.specs.World.{File, IsKnown, IsName, World, answer_of, base_after, has_room, is_asked, with_answer}

less_one : (n : ℕ) → suc n - 1 ≡ n
less_one n = omega arith

-- what is behind the first thing
pub behind_first : {A : Type 0} (x : A) (xs : List A) → take (length (x ∷ xs) - 1) (drop 1 (x ∷ xs)) ≡ xs
behind_first x xs = ap (λ n. take n xs) (less_one (length xs)) ∙ take-length xs

-- the first thing, whatever is read where there is none
pub first_read : {A : Type 0} (xs : List A) (d : A) → 1 ≤ length xs → get_or xs 0 d ≡ get_or xs 0 (get_or xs 0 d)
first_read [] d some = absurd (omega arith)
first_read (x ∷ xs) d some = refl

-- ---- what stays

module _ (gives : Giving) where
  -- headers that are found have no tokens yet, and no header goes
  pub record Grows (h last : World) : Type 0 where
    pub tokens : last.tokens ≡ h.tokens
    pub files : length h.files ≤ length last.files

  stays : (h : World) → Grows h h
  stays h = record { tokens = refl; files = omega arith }

  grows_on : (h next last : World) → Grows h next → Grows next last → Grows h last
  grows_on h next last a b = record { tokens = b.tokens ∙ a.tokens; files = omega (arith, a.files, b.files) }

  answer_grows : (name : Text) (found : Option Text) (h : World) → Grows h (with_answer name found h)
  unfolding with_answer
  answer_grows name None h = record { tokens = refl; files = omega arith }
  answer_grows name (Some bytes) h = by (has_room h bytes) refl
    where
      by : (x : Bool) → has_room h bytes ≡ x → Grows h (with_answer name (Some bytes) h)
      by true e =
          let f : File = record { name = name; bytes = bytes; base = base_after h.files } in
          record { tokens = refl; files = rw e (omega (arith, length-append h.files (f ∷ []))) }
      by false e = record { tokens = refl; files = rw e (omega arith) }

  answered_grows : (name : Text) (h : World) (n : Option ℕ) (last : World) → IsAnswered gives name h n last → Grows h last
  answered_grows name h _ _ (known e) = stays h
  answered_grows name h _ _ (barred e f) = stays h
  answered_grows name h _ _ (given {found} e f g) = answer_grows name found h

  found_grows : (names : List Text) (h : World) (n : Option ℕ) (last : World) → IsFound gives names h n last → Grows h last
  found_grows _ _ _ _ (nowhere {h}) = stays h
  found_grows _ _ _ _ (here {name} {names} {h} {last} {n} a) = answered_grows name h (Some n) last a
  found_grows _ _ _ _ (further {name} {names} {h} {next} {last} {found} a b) =
      grows_on h next last (answered_grows name h None next a) (found_grows names next found last b)

  pub linked_grows : (folders : List Text) (name file : Text) (texts : List Text) (ts : List Token) (h : World) (us : List Token)
      (last : World) → AreLinked gives folders name file texts ts h us last → Grows h last
  linked_grows folders name file texts _ _ _ _ (nothing {h}) = stays h
  linked_grows folders name file texts _ _ _ _ (other {t} {ts} {us} {h} {last} e more) =
      linked_grows folders name file texts ts h us last more
  linked_grows folders name file texts _ _ _ _ (line {t} {ts} {us} {h} {next} {last} {found} e first more) =
      grows_on h next last (found_grows (candidates_if folders name (inclusion texts file (line_of ts))) h found next first)
      (linked_grows folders name file texts (behind_line ts) next us last more)

-- ---- names

module _ (gives : Giving) (name : Text) (h : World) where
  pub answered_before : (answer : Option ℕ) → IsKnown h name (Some answer) → IsAnswered gives name h answer h
  answered_before answer k = subst (λ x. IsAnswered gives name h x h) (sym k.1) (known k.0)

  -- by what is found under it
  pub answered_by : (text : Text) (found : Option Text) (last : World) (r : Result (Option ℕ) AllocError) → is_asked h name ≡ false →
      IsName name (Some text) → gives text found → IfOk r (λ answer. answer ≡ answer_of found h) → OnOk r (last ≡ with_answer name found h) →
      IfOk r (λ answer. IsAnswered gives name h answer last)
  answered_by text found last (Err e) new named g a b = tt
  answered_by text found last (Ok answer) new named g a b =
      subst (λ x. IsAnswered gives name h x last) (sym a)
      (subst (λ w. IsAnswered gives name h (answer_of found h) w) (sym b) (given new named.0 (subst (λ z. gives z found) named.1 g)))

-- No name but the rest has an answer: what follows for the rest is so for all.
pub record Asked (gives : Giving) (names : List Text) (h : World) (rest : List Text) (now : World) : Type 0 where
  pub goes : (found : Option ℕ) (last : World) → IsFound gives rest now found last → IsFound gives names h found last

pub ask_all : (gives : Giving) (names : List Text) (h : World) → Asked gives names h names h
ask_all gives names h = record { goes = λ found last f. f }

module _ {A : Type 0} (text : A → Text) (gives : Giving) (names : List Text) (h : World) where
  pub ask_more : (rest : List A) (now next : World) (item : A) (name : Text) → Asked gives names h (map text rest) now → 1 ≤ length rest →
      item ≡ get_or rest 0 item → name ≡ text item → IsAnswered gives name now None next →
      Asked gives names h (map text (take (length rest - 1) (drop 1 rest))) next
  ask_more [] now next item name a some is named b = absurd (omega arith)
  ask_more (x ∷ xs) now next item name a some is named b =
      subst (λ ys. Asked gives names h (map text ys) next) (sym (behind_first x xs))
      (record {
        goes = λ found last f. a.goes found last (further (subst (λ z. IsAnswered gives z now None next) (named ∙ ap text is) b) f);
      })

  pub ask_last : (rest : List A) (now last : World) (item : A) (name : Text) (n : ℕ) → Asked gives names h (map text rest) now →
      1 ≤ length rest → item ≡ get_or rest 0 item → name ≡ text item → IsAnswered gives name now (Some n) last →
      IsFound gives names h (Some n) last
  ask_last [] now last item name n a some is named b = absurd (omega arith)
  ask_last (x ∷ xs) now last item name n a some is named b =
      a.goes (Some n) last (here (subst (λ z. IsAnswered gives z now (Some n) last) (named ∙ ap text is) b))

  pub ask_none : (rest : List A) (now : World) → Asked gives names h (map text rest) now → length rest < 1 → IsFound gives names h None now
  ask_none [] now a none = a.goes None now nowhere
  ask_none (x ∷ xs) now a none = absurd (omega arith)

-- ---- lines

-- The tokens before the rest are linked: what follows for the rest is so for all.
pub record Linked (gives : Giving) (folders : List Text) (name file : Text) (texts : List Text) (ts : List Token) (h : World)
    (rest : List Token) (now : World) (found : List Token) : Type 0 where
  pub goes : (us : List Token) (last : World) → AreLinked gives folders name file texts rest now us last →
      AreLinked gives folders name file texts ts h (found ++ us) last

module _ (gives : Giving) (folders : List Text) (name file : Text) (texts : List Text) (ts : List Token) (h : World) where
  pub link_all : (found : List Token) → found ≡ [] → Linked gives folders name file texts ts h ts h found
  link_all found e = record { goes = λ us last a. subst (λ xs. AreLinked gives folders name file texts ts h (xs ++ us) last) (sym e) a }

  pub link_other : (rest : List Token) (now : World) (found more : List Token) (t : Token) →
      Linked gives folders name file texts ts h rest now found → 1 ≤ length rest → t ≡ get_or rest 0 t → more ≡ found ++ t ∷ [] →
      is_directive t.kind ≡ false → Linked gives folders name file texts ts h (take (length rest - 1) (drop 1 rest)) now more
  link_other [] now found more t a some is added e = absurd (omega arith)
  link_other (x ∷ xs) now found more t a some is added e =
      let kind : is_directive x.kind ≡ false = subst (λ (y : Token). is_directive y.kind ≡ false) is e in
      subst (λ ys. Linked gives folders name file texts ts h ys now more) (sym (behind_first x xs))
      (record {
        goes =
            λ us last b.
            subst (λ ys. AreLinked gives folders name file texts ts h ys last)
            (sym (ap (λ ys. ys ++ us) (added ∙ ap (λ y. found ++ y ∷ []) is) ∙ append_assoc found (x ∷ []) us))
            (a.goes (x ∷ us) last (other kind b));
      })

  pub link_line : (rest after line_tokens later : List Token) (now next : World) (found some_more more : List Token) (t : Token) →
      Linked gives folders name file texts ts h rest now found → 1 ≤ length rest → t ≡ get_or rest 0 t →
      after ≡ take (length rest - 1) (drop 1 rest) → line_tokens ≡ line_of after → later ≡ behind_line after →
      some_more ≡ found ++ t ∷ [] → is_directive t.kind ≡ true → AddsLine gives folders name file texts line_tokens now some_more next more →
      Linked gives folders name file texts ts h later next more
  link_line [] after line_tokens later now next found some_more more t a some is rests lines later_is added e b = absurd (omega arith)
  link_line (x ∷ xs) after line_tokens later now next found some_more more t a some is rests lines later_is added e b =
      let kind : is_directive x.kind ≡ true = subst (λ (y : Token). is_directive y.kind ≡ true) is e in
      let same : after ≡ xs = rests ∙ behind_first x xs in
      let line_is : line_tokens ≡ line_of xs = lines ∙ ap line_of same in
      let rest_is : later ≡ behind_line xs = later_is ∙ ap behind_line same in
      let parts : more ≡ found ++ (x ∷ with_header b.answer (line_of xs)) =
      b.tokens
      ∙ (ap (λ ys. ys ++ with_header b.answer line_tokens) (added ∙ ap (λ y. found ++ y ∷ []) is)
      ∙ (append_assoc found (x ∷ []) (with_header b.answer line_tokens)
      ∙ ap (λ ys. found ++ (x ∷ with_header b.answer ys)) line_is)) in
      let first : IsFound gives (candidates_if folders name (inclusion texts file (line_of xs))) now b.answer next =
      subst (λ ys. IsFound gives (candidates_if folders name (inclusion texts file ys)) now b.answer next) line_is b.found in
      record {
        goes =
            λ us last c.
            subst (λ ys. AreLinked gives folders name file texts ts h ys last)
            (sym (ap (λ ys. ys ++ us) parts ∙ append_assoc found (x ∷ with_header b.answer (line_of xs)) us))
            (a.goes (x ∷ (with_header b.answer (line_of xs) ++ us)) last
            (line kind first (subst (λ ys. AreLinked gives folders name file texts ys next us last) rest_is c)));
      }

  pub link_end : (rest : List Token) (now : World) (found : List Token) → Linked gives folders name file texts ts h rest now found →
      length rest < 1 → AreLinked gives folders name file texts ts h found now
  link_end [] now found a none = subst (λ ys. AreLinked gives folders name file texts ts h ys now) (append-nil found) (a.goes [] now nothing)
  link_end (x ∷ xs) now found a none = absurd (omega arith)
