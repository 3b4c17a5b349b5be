-- Tables of spellings: what stays when texts are added.
use Rattle.std.proofs.Common.{◌≡◌, ℕ, ◌+◌, ◌-◌, ◌≤◌, Bool, true, false, not, List, [], ◌∷◌, ◌++◌, map, length, take, max}
use Rattle.std.proofs.Common.{refl, sym, ap, subst, ◌∙◌, arith, append_assoc, length-append}
use Rattle.std.proofs.lemmas.Bool.{true≢false}
use Rattle.std.proofs.lemmas.List.{append-nil, length-map}
use Rattle.std.proofs.lemmas.List.Sums.{prefix_len-le-length}
use Rattle.std.proofs.Math.Nat.{le-max_right, max-eq_left}
use Rattle.std.proofs.Math.Seq.{take-append-add, take-append_seam}
use Rattle.std.specs.Cmp.Lexicographic.{bytes_decides}
use Rattle.std.specs.List.{position_or_len, list_any}
use Rattle.std.specs.Prelude.{if◌then◌else◌, ◌||◌}
use Rattle.std.specs.Str.{bytes_eq}
use Rattle.flt_c_tokens.specs.Bytes.{Text}
use Rattle.flt_c_tokens.specs.Spelled.{Knows, first_texts, has_text, max_spellings, number_of, with_text}
use Rattle.flt_c_tokens.specs.Tokens.{Lexeme, numbered, numbered_on, with_texts}
use Rattle.flt_c_tokens.specs.Vocabulary.{known_words, vocabulary}
use Rattle.flt_c_tokens.specs.declared.token.Kind.{Kind}
use Rattle.flt_c_tokens.specs.declared.token.Token.{Token}

-- ---- one text

-- a table goes on with some texts
pub record GoesOn (known next : List Text) : Type 0 where
  pub more : List Text
  pub parts : next ≡ known ++ more

pub stays : (known : List Text) → GoesOn known known
stays known = record { more = []; parts = sym (append-nil known) }

pub goes_on : {a b c : List Text} → GoesOn a b → GoesOn b c → GoesOn a c
goes_on {a} {b} {c} p q =
    record { more = p.more ++ q.more; parts = q.parts ∙ ap (λ ts. ts ++ q.more) p.parts ∙ append_assoc a p.more q.more }

-- a table that goes on from the words of C has them first
pub knows_more : {known next : List Text} → Knows known → GoesOn known next → Knows next
knows_more {known} {next} r g =
    record { more = r.more ++ g.more; parts = g.parts ∙ ap (λ ts. ts ++ g.more) r.parts ∙ append_assoc known_words r.more g.more }

pub with_goes_on : (known : List Text) (w : Text) → GoesOn known (with_text known w)
unfolding with_text
with_goes_on known w = by (has_text known w) refl
  where
    by : (x : Bool) → has_text known w ≡ x → GoesOn known (if has_text known w then known else known ++ w ∷ [])
    by true e = rw e (stays known)
    by false e = rw e (record { more = w ∷ []; parts = refl })

-- a text that was added is there
any_last : (p : Text → Bool) (known : List Text) (w : Text) → p w ≡ true → list_any p (known ++ w ∷ []) ≡ true
any_last p [] w e = rw e refl
any_last p (x ∷ xs) w e = rw (any_last p xs w e) (by (p x))
  where
    by : (b : Bool) → (b || true) ≡ true
    by true = refl
    by false = refl

same_bytes : (w : Text) → bytes_eq w w ≡ true
same_bytes w = (bytes_decides w w).1 refl

pub has_added : (known : List Text) (w : Text) → has_text (with_text known w) w ≡ true
unfolding with_text
has_added known w = by (has_text known w) refl
  where
    by : (x : Bool) → has_text known w ≡ x → has_text (if has_text known w then known else known ++ w ∷ []) w ≡ true
    by true e = rw e e
    by false e = rw e (any_last (bytes_eq w) known w (same_bytes w))

-- its number stays when the table goes on
place_stays : (p : Text → Bool) (known more : List Text) → list_any p known ≡ true →
    position_or_len p (known ++ more) ≡ position_or_len p known
place_stays p [] more e = absurd (true≢false (sym e))
place_stays p (x ∷ xs) more e = by (p x) refl (place_stays p xs more)
  where
    by : (b : Bool) → p x ≡ b → (list_any p xs ≡ true → position_or_len p (xs ++ more) ≡ position_or_len p xs) →
        position_or_len p (x ∷ (xs ++ more)) ≡ position_or_len p (x ∷ xs)
    by true h rest = rw h refl
    by false h rest =
        let later : list_any p xs ≡ true = sym (ap (λ b. b || list_any p xs) h) ∙ e in rw h (ap (λ n. 1 + n) (rest later))

pub number_stays : (known next : List Text) (w : Text) → has_text known w ≡ true → GoesOn known next → number_of next w ≡ number_of known w
unfolding number_of
number_stays known next w e g = ap (position_or_len (bytes_eq w)) g.parts ∙ place_stays (bytes_eq w) known g.more e

-- a text's number is the same before it is added: the place behind the last text
absent_place : (p : Text → Bool) (known : List Text) (w : Text) → p w ≡ true → list_any p known ≡ false →
    position_or_len p (known ++ w ∷ []) ≡ position_or_len p known
absent_place p [] w e h = rw e refl
absent_place p (x ∷ xs) w e h = by (p x) refl (absent_place p xs w e)
  where
    by : (b : Bool) → p x ≡ b → (list_any p xs ≡ false → position_or_len p (xs ++ w ∷ []) ≡ position_or_len p xs) →
        position_or_len p (x ∷ (xs ++ w ∷ [])) ≡ position_or_len p (x ∷ xs)
    by true q rest = absurd (true≢false (sym (ap (λ b. b || list_any p xs) q) ∙ h))
    by false q rest =
        let later : list_any p xs ≡ false = sym (ap (λ b. b || list_any p xs) q) ∙ h in rw q (ap (λ n. 1 + n) (rest later))

pub number_added : (known : List Text) (w : Text) → number_of (with_text known w) w ≡ number_of known w
unfolding with_text number_of
number_added known w = by (has_text known w) refl
  where
    by : (x : Bool) → has_text known w ≡ x →
        position_or_len (bytes_eq w) (if has_text known w then known else known ++ w ∷ []) ≡ position_or_len (bytes_eq w) known
    by true e = rw e refl
    by false e = rw e (absent_place (bytes_eq w) known w (same_bytes w) e)

-- it is no longer than a text more
pub with_length : (known : List Text) (w : Text) → length (with_text known w) ≤ length known + 1
unfolding with_text
with_length known w = by (has_text known w) refl
  where
    by : (x : Bool) → has_text known w ≡ x → length (if has_text known w then known else known ++ w ∷ []) ≤ length known + 1
    by true e = rw e (omega arith)
    by false e = rw e (omega (arith, length-append known (w ∷ [])))

pub number_within : (known : List Text) (w : Text) → number_of known w ≤ length known
unfolding number_of
number_within known w = prefix_len-le-length (λ x. not (bytes_eq w x)) known

-- ---- the words of C

-- the table with some texts
abbrev pub with_all : List Text → List Text → List Text
with_all known [] = known
with_all known (w ∷ ws) = with_all (with_text known w) ws

-- no two of the words are equal
each_once : with_all [] known_words ≡ known_words
unfolding known_words with_text
each_once = refl

firsts : {X : Type 0} (f : X → Text) (g : X → Kind) (xs : List X) → map f xs ≡ map (λ (e : Text × Kind). e.0) (map (λ x. (f x, g x)) xs)
firsts f g [] = refl
firsts f g (x ∷ xs) = ap (λ ts. f x ∷ ts) (firsts f g xs)

-- the loop over the words begins
pub words_first : {X : Type 0} (f : X → Text) (g : X → Kind) (xs : List X) (known : List Text) → known ≡ [] →
    map (λ x. (f x, g x)) xs ≡ vocabulary → with_all known (map f xs) ≡ known_words
unfolding known_words
words_first f g xs known e h =
    ap (λ ts. with_all ts (map f xs)) e
    ∙ ap (with_all []) (firsts f g xs ∙ ap (map (λ (e : Text × Kind). e.0)) h) ∙ each_once

pub words_fit : length known_words ≤ max_spellings
unfolding known_words
words_fit = omega arith

pub words_count : {X : Type 0} (f : X → Text) (g : X → Kind) (xs : List X) → map (λ x. (f x, g x)) xs ≡ vocabulary →
    length xs ≡ length known_words
unfolding known_words
words_count f g xs h = sym (length-map xs (λ x. (f x, g x))) ∙ ap length h ∙ sym (length-map vocabulary (λ e. e.0))

-- ---- the first texts

least_length : (known : List Text) → Knows known → length known_words ≤ length known
least_length known r = subst (λ ts. length known_words ≤ length ts) (sym r.parts) (omega (arith, length-append known_words r.more))

pub first_known : (count : ℕ) (known : List Text) → Knows known → Knows (first_texts count known)
unfolding first_texts
first_known count known r =
    let n = max count (length known_words) in
    let more = n - length known_words in
    let e : n ≡ length known_words + more = omega (arith, le-max_right count (length known_words)) in
    record {
      more = take more r.more;
      parts = ap (take n) r.parts ∙ ap (λ m. take m (known_words ++ r.more)) e ∙ take-append-add known_words r.more more;
    }

-- the texts that a table had are the first of those that it has
pub taken_back : (before after : List Text) (count : ℕ) → Knows before → count ≡ length before → take (length before) after ≡ before →
    first_texts count after ≡ before
unfolding first_texts
taken_back before after count r long begins =
    let few : length known_words ≤ count = omega (arith, least_length before r, long) in
    ap (λ n. take n after) (max-eq_left few ∙ long) ∙ begins

-- ---- the texts of tokens

pub texts_go_on : (known : List Text) (xs : List Lexeme) → GoesOn known (with_texts known xs)
texts_go_on known [] = stays known
texts_go_on known (x ∷ xs) = goes_on (with_goes_on known x.text) (texts_go_on (with_text known x.text) xs)

pub texts_of_more : (known : List Text) (xs ys : List Lexeme) → with_texts known (xs ++ ys) ≡ with_texts (with_texts known xs) ys
texts_of_more known [] ys = refl
texts_of_more known (x ∷ xs) ys = texts_of_more (with_text known x.text) xs ys

pub numbers_of_more : (known : List Text) (xs ys : List Lexeme) →
    numbered_on known (xs ++ ys) ≡ numbered_on known xs ++ numbered_on (with_texts known xs) ys
numbers_of_more known [] ys = refl
numbers_of_more known (x ∷ xs) ys =
    ap (λ ts. numbered (with_text known x.text) x ∷ ts) (numbers_of_more (with_text known x.text) xs ys)

-- a token has the number that its text has in the end
abbrev with_number : Lexeme → ℕ → Token
with_number x n = record { kind = x.kind; is_glued = x.is_glued; word = n; start = x.start; line = x.line; column = x.column }

same_token : (known next : List Text) (x : Lexeme) → GoesOn (with_text known x.text) next →
    numbered (with_text known x.text) x ≡ numbered next x
same_token known next x g =
    ap (with_number x) (sym (number_stays (with_text known x.text) next x.text (has_added known x.text) g))

all_same : (known next : List Text) (xs : List Lexeme) → GoesOn (with_texts known xs) next → numbered_on known xs ≡ map (numbered next) xs
all_same known next [] g = refl
all_same known next (x ∷ xs) g =
    let here = same_token known next x (goes_on (texts_go_on (with_text known x.text) xs) g) in
    let later = all_same (with_text known x.text) next xs g in
    ap (λ t. t ∷ numbered_on (with_text known x.text) xs) here ∙ ap (λ ts. numbered next x ∷ ts) later

pub numbered_at_last : (known : List Text) (xs : List Lexeme) → numbered_on known xs ≡ map (numbered (with_texts known xs)) xs
numbered_at_last known xs = all_same known (with_texts known xs) xs (stays (with_texts known xs))

-- ---- parts of a table

pub first_part : (known next : List Text) → GoesOn known next → take (length known) next ≡ known
first_part known next g = ap (take (length known)) g.parts ∙ take-append_seam known g.more
