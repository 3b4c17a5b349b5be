-- Words of C by their numbers.
use Rattle.std.proofs.Common.{◌≡◌, ℕ, zero, suc, ◌+◌, ◌≤◌, ◌<◌, Bool, true, false, List, [], ◌∷◌, ◌++◌, map, length}
use Rattle.std.proofs.Common.{refl, sym, ap, ◌∙◌, arith}
use Rattle.std.specs.List.{position_or_len}
use Rattle.std.specs.Prelude.{slice_index_or}
use Rattle.std.specs.Str.{bytes_eq}
use Rattle.flt_c_tokens.specs.Bytes.{Text}
use Rattle.flt_c_tokens.specs.Spelled.{Knows, number_of}
use Rattle.flt_c_tokens.specs.Vocabulary.{kind_at, known_words, lookup, vocabulary, word_kind}
use Rattle.flt_c_tokens.specs.declared.token.Kind.{Kind}
use Rattle.flt_c_tokens.specs.declared.token.Kind.TheVariants as k

-- the kind that stands at a place of the vocabulary, as it is made of another table
kind_in : {X : Type 0} (f : X → Text × Kind) (xs : List X) (n : ℕ) (x : X) → n < length xs → x ≡ slice_index_or xs n x →
    (slice_index_or (map f xs) n ([], k.Name)).1 ≡ (f x).1
kind_in f [] n x h e = absurd (omega arith)
kind_in f (y ∷ ys) zero x h e = ap (λ z. (f z).1) (sym e)
kind_in f (y ∷ ys) (suc n) x h e = kind_in f ys n x (omega arith) e

kind_out : {X : Type 0} (f : X → Text × Kind) (xs : List X) (n : ℕ) → length xs ≤ n →
    (slice_index_or (map f xs) n ([], k.Name)).1 ≡ k.Name
kind_out f [] n h = refl
kind_out f (y ∷ ys) zero h = absurd (omega arith)
kind_out f (y ∷ ys) (suc n) h = kind_out f ys n (omega arith)

pub kind_found : {X : Type 0} (f : X → Text × Kind) (xs : List X) (n : ℕ) (x : X) → map f xs ≡ vocabulary → n < length xs →
    x ≡ slice_index_or xs n x → (f x).1 ≡ kind_at n
unfolding kind_at
kind_found f xs n x v h e = sym (kind_in f xs n x h e) ∙ ap (λ (t : List (Text × Kind)). (slice_index_or t n ([], k.Name)).1) v

pub kind_missing : {X : Type 0} (f : X → Text × Kind) (xs : List X) (n : ℕ) → map f xs ≡ vocabulary → length xs ≤ n →
    k.Name ≡ kind_at n
unfolding kind_at
kind_missing f xs n v h = sym (kind_out f xs n h) ∙ ap (λ (t : List (Text × Kind)). (slice_index_or t n ([], k.Name)).1) v

-- a text's place among the words of a table and others tells the kind that the table has for it
told : (table : List (Text × Kind)) (more : List Text) (w : Text) →
    (slice_index_or table (position_or_len (bytes_eq w) (map (λ (e : Text × Kind). e.0) table ++ more)) ([], k.Name)).1 ≡ lookup table w
told [] more w = refl
told (entry ∷ table) more w = by (bytes_eq w entry.0) refl (told table more w)
  where
    later : (n : ℕ) → slice_index_or (entry ∷ table) (1 + n) ([], k.Name) ≡ slice_index_or table n ([], k.Name)
    later n = let e : 1 + n ≡ suc n = omega arith in ap (λ m. slice_index_or (entry ∷ table) m ([], k.Name)) e

    by : (x : Bool) → bytes_eq w entry.0 ≡ x →
        (slice_index_or table (position_or_len (bytes_eq w) (map (λ (e : Text × Kind). e.0) table ++ more)) ([], k.Name)).1
        ≡ lookup table w →
        (slice_index_or (entry ∷ table)
        (position_or_len (bytes_eq w) (entry.0 ∷ (map (λ (e : Text × Kind). e.0) table ++ more))) ([], k.Name)).1
        ≡ lookup (entry ∷ table) w
    by true e rest = rw e refl
    by false e rest =
        rw e
        (ap (λ (p : Text × Kind). p.1) (later (position_or_len (bytes_eq w) (map (λ (e : Text × Kind). e.0) table ++ more))) ∙ rest)

told_by : (table : List (Text × Kind)) (known more : List Text) (w : Text) → known ≡ map (λ (e : Text × Kind). e.0) table ++ more →
    (slice_index_or table (position_or_len (bytes_eq w) known) ([], k.Name)).1 ≡ lookup table w
told_by table known more w e =
    ap (λ ts. (slice_index_or table (position_or_len (bytes_eq w) ts) ([], k.Name)).1) e ∙ told table more w

-- the number of a text tells its kind
pub kind_of_number : (known : List Text) (w : Text) → Knows known → kind_at (number_of known w) ≡ word_kind w
unfolding kind_at word_kind known_words number_of
kind_of_number known w r = told_by vocabulary known r.more w r.parts
