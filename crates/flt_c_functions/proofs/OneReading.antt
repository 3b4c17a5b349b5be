-- Files are read in one way at most, and for one reason at most one of them is the first that isn't.
use Rattle.std.proofs.Common.{◌≡◌, ℕ, ◌+◌, ◌≤◌, false, inl, inr, List, [], ◌∷◌, ◌++◌, length, Ok, Err}
use Rattle.std.proofs.Common.{refl, sym, ap, subst, ◌∙◌, length-append, arith}
use Rattle.std.specs.List.{AllZip}
use Rattle.flt_c_tokens.proofs.Spelling.{GoesOn, texts_go_on, texts_of_more}
use Rattle.flt_c_tokens.specs.Bytes.{Text}
use Rattle.flt_c_tokens.specs.Spelled.{has_text, max_spellings, with_text}
use Rattle.flt_c_tokens.specs.Tokens.{IsExcess, IsOverfull, Lexeme, with_texts}
use Rattle.flt_c_tokens.specs.declared.lexer.Excess.{Excess}
use Rattle.flt_c_tokens.specs.declared.lexer.Excess.TheVariants.{LargeFile, TooManySpellings}
use Rattle.flt_c_items.specs.Items.{items}
use Rattle.flt_c_macros.specs.States.{Outcome}
use Rattle.flt_c_macros.specs.declared.whole.Expansion.{Expansion}
use Rattle.flt_c_tokens.specs.declared.token.Token.{Token}
use Rattle.flt_c_headers.specs.Files.{Fits, texts_after}
use Rattle.flt_c_headers.specs.Laws.{LinksAtMostOne}
use Rattle.flt_c_headers.specs.Laws as refusals
use Rattle.flt_c_headers.specs.Reading.{Giving}
use Rattle.flt_c_headers.specs.World.{World}
use Rattle.flt_c_functions.specs.Sources.{AreRead, AreUnfit, Expands, Fit, IsFirstUnread, IsPlace, IsSource, IsUnlinked, IsUnread, Known, Links}
use Rattle.flt_c_functions.specs.Sources.{expansion, name_at, own_tokens, read_for, texts_of, tokens_behind, words_of}
use Rattle.flt_c_functions.specs.Sources.AreRead.{nothing, one_more}
use Rattle.flt_c_functions.specs.Sources.IsFirstUnread.{here, behind}
use Rattle.flt_c_functions.specs.declared.source.Source.{Source}

-- ---- one text

no_shorter : (known next : List Text) → GoesOn known next → length known ≤ length next
no_shorter known next g = rw g.parts (omega (arith, length-append known g.more))

one_longer : (known : List Text) (w : Text) → has_text known w ≡ false → length (with_text known w) ≡ length known + 1
unfolding with_text
one_longer known w e = rw e (omega (arith, length-append known (w ∷ [])))

-- a table that is full where an unknown text comes has too many texts, whatever is behind that text
too_many : (known : List Text) (x : Lexeme) (xs : List Lexeme) → length known ≡ max_spellings → has_text known x.text ≡ false →
    length (with_texts known (x ∷ xs)) ≤ max_spellings → ⊥
too_many known x xs full unknown few =
    let longer = one_longer known x.text unknown in
    let stays = no_shorter (with_text known x.text) (with_texts known (x ∷ xs)) (texts_go_on (with_text known x.text) xs) in
    absurd (omega arith)

not_overfull : (known : List Text) (z : Text) (line column : ℕ) → Fits known z → IsOverfull known z line column → ⊥
not_overfull known z line column fits full =
    too_many (with_texts known full.before) full.word full.after full.full full.unknown
    (subst (λ ts. length ts ≤ max_spellings)
    (ap (with_texts known) full.parts ∙ texts_of_more known full.before (full.word ∷ full.after)) fits.few)

-- one word at most is the first without room
one_word : (known : List Text) (before others after rest : List Lexeme) (x y : Lexeme) → before ++ x ∷ after ≡ others ++ y ∷ rest →
    length (with_texts known before) ≡ max_spellings → has_text (with_texts known before) x.text ≡ false →
    length (with_texts known others) ≡ max_spellings → has_text (with_texts known others) y.text ≡ false → x ≡ y
one_word known [] [] after rest x y e full unknown filled missing = cc
one_word known [] (b ∷ others) after rest x y e full unknown filled missing =
    let head : x ≡ b = cc in
    absurd (too_many known b others full (subst (λ (l : Lexeme). has_text known l.text ≡ false) head unknown) (omega (arith, filled)))
one_word known (a ∷ before) [] after rest x y e full unknown filled missing =
    let head : y ≡ a = cc in
    absurd (too_many known a before filled (subst (λ (l : Lexeme). has_text known l.text ≡ false) head missing) (omega (arith, full)))
one_word known (a ∷ before) (b ∷ others) after rest x y e full unknown filled missing =
    let head : b ≡ a = cc in
    let tail : before ++ x ∷ after ≡ others ++ y ∷ rest = cc in
    one_word (with_text known a.text) before others after rest x y tail full unknown
    (subst (λ (l : Lexeme). length (with_texts known (l ∷ others)) ≡ max_spellings) head filled)
    (subst (λ (l : Lexeme). has_text (with_texts known (l ∷ others)) y.text ≡ false) head missing)

one_excess : (known : List Text) (z : Text) (e f : Excess) → IsExcess known z e → IsExcess known z f → e ≡ f
one_excess known z LargeFile LargeFile a b = refl
one_excess known z LargeFile (TooManySpellings line column) a b = absurd (omega (arith, a, b.0))
one_excess known z (TooManySpellings line column) LargeFile a b = absurd (omega (arith, a.0, b))
one_excess known z (TooManySpellings line column) (TooManySpellings row place) (_, a) (_, b) =
    let word = one_word known a.before b.before a.after b.after a.word b.word (sym a.parts ∙ b.parts) a.full a.unknown b.full b.unknown in
    let same_line : line ≡ row = a.same_line ∙ ap (λ (x : Lexeme). x.line) word ∙ sym b.same_line in
    let same_column : column ≡ place = a.same_column ∙ ap (λ (x : Lexeme). x.column) word ∙ sym b.same_column in
    ap (λ n. TooManySpellings n column) same_line ∙ ap (TooManySpellings row) same_column

not_excess : (known : List Text) (z : Text) (e : Excess) → Fits known z → IsExcess known z e → ⊥
not_excess known z LargeFile fits large = absurd (omega (arith, fits.small, large))
not_excess known z (TooManySpellings line column) fits excess = not_overfull known z line column fits excess.1

-- ---- several texts

one_unfit : (known zs : List Text) (e f : Excess) → AreUnfit known zs e → AreUnfit known zs f → e ≡ f
one_unfit known [] e f a b = absurd a
one_unfit known (z ∷ zs) e f (inl a) (inl b) = one_excess known z e f a b
one_unfit known (z ∷ zs) e f (inl a) (inr b) = absurd (not_excess known z e b.0 a)
one_unfit known (z ∷ zs) e f (inr a) (inl b) = absurd (not_excess known z f a.0 b)
one_unfit known (z ∷ zs) e f (inr a) (inr b) = one_unfit (texts_after known z) zs e f a.1 b.1

not_unfit : (known zs : List Text) (e : Excess) → Fit known zs → AreUnfit known zs e → ⊥
not_unfit known [] e fit unfit = unfit
not_unfit known (z ∷ zs) e fit (inl excess) = not_excess known z e fit.0 excess
not_unfit known (z ∷ zs) e fit (inr more) = not_unfit (texts_after known z) zs e fit.1 more.1

-- ---- one file

one_place : (o : Outcome (List Text × Expansion)) (e f : Excess) → IsPlace o e → IsPlace o f → e ≡ f
one_place (Err place) (TooManySpellings line column) (TooManySpellings row other) a b =
    ap (λ n. TooManySpellings n column) (a.0 ∙ sym b.0) ∙ ap (TooManySpellings row) (a.1 ∙ sym b.1)
one_place (Err place) (TooManySpellings line column) LargeFile a b = absurd b
one_place (Err place) LargeFile f a b = absurd a
one_place (Ok found) e f a b = absurd a

not_placed : (o : Outcome (List Text × Expansion)) (x : List Text × Expansion) (e : Excess) → o ≡ Ok x → IsPlace o e → ⊥
not_placed (Ok found) x e is place = place
not_placed (Err at) x e is place = absurd (cc is)

same_pair : (o : Outcome (List Text × Expansion)) (x y : List Text × Expansion) → o ≡ Ok x → o ≡ Ok y → x ≡ y
same_pair o x y e h = cc

-- a table of these texts and headers
abbrev known_of : List Text → World → Known
known_of texts h = record { texts = texts; headers = h }

-- tables of the same texts and headers are one
same_known : (known last : Known) → known.texts ≡ last.texts → known.headers ≡ last.headers → known ≡ last
same_known known last same one =
    let first : known_of known.texts known.headers ≡ known_of last.texts known.headers = ap (λ ts. known_of ts known.headers) same in
    let second : known_of last.texts known.headers ≡ known_of last.texts last.headers = ap (known_of last.texts) one in
    first ∙ second

-- the same tokens by the same table have one expansion
one_place_of : (name : Text) (linked others : List Token) (known last : Known) (e f : Excess) → linked ≡ others → known ≡ last →
    IsPlace (expansion name linked known) e → IsPlace (expansion name others last) f → e ≡ f
one_place_of name linked others known last e f same one a b =
    one_place (expansion name linked known) e f a
    (subst (λ ts. IsPlace (expansion name ts known) f) (sym same) (subst (λ k. IsPlace (expansion name others k) f) (sym one) b))

module _ (gives : Giving) (links : LinksAtMostOne gives) (refuses : refusals.RefusesAtMostOne gives) (never : refusals.NeverBoth gives)
    (folders lines : List Text) (known : Known) (name file : Text) where
  -- headers are read in one way
  one_link : (linked others : List Token) (next last : Known) → Links gives folders lines known name file linked next →
      Links gives folders lines known name file others last → (linked ≡ others) × (next ≡ last)
  one_link linked others next last a b =
      let one =
      links folders name file (own_tokens lines known.texts file) (texts_of lines known.texts file) known.headers a.own b.own next.texts
      last.texts next.headers last.headers a.included b.included in (
        a.tokens ∙ (ap (λ ts. tokens_behind known.texts lines ++ ts) one.0 ∙ sym b.tokens),
        same_known next last one.1 one.2,
      )

  not_unlinked : (linked : List Token) (next : Known) (e : Excess) → Links gives folders lines known name file linked next →
      IsUnlinked gives folders lines known name file e → ⊥
  not_unlinked linked next e a b =
      never folders name file (own_tokens lines known.texts file) (texts_of lines known.texts file) known.headers a.own next.texts next.headers
      e a.included b.stops

  one_reason : (e f : Excess) → IsUnread gives folders lines known name file e → IsUnread gives folders lines known name file f → e ≡ f
  one_reason e f (inl a) (inl b) = one_unfit known.texts (read_for lines file) e f a b
  one_reason e f (inl a) (inr (inl b)) = absurd (not_unfit known.texts (read_for lines file) e b.fit a)
  one_reason e f (inl a) (inr (inr b)) = absurd (not_unfit known.texts (read_for lines file) e b.links.fit a)
  one_reason e f (inr (inl a)) (inl b) = absurd (not_unfit known.texts (read_for lines file) f a.fit b)
  one_reason e f (inr (inr a)) (inl b) = absurd (not_unfit known.texts (read_for lines file) f a.links.fit b)
  one_reason e f (inr (inl a)) (inr (inl b)) =
      refuses folders name file (own_tokens lines known.texts file) (texts_of lines known.texts file) known.headers e f a.stops b.stops
  one_reason e f (inr (inl a)) (inr (inr b)) = absurd (not_unlinked b.linked b.next e b.links a)
  one_reason e f (inr (inr a)) (inr (inl b)) = absurd (not_unlinked a.linked a.next f a.links b)
  one_reason e f (inr (inr a)) (inr (inr b)) =
      let one = one_link a.linked b.linked a.next b.next a.links b.links in
      one_place_of name a.linked b.linked a.next b.next e f one.0 one.1 a.stops b.stops

  not_unread : (next : Known) (x : Expansion) (e : Excess) → Expands gives folders lines known name file next x →
      IsUnread gives folders lines known name file e → ⊥
  not_unread next x e read (inl unfit) = not_unfit known.texts (read_for lines file) e read.links.fit unfit
  not_unread next x e read (inr (inl b)) =
      not_unlinked read.linked (record { texts = read.texts; headers = next.headers }) e read.links b
  not_unread next x e read (inr (inr b)) =
      let mid : Known = record { texts = read.texts; headers = next.headers } in
      let one = one_link read.linked b.linked mid b.next read.links b.links in
      not_placed (expansion name read.linked mid) (next.texts, x) e read.expands
      (subst (λ ts. IsPlace (expansion name ts mid) e) (sym one.0) (subst (λ k. IsPlace (expansion name b.linked k) e) (sym one.1) b.stops))

  -- one table is behind it, and it has one expansion
  one_expansion : (next other : Known) (x y : Expansion) → Expands gives folders lines known name file next x →
      Expands gives folders lines known name file other y → (next ≡ other) × (x ≡ y)
  one_expansion next other x y a b =
      let mid : Known = record { texts = a.texts; headers = next.headers } in
      let last : Known = record { texts = b.texts; headers = other.headers } in
      let one = one_link a.linked b.linked mid last a.links b.links in
      let again : expansion name a.linked mid ≡ Ok (other.texts, y) =
      ap (λ ts. expansion name ts mid) one.0 ∙ (ap (λ k. expansion name b.linked k) one.1 ∙ b.expands) in
      let same = same_pair (expansion name a.linked mid) (next.texts, x) (other.texts, y) a.expands again in (
        same_known next other (ap (λ (p : List Text × Expansion). p.0) same) (ap (λ (k : Known). k.headers) one.1),
        ap (λ (p : List Text × Expansion). p.1) same,
      )

-- two files of one name, wherever that lies in memory, which are the same in all else
pub record Alike (s t : Source) : Type 0 where
  pub name : s.name.now ≡ t.name.now
  pub words : s.words ≡ t.words
  pub tokens : s.tokens ≡ t.tokens
  pub notes : s.notes ≡ t.notes
  pub headers : s.headers ≡ t.headers
  pub items : s.items ≡ t.items

are_alike : (texts others : List Text) (name : Text) (x y : Expansion) (s t : Source) → texts ≡ others → x ≡ y →
    IsSource texts name x s → IsSource others name y t → Alike s t
are_alike texts others name x y s t same once a b =
    record {
      name = a.name_is ∙ sym b.name_is;
      words = a.words_are ∙ (ap words_of same ∙ sym b.words_are);
      tokens = a.tokens ∙ (ap (λ (e : Expansion). e.tokens) once ∙ sym b.tokens);
      notes = a.notes ∙ (ap (λ (e : Expansion). e.notes) once ∙ sym b.notes);
      headers = a.headers ∙ (ap (λ (e : Expansion). e.headers) once ∙ sym b.headers);
      items =
          a.items_are
          ∙ (ap (λ ts. items (words_of ts) x.tokens) same
          ∙ (ap (λ (e : Expansion). items (words_of others) e.tokens) once ∙ sym b.items_are));
    }

-- ---- several files

module _ (gives : Giving) (links : LinksAtMostOne gives) (refuses : refusals.RefusesAtMostOne gives) (never : refusals.NeverBoth gives)
    (folders lines names : List Text) where
  one_of : (at : ℕ) (known : Known) (file : Text) (next other : Known) (x y : Expansion) →
      Expands gives folders lines known (name_at names at) file next x → Expands gives folders lines known (name_at names at) file other y →
      (next ≡ other) × (x ≡ y)
  one_of at known file = one_expansion gives links refuses never folders lines known (name_at names at) file

  none_of : (at : ℕ) (known : Known) (file : Text) (next : Known) (x : Expansion) (e : Excess) →
      Expands gives folders lines known (name_at names at) file next x → IsUnread gives folders lines known (name_at names at) file e → ⊥
  none_of at known file = not_unread gives links refuses never folders lines known (name_at names at) file

  -- one table is behind them, and each is read in one way
  pub read_once : (at : ℕ) (known : Known) (files : List Text) (last final : Known) (ss ts : List Source) →
      AreRead gives folders lines names at known files last ss → AreRead gives folders lines names at known files final ts →
      (last ≡ final) × AllZip Alike ss ts
  read_once _ _ _ _ _ _ _ nothing nothing = (refl, tt)
  read_once _ _ _ _ _ _ _ (one_more {at} {known} {next} {last} {file} {files} {s} {ss} a first)
      (one_more {next = other} {last = final} {s = t} {ss = ts} b second) =
      let same = one_of at known file next other a.tokens b.tokens a.read b.read in
      let rest =
      read_once (at + 1) next files last final ss ts first
      (subst (λ k. AreRead gives folders lines names (at + 1) k files final ts) (sym same.0) second) in (
        rest.0,
        (
          are_alike next.texts other.texts (name_at names at) a.tokens b.tokens s t (ap (λ (k : Known). k.texts) same.0) same.1 a.is b.is,
          rest.1,
        ),
      )

  -- one of them is the first that isn't read, for one reason
  pub refused_once : (at : ℕ) (known : Known) (files : List Text) (n m : ℕ) (e f : Excess) →
      IsFirstUnread gives folders lines names at known files n e → IsFirstUnread gives folders lines names at known files m f →
      (n ≡ m) × (e ≡ f)
  refused_once _ _ _ _ _ _ _ (here {at} {known} {file} {files} {excess} a) (here {excess = other} b) =
      (refl, one_reason gives links refuses never folders lines known (name_at names at) file excess other a b)
  refused_once _ _ _ _ _ _ _ (here {at} {known} {file} {files} {excess} a) (behind {next = next} {e = x} read b) =
      absurd (none_of at known file next x excess read a)
  refused_once _ _ _ _ _ _ _ (behind {at} {number} {known} {next} {file} {files} {e = x} read a) (here {excess = other} b) =
      absurd (none_of at known file next x other read b)
  refused_once _ _ _ _ _ _ _ (behind {at} {number} {known} {next} {file} {files} {e = x} {excess} read a)
      (behind {number = count} {next = other} {e = y} {excess = reason} again b) =
      let same = one_of at known file next other x y read again in
      refused_once (at + 1) next files number count excess reason a
      (subst (λ k. IsFirstUnread gives folders lines names (at + 1) k files count reason) (sym same.0) b)

  -- of files that are all read none is the first that isn't
  pub none_refused : (at : ℕ) (known : Known) (files : List Text) (last : Known) (ss : List Source) (n : ℕ) (e : Excess) →
      AreRead gives folders lines names at known files last ss → IsFirstUnread gives folders lines names at known files n e → ⊥
  none_refused _ _ _ _ _ _ _ nothing refused = elim refused [ ]
  none_refused _ _ _ _ _ _ _ (one_more {at} {known} {next} {last} {file} {files} {s} {ss} a more) (here {excess} b) =
      none_of at known file next a.tokens excess a.read b
  none_refused _ _ _ _ _ _ _ (one_more {at} {known} {next} {last} {file} {files} {s} {ss} a more)
      (behind {number} {next = other} {e = y} {excess} again b) =
      let same = one_of at known file next other a.tokens y a.read again in
      none_refused (at + 1) next files last ss number excess more
      (subst (λ k. IsFirstUnread gives folders lines names (at + 1) k files number excess) (sym same.0) b)
