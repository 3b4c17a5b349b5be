-- A header is read: its tokens, and what the loop over headers keeps.
use Rattle.std.proofs.Common.{◌≡◌, ◌+◌, ◌-◌, ◌<◌, ◌^◌, List, [], ◌∷◌, ◌++◌, length, map}
use Rattle.std.proofs.Common.{refl, ap, subst, ◌∙◌, length-append, arith}
use Rattle.std.proofs.lemmas.List.Elements.{All-same, All-weaker}
use Rattle.std.specs.List.{All}
use Rattle.flt_c_tokens.specs.Bytes.{Text}
use Rattle.flt_c_tokens.specs.Tokens.{IsExcess}
use Rattle.flt_c_tokens.specs.declared.lexer.Excess.{Excess}
use Rattle.flt_c_tokens.specs.declared.token.Token.{Token}
use Rattle.flt_c_headers.specs.Files.{Adds, tokens_after}
use Rattle.flt_c_headers.specs.Reading.{AreClosed, AreLinked, AreUnclosed, Giving, IsRead, rebased}
use Rattle.flt_c_headers.specs.Reading.AreClosed.{all, one_more}
use Rattle.flt_c_headers.specs.Reading.AreUnclosed.{full, after_one}
use Rattle.flt_c_headers.specs.World.{IsNext, World, file_of, max_headers, with_tokens}
use Rattle.flt_c_headers.specs.declared.headers.HeaderFile.{HeaderFile}
use Rattle.flt_c_headers.proofs.Linking.{Grows, linked_grows}
use Rattle.flt_c_headers.proofs.Places.{Begins, linked_within, tokens_within}

-- ---- one header

-- tokens of a header, as they were made: these, with its headers, by the table behind it
pub record Made (gives : Giving) (folders texts : List Text) (h : World) (f : HeaderFile) (next : List Text) (linked : List Token)
    (found : World) : Type 0 where
  pub adds : Adds texts f.bytes.items [] next (tokens_after texts f.bytes.items)
  pub links : AreLinked gives folders f.name.items f.bytes.items next (tokens_after texts f.bytes.items) h linked found

module _ (gives : Giving) (folders texts : List Text) (h : World) (f : HeaderFile) where
  pub tokens_made : (name bytes : Text) (next : List Text) (before ts seen linked : List Token) (found : World) → name ≡ f.name.items →
      bytes ≡ f.bytes.items → before ≡ [] → Adds texts bytes before next ts → seen ≡ ts →
      AreLinked gives folders name bytes next seen h linked found → Made gives folders texts h f next linked found
  tokens_made name bytes next before ts seen linked found named copied none adds same links =
      let a : Adds texts f.bytes.items before next ts = subst (λ z. Adds texts z before next ts) copied adds in
      let tokens : seen ≡ tokens_after texts f.bytes.items =
      same ∙ (a.tokens ∙ ap (λ xs. xs ++ tokens_after texts f.bytes.items) none) in
      record {
        adds = record { fits = a.fits; texts = a.texts; tokens = refl };
        links =
            subst (λ xs. AreLinked gives folders f.name.items f.bytes.items next xs h linked found) tokens
            (subst (λ z. AreLinked gives folders f.name.items z next seen h linked found) copied
            (subst (λ z. AreLinked gives folders z bytes next seen h linked found) named links));
      }

  module _ (next : List Text) (linked : List Token) (found : World) (m : Made gives folders texts h f next linked found) where
    grown : Grows gives h found
    grown =
        linked_grows gives folders f.name.items f.bytes.items next (tokens_after texts f.bytes.items) h linked found m.links

    -- it has a place for each
    pub places : (seen : List Token) → IsNext h f → seen ≡ linked → All (λ (t : Token). t.start + f.base < 2 ^ 32) seen
    places seen is same =
        let P : Token → Type 0 = λ t. t.start + f.base < 2 ^ 32 in
        let n = length f.bytes.items in
        let within = linked_within n gives folders f.name.items f.bytes.items next (tokens_after texts f.bytes.items) h linked found m.links
        (tokens_within texts f.bytes.items) in
        All-same P seen linked same (All-weaker (Begins n) P (λ t b. omega (arith, b, is.placed)) linked within)

    -- it is still the next one
    pub still_next : IsNext h f → length found.tokens < length found.files
    still_next is =
        let g = grown in
        let same = ap (λ (ts : List (List Token)). length ts) g.tokens in omega (arith, is.early, g.files, same)

    pub is_read : (seen placed : List Token) (last : World) → IsNext h f → seen ≡ linked → placed ≡ map (rebased f.base) seen →
        last ≡ with_tokens placed found → IsRead gives folders texts h next last
    is_read seen placed last is same moved ends =
        record {
          file = file_of f;
          is_next = is.is;
          fits = m.adds.fits;
          texts_are = m.adds.texts;
          linked = linked;
          found = found;
          links = m.links;
          tokens_are = ends ∙ ap (λ xs. with_tokens xs found) (moved ∙ ap (map (rebased f.base)) same);
        }

-- ---- headers

module _ (gives : Giving) (folders : List Text) where
  read_counts : (texts : List Text) (h : World) (next : List Text) (last : World) → IsRead gives folders texts h next last →
      length last.tokens ≡ length h.tokens + 1
  unfolding with_tokens
  read_counts texts h next last r =
      let g = linked_grows gives folders r.file.name r.file.bytes next (tokens_after texts r.file.bytes) h r.linked r.found r.links in
      let ts = map (rebased r.file.base) r.linked in
      let more = length-append r.found.tokens (ts ∷ []) in
      let ends : length last.tokens ≡ length (r.found.tokens ++ ts ∷ []) = ap (λ (w : World). length w.tokens) r.tokens_are in
      let same = ap (λ (xs : List (List Token)). length xs) g.tokens in
      omega (arith, more, ends, same)

  -- one header more has tokens, of those that have room
  pub fewer_left : (texts : List Text) (h : World) (next : List Text) (last : World) (f : HeaderFile) →
      IsRead gives folders texts h next last → IsNext h f → max_headers - length last.tokens < max_headers - length h.tokens
  fewer_left texts h next last f r is =
      let counts = read_counts texts h next last r in omega (arith, counts, is.early, is.few)

  -- Some headers are read: what follows from here is so from the beginning.
  pub record Closes (texts : List Text) (h : World) (now_texts : List Text) (now : World) : Type 0 where
    pub closes : (next : List Text) (last : World) → AreClosed gives folders now_texts now next last → AreClosed gives folders texts h next last
    pub stops : (excess : Excess) → AreUnclosed gives folders now_texts now excess → AreUnclosed gives folders texts h excess

  module _ (texts : List Text) (h : World) where
    pub close_none : Closes texts h texts h
    close_none = record { closes = λ next last a. a; stops = λ excess a. a }

    pub close_more : (now_texts next_texts : List Text) (now next : World) → Closes texts h now_texts now →
        IsRead gives folders now_texts now next_texts next → Closes texts h next_texts next
    close_more now_texts next_texts now next c r =
        record {
          closes = λ end last a. c.closes end last (one_more r a);
          stops = λ excess a. c.stops excess (after_one r a);
        }

    pub close_all : (now_texts : List Text) (now : World) → Closes texts h now_texts now → length now.tokens ≡ length now.files →
        AreClosed gives folders texts h now_texts now
    close_all now_texts now c e = c.closes now_texts now (all (omega arith))

    pub close_stops : (now_texts : List Text) (now : World) (f : HeaderFile) (excess : Excess) → Closes texts h now_texts now →
        IsNext now f → IsExcess now_texts f.bytes.items excess → AreUnclosed gives folders texts h excess
    close_stops now_texts now f excess c is e = c.stops excess (full is.is e)
