-- Where a name is given one thing at most, tokens with their headers are read in one way, or not for one reason.
use Rattle.std.proofs.Common.{◌≡◌, ℕ, ◌<◌, ◌≤◌, true, false, zero, suc, List, [], ◌∷◌, ◌++◌, length, map, refl, sym, ap, subst, ◌∙◌, arith}
use Rattle.std.proofs.lemmas.Bool.{true≢false}
use Rattle.std.specs.Prelude.{Option, Some, None, slice_get}
use Rattle.flt_c_tokens.specs.Bytes.{Text}
use Rattle.flt_c_tokens.specs.Tokens.{IsExcess}
use Rattle.flt_c_tokens.specs.declared.lexer.Excess.{Excess}
use Rattle.flt_c_tokens.specs.declared.token.Token.{Token}
use Rattle.flt_c_headers.specs.Candidates.{candidates_if}
use Rattle.flt_c_headers.specs.Files.{Fits, texts_after, tokens_after}
use Rattle.flt_c_headers.specs.Inclusions.{inclusion}
use Rattle.flt_c_headers.specs.Laws.{GivesOne, LinksAtMostOne, NeverBoth, RefusesAtMostOne}
use Rattle.flt_c_headers.specs.Reading.{AreClosed, AreLinked, AreUnclosed, Giving, IsAnswered, IsFound, IsRead, behind_line, line_of, rebased, with_header}
use Rattle.flt_c_headers.specs.Reading.AreClosed.{all, one_more}
use Rattle.flt_c_headers.specs.Reading.AreLinked.{nothing, other, line}
use Rattle.flt_c_headers.specs.Reading.AreUnclosed.{full, after_one}
use Rattle.flt_c_headers.specs.Reading.IsAnswered.{known, barred, given}
use Rattle.flt_c_headers.specs.Reading.IsFound.{nowhere, here, further}
use Rattle.flt_c_headers.specs.World.{File, World, answer_of, with_answer, with_tokens}
use Rattle.flt_c_headers.proofs.OneExcess.{not_excess, one_excess}

-- what is got from a list is within it
got_within : {A : Type 0} (xs : List A) (n : ℕ) (x : A) → slice_get xs n ≡ Some x → n < length xs
got_within [] n x e = absurd (cc e)
got_within (y ∷ xs) zero x e = omega arith
got_within (y ∷ xs) (suc n) x e = let h = got_within xs n x e in omega arith

got_once : {A : Type 0} (xs : List A) (n : ℕ) (x y : A) → slice_get xs n ≡ Some x → slice_get xs n ≡ Some y → x ≡ y
got_once xs n x y e f = cc

module _ (gives : Giving) (one : GivesOne gives) where
  one_answer : (name : Text) (h : World) (n m : Option ℕ) (last end : World) → IsAnswered gives name h n last →
      IsAnswered gives name h m end → (n ≡ m) × (last ≡ end)
  one_answer name h _ _ _ _ (known e) (known f) = (refl, refl)
  one_answer name h _ _ _ _ (known e) (barred f g) = absurd (true≢false (sym e ∙ f))
  one_answer name h _ _ _ _ (known e) (given f g i) = absurd (true≢false (sym e ∙ f))
  one_answer name h _ _ _ _ (barred e f) (known g) = absurd (true≢false (sym g ∙ e))
  one_answer name h _ _ _ _ (barred e f) (barred g i) = (refl, refl)
  one_answer name h _ _ _ _ (barred e f) (given g i j) = absurd (true≢false (sym i ∙ f))
  one_answer name h _ _ _ _ (given e f g) (known i) = absurd (true≢false (sym i ∙ e))
  one_answer name h _ _ _ _ (given e f g) (barred i j) = absurd (true≢false (sym f ∙ j))
  one_answer name h _ _ _ _ (given {found} e f g) (given {found = thing} i j k) =
      let same : found ≡ thing = one name found thing g k in
      (ap (λ x. answer_of x h) same, ap (λ x. with_answer name x h) same)

  one_found : (names : List Text) (h : World) (n m : Option ℕ) (last end : World) → IsFound gives names h n last →
      IsFound gives names h m end → (n ≡ m) × (last ≡ end)
  one_found _ _ _ _ _ _ nowhere nowhere = (refl, refl)
  one_found _ _ _ _ _ _ (here {name} {names} {h} {last} {n} a) (here {last = end} {n = m} b) =
      one_answer name h (Some n) (Some m) last end a b
  one_found _ _ _ _ _ _ (here {name} {names} {h} {last} {n} a) (further {next} b c) =
      let same = (one_answer name h (Some n) None last next a b).0 in absurd (cc same)
  one_found _ _ _ _ _ _ (further {name} {names} {h} {next} {last} {found} a b) (here {last = end} {n = m} c) =
      let same = (one_answer name h None (Some m) next end a c).0 in absurd (cc same)
  one_found _ _ _ _ _ _ (further {name} {names} {h} {next} {last} {found} a b) (further {next = then} {last = end} {found = thing} c d) =
      let same = (one_answer name h None None next then a c).1 in
      one_found names next found thing last end b (subst (λ w. IsFound gives names w thing end) (sym same) d)

  one_linked : (folders : List Text) (name file : Text) (texts : List Text) (ts : List Token) (h : World) (us vs : List Token)
      (last end : World) → AreLinked gives folders name file texts ts h us last → AreLinked gives folders name file texts ts h vs end →
      (us ≡ vs) × (last ≡ end)
  one_linked folders name file texts _ _ _ _ _ _ nothing nothing = (refl, refl)
  one_linked folders name file texts _ _ _ _ _ _ (other {t} {ts} {us} {h} {last} e a) (other {us = vs} {last = end} f b) =
      let same = one_linked folders name file texts ts h us vs last end a b in (ap (λ xs. t ∷ xs) same.0, same.1)
  one_linked folders name file texts _ _ _ _ _ _ (other e a) (line f b c) = absurd (true≢false (sym f ∙ e))
  one_linked folders name file texts _ _ _ _ _ _ (line e a b) (other f c) = absurd (true≢false (sym e ∙ f))
  one_linked folders name file texts _ _ _ _ _ _ (line {t} {ts} {us} {h} {next} {last} {found} e a b)
      (line {us = vs} {next = then} {last = end} {found = thing} f c d) =
      let first = one_found (candidates_if folders name (inclusion texts file (line_of ts))) h found thing next then a c in
      let rest =
      one_linked folders name file texts (behind_line ts) next us vs last end b
      (subst (λ w. AreLinked gives folders name file texts (behind_line ts) w vs end) (sym first.1) d) in (
        ap (λ n. t ∷ (with_header n (line_of ts) ++ us)) first.0 ∙ ap (λ xs. t ∷ (with_header thing (line_of ts) ++ xs)) rest.0,
        rest.1,
      )

  module _ (folders : List Text) where
    one_read : (texts : List Text) (h : World) (next then : List Text) (last end : World) → IsRead gives folders texts h next last →
        IsRead gives folders texts h then end → (next ≡ then) × (last ≡ end)
    one_read texts h next then last end a b =
        let file : a.file ≡ b.file = got_once h.files (length h.tokens) a.file b.file a.is_next b.is_next in
        let same : next ≡ then = a.texts_are ∙ (ap (λ (f : File). texts_after texts f.bytes) file ∙ sym b.texts_are) in
        let links : AreLinked gives folders a.file.name a.file.bytes next (tokens_after texts a.file.bytes) h b.linked b.found =
        subst (λ (f : File). AreLinked gives folders f.name f.bytes next (tokens_after texts f.bytes) h b.linked b.found) (sym file)
        (subst (λ ts. AreLinked gives folders b.file.name b.file.bytes ts (tokens_after texts b.file.bytes) h b.linked b.found) (sym same) b.links) in
        let linked =
        one_linked folders a.file.name a.file.bytes next (tokens_after texts a.file.bytes) h a.linked b.linked a.found b.found a.links links in (
          same,
          a.tokens_are
              ∙ (ap (λ (f : File). with_tokens (map (rebased f.base) a.linked) a.found) file
              ∙ (ap (λ ts. with_tokens (map (rebased b.file.base) ts) a.found) linked.0
              ∙ (ap (λ w. with_tokens (map (rebased b.file.base) b.linked) w) linked.1 ∙ sym b.tokens_are))),
        )

    one_closed : (texts : List Text) (h : World) (next then : List Text) (last end : World) → AreClosed gives folders texts h next last →
        AreClosed gives folders texts h then end → (next ≡ then) × (last ≡ end)
    one_closed _ _ _ _ _ _ (all e) (all f) = (refl, refl)
    one_closed _ _ _ _ _ _ (all {texts} {h} e) (one_more a b) = absurd (omega (arith, e, got_within h.files (length h.tokens) a.file a.is_next))
    one_closed _ _ _ _ _ _ (one_more {h} a b) (all e) = absurd (omega (arith, e, got_within h.files (length h.tokens) a.file a.is_next))
    one_closed _ _ _ _ _ _ (one_more {texts} {next} {last} {h} {then} {end} a b)
        (one_more {next = other_next} {last = other_last} {then = other_then} {end = other_end} c d) =
        let same = one_read texts h next other_next then other_then a c in
        one_closed next then last other_last end other_end b
        (subst (λ w. AreClosed gives folders next w other_last other_end) (sym same.1)
        (subst (λ ts. AreClosed gives folders ts other_then other_last other_end) (sym same.0) d))

    not_read : (texts : List Text) (h : World) (file : File) (e : Excess) (next : List Text) (last : World) →
        slice_get h.files (length h.tokens) ≡ Some file → IsExcess texts file.bytes e → IsRead gives folders texts h next last → ⊥
    not_read texts h file e next last is excess r =
        let same : r.file ≡ file = got_once h.files (length h.tokens) r.file file r.is_next is in
        not_excess texts file.bytes e (subst (λ (f : File). Fits texts f.bytes) same r.fits) excess

    one_reason : (texts : List Text) (h : World) (e f : Excess) → AreUnclosed gives folders texts h e → AreUnclosed gives folders texts h f →
        e ≡ f
    one_reason _ _ _ _ (full {texts} {h} {file} {excess} a b) (full {file = thing} {excess = reason} c d) =
        let same : thing ≡ file = got_once h.files (length h.tokens) thing file c a in
        one_excess texts file.bytes excess reason b (subst (λ (x : File). IsExcess texts x.bytes reason) same d)
    one_reason _ _ _ _ (full {texts} {h} {file} {excess} a b) (after_one {next} {then} c d) =
        absurd (not_read texts h file excess next then a b c)
    one_reason _ _ _ _ (after_one {texts} {next} {h} {then} {excess} a b) (full {file} {excess = reason} c d) =
        absurd (not_read texts h file reason next then c d a)
    one_reason _ _ _ _ (after_one {texts} {next} {h} {then} {excess} a b)
        (after_one {next = other_next} {then = other_then} {excess = reason} c d) =
        let same = one_read texts h next other_next then other_then a c in
        one_reason next then excess reason b
        (subst (λ w. AreUnclosed gives folders next w reason) (sym same.1)
        (subst (λ ts. AreUnclosed gives folders ts other_then reason) (sym same.0) d))

    not_both : (texts : List Text) (h : World) (next : List Text) (last : World) (e : Excess) → AreClosed gives folders texts h next last →
        AreUnclosed gives folders texts h e → ⊥
    not_both _ _ _ _ _ (all {texts} {h} e) (full {file} a b) = absurd (omega (arith, e, got_within h.files (length h.tokens) file a))
    not_both _ _ _ _ _ (all {texts} {h} e) (after_one a b) = absurd (omega (arith, e, got_within h.files (length h.tokens) a.file a.is_next))
    not_both _ _ _ _ _ (one_more {texts} {next} {last} {h} {then} {end} a b) (full {file} {excess} c d) =
        not_read texts h file excess next then c d a
    not_both _ _ _ _ _ (one_more {texts} {next} {last} {h} {then} {end} a b)
        (after_one {next = other_next} {then = other_then} {excess} c d) =
        let same = one_read texts h next other_next then other_then a c in
        not_both next then last end excess b
        (subst (λ w. AreUnclosed gives folders next w excess) (sym same.1)
        (subst (λ ts. AreUnclosed gives folders ts other_then excess) (sym same.0) d))

  -- tokens with their headers are read in one way
  pub links_once : LinksAtMostOne gives
  links_once folders name file tokens texts h linked others next last end final a b =
      let links = one_linked folders name file texts tokens h linked others a.found b.found a.links b.links in
      let closes =
      one_closed folders texts a.found next last end final a.closes
      (subst (λ w. AreClosed gives folders texts w last final) (sym links.1) b.closes) in (links.0, closes.0, closes.1)

  -- or they aren't, for one reason
  pub refuses_once : RefusesAtMostOne gives
  refuses_once folders name file tokens texts h excess reason a b =
      let links = one_linked folders name file texts tokens h a.linked b.linked a.found b.found a.links b.links in
      one_reason folders texts a.found excess reason a.stops (subst (λ w. AreUnclosed gives folders texts w reason) (sym links.1) b.stops)

  -- and never both
  pub never_both : NeverBoth gives
  never_both folders name file tokens texts h linked next end excess a b =
      let links = one_linked folders name file texts tokens h linked b.linked a.found b.found a.links b.links in
      not_both folders texts a.found next end excess a.closes
      (subst (λ w. AreUnclosed gives folders texts w excess) (sym links.1) b.stops)
