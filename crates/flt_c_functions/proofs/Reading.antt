-- The loops that read lines and files.
use Rattle.std.proofs.Common.{◌≡◌, ℕ, ◌+◌, ◌-◌, ◌<◌, ◌≤◌, inl, inr, List, [], ◌∷◌, ◌++◌, suc, length, map, take, drop, get_or, Result, Ok, Err, IfOk}
use Rattle.std.proofs.Common.{refl, sym, ap, subst, ◌∙◌, append_assoc, append-nil, arith}
use Rattle.std.proofs.Math.Seq.{take-length}
use Rattle.std.specs.Prelude.{MatchResult}
use Rattle.std.specs.declared.alloc.AllocError.{AllocError}
use Rattle.flt_c_macros.specs.declared.whole.Expansion.{Expansion}
use Rattle.flt_c_tokens.specs.Bytes.{Text}
use Rattle.flt_c_tokens.specs.Tokens.{IsExcess}
use Rattle.flt_c_tokens.specs.declared.lexer.Excess.{Excess}
use Rattle.flt_c_tokens.specs.declared.token.Token.{Token}
use Rattle.flt_c_headers.specs.Files.{Adds, Fits, texts_after, tokens_after}
use Rattle.flt_c_headers.specs.Reading.{AreIncluded, Giving, IsUnincluded}
use Rattle.flt_c_functions.specs.Sources.{AddsAll, AddsSource, AreRead, AreUnfit, Expands, Fit, Gives, IsFirstUnread, IsUnread, Known}
use Rattle.flt_c_functions.specs.Sources.{Links, Stops, name_at, own_tokens, read_for, texts_behind, texts_of, tokens_behind}
use Rattle.flt_c_functions.specs.Sources.AreRead.{nothing, one_more}
use Rattle.flt_c_functions.specs.Sources.IsFirstUnread.{here, behind}
use Rattle.flt_c_functions.specs.declared.source.Source.{Source}

-- ---- lines

-- The tokens of all lines but the rest are behind some tokens: what follows for the rest is so for all.
pub record Begun (known all : List Text) (before : List Token) (next rest : List Text) (after : List Token) : Type 0 where
  pub texts : texts_behind known all ≡ texts_behind next rest
  pub tokens : before ++ tokens_behind known all ≡ after ++ tokens_behind next rest
  pub fit : Fit next rest → Fit known all
  pub unfit : (e : Excess) → AreUnfit next rest e → AreUnfit known all e

-- ---- one text more

pub texts_more : (known zs : List Text) (z : Text) → texts_behind known (zs ++ z ∷ []) ≡ texts_after (texts_behind known zs) z
texts_more known [] z = refl
texts_more known (y ∷ zs) z = texts_more (texts_after known y) zs z

pub fit_more : (known zs : List Text) (z : Text) → Fit known zs → Fits (texts_behind known zs) z → Fit known (zs ++ z ∷ [])
fit_more known [] z fit fits = (fits, tt)
fit_more known (y ∷ zs) z fit fits = (fit.0, fit_more (texts_after known y) zs z fit.1 fits)

pub unfit_before : (known zs : List Text) (z : Text) (e : Excess) → AreUnfit known zs e → AreUnfit known (zs ++ z ∷ []) e
unfit_before known [] z e unfit = absurd unfit
unfit_before known (y ∷ zs) z e (inl one) = inl one
unfit_before known (y ∷ zs) z e (inr more) = inr (more.0, unfit_before (texts_after known y) zs z e more.1)

pub unfit_last : (known zs : List Text) (z : Text) (e : Excess) → Fit known zs → IsExcess (texts_behind known zs) z e →
    AreUnfit known (zs ++ z ∷ []) e
unfit_last known [] z e fit excess = inl excess
unfit_last known (y ∷ zs) z e fit excess = inr (fit.0, unfit_last (texts_after known y) zs z e fit.1 excess)

pub both_unfit : (known zs : List Text) (z : Text) (mid : List Text) (ts : List Token) (e : Excess) → AddsAll known zs [] mid ts →
    IsExcess mid z e → AreUnfit known (zs ++ z ∷ []) e
both_unfit known zs z mid ts e a excess = unfit_last known zs z e a.fit (subst (λ ks. IsExcess ks z e) a.texts excess)

-- ---- one file

module _ (gives : Giving) (folders lines : List Text) (known : Known) (name file : Text) where
  -- what is added of lines, and then of a file: these tokens, by this table
  module _ (mid next : List Text) (ts own : List Token) (a : AddsAll known.texts lines [] mid ts) (b : Adds mid file [] next own) where
    fit : Fit known.texts (read_for lines file)
    fit = fit_more known.texts lines file a.fit (subst (λ ks. Fits ks file) a.texts b.fits)

    table : next ≡ texts_of lines known.texts file
    table = b.texts ∙ (ap (λ ks. texts_after ks file) a.texts ∙ sym (texts_more known.texts lines file))

    mine : own ≡ own_tokens lines known.texts file
    mine = b.tokens ∙ ap (λ ks. tokens_after ks file) a.texts

    -- with the headers that the file includes
    pub links_by : (found linked : List Token) (last : Known) →
        AreIncluded gives folders name file own next known.headers found last.texts last.headers → linked ≡ ts ++ found →
        Links gives folders lines known name file linked last
    links_by found linked last included is =
        record {
          fit = fit;
          own = found;
          included =
              subst (λ us. AreIncluded gives folders name file us (texts_of lines known.texts file) known.headers found last.texts last.headers)
              mine (subst (λ ks. AreIncluded gives folders name file own ks known.headers found last.texts last.headers) table included);
          tokens = is ∙ ap (λ us. us ++ found) a.tokens;
        }

    pub unlinked_by : (e : Excess) → IsUnincluded gives folders name file own next known.headers e →
        IsUnread gives folders lines known name file e
    unlinked_by e stops =
        inr
        (inl
        (record {
          fit = fit;
          stops =
              subst (λ us. IsUnincluded gives folders name file us (texts_of lines known.texts file) known.headers e) mine
              (subst (λ ks. IsUnincluded gives folders name file own ks known.headers e) table stops);
        }))

  -- what is made of the tokens of a file and its lines is what is read of it
  pub read_by : (linked : List Token) (mid : Known) (next : List Text) (r : Result (Result Expansion Excess) AllocError) →
      Links gives folders lines known name file linked mid →
      IfOk r (λ done. MatchResult done (λ e. Gives name linked mid next e) (λ x. Stops name linked mid x)) →
      IfOk r
      (λ done.
      MatchResult done (λ e. Expands gives folders lines known name file (record { texts = next; headers = mid.headers }) e)
      (λ x. IsUnread gives folders lines known name file x))
  read_by linked mid next (Err e) links given = tt
  read_by linked mid next (Ok (Ok e)) links given = record { linked = linked; texts = mid.texts; links = links; expands = given }
  read_by linked mid next (Ok (Err x)) links given = inr (inr (record { linked = linked; next = mid; links = links; stops = given }))

-- ---- files

-- The first `at` of some files are read: what follows for the rest is so for all.
pub record Read (gives : Giving) (folders lines names : List Text) (known : Known) (all : List Text) (next : Known) (at : ℕ)
    (rest : List Text) (found : List Source) : Type 0 where
  pub ends : (last : Known) (ss : List Source) → AreRead gives folders lines names at next rest last ss →
      AreRead gives folders lines names 0 known all last (found ++ ss)
  pub stops : (n : ℕ) (e : Excess) → IsFirstUnread gives folders lines names at next rest n e →
      IsFirstUnread gives folders lines names 0 known all n e

less_one : (n : ℕ) → suc n - 1 ≡ n
less_one n = omega arith

-- what is behind the first thing
pub behind_first : {A : Type 0} (x : A) (xs : List A) → take (length (x ∷ xs) - 1) (drop 1 (x ∷ xs)) ≡ xs
behind_first x xs = ap (λ n. take n xs) (less_one (length xs)) ∙ take-length xs

module _ (gives : Giving) (folders lines names : List Text) (known : Known) (all : List Text) where
  pub read_none : Read gives folders lines names known all known 0 all []
  read_none = record { ends = λ last ss h. h; stops = λ n e h. h }

  read_more : (next then : Known) (at : ℕ) (file : Text) (rest : List Text) (found more : List Source) →
      Read gives folders lines names known all next at (file ∷ rest) found →
      AddsSource gives folders lines next (name_at names at) file found then more →
      Read gives folders lines names known all then (at + 1) rest more
  read_more next then at file rest found more r a =
      record {
        ends =
            λ last ss h.
            subst (λ xs. AreRead gives folders lines names 0 known all last xs)
            (sym (ap (λ xs. xs ++ ss) a.sources ∙ append_assoc found (a.one ∷ []) ss))
            (r.ends last (a.one ∷ ss) (one_more a.read h));
        stops = λ n e h. r.stops n e (behind a.read.read h);
      }

module _ {A : Type 0} (text : A → Text) (gives : Giving) (folders lines names : List Text) (known : Known) (all : List Text) (next : Known)
    (at : ℕ) where
  pub read_step : (then : Known) (rest : List A) (item : A) (name file : Text) (found more : List Source) →
      Read gives folders lines names known all next at (map text rest) found → 1 ≤ length rest → item ≡ get_or rest 0 item →
      name ≡ name_at names at → file ≡ text item → AddsSource gives folders lines next name file found then more →
      Read gives folders lines names known all then (at + 1) (map text (take (length rest - 1) (drop 1 rest))) more
  read_step then [] item name file found more r some is named held a = absurd (omega arith)
  read_step then (x ∷ xs) item name file found more r some is named held a =
      subst (λ ys. Read gives folders lines names known all then (at + 1) (map text ys) more) (sym (behind_first x xs))
      (read_more gives folders lines names known all next then at (text x) (map text xs) found more r
      (subst (λ f. AddsSource gives folders lines next (name_at names at) f found then more) (held ∙ ap text is)
      (subst (λ n. AddsSource gives folders lines next n file found then more) named a)))

  pub read_stop : (rest : List A) (item : A) (name file : Text) (found : List Source) (e : Excess) →
      Read gives folders lines names known all next at (map text rest) found → 1 ≤ length rest → item ≡ get_or rest 0 item →
      file ≡ text item → name ≡ name_at names at → IsUnread gives folders lines next name file e →
      IsFirstUnread gives folders lines names 0 known all at e
  read_stop [] item name file found e r some is held named unread = absurd (omega arith)
  read_stop (x ∷ xs) item name file found e r some is held named unread =
      r.stops at e (here (subst (λ n. IsUnread gives folders lines next n (text x) e) named
      (subst (λ f. IsUnread gives folders lines next name f e) (held ∙ ap text is) unread)))

  pub read_end : (rest : List A) (found : List Source) → Read gives folders lines names known all next at (map text rest) found →
      length rest < 1 → AreRead gives folders lines names 0 known all next found
  read_end [] found r none =
      subst (λ ss. AreRead gives folders lines names 0 known all next ss) (append-nil found) (r.ends next [] nothing)
  read_end (x ∷ xs) found r none = absurd (omega arith)

pub counted_step : {A : Type 0} (rest : List A) (at n : ℕ) → 1 ≤ length rest → at + length rest ≡ n →
    at + 1 + length (take (length rest - 1) (drop 1 rest)) ≡ n
counted_step [] at n some e = absurd (omega arith)
counted_step (x ∷ xs) at n some e = ap (λ ys. at + 1 + length ys) (behind_first x xs) ∙ omega arith
