-- The same files have one listing at most.
use Rattle.std.proofs.Common.{◌≡◌, ℕ, Bool, true, false, List, [], ◌∷◌, ◌++◌, length, Option, Some, None, Err, refl, sym, ap, subst, ◌∙◌}
use Rattle.std.specs.List.{AllZip}
use Rattle.std.specs.Option.{is_none}
use Rattle.std.specs.Prelude.{◌&&◌, ◌==◌}
use Rattle.flt_c_tokens.specs.Bytes.{Text}
use Rattle.flt_c_headers.specs.Laws as header
use Rattle.flt_c_headers.specs.Laws.{LinksAtMostOne}
use Rattle.flt_c_headers.specs.Reading.{Giving}
use Rattle.flt_c_headers.specs.World.{File}
use Rattle.flt_c_items.specs.Rows.{stretch}
use Rattle.flt_c_items.specs.declared.item.Function.{Function}
use Rattle.flt_c_items.specs.declared.item.Item.{Item}
use Rattle.flt_c_items.specs.declared.item.Part.{Part}
use Rattle.flt_c_items.specs.declared.item.Part.TheVariants as part
use Rattle.flt_c_macros.specs.declared.note.Note.{Note}
use Rattle.flt_c_syntax.proofs.Laws.{is_found}
use Rattle.flt_c_syntax.specs.Body.{Spells, body_of}
use Rattle.flt_c_syntax.specs.Tokens.{Input}
use Rattle.flt_c_syntax.specs.declared.class.Class.{Class}
use Rattle.flt_c_syntax.specs.declared.fault.Fault.{Fault}
use Rattle.flt_c_syntax.specs.declared.fault.ReadError.TheVariants.{Syntax, OutOfMemory}
use Rattle.flt_c_syntax.specs.declared.tree.Statement.{Statement}
use Rattle.flt_c_functions.proofs.OneReading.{Alike, none_refused, read_once, refused_once}
use Rattle.flt_c_functions.specs.Bare.{bare_table, bare_text}
use Rattle.flt_c_functions.specs.Classes.{classes, names_in, type_names}
use Rattle.flt_c_functions.specs.Laws.{ListsAtMostOne, NeverBoth, RefusesAtMostOne}
use Rattle.flt_c_functions.specs.Lines.{function_line, table_lines, unread_line}
use Rattle.flt_c_functions.specs.Listing.{AreSources, AreTexts, Each, IsFunction, IsItem, IsItemOnce, IsItemOr, IsPart, IsSourceText}
use Rattle.flt_c_functions.specs.Listing.{bare_in, front_of}
use Rattle.flt_c_functions.specs.Listing.AreTexts.{nothing as none, one_more as more}
use Rattle.flt_c_functions.specs.Listing.Each.{nothing, one_more}
use Rattle.flt_c_functions.specs.Notes.{note_lines}
use Rattle.flt_c_functions.specs.Outcomes.{IsOutcome, body_tokens, is_cut, token_at}
use Rattle.flt_c_functions.specs.Places.{file_name, is_told, told_behind}
use Rattle.flt_c_functions.specs.Sources.{Known, nothing_known}
use Rattle.flt_c_functions.specs.Strays.{stray_in, stray_text}
use Rattle.flt_c_functions.specs.declared.bare.Bare.{Bare}
use Rattle.flt_c_functions.specs.declared.source.Source.{Source}
use Rattle.flt_c_functions.specs.declared.stray.Stray.{Stray}

-- ---- the outcome of a body

-- a body that spells statements has no fault
not_faulty : (known : List Class) (body : Input) (ss : List Statement) (f : Fault) → Spells known body ss → body_of known body ≡ Err f → ⊥
not_faulty known body ss f spelled fault =
    let other : Syntax f ≡ OutOfMemory = is_found known body (Err (Syntax f)) body fault ss spelled in absurd (cc)

one_outcome : (known : List Class) (body : Input) (o p : Option Fault) → IsOutcome known body o → IsOutcome known body p → o ≡ p
one_outcome known body None None a b = refl
one_outcome known body None (Some f) a b = absurd (not_faulty known body a.0 f a.1 b)
one_outcome known body (Some f) None a b = absurd (not_faulty known body b.0 f b.1 a)
one_outcome known body (Some f) (Some g) a b = let same : f ≡ g = cc in ap Some same

-- ---- the lines of a file

-- what is said of things, and of things like them, is one text, and both say that all is read or neither does
each_once : {A : Type 0} (P Q : A → Text → Bool → Type 0) (R : A → A → Type 0) →
    ((a b : A) (x y : Text) (v w : Bool) → R a b → P a x v → Q b y w → (x ≡ y) × (v ≡ w)) →
    (xs ys : List A) (x y : Text) (v w : Bool) → AllZip R xs ys → Each P xs x v → Each Q ys y w → (x ≡ y) × (v ≡ w)
each_once P Q R once _ _ _ _ _ _ alike nothing nothing = (refl, refl)
each_once P Q R once _ _ _ _ _ _ alike nothing (one_more b second) = absurd alike
each_once P Q R once _ _ _ _ _ _ alike (one_more a first) nothing = absurd alike
each_once P Q R once _ _ _ _ _ _ alike (one_more {a = i} {rest = xs} {x} {y} {v} {w} a first)
    (one_more {a = j} {rest = ys} {x = text} {y = texts} {v = whole} {w = rest} b second) =
    let one = once i j x text v whole alike.0 a b in
    let more = each_once P Q R once xs ys y texts w rest alike.1 first second in
    (ap (λ t. t ++ y) one.0 ∙ ap (λ t. text ++ t) more.0, ap (λ c. c && w) one.1 ∙ ap (λ c. whole && c) more.1)

each_itself : {A : Type 0} (xs : List A) → AllZip (λ a b. a ≡ b) xs xs
each_itself [] = tt
each_itself (x ∷ xs) = (refl, each_itself xs)

module _ (texts : List Text) (headers : List File) (known : List Class) (s t : Source) (alike : Alike s t) (x y : Text) (v w : Bool) where
  one_function : (i : Item) (f : Function) → IsFunction texts headers known s i f x v → IsFunction texts headers known t i f y w →
      (x ≡ y) × (v ≡ w)
  one_function i f a b =
      let outcome =
      one_outcome known (body_tokens s.tokens f.body i.to) a.outcome b.outcome a.right
      (subst (λ ts. IsOutcome known (body_tokens ts f.body i.to) b.outcome) (sym alike.tokens) b.right) in (
        a.line
            ∙ (ap (λ n. function_line texts (file_name headers n f.name) f.name a.outcome (is_cut (stretch f.body i.to s.tokens) a.outcome)) alike.name
            ∙ (ap (λ ts. function_line texts (file_name headers t.name.now f.name) f.name a.outcome (is_cut (stretch f.body i.to ts) a.outcome)) alike.tokens
            ∙ (ap (λ o. function_line texts (file_name headers t.name.now f.name) f.name o (is_cut (stretch f.body i.to t.tokens) o)) outcome ∙ sym b.line))),
        a.read ∙ (ap (λ (o : Option Fault). is_none o) outcome ∙ sym b.read),
      )

  one_part : (i : Item) (p : Part) → IsPart texts headers known s i p x v → IsPart texts headers known t i p y w → (x ≡ y) × (v ≡ w)
  one_part i (part.Function f) a b = one_function i f a b
  one_part i (part.Table table) a b = (
    a.0
        ∙ (ap (λ n. table_lines texts (file_name headers n table.name) s.tokens table) alike.name
        ∙ (ap (λ ts. table_lines texts (file_name headers t.name.now table.name) ts table) alike.tokens ∙ sym b.0)),
    a.1 ∙ sym b.1,
  )
  one_part i (part.Unread why) a b = (
    a.0
        ∙ (ap (λ n. unread_line (file_name headers n (token_at s.tokens i.from)) (token_at s.tokens i.from) why) alike.name
        ∙ (ap (λ ts. unread_line (file_name headers t.name.now (token_at ts i.from)) (token_at ts i.from) why) alike.tokens ∙ sym b.0)),
    a.1 ∙ sym b.1,
  )
  one_part i (part.Types names) a b = (a.0 ∙ sym b.0, a.1 ∙ sym b.1)
  one_part i part.Other a b =
      let same : bare_in s i ≡ bare_in t i =
      ap (λ ws. bare_table ws (stretch i.from i.to s.tokens)) alike.words
      ∙ ap (λ ts. bare_table t.words (stretch i.from i.to ts)) alike.tokens in (
        a.0
            ∙ (ap (λ n. bare_text texts headers n (bare_in s i)) alike.name
            ∙ (ap (bare_text texts headers t.name.now) same ∙ sym b.0)),
        a.1 ∙ (ap (λ (o : Option Bare). is_none o) same ∙ sym b.1),
      )

module _ (texts : List Text) (headers : List File) (known : List Class) where
  one_item : (s t : Source) → Alike s t → (i : Item) (x y : Text) (v w : Bool) → IsItem texts headers known s i x v →
      IsItem texts headers known t i y w → (x ≡ y) × (v ≡ w)
  one_item s t alike i x y v w a b =
      let own = one_part texts headers known s t alike a.own b.own a.own_read b.own_read i i.part a.part b.part in
      let same : stray_in s.tokens i ≡ stray_in t.tokens i = ap (λ ts. stray_in ts i) alike.tokens in (
        a.lines
            ∙ (ap (λ n. stray_text headers n (stray_in s.tokens i) ++ a.own) alike.name
            ∙ (ap (λ o. stray_text headers t.name.now o ++ a.own) same
            ∙ (ap (λ z. stray_text headers t.name.now (stray_in t.tokens i) ++ z) own.0 ∙ sym b.lines))),
        a.read
            ∙ (ap (λ (o : Option Stray). is_none o && a.own_read) same
            ∙ (ap (λ c. is_none (stray_in t.tokens i) && c) own.1 ∙ sym b.read)),
      )

  one_item_or : (s t : Source) → Alike s t → (i : Item) (told : Bool) (x y : Text) (v w : Bool) →
      IsItemOr told texts headers known s i x v → IsItemOr told texts headers known t i y w → (x ≡ y) × (v ≡ w)
  one_item_or s t alike i true x y v w a b = (a.0 ∙ sym b.0, a.1 ∙ sym b.1)
  one_item_or s t alike i false x y v w a b = one_item s t alike i x y v w a b

  one_item_once : (told : List ℕ) (s t : Source) → Alike s t → (i : Item) (x y : Text) (v w : Bool) →
      IsItemOnce texts headers known told s i x v → IsItemOnce texts headers known told t i y w → (x ≡ y) × (v ≡ w)
  one_item_once told s t alike i x y v w a b =
      one_item_or s t alike i (is_told headers told (front_of s i)) x y v w a
      (subst (λ ts. IsItemOr (is_told headers told (token_at ts i.from)) texts headers known t i y w) (sym alike.tokens) b)

  one_source : (told : List ℕ) (s t : Source) (x y : Text) (v w : Bool) → Alike s t → IsSourceText texts headers known told s x v →
      IsSourceText texts headers known told t y w → (x ≡ y) × (v ≡ w)
  one_source told s t x y v w alike a b =
      let items =
      each_once (IsItemOnce texts headers known told s) (IsItemOnce texts headers known told t) (λ i j. i ≡ j)
      (λ i j z u c d same p q.
      one_item_once told s t alike i z u c d p (subst (λ k. IsItemOnce texts headers known told t k u d) (sym same) q))
      s.items t.items a.items b.items a.all_read b.all_read
      (subst (AllZip (λ i j. i ≡ j) s.items) alike.items (each_itself s.items)) a.are b.are in (
        a.lines
            ∙ (ap (λ n. note_lines texts headers told n s.notes ++ a.items) alike.name
            ∙ (ap (λ ns. note_lines texts headers told t.name.now ns ++ a.items) alike.notes
            ∙ (ap (λ z. note_lines texts headers told t.name.now t.notes ++ z) items.0 ∙ sym b.lines))),
        a.read
            ∙ (ap (λ (ns : List Note). length ns == 0 && a.all_read) alike.notes
            ∙ (ap (λ c. length t.notes == 0 && c) items.1 ∙ sym b.read)),
      )

  -- the texts of files that are alike are the same
  one_text : (told : List ℕ) (ss ts : List Source) (x y : Text) (v w : Bool) → AllZip Alike ss ts →
      AreTexts texts headers known told ss x v → AreTexts texts headers known told ts y w → (x ≡ y) × (v ≡ w)
  one_text _ _ _ _ _ _ _ alike none none = (refl, refl)
  one_text _ _ _ _ _ _ _ alike none (more b second) = absurd alike
  one_text _ _ _ _ _ _ _ alike (more a first) none = absurd alike
  one_text _ _ _ _ _ _ _ alike (more {told} {s} {rest = ss} {x} {y} {v} {w} a first)
      (more {s = t} {rest = ts} {x = text} {y = others} {v = whole} {w = last} b second) =
      let one = one_source told s t x text v whole alike.0 a b in
      let behind =
      one_text (told_behind told s.headers) ss ts y others w last alike.1 first
      (subst (λ ns. AreTexts texts headers known (told_behind told ns) ts others last) (sym alike.0.headers) second) in
      (ap (λ z. z ++ y) one.0 ∙ ap (λ z. text ++ z) behind.0, ap (λ c. c && w) one.1 ∙ ap (λ c. whole && c) behind.1)

-- ---- all lines

same_types : (ss ts : List Source) → AllZip Alike ss ts → type_names ss ≡ type_names ts
same_types [] [] alike = refl
same_types [] (t ∷ ts) alike = absurd alike
same_types (s ∷ ss) [] alike = absurd alike
same_types (s ∷ ss) (t ∷ ts) alike =
    ap (λ (items : List Item). names_in items ++ type_names ss) alike.0.items
    ∙ ap (λ ns. names_in t.items ++ ns) (same_types ss ts alike.1)

module _ (gives : Giving) (links : LinksAtMostOne gives) (refuses : header.RefusesAtMostOne gives) (never : header.NeverBoth gives) where
  pub one_listing : ListsAtMostOne gives
  one_listing folders lines names files l m a b =
      let read =
      read_once gives links refuses never folders lines names 0 nothing_known files a.known b.known a.sources b.sources a.read b.read in
      let again =
      subst (λ (k : Known). AreSources k.texts k.headers.files b.sources m.text.items m.is_whole) (sym read.0) b.lines in
      one_text a.known.texts a.known.headers.files (classes (type_names a.sources) a.known.texts) [] a.sources b.sources l.text.items
      m.text.items l.is_whole m.is_whole read.1 a.lines
      (subst (λ ns. AreTexts a.known.texts a.known.headers.files (classes ns a.known.texts) [] b.sources m.text.items m.is_whole)
      (sym (same_types a.sources b.sources read.1)) again)

  pub one_refusal : RefusesAtMostOne gives
  one_refusal folders lines names files = refused_once gives links refuses never folders lines names 0 nothing_known files

  pub never_both : NeverBoth gives
  never_both folders lines names files l number excess a =
      none_refused gives links refuses never folders lines names 0 nothing_known files a.known a.sources number excess a.read
