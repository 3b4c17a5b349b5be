-- The listing of some files. This project's own rule.
use Rattle.std.specs.Option.{is_none}
use Rattle.std.specs.Prelude.{◌≡◌, ◌==◌, ℕ, Bool, true, false, ◌&&◌, List, [], ◌∷◌, ◌++◌, length, Option}
use Rattle.flt_c_tokens.specs.Bytes.{Text}
use Rattle.flt_c_tokens.specs.declared.lexer.Excess.{Excess}
use Rattle.flt_c_tokens.specs.declared.token.Token.{Token}
use Rattle.flt_c_headers.specs.Reading.{Giving}
use Rattle.flt_c_headers.specs.World.{File}
use Rattle.flt_c_items.specs.Rows.{stretch}
use Rattle.flt_c_items.specs.declared.item.Function.{Function}
use Rattle.flt_c_items.specs.declared.item.Item.{Item}
use Rattle.flt_c_items.specs.declared.item.Part.{Part}
use Rattle.flt_c_items.specs.declared.item.Part.TheVariants as part
use Rattle.flt_c_syntax.specs.declared.class.Class.{Class}
use Rattle.flt_c_syntax.specs.declared.fault.Fault.{Fault}
use Rattle.flt_c_functions.specs.Bare.{bare_table, bare_text}
use Rattle.flt_c_functions.specs.Classes.{classes, type_names}
use Rattle.flt_c_functions.specs.Lines.{function_line, table_lines, unread_line}
use Rattle.flt_c_functions.specs.Outcomes.{IsOutcome, body_tokens, is_cut, token_at}
use Rattle.flt_c_functions.specs.Notes.{note_lines}
use Rattle.flt_c_functions.specs.Places.{file_name, is_told, told_behind}
use Rattle.flt_c_functions.specs.Sources.{AreRead, IsFirstUnread, Known, nothing_known}
use Rattle.flt_c_functions.specs.Strays.{stray_in, stray_text}
use Rattle.flt_c_functions.specs.declared.bare.Bare.{Bare}
use Rattle.flt_c_functions.specs.declared.listing.Listing.{Listing}
use Rattle.flt_c_functions.specs.declared.source.Source.{Source}

-- ---- the lines of an item

-- The line of a function says the outcome of its body. A place in a header has the header's name.
pub record IsFunction (texts : List Text) (headers : List File) (known : List Class) (s : Source) (i : Item) (f : Function) (z : Text)
    (whole : Bool) : Type 0 where
  pub outcome : Option Fault
  pub right : IsOutcome known (body_tokens s.tokens f.body i.to) outcome
  pub line : z ≡ function_line texts (file_name headers s.name.now f.name) f.name outcome (is_cut (stretch f.body i.to s.tokens) outcome)
  pub read : whole ≡ is_none outcome

-- another declaration has a line where it declares a table without its rows
abbrev pub bare_in : Source → Item → Option Bare
bare_in s i = bare_table s.words (stretch i.from i.to s.tokens)

abbrev pub IsOther : List Text → List File → Source → Item → Text → Bool → Type 0
IsOther texts headers s i z whole = (z ≡ bare_text texts headers s.name.now (bare_in s i)) × (whole ≡ is_none (bare_in s i))

-- the first token of an item
abbrev pub front_of : Source → Item → Token
front_of s i = token_at s.tokens i.from

-- The lines of what an item is, and whether all of it is read: names of types have none.
abbrev pub IsPart : List Text → List File → List Class → Source → Item → Part → Text → Bool → Type 0
IsPart texts headers known s i (part.Function f) z whole = IsFunction texts headers known s i f z whole
IsPart texts headers known s i (part.Table t) z whole =
    (z ≡ table_lines texts (file_name headers s.name.now t.name) s.tokens t) × (whole ≡ true)
IsPart texts headers known s i (part.Unread why) z whole =
    (z ≡ unread_line (file_name headers s.name.now (front_of s i)) (front_of s i) why) × (whole ≡ false)
IsPart texts headers known s i (part.Types names) z whole = (z ≡ []) × (whole ≡ true)
IsPart texts headers known s i part.Other z whole = IsOther texts headers s i z whole

-- those of an item: before them the line of a place that is no token of C
pub record IsItem (texts : List Text) (headers : List File) (known : List Class) (s : Source) (i : Item) (z : Text)
    (whole : Bool) : Type 0 where
  pub own : Text
  pub own_read : Bool
  pub part : IsPart texts headers known s i i.part own own_read
  pub lines : z ≡ stray_text headers s.name.now (stray_in s.tokens i) ++ own
  pub read : whole ≡ (is_none (stray_in s.tokens i) && own_read)

-- an item of a header is told once
abbrev pub IsItemOr : Bool → List Text → List File → List Class → Source → Item → Text → Bool → Type 0
IsItemOr true texts headers known s i z whole = (z ≡ []) × (whole ≡ true)
IsItemOr false texts headers known s i z whole = IsItem texts headers known s i z whole

abbrev pub IsItemOnce : List Text → List File → List Class → List ℕ → Source → Item → Text → Bool → Type 0
IsItemOnce texts headers known told s i z whole = IsItemOr (is_told headers told (front_of s i)) texts headers known s i z whole

-- ---- all lines

-- A text is those of some things, one behind the other, of each of which P says its text; all are read if each is.
pub data Each {A : Type 0} (P : A → Text → Bool → Type 0) : List A → Text → Bool → Type 0 where
  nothing : Each P [] [] true
  one_more : {a : A} {rest : List A} {x y : Text} {v w : Bool} → P a x v → Each P rest y w → Each P (a ∷ rest) (x ++ y) (v && w)

-- the lines of items of a file, where those of some headers are told already
abbrev pub AreItems : List Text → List File → List Class → List ℕ → Source → Text → Bool → Type 0
AreItems texts headers known told s = Each (IsItemOnce texts headers known told s) s.items

-- The lines of a file are those of its notes, and then of its items. A note says that something isn't read.
pub record IsSourceText (texts : List Text) (headers : List File) (known : List Class) (told : List ℕ) (s : Source) (z : Text)
    (whole : Bool) : Type 0 where
  pub items : Text
  pub all_read : Bool
  pub are : AreItems texts headers known told s items all_read
  pub lines : z ≡ note_lines texts headers told s.name.now s.notes ++ items
  pub read : whole ≡ (length s.notes == 0 && all_read)

-- those of files, of which each is behind others in which these headers were read
pub data AreTexts (texts : List Text) (headers : List File) (known : List Class) : List ℕ → List Source → Text → Bool → Type 0 where
  nothing : {told : List ℕ} → AreTexts texts headers known told [] [] true
  one_more : {told : List ℕ} {s : Source} {rest : List Source} {x y : Text} {v w : Bool} → IsSourceText texts headers known told s x v →
      AreTexts texts headers known (told_behind told s.headers) rest y w → AreTexts texts headers known told (s ∷ rest) (x ++ y) (v && w)

-- those of all files, of which each may use the type names of the others
abbrev pub AreSources : List Text → List File → List Source → Text → Bool → Type 0
AreSources texts headers ss = AreTexts texts headers (classes (type_names ss) texts) [] ss

-- what was found in files of these names, behind some lines of directives, with headers from some folders, and whether all of it is read
pub record IsListing (gives : Giving) (folders directives names files : List Text) (l : Listing) : Type 0 where
  pub known : Known
  pub sources : List Source
  pub read : AreRead gives folders directives names 0 nothing_known files known sources
  pub lines : AreSources known.texts known.headers.files sources l.text.items l.is_whole

-- the first file that isn't read, by its number from 0, and why
abbrev pub IsRefused : Giving → List Text → List Text → List Text → List Text → ℕ → Excess → Type 0
IsRefused gives folders directives names = IsFirstUnread gives folders directives names 0 nothing_known

-- ---- steps of writing

-- behind a text stands one of which P says so
pub record Puts (P : Text → Type 0) (old new : Text) : Type 0 where
  pub more : Text
  pub right : P more
  pub put : new ≡ old ++ more
