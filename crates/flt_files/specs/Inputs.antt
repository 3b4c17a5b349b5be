-- What is read for the names of a command line. This project's own program.
use Rattle.std.specs.Prelude.{◌+◌, ◌≡◌, ◌⊎◌, ℕ, ◌≤◌, Bool, ◌&&◌, true, false, List, [], ◌∷◌, ◌++◌, codes}
use Rattle.std.specs.Prelude.{count_by, map, string_bytes, take, Option, Some, None, Result, Err}
use Rattle.std.specs.List.{AllZip, list_any}
use Rattle.std.specs.Str.{bytes_eq}
use Rattle.flt_files.specs.declared.failure.Failure.{Failure}
use Rattle.flt_files.specs.declared.failure.Failure.TheVariants.{CannotRead, OutOfMemory}
use Rattle.flt_files.specs.declared.inputs.ReadFiles.{ReadFiles}
use Rattle.flt_files.specs.declared.unread.UnreadFile.{UnreadFile}
use Rattle.flt_rules.specs.Limits.{max_text}

-- a name, or what it gives, as bytes
abbrev pub Text : Type 0
Text = List ℕ

-- what may be given for a name: its bytes, or none
abbrev pub Giving : Type 1
Giving = Text → Option Text → Type 0

-- what is kept of a text: as many bytes as one may have, and one more, by which it is too long
abbrev pub kept : Text → Text
kept text = take (max_text + 1) text

-- what may be given for the name of a text: what is kept of its bytes, or none
abbrev pub gives_text : Giving → Giving
gives_text gives name (Some found) = (text : Text) × gives name (Some text) × (found ≡ kept text)
gives_text gives name None = gives name None

-- the same where a name isn't read to its end
abbrev pub gives_if : Bool → Giving → Giving
gives_if true gives = gives
gives_if false gives = gives_text gives

-- the same for all names but one, if there is one, which is read to its end
abbrev pub gives_but : Option Text → Giving → Giving
gives_but None gives = gives_text gives
gives_but (Some whole) gives = λ name. gives_if (bytes_eq name whole) gives name

abbrev pub is_standard : Text → Bool
is_standard name = bytes_eq name (codes "-")

-- each name is given, and the standard input once
pub record AreGiven (gives : Giving) (names texts : List Text) : Type 0 where
  pub each : AllZip (λ name text. gives name (Some text)) names texts
  pub once : count_by is_standard names ≤ 1

-- nothing is given for the name behind others, or it is the standard input again
abbrev pub IsMissing : Giving → List Text → Text → Type 0
IsMissing gives before name = (is_standard name && list_any is_standard before ≡ true) ⊎ gives name None

-- of these names these are read and give these texts, and the others aren't, each behind those before it; all in their order
pub data AreRead (gives : Giving) : List Text → List Text → List Text → List Text → Type 0 where
  none : AreRead gives [] [] [] []
  read : {names read texts unread : List Text} (name text : Text) → AreRead gives names read texts unread → gives name (Some text) →
      is_standard name && list_any is_standard names ≡ false →
      AreRead gives (names ++ name ∷ []) (read ++ name ∷ []) (texts ++ text ∷ []) unread
  missing : {names read texts unread : List Text} (name : Text) → AreRead gives names read texts unread → IsMissing gives names name →
      AreRead gives (names ++ name ∷ []) read texts (unread ++ name ∷ [])

-- the names of files that aren't read
abbrev pub unread_names : List UnreadFile → List Text
unread_names unread = map (λ (file : UnreadFile). string_bytes file.name) unread

-- the same of what is known of some files
abbrev pub AreReadIn : Giving → List Text → ReadFiles → Type 0
AreReadIn gives names r =
    AreRead gives names (map (λ name. name.now) r.names.items) (map (λ text. text.items) r.texts.items) (unread_names r.unread.items)

-- the failure says that this name can't be read
abbrev pub IsUnread : Text → Failure → Type 0
IsUnread name (CannotRead unread) = unread.now ≡ name
IsUnread name failure = ⊥

-- the first name for which nothing is given
pub record IsUnreadable (gives : Giving) (names : List Text) (f : Failure) : Type 0 where
  pub before : List Text
  pub name : Text
  pub after : List Text
  pub parts : names ≡ before ++ name ∷ after
  pub texts : List Text
  pub given : AreGiven gives before texts
  pub missing : IsMissing gives before name
  pub told : IsUnread name f

-- memory ran out, or the names have this failure
abbrev pub NamesFail : Giving → List Text → Failure → Type 0
NamesFail gives names OutOfMemory = Unit {0}
NamesFail gives names f = IsUnreadable gives names f

-- whatever names are given before these, each of these is given too, and the standard input once;
-- `is_used` says whether it is one of those before
abbrev pub AreGivenBehind : Giving → Bool → List Text → List Text → Type 0
AreGivenBehind gives is_used names texts = (before found : List Text) → AreGiven gives before found →
    list_any is_standard before ≡ is_used → AreGiven gives (before ++ names) (found ++ texts)

-- memory ran out, or the names have this failure, whatever names are given before them
abbrev pub NamesFailBehind : Giving → Bool → List Text → Failure → Type 0
NamesFailBehind gives is_used names f = (before found : List Text) → AreGiven gives before found →
    list_any is_standard before ≡ is_used → NamesFail gives (before ++ names) f

-- what is said where these names are read: how that fails, or what is said of the bytes that they give, which are these
pub data Says {A : Type 0} (gives : Giving) (names : List Text)
    (IsSaidOf : List Text → Result A Failure → Type 0) (texts : List Text) : Result A Failure → Type 0 where
  unread : (f : Failure) → NamesFail gives names f → Says gives names IsSaidOf texts (Err f)
  given : (result : Result A Failure) → AreGiven gives names texts → IsSaidOf texts result → Says gives names IsSaidOf texts result
