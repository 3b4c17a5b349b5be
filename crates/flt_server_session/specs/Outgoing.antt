-- What a session lets out of JSON. This project's own rule.
use Rattle.std.specs.Prelude.{◌≡◌, ℕ, ℤ, List, [], ◌∷◌, ◌++◌, Option, Some, None, codes, ⊤}
use Rattle.std.specs.Fmt.{signed_decimal}
use Rattle.std.specs.Str.{IsUtf8}
use Rattle.json.specs.Lex.{tokens}
use Rattle.json.specs.Print.{print}
use Rattle.json.specs.Token.{Token, begin_object, end_object, begin_array, end_array, key, string, number, boolean, null, bad}
use Rattle.flt_door.specs.Door.{AreShown, at_door}

-- ---- what is shown

-- each byte of a token's string is shown
abbrev pub IsShownToken : Token → Type 0
IsShownToken begin_object = ⊤
IsShownToken end_object = ⊤
IsShownToken begin_array = ⊤
IsShownToken end_array = ⊤
IsShownToken (key text) = AreShown text
IsShownToken (string text) = AreShown text
IsShownToken (number text) = ⊤
IsShownToken (boolean b) = ⊤
IsShownToken null = ⊤
IsShownToken bad = ⊥

abbrev pub AreShownTokens : List Token → Type 0
AreShownTokens [] = ⊤
AreShownTokens (t ∷ ts) = IsShownToken t × AreShownTokens ts

-- a text is made of tokens whose strings are shown
abbrev pub IsShownJson : List ℕ → Type 0
IsShownJson text = (ts : List Token) × AreShownTokens ts × (text ≡ print ts)

-- ---- what goes out

-- of a string this goes out: its bytes as the door of `flt_door` lets them out, if that is UTF-8. Each is shown
abbrev pub IsStringFor : List ℕ → List ℕ → Type 0
IsStringFor text out = AreShown out × (IsUtf8 (at_door text) → out ≡ at_door text)

-- of a token this goes out: of strings and keys what goes out of a string, all else as it is
abbrev pub IsTokenFor : Token → Token → Type 0
IsTokenFor begin_object out = out ≡ begin_object
IsTokenFor end_object out = out ≡ end_object
IsTokenFor begin_array out = out ≡ begin_array
IsTokenFor end_array out = out ≡ end_array
IsTokenFor (key text) out = (shown : List ℕ) × IsStringFor text shown × (out ≡ key shown)
IsTokenFor (string text) out = (shown : List ℕ) × IsStringFor text shown × (out ≡ string shown)
IsTokenFor (number text) out = out ≡ number text
IsTokenFor (boolean b) out = out ≡ boolean b
IsTokenFor null out = out ≡ null
IsTokenFor bad out = ⊥

-- of some tokens these go out, up to what is no JSON
abbrev pub AreTokensFor : List Token → List Token → Type 0
AreTokensFor [] out = out ≡ []
AreTokensFor (bad ∷ ts) out = out ≡ []
AreTokensFor (t ∷ ts) [] = ⊥
AreTokensFor (t ∷ ts) (u ∷ out) = IsTokenFor t u × AreTokensFor ts out

-- of a JSON text this goes out, and all of it is shown
abbrev pub GoesOut : List ℕ → List ℕ → Type 0
GoesOut text out = (ts : List Token) × (IsUtf8 text → AreTokensFor (tokens text) ts) × AreShownTokens ts × (out ≡ print ts)

-- ---- notifications

-- the version of a document, if the client gave one
abbrev pub version_tokens : Option ℤ → List Token
version_tokens None = []
version_tokens (Some n) = key (codes "version") ∷ number (signed_decimal n) ∷ []

-- what comes before the diagnostics of a document of a name, as the Language Server Protocol has it
abbrev pub head_tokens : List ℕ → Option ℤ → List Token
head_tokens uri version =
    begin_object ∷ key (codes "jsonrpc") ∷ string (codes "2.0")
    ∷ key (codes "method") ∷ string (codes "textDocument/publishDiagnostics")
    ∷ key (codes "params") ∷ begin_object ∷ key (codes "uri") ∷ string uri
    ∷ (version_tokens version ++ key (codes "diagnostics") ∷ [])

-- the notification of the diagnostics of a document
abbrev pub published : List ℕ → Option ℤ → List ℕ → List ℕ
published uri version diagnostics = print (head_tokens uri version) ++ (diagnostics ++ codes "}}")

-- a notification is that of what goes out of these diagnostics
abbrev pub IsNoticeOf : List ℕ → Option ℤ → List ℕ → List ℕ → Type 0
IsNoticeOf uri version diagnostics text = (out : List ℕ) × GoesOut diagnostics out × (text ≡ published uri version out)

-- a notification is one of diagnostics that are shown, but for the client's own name of the document
abbrev pub IsNotice : List ℕ → Type 0
IsNotice text = (uri : List ℕ) × (version : Option ℤ) × (out : List ℕ) × IsShownJson out × (text ≡ published uri version out)

abbrev pub AreNotices : List (List ℕ) → Type 0
AreNotices [] = ⊤
AreNotices (text ∷ texts) = IsNotice text × AreNotices texts
