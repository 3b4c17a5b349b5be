-- A text that is put together letter by letter.
use Rattle.std.proofs.Common.{◌≡◌, ◌≤◌, ◌++◌, ℕ, List, [], String, chars, drop, encode_utf8_all, length, string_bytes, sym, subst, ◌∙◌}
use Rattle.std.proofs.lemmas.List.{append-nil, drop_all}
use Rattle.std.proofs.lemmas.Str.{IsUtf8-string_bytes, chars_from_encodes}
use Rattle.flt_explain_hints.specs.Nearness.{lowered}

-- its characters are those that were put there
chars_of : {Z : Type 0} (text : String Z) (letters : List ℕ) →
    string_bytes text ≡ encode_utf8_all letters → chars (string_bytes text) ≡ letters
chars_of text letters is = sym (chars_from_encodes letters (string_bytes text) (IsUtf8-string_bytes text) (sym is))

-- behind the last letter the text is the word in lower case
pub all_lowered : {Z : Type 0} (text : String Z) (word : List ℕ) (i : ℕ) → length word ≤ i →
    string_bytes text ++ encode_utf8_all (lowered (drop i word)) ≡ encode_utf8_all (lowered word) → chars (string_bytes text) ≡ lowered word
all_lowered text word i past is =
    let done : string_bytes text ++ [] ≡ encode_utf8_all (lowered word) =
    subst (λ xs. string_bytes text ++ encode_utf8_all (lowered xs) ≡ encode_utf8_all (lowered word)) (drop_all i word past) is in
    chars_of text (lowered word) (sym (append-nil (string_bytes text)) ∙ done)
