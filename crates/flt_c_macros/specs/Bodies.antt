-- Bodies of macros, and arguments in the places of parameters.
use Rattle.std.specs.Prelude.{◌≡◌, ◌≤◌, ◌<◌, ℕ, ◌-◌, ◌==◌, nat_eq, nat_lt, length, Bool, false}
use Rattle.std.specs.Prelude.{◌&&◌, ◌||◌, if◌then◌else◌, List, [], ◌∷◌, ◌++◌, Option, Some, None}
use Rattle.std.specs.List.{list_any}
use Rattle.flt_c_tokens.specs.declared.token.Kind.TheVariants as k
use Rattle.flt_c_tokens.specs.declared.token.Token.{Token}
use Rattle.flt_c_macros.specs.declared.body.Given.{Given}
use Rattle.flt_c_macros.specs.declared.item.Word.{Word}
use Rattle.flt_c_macros.specs.Items.{placed, plain}
use Rattle.flt_c_macros.specs.Kinds.{same_kind}

-- the words of a body, at the place of a use
abbrev pub words_of : Token → List Token → List Word
words_of at [] = []
words_of at (b ∷ body) = plain (placed b at) ∷ words_of at body

-- a name stands in a body
abbrev pub has_name : ℕ → List Token → Bool
has_name name body = list_any (λ b. same_kind b.kind k.Name && nat_eq b.word name) body

-- a `#` or `##` stands in a body
abbrev pub has_sign : List Token → Bool
has_sign body = list_any (λ b. same_kind b.kind k.Hash || same_kind b.kind k.HashHash) body

-- `, ## __VA_ARGS__`, or the name that stands for `...`: the comma goes where nothing is given for the name
abbrev pub is_joint : Option ℕ → List Token → Bool
is_joint (Some rest) (c ∷ h ∷ v ∷ i) =
    same_kind c.kind k.Comma && same_kind h.kind k.HashHash && same_kind v.kind k.Name && nat_eq v.word rest
is_joint _ _ = false

-- how many tokens of a joint are left behind the next token, if so many are left before it
abbrev pub joint_after : Option ℕ → ℕ → List Token → ℕ
joint_after rest joint body = if nat_lt 0 joint then joint - 1 else (if is_joint rest body then 2 else 0)

-- the tokens of a body that are in no joint, of which so many tokens are left
abbrev pub apart : Option ℕ → ℕ → List Token → List Token
apart rest joint [] = []
apart rest joint (b ∷ body) =
    let next = joint_after rest joint (b ∷ body) in
    if joint == 0 && next == 0 then b ∷ apart rest next body else apart rest next body

-- the argument of a parameter
abbrev pub argument_of : List Given → ℕ → Option (List Word)
argument_of [] name = None
argument_of (g ∷ gs) name = if nat_eq g.name name then Some g.words else argument_of gs name

abbrev pub piece_by : Token → Token → Option (List Word) → List Word
piece_by at b None = plain (placed b at) ∷ []
piece_by at b (Some words) = words

-- what a token of a body becomes: a parameter its argument, another token itself at the place of the use
abbrev pub piece : List Given → Token → Token → List Word
piece given at b = piece_by at b (if same_kind b.kind k.Name then argument_of given b.word else None)

-- an argument as it stands
abbrev pub raw_of : List Given → Option ℕ → List Word
raw_of gs None = []
raw_of [] (Some name) = []
raw_of (g ∷ gs) (Some name) = if nat_eq g.name name then g.raw else raw_of gs (Some name)

-- a joint becomes its comma and the argument as it stands, or nothing
abbrev pub joined : Token → Token → List Word → List Word
joined at c [] = []
joined at c (w ∷ ws) = plain (placed c at) ∷ w ∷ ws

-- what the next token of a body becomes; those of a joint are its first one's
abbrev pub words_at : List Given → Option ℕ → Token → ℕ → Token → List Token → List Word
words_at given rest at joint b body =
    if nat_lt 0 joint then [] else (if is_joint rest body then joined at b (raw_of given rest) else piece given at b)

-- the words of a body with the arguments put in; of a joint so many tokens are left
abbrev pub filled : List Given → Option ℕ → Token → ℕ → List Token → List Word
filled given rest at joint [] = []
filled given rest at joint (b ∷ body) =
    words_at given rest at joint b (b ∷ body) ++ filled given rest at (joint_after rest joint (b ∷ body)) body

-- the code's answer: those words, or none where they are too many
abbrev pub IsFilled : List Word → ℕ → Option (List Word) → Type 0
IsFilled words limit None = limit ≤ length words
IsFilled words limit (Some found) = (found ≡ words) × (length words < limit)
