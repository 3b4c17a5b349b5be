-- The items of a file have all of its tokens, in order and each once.
use Rattle.std.proofs.Common.{◌≡◌, ℕ, ◌≤◌, List, [], ◌∷◌, ◌++◌, length, map, min, drop, sym, ap, ◌∙◌, arith, drop_of_length-le}
use Rattle.std.proofs.lemmas.List.Folds.{drop_split}
use Rattle.std.specs.Prelude.{flat_map, slice_range}
use Rattle.flt_c_tokens.specs.declared.token.Token.{Token}
use Rattle.flt_c_items.proofs.LeftOut.{chunks_are_all}
use Rattle.flt_c_items.specs.Cutting.{Follow as ChunksFollow, chunks}
use Rattle.flt_c_items.specs.Items.{Follow, ItemsFollow, NoTokenIsLeftOut, item, items}
use Rattle.flt_c_items.specs.Rows.{stretch}
use Rattle.flt_c_items.specs.declared.chunk.Chunk.{Chunk}
use Rattle.flt_c_items.specs.declared.words.Words.{Words}

-- chunks that stand one behind the other are such items
items_follow : (words : Words) (ts : List Token) (from : ℕ) (cs : List Chunk) (to : ℕ) → ChunksFollow from cs to →
    Follow from (map (item words ts) cs) to
unfolding item
items_follow words ts from [] to f = f
items_follow words ts from (c ∷ cs) to f = (f.0, (f.1.0, items_follow words ts c.to cs to f.1.1))

pub all_follow : ItemsFollow
unfolding items
all_follow words ts = items_follow words ts 0 (chunks words ts) (length ts) (chunks_are_all words ts)

follow_within : (from : ℕ) (cs : List Chunk) (n : ℕ) → ChunksFollow from cs n → from ≤ n
follow_within from [] n f = omega (arith, f)
follow_within from (c ∷ cs) n f = let rest = follow_within c.to cs n f.1.1 in omega (arith, f.1.0, rest)

stretch_is : (from to : ℕ) (ts : List Token) → from ≤ to → to ≤ length ts → stretch from to ts ≡ slice_range ts from to
unfolding stretch
stretch_is from to ts a b =
    let end : min to (length ts) ≡ to = omega (arith, b) in
    let begin : min from to ≡ from = omega (arith, a) in
    ap (λ n. slice_range ts (min from n) n) end ∙ ap (λ n. slice_range ts n to) begin

-- chunks that stand one behind the other have the tokens from the first on
tokens_are : (words : Words) (ts : List Token) (from : ℕ) (cs : List Chunk) → ChunksFollow from cs (length ts) →
    flat_map (λ i. stretch i.from i.to ts) (map (item words ts) cs) ≡ drop from ts
unfolding item
tokens_are words ts from [] f = sym (drop_of_length-le ts (omega (arith, f)))
tokens_are words ts from (c ∷ cs) f =
    let rest = flat_map (λ i. stretch i.from i.to ts) (map (item words ts) cs) in
    let within : c.to ≤ length ts = follow_within c.to cs (length ts) f.1.1 in
    let up : from ≤ c.to = omega (arith, f.1.0) in
    ap (λ n. stretch n c.to ts ++ rest) f.0
    ∙ (ap (λ z. z ++ rest) (stretch_is from c.to ts up within)
    ∙ (ap (λ z. slice_range ts from c.to ++ z) (tokens_are words ts c.to cs f.1.1)
    ∙ sym (drop_split ts from c.to up)))

pub no_token_is_left_out : NoTokenIsLeftOut
unfolding items
no_token_is_left_out words ts = tokens_are words ts 0 (chunks words ts) (chunks_are_all words ts)
