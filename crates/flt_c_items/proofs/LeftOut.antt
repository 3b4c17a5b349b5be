-- Chunks are all tokens of a file, one after another.
use Rattle.std.proofs.Common.{◌≡◌, ℕ, suc, ◌+◌, ◌<◌, ◌≤◌, Bool, true, false, List, [], ◌∷◌, ◌++◌, length, Option, Some, None, IfSome}
use Rattle.std.proofs.Common.{refl, sym, subst, append_assoc, arith}
use Rattle.std.proofs.lemmas.Bool.{cond_both, ltb-true, ltb-false}
use Rattle.std.specs.Prelude.{◌&&◌, ◌==◌, nat_lt, option_to_list}
use Rattle.flt_c_tokens.specs.declared.token.Kind.{Kind}
use Rattle.flt_c_tokens.specs.declared.token.Kind.TheVariants as k
use Rattle.flt_c_tokens.specs.declared.token.Token.{Token}
use Rattle.flt_c_items.specs.Cutting.{Follow, broken, broken_by, chunks, chunks_from, cut_off_by, ending, ends_before, fresh, going_on}
use Rattle.flt_c_items.specs.Cutting.{is_head, left, rest_of, second_after, second_by, taken, taken_by}
use Rattle.flt_c_items.specs.Fronts.{advanced, front_from, inside, outside}
use Rattle.flt_c_items.specs.Groups.{turned}
use Rattle.flt_c_items.specs.Kinds.{begins, ends_front, same_kind}
use Rattle.flt_c_items.specs.declared.chunk.Chunk.{Chunk}
use Rattle.flt_c_items.specs.declared.chunk.Ending.{Ending}
use Rattle.flt_c_items.specs.declared.front.Front.{Front}
use Rattle.flt_c_items.specs.declared.state.State.{State}
use Rattle.flt_c_items.specs.declared.words.Words.{Words}

-- the state of a chunk, where `at` tokens stand before the next one: a second front begins behind the chunk's first token
abbrev Second : ℕ → ℕ → Option Front → Type 0
Second at from second = IfSome second (λ f. (from < f.from) × (f.from ≤ at))

record Cut (at : ℕ) (s : State) : Type 0 where
  from : s.front.from ≤ at
  second : Second at s.front.from s.second

-- a chunk leads from its first token to the next chunk's; where there is none, the chunk is still the same
abbrev Leads : ℕ → Option Chunk → ℕ → Type 0
Leads from None to = from ≡ to
Leads from (Some c) to = (c.from ≡ from) × ((from < c.to) × (c.to ≡ to))

join : (a b to : ℕ) (o : Option Chunk) (cs : List Chunk) → Leads a o b → Follow b cs to → Follow a (option_to_list o ++ cs) to
join a b to None cs h f = subst (λ n. Follow n cs to) (sym h) f
join a b to (Some c) cs h f = (h.0, (h.1.0, subst (λ n. Follow n cs to) (sym h.1.1) f))

-- ---- a front keeps its beginning

advanced_from : (words : Words) (front : Front) (at : ℕ) (t : Token) → (advanced words front at t).from ≡ front.from
unfolding advanced
advanced_from words front at t =
    cond_both (front.depth == 0) (outside words front at t) (inside front t) (λ f. f.from ≡ front.from) (λ _. refl) (λ _. refl)

less : (a b : ℕ) → nat_lt a b ≡ true → a < b
less a b e = ltb-true a b e

both : (x y : Bool) → (x && y) ≡ true → x ≡ true
both true y e = refl
both false y e = e

later : (at from : ℕ) (second : Option Front) → Second at from second → Second (at + 1) from second
later at from None h = tt
later at from (Some f) h = (h.0, omega (arith, h.1))

second_by_keeps : (words : Words) (from at : ℕ) (second : Option Front) (t : Token) → Second at from second →
    Second (at + 1) from (second_by second words from at t)
second_by_keeps words from at None t h =
    cond_both (nat_lt from at && (begins t.kind && t.column == 1)) (Some (advanced words (front_from at) at t)) None (Second (at + 1) from)
    (λ e.
    let same = advanced_from words (front_from at) at t in
    let more = less from at (both (nat_lt from at) _ e) in
    (subst (λ n. from < n) (sym same) more, subst (λ n. n ≤ at + 1) (sym same) (omega arith)))
    (λ _. tt)
second_by_keeps words from at (Some f) t h =
    let same = advanced_from words f at t in
    (subst (λ n. from < n) (sym same) h.0, subst (λ n. n ≤ at + 1) (sym same) (omega (arith, h.1)))

second_keeps : (words : Words) (s : State) (at : ℕ) (t : Token) → Cut at s → Second (at + 1) s.front.from (second_after words s at t)
second_keeps words s at t c =
    cond_both (ends_front t.kind) None (second_by s.second words s.front.from at t) (Second (at + 1) s.front.from)
    (λ _. tt) (λ _. second_by_keeps words s.front.from at s.second t c.second)

-- ---- before a token

cut_off_second : (at from : ℕ) (second : Option Front) (kind : Kind) → Second at from second → Second at from (cut_off_by second kind)
cut_off_second at from None kind h = tt
cut_off_second at from (Some f) kind h =
    cond_both (same_kind kind k.OpenBrace && is_head f) (Some f) None (Second at from) (λ _. h) (λ _. tt)

broken_leads : (o : Option Front) (s : State) (at : ℕ) (t : Token) → Cut at s → Second at s.front.from o →
    Leads s.front.from (broken_by o s at t).0 (broken_by o s at t).1.front.from × Cut at (broken_by o s at t).1
broken_leads (Some f) s at t c h = ((refl, (h.0, refl)), record { from = h.1; second = tt })
broken_leads None s at t c h =
    cond_both {A = Option Chunk × State} (ends_before s at t)
    (Some (record { from = s.front.from; to = at; ending = left s.front }), fresh at s.regions) (None, s)
    (λ p. Leads s.front.from p.0 p.1.front.from × Cut at p.1)
    (λ e. ((refl, (less s.front.from at (both (nat_lt s.front.from at) _ e), refl)), record { from = omega arith; second = tt }))
    (λ _. (refl, c))

-- ---- with a token

going_on_keeps : (words : Words) (s : State) (at : ℕ) (t : Token) → Cut at s →
    (s.front.from ≡ (going_on words s at t).front.from) × Cut (at + 1) (going_on words s at t)
unfolding going_on
going_on_keeps words s at t c =
    let same = advanced_from words s.front at t in
    let up : s.front.from ≤ at = c.from in (
      sym same,
      record {
        from = subst (λ n. n ≤ at + 1) (sym same) (omega (arith, up));
        second = subst (λ n. Second (at + 1) n (going_on words s at t).second) (sym same)
            (cond_both ((turned t.kind s.front.depth s.groups).0 == 0) None (second_after words s at t) (Second (at + 1) s.front.from)
            (λ _. tt) (λ _. second_keeps words s at t c));
      },
    )

taken_leads : (o : Option Ending) (words : Words) (s : State) (at : ℕ) (t : Token) → Cut at s →
    Leads s.front.from (taken_by o words s at t).0 (taken_by o words s at t).1.front.from × Cut (at + 1) (taken_by o words s at t).1
taken_leads (Some e) words s at t c =
    let up : s.front.from ≤ at = c.from in
    ((refl, (omega (arith, up), refl)), record { from = omega arith; second = tt })
taken_leads None words s at t c = going_on_keeps words s at t c

-- ---- all tokens

rest_follows : (s : State) (at : ℕ) → Cut at s → Follow s.front.from (rest_of s at) at
rest_follows s at c =
    let up : s.front.from ≤ at = c.from in
    cond_both (nat_lt s.front.from at) (record { from = s.front.from; to = at; ending = left s.front } ∷ []) []
    (λ cs. Follow s.front.from cs at)
    (λ e. (refl, (less s.front.from at e, refl)))
    (λ e. let down = ltb-false s.front.from at e in omega (arith, up, down))

chunks_follow : (words : Words) (s : State) (at : ℕ) (ts : List Token) → Cut at s →
    Follow s.front.from (chunks_from words s at ts) (at + length ts)
unfolding broken taken
chunks_follow words s at [] c =
    let none : at ≡ at + 0 = omega arith in
    subst (λ n. Follow s.front.from (rest_of s at) n) none (rest_follows s at c)
chunks_follow words s at (t ∷ ts) c =
    let before = broken s at t in
    let one = broken_leads (cut_off_by s.second t.kind) s at t c (cut_off_second at s.front.from s.second t.kind c.second) in
    let with = taken words before.1 at t in
    let two = taken_leads (ending before.1 t.kind) words before.1 at t one.1 in
    let cs = chunks_from words with.1 (at + 1) ts in
    let to = at + suc (length ts) in
    let end : at + 1 + length ts ≡ to = omega arith in
    let more = subst (λ n. Follow with.1.front.from cs n) end (chunks_follow words with.1 (at + 1) ts two.1) in
    let rest = join before.1.front.from with.1.front.from to with.0 cs two.0 more in
    subst (λ cs. Follow s.front.from cs to) (sym (append_assoc (option_to_list before.0) (option_to_list with.0) cs))
    (join s.front.from before.1.front.from to before.0 (option_to_list with.0 ++ cs) one.0 rest)

pub chunks_are_all : (words : Words) (ts : List Token) → Follow 0 (chunks words ts) (length ts)
unfolding chunks
chunks_are_all words ts =
    let all : 0 + length ts ≡ length ts = omega arith in
    subst (λ n. Follow 0 (chunks_from words (fresh 0 0) 0 ts) n) all
    (chunks_follow words (fresh 0 0) 0 ts (record { from = omega arith; second = tt }))
