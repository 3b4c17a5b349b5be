-- One block or one `repeat` more is gone on with behind two blocks.
use Rattle.std.proofs.Common.{◌≡◌, ◌<◌, ◌+◌, ◌-◌, ℕ, zero, suc, true, false, List, [], ◌∷◌, ◌++◌, Option}
use Rattle.std.proofs.Common.{Some, None, length, get_or, set, take, reverse, refl, ap, ◌∙◌, arith}
use Rattle.std.specs.List.{slice_get}
use Rattle.std.specs.Option.{MatchOption}
use Rattle.std.proofs.lemmas.Option.{get_or_from_slice_get}
use Rattle.std.proofs.lemmas.List.{reverse-append}
use Rattle.std.specs.Borrow.{Bor}
use Rattle.flt_tree.specs.declared.filter.Statement.{Statement}
use Rattle.flt_replay_records.specs.Behind.{is_place, parts_from, parts_of, TurnsBegun, TurnsLast}
use Rattle.flt_replay_records.specs.declared.behind.OpenRepeat.{OpenRepeat}
use Rattle.flt_replay_records.specs.declared.rest.Part.{Part}
use Rattle.flt_replay_records.specs.declared.rest.Part.TheVariants.{Block, Repeat}

-- ---- the last one

-- without blocks nothing is gone on with
pub nothing_left : (blocks : List (Bor (List Statement))) (repeats : List OpenRepeat) → blocks ≡ [] → parts_of blocks repeats ≡ []
unfolding parts_from
nothing_left blocks repeats e = rw e refl

block_first : (b : Bor (List Statement)) (blocks : List (Bor (List Statement))) (repeats : List OpenRepeat) → is_place b.now ≡ false →
    parts_from (b ∷ blocks) repeats ≡ Block b ∷ parts_from blocks repeats
unfolding parts_from
block_first b blocks [] h = refl
block_first b blocks (r ∷ repeats) h = rw h refl

repeat_first : (b : Bor (List Statement)) (blocks : List (Bor (List Statement))) (r : OpenRepeat) (repeats : List OpenRepeat) →
    is_place b.now ≡ true →
    parts_from (b ∷ blocks) (r ∷ repeats) ≡ Repeat r.span r.turns r.body ∷ parts_from blocks repeats
unfolding parts_from
repeat_first b blocks r repeats h = rw h refl

alone_first : (b : Bor (List Statement)) (blocks : List (Bor (List Statement))) →
    parts_from (b ∷ blocks) [] ≡ Block b ∷ parts_from blocks []
unfolding parts_from
alone_first b blocks = refl

some_left : (block : List Statement) → 0 < length block → is_place block ≡ false
some_left [] h = absurd (omega (arith, h))
some_left (s ∷ block) h = refl

none_left : (block : List Statement) → length block < 1 → is_place block ≡ true
none_left [] h = refl
none_left (s ∷ block) h = absurd (omega (arith, h))

-- the last one of a list is the first the other way round
module _ (b : Bor (List Statement)) (blocks : List (Bor (List Statement))) where
  round : reverse (blocks ++ b ∷ []) ≡ b ∷ reverse blocks
  round = reverse-append blocks (b ∷ [])

module _ (p : Part) (ps : List Part) where
  back : reverse (p ∷ ps) ≡ reverse ps ++ p ∷ []
  back = reverse-append (p ∷ []) ps

-- a block that isn't empty is the last part
pub block_last : (old blocks : List (Bor (List Statement))) (b : Bor (List Statement)) (repeats : List OpenRepeat) →
    old ≡ blocks ++ b ∷ [] →
    0 < length b.now → parts_of old repeats ≡ parts_of blocks repeats ++ Block b ∷ []
block_last old blocks b repeats e h =
    ap (λ (bs : List (Bor (List Statement))). reverse (parts_from bs (reverse repeats))) (ap reverse e ∙ round b blocks)
    ∙ ap reverse (block_first b (reverse blocks) (reverse repeats) (some_left b.now h))
    ∙ back (Block b) (parts_from (reverse blocks) (reverse repeats))

-- where a block is empty though no `repeat` is left
pub block_alone : (old blocks : List (Bor (List Statement))) (b : Bor (List Statement)) (repeats : List OpenRepeat) →
    old ≡ blocks ++ b ∷ [] →
    repeats ≡ [] → parts_of old repeats ≡ parts_of blocks repeats ++ Block b ∷ []
block_alone old blocks b repeats e none =
    rw none
    (ap (λ (bs : List (Bor (List Statement))). reverse (parts_from bs [])) (ap reverse e ∙ round b blocks)
    ∙ ap reverse (alone_first b (reverse blocks)) ∙ back (Block b) (parts_from (reverse blocks) []))

-- a block that is empty stands for the last `repeat`
pub repeat_last : (old blocks : List (Bor (List Statement))) (b : Bor (List Statement)) (were repeats : List OpenRepeat) (r : OpenRepeat) →
    old ≡ blocks ++ b ∷ [] → length b.now < 1 → were ≡ repeats ++ r ∷ [] →
    parts_of old were ≡ parts_of blocks repeats ++ Repeat r.span r.turns r.body ∷ []
repeat_last old blocks b were repeats r e h f =
    ap (λ (bs : List (Bor (List Statement))). reverse (parts_from bs (reverse were))) (ap reverse e ∙ round b blocks)
    ∙ ap (λ (rs : List OpenRepeat). reverse (parts_from (b ∷ reverse blocks) rs)) (ap reverse f ∙ reverse-append repeats (r ∷ []))
    ∙ ap reverse (repeat_first b (reverse blocks) r (reverse repeats) (none_left b.now h))
    ∙ back (Repeat r.span r.turns r.body) (parts_from (reverse blocks) (reverse repeats))

-- its place is put behind the blocks
pub repeat_put : (new room old : List (Bor (List Statement))) (b : Bor (List Statement)) (are were : List OpenRepeat) (r : OpenRepeat) →
    new ≡ room ++ b ∷ [] → room ≡ old → b.now ≡ [] → are ≡ were ++ r ∷ [] →
    parts_of new are ≡ parts_of old were ++ Repeat r.span r.turns r.body ∷ []
repeat_put new room old b are were r e same empty f =
    let small : length b.now < 1 = rw empty (omega arith) in
    repeat_last new old b are were r (e ∙ ap (λ (bs : List (Bor (List Statement))). bs ++ b ∷ []) same) small f

-- ---- a turn of the last one

pub before_last : {X : Type 0} (xs : List X) (i : ℕ) (d : X) → i + 1 ≡ length xs → xs ≡ take i xs ++ get_or xs i d ∷ []
before_last [] i d h = absurd (omega (arith, h))
before_last (x ∷ []) zero d h = refl
before_last (x ∷ y ∷ xs) zero d h = absurd (omega (arith, h))
before_last {X} (x ∷ xs) (suc i) d h = ap (λ (l : List X). x ∷ l) (before_last xs i d (omega (arith, h)))

pub last_set : {X : Type 0} (xs : List X) (i : ℕ) (y : X) → i + 1 ≡ length xs → set xs i y ≡ take i xs ++ y ∷ []
last_set [] i y h = absurd (omega (arith, h))
last_set (x ∷ []) zero y h = refl
last_set (x ∷ z ∷ xs) zero y h = absurd (omega (arith, h))
last_set {X} (x ∷ xs) (suc i) y h = ap (λ (l : List X). x ∷ l) (last_set xs i y (omega (arith, h)))

pub turned_last : (old blocks : List (Bor (List Statement))) (b : Bor (List Statement))
    (were are : List OpenRepeat) (body : List Statement) →
    old ≡ blocks ++ b ∷ [] → length b.now < 1 → TurnsBegun were body are → TurnsLast (parts_of old were) body (parts_of old are)
unfolding TurnsBegun TurnsLast
turned_last old blocks b [] are body e h t = absurd (omega (arith, t.0))
turned_last old blocks b (x ∷ xs) are body e h t =
    let were = x ∷ xs in
    let i = length were - 1 in
    let l : i + 1 ≡ length were = omega (arith, t.0) in
    let r = get_or were i x in
    let is = t.1 x in
    let next : OpenRepeat = record r { turns = r.turns - 1 } in (
      parts_of blocks (take i were),
      Repeat r.span r.turns r.body,
      repeat_last old blocks b were (take i were) r e h (before_last were i x l),
      is.0,
      is.1,
      repeat_last old blocks b are (take i were) next e h (is.2 ∙ last_set were i next l),
    )

last_is : {X : Type 0} (xs : List X) (x : X) → slice_get xs (length xs - 1) ≡ Some x → xs ≡ take (length xs - 1) xs ++ x ∷ []
last_is [] x e = absurd (cc)
last_is {X} (y ∷ ys) x e =
    let xs = y ∷ ys in
    let i = length xs - 1 in
    before_last xs i y (omega arith) ∙ ap (λ (z : X). take i xs ++ z ∷ []) (get_or_from_slice_get xs i x y e)

-- what comes of a turn of the last `repeat`, where the last block is its place
pub turned_if : (old : List (Bor (List Statement))) (b : Bor (List Statement))
    (were are : List OpenRepeat) (r : Option (Bor (List Statement))) →
    slice_get old (length old - 1) ≡ Some b → length b.now < 1 →
    MatchOption r (are ≡ were) (λ body. TurnsBegun were body.now are) →
    MatchOption r (parts_of old are ≡ parts_of old were) (λ body. TurnsLast (parts_of old were) body.now (parts_of old are))
turned_if old b were are None s l h = ap (parts_of old) h
turned_if old b were are (Some body) s l h =
    turned_last old (take (length old - 1) old) b were are body.now (last_is old b s) l h
