use Rattle.std.proofs.Common.{◌≡◌, ◌+◌, ◌*◌, ◌<◌, ◌≤◌, ◌/◌, ◌-◌, ℕ, List, arith, drop, length, sym, ◌∙◌, ap, refl, subst}
use Rattle.std.proofs.lemmas.List.{length-drop}
use Rattle.flt_explain_timeline.proofs.Alike.{again_at, fold_alone, fold_here, shortest_ends, shortest_on, shortest_past}
use Rattle.flt_explain_timeline.specs.Folds as spec
use Rattle.flt_explain_timeline.specs.declared.folds.Fold.{Fold}
use Rattle.flt_explain_timeline.specs.declared.rows.Row.{Row}
use Rattle.flt_explain_timeline.proofs.folds.fold_at.Goals as goal

-- so many whole blocks are those that come again
whole : (told : List ℕ) (rows : List Row) (first block alike blocks : ℕ) →
    alike ≡ spec.alike told (drop first rows) (drop (first + block) rows) → blocks ≡ alike / block * block →
    blocks ≡ spec.again told (drop first rows) block
whole told rows first block alike blocks e f = f ∙ ap (λ n. n / block * block) e ∙ again_at told rows first block

-- a block that comes three times
here : (told : List ℕ) (rows : List Row) (first left block blocks : ℕ) → blocks ≡ spec.again told (drop first rows) block →
    spec.shortest told (drop first rows) left block ≡ spec.shortest told (drop first rows) 24 1 → 0 < left → block ≤ blocks / 2 →
    record { first = first; block = block; repeated = blocks } ≡ spec.first_fold told first (drop first rows)
here told rows first left block blocks e f some h =
    let P : ℕ → Type 0 = λ n. block ≤ n / 2 →
    record { first = first; block = block; repeated = n } ≡ spec.first_fold told first (drop first rows) in
    subst P (sym e) (fold_here told (drop first rows) first left block f some) h

-- one that doesn't
on : (told : List ℕ) (rows : List Row) (first left after block next blocks : ℕ) → blocks ≡ spec.again told (drop first rows) block →
    spec.shortest told (drop first rows) left block ≡ spec.shortest told (drop first rows) 24 1 → left ≡ after + 1 → block + 1 ≡ next →
    blocks / 2 < block → spec.shortest told (drop first rows) after next ≡ spec.shortest told (drop first rows) 24 1
on told rows first left after block next blocks e f g n h =
    let P : ℕ → Type 0 = λ k. k / 2 < block in
    ap (spec.shortest told (drop first rows) after) (sym n)
    ∙ sym (shortest_on told (drop first rows) left after block g (subst P e h)) ∙ f

pub returns-then-alike-block-clause-exact : goal.returns-then-alike-block-clause-exact
returns-then-alike-block-clause-exact c =
    here c.args.told.now c.args.rows.now c.args.first (25 - c.loop-block.block) c.loop-block.block c.whole_blocks-alike.result
    (whole c.args.told.now c.args.rows.now c.args.first c.loop-block.block c.repeated.result c.whole_blocks-alike.result
    c.repeated.ensures.exact c.whole_blocks-alike.ensures.exact)
    c.loop-block.invariant (omega arith) c.if-alike-block.true

pub loop-block-preserved : goal.loop-block-preserved
loop-block-preserved c =
    on c.args.told.now c.args.rows.now c.args.first (25 - c.loop-block.block) (25 - (c.loop-block.block + 1)) c.loop-block.block
    (c.loop-block.block + 1) c.whole_blocks-alike.result
    (whole c.args.told.now c.args.rows.now c.args.first c.loop-block.block c.repeated.result c.whole_blocks-alike.result
    c.repeated.ensures.exact c.whole_blocks-alike.ensures.exact)
    c.loop-block.invariant (omega arith) refl c.if-alike-block.false

pub returns-after-loop-block-clause-exact : goal.returns-after-loop-block-clause-exact
returns-after-loop-block-clause-exact c =
    fold_alone c.args.told.now (drop c.args.first c.args.rows.now) c.args.first
    (sym c.loop-block.invariant
    ∙ shortest_ends c.args.told.now (drop c.args.first c.args.rows.now) (25 - c.loop-block.block) c.loop-block.block (omega arith))

pub returns-then-block-rows-clause-exact : goal.returns-then-block-rows-clause-exact
returns-then-block-rows-clause-exact c =
    let short : length (drop c.args.first c.args.rows.now) < c.loop-block.block
    = omega (arith, length-drop c.args.first c.args.rows.now) in
    fold_alone c.args.told.now (drop c.args.first c.args.rows.now) c.args.first
    (sym c.loop-block.invariant
    ∙ shortest_past c.args.told.now (drop c.args.first c.args.rows.now) (25 - c.loop-block.block) c.loop-block.block short)
