-- Where remaining lists stand, with the turns that are left, and where that leads. Each lemma of `Remaining.antt` on `Stands` has one
-- here that names the turns too.
use Rattle.std.proofs.Common.{◌≡◌, ℕ, zero, suc, ◌+◌, ◌-◌, ◌<◌, ◌≤◌, Bool, true, false, eqb, List}
use Rattle.std.proofs.Common.{[], ◌∷◌, ◌++◌, Option, Some, None, refl, sym, subst, arith}
use Rattle.std.proofs.lemmas.Bool.{eq-eqb, ne_eqb}
use Rattle.std.proofs.lemmas.List.{append-nil}
use Rattle.flt_tree.specs.Filter.{no_span}
use Rattle.flt_tree.specs.Measures.{points_of, points}
use Rattle.flt_tree.specs.declared.filter.Callback.{Callback}
use Rattle.flt_tree.specs.declared.filter.Condition.{Condition}
use Rattle.flt_tree.specs.declared.filter.Condition.TheVariants as condition
use Rattle.flt_tree.specs.declared.filter.Span.{Span}
use Rattle.flt_tree.specs.declared.filter.Statement.{Statement, out-Statement}
use Rattle.flt_tree.specs.declared.filter.Statement.TheOpen.{Statement-F}
use Rattle.flt_tree.specs.declared.filter.Statement.TheViews.{outs-Repeat}
use Rattle.flt_graph.specs.Graph.{point_in}
use Rattle.flt_graph.specs.Lowering.{IsGraphOf}
use Rattle.flt_graph.specs.Points.{entry, instruction_of, choice, In, top, later, granted_block, refused_block, turn}
use Rattle.flt_graph.specs.Points.{Stands, end, before, again, remaining_turns, remaining_of, remaining, successor}
use Rattle.flt_graph.specs.Turns.{turns_in, turns_at, AreBegun, AreBegunRound, StandsWith}
use Rattle.flt_graph.specs.Turns.{StandsAtWith, left_at, turns_round, turns_after, HasLeft}
use Rattle.flt_graph.specs.declared.graph.CallbackGraph.{CallbackGraph}
use Rattle.flt_graph.specs.declared.instruction.Instruction.TheVariants as instruction
use Rattle.flt_graph.specs.declared.turns.Turn.{Turn}

-- ---- turns are of earlier points

-- each turn is of a point before this one
abbrev AreBefore : List Turn → ℕ → Type 0
AreBefore [] n = Unit {0}
AreBefore (t ∷ turns) n = t.point < n × AreBefore turns n

still_before : (turns : List Turn) (n m : ℕ) → n ≤ m → AreBefore turns n → AreBefore turns m
still_before [] n m more h = tt
still_before (t ∷ turns) n m more h = (omega (arith, more, h.0), still_before turns n m more h.1)

turns_before : {body block : List Statement} {n q : ℕ} {follows : List Statement} (i : In body block n q follows) → AreBefore (turns_in i) n
turns_before top = tt
turns_before (later {s = s} {n = n} i) = still_before (turns_in i) n (n + points_of s) (omega arith) (turns_before i)
turns_before (granted_block {n = n} i is) = still_before (turns_in i) n (n + 1) (omega arith) (turns_before i)
turns_before (refused_block {yes_block = yes_block} {n = n} i is) =
    still_before (turns_in i) n (n + 1 + points yes_block) (omega arith) (turns_before i)
turns_before (turn {n = n} i is less) = (omega arith, still_before (turns_in i) n (n + 1) (omega arith) (turns_before i))

-- a `repeat` that isn't in progress has the text's turns
fresh_left : (turns : List Turn) (n text : ℕ) → AreBefore turns n → left_at n text turns ≡ text
fresh_left [] n text h = refl
fresh_left (t ∷ turns) n text h =
    let differs : eqb t.point n ≡ false = ne_eqb t.point n (λ same. absurd (omega (arith, h.0, same))) in rw differs refl

fresh_round : (turns : List Turn) (n : ℕ) → AreBefore turns n → turns_round n turns ≡ turns
fresh_round [] n h = refl
fresh_round (t ∷ turns) n h =
    let differs : eqb t.point n ≡ false = ne_eqb t.point n (λ same. absurd (omega (arith, h.0, same))) in rw differs refl

-- a `repeat` in progress has those of its turn
begun_left : (turns : List Turn) (n left text : ℕ) → left_at n text (record { point = n; left = left } ∷ turns) ≡ left
begun_left turns n left text = let same : eqb n n ≡ true = eq-eqb n n refl in rw same refl

begun_round : (turns : List Turn) (n left : ℕ) → turns_round n (record { point = n; left = left } ∷ turns) ≡ turns
begun_round turns n left = let same : eqb n n ≡ true = eq-eqb n n refl in rw same refl

-- ---- where lists stand

-- a block stands at its first statement, or where what follows it stands
block_with : {body follows : List Statement} {n q : ℕ} (block : List Statement) (i : In body block n q follows) → AreBegun i →
    StandsWith body q (turns_in i) follows → StandsWith body (entry block n q) (turns_in i) (block ++ follows)
block_with [] i b u = u
block_with (s ∷ rest) i b u = record { stands = before i; turns_are = refl; begun = b }

-- what follows a block stands at its point, with the turns round the block
follows_with : {body block follows : List Statement} {n q : ℕ} (i : In body block n q follows) → AreBegun i →
    StandsWith body q (turns_in i) follows
follows_with top b = record { stands = end; turns_are = refl; begun = tt }
follows_with (later i) b = follows_with i b
follows_with (granted_block {rest = rest} i o) b = block_with rest (later i) b (follows_with i b)
follows_with (refused_block {rest = rest} i o) b = block_with rest (later i) b (follows_with i b)
follows_with (turn i o h) b = record { stands = again i o h; turns_are = refl; begun = b.1 }

stands_with : {body follows : List Statement} {n q : ℕ} (block : List Statement) (i : In body block n q follows) → AreBegun i →
    StandsWith body (entry block n q) (turns_in i) (block ++ follows)
stands_with block i b = block_with block i b (follows_with i b)

-- the body itself stands at 0 with no turns
pub whole_with : (body : List Statement) → StandsWith body 0 [] body
whole_with [] = record { stands = end; turns_are = refl; begun = tt }
whole_with (s ∷ rest) =
    subst (λ (l : List Statement). StandsWith (s ∷ rest) 0 [] (s ∷ l)) (append-nil rest)
    (record { stands = before top; turns_are = refl; begun = tt })

-- ---- where they lead

choice_with : {body : List Statement} {yes_at no_at : ℕ} (n : ℕ) (turns : List Turn) (granted refused follows : List Statement)
    (all : List Callback) (asked : Condition) (outcome : Bool) →
    StandsWith body yes_at turns (granted ++ follows) → StandsWith body no_at turns (refused ++ follows) →
    StandsAtWith body (successor (choice all asked yes_at no_at) outcome) (turns_after (choice all asked yes_at no_at) n outcome turns)
    (remaining_of (Statement-F.If no_span asked granted refused) follows outcome)
choice_with n turns granted refused follows all (condition.Test t) true u v = u
choice_with n turns granted refused follows all (condition.Test t) false u v = v
choice_with n turns granted refused follows all (condition.Succeeds c) true u v = u
choice_with n turns granted refused follows all (condition.Succeeds c) false u v = v

-- a `repeat` with so many turns left, where the turns round it are these
turns_with : {body rest follows block : List Statement} {s : Statement} {span : Span} {text n q : ℕ} (left : ℕ)
    (outcome : Bool) (turns : List Turn)
    (i : In body (s ∷ rest) n q follows) → AreBegun i → out-Statement s ≡ Statement-F.Repeat span text block → left ≤ text →
    left_at n text turns ≡ left → turns_round n turns ≡ turns_in i →
    StandsAtWith body (successor (instruction.Repeat text (entry block (n + 1) n) (entry rest (n + points_of s) q)) outcome)
    (turns_after (instruction.Repeat text (entry block (n + 1) n) (entry rest (n + points_of s) q)) n outcome turns)
    (remaining_turns span left block (rest ++ follows) outcome)
turns_with zero true turns i b o h is round = tt
turns_with {rest = rest} zero false turns i b o h is round = rw round (stands_with rest (later i) b)
turns_with {block = block} {text = text} {n = n} (suc left) true turns i b o h is round =
    let less : left_at n text turns - 1 ≡ left = omega (arith, is) in
    let most : left ≤ text = omega (arith, h) in
    let fewer : left < text = omega (arith, h) in
    rw (round, less) (stands_with block (turn i o most) (fewer, b))
turns_with (suc left) false turns i b o h is round = tt

layer_with : {body rest follows : List Statement} {s : Statement} {n q : ℕ} (all : List Callback) (layer : Statement-F Statement)
    (outcome : Bool) (i : In body (s ∷ rest) n q follows) → AreBegun i → out-Statement s ≡ layer →
    StandsAtWith body (successor (instruction_of all layer n (entry rest (n + points_of s) q)) outcome)
    (turns_after (instruction_of all layer n (entry rest (n + points_of s) q)) n outcome (turns_in i))
    (remaining_of layer (rest ++ follows) outcome)
layer_with {rest = rest} all (Statement-F.Act span action) outcome i b o = stands_with rest (later i) b
layer_with {rest = rest} all (Statement-F.Call span call) true i b o = stands_with rest (later i) b
layer_with {rest = rest} all (Statement-F.Call span call) false i b o = stands_with rest (later i) b
layer_with all (Statement-F.Return span status) outcome i b o = tt
layer_with {rest = rest} {follows = follows} {n = n} all (Statement-F.If span asked granted refused) outcome i b o =
    choice_with n (turns_in i) granted refused (rest ++ follows) all asked outcome
    (stands_with granted (granted_block i o) b) (stands_with refused (refused_block i o) b)
layer_with {n = n} all (Statement-F.Repeat span text block) outcome i b o =
    turns_with text outcome (turns_in i) i b o (omega arith)
    (fresh_left (turns_in i) n text (turns_before i)) (fresh_round (turns_in i) n (turns_before i))

at_end : (body : List Statement) (p : Option ℕ) (turns : List Turn) → StandsAtWith body p turns None
at_end body None turns = tt
at_end body (Some p) turns = tt

leads_with : (all : List Callback) (c : Callback) (g : CallbackGraph) (p : ℕ) (list : List Statement) (outcome : Bool) → IsGraphOf all c g →
    (st : Stands c.body p list) → AreBegunRound st →
    StandsAtWith c.body (successor (point_in g p).instruction outcome)
    (turns_after (point_in g p).instruction p outcome (turns_at st)) (remaining list outcome)
leads_with all c g p list outcome made end b =
    at_end c.body (successor (point_in g p).instruction outcome) (turns_after (point_in g p).instruction p outcome [])
leads_with all c g p list outcome made (before {s = s} {rest = rest} {n = n} {q = q} {follows = follows} i) b =
    rw (made.statements s rest follows n q i) (layer_with all (out-Statement s) outcome i b refl)
leads_with all c g p list outcome made
    (again {s = s} {rest = rest} {block = block} {span = span} {turns = text} {left = left} {n = n} {q = q} {follows = follows} i o h) b =
    rw (made.statements s rest follows n q i, o, outs-Repeat span left block)
    (turns_with left outcome (record { point = n; left = left } ∷ turns_in i) i b o h (begun_left (turns_in i) n left text)
    (begun_round (turns_in i) n left))

-- what remains after an outcome stands at its successor, with the turns after it
pub next_with : (all : List Callback) (c : Callback) (g : CallbackGraph) (p : ℕ) (turns : List Turn) (list : List Statement)
    (outcome : Bool) →
    IsGraphOf all c g → StandsWith c.body p turns list →
    StandsAtWith c.body (successor (point_in g p).instruction outcome) (turns_after (point_in g p).instruction p outcome turns)
    (remaining list outcome)
next_with all c g p turns list outcome made h =
    subst (λ (ts : List Turn). StandsAtWith c.body (successor (point_in g p).instruction outcome)
    (turns_after (point_in g p).instruction p outcome ts) (remaining list outcome)) h.turns_are
    (leads_with all c g p list outcome made h.stands h.begun)

-- ---- how many turns are left

layer_left : (all : List Callback) (layer : Statement-F Statement) (n next : ℕ) (turns : List Turn) → AreBefore turns n →
    HasLeft n turns (instruction_of all layer n next) layer
layer_left all (Statement-F.Act span action) n next turns h = tt
layer_left all (Statement-F.Call span call) n next turns h = tt
layer_left all (Statement-F.Return span status) n next turns h = tt
layer_left all (Statement-F.If span (condition.Test t) granted refused) n next turns h = tt
layer_left all (Statement-F.If span (condition.Succeeds c) granted refused) n next turns h = tt
layer_left all (Statement-F.Repeat span text block) n next turns h = sym (fresh_left turns n text h)

first_left : (all : List Callback) (c : Callback) (g : CallbackGraph) (p : ℕ) (s : Statement) (rest : List Statement) → IsGraphOf all c g →
    (st : Stands c.body p (s ∷ rest)) → HasLeft p (turns_at st) (point_in g p).instruction (out-Statement s)
first_left all c g p _ rest made (before {s = s} {rest = more} {n = n} {q = q} {follows = follows} i) =
    rw (made.statements s more follows n q i) (layer_left all (out-Statement s) n _ (turns_in i) (turns_before i))
first_left all c g p _ rest made (again {s = t} {rest = more} {block = block} {span = span} {turns = text} {left = left} {n = n}
    {q = q} {follows = follows} i o h) =
    rw (made.statements t more follows n q i, o, outs-Repeat span left block) (sym (begun_left (turns_in i) n left text))

-- where a list begins with a `repeat`, its turns are those that are left at the point
pub left_with : (all : List Callback) (c : Callback) (g : CallbackGraph) (p : ℕ) (turns : List Turn) (s : Statement)
    (rest : List Statement) →
    IsGraphOf all c g → StandsWith c.body p turns (s ∷ rest) → HasLeft p turns (point_in g p).instruction (out-Statement s)
left_with all c g p turns s rest made h =
    subst (λ (ts : List Turn). HasLeft p ts (point_in g p).instruction (out-Statement s)) h.turns_are
    (first_left all c g p s rest made h.stands)
