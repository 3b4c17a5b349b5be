use Rattle.std.proofs.Common.{refl}
use Rattle.flt_c_tokens.proofs.Cut.{begin_cut, end_cut, fits_after, full_at, piece_step, skip_step, still_there}
use Rattle.flt_c_tokens.proofs.lexer.read.Goals as goal

pub loop-rest-init : goal.loop-rest-init
loop-rest-init c =
    begin_cut c.args.file.now c.args.spellings.now c.new-found.result.items c.first-at.result c.requires.known c.new-found.ensures.items
    c.first-at.ensures

pub loop-rest-preserved-then-at-gt0 : goal.loop-rest-preserved-then-at-gt0
loop-rest-preserved-then-at-gt0 c =
    skip_step c.args.file.now c.loop-rest.rest.now c.args.spellings.now c.loop-rest.spellings c.loop-rest.found.items c.loop-rest.at
    c.past-at.result c.loop-rest.invariant c.if-at-gt0.true c.in-len1-up.len_at_least c.past-at.ensures

pub returns-in_err-add-clause-begins : goal.returns-in_err-add-clause-begins
returns-in_err-add-clause-begins c =
    still_there c.args.file.now c.loop-rest.rest.now c.args.spellings.now c.loop-rest.spellings c.add.new.spellings
    c.loop-rest.found.items c.loop-rest.at c.loop-rest.invariant c.in_err-add.ensures.kept

pub past-at-requires-in-Ok-clause-start : goal.past-at-requires-in-Ok-clause-start
past-at-requires-in-Ok-clause-start c =
    (fits_after c.args.file.now c.loop-rest.rest.now c.args.spellings.now c.loop-rest.spellings c.loop-rest.found.items c.loop-rest.at
    c.behind.result c.front-piece.result c.loop-rest.invariant c.requires.small c.behind.ensures).0

pub past-at-requires-in-Ok-clause-line : goal.past-at-requires-in-Ok-clause-line
past-at-requires-in-Ok-clause-line c =
    (fits_after c.args.file.now c.loop-rest.rest.now c.args.spellings.now c.loop-rest.spellings c.loop-rest.found.items c.loop-rest.at
    c.behind.result c.front-piece.result c.loop-rest.invariant c.requires.small c.behind.ensures).1

pub past-at-requires-in-Ok-clause-column : goal.past-at-requires-in-Ok-clause-column
past-at-requires-in-Ok-clause-column c =
    (fits_after c.args.file.now c.loop-rest.rest.now c.args.spellings.now c.loop-rest.spellings c.loop-rest.found.items c.loop-rest.at
    c.behind.result c.front-piece.result c.loop-rest.invariant c.requires.small c.behind.ensures).2

pub loop-rest-preserved : goal.loop-rest-preserved
loop-rest-preserved c =
    let added = rw c.in-Ok.is at c.in_ok-add.ensures.added in
    piece_step c.args.file.now c.loop-rest.rest.now c.args.spellings.now c.loop-rest.spellings c.add.new.spellings
    c.loop-rest.found.items c.add.new.found.items c.loop-rest.at c.behind.result c.past-at-in-Ok.result c.front-piece.result
    c.loop-rest.invariant c.if-at-gt0.false c.in-len1-up.len_at_least c.front-piece.ensures.value added c.behind.ensures
    c.past-at-in-Ok.ensures

pub returns-in-Err-clause-read : goal.returns-in-Err-clause-read
returns-in-Err-clause-read c =
    let full = rw c.in-Err.is at c.in_ok-add.ensures.added in
    full_at c.args.file.now c.loop-rest.rest.now c.args.spellings.now c.loop-rest.spellings c.loop-rest.found.items c.loop-rest.at
    c.front-piece.result c.in-Err.excess c.loop-rest.invariant c.if-at-gt0.false c.in-len1-up.len_at_least
    c.front-piece.ensures.value c.requires.small full.1

pub returns-in-Err-clause-begins : goal.returns-in-Err-clause-begins
returns-in-Err-clause-begins c =
    let full = rw c.in-Err.is at c.in_ok-add.ensures.added in
    still_there c.args.file.now c.loop-rest.rest.now c.args.spellings.now c.loop-rest.spellings c.add.new.spellings
    c.loop-rest.found.items c.loop-rest.at c.loop-rest.invariant full.0

pub returns-in_err-finish-clause-begins : goal.returns-in_err-finish-clause-begins
returns-in_err-finish-clause-begins c =
    still_there c.args.file.now c.loop-rest.rest.now c.args.spellings.now c.loop-rest.spellings c.loop-rest.spellings
    c.loop-rest.found.items c.loop-rest.at c.loop-rest.invariant refl

pub returns-clause-read : goal.returns-clause-read
returns-clause-read c =
    end_cut c.args.file.now c.loop-rest.rest.now c.args.spellings.now c.loop-rest.spellings c.loop-rest.found.items
    c.finish.new.found.items c.loop-rest.at c.loop-rest.invariant c.in_default.len_below c.in_ok-finish.ensures

pub returns-clause-begins : goal.returns-clause-begins
returns-clause-begins c =
    still_there c.args.file.now c.loop-rest.rest.now c.args.spellings.now c.loop-rest.spellings c.loop-rest.spellings
    c.loop-rest.found.items c.loop-rest.at c.loop-rest.invariant refl
