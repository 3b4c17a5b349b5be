use Rattle.std.proofs.Common.{◌≡◌, ◌<◌, ◌≤◌, ◌+◌, ◌-◌, ◌∙◌, ◌++◌, [], min, ap, inr, length, take, append-nil, arith, rules}
use Rattle.std.proofs.KnownBytes.{Consumes-trans}
use Rattle.std.proofs.lemmas.List.{length-append, length-take, length-take-le}
use Rattle.flt_files.proofs.Ended.{read_too_long}
use Rattle.flt_files.proofs.Lengths.{kept_more_of, kept_read}
use Rattle.flt_files.specs.Inputs.{kept}
use Rattle.flt_files.proofs.inputs.read_text_within.Goals as goal
use Rattle.flt_rules.specs.Limits.{max_text}

pub returns-in-Ok-eq0-clause-all : goal.returns-in-Ok-eq0-clause-all
returns-in-Ok-eq0-clause-all g c =
    let held = c.loop.invariant.so_far in
    let some : 0 < length c.take.new.buffer = search rules in
    let end = c.in-Ok-eq0.ensures.bytes.1 c.in-Ok-eq0.field-0-test some in
    let none = rw c.in-Ok-eq0.field-0-test at c.in-Ok-eq0.ensures.bytes.0 in
    kept_read _ _ (held.0 ++ []) _ (Consumes-trans _ _ _ held.0 [] held.1 none) end (rw (append-nil held.0) held.2)

pub returns-then-total-gt-MAX_INPUT-clause-none : goal.returns-then-total-gt-MAX_INPUT-clause-none
returns-then-total-gt-MAX_INPUT-clause-none g c =
    let held = c.loop.invariant.so_far in
    let piece = take c.in-Ok.n c.take.new.buffer in
    let count : length piece ≡ c.in-Ok.n = length-take-le c.in-Ok.n c.take.new.buffer c.in-Ok.ensures.bound.0 in
    let whole : length (held.0 ++ piece) ≡ length held.0 + length piece = length-append held.0 piece in
    inr (read_too_long _ _ (held.0 ++ piece) (Consumes-trans _ _ _ held.0 piece held.1 c.in-Ok.ensures.bytes.0)
    (omega (arith, count, whole, held.3, c.if-total-gt-MAX_INPUT.true)))

pub loop-preserved : goal.loop-preserved
loop-preserved g c =
    let held = c.loop.invariant.so_far in
    let piece = take c.in-Ok.n c.take.new.buffer in
    let count : length piece ≡ c.in-Ok.n = length-take-le c.in-Ok.n c.take.new.buffer c.in-Ok.ensures.bound.0 in
    let whole : length (held.0 ++ piece) ≡ length held.0 + length piece = length-append held.0 piece in
    let few : c.loop.total + c.in-Ok.n ≤ 67108864 = omega (arith, c.if-total-gt-MAX_INPUT.false) in
    let len : c.len.result ≡ length c.loop.kept.items = c.len.ensures ∙ c.loop.kept.ok.0 in
    let room : c.smaller-room.result ≡ min ((max_text + 1) - length c.loop.kept.items) c.in-Ok.n =
    c.smaller-room.ensures ∙ ap (λ n. min ((max_text + 1) - n) c.in-Ok.n) len in
    let more : c.extend_from_slice.new.self.items ≡ kept (held.0 ++ piece) =
    c.in_ok-extend_from_slice.ensures.items
    ∙ rw room (kept_more_of held.0 c.take.new.buffer c.loop.kept.items c.in-Ok.n c.in-Ok.ensures.bound.0 held.2) in
    record {
      so_far =
          (held.0 ++ piece, Consumes-trans _ _ _ held.0 piece held.1 c.in-Ok.ensures.bytes.0, more, omega (arith, count, whole, held.3));
      few = few;
      room = rw (more, length-take (max_text + 1) (held.0 ++ piece)) (omega arith);
      fine = c.in-Ok.ensures.fine ∙ c.loop.invariant.fine;
      some = omega (arith, c.loop.invariant.some, c.in-Ok.n-test.1);
    }
