use Rattle.std.proofs.Common.{◌≡◌, ◌++◌, [], ◌∷◌, false, true, refl, length, map, ap, sym, ◌∙◌, arith}
use Rattle.std.proofs.lemmas.List.{length-map}
use Rattle.std.specs.Prelude.{Some}
use Rattle.flt_c_headers.specs.World.{base_after, file_of}
use Rattle.flt_c_headers.specs.declared.headers.HeaderFile.{HeaderFile}
use Rattle.flt_c_headers.proofs.Asking.{one_pushed, room_told, sound_more, with_room, without_room}
use Rattle.flt_c_headers.proofs.headers.Headers.add_found.Goals as goal

pub returns-then-not-has_room-clause-added : goal.returns-then-not-has_room-clause-added
returns-then-not-has_room-clause-added c =
    let s = c.self.inside in
    let counted : c.len-count.result ≡ length s.files.items = omega (arith, c.len-count.ensures, s.files.ok.0) in
    let room =
    room_told s.files.items c.len-count.result s.next c.args.bytes.items c.as_slice.result.now c.has_room.result false counted
    c.self.invariant.next_is c.as_slice.ensures.value c.has_room.ensures c.if-not-has_room.true in
    without_room (map (λ t. t.items) s.asked.keys) (map (λ t. t.items) c.note.new.asked.keys) s.answers.items c.note.new.answers.items
    (map file_of s.files.items) s.tokens.items c.args.self.now c.args.name.now c.self.view_is c.in_ok-note.ensures.asked c.args.bytes.items
    room c.in_ok-note.ensures.answers

pub invariant_of-self-2 : goal.invariant_of-self-2
invariant_of-self-2 c =
    let s = c.self.inside in
    let counted : c.len-count.result ≡ length s.files.items = omega (arith, c.len-count.ensures, s.files.ok.0) in
    let room =
    room_told s.files.items c.len-count.result s.next c.args.bytes.items c.as_slice.result.now c.has_room.result true counted
    c.self.invariant.next_is c.as_slice.ensures.value c.has_room.ensures c.if-not-has_room.false in
    let f : HeaderFile = record { name = c.in_ok-own.own; bytes = c.args.bytes; base = s.next } in
    let pushed =
    one_pushed s.files.items c.reserve.new.self.items c.push_reserved.new.self.items f c.args.name.now c.args.bytes.items
    (base_after (map file_of s.files.items)) c.in_ok-reserve.ensures.items c.push_reserved.ensures.items c.in_ok-own.ensures.items refl
    c.self.invariant.next_is in
    sound_more (map (λ t. t.items) s.asked.keys) (map (λ t. t.items) c.note-2.new.asked.keys) s.answers.items c.note-2.new.answers.items
    (map file_of s.files.items) (map file_of c.push_reserved.new.self.items) s.tokens.items s.next c.len.result c.args.name.now
    c.args.bytes.items (Some c.len-count.result) c.self.invariant room c.in_ok-note-2.ensures.asked c.in_ok-note-2.ensures.answers pushed
    (omega (arith, c.len.ensures, c.args.bytes.ok.0))

pub returns-clause-added : goal.returns-clause-added
returns-clause-added c =
    let s = c.self.inside in
    let counted : c.len-count.result ≡ length s.files.items = omega (arith, c.len-count.ensures, s.files.ok.0) in
    let room =
    room_told s.files.items c.len-count.result s.next c.args.bytes.items c.as_slice.result.now c.has_room.result true counted
    c.self.invariant.next_is c.as_slice.ensures.value c.has_room.ensures c.if-not-has_room.false in
    let f : HeaderFile = record { name = c.in_ok-own.own; bytes = c.args.bytes; base = s.next } in
    let pushed =
    one_pushed s.files.items c.reserve.new.self.items c.push_reserved.new.self.items f c.args.name.now c.args.bytes.items
    (base_after (map file_of s.files.items)) c.in_ok-reserve.ensures.items c.push_reserved.ensures.items c.in_ok-own.ensures.items refl
    c.self.invariant.next_is in
    with_room (map (λ t. t.items) s.asked.keys) (map (λ t. t.items) c.note-2.new.asked.keys) s.answers.items c.note-2.new.answers.items
    (map file_of s.files.items) s.tokens.items c.args.self.now c.args.name.now c.self.view_is c.in_ok-note-2.ensures.asked
    c.args.bytes.items (map file_of c.push_reserved.new.self.items) room
    (c.in_ok-note-2.ensures.answers
    ∙ ap (λ n. s.answers.items ++ Some n ∷ []) (counted ∙ sym (length-map s.files.items file_of)))
    pushed
