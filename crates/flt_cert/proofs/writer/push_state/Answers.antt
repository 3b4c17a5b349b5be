use Rattle.std.proofs.Common.{◌≡◌, ◌+◌, ◌++◌, ◌∷◌, []}
use Rattle.flt_abs.specs.Sets.{mode_bits, draining_bits}
use Rattle.flt_cert.specs.Format.{digits, locks_text}
use Rattle.flt_cert.proofs.WriteLaws.{five_fields}
use Rattle.flt_cert.proofs.writer.push_state.Goals as goal

pub returns : goal.returns
returns c =
    let s = c.args.state.now in
    let one : c.put_field.new.out.items ≡ c.args.out.now.items ++ (digits s.contexts ++ 32 ∷ []) = cc in
    let two : c.put_field-2.new.out.items ≡ c.put_field.new.out.items ++ (digits s.operations ++ 32 ∷ []) = cc in
    let three : c.put_digit.new.out.items ≡ c.put_field-2.new.out.items ++ (48 + mode_bits s.modes) ∷ 32 ∷ [] = cc in
    let four : c.put_digit-2.new.out.items ≡ c.put_digit.new.out.items ++ (48 + draining_bits s.draining) ∷ 32 ∷ [] = cc in
    let five : c.push_locks.new.out.items ≡ c.put_digit-2.new.out.items ++ locks_text s.locks = cc (c.in_ok-push_locks.ensures) in
    five_fields c.args.out.now.items (digits s.contexts) (digits s.operations) (locks_text s.locks) (48 + mode_bits s.modes)
    (48 + draining_bits s.draining)
    c.put_field.new.out.items c.put_field-2.new.out.items c.put_digit.new.out.items c.put_digit-2.new.out.items
    c.push_locks.new.out.items one two three four five
