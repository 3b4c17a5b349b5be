-- What fails fails so whatever stands behind the token at fault: heads, callbacks and files.
use Rattle.std.proofs.Common.{◌≡◌, true, List, ◌++◌, refl, sym, ap, ◌∙◌}
use Rattle.flt_syntax.specs.declared.fault.SyntaxFault.{SyntaxFault}
use Rattle.flt_syntax.specs.declared.token.Kind.TheVariants as k
use Rattle.flt_tree.specs.Names.{Text}
use Rattle.flt_tree.specs.declared.filter.Callback.{Callback}
use Rattle.flt_tree.specs.declared.filter.Lock.{Lock}
use Rattle.flt_syntax.specs.FirstWords.{begins_head}
use Rattle.flt_syntax.specs.Scope.{Scope}
use Rattle.flt_syntax.specs.Cursor.{Input, front}
use Rattle.flt_syntax.specs.FileFails as bad
use Rattle.flt_syntax.specs.FileFails.{NewNameFails, HeadFails, CallbackFails, CallbacksFails, LocksFails, FileFails}
use Rattle.flt_syntax.specs.TextFails.{ReadFailsNowhere}
use Rattle.flt_prefix.specs.Prefix.{is_of_token, NothingGoesOn}
use Rattle.flt_prefix.proofs.Detached.{other_kind, next_free, meant_free, name_free, number_free}
use Rattle.flt_prefix.proofs.DetachedFiles.{head_free, callback_free, locks_free, queue_free}
use Rattle.flt_prefix.proofs.Stuck.{Stuck, same_front, stuck_shift, stuck_by, stuck_at, not_five, not_six, refused_at, refused_again}
use Rattle.flt_prefix.proofs.Stuck.{next_is, next_stuck, meant_stuck, name_stuck, number_stuck, statements_stuck}

new_name_stuck : {text : Text} {found : List Callback} {i : Input} {f : SyntaxFault} → NewNameFails text found i f →
    is_of_token f.kind ≡ true → Stuck (NewNameFails text found) i f
new_name_stuck (bad.no_name h) e = stuck_by (name_stuck h e) (λ z same y. bad.no_name y)
new_name_stuck (bad.name_twice p t) e = elim (not_five e) [ ]

head_stuck : {text : Text} {found : List Callback} {i : Input} {f : SyntaxFault} → HeadFails text found i f → is_of_token f.kind ≡ true →
    Stuck (HeadFails text found) i f
head_stuck (bad.no_head {i = i} b r) e =
    stuck_at i (refused_at r) (λ z same. bad.no_head (next_is begins_head i z b same) (refused_again r z same))
head_stuck (bad.event_twice p t) e = elim (not_five e) [ ]
head_stuck (bad.callback_too_many m b t) e = elim (not_six e) [ ]
head_stuck (bad.pre few n h) e =
    let dn = next_free refl n in stuck_shift dn (stuck_by (meant_stuck h e) (λ z same y. bad.pre few (dn.again z) y))
head_stuck (bad.post few n h) e =
    let dn = next_free refl n in stuck_shift dn (stuck_by (meant_stuck h e) (λ z same y. bad.post few (dn.again z) y))
head_stuck (bad.deferred_pre few n h) e =
    let dn = next_free refl n in stuck_shift dn (stuck_by (new_name_stuck h e) (λ z same y. bad.deferred_pre few (dn.again z) y))
head_stuck (bad.deferred_post few n h) e =
    let dn = next_free refl n in stuck_shift dn (stuck_by (new_name_stuck h e) (λ z same y. bad.deferred_post few (dn.again z) y))
head_stuck (bad.generic few n h) e =
    let dn = next_free refl n in stuck_shift dn (stuck_by (new_name_stuck h e) (λ z same y. bad.generic few (dn.again z) y))

callback_stuck : {scope : Scope} {found : List Callback} {i : Input} {f : SyntaxFault} → CallbackFails scope found i f →
    is_of_token f.kind ≡ true → Stuck (CallbackFails scope found) i f
callback_stuck (bad.head h) e = stuck_by (head_stuck h e) (λ z same y. bad.head y)
callback_stuck (bad.too_great p fresh few big) e = elim (not_six e) [ ]
callback_stuck (bad.brace p fresh few h) e =
    let dp = head_free p in stuck_shift dp (stuck_by (next_stuck h e) (λ z same y. bad.brace (dp.again z) fresh few y))
callback_stuck (bad.body p fresh few n h) e =
    let dp = head_free p in let dn = next_free refl n in stuck_shift dp (stuck_shift dn (stuck_by
    (statements_stuck h e) (λ z same y. bad.body (dp.again (dn.taken ++ z)) fresh few (dn.again z) y)))

callbacks_stuck : {scope : Scope} {found : List Callback} {i : Input} {f : SyntaxFault} → CallbacksFails scope found i f →
    is_of_token f.kind ≡ true → Stuck (CallbacksFails scope found) i f
callbacks_stuck (bad.here h) e = stuck_by (callback_stuck h e) (λ z same y. bad.here y)
callbacks_stuck (bad.later_callback {j = j} p fresh few small n h) e =
    let dp = callback_free p in
    stuck_shift dp (stuck_by (callbacks_stuck h e) (λ z same y.
    bad.later_callback (dp.again z) fresh few small (other_kind k.End j z n same) y))

locks_stuck : {text : Text} {found : List Lock} {i : Input} {f : SyntaxFault} → LocksFails text found i f → is_of_token f.kind ≡ true →
    Stuck (LocksFails text found) i f
locks_stuck (bad.sort n h) e =
    let dn = next_free refl n in stuck_shift dn (stuck_by (meant_stuck h e) (λ z same y. bad.sort (dn.again z) y))
locks_stuck (bad.no_lock_name n p h) e =
    let dn = next_free refl n in let dp = meant_free (refl, refl, refl) p in stuck_shift dn (stuck_shift dp (stuck_by
    (name_stuck h e) (λ z same y. bad.no_lock_name (dn.again (dp.taken ++ z)) (dp.again z) y)))
locks_stuck (bad.lock_twice n p q t) e = elim (not_five e) [ ]
locks_stuck (bad.lock_too_many n p q t m) e = elim (not_six e) [ ]
locks_stuck (bad.later_lock n p q t few h) e =
    let dn = next_free refl n in let dp = meant_free (refl, refl, refl) p in let dq = name_free q in
    stuck_shift dn (stuck_shift dp (stuck_shift dq (stuck_by (locks_stuck h e)
    (λ z same y. bad.later_lock (dn.again (dp.taken ++ (dq.taken ++ z))) (dp.again (dq.taken ++ z)) (dq.again z) t few y))))

-- a file that fails at a token fails so whatever stands behind it
pub file_stuck : {text : Text} {i : Input} {f : SyntaxFault} → FileFails text i f → is_of_token f.kind ≡ true → Stuck (FileFails text) i f
file_stuck (bad.filter h) e = stuck_by (next_stuck h e) (λ z same y. bad.filter y)
file_stuck (bad.no_filter_name n h) e =
    let dn = next_free refl n in stuck_shift dn (stuck_by (name_stuck h e) (λ z same y. bad.no_filter_name (dn.again z) y))
file_stuck (bad.altitude n m h) e =
    let dn = next_free refl n in let dm = name_free m in stuck_shift dn (stuck_shift dm (stuck_by (next_stuck h e)
    (λ z same y. bad.altitude (dn.again (dm.taken ++ z)) (dm.again z) y)))
file_stuck (bad.number n m x h) e =
    let dn = next_free refl n in let dm = name_free m in let dx = next_free refl x in
    stuck_shift dn (stuck_shift dm (stuck_shift dx (stuck_by (number_stuck h e)
    (λ z same y. bad.number (dn.again (dm.taken ++ (dx.taken ++ z))) (dm.again (dx.taken ++ z)) (dx.again z) y))))
file_stuck (bad.locks n m x p low high h) e =
    let dn = next_free refl n in let dm = name_free m in let dx = next_free refl x in let dp = number_free p in
    stuck_shift dn (stuck_shift dm (stuck_shift dx (stuck_shift dp (stuck_by
    (locks_stuck h e) (λ z same y. bad.locks (dn.again (dm.taken ++ (dx.taken ++ (dp.taken ++ z)))) (dm.again (dx.taken ++
    (dp.taken ++ z))) (dx.again (dp.taken ++ z)) (dp.again z) low high y)))))
file_stuck (bad.callbacks {e = b} {l = l} n m x p low high y over new few q v h) e =
    let dn = next_free refl n in let dm = name_free m in let dx = next_free refl x in let dp = number_free p in
    let dy = locks_free y in let dq = queue_free q in
    stuck_shift dn (stuck_shift dm (stuck_shift dx (stuck_shift dp
    (stuck_shift dy (stuck_shift dq (stuck_by (callbacks_stuck h e) (λ z same c.
    bad.callbacks (dn.again (dm.taken ++ (dx.taken ++ (dp.taken ++ (dy.taken ++ (dq.taken ++ z))))))
    (dm.again (dx.taken ++ (dp.taken ++ (dy.taken ++ (dq.taken ++ z))))) (dx.again (dp.taken ++ (dy.taken ++ (dq.taken ++ z))))
    (dp.again (dy.taken ++ (dq.taken ++ z))) low high (dy.again (dq.taken ++ z))
    (other_kind k.Lock b (dq.taken ++ z) over (same_front dq.taken l z same ∙ sym (ap front dq.parts))) new few
    (dq.again z).0 ((dq.again z).1 v same) c)))))))

-- so with these tokens no filter is spelled
pub nothing_goes_on : ReadFailsNowhere → NothingGoesOn
nothing_goes_on law text i f h e =
    let v = file_stuck h e in
    record {
      before = v.before;
      rest = v.rest;
      parts = v.parts;
      place = v.place;
      none = λ z same filter r. law text (v.before ++ z) filter f r (v.again z same);
    }
