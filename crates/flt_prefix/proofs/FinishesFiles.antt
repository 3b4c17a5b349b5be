-- The tokens before an E03 begin a file, unless a lock's name must stand there, and the depth of blocks aside.
use Rattle.std.proofs.Common.{◌≡◌, ◌≤◌, ℕ, List, [], ◌∷◌, ◌++◌, refl, arith}
use Rattle.std.specs.Prelude.{is_some}
use Rattle.flt_rules.specs.declared.call.LockKind.TheVariants as locked
use Rattle.flt_syntax.specs.declared.fault.FaultKind.TheVariants.{E03}
use Rattle.flt_syntax.specs.declared.fault.SyntaxFault.{SyntaxFault}
use Rattle.flt_syntax.specs.declared.token.Kind.TheVariants as k
use Rattle.flt_syntax.specs.declared.token.Token.{Token}
use Rattle.flt_rules.specs.Limits.{max_altitude}
use Rattle.flt_tree.specs.Names.{Text}
use Rattle.flt_tree.specs.declared.filter.Lock.{Lock}
use Rattle.flt_syntax.specs.Grammar as grammar
use Rattle.flt_syntax.specs.Grammar.{LocksAt}
use Rattle.flt_syntax.specs.Words as words
use Rattle.flt_syntax.specs.Words.{NumberAt}
use Rattle.flt_syntax.specs.Scope.{Scope}
use Rattle.flt_syntax.specs.Cursor.{Input, kind}
use Rattle.flt_syntax.specs.WordFails as word_fails
use Rattle.flt_syntax.specs.WordFails.{NumberFails}
use Rattle.flt_syntax.specs.FileFails as file
use Rattle.flt_syntax.specs.FileFails.{LocksFails, FileFails}
use Rattle.flt_prefix.specs.Prefix as prefix
use Rattle.flt_prefix.specs.Prefix.{AsksNoLock, AnyCallbacksAt, AnyFileAt, FileBegins}
use Rattle.flt_prefix.proofs.Detached.{next_free, meant_free, name_free, number_free}
use Rattle.flt_prefix.proofs.DetachedFiles.{locks_free, queue_free}
use Rattle.flt_prefix.proofs.Finishes.{Finishes, a_token, not_five, not_six, refused_at, fin_shift, fin_more}
use Rattle.flt_prefix.proofs.Finishes.{fin_by, fin_at, next_fin, meant_fin, name_fin, below, callbacks_fin}

-- the number 1
abbrev one : Token
one = record { word = record { kind = k.Number; value = 1 }; position = record { line = 1; column = 1 }; start = 0; end = 0 }

altitude_fin : {i : Input} {f : SyntaxFault} → NumberFails 1 max_altitude i f → f.kind ≡ E03 →
    Finishes (λ j n o. NumberAt j n o × (n ≡ 1)) i f
altitude_fin (word_fails.no_number {i = i} n r) e = fin_at i (one ∷ []) (refused_at r e) (λ o. (1, (words.number refl, refl)))
altitude_fin (word_fails.too_low p l) e = elim (not_six e) [ ]
altitude_fin (word_fails.too_high p l) e = elim (not_six e) [ ]

at_least : (n : ℕ) → n ≡ 1 → 1 ≤ n
at_least n e = omega (arith, e)

at_most : (n : ℕ) → n ≡ 1 → n ≤ max_altitude
at_most n e = omega (arith, e)

-- "canceled" "{" "}"
abbrev a_callback : Input
a_callback = a_token k.Canceled ∷ (a_token k.OpenBrace ∷ (a_token k.CloseBrace ∷ []))

said : (scope : Scope) (o : Input) → AnyCallbacksAt scope (a_callback ++ o) o
said scope o = prefix.last (prefix.callback {d = 0} (grammar.canceled (words.next refl)) (words.next refl) grammar.empty (words.next refl))

locks_fin : {text : Text} {found : List Lock} {i : Input} {f : SyntaxFault} → LocksFails text found i f → f.kind ≡ E03 →
    Finishes (LocksAt text) i f
locks_fin (file.sort n h) e =
    let dn = next_free refl n in
    fin_shift dn (fin_more (a_token k.Name ∷ []) (meant_fin k.Spin locked.Spin refl h e) (λ j o u y.
    (_, grammar.one_lock (dn.again j) y (words.name refl) grammar.no_lock)))
locks_fin (file.no_lock_name n p h) e =
    let dn = next_free refl n in let dp = meant_free (refl, refl, refl) p in
    fin_shift dn (fin_shift dp (fin_by (name_fin h e) (λ j o u y.
    (_, grammar.one_lock (dn.again (dp.taken ++ j)) (dp.again j) y grammar.no_lock))))
locks_fin (file.lock_twice n p q t) e = elim (not_five e) [ ]
locks_fin (file.lock_too_many n p q t m) e = elim (not_six e) [ ]
locks_fin (file.later_lock n p q t few h) e =
    let dn = next_free refl n in let dp = meant_free (refl, refl, refl) p in let dq = name_free q in
    fin_shift dn (fin_shift dp (fin_shift dq (fin_by (locks_fin h e) (λ j o u y.
    (_, grammar.one_lock (dn.again (dp.taken ++ (dq.taken ++ j))) (dp.again (dq.taken ++ j)) (dq.again j) y)))))

-- a file, if what is left is the end
abbrev pub FileTo : Text → Input → Unit {0} → Input → Type 0
FileTo text j u o = kind o ≡ k.End → AnyFileAt text j

-- a file that fails with an E03 is finished by other tokens in its place
pub file_fin : {text : Text} {i : Input} {f : SyntaxFault} → AsksNoLock i f → FileFails text i f → f.kind ≡ E03 → Finishes (FileTo text) i f
file_fin g (file.filter h) e =
    fin_more (a_token k.Name ∷ (a_token k.Altitude ∷ (one ∷ a_callback))) (next_fin h e) (λ j o u y. (
      tt,
      λ end.
          prefix.file y (words.name refl) (words.next refl) (words.number refl) (at_least 1 refl)
          (at_most 1 refl) grammar.no_lock grammar.no_queue (said _ o) end,
    ))
file_fin g (file.no_filter_name n h) e =
    let dn = next_free refl n in
    fin_shift dn (fin_more (a_token k.Altitude ∷ (one ∷ a_callback)) (name_fin h e) (λ j o u y. (
      tt,
      λ end.
          prefix.file (dn.again j) y (words.next refl) (words.number refl) (at_least 1 refl)
          (at_most 1 refl) grammar.no_lock grammar.no_queue (said _ o) end,
    )))
file_fin g (file.altitude n m h) e =
    let dn = next_free refl n in let dm = name_free m in
    fin_shift dn (fin_shift dm (fin_more (one ∷ a_callback) (next_fin h e) (λ j o u y. (
      tt,
      λ end.
          prefix.file (dn.again (dm.taken ++ j)) (dm.again j) y (words.number refl) (at_least 1 refl)
          (at_most 1 refl) grammar.no_lock grammar.no_queue (said _ o) end,
    ))))
file_fin g (file.number n m x h) e =
    let dn = next_free refl n in let dm = name_free m in let dx = next_free refl x in
    fin_shift dn (fin_shift dm (fin_shift dx (fin_more a_callback (altitude_fin h e)
    (λ j o u y. (
      tt,
      λ end.
          prefix.file (dn.again (dm.taken ++ (dx.taken ++ j))) (dm.again (dx.taken ++ j)) (dx.again j) y.0 (at_least u y.1) (at_most u y.1)
          grammar.no_lock grammar.no_queue (said _ o) end,
    )))))
file_fin g (file.locks n m x p low high h) e =
    let dn = next_free refl n in let dm = name_free m in let dx = next_free refl x in let dp = number_free p in
    fin_shift dn (fin_shift dm (fin_shift dx (fin_shift dp
    (fin_more a_callback (locks_fin h e) (λ j o u y. (
      tt,
      λ end.
          prefix.file (dn.again (dm.taken ++ (dx.taken ++ (dp.taken ++ j)))) (dm.again (dx.taken ++ (dp.taken ++ j))) (dx.again
          (dp.taken ++ j)) (dp.again j)
          low high y grammar.no_queue (said _ o) end,
    ))))))
file_fin {text = text} g (file.callbacks {ls = ls} {q = q} n m x p low high y over new few z v h) e =
    let dn = next_free refl n in let dm = name_free m in let dx = next_free refl x in let dp = number_free p in
    let dy = locks_free y in let dz = queue_free z in
    let inside = below dz.taken dz.parts (below dy.taken dy.parts (below dp.taken dp.parts (below dx.taken dx.parts (below dm.taken dm.parts
    (below dn.taken dn.parts g))))) in
    fin_shift dn (fin_shift dm (fin_shift dx (fin_shift dp
    (fin_shift dy (fin_shift dz
    (fin_by (callbacks_fin (record { text = text; locks = ls; queue = is_some q }) inside h e) (λ j o u c. (
      tt,
      λ end.
          prefix.file (dn.again (dm.taken ++ (dx.taken ++ (dp.taken ++ (dy.taken ++ (dz.taken ++ j))))))
          (dm.again (dx.taken ++ (dp.taken ++ (dy.taken ++ (dz.taken ++ j))))) (dx.again (dp.taken ++ (dy.taken ++ (dz.taken ++ j))))
          (dp.again (dy.taken ++ (dz.taken ++ j))) low high (dy.again (dz.taken ++ j)) (dz.again j).0 c end,
    ))))))))

-- the law of files
pub file_begins : FileBegins
file_begins text i f h e g =
    let v = file_fin g h e in
    let ended = a_token k.End ∷ [] in
    record {
      before = v.before;
      rest = v.rest;
      parts = v.parts;
      place = v.place;
      finish = v.finish ++ ended;
      spells = (v.spells ended).1 refl;
    }
