use Rattle.std.proofs.Common.{◌≡◌, ◌∙◌, Err, rules, refl, arith}
use Rattle.flt_server_frames.proofs.Served.{all_served, end_said, none_comes, none_served, one_served, still, stopped}
use Rattle.flt_server_frames.proofs.serving.serve.Goals as goal
use Rattle.flt_server_frames.proofs.serving.serve.Goals.{in-Body+in_ok-status-in-Body+in_default-2}
use Rattle.flt_server_frames.proofs.serving.serve.Goals.{in-TooLong+in_ok-status-in-TooLong+in_default-3}

pub loop-init : goal.loop-init
loop-init g c = record {
  served = none_served g.H.Handler.answers _ _ _;
  fine = refl;
  readable = refl;
}

pub loop-preserved : goal.loop-preserved
loop-preserved g c = elim c.match-branch-2.branch [
  | in-Body+in_ok-status-in-Body+in_default-2 w ↦
      let given = rw w.in-Body.is at c.in_ok-body.ensures.frame in
      let answered = rw w.as_slice.ensures.value at w.in_ok-status-in-Body.ensures.answered in
      let goes_on = rw w.in_default-2.is at (answered given.0) in
      record {
        served = rw (w.out-is, w.handler-is) (one_served g.H.Handler.answers _ _ _ _ _ _ _ _ _ _ w.in-Body.body.items
            c.loop.invariant.served given.1 goes_on);
        fine = rw w.out-is (w.in_ok-status-in-Body.ensures.fine ∙ c.loop.invariant.fine);
        readable = c.in_ok-body.ensures.fine ∙ c.loop.invariant.readable;
      }
  | in-TooLong+in_ok-status-in-TooLong+in_default-3 w ↦
      let given = rw w.in-TooLong.is at c.in_ok-body.ensures.frame in
      let goes_on = rw w.in_default-3.is at (w.in_ok-status-in-TooLong.ensures.answered given.0 given.1) in
      record {
        served = rw (w.out-is, w.handler-is) (one_served g.H.Handler.answers _ _ _ _ _ _ _ _ _ _ given.0
            c.loop.invariant.served given.2 goes_on);
        fine = rw w.out-is (w.in_ok-status-in-TooLong.ensures.fine ∙ c.loop.invariant.fine);
        readable = c.in_ok-body.ensures.fine ∙ c.loop.invariant.readable;
      }
]

pub returns-in_err-body-clause-so_far : goal.returns-in_err-body-clause-so_far
returns-in_err-body-clause-so_far g c = still c.from_residual.result (stopped g.H.Handler.answers _ _ _ _ _ _ _ c.loop.invariant.served)

pub returns-in_default-clause-served : goal.returns-in_default-clause-served
returns-in_default-clause-served g c =
    none_comes g.H.Handler.answers _ _ _ _ _ _ _ _ c.in_ok-body.field-0 c.loop.invariant.served c.in_ok-body.ensures.frame
    c.in_default.not-Body c.in_default.not-TooLong

pub returns-in_err-status-in-Body-clause-so_far : goal.returns-in_err-status-in-Body-clause-so_far
returns-in_err-status-in-Body-clause-so_far g c =
    let fails : c.from_residual-in_err-status-in-Body.result ≡ Err c.in_err-status-in-Body.field-0.0 = search rules in
    rw fails
    (λ other. rw (c.in_err-status-in-Body.ensures.memory other) (stopped g.H.Handler.answers _ _ _ _ _ _ _ c.loop.invariant.served))

pub returns-in_err-status-in-TooLong-clause-so_far : goal.returns-in_err-status-in-TooLong-clause-so_far
returns-in_err-status-in-TooLong-clause-so_far g c =
    let fails : c.from_residual-in_err-status-in-TooLong.result ≡ Err c.in_err-status-in-TooLong.field-0.0 = search rules in
    rw fails
    (λ other. rw (c.in_err-status-in-TooLong.ensures.memory other) (stopped g.H.Handler.answers _ _ _ _ _ _ _ c.loop.invariant.served))

pub returns-in-Some-clause-served : goal.returns-in-Some-clause-served
returns-in-Some-clause-served g c =
    let given = rw c.in-Body.is at c.in_ok-body.ensures.frame in
    let answered = rw c.as_slice.ensures.value at c.in_ok-status-in-Body.ensures.answered in
    let ends = rw c.in-Some.is at (answered given.0) in
    end_said g.H.Handler.answers _ _ _ _ _ _ _ _ _ _ c.in-Some.status c.in-Body.body.items c.loop.invariant.served given.1 ends

pub returns-in-Some-2-clause-served : goal.returns-in-Some-2-clause-served
returns-in-Some-2-clause-served g c =
    let given = rw c.in-TooLong.is at c.in_ok-body.ensures.frame in
    let ends = rw c.in-Some-2.is at (c.in_ok-status-in-TooLong.ensures.answered given.0 given.1) in
    end_said g.H.Handler.answers _ _ _ _ _ _ _ _ _ _ c.in-Some-2.status given.0 c.loop.invariant.served given.2 ends

pub returns-clause-served : goal.returns-clause-served
returns-clause-served g c =
    all_served g.H.Handler.answers _ _ _ _ _ _ _ c.loop.invariant.served (omega (arith, c.loop-test.false, c.loop.auto.counter-end))
