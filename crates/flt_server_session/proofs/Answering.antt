-- What an answer to a body is, from what it is for the value that is read.
use Rattle.std.proofs.Common.{◌≡◌, ℕ, List, Option, Some, None, Result, Ok, Err, IfOk, OnOk, option_map, refl}
use Rattle.std.specs.declared.alloc.AllocError.{AllocError}
use Rattle.flt_server_frames.specs.Handling.{reply_of}
use Rattle.flt_server_frames.specs.declared.handler.MessageAnswer.{MessageAnswer}
use Rattle.json.specs.Json.{Json}
use Rattle.flt_server_session.specs.Answers.{Answers, IsAnswered, IsRead, IsReported, after_body, end_of_body, of_body, report_of_body}
use Rattle.flt_server_session.specs.Commands.{Report}
use Rattle.flt_server_session.specs.Kept.{AreKept}
use Rattle.flt_server_session.specs.Outgoing.{GoesOut}
use Rattle.flt_server_session.specs.Replies as replies
use Rattle.flt_server_session.specs.declared.document.KeptText.{KeptText}
use Rattle.flt_server_session.specs.declared.session.Session.{Session}

-- what is read is answered
pub answered : (most : List ℕ → ℕ) (reports : List ℕ → KeptText → List ℕ → Type 0) (r : Result MessageAnswer AllocError)
    (old new : Session) (body : List ℕ) (read : Option Json) → IsRead body read → IfOk r (Answers (of_body old read) (end_of_body old.phase read)) →
    IfOk r (λ a. IsReported reports (report_of_body old read) (option_map (λ v. v.items) a.response)) →
    OnOk r (new.phase ≡ after_body old.phase read) → (AreKept most old.documents → AreKept most new.documents) →
    IfOk r (λ a. IsAnswered most reports old body (reply_of a) new)
answered most reports (Ok a) old new body read is answers report phase documents = record {
  read = read;
  is_read = is;
  response = answers.response;
  notices = answers.notices;
  report = report;
  ends = answers.ends;
  phase = phase;
  documents = documents;
}
answered most reports (Err e) old new body read is answers report phase documents = tt

-- what isn't JSON is refused, and the session stays
pub not_read : (most : List ℕ → ℕ) (reports : List ℕ → KeptText → List ℕ → Type 0) (r : Result MessageAnswer AllocError) (old : Session)
    (body : List ℕ) → IsRead body None → IfOk r (Answers (of_body old None) (end_of_body old.phase None)) →
    IfOk r (λ a. IsAnswered most reports old body (reply_of a) old)
not_read most reports (Ok a) old body is answers = answered most reports (Ok a) old old body None is answers tt refl (λ are. are)
not_read most reports (Err e) old body is answers = tt

-- what goes out of a result that the reporter may write is the report that is asked for
pub reported : (reports : List ℕ → KeptText → List ℕ → Type 0) (report : Report) (text : List ℕ) (r : Result MessageAnswer AllocError) →
    reports report.uri report.text text →
    IfOk r (λ a. (out : List ℕ) × GoesOut text out × (option_map (λ v. v.items) a.response ≡ Some (replies.answered report.id out))) →
    IfOk r (λ a. IsReported reports (Some report) (option_map (λ v. v.items) a.response))
reported reports report text (Ok a) may is = (text, is.0, may, is.1, is.2)
reported reports report text (Err e) may is = tt
