-- What a session answers to the body of a message. The Language Server Protocol, version 3.17, and JSON-RPC 2.0.
use Rattle.std.specs.Prelude.{◌≡◌, ℕ, List, [], ◌∷◌, Bool, true, false, codes, if◌then◌else◌, Option, Some, None, ⊤, map, option_map}
use Rattle.std.specs.List.{list_any}
use Rattle.std.specs.Str.{IsUtf8, bytes_eq}
use Rattle.json.specs.Find.{get}
use Rattle.json.specs.Json.{Json, document}
use Rattle.json.specs.Print.{print}
use Rattle.json.specs.Tree.{json_tokens}
use Rattle.flt_server_frames.specs.Frames.{IsShort, IsTooLong}
use Rattle.flt_server_frames.specs.Handling as handling
use Rattle.flt_server_frames.specs.declared.handler.MessageAnswer.{MessageAnswer}
use Rattle.flt_server_session.specs.Commands.{Report, report_asked}
use Rattle.flt_server_session.specs.Kept.{AreKept}
use Rattle.flt_server_session.specs.Messages.{Message, malformed, reply, notification, request, message_of}
use Rattle.flt_server_session.specs.Outgoing.{AreNotices, GoesOut, IsShownJson}
use Rattle.flt_server_session.specs.Replies as replies
use Rattle.flt_server_session.specs.declared.document.Document.{Document}
use Rattle.flt_server_session.specs.declared.document.KeptText.{KeptText}
use Rattle.flt_server_session.specs.declared.method.Topic.{Topic}
use Rattle.flt_server_session.specs.declared.method.Topic.TheVariants.{Hover, Completion, Definition, References, Symbols, Folds, Actions}
use Rattle.flt_server_session.specs.declared.reply.Refusal.{Refusal}
use Rattle.flt_server_session.specs.declared.reply.Refusal.TheVariants.{NotJson, NoRequest, UnknownMethod, BadParams, NotInitialized, TooLong}
use Rattle.flt_server_session.specs.declared.phase.Phase.{Phase}
use Rattle.flt_server_session.specs.declared.phase.Phase.TheVariants.{Fresh, Ready, Stopped}
use Rattle.flt_server_session.specs.declared.session.Session.{Session}

-- ---- methods

abbrev pub is : List ℕ → List ℕ → Bool
is method name = bytes_eq method name

abbrev pub is_one_of : List (List ℕ) → List ℕ → Bool
is_one_of names method = list_any (λ name. bytes_eq method name) names

-- the methods that ask for words about a document
abbrev pub word_questions : List (List ℕ)
word_questions =
    codes "textDocument/hover" ∷ codes "textDocument/completion" ∷ codes "textDocument/documentSymbol"
    ∷ codes "textDocument/foldingRange" ∷ []

-- those that ask for places in a document, or for edits of it
abbrev pub place_questions : List (List ℕ)
place_questions = codes "textDocument/definition" ∷ codes "textDocument/references" ∷ codes "textDocument/codeAction" ∷ []

-- whether a method asks for words about a document; none if it doesn't ask about one
abbrev pub question_of : List ℕ → Option Bool
question_of method =
    if is_one_of word_questions method then Some true else (if is_one_of place_questions method then Some false else None)

-- whether an answer to a question has words
abbrev pub has_words : Topic → Bool
has_words Hover = true
has_words Completion = true
has_words Definition = false
has_words References = false
has_words Symbols = true
has_words Folds = true
has_words Actions = false

-- ---- responses

-- what response there is: none, the error of a message of an id, or some result for a request of an id, of which all may be shown
pub data Expected : Type 0 where
  no_response : Expected
  an_error : List ℕ → Refusal → Expected
  a_result : List ℕ → Expected
  a_shown_result : List ℕ → Expected

-- a response is as it must be
abbrev pub IsResponse : Expected → Option (List ℕ) → Type 0
IsResponse no_response r = r ≡ None
IsResponse (an_error id why) r = r ≡ Some (replies.refused id why)
IsResponse (a_result id) r = (text : List ℕ) × (r ≡ Some (replies.answered id text))
IsResponse (a_shown_result id) r = (text : List ℕ) × IsShownJson text × (r ≡ Some (replies.answered id text))

-- before `initialize`
abbrev pub of_first : List ℕ → List ℕ → Expected
of_first id method = if is method (codes "initialize") then a_result id else an_error id NotInitialized

-- of a question that asks for words or doesn't, or of what isn't known
abbrev pub of_asking : List ℕ → Option Bool → Expected
of_asking id None = an_error id UnknownMethod
of_asking id (Some false) = a_result id
of_asking id (Some true) = a_shown_result id

abbrev pub of_question : List ℕ → List ℕ → Expected
of_question id method = of_asking id (question_of method)

-- of a command, by the report that it asks for
abbrev pub of_report : List ℕ → Option Report → Expected
of_report id None = an_error id BadParams
of_report id (Some report) = a_shown_result id

abbrev pub is_command : List ℕ → Bool
is_command method = is method (codes "workspace/executeCommand")

-- of a command, a question, or what isn't known
abbrev pub of_other : List Document → List ℕ → List ℕ → Option Json → Expected
of_other documents id method params =
    if is_command method then of_report id (report_asked documents id params) else of_question id method

-- in a session
abbrev pub of_asked : List Document → List ℕ → List ℕ → Option Json → Expected
of_asked documents id method params =
    if is method (codes "initialize") then an_error id NoRequest
    else (if is method (codes "shutdown") then a_result id else of_other documents id method params)

-- of a request
abbrev pub of_request_in : Phase → List Document → List ℕ → List ℕ → Option Json → Expected
of_request_in Fresh documents id method params = of_first id method
of_request_in Ready documents id method params = of_asked documents id method params
of_request_in Stopped documents id method params = an_error id NoRequest

abbrev pub of_request : Session → List ℕ → List ℕ → Option Json → Expected
of_request session id method params = of_request_in session.phase session.documents id method params

abbrev pub no_id : List ℕ
no_id = codes "null"

-- the id of a request as it is written
abbrev pub id_text : Json → List ℕ
id_text id = print (json_tokens id)

-- of a message with these parameters
abbrev pub of_message : Session → Message → Option Json → Expected
of_message session malformed params = an_error no_id NoRequest
of_message session reply params = no_response
of_message session (notification method) params = no_response
of_message session (request id method) params = of_request session (id_text id) method params

abbrev pub params_of : Json → Option Json
params_of = get (codes "params")

-- of a body, where that is JSON
abbrev pub of_body : Session → Option Json → Expected
of_body session None = an_error no_id NotJson
of_body session (Some j) = of_message session (message_of j) (params_of j)

-- ---- reports

-- the report that a request asks for
abbrev pub report_of_request : Phase → List Document → List ℕ → List ℕ → Option Json → Option Report
report_of_request Fresh documents id method params = None
report_of_request Ready documents id method params = if is_command method then report_asked documents id params else None
report_of_request Stopped documents id method params = None

abbrev pub report_of_message : Session → Message → Option Json → Option Report
report_of_message session malformed params = None
report_of_message session reply params = None
report_of_message session (notification method) params = None
report_of_message session (request id method) params = report_of_request session.phase session.documents (id_text id) method params

-- the report that a body asks for
abbrev pub report_of_body : Session → Option Json → Option Report
report_of_body session None = None
report_of_body session (Some j) = report_of_message session (message_of j) (params_of j)

-- the result of a response is what goes out of the report that is asked for, if one is: of a document of a name, with what is kept of its
-- text, it may be written so
abbrev pub IsReported : (List ℕ → KeptText → List ℕ → Type 0) → Option Report → Option (List ℕ) → Type 0
IsReported reports None r = ⊤
IsReported reports (Some report) r =
    (text : List ℕ) × (out : List ℕ) × reports report.uri report.text text × GoesOut text out × (r ≡ Some (replies.answered report.id out))

-- ---- the end

-- the exit status: 0 after `shutdown`
abbrev pub exit_status : Phase → ℕ
exit_status Fresh = 1
exit_status Ready = 1
exit_status Stopped = 0

abbrev pub end_of_notification : Phase → List ℕ → Option ℕ
end_of_notification phase method = if is method (codes "exit") then Some (exit_status phase) else None

-- the server ends by the notification `exit` alone
abbrev pub end_of_message : Phase → Message → Option ℕ
end_of_message phase malformed = None
end_of_message phase reply = None
end_of_message phase (notification method) = end_of_notification phase method
end_of_message phase (request id method) = None

abbrev pub end_of_body : Phase → Option Json → Option ℕ
end_of_body phase None = None
end_of_body phase (Some j) = end_of_message phase (message_of j)

-- ---- how far the session is afterwards

abbrev pub after_request : Phase → List ℕ → Phase
after_request Fresh method = if is method (codes "initialize") then Ready else Fresh
after_request Ready method =
    if is method (codes "initialize") then Ready else (if is method (codes "shutdown") then Stopped else Ready)
after_request Stopped method = Stopped

abbrev pub after_message : Phase → Message → Phase
after_message phase malformed = phase
after_message phase reply = phase
after_message phase (notification method) = phase
after_message phase (request id method) = after_request phase method

abbrev pub after_body : Phase → Option Json → Phase
after_body phase None = phase
after_body phase (Some j) = after_message phase (message_of j)

-- ---- answers

-- an answer has the response that is expected, and ends the server so; its notifications are of diagnostics that are shown
pub record Answers (e : Expected) (end : Option ℕ) (a : MessageAnswer) : Type 0 where
  pub response : IsResponse e (option_map (λ v. v.items) a.response)
  pub notices : AreNotices (map (λ v. v.items) a.notifications.items)
  pub ends : a.ends ≡ end

-- a body is this JSON value, or none
abbrev pub IsRead : List ℕ → Option Json → Type 0
IsRead body (Some j) = IsUtf8 body × (document body ≡ Some j)
IsRead body None = IsUtf8 body → document body ≡ None

-- from the first session a body may be answered so, and the second is the session afterwards: it keeps no more of documents than it may if
-- the first doesn't. How many bytes a document may have is said by its name
pub record IsAnswered (most : List ℕ → ℕ) (reports : List ℕ → KeptText → List ℕ → Type 0)
    (old : Session) (body : List ℕ) (answer : handling.Reply) (new : Session) : Type 0 where
  pub read : Option Json
  pub is_read : IsRead body read
  pub response : IsResponse (of_body old read) answer.response
  pub notices : AreNotices answer.notifications
  pub report : IsReported reports (report_of_body old read) answer.response
  pub ends : answer.ends ≡ end_of_body old.phase read
  pub phase : new.phase ≡ after_body old.phase read
  pub documents : AreKept most old.documents → AreKept most new.documents

-- ---- bodies that are too long

-- the answer to a body that is too long, whatever it says: an error without an id, and a message to the user
abbrev pub too_long_reply : handling.Reply
too_long_reply = record {
  response = Some (replies.refused no_id TooLong);
  notifications = replies.too_long_notice ∷ [];
  ends = None;
}

-- from the first session any body may be answered so, and the second is the session afterwards: a body that is too long isn't read, and
-- changes nothing
pub data IsHandled (most : List ℕ → ℕ) (reports : List ℕ → KeptText → List ℕ → Type 0)
    (old : Session) (body : List ℕ) (answer : handling.Reply) (new : Session) : Type 0 where
  by_reading : IsShort body → IsAnswered most reports old body answer new → IsHandled most reports old body answer new
  by_length : IsTooLong body → answer ≡ too_long_reply → new ≡ old → IsHandled most reports old body answer new
