-- Responses to requests, as JSON-RPC 2.0 has them.
use Rattle.std.specs.Prelude.{ℕ, List, ◌++◌, codes}
use Rattle.flt_server_session.specs.declared.reply.Refusal.{Refusal}
use Rattle.flt_server_session.specs.declared.reply.Refusal.TheVariants.{NotJson, NoRequest, UnknownMethod, BadParams, NotInitialized, TooLong}

-- what each response begins with
abbrev pub head : List ℕ
head = codes "{\"jsonrpc\":\"2.0\",\"id\":"

-- what comes after the id of a message that is refused: the codes of JSON-RPC 2.0, and that of the Language Server Protocol
abbrev pub refusal_tail : Refusal → List ℕ
refusal_tail NotJson = codes ",\"error\":{\"code\":-32700,\"message\":\"the body isn't JSON\"}}"
refusal_tail NoRequest = codes ",\"error\":{\"code\":-32600,\"message\":\"this is no request that may be made now\"}}"
refusal_tail UnknownMethod = codes ",\"error\":{\"code\":-32601,\"message\":\"the server doesn't know this method\"}}"
refusal_tail BadParams =
    codes ",\"error\":{\"code\":-32602,\"message\":\"the server doesn't know this command, or its argument is no open document\"}}"
refusal_tail NotInitialized = codes ",\"error\":{\"code\":-32002,\"message\":\"the server isn't initialized\"}}"
refusal_tail TooLong = codes ",\"error\":{\"code\":-32600,\"message\":\"the body has more than 16,777,216 bytes\"}}"

-- the response that refuses the message of an id
abbrev pub refused : List ℕ → Refusal → List ℕ
refused id refusal = head ++ (id ++ refusal_tail refusal)

-- the response to the request of an id with this result
abbrev pub answered : List ℕ → List ℕ → List ℕ
answered id text = (head ++ (id ++ codes ",\"result\":")) ++ (text ++ codes "}")

-- ---- notifications

-- the message to the user that a body is too long, as the Language Server Protocol has it: an error
abbrev pub too_long_notice : List ℕ
too_long_notice =
    codes "{\"jsonrpc\":\"2.0\",\"method\":\"window/showMessage\",\"params\":{\"type\":1,\"message\":\""
    ++ codes "the editor sent a message of more than 16,777,216 bytes: it isn't read, and a document in it isn't analysed\"}}"
