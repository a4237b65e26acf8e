-- Every row keeps what holds.
use Rattle.std.proofs.Common.{◌<◌, ℕ, List, [], ◌∷◌, ◌++◌, length, Option, Some, None, refl}
use Rattle.std.proofs.lemmas.Bool.{cond_both}
use Rattle.reply_frame.specs.declared.replies.Reply.{Reply, NotLeading, NoSuchShard, Taken as TakenWish}
use Rattle.history_frame.specs.declared.inputs.Call.{Call}
use Rattle.history_frame.specs.declared.inputs.Call.TheVariants.{Submit, Ask, Read, Request, Settled}
use Rattle.history_frame.specs.declared.inputs.Input.{Input}
use Rattle.history_frame.specs.declared.inputs.Input.TheVariants.{Deliver, Call as ACall, Tick, Lead, Stop, Restart}
use Rattle.log_base.specs.ClusterShape.{Shape}
use Rattle.message_frame.specs.declared.messages.Message.{Message}
use Rattle.message_frame.specs.declared.messages.Message.TheVariants.{Copy, CopyAck, Report, Least, Prepare, Promised, Lower, Accept, Accepted, Decide, Want}
use Rattle.message_frame.specs.declared.messages.Vote.{Vote}
use Rattle.record_frame.specs.declared.values.Lengths.{Lengths}
use Rattle.record_frame.specs.declared.values.Value.{Value}
use Rattle.paxos_model.specs.Leader.{Leader}
use Rattle.paxos_model.specs.Learner.{Wish}
use Rattle.paxos_model.specs.Votes.{Payload}
use Rattle.node_model.specs.Marks.{Running}
use Rattle.node_model.specs.OrdererNode.{Orderer}
use Rattle.node_model.specs.OrdererRow.{answered, call_row, finalises_unknown, message_row, on_least, on_request, on_settled, request_to, row}
use Rattle.agreement_law.specs.Invariant.{IsTrueMessage}
use Rattle.agreement_law.proofs.Counting.{accepted_keeps, decide_keeps, lower_keeps, promised_keeps, tick_keeps, want_keeps}
use Rattle.node_model.proofs.Turning.{ForSome}
use Rattle.agreement_law.proofs.Moves.{Here, RowKeeps, here_grows, same_moves, still_row}
use Rattle.agreement_law.proofs.Voting.{accept_keeps, lead_keeps, prepare_keeps}

-- only the lengths that were heard, the wishes and the reply change
memory_keeps : (n : ℕ) (lists : ℕ → List Payload) (ps : List Vote) (i : ℕ) (o : Orderer) (heard : Lengths) (wishes : List Wish) (reply : Reply) → Here n lists ps i o
    → RowKeeps n lists ps i (answered (record o { heard = heard; wishes = wishes }) reply)
memory_keeps n lists ps i o heard wishes reply h =
    still_row n lists ps i (answered (record o { heard = heard; wishes = wishes }) reply) refl
    (λ now g.
    let later = here_grows n lists ps i o h now g in
    same_moves n now ps i (Running (record o { heard = heard; wishes = wishes })) [] later.global (record { chosen = later.self.chosen; leads = later.self.leads }) (λ s a. absurd a))

least_keeps : (shape : Shape) (lists : ℕ → List Payload) (ps : List Vote) (i : ℕ) (o : Orderer) → Here shape.orderers lists ps i o → (shard : ℕ) (given : List ℕ)
    → RowKeeps shape.orderers lists ps i (on_least shape o shard given)
unfolding on_least
least_keeps shape lists ps i o h shard given = memory_keeps shape.orderers lists ps i o _ o.wishes _ h

request_keeps : (shape : Shape) (lists : ℕ → List Payload) (ps : List Vote) (i : ℕ) (o : Orderer) → Here shape.orderers lists ps i o → (l : Option Leader) (v : Value)
    → RowKeeps shape.orderers lists ps i (request_to shape o l v)
request_keeps shape lists ps i o h None v = memory_keeps shape.orderers lists ps i o o.heard o.wishes NotLeading h
request_keeps shape lists ps i o h (Some l) v =
    cond_both (finalises_unknown shape o.known v) (answered o NoSuchShard) (answered (record o { wishes = o.wishes ++ record { value = v; from = length o.known } ∷ [] }) (TakenWish (length o.known)))
    (λ c. RowKeeps shape.orderers lists ps i c)
    (λ e. memory_keeps shape.orderers lists ps i o o.heard o.wishes NoSuchShard h)
    (λ e. memory_keeps shape.orderers lists ps i o o.heard (o.wishes ++ record { value = v; from = length o.known } ∷ []) (TakenWish (length o.known)) h)

on_request_keeps : (shape : Shape) (lists : ℕ → List Payload) (ps : List Vote) (i : ℕ) (o : Orderer) → Here shape.orderers lists ps i o → (v : Value)
    → RowKeeps shape.orderers lists ps i (on_request shape o v)
unfolding on_request
on_request_keeps shape lists ps i o h v = request_keeps shape lists ps i o h o.leader v

settled_keeps : (n : ℕ) (lists : ℕ → List Payload) (ps : List Vote) (i : ℕ) (o : Orderer) → Here n lists ps i o → (v : Value) (from : ℕ)
    → RowKeeps n lists ps i (on_settled o v from)
unfolding on_settled
settled_keeps n lists ps i o h v from = memory_keeps n lists ps i o o.heard o.wishes _ h

message_row_keeps : (shape : Shape) (lists : ℕ → List Payload) (ps : List Vote) (i : ℕ) (o : Orderer) → Here shape.orderers lists ps i o
    → (m : Message) → IsTrueMessage shape.orderers lists ps m → ForSome (RowKeeps shape.orderers lists ps i) (message_row shape i (lists i) o m)
message_row_keeps shape lists ps i o h (Copy segment offset entry) t = tt
message_row_keeps shape lists ps i o h (CopyAck peer held) t = tt
message_row_keeps shape lists ps i o h (Report shard replica lengths) t = tt
message_row_keeps shape lists ps i o h (Least shard lengths) t = least_keeps shape lists ps i o h shard.0 lengths.length
message_row_keeps shape lists ps i o h (Prepare b f) t = prepare_keeps shape lists ps i o h b.0 f.0 t
message_row_keeps shape lists ps i o h (Promised b f who vs) t = promised_keeps shape lists ps i o h b.0 f.0 who vs t.1 t.2
message_row_keeps shape lists ps i o h (Lower b p) t = lower_keeps shape.orderers lists ps i o h b.0
message_row_keeps shape lists ps i o h (Accept b k v) t = accept_keeps shape lists ps i o h b.0 k.0 v t
message_row_keeps shape lists ps i o h (Accepted b k who) t = accepted_keeps shape lists ps i o h b.0 k.0 who t.1.0 t.1.1
message_row_keeps shape lists ps i o h (Decide k v) t = decide_keeps shape.orderers lists ps i o h k.0 v t
message_row_keeps shape lists ps i o h (Want k node) t = want_keeps shape.orderers lists ps i o h k.0 node.0

call_row_keeps : (shape : Shape) (lists : ℕ → List Payload) (ps : List Vote) (i : ℕ) (o : Orderer) → Here shape.orderers lists ps i o
    → (c : Call) → ForSome (RowKeeps shape.orderers lists ps i) (call_row shape o c)
call_row_keeps shape lists ps i o h (Submit client number bytes) = tt
call_row_keeps shape lists ps i o h (Ask client number) = tt
call_row_keeps shape lists ps i o h (Read client position) = tt
call_row_keeps shape lists ps i o h (Request client value) = on_request_keeps shape lists ps i o h value
call_row_keeps shape lists ps i o h (Settled client value from) = settled_keeps shape.orderers lists ps i o h value from

-- a message that is delivered says what is true
abbrev pub IsTrueInput : ℕ → (ℕ → List Payload) → List Vote → Input → Type 0
IsTrueInput n lists ps (Deliver place index (Some m)) = IsTrueMessage n lists ps m
IsTrueInput n lists ps (Deliver place index None) = Unit {0}
IsTrueInput n lists ps (ACall call) = Unit {0}
IsTrueInput n lists ps Tick = Unit {0}
IsTrueInput n lists ps Lead = Unit {0}
IsTrueInput n lists ps Stop = Unit {0}
IsTrueInput n lists ps Restart = Unit {0}

pub row_keeps : (shape : Shape) (lists : ℕ → List Payload) (ps : List Vote) (i : ℕ) (o : Orderer) → i < shape.orderers → Here shape.orderers lists ps i o
    → (x : Input) → IsTrueInput shape.orderers lists ps x → ForSome (RowKeeps shape.orderers lists ps i) (row shape i (lists i) o x)
row_keeps shape lists ps i o inside h (Deliver place index (Some m)) t = message_row_keeps shape lists ps i o h m t
row_keeps shape lists ps i o inside h (Deliver place index None) t = tt
row_keeps shape lists ps i o inside h (ACall call) t = call_row_keeps shape lists ps i o h call
row_keeps shape lists ps i o inside h Tick t = tick_keeps shape lists ps i o h
row_keeps shape lists ps i o inside h Lead t = lead_keeps shape lists ps i o inside h
row_keeps shape lists ps i o inside h Stop t = tt
row_keeps shape lists ps i o inside h Restart t = tt
