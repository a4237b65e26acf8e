-- Only the tick of a gatherer that runs puts letters out.
use Rattle.std.proofs.Common.{◌≡◌, ℕ, Bool, true, false, cond, List, [], Option, Some, None, refl, sym, subst}
use Rattle.aggregator.specs.Hearing.{Hearing}
use Rattle.reply_frame.specs.declared.replies.Reply.{Down}
use Rattle.event_letters.specs.Letters.{EventLetters, HasSpace}
use Rattle.event_letters.proofs.Spaces.{no_letters}
use Rattle.history_frame.specs.declared.events.Sent.{Sent}
use Rattle.history_frame.specs.declared.inputs.Input.{Input}
use Rattle.history_frame.specs.declared.inputs.Input.TheVariants.{Deliver, Call, Tick, Lead, Stop, Restart}
use Rattle.history_frame.specs.declared.inputs.Mark.TheVariants.{Done}
use Rattle.log_base.specs.ClusterShape.{Shape}
use Rattle.message_frame.specs.declared.messages.Message.{Message}
use Rattle.message_frame.specs.declared.messages.Message.TheVariants.{Copy, CopyAck, Report, Least, Prepare, Promised, Lower, Accept, Accepted, Decide, Want}
use Rattle.node_model.specs.GathererRow.{GathererNode, names, on_report, outcome}
use Rattle.node_model.specs.Marks.{Stopped, Running, is_named, silent, to_call}
use Rattle.gatherer_node.specs.Gatherer.{IsReady, letters_made, sizes_of}

-- a gatherer that is down puts nothing out
quiet_or : (node : GathererNode) (input : Input) (b : Bool) → letters_made (cond b (Some (silent node (to_call input Down))) None) ≡ []
quiet_or node input true = refl
quiet_or node input false = refl

down_quiet : (config : Shape) (index : ℕ) (flight : Option ⊥) (input : Input)
    → letters_made (outcome config index (record { durable = tt; mode = Stopped flight tt }) input Done) ≡ []
unfolding outcome
down_quiet config index flight (Deliver place at message) = quiet_or (record { durable = tt; mode = Stopped flight tt }) (Deliver place at message) (is_named names (Deliver place at message))
down_quiet config index flight (Call call) = refl
down_quiet config index flight Tick = refl
down_quiet config index flight Lead = refl
down_quiet config index flight Stop = refl
down_quiet config index flight Restart = refl

-- and one that runs only at a tick
message_quiet : (config : Shape) (index : ℕ) (hearing : Hearing) (place at : ℕ) (message : Option Message)
    → letters_made (outcome config index (record { durable = tt; mode = Running hearing }) (Deliver place at message) Done) ≡ []
unfolding outcome on_report
message_quiet config index hearing place at None = refl
message_quiet config index hearing place at (Some (Copy segment offset entry)) = refl
message_quiet config index hearing place at (Some (CopyAck peer held)) = refl
message_quiet config index hearing place at (Some (Report shard replica lengths)) = refl
message_quiet config index hearing place at (Some (Least shard lengths)) = refl
message_quiet config index hearing place at (Some (Prepare ballot start)) = refl
message_quiet config index hearing place at (Some (Promised ballot start who votes)) = refl
message_quiet config index hearing place at (Some (Lower ballot promised)) = refl
message_quiet config index hearing place at (Some (Accept ballot slot value)) = refl
message_quiet config index hearing place at (Some (Accepted ballot slot who)) = refl
message_quiet config index hearing place at (Some (Decide slot value)) = refl
message_quiet config index hearing place at (Some (Want start node)) = refl

running_quiet : (config : Shape) (index : ℕ) (hearing : Hearing) (input : Input) → (input ≡ Tick → ⊥)
    → letters_made (outcome config index (record { durable = tt; mode = Running hearing }) input Done) ≡ []
unfolding outcome
running_quiet config index hearing (Deliver place at message) other = message_quiet config index hearing place at message
running_quiet config index hearing (Call call) other = refl
running_quiet config index hearing Tick other = absurd (other refl)
running_quiet config index hearing Lead other = refl
running_quiet config index hearing Stop other = refl
running_quiet config index hearing Restart other = refl

-- so there is always the room for any other event
no_space : (letters : EventLetters) (rooms : List ℕ) (due : List Sent) → due ≡ [] → HasSpace letters rooms (sizes_of due)
no_space letters rooms due e = subst (λ (l : List Sent). HasSpace letters rooms (sizes_of l)) (sym e) (no_letters letters rooms)

pub ready_down : (config : Shape) (index : ℕ) (flight : Option ⊥) (letters : EventLetters) (rooms : List ℕ) (input : Input) → letters.sent ≡ []
    → IsReady (record { config = config; index = index; node = record { durable = tt; mode = Stopped flight tt }; letters = letters }) rooms input
ready_down config index flight letters rooms input e = record { none_sent = e; space = no_space letters rooms _ (down_quiet config index flight input) }

pub ready_running : (config : Shape) (index : ℕ) (hearing : Hearing) (letters : EventLetters) (rooms : List ℕ) (input : Input) → letters.sent ≡ []
    → (input ≡ Tick → ⊥)
    → IsReady (record { config = config; index = index; node = record { durable = tt; mode = Running hearing }; letters = letters }) rooms input
ready_running config index hearing letters rooms input e other = record { none_sent = e; space = no_space letters rooms _ (running_quiet config index hearing input other) }
