-- An event at a node that is down, and inputs that are not for a storage node.
use Rattle.std.proofs.Common.{◌≡◌, ◌≢◌, ◌≤◌, Bool, true, cond, List, [], length, Option, Some, None, refl, sym, ap, ◌∙◌, subst, arith}
use Rattle.reply_frame.specs.declared.replies.Reply.{Reply, Down as IsDown}
use Rattle.reply_frame.specs.Replies.{reply_bytes}
use Rattle.history_frame.specs.declared.events.Sent.{Sent}
use Rattle.history_frame.specs.declared.inputs.Input.{Input}
use Rattle.history_frame.specs.declared.inputs.Input.TheVariants.{Deliver, Call as ACall, Tick, Lead, Stop, Restart}
use Rattle.history_frame.specs.declared.inputs.Mark.{Mark}
use Rattle.history_frame.specs.declared.inputs.Mark.TheVariants.{Done, Halted, StayedDown}
use Rattle.node_model.specs.Marks.{is_named, silent, to_call, usual_made}
use Rattle.node_model.specs.StorageNode.{Put, StorageOutcome}
use Rattle.node_model.specs.StorageRow.{names, outcome, storage_role}
use Rattle.storage_node.specs.declared.node.Mode.{Mode}
use Rattle.storage_node.specs.declared.node.Mode.TheVariants.{Down}
use Rattle.history_frame.specs.declared.events.Effect.{Effect}
use Rattle.storage_node.specs.StorageState.{StorageState, config_of, member_in, mode_of, node_of}
use Rattle.storage_node.specs.Turning.{IsSmall, IsTold, TurnsOut, put_in}
use Rattle.storage_node.proofs.Counting.{counts-same}

abbrev perhaps : Bool → StorageOutcome → Option StorageOutcome
perhaps b made = cond b (Some made) None

-- it stays as it was
usual-slept : (node : StorageState) (input : Input) → node.mode ≡ Down → is_named names input ≡ true
    → usual_made (storage_role (config_of node) (member_in node)) (node_of node) (node_of node).mode input Done ≡ Some (silent (node_of node) (to_call input IsDown))
usual-slept node input down named =
    ap (λ (m : Mode). usual_made (storage_role (config_of node) (member_in node)) (node_of node) (mode_of m node.replica.state node.ticks) input Done) down
    ∙ ap (λ (b : Bool). perhaps b (silent (node_of node) (to_call input IsDown))) named

slept : (node : StorageState) (input : Input) → node.mode ≡ Down → is_named names input ≡ true → input ≢ Restart → input ≢ Stop
    → outcome (config_of node) (member_in node) (node_of node) input Done ≡ Some (silent (node_of node) (to_call input IsDown))
unfolding outcome
slept node (Deliver place index message) down named start stop = usual-slept node (Deliver place index message) down named
slept node (ACall call) down named start stop = usual-slept node (ACall call) down named
slept node Tick down named start stop = usual-slept node Tick down named
slept node Lead down named start stop = usual-slept node Lead down named
slept node Stop down named start stop = absurd (stop refl)
slept node Restart down named start stop = absurd (start refl)

short-answer : (input : Input) → length (reply_bytes (to_call input IsDown)) ≤ 65558
short-answer (Deliver place index message) = omega arith
short-answer (ACall call) = omega arith
short-answer Tick = omega arith
short-answer Lead = omega arith
short-answer Stop = omega arith
short-answer Restart = omega arith

pub turns-slept : (node : StorageState) (input : Input) (turn : Effect) → node.mode ≡ Down → is_named names input ≡ true → input ≢ Restart → input ≢ Stop
    → turn.mark ≡ Done → turn.outputs ≡ [] → turn.reply ≡ to_call input IsDown → TurnsOut node input turn node
turns-slept node input turn down named start stop mark outputs reply = record {
  row = record {
    made = silent (node_of node) (to_call input IsDown);
    rule = ap (λ (m : Mark). outcome (config_of node) (member_in node) (node_of node) input m) mark ∙ slept node input down named start stop;
    node = refl;
    outputs = outputs;
    reply = reply;
    config = refl;
    member = refl;
  };
  small = subst (λ (l : List Sent). IsSmall l turn.reply) (sym outputs) (subst (λ (r : Reply). IsSmall [] r) (sym reply) (record { few = omega arith; letters = tt; reply = short-answer input }));
  halted = λ other. let wrong : Done ≡ Halted = sym mark ∙ other in absurd (cc);
  counts = counts-same node.replica.media node.replica.media refl;
  told = subst (λ (o : Option Put). IsTold node turn.mark o) (sym (ap (λ (m : Mode). put_in node input (mode_of m node.replica.state node.ticks)) down)) tt;
  opened = λ e. absurd (start e);
  stayed = λ other. let wrong : Done ≡ StayedDown = sym mark ∙ other in absurd (cc);
}
