-- An event at a running node that follows a row, done or halted.
use Rattle.std.proofs.Common.{◌≡◌, List, [], Option, Some, sym, ap, ◌∙◌, subst}
use Rattle.reply_frame.specs.declared.replies.Reply.{Halted as DiskFailed}
use Rattle.history_frame.specs.declared.inputs.Input.{Input}
use Rattle.history_frame.specs.declared.inputs.Input.TheVariants.{Deliver, Call as ACall, Tick, Lead, Stop, Restart}
use Rattle.history_frame.specs.declared.inputs.Mark.{Mark}
use Rattle.history_frame.specs.declared.inputs.Mark.TheVariants.{Done, Halted, StayedDown}
use Rattle.log_base.specs.ClusterShape.{Shape}
use Rattle.log_model.specs.Storage.{Member}
use Rattle.node_model.specs.Marks.{Running as Runs, Stopped, halted, row_made, silent, stored_with, to_call, usual_made}
use Rattle.node_model.specs.StorageNode.{Put, Replica, StorageChange, StorageMode, StorageNode, StorageOutcome}
use Rattle.node_model.specs.StorageRow.{outcome, row, storage_role}
use Rattle.record_frame.specs.declared.entries.Entry.{Entry}
use Rattle.storage_node.specs.declared.node.Mode.{Mode}
use Rattle.storage_node.specs.declared.node.Mode.TheVariants.{Running}
use Rattle.history_frame.specs.declared.events.Effect.{Effect}
use Rattle.storage_node.specs.Counting.{CountsOn}
use Rattle.storage_node.specs.Opening.{RoseIn}
use Rattle.storage_node.specs.StorageState.{StorageState, config_of, lists_in, member_in, memory_of, mode_of, node_of}
use Rattle.storage_node.specs.Turning.{IsSmall, IsTold, TurnsOut, put_at, put_by, put_in}

-- a node of lists and a mode
abbrev pub as_node : List (List Entry) → StorageMode → StorageNode
as_node lists mode = record { durable = lists; mode = mode }

-- what an event makes that is done
abbrev pub after_row : Shape → Member → StorageNode → StorageChange → StorageOutcome
after_row config member node change = record {
  node = record { durable = stored_with (storage_role config member) node.durable change.put; mode = Runs change.after };
  outputs = change.outputs;
  reply = change.reply;
}

usual_done : (config : Shape) (member : Member) (node : StorageNode) (input : Input) (memory : Replica) (change : StorageChange) → node.mode ≡ Runs memory
    → row config member node.durable memory input ≡ Some change
    → usual_made (storage_role config member) node node.mode input Done ≡ Some (after_row config member node change)
usual_done config member node input memory change m r =
    ap (λ (mode : StorageMode). usual_made (storage_role config member) node mode input Done) m
    ∙ ap (λ (o : Option StorageChange). row_made (storage_role config member) node.durable memory input o Done) r

pub done : (config : Shape) (member : Member) (node : StorageNode) (input : Input) (memory : Replica) (change : StorageChange) → node.mode ≡ Runs memory
    → row config member node.durable memory input ≡ Some change → outcome config member node input Done ≡ Some (after_row config member node change)
unfolding outcome
done config member node Stop memory change m r = absurd (cc)
done config member node Restart memory change m r = absurd (cc)
done config member node (Deliver place index message) memory change m r = usual_done config member node (Deliver place index message) memory change m r
done config member node (ACall call) memory change m r = usual_done config member node (ACall call) memory change m r
done config member node Tick memory change m r = usual_done config member node Tick memory change m r
done config member node Lead memory change m r = absurd (cc)

-- what an event makes that halts in its put
abbrev pub after_halt : StorageNode → Replica → Input → Put → StorageOutcome
after_halt node memory input put = silent (record { durable = node.durable; mode = Stopped (Some put) memory.known }) (to_call input DiskFailed)

usual_halted : (config : Shape) (member : Member) (node : StorageNode) (input : Input) (memory : Replica) (change : StorageChange) (put : Put) → node.mode ≡ Runs memory
    → row config member node.durable memory input ≡ Some change → change.put ≡ Some put
    → usual_made (storage_role config member) node node.mode input Halted ≡ Some (after_halt node memory input put)
usual_halted config member node input memory change put m r p =
    ap (λ (mode : StorageMode). usual_made (storage_role config member) node mode input Halted) m
    ∙ ap (λ (o : Option StorageChange). row_made (storage_role config member) node.durable memory input o Halted) r
    ∙ ap (λ (o : Option Put). halted (storage_role config member) node.durable memory input o) p

pub fell : (config : Shape) (member : Member) (node : StorageNode) (input : Input) (memory : Replica) (change : StorageChange) (put : Put) → node.mode ≡ Runs memory
    → row config member node.durable memory input ≡ Some change → change.put ≡ Some put
    → outcome config member node input Halted ≡ Some (after_halt node memory input put)
unfolding outcome
fell config member node Stop memory change put m r p = absurd (cc)
fell config member node Restart memory change put m r p = absurd (cc)
fell config member node (Deliver place index message) memory change put m r p = usual_halted config member node (Deliver place index message) memory change put m r p
fell config member node (ACall call) memory change put m r p = usual_halted config member node (ACall call) memory change put m r p
fell config member node Tick memory change put m r p = usual_halted config member node Tick memory change put m r p
fell config member node Lead memory change put m r p = absurd (cc)

-- a running node
runs : (node : StorageState) → node.mode ≡ Running → (node_of node).mode ≡ Runs (memory_of node.replica.state node.ticks)
runs node running = ap (λ (mode : Mode). mode_of mode node.replica.state node.ticks) running

-- what a row puts is what the node puts at the input
put-of-row : (old : StorageState) (input : Input) (change : StorageChange) → old.mode ≡ Running
    → row (config_of old) (member_in old) (lists_in old) (memory_of old.replica.state old.ticks) input ≡ Some change → put_at old input ≡ change.put
put-of-row old input change running r = ap (λ (mode : StorageMode). put_in old input mode) (runs old running) ∙ ap put_by r

-- a start is no row
no_start : (config : Shape) (member : Member) (node : StorageNode) (input : Input) (memory : Replica) (change : StorageChange)
    → row config member node.durable memory input ≡ Some change → input ≡ Restart → ⊥
no_start config member node input memory change r start =
    let none : row config member node.durable memory Restart ≡ Some change = subst (λ (i : Input). row config member node.durable memory i ≡ Some change) start r in cc

-- an event that is done turns out by its row
pub turns-done : (old new : StorageState) (input : Input) (change : StorageChange) (turn : Effect) → old.mode ≡ Running
    → row (config_of old) (member_in old) (lists_in old) (memory_of old.replica.state old.ticks) input ≡ Some change
    → turn.mark ≡ Done → node_of new ≡ (after_row (config_of old) (member_in old) (node_of old) change).node
    → turn.outputs ≡ change.outputs → turn.reply ≡ change.reply → config_of new ≡ config_of old → member_in new ≡ member_in old
    → IsSmall turn.outputs turn.reply → IsTold old Done change.put → CountsOn old.replica.media new.replica.media → TurnsOut old input turn new
turns-done old new input change turn running r mark node outputs reply config member small told counts =
    let rule = done (config_of old) (member_in old) (node_of old) input (memory_of old.replica.state old.ticks) change (runs old running) r in
    record {
      row = record {
        made = after_row (config_of old) (member_in old) (node_of old) change;
        rule = ap (λ (m : Mark). outcome (config_of old) (member_in old) (node_of old) input m) mark ∙ rule;
        node = node;
        outputs = outputs;
        reply = reply;
        config = config;
        member = member;
      };
      small = small;
      halted = λ other. let wrong : Done ≡ Halted = sym mark ∙ other in absurd (cc);
      counts = counts;
      told = subst (λ (m : Mark). IsTold old m (put_at old input)) (sym mark) (subst (λ (o : Option Put). IsTold old Done o) (sym (put-of-row old input change running r)) told);
      opened = λ start. absurd (no_start (config_of old) (member_in old) (node_of old) input (memory_of old.replica.state old.ticks) change r start);
      stayed = λ other. absurd (not_stayed turn.mark mark other);
    }
  where
    not_stayed : (m : Mark) → m ≡ Done → m ≡ StayedDown → ⊥
    not_stayed m a b = cc

-- an event that halts turns out by its row
pub turns-halted : (old new : StorageState) (input : Input) (change : StorageChange) (put : Put) (turn : Effect) → old.mode ≡ Running
    → row (config_of old) (member_in old) (lists_in old) (memory_of old.replica.state old.ticks) input ≡ Some change → change.put ≡ Some put
    → turn.mark ≡ Halted → node_of new ≡ (after_halt (node_of old) (memory_of old.replica.state old.ticks) input put).node
    → turn.outputs ≡ [] → turn.reply ≡ to_call input DiskFailed → config_of new ≡ config_of old → member_in new ≡ member_in old
    → IsSmall turn.outputs turn.reply → RoseIn old.replica.media new.replica.media → IsTold old Halted (Some put) → CountsOn old.replica.media new.replica.media
    → TurnsOut old input turn new
turns-halted old new input change put turn running r p mark node outputs reply config member small rose told counts =
    let rule = fell (config_of old) (member_in old) (node_of old) input (memory_of old.replica.state old.ticks) change put (runs old running) r p in
    record {
      row = record {
        made = after_halt (node_of old) (memory_of old.replica.state old.ticks) input put;
        rule = ap (λ (m : Mark). outcome (config_of old) (member_in old) (node_of old) input m) mark ∙ rule;
        node = node;
        outputs = outputs;
        reply = reply;
        config = config;
        member = member;
      };
      small = small;
      halted = λ _. rose;
      counts = counts;
      told = subst (λ (m : Mark). IsTold old m (put_at old input)) (sym mark) (subst (λ (o : Option Put). IsTold old Halted o) (sym (put-of-row old input change running r ∙ p)) told);
      opened = λ start. absurd (no_start (config_of old) (member_in old) (node_of old) input (memory_of old.replica.state old.ticks) change r start);
      stayed = λ other. absurd (not_stayed turn.mark mark other);
    }
  where
    not_stayed : (m : Mark) → m ≡ Halted → m ≡ StayedDown → ⊥
    not_stayed m a b = cc
