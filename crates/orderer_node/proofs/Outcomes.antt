-- What an event makes of a node, from the row that was followed.
use Rattle.std.proofs.Common.{◌≡◌, ◌≢◌, ℕ, zero, suc, ◌%◌, ◌<◌, Bool, true, false, cond, List, [], ◌∷◌, ◌++◌, map, length, replicate, Option, Some, None, is_some, refl, ap, sym, subst, ◌∙◌, arith}
use Rattle.std.proofs.lemmas.Bool.{ne_eqb}
use Rattle.std.proofs.lemmas.List.{append-nil}
use Rattle.reply_frame.specs.declared.replies.Reply.{Reply, Nothing, Down as DownReply, Halted as HaltedReply}
use Rattle.event_letters.specs.Letters.{EventLetters, HasSpace, message_length}
use Rattle.history_frame.specs.declared.events.Sent.{Sent}
use Rattle.history_frame.specs.declared.inputs.Call.{Call}
use Rattle.history_frame.specs.declared.inputs.Input.{Input}
use Rattle.history_frame.specs.declared.inputs.Input.TheVariants.{Deliver, Call as ACall, Tick, Lead, Stop, Restart}
use Rattle.history_frame.specs.declared.inputs.Mark.{Mark}
use Rattle.history_frame.specs.declared.inputs.Mark.TheVariants.{Done, Halted, OpenedWithout, OpenedWith, StayedDown}
use Rattle.log_base.specs.ClusterShape.{Shape}
use Rattle.log_base.specs.Outgoing.{Outgoing}
use Rattle.log_base.specs.Wide.{be2, be4}
use Rattle.message_frame.specs.declared.messages.Message.{Message}
use Rattle.node_model.specs.Machine.{posted}
use Rattle.node_model.specs.Marks.{Running, Stopped, halted, is_named, row_made, stored_with, to_call, usual_made}
use Rattle.node_model.specs.Messages.{want_message}
use Rattle.node_model.specs.Nodes.{letter}
use Rattle.node_model.specs.OrdererNode.{Change, Mode, Node, Orderer, Outcome, with_put}
use Rattle.node_model.specs.OrdererRow.{answered, call_row, message_row, names, on_lead, on_tick, one_tick, orderer_role, outcome, row, tick_leader, told}
use Rattle.node_table.specs.Numbering.{orderer_node}
use Rattle.paxos_acceptor.specs.Listed.{list_of}
use Rattle.paxos_model.specs.Leader.{Leader}
use Rattle.paxos_model.specs.Votes.{Payload}
use Rattle.segment_journal.specs.Journalled.{Journalled, Turns}
use Rattle.orderer_node.specs.Announcing.{AreSmall}
use Rattle.orderer_node.specs.Ordering.{Follows, FollowsSome, IsCaused, MarkFollows, Ordering, fallen, flight_in, mark_by, mode_of, node_of, put_at, turned}
use Rattle.orderer_node.specs.declared.node.Standing.{Standing}
use Rattle.orderer_node.specs.declared.node.Standing.TheVariants.{Down, Up}
use Rattle.orderer_node.proofs.Sending.{space_one}

abbrev made : Node → List Sent → Reply → Outcome
made node sent reply = record { node = node; outputs = sent; reply = reply }

module _ (config : Shape) (index : ℕ) where
  stored_same : (list : List Payload) (put : Option Payload) → stored_with (orderer_role config index) list put ≡ with_put list put
  stored_same list None = refl
  stored_same list (Some put) = refl

  fell_made : (list : List Payload) (o : Orderer) (input : Input) (put : Option Payload) (node : Node) (sent : List Sent) → to_call input HaltedReply ≡ Nothing
      → fallen list o put ≡ Some (node, sent) → halted (orderer_role config index) list o input put ≡ Some (made node sent Nothing)
  fell_made list o input None node sent silent e = absurd cc
  fell_made list o input (Some put) node sent silent e =
      let down : Node = record { durable = list; mode = Stopped (Some put) o.known } in
      let pair : Node × List Sent = (down, []) in
      let same : pair ≡ (node, sent) = cc in
      let nodes = ap (λ (p : Node × List Sent). p.0) same in
      let letters = ap (λ (p : Node × List Sent). p.1) same in
      λ j. Some (made (nodes j) (letters j) (silent j))

  -- a row that was followed
  row_outcome : (list : List Payload) (o : Orderer) (input : Input) (change : Change) (mark : Mark) (node : Node) (sent : List Sent) → to_call input HaltedReply ≡ Nothing
      → change.reply ≡ Nothing → turned list o change mark ≡ Some (node, sent) → row_made (orderer_role config index) list o input (Some change) mark ≡ Some (made node sent Nothing)
  row_outcome list o input change Done node sent silent reply e =
      let up : Node = record { durable = with_put list change.put; mode = Running change.after } in
      let pair : Node × List Sent = (up, change.outputs) in
      let same : pair ≡ (node, sent) = cc in
      let nodes = ap (λ (p : Node × List Sent). p.0) same in
      let letters = ap (λ (p : Node × List Sent). p.1) same in
      (λ j. Some (made (let at : Node = record { durable = stored_same list change.put j; mode = Running change.after } in at) change.outputs (reply j)))
      ∙ (λ j. Some (made (nodes j) (letters j) Nothing))
  row_outcome list o input change Halted node sent silent reply e = fell_made list o input change.put node sent silent e
  row_outcome list o input change OpenedWithout node sent silent reply e = absurd cc
  row_outcome list o input change OpenedWith node sent silent reply e = absurd cc
  row_outcome list o input change StayedDown node sent silent reply e = absurd cc

  -- at a running node
  at_running : (node : Node) (o : Orderer) (input : Input) (mark : Mark) → node.mode ≡ Running o
      → usual_made (orderer_role config index) node node.mode input mark ≡ row_made (orderer_role config index) node.durable o input (row config index node.durable o input) mark
  at_running node o input mark e = ap (λ (m : Mode). usual_made (orderer_role config index) node m input mark) e

module _ {J : Type 0} (state : J → Journalled) (old new : Ordering J) where
  runs_now : old.standing ≡ Up → (node_of state old).mode ≡ Running old.memory.orderer
  runs_now up = ap (λ (s : Standing). mode_of (state old.journal) s old.memory.orderer) up

  usual_row : (input : Input) (mark : Mark) (change : Change) (letters : EventLetters) (before after : Outgoing) → old.standing ≡ Up → to_call input HaltedReply ≡ Nothing
      → row old.memory.config old.index (list_of (state old.journal)) old.memory.orderer input ≡ Some change → Follows state change old new mark letters before after
      → usual_made (orderer_role old.memory.config old.index) (node_of state old) (node_of state old).mode input mark ≡ Some (made (node_of state new) letters.sent Nothing)
  usual_row input mark change letters before after up silent is follows =
      at_running old.memory.config old.index (node_of state old) old.memory.orderer input mark (runs_now up)
      ∙ ap (λ (c : Option Change). row_made (orderer_role old.memory.config old.index) (list_of (state old.journal)) old.memory.orderer input c mark) is
      ∙ row_outcome old.memory.config old.index (list_of (state old.journal)) old.memory.orderer input change mark (node_of state new) letters.sent silent follows.silent follows.turns

  pub deliver_outcome : (place index : ℕ) (message : Message) (mark : Mark) (letters : EventLetters) (before after : Outgoing) (reply : Reply) → old.standing ≡ Up
      → FollowsSome state (message_row old.memory.config old.index (list_of (state old.journal)) old.memory.orderer message) old new mark letters before after → reply ≡ Nothing
      → outcome old.memory.config old.index (node_of state old) (Deliver place index (Some message)) mark ≡ Some (made (node_of state new) letters.sent reply)
  unfolding outcome
  deliver_outcome place index message mark letters before after reply up follows silent =
      at (message_row old.memory.config old.index (list_of (state old.journal)) old.memory.orderer message) refl follows
      ∙ ap (λ (r : Reply). Some (made (node_of state new) letters.sent r)) (sym silent)
    where
      at : (found : Option Change) → message_row old.memory.config old.index (list_of (state old.journal)) old.memory.orderer message ≡ found
          → FollowsSome state found old new mark letters before after
          → usual_made (orderer_role old.memory.config old.index) (node_of state old) (node_of state old).mode (Deliver place index (Some message)) mark
          ≡ Some (made (node_of state new) letters.sent Nothing)
      at None e f = absurd f
      at (Some change) e f = usual_row (Deliver place index (Some message)) mark change letters before after up refl e f

  pub receive_outcome : (place index : ℕ) (message : Option Message) (mark : Mark) (letters : EventLetters) (before after : Outgoing) (reply : Reply) → old.standing ≡ Up
      → FollowsSome state (row old.memory.config old.index (list_of (state old.journal)) old.memory.orderer (Deliver 0 0 message)) old new mark letters before after → reply ≡ Nothing
      → outcome old.memory.config old.index (node_of state old) (Deliver place index message) mark ≡ Some (made (node_of state new) letters.sent reply)
  receive_outcome place index None mark letters before after reply up follows silent = absurd follows
  receive_outcome place index (Some message) mark letters before after reply up follows silent = deliver_outcome place index message mark letters before after reply up follows silent

  pub tick_outcome : (mark : Mark) (letters : EventLetters) (before after : Outgoing) (reply : Reply) → old.standing ≡ Up
      → Follows state (on_tick old.memory.config old.index old.memory.orderer) old new mark letters before after → reply ≡ Nothing
      → outcome old.memory.config old.index (node_of state old) Tick mark ≡ Some (made (node_of state new) letters.sent reply)
  unfolding outcome
  tick_outcome mark letters before after reply up follows silent =
      usual_row Tick mark (on_tick old.memory.config old.index old.memory.orderer) letters before after up refl refl follows
      ∙ ap (λ (r : Reply). Some (made (node_of state new) letters.sent r)) (sym silent)

  pub lead_outcome : (mark : Mark) (letters : EventLetters) (before after : Outgoing) (reply : Reply) → old.standing ≡ Up
      → Follows state (on_lead old.memory.config old.index (list_of (state old.journal)) old.memory.orderer) old new mark letters before after → reply ≡ Nothing
      → outcome old.memory.config old.index (node_of state old) Lead mark ≡ Some (made (node_of state new) letters.sent reply)
  unfolding outcome
  lead_outcome mark letters before after reply up follows silent =
      usual_row Lead mark (on_lead old.memory.config old.index (list_of (state old.journal)) old.memory.orderer) letters before after up refl refl follows
      ∙ ap (λ (r : Reply). Some (made (node_of state new) letters.sent r)) (sym silent)

  pub call_outcome : (call : Call) (mark : Mark) (sent : List Sent) (reply : Reply) → old.standing ≡ Up → new.standing ≡ Up → new.journal ≡ old.journal → mark ≡ Done → sent ≡ []
      → call_row old.memory.config old.memory.orderer call ≡ Some (answered new.memory.orderer reply)
      → outcome old.memory.config old.index (node_of state old) (ACall call) mark ≡ Some (made (node_of state new) sent reply)
  unfolding outcome
  call_outcome call mark sent reply up still journal done none is =
      ap (λ (m : Mark). usual_made (orderer_role old.memory.config old.index) (node_of state old) (node_of state old).mode (ACall call) m) done
      ∙ at_running old.memory.config old.index (node_of state old) old.memory.orderer (ACall call) Done (runs_now up)
      ∙ ap (λ (c : Option Change). row_made (orderer_role old.memory.config old.index) (list_of (state old.journal)) old.memory.orderer (ACall call) c Done) is
      ∙ (λ j. Some (made (let at : Node = record { durable = durable j; mode = mode j } in at) (sym none j) reply))
    where
      durable : list_of (state old.journal) ≡ list_of (state new.journal)
      durable = ap (λ (x : J). list_of (state x)) (sym journal)

      running : Mode
      running = Running new.memory.orderer

      mode : running ≡ mode_of (state new.journal) new.standing new.memory.orderer
      mode = ap (λ (s : Standing). mode_of (state new.journal) s new.memory.orderer) (sym still)

-- ---- at a node that is down

module _ {J : Type 0} (state : J → Journalled) (old : Ordering J) where
  stopped_now : old.standing ≡ Down → (node_of state old).mode ≡ Stopped (flight_in (state old.journal)) old.memory.orderer.known
  stopped_now down = ap (λ (s : Standing). mode_of (state old.journal) s old.memory.orderer) down

  usual_sleep : (input : Input) → is_named names input ≡ true → old.standing ≡ Down
      → usual_made (orderer_role old.memory.config old.index) (node_of state old) (node_of state old).mode input Done ≡ Some (made (node_of state old) [] (to_call input DownReply))
  usual_sleep input named down =
      ap (λ (m : Mode). usual_made (orderer_role old.memory.config old.index) (node_of state old) m input Done) (stopped_now down)
      ∙ ap (λ b. cond b (Some (made (node_of state old) [] (to_call input DownReply))) None) named

  asleep_now : (input : Input) → is_named names input ≡ true → input ≢ Stop → input ≢ Restart → old.standing ≡ Down
      → outcome old.memory.config old.index (node_of state old) input Done ≡ Some (made (node_of state old) [] (to_call input DownReply))
  unfolding outcome
  asleep_now (Deliver place index message) named stop restart down = usual_sleep (Deliver place index message) named down
  asleep_now (ACall call) named stop restart down = usual_sleep (ACall call) named down
  asleep_now Tick named stop restart down = usual_sleep Tick named down
  asleep_now Lead named stop restart down = usual_sleep Lead named down
  asleep_now Stop named stop restart down = absurd (stop refl)
  asleep_now Restart named stop restart down = absurd (restart refl)

  pub asleep_outcome : (input : Input) (mark : Mark) (sent : List Sent) (reply : Reply) → is_named names input ≡ true → input ≢ Stop → input ≢ Restart → old.standing ≡ Down
      → mark ≡ Done → sent ≡ [] → reply ≡ to_call input DownReply
      → outcome old.memory.config old.index (node_of state old) input mark ≡ Some (made (node_of state old) sent reply)
  asleep_outcome input mark sent reply named stop restart down done none answer =
      ap (λ (m : Mark). outcome old.memory.config old.index (node_of state old) input m) done
      ∙ asleep_now input named stop restart down ∙ (λ j. Some (made (node_of state old) (sym none j) (sym answer j)))

  pub asleep_put : (input : Input) → old.standing ≡ Down → put_at old.memory.config old.index (node_of state old) (node_of state old).mode input ≡ None
  asleep_put input down = ap (λ (m : Mode). put_at old.memory.config old.index (node_of state old) m input) (stopped_now down)

  pub asleep_caused : (faults : J → ℕ) (keeps_synced : J → Bool) (turns : J → Option Turns) (put : Option Payload) (mark : Mark) → put ≡ None → mark ≡ Done
      → IsCaused faults keeps_synced turns put old.journal old.journal mark
  asleep_caused faults keeps_synced turns put mark none done = record {
    later = omega arith;
    failed = λ e. let f : Done ≡ Halted = sym done ∙ e in absurd cc;
    keeps = refl;
    turn = at (turns old.journal);
  }
    where
      at : (o : Option Turns) → MarkFollows o put mark
      at None = tt
      at (Some t) = done ∙ ap (mark_by t) (sym none)

pub nothing_posted : (letters : List (ℕ × List ℕ)) (sent : List Sent) → sent ≡ [] → letters ≡ letters ++ map posted sent
nothing_posted letters sent none = sym (append-nil letters) ∙ ap (λ (l : List Sent). letters ++ map posted l) (sym none)

pub nothing_small : (sent : List Sent) → sent ≡ [] → AreSmall 64 sent
nothing_small sent none = subst (λ (l : List Sent). AreSmall 64 l) (sym none) (record { few = omega arith; each = tt })

-- ---- a tick of an orderer that does not lead

none_of : (lead : Option Leader) → is_some lead ≡ false → lead ≡ None
none_of None e = refl
none_of (Some leader) e = absurd cc

pub tick_row : (config : Shape) (index : ℕ) (o : Orderer) (asked : ℕ) → is_some o.leader ≡ false → asked ≡ o.ticks % config.orderers → asked ≢ index
    → told (one_tick o) (letter (orderer_node config asked) (want_message (length o.known) (orderer_node config index)) ∷ []) ≡ on_tick config index o
unfolding on_tick
tick_row config index o asked follower turn other =
    ap (λ b. told (one_tick o) (cond b [] (letter (orderer_node config asked) (want_message (length o.known) (orderer_node config index)) ∷ []))) (sym (ne_eqb asked index other))
    ∙ ap (λ (a : ℕ). tick_leader config index (one_tick o) None a) turn
    ∙ ap (λ (l : Option Leader). tick_leader config index (one_tick o) l (o.ticks % config.orderers)) (sym (none_of o.leader follower))

pub want_short : (slot node : ℕ) → message_length (want_message slot node) ≡ 7
unfolding be2 be4
want_short slot node = refl

pub want_space : (letters : EventLetters) (rooms : List ℕ) (slot node orderers : ℕ) → 0 < orderers → HasSpace letters rooms (replicate orderers 143)
    → HasSpace letters rooms (message_length (want_message slot node) ∷ [])
want_space letters rooms slot node zero some h = absurd (omega arith)
want_space letters rooms slot node (suc orderers) some h =
    space_one letters rooms (message_length (want_message slot node)) 143 (replicate orderers 143) (let e = want_short slot node in omega (arith, e)) h
