-- A node that stops, and one that starts or stays down.
use Rattle.std.proofs.Common.{◌≡◌, ◌≢◌, ℕ, ◌+◌, Bool, true, false, cond, List, [], Option, Some, None, refl, sym, ap, ◌∙◌, subst, arith}
use Rattle.std.specs.List.{AllByRecursion, list_any}
use Rattle.reply_frame.specs.declared.replies.Reply.{Reply, Nothing}
use Rattle.history_frame.specs.declared.events.Sent.{Sent}
use Rattle.history_frame.specs.declared.inputs.Input.{Input}
use Rattle.history_frame.specs.declared.inputs.Input.TheVariants.{Stop, Restart}
use Rattle.history_frame.specs.declared.inputs.Mark.{Mark}
use Rattle.history_frame.specs.declared.inputs.Mark.TheVariants.{Done, Halted, OpenedWithout, OpenedWith, StayedDown}
use Rattle.log_base.specs.ClusterShape.{Shape}
use Rattle.log_model.specs.Storage.{with_entry}
use Rattle.node_model.specs.Marks.{Running as Runs, Stopped, as_stopped, flight_of, opened, opened_with, stopped}
use Rattle.node_model.specs.StorageNode.{Put, StorageMode}
use Rattle.node_model.specs.StorageRow.{outcome, storage_role}
use Rattle.record_frame.specs.declared.entries.Entry.{Entry}
use Rattle.segment_journal.specs.declared.journal.Installed.{Installed}
use Rattle.segment_journal.specs.declared.journal.Installed.TheVariants.{Failed, OneMore, Same}
use Rattle.shard_replica.specs.declared.lists.LastReload.{LastReload}
use Rattle.shard_replica.specs.declared.lists.LastReload.TheVariants.{Failed as Unread, Read as WasRead}
use Rattle.shard_replica.specs.Lists.{Medium, answer_of, came_to, has_one_more, reopened_all}
use Rattle.shard_replica.specs.Replica.{Replicated, ReplicaState, at_first, lists_of, member_of, state_after}
use Rattle.storage_node.specs.declared.node.Mode.{Mode}
use Rattle.storage_node.specs.declared.node.Mode.TheVariants.{Down, Running}
use Rattle.history_frame.specs.declared.events.Effect.{Effect}
use Rattle.storage_node.specs.Opening.{mark_after, opening_mark}
use Rattle.storage_node.specs.Counting.{CountsOn}
use Rattle.storage_node.specs.Preparing.{AreRead, IsReloaded}
use Rattle.storage_node.specs.StorageState.{IsAtRest, IsOf, IsSound, IsStorage, RestsIn, StorageState, config_of, lists_in, member_in, mode_of, node_of}
use Rattle.storage_node.specs.Turning.{IsSmall, IsTold, TurnsOut, put_in}
use Rattle.storage_node.proofs.Putting.{flight-none}
use Rattle.storage_node.proofs.Rows.{as_node}
use Rattle.storage_node.proofs.Reopening.{Longer, entries-longer, entries-same, none-more-at-rest, rests-one, sound-reopened}

-- nothing is put where no row is followed
nothing-told : (node : StorageState) (mark : Mark) (mode : StorageMode) (input : Input) → put_in node input mode ≡ None → IsTold node mark (put_in node input mode)
nothing-told node mark mode input none = subst (λ (o : Option Put). IsTold node mark o) (sym none) tt

stop-puts-nothing : (node : StorageState) (mode : StorageMode) → put_in node Stop mode ≡ None
stop-puts-nothing node (Stopped flight known) = refl
stop-puts-nothing node (Runs memory) = refl

restart-puts-nothing : (node : StorageState) (mode : StorageMode) → put_in node Restart mode ≡ None
restart-puts-nothing node (Stopped flight known) = refl
restart-puts-nothing node (Runs memory) = refl

-- a node goes down with what was in flight; while it runs nothing is
stopped-mode : (mode : Mode) (state : ReplicaState) (ticks later : ℕ) → IsSound mode state
    → mode_of Down state later ≡ stopped (storage_role state.config (member_of state)) (mode_of mode state ticks)
stopped-mode Down state ticks later sound = refl
stopped-mode Running state ticks later sound = ap (λ (o : Option Put). Stopped o state.known) (flight-none state.segments sound.rests)

-- a silent event
pub silent-small : (sent : List Sent) (reply : Reply) → sent ≡ [] → reply ≡ Nothing → IsSmall sent reply
silent-small sent reply none nothing =
    subst (λ (l : List Sent). IsSmall l reply) (sym none) (subst (λ (r : Reply). IsSmall [] r) (sym nothing) (record { few = omega arith; letters = tt; reply = omega arith }))

-- a node that goes down or stays so
down-node : (old new : StorageState) → IsSound old.mode old.replica.state → new.replica.state ≡ old.replica.state → new.mode ≡ Down
    → node_of new ≡ (as_stopped (storage_role (config_of old) (member_in old)) (node_of old)).node
down-node old new sound state mode =
    ap (λ (m : Mode). as_node (lists_of new.replica.state) (mode_of m new.replica.state new.ticks)) mode
    ∙ ap (λ (s : ReplicaState). as_node (lists_of s) (mode_of Down s new.ticks)) state
    ∙ ap (λ (m : StorageMode). as_node (lists_in old) m) (stopped-mode old.mode old.replica.state old.ticks new.ticks sound)

-- a stop
pub turns-stopped : (old new : StorageState) (turn : Effect) → IsSound old.mode old.replica.state → new.replica.state ≡ old.replica.state → new.mode ≡ Down
    → CountsOn old.replica.media new.replica.media → turn.mark ≡ Done → turn.outputs ≡ [] → turn.reply ≡ Nothing → TurnsOut old Stop turn new
unfolding outcome
turns-stopped old new turn sound state mode counts mark outputs reply =
    record {
      row = record {
        made = as_stopped (storage_role (config_of old) (member_in old)) (node_of old);
        rule = ap (λ (m : Mark). outcome (config_of old) (member_in old) (node_of old) Stop m) mark;
        node = down-node old new sound state mode;
        outputs = outputs;
        reply = reply;
        config = ap (λ (s : ReplicaState). s.config) state;
        member = ap (λ (s : ReplicaState). member_of s) state;
      };
      small = silent-small turn.outputs turn.reply outputs reply;
      halted = λ other. let wrong : Done ≡ Halted = sym mark ∙ other in absurd (cc);
      counts = counts;
      told = nothing-told old turn.mark (node_of old).mode Stop (stop-puts-nothing old (node_of old).mode);
      opened = λ start. absurd (cc);
      stayed = λ other. let wrong : Done ≡ StayedDown = sym mark ∙ other in absurd (cc);
    }

-- a start that a list could not be read for
pub turns-stayed : (old new : StorageState) (turn : Effect) → IsSound old.mode old.replica.state → answer_of old.replica.last_reload old.replica.media ≡ Failed
    → new.replica.state ≡ old.replica.state → new.mode ≡ Down → CountsOn old.replica.media new.replica.media
    → turn.mark ≡ StayedDown → turn.outputs ≡ [] → turn.reply ≡ Nothing → TurnsOut old Restart turn new
unfolding outcome
turns-stayed old new turn sound answer state mode counts mark outputs reply =
    record {
      row = record {
        made = as_stopped (storage_role (config_of old) (member_in old)) (node_of old);
        rule = ap (λ (m : Mark). outcome (config_of old) (member_in old) (node_of old) Restart m) mark;
        node = down-node old new sound state mode;
        outputs = outputs;
        reply = reply;
        config = ap (λ (s : ReplicaState). s.config) state;
        member = ap (λ (s : ReplicaState). member_of s) state;
      };
      small = silent-small turn.outputs turn.reply outputs reply;
      halted = λ other. let wrong : StayedDown ≡ Halted = sym mark ∙ other in absurd (cc);
      counts = counts;
      told = nothing-told old turn.mark (node_of old).mode Restart (restart-puts-nothing old (node_of old).mode);
      opened = λ _. mark ∙ ap opening_mark (sym answer);
      stayed = λ _. refl;
    }

-- A start, with the lists as they stood or with what was in flight: what the rule makes of the node.
pub record Opens (old : StorageState) (mark : Mark) (lists : List (List Entry)) : Type 0 where
  pub rule : outcome (config_of old) (member_in old) (node_of old) Restart mark ≡ Some (opened (storage_role (config_of old) (member_in old)) lists)

opens-with : (old : StorageState) (lists : List (List Entry)) → IsSound old.mode old.replica.state → AreRead old.replica.state.segments old.replica.media
    → list_any has_one_more old.replica.media ≡ true → Longer 0 old.replica.state.segments lists → Opens old OpenedWith lists
unfolding outcome
opens-with old lists sound read more longer = record { rule = next old.mode refl }
  where
    put : Put
    put = record { segment = 0 + longer.place; entry = longer.entry }

    next : (mode : Mode) → old.mode ≡ mode → opened_with (storage_role (config_of old) (member_in old)) (lists_in old) (flight_of (mode_of old.mode old.replica.state old.ticks))
        ≡ Some (opened (storage_role (config_of old) (member_in old)) lists)
    next Down e =
        ap (λ (m : Mode). opened_with (storage_role (config_of old) (member_in old)) (lists_in old) (flight_of (mode_of m old.replica.state old.ticks))) e
        ∙ ap (opened_with (storage_role (config_of old) (member_in old)) (lists_in old)) longer.flight
        ∙ ap (λ (n : ℕ). Some (opened (storage_role (config_of old) (member_in old)) (with_entry (lists_in old) n longer.entry))) (omega arith)
        ∙ ap (λ (ls : List (List Entry)). Some (opened (storage_role (config_of old) (member_in old)) ls)) (sym longer.lists)
    next Running e =
        let rests : AllByRecursion IsAtRest old.replica.state.segments = subst (λ (m : Mode). RestsIn m old.replica.state.segments) e sound.rests in
        let none = none-more-at-rest old.replica.state.segments old.replica.media rests read in
        let wrong : true ≡ false = sym more ∙ none in absurd (cc)

opens-without : (old : StorageState) (lists : List (List Entry)) → lists ≡ lists_in old → Opens old OpenedWithout lists
unfolding outcome
opens-without old lists same = record { rule = ap (λ (ls : List (List Entry)). Some (opened (storage_role (config_of old) (member_in old)) ls)) (sym same) }

opens : (old : StorageState) (more : Bool) → list_any has_one_more old.replica.media ≡ more → IsSound old.mode old.replica.state → AreRead old.replica.state.segments old.replica.media
    → Opens old (opening_mark (cond more OneMore Same)) (lists_of (at_first (config_of old) old.replica.state.shard old.replica.state.own (reopened_all old.replica.state.segments old.replica.media)))
opens old true e sound read =
    opens-with old _ sound read e (entries-longer 0 old.replica.state.segments old.replica.media (rests-one old.mode old.replica.state.segments sound.rests) read e)
opens old false e sound read = opens-without old _ (entries-same old.replica.state.segments old.replica.media e)

opening-usual : (more : Bool) → opening_mark (cond more OneMore Same) ≡ Halted → ⊥
opening-usual true e = cc
opening-usual false e = cc

-- a start
turns-read : (old new : StorageState) (turn : Effect) → IsSound old.mode old.replica.state → AreRead old.replica.state.segments old.replica.media
    → old.replica.last_reload ≡ Some WasRead
    → new.replica.state ≡ at_first (config_of old) old.replica.state.shard old.replica.state.own (reopened_all old.replica.state.segments old.replica.media)
    → new.mode ≡ Running → new.ticks ≡ 0 → CountsOn old.replica.media new.replica.media → turn.mark ≡ opening_mark (came_to old.replica.media) → turn.outputs ≡ [] → turn.reply ≡ Nothing → TurnsOut old Restart turn new
turns-read old new turn sound read last state mode ticks counts mark outputs reply =
    let first = at_first (config_of old) old.replica.state.shard old.replica.state.own (reopened_all old.replica.state.segments old.replica.media) in
    let rule = opens old (list_any has_one_more old.replica.media) refl sound read in
    record {
      row = record {
        made = opened (storage_role (config_of old) (member_in old)) (lists_of first);
        rule = ap (λ (m : Mark). outcome (config_of old) (member_in old) (node_of old) Restart m) mark ∙ rule.rule;
        node = ap (λ (m : Mode). as_node (lists_of new.replica.state) (mode_of m new.replica.state new.ticks)) mode
            ∙ ap (λ (s : ReplicaState). as_node (lists_of s) (mode_of Running s new.ticks)) state
            ∙ ap (λ (n : ℕ). as_node (lists_of first) (mode_of Running first n)) ticks;
        outputs = outputs;
        reply = reply;
        config = ap (λ (s : ReplicaState). s.config) state;
        member = ap (λ (s : ReplicaState). member_of s) state;
      };
      small = silent-small turn.outputs turn.reply outputs reply;
      halted = λ other. absurd (opening-usual (list_any has_one_more old.replica.media) (sym mark ∙ other));
      counts = counts;
      told = nothing-told old turn.mark (node_of old).mode Restart (restart-puts-nothing old (node_of old).mode);
      opened = λ _. mark ∙ ap (λ (l : Option LastReload). mark_after l old.replica.media) (sym last);
      stayed = λ _. refl;
    }

-- a start that did not fail had read all lists
was-read : (replica : Replicated) (last : Option LastReload) → IsReloaded last replica → answer_of last replica.media ≢ Failed
    → (last ≡ Some WasRead) × AreRead replica.state.segments replica.media
was-read replica None reloaded good = absurd reloaded
was-read replica (Some Unread) reloaded good = absurd (good refl)
was-read replica (Some WasRead) reloaded good = (refl, reloaded)

pub turns-opened : (old new : StorageState) (turn : Effect) (answer : Installed) → IsSound old.mode old.replica.state → IsReloaded old.replica.last_reload old.replica
    → answer ≡ answer_of old.replica.last_reload old.replica.media → answer ≢ Failed
    → new.replica.state ≡ state_after old.replica.last_reload old.replica.state old.replica.media
    → new.mode ≡ Running → new.ticks ≡ 0 → CountsOn old.replica.media new.replica.media → turn.mark ≡ opening_mark answer → turn.outputs ≡ [] → turn.reply ≡ Nothing → TurnsOut old Restart turn new
turns-opened old new turn answer sound reloaded is good state mode ticks counts mark outputs reply =
    let read = was-read old.replica old.replica.last_reload reloaded (subst (λ (a : Installed). a ≢ Failed) is good) in
    turns-read old new turn sound read.1 read.0
    (state ∙ ap (λ (l : Option LastReload). state_after l old.replica.state old.replica.media) read.0)
    mode ticks counts (mark ∙ ap opening_mark (is ∙ ap (λ (l : Option LastReload). answer_of l old.replica.media) read.0)) outputs reply

pub sound-opened : (mode : Mode) (replica : Replicated) (answer : Installed) → IsSound mode replica.state → IsReloaded replica.last_reload replica
    → answer ≡ answer_of replica.last_reload replica.media → answer ≢ Failed
    → IsSound Running (state_after replica.last_reload replica.state replica.media)
sound-opened mode replica answer sound reloaded is good =
    let read = was-read replica replica.last_reload reloaded (subst (λ (a : Installed). a ≢ Failed) is good) in
    subst (λ (l : Option LastReload). IsSound Running (state_after l replica.state replica.media)) (sym read.0)
    (sound-reopened mode replica.state replica.media sound read.1)

-- a node that started is one still
pub storage-opened : (config : Shape) (shard own : ℕ) (mode : Mode) (replica : Replicated) (new : ReplicaState) (sent : List Sent) (answer : Installed) → answer ≢ Failed
    → IsStorage config shard own mode replica.state sent → IsReloaded replica.last_reload replica
    → answer ≡ answer_of replica.last_reload replica.media → new ≡ state_after replica.last_reload replica.state replica.media
    → IsStorage config shard own Running new sent
storage-opened config shard own mode replica new sent answer good kept reloaded is state = record {
  replica = subst (λ (s : ReplicaState). IsOf config shard own s) (sym state) (of-opened replica.last_reload replica.state replica.media kept.replica);
  sound = subst (λ (s : ReplicaState). IsSound Running s) (sym state) (sound-opened mode replica answer kept.sound reloaded is good);
  nothing_sent = kept.nothing_sent;
}
  where
    of-opened : (last : Option LastReload) (now : ReplicaState) (media : List Medium) → IsOf config shard own now → IsOf config shard own (state_after last now media)
    of-opened None now media of = of
    of-opened (Some Unread) now media of = of
    of-opened (Some WasRead) now media of = record { config_is = of.config_is; shard_is = of.shard_is; own_is = of.own_is }
