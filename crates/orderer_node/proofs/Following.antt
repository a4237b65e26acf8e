-- Rows that put something, followed at a node.
use Rattle.std.proofs.Common.{◌≡◌, ℕ, ◌<◌, ◌≤◌, ◌^◌, Bool, true, false, cond, nat_lt, nat_le, ◌==◌, List, [], ◌∷◌, ◌++◌, map, length, Option, Some, None, refl, ap, sym, subst, ◌∙◌, arith}
use Rattle.std.specs.List.{AllByRecursion}
use Rattle.std.proofs.lemmas.Bool.{cond_both}
use Rattle.std.proofs.lemmas.Bool.Decides.{nat_tests}
use Rattle.std.proofs.lemmas.List.{append-nil, map-append}
use borrow.Author.Tests.{ltb-true}
use Rattle.reply_frame.specs.declared.replies.Reply.{Nothing}
use Rattle.event_letters.specs.Letters.{EventLetters, message_length}
use Rattle.history_frame.specs.declared.events.Sent.{Sent}
use Rattle.history_frame.specs.declared.inputs.Mark.TheVariants.{Done, Halted}
use Rattle.log_base.specs.ClusterShape.{Shape}
use Rattle.log_base.specs.Outgoing.{Outgoing}
use Rattle.log_base.specs.Wide.{be4, be8}
use Rattle.message_frame.specs.declared.messages.Message.{Message}
use Rattle.message_frame.specs.declared.messages.Vote.{Vote}
use Rattle.message_frame.specs.Spelling.{IsBallot, IsMessage}
use Rattle.record_frame.specs.declared.values.Value.{Value}
use Rattle.record_frame.specs.Values.{IsValue}
use Rattle.segment_journal.specs.Journalled.{Journalled, with_payload}
use Rattle.node_model.specs.Machine.{posted}
use Rattle.node_model.specs.Marks.{Running, Stopped}
use Rattle.node_model.specs.Messages.{accepted_message, lower_message, prepare_message, promised_message}
use Rattle.node_model.specs.OrdererNode.{Change, Mode, Node, Orderer, with_put}
use Rattle.node_model.specs.Nodes.{to_orderers}
use Rattle.node_model.specs.OrdererRow.{accept_answer, on_lead, prepare_answer, quiet, to_owner, with_leader}
use Rattle.paxos_model.specs.Leader.{ballot_above, leader_from}
use Rattle.paxos_model.proofs.Ballots.{ballot_above-above}
use Rattle.paxos_model.specs.Acceptor.{Promised as Promise_answer, Refused, Granted, Accepted as Accept_answer, TooLow, Taken, accept, prepare}
use Rattle.paxos_model.specs.Payloads.{IsPayload, payload_found, payload_in, payload_spelling}
use Rattle.paxos_model.specs.Votes.{Payload, Promise, Voted, has_vote, promised, reports, vote_of, votes}
use Rattle.paxos_model.proofs.Payloads.{payload_spelled}
use Rattle.paxos_acceptor.specs.Accepting.{TellsAccepted, TellsPromised, put_by_accept, put_by_prepare}
use Rattle.paxos_acceptor.specs.Listed.{after_put, list_of}
use Rattle.paxos_acceptor.specs.declared.answers.Acceptance.TheVariants.{Accepted as AcceptedNow, Lower as LowerVote, Halted as HaltedVote}
use Rattle.paxos_acceptor.specs.declared.answers.Prepared.TheVariants.{Promised as PromisedNow, Lower as LowerPromise, Halted as HaltedPromise}
use Rattle.log_base.specs.declared.numbers.Ballot.{Ballot}
use Rattle.orderer_node.specs.Announcing.{AreSmall}
use Rattle.orderer_node.specs.Ordering.{Follows, IsOrdering, Ordering, RunsAs, fallen, flight_in, mode_of}
use Rattle.orderer_node.specs.Remembering.{Remembered}
use Rattle.orderer_node.specs.declared.node.Standing.{Standing}
use Rattle.orderer_node.specs.declared.node.Standing.TheVariants.{Down, Up}
use Rattle.orderer_node.proofs.Values.{each-push}

-- ---- what is put has a spelling

abbrev pub IsFinePut : Option Payload → Type 0
IsFinePut None = Unit {0}
IsFinePut (Some payload) = IsPayload payload

pub accept_put : (list : List Payload) (ballot slot : ℕ) (value : Value) → IsBallot ballot → slot ≤ 16383 → IsValue value → IsFinePut (put_by_accept (accept list ballot slot value))
unfolding accept
accept_put list ballot slot value b s v =
    cond_both (nat_lt ballot (promised list)) (TooLow (promised list)) rest (λ a. IsFinePut (put_by_accept a)) (λ e. tt)
    (λ e. cond_both (has_vote (votes list) ballot slot) (Taken None) (Taken (Some (Voted (vote_of ballot slot value)))) (λ a. IsFinePut (put_by_accept a)) (λ f. tt) (λ f. (b, s, v)))
  where
    rest : Accept_answer
    rest = cond (has_vote (votes list) ballot slot) (Taken None) (Taken (Some (Voted (vote_of ballot slot value))))

pub prepare_put : (list : List Payload) (ballot slot : ℕ) → IsBallot ballot → IsFinePut (put_by_prepare (prepare list ballot slot))
unfolding prepare
prepare_put list ballot slot b =
    cond_both (nat_lt ballot (promised list)) (Refused (promised list)) rest (λ a. IsFinePut (put_by_prepare a)) (λ e. tt)
    (λ e. cond_both (ballot == promised list) (Granted None told_votes) (Granted (Some (Promise ballot)) told_votes) (λ a. IsFinePut (put_by_prepare a)) (λ f. tt) (λ f. b))
  where
    told_votes : List Vote
    told_votes = reports ballot slot 64 (votes list)

    rest : Promise_answer
    rest = cond (ballot == promised list) (Granted None told_votes) (Granted (Some (Promise ballot)) told_votes)

-- ---- the list after a put

read_back : (payload : Payload) → IsPayload payload → payload_in (payload_spelling payload) ≡ payload
unfolding payload_in
read_back payload is = ap payload_found (payload_spelled payload is)

list_put : (journal : Journalled) (put : Option Payload) → IsFinePut put → list_of (after_put journal put false) ≡ with_put (list_of journal) put
list_put journal None is = refl
list_put journal (Some payload) is =
    map-append payload_in journal.payloads (payload_spelling payload ∷ []) ∙ ap (λ (p : Payload). list_of journal ++ p ∷ []) (read_back payload is)

pub put_kept : (index : ℕ) (journal after : Journalled) (put : Option Payload) (standing : Standing) (memory : Remembered) (letters : EventLetters) → IsFinePut put
    → after ≡ after_put journal put false → IsOrdering index journal standing memory letters → IsOrdering index after standing memory letters
put_kept index journal after put standing memory letters fine same is =
    subst (λ (j : Journalled). IsOrdering index j standing memory letters) (sym same) (at put fine)
  where
    at : (put : Option Payload) → IsFinePut put → IsOrdering index (after_put journal put false) standing memory letters
    at None f = is
    at (Some payload) f = record {
      within = is.within;
      list = subst (λ (l : List Payload). AllByRecursion IsPayload l) (sym (list_put journal (Some payload) f)) (each-push IsPayload (list_of journal) payload is.list f);
      flight = is.flight;
      runs = runs standing is.runs;
      sent = is.sent;
    }
      where
        runs : (s : Standing) → RunsAs s journal → RunsAs s (with_payload journal (payload_spelling payload))
        runs Down r = tt
        runs Up r = (r.0, r.1)

pub put_fell : (index : ℕ) (journal after : Journalled) (put : Option Payload) (standing : Standing) (memory : Remembered) (letters : EventLetters) → IsFinePut put
    → after ≡ after_put journal put true → IsOrdering index journal standing memory letters → IsOrdering index after Down memory letters
put_fell index journal after put standing memory letters fine same is =
    subst (λ (j : Journalled). IsOrdering index j Down memory letters) (sym same) (at put fine)
  where
    at : (put : Option Payload) → IsFinePut put → IsOrdering index (after_put journal put true) Down memory letters
    at None f = record { within = is.within; list = is.list; flight = is.flight; runs = tt; sent = is.sent }
    at (Some payload) f = record {
      within = is.within;
      list = is.list;
      flight = subst IsPayload (sym (read_back payload f)) f;
      runs = tt;
      sent = is.sent;
    }

-- ---- a row is followed

module _ {J : Type 0} (state : J → Journalled) (old new : Ordering J) (letters : EventLetters) (before after : Outgoing) where
  pub done_follows : (change : Change) → IsFinePut change.put → change.after ≡ new.memory.orderer → change.reply ≡ Nothing → change.outputs ≡ letters.sent
      → state new.journal ≡ after_put (state old.journal) change.put false → new.standing ≡ Up → after.letters ≡ before.letters ++ map posted letters.sent → AreSmall 64 letters.sent
      → new.memory.config ≡ old.memory.config → new.index ≡ old.index → Follows state change old new Done letters before after
  done_follows change fine memory reply outputs journal up posts small config index = record {
    turns = λ j. Some (let at : Node = record { durable = durable j; mode = mode j } in at, outputs j);
    posts = posts;
    small = small;
    silent = reply;
    config = config;
    index = index;
  }
    where
      durable : with_put (list_of (state old.journal)) change.put ≡ list_of (state new.journal)
      durable = sym (list_put (state old.journal) change.put fine) ∙ ap list_of (sym journal)

      running : Mode
      running = Running change.after

      mode : running ≡ mode_of (state new.journal) new.standing new.memory.orderer
      mode = ap (λ (o : Orderer). let m : Mode = Running o in m) memory ∙ ap (λ (s : Standing). mode_of (state new.journal) s new.memory.orderer) (sym up)

  pub halt_follows : (change : Change) (put : Payload) → change.put ≡ Some put → IsPayload put → change.reply ≡ Nothing → letters.sent ≡ []
      → state new.journal ≡ after_put (state old.journal) (Some put) true → new.standing ≡ Down → after.letters ≡ before.letters
      → new.memory ≡ old.memory → new.index ≡ old.index → Follows state change old new Halted letters before after
  halt_follows change put is fine reply none journal down posts memory index = record {
    turns = ap (λ (p : Option Payload). fallen (list_of (state old.journal)) old.memory.orderer p) is
        ∙ (λ j. Some (let at : Node = record { durable = durable j; mode = mode j } in at, sym none j));
    posts = posts ∙ sym (append-nil before.letters) ∙ ap (λ (l : List Sent). before.letters ++ map posted l) (sym none);
    small = subst (λ (l : List Sent). AreSmall 64 l) (sym none) (record { few = omega arith; each = tt });
    silent = reply;
    config = ap (λ (m : Remembered). m.config) memory;
    index = index;
  }
    where
      durable : list_of (state old.journal) ≡ list_of (state new.journal)
      durable = ap list_of (sym journal)

      flight : Some put ≡ flight_in (state new.journal)
      flight = ap Some (sym (read_back put fine)) ∙ ap flight_in (sym journal)

      stopped : Mode
      stopped = Stopped (Some put) old.memory.orderer.known

      mode : stopped ≡ mode_of (state new.journal) new.standing new.memory.orderer
      mode = (λ j. let m : Mode = Stopped (flight j) (sym memory j).orderer.known in m) ∙ ap (λ (s : Standing). mode_of (state new.journal) s new.memory.orderer) (sym down)

  -- ---- a vote

  pub accepted_follows : (ballot slot : ℕ) (answer : Accept_answer) → TellsAccepted AcceptedNow answer → IsFinePut (put_by_accept answer)
      → state new.journal ≡ after_put (state old.journal) (put_by_accept answer) false → new.standing ≡ Up → new.memory ≡ old.memory → new.index ≡ old.index
      → letters.sent ≡ to_owner old.memory.config ballot (accepted_message ballot slot old.index) → after.letters ≡ before.letters ++ map posted letters.sent → AreSmall 64 letters.sent
      → Follows state (accept_answer old.memory.config old.index old.memory.orderer ballot slot answer) old new Done letters before after
  accepted_follows ballot slot (TooLow promise) tells fine journal up memory index sent posts small = absurd tells
  accepted_follows ballot slot (Taken put) tells fine journal up memory index sent posts small =
      done_follows (accept_answer old.memory.config old.index old.memory.orderer ballot slot (Taken put)) fine (ap (λ (m : Remembered). m.orderer) (sym memory)) refl (sym sent) journal up posts small
      (ap (λ (m : Remembered). m.config) memory) index

  pub low_vote_follows : (ballot slot : ℕ) (answer : Accept_answer) (lower : Ballot) → TellsAccepted (LowerVote lower) answer
      → state new.journal ≡ after_put (state old.journal) (put_by_accept answer) false → new.standing ≡ Up → new.memory ≡ old.memory → new.index ≡ old.index
      → letters.sent ≡ to_owner old.memory.config ballot (lower_message ballot lower.0) → after.letters ≡ before.letters ++ map posted letters.sent → AreSmall 64 letters.sent
      → Follows state (accept_answer old.memory.config old.index old.memory.orderer ballot slot answer) old new Done letters before after
  low_vote_follows ballot slot (Taken put) lower tells journal up memory index sent posts small = absurd tells
  low_vote_follows ballot slot (TooLow promise) lower tells journal up memory index sent posts small =
      done_follows (accept_answer old.memory.config old.index old.memory.orderer ballot slot (TooLow promise)) tt (ap (λ (m : Remembered). m.orderer) (sym memory)) refl
      (sym (sent ∙ ap (λ (p : ℕ). to_owner old.memory.config ballot (lower_message ballot p)) tells)) journal up posts small
      (ap (λ (m : Remembered). m.config) memory) index

  pub halted_vote_follows : (ballot slot : ℕ) (answer : Accept_answer) → TellsAccepted HaltedVote answer → IsFinePut (put_by_accept answer)
      → state new.journal ≡ after_put (state old.journal) (put_by_accept answer) true → new.standing ≡ Down → new.memory ≡ old.memory → new.index ≡ old.index
      → letters.sent ≡ [] → after.letters ≡ before.letters
      → Follows state (accept_answer old.memory.config old.index old.memory.orderer ballot slot answer) old new Halted letters before after
  halted_vote_follows ballot slot (TooLow promise) tells fine journal down memory index sent posts = absurd tells
  halted_vote_follows ballot slot (Taken None) tells fine journal down memory index sent posts = absurd tells
  halted_vote_follows ballot slot (Taken (Some put)) tells fine journal down memory index sent posts =
      halt_follows (accept_answer old.memory.config old.index old.memory.orderer ballot slot (Taken (Some put))) put refl fine refl sent journal down posts memory index

  -- ---- a promise

  pub promised_follows : (ballot slot : ℕ) (answer : Promise_answer) (told_before told_now : List Vote) → TellsPromised PromisedNow answer told_before told_now → IsFinePut (put_by_prepare answer)
      → state new.journal ≡ after_put (state old.journal) (put_by_prepare answer) false → new.standing ≡ Up → new.memory ≡ old.memory → new.index ≡ old.index
      → letters.sent ≡ to_owner old.memory.config ballot (promised_message ballot slot old.index told_now) → after.letters ≡ before.letters ++ map posted letters.sent → AreSmall 64 letters.sent
      → Follows state (prepare_answer old.memory.config old.index old.memory.orderer ballot slot answer) old new Done letters before after
  promised_follows ballot slot (Refused promise) told_before told_now tells fine journal up memory index sent posts small = absurd tells
  promised_follows ballot slot (Granted put reported) told_before told_now tells fine journal up memory index sent posts small =
      done_follows (prepare_answer old.memory.config old.index old.memory.orderer ballot slot (Granted put reported)) fine (ap (λ (m : Remembered). m.orderer) (sym memory)) refl
      (sym (sent ∙ ap (λ (v : List Vote). to_owner old.memory.config ballot (promised_message ballot slot old.index v)) tells)) journal up posts small
      (ap (λ (m : Remembered). m.config) memory) index

  pub low_promise_follows : (ballot slot : ℕ) (answer : Promise_answer) (lower : Ballot) (told_before told_now : List Vote) → TellsPromised (LowerPromise lower) answer told_before told_now
      → state new.journal ≡ after_put (state old.journal) (put_by_prepare answer) false → new.standing ≡ Up → new.memory ≡ old.memory → new.index ≡ old.index
      → letters.sent ≡ to_owner old.memory.config ballot (lower_message ballot lower.0) → after.letters ≡ before.letters ++ map posted letters.sent → AreSmall 64 letters.sent
      → Follows state (prepare_answer old.memory.config old.index old.memory.orderer ballot slot answer) old new Done letters before after
  low_promise_follows ballot slot (Granted put reported) lower told_before told_now tells journal up memory index sent posts small = absurd tells
  low_promise_follows ballot slot (Refused promise) lower told_before told_now tells journal up memory index sent posts small =
      done_follows (prepare_answer old.memory.config old.index old.memory.orderer ballot slot (Refused promise)) tt (ap (λ (m : Remembered). m.orderer) (sym memory)) refl
      (sym (sent ∙ ap (λ (p : ℕ). to_owner old.memory.config ballot (lower_message ballot p)) tells.0)) journal up posts small
      (ap (λ (m : Remembered). m.config) memory) index

  pub halted_promise_follows : (ballot slot : ℕ) (answer : Promise_answer) (told_before told_now : List Vote) → TellsPromised HaltedPromise answer told_before told_now → IsFinePut (put_by_prepare answer)
      → state new.journal ≡ after_put (state old.journal) (put_by_prepare answer) true → new.standing ≡ Down → new.memory ≡ old.memory → new.index ≡ old.index
      → letters.sent ≡ [] → after.letters ≡ before.letters
      → Follows state (prepare_answer old.memory.config old.index old.memory.orderer ballot slot answer) old new Halted letters before after
  halted_promise_follows ballot slot (Refused promise) told_before told_now tells fine journal down memory index sent posts = absurd tells
  halted_promise_follows ballot slot (Granted None reported) told_before told_now tells fine journal down memory index sent posts = absurd tells.0
  halted_promise_follows ballot slot (Granted (Some put) reported) told_before told_now tells fine journal down memory index sent posts =
      halt_follows (prepare_answer old.memory.config old.index old.memory.orderer ballot slot (Granted (Some put) reported)) put refl fine refl sent journal down posts memory index

-- ---- what is refused is below a promise in range

pub promised_below : (list : List Payload) → AllByRecursion IsPayload list → promised list < 2 ^ 56
promised_below [] h = omega arith
promised_below (Promise ballot ∷ list) h = let b = h.0.1 in let rest = promised_below list h.1 in omega arith
promised_below (Voted vote ∷ list) h = let b = h.0.0.1 in let rest = promised_below list h.1 in omega arith

in_range : (ballot : ℕ) (list : List Payload) (lower : ℕ) → AllByRecursion IsPayload list → nat_lt ballot (promised list) ≡ true → lower ≡ promised list → IsBallot lower
in_range ballot list lower h above same =
    let up = ltb-true ballot (promised list) above in
    let below = promised_below list h in
    (omega arith, omega arith)

pub low_vote_range : (list : List Payload) (ballot slot : ℕ) (value : Value) (lower : Ballot) → AllByRecursion IsPayload list
    → TellsAccepted (LowerVote lower) (accept list ballot slot value) → IsBallot lower.0
unfolding accept
low_vote_range list ballot slot value lower h tells = at (nat_lt ballot (promised list)) refl tells
  where
    rest : Accept_answer
    rest = cond (has_vote (votes list) ballot slot) (Taken None) (Taken (Some (Voted (vote_of ballot slot value))))

    taken : (b : Bool) → TellsAccepted (LowerVote lower) (cond b (Taken None) (Taken (Some (Voted (vote_of ballot slot value))))) → IsBallot lower.0
    taken true t = absurd t
    taken false t = absurd t

    at : (b : Bool) → nat_lt ballot (promised list) ≡ b → TellsAccepted (LowerVote lower) (cond b (TooLow (promised list)) rest) → IsBallot lower.0
    at true e t = in_range ballot list lower.0 h e t
    at false e t = taken (has_vote (votes list) ballot slot) t

pub low_promise_range : (list : List Payload) (ballot slot : ℕ) (lower : Ballot) (told_before told_now : List Vote) → AllByRecursion IsPayload list
    → TellsPromised (LowerPromise lower) (prepare list ballot slot) told_before told_now → IsBallot lower.0
unfolding prepare
low_promise_range list ballot slot lower told_before told_now h tells = at (nat_lt ballot (promised list)) refl tells
  where
    told_votes : List Vote
    told_votes = reports ballot slot 64 (votes list)

    rest : Promise_answer
    rest = cond (ballot == promised list) (Granted None told_votes) (Granted (Some (Promise ballot)) told_votes)

    granted : (b : Bool) → TellsPromised (LowerPromise lower) (cond b (Granted None told_votes) (Granted (Some (Promise ballot)) told_votes)) told_before told_now → IsBallot lower.0
    granted true t = absurd t
    granted false t = absurd t

    at : (b : Bool) → nat_lt ballot (promised list) ≡ b → TellsPromised (LowerPromise lower) (cond b (Refused (promised list)) rest) told_before told_now → IsBallot lower.0
    at true e t = in_range ballot list lower.0 h e t.0
    at false e t = granted (ballot == promised list) t

-- ---- letters to the owner of a ballot

pub accepted_short : (ballot slot who : ℕ) → message_length (accepted_message ballot slot who) ≡ 14
unfolding be4 be8
accepted_short ballot slot who = refl

pub lower_short : (ballot promise : ℕ) → message_length (lower_message ballot promise) ≡ 17
unfolding be8
lower_short ballot promise = refl

pub one_small : (config : Shape) (ballot : ℕ) (message : Message) (sent : List Sent) → IsMessage message → message_length message ≤ 9103 → sent ≡ to_owner config ballot message → AreSmall 64 sent
one_small config ballot message sent is short same =
    subst (λ (l : List Sent). AreSmall 64 l) (sym same) (record { few = omega arith; each = (record { message = is; short = short }, tt) })

-- ---- beginning to lead

abbrev pub leading : Shape → Orderer → ℕ → Change
leading config o ballot = record {
  put = Some (Promise ballot);
  after = with_leader o (Some (leader_from ballot (length o.known)));
  outputs = to_orderers config (prepare_message ballot (length o.known));
  reply = Nothing;
}

not_past : (ballot : ℕ) → ballot < 2 ^ 56 → nat_le (2 ^ 56) ballot ≡ false
not_past ballot h = grind (arith, nat_tests)

pub lead_row : (config : Shape) (index : ℕ) (list : List Payload) (o : Orderer) (ballot : ℕ) → ballot ≡ ballot_above config.orderers index (promised list) → ballot < 2 ^ 56
    → leading config o ballot ≡ on_lead config index list o
unfolding on_lead
lead_row config index list o ballot same below =
    let own = ballot_above config.orderers index (promised list) in
    let test : nat_le (2 ^ 56) own ≡ false = ap (λ (b : ℕ). nat_le (2 ^ 56) b) (sym same) ∙ not_past ballot below in
    ap (λ (b : ℕ). leading config o b) same ∙ ap (λ b. cond b (quiet o) (leading config o own)) (sym test)

pub lead_ballot : (orderers index : ℕ) (list : List Payload) (ballot : ℕ) → index < orderers → ballot ≡ ballot_above orderers index (promised list) → ballot < 2 ^ 56
    → (promised list < ballot) × IsBallot ballot
lead_ballot orderers index list ballot within same below =
    let above = ballot_above-above orderers index (promised list) within in
    (omega arith, (omega arith, below))

pub memory_kept : (index : ℕ) (journal : Journalled) (standing : Standing) (memory after : Remembered) (letters : EventLetters) → after.config ≡ memory.config
    → IsOrdering index journal standing memory letters → IsOrdering index journal standing after letters
memory_kept index journal standing memory after letters same is = record {
  within = subst (λ (s : Shape). index < s.orderers) (sym same) is.within;
  list = is.list;
  flight = is.flight;
  runs = is.runs;
  sent = is.sent;
}
