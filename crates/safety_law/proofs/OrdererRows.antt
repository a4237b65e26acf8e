-- Each row of an orderer keeps its ballots and slots in range, and those of its letters.
use Rattle.std.proofs.Common.{◌≡◌, ◌+◌, ◌-◌, ◌%◌, ◌^◌, ◌<◌, ◌≤◌, ℕ, Bool, true, false, cond, ◌==◌, nat_le, nat_lt, List, [], ◌∷◌, ◌++◌, length, Option, Some, None, refl, arith, length-append, ltb-true}
use Rattle.std.proofs.lemmas.Bool.{cond_both, eqb-true, leb-false}
use Rattle.reply_frame.specs.declared.replies.Reply.{NoSuchShard, Nothing as Silence, Taken as TakenWish}
use Rattle.history_frame.specs.declared.events.Sent.{Sent}
use Rattle.history_frame.specs.declared.inputs.Call.{Call}
use Rattle.history_frame.specs.declared.inputs.Call.TheVariants.{Ask, Read, Request, Settled, Submit}
use Rattle.history_frame.specs.declared.inputs.Input.{Input}
use Rattle.history_frame.specs.declared.inputs.Input.TheVariants.{Call as ACall, Deliver, Lead, Restart, Stop, Tick}
use Rattle.log_base.specs.ClusterShape.{InRange, Shape}
use Rattle.message_frame.specs.declared.messages.Message.{Message}
use Rattle.message_frame.specs.declared.messages.Message.TheVariants.{Accept, Accepted, Copy, CopyAck, Decide, Least, Lower, Prepare, Promised, Report, Want}
use Rattle.message_frame.specs.declared.messages.Vote.{Vote}
use Rattle.message_frame.specs.Spelling.{IsBallot}
use Rattle.record_frame.specs.declared.values.Value.{Value}
use Rattle.paxos_model.specs.Acceptor.{Accepted as Answered, Granted, Promised as Promising, Refused, Taken, TooLow, accept, prepare}
use Rattle.paxos_model.specs.Leader.{Advanced, Leader, Next, Nothing, Pending, Propose, Window, advance, awaits_promise, ballot_above, drop_pending, leader_from, next_of, next_unless, picked, propose, slot_limit, with_acceptance, with_promise}
use Rattle.paxos_model.specs.Learner.{learn, wish_of}
use Rattle.paxos_model.specs.Majority.{most}
use Rattle.paxos_model.specs.Votes.{Payload, Promise, Voted, has_vote, promised, reports, vote_of, votes}
use Rattle.paxos_model.proofs.Ballots.{ballot_above-above}
use Rattle.node_table.specs.declared.role.Role.TheVariants.{Orderer as OrdererRole}
use Rattle.node_table.specs.Numbering.{nodes_of, orderer_node, role_at}
use Rattle.node_model.specs.Messages.{accept_message, accepted_message, decide_message, lower_message, prepare_message, promised_message, want_message}
use Rattle.node_model.specs.Nodes.{letter, to_learners, to_orderers}
use Rattle.node_model.specs.OrdererNode.{Change, Orderer}
use Rattle.node_model.specs.OrdererRow.{accept_answer, accepted_for, accepted_to, answered, call_row, counted, decide_letters, decided_by, finalises_unknown, go_on, leader_after, learned, lowered, message_row, next_letters, on_accept, on_accepted, on_lead, on_least, on_lower, on_prepare, on_promised, on_request, on_settled, on_tick, on_want, one_tick, prepare_answer, promised_to, quiet, request_to, row, tick_leader, tick_pending, to_owner, told, with_leader}
use Rattle.node_model.proofs.Turning.{ForSome}
use Rattle.safety_law.specs.Letters.{IsGoodMessage, IsLearner}
use Rattle.safety_law.specs.Lists.{Lists}
use Rattle.safety_law.specs.Numbers.{AreNumbered, IsNumberedLead, IsNumberedLeader, IsNumberedOrderer, IsNumberedPending, IsNumberedPut}
use Rattle.safety_law.specs.Events.{IsGoodInput}
use Rattle.safety_law.proofs.Numbered.{AreNumberedLetters, both_numbered, none_numbered, one_numbered, orderer_learns, to_all, to_all_learners, to_one, to_the_owner, told_many}
use Rattle.safety_law.proofs.Reported.{promised_below, reports_numbered}
use Rattle.safety_law.proofs.StorageSends.{orderer_below}

-- a row: what it puts, what stands after it and what it sends has its numbers in range
pub record IsNumberedChange (config : Shape) (c : Change) : Type 0 where
  pub put : IsNumberedPut c.put
  pub after : IsNumberedOrderer c.after
  pub letters : AreNumberedLetters config c.outputs

abbrev IsNumberedNext : Next → Type 0
IsNumberedNext (Propose k v) = k ≤ 16383
IsNumberedNext (Window k) = k ≤ 16384
IsNumberedNext Nothing = Unit {0}

record IsNumberedStep (s : Advanced) : Type 0 where
  leader : IsNumberedLeader s.leader
  next : IsNumberedNext s.next

propose_numbered : (l : Leader) (k : ℕ) (o : Option Value) → IsNumberedLeader l → k ≤ 16383 → IsNumberedStep (propose l k o)
propose_numbered l k None h few = record { leader = h; next = tt }
propose_numbered l k (Some v) h few = record { leader = record { ballot = h.ballot; window = h.window; waits = few }; next = few }

next_numbered : (l : Leader) (k : ℕ) (wish : Option Value) → IsNumberedLeader l → k ≤ slot_limit → IsNumberedStep (next_of l k wish)
next_numbered l k wish h few =
    cond_both (nat_le slot_limit k) (record { leader = l; next = Nothing }) rest IsNumberedStep
    (λ e. record { leader = h; next = tt })
    (λ e. let below = leb-false slot_limit k e in
    cond_both (nat_le (l.window + 64) k) (record { leader = leader_from l.ballot k; next = Window k }) (propose l k (picked l.best (k - l.window) wish)) IsNumberedStep
    (λ f. record { leader = record { ballot = h.ballot; window = few; waits = tt }; next = few })
    (λ f. propose_numbered l k (picked l.best (k - l.window) wish) h (omega arith)))
  where
    rest : Advanced
    rest = cond (nat_le (l.window + 64) k) (record { leader = leader_from l.ballot k; next = Window k }) (propose l k (picked l.best (k - l.window) wish))

unless_numbered : (p : Option Pending) (l : Leader) (k : ℕ) (wish : Option Value) → IsNumberedLeader l → k ≤ slot_limit → IsNumberedStep (next_unless p l k wish)
unless_numbered None l k wish h few = next_numbered l k wish h few
unless_numbered (Some p) l k wish h few = record { leader = h; next = tt }

advance_numbered : (n : ℕ) (l : Leader) (k : ℕ) (wish : Option Value) → IsNumberedLeader l → k ≤ slot_limit → IsNumberedStep (advance n l k wish)
unfolding advance
advance_numbered n l k wish h few =
    cond_both (most n l.answered) (next_unless l.pending l k wish) (record { leader = l; next = Nothing }) IsNumberedStep
    (λ e. unless_numbered l.pending l k wish h few) (λ e. record { leader = h; next = tt })

module _ (config : Shape) (range : InRange config) where
  letters_numbered : (b : ℕ) (next : Next) → IsBallot b → IsNumberedNext next → AreNumberedLetters config (next_letters config b next)
  letters_numbered b (Propose k v) ballot h = to_all config (accept_message b k v) refl (ballot, h)
  letters_numbered b (Window k) ballot h = to_all config (prepare_message b k) refl (ballot, h)
  letters_numbered b Nothing ballot h = none_numbered config

  go_on_numbered : (o : Orderer) (l : Leader) (before : List Sent) → IsNumberedOrderer o → IsNumberedLeader l → AreNumberedLetters config before
      → IsNumberedChange config (go_on config o l before)
  go_on_numbered o l before h g f =
      let wish = wish_of config.replicas o.known o.heard o.wishes in
      let step = advance_numbered config.orderers l (length o.known) wish g h.known in
      record {
        put = tt;
        after = record { known = h.known; leads = step.leader };
        letters = both_numbered config before (next_letters config l.ballot (advance config.orderers l (length o.known) wish).next) f
            (letters_numbered l.ballot (advance config.orderers l (length o.known) wish).next g.ballot step.next);
      }

  says : (o : Orderer) (outs : List Sent) → IsNumberedOrderer o → AreNumberedLetters config outs → IsNumberedChange config (told o outs)
  says o outs h f = record { put = tt; after = h; letters = f }

  with_lead : (o : Orderer) (l : Option Leader) → IsNumberedOrderer o → IsNumberedLead l → IsNumberedOrderer (with_leader o l)
  with_lead o l h g = record { known = h.known; leads = g }

  dropped_numbered : (p : Option Pending) (k : ℕ) → IsNumberedPending p → IsNumberedPending (drop_pending p k)
  dropped_numbered None k h = tt
  dropped_numbered (Some p) k h = cond_both (p.slot == k) None (Some p) IsNumberedPending (λ e. tt) (λ e. h)

  leader_after_numbered : (l : Option Leader) (k : ℕ) → IsNumberedLead l → IsNumberedLead (leader_after l k)
  leader_after_numbered None k h = tt
  leader_after_numbered (Some l) k h = record { ballot = h.ballot; window = h.window; waits = dropped_numbered l.pending k h.waits }

  learn_few : (known : List Value) (k : ℕ) (v : Value) → length known ≤ slot_limit → k ≤ 16383 → length (learn known k v) ≤ slot_limit
  unfolding learn
  learn_few known k v h few =
      cond_both (k == length known) (known ++ v ∷ []) known (λ (l : List Value). length l ≤ slot_limit)
      (λ e. omega (arith, length-append known (v ∷ []), eqb-true k (length known) e)) (λ e. h)

  learned_numbered : (o : Orderer) (k : ℕ) (v : Value) → IsNumberedOrderer o → k ≤ 16383 → IsNumberedOrderer (learned o k v)
  unfolding learned
  learned_numbered o k v h few = record { known = learn_few o.known k v h.known few; leads = leader_after_numbered o.leader k h.leads }

  lead_numbered : (i : ℕ) (list : List Payload) (o : Orderer) → i < config.orderers → IsNumberedOrderer o → IsNumberedChange config (on_lead config i list o)
  unfolding on_lead
  lead_numbered i list o below h =
      cond_both (nat_le (2 ^ 56) b) (quiet o) leading (IsNumberedChange config)
      (λ e. says o [] h (none_numbered config))
      (λ e. let ballot : IsBallot (ballot_above config.orderers i (promised list)) = (some, leb-false (2 ^ 56) (ballot_above config.orderers i (promised list)) e) in
      record {
        put = ballot;
        after = with_lead o (Some (leader_from b (length o.known))) h (record { ballot = ballot; window = h.known; waits = tt });
        letters = to_all config (prepare_message b (length o.known)) refl (ballot, h.known);
      })
    where
      b : ℕ
      b = ballot_above config.orderers i (promised list)

      some : 1 ≤ ballot_above config.orderers i (promised list)
      some = let above = ballot_above-above config.orderers i (promised list) below in omega (above, arith)

      leading : Change
      leading = record {
        put = Some (Promise b);
        after = with_leader o (Some (leader_from b (length o.known)));
        outputs = to_orderers config (prepare_message b (length o.known));
        reply = Silence;
      }

  -- the answer to one that comes with too low a ballot
  lower_sent : (list : List Payload) (b : ℕ) → AreNumbered list → IsBallot b → nat_lt b (promised list) ≡ true
      → AreNumberedLetters config (to_owner config b (lower_message b (promised list)))
  lower_sent list b g ballot e =
      let above = ltb-true b (promised list) e in
      let low = ballot.0 in
      let some : 1 ≤ promised list = omega (above, low, arith) in
      to_the_owner config range b (lower_message b (promised list)) refl (ballot, (some, promised_below list g))

  prepare_numbered : (i : ℕ) (list : List Payload) (o : Orderer) (b f : ℕ) → i < config.orderers → AreNumbered list → IsNumberedOrderer o → IsBallot b → f ≤ 16384
      → IsNumberedChange config (on_prepare config i list o b f)
  unfolding on_prepare prepare
  prepare_numbered i list o b f below g h ballot few =
      cond_both (nat_lt b (promised list)) (Refused (promised list)) rest Good
      (λ e. says o (to_owner config b (lower_message b (promised list))) h (lower_sent list b g ballot e))
      (λ e. cond_both (b == promised list) (Granted None told_votes) (Granted (Some (Promise b)) told_votes) Good
      (λ k. record { put = tt; after = h; letters = answer })
      (λ k. record { put = ballot; after = h; letters = answer }))
    where
      told_votes : List Vote
      told_votes = reports b f 64 (votes list)

      rest : Promising
      rest = cond (b == promised list) (Granted None told_votes) (Granted (Some (Promise b)) told_votes)

      Good : Promising → Type 0
      Good a = IsNumberedChange config (prepare_answer config i o b f a)

      answer : AreNumberedLetters config (to_owner config b (promised_message b f i (reports b f 64 (votes list))))
      answer = to_the_owner config range b (promised_message b f i (reports b f 64 (votes list))) refl (ballot, few, below, reports_numbered b f list g)

  accept_numbered : (i : ℕ) (list : List Payload) (o : Orderer) (b k : ℕ) (v : Value) → i < config.orderers → AreNumbered list → IsNumberedOrderer o → IsBallot b → k ≤ 16383
      → IsNumberedChange config (on_accept config i list o b k v)
  unfolding on_accept accept
  accept_numbered i list o b k v below g h ballot few =
      cond_both (nat_lt b (promised list)) (TooLow (promised list)) rest Good
      (λ e. says o (to_owner config b (lower_message b (promised list))) h (lower_sent list b g ballot e))
      (λ e. cond_both (has_vote (votes list) b k) (Taken None) (Taken (Some (Voted (vote_of b k v)))) Good
      (λ f. record { put = tt; after = h; letters = answer })
      (λ f. record { put = (ballot, few); after = h; letters = answer }))
    where
      rest : Answered
      rest = cond (has_vote (votes list) b k) (Taken None) (Taken (Some (Voted (vote_of b k v))))

      Good : Answered → Type 0
      Good a = IsNumberedChange config (accept_answer config i o b k a)

      answer : AreNumberedLetters config (to_owner config b (accepted_message b k i))
      answer = to_the_owner config range b (accepted_message b k i) refl (ballot, few, below)

  promised_numbered : (o : Orderer) (x : Option Leader) (b f who : ℕ) (vs : List Vote) → IsNumberedLead x → IsNumberedOrderer o → IsNumberedChange config (promised_to config o x b f who vs)
  promised_numbered o None b f who vs g h = says o [] h (none_numbered config)
  promised_numbered o (Some l) b f who vs g h =
      cond_both (awaits_promise l b f) (go_on config o (with_promise l who vs) []) (quiet o) (IsNumberedChange config)
      (λ e. go_on_numbered o (with_promise l who vs) [] h (record { ballot = g.ballot; window = g.window; waits = g.waits }) (none_numbered config))
      (λ e. says o [] h (none_numbered config))

  on_promised_numbered : (o : Orderer) (b f who : ℕ) (vs : List Vote) → IsNumberedOrderer o → IsNumberedChange config (on_promised config o b f who vs)
  unfolding on_promised
  on_promised_numbered o b f who vs h = promised_numbered o o.leader b f who vs h.leads h

  lowered_numbered : (l : Option Leader) (b : ℕ) → IsNumberedLead l → IsNumberedLead (lowered l b)
  lowered_numbered None b h = tt
  lowered_numbered (Some l) b h = cond_both (l.ballot == b) None (Some l) IsNumberedLead (λ e. tt) (λ e. h)

  lower_numbered : (o : Orderer) (b : ℕ) → IsNumberedOrderer o → IsNumberedChange config (on_lower o b)
  unfolding on_lower
  lower_numbered o b h = says (with_leader o (lowered o.leader b)) [] (with_lead o (lowered o.leader b) h (lowered_numbered o.leader b h.leads)) (none_numbered config)

  decided_numbered : (i : ℕ) (o : Orderer) (l : Option Leader) (k : ℕ) (v : Value) → i < config.orderers → IsNumberedOrderer o → IsNumberedLead l → k ≤ 16383
      → IsNumberedChange config (decided_by config i o l k v)
  decided_numbered i o None k v below h g few = says o (to_learners config i (decide_message k v)) h (to_all_learners config i k v below few)
  decided_numbered i o (Some l) k v below h g few = go_on_numbered o l (to_learners config i (decide_message k v)) h g (to_all_learners config i k v below few)

  counted_numbered : (i : ℕ) (o : Orderer) (l : Leader) (p : Pending) → i < config.orderers → IsNumberedOrderer o → IsNumberedLeader l → p.slot ≤ 16383 → IsNumberedChange config (counted config i o l p)
  counted_numbered i o l p below h g few =
      cond_both (most config.orderers p.accepted) (decided_by config i (learned o p.slot p.value) (learned o p.slot p.value).leader p.slot p.value) (quiet (with_leader o (Some (record l { pending = Some p })))) (IsNumberedChange config)
      (λ e. let after = learned_numbered o p.slot p.value h few in
      decided_numbered i (learned o p.slot p.value) (learned o p.slot p.value).leader p.slot p.value below after after.leads few)
      (λ e. says (with_leader o (Some (record l { pending = Some p }))) [] (with_lead o (Some (record l { pending = Some p })) h (record { ballot = g.ballot; window = g.window; waits = few })) (none_numbered config))

  accepted_for_numbered : (i : ℕ) (o : Orderer) (l : Leader) (x : Option Pending) (k who : ℕ) → i < config.orderers → IsNumberedOrderer o → IsNumberedLeader l → IsNumberedPending x
      → IsNumberedChange config (accepted_for config i o l x k who)
  accepted_for_numbered i o l None k who below h g few = says o [] h (none_numbered config)
  accepted_for_numbered i o l (Some p) k who below h g few =
      cond_both (p.slot == k) (counted config i o l (with_acceptance p who)) (quiet o) (IsNumberedChange config)
      (λ e. counted_numbered i o l (with_acceptance p who) below h g few) (λ e. says o [] h (none_numbered config))

  accepted_to_numbered : (i : ℕ) (o : Orderer) (x : Option Leader) (b k who : ℕ) → i < config.orderers → IsNumberedOrderer o → IsNumberedLead x → IsNumberedChange config (accepted_to config i o x b k who)
  accepted_to_numbered i o None b k who below h g = says o [] h (none_numbered config)
  accepted_to_numbered i o (Some l) b k who below h g =
      cond_both (l.ballot == b) (accepted_for config i o l l.pending k who) (quiet o) (IsNumberedChange config)
      (λ e. accepted_for_numbered i o l l.pending k who below h g g.waits) (λ e. says o [] h (none_numbered config))

  on_accepted_numbered : (i : ℕ) (o : Orderer) (b k who : ℕ) → i < config.orderers → IsNumberedOrderer o → IsNumberedChange config (on_accepted config i o b k who)
  unfolding on_accepted
  on_accepted_numbered i o b k who below h = accepted_to_numbered i o o.leader b k who below h h.leads

  want_numbered : (o : Orderer) (k node : ℕ) → IsNumberedOrderer o → node < nodes_of config → IsLearner (role_at config node) → IsNumberedChange config (on_want o k node)
  unfolding on_want
  want_numbered o k node h within learns = says o (decide_letters node o.known k 16) h (told_many config node within learns o.known h.known k 16)

  tick_pending_numbered : (o : Orderer) (l : Leader) (x : Option Pending) → IsNumberedOrderer o → IsNumberedLeader l → IsNumberedPending x → IsNumberedChange config (tick_pending config o l x)
  tick_pending_numbered o l None h g few = go_on_numbered o l [] h g (none_numbered config)
  tick_pending_numbered o l (Some p) h g few = says o (to_orderers config (accept_message l.ballot p.slot p.value)) h (to_all config (accept_message l.ballot p.slot p.value) refl (g.ballot, few))

  asks : (i asked k : ℕ) (t : Bool) → i < config.orderers → asked < config.orderers → k ≤ 16384
      → AreNumberedLetters config (cond t [] (letter (orderer_node config asked) (want_message k (orderer_node config i)) ∷ []))
  asks i asked k true below one few = none_numbered config
  asks i asked k false below one few =
      one_numbered config (letter (orderer_node config asked) (want_message k (orderer_node config i)))
      (to_one config asked (want_message k (orderer_node config i)) one refl (few, omega arith, orderer_learns config (orderer_node config i) (omega arith) (omega arith)))

  tick_leader_numbered : (i : ℕ) (o : Orderer) (x : Option Leader) (asked : ℕ) → i < config.orderers → asked < config.orderers → IsNumberedOrderer o → IsNumberedLead x
      → IsNumberedChange config (tick_leader config i o x asked)
  tick_leader_numbered i o None asked below one h g = record { put = tt; after = h; letters = asks i asked (length o.known) (asked == i) below one h.known }
  tick_leader_numbered i o (Some l) asked below one h g =
      cond_both (most config.orderers l.answered) (tick_pending config o l l.pending) (told o (to_orderers config (prepare_message l.ballot l.window))) (IsNumberedChange config)
      (λ e. tick_pending_numbered o l l.pending h g g.waits)
      (λ e. says o (to_orderers config (prepare_message l.ballot l.window)) h (to_all config (prepare_message l.ballot l.window) refl (g.ballot, g.window)))

  tick_numbered : (i : ℕ) (o : Orderer) → i < config.orderers → IsNumberedOrderer o → IsNumberedChange config (on_tick config i o)
  unfolding on_tick
  tick_numbered i o below h =
      tick_leader_numbered i (one_tick o) o.leader (o.ticks % config.orderers) below (orderer_below config o.ticks range) (record { known = h.known; leads = h.leads }) h.leads

  request_numbered : (o : Orderer) (x : Option Leader) (v : Value) → IsNumberedOrderer o → IsNumberedChange config (request_to config o x v)
  request_numbered o None v h = record { put = tt; after = h; letters = none_numbered config }
  request_numbered o (Some l) v h =
      cond_both (finalises_unknown config o.known v) (answered o NoSuchShard) (answered (record o { wishes = o.wishes ++ record { value = v; from = length o.known } ∷ [] }) (TakenWish (length o.known))) (IsNumberedChange config)
      (λ e. record { put = tt; after = h; letters = none_numbered config })
      (λ e. record { put = tt; after = record { known = h.known; leads = h.leads }; letters = none_numbered config })

  on_request_numbered : (o : Orderer) (v : Value) → IsNumberedOrderer o → IsNumberedChange config (on_request config o v)
  unfolding on_request
  on_request_numbered o v h = request_numbered o o.leader v h

  settled_numbered : (o : Orderer) (v : Value) (from : ℕ) → IsNumberedOrderer o → IsNumberedChange config (on_settled o v from)
  unfolding on_settled
  settled_numbered o v from h = record { put = tt; after = h; letters = none_numbered config }

  least_numbered : (o : Orderer) (shard : ℕ) (given : List ℕ) → IsNumberedOrderer o → IsNumberedChange config (on_least config o shard given)
  unfolding on_least
  least_numbered o shard given h = record { put = tt; after = record { known = h.known; leads = h.leads }; letters = none_numbered config }

  module _ (lists : Lists) (i : ℕ) (below : i < config.orderers) (list : List Payload) (kept : AreNumbered list) (o : Orderer) (h : IsNumberedOrderer o) where
    message_numbered : (m : Message) → IsGoodMessage config lists (OrdererRole i) m → ForSome (IsNumberedChange config) (message_row config i list o m)
    message_numbered (Copy segment offset entry) f = tt
    message_numbered (CopyAck peer held) f = tt
    message_numbered (Report shard replica lengths) f = tt
    message_numbered (Least shard lengths) f = least_numbered o shard.0 lengths.length h
    message_numbered (Prepare b k) f = prepare_numbered i list o b.0 k.0 below kept h f.range.0 f.range.1
    message_numbered (Promised b k who vs) f = on_promised_numbered o b.0 k.0 who vs h
    message_numbered (Lower b p) f = lower_numbered o b.0 h
    message_numbered (Accept b k v) f = accept_numbered i list o b.0 k.0 v below kept h f.range.0 f.range.1
    message_numbered (Accepted b k who) f = on_accepted_numbered i o b.0 k.0 who below h
    message_numbered (Decide k v) f = says (learned o k.0 v) [] (learned_numbered o k.0 v h f.range.0) (none_numbered config)
    message_numbered (Want k node) f = want_numbered o k.0 node.0 h f.of_config f.truth

    call_numbered : (c : Call) → ForSome (IsNumberedChange config) (call_row config o c)
    call_numbered (Submit client number bytes) = tt
    call_numbered (Ask client number) = tt
    call_numbered (Read client position) = tt
    call_numbered (Request client value) = on_request_numbered o value h
    call_numbered (Settled client value from) = settled_numbered o value from h

    pub row_numbered : (x : Input) → IsGoodInput config lists (OrdererRole i) x → ForSome (IsNumberedChange config) (row config i list o x)
    row_numbered (Deliver place index (Some m)) f = message_numbered m f
    row_numbered (Deliver place index None) f = tt
    row_numbered (ACall call) f = call_numbered call
    row_numbered Tick f = tick_numbered i o below h
    row_numbered Lead f = lead_numbered i list o below h
    row_numbered Stop f = tt
    row_numbered Restart f = tt
