-- Founded kept lists are sound.
use Rattle.std.proofs.Common.{◌≡◌, ◌⊎◌, ◌+◌, ◌-◌, ◌<◌, ◌≤◌, ◌*◌, ◌^◌, ◌/◌, ◌%◌, ℕ, zero, suc, ◌==◌, nat_lt, List, [], ◌∷◌, ◌++◌, length, map, slice_get, Option, Some, None, refl, sym, ap, subst, inl, inr, ⊎_elim, arith, le-ltb, length-append, ◌∙◌}
use Rattle.std.proofs.lemmas.Bool.{cases_eq, cases_lt, cond-false, ne_eqb}
use Rattle.std.proofs.lemmas.List.{length-map}
use Rattle.std.proofs.lemmas.Option.{none-some, same_Some, slice_get-map, slice_get_within}
use Rattle.std.specs.Option.{option_map}
use Rattle.history_frame.specs.declared.events.Event.{Event}
use Rattle.log_base.specs.ClusterShape.{Shape}
use Rattle.log_model.specs.Storage.{entry_in, list_in, list_limit}
use Rattle.message_frame.specs.declared.messages.Vote.{Vote}
use Rattle.node_table.specs.declared.role.Role.{Role}
use Rattle.node_table.specs.declared.role.Role.TheVariants.{Storage, Gatherer, Orderer}
use Rattle.node_table.specs.Numbering.{IsRole, disk_of, node_of, nodes_of, orderer_node, role_at, storage_node}
use Rattle.node_table.proofs.Roles.{role_at-is}
use Rattle.paxos_model.specs.Payloads.{IsPayload, payload_in, payload_spelling, payloads_in}
use Rattle.paxos_model.specs.Votes.{Payload, Promise, Voted, votes}
use Rattle.paxos_model.proofs.Payloads.{payload_in-spelling}
use Rattle.record_frame.specs.declared.entries.Entry.{Entry}
use Rattle.record_frame.specs.declared.values.Value.{Value}
use Rattle.record_frame.specs.declared.values.Value.TheVariants.{Noop, Cut, Add, Finalise, Trim}
use Rattle.record_frame.specs.Entries.{IsEntry, entry_spelling}
use Rattle.node_model.specs.Durable.{AreFew, Empty, IsFounded, IsLeft, Keeps, Later, With, Without, payload_in_flight, payloads_of, put_to, spelled}
use Rattle.node_model.specs.Histories.{events_at, is_at, orderer_after}
use Rattle.node_model.specs.Legal.{AreNext, IsLegal}
use Rattle.node_model.specs.Marks.{Running, Stopped, flight_of}
use Rattle.node_model.specs.NodeState.{Gathering, KeptLists, NodeState, Ordering, Storing, begun_as, node_after, node_at_first, orderers_kept, states_after}
use Rattle.node_model.specs.OrdererNode.{Mode, Node, at_first}
use Rattle.node_model.specs.Sound.{IsBefore, IsKeptValue, IsKeptVote, IsSound, IsSoundAs, IsSoundEntry, IsSoundPromise, segment_disk}
use Rattle.node_model.specs.StorageNode.{Put}
use Rattle.node_model.proofs.Orderers.{orderer_state}
use Rattle.node_model.proofs.Promises.{Spells, disk_node, disk_segment, orderer_spells}
use Rattle.node_model.proofs.Turning.{ForSome}
use Rattle.agreement_law.specs.Elements.{In}
use Rattle.agreement_law.specs.Fine.{IsFineMode, IsFineNode, IsFinePayload}
use Rattle.agreement_law.proofs.Elements.{got_in}
use Rattle.safety_law.specs.Fit.{IsGoodNode}
use Rattle.safety_law.specs.Lists.{IsSafeValue, IsSegment}
use Rattle.safety_law.specs.Statements.{lists_after}
use Rattle.safety_law.proofs.Corollaries.{cuts_are_held}
use Rattle.safety_law.proofs.History.{history_fits}
use Rattle.safety_law.proofs.Prefixes.{prefix_at}
use Rattle.safety_law.proofs.Start.{made_from}
use Rattle.sequence_law.proofs.Founded.{AndMore, AsStored, Flying, Held, IsLeftList, LeftAt, LeftList, all_owned, entry_in-spelling, flight_put, left_at, left_entries, left_keeps, left_list}
use Rattle.sequence_law.proofs.Moments.{IsStoring, storing}
use Rattle.sequence_law.proofs.Owned.{Owned, at_last}
use Rattle.sequence_law.proofs.Submitting.{all_in, submissions_of_run}

-- a number of this run, or of an earlier one, is below those of a later run
below_later : (number earlier run : ℕ) → earlier < run → (number < earlier * 2 ^ 32) ⊎ (number / 2 ^ 32 ≡ earlier) → number < run * 2 ^ 32
below_later number earlier run later (inl low) = omega arith
below_later number earlier run later (inr of) = omega arith

vote_in : (list : List Payload) (x : Vote) → In (Voted x) list → In x (votes list)
vote_in [] x a = absurd a
vote_in (Promise ballot ∷ list) x (inl e) = absurd (cc)
vote_in (Promise ballot ∷ list) x (inr a) = vote_in list x a
vote_in (Voted y ∷ list) x (inl e) = inl (cc)
vote_in (Voted y ∷ list) x (inr a) = inr (vote_in list x a)

none_at : {A : Type 0} (xs : List A) → ((o : ℕ) (x : A) → slice_get xs o ≡ Some x → ⊥) → xs ≡ []
none_at [] h = refl
none_at (x ∷ xs) h = absurd (h 0 x refl)

past_lists : (lists : List (List Entry)) (j : ℕ) → length lists ≤ j → list_in lists j ≡ []
past_lists [] j h = refl
past_lists (x ∷ lists) zero h = absurd (omega arith)
past_lists (x ∷ lists) (suc j) h = past_lists lists j (omega arith)

module _ (config : Shape) (earlier run : ℕ) (before kept : KeptLists) (events : List Event) (legal : IsLegal config earlier before events) (left : IsLeft config before events kept)
    (owned : Owned config earlier before events) (later : earlier < run) where
  -- what a disk keeps, by its node and segment
  keeps_at : (n j : ℕ) → j < 8 → Keeps (payloads_of (node_after config before events n) j) (payload_in_flight (node_after config before events n) j) (kept (disk_of n j))
  keeps_at n j small =
      subst (λ (x : ℕ × ℕ). Keeps (payloads_of (node_after config before events x.0) x.1) (payload_in_flight (node_after config before events x.0) x.1) (kept (disk_of n j)))
      (λ i. (disk_node n j small i, disk_segment n j small i)) (left (disk_of n j))

  -- numbers of entries
  primary_number : (s r o : ℕ) (x : Entry) → s < config.shards → r < config.replicas → slice_get (lists_after config before events s r r) o ≡ Some x → x.number.0 < run * 2 ^ 32
  primary_number s r o x a b at =
      below_later x.number.0 earlier run later
      (⊎_elim (λ low. inl low) (λ by. inr (submissions_of_run config earlier before events legal by.event x by.among by.input)) (owned.origin s r o x a b at))

  module _ (s r j : ℕ) (inside : IsSegment config s r j) where
    -- an entry that is left stands in its primary's list, or it is an own one that was in flight
    in_primary : (o : ℕ) (x : Entry) → LeftAt config earlier before kept events legal left s r j inside o x → (slice_get (lists_after config before events s j j) o ≡ Some x) ⊎ (j ≡ r)
    in_primary o x (Held e) =
        inl (prefix_at (lists_after config before events s r j) (lists_after config before events s j j) o x ((history_fits config earlier before events legal).copies s r j inside).prefix e)
    in_primary o x (Flying node put at_node flight own can end same) =
        ⊎_elim (λ mine. inr (sym own ∙ mine))
        (λ other. inl (subst (λ (z : ℕ × ℕ × Entry). slice_get (lists_after config before events s z.0 z.0) z.1 ≡ Some z.2)
        (λ i. (own i, (ap (λ (k : ℕ). length (lists_after config before events s r k)) own ∙ sym end) i, same i)) (can.copied other)))
        (cases_eq put.segment r)

    entry_number : (o : ℕ) (x : Entry) → LeftAt config earlier before kept events legal left s r j inside o x → x.number.0 < run * 2 ^ 32
    entry_number o x (Held e) =
        primary_number s j o x inside.shard_below inside.segment_below
        (prefix_at (lists_after config before events s r j) (lists_after config before events s j j) o x ((history_fits config earlier before events legal).copies s r j inside).prefix e)
    entry_number o x (Flying node put at_node flight own can end same) =
        ⊎_elim
        (λ mine.
        let h = owned.flights s r node put inside.shard_below inside.replica_below at_node flight mine in
        subst (λ (y : Entry). y.number.0 < run * 2 ^ 32) same
        (below_later put.entry.number.0 earlier run later (inr (submissions_of_run config earlier before events legal h.by.event put.entry h.by.among h.by.input))))
        (λ other. subst (λ (y : Entry). y.number.0 < run * 2 ^ 32) same
        (primary_number s put.segment (length (lists_after config before events s r put.segment)) put.entry inside.shard_below can.segment (can.copied other)))
        (cases_eq put.segment r)

    few_at : (o : ℕ) (x : Entry) → LeftAt config earlier before kept events legal left s r j inside o x → o < list_limit
    few_at o x (Held e) =
        let few = ((history_fits config earlier before events legal).copies s r j inside).few in
        let within = slice_get_within (lists_after config before events s r j) o x e in
        omega (arith, few, within)
    few_at o x (Flying node put at_node flight own can end same) =
        let room = can.room in
        let size = ap (λ (k : ℕ). length (lists_after config before events s r k)) own in
        omega (arith, room, size, end)

    -- the payload of an entry that is left
    payload_at : (o : ℕ) (payload : List ℕ) → slice_get (kept (segment_disk config s r j)) o ≡ Some payload
        → (x : Entry) × (slice_get (left_list config earlier before kept events legal left s r j inside).list o ≡ Some x) × (entry_spelling x ≡ payload)
    payload_at o payload e =
        made_from entry_spelling (left_list config earlier before kept events legal left s r j inside).list o payload
        (subst (λ (l : List (List ℕ)). slice_get l o ≡ Some payload) (left_list config earlier before kept events legal left s r j inside).disk e)

    pub entry_sound : (o : ℕ) (payload : List ℕ) → slice_get (kept (segment_disk config s r j)) o ≡ Some payload → IsSoundEntry config (IsBefore run) kept s j o payload
    entry_sound o payload e = record {
      spelled = record { entry = subst IsEntry (sym same) entry; spelling = sym one.2 ∙ ap entry_spelling (sym same) };
      number = subst (λ (y : Entry). y.number.0 < run * 2 ^ 32) (sym same) (entry_number o one.0 at);
      few = few_at o one.0 at;
      primary = ⊎_elim
          (λ there. ap (λ (l : List (List ℕ)). slice_get l o) main.disk ∙ slice_get-map entry_spelling main.list o
          ∙ ap (option_map entry_spelling) (left_keeps config earlier before kept events legal left s j j first main.list main.kind o one.0 there) ∙ ap Some one.2)
          (λ mine. subst (λ (k : ℕ). slice_get (kept (segment_disk config s k j)) o ≡ Some payload) (sym mine) e)
          (in_primary o one.0 at);
    }
      where
        one : (x : Entry) × (slice_get (left_list config earlier before kept events legal left s r j inside).list o ≡ Some x) × (entry_spelling x ≡ payload)
        one = payload_at o payload e

        at : LeftAt config earlier before kept events legal left s r j inside o one.0
        at = left_at config earlier before kept events legal left s r j inside o one.0 one.1

        entry : IsEntry one.0
        entry = left_entries config earlier before kept events legal left s r j inside o one.0 one.1

        same : entry_in payload ≡ one.0
        same = ap entry_in (sym one.2) ∙ entry_in-spelling one.0 entry

        first : IsSegment config s j j
        first = record { shard_below = inside.shard_below; replica_below = inside.segment_below; segment_below = inside.segment_below }

        main : IsLeftList config earlier before kept events legal left s j j
        main = left_list config earlier before kept events legal left s j j first

    -- no list that is left is shorter
    no_shorter : (list : List Entry) → LeftList config earlier before kept events legal left s r j list → length (lists_after config before events s r j) ≤ length list
    no_shorter list (AsStored e) = let same = ap length e in omega (arith, same)
    no_shorter list (AndMore node put at_node flight own can e) =
        let same = ap length e in omega (arith, same, length-append (lists_after config before events s r j) (put.entry ∷ []))

    held_left : length (lists_after config before events s r j) ≤ length (kept (segment_disk config s r j))
    held_left =
        let main = left_list config earlier before kept events legal left s r j inside in
        let size = ap length main.disk in
        omega (arith, size, length-map main.list entry_spelling, no_shorter main.list main.kind)

  -- the values of votes
  pub value_left : (v : Value) → IsSafeValue config (lists_after config before events) v → IsKeptValue config kept v
  value_left Noop h = tt
  value_left (Cut lengths) h = (
    h.of_config,
    λ s r j a b c.
        let inside : IsSegment config s r j = record { shard_below = a; replica_below = b; segment_below = c } in
        let held = h.held s r j inside in
        let more = held_left s r j inside in
        omega (arith, held, more),
  )
  value_left (Add shard) h = h.of_config
  value_left (Finalise shard) h = h.of_config
  value_left (Trim position) h = tt

  -- an orderer's payload that is left: its numbers are in range and its value is the cluster's
  abbrev IsGoodPayload : Payload → Type 0
  IsGoodPayload p = IsPayload p × IsKeptVote config kept p

  module _ (i : ℕ) (below : i < config.orderers) where
    abbrev node : Node
    node = orderer_after config (orderers_kept config before) events i

    fine : IsFineNode (IsSafeValue config (lists_after config before events)) node
    fine = (cuts_are_held config earlier before events legal).orderers i node below (orderer_state config before events i below)

    spells : Spells node
    spells = orderer_spells config earlier before events legal i below

    vote_kept : (p : Payload) → In p node.durable → IsKeptVote config kept p
    vote_kept (Promise ballot) a = tt
    vote_kept (Voted x) a = value_left x.value (fine.kept x (vote_in node.durable x a))

    flight_value : (m : Mode) (p : Payload) → IsFineMode (IsSafeValue config (lists_after config before events)) m → flight_of m ≡ Some p → IsKeptVote config kept p
    flight_value (Stopped flight known) (Promise ballot) h e = tt
    flight_value (Stopped flight known) (Voted x) h e = value_left x.value (subst (IsFinePayload (IsSafeValue config (lists_after config before events))) e h.0)
    flight_value (Running o) p h e = absurd (cc)

    flight_good : (flight : Option Payload) → flight_of node.mode ≡ flight → (payload : List ℕ) → spelled flight ≡ Some payload → (p : Payload) × IsGoodPayload p × (payload_spelling p ≡ payload)
    flight_good None is payload e = absurd (cc)
    flight_good (Some p) is payload e =
        (p, (subst (λ (o : Option Payload). ForSome IsPayload o) is spells.flight, flight_value node.mode p fine.mode is), same_Some (payload_spelling p) payload e)

    stored_good : (o : ℕ) (payload : List ℕ) → slice_get (map payload_spelling node.durable) o ≡ Some payload → (p : Payload) × IsGoodPayload p × (payload_spelling p ≡ payload)
    stored_good o payload e =
        let one = made_from payload_spelling node.durable o payload e in
        (one.0, (all_in IsPayload node.durable spells.list one.0 (got_in node.durable o one.0 one.1), vote_kept one.0 (got_in node.durable o one.0 one.1)), one.2)

    payload_good : (list : List (List ℕ)) → Keeps (map payload_spelling node.durable) (spelled (flight_of node.mode)) list → (o : ℕ) (payload : List ℕ) → slice_get list o ≡ Some payload
        → (p : Payload) × IsGoodPayload p × (payload_spelling p ≡ payload)
    payload_good list (Without e) o payload at = stored_good o payload (subst (λ (l : List (List ℕ)). slice_get l o ≡ Some payload) e at)
    payload_good list (With more f e) o payload at =
        ⊎_elim (λ old. stored_good o payload old)
        (λ new. flight_good (flight_of node.mode) refl payload (f ∙ ap Some new.1))
        (at_last (map payload_spelling node.durable) more o payload (subst (λ (l : List (List ℕ)). slice_get l o ≡ Some payload) e at))

    keeps : Keeps (map payload_spelling node.durable) (spelled (flight_of node.mode)) (kept (disk_of (orderer_node config i) 0))
    keeps =
        subst (λ (x : NodeState). Keeps (payloads_of x 0) (payload_in_flight x 0) (kept (disk_of (orderer_node config i) 0))) (orderer_state config before events i below)
        (keeps_at (orderer_node config i) 0 (omega arith))

    pub promise_sound : AreFew config kept → (o : ℕ) (payload : List ℕ) → slice_get (kept (disk_of (orderer_node config i) 0)) o ≡ Some payload → IsSoundPromise config kept o payload
    promise_sound few o payload at =
        let one = payload_good (kept (disk_of (orderer_node config i) 0)) keeps o payload at in
        let same : payload_in payload ≡ one.0 = ap payload_in (sym one.2) ∙ payload_in-spelling one.0 one.1.0 in
        let within = slice_get_within (kept (disk_of (orderer_node config i) 0)) o payload at in
        let limit = few i below in
        record {
          spelled = record { payload = subst IsPayload (sym same) one.1.0; spelling = sym one.2 ∙ ap payload_spelling (sym same) };
          few = omega (arith, within, limit);
          value = subst (IsKeptVote config kept) (sym same) one.1.1;
        }

  -- a disk without payloads
  keeps_none : (flight : Option (List ℕ)) (list : List (List ℕ)) → Keeps [] flight list → flight ≡ None → (o : ℕ) (payload : List ℕ) → slice_get list o ≡ Some payload → ⊥
  keeps_none flight list (Without e) none o payload at = absurd (none-some payload (subst (λ (l : List (List ℕ)). slice_get l o ≡ Some payload) e at))
  keeps_none flight list (With more f e) none o payload at = absurd (none-some more (sym none ∙ f))

  -- nothing stands in a segment that a replica has not
  no_segment : (s r j : ℕ) → s < config.shards → r < config.replicas → config.replicas ≤ j → (list : List (List ℕ))
      → Keeps (payloads_of (node_after config before events (storage_node config s r)) j) (payload_in_flight (node_after config before events (storage_node config s r)) j) list
      → (o : ℕ) (payload : List ℕ) → slice_get list o ≡ Some payload → ⊥
  no_segment s r j a b past list keeps o payload at =
      keeps_none (put_to j (flight_of old.node.mode)) list
      (subst (λ (l : List Entry). Keeps (map entry_spelling l) (put_to j (flight_of old.node.mode)) list) none
      (subst (λ (x : NodeState). Keeps (payloads_of x j) (payload_in_flight x j) list) old.state keeps))
      (no_put (flight_of old.node.mode) refl) o payload at
    where
      old : IsStoring config earlier before events s r
      old = storing config earlier before events s r legal a b

      none : list_in old.node.durable j ≡ []
      none = past_lists old.node.durable j (let size = old.good.size in omega (arith, size, past))

      no_put : (flight : Option Put) → flight_of old.node.mode ≡ flight → put_to j flight ≡ None
      no_put None is = refl
      no_put (Some put) is =
          let can = flight_put config earlier before kept events legal left s r old.node.mode put old.good.mode is in
          let inside = can.segment in
          cond-false (put.segment == j) _ _ (ne_eqb put.segment j (λ same. absurd (omega (arith, same, inside, past))))

  -- a disk of a node of the cluster
  module _ (few : AreFew config kept) where
    pub role_sound : (n j o : ℕ) (payload : List ℕ) (role : Role) → role_at config n ≡ role → IsRole config role → node_of config role ≡ n → j < 8
        → slice_get (kept (disk_of n j)) o ≡ Some payload → (x : NodeState) → node_after config before events n ≡ x → IsGoodNode config (lists_after config before events) role x
        → IsSoundAs config (IsBefore run) kept role j o payload
    role_sound n j o payload (Storage s r) at is here small e x state good =
        ⊎_elim
        (λ inside. (
          inside,
          entry_sound s.0 r.0 j (record { shard_below = is.0; replica_below = is.1; segment_below = inside }) o payload
              (subst (λ (k : ℕ). slice_get (kept (disk_of k j)) o ≡ Some payload) (sym here) e),
        ))
        (λ past. absurd (no_segment s.0 r.0 j is.0 is.1 past (kept (disk_of n j))
        (subst (λ (k : ℕ). Keeps (payloads_of (node_after config before events k) j) (payload_in_flight (node_after config before events k) j) (kept (disk_of n j))) (sym here) (keeps_at n j small)) o payload e))
        (cases_lt j config.replicas)
    role_sound n j o payload (Gatherer i) at is here small e (Gathering gatherer) state good =
        absurd (keeps_none None (kept (disk_of n j))
        (subst (λ (y : NodeState). Keeps (payloads_of y j) (payload_in_flight y j) (kept (disk_of n j))) state (keeps_at n j small)) refl o payload e)
    role_sound n j o payload (Gatherer i) at is here small e (Storing stored) state good = absurd good
    role_sound n j o payload (Gatherer i) at is here small e (Ordering orderer) state good = absurd good
    role_sound n zero o payload (Orderer i) at is here small e (Ordering orderer) state good =
        (refl, promise_sound i is few o payload (subst (λ (k : ℕ). slice_get (kept (disk_of k 0)) o ≡ Some payload) (sym here) e))
    role_sound n (suc j) o payload (Orderer i) at is here small e (Ordering orderer) state good =
        absurd (keeps_none None (kept (disk_of n (suc j)))
        (subst (λ (y : NodeState). Keeps (payloads_of y (suc j)) (payload_in_flight y (suc j)) (kept (disk_of n (suc j)))) state (keeps_at n (suc j) small)) refl o payload e)
    role_sound n j o payload (Orderer i) at is here small e (Storing stored) state good = absurd good
    role_sound n j o payload (Orderer i) at is here small e (Gathering gatherer) state good = absurd good

    -- a node that the cluster has not kept nothing
    no_events : (n : ℕ) → nodes_of config ≤ n → (xs es : List Event) → AreNext config earlier before xs es → events_at n es ≡ []
    no_events n past xs [] h = refl
    no_events n past xs (e ∷ es) h =
        cond-false (is_at n e) _ _ (ne_eqb e.node.0 n (λ same. let within = h.0.node in absurd (omega (arith, same, within, past))))
        ∙ no_events n past (xs ++ e ∷ []) es h.1

    past_role : (n : ℕ) → nodes_of config ≤ n → role_at config n ≡ Orderer (n - (config.replicas * config.shards + config.gatherers))
    past_role n past =
        cond-false (nat_lt n (config.replicas * config.shards)) _ _ (le-ltb n (config.replicas * config.shards) (omega arith))
        ∙ cond-false (nat_lt n (config.replicas * config.shards + config.gatherers)) _ _ (le-ltb n (config.replicas * config.shards + config.gatherers) (omega arith))

    nothing_kept : (disk : ℕ) → nodes_of config ≤ disk / 8 → before disk ≡ []
    nothing_kept disk past = none_at (before disk) (λ o x e. let within = (legal.sound disk o x e).0 in omega (arith, within, past))

    past_state : (n : ℕ) → nodes_of config ≤ n → node_after config before events n ≡ Ordering (at_first [])
    past_state n past =
        ap (states_after config n (node_at_first config before n)) (no_events n past [] events legal.follow)
        ∙ ap (begun_as config before n) (past_role n past)
        ∙ ap (λ (l : List (List ℕ)). Ordering (at_first (payloads_in l)))
        (nothing_kept (disk_of n 0) (let same = disk_node n 0 (omega arith) in omega (arith, same, past)))

    past_none : (n j o : ℕ) (payload : List ℕ) → nodes_of config ≤ n → j < 8 → slice_get (kept (disk_of n j)) o ≡ Some payload → ⊥
    past_none n j o payload past small e = at j (subst (λ (y : NodeState). Keeps (payloads_of y j) (payload_in_flight y j) (kept (disk_of n j))) (past_state n past) (keeps_at n j small)) e
      where
        at : (k : ℕ) → Keeps (payloads_of (Ordering (at_first [])) k) (payload_in_flight (Ordering (at_first [])) k) (kept (disk_of n j)) → slice_get (kept (disk_of n j)) o ≡ Some payload → ⊥
        at zero keeps f = keeps_none None (kept (disk_of n j)) keeps refl o payload f
        at (suc k) keeps f = keeps_none None (kept (disk_of n j)) keeps refl o payload f

    node_sound : (n j o : ℕ) (payload : List ℕ) → j < 8 → slice_get (kept (disk_of n j)) o ≡ Some payload → (n < nodes_of config) × IsSoundAs config (IsBefore run) kept (role_at config n) j o payload
    node_sound n j o payload small e =
        ⊎_elim
        (λ within.
        let role = role_at-is config n legal.config_in_range within in (
          within,
          role_sound n j o payload (role_at config n) refl role.0 role.1 small e (node_after config before events n) refl
              ((history_fits config earlier before events legal).nodes n within),
        ))
        (λ past. absurd (past_none n j o payload past small e))
        (cases_lt n (nodes_of config))

    pub left_is_sound : IsSound config run kept
    left_is_sound disk o payload e =
        node_sound (disk / 8) (disk % 8) o payload (omega arith)
        (let same : disk ≡ disk_of (disk / 8) (disk % 8) = omega arith in subst (λ (d : ℕ). slice_get (kept d) o ≡ Some payload) same e)

pub founded_sound : (config : Shape) (run : ℕ) (kept : KeptLists) → IsFounded config run kept → IsSound config run kept
founded_sound config run kept (Empty _ _ none) = λ disk o payload e. absurd (none-some payload (subst (λ (l : List (List ℕ)). slice_get l o ≡ Some payload) (none disk) e))
founded_sound config run kept (Later _ _ earlier before events founded below legal left few) =
    left_is_sound config earlier run before kept events legal left (all_owned config earlier before founded events legal) below few
