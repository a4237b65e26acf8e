-- A pair stands in at most one primary's list, once: an entry there was kept, or was submitted to that primary, and one
-- that is put has a pair that was not there.
use Rattle.std.proofs.Common.{◌≡◌, ◌≢◌, ◌⊎◌, ◌<◌, ◌*◌, ◌^◌, ℕ, zero, suc, List, [], ◌∷◌, ◌++◌, length, slice_get, Option, Some, None, refl, sym, ap, subst, inl, inr, ⊎_elim, arith, ◌∙◌}
use Rattle.std.proofs.lemmas.Bool.{cases_eq}
use Rattle.std.proofs.lemmas.Option.{same_Some}
use Rattle.history_frame.specs.declared.events.Event.{Event}
use Rattle.history_frame.specs.declared.inputs.Input.TheVariants.{Deliver}
use Rattle.log_base.specs.ClusterShape.{Shape}
use Rattle.log_model.specs.Storage.{list_in, with_entry}
use Rattle.node_table.specs.declared.role.Role.{Role}
use Rattle.node_table.specs.declared.role.Role.TheVariants.{Storage}
use Rattle.node_table.specs.Numbering.{role_at, storage_node}
use Rattle.node_table.proofs.Roles.{role_at-node_of}
use Rattle.record_frame.specs.declared.entries.Entry.{Entry}
use Rattle.node_model.specs.Histories.{IsDelivered}
use Rattle.node_model.specs.Legal.{IsLegal, IsNext, submitted}
use Rattle.node_model.specs.Marks.{Running, Stopped, flight_of, stopped, stored_with}
use Rattle.node_model.specs.Messages.{copy_message}
use Rattle.node_model.specs.Nodes.{letter}
use Rattle.node_model.specs.NodeState.{KeptLists, NodeState, Storing, node_after}
use Rattle.node_model.specs.StorageNode.{Put, StorageMode, StorageNode, StorageOutcome, member_of}
use Rattle.node_model.specs.StorageRow.{storage_role}
use Rattle.node_model.specs.Turning.{Turned, Ran, Fell, Slept, Stopped_now, Opened, Opened_more}
use Rattle.agreement_law.proofs.Bridge.{sent_before}
use Rattle.agreement_law.proofs.Elements.{got_in, in_left, in_right}
use Rattle.safety_law.specs.Letters.{IsTrue}
use Rattle.safety_law.specs.Lists.{Lists}
use Rattle.safety_law.specs.Statements.{lists_after}
use Rattle.safety_law.proofs.History.{history_fits}
use Rattle.safety_law.proofs.ReplicaStep.{list_here, list_set}
use Rattle.safety_law.proofs.StorageSends.{as_role}
use Rattle.sequence_law.specs.Pairs.{EntriesAreSubmitted, IsPair, IsSubmittedTo, PairsStandOnce}
use Rattle.sequence_law.proofs.Moments.{IsStoring, ReplicaTurns, Stayed, Took, along, legal_push, list_is, storing, turns}
use Rattle.sequence_law.proofs.Puts.{ByCopy, BySubmission, PutsBy, row_puts}
use Rattle.sequence_law.proofs.Rows.{IsFresh}
use Rattle.sequence_law.proofs.Submitting.{of_run, submissions_agree, submissions_of_run}

-- the last place of a list with one more
pub at_last : {A : Type 0} (xs : List A) (x : A) (k : ℕ) (y : A) → slice_get (xs ++ x ∷ []) k ≡ Some y → (slice_get xs k ≡ Some y) ⊎ ((k ≡ length xs) × (x ≡ y))
at_last [] x zero y e = inr (refl, same_Some x y e)
at_last [] x (suc k) y e = absurd (cc)
at_last (z ∷ xs) x zero y e = inl e
at_last (z ∷ xs) x (suc k) y e = ⊎_elim (λ old. inl old) (λ new. inr (ap suc new.0, new.1)) (at_last xs x k y e)

pub same_node : (x : NodeState) (one other : StorageNode) → x ≡ Storing one → x ≡ Storing other → one ≡ other
same_node x one other a b = cc

-- the shard and the replica of a role
abbrev shard_of : Role → ℕ
shard_of (Storage s r) = s.0
shard_of _ = 0

abbrev replica_of : Role → ℕ
replica_of (Storage s r) = r.0
replica_of _ = 0

-- replicas with one number are one
pub same_replica : (config : Shape) (s r t q : ℕ) → s < config.shards → r < config.replicas → t < config.shards → q < config.replicas
    → storage_node config s r ≡ storage_node config t q → (s ≡ t) × (r ≡ q)
same_replica config s r t q a b c d e =
    let same : as_role s r ≡ as_role t q = sym (role_at-node_of config (as_role s r) (a, b)) ∙ ap (role_at config) e ∙ role_at-node_of config (as_role t q) (c, d) in
    (ap shard_of same, ap replica_of same)

module _ (config : Shape) (run : ℕ) (kept : KeptLists) where
  -- an own entry in flight: its pair is not there, and it was submitted
  pub record IsOwnPut (events : List Event) (s r : ℕ) (put : Put) : Type 0 where
    pub fresh : IsFresh (lists_after config kept events s r r) put.entry.client.0 put.entry.number.0
    pub by : IsSubmittedTo events (storage_node config s r) put.entry

  pub record Owned (events : List Event) : Type 0 where
    pub origin : EntriesAreSubmitted config run kept events
    pub once : PairsStandOnce config kept events
    pub flights : (s r : ℕ) (node : StorageNode) (put : Put) → s < config.shards → r < config.replicas → node_after config kept events (storage_node config s r) ≡ Storing node
        → flight_of node.mode ≡ Some put → put.segment ≡ r → IsOwnPut events s r put

  submitted_earlier : (before : List Event) (e : Event) (n : ℕ) (x : Entry) → IsSubmittedTo before n x → IsSubmittedTo (before ++ e ∷ []) n x
  submitted_earlier before e n x h = record { event = h.event; among = in_left h.event before (e ∷ []) h.among; here = h.here; input = h.input }

  submitted_now : (before : List Event) (e : Event) (n : ℕ) (x : Entry) → e.node.0 ≡ n → submitted e.happened.input ≡ Some x → IsSubmittedTo (before ++ e ∷ []) n x
  submitted_now before e n x here is = record { event = e; among = in_right e before (e ∷ []) (inl refl); here = here; input = is }

  -- an entry of a primary's list, and one that was submitted whose pair is not in its primary's list, have different pairs
  pub apart : (events : List Event) → IsLegal config run kept events → (lists : Lists) (client number s r o t q : ℕ) (x y : Entry)
      → s < config.shards → r < config.replicas → t < config.shards → q < config.replicas
      → slice_get (lists s r r) o ≡ Some x → (x.number.0 < run * 2 ^ 32) ⊎ IsSubmittedTo events (storage_node config s r) x
      → IsFresh (lists t q q) y.client.0 y.number.0 → IsSubmittedTo events (storage_node config t q) y → IsPair client number x → IsPair client number y → ⊥
  apart events legal lists client number s r o t q x y a b c d at from fresh by px py =
      ⊎_elim
      (λ low. of_run y.number.0 run (submissions_of_run config run kept events legal by.event y by.among by.input)
      (subst (λ (n : ℕ). n < run * 2 ^ 32) (px.1 ∙ sym py.1) low))
      (λ mine.
      let agree = submissions_agree config run kept events legal mine.event by.event x y client number mine.among by.among mine.input by.input px py in
      let same = same_replica config s r t q a b c d (sym mine.here ∙ ap (λ n. n.0) agree.node ∙ by.here) in
      fresh o x (subst (λ (z : ℕ × ℕ). slice_get (lists z.0 z.1 z.1) o ≡ Some x) (λ i. (same.0 i, same.1 i)) at) (px.0 ∙ sym py.0, px.1 ∙ sym py.1))
      from

  -- the own list of a replica stays, or takes an entry whose pair was not there
  data OwnChange (before : List Event) (e : Event) (s r : ℕ) : Type 0 where
    Still : lists_after config kept (before ++ e ∷ []) s r r ≡ lists_after config kept before s r r → OwnChange before e s r
    Grew : (x : Entry) → e.node.0 ≡ storage_node config s r → lists_after config kept (before ++ e ∷ []) s r r ≡ lists_after config kept before s r r ++ x ∷ []
        → IsFresh (lists_after config kept before s r r) x.client.0 x.number.0 → IsSubmittedTo (before ++ e ∷ []) (storage_node config s r) x → OwnChange before e s r

  module _ (before : List Event) (e : Event) (legal : IsLegal config run kept before) (next : IsNext config run kept before e) (owned : Owned before)
      (s r : ℕ) (a : s < config.shards) (b : r < config.replicas) (old : IsStoring config run kept before s r) where
    module _ (here : e.node.0 ≡ storage_node config s r) where
      -- a copy that is delivered is of another replica's segment
      not_own : (place index segment offset : ℕ) (entry : Entry) → e.happened.input ≡ Deliver place index (Some (copy_message segment offset entry)) → segment ≢ r
      not_own place index segment offset entry is =
          let m = copy_message segment offset entry in
          let d = subst (IsDelivered before e.node.0) is next.delivered in
          let among = sent_before before place d.event (letter e.node.0 m) d.at (got_in d.event.happened.outputs index (letter e.node.0 m) d.output) in
          let good = ((history_fits config run kept before legal).letters (letter e.node.0 m) among).good.truth in
          (subst (λ (role : Role). IsTrue config (lists_after config kept before) role m) (ap (role_at config) here ∙ role_at-node_of config (as_role s r) (a, b)) good).0

      -- what a row puts into the own list
      put_own : (put : Put) → PutsBy (member_of config s r) old.node.durable e.happened.input put → put.segment ≡ r
          → IsFresh (list_in old.node.durable r) put.entry.client.0 put.entry.number.0 × IsSubmittedTo (before ++ e ∷ []) (storage_node config s r) put.entry
      put_own put (BySubmission is own fresh) same = (fresh, submitted_now before e (storage_node config s r) put.entry here is)
      put_own put (ByCopy place index segment offset entry is own) same = absurd (not_own place index segment offset entry is (sym own ∙ same))

      module _ (made : StorageOutcome) (after : node_after config kept (before ++ e ∷ []) (storage_node config s r) ≡ Storing made.node) where
        still : made.node.durable ≡ old.node.durable → OwnChange before e s r
        still same = Still (list_is config run kept (before ++ e ∷ []) s r r made.node after ∙ ap (λ l. list_in l r) same ∙ sym (list_is config run kept before s r r old.node old.state))

        put_change : (put : Put) → made.node.durable ≡ with_entry old.node.durable put.segment put.entry
            → (put.segment ≡ r → IsFresh (list_in old.node.durable r) put.entry.client.0 put.entry.number.0 × IsSubmittedTo (before ++ e ∷ []) (storage_node config s r) put.entry)
            → OwnChange before e s r
        put_change put is own = ⊎_elim same other (cases_eq put.segment r)
          where
            same : put.segment ≡ r → OwnChange before e s r
            same seg =
                let mine = own seg in
                Grew put.entry here
                (list_is config run kept (before ++ e ∷ []) s r r made.node after
                ∙ ap (λ l. list_in l r) is
                ∙ ap (λ (g : ℕ). list_in (with_entry old.node.durable g put.entry) r) seg
                ∙ list_here old.node.durable r (list_in old.node.durable r ++ put.entry ∷ []) (let size = old.good.size in omega (arith, size, b))
                ∙ ap (λ (l : List Entry). l ++ put.entry ∷ []) (sym (list_is config run kept before s r r old.node old.state)))
                (subst (λ (l : List Entry). IsFresh l put.entry.client.0 put.entry.number.0) (sym (list_is config run kept before s r r old.node old.state)) mine.0)
                mine.1

            other : (put.segment ≡ r → ⊥) → OwnChange before e s r
            other not =
                Still (list_is config run kept (before ++ e ∷ []) s r r made.node after
                ∙ ap (λ l. list_in l r) is
                ∙ ⊎_elim (λ kept_it. kept_it) (λ seg. absurd (not (sym seg))) (list_set old.node.durable put.segment (list_in old.node.durable put.segment ++ put.entry ∷ []) r)
                ∙ sym (list_is config run kept before s r r old.node old.state))

        -- a put that was in flight and is there now
        flight_own : (put : Put) → flight_of old.node.mode ≡ Some put → put.segment ≡ r
            → IsFresh (list_in old.node.durable r) put.entry.client.0 put.entry.number.0 × IsSubmittedTo (before ++ e ∷ []) (storage_node config s r) put.entry
        flight_own put flight seg =
            let h = owned.flights s r old.node put a b old.state flight seg in (
              subst (λ (l : List Entry). IsFresh l put.entry.client.0 put.entry.number.0) (list_is config run kept before s r r old.node old.state) h.fresh,
              submitted_earlier before e (storage_node config s r) put.entry h.by,
            )

        row_change : (p : Option Put)
            → ((put : Put) → p ≡ Some put → PutsBy (member_of config s r) old.node.durable e.happened.input put)
            → made.node.durable ≡ stored_with (storage_role config (member_of config s r)) old.node.durable p → OwnChange before e s r
        row_change None puts is = still is
        row_change (Some put) puts is = put_change put is (put_own put (puts put refl))

        turned_change : Turned (storage_role config (member_of config s r)) old.node e.happened.input e.happened.mark made → OwnChange before e s r
        turned_change (Ran memory c m rule done is) =
            row_change c.put (row_puts config (member_of config s r) old.node.durable memory e.happened.input c rule)
            (ap (λ (x : StorageOutcome). x.node.durable) is)
        turned_change (Fell memory c put m rule puts halts is) = still (ap (λ (x : StorageOutcome). x.node.durable) is)
        turned_change (Slept flight known m done is) = still (ap (λ (x : StorageOutcome). x.node.durable) is)
        turned_change (Stopped_now is) = still (ap (λ (x : StorageOutcome). x.node.durable) is)
        turned_change (Opened without is) = still (ap (λ (x : StorageOutcome). x.node.durable) is)
        turned_change (Opened_more put flight with_it is) = put_change put (ap (λ (x : StorageOutcome). x.node.durable) is) (flight_own put flight)

        -- what is in flight after the event
        own_put : (put : Put) → IsFresh (list_in old.node.durable r) put.entry.client.0 put.entry.number.0 × IsSubmittedTo (before ++ e ∷ []) (storage_node config s r) put.entry
            → made.node.durable ≡ old.node.durable → IsOwnPut (before ++ e ∷ []) s r put
        own_put put h same = record {
          fresh = subst (λ (l : List Entry). IsFresh l put.entry.client.0 put.entry.number.0)
              (ap (λ l. list_in l r) (sym same) ∙ sym (list_is config run kept (before ++ e ∷ []) s r r made.node after)) h.0;
          by = h.1;
        }

        stopped_flight : (mode : StorageMode) (put : Put) → flight_of (stopped (storage_role config (member_of config s r)) mode) ≡ Some put → flight_of mode ≡ Some put
        stopped_flight (Stopped flight known) put h = h
        stopped_flight (Running memory) put h = absurd (cc)

        turned_flight : (put : Put) → put.segment ≡ r → flight_of made.node.mode ≡ Some put
            → Turned (storage_role config (member_of config s r)) old.node e.happened.input e.happened.mark made → IsOwnPut (before ++ e ∷ []) s r put
        turned_flight put seg f (Ran memory c m rule done is) = absurd (let g = subst (λ (x : StorageOutcome). flight_of x.node.mode ≡ Some put) is f in cc)
        turned_flight put seg f (Fell memory c one m rule puts halts is) =
            let same = same_Some one put (subst (λ (x : StorageOutcome). flight_of x.node.mode ≡ Some put) is f) in
            own_put put (put_own put (row_puts config (member_of config s r) old.node.durable memory e.happened.input c rule put (puts ∙ ap Some same)) seg)
            (ap (λ (x : StorageOutcome). x.node.durable) is)
        turned_flight put seg f (Slept flight known m done is) =
            own_put put (flight_own put (subst (λ (x : StorageOutcome). flight_of x.node.mode ≡ Some put) is f) seg) (ap (λ (x : StorageOutcome). x.node.durable) is)
        turned_flight put seg f (Stopped_now is) =
            own_put put (flight_own put (stopped_flight old.node.mode put (subst (λ (x : StorageOutcome). flight_of x.node.mode ≡ Some put) is f)) seg)
            (ap (λ (x : StorageOutcome). x.node.durable) is)
        turned_flight put seg f (Opened without is) = absurd (let g = subst (λ (x : StorageOutcome). flight_of x.node.mode ≡ Some put) is f in cc)
        turned_flight put seg f (Opened_more one flight with_it is) = absurd (let g = subst (λ (x : StorageOutcome). flight_of x.node.mode ≡ Some put) is f in cc)

    change_of : ReplicaTurns config run kept before e s r old.node → OwnChange before e s r
    change_of (Stayed after) = Still (list_is config run kept (before ++ e ∷ []) s r r old.node after ∙ sym (list_is config run kept before s r r old.node old.state))
    change_of (Took made here turned after outs reply) = turned_change here made after turned

    flight_after : (node : StorageNode) (put : Put) → node_after config kept (before ++ e ∷ []) (storage_node config s r) ≡ Storing node
        → flight_of node.mode ≡ Some put → put.segment ≡ r → ReplicaTurns config run kept before e s r old.node → IsOwnPut (before ++ e ∷ []) s r put
    flight_after node put state f seg (Stayed after) =
        let same = same_node (node_after config kept (before ++ e ∷ []) (storage_node config s r)) node old.node state after in
        let h = owned.flights s r old.node put a b old.state (subst (λ (n : StorageNode). flight_of n.mode ≡ Some put) same f) seg in
        record {
          fresh = subst (λ (l : List Entry). IsFresh l put.entry.client.0 put.entry.number.0)
              (list_is config run kept before s r r old.node old.state ∙ sym (list_is config run kept (before ++ e ∷ []) s r r old.node after)) h.fresh;
          by = submitted_earlier before e (storage_node config s r) put.entry h.by;
        }
    flight_after node put state f seg (Took made here turned after outs reply) =
        turned_flight here made after put seg
        (subst (λ (n : StorageNode). flight_of n.mode ≡ Some put) (same_node (node_after config kept (before ++ e ∷ []) (storage_node config s r)) node made.node state after) f) turned

  module _ (before : List Event) (e : Event) (legal : IsLegal config run kept before) (next : IsNext config run kept before e) (owned : Owned before) where
    change : (s r : ℕ) → s < config.shards → r < config.replicas → OwnChange before e s r
    change s r a b =
        let old = storing config run kept before s r legal a b in
        change_of before e legal next owned s r a b old (turns config run kept before e s r old.node next a b old.state)

    now_legal : IsLegal config run kept (before ++ e ∷ [])
    now_legal = legal_push config run kept before e legal next

    -- an entry of an own list after the event: it stood there, or it is the new one
    data Where (s r o : ℕ) (x : Entry) : Type 0 where
      Before : slice_get (lists_after config kept before s r r) o ≡ Some x → Where s r o x
      Now : e.node.0 ≡ storage_node config s r → o ≡ length (lists_after config kept before s r r) → IsFresh (lists_after config kept before s r r) x.client.0 x.number.0
          → IsSubmittedTo (before ++ e ∷ []) (storage_node config s r) x → Where s r o x

    where_from : (s r o : ℕ) (x : Entry) → slice_get (lists_after config kept (before ++ e ∷ []) s r r) o ≡ Some x → OwnChange before e s r → Where s r o x
    where_from s r o x at (Still same) = Before (subst (λ (l : List Entry). slice_get l o ≡ Some x) same at)
    where_from s r o x at (Grew y here same fresh by) =
        ⊎_elim (λ old. Before old)
        (λ new. Now here new.0 (subst (λ (z : Entry). IsFresh (lists_after config kept before s r r) z.client.0 z.number.0) new.1 fresh)
        (subst (IsSubmittedTo (before ++ e ∷ []) (storage_node config s r)) new.1 by))
        (at_last (lists_after config kept before s r r) y o x (subst (λ (l : List Entry). slice_get l o ≡ Some x) same at))

    where_is : (s r o : ℕ) (x : Entry) → s < config.shards → r < config.replicas → slice_get (lists_after config kept (before ++ e ∷ []) s r r) o ≡ Some x → Where s r o x
    where_is s r o x a b at = where_from s r o x at (change s r a b)

    origin_after : EntriesAreSubmitted config run kept (before ++ e ∷ [])
    origin_after s r o x a b at = from (where_is s r o x a b at)
      where
        from : Where s r o x → (x.number.0 < run * 2 ^ 32) ⊎ IsSubmittedTo (before ++ e ∷ []) (storage_node config s r) x
        from (Before old) = ⊎_elim (λ low. inl low) (λ by. inr (submitted_earlier before e (storage_node config s r) x by)) (owned.origin s r o x a b old)
        from (Now here end fresh by) = inr by

    -- a pair that was there is not put again
    not_again : (client number s r o t q : ℕ) (x y : Entry) → s < config.shards → r < config.replicas → t < config.shards → q < config.replicas
        → slice_get (lists_after config kept before s r r) o ≡ Some x → IsFresh (lists_after config kept before t q q) y.client.0 y.number.0
        → IsSubmittedTo (before ++ e ∷ []) (storage_node config t q) y → IsPair client number x → IsPair client number y → ⊥
    not_again client number s r o t q x y a b c d at fresh by px py =
        apart (before ++ e ∷ []) now_legal (lists_after config kept before) client number s r o t q x y a b c d at
        (⊎_elim (λ low. inl low) (λ first. inr (submitted_earlier before e (storage_node config s r) x first)) (owned.origin s r o x a b at)) fresh by px py

    once_after : PairsStandOnce config kept (before ++ e ∷ [])
    once_after client number s r o t q u x y inside also at too px py =
        by (where_is s r o x inside.shard_below inside.replica_below at) (where_is t q u y also.shard_below also.replica_below too)
      where
        by : Where s r o x → Where t q u y → (s ≡ t) × (r ≡ q) × (o ≡ u)
        by (Before old) (Before old_too) = owned.once client number s r o t q u x y inside also old old_too px py
        by (Before old) (Now here end fresh sent) =
            absurd (not_again client number s r o t q x y inside.shard_below inside.replica_below also.shard_below also.replica_below old fresh sent px py)
        by (Now here end fresh sent) (Before old) =
            absurd (not_again client number t q u s r y x also.shard_below also.replica_below inside.shard_below inside.replica_below old fresh sent py px)
        by (Now here end fresh sent) (Now here_too end_too fresh_too sent_too) =
            let same = same_replica config s r t q inside.shard_below inside.replica_below also.shard_below also.replica_below (sym here ∙ here_too) in
            (same.0, same.1, end ∙ ap (λ (z : ℕ × ℕ). length (lists_after config kept before z.0 z.1 z.1)) (λ i. (same.0 i, same.1 i)) ∙ sym end_too)

    event_owned : Owned (before ++ e ∷ [])
    event_owned = record {
      origin = origin_after;
      once = once_after;
      flights = λ s r node put a b state f seg.
          let old = storing config run kept before s r legal a b in
          flight_after before e legal next owned s r a b old node put state f seg (turns config run kept before e s r old.node next a b old.state);
    }

  pub history_owned : (events : List Event) → IsLegal config run kept events → Owned [] → Owned events
  history_owned events legal first = along config run kept Owned event_owned events legal first
