-- In founded kept lists a pair stands once, and so it does in every history that begins with them.
use Rattle.std.proofs.Common.{◌≡◌, ◌+◌, ◌<◌, ◌*◌, ◌^◌, ◌/◌, ℕ, suc, Bool, true, false, cond, ◌==◌, List, [], ◌∷◌, ◌++◌, length, map, slice_get, Option, Some, None, refl, sym, ap, subst, inl, ⊎_elim, arith, append-nil, eqb-true, ◌∙◌}
use Rattle.std.proofs.lemmas.List.{map-append}
use Rattle.std.proofs.lemmas.Option.{none-some}
use Rattle.history_frame.specs.declared.events.Event.{Event}
use Rattle.log_base.specs.ClusterShape.{InRange, Shape}
use Rattle.log_base.proofs.Legal.{at_longer}
use Rattle.log_model.specs.Storage.{entries_in, entry_in, entry_read, list_in}
use Rattle.node_table.specs.declared.role.Role.{Role}
use Rattle.node_table.specs.Numbering.{disk_of, storage_node}
use Rattle.node_table.proofs.Roles.{role_at-node_of}
use Rattle.record_frame.specs.declared.entries.Entry.{Entry}
use Rattle.record_frame.specs.Entries.{IsEntry, entry_spelling}
use Rattle.record_frame.proofs.EntryLaws.{entry_again}
use Rattle.record_frame.proofs.FieldLaws.{front_stands}
use Rattle.node_model.specs.Durable.{Empty, IsFounded, IsLeft, Keeps, Later, With, Without, payload_in_flight, payloads_of, put_to}
use Rattle.node_model.specs.Legal.{IsLegal}
use Rattle.node_model.specs.Marks.{Running, Stopped, flight_of}
use Rattle.node_model.specs.NodeState.{KeptLists, NodeState, Storing, begun_as, node_after}
use Rattle.node_model.specs.Sequence.{lists_of}
use Rattle.node_model.specs.Sound.{IsSound, segment_disk}
use Rattle.node_model.specs.StorageNode.{Put, StorageMode, StorageNode}
use Rattle.node_model.proofs.Promises.{disk_node, disk_segment}
use Rattle.safety_law.specs.Fit.{CanPut, IsPut, IsReplicaMode}
use Rattle.safety_law.specs.Lists.{IsSegment}
use Rattle.safety_law.specs.Statements.{lists_after}
use Rattle.safety_law.proofs.History.{history_fits}
use Rattle.safety_law.proofs.Start.{kept_segment, made_from, sound_entry}
use Rattle.safety_law.proofs.StorageSends.{as_role}
use Rattle.sequence_law.specs.Pairs.{IsPair, IsSubmittedTo, NumbersAreBelow, PairsStandOnce}
use Rattle.sequence_law.proofs.Moments.{IsStoring, list_is, storing}
use Rattle.sequence_law.proofs.Owned.{Owned, apart, at_last, history_owned, same_node, same_replica}
use Rattle.sequence_law.proofs.Rows.{IsFresh}
use Rattle.sequence_law.proofs.Submitting.{submissions_agree}

-- the lists at first are what the disks kept
pub first_list : (config : Shape) (kept : KeptLists) (s r j : ℕ) → IsSegment config s r j → lists_after config kept [] s r j ≡ entries_in (kept (segment_disk config s r j))
first_list config kept s r j inside =
    ap (λ (role : Role). list_in (lists_of (begun_as config kept (storage_node config s r) role)) j) (role_at-node_of config (as_role s r) (inside.shard_below, inside.replica_below))
    ∙ kept_segment kept (storage_node config s r) 0 config.replicas j inside.segment_below
    ∙ (let same : 0 + j ≡ j = omega arith in ap (λ (k : ℕ). entries_in (kept (disk_of (storage_node config s r) k))) same)

-- at first the entries have numbers of earlier runs
pub numbers_below : (config : Shape) (run : ℕ) (kept : KeptLists) → InRange config → IsSound config run kept → NumbersAreBelow config run kept
numbers_below config run kept range sound s r j o x inside e =
    let one = made_from entry_in (kept (segment_disk config s r j)) o x (subst (λ (l : List Entry). slice_get l o ≡ Some x) (first_list config kept s r j inside) e) in
    subst (λ (y : Entry). y.number.0 < run * 2 ^ 32) one.2 (sound_entry config range _ kept sound s r j o one.0 inside one.1).number

pub first_owned : (config : Shape) (run : ℕ) (kept : KeptLists) → InRange config → IsSound config run kept → PairsStandOnce config kept [] → Owned config run kept []
first_owned config run kept range sound once = record {
  origin = λ s r o x a b e. inl (numbers_below config run kept range sound s r r o x (record { shard_below = a; replica_below = b; segment_below = b }) e);
  once = once;
  flights = λ s r node put a b state flight own.
      let same = same_node (node_after config kept [] (storage_node config s r)) _ node
      (ap (begun_as config kept (storage_node config s r)) (role_at-node_of config (as_role s r) (a, b))) state in
      absurd (none-some put (subst (λ (n : StorageNode). flight_of n.mode ≡ Some put) (sym same) flight));
}

-- an entry is read from its spelling
pub entry_in-spelling : (entry : Entry) → IsEntry entry → entry_in (entry_spelling entry) ≡ entry
unfolding entry_in
entry_in-spelling entry is =
    let stands = front_stands (entry_spelling entry) (entry_spelling entry) [] (sym (append-nil (entry_spelling entry))) in
    ap entry_read (entry_again (entry_spelling entry) 0 (length (entry_spelling entry)) entry is stands)

read_all : (list : List Entry) → ((o : ℕ) (x : Entry) → slice_get list o ≡ Some x → IsEntry x) → entries_in (map entry_spelling list) ≡ list
read_all [] h = refl
read_all (x ∷ list) h =
    ap (λ (y : Entry). y ∷ entries_in (map entry_spelling list)) (entry_in-spelling x (h 0 x refl)) ∙ ap (λ (l : List Entry). x ∷ l) (read_all list (λ o y e. h (suc o) y e))

module _ (config : Shape) (run : ℕ) (kept left : KeptLists) (events : List Event) (legal : IsLegal config run kept events) (is : IsLeft config kept events left) where
  -- a list that is left: what was stored, or with what is in flight at its end
  pub data LeftList (s r j : ℕ) (list : List Entry) : Type 0 where
    AsStored : list ≡ lists_after config kept events s r j → LeftList s r j list
    AndMore : (node : StorageNode) (put : Put) → node_after config kept events (storage_node config s r) ≡ Storing node → flight_of node.mode ≡ Some put → put.segment ≡ j
        → IsPut config (lists_after config kept events) s r put → list ≡ lists_after config kept events s r j ++ put.entry ∷ [] → LeftList s r j list

  pub record IsLeftList (s r j : ℕ) : Type 0 where
    pub list : List Entry
    pub kind : LeftList s r j list
    pub disk : left (segment_disk config s r j) ≡ map entry_spelling list

  pub flight_put : (s r : ℕ) (m : StorageMode) (put : Put) → IsReplicaMode config (lists_after config kept events) s r m → flight_of m ≡ Some put → IsPut config (lists_after config kept events) s r put
  flight_put s r (Stopped flight known) put h e = subst (CanPut config (lists_after config kept events) s r) e h.0
  flight_put s r (Running memory) put h e = absurd (cc)

  put_in_flight : (j : ℕ) (flight : Option Put) (payload : List ℕ) → put_to j flight ≡ Some payload
      → (put : Put) × (flight ≡ Some put) × (put.segment ≡ j) × (payload ≡ entry_spelling put.entry)
  put_in_flight j None payload e = absurd (cc)
  put_in_flight j (Some put) payload e = at (put.segment == j) refl e
    where
      at : (b : Bool) → (put.segment == j) ≡ b → cond b (Some (entry_spelling put.entry)) None ≡ Some payload
          → (one : Put) × (Some put ≡ Some one) × (one.segment ≡ j) × (payload ≡ entry_spelling one.entry)
      at true t f = (put, refl, eqb-true put.segment j t, cc)
      at false t f = absurd (cc)

  module _ (s r j : ℕ) (inside : IsSegment config s r j) where
    old : IsStoring config run kept events s r
    old = storing config run kept events s r legal inside.shard_below inside.replica_below

    small : j < 8
    small = let few = legal.config_in_range.replicas in omega (arith, inside.segment_below, few)

    state : node_after config kept events (segment_disk config s r j / 8) ≡ Storing old.node
    state = ap (node_after config kept events) (disk_node (storage_node config s r) j small) ∙ old.state

    keeps : Keeps (map entry_spelling (list_in old.node.durable j)) (put_to j (flight_of old.node.mode)) (left (segment_disk config s r j))
    keeps =
        subst (λ (x : NodeState × ℕ). Keeps (payloads_of x.0 x.1) (payload_in_flight x.0 x.1) (left (segment_disk config s r j)))
        (λ i. (state i, disk_segment (storage_node config s r) j small i)) (is (segment_disk config s r j))

    from : Keeps (map entry_spelling (list_in old.node.durable j)) (put_to j (flight_of old.node.mode)) (left (segment_disk config s r j)) → IsLeftList s r j
    from (Without e) = record { list = list_in old.node.durable j; kind = AsStored (sym (list_is config run kept events s r j old.node old.state)); disk = e }
    from (With payload f e) =
        let found = put_in_flight j (flight_of old.node.mode) payload f in
        record {
          list = list_in old.node.durable j ++ found.0.entry ∷ [];
          kind = AndMore old.node found.0 old.state found.1 found.2 (flight_put s r old.node.mode found.0 old.good.mode found.1)
              (ap (λ (l : List Entry). l ++ found.0.entry ∷ []) (sym (list_is config run kept events s r j old.node old.state)));
          disk = e ∙ ap (λ (p : List ℕ). map entry_spelling (list_in old.node.durable j) ++ p ∷ []) found.3
              ∙ sym (map-append entry_spelling (list_in old.node.durable j) (found.0.entry ∷ []));
        }

    pub left_list : IsLeftList s r j
    left_list = from keeps

    -- where an entry of a list that is left stands: it was stored, or it was in flight
    pub data LeftAt (o : ℕ) (x : Entry) : Type 0 where
      Held : slice_get (lists_after config kept events s r j) o ≡ Some x → LeftAt o x
      Flying : (node : StorageNode) (put : Put) → node_after config kept events (storage_node config s r) ≡ Storing node → flight_of node.mode ≡ Some put → put.segment ≡ j
          → IsPut config (lists_after config kept events) s r put → o ≡ length (lists_after config kept events s r j) → put.entry ≡ x → LeftAt o x

    left_kind_at : (list : List Entry) → LeftList s r j list → (o : ℕ) (x : Entry) → slice_get list o ≡ Some x → LeftAt o x
    left_kind_at list (AsStored e) o x at = Held (subst (λ (l : List Entry). slice_get l o ≡ Some x) e at)
    left_kind_at list (AndMore node put at_node flight own can e) o x at =
        ⊎_elim (λ old. Held old) (λ new. Flying node put at_node flight own can new.0 new.1)
        (at_last (lists_after config kept events s r j) put.entry o x (subst (λ (l : List Entry). slice_get l o ≡ Some x) e at))

    pub left_at : (o : ℕ) (x : Entry) → slice_get left_list.list o ≡ Some x → LeftAt o x
    left_at o x at = left_kind_at left_list.list left_list.kind o x at

    entry_of_left : (o : ℕ) (x : Entry) → LeftAt o x → IsEntry x
    entry_of_left o x (Held e) = ((history_fits config run kept events legal).copies s r j inside).entries o x e
    entry_of_left o x (Flying node put at_node flight own can end same) = subst IsEntry same can.entry

    pub left_entries : (o : ℕ) (x : Entry) → slice_get left_list.list o ≡ Some x → IsEntry x
    left_entries o x at = entry_of_left o x (left_at o x at)

    -- the list with which the next run begins
    pub left_first : lists_after config left [] s r j ≡ left_list.list
    left_first = first_list config left s r j inside ∙ ap entries_in left_list.disk ∙ read_all left_list.list left_entries

    -- what was stored is left
    pub left_keeps : (list : List Entry) → LeftList s r j list → (o : ℕ) (x : Entry) → slice_get (lists_after config kept events s r j) o ≡ Some x → slice_get list o ≡ Some x
    left_keeps list (AsStored e) o x at = subst (λ (l : List Entry). slice_get l o ≡ Some x) (sym e) at
    left_keeps list (AndMore node put at_node flight own can e) o x at =
        subst (λ (l : List Entry). slice_get l o ≡ Some x) (sym e) (at_longer (lists_after config kept events s r j) (put.entry ∷ []) o x at).0

    pub entry_left : (o : ℕ) (x : Entry) → slice_get (lists_after config kept events s r j) o ≡ Some x → slice_get (lists_after config left [] s r j) o ≡ Some x
    entry_left o x at = subst (λ (l : List Entry). slice_get l o ≡ Some x) (sym left_first) (left_keeps left_list.list left_list.kind o x at)

  -- a pair stands once in the lists that are left
  module _ (owned : Owned config run kept events) where
    -- an entry of a primary's list: it was stored, or it is an own one that was in flight
    data Where (s r o : ℕ) (x : Entry) : Type 0 where
      Before : slice_get (lists_after config kept events s r r) o ≡ Some x → Where s r o x
      Now : o ≡ length (lists_after config kept events s r r) → IsFresh (lists_after config kept events s r r) x.client.0 x.number.0
          → IsSubmittedTo events (storage_node config s r) x → Where s r o x

    where_from : (s r o : ℕ) (x : Entry) → (inside : IsSegment config s r r) → LeftAt s r r inside o x → Where s r o x
    where_from s r o x inside (Held e) = Before e
    where_from s r o x inside (Flying node put at_node flight own can end same) =
        let h = owned.flights s r node put inside.shard_below inside.replica_below at_node flight own in
        Now end (subst (λ (y : Entry). IsFresh (lists_after config kept events s r r) y.client.0 y.number.0) same h.fresh) (subst (IsSubmittedTo events (storage_node config s r)) same h.by)

    where_is : (s r o : ℕ) (x : Entry) → (inside : IsSegment config s r r) → slice_get (lists_after config left [] s r r) o ≡ Some x → Where s r o x
    where_is s r o x inside at =
        where_from s r o x inside (left_at s r r inside o x (subst (λ (l : List Entry). slice_get l o ≡ Some x) (left_first s r r inside) at))

    not_again : (client number s r o t q : ℕ) (x y : Entry) → IsSegment config s r r → IsSegment config t q q
        → slice_get (lists_after config kept events s r r) o ≡ Some x → IsFresh (lists_after config kept events t q q) y.client.0 y.number.0
        → IsSubmittedTo events (storage_node config t q) y → IsPair client number x → IsPair client number y → ⊥
    not_again client number s r o t q x y inside also at fresh by px py =
        apart config run kept events legal (lists_after config kept events) client number s r o t q x y inside.shard_below inside.replica_below also.shard_below also.replica_below at
        (owned.origin s r o x inside.shard_below inside.replica_below at) fresh by px py

    pub left_once : PairsStandOnce config left []
    left_once client number s r o t q u x y inside also at too px py = by (where_is s r o x inside at) (where_is t q u y also too)
      where
        by : Where s r o x → Where t q u y → (s ≡ t) × (r ≡ q) × (o ≡ u)
        by (Before old) (Before old_too) = owned.once client number s r o t q u x y inside also old old_too px py
        by (Before old) (Now end fresh sent) = absurd (not_again client number s r o t q x y inside also old fresh sent px py)
        by (Now end fresh sent) (Before old) = absurd (not_again client number t q u s r y x also inside old fresh sent py px)
        by (Now end fresh sent) (Now end_too fresh_too sent_too) =
            let agree = submissions_agree config run kept events legal sent.event sent_too.event x y client number sent.among sent_too.among sent.input sent_too.input px py in
            let same = same_replica config s r t q inside.shard_below inside.replica_below also.shard_below also.replica_below (sym sent.here ∙ ap (λ n. n.0) agree.node ∙ sent_too.here) in
            (same.0, same.1, end ∙ ap (λ (z : ℕ × ℕ). length (lists_after config kept events z.0 z.1 z.1)) (λ i. (same.0 i, same.1 i)) ∙ sym end_too)

-- where nothing was kept there is no entry
none_kept : (config : Shape) (kept : KeptLists) → ((disk : ℕ) → kept disk ≡ []) → (s r j o : ℕ) (x : Entry) → IsSegment config s r j
    → slice_get (lists_after config kept [] s r j) o ≡ Some x → ⊥
none_kept config kept none s r j o x inside at =
    absurd (none-some x (subst (λ (l : List Entry). slice_get l o ≡ Some x) (first_list config kept s r j inside ∙ ap entries_in (none (segment_disk config s r j))) at))

pub founded_once : (config : Shape) (run : ℕ) (kept : KeptLists) → IsFounded config run kept → PairsStandOnce config kept []
founded_once config run kept (Empty _ _ none) = λ client number s r o t q u x y inside also at too px py. absurd (none_kept config kept none s r r o x inside at)
founded_once config run kept (Later _ _ earlier before events founded below legal left few) =
    left_once config earlier before kept events legal left
    (history_owned config earlier before events legal
    (first_owned config earlier before legal.config_in_range legal.sound (founded_once config earlier before founded)))

pub all_owned : (config : Shape) (run : ℕ) (kept : KeptLists) → IsFounded config run kept → (events : List Event) → IsLegal config run kept events → Owned config run kept events
all_owned config run kept founded events legal =
    history_owned config run kept events legal (first_owned config run kept legal.config_in_range legal.sound (founded_once config run kept founded))
