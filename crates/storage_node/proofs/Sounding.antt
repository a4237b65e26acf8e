-- What a storage node keeps true, where no list changes.
use Rattle.std.proofs.Common.{◌≡◌, ℕ, ◌<◌, List, [], ◌∷◌, length, Option, Some, None, refl, sym, ap, ◌∙◌, subst, arith, length-append}
use Rattle.std.specs.Prelude.{option_to_list}
use Rattle.std.specs.List.{All, AllByRecursion}
use Rattle.std.specs.Option.{option_map}
use Rattle.std.proofs.lemmas.List.{length-map}
use Rattle.std.proofs.lemmas.List.Elements.{All-head, All-tail}
use Rattle.history_frame.specs.declared.events.Sent.{Sent}
use Rattle.history_frame.specs.declared.inputs.Input.{Input}
use Rattle.log_base.specs.ClusterShape.{Shape}
use Rattle.log_model.specs.Learning.{known_after}
use Rattle.log_model.specs.Storage.{entry_in}
use Rattle.node_model.specs.Fits.{IsHeldIn}
use Rattle.peer_copy.specs.Copying.{Copying}
use Rattle.record_frame.specs.declared.values.Value.{Value}
use Rattle.segment_journal.specs.Journalled.{Journalled}
use Rattle.shard_replica.specs.Lists.{HoldsRecords, segment_of, segments_of}
use Rattle.shard_replica.specs.Replica.{ReplicaState, at_first, lists_of, member_of}
use Rattle.storage_node.specs.declared.node.Mode.{Mode}
use Rattle.storage_node.specs.declared.node.Mode.TheVariants.{Down, Running}
use Rattle.history_frame.specs.declared.events.Effect.{Effect}
use Rattle.storage_node.specs.StorageState.{HasOneFlight, IsFew, IsOf, IsSound, IsStorage, StorageState}
use Rattle.storage_node.specs.Turning.{TurnsOut}
use Rattle.storage_node.proofs.Learning.{learn-counts, learn-covers}
use Rattle.storage_node.proofs.Putting.{rest-one}

-- a value that is learned
pub sound-learned : (mode : Mode) (state : ReplicaState) (slot : ℕ) (value : Value) → slot < 16384 → IsHeldIn (member_of state) (lists_of state) value → IsSound mode state
    → IsSound mode (record state { known = known_after (member_of state) state.known slot value })
sound-learned mode state slot value lt held sound = record {
  count = sound.count;
  few = sound.few;
  rests = sound.rests;
  covered = learn-covers (member_of state) (lists_of state) state.known slot value sound.covered held;
  known = learn-counts (member_of state) state.known slot value lt sound.known;
}

-- what peers acknowledged
pub sound-noted : (mode : Mode) (state : ReplicaState) (copying : Copying) → IsSound mode state → IsSound mode (record state { copying = copying })
sound-noted mode state copying sound = record { count = sound.count; few = sound.few; rests = sound.rests; covered = sound.covered; known = sound.known }

-- a node that goes down, or stays so
pub sound-down : (mode : Mode) (state : ReplicaState) → IsSound mode state → IsSound Down state
sound-down Down state sound = sound
sound-down Running state sound = record { count = sound.count; few = sound.few; rests = rest-one state.segments sound.rests; covered = sound.covered; known = sound.known }

-- a node over journals that hold entries, with at most one in flight
few-held : {X : Type 0} (state : X → Journalled) (journals : List X) → All (λ (j : X). HoldsRecords (state j)) journals → AllByRecursion IsFew (segments_of state journals)
few-held state [] all = tt
few-held {X} state (j ∷ journals) all = (one (state j) (All-head (λ (k : X). HoldsRecords (state k)) j journals all), few-held state journals (All-tail (λ (k : X). HoldsRecords (state k)) j journals all))
  where
    size : (o : Option (List ℕ)) → length (option_to_list (option_map entry_in o)) ≡ length (option_to_list o)
    size None = refl
    size (Some payload) = refl

    one : (journal : Journalled) → HoldsRecords journal → IsFew (segment_of journal)
    one journal holds = omega (arith, holds.flight.few, length-append journal.payloads (option_to_list journal.flight), length-map journal.payloads entry_in, size journal.flight)

pub storage-new : {X : Type 0} (state : X → Journalled) (journals : List X) (config : Shape) (shard own : ℕ) (now : ReplicaState) (sent : List Sent)
    → length journals ≡ config.replicas → All (λ (j : X). HoldsRecords (state j)) journals → HasOneFlight (segments_of state journals)
    → now ≡ at_first config shard own (segments_of state journals) → sent ≡ [] → IsStorage config shard own Down now sent
storage-new {X} state journals config shard own now sent count holds one is none = record {
  replica = record { config_is = ap (λ (s : ReplicaState). s.config) is; shard_is = ap (λ (s : ReplicaState). s.shard) is; own_is = ap (λ (s : ReplicaState). s.own) is };
  sound = subst (λ (s : ReplicaState). IsSound Down s) (sym is) (record {
    count = length-map journals (λ (j : X). segment_of (state j)) ∙ count;
    few = few-held state journals holds;
    rests = one;
    covered = λ segment lt. omega arith;
    known = omega arith;
  });
  nothing_sent = none;
}

-- a turn of the node as its parts are
pub turned-from : (inside old new : StorageState) (input : Input) (turn : Effect) → inside ≡ old → TurnsOut inside input turn new → TurnsOut old input turn new
turned-from inside old new input turn e h = subst (λ (v : StorageState). TurnsOut v input turn new) e h

pub turned-same : (inside node : StorageState) (input : Input) (turn : Effect) → inside ≡ node → TurnsOut inside input turn inside → TurnsOut node input turn node
turned-same inside node input turn e h = subst (λ (v : StorageState). TurnsOut v input turn v) e h

-- the own list is one of the lists
pub own-within : (config : Shape) (shard own : ℕ) (mode : Mode) (state : ReplicaState) (sent : List Sent) → own < config.replicas → IsStorage config shard own mode state sent
    → (state.own < state.config.replicas) × (state.own < length state.segments)
own-within config shard own mode state sent lt kept =
    let replicas : state.config.replicas ≡ config.replicas = ap (λ (s : Shape). s.replicas) kept.replica.config_is in
    (omega (arith, lt, kept.replica.own_is, replicas), omega (arith, lt, kept.replica.own_is, replicas, kept.sound.count))

-- a node that learned a value, and one whose peers acknowledged more
pub storage-learned : (config : Shape) (shard own : ℕ) (mode : Mode) (state new : ReplicaState) (sent : List Sent) (slot : ℕ) (value : Value) → slot < 16384
    → IsHeldIn (member_of state) (lists_of state) value → new ≡ record state { known = known_after (member_of state) state.known slot value }
    → IsStorage config shard own mode state sent → IsStorage config shard own mode new sent
storage-learned config shard own mode state new sent slot value lt held is kept = record {
  replica = subst (λ (s : ReplicaState). IsOf config shard own s) (sym is) (record { config_is = kept.replica.config_is; shard_is = kept.replica.shard_is; own_is = kept.replica.own_is });
  sound = subst (λ (s : ReplicaState). IsSound mode s) (sym is) (sound-learned mode state slot value lt held kept.sound);
  nothing_sent = kept.nothing_sent;
}

pub storage-noted : (config : Shape) (shard own : ℕ) (mode : Mode) (state new : ReplicaState) (before sent : List Sent) (copying : Copying) → new ≡ record state { copying = copying } → sent ≡ []
    → IsStorage config shard own mode state before → IsStorage config shard own mode new sent
storage-noted config shard own mode state new before sent copying is none kept = record {
  replica = subst (λ (s : ReplicaState). IsOf config shard own s) (sym is) (record { config_is = kept.replica.config_is; shard_is = kept.replica.shard_is; own_is = kept.replica.own_is });
  sound = subst (λ (s : ReplicaState). IsSound mode s) (sym is) (sound-noted mode state copying kept.sound);
  nothing_sent = none;
}

-- a node that stays down
pub storage-down : (config : Shape) (shard own : ℕ) (mode : Mode) (state new : ReplicaState) (sent : List Sent) → new ≡ state
    → IsStorage config shard own mode state sent → IsStorage config shard own Down new sent
storage-down config shard own mode state new sent is kept = record {
  replica = subst (λ (s : ReplicaState). IsOf config shard own s) (sym is) kept.replica;
  sound = subst (λ (s : ReplicaState). IsSound Down s) (sym is) (sound-down mode state kept.sound);
  nothing_sent = kept.nothing_sent;
}
