-- Sound kept lists are a start of which all holds.
use Rattle.std.proofs.Common.{◌≡◌, ◌+◌, ◌-◌, ◌<◌, ◌≤◌, ℕ, zero, suc, List, [], ◌∷◌, length, map, get_or, slice_get, Some, refl, sym, ap, subst, inl, inr, ⊎_elim, arith, ◌∙◌}
use Rattle.std.proofs.lemmas.Bool.{cases_lt}
use Rattle.std.proofs.lemmas.List.{length-map, map-append}
use Rattle.std.proofs.lemmas.Nat.{div-mul-add, mod-mul-add}
use Rattle.std.proofs.lemmas.Option.{none-some, same_Some, slice_get-get_or}
use Rattle.log_base.specs.ClusterShape.{InRange, Shape}
use Rattle.log_model.specs.Storage.{entries_in, entry_in, list_in, list_limit}
use Rattle.message_frame.specs.declared.messages.Vote.{Vote}
use Rattle.node_table.specs.declared.role.Role.{Role}
use Rattle.node_table.specs.declared.role.Role.TheVariants.{Storage, Gatherer, Orderer}
use Rattle.node_table.specs.Numbering.{disk_of, role_at, storage_node}
use Rattle.node_table.proofs.Roles.{role_at-node_of}
use Rattle.paxos_model.specs.Payloads.{IsPayload, payload_in, payloads_in}
use Rattle.paxos_model.specs.Votes.{Payload, Promise, Voted, votes}
use Rattle.record_frame.specs.declared.entries.Entry.{Entry}
use Rattle.record_frame.specs.declared.values.Value.{Value}
use Rattle.record_frame.specs.declared.values.Value.TheVariants.{Noop, Cut, Add, Finalise, Trim}
use Rattle.record_frame.specs.Entries.{IsEntry}
use Rattle.record_frame.specs.Values.{IsValue}
use Rattle.node_model.specs.Fits.{IsValueOf}
use Rattle.node_model.specs.NodeState.{KeptLists, begun_as, node_at_first, segments_kept}
use Rattle.node_model.specs.OrdererNode.{at_first}
use Rattle.node_model.specs.Sequence.{lists_of}
use Rattle.node_model.specs.Sound.{AreSound, IsKeptValue, IsKeptVote, IsSoundAs, IsSoundEntry, IsSoundPromise, segment_disk}
use Rattle.agreement_law.specs.Elements.{In, IsPrefix}
use Rattle.safety_law.specs.Fit.{Fit, IsGoodNode, IsOrderer}
use Rattle.safety_law.specs.Lists.{IsCopied, IsHeldValue, IsSafeValue, IsSegment, Lists, lists_at}
use Rattle.safety_law.specs.Numbers.{IsNumbered}
use Rattle.safety_law.proofs.StorageSends.{as_role}

-- a list whose elements all stand in another one at their places is a prefix of it
pub in_places : {A : Type 0} (xs ys : List A) → ((k : ℕ) (x : A) → slice_get xs k ≡ Some x → slice_get ys k ≡ Some x) → IsPrefix xs ys
in_places [] ys f = (ys, refl)
in_places {A} (x ∷ xs) [] f = absurd (none-some x (f zero x refl))
in_places {A} (x ∷ xs) (y ∷ ys) f = joined (in_places xs ys (λ k z e. f (suc k) z e)) (same_Some y x (f zero x refl))
  where
    joined : IsPrefix xs ys → y ≡ x → IsPrefix (x ∷ xs) (y ∷ ys)
    joined p e = (p.0, ap (λ (l : List A). x ∷ l) p.1 ∙ ap (λ (z : A). z ∷ ys) (sym e))

prefix_map : {A B : Type 0} (f : A → B) (xs ys : List A) → IsPrefix xs ys → IsPrefix (map f xs) (map f ys)
prefix_map f xs ys p = (map f p.0, sym (map-append f xs p.0) ∙ ap (map f) p.1)

-- an element of a list that was made place by place
pub made_from : {A B : Type 0} (f : A → B) (xs : List A) (k : ℕ) (y : B) → slice_get (map f xs) k ≡ Some y → (x : A) × (slice_get xs k ≡ Some x) × (f x ≡ y)
made_from f [] k y e = absurd (none-some y e)
made_from f (x ∷ xs) zero y e = (x, refl, same_Some (f x) y e)
made_from f (x ∷ xs) (suc k) y e = made_from f xs k y e

in_made : {A B : Type 0} (f : A → B) (xs : List A) (y : B) → In y (map f xs) → (k : ℕ) × (x : A) × (slice_get xs k ≡ Some x) × (y ≡ f x)
in_made f [] y a = absurd a
in_made f (x ∷ xs) y (inl e) = (zero, x, refl, e)
in_made f (x ∷ xs) y (inr a) = let rest = in_made f xs y a in (suc rest.0, rest.1, rest.2, rest.3)

in_votes : (list : List Payload) (x : Vote) → In x (votes list) → In (Voted x) list
in_votes [] x a = absurd a
in_votes (Promise b ∷ list) x a = inr (in_votes list x a)
in_votes (Voted v ∷ list) x (inl e) = inl (ap Voted e)
in_votes (Voted v ∷ list) x (inr a) = inr (in_votes list x a)

-- the list of a segment
pub kept_segment : (kept : KeptLists) (node first count j : ℕ) → j < count → list_in (segments_kept kept node first count) j ≡ entries_in (kept (disk_of node (first + j)))
kept_segment kept node first zero j h = absurd (omega arith)
kept_segment kept node first (suc count) zero h = let same : first ≡ first + 0 = omega arith in ap (λ (k : ℕ). entries_in (kept (disk_of node k))) same
kept_segment kept node first (suc count) (suc j) h =
    let same : suc first + j ≡ first + suc j = omega arith in
    kept_segment kept node (suc first) count j (omega arith) ∙ ap (λ (k : ℕ). entries_in (kept (disk_of node k))) same

segments_size : (kept : KeptLists) (node first count : ℕ) → length (segments_kept kept node first count) ≡ count
segments_size kept node first zero = refl
segments_size kept node first (suc count) = ap suc (segments_size kept node (suc first) count)

module _ (config : Shape) (range : InRange config) (IsNumber : ℕ → Type 0) (kept : KeptLists) (sound : AreSound config IsNumber kept) where
  abbrev first_lists : Lists
  first_lists = lists_at config (node_at_first config kept)

  first_at : (s r j : ℕ) → IsSegment config s r j → first_lists s r j ≡ entries_in (kept (segment_disk config s r j))
  first_at s r j inside =
      ap (λ (role : Role). list_in (lists_of (begun_as config kept (storage_node config s r) role)) j) (role_at-node_of config (as_role s r) (inside.shard_below, inside.replica_below))
      ∙ kept_segment kept (storage_node config s r) 0 config.replicas j inside.segment_below
      ∙ (let same : 0 + j ≡ j = omega arith in ap (λ (k : ℕ). entries_in (kept (disk_of (storage_node config s r) k))) same)

  -- what soundness says of a payload on a disk of a node
  sound_as : (node segment offset : ℕ) (payload : List ℕ) → segment < 8 → slice_get (kept (disk_of node segment)) offset ≡ Some payload
      → IsSoundAs config IsNumber kept (role_at config node) segment offset payload
  sound_as node segment offset payload small e =
      let one = sound (disk_of node segment) offset payload e in
      subst (λ (x : ℕ × ℕ). IsSoundAs config IsNumber kept (role_at config x.0) x.1 offset payload)
      (λ i. (div-mul-add node 8 segment small i, mod-mul-add node 8 segment small i)) one.1

  pub sound_entry : (s r j offset : ℕ) (payload : List ℕ) → IsSegment config s r j → slice_get (kept (segment_disk config s r j)) offset ≡ Some payload
      → IsSoundEntry config IsNumber kept s j offset payload
  sound_entry s r j offset payload inside e =
      (subst (λ (role : Role). IsSoundAs config IsNumber kept role j offset payload) (role_at-node_of config (as_role s r) (inside.shard_below, inside.replica_below))
      (sound_as (storage_node config s r) j offset payload (omega (arith, inside.segment_below, range.replicas)) e)).1

  few_kept : (s r j : ℕ) → IsSegment config s r j → length (kept (segment_disk config s r j)) ≤ list_limit
  few_kept s r j inside =
      ⊎_elim
      (λ some.
      let list = kept (segment_disk config s r j) in
      let last : length list - 1 < length list = omega (arith, some) in
      let one = sound_entry s r j (length list - 1) (get_or list (length list - 1) []) inside (slice_get-get_or list (length list - 1) [] last) in
      omega (arith, one.few))
      (λ none. omega (arith, none))
      (cases_lt 0 (length (kept (segment_disk config s r j))))

  copied_first : (s r j : ℕ) → IsSegment config s r j → IsCopied first_lists s r j
  copied_first s r j inside = record {
    prefix = subst (λ (x : List Entry × List Entry). IsPrefix x.0 x.1) (λ i. (sym (first_at s r j inside) i, sym (first_at s j j primary) i))
        (prefix_map entry_in (kept (segment_disk config s r j)) (kept (segment_disk config s j j))
        (in_places (kept (segment_disk config s r j)) (kept (segment_disk config s j j)) (λ k x e. (sound_entry s r j k x inside e).primary)));
    entries = λ offset entry e.
        let one = made_from entry_in (kept (segment_disk config s r j)) offset entry (subst (λ (l : List Entry). slice_get l offset ≡ Some entry) (first_at s r j inside) e) in
        subst IsEntry one.2 (sound_entry s r j offset one.0 inside one.1).spelled.entry;
    few = subst (λ (l : List Entry). length l ≤ list_limit) (sym (first_at s r j inside))
        (omega (arith, length-map (kept (segment_disk config s r j)) entry_in, few_kept s r j inside));
  }
    where
      primary : IsSegment config s j j
      primary = record { shard_below = inside.shard_below; replica_below = inside.segment_below; segment_below = inside.segment_below }

  -- the values of an orderer's votes
  held_first : (v : Value) → IsKeptValue config kept v → IsHeldValue config first_lists v
  held_first Noop h = tt
  held_first (Cut lengths) h = λ s r j inside.
      let size = ap length (first_at s r j inside) in
      omega (arith, size, length-map (kept (segment_disk config s r j)) entry_in, h.1 s r j inside.shard_below inside.replica_below inside.segment_below)
  held_first (Add shard) h = tt
  held_first (Finalise shard) h = tt
  held_first (Trim position) h = tt

  of_config : (v : Value) → IsKeptValue config kept v → IsValueOf config v
  of_config Noop h = tt
  of_config (Cut lengths) h = h.0
  of_config (Add shard) h = h
  of_config (Finalise shard) h = h
  of_config (Trim position) h = tt

  safe_first : (v : Value) → IsValue v → IsKeptValue config kept v → IsSafeValue config first_lists v
  safe_first v is h = record { range = is; of_config = of_config v h; held = held_first v h }

  numbered_first : (p : Payload) → IsPayload p → IsNumbered p
  numbered_first (Promise b) h = h
  numbered_first (Voted x) h = (h.0, h.1)

  -- a payload of an orderer's list
  module _ (i node : ℕ) (role : role_at config node ≡ Orderer i) where
    sound_payload : (p : Payload) → In p (payloads_in (kept (disk_of node 0))) → (q : List ℕ) × (k : ℕ) × IsSoundPromise config kept k q × (p ≡ payload_in q)
    sound_payload p a =
        let one = in_made payload_in (kept (disk_of node 0)) p a in
        (one.1, one.0, (subst (λ (x : Role). IsSoundAs config IsNumber kept x 0 one.0 one.1) role (sound_as node 0 one.0 one.1 (omega arith) one.2)).1, one.3)

    vote_first : (x : Vote) (q : Payload) → Voted x ≡ q → IsPayload q → IsKeptVote config kept q → IsSafeValue config first_lists x.value
    vote_first x q e is h =
        let payload : IsPayload (Voted x) = subst IsPayload (sym e) is in
        let value : IsKeptVote config kept (Voted x) = subst (IsKeptVote config kept) (sym e) h in
        safe_first x.value payload.2 value

    orderer_first : IsOrderer config first_lists (at_first (payloads_in (kept (disk_of node 0))))
    orderer_first = record {
      values = record {
        kept = λ x a.
            let one = sound_payload (Voted x) (in_votes (payloads_in (kept (disk_of node 0))) x a) in
            vote_first x (payload_in one.0) one.3 one.2.spelled.payload one.2.value;
        mode = (tt, λ v a. absurd a);
      };
      numbers = record {
        kept = λ p a. let one = sound_payload p a in subst IsNumbered (sym one.3) (numbered_first (payload_in one.0) one.2.spelled.payload);
        mode = (tt, omega arith);
      };
    }

  node_first : (node : ℕ) (role : Role) → role_at config node ≡ role → IsGoodNode config first_lists role (begun_as config kept node role)
  node_first node (Storage s r) e = record {
    size = segments_size kept node 0 config.replicas;
    mode = (tt, record { covered = λ j below. omega arith; few = omega arith });
  }
  node_first node (Gatherer i) e = λ hearing is. absurd (cc)
  node_first node (Orderer i) e = orderer_first i node e

  pub start_fits : Fit config (node_at_first config kept) []
  start_fits = record {
    copies = copied_first;
    nodes = λ node within. node_first node (role_at config node) refl;
    letters = λ s a. absurd a;
  }
