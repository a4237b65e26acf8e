-- A letter of which all is so fits its addressee.
use Rattle.std.proofs.Common.{◌≡◌, ◌<◌, ◌≤◌, ℕ, List, length, Some, refl, ap, subst, arith, ◌∙◌}
use Rattle.std.specs.Prelude.{slice_index}
use Rattle.history_frame.specs.declared.events.Sent.{Sent}
use Rattle.history_frame.specs.declared.inputs.Input.TheVariants.{Deliver}
use Rattle.log_base.specs.ClusterShape.{InRange, Shape}
use Rattle.log_model.specs.Lookup.{segment_index}
use Rattle.log_model.specs.Storage.{list_in}
use Rattle.message_frame.specs.declared.messages.Message.{Message}
use Rattle.message_frame.specs.declared.messages.Message.TheVariants.{Copy, CopyAck, Report, Least, Prepare, Promised, Lower, Accept, Accepted, Decide, Want}
use Rattle.node_table.specs.declared.role.Role.{Role}
use Rattle.node_table.specs.declared.role.Role.TheVariants.{Storage, Gatherer, Orderer}
use Rattle.node_table.specs.Numbering.{IsRole, node_of, role_at}
use Rattle.node_table.proofs.Roles.{role_at-is}
use Rattle.record_frame.specs.declared.entries.Entry.{Entry}
use Rattle.record_frame.specs.declared.values.Value.{Value}
use Rattle.record_frame.specs.declared.values.Value.TheVariants.{Noop, Cut, Add, Finalise, Trim}
use Rattle.node_model.specs.Fits.{Fits, FitsLists, FitsState, IsHeldIn}
use Rattle.node_model.specs.NodeState.{NodeState, Storing, Gathering, Ordering}
use Rattle.node_model.specs.Sequence.{lists_of}
use Rattle.node_model.specs.StorageNode.{member_of}
use Rattle.agreement_law.specs.Elements.{In}
use Rattle.safety_law.specs.Fit.{Fit}
use Rattle.safety_law.specs.Letters.{IsGoodMessage}
use Rattle.safety_law.specs.Lists.{AreCopies, IsHeldValue, Lists, lists_at}
use Rattle.safety_law.proofs.Prefixes.{prefix_length}

module _ (config : Shape) (lists : Lists) (copied : AreCopies config lists) (s r : ℕ) (a : s < config.shards) (b : r < config.replicas) (own : List (List Entry))
    (here : (j : ℕ) → lists s r j ≡ list_in own j) where
  value_held : (v : Value) → IsHeldValue config lists v → IsHeldIn (member_of config s r) own v
  value_held Noop h = tt
  value_held (Cut lengths) h = λ j below.
      subst (λ (l : List Entry). slice_index lengths.length (segment_index config.replicas s j) ≤ length l) (here j)
      (h s r j (record { shard_below = a; replica_below = b; segment_below = below }))
  value_held (Add shard) h = tt
  value_held (Finalise shard) h = tt
  value_held (Trim position) h = tt

  -- a peer holds no more than the primary
  peer_held : (peer held : ℕ) → peer < config.replicas → held ≤ length (lists s peer r) → held ≤ length (list_in own r)
  peer_held peer held below h =
      let longer = prefix_length (lists s peer r) (lists s r r) (copied s peer r (record { shard_below = a; replica_below = below; segment_below = b })).prefix in
      let size = ap length (here r) in
      omega (arith, longer, size, h)

  pub fits_lists : (m : Message) → IsGoodMessage config lists (Storage (record { 0 = s }) (record { 0 = r })) m → FitsLists (member_of config s r) own m
  fits_lists (Copy segment offset entry) h = h.truth.0
  fits_lists (CopyAck peer held) h = (h.truth.0, peer_held peer.0 held h.of_config h.truth.1)
  fits_lists (Decide slot value) h = value_held value h.truth
  fits_lists (Report shard replica lengths) h = tt
  fits_lists (Least shard lengths) h = tt
  fits_lists (Prepare ballot slot) h = tt
  fits_lists (Promised ballot slot who votes) h = tt
  fits_lists (Lower ballot promise) h = tt
  fits_lists (Accept ballot slot value) h = tt
  fits_lists (Accepted ballot slot who) h = tt
  fits_lists (Want slot node) h = tt

module _ (config : Shape) (range : InRange config) (state : ℕ → NodeState) (sent : List Sent) (fit : Fit config state sent) where
  held_as : (n : ℕ) (role : Role) → IsRole config role → node_of config role ≡ n → (x : NodeState) → state n ≡ x → (place index : ℕ) (m : Message)
      → IsGoodMessage config (lists_at config state) role m → FitsState config role x (Deliver place index (Some m))
  held_as n (Storage s r) is at (Storing node) e place index m h =
      fits_lists config (lists_at config state) fit.copies s.0 r.0 is.0 is.1 node.durable
      (λ j. ap (λ (k : ℕ). list_in (lists_of (state k)) j) at ∙ ap (λ (y : NodeState). list_in (lists_of y) j) e) m h
  held_as n (Storage s r) is at (Gathering node) e place index m h = tt
  held_as n (Storage s r) is at (Ordering node) e place index m h = tt
  held_as n (Gatherer i) is at x e place index m h = tt
  held_as n (Orderer i) is at x e place index m h = tt

  pub letter_fits : (s : Sent) → In s sent → (place index : ℕ) → Fits config (role_at config s.to.0) (state s.to.0) (Deliver place index (Some s.message))
  letter_fits s a place index =
      let h = fit.letters s a in
      let role = role_at-is config s.to.0 range h.within in
      record {
        allowed = record { named = h.good.named; range = (h.good.range, h.good.of_config) };
        held = held_as s.to.0 (role_at config s.to.0) role.0 role.1 (state s.to.0) refl place index s.message h.good;
      }
