-- What holds of every letter that a row puts out. The property is a parameter.
use Rattle.std.proofs.Common.{◌≡◌, ◌≢◌, ℕ, zero, suc, ◌+◌, ◌<◌, ◌≤◌, Bool, true, false, cond, ◌==◌, List, [], ◌∷◌, ◌++◌, Option, Some, None, slice_get, slice_index, length, refl, arith}
use Rattle.std.proofs.lemmas.Bool.Decides.{nat_tests}
use Rattle.std.specs.List.{AllByRecursion}
use Rattle.history_frame.specs.declared.events.Sent.{Sent}
use Rattle.log_base.specs.ClusterShape.{Shape}
use Rattle.log_model.specs.Storage.{Member}
use Rattle.message_frame.specs.declared.messages.Message.{Message}
use Rattle.node_table.specs.Numbering.{storage_node}
use Rattle.peer_copy.specs.Copying.{Copying, offsets_of, window_at}
use Rattle.record_frame.specs.declared.entries.Entry.{Entry}
use Rattle.node_model.specs.Messages.{copy_message}
use Rattle.node_model.specs.Nodes.{letter, to_nodes}
use Rattle.node_model.specs.StorageRow.{copies, copy_letter, windows}

pub all_append : {A : Type 0} (P : A → Type 0) (xs ys : List A) → AllByRecursion P xs → AllByRecursion P ys → AllByRecursion P (xs ++ ys)
all_append P [] ys h k = k
all_append P (x ∷ xs) ys h k = (h.0, all_append P xs ys h.1 k)

-- the same message to nodes that follow each other
pub to_nodes_all : (P : Sent → Type 0) (message : Message) (first count : ℕ)
    → ((node : ℕ) → first ≤ node → node < first + count → P (letter node message)) → AllByRecursion P (to_nodes first count message)
to_nodes_all P message first zero h = tt
to_nodes_all P message first (suc count) h =
    (h first (omega arith) (omega arith), to_nodes_all P message (suc first) count (λ node low high. h node (omega arith) (omega arith)))

module _ (config : Shape) (member : Member) (P : Sent → Type 0) (own : List Entry) where
  -- the property of a copy to a peer
  abbrev pub OfCopies : ℕ → Type 0
  OfCopies peer = (offset : ℕ) (entry : Entry) → slice_get own offset ≡ Some entry
      → P (letter (storage_node config member.shard peer) (copy_message member.own offset entry))

  copy_all : (peer offset : ℕ) → OfCopies peer → (found : Option Entry) → slice_get own offset ≡ found
      → AllByRecursion P (copy_letter config member peer offset found)
  copy_all peer offset h None e = tt
  copy_all peer offset h (Some entry) e = (h offset entry e, tt)

  pub copies_all : (peer : ℕ) (offsets : List ℕ) → OfCopies peer → AllByRecursion P (copies config member own peer offsets)
  copies_all peer [] h = tt
  copies_all peer (offset ∷ offsets) h =
      all_append P (copy_letter config member peer offset (slice_get own offset)) (copies config member own peer offsets)
      (copy_all peer offset h (slice_get own offset) refl) (copies_all peer offsets h)

  pub windows_all : (copying : Copying) (first count : ℕ)
      → ((peer : ℕ) → first ≤ peer → peer < first + count → peer ≢ member.own → OfCopies peer)
      → AllByRecursion P (windows config member own copying first count)
  windows_all copying first zero h = tt
  windows_all copying first (suc count) h =
      all_append P _ (windows config member own copying (suc first) count)
      (at (first == member.own) refl)
      (windows_all copying (suc first) count (λ peer low high. h peer (omega arith) (omega arith)))
    where
      at : (t : Bool) → (first == member.own) ≡ t
          → AllByRecursion P (cond t [] (copies config member own first (offsets_of (window_at (slice_index copying.acked first) (length own)))))
      at true e = tt
      at false e = copies_all first _ (h first (omega arith) (omega arith) (grind (arith, nat_tests)))
