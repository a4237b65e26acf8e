-- The lists of entries only grow.
use Rattle.std.proofs.Common.{◌≡◌, ◌⊎◌, ◌<◌, ℕ, zero, suc, List, [], ◌∷◌, ◌++◌, slice_get, Option, Some, None, refl, sym, ap, subst, inl, inr, ◌∙◌}
use Rattle.std.specs.Prelude.{slice_set}
use Rattle.history_frame.specs.declared.events.Event.{Event}
use Rattle.history_frame.specs.declared.inputs.Input.{Input}
use Rattle.history_frame.specs.declared.inputs.Mark.{Mark}
use Rattle.log_base.specs.ClusterShape.{Shape}
use Rattle.log_model.specs.Storage.{list_in, with_entry}
use Rattle.node_table.specs.Numbering.{storage_node}
use Rattle.record_frame.specs.declared.entries.Entry.{Entry}
use Rattle.node_model.specs.Legal.{IsLegal, IsNext}
use Rattle.node_model.specs.Marks.{stored_with}
use Rattle.node_model.specs.NodeState.{KeptLists, Storing, node_after}
use Rattle.node_model.specs.StorageNode.{Put, StorageNode, StorageOutcome, member_of}
use Rattle.node_model.specs.StorageRow.{storage_role}
use Rattle.node_model.specs.Turning.{Turned, Ran, Fell, Slept, Stopped_now, Opened, Opened_more}
use Rattle.agreement_law.specs.Elements.{IsPrefix}
use Rattle.safety_law.specs.Lists.{Grow}
use Rattle.safety_law.specs.Statements.{lists_after}
use Rattle.safety_law.proofs.Prefixes.{prefix_at, prefix_is, prefix_more, prefix_push, prefix_same}
use Rattle.sequence_law.proofs.Moments.{ReplicaTurns, Stayed, Took, legal_part, list_is, onward, rest_next, storing, turns}

set_prefix : (own : List (List Entry)) (g : ℕ) (list : List Entry) (j : ℕ) → IsPrefix (list_in own g) list → IsPrefix (list_in own j) (list_in (slice_set own g list) j)
set_prefix [] g list j p = prefix_same []
set_prefix (x ∷ own) zero list zero p = p
set_prefix (x ∷ own) zero list (suc j) p = prefix_same (list_in own j)
set_prefix (x ∷ own) (suc g) list zero p = prefix_same x
set_prefix (x ∷ own) (suc g) list (suc j) p = set_prefix own g list j p

-- what a replica stores after an event: what it stored, or one entry more
abbrev pub IsStored : List (List Entry) → List (List Entry) → Type 0
IsStored own after = (after ≡ own) ⊎ ((put : Put) × (after ≡ with_entry own put.segment put.entry))

with_put : (config : Shape) (s r : ℕ) (own : List (List Entry)) (put : Option Put) → IsStored own (stored_with (storage_role config (member_of config s r)) own put)
with_put config s r own None = inl refl
with_put config s r own (Some put) = inr (put, refl)

pub turned_stored : (config : Shape) (s r : ℕ) (node : StorageNode) (input : Input) (mark : Mark) (made : StorageOutcome) → Turned (storage_role config (member_of config s r)) node input mark made
    → IsStored node.durable made.node.durable
turned_stored config s r node input mark made (Ran memory c m e done is) =
    subst (λ (x : StorageOutcome). IsStored node.durable x.node.durable) (sym is) (with_put config s r node.durable c.put)
turned_stored config s r node input mark made (Fell memory c put m e puts halts is) = subst (λ (x : StorageOutcome). IsStored node.durable x.node.durable) (sym is) (inl refl)
turned_stored config s r node input mark made (Slept flight known m done is) = subst (λ (x : StorageOutcome). IsStored node.durable x.node.durable) (sym is) (inl refl)
turned_stored config s r node input mark made (Stopped_now is) = subst (λ (x : StorageOutcome). IsStored node.durable x.node.durable) (sym is) (inl refl)
turned_stored config s r node input mark made (Opened without is) = subst (λ (x : StorageOutcome). IsStored node.durable x.node.durable) (sym is) (inl refl)
turned_stored config s r node input mark made (Opened_more p flight with_it is) = subst (λ (x : StorageOutcome). IsStored node.durable x.node.durable) (sym is) (inr (p, refl))

stored_prefix : (own after : List (List Entry)) → IsStored own after → (j : ℕ) → IsPrefix (list_in own j) (list_in after j)
stored_prefix own after (inl same) j = prefix_is (list_in own j) (list_in after j) (ap (λ (l : List (List Entry)). list_in l j) (sym same))
stored_prefix own after (inr put) j =
    subst (λ (l : List (List Entry)). IsPrefix (list_in own j) (list_in l j)) (sym put.1)
    (set_prefix own put.0.segment (list_in own put.0.segment ++ put.0.entry ∷ []) j (prefix_push (list_in own put.0.segment) put.0.entry))

module _ (config : Shape) (run : ℕ) (kept : KeptLists) where
  replica_grows : (before : List Event) (e : Event) (s r j : ℕ) (node : StorageNode) → node_after config kept before (storage_node config s r) ≡ Storing node
      → ReplicaTurns config run kept before e s r node → IsPrefix (lists_after config kept before s r j) (lists_after config kept (before ++ e ∷ []) s r j)
  replica_grows before e s r j node state (Stayed after) =
      prefix_is _ _ (list_is config run kept before s r j node state ∙ sym (list_is config run kept (before ++ e ∷ []) s r j node after))
  replica_grows before e s r j node state (Took made here turned after outs reply) =
      subst (λ (x : List Entry × List Entry). IsPrefix x.0 x.1)
      (λ i. (sym (list_is config run kept before s r j node state) i, sym (list_is config run kept (before ++ e ∷ []) s r j made.node after) i))
      (stored_prefix node.durable made.node.durable (turned_stored config s r node e.happened.input e.happened.mark made turned) j)

  event_grows : (before : List Event) (e : Event) → IsLegal config run kept before → IsNext config run kept before e
      → Grow config (lists_after config kept before) (lists_after config kept (before ++ e ∷ []))
  event_grows before e legal next s r j inside =
      let old = storing config run kept before s r legal inside.shard_below inside.replica_below in
      replica_grows before e s r j old.node old.state (turns config run kept before e s r old.node next inside.shard_below inside.replica_below old.state)

  -- the lists at a moment are the beginning of the lists at each later one
  pub lists_grow : (before more : List Event) → IsLegal config run kept (before ++ more) → Grow config (lists_after config kept before) (lists_after config kept (before ++ more))
  lists_grow before more legal =
      onward config run kept (λ (es : List Event). Grow config (lists_after config kept before) (lists_after config kept es))
      (λ es e now next grow s r j inside. prefix_more _ _ _ (grow s r j inside) (event_grows es e now next s r j inside))
      before more (legal_part config run kept before more (before ++ more) refl legal) (rest_next config run kept before more [] legal.follow)
      (λ s r j inside. prefix_same _)

  -- what stands in a list at a moment stands there at each later one
  pub entry_stays : (before more events : List Event) → before ++ more ≡ events → IsLegal config run kept events → (s r j o : ℕ) (x : Entry) → s < config.shards → r < config.replicas → j < config.replicas
      → slice_get (lists_after config kept before s r j) o ≡ Some x → slice_get (lists_after config kept events s r j) o ≡ Some x
  entry_stays before more events is legal s r j o x a b c e =
      subst (λ (es : List Event). slice_get (lists_after config kept es s r j) o ≡ Some x) is
      (prefix_at _ _ o x (lists_grow before more (subst (IsLegal config run kept) (sym is) legal) s r j (record { shard_below = a; replica_below = b; segment_below = c })) e)
