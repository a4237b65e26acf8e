-- Each outcome of an event at a replica: what it stores can be put, and what stands after it and its letters are good.
use Rattle.std.proofs.Common.{◌≡◌, ◌<◌, ◌⊎◌, ℕ, zero, suc, List, [], ◌∷◌, ◌++◌, length, Option, Some, None, refl, sym, ap, subst, inl, inr, ⊎_elim, arith, ◌∙◌}
use Rattle.std.specs.Prelude.{slice_set}
use Rattle.std.proofs.lemmas.List.{length-set}
use Rattle.reply_frame.specs.declared.replies.Reply.{Reply, Down, Nothing as Silence, Halted as HaltedReply}
use Rattle.history_frame.specs.declared.inputs.Input.{Input}
use Rattle.history_frame.specs.declared.inputs.Mark.{Mark}
use Rattle.log_base.specs.ClusterShape.{InRange, Shape}
use Rattle.log_model.specs.Storage.{list_in, with_entry}
use Rattle.record_frame.specs.declared.entries.Entry.{Entry}
use Rattle.node_model.specs.Marks.{Running, Stopped, flight_of, silent, stopped, stored_with, to_call}
use Rattle.node_model.specs.StorageNode.{Put, Replica, StorageChange, StorageMode, StorageNode, StorageOutcome, fresh, member_of}
use Rattle.node_model.specs.StorageRow.{outcome, row, storage_role}
use Rattle.node_model.specs.Turning.{Turned, Ran, Fell, Slept, Stopped_now, Opened, Opened_more}
use Rattle.node_model.proofs.Turning.{for_some_at, turned}
use Rattle.safety_law.specs.Fit.{CanPut, IsPut, IsReplica, IsReplicaMode}
use Rattle.safety_law.specs.Letters.{AreGoodLetters}
use Rattle.safety_law.specs.Lists.{AreCopies, Grow, Lists}
use Rattle.safety_law.proofs.Grows.{replica_grows, replica_mode_grows}
use Rattle.safety_law.specs.Events.{IsGoodInput}
use Rattle.safety_law.proofs.Reports.{zeros_at}
use Rattle.safety_law.proofs.Sending.{none_sent}
use Rattle.safety_law.proofs.StorageRows.{RowFits, row_fits}
use Rattle.safety_law.proofs.StorageSends.{IsAt, as_role}

-- the lists of a replica are as they were, or an entry is put at the end of one
pub data Stores (config : Shape) (lists : Lists) (s r : ℕ) (own after : List (List Entry)) : Type 0 where
  Same : after ≡ own → Stores config lists s r own after
  Puts : (put : Put) → IsPut config lists s r put → after ≡ with_entry own put.segment put.entry → Stores config lists s r own after

pub record ReplicaMade (config : Shape) (lists : Lists) (s r : ℕ) (node : StorageNode) (made : StorageOutcome) : Type 0 where
  pub stores : Stores config lists s r node.durable made.node.durable
  pub then : (now : Lists) → AreCopies config now → Grow config lists now → IsAt config now s r made.node.durable
      → IsReplicaMode config now s r made.node.mode × AreGoodLetters config now made.outputs

fresh_replica : (config : Shape) (lists : Lists) (s r : ℕ) → IsReplica config lists s r (fresh (member_of config s r))
fresh_replica config lists s r = record {
  knows = record { covered = λ j below. omega arith; few = omega arith };
  acked = λ p below other. omega (arith, zeros_at config.replicas p);
}

module _ (config : Shape) (range : InRange config) (lists : Lists) (copied : AreCopies config lists) (s r : ℕ) (node : StorageNode)
    (at : IsAt config lists s r node.durable) (good : IsReplicaMode config lists s r node.mode) (x : Input) (f : IsGoodInput config lists (as_role s r) x) where
  running : (memory : Replica) → node.mode ≡ Running memory → IsReplica config lists s r memory
  running memory m = subst (IsReplicaMode config lists s r) m good

  change : (memory : Replica) (c : StorageChange) → node.mode ≡ Running memory → row config (member_of config s r) node.durable memory x ≡ Some c → RowFits config lists s r node.durable c
  change memory c m e =
      for_some_at (RowFits config lists s r node.durable) (row config (member_of config s r) node.durable memory x) c
      (row_fits config range lists copied s r node.durable at memory (running memory m) x f) e

  stores_of : (p : Option Put) → CanPut config lists s r p → Stores config lists s r node.durable (stored_with (storage_role config (member_of config s r)) node.durable p)
  stores_of None h = Same refl
  stores_of (Some put) h = Puts put h refl

  -- where the lists stay
  same_here : (now : Lists) → IsAt config now s r node.durable → (j : ℕ) → now s r j ≡ lists s r j
  same_here now i j = i.here j ∙ sym (at.here j)

  still : (m : StorageMode) (reply : Reply) → IsReplicaMode config lists s r m → ReplicaMade config lists s r node (silent (record { durable = node.durable; mode = m }) reply)
  still m reply h = record {
    stores = Same refl;
    then = λ now k grow i. (replica_mode_grows config lists now grow s r at.shard at.replica (same_here now i) m h, none_sent config now);
  }

  stopped_good : (m : StorageMode) → IsReplicaMode config lists s r m → IsReplicaMode config lists s r (stopped (storage_role config (member_of config s r)) m)
  stopped_good (Stopped flight known) h = h
  stopped_good (Running memory) h = (tt, h.knows)

  flight_can : (m : StorageMode) → IsReplicaMode config lists s r m → (p : Put) → flight_of m ≡ Some p → IsPut config lists s r p
  flight_can (Stopped flight known) h p e = subst (CanPut config lists s r) e h.0
  flight_can (Running memory) h p e = absurd (cc)

  made_good : (mark : Mark) (made : StorageOutcome) → Turned (storage_role config (member_of config s r)) node x mark made → ReplicaMade config lists s r node made
  made_good mark made (Ran memory c m e done is) =
      let k = change memory c m e in
      subst (ReplicaMade config lists s r node) (sym is) (record {
        stores = stores_of c.put k.put;
        then = λ now copies grow i. (replica_grows config lists now grow s r at.shard at.replica c.after k.after, k.letters now copies i);
      })
  made_good mark made (Fell memory c put m e puts halts is) =
      subst (ReplicaMade config lists s r node) (sym is)
      (still (Stopped (Some put) memory.known) (to_call x HaltedReply) (subst (CanPut config lists s r) puts (change memory c m e).put, (running memory m).knows))
  made_good mark made (Slept flight known m done is) =
      subst (ReplicaMade config lists s r node) (sym is) (still node.mode (to_call x Down) good)
  made_good mark made (Stopped_now is) =
      subst (ReplicaMade config lists s r node) (sym is) (still (stopped (storage_role config (member_of config s r)) node.mode) Silence (stopped_good node.mode good))
  made_good mark made (Opened without is) =
      subst (ReplicaMade config lists s r node) (sym is) (still (Running (fresh (member_of config s r))) Silence (fresh_replica config lists s r))
  made_good mark made (Opened_more p flight with_it is) =
      subst (ReplicaMade config lists s r node) (sym is) (record {
        stores = Puts p (flight_can node.mode good p flight) refl;
        then = λ now copies grow i. (fresh_replica config now s r, none_sent config now);
      })

  pub outcome_good : (mark : Mark) (made : StorageOutcome) → outcome config (member_of config s r) node x mark ≡ Some made → ReplicaMade config lists s r node made
  unfolding outcome
  outcome_good mark made e = made_good mark made (turned (storage_role config (member_of config s r)) node x mark made e)

-- how many lists there are stays
pub stores_size : (config : Shape) (lists : Lists) (s r : ℕ) (own after : List (List Entry)) → Stores config lists s r own after → length after ≡ length own
stores_size config lists s r own after (Same e) = ap length e
stores_size config lists s r own after (Puts put h e) = ap length e ∙ length-set own put.segment (list_in own put.segment ++ put.entry ∷ [])

-- a list of which one was replaced
pub list_set : (own : List (List Entry)) (g : ℕ) (list : List Entry) (j : ℕ) → (list_in (slice_set own g list) j ≡ list_in own j) ⊎ (j ≡ g)
list_set [] g list j = inl refl
list_set (x ∷ own) zero list zero = inr refl
list_set (x ∷ own) zero list (suc j) = inl refl
list_set (x ∷ own) (suc g) list zero = inl refl
list_set (x ∷ own) (suc g) list (suc j) = ⊎_elim (λ e. inl e) (λ e. inr (ap suc e)) (list_set own g list j)

pub list_here : (own : List (List Entry)) (g : ℕ) (list : List Entry) → g < length own → list_in (slice_set own g list) g ≡ list
list_here [] g list h = absurd (omega arith)
list_here (x ∷ own) zero list h = refl
list_here (x ∷ own) (suc g) list h = list_here own g list (omega arith)
