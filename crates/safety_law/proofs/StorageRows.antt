-- Each row of a replica: what it puts can be put, and what stands after it and what it sends is good.
use Rattle.std.proofs.Common.{◌≡◌, ◌≢◌, ◌⊎◌, ◌*◌, ◌<◌, ◌≤◌, ℕ, zero, suc, max, ◌==◌, nat_le, List, [], ◌∷◌, length, slice_get, Option, Some, None, refl, sym, ap, subst, inl, inr, ⊎_elim, arith, ◌∙◌}
use Rattle.std.specs.Prelude.{slice_index, slice_set}
use Rattle.std.proofs.lemmas.Bool.{cond_both, eqb-false, eqb-true}
use Rattle.std.proofs.lemmas.Bool.Decides.{nat_tests}
use Rattle.std.proofs.lemmas.Option.{slice_get_within}
use Rattle.history_frame.specs.declared.inputs.Call.{Call}
use Rattle.history_frame.specs.declared.inputs.Call.TheVariants.{Submit, Ask, Read, Request, Settled}
use Rattle.history_frame.specs.declared.inputs.Input.{Input}
use Rattle.history_frame.specs.declared.inputs.Input.TheVariants.{Deliver, Call as ACall, Tick, Lead, Stop, Restart}
use Rattle.log_base.specs.ClusterShape.{InRange, Shape}
use Rattle.log_model.specs.Chain.{Frozen, Live, ShardState, Standing}
use Rattle.log_model.specs.Learning.{known_after, knowing}
use Rattle.log_model.specs.Pairs.{held, last_of}
use Rattle.log_model.specs.Storage.{Knowledge, Member, list_in, list_limit, own_shard, with_entry}
use Rattle.log_model.specs.Submitting.{Full, Stale, Stored, Submission, nothing_put, submit, submit_fresh, submit_held, submit_new, submit_to}
use Rattle.message_frame.specs.declared.messages.Message.{Message}
use Rattle.message_frame.specs.declared.messages.Message.TheVariants.{Copy, CopyAck, Report, Least, Prepare, Promised, Lower, Accept, Accepted, Decide, Want}
use Rattle.peer_copy.specs.Copying.{after_note, taking_of}
use Rattle.peer_copy.specs.declared.taking.Taking.{Taking}
use Rattle.peer_copy.specs.declared.taking.Taking.TheVariants.{Put as IsNext, Have as IsThere, Gap as IsMissing}
use Rattle.record_frame.specs.declared.entries.Entry.{Entry}
use Rattle.record_frame.specs.declared.values.Value.{Value}
use Rattle.record_frame.specs.declared.values.Value.TheVariants.{Noop, Cut, Add, Finalise, Trim}
use Rattle.record_frame.specs.Entries.{IsEntry, entry_of}
use Rattle.node_model.specs.Marks.{stored_with}
use Rattle.node_model.specs.StorageNode.{Put, Replica, StorageChange, member_of}
use Rattle.node_model.specs.StorageRow.{call_row, copied_as, message_row, on_copied, on_copy, on_decide, on_submit, on_ask, on_read, on_tick, put_into, report, row, storage_role, want, windows}
use Rattle.node_model.proofs.Turning.{ForSome}
use Rattle.safety_law.specs.Fit.{CanPut, IsKnowing, IsReplica}
use Rattle.safety_law.specs.Letters.{AreGoodLetters, IsGoodMessage}
use Rattle.safety_law.specs.Lists.{AreCopies, IsHeldValue, Lists}
use Rattle.safety_law.proofs.Covers.{IsBelow, apply_below}
use Rattle.safety_law.specs.Events.{IsGoodInput}
use Rattle.safety_law.proofs.Sending.{both_sent, first_sent, none_sent, one_sent}
use Rattle.safety_law.proofs.StorageSends.{IsAt, ack_good, as_role, copies_good, report_good, want_good, windows_good}

-- what is put after a submission is the entry, where there is room
abbrev PutsInto : ℕ → Entry → Option Entry → Type 0
PutsInto size entry None = Unit {0}
PutsInto size entry (Some put) = (put ≡ entry) × (size ≢ list_limit)

module _ (own : List Entry) (entry : Entry) where
  to_puts : (standing : Standing) → PutsInto (length own) entry (submit_to own entry standing).put
  to_puts Frozen = tt
  to_puts Live =
      cond_both (length own == list_limit) (nothing_put Full) (record { answer = Stored (length own); put = Some entry }) (λ (x : Submission). PutsInto (length own) entry x.put)
      (λ e. tt) (λ e. (refl, eqb-false (length own) list_limit e))

  new_puts : (o : Option ShardState) → PutsInto (length own) entry (submit_new own entry o).put
  new_puts None = tt
  new_puts (Some state) = to_puts state.standing

  fresh_puts : (o : Option ShardState) (last : Option ℕ) → PutsInto (length own) entry (submit_fresh own o entry last).put
  fresh_puts o None = new_puts o
  fresh_puts o (Some last) =
      cond_both (nat_le entry.number.0 last) (nothing_put (Stale last)) (submit_new own entry o) (λ (x : Submission). PutsInto (length own) entry x.put)
      (λ e. tt) (λ e. new_puts o)

  held_puts : (o : Option ShardState) (found : Option ℕ) → PutsInto (length own) entry (submit_held own o entry found).put
  held_puts o (Some offset) = tt
  held_puts o None = fresh_puts o (last_of own entry.client.0)

submit_puts : (member : Member) (own : List Entry) (known : Knowledge) (entry : Entry) → PutsInto (length own) entry (submit member own known entry).put
unfolding submit
submit_puts member own known entry = held_puts own entry (own_shard member known) (held member own known entry.client.0 entry.number.0)

-- a cell of a list of which one cell was set
pub set_at : (xs : List ℕ) (i v p : ℕ) → (slice_index (slice_set xs i v) p ≡ slice_index xs p) ⊎ ((p ≡ i) × (slice_index (slice_set xs i v) p ≡ v))
set_at [] i v p = inl refl
set_at (x ∷ xs) zero v zero = inr (refl, refl)
set_at (x ∷ xs) zero v (suc p) = inl refl
set_at (x ∷ xs) (suc i) v zero = inl refl
set_at (x ∷ xs) (suc i) v (suc p) = ⊎_elim (λ e. inl e) (λ e. inr (ap suc e.0, e.1)) (set_at xs i v p)

-- what a value that is held leaves below the held lengths
pub below_held : (config : Shape) (lists : Lists) (s r j : ℕ) (v : Value) → s < config.shards → r < config.replicas → j < config.replicas
    → IsHeldValue config lists v → IsBelow (s * config.replicas) j (length (lists s r j)) v
below_held config lists s r j Noop a b c h = tt
below_held config lists s r j (Cut lengths) a b c h = h s r j (record { shard_below = a; replica_below = b; segment_below = c })
below_held config lists s r j (Add shard) a b c h = tt
below_held config lists s r j (Finalise shard) a b c h = tt
below_held config lists s r j (Trim position) a b c h = tt

pub record RowFits (config : Shape) (lists : Lists) (s r : ℕ) (own : List (List Entry)) (change : StorageChange) : Type 0 where
  pub put : CanPut config lists s r change.put
  pub after : IsReplica config lists s r change.after
  pub letters : (now : Lists) → AreCopies config now → IsAt config now s r (stored_with (storage_role config (member_of config s r)) own change.put)
      → AreGoodLetters config now change.outputs

module _ (config : Shape) (range : InRange config) (lists : Lists) (copied : AreCopies config lists) (s r : ℕ) (own : List (List Entry)) (at : IsAt config lists s r own)
    (memory : Replica) (good : IsReplica config lists s r memory) where
  -- a row that only answers
  answers_fit : (c : StorageChange) → c.put ≡ None → c.after ≡ memory → c.outputs ≡ [] → RowFits config lists s r own c
  answers_fit c p m o = record {
    put = subst (CanPut config lists s r) (sym p) tt;
    after = subst (IsReplica config lists s r) (sym m) good;
    letters = λ now k i. subst (AreGoodLetters config now) (sym o) (none_sent config now);
  }

  submit_can : (entry : Entry) → IsEntry entry → (o : Option Entry) → PutsInto (length (list_in own r)) entry o → CanPut config lists s r (put_into r o)
  submit_can entry is None h = tt
  submit_can entry is (Some put) h = record {
    segment = at.replica;
    entry = subst IsEntry (sym h.0) is;
    room = (let few = (copied s r r (record { shard_below = at.shard; replica_below = at.replica; segment_below = at.replica })).few in
        let e = ap length (at.here r) in let full : length (list_in own r) ≢ list_limit = h.1 in omega arith);
    copied = λ other. absurd (other refl);
  }

  submit_fits : (entry : Entry) → IsEntry entry → RowFits config lists s r own (on_submit (member_of config s r) own memory entry)
  unfolding on_submit
  submit_fits entry is = record {
    put = submit_can entry is (submit (member_of config s r) (list_in own r) memory.known entry).put (submit_puts (member_of config s r) (list_in own r) memory.known entry);
    after = good;
    letters = λ now k i. none_sent config now;
  }

  ask_fits : (client number : ℕ) → RowFits config lists s r own (on_ask (member_of config s r) own memory client number)
  unfolding on_ask
  ask_fits client number = record { put = tt; after = good; letters = λ now k i. none_sent config now }

  read_fits : (position : ℕ) → RowFits config lists s r own (on_read (member_of config s r) own memory position)
  unfolding on_read
  read_fits position = record { put = tt; after = good; letters = λ now k i. none_sent config now }

  -- a copy
  copied_fits : (put : Put) (offset : ℕ) → put.segment < config.replicas → IsEntry put.entry → put.segment ≢ r
      → slice_get (lists s put.segment put.segment) offset ≡ Some put.entry
      → (taking : Taking) → (taking ≡ IsNext → offset ≡ length (list_in own put.segment)) → RowFits config lists s r own (copied_as config (member_of config s r) own memory put taking)
  copied_fits put offset below entry other stands IsNext next = record {
    put = record {
      segment = below;
      entry = entry;
      room = (let within = slice_get_within (lists s put.segment put.segment) offset put.entry stands in
          let few = (copied s put.segment put.segment (record { shard_below = at.shard; replica_below = below; segment_below = below })).few in
          let size = ap length (at.here put.segment) in let e = next refl in omega arith);
      copied = λ _. subst (λ (k : ℕ). slice_get (lists s put.segment put.segment) k ≡ Some put.entry) (next refl ∙ sym (ap length (at.here put.segment))) stands;
    };
    after = good;
    letters = λ now k i. first_sent config now _ (report config (member_of config s r) (with_entry own put.segment put.entry) ∷ [])
        (ack_good config range now k s r (with_entry own put.segment put.entry) i put.segment below other)
        (one_sent config now _ (report_good config range now k s r (with_entry own put.segment put.entry) i));
  }
  copied_fits put offset below entry other stands IsThere next = record {
    put = tt;
    after = good;
    letters = λ now k i. one_sent config now _ (ack_good config range now k s r own i put.segment below other);
  }
  copied_fits put offset below entry other stands (IsMissing) next = record {
    put = tt;
    after = good;
    letters = λ now k i. one_sent config now _ (ack_good config range now k s r own i put.segment below other);
  }

  is_next : (offset len : ℕ) → taking_of offset len ≡ IsNext → offset ≡ len
  is_next offset len e = grind (arith, nat_tests)

  copy_fits : (put : Put) (offset : ℕ) → put.segment < config.replicas → IsEntry put.entry → put.segment ≢ r
      → slice_get (lists s put.segment put.segment) offset ≡ Some put.entry → RowFits config lists s r own (on_copy config (member_of config s r) own memory put offset)
  unfolding on_copy
  copy_fits put offset below entry other stands =
      copied_fits put offset below entry other stands (taking_of offset (length (list_in own put.segment))) (is_next offset (length (list_in own put.segment)))

  -- an acknowledgement
  noted : (peer held p : ℕ) → peer < config.replicas → held ≤ length (lists s peer r) → p < config.replicas → p ≢ r
      → slice_index (after_note memory.copying peer held).acked p ≤ length (lists s p r)
  noted peer held p below h inside other =
      ⊎_elim
      (λ e. subst (λ (n : ℕ). n ≤ length (lists s p r)) (sym e) (good.acked p inside other))
      (λ e. let old = good.acked p inside other in
      subst (λ (n : ℕ). n ≤ length (lists s p r)) (sym e.1)
      (subst (λ (q : ℕ). max (slice_index memory.copying.acked q) held ≤ length (lists s p r)) e.0
      (let new : held ≤ length (lists s p r) = subst (λ (q : ℕ). held ≤ length (lists s q r)) (sym e.0) h in omega arith)))
      (set_at memory.copying.acked peer (max (slice_index memory.copying.acked peer) held) p)

  note_fits : (peer held : ℕ) → peer < config.replicas → peer ≢ r → held ≤ length (lists s peer r) → RowFits config lists s r own (on_copied config (member_of config s r) (list_in own r) memory peer held)
  unfolding on_copied
  note_fits peer held below other h = record {
    put = tt;
    after = record { knows = good.knows; acked = λ p inside apart. noted peer held p below h inside apart };
    letters = λ now k i. copies_good config range now k s r own i peer _ below other;
  }

  -- a decided value
  known_fits : (slot : ℕ) (v : Value) → slot ≤ 16383 → IsHeldValue config lists v → IsKnowing config lists s r (known_after (member_of config s r) memory.known slot v)
  unfolding known_after
  known_fits slot v few h =
      cond_both (slot == memory.known.count) (knowing (member_of config s r) memory.known v) memory.known (IsKnowing config lists s r)
      (λ e. record {
        covered = λ j c. apply_below config.replicas memory.known.chain v s j (length (lists s r j)) (good.knows.covered j c)
            (below_held config lists s r j v at.shard at.replica c h);
        few = (let same = eqb-true slot memory.known.count e in omega arith);
      })
      (λ e. good.knows)

  decide_fits : (slot : ℕ) (v : Value) → slot ≤ 16383 → IsHeldValue config lists v → RowFits config lists s r own (on_decide (member_of config s r) memory slot v)
  unfolding on_decide
  decide_fits slot v few h = record {
    put = tt;
    after = record { knows = known_fits slot v few h; acked = good.acked };
    letters = λ now k i. none_sent config now;
  }

  tick_fits : RowFits config lists s r own (on_tick config (member_of config s r) own memory)
  unfolding on_tick
  tick_fits = record {
    put = tt;
    after = record { knows = good.knows; acked = good.acked };
    letters = λ now k i. both_sent config now (windows config (member_of config s r) (list_in own r) memory.copying 0 config.replicas)
        (report config (member_of config s r) own ∷ want config (member_of config s r) memory ∷ [])
        (windows_good config range now k s r own i memory.copying 0 config.replicas (omega arith))
        (first_sent config now _ (want config (member_of config s r) memory ∷ []) (report_good config range now k s r own i) (one_sent config now _ (want_good config range now k s r own i memory good.knows.few)));
  }

  message_fits : (m : Message) → IsGoodMessage config lists (as_role s r) m → ForSome (RowFits config lists s r own) (message_row config (member_of config s r) own memory m)
  message_fits (Copy segment offset entry) h = copy_fits (record { segment = segment.0; entry = entry }) offset h.of_config h.range.2 h.truth.0 h.truth.1
  message_fits (CopyAck peer held) h = note_fits peer.0 held h.of_config h.truth.0 h.truth.1
  message_fits (Report shard replica lengths) h = tt
  message_fits (Least shard lengths) h = tt
  message_fits (Prepare ballot slot) h = tt
  message_fits (Promised ballot slot who votes) h = tt
  message_fits (Lower ballot promise) h = tt
  message_fits (Accept ballot slot value) h = tt
  message_fits (Accepted ballot slot who) h = tt
  message_fits (Decide slot value) h = decide_fits slot.0 value h.range.0 h.truth
  message_fits (Want slot node) h = tt

  call_fits : (c : Call) → IsGoodInput config lists (as_role s r) (ACall c) → ForSome (RowFits config lists s r own) (call_row (member_of config s r) own memory c)
  call_fits (Submit client number bytes) h = submit_fits (entry_of client number bytes) h
  call_fits (Ask client number) h = ask_fits client.0 number.0
  call_fits (Read client position) h = read_fits position.0
  call_fits (Request client value) h = tt
  call_fits (Settled client value from) h = tt

  pub row_fits : (input : Input) → IsGoodInput config lists (as_role s r) input → ForSome (RowFits config lists s r own) (row config (member_of config s r) own memory input)
  row_fits (Deliver place index (Some m)) h = message_fits m h
  row_fits (Deliver place index None) h = tt
  row_fits (ACall call) h = call_fits call h
  row_fits Tick h = tick_fits
  row_fits Lead h = tt
  row_fits Stop h = tt
  row_fits Restart h = tt
