-- Copies and acknowledgements that are delivered to a replica in a round.
use Rattle.std.proofs.Common.{◌≡◌, ◌≢◌, ◌⊎◌, ◌+◌, ◌<◌, ◌≤◌, ℕ, max, List, [], ◌∷◌, ◌++◌, length, Some, refl, sym, ap, subst, inl, inr, ⊎_elim, arith, length-append, ◌∙◌}
use Rattle.std.specs.Prelude.{slice_index}
use Rattle.std.proofs.lemmas.Bool.{cases_eq, cases_lt}
use Rattle.std.proofs.lemmas.List.{get_or-set_other, get_or-set_same, length-set}
use Rattle.reply_frame.specs.declared.replies.Reply.{Nothing}
use Rattle.history_frame.specs.declared.inputs.Input.TheVariants.{Deliver}
use Rattle.log_base.specs.ClusterShape.{InRange}
use Rattle.log_base.specs.declared.numbers.Replica.{Replica as ReplicaNumber}
use Rattle.log_model.specs.Storage.{list_in, report_of, with_entry}
use Rattle.message_frame.specs.declared.messages.Message.TheVariants.{Copy, CopyAck}
use Rattle.node_table.specs.Numbering.{gatherer_of}
use Rattle.peer_copy.specs.Copying.{after_note, offsets_of, span_of_note}
use Rattle.record_frame.specs.declared.entries.Entry.{Entry}
use Rattle.node_model.specs.Marks.{Running}
use Rattle.node_model.specs.NodeState.{Storing}
use Rattle.node_model.specs.StorageNode.{Replica, StorageChange, StorageMode, StorageNode, member_of}
use Rattle.node_model.specs.StorageRow.{ack, copies, on_copied, report, told}
use Rattle.node_model.proofs.Lists.{length-with_entry, list_in-other, list_in-past, list_in-same}
use Rattle.quiet_model.specs.Ahead.{IsAsOrMore, Same, More}
use Rattle.quiet_model.specs.Settled.{IsHeard, list_at}
use Rattle.quiet_model.proofs.Follows.{CopyDone, IsTaken, ReplicaFollows, as_role}
use Rattle.quiet_model.proofs.Lists.{report_at, report_cells, report_count}
use Rattle.quiet_model.proofs.Outcomes.{replica_takes}
use Rattle.quiet_model.proofs.Round.{Round, AreGoodLetters, IsCatchingUp, IsGoodReport, IsReportTo, IsRoundOf, acked_by, goal_of}
use Rattle.quiet_model.proofs.Rows.{known_copy, next_copy, nothing_opens}
use Rattle.quiet_model.proofs.Waiting.{Waits}

-- a list that has as much or one more is not shorter, and at most one longer
pub not_shorter : (old new : List Entry) → IsAsOrMore old new → (length old ≤ length new) × (length new ≤ length old + 1)
not_shorter old new (Same e) = let n = ap length e in (omega arith, omega arith)
not_shorter old new (More entry e) = let n = ap length e in (omega (arith, length-append old (entry ∷ [])), omega (arith, length-append old (entry ∷ [])))

module _ (round : Round) (range : InRange round.config) (lists : IsRoundOf round) (s r : ℕ) (a : s < round.config.shards) (b : r < round.config.replicas) where
  -- no list is longer than it comes to
  list_fits : (p : ℕ) → p < round.config.replicas → (list : List Entry) → (list ≡ list_at round.from s p) ⊎ (list ≡ list_at round.to s p) → length list ≤ goal_of round s p
  list_fits p c list h =
      ⊎_elim
      (λ e. let more = not_shorter (list_at round.from s p) (list_at round.to s p) (lists.more s p a c) in let n = ap length e in omega (arith, more.0))
      (λ e. let n = ap length e in omega arith)
      h

  -- what a replica reports is in the lists
  pub report_heard : (durable : List (List Entry)) → length durable ≡ round.config.replicas
      → ((p : ℕ) → p < round.config.replicas → length (list_in durable p) ≤ goal_of round s p)
      → IsHeard round.config.replicas (round.to s) (report_of durable)
  report_heard durable size fits = record {
    count = report_count durable ∙ size;
    cells = report_cells durable (omega (arith, size, range.replicas));
    held = λ p.
        ⊎_elim
        (λ below. omega (arith, report_at durable p, fits p below))
        (λ past. let none = ap length (list_in-past durable p (omega (arith, size, past))) in omega (arith, report_at durable p))
        (cases_lt p round.config.replicas);
  }

  module _ (node : StorageNode) (h : IsCatchingUp round s r node) where
    pub caught_report : IsGoodReport round (gatherer_of round.config s) s r (report_of node.durable)
    caught_report = record {
      shard_below = a;
      replica_below = b;
      at = refl;
      heard = report_heard node.durable h.size (λ p c. list_fits p c (list_in node.durable p) (h.copies p c));
    }

    -- ---- a copy
    module _ (segment : ReplicaNumber) (offset : ℕ) (entry : Entry) (c : segment.0 < round.config.replicas) (apart : segment.0 ≢ r)
        (at : offset ≡ length (list_at round.from s segment.0)) (more : list_at round.to s segment.0 ≡ list_at round.from s segment.0 ++ entry ∷ []) (place index : ℕ) where
      abbrev now : List (List Entry)
      now = with_entry node.durable segment.0 entry

      abbrev stored_node : StorageNode
      stored_node = record { durable = with_entry node.durable segment.0 entry; mode = Running h.memory }

      longer : goal_of round s segment.0 ≡ offset + 1
      longer = omega (arith, ap length more, length-append (list_at round.from s segment.0) (entry ∷ []), at)

      -- the list as it was: the entry is stored
      module _ (old : list_in node.durable segment.0 ≡ list_at round.from s segment.0) where
        stored_list : list_in (with_entry node.durable segment.0 entry) segment.0 ≡ list_at round.to s segment.0
        stored_list =
            list_in-same node.durable segment.0 entry (omega (arith, h.size, c))
            ∙ ap (λ (list : List Entry). list ++ entry ∷ []) old
            ∙ sym more

        stored_copies : (p : ℕ) → p < round.config.replicas
            → (list_in (with_entry node.durable segment.0 entry) p ≡ list_at round.from s p) ⊎ (list_in (with_entry node.durable segment.0 entry) p ≡ list_at round.to s p)
        stored_copies p below =
            ⊎_elim
            (λ e. inr (subst (λ (q : ℕ). list_in (with_entry node.durable segment.0 entry) q ≡ list_at round.to s q) (sym e) stored_list))
            (λ differ. let stays = list_in-other node.durable segment.0 p entry differ in ⊎_elim (λ e. inl (stays ∙ e)) (λ e. inr (stays ∙ e)) (h.copies p below))
            (cases_eq p segment.0)

        stored_fine : IsCatchingUp round s r stored_node
        stored_fine = record {
          memory = h.memory;
          runs = refl;
          size = length-with_entry node.durable segment.0 entry ∙ h.size;
          own = list_in-other node.durable segment.0 r entry (λ e. apart (sym e)) ∙ h.own;
          copies = stored_copies;
          knows = h.knows;
          peers = h.peers;
          low = h.low;
          high = h.high;
        }

        abbrev stored_change : StorageChange
        stored_change = record {
          put = Some (record { segment = segment.0; entry = entry });
          after = h.memory;
          outputs = ack round.config (member_of round.config s r) segment.0 now ∷ report round.config (member_of round.config s r) now ∷ [];
          reply = Nothing;
        }

        stored_length : length (list_in (with_entry node.durable segment.0 entry) segment.0) ≡ goal_of round s segment.0
        stored_length = ap length stored_list

        reports : Waits (IsReportTo round s r segment.0) stored_change.outputs
        reports = inr (inl (refl, (refl, refl, report_at (with_entry node.durable segment.0 entry) segment.0 ∙ stored_length)))

        stored_letters : IsGoodReport round (gatherer_of round.config s) s r (report_of (with_entry node.durable segment.0 entry)) → AreGoodLetters round stored_change.outputs
        stored_letters good = (
          record {
            shard = s;
            primary = segment.0;
            shard_below = a;
            primary_below = c;
            peer_below = b;
            other = λ e. apart (sym e);
            at = refl;
            most = omega (arith, stored_length);
          },
          (good, tt),
        )

        stored_follows : ReplicaFollows round stored_change.outputs s r (Storing node) (Storing stored_node)
        stored_follows = record {
          lists = λ p below.
              ⊎_elim
              (λ e. inr (subst (λ (q : ℕ). (list_in (with_entry node.durable segment.0 entry) q ≡ list_at round.to s q) × Waits (IsReportTo round s r q) stored_change.outputs) (sym e) (stored_list, reports)))
              (λ differ. inl (list_in-other node.durable segment.0 p entry differ))
              (cases_eq p segment.0);
          acks = λ peer below other e. sym (ap (λ (mode : StorageMode). acked_by mode peer) h.runs) ∙ e;
        }

        pub stored : IsTaken round (Copy segment offset entry) (as_role s r) (Storing node) place index
        stored = record {
          made = record { state = Storing stored_node; outputs = stored_change.outputs; reply = Nothing };
          rule = replica_takes round.config s r a b node h.memory stored_change h.runs (Deliver place index (Some (Copy segment offset entry))) refl
              (ap Some (next_copy round.config (member_of round.config s r) node.durable h.memory (record { segment = segment.0; entry = entry }) offset (at ∙ ap length (sym old))));
          handled = record {
            fine = stored_fine;
            follows = stored_follows;
            does = record {
              copy = λ p e. subst (CopyDone round stored_change.outputs s r (Storing node) (Storing stored_node)) e (stored_list, inl (refl, (refl, stored_length)), inr reports);
              ack = λ peer e. absurd e;
            };
            letters = stored_letters stored_report;
          };
        }
          where
            stored_report : IsGoodReport round (gatherer_of round.config s) s r (report_of (with_entry node.durable segment.0 entry))
            stored_report = record {
              shard_below = a;
              replica_below = b;
              at = refl;
              heard = report_heard (with_entry node.durable segment.0 entry) (length-with_entry node.durable segment.0 entry ∙ h.size)
                  (λ p below. list_fits p below (list_in (with_entry node.durable segment.0 entry) p) (stored_copies p below));
            }

      -- the list as it comes to: the copy is acknowledged
      module _ (new : list_in node.durable segment.0 ≡ list_at round.to s segment.0) where
        abbrev same_node : StorageNode
        same_node = record { durable = node.durable; mode = Running h.memory }

        abbrev known_change : StorageChange
        known_change = told h.memory (ack round.config (member_of round.config s r) segment.0 node.durable ∷ [])

        known_length : length (list_in node.durable segment.0) ≡ goal_of round s segment.0
        known_length = ap length new

        pub known : IsTaken round (Copy segment offset entry) (as_role s r) (Storing node) place index
        known = record {
          made = record { state = Storing same_node; outputs = known_change.outputs; reply = Nothing };
          rule = replica_takes round.config s r a b node h.memory known_change h.runs (Deliver place index (Some (Copy segment offset entry))) refl
              (ap Some (known_copy round.config (member_of round.config s r) node.durable h.memory (record { segment = segment.0; entry = entry }) offset (omega (arith, known_length, longer))));
          handled = record {
            fine = record {
              memory = h.memory;
              runs = refl;
              size = h.size;
              own = h.own;
              copies = h.copies;
              knows = h.knows;
              peers = h.peers;
              low = h.low;
              high = h.high;
            };
            follows = record {
              lists = λ p below. inl refl;
              acks = λ peer below other e. sym (ap (λ (mode : StorageMode). acked_by mode peer) h.runs) ∙ e;
            };
            does = record {
              copy = λ p e. subst (CopyDone round known_change.outputs s r (Storing node) (Storing same_node)) e (new, inl (refl, (refl, known_length)), inl new);
              ack = λ peer e. absurd e;
            };
            letters = (
              record {
                shard = s;
                primary = segment.0;
                shard_below = a;
                primary_below = c;
                peer_below = b;
                other = λ e. apart (sym e);
                at = refl;
                most = omega (arith, known_length);
              },
              tt,
            );
          };
        }

      pub copy_taken : IsTaken round (Copy segment offset entry) (as_role s r) (Storing node) place index
      copy_taken = ⊎_elim (λ old. stored old) (λ new. known new) (h.copies segment.0 c)

    -- ---- an acknowledgement
    module _ (peer : ReplicaNumber) (held : ℕ) (c : peer.0 < round.config.replicas) (apart : peer.0 ≢ r) (most : held ≤ goal_of round s r) (place index : ℕ) where
      abbrev noted : Replica
      noted = record h.memory { copying = after_note h.memory.copying peer.0 held }

      abbrev noted_node : StorageNode
      noted_node = record { durable = node.durable; mode = Running (record h.memory { copying = after_note h.memory.copying peer.0 held }) }

      noted_here : slice_index (after_note h.memory.copying peer.0 held).acked peer.0 ≡ max (slice_index h.memory.copying.acked peer.0) held
      noted_here = get_or-set_same h.memory.copying.acked peer.0 (max (slice_index h.memory.copying.acked peer.0) held) 0 (omega (arith, h.peers, c))

      noted_other : (p : ℕ) → p ≢ peer.0 → slice_index (after_note h.memory.copying peer.0 held).acked p ≡ slice_index h.memory.copying.acked p
      noted_other p differ = get_or-set_other h.memory.copying.acked peer.0 p (max (slice_index h.memory.copying.acked peer.0) held) 0 differ

      -- what holds of each length that is acknowledged holds after the note
      noted_each : (P : ℕ → Type 0) → (P (slice_index h.memory.copying.acked peer.0) → P (max (slice_index h.memory.copying.acked peer.0) held))
          → (p : ℕ) → P (slice_index h.memory.copying.acked p) → P (slice_index (after_note h.memory.copying peer.0 held).acked p)
      noted_each P here p old =
          ⊎_elim
          (λ e. subst (λ (q : ℕ). P (slice_index (after_note h.memory.copying peer.0 held).acked q)) (sym e)
          (subst P (sym noted_here) (here (subst (λ (q : ℕ). P (slice_index h.memory.copying.acked q)) e old))))
          (λ differ. subst P (sym (noted_other p differ)) old)
          (cases_eq p peer.0)

      low_here : length (list_at round.from s r) ≤ slice_index h.memory.copying.acked peer.0
      low_here = h.low peer.0 c apart

      high_here : slice_index h.memory.copying.acked peer.0 ≤ goal_of round s r
      high_here = h.high peer.0 c apart

      silent : offsets_of (span_of_note (slice_index h.memory.copying.acked peer.0) held (length (list_in node.durable r))) ≡ []
      silent =
          let more = not_shorter (list_at round.from s r) (list_at round.to s r) (lists.more s r a b) in
          nothing_opens (slice_index h.memory.copying.acked peer.0) held (length (list_in node.durable r)) (omega (arith, more.1, low_here, ap length h.own))

      abbrev noted_change : StorageChange
      noted_change = told noted
          (copies round.config (member_of round.config s r) (list_in node.durable r) peer.0
          (offsets_of (span_of_note (slice_index h.memory.copying.acked peer.0) held (length (list_in node.durable r)))))

      note_row : on_copied round.config (member_of round.config s r) (list_in node.durable r) h.memory peer.0 held ≡ noted_change
      unfolding on_copied
      note_row = refl

      pub ack_taken : IsTaken round (CopyAck peer held) (as_role s r) (Storing node) place index
      ack_taken = record {
        made = record { state = Storing noted_node; outputs = noted_change.outputs; reply = Nothing };
        rule = replica_takes round.config s r a b node h.memory noted_change h.runs (Deliver place index (Some (CopyAck peer held))) refl (ap Some note_row);
        handled = record {
          fine = record {
            memory = noted;
            runs = refl;
            size = h.size;
            own = h.own;
            copies = h.copies;
            knows = h.knows;
            peers = length-set h.memory.copying.acked peer.0 (max (slice_index h.memory.copying.acked peer.0) held) ∙ h.peers;
            low = λ p below other. noted_each (λ n. length (list_at round.from s r) ≤ n) (λ old. omega arith) p (h.low p below other);
            high = λ p below other. noted_each (λ n. n ≤ goal_of round s r) (λ old. omega arith) p (h.high p below other);
          };
          follows = record {
            lists = λ p below. inl refl;
            acks = λ p below other e. noted_each (λ n. n ≡ goal_of round s r) (λ old. omega arith) p (sym (ap (λ (mode : StorageMode). acked_by mode p) h.runs) ∙ e);
          };
          does = record {
            copy = λ p e. absurd e;
            ack = λ p e.
                subst (λ (q : ℕ). slice_index (after_note h.memory.copying peer.0 held).acked q ≡ goal_of round s r) e.0
                (let all = e.1 in omega (arith, noted_here, high_here));
          };
          letters = subst (λ (offsets : List ℕ). AreGoodLetters round (copies round.config (member_of round.config s r) (list_in node.durable r) peer.0 offsets)) (sym silent) tt;
        };
      }
