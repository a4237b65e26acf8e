-- The replicas tick in turn: which letters wait once some of them did.
use Rattle.std.proofs.Common.{◌≡◌, ◌≢◌, ◌+◌, ◌*◌, ◌/◌, ◌%◌, ◌<◌, ℕ, zero, suc, [], ◌∷◌, ◌++◌, length, Some, sym, subst, ⊎_elim, arith, ◌∙◌}
use Rattle.std.proofs.lemmas.Bool.{cases_eq}
use Rattle.reply_frame.specs.declared.replies.Reply.{Reply}
use Rattle.history_frame.specs.declared.events.Sent.{Sent}
use Rattle.history_frame.specs.declared.inputs.Input.TheVariants.{Tick}
use Rattle.history_frame.specs.declared.inputs.Mark.TheVariants.{Done}
use Rattle.log_base.specs.ClusterShape.{InRange}
use Rattle.log_model.specs.Storage.{list_in}
use Rattle.node_table.specs.declared.role.Role.{Role}
use Rattle.node_table.specs.Numbering.{IsRole, node_of, storage_node}
use Rattle.record_frame.specs.declared.entries.Entry.{Entry}
use Rattle.node_model.specs.NodeState.{NodeOutcome, NodeState, Storing, Gathering, Ordering, node_outcome}
use Rattle.node_model.proofs.Letters.{all_append}
use Rattle.quiet_model.specs.Ahead.{own_ahead}
use Rattle.quiet_model.specs.Moments.{Moment, TakeInTurn, Takes}
use Rattle.quiet_model.specs.Settled.{Stands, all_acked, list_at}
use Rattle.quiet_model.proofs.Follows.{as_role}
use Rattle.quiet_model.proofs.Moving.{Moves, moved, replica_of, same_cell}
use Rattle.quiet_model.proofs.Round.{Round, AreGoodLetters, IsCopyTo, IsGoodLetter, IsPlace, IsReportTo, IsRoundOf, goal_of}
use Rattle.quiet_model.proofs.Ticking.{Ticks, ticks}
use Rattle.quiet_model.proofs.Waiting.{Waits, waits_left, waits_right}

-- a node is as it was when the round began
abbrev pub IsBegun : Round → Role → NodeState → Type 0
IsBegun round role state = Stands round.config round.agreed (own_ahead round.from round.to) (all_acked round.from) round.from role state

-- All nodes are as they were, and those below a number put out what they have more, and their reports.
pub record IsTicking (round : Round) (next : ℕ) (moment : Moment) : Type 0 where
  pub nodes : (role : Role) → IsRole round.config role → IsBegun round role (moment.nodes (node_of round.config role))
  pub letters : AreGoodLetters round moment.queue
  pub copies : (s p r : ℕ) → IsPlace round.config s p r → p ≢ r → storage_node round.config s p < next
      → (entry : Entry) → list_at round.to s p ≡ list_at round.from s p ++ entry ∷ [] → Waits (IsCopyTo round s p r) moment.queue
  pub reports : (s p r : ℕ) → IsPlace round.config s p r → storage_node round.config s r < next
      → length (list_in (own_ahead round.from round.to s r) p) ≡ goal_of round s p → Waits (IsReportTo round s r p) moment.queue

module _ (round : Round) (range : InRange round.config) (lists : IsRoundOf round) where
  tick_at : (s r : ℕ) → s < round.config.shards → r < round.config.replicas → (state : NodeState) → IsBegun round (as_role s r) state
      → (made : NodeOutcome) × (node_outcome round.config (storage_node round.config s r) state Tick Done ≡ Some made) × IsBegun round (as_role s r) made.state
      × AreGoodLetters round made.outputs
      × ((p : ℕ) → p < round.config.replicas → p ≢ r → (entry : Entry) → list_at round.to s r ≡ list_at round.from s r ++ entry ∷ [] → Waits (IsCopyTo round s r p) made.outputs)
      × ((p : ℕ) → length (list_in (own_ahead round.from round.to s r) p) ≡ goal_of round s p → Waits (IsReportTo round s r p) made.outputs)
  tick_at s r a b (Storing node) h =
      let t : Ticks round s r node = ticks round range lists s r a b node h in
      (t.made, t.rule, subst (IsBegun round (as_role s r)) (sym t.state) t.stands, t.letters, t.copies, t.reports)
  tick_at s r a b (Gathering node) h = absurd h
  tick_at s r a b (Ordering node) h = absurd h

  module _ (before after : Moment) (s r : ℕ) (a : s < round.config.shards) (b : r < round.config.replicas) (old : IsTicking round (storage_node round.config s r) before) where
    -- a replica ticks
    ticked : (reply : Reply) → Takes round.config before (storage_node round.config s r) Tick Done reply after → IsTicking round (suc (storage_node round.config s r)) after
    ticked reply takes =
        record {
          nodes = λ other is.
              ⊎_elim
              (λ e. subst (λ (y : Role). IsBegun round y (after.nodes (node_of round.config y))) (sym e) (subst (IsBegun round (as_role s r)) (sym moves.here) t.2))
              (λ same. subst (IsBegun round other) (sym same) (old.nodes other is))
              (moves.others other is);
          letters = subst (AreGoodLetters round) (sym moves.posted) (all_append (IsGoodLetter round) before.queue t.0.outputs old.letters t.3);
          copies = λ u p q place apart below entry more.
              ⊎_elim
              (λ e.
              let cell = same_cell round.config.replicas u p s r place.segment b e in
              newly (IsCopyTo round u p q)
              (subst (λ (v : ℕ). Waits (IsCopyTo round v p q) t.0.outputs) (sym cell.0)
              (subst (λ (v : ℕ). Waits (IsCopyTo round s v q) t.0.outputs) (sym cell.1)
              (t.4 q place.replica (λ same. apart (sym (same ∙ sym cell.1))) entry
              (subst (λ (v : ℕ). list_at round.to s v ≡ list_at round.from s v ++ entry ∷ []) cell.1
              (subst (λ (v : ℕ). list_at round.to v p ≡ list_at round.from v p ++ entry ∷ []) cell.0 more))))))
              (λ differ. still (IsCopyTo round u p q) (old.copies u p q place apart (omega arith) entry more))
              (cases_eq (storage_node round.config u p) (storage_node round.config s r));
          reports = λ u p q place below full.
              ⊎_elim
              (λ e.
              let cell = same_cell round.config.replicas u q s r place.replica b e in
              newly (IsReportTo round u q p)
              (subst (λ (v : ℕ). Waits (IsReportTo round v q p) t.0.outputs) (sym cell.0)
              (subst (λ (v : ℕ). Waits (IsReportTo round s v p) t.0.outputs) (sym cell.1)
              (t.5 p
              (subst (λ (v : ℕ). length (list_in (own_ahead round.from round.to s v) p) ≡ goal_of round s p) cell.1
              (subst (λ (v : ℕ). length (list_in (own_ahead round.from round.to v q) p) ≡ goal_of round v p) cell.0 full))))))
              (λ differ. still (IsReportTo round u q p) (old.reports u p q place (omega arith) full))
              (cases_eq (storage_node round.config u q) (storage_node round.config s r));
        }
      where
        t : (made : NodeOutcome) × (node_outcome round.config (storage_node round.config s r) (before.nodes (storage_node round.config s r)) Tick Done ≡ Some made)
            × IsBegun round (as_role s r) made.state × AreGoodLetters round made.outputs
            × ((p : ℕ) → p < round.config.replicas → p ≢ r → (entry : Entry) → list_at round.to s r ≡ list_at round.from s r ++ entry ∷ [] → Waits (IsCopyTo round s r p) made.outputs)
            × ((p : ℕ) → length (list_in (own_ahead round.from round.to s r) p) ≡ goal_of round s p → Waits (IsReportTo round s r p) made.outputs)
        t = tick_at s r a b (before.nodes (storage_node round.config s r)) (old.nodes (as_role s r) (a, b))

        moves : Moves round.config before after (as_role s r) t.0
        moves = moved round.config before after (as_role s r) Tick Done reply (a, b) takes t.0 t.1

        still : (P : Sent → Type 0) → Waits P before.queue → Waits P after.queue
        still P w = subst (Waits P) (sym moves.posted) (waits_left P before.queue t.0.outputs w)

        newly : (P : Sent → Type 0) → Waits P t.0.outputs → Waits P after.queue
        newly P w = subst (Waits P) (sym moves.posted) (waits_right P before.queue t.0.outputs w)

  ticked_by : (before after : Moment) (n : ℕ) → n < round.config.replicas * round.config.shards → IsTicking round n before
      → (reply : Reply) → Takes round.config before n Tick Done reply after → IsTicking round (suc n) after
  ticked_by before after n h old reply takes =
      let is = replica_of round.config range n h in
      subst (λ (m : ℕ). IsTicking round (suc m) after) is.2
      (ticked before after (n / round.config.replicas) (n % round.config.replicas) is.0 is.1
      (subst (λ (m : ℕ). IsTicking round m before) (sym is.2) old)
      reply
      (subst (λ (m : ℕ). Takes round.config before m Tick Done reply after) (sym is.2) takes))

  pub all_ticked : (count first : ℕ) (before after : Moment) → first + count ≡ round.config.replicas * round.config.shards → IsTicking round first before
      → TakeInTurn round.config Tick Done first count before after → IsTicking round (round.config.replicas * round.config.shards) after
  all_ticked zero first before after e old same =
      let last : first ≡ round.config.replicas * round.config.shards = omega arith in
      subst (λ (n : ℕ). IsTicking round n after) last (subst (IsTicking round first) same old)
  all_ticked (suc count) first before after e old more =
      all_ticked count (suc first) more.1 after (omega arith) (ticked_by before more.1 first (omega arith) old more.0 more.2) more.3
