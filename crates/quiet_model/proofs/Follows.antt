-- What the delivery of a letter brings on at its addressee, and that the round is under way after it.
use Rattle.std.proofs.Common.{◌≡◌, ◌≢◌, ◌⊎◌, ◌+◌, ◌*◌, ◌%◌, ◌<◌, ℕ, List, ◌∷◌, Some, refl, sym, subst, inl, inr, ⊎_elim, arith, ◌∙◌}
use Rattle.history_frame.specs.declared.events.Sent.{Sent}
use Rattle.history_frame.specs.declared.inputs.Input.TheVariants.{Deliver}
use Rattle.history_frame.specs.declared.inputs.Mark.TheVariants.{Done}
use Rattle.log_base.specs.ClusterShape.{InRange, Shape}
use Rattle.message_frame.specs.declared.messages.Message.{Message}
use Rattle.node_table.specs.declared.role.Role.{Role}
use Rattle.node_table.specs.declared.role.Role.TheVariants.{Storage, Gatherer, Orderer}
use Rattle.node_table.specs.Numbering.{IsRole, node_of}
use Rattle.node_model.specs.NodeState.{NodeOutcome, NodeState, node_outcome}
use Rattle.node_model.proofs.Letters.{all_append}
use Rattle.quiet_model.specs.Moments.{Moment}
use Rattle.quiet_model.specs.Settled.{cell_in, list_at}
use Rattle.quiet_model.proofs.Moving.{Moves, same_role}
use Rattle.quiet_model.proofs.Round.{Round, IsAckOf, IsAckTo, IsAcked, Acked, Acks, Copies_first, IsCopied, Copied, Copies, IsTold, Told, Tells, Copies_new, AreGoodLetters, IsCopyOf, IsCopyTo, IsGoodLetter, IsIn, IsPlace, IsReportOf, IsReportTo, IsUnderWay, Says, acked_in, copy_in, goal_of}
use Rattle.quiet_model.proofs.Waiting.{Waits, waits_left, waits_right}

-- the role of a replica
abbrev pub as_role : ℕ → ℕ → Role
as_role s r = Storage (record { 0 = s }) (record { 0 = r })

-- A replica keeps a segment, or has all of it and reports that. What was acknowledged stays so.
pub record ReplicaFollows (round : Round) (outs : List Sent) (s r : ℕ) (old new : NodeState) : Type 0 where
  pub lists : (p : ℕ) → p < round.config.replicas
      → (copy_in new p ≡ copy_in old p) ⊎ ((copy_in new p ≡ list_at round.to s p) × Waits (IsReportTo round s r p) outs)
  pub acks : (peer : ℕ) → peer < round.config.replicas → peer ≢ r → acked_in old peer ≡ goal_of round s r → acked_in new peer ≡ goal_of round s r

abbrev pub Follows : Round → List Sent → Role → NodeState → NodeState → Type 0
Follows round outs (Storage s r) old new = ReplicaFollows round outs s.0 r.0 old new
Follows round outs (Gatherer i) old new = (s r p : ℕ) → s < round.config.shards → r < round.config.replicas
    → Says (cell_in old (s * round.config.replicas + r)) p (goal_of round s p) → Says (cell_in new (s * round.config.replicas + r)) p (goal_of round s p)
Follows round outs (Orderer i) old new = Unit {0}

-- a copy that came: it is there then, acknowledged, and reported if it is new
abbrev pub CopyDone : Round → List Sent → ℕ → ℕ → NodeState → NodeState → ℕ → Type 0
CopyDone round outs s r old new p = (copy_in new p ≡ list_at round.to s p) × Waits (IsAckTo round s p r) outs
    × ((copy_in old p ≡ list_at round.to s p) ⊎ Waits (IsReportTo round s r p) outs)

-- A copy that comes is done, and an acknowledgement of all is noted.
pub record ReplicaDoes (round : Round) (m : Message) (outs : List Sent) (s r : ℕ) (old new : NodeState) : Type 0 where
  pub copy : (p : ℕ) → IsCopyOf p m → CopyDone round outs s r old new p
  pub ack : (peer : ℕ) → IsAckOf peer (goal_of round s r) m → acked_in new peer ≡ goal_of round s r

abbrev pub Does : Round → Message → List Sent → Role → NodeState → NodeState → Type 0
Does round m outs (Storage s r) old new = ReplicaDoes round m outs s.0 r.0 old new
Does round m outs (Gatherer i) old new = (s r p : ℕ) → s < round.config.shards → r < round.config.replicas
    → IsReportOf s r p (goal_of round s p) m → Says (cell_in new (s * round.config.replicas + r)) p (goal_of round s p)
Does round m outs (Orderer i) old new = Unit {0}

pub record IsHandled (round : Round) (m : Message) (outs : List Sent) (role : Role) (old new : NodeState) : Type 0 where
  pub fine : IsIn round role new
  pub follows : Follows round outs role old new
  pub does : Does round m outs role old new
  pub letters : AreGoodLetters round outs

-- what a delivery makes of a node
pub record IsTaken (round : Round) (m : Message) (role : Role) (old : NodeState) (place index : ℕ) : Type 0 where
  pub made : NodeOutcome
  pub rule : node_outcome round.config (node_of round.config role) old (Deliver place index (Some m)) Done ≡ Some made
  pub handled : IsHandled round m made.outputs role old made.state

follows_self : (round : Round) (outs : List Sent) (role : Role) (state : NodeState) → Follows round outs role state state
follows_self round outs (Storage s r) state = record { lists = λ p below. inl refl; acks = λ peer below apart e. e }
follows_self round outs (Gatherer i) state = λ s r p a b h. h
follows_self round outs (Orderer i) state = tt

pub gatherer_below : (config : Shape) (s : ℕ) → InRange config → s % config.gatherers < config.gatherers
gatherer_below config s range = let some = range.some_gatherer in omega arith

module _ (round : Round) (range : InRange round.config) (x : Sent) (before after : Moment) (role : Role) (is : IsRole round.config role) (at : x.to.0 ≡ node_of round.config role)
    (made : NodeOutcome) (moves : Moves round.config before after role made)
    (old : IsUnderWay round (record before { queue = x ∷ before.queue }))
    (handled : IsHandled round x.message made.outputs role (before.nodes (node_of round.config role)) made.state) where
  all_follow : (other : Role) → IsRole round.config other
      → Follows round made.outputs other (before.nodes (node_of round.config other)) (after.nodes (node_of round.config other))
  all_follow other a =
      ⊎_elim
      (λ e. subst (λ (y : Role). Follows round made.outputs y (before.nodes (node_of round.config y)) (after.nodes (node_of round.config y))) (sym e)
      (subst (Follows round made.outputs role (before.nodes (node_of round.config role))) (sym moves.here) handled.follows))
      (λ same. subst (Follows round made.outputs other (before.nodes (node_of round.config other))) (sym same)
      (follows_self round made.outputs other (before.nodes (node_of round.config other))))
      (moves.others other a)

  does_here : (other : Role) → IsRole round.config other → x.to.0 ≡ node_of round.config other
      → Does round x.message made.outputs other (before.nodes (node_of round.config other)) (after.nodes (node_of round.config other))
  does_here other a e =
      subst (λ (y : Role). Does round x.message made.outputs y (before.nodes (node_of round.config y)) (after.nodes (node_of round.config y)))
      (same_role round.config role other is a (sym at ∙ e))
      (subst (Does round x.message made.outputs role (before.nodes (node_of round.config role))) (sym moves.here) handled.does)

  all_in : (other : Role) → IsRole round.config other → IsIn round other (after.nodes (node_of round.config other))
  all_in other a =
      ⊎_elim
      (λ e. subst (λ (y : Role). IsIn round y (after.nodes (node_of round.config y))) (sym e) (subst (IsIn round role) (sym moves.here) handled.fine))
      (λ same. subst (IsIn round other) (sym same) (old.nodes other a))
      (moves.others other a)

  still : (P : Sent → Type 0) → Waits P before.queue → Waits P after.queue
  still P w = subst (Waits P) (sym moves.posted) (waits_left P before.queue made.outputs w)

  newly : (P : Sent → Type 0) → Waits P made.outputs → Waits P after.queue
  newly P w = subst (Waits P) (sym moves.posted) (waits_right P before.queue made.outputs w)

  module _ (s p r : ℕ) (place : IsPlace round.config s p r) where
    copied_on : IsCopied round (record before { queue = x ∷ before.queue }) s p r → IsCopied round after s p r
    copied_on (Copied e) =
        ⊎_elim
        (λ same. Copied (same ∙ e))
        (λ now. Copied now.0)
        ((all_follow (as_role s r) (place.shard, place.replica)).lists p place.segment)
    copied_on (Copies (inl h)) = Copied ((does_here (as_role s r) (place.shard, place.replica) h.0).copy p h.1).0
    copied_on (Copies (inr w)) = Copies (still (IsCopyTo round s p r) w)

    acked_on : p ≢ r → IsAcked round (record before { queue = x ∷ before.queue }) s p r → IsAcked round after s p r
    acked_on apart (Acked e) = Acked ((all_follow (as_role s p) (place.shard, place.segment)).acks r place.replica (λ same. apart (sym same)) e)
    acked_on apart (Acks (inl h)) = Acked ((does_here (as_role s p) (place.shard, place.segment) h.0).ack r h.1)
    acked_on apart (Acks (inr w)) = Acks (still (IsAckTo round s p r) w)
    acked_on apart (Copies_first (inl h)) = Acks (newly (IsAckTo round s p r) ((does_here (as_role s r) (place.shard, place.replica) h.0).copy p h.1).1)
    acked_on apart (Copies_first (inr w)) = Copies_first (still (IsCopyTo round s p r) w)

    told_on : IsTold round (record before { queue = x ∷ before.queue }) s r p → IsTold round after s r p
    told_on (Told h) = Told (all_follow (Gatherer (s % round.config.gatherers)) (gatherer_below round.config s range) s r p place.shard place.replica h)
    told_on (Tells (inl h)) = Told (does_here (Gatherer (s % round.config.gatherers)) (gatherer_below round.config s range) h.0 s r p place.shard place.replica h.1)
    told_on (Tells (inr w)) = Tells (still (IsReportTo round s r p) w)
    told_on (Copies_new short (inl h)) =
        ⊎_elim
        (λ has. absurd (short has))
        (λ w. Tells (newly (IsReportTo round s r p) w))
        ((does_here (as_role s r) (place.shard, place.replica) h.0).copy p h.1).2
    told_on (Copies_new short (inr w)) =
        ⊎_elim
        (λ same. Copies_new (λ e. short (sym same ∙ e)) (still (IsCopyTo round s p r) w))
        (λ now. Tells (newly (IsReportTo round s r p) now.1))
        ((all_follow (as_role s r) (place.shard, place.replica)).lists p place.segment)

  pub goes_on : IsUnderWay round after
  goes_on = record {
    nodes = all_in;
    letters = subst (AreGoodLetters round) (sym moves.posted) (all_append (IsGoodLetter round) before.queue made.outputs old.letters.1 handled.letters);
    copied = λ s p r place apart. copied_on s p r place (old.copied s p r place apart);
    acked = λ s p r place apart. acked_on s p r place apart (old.acked s p r place apart);
    told = λ s p r place. told_on s p r place (old.told s p r place);
  }
