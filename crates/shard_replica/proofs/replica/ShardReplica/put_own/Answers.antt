use Rattle.std.proofs.Common.{◌≡◌, ◌≤◌, ℕ, List, length, sym, ap, subst, ◌∙◌, true, false}
use Rattle.std.specs.Prelude.{slice_set}
use Rattle.record_frame.specs.Entries.{entry_of}
use Rattle.log_model.specs.Storage.{IsSpelled, entry_in}
use Rattle.shard_replica.specs.Lists.{medium_at, segment_at, after_put}
use Rattle.shard_replica.specs.Replica.{Replicated, entry_size}
use Rattle.shard_replica.proofs.Submitting.{put-state, with_segments}
use Rattle.shard_replica.proofs.replica.ShardReplica.put_own.Goals as goal

pub put-requires-clause-spelled : goal.put-requires-clause-spelled
put-requires-clause-spelled g c = subst IsSpelled (sym c.deref.ensures.value) c.spell.ensures.spelled

pub put-requires-clause-room : goal.put-requires-clause-room
put-requires-clause-room g c =
    let size : length c.deref.result.now ≡ entry_size (length c.args.bytes.now) = ap (λ (bytes : List ℕ). length bytes) c.deref.ensures.value ∙ c.spell.ensures.size in
    let room : entry_size (length c.args.bytes.now) ≤ (medium_at c.self.inside.lists.lists.media c.self.inside.own.0).room =
    subst (λ (r : Replicated). entry_size (length c.args.bytes.now) ≤ (medium_at r.media r.state.own).room) (sym c.self.view_is) c.requires.payload in
    subst (λ (n : ℕ). n ≤ (medium_at c.self.inside.lists.lists.media c.self.inside.own.0).room) (sym size) room

pub returns-in-Ok-clause-state : goal.returns-in-Ok-clause-state
returns-in-Ok-clause-state g c =
    let spelled = ap entry_in c.deref.ensures.value ∙ c.spell.ensures.entry in
    let own : c.self.inside.own.0 ≡ c.args.self.now.state.own = ap (λ (r : Replicated). r.state.own) c.self.view_is in
    let news = subst (λ (r : Replicated). c.put.new.self.lists.segments ≡ slice_set r.state.segments c.self.inside.own.0
    (after_put (segment_at r.state.segments c.self.inside.own.0) (entry_in c.deref.result.now) false)) c.self.view_is c.in-Ok.ensures.segments in
    ap (λ (r : Replicated). with_segments r.state c.put.new.self.lists.segments) c.self.view_is
    ∙ put-state c.args.self.now.state c.put.new.self.lists.segments c.deref.result.now (entry_of c.args.client c.args.number c.args.bytes.now) c.self.inside.own.0 false news spelled own

pub returns-in-Err-clause-state : goal.returns-in-Err-clause-state
returns-in-Err-clause-state g c =
    let spelled = ap entry_in c.deref.ensures.value ∙ c.spell.ensures.entry in
    let own : c.self.inside.own.0 ≡ c.args.self.now.state.own = ap (λ (r : Replicated). r.state.own) c.self.view_is in
    let news = subst (λ (r : Replicated). c.put.new.self.lists.segments ≡ slice_set r.state.segments c.self.inside.own.0
    (after_put (segment_at r.state.segments c.self.inside.own.0) (entry_in c.deref.result.now) true)) c.self.view_is c.in-Err.ensures.segments in
    ap (λ (r : Replicated). with_segments r.state c.put.new.self.lists.segments) c.self.view_is
    ∙ put-state c.args.self.now.state c.put.new.self.lists.segments c.deref.result.now (entry_of c.args.client c.args.number c.args.bytes.now) c.self.inside.own.0 true news spelled own
