use Rattle.std.proofs.Common.{◌∙◌, sym, subst, refl}
use Rattle.std.specs.Prelude.{Result, IsOk}
use Rattle.record_frame.specs.declared.entries.Head.{Head}
use Rattle.record_frame.specs.declared.refusals.Refusal.{Refusal}
use Rattle.record_frame.specs.Entries.{head_of}
use Rattle.log_model.specs.Storage.{entry_in}
use Rattle.shard_replica.proofs.Indexing.{head-spelled, ok_same}
use Rattle.shard_replica.proofs.indexed.head_of.Goals as goal

pub unwrap-requires : goal.unwrap-requires
unwrap-requires c = subst (λ (r : Result Head Refusal). IsOk r) (sym (c.read_head.ensures.agrees ∙ head-spelled c.args.payload.now c.requires)) refl

pub returns : goal.returns
returns c =
    ok_same c.read_head.result c.unwrap.result (head_of (entry_in c.args.payload.now)) c.unwrap.ensures
    (c.read_head.ensures.agrees ∙ head-spelled c.args.payload.now c.requires)
