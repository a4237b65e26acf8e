use Rattle.std.proofs.Common.{refl, sym, ap, ◌∙◌}
use Rattle.std.proofs.lemmas.Option.{none-some}
use Rattle.log_base.specs.Shape.{shape}
use Rattle.node_table.specs.Numbering.{role_at}
use Rattle.paxos_acceptor.specs.Listed.{bad_offset}
use Rattle.history_walk.proofs.Begun.{none_is_bad}
use Rattle.history_walk.proofs.beginning.begin_orderer.Goals as goal

pub unreachable-requires : goal.unreachable-requires
unreachable-requires c =
    let none = none_is_bad (shape c.args.config.now) c.requires.list.0 c.requires.list.1 c.args.node.0 (role_at (shape c.args.config.now) c.args.node.0) refl c.requires.role in
    none-some _ (sym (ap bad_offset c.requires.list.2 ∙ none) ∙ c.in-Err-Payload-default.ensures.bad c.in-Err-Payload-default.field-0-0-0 c.in-Err-Payload-default.field-0-0-is)
