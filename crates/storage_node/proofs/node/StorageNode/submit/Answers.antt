use Rattle.std.proofs.Common.{◌≡◌, ◌∙◌, refl, sym, ap, subst}
use Rattle.record_frame.specs.Entries.{entry_of}
use Rattle.storage_node.specs.declared.node.Mode.{Mode}
use Rattle.storage_node.specs.declared.node.Mode.TheVariants.{Running}
use Rattle.storage_node.specs.StorageState.{IsSound, StorageState}
use Rattle.storage_node.proofs.Puts.{storage-put, storage-submit-halted, submit-room, turns-submit-halted, turns-submitted}
use Rattle.storage_node.proofs.Sounding.{own-within, turned-from}
use Rattle.storage_node.proofs.node.StorageNode.submit.Goals as goal

pub invariant_of-self : goal.invariant_of-self
invariant_of-self g c =
    let running : c.self.inside.mode ≡ Running = ap (λ (v : StorageState). v.mode) c.self.view_is ∙ c.requires.running in
    let within = own-within _ _ _ _ _ _ c.self.inside.seat.own_in c.self.invariant in
    storage-submit-halted _ _ _ c.self.inside.mode c.self.inside.replica.state _ _ (entry_of c.args.client c.args.number c.args.bytes.now) c.submit-answer.result c.is_halted.result
    c.if-is_halted.true c.is_halted.ensures c.submit-answer.ensures.answer c.submit-answer.ensures.state running within.0 c.self.invariant

pub returns-then-is_halted-clause-turn : goal.returns-then-is_halted-clause-turn
returns-then-is_halted-clause-turn g c =
    let running : c.self.inside.mode ≡ Running = ap (λ (v : StorageState). v.mode) c.self.view_is ∙ c.requires.running in
    let within = own-within _ _ _ _ _ _ c.self.inside.seat.own_in c.self.invariant in
    let sound = subst (λ (m : Mode). IsSound m c.self.inside.replica.state) running c.self.invariant.sound in
    turned-from _ _ _ _ _ c.self.view_is
    (turns-submit-halted _ _ c.args.client c.args.number c.args.bytes.now c.submit-answer.result c.is_halted.result c.silent.result running sound within.1
    c.if-is_halted.true c.is_halted.ensures c.submit-answer.ensures.answer c.submit-answer.ensures.state c.submit-answer.ensures.media
    refl c.silent.ensures.mark c.silent.ensures.outputs c.silent.ensures.reply)

pub invariant_of-self-2 : goal.invariant_of-self-2
invariant_of-self-2 g c =
    let running : c.self.inside.mode ≡ Running = ap (λ (v : StorageState). v.mode) c.self.view_is ∙ c.requires.running in
    let within = own-within _ _ _ _ _ _ c.self.inside.seat.own_in c.self.invariant in
    let sound = subst (λ (m : Mode). IsSound m c.self.inside.replica.state) running c.self.invariant.sound in
    storage-put _ _ _ c.self.inside.mode c.self.inside.replica.state _ _ c.self.inside.replica.state.own _ _ (sym c.is_halted.ensures ∙ c.if-is_halted.false) c.submit-answer.ensures.state running within.0
    (submit-room c.self.inside.replica.state (entry_of c.args.client c.args.number c.args.bytes.now) within.0 sound) c.self.invariant

pub returns-clause-turn : goal.returns-clause-turn
returns-clause-turn g c =
    let running : c.self.inside.mode ≡ Running = ap (λ (v : StorageState). v.mode) c.self.view_is ∙ c.requires.running in
    let within = own-within _ _ _ _ _ _ c.self.inside.seat.own_in c.self.invariant in
    turned-from _ _ _ _ _ c.self.view_is
    (turns-submitted _ _ c.args.client c.args.number c.args.bytes.now c.submit-answer.result c.is_halted.result c.silent-2.result running within.1
    c.if-is_halted.false c.is_halted.ensures c.submit-answer.ensures.answer c.submit-answer.ensures.state c.submit-answer.ensures.media
    running refl c.silent-2.ensures.mark c.silent-2.ensures.outputs (c.silent-2.ensures.reply ∙ c.reply_to_submit.ensures))
