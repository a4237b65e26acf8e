use Rattle.std.proofs.Common.{◌≡◌, ◌∙◌, ◌<◌, true, false, Option, length, refl, sym, ap, subst, arith}
use Rattle.log_model.specs.Storage.{entry_in}
use Rattle.peer_copy.specs.declared.taking.Taking.{Taking}
use Rattle.peer_copy.specs.declared.taking.Taking.TheVariants.{Put as IsNext, Have as IsThere, Gap as IsMissing}
use Rattle.record_frame.specs.declared.entries.Entry.{Entry}
use Rattle.record_frame.specs.Entries.{entry_spelling}
use Rattle.shard_replica.specs.Answers.{copied_entry}
use Rattle.shard_replica.specs.Replica.{with_put}
use Rattle.shard_replica.proofs.Submitting.{spelled-written}
use Rattle.storage_node.specs.declared.node.Mode.{Mode}
use Rattle.storage_node.specs.declared.node.Mode.TheVariants.{Running}
use Rattle.storage_node.specs.StorageState.{IsSound, StorageState, config_of}
use Rattle.storage_node.proofs.Taking.{copy-room, next-list, other-list, turns-copy-halted, turns-next, turns-other}
use Rattle.storage_node.proofs.Puts.{HasRoomAt, storage-halted, storage-put}
use Rattle.storage_node.proofs.Sounding.{turned-from}
use Rattle.storage_node.proofs.node.StorageNode.copy.Goals as goal

pub copy-requires-clause-spelled : goal.copy-requires-clause-spelled
copy-requires-clause-spelled g c =
    let written : c.deref.result.now ≡ entry_spelling c.args.entry.now = c.deref.ensures.value ∙ ap (λ (v : StorageState). v.payload) c.self.view_is ∙ c.requires.payload.payload in
    let told = spelled-written c.args.entry.now c.deref.result.now c.requires.entry written in
    told.1

pub invariant_of-self : goal.invariant_of-self
invariant_of-self g c =
    let running : c.self.inside.mode ≡ Running = ap (λ (v : StorageState). v.mode) c.self.view_is ∙ c.requires.running in
    let state = c.self.inside.replica.state in
    let replicas : (config_of c.args.self.now).replicas ≡ state.config.replicas = ap (λ (v : StorageState). (config_of v).replicas) (sym c.self.view_is) in
    let segment : c.args.segment.0 < state.config.replicas = omega (arith, c.requires.segment, replicas) in
    let within : c.args.segment.0 < length state.segments = omega (arith, segment, c.self.invariant.sound.count) in
    let is = ap (λ (t : Taking). copied_entry t (entry_in c.deref.result.now)) c.in-Halted.ensures.answer in
    storage-halted _ _ _ c.self.inside.mode state _ _ c.args.segment.0 (entry_in c.deref.result.now) true refl
    (c.in-Halted.ensures.state ∙ ap (λ (o : Option Entry). with_put state c.args.segment.0 o true) is) running
    (copy-room state c.args.segment.0 c.args.offset c.in-Halted.ensures.answer c.requires.offset) c.self.invariant

pub returns-in-Halted-clause-turn : goal.returns-in-Halted-clause-turn
returns-in-Halted-clause-turn g c = λ place index.
    let running : c.self.inside.mode ≡ Running = ap (λ (v : StorageState). v.mode) c.self.view_is ∙ c.requires.running in
    let state = c.self.inside.replica.state in
    let replicas : (config_of c.args.self.now).replicas ≡ state.config.replicas = ap (λ (v : StorageState). (config_of v).replicas) (sym c.self.view_is) in
    let segment : c.args.segment.0 < state.config.replicas = omega (arith, c.requires.segment, replicas) in
    let within : c.args.segment.0 < length state.segments = omega (arith, segment, c.self.invariant.sound.count) in
    let written : c.deref.result.now ≡ entry_spelling c.args.entry.now = c.deref.ensures.value ∙ ap (λ (v : StorageState). v.payload) c.self.view_is ∙ c.requires.payload.payload in
    let told = spelled-written c.args.entry.now c.deref.result.now c.requires.entry written in
    let sound = subst (λ (m : Mode). IsSound m state) running c.self.invariant.sound in
    turned-from _ _ _ _ _ c.self.view_is
    (turns-copy-halted _ _ place index c.args.segment c.args.offset c.args.entry.now (entry_in c.deref.result.now) c.silent.result running sound.rests within told.0
    c.in-Halted.ensures.answer c.in-Halted.ensures.state c.in-Halted.ensures.media refl c.silent.ensures.mark c.silent.ensures.outputs c.silent.ensures.reply)

pub invariant_of-self-in-Put : goal.invariant_of-self-in-Put
invariant_of-self-in-Put g c =
    let running : c.self.inside.mode ≡ Running = ap (λ (v : StorageState). v.mode) c.self.view_is ∙ c.requires.running in
    let state = c.self.inside.replica.state in
    let replicas : (config_of c.args.self.now).replicas ≡ state.config.replicas = ap (λ (v : StorageState). (config_of v).replicas) (sym c.self.view_is) in
    let segment : c.args.segment.0 < state.config.replicas = omega (arith, c.requires.segment, replicas) in
    let within : c.args.segment.0 < length state.segments = omega (arith, segment, c.self.invariant.sound.count) in
    let is = ap (λ (t : Taking). copied_entry t (entry_in c.deref.result.now)) c.in-Put.ensures.answer.0 in
    storage-put _ _ _ c.self.inside.mode state _ _ c.args.segment.0 _ false refl c.in-Put.ensures.state running segment
    (subst (λ (o : Option Entry). HasRoomAt state c.args.segment.0 o) (sym is) (copy-room state c.args.segment.0 c.args.offset c.in-Put.ensures.answer.0 c.requires.offset)) c.self.invariant

pub tell_copy-requires-clause-length : goal.tell_copy-requires-clause-length
tell_copy-requires-clause-length g c =
    let running : c.self.inside.mode ≡ Running = ap (λ (v : StorageState). v.mode) c.self.view_is ∙ c.requires.running in
    let state = c.self.inside.replica.state in
    let replicas : (config_of c.args.self.now).replicas ≡ state.config.replicas = ap (λ (v : StorageState). (config_of v).replicas) (sym c.self.view_is) in
    let segment : c.args.segment.0 < state.config.replicas = omega (arith, c.requires.segment, replicas) in
    let within : c.args.segment.0 < length state.segments = omega (arith, segment, c.self.invariant.sound.count) in
    next-list state c.copy.new.self.state c.args.segment.0 c.args.offset c.in-Put.len (entry_in c.deref.result.now) within c.in-Put.ensures.answer c.in-Put.ensures.state

pub returns-in-Put-clause-turn : goal.returns-in-Put-clause-turn
returns-in-Put-clause-turn g c = λ place index.
    let running : c.self.inside.mode ≡ Running = ap (λ (v : StorageState). v.mode) c.self.view_is ∙ c.requires.running in
    let state = c.self.inside.replica.state in
    let replicas : (config_of c.args.self.now).replicas ≡ state.config.replicas = ap (λ (v : StorageState). (config_of v).replicas) (sym c.self.view_is) in
    let segment : c.args.segment.0 < state.config.replicas = omega (arith, c.requires.segment, replicas) in
    let within : c.args.segment.0 < length state.segments = omega (arith, segment, c.self.invariant.sound.count) in
    let written : c.deref.result.now ≡ entry_spelling c.args.entry.now = c.deref.ensures.value ∙ ap (λ (v : StorageState). v.payload) c.self.view_is ∙ c.requires.payload.payload in
    let told = spelled-written c.args.entry.now c.deref.result.now c.requires.entry written in
    turned-from _ _ _ _ _ c.self.view_is
    (turns-next _ _ _ place index c.args.segment c.args.offset c.args.entry.now (entry_in c.deref.result.now) false _ running within told.0 refl c.in-Put.ensures.answer.0
    c.in-Put.ensures.state c.in-Put.ensures.media refl refl c.tell_copy.ensures.silent c.tell_copy.ensures.outputs c.tell_copy.ensures.each)

pub invariant_of-self-in-Have : goal.invariant_of-self-in-Have
invariant_of-self-in-Have g c =
    let running : c.self.inside.mode ≡ Running = ap (λ (v : StorageState). v.mode) c.self.view_is ∙ c.requires.running in
    let state = c.self.inside.replica.state in
    let replicas : (config_of c.args.self.now).replicas ≡ state.config.replicas = ap (λ (v : StorageState). (config_of v).replicas) (sym c.self.view_is) in
    let segment : c.args.segment.0 < state.config.replicas = omega (arith, c.requires.segment, replicas) in
    let within : c.args.segment.0 < length state.segments = omega (arith, segment, c.self.invariant.sound.count) in
    let is = ap (λ (t : Taking). copied_entry t (entry_in c.deref.result.now)) c.in-Have.ensures.answer.0 in
    storage-put _ _ _ c.self.inside.mode state _ _ c.args.segment.0 _ false refl c.in-Have.ensures.state running segment
    (subst (λ (o : Option Entry). HasRoomAt state c.args.segment.0 o) (sym is) tt) c.self.invariant

pub tell_length-requires-clause-length : goal.tell_length-requires-clause-length
tell_length-requires-clause-length g c =
    let running : c.self.inside.mode ≡ Running = ap (λ (v : StorageState). v.mode) c.self.view_is ∙ c.requires.running in
    let state = c.self.inside.replica.state in
    let replicas : (config_of c.args.self.now).replicas ≡ state.config.replicas = ap (λ (v : StorageState). (config_of v).replicas) (sym c.self.view_is) in
    let segment : c.args.segment.0 < state.config.replicas = omega (arith, c.requires.segment, replicas) in
    let within : c.args.segment.0 < length state.segments = omega (arith, segment, c.self.invariant.sound.count) in
    other-list state c.copy.new.self.state c.args.segment.0 c.in-Have.len _ false within (ap (λ (t : Taking). copied_entry t (entry_in c.deref.result.now)) c.in-Have.ensures.answer.0)
    c.in-Have.ensures.answer.1 c.in-Have.ensures.state

pub returns-in-Have-clause-turn : goal.returns-in-Have-clause-turn
returns-in-Have-clause-turn g c = λ place index.
    let running : c.self.inside.mode ≡ Running = ap (λ (v : StorageState). v.mode) c.self.view_is ∙ c.requires.running in
    let state = c.self.inside.replica.state in
    let replicas : (config_of c.args.self.now).replicas ≡ state.config.replicas = ap (λ (v : StorageState). (config_of v).replicas) (sym c.self.view_is) in
    let segment : c.args.segment.0 < state.config.replicas = omega (arith, c.requires.segment, replicas) in
    let within : c.args.segment.0 < length state.segments = omega (arith, segment, c.self.invariant.sound.count) in
    turned-from _ _ _ _ _ c.self.view_is
    (turns-other _ _ _ place index c.args.segment c.args.offset c.args.entry.now _ false IsThere _ running within (λ (e : IsThere ≡ IsNext). cc) c.in-Have.ensures.answer.0
    c.in-Have.ensures.state c.in-Have.ensures.media refl refl c.tell_length.ensures.silent c.tell_length.ensures.outputs c.tell_length.ensures.each)

pub invariant_of-self-in-Gap : goal.invariant_of-self-in-Gap
invariant_of-self-in-Gap g c =
    let running : c.self.inside.mode ≡ Running = ap (λ (v : StorageState). v.mode) c.self.view_is ∙ c.requires.running in
    let state = c.self.inside.replica.state in
    let replicas : (config_of c.args.self.now).replicas ≡ state.config.replicas = ap (λ (v : StorageState). (config_of v).replicas) (sym c.self.view_is) in
    let segment : c.args.segment.0 < state.config.replicas = omega (arith, c.requires.segment, replicas) in
    let within : c.args.segment.0 < length state.segments = omega (arith, segment, c.self.invariant.sound.count) in
    let is = ap (λ (t : Taking). copied_entry t (entry_in c.deref.result.now)) c.in-Gap.ensures.answer.0 in
    storage-put _ _ _ c.self.inside.mode state _ _ c.args.segment.0 _ false refl c.in-Gap.ensures.state running segment
    (subst (λ (o : Option Entry). HasRoomAt state c.args.segment.0 o) (sym is) tt) c.self.invariant

pub tell_length-requires-in-Gap-clause-length : goal.tell_length-requires-in-Gap-clause-length
tell_length-requires-in-Gap-clause-length g c =
    let running : c.self.inside.mode ≡ Running = ap (λ (v : StorageState). v.mode) c.self.view_is ∙ c.requires.running in
    let state = c.self.inside.replica.state in
    let replicas : (config_of c.args.self.now).replicas ≡ state.config.replicas = ap (λ (v : StorageState). (config_of v).replicas) (sym c.self.view_is) in
    let segment : c.args.segment.0 < state.config.replicas = omega (arith, c.requires.segment, replicas) in
    let within : c.args.segment.0 < length state.segments = omega (arith, segment, c.self.invariant.sound.count) in
    other-list state c.copy.new.self.state c.args.segment.0 c.in-Gap.len _ false within (ap (λ (t : Taking). copied_entry t (entry_in c.deref.result.now)) c.in-Gap.ensures.answer.0)
    c.in-Gap.ensures.answer.1 c.in-Gap.ensures.state

pub returns-in-Gap-clause-turn : goal.returns-in-Gap-clause-turn
returns-in-Gap-clause-turn g c = λ place index.
    let running : c.self.inside.mode ≡ Running = ap (λ (v : StorageState). v.mode) c.self.view_is ∙ c.requires.running in
    let state = c.self.inside.replica.state in
    let replicas : (config_of c.args.self.now).replicas ≡ state.config.replicas = ap (λ (v : StorageState). (config_of v).replicas) (sym c.self.view_is) in
    let segment : c.args.segment.0 < state.config.replicas = omega (arith, c.requires.segment, replicas) in
    let within : c.args.segment.0 < length state.segments = omega (arith, segment, c.self.invariant.sound.count) in
    turned-from _ _ _ _ _ c.self.view_is
    (turns-other _ _ _ place index c.args.segment c.args.offset c.args.entry.now _ false IsMissing _ running within (λ (e : IsMissing ≡ IsNext). cc) c.in-Gap.ensures.answer.0
    c.in-Gap.ensures.state c.in-Gap.ensures.media refl refl c.tell_length-in-Gap.ensures.silent c.tell_length-in-Gap.ensures.outputs c.tell_length-in-Gap.ensures.each)
