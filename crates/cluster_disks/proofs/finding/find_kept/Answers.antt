use Rattle.std.proofs.Common.{◌<◌, ◌≤◌, List, length, refl, sym, ◌∙◌, subst, arith}
use Rattle.history_frame.specs.declared.events.Kept.{Kept}
use Rattle.history_frame.specs.Spelling.{DisksRise}
use Rattle.log_base.specs.Shape.{shape}
use Rattle.node_model.specs.Sound.{BreaksFirst, IsSound, payloads_on}
use Rattle.cluster_disks.specs.Found.{Rejects, bytes_in, kept_limit}
use Rattle.cluster_disks.proofs.Sources.{breach_rejects}
use Rattle.cluster_disks.proofs.KeptLists.{in_rise}
use Rattle.cluster_disks.proofs.finding.find_kept.Goals as goal

pub sound-requires : goal.sound-requires
sound-requires g c =
    let all = c.deref.ensures.value ∙ c.in-Ok.ensures.kept in
    subst (λ (kept : List Kept). DisksRise 0 kept) (sym all) (in_rise 0 0 c.args.nodes.now (omega arith) c.requires.small)

pub breach_at-requires-clause-within : goal.breach_at-requires-clause-within
breach_at-requires-clause-within g c κs within =
    let breaks = (c.in-Breaks.ensures.breaks c.in-Breaks.index).0 refl in
    subst (λ (kept : List Kept). c.in-Breaks.index < length kept) (c.deref.ensures.value ∙ sym c.deref-in-Breaks.ensures.value) breaks.within

pub returns-in-Sound-clause-sound : goal.returns-in-Sound-clause-sound
returns-in-Sound-clause-sound g c =
    subst (λ (kept : List Kept). IsSound (shape c.args.config.now) c.args.run (payloads_on kept)) c.deref.ensures.value (c.in-Sound.ensures.sound.0 refl)

pub returns-in-Breaks-clause-rejects : goal.returns-in-Breaks-clause-rejects
returns-in-Breaks-clause-rejects g c =
    let same = c.deref-in-Breaks.ensures.value in
    let breaks = (c.in-Breaks.ensures.breaks c.in-Breaks.index).0 refl in
    let all = c.in-Ok.ensures.kept in
    subst (λ (kept : List Kept). Rejects (shape c.args.config.now) c.args.run kept c.breach_at.result) (same ∙ all)
    (breach_rejects (shape c.args.config.now) c.args.run c.deref-in-Breaks.result.now c.in-Breaks.index c.breach_at.result
    (subst (λ (kept : List Kept). bytes_in kept ≤ kept_limit) (sym same) c.in-Ok.ensures.few)
    (subst (λ (kept : List Kept). BreaksFirst (shape c.args.config.now) c.args.run kept c.in-Breaks.index) (c.deref.ensures.value ∙ sym same) breaks)
    c.breach_at.ensures)
