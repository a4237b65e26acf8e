use Rattle.std.proofs.Common.{[], ◌∷◌, refl, sym, subst}
use Rattle.shard_replica.specs.Telling.{AreTold}
use Rattle.core_step.specs.declared.part.Part.{Part}
use Rattle.core_step.specs.Disks.{journals_of, media_in}
use Rattle.core_step.specs.Standing.{cluster_of, role_of}
use Rattle.core_step.proofs.part.Part.tell.Goals as goal

-- an orderer has one journal
pub returns-in-Orderer : goal.returns-in-Orderer
returns-in-Orderer g c =
    subst (λ (p : Part g.row.J.Denot g.row.P.Denot). AreTold g.J.Journal.state g.J.Journal.faults g.J.Journal.keeps_synced g.J.Journal.turns (journals_of (cluster_of p) (role_of p))
    (media_in g.J.Journal.state g.J.Journal.faults g.J.Journal.keeps_synced g.J.Journal.turns p)) (sym c.in-Orderer.is)
    (record { journals = c.in-Orderer.field-0.journal ∷ []; media_are = refl; all = refl })
