-- The cluster of the tests, and what they keep of a journal.
use Rattle.std.specs.Prelude.{◌≡◌, List, [], ◌∷◌}
use Rattle.log_base.specs.ClusterShape.{Shape}
use Rattle.segment_journal.specs.Journalled.{Journalled, loaded}

-- one storage node, one gatherer, one orderer
abbrev pub trio : Shape
trio = record { replicas = 1; shards = 1; orderers = 1; gatherers = 1 }

-- one journal without payloads
abbrev pub IsOneEmpty : {X : Type 0} → (X → Journalled) → List X → Type 0
IsOneEmpty {X} state journals = (journal : X) × (journals ≡ journal ∷ []) × (state journal ≡ loaded [])
