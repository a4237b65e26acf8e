-- Posting the letters that an event put out.
use Rattle.std.specs.Prelude.{◌≡◌, ◌⊎◌, ℕ, suc, ◌+◌, ◌<◌, ◌≤◌, List, [], ◌∷◌, slice_get, Some}
use Rattle.atomic_table.specs.Table.{Me}
use Rattle.log_base.specs.Machines.{Meanings}
use Rattle.tied_cells.specs.Boxes.{Posts}
use Rattle.tied_cells.specs.declared.board.Own.{Own}
use Rattle.tied_cells.specs.declared.board.Stored.{Stored}
use Rattle.tied_cells.specs.declared.board.View.{View}
use Rattle.tied_cells.specs.declared.letter.Letter.{Letter}
use Rattle.tied_cells.specs.declared.mail.Posted.TheVariants.{Posted as WasPosted, NoRoom}
use Rattle.cluster.specs.declared.posting.Sending.{Sending}
use Rattle.cluster.specs.declared.posting.Sending.TheVariants.{Posted, Lost}

-- an output of an event, as a letter
abbrev pub output_letter : ℕ → ℕ → ℕ × List ℕ → Letter
output_letter place index output = record { place = place; index = index; bytes = output.1 }

abbrev pub lost_by : Sending → ℕ
lost_by Posted = 0
lost_by Lost = 1

-- these are the outputs of the pass's event at a place
abbrev pub HasOutputs : {S I H : Type 0} → Meanings S I H → View S H → ℕ → List (ℕ × List ℕ) → Type 0
HasOutputs {H = H} m view place outputs = (k : ℕ) × (own : Own H) × (slice_get view.own k ≡ Some own) × (own.place ≡ place) × (m.outputs own.happened ≡ outputs)

module _ {A S H : Type 0} where
  -- what a pass has and knows, but for boxes, posted letters and words tried in vain
  abbrev pub but_mail : Me (Stored A H) (View S H) → Me (Stored A H) (View S H) → Me (Stored A H) (View S H)
  but_mail old new = (record old.0 { boxed = new.0.boxed; posted = new.0.posted; notes = new.0.notes }, old.1)

  -- a pass only posted letters
  abbrev pub IsMail : Me (Stored A H) (View S H) → Me (Stored A H) (View S H) → Type 0
  IsMail old new = new ≡ but_mail old new

  -- a letter to a node is posted, or it is lost: it met no room, or the node is none of these
  abbrev pub GoesOut : ℕ → ℕ → Letter → Me (Stored A H) (View S H) → Me (Stored A H) (View S H) → Sending → Type 0
  GoesOut nodes node letter old new Posted = (node < nodes) × Posts node letter old new WasPosted
  GoesOut nodes node letter old new Lost = ((node < nodes) × Posts node letter old new (NoRoom letter)) ⊎ ((nodes ≤ node) × (new ≡ old))

  -- the outputs of an event go out one after another, from this index on, and so many are lost
  abbrev pub AllGoOut : ℕ → ℕ → ℕ → List (ℕ × List ℕ) → Me (Stored A H) (View S H) → Me (Stored A H) (View S H) → ℕ → Type 0
  AllGoOut nodes place index [] old new lost = (new ≡ old) × (lost ≡ 0)
  AllGoOut nodes place index (output ∷ outputs) old new lost = (between : Me (Stored A H) (View S H)) × (sending : Sending) × (others : ℕ)
      × GoesOut nodes output.0 (output_letter place index output) old between sending × AllGoOut nodes place (suc index) outputs between new others × (lost ≡ lost_by sending + others)
