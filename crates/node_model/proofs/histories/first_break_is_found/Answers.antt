use Rattle.node_model.proofs.Breaking.{break_is_first, first_is_break, no_break_is_sound, sound_has_no_break}
use Rattle.node_model.proofs.histories.first_break_is_found.Goals as goal

pub returns : goal.returns
returns c = record { none = no_break_is_sound; sound = sound_has_no_break; found = break_is_first; first = first_is_break }
