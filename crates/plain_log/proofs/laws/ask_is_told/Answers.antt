use Rattle.plain_log.specs.Log.{start, state_after}
use Rattle.plain_log.proofs.Coherent.{coherent_start, coherent_state_after}
use Rattle.plain_log.proofs.Enquiries.{nothing_kept, refused_missing, told_again, told_stale, told_until_trimmed}
use Rattle.plain_log.proofs.LastAppends.{drawn_start, drawn_state_after}
use Rattle.plain_log.proofs.laws.ask_is_told.Goals as goal

pub returns-clause-told : goal.returns-clause-told
returns-clause-told c = λ shape run items more lane shard replica bytes position all item told none untrimmed.
    told_until_trimmed shape run (state_after shape run (start shape) items) lane shard replica bytes more position item
    (drawn_state_after shape run (start shape) items all (drawn_start shape run))
    (coherent_state_after shape run (start shape) items all (coherent_start shape)) told none untrimmed

pub returns-clause-kept : goal.returns-clause-kept
returns-clause-kept c = λ shape run items more lane shard replica bytes position all item told none from.
    told_again shape run (state_after shape run (start shape) items) lane shard replica bytes more position item
    (drawn_state_after shape run (start shape) items all (drawn_start shape run))
    (coherent_state_after shape run (start shape) items all (coherent_start shape)) told none from

pub returns-clause-given_up : goal.returns-clause-given_up
returns-clause-given_up c = λ shape run items more lane shard replica bytes position all item told none below.
    told_stale shape run (state_after shape run (start shape) items) lane shard replica bytes more position item
    (drawn_state_after shape run (start shape) items all (drawn_start shape run))
    (coherent_state_after shape run (start shape) items all (coherent_start shape)) told none below

pub returns-clause-refused : goal.returns-clause-refused
returns-clause-refused c = λ shape run items more lane shard replica bytes all item refused none.
    refused_missing shape run (state_after shape run (start shape) items) lane shard replica bytes more item
    (drawn_state_after shape run (start shape) items all (drawn_start shape run)) refused none

pub returns-clause-nothing : goal.returns-clause-nothing
returns-clause-nothing c = nothing_kept
