-- A journal as a list, and what each call makes of it.
use Rattle.std.specs.Prelude.{◌≡◌, ◌⊎◌, ℕ, ◌+◌, ◌≤◌, max, List, [], ◌∷◌, ◌++◌, length, All, Option, None, Some, IsSome, unwrap_or, option_to_list, Bool, true, false, ◌==◌, nat_lt, if◌then◌else◌}
use Rattle.log_base.specs.Wide.{IsBytes}
use Rattle.disk_base.specs.declared.disk.Plan.{Plan}
use Rattle.segment_journal.specs.declared.journal.Installed.{Installed}
use Rattle.segment_journal.specs.declared.journal.Installed.TheVariants.{Failed, OneMore, Same}

pub record Journalled : Type 0 where
  -- the offset of the first payload
  pub first : ℕ
  pub payloads : List (List ℕ)
  -- the payload of a put that failed, until the next install
  pub flight : Option (List ℕ)
  pub halted : Bool
  -- how many bytes the next payload may have, where room was made since the last put
  pub room : Option ℕ
  -- what the last reload came to, where there was one since the last install and the last put
  pub reloaded : Option Installed

-- how the next put and the next reload turn out
pub record Turns : Type 0 where
  pub put_fails : Bool
  pub reload : Installed

-- nothing of that is told
abbrev pub no_turns : Option Turns
no_turns = None

-- A plan that keeps something of the payload in flight lets it be read, where there is one.
abbrev pub reload_by : Option (List ℕ) → Bool → Installed
reload_by None keeps = Same
reload_by (Some payload) true = OneMore
reload_by (Some payload) false = Same

-- How they turn out by a plan: without a further write the next put fails, and with the loss of what was written the
-- next reload.
abbrev pub turns_by : Option (List ℕ) → Plan → Turns
turns_by flight plan = record {
  put_fails = plan.after == 0;
  reload = if plan.lose then Failed else reload_by flight (nat_lt 0 plan.keep);
}

-- how they turn out once a plan is set, where the journal tells it
abbrev pub planned : Option (List ℕ) → Plan → Option Turns → Option Turns
planned flight plan None = None
planned flight plan (Some turns) = Some (turns_by flight plan)

-- what a payload is
pub record IsPayload (payload : List ℕ) : Type 0 where
  pub bytes : IsBytes payload
  pub size : length payload ≤ 131072

abbrev pub AllPayloads : List (List ℕ) → Type 0
AllPayloads payloads = All IsPayload payloads

-- the offset after the last payload
abbrev pub end_of : Journalled → ℕ
end_of journal = journal.first + length journal.payloads

-- a journal that was read, with no room yet
abbrev pub loaded : List (List ℕ) → Journalled
loaded payloads = record { first = 0; payloads = payloads; flight = None; halted = false; room = None; reloaded = None }

-- with room for one payload of so many bytes, beside the room that there was
abbrev pub with_room : Journalled → ℕ → Journalled
with_room journal bytes = record journal { room = Some (max (unwrap_or journal.room 0) bytes) }

-- after a put that succeeded
abbrev pub with_payload : Journalled → List ℕ → Journalled
with_payload journal payload = record journal { payloads = journal.payloads ++ payload ∷ []; room = None; reloaded = None }

-- after a put that failed
abbrev pub with_flight : Journalled → List ℕ → Journalled
with_flight journal payload = record journal { flight = Some payload; halted = true; room = None; reloaded = None }

-- after a reload that came to this
abbrev pub with_reload : Journalled → Installed → Journalled
with_reload journal came = record journal { reloaded = Some came }

-- after a reload that succeeded: it read the list, or the list with the payload in flight
abbrev pub IsReloaded : Journalled → Journalled → Type 0
IsReloaded old new = (new ≡ with_reload old Same) ⊎ (IsSome old.flight × (new ≡ with_reload old OneMore))

-- the list that stands after an install
abbrev pub installed_list : List (List ℕ) → Option (List ℕ) → Installed → List (List ℕ)
installed_list payloads flight Failed = payloads
installed_list payloads flight OneMore = payloads ++ option_to_list flight
installed_list payloads flight Same = payloads

-- after an install that came to this
abbrev pub installed : Journalled → Installed → Journalled
installed journal Failed = journal
installed journal OneMore = record journal { payloads = journal.payloads ++ option_to_list journal.flight; flight = None; halted = false; reloaded = None }
installed journal Same = record journal { flight = None; halted = false; reloaded = None }
