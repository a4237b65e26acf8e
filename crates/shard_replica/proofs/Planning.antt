-- Setting a plan of journals one after another.
use Rattle.std.proofs.Common.{◌≡◌, ℕ, ◌+◌, ◌<◌, ◌≤◌, Bool, true, false, List, map, length, get_or, set, Option, None, Some, refl, sym, ap, ◌∙◌, ⊎_elim, arith}
use Rattle.std.specs.Option.{option_map}
use Rattle.std.proofs.lemmas.Bool.{cases_lt}
use Rattle.std.proofs.lemmas.List.{get_or_past}
use Rattle.std.proofs.Math.ListN.{get_or-map}
use Rattle.std.specs.Prelude.{nat_lt}
use Rattle.disk_base.specs.declared.disk.Plan.{Plan}
use Rattle.record_frame.specs.Entries.{entry_spelling}
use Rattle.log_model.specs.Storage.{entry_in}
use Rattle.segment_journal.specs.Journalled.{Journalled, Turns, planned, reload_by}
use Rattle.shard_replica.specs.Journals.{journal_at, no_journal}
use Rattle.shard_replica.specs.Lists.{Medium, Segment, medium_of, medium_at, no_medium, segment_of, segment_at, no_segment, turns_after}
use Rattle.shard_replica.proofs.Each.{step-seen}
use Rattle.shard_replica.proofs.Installing.{map-twice}

-- how far a plan is set: of the journals before an index it is, and those from it on are as before
abbrev pub Planning : Plan → ℕ → List Journalled → List (Option Turns) → ℕ → Option Turns → Type 0
Planning plan i states old k turns =
    (k < i → turns ≡ planned (journal_at states k).flight plan (get_or old k None)) × (i ≤ k → turns ≡ get_or old k None)

-- a plan is set of one journal more
pub planning-on : {X : Type 0} (turns : X → Option Turns) (items : List X) (at : ℕ) (new : X) (plan : Plan) (states : List Journalled) (old : List (Option Turns))
    → at < length items → ((k : ℕ) → Planning plan at states old k (get_or (map turns items) k None))
    → turns new ≡ planned (journal_at states at).flight plan (get_or old at None)
    → (k : ℕ) → Planning plan (at + 1) states old k (get_or (map turns (set items at new)) k None)
planning-on turns items at new plan states old lt each is =
    step-seen turns (Planning plan at states old) (Planning plan (at + 1) states old) items at new None lt each
    (λ k t other here. ((λ within. here.0 (omega arith)), (λ past. here.1 (omega arith))))
    ((λ _. is), (λ past. absurd (omega arith)))

-- it is set of all
pub planned-all : (states : List Journalled) (old new : List (Option Turns)) (n : ℕ) (plan : Plan) → length old ≤ n
    → ((k : ℕ) → Planning plan n states old k (get_or new k None)) → (k : ℕ) → get_or new k None ≡ planned (journal_at states k).flight plan (get_or old k None)
planned-all states old new n plan all each k =
    ⊎_elim
    (λ within. (each k).0 within)
    (λ past.
    let none : get_or old k None ≡ None = get_or_past old k None (omega arith) in
    (each k).1 past ∙ none ∙ sym (ap (planned (journal_at states k).flight plan) none))
    (cases_lt k n)

-- A plan looks only whether there is a payload in flight.
same_reload : (p q : List ℕ) (keeps : Bool) → reload_by (Some p) keeps ≡ reload_by (Some q) keeps
same_reload p q true = refl
same_reload p q false = refl

planned_some : (p q : List ℕ) (plan : Plan) (turns : Option Turns) → planned (Some p) plan turns ≡ planned (Some q) plan turns
planned_some p q plan None = refl
planned_some p q plan (Some turns) = cc (same_reload p q (nat_lt 0 plan.keep))

planned_entry : (flight : Option (List ℕ)) (plan : Plan) (turns : Option Turns)
    → planned flight plan turns ≡ planned (option_map entry_spelling (option_map entry_in flight)) plan turns
planned_entry None plan turns = refl
planned_entry (Some payload) plan turns = planned_some payload (entry_spelling (entry_in payload)) plan turns

-- what is told of the journals of which a plan is set
pub turns-planned : {X : Type 0} (state : X → Journalled) (faults : X → ℕ) (keeps : X → Bool) (turns : X → Option Turns) (news items : List X) (plan : Plan)
    → ((k : ℕ) → get_or (map turns news) k None ≡ planned (journal_at (map state items) k).flight plan (get_or (map turns items) k None))
    → (k : ℕ) → (medium_at (map (λ j. medium_of (state j) (faults j) (keeps j) (turns j)) news) k).turns
    ≡ turns_after (segment_at (map (λ j. segment_of (state j)) items) k) plan (medium_at (map (λ j. medium_of (state j) (faults j) (keeps j) (turns j)) items) k)
turns-planned {X = X} state faults keeps turns news items plan set k =
    told news ∙ set k ∙ planned_entry (journal_at (map state items) k).flight plan (get_or (map turns items) k None)
    ∙ ap (λ (t : Option Turns). planned (option_map entry_spelling (option_map entry_in (journal_at (map state items) k).flight)) plan t) (sym (told items))
    ∙ ap (λ (s : Segment). turns_after s plan (medium_at (map medium items) k)) segment
  where
    medium : X → Medium
    medium j = medium_of (state j) (faults j) (keeps j) (turns j)

    told : (xs : List X) → (medium_at (map medium xs) k).turns ≡ get_or (map turns xs) k None
    told xs = sym (get_or-map (λ (m : Medium). m.turns) (map medium xs) k no_medium)
        ∙ ap (λ (ts : List (Option Turns)). get_or ts k None) (map-twice medium (λ (m : Medium). m.turns) xs)

    segment : segment_of (journal_at (map state items) k) ≡ segment_at (map (λ j. segment_of (state j)) items) k
    segment = sym (get_or-map segment_of (map state items) k no_journal)
        ∙ ap (λ (ss : List Segment). get_or ss k no_segment) (map-twice state segment_of items)
