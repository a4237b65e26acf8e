use Rattle.std.proofs.Common.{◌≡◌, List, [], ◌∷◌, ap, sym, subst, ◌∙◌, rules}
use Rattle.std.proofs.lemmas.List.Sorted.{IsPermutation-append_comm}
use Rattle.log_base.specs.declared.machine.Committed.{Committed}
use Rattle.history_frame.specs.declared.events.Happened.{Happened}
use Rattle.history_frame.specs.Merging.{IsComplete, event_at}
use Rattle.history_frame.proofs.tests.merges.two_lists.Goals as goal

two_complete : (lists : List (List (Committed Happened))) (a b : List (Committed Happened)) (c d : Committed Happened) → lists ≡ a ∷ b ∷ [] → a ≡ c ∷ [] → b ≡ d ∷ []
    → c.place ≡ 1 → d.place ≡ 0 → IsComplete lists
two_complete lists a b c d is first second one none =
    let whole : lists ≡ (c ∷ []) ∷ (d ∷ []) ∷ [] = is ∙ ap (λ (l : List (Committed Happened)). l ∷ b ∷ []) first ∙ ap (λ (l : List (Committed Happened)). (c ∷ []) ∷ l ∷ []) second in
    subst IsComplete (sym whole) (record {
      events = event_at 1 d ∷ event_at 0 c ∷ [];
      merged = record { events_are = IsPermutation-append_comm (event_at 0 c ∷ []) (event_at 1 d ∷ []); places = (none, (one, tt)) };
    })

pub returns-clause-complete : goal.returns-clause-complete
returns-clause-complete c =
    let lists : c.of.result ≡ c.in_ok-first.first ∷ c.in_ok-second.second ∷ [] = search rules in
    let first = c.in_ok-first.ensures in
    let second = c.in_ok-second.ensures in
    two_complete c.of.result c.in_ok-first.first c.in_ok-second.second first.0 second.0 lists first.1 second.1 first.2 second.2
