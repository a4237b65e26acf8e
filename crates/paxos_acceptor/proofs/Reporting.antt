-- The votes of a window, as they are put one after the other.
use Rattle.std.proofs.Common.{◌≡◌, ◌≤◌, ◌<◌, ◌+◌, ◌-◌, ℕ, zero, suc, List, [], ◌∷◌, ◌++◌, length, Option, Some, None, refl, sym, ap, subst, ◌∙◌, append_assoc, length-append, arith}
use Rattle.std.specs.Prelude.{option_to_list}
use Rattle.std.proofs.lemmas.List.{append-nil}
use Rattle.message_frame.specs.declared.messages.Vote.{Vote}
use Rattle.paxos_model.specs.Votes.{Payload, promised, votes, counts, greatest, put_first, reports}
use Rattle.paxos_acceptor.specs.Table.{Table, Tables}

-- how far the votes of a window are put
pub record Reporting (table : Table) (ballot first slot : ℕ) (out : List Vote) (capacity : ℕ) : Type 0 where
  pub few : length out + first ≤ slot
  pub room : 64 ≤ capacity
  pub put : (list : List Payload) → Tables table list → promised list ≤ ballot
      → out ++ reports ballot slot (first + 64 - slot) (votes list) ≡ reports ballot first 64 (votes list)

first-split : (o : Option Vote) (vs : List Vote) → put_first o vs ≡ option_to_list o ++ vs
first-split None vs = refl
first-split (Some v) vs = refl

length-option : (o : Option Vote) → length (option_to_list o) ≤ 1
length-option None = omega arith
length-option (Some v) = omega arith

reports-step : (ballot slot count more : ℕ) (vs : List Vote) → count ≡ suc more → reports ballot slot count vs ≡ put_first (greatest (counts ballot slot) vs) (reports ballot (suc slot) more vs)
unfolding reports
reports-step ballot slot count more vs is = ap (λ (n : ℕ). reports ballot slot n vs) is

reports-none : (ballot slot count : ℕ) (vs : List Vote) → count ≡ 0 → reports ballot slot count vs ≡ []
unfolding reports
reports-none ballot slot count vs is = ap (λ (n : ℕ). reports ballot slot n vs) is

pub reporting-begins : (table : Table) (ballot first : ℕ) (out : List Vote) (capacity : ℕ) → out ≡ [] → 64 ≤ capacity → Reporting table ballot first first out capacity
reporting-begins table ballot first out capacity empty room = record {
  few = omega (arith, ap length empty);
  room = room;
  put = λ list is most.
      let all : first + 64 - first ≡ 64 = omega arith in
      ap (λ (l : List Vote). l ++ reports ballot first (first + 64 - first) (votes list)) empty ∙ ap (λ (n : ℕ). reports ballot first n (votes list)) all;
}

pub reporting-more : (table : Table) (ballot first slot next : ℕ) (out new : List Vote) (capacity room : ℕ) (vote : Option Vote) → slot < first + 64 → next ≡ slot + 1
    → capacity ≤ room → new ≡ out ++ option_to_list vote
    → ((list : List Payload) → Tables table list → promised list ≤ ballot → vote ≡ greatest (counts ballot slot) (votes list))
    → Reporting table ballot first slot out capacity → Reporting table ballot first next new room
reporting-more table ballot first slot next out new capacity room vote within is_next grows is best far = record {
  few = omega (arith, ap length is, length-append out (option_to_list vote), length-option vote, far.few);
  room = omega (arith, far.room);
  put = λ list tables most.
      let vs = votes list in
      let left : first + 64 - slot ≡ suc (first + 64 - next) = omega arith in
      let after : suc slot ≡ next = omega arith in
      let rest = reports ballot next (first + 64 - next) vs in
      let step : reports ballot slot (first + 64 - slot) vs ≡ option_to_list vote ++ rest =
      reports-step ballot slot (first + 64 - slot) (first + 64 - next) vs left
      ∙ ap (λ (n : ℕ). put_first (greatest (counts ballot slot) vs) (reports ballot n (first + 64 - next) vs)) after
      ∙ ap (λ (o : Option Vote). put_first o rest) (sym (best list tables most)) ∙ first-split vote rest in
      ap (λ (l : List Vote). l ++ rest) is ∙ append_assoc out (option_to_list vote) rest ∙ ap (λ (l : List Vote). out ++ l) (sym step) ∙ far.put list tables most;
}

pub reporting-ends : (table : Table) (ballot first slot : ℕ) (out : List Vote) (capacity : ℕ) → first + 64 ≤ slot → Reporting table ballot first slot out capacity
    → (list : List Payload) → Tables table list → promised list ≤ ballot → out ≡ reports ballot first 64 (votes list)
reporting-ends table ballot first slot out capacity past far list tables most =
    let none : first + 64 - slot ≡ 0 = omega arith in
    sym (append-nil out) ∙ ap (λ (l : List Vote). out ++ l) (sym (reports-none ballot slot (first + 64 - slot) (votes list) none)) ∙ far.put list tables most
