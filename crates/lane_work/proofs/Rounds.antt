-- Rounds of turns.
use Rattle.std.proofs.Common.{◌≡◌, ℕ, zero, suc, ◌+◌, ◌*◌, ◌%◌, ◌<◌, ◌≤◌, List, [], ◌∷◌, ◌++◌, length, length-append, slice_get, Some, Result, Ok, Err, refl, sym, ap, ◌∙◌, subst, append_assoc, arith}
use Rattle.std.specs.Result.{IsErr}
use Rattle.std.proofs.lemmas.List.{append-nil}
use Rattle.std.proofs.Math.Nat.{mul-le-mul_right}
use Rattle.std.proofs.lemmas.Nat.{mod-mul-add}
use Rattle.std.proofs.lemmas.Option.{none-some, same_Some, slice_get_within}
use Rattle.history_frame.specs.declared.events.Happened.{Happened}
use Rattle.log_base.specs.declared.outside.Memory.{Memory}
use Rattle.tied_cells.specs.declared.board.Own.{Own}
use Rattle.tied_cells.specs.declared.account.Account.{Account}
use Rattle.lane_work.specs.declared.turning.Went.TheVariants.{Made}
use Rattle.lane_work.specs.Keeping.{AreTurns, IsTurned, Makes}
use Rattle.lane_work.specs.Stages.{IsTurnAt}
use Rattle.lane_work.specs.Workers.{AreRounds, EndsAfter, WorkerTurns, rounds}

-- an element of two lists together stands in the first, or in the second behind it
pub data IsIn {X : Type 0} (xs ys : List X) (k : ℕ) (x : X) : Type 0 where
  in_first : slice_get xs k ≡ Some x → k < length xs → IsIn xs ys k x
  in_second : (j : ℕ) → slice_get ys j ≡ Some x → k ≡ length xs + j → IsIn xs ys k x

pub one_of : {X : Type 0} (xs ys : List X) (k : ℕ) (x : X) → slice_get (xs ++ ys) k ≡ Some x → IsIn xs ys k x
one_of [] ys k x there = in_second k there (omega arith)
one_of (y ∷ xs) ys zero x there = in_first there (omega arith)
one_of (y ∷ xs) ys (suc k) x there = elim (one_of xs ys k x there) [
  | in_first h low ↦ in_first h (omega arith)
  | in_second j h behind ↦ in_second j h (omega arith)
]

-- the turns of a round that are made so far, with one more
pub turns_more : (events : List (Own Happened)) (event : Own Happened) (node : ℕ) → AreTurns events → length events ≡ node → IsTurnAt node event → AreTurns (events ++ event ∷ [])
turns_more events event node turns size is k other there = elim (one_of events (event ∷ []) k other there) [
  | in_first h low ↦ turns k other h
  | in_second j h behind ↦ last j h behind
]
  where
    last : (j : ℕ) → slice_get (event ∷ []) j ≡ Some other → k ≡ length events + j → IsTurnAt k other
    last zero h behind = subst (λ (x : ℕ × Own Happened). IsTurnAt x.0 x.1) (λ i. (sym (behind ∙ here) i, same_Some event other h i)) is
      where
        here : length events + 0 ≡ node
        here = omega arith
    last (suc j) h behind = absurd (none-some other h)

-- rounds that were made, and a part of one more
pub rounds_more : (nodes made : ℕ) (events more : List (Own Happened)) → AreRounds nodes events → length events ≡ made * nodes → AreTurns more → length more ≤ nodes
    → AreRounds nodes (events ++ more)
rounds_more nodes made events more turns size round few k event there = elim (one_of events more k event there) [
  | in_first h low ↦ turns k event h
  | in_second j h behind ↦
      let low : j < nodes = let within = slice_get_within more j event h in omega arith in
      let same : k % nodes ≡ j = ap (λ (n : ℕ). n % nodes) (behind ∙ ap (λ (n : ℕ). n + j) size) ∙ mod-mul-add made nodes j low in
      subst (λ (n : ℕ). IsTurnAt n event) (sym same) (round j event h)
]

-- ---- a round

pub turned_none : (nodes : ℕ) (own : List (Own Happened)) → IsTurned nodes own own (λ (count : ℕ). count ≡ 0)
turned_none nodes own = record {
  events = [];
  after_are = sym (append-nil own);
  turns = λ k event there. absurd (none-some event there);
  few = omega arith;
  ends = refl;
}

pub turned_more : (nodes node : ℕ) (old new : Account) (before own after : List (Own Happened)) → node < nodes → IsTurned nodes before own (λ (count : ℕ). count ≡ node)
    → Makes (IsTurnAt node) old new own after (Ok Made) → IsTurned nodes before after (λ (count : ℕ). count ≡ node + 1)
turned_more nodes node old new before own after low so_far h =
    let event = h.1.0 in let longer = length-append so_far.events (event ∷ []) in let size : length so_far.events ≡ node = so_far.ends in record {
      events = so_far.events ++ event ∷ [];
      after_are = h.1.1 ∙ ((λ i. so_far.after_are i ++ event ∷ []) ∙ append_assoc before so_far.events (event ∷ []));
      turns = turns_more so_far.events event node so_far.turns so_far.ends h.1.2;
      few = omega arith;
      ends = omega arith;
    }

-- the round ends here
pub turned_so : (nodes : ℕ) (before own after : List (Own Happened)) (all other : ℕ → Type 0) → after ≡ own → ((count : ℕ) → all count → other count)
    → IsTurned nodes before own all → IsTurned nodes before after other
turned_so nodes before own after all other same so h = record {
  events = h.events;
  after_are = same ∙ h.after_are;
  turns = h.turns;
  few = h.few;
  ends = so (length h.events) h.ends;
}

-- ---- rounds

-- so many rounds were made
pub record RoundsMade (nodes : ℕ) (before after : List (Own Happened)) (made : ℕ) : Type 0 where
  pub events : List (Own Happened)
  pub after_are : after ≡ before ++ events
  pub turns : AreRounds nodes events
  pub size : length events ≡ made * nodes

pub rounds_none : (nodes : ℕ) (own : List (Own Happened)) → RoundsMade nodes own own 0
rounds_none nodes own = record {
  events = [];
  after_are = sym (append-nil own);
  turns = λ k event there. absurd (none-some event there);
  size = omega arith;
}

rounds_within : (nodes made : ℕ) → made < rounds → made * nodes + nodes ≤ rounds * nodes
rounds_within nodes made low =
    let next : made + 1 ≤ rounds = omega arith in omega (arith, mul-le-mul_right {m = made + 1} {n = rounds} nodes next)

module _ (nodes made : ℕ) (before own after : List (Own Happened)) (so_far : RoundsMade nodes before own made) where
  pub one_round : IsTurned nodes own after (λ (count : ℕ). count ≡ nodes) → RoundsMade nodes before after (made + 1)
  one_round round = let longer = length-append so_far.events round.events in let size = so_far.size in let whole = round.ends in record {
    events = so_far.events ++ round.events;
    after_are = round.after_are ∙ ((λ i. so_far.after_are i ++ round.events) ∙ append_assoc before so_far.events round.events);
    turns = rounds_more nodes made so_far.events round.events so_far.turns so_far.size round.turns round.few;
    size = longer ∙ ((λ i. size i + whole i) ∙ next_round);
  }
    where
      next_round : made * nodes + nodes ≡ (made + 1) * nodes
      next_round = omega arith

  -- the last round, whole or in part
  pub last_round : (account : Account) (answer : Result (Unit {0}) Memory) (all : ℕ → Type 0) → IsTurned nodes own after all → made < rounds
      → ((more : List (Own Happened)) → all (length more) → EndsAfter nodes account (so_far.events ++ more) answer) → WorkerTurns nodes account before after answer
  last_round account answer all round low ends =
      let longer = length-append so_far.events round.events in let size = so_far.size in let few = round.few in
      let within : made * nodes + nodes ≤ rounds * nodes = rounds_within nodes made low in record {
        events = so_far.events ++ round.events;
        after_are = round.after_are ∙ ((λ i. so_far.after_are i ++ round.events) ∙ append_assoc before so_far.events round.events);
        turns = rounds_more nodes made so_far.events round.events so_far.turns so_far.size round.turns round.few;
        few = omega arith;
        ends = ends round.events round.ends;
      }

-- all rounds were made
pub all_rounds : (nodes : ℕ) (account : Account) (before after : List (Own Happened)) → RoundsMade nodes before after rounds → WorkerTurns nodes account before after (Ok tt)
all_rounds nodes account before after made = let size = made.size in record {
  events = made.events;
  after_are = made.after_are;
  turns = made.turns;
  few = omega arith;
  ends = λ short. absurd (omega arith);
}

-- an end for want of memory
pub ends_err : (nodes : ℕ) (account : Account) (events : List (Own Happened)) (answer : Result (Unit {0}) Memory) → IsErr answer → EndsAfter nodes account events answer
ends_err nodes account events (Ok done) e = let no : ⊥ = cc in absurd no
ends_err nodes account events (Err memory) e = tt
