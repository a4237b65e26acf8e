-- What passes submit, each under its own number, agrees over the whole history.
use Rattle.std.proofs.Common.{◌≡◌, ◌⊎◌, ℕ, ◌+◌, List, [], ◌∷◌, ◌++◌, slice_get, take, Some, None, eq-eqb, refl, sym, ap, ◌∙◌, subst, inl, inr}
use Rattle.std.proofs.lemmas.Option.{none-some, same_Some}
use Rattle.history_frame.specs.declared.events.Happened.{Happened}
use Rattle.history_frame.specs.declared.inputs.Input.{Input}
use Rattle.log_base.proofs.Legal.{at_push}
use Rattle.node_model.specs.Legal.{IsOfRun, submitted}
use Rattle.record_frame.specs.declared.entries.Entry.{Entry as Record}
use Rattle.tied_cells.specs.Closing.{AreAll}
use Rattle.tied_cells.specs.History.{Entry, is_made_by, own_list, own_of}
use Rattle.tied_cells.specs.declared.account.Account.{Account}
use Rattle.tied_cells.specs.declared.board.Own.{Own}
use Rattle.tied_cells.proofs.Picked.{stands_picked}
use Rattle.cluster.specs.Clusters.{PassSeat}
use Rattle.cluster.specs.Events.{own_event}
use Rattle.cluster.specs.Submitting.{IsOfPass, MaySubmit, SubmitsAlone, SubmitsLike}

-- an input that submits nothing may be given to any node
pub submits_none : (run number node : ℕ) (own : List (Own Happened)) (input : Input) → submitted input ≡ None → MaySubmit run number node own input
submits_none run number node own input none = record {
  of_pass = λ entry e. absurd (none-some entry (sym none ∙ e));
  like = λ k event there one other e f. absurd (none-some one (sym none ∙ e));
}

pub alone_none : (run number : ℕ) → SubmitsAlone run number []
alone_none run number = record {
  of_pass = λ k event there. absurd (none-some event there);
  like = λ k j event other there. absurd (none-some event there);
}

-- two events of one pair the other way round
like_back : (node : ℕ) (input : Input) (event : Own Happened) → SubmitsLike node input event → (place : ℕ) (happened : Happened) → happened.input ≡ input
    → SubmitsLike event.node event.happened.input (own_event place node happened)
like_back node input event h place happened is one other e f clients numbers =
    let back = h other one (ap submitted (sym is) ∙ f) e (sym clients) (sym numbers) in (sym back.0, sym back.1)

-- what stands in a list with one event more: what stood there, or the last
abbrev Old : List (Own Happened) → Own Happened → ℕ → Own Happened → Type 0
Old own new k event = (slice_get own k ≡ Some event) × (take k (own ++ new ∷ []) ≡ take k own)

abbrev Last : List (Own Happened) → Own Happened → ℕ → Own Happened → Type 0
Last own new k event = (new ≡ event) × (take k (own ++ new ∷ []) ≡ own)

-- one event more
pub alone_more : (run number place node : ℕ) (own : List (Own Happened)) (happened : Happened) → SubmitsAlone run number own → MaySubmit run number node own happened.input
    → SubmitsAlone run number (own ++ own_event place node happened ∷ [])
alone_more run number place node own happened alone may = record {
  of_pass = λ k event there. at_one k event (at_push own new k event there);
  like = λ k j event other there also. at_two k j event other (at_push own new k event there) (at_push own new j other also);
}
  where
    new : Own Happened
    new = own_event place node happened

    at_one : (k : ℕ) (event : Own Happened) → Old own new k event ⊎ Last own new k event → IsOfPass run number event.happened.input
    at_one k event (inl old) = alone.of_pass k event old.0
    at_one k event (inr last) = subst (λ (x : Own Happened). IsOfPass run number x.happened.input) last.0 may.of_pass

    itself : SubmitsLike node happened.input new
    itself one other e f clients numbers = (refl, ap (λ (r : Record). r.bytes) (same_Some one other (sym e ∙ f)))

    at_two : (k j : ℕ) (event other : Own Happened) → Old own new k event ⊎ Last own new k event → Old own new j other ⊎ Last own new j other
        → SubmitsLike event.node event.happened.input other
    at_two k j event other (inl old) (inl also) = alone.like k j event other old.0 also.0
    at_two k j event other (inl old) (inr last) =
        subst (λ (x : Own Happened). SubmitsLike event.node event.happened.input x) last.0 (like_back node happened.input event (may.like k event old.0) place happened refl)
    at_two k j event other (inr last) (inl also) = subst (λ (x : Own Happened). SubmitsLike x.node x.happened.input other) last.0 (may.like j other also.0)
    at_two k j event other (inr last) (inr also) =
        subst (λ (x : Own Happened × Own Happened). SubmitsLike x.0.node x.0.happened.input x.1) (λ i. (last.0 i, also.0 i)) itself

-- what two entries of the history submit agrees
abbrev pub Agree : Entry Happened → Entry Happened → Type 0
Agree entry earlier = (one other : Record) → submitted entry.event.happened.input ≡ Some one → submitted earlier.event.happened.input ≡ Some other
    → one.client ≡ other.client → one.number ≡ other.number → (entry.event.node ≡ earlier.event.node) × (one.bytes ≡ other.bytes)

-- all of it
pub record AllAgree (run : ℕ) (log : List (Entry Happened)) : Type 0 where
  pub of_run : (k : ℕ) (entry : Entry Happened) → slice_get log k ≡ Some entry → IsOfRun run entry.event.happened.input
  pub agree : (k j : ℕ) (entry earlier : Entry Happened) → slice_get log k ≡ Some entry → slice_get log j ≡ Some earlier → Agree entry earlier

module _ {A : Type 0} (run : ℕ) (passes : List (PassSeat A × Account)) (log : List (Entry Happened)) (all : AreAll passes log)
    (alone : (k : ℕ) (pass : PassSeat A × Account) → slice_get passes k ≡ Some pass → SubmitsAlone run pass.1.number pass.0.me.0.own) where
  -- an entry of the history is an event of a pass
  record IsOwn (place : ℕ) (entry : Entry Happened) : Type 0 where
    number : ℕ
    alone_so : SubmitsAlone run number (own_list number log)
    at : ℕ
    there : slice_get (own_list number log) at ≡ Some (own_of (place + 0) entry)

  own_at : (place : ℕ) (entry : Entry Happened) → slice_get log place ≡ Some entry → IsOwn place entry
  own_at place entry there =
      let a = all.all place entry there in let e = all.each a.0 a.1 a.2 in
      let p = stands_picked (is_made_by a.1.1.number) 0 log place entry there (eq-eqb entry.maker a.1.1.number a.3) in
      record { number = a.1.1.number; alone_so = subst (SubmitsAlone run a.1.1.number) e.0 (alone a.0 a.1 a.2); at = p.at; there = p.there }

  pub all_agree : AllAgree run log
  all_agree = record {
    of_run = λ k entry there submission e. let o = own_at k entry there in (o.alone_so.of_pass o.at (own_of (k + 0) entry) o.there submission e).1;
    agree = λ k j entry earlier there before one other e f clients numbers.
        let o = own_at k entry there in let p = own_at j earlier before in
        let mine = (o.alone_so.of_pass o.at (own_of (k + 0) entry) o.there one e).0 in
        let other_is = (p.alone_so.of_pass p.at (own_of (j + 0) earlier) p.there other f).0 in
        let same : p.number ≡ o.number = sym other_is ∙ (sym (ap (λ c. c.0) clients) ∙ mine) in
        let here = subst (λ (n : ℕ). slice_get (own_list n log) p.at ≡ Some (own_of (j + 0) earlier)) same p.there in
        o.alone_so.like o.at p.at (own_of (k + 0) entry) (own_of (j + 0) earlier) o.there here one other e f clients numbers;
  }
