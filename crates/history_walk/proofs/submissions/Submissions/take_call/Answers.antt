use Rattle.std.proofs.Common.{◌≡◌, Bool, Bor, ℕ, ◌==◌, ◌&&◌, cond, Option, Some, None, true, false, ap, sym, refl, ◌∙◌}
use Rattle.std.proofs.lemmas.Result.{on_ok_weaker}
use Rattle.std.specs.Option.{option_copied}
use Rattle.std.specs.Prelude.{is_some}
use Rattle.node_model.specs.Legal.{submitted}
use Rattle.record_frame.specs.Entries.{entry_of}
use Rattle.history_walk.specs.declared.submissions.Submission.{Submission}
use Rattle.history_walk.specs.Submitting.{submission_in}
use Rattle.history_walk.proofs.Noting.{noted_again, noted_new, noted_nothing, not_a_submit, submits_is}
use Rattle.history_walk.proofs.submissions.Submissions.take_call.Goals as goal

-- what was lent is there exactly where it was found
is_there : {T : Type 0} (lent : Option (Bor T)) (found : Option T) (b : Bool) → b ≡ is_some lent → option_copied lent ≡ found → b ≡ is_some found
is_there None found b e f = e ∙ ap is_some f
is_there (Some x) found b e f = e ∙ ap is_some f

-- the pair was found, or was not
found_some : (found : Option Submission) → true ≡ is_some found → (s : Submission) × (found ≡ Some s)
found_some None e = absurd (let f : true ≡ false = e in cc)
found_some (Some s) e = (s, refl)

found_none : (found : Option Submission) → false ≡ is_some found → found ≡ None
found_none None e = refl
found_none (Some s) e = absurd (let f : false ≡ true = e in cc)

pub returns-then-is_some : goal.returns-then-is_some
returns-then-is_some c = λ before event noted node input agrees.
    let one = entry_of c.in-Submit.client c.in-Submit.number c.in-Submit.bytes in
    let submits = submits_is event c.args.call c.in-Submit.client c.in-Submit.number c.in-Submit.bytes input c.in-Submit.is in
    let found = found_some (submission_in c.args.self.now one.client.0 one.number.0) (is_there _ _ _ c.if-is_some.ensures c.get.ensures) in
    noted_again event one submits c.args.self.now before found.0 noted agrees found.1

pub returns-in-Submit : goal.returns-in-Submit
returns-in-Submit c = on_ok_weaker c.note.result (λ (is : (c' n : ℕ) → submission_in c.note.new.self c' n ≡ cond ((c.in-Submit.client.0 == c') && (c.in-Submit.number.0 == n)) (Some (record { node = c.args.node; bytes = c.in-Submit.bytes })) (submission_in c.args.self.now c' n)) before event noted node input agrees.
    let one = entry_of c.in-Submit.client c.in-Submit.number c.in-Submit.bytes in
    let submits = submits_is event c.args.call c.in-Submit.client c.in-Submit.number c.in-Submit.bytes input c.in-Submit.is in
    let none = found_none (submission_in c.args.self.now one.client.0 one.number.0) (is_there _ _ _ c.if-is_some.ensures c.get.ensures) in
    noted_new event one submits c.args.self.now c.note.new.self before noted none (λ q n. is q n ∙ ap (λ (s : Submission). cond ((c.in-Submit.client.0 == q) && (c.in-Submit.number.0 == n)) (Some s) (submission_in c.args.self.now q n)) (λ i. record { node = record { 0 = sym node i }; bytes = c.in-Submit.bytes }))) c.note.ensures

pub returns-in_default : goal.returns-in_default
returns-in_default c = λ before event noted node input agrees.
    noted_nothing c.args.self.now before event noted (ap submitted input ∙ not_a_submit c.args.call c.in_default.not-Submit)
