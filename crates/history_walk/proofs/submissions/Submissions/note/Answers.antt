use Rattle.std.proofs.Common.{◌≡◌, ℕ, cond, Some, Option, subst, List}
use Rattle.history_walk.specs.declared.submissions.Pair.{Pair}
use Rattle.history_walk.specs.declared.submissions.Submission.{Submission}
use Rattle.history_walk.specs.Submitting.{is_pair, submission_in}
use Rattle.std.specs.Map.{lookup}
use Rattle.history_walk.proofs.submissions.Submissions.note.Goals as goal

abbrev pair_of : ℕ → ℕ → Pair
pair_of client number = record { client = record { 0 = client }; number = record { 0 = number } }

-- each pair is found where it was, but for the one that is noted
abbrev Notes : List (Pair × Submission) → List (Pair × Submission) → Pair → Submission → Type 0
Notes old new pair submission = (other : Pair) → lookup (is_pair other.client.0 other.number.0) new
    ≡ cond (is_pair pair.client.0 pair.number.0 other) (Some submission) (lookup (is_pair other.client.0 other.number.0) old)

pub returns : goal.returns
returns c = λ q n.
    let notes : Notes c.self.inside.noted.entries c.insert.new.self.entries (pair_of c.args.client.0 c.args.number.0) c.args.submission = c.in_ok-insert.ensures.updates.0 in
    subst (λ (old : List (Pair × Submission)). submission_in c.insert.new.self.entries q n
    ≡ cond {A = Option Submission} (is_pair c.args.client.0 c.args.number.0 (pair_of q n)) (Some c.args.submission) (submission_in old q n)) c.self.view_is
    (notes (pair_of q n))
