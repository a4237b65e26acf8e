use Rattle.std.proofs.Common.{◌≡◌, ◌≤◌, ℕ, List, refl, sym, ap, ◌∙◌, subst, arith}
use Rattle.std.specs.Prelude.{is_err}
use Rattle.message_frame.specs.declared.messages.Vote.{Vote}
use Rattle.paxos_model.specs.Votes.{promised, votes, reports}
use Rattle.paxos_acceptor.specs.Accepting.{Accepting}
use Rattle.paxos_acceptor.specs.Listed.{list_of}
use Rattle.paxos_acceptor.proofs.Noted.{promise-put, promised-told}
use Rattle.paxos_acceptor.proofs.acceptor.Acceptor.prepare.Goals as goal
use Rattle.paxos_acceptor.proofs.acceptor.Acceptor.prepare.Goals.{then-ballot-promised-2+in-Ok, else-ballot-promised-2}

pub report-requires-clause-ballot : goal.report-requires-clause-ballot
report-requires-clause-ballot g c =
    let seen = ap (λ (a : Accepting g.row.J.Denot). g.J.Journal.state a.journal) c.self.view_is in
    let least : promised (list_of (g.J.Journal.state c.args.self.now.journal)) ≤ c.args.ballot.0 =
    omega (arith, sym (ap (λ s. promised (list_of s)) seen), c.self.invariant.tables.promise, c.promised-promised.ensures, c.if-ballot-promised.false) in
    elim c.if-ballot-promised-2.branch [
      | then-ballot-promised-2+in-Ok w ↦ subst (λ (a : Accepting g.row.J.Denot). promised (list_of (g.J.Journal.state a.journal)) ≤ c.args.ballot.0) (sym w.self-is)
          (promise-put (g.J.Journal.state c.args.self.now.journal) (g.J.Journal.state w.put.new.self.journal) c.args.ballot.0 (is_err w.put.result) c.requires.ballot
          (ap (λ r. is_err r) w.in-Ok.is) least w.put.ensures.journal).1
      | else-ballot-promised-2 w ↦ subst (λ (a : Accepting g.row.J.Denot). promised (list_of (g.J.Journal.state a.journal)) ≤ c.args.ballot.0) (sym w.self-is) least
    ]

pub returns-clause-answer : goal.returns-clause-answer
returns-clause-answer g c =
    let old = g.J.Journal.state c.args.self.now.journal in
    let now : List Vote = votes (list_of old) in
    let seen = ap (λ (a : Accepting g.row.J.Denot). g.J.Journal.state a.journal) c.self.view_is in
    let least : promised (list_of old) ≤ c.args.ballot.0 =
    omega (arith, sym (ap (λ s. promised (list_of s)) seen), c.self.invariant.tables.promise, c.promised-promised.ensures, c.if-ballot-promised.false) in
    let same : votes (list_of (g.J.Journal.state c.if-ballot-promised-2.self.journal)) ≡ now =
    elim c.if-ballot-promised-2.branch [
      | then-ballot-promised-2+in-Ok w ↦ subst (λ (a : Accepting g.row.J.Denot). votes (list_of (g.J.Journal.state a.journal)) ≡ now) (sym w.self-is)
          (promise-put old (g.J.Journal.state w.put.new.self.journal) c.args.ballot.0 (is_err w.put.result) c.requires.ballot
          (ap (λ r. is_err r) w.in-Ok.is) least w.put.ensures.journal).0
      | else-ballot-promised-2 w ↦ subst (λ (a : Accepting g.row.J.Denot). votes (list_of (g.J.Journal.state a.journal)) ≡ now) (sym w.self-is) refl
    ] in
    promised-told (list_of old) c.args.ballot.0 c.args.from.0 c.args.self.now.reported c.report.new.self.reported least
    (c.report.ensures.reported ∙ ap (λ (vs : List Vote). reports c.args.ballot.0 c.args.from.0 64 vs) same)
