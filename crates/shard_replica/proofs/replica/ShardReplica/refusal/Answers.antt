use Rattle.std.proofs.Common.{◌≡◌, ◌∙◌, ℕ, List, None, Some, sym, ap, subst, length}
use Rattle.std.specs.Option.{option_map}
use Rattle.record_frame.specs.declared.entries.Entry.{Entry}
use Rattle.record_frame.specs.Entries.{entry_of}
use Rattle.log_model.specs.Pairs.{last_of}
use Rattle.log_model.specs.Submitting.{Submission}
use Rattle.shard_replica.specs.Answers.{Refuses}
use Rattle.shard_replica.specs.Index.{to_ℕ}
use Rattle.shard_replica.specs.Lists.{segment_at}
use Rattle.shard_replica.specs.Replica.{Replicated, member_of, own_entries}
use Rattle.shard_replica.proofs.Submitting.{submit-first, submit-above}
use Rattle.shard_replica.proofs.replica.ShardReplica.refusal.Goals as goal

pub returns-in-Some-last-clause-rule : goal.returns-in-Some-last-clause-rule
returns-in-Some-last-clause-rule g c = λ bytes.
    let own : (segment_at c.self.inside.lists.lists.segments c.self.inside.lists.own).entries ≡ own_entries c.args.self.now.state =
    ap (λ (k : ℕ). (segment_at c.self.inside.lists.lists.segments k).entries) c.self.invariant.own_list ∙ ap (λ (r : Replicated). own_entries r.state) c.self.view_is in
    let s = c.args.self.now.state in
    let entry = entry_of c.args.client c.args.number bytes in
    let last : last_of (own_entries s) c.args.client.0 ≡ Some c.in-Some-last.last.0 =
    sym (ap (option_map to_ℕ) (sym c.in-Some-last.is) ∙ c.last.ensures ∙ ap (λ (es : List Entry). last_of es c.args.client.0) own) in
    subst (λ (m : Submission). Refuses c.refusal_of_new.result (length (own_entries s)) m entry)
    (sym (submit-above (member_of s) (own_entries s) s.known entry c.in-Some-last.last.0 (sym c.held.ensures ∙ c.in_default.is) last c.if-number-last.false))
    (c.refusal_of_new.ensures.rule c.args.client.0 c.args.number.0 bytes)

pub returns-in-None-clause-rule : goal.returns-in-None-clause-rule
returns-in-None-clause-rule g c = λ bytes.
    let own : (segment_at c.self.inside.lists.lists.segments c.self.inside.lists.own).entries ≡ own_entries c.args.self.now.state =
    ap (λ (k : ℕ). (segment_at c.self.inside.lists.lists.segments k).entries) c.self.invariant.own_list ∙ ap (λ (r : Replicated). own_entries r.state) c.self.view_is in
    let s = c.args.self.now.state in
    let entry = entry_of c.args.client c.args.number bytes in
    let last : last_of (own_entries s) c.args.client.0 ≡ None =
    sym (ap (option_map to_ℕ) (sym c.in-None.is) ∙ c.last.ensures ∙ ap (λ (es : List Entry). last_of es c.args.client.0) own) in
    subst (λ (m : Submission). Refuses c.refusal_of_new-in-None.result (length (own_entries s)) m entry)
    (sym (submit-first (member_of s) (own_entries s) s.known entry (sym c.held.ensures ∙ c.in_default.is) last))
    (c.refusal_of_new-in-None.ensures.rule c.args.client.0 c.args.number.0 bytes)
