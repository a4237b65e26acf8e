use Rattle.std.proofs.Common.{◌≡◌, ℕ, ◌==◌, cond, Some, Option, refl, sym, ◌∙◌, subst, ap, List}
use Rattle.std.specs.Option.{option_copied_mut, option_map}
use Rattle.std.specs.Prelude.{IsSome}
use Rattle.log_base.specs.declared.numbers.Client.{Client}
use Rattle.log_base.specs.declared.numbers.Number.{Number}
use Rattle.log_model.specs.Pairs.{greater}
use Rattle.shard_replica.specs.Index.{Index, last_in, to_ℕ}
use Rattle.shard_replica.proofs.Noting.{on_ok, found, last-noted, NotesNumber}
use Rattle.shard_replica.proofs.pairs.Pairs.note_number.Goals as goal

pub returns-in-Some-clause-last : goal.returns-in-Some-clause-last
returns-in-Some-clause-last c = λ q.
    let client = c.args.client.0 in
    let greatest : Number = record { 0 = c.max.result } in
    let old = c.self.inside.lasts.entries in
    let new = (c.get_mut.follows.lender greatest).entries in
    let notes : NotesNumber old new client greatest =
    ((c.get_mut.follows.holds greatest).3 (subst (λ (number : Option Number). IsSome number) c.in-Some.ensures.value refl)).0 in
    let is : c.max.result ≡ greater c.args.number.0 (found old client) =
    c.max.ensures ∙ ap (λ (o : Option Number). greater c.args.number.0 (option_map to_ℕ o)) c.in-Some.ensures.value in
    subst (λ (i : Index). last_in (record { offsets = c.self.inside.offsets.entries; lasts = new }) q
    ≡ cond {A = Option ℕ} (client == q) (Some (greater c.args.number.0 (last_in i q))) (last_in i q)) c.self.view_is
    (last-noted old new client c.args.number.0 greatest notes is q)

pub returns-clause-last : goal.returns-clause-last
returns-clause-last c = λ q.
    let client = c.args.client.0 in
    let old = c.self.inside.lasts.entries in
    let new = c.insert.new.self.entries in
    let same : c.get_mut.follows.lender-at-none.entries ≡ old = ap (λ m. m.entries) c.get_mut.follows.holds-at-none in
    let noted : NotesNumber c.get_mut.follows.lender-at-none.entries new client c.args.number =
    (on_ok c.insert.result _ _ c.unwrap.ensures c.insert.ensures.updates).0 in
    let notes : NotesNumber old new client c.args.number =
    subst (λ (es : List (Client × Number)). NotesNumber es new client c.args.number) same noted in
    let is : c.args.number.0 ≡ greater c.args.number.0 (found old client) =
    ap (λ (o : Option Number). greater c.args.number.0 (option_map to_ℕ o)) (sym (ap option_copied_mut c.in_default.is) ∙ c.get_mut.ensures.value) in
    subst (λ (i : Index). last_in (record { offsets = c.self.inside.offsets.entries; lasts = new }) q
    ≡ cond {A = Option ℕ} (client == q) (Some (greater c.args.number.0 (last_in i q))) (last_in i q)) c.self.view_is
    (last-noted old new client c.args.number.0 c.args.number notes is q)
