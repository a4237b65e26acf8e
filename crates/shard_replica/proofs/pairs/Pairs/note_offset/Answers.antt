use Rattle.std.proofs.Common.{◌≡◌, ℕ, cond, Some, Option, refl, subst, ap, List}
use Rattle.std.specs.Prelude.{IsSome}
use Rattle.shard_replica.specs.declared.pairs.Pair.{Pair}
use Rattle.shard_replica.specs.Index.{Index, offset_in, is_key}
use Rattle.shard_replica.proofs.Noting.{on_ok, pair_of, Notes}
use Rattle.shard_replica.proofs.pairs.Pairs.note_offset.Goals as goal

pub returns-in-Some-clause-offset : goal.returns-in-Some-clause-offset
returns-in-Some-clause-offset c = λ q n.
    let map = c.get_mut.follows.lender c.args.offset in
    let written = c.get_mut.follows.holds c.args.offset in
    let notes : Notes c.self.inside.offsets.entries map.entries (pair_of c.args.client.0 c.args.number.0) c.args.offset =
    (written.3 (subst (λ (found : Option ℕ). IsSome found) c.in-Some.ensures.value refl)).0 in
    subst (λ (i : Index). offset_in (record { offsets = map.entries; lasts = c.self.inside.lasts.entries }) q n
    ≡ cond {A = Option ℕ} (is_key c.args.client.0 c.args.number.0 (pair_of q n)) (Some c.args.offset) (offset_in i q n)) c.self.view_is
    (notes (pair_of q n))

pub returns-clause-offset : goal.returns-clause-offset
returns-clause-offset c = λ q n.
    let none : Notes c.get_mut.follows.lender-at-none.entries c.insert.new.self.entries (pair_of c.args.client.0 c.args.number.0) c.args.offset =
    (on_ok c.insert.result _ _ c.unwrap.ensures c.insert.ensures.updates).0 in
    let notes : Notes c.self.inside.offsets.entries c.insert.new.self.entries (pair_of c.args.client.0 c.args.number.0) c.args.offset =
    subst (λ (es : List (Pair × ℕ)). Notes es c.insert.new.self.entries (pair_of c.args.client.0 c.args.number.0) c.args.offset)
    (ap (λ m. m.entries) c.get_mut.follows.holds-at-none) none in
    subst (λ (i : Index). offset_in (record { offsets = c.insert.new.self.entries; lasts = c.self.inside.lasts.entries }) q n
    ≡ cond {A = Option ℕ} (is_key c.args.client.0 c.args.number.0 (pair_of q n)) (Some c.args.offset) (offset_in i q n)) c.self.view_is
    (notes (pair_of q n))
